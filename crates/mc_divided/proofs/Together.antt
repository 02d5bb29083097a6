-- What a part is laid out of fits together.
use Rattle.std.proofs.Common.{◌≡◌, ◌<◌, ◌≤◌, ◌+◌, All, filter, ℕ, Some, List, [], length, get_or, take_all, position, ap, ap₂, sym, ◌∙◌, subst, arith}
use Rattle.std.proofs.lemmas.List.{length-map}
use Rattle.std.proofs.lemmas.List.FromFn.{get_or-map-range_with_len}
use Rattle.std.proofs.lemmas.Option.{same_Some}
use Rattle.mc_box.specs.Boxes.{BoxState}
use Rattle.mc_part.specs.DivisionLaws.{HaveNumbers, homes_in, slots_at}
use Rattle.mc_part.specs.Divisions.{boxes_in, channels_in, first_part, is_crossing, members, starts_in, tables_in}
use Rattle.mc_part.specs.DividedParts.{HasBoxes, count_of, share_of, shares_of}
use Rattle.mc_part.proofs.Filling.{count_few}
use Rattle.mc_part.proofs.Leads.{channels_have_boxes}
use Rattle.mc_part.proofs.Members.{first_parts_are_divided}
use Rattle.mc_part.proofs.PartNumbers.{divisions_have_numbers}
use Rattle.mc_part.proofs.Shares.{shares_are_boxes}
use Rattle.mc_model.specs.Worlds.{ChannelState, WorldState, box_at, first_world, is_place, places_among}
use Rattle.mc_divided.specs.Laying.{AreWhole, FitTogether}
use Rattle.mc_divided.specs.declared.limit.TheConstants.{NETWORK_LIMIT}
use Rattle.mc_divided.proofs.PartsLaid.{sides_count}
use Rattle.mc_part.specs.Ports.{sides}
use Rattle.mc_part.specs.declared.port.Port.{Port}
use Rattle.mc_signal.specs.declared.Tagged.{Tagged}
use Rattle.mc_world.specs.Pieces.{IsPiece}

no_start : (k : ℕ) → 0 + k ≡ k
no_start k = omega arith

-- the share of a part is its boxes
pub share_is : (world : WorldState) (assigned : List ℕ) (count part : ℕ) → length assigned ≡ length world.boxes → part < count → share_of world.boxes assigned part ≡ boxes_in world assigned part
share_is world assigned count part each below =
    sym (get_or-map-range_with_len (share_of world.boxes assigned) 0 count part part [] below (no_start part))
    ∙ (ap (λ (l : List (List BoxState)). get_or l part []) (shares_are_boxes world assigned count each).0
    ∙ get_or-map-range_with_len (boxes_in world assigned) 0 count part part [] below (no_start part))

-- no part has more boxes than there are
pub members_few : (assigned : List ℕ) (part : ℕ) → length (members assigned part) ≤ length assigned
members_few assigned part =
    subst (λ (l : List ℕ). count_of l part ≤ length assigned) (take_all (length assigned) assigned (omega arith)) (count_few assigned (length assigned) part (omega arith))

-- two slots at one place are one
once_by : (places : List (ℕ × ℕ)) (s t : ℕ) → position (is_place (get_or places s (0, 0))) places ≡ Some s → position (is_place (get_or places t (0, 0))) places ≡ Some t
    → get_or places s (0, 0) ≡ get_or places t (0, 0) → s ≡ t
once_by places s t one two same = same_Some s t (sym one ∙ (ap (λ (p : ℕ × ℕ). position (is_place p) places) same ∙ two))

pub part_is_divided : (boxes : List BoxState) (channels : List ChannelState) (lanes : List (List Tagged)) (assigned : List ℕ) (part ports : ℕ) → AreWhole boxes channels lanes → length assigned ≡ length boxes
    → ports ≡ length (filter (is_crossing assigned part) channels)
    → IsPiece (boxes_in (first_world boxes channels) assigned part) (channels_in assigned channels part) (length (boxes_in (first_world boxes channels) assigned part) + ports)
part_is_divided boxes channels lanes assigned part ports whole each ports_are =
    let world : WorldState = first_world boxes channels in
    let have : HaveNumbers world assigned (tables_in world assigned) (first_part world assigned) part =
    divisions_have_numbers world assigned (tables_in world assigned) (first_part world assigned) whole.numbered whole.channels_are whole.slots (first_parts_are_divided world assigned each) part in
    let homes : homes_in world assigned part ≡ length (boxes_in world assigned part) + ports =
    ap₂ (λ (a b : ℕ). a + b) (sym (length-map (members assigned part) (box_at world))) (sym ports_are) in
    let there : (n : ℕ) → n < homes_in world assigned part → n < length (boxes_in world assigned part) + ports = (λ (n : ℕ) (low : n < homes_in world assigned part). subst (λ (m : ℕ). n < m) homes low) in
    let back : (n : ℕ) → n < length (boxes_in world assigned part) + ports → n < homes_in world assigned part = (λ (n : ℕ) (low : n < length (boxes_in world assigned part) + ports). subst (λ (m : ℕ). n < m) (sym homes) low) in
    record {
      count = slots_at world assigned part;
      places = record {
        placed = λ s inside. there (get_or (places_among (channels_in assigned channels part)) s (0, 0)).0 (have.full.placed s inside);
        locals = have.full.slots;
        once = λ s t one two same. once_by (places_among (channels_in assigned channels part)) s t (have.full.once s one) (have.full.once t two) same;
        all = λ who local low slot. have.full.all who local (back who low) slot;
        few = λ who low. have.full.few who (back who low);
      };
      within = omega arith;
      slots = have.boxes;
    }

pub fit_together : (boxes : List BoxState) (channels : List ChannelState) (lanes : List (List Tagged)) (assigned : List ℕ) (count part : ℕ) (own : List BoxState) (ports : List Port)
    → AreWhole boxes channels lanes → length assigned ≡ length boxes → length boxes ≤ NETWORK_LIMIT → part < count → sides ports ≡ starts_in assigned channels part → own ≡ share_of boxes assigned part
    → FitTogether assigned channels part own ports
fit_together boxes channels lanes assigned count part own ports whole each few below sides_are own_is =
    let world : WorldState = first_world boxes channels in
    let own_boxes : own ≡ boxes_in world assigned part = own_is ∙ share_is world assigned count part each below in
    let long : length (boxes_in world assigned part) ≡ length (members assigned part) = length-map (members assigned part) (box_at world) in
    let less : length (members assigned part) ≤ length assigned = members_few assigned part in
    subst (λ (l : List BoxState). FitTogether assigned channels part l ports) (sym own_boxes) (record {
      own = long;
      few = omega (arith, long, less, each, few);
      divided = part_is_divided boxes channels lanes assigned part (length ports) whole each (sides_count assigned channels part ports sides_are);
      sides_are = sides_are;
    })

-- what a part has of what was shared out
pub share_at : {A : Type 0} (things : List A) (assigned deref : List ℕ) (count part : ℕ) (lists : List (List A)) → lists ≡ shares_of things deref count → deref ≡ assigned → part < count
    → get_or lists part [] ≡ share_of things assigned part
share_at things assigned deref count part lists are same below =
    ap (λ (l : List (List _)). get_or l part []) are
    ∙ (get_or-map-range_with_len (share_of things deref) 0 count part part [] below (no_start part) ∙ ap (λ (l : List ℕ). share_of things l part) same)

-- each channel joins two of the boxes
pub channels_join : (boxes : List BoxState) (channels : List ChannelState) (lanes : List (List Tagged)) (assigned : List ℕ) → AreWhole boxes channels lanes → length assigned ≡ length boxes
    → All (HasBoxes (length assigned)) channels
channels_join boxes channels lanes assigned whole each =
    subst (λ (n : ℕ). All (HasBoxes n) channels) (sym each) (channels_have_boxes (first_world boxes channels) whole.numbered whole.channels_are)
