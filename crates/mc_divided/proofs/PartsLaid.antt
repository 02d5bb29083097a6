-- A part as it is laid out.
use Rattle.std.proofs.Common.{◌≡◌, ◌⊎◌, inl, inr, ◌<◌, ◌≤◌, ◌+◌, ◌-◌, ◌*◌, ◌^◌, All, drop, filter, IfOk, ℕ, zero, suc, List, [], ◌∷◌, ◌++◌, length, length-append, length-drop, get_or, get_or-set_other, set, Some, Result, Ok, Err, refl, ap, sym, ◌∙◌, subst, arith}
use Rattle.std.proofs.lemmas.List.{get_or-map, length-map, length-replicate}
use Rattle.std.proofs.lemmas.List.FromFn.{get_or-map-range_with_len, length-map-range_with_len}
use Rattle.std.proofs.lemmas.Option.{none-some, same_Some, slice_get_within}
use Rattle.std.specs.List.{slice_get}
use Rattle.std.specs.declared.alloc.AllocError.{AllocError}
use Rattle.std.specs.declared.alloc.Global.{Global}
use Rattle.std.specs.declared.vec.Vec.{Vec}
use Rattle.mc_box.specs.Boxes.{BoxState}
use Rattle.mc_part.specs.Divisions.{channels_in, is_crossing, is_inner, is_part, members, part_of, starts_in, touching}
use Rattle.mc_part.specs.DividedParts.{inner_lists}
use Rattle.mc_part.proofs.Leads.{touching_few}
use Rattle.mc_part.proofs.Placed.{channel_count}
use Rattle.mc_model.specs.Worlds.{AreChannels, ChannelState, WorldState, first_world}
use Rattle.mc_divided.specs.Laying.{AreFilled, AreLaid, AreNumbered, IsFresh, IsLaid, channel_numbers, first_slot, first_slots, ports_in}
use Rattle.mc_divided.proofs.FirstSlots.{first_few}
use Rattle.mc_part.specs.Ports.{sides}
use Rattle.mc_part.specs.declared.part_run.PartRun.{PartRun}
use Rattle.mc_part.specs.declared.port.Port.{Port}
use Rattle.mc_signal.specs.declared.Tagged.{Tagged}

-- a lane with nothing under way
abbrev no_signals : List Tagged
no_signals = []

-- there are as many ports as channels that cross
pub sides_count : (assigned : List ℕ) (channels : List ChannelState) (part : ℕ) (ports : List Port) → sides ports ≡ starts_in assigned channels part → length ports ≡ length (filter (is_crossing assigned part) channels)
sides_count assigned channels part ports are =
    sym (length-map ports (λ (p : Port). p.starts_here))
    ∙ (ap length are ∙ length-map (filter (is_crossing assigned part) channels) (λ (channel : ChannelState). is_part part (part_of assigned channel.from)))

-- and no more than channels
pub ports_below : (assigned : List ℕ) (channels : List ChannelState) (part : ℕ) (ports : List Port) → sides ports ≡ starts_in assigned channels part → length ports ≤ length (channels_in assigned channels part)
ports_below assigned channels part ports are =
    let count = sides_count assigned channels part ports are in
    let all : length (channels_in assigned channels part) ≡ length (touching assigned channels part) = channel_count assigned part (touching assigned channels part) (length (members assigned part)) in
    let both : length (touching assigned channels part) ≡ length (filter (is_crossing assigned part) channels) + length (filter (is_inner assigned part) channels) =
    length-append (filter (is_crossing assigned part) channels) (filter (is_inner assigned part) channels) in
    omega (arith, count, all, both)

pub ports_few : (assigned : List ℕ) (channels : List ChannelState) (part : ℕ) (ports : List Port) → AreChannels channels → sides ports ≡ starts_in assigned channels part → length ports ≤ 2 ^ 28
ports_few assigned channels part ports channels_are are =
    let below = ports_below assigned channels part ports are in
    let all : length (channels_in assigned channels part) ≡ length (touching assigned channels part) = channel_count assigned part (touching assigned channels part) (length (members assigned part)) in
    let less : length (touching assigned channels part) ≤ length channels = touching_few assigned channels part in
    let most = channels_are.few in
    omega (arith, below, all, less, most)

no_start : (k : ℕ) → 0 + k ≡ k
no_start k = omega arith

fits : (first k n : ℕ) → first ≤ 16 * k → k < n → n ≤ 2 ^ 28 → first < 2 ^ 32 - 1
fits first k n few below all = omega arith

-- first slots fit
pub firsts_fit : (channels : List ChannelState) → AreChannels channels → All (λ (first : ℕ). first < 2 ^ 32 - 1) (first_slots channels)
firsts_fit channels are = λ k d below.
    let low : k < length channels = subst (λ (n : ℕ). k < n) (length-map-range_with_len (first_slot channels) 0 (length channels)) below in
    subst (λ (n : ℕ). n < 2 ^ 32 - 1) (sym (get_or-map-range_with_len (first_slot channels) 0 (length channels) k k d low (no_start k)))
    (fits (first_slot channels k) k (length channels) (first_few channels k are.tunnels (omega (arith, low))) low are.few)

-- ---- one part

pub laid_part : (assigned : List ℕ) (channels : List ChannelState) (lanes : List (List Tagged)) (part : ℕ) (boxes : List BoxState) (ports : List Port) (r : Result PartRun AllocError)
    (engine filled : WorldState) (own : List ChannelState) (firsts : List ℕ) (n : ℕ) (numbered : List Port) → own ≡ channels_in assigned channels part
    → firsts ≡ first_slots (channels_in assigned channels part) → n ≡ length boxes → AreNumbered n firsts ports numbered → engine ≡ first_world boxes own
    → AreFilled assigned channels lanes part (channel_numbers assigned channels part) (length (channel_numbers assigned channels part)) filled.lanes
    → filled ≡ record engine { lanes = filled.lanes } → length filled.lanes ≡ length engine.lanes
    → IfOk r (λ run. run.part.engine ≡ filled) → IfOk r (λ run. run.part.ports.items ≡ numbered) → IfOk r IsFresh → IfOk r (IsLaid assigned channels lanes part boxes ports)
laid_part assigned channels lanes part boxes ports (Err e) engine filled own firsts n numbered own_is firsts_is n_is are engine_is fill kept count run_is ports_is fresh = tt
laid_part assigned channels lanes part boxes ports (Ok run) engine filled own firsts n numbered own_is firsts_is n_is are engine_is fill kept count run_is ports_is fresh = record {
  boxes_are = ap (λ (w : WorldState). w.boxes) (run_is ∙ kept) ∙ ap (λ (w : WorldState). w.boxes) engine_is;
  channels_are = ap (λ (w : WorldState). w.channels) (run_is ∙ kept) ∙ (ap (λ (w : WorldState). w.channels) engine_is ∙ own_is);
  lane_count = ap (λ (w : WorldState). length w.lanes) run_is
      ∙ (count ∙ (ap (λ (w : WorldState). length w.lanes) engine_is ∙ (length-replicate (2 * length own) no_signals ∙ ap (λ (l : List ChannelState). 2 * length l) own_is)));
  lanes_are = subst (λ (w : WorldState). AreFilled assigned channels lanes part (channel_numbers assigned channels part) (length (channel_numbers assigned channels part)) w.lanes) (sym run_is) fill;
  ports_are = subst (λ (l : List Port). AreNumbered (length boxes) (first_slots (channels_in assigned channels part)) ports l) (sym ports_is)
      (subst (λ (l : List ℕ). AreNumbered (length boxes) l ports numbered) firsts_is (subst (λ (k : ℕ). AreNumbered k firsts ports numbered) n_is are));
  fresh = fresh;
}

-- ---- one part more

-- what stands in a list with one more at its end
push_back : {A : Type 0} (xs : List A) (x y : A) (k : ℕ) → slice_get (xs ++ x ∷ []) k ≡ Some y → (slice_get xs k ≡ Some y) ⊎ ((k ≡ length xs) × (x ≡ y))
push_back [] x y zero is = inr (refl, same_Some x y is)
push_back [] x y (suc k) is = absurd (none-some y is)
push_back (z ∷ xs) x y zero is = inl is
push_back (z ∷ xs) x y (suc k) is = elim (push_back xs x y k is) [
  | inl there ↦ inl there
  | inr last ↦ inr (ap suc last.0, last.1)
]

one_more : {A : Type 0} (xs : List A) (x : A) → length (xs ++ x ∷ []) ≡ length xs + 1
one_more xs x = length-append xs (x ∷ [])

pub laid_more : (assigned : List ℕ) (channels : List ChannelState) (lanes : List (List Tagged)) (boxes : ℕ → List BoxState) (ports : List (List Port)) (runs after : List PartRun) (run : PartRun) (n : ℕ)
    (own : List BoxState) (own_ports : List Port) → AreLaid assigned channels lanes boxes ports (length runs) runs → IsLaid assigned channels lanes n own own_ports run → n ≡ length runs → own ≡ boxes n
    → own_ports ≡ ports_in ports n → after ≡ runs ++ run ∷ [] → AreLaid assigned channels lanes boxes ports (length after) after
laid_more assigned channels lanes boxes ports runs after run n own own_ports laid one n_is own_is ports_is added = record {
  count_is = refl;
  each = λ part r there. elim (push_back runs run r part (ap (λ (l : List PartRun). slice_get l part) (sym added) ∙ there)) [
    | inl before ↦ laid.each part r before
    | inr last ↦
        subst (λ (x : PartRun). IsLaid assigned channels lanes part (boxes part) (ports_in ports part) x) last.1
        (subst (λ (m : ℕ). IsLaid assigned channels lanes m (boxes m) (ports_in ports m) run) (n_is ∙ sym last.0)
        (subst (λ (l : List BoxState). IsLaid assigned channels lanes n l (ports_in ports n) run) own_is
        (subst (λ (l : List Port). IsLaid assigned channels lanes n own l run) ports_is one)))
  ];
}

pub none_laid : (assigned : List ℕ) (channels : List ChannelState) (lanes : List (List Tagged)) (boxes : ℕ → List BoxState) (ports : List (List Port)) (runs : List PartRun) → runs ≡ []
    → AreLaid assigned channels lanes boxes ports (length runs) runs
none_laid assigned channels lanes boxes ports runs none = record {
  count_is = refl;
  each = λ part run there. absurd (none-some run (ap (λ (l : List PartRun). slice_get l part) (sym none) ∙ there));
}

-- the list of a part that is read
pub list_read : {A : Type 0} (lists : List (Vec A Global)) (part : ℕ) (list : Vec A Global) → part < length lists → list ≡ get_or lists part list → list.items ≡ get_or (inner_lists lists) part []
list_read {A} lists part list inside read = sym (get_or-map (λ (v : Vec A Global). v.items) lists part list [] inside ∙ ap (λ (v : Vec A Global). v.items) (sym read))

-- its ports are taken, and the others stay
pub ports_after : (before after first : List (List Port)) (n : ℕ) → after ≡ set before n [] → ((part : ℕ) → n ≤ part → ports_in before part ≡ ports_in first part)
    → (part : ℕ) → n + 1 ≤ part → ports_in after part ≡ ports_in first part
ports_after before after first n taken so_far part past =
    ap (λ (l : List (List Port)). ports_in l part) taken
    ∙ (get_or-set_other before n part [] [] (λ same. absurd (omega arith)) ∙ so_far part (omega arith))

-- all were laid out
pub all_laid : {A : Type 0} (shares rest : List A) (runs : List PartRun) (count : ℕ) → rest ≡ drop (length runs) shares → length rest ≡ 0 → length runs ≤ length shares → length shares ≡ count → length runs ≡ count
all_laid shares rest runs count left none few each =
    let gone = ap length (sym left) ∙ none in
    omega (arith, length-drop (length runs) shares, gone, few, each)

-- which boxes a part has may be said in another way
pub laid_of : (assigned : List ℕ) (channels : List ChannelState) (lanes : List (List Tagged)) (boxes others : ℕ → List BoxState) (ports : List (List Port)) (count : ℕ) (runs : List PartRun)
    → ((part : ℕ) → part < count → boxes part ≡ others part) → AreLaid assigned channels lanes boxes ports count runs → AreLaid assigned channels lanes others ports count runs
laid_of assigned channels lanes boxes others ports count runs same laid = record {
  count_is = laid.count_is;
  each = λ part run there.
      subst (λ (l : List BoxState). IsLaid assigned channels lanes part l (ports_in ports part) run)
      (same part (subst (λ (n : ℕ). part < n) laid.count_is (slice_get_within runs part run there))) (laid.each part run there);
}
