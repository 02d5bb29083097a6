-- What is shown of the paths of a world has names, and is printed as the table says.
use Rattle.std.proofs.Common.{◌≡◌, ◌<◌, ◌++◌, ◌&&◌, ◌∷◌, [], ◌⊎◌, inl, inr, ℕ, Bool, true, false, if◌then◌else◌, Option, Some, None, List, All, codes, find, length, map, slice_index_or, refl, ap, sym, ◌∙◌, subst, arith}
use Rattle.std.specs.List.{AllByRecursion, flat_map}
use Rattle.std.proofs.lemmas.Grind.{common_steps}
use Rattle.std.proofs.lemmas.List.Elements.{All-map, recursion_from_All}
use Rattle.mc_signal.specs.Choice.{codecs_of, has_codec, choose, shared_codec}
use Rattle.mc_signal.specs.Empty.{no_codecs}
use Rattle.mc_signal.specs.declared.codec_list.CodecList.{CodecList}
use Rattle.mc_signal.specs.declared.Descriptor.{Descriptor}
use Rattle.mc_signal.specs.declared.Selector.{Selector}
use Rattle.mc_signal.specs.declared.Sender.{Sender}
use Rattle.mc_slot.specs.declared.State.{State}
use Rattle.mc_slot.specs.declared.State.TheVariants.{Closed, Opening, Opened, Flowing, Closing}
use Rattle.mc_box.specs.Boxes.{BoxState, media_at, own_of}
use Rattle.mc_model.specs.PathTable.{PathHolds, heard_codec, high_hears, low_hears, path_state}
use Rattle.mc_model.specs.Paths.{PathEnds, end_goal, path_from, paths}
use Rattle.mc_model.specs.Sound.{IsSound}
use Rattle.mc_model.specs.Worlds.{WorldState, box_at, tunnel_of, all_tunnels, own_descriptor, own_sender, place, places, slot_count, slot_of}
use Rattle.mc_box.specs.declared.event.Kind.{Kind}
use Rattle.mc_box.specs.declared.event.Kind.TheVariants.{Device, Feature}
use Rattle.mc_box.specs.declared.setup.SlotMedia.{SlotMedia}
use Rattle.mc_view.specs.declared.PathView.{PathView}
use Rattle.mc_path_laws.specs.PathLaws.{AreIn, HearEachOther, IsQuietPath}
use Rattle.mc_path.specs.Views.{end_view, shown_codec, is_flowing, path_flows, view_of}
use Rattle.mc_path_laws.proofs.Ends.{parts_of}
use Rattle.mc_path_laws.proofs.Quiet.{each_from}
use Rattle.mc_path_laws.proofs.Returns.{walk_back}
use Rattle.mc_text.specs.NameLists.{NameLists}
use Rattle.mc_script.specs.Meaning.{goal_word}
use Rattle.mc_settle_text.specs.Names.{HasNames}
use Rattle.mc_table.specs.Shown.{IsNamedEnd, IsNamedView, hearing_line, hearing_lines, print_settle, view_line, view_text}
use Rattle.mc_table.specs.Words.{IsNamedCodec, flow_word, line_of, medium_word}
use Rattle.mc_settle_text.specs.Paths.{hears_line, hears_lines, path_line, path_text, paths_text, settle_line, settle_text}
use Rattle.mc_settle_text.specs.Words.{place_word, state_word}

-- ---- text

-- a path as it is shown, where it flows and where it doesn't
abbrev pub view_by : WorldState → PathEnds → Bool → PathView
view_by world path flowing = record (view_of world path) {
  low = end_view world flowing path.low;
  high = end_view world flowing path.high;
  flowing = flowing;
}

-- the word for a path that flows, or doesn't
flow_is : (state : State) → flow_word (is_flowing state) ≡ state_word state
flow_is Closed = refl
flow_is Opening = refl
flow_is Opened = refl
flow_is Flowing = refl
flow_is Closing = refl

twice : (flowing : Bool) → flowing && flowing ≡ flowing
twice true = refl
twice false = refl

-- two slots that are in one state both flow where that is flowing
pub both_flow : (state low high : State) → low ≡ state → high ≡ state → is_flowing low && is_flowing high ≡ is_flowing state
both_flow state low high one two =
    ap (λ (s : State). is_flowing s && is_flowing high) one ∙ (ap (λ (s : State). is_flowing state && is_flowing s) two ∙ twice (is_flowing state))

-- an end that got the choice for its own descriptor hears what the table says
pub heard_is : (selector : Option Selector) (own : Descriptor) (far_sender : Sender) → selector ≡ Some (choose own far_sender) → shown_codec true selector ≡ heard_codec own far_sender
heard_is selector own far_sender chosen = ap (shown_codec true) chosen

hears_is : (names : NameLists) (world : WorldState) (s : ℕ) (codec : Option ℕ) → shown_codec true (slot_of world s).sel_in ≡ codec
    → hearing_line names (end_view world true s) ≡ hears_line names world s codec
hears_is names world s codec is = ap (λ (c : Option ℕ). hears_line names world s c) is

-- what is printed of the ends of a path by its state
lines_by : (state : State) (names : NameLists) (world : WorldState) (path : PathEnds)
    → (state ≡ Flowing → shown_codec true (slot_of world path.low).sel_in ≡ low_hears world path)
    → (state ≡ Flowing → shown_codec true (slot_of world path.high).sel_in ≡ high_hears world path)
    → hearing_lines (is_flowing state) names (view_by world path (is_flowing state)) ≡ hears_lines state names world path
lines_by Closed names world path low high = refl
lines_by Opening names world path low high = refl
lines_by Opened names world path low high = refl
lines_by Closing names world path low high = refl
lines_by Flowing names world path low high =
    ap (λ (line : List ℕ). line ++ hearing_line names (end_view world true path.high)) (hears_is names world path.low (low_hears world path) (low refl))
    ∙ ap (λ (line : List ℕ). hears_line names world path.low (low_hears world path) ++ line) (hears_is names world path.high (high_hears world path) (high refl))

-- and of the path itself
line_is : (names : NameLists) (world : WorldState) (path : PathEnds) → view_line names (view_by world path (is_flowing (path_state world path))) ≡ path_line names world path
line_is names world path =
    ap (λ (word : List ℕ). line_of (
    codes "path"
    ∷ place_word names world path.low
    ∷ place_word names world path.high
    ∷ goal_word (end_goal world path.low)
    ∷ goal_word (end_goal world path.high)
    ∷ word
    ∷ medium_word (tunnel_of world path.low).medium
    ∷ []))
    (flow_is (path_state world path))

-- a path that is as the table says is printed so
pub text_is : (names : NameLists) (world : WorldState) (path : PathEnds) → PathHolds world path → view_text names (view_of world path) ≡ path_text names world path
text_is names world path holds =
    let flows : path_flows world path ≡ is_flowing (path_state world path) = both_flow (path_state world path) (slot_of world path.low).state (slot_of world path.high).state holds.low holds.high in
    ap (λ (flowing : Bool). view_text names (view_by world path flowing)) flows
    ∙ (ap (λ (line : List ℕ). line ++ hearing_lines (is_flowing (path_state world path)) names (view_by world path (is_flowing (path_state world path)))) (line_is names world path)
    ∙ ap (λ (lines : List ℕ). path_line names world path ++ lines)
    (lines_by (path_state world path) names world path
    (λ flows. heard_is (slot_of world path.low).sel_in (own_descriptor world path.low) (own_sender world path.high) (holds.low_hears flows).chosen)
    (λ flows. heard_is (slot_of world path.high).sel_in (own_descriptor world path.high) (own_sender world path.low) (holds.high_hears flows).chosen)))

texts_are : (names : NameLists) (world : WorldState) (ends : List PathEnds) → AllByRecursion (PathHolds world) ends
    → flat_map (view_text names) (map (view_of world) ends) ≡ flat_map (path_text names world) ends
texts_are names world [] all = refl
texts_are names world (path ∷ ends) all =
    ap (λ (text : List ℕ). text ++ flat_map (view_text names) (map (view_of world) ends)) (text_is names world path all.0)
    ∙ ap (λ (text : List ℕ). path_text names world path ++ text) (texts_are names world ends all.1)

-- so is a settle with such paths
pub paths_are : (names : NameLists) (number : ℕ) (world : WorldState) (ends : List PathEnds) → All (PathHolds world) ends
    → print_settle names number (map (view_of world) ends) ≡ paths_text names number world ends
paths_are names number world ends all =
    ap (λ (text : List ℕ). settle_line number ++ text) (texts_are names world ends (recursion_from_All (PathHolds world) ends all))

-- and with all of them
pub settle_is : (names : NameLists) (number : ℕ) (world : WorldState) → All (PathHolds world) (paths world)
    → print_settle names number (map (view_of world) (paths world)) ≡ settle_text names number world
settle_is names number world all = paths_are names number world (paths world) all

-- ---- names

-- by whether it is the first
found_by : (here : Bool) (p : ℕ → Bool) (first : ℕ) (codecs : List ℕ) (n codec : ℕ) → first < n → p first ≡ here
    → (find p codecs ≡ Some codec → codec < n) → find p (first ∷ codecs) ≡ Some codec → codec < n
found_by true p first codecs n codec below here later found = let same : first ≡ codec = grind (arith, common_steps) in subst (λ (c : ℕ). c < n) same below
found_by false p first codecs n codec below here later found = later (grind (arith, common_steps))

-- what is found in a list is below what all of it is below
found_below : (p : ℕ → Bool) (codecs : List ℕ) (n codec : ℕ) → AllByRecursion (λ c. c < n) codecs → find p codecs ≡ Some codec → codec < n
found_below p [] n codec all found = absurd (cc)
found_below p (first ∷ codecs) n codec all found = found_by (p first) p first codecs n codec all.0 refl (found_below p codecs n codec all.1) found

-- a shared codec is an offered one
shared_named : (names : NameLists) (offered able : List ℕ) (shared : Option ℕ) → All (λ c. c < length names.codecs) offered → shared_codec offered able ≡ shared → IsNamedCodec names shared
shared_named names offered able None all is = tt
shared_named names offered able (Some codec) all is = found_below (has_codec able) offered (length names.codecs) codec (recursion_from_All (λ c. c < length names.codecs) offered all) is

-- a box offers what it receives, or nothing
offered_by : (on : Bool) (names : NameLists) (receives : CodecList) → All (λ c. c < length names.codecs) (codecs_of receives)
    → All (λ c. c < length names.codecs) (codecs_of (if on then receives else no_codecs))
offered_by true names receives all = all
offered_by false names receives all = λ k e within. absurd (omega arith)

pub offered : (kind : Kind) (names : NameLists) (box : BoxState) (media : SlotMedia) (local : ℕ) → All (λ c. c < length names.codecs) (codecs_of box.receives)
    → All (λ c. c < length names.codecs) (codecs_of (own_of kind box media local).codecs)
offered Device names box media local all = offered_by media.hears names box.receives all
offered Feature names box media local all = λ k e within. absurd (omega arith)

-- what an end hears has a name
heard_named : (names : NameLists) (world : WorldState) (s : ℕ) (far_sender : Sender) (selector : Option Selector) → HasNames names world
    → selector ≡ Some (choose (own_descriptor world s) far_sender) → IsNamedCodec names (shown_codec true selector)
heard_named names world s far_sender selector all chosen =
    subst (λ (o : Option Selector). IsNamedCodec names (shown_codec true o)) (sym chosen)
    (shared_named names (codecs_of (own_descriptor world s).codecs) (codecs_of far_sender.codecs) (heard_codec (own_descriptor world s) far_sender)
    (offered (box_at world (place world s).0).kind names (box_at world (place world s).0) (media_at (box_at world (place world s).0) (place world s).1) (place world s).1 (all.codecs (place world s).0)) refl)

-- an end has names, where what it hears has one
end_named : (names : NameLists) (world : WorldState) (flowing : Bool) (s : ℕ) → HasNames names world → IsSound world → s < slot_count world
    → IsNamedCodec names (shown_codec flowing (slot_of world s).sel_in) → IsNamedEnd names (end_view world flowing s)
end_named names world flowing s all sound inside heard_codec = record {
  box = (all.slots s inside).0;
  slot = (all.slots s inside).1;
  codec = heard_codec;
}

-- both ends of a quiet path have
ends_named : (names : NameLists) (world : WorldState) (path : PathEnds) → HasNames names world → IsSound world → path.low < slot_count world → path.high < slot_count world
    → AreIn world path Closed ⊎ (AreIn world path Flowing × HearEachOther world path) → IsNamedView names (view_of world path)
ends_named names world path all sound low high (inl closed) =
    let flows : path_flows world path ≡ false = both_flow Closed (slot_of world path.low).state (slot_of world path.high).state closed.low closed.high in
    subst (λ (flowing : Bool). IsNamedView names (view_by world path flowing)) (sym flows) (record {
      low = end_named names world false path.low all sound low tt;
      high = end_named names world false path.high all sound high tt;
    })
ends_named names world path all sound low high (inr flowing) =
    let flows : path_flows world path ≡ true = both_flow Flowing (slot_of world path.low).state (slot_of world path.high).state flowing.0.low flowing.0.high in
    subst (λ (flowing : Bool). IsNamedView names (view_by world path flowing)) (sym flows) (record {
      low = end_named names world true path.low all sound low (heard_named names world path.low (own_sender world path.high) (slot_of world path.low).sel_in all flowing.1.low.chosen);
      high = end_named names world true path.high all sound high (heard_named names world path.high (own_sender world path.low) (slot_of world path.high).sel_in all flowing.1.high.chosen);
    })

-- the ends of a path are slots
abbrev pub AreInside : WorldState → PathEnds → Type 0
AreInside world path = (path.low < slot_count world) × (path.high < slot_count world)

pub are_inside : (world : WorldState) → IsSound world → All (AreInside world) (paths world)
are_inside world sound =
    each_from (AreInside world) (path_from world) (places world) 0 (slot_count world) (omega arith)
    (λ s inside path is.
    let parts = parts_of world s path is in
    (subst (λ (n : ℕ). n < slot_count world) (sym parts.low_is) inside, (walk_back (length (all_tunnels world)) world s path.high sound inside parts.leads).inside))

-- so all that is shown has names
pub views_named : (names : NameLists) (world : WorldState) → HasNames names world → IsSound world → All (IsQuietPath world) (paths world)
    → All (IsNamedView names) (map (view_of world) (paths world))
views_named names world all sound quiet =
    All-map (IsNamedView names) (view_of world) (paths world)
    (λ k path within.
    let inside = are_inside world sound k path within in
    ends_named names world (slice_index_or (paths world) k path) all sound inside.0 inside.1 (quiet k path within).alike)
