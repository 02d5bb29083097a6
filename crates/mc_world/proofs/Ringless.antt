-- Worlds without rings: a world as new is one, and a step that links no slots leaves one so.
use Rattle.std.proofs.Common.{◌≡◌, ◌==◌, ◌<◌, ◌+◌, if◌then◌else◌, ℕ, zero, suc, Bool, true, false, inl, inr, List, [], ◌∷◌, length, get_or, Option, Some, None, refl, ap, sym, ◌∙◌, subst}
use Rattle.std.specs.Option.{option_and_then}
use Rattle.std.proofs.lemmas.Bool.{cases_eq}
use Rattle.mc_signal.specs.declared.Signal.{Signal}
use Rattle.mc_signal.specs.declared.Tagged.{Tagged}
use Rattle.mc_slot.specs.declared.Goal.{Goal}
use Rattle.mc_slot.specs.declared.Goal.TheVariants.{Close as ToClose, Hold as ToHold}
use Rattle.mc_slot.specs.declared.SlotGoal.{SlotGoal}
use Rattle.mc_slot.specs.declared.SlotGoal.TheVariants.{End, Link}
use Rattle.mc_box.specs.BoxEvents.{BoxStep, box_event, is_shift}
use Rattle.mc_box.specs.Boxes.{BoxState, IsNewBox, goal_at, no_box}
use Rattle.mc_box.specs.Goals.{goals_from, without_link}
use Rattle.mc_box.specs.LinkFree.{is_linking}
use Rattle.mc_box.specs.declared.event.Change.TheVariants.{End as NewEnd, Link as NewLink}
use Rattle.mc_box.specs.declared.event.Event.{Event}
use Rattle.mc_box.specs.declared.event.Event.TheVariants.{Take, Set, Media, Tell, Retry, Shift}
use Rattle.mc_box.specs.declared.event.Turn.{Turn}
use Rattle.mc_model.specs.Paths.{next_slot, partner_of, slot_after}
use Rattle.mc_model.specs.Rings.{IsLeastOnRing}
use Rattle.mc_model.specs.Sound.{IsNumbered, IsSound}
use Rattle.mc_model.specs.Steps.{step}
use Rattle.mc_model.specs.Worlds.{ChannelState, WorldState, box_at, far, first_world, goal_of, place}
use Rattle.mc_box.proofs.NewBoxes.{new_goal}
use Rattle.mc_box.proofs.Options.{then_some}
use Rattle.mc_laws.proofs.NewWorlds.{first_is_sound}
use Rattle.mc_laws.proofs.Partners.{by_goal, linked_with}
use Rattle.mc_laws.proofs.Reaches.{with_boxes}
use Rattle.mc_laws.proofs.RingWalks.{ring_partner}
use Rattle.mc_laws.proofs.StepActs.{Turned, step_turns}
use Rattle.mc_laws.proofs.Walks.{after_more}
use Rattle.mc_settings.proofs.BoxSettings.{event_sets}
use Rattle.mc_settings.specs.Settings.{Settings, set_by, settings_of}

-- ---- goals

-- a slot that is still linked was so before
still_linked : (parted : Bool) (q partner : ℕ) → (if parted then End ToHold else Link q) ≡ Link partner → Link q ≡ Link partner
still_linked true q partner is = absurd (cc)
still_linked false q partner is = is

was_linked : (old : SlotGoal) (slot partner : ℕ) → without_link slot old ≡ Link partner → old ≡ Link partner
was_linked (End goal) slot partner is = absurd (cc)
was_linked (Link q) slot partner is = still_linked (q == slot) q partner is

-- also where an end is set
was_else : (here : Bool) (goal : Goal) (old : SlotGoal) (slot partner : ℕ) → (if here then End goal else without_link slot old) ≡ Link partner → old ≡ Link partner
was_else true goal old slot partner is = absurd (cc)
was_else false goal old slot partner is = was_linked old slot partner is

was_from : (goals : List SlotGoal) (slot first : ℕ) (goal : Goal) (local partner : ℕ) → get_or (goals_from (NewEnd slot goal) first goals) local (End ToClose) ≡ Link partner
    → get_or goals local (End ToClose) ≡ Link partner
was_from [] slot first goal local partner is = is
was_from (old ∷ goals) slot first goal zero partner is = was_else (first == slot) goal old slot partner is
was_from (old ∷ goals) slot first goal (suc local) partner is = was_from goals slot (first + 1) goal local partner is

was_set : (event : Event) (settings : Settings) (local partner : ℕ) → is_linking event ≡ false → get_or (set_by event settings).goals local (End ToClose) ≡ Link partner
    → get_or settings.goals local (End ToClose) ≡ Link partner
was_set (Set (NewEnd slot goal)) settings local partner none is = was_from settings.goals slot 0 goal local partner is
was_set (Set (NewLink first second)) settings local partner none is = absurd (cc)
was_set (Media change) settings local partner none is = is
was_set (Take slot) settings local partner none is = is
was_set (Tell word) settings local partner none is = is
was_set (Retry slot) settings local partner none is = is
was_set Shift settings local partner none is = absurd (cc)

unshifted : (event : Event) → is_linking event ≡ false → is_shift event ≡ false
unshifted (Take local) none = refl
unshifted (Set change) none = refl
unshifted (Media change) none = refl
unshifted (Tell word) none = refl
unshifted (Retry local) none = refl
unshifted Shift none = absurd (cc)

-- each link of a box was one before
abbrev LinksWere : BoxState → BoxState → Type 0
LinksWere new old = (local partner : ℕ) → goal_at new local ≡ Link partner → goal_at old local ≡ Link partner

box_links : (box : BoxState) (event : Event) (signal : Option Signal) (step : BoxStep) → is_linking event ≡ false → box_event box event signal ≡ Some step → LinksWere step.after box
box_links box event signal step none goes local partner is =
    was_set event (settings_of box) local partner none
    (subst (λ (s : Settings). get_or s.goals local (End ToClose) ≡ Link partner) (event_sets box event signal step (unshifted event none) goes) is)

-- the box that acted has no new link, and the others stay
links_after : (world next : WorldState) (who box : ℕ) (event : Event) → is_linking event ≡ false → Turned world next who event → LinksWere (box_at next box) (box_at world box)
links_after world next who box event none turned = elim (cases_eq box who) [
  | inl is ↦
      subst (λ (b : ℕ). LinksWere (box_at next b) (box_at world b)) (sym is)
      (subst (λ (b : BoxState). LinksWere b (box_at world who)) (sym turned.after) (box_links (box_at world who) event turned.signal turned.step none turned.goes))
  | inr away ↦ subst (λ (b : BoxState). LinksWere b (box_at world box)) (sym (turned.stepped.boxes box away)) (λ local partner is. is)
]

-- ---- rings

-- no link of a world is new
abbrev AllLinksWere : WorldState → WorldState → Type 0
AllLinksWere new old = (who : ℕ) → LinksWere (box_at new who) (box_at old who)

-- so partners were partners before
partner_was : (world : WorldState) (boxes : List BoxState) (lanes : List (List Tagged)) (s t : ℕ) → AllLinksWere (with_boxes world boxes lanes) world
    → partner_of (with_boxes world boxes lanes) s ≡ Some t → partner_of world s ≡ Some t
partner_was world boxes lanes s t were is =
    let link = linked_with (with_boxes world boxes lanes) s t (goal_of (with_boxes world boxes lanes) s) is in
    by_goal world s (Link link.0) (were (place world s).0 (place world s).1 link.0 link.1) ∙ link.2

-- each chain went the same way
after_was : (count : ℕ) (world : WorldState) (boxes : List BoxState) (lanes : List (List Tagged)) (s t : ℕ) → AllLinksWere (with_boxes world boxes lanes) world
    → slot_after (with_boxes world boxes lanes) count s ≡ Some t → slot_after world count s ≡ Some t
after_was zero world boxes lanes s t were is = is
after_was (suc count) world boxes lanes s t were is =
    let new : WorldState = with_boxes world boxes lanes in
    let last = then_some (next_slot new) (slot_after new count s) t (sym (after_more new count s) ∙ is) in
    after_more world count s
    ∙ (ap (λ (o : Option ℕ). option_and_then (next_slot world) o) (after_was count world boxes lanes s last.0 were last.1)
    ∙ partner_was world boxes lanes (far last.0) t were last.2)

-- and each ring was one
none_more : (world : WorldState) (boxes : List BoxState) (lanes : List (List Tagged)) → AllLinksWere (with_boxes world boxes lanes) world
    → IsLeastOnRing world None → IsLeastOnRing (with_boxes world boxes lanes) None
none_more world boxes lanes were none s inside ring = none s inside (record {
  count = ring.count;
  some = ring.some;
  back = after_was ring.count world boxes lanes s s were ring.back;
})

-- a step that links no slots makes no ring
pub step_makes_none : (world next : WorldState) (turn : Turn) → IsSound world → is_linking turn.event ≡ false → step world turn ≡ Some next → IsLeastOnRing world None → IsLeastOnRing next None
step_makes_none world next turn sound links goes none =
    let turned = step_turns world next turn sound goes in
    let is : next ≡ with_boxes world next.boxes next.lanes = ap (λ (c : List ChannelState). record next { channels = c }) turned.stepped.channels in
    subst (λ (w : WorldState). IsLeastOnRing w None) (sym is)
    (none_more world next.boxes next.lanes (λ who. links_after world next turn.who who turn.event links turned) none)

-- ---- a world as new

-- each goal is an end's
new_is_end : (box : BoxState) (local : ℕ) → IsNewBox box → goal_at box local ≡ End ToClose
new_is_end box local new = subst (λ (b : BoxState). goal_at b local ≡ End ToClose) (sym new.is) (new_goal new.setups local)

pub first_has_none : (boxes : List BoxState) (channels : List ChannelState) → ((who : ℕ) → who < length boxes → IsNewBox (get_or boxes who no_box)) → IsNumbered (first_world boxes channels)
    → IsLeastOnRing (first_world boxes channels) None
first_has_none boxes channels new numbered s inside ring =
    let world : WorldState = first_world boxes channels in
    let link = ring_partner world s (first_is_sound boxes channels new numbered) inside ring in
    let end = new_is_end (box_at world (place world s).0) (place world s).1 (new (place world s).0 (numbered.placed s inside)) in
    let clash : Some link.0 ≡ None = sym link.1 ∙ by_goal world s (End ToClose) end in
    cc
