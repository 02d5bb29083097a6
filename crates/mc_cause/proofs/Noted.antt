-- What is noted of a turn, and what noting asks for.
use Rattle.std.proofs.Common.{◌≡◌, ◌<◌, ◌+◌, ◌++◌, ◌∙◌, ℕ, Bool, true, false, Option, None, List, [], ◌∷◌, zero, suc, length, get_or, refl, ap, sym, subst}
use Rattle.std.specs.List.{last_or}
use Rattle.mc_slot.specs.Outlook.{waits}
use Rattle.mc_slot.specs.declared.State.{State}
use Rattle.mc_slot.specs.declared.State.TheVariants.{Closed, Opening, Opened, Flowing, Closing}
use Rattle.mc_slot.specs.declared.Goal.TheVariants.{Open as ToOpen, Close as ToClose, Hold as ToHold}
use Rattle.mc_box.specs.declared.event.Change.{Change}
use Rattle.mc_box.specs.declared.event.Change.TheVariants.{End as NewEnd, Link as NewLink}
use Rattle.mc_box.specs.declared.event.Event.{Event}
use Rattle.mc_box.specs.declared.event.Event.TheVariants.{Take, Set, Media, Tell, Retry, Shift}
use Rattle.mc_box.specs.declared.event.Turn.{Turn}
use Rattle.mc_model.specs.Worlds.{WorldState, slot_count, slot_of}
use Rattle.mc_cause.specs.Carried.{AreOfSlots, HasHappened, IsAfterTurn, TellsCauses, WhysState, carried_in}
use Rattle.mc_cause.specs.Causes.{known_after, known_from, none_known, taken}
use Rattle.mc_cause.specs.CauseLaws.{begins_by, gives_close, is_closing}
use Rattle.mc_cause.specs.Notes.{IsInside, Notes, NotesOther}
use Rattle.mc_cause.proofs.Known.{same_count}
use Rattle.mc_cause.proofs.Others.{others_keep_causes}
use Rattle.mc_cause.proofs.TakeNotes.{take_inside, tells_take}
use Rattle.mc_cause.proofs.Tells.{AreCarried, AreWhys, tells_after, tells_box, turn_here}

-- only whether a slot waits for a closeack tells what it carries
abbrev carried_by : ℕ → Option ℕ → Option ℕ
carried_by zero origin = None
carried_by (suc n) origin = origin

carried_waits : (state : State) (origin : Option ℕ) → carried_in state origin ≡ carried_by (waits state) origin
carried_waits Closed origin = refl
carried_waits Opening origin = refl
carried_waits Opened origin = refl
carried_waits Flowing origin = refl
carried_waits Closing origin = refl

carried_same : (old new : State) (before after : Option ℕ) → waits new ≡ waits old → after ≡ before → carried_in old before ≡ carried_in new after
carried_same old new before after waits_is is =
    carried_waits old before ∙ (ap (λ (n : ℕ). carried_by n before) (sym waits_is) ∙ (ap (carried_by (waits new)) (sym is) ∙ sym (carried_waits new after)))

-- an event that takes nothing closes of its own accord as its turn does
change_begins : (change : Change) (world : WorldState) (who : ℕ) → begins_by world who (Set change) ≡ gives_close change
change_begins (NewEnd local ToOpen) world who = refl
change_begins (NewEnd local ToClose) world who = refl
change_begins (NewEnd local ToHold) world who = refl
change_begins (NewLink first second) world who = refl

-- such a turn
tells_other : (closes : Bool) (first last next : WorldState) (turns : List Turn) (turn : Turn) (old new : WhysState) → TellsCauses first turns last old → HasHappened last next turn
    → new.turns ≡ old.turns + 1 → taken last turn ≡ None → begins_by last turn.who turn.event ≡ closes → NotesOther closes next turn.who (old.turns + 1) old.origins new.origins → new.whys ≡ old.whys
    → TellsCauses first (turns ++ turn ∷ []) next new
tells_other true first last next turns turn old new tells happened count nothing begins notes whys_same =
    tells_box first last next turns turn old new tells happened.goes count nothing notes whys_same
tells_other false first last next turns turn old new tells happened count nothing begins notes whys_same =
    tells_after first last next turns turn old new tells happened.goes count carried are
  where
    same : (s : ℕ) → s < slot_count next → s < slot_count last
    same s below = subst (λ (n : ℕ). s < n) (same_count last next turn happened.sound happened.goes) below

    carried : AreCarried next (known_after (known_from none_known first turns) last turn) new.origins
    carried s below =
        let kept = others_keep_causes last next turn (known_from none_known first turns) s happened.sound happened.goes (ap is_closing nothing) begins (same s below) in
        ap (λ (l : List (Option ℕ)). get_or l s None) notes
        ∙ (tells.origins s (same s below)
        ∙ carried_same (slot_of last s).state (slot_of next s).state (last_or None ((known_from none_known first turns).origins s)) (last_or None ((known_after (known_from none_known first turns) last turn).origins s)) kept.2 (ap (last_or None) kept.0))

    are : AreWhys next (known_after (known_from none_known first turns) last turn) new.whys
    are s below =
        let kept = others_keep_causes last next turn (known_from none_known first turns) s happened.sound happened.goes (ap is_closing nothing) begins (same s below) in
        ap (λ (l : List (Option ℕ)). get_or l s None) whys_same ∙ (tells.whys s (same s below) ∙ sym kept.1)

-- each turn
tells_event : (event : Event) (first last next : WorldState) (turns : List Turn) (who : ℕ) (old new : WhysState) → TellsCauses first turns last old → AreOfSlots last old → HasHappened last next (record { who = who; event = event })
    → new.turns ≡ old.turns + 1 → Notes next who event (old.turns + 1) old.origins new.origins old.whys new.whys → TellsCauses first (turns ++ record { who = who; event = event } ∷ []) next new
tells_event (Take local) first last next turns who old new tells slots happened count notes = tells_take first last next turns who local old new tells slots happened.goes count notes
tells_event (Set change) first last next turns who old new tells slots happened count notes =
    tells_other (gives_close change) first last next turns (record { who = who; event = Set change }) old new tells happened count refl (change_begins change last who) notes.0 notes.1
tells_event (Media change) first last next turns who old new tells slots happened count notes =
    tells_other false first last next turns (record { who = who; event = Media change }) old new tells happened count refl refl notes.0 notes.1
tells_event (Tell word) first last next turns who old new tells slots happened count notes =
    tells_other false first last next turns (record { who = who; event = Tell word }) old new tells happened count refl refl notes.0 notes.1
tells_event (Retry local) first last next turns who old new tells slots happened count notes =
    tells_other false first last next turns (record { who = who; event = Retry local }) old new tells happened count refl refl notes.0 notes.1
tells_event Shift first last next turns who old new tells slots happened count notes =
    tells_other true first last next turns (record { who = who; event = Shift }) old new tells happened count refl refl notes.0 notes.1

pub tells_noted : (first last next : WorldState) (turns : List Turn) (turn : Turn) (old new : WhysState) → TellsCauses first turns last old → AreOfSlots next old → HasHappened last next turn
    → new.turns ≡ old.turns + 1 → Notes next turn.who turn.event (old.turns + 1) old.origins new.origins old.whys new.whys → TellsCauses first (turns ++ turn ∷ []) next new
tells_noted first last next turns turn old new tells slots happened count notes =
    let same : slot_count next ≡ slot_count last = same_count last next turn happened.sound happened.goes in
    tells_event turn.event first last next turns turn.who old new tells (record { origins = slots.origins ∙ same; whys = slots.whys ∙ same }) happened count notes

-- ---- what noting asks for

event_inside : (event : Event) (last next : WorldState) (who : ℕ) → HasHappened last next (record { who = who; event = event }) → IsInside next who event
event_inside (Take local) last next who happened = take_inside last next who local happened.sound happened.goes
event_inside (Set change) last next who happened = tt
event_inside (Media change) last next who happened = tt
event_inside (Tell word) last next who happened = tt
event_inside (Retry local) last next who happened = tt
event_inside Shift last next who happened = tt

pub turn_inside : (next : WorldState) (turn : Turn) (whys : WhysState) → IsAfterTurn next turn whys → IsInside next turn.who turn.event
turn_inside next turn whys (before, happened, slots) = event_inside turn.event before next turn.who happened

pub after_here : (next : WorldState) (turn : Turn) (whys : WhysState) → IsAfterTurn next turn whys → turn.who < length next.boxes
after_here next turn whys (before, happened, slots) = turn_here before next turn happened.sound happened.goes

-- the tables have a place for each slot of the next world, too
pub after_slots : (next : WorldState) (turn : Turn) (whys : WhysState) → IsAfterTurn next turn whys → AreOfSlots next whys
after_slots next turn whys (before, happened, slots) =
    let same : slot_count next ≡ slot_count before = same_count before next turn happened.sound happened.goes in
    record { origins = slots.origins ∙ sym same; whys = slots.whys ∙ sym same }
