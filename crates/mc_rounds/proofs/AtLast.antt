-- A box that stops at a last version.
use Rattle.std.proofs.Common.{◌≡◌, ◌++◌, ℕ, List, [], ◌∷◌, length, map, take, slice_get, MatchOption, Option, Some, None, refl, ap, sym, ◌∙◌, subst}
use Rattle.std.proofs.Math.Seq.{take-append_seam}
use Rattle.mc_box.specs.BoxEvents.{turn_of}
use Rattle.mc_box.specs.declared.event.Event.{Event}
use Rattle.mc_box.specs.declared.event.Event.TheVariants.{Media}
use Rattle.mc_box.specs.declared.event.MediaChange.TheVariants.{Hear}
use Rattle.mc_box.specs.declared.event.Turn.{Turn}
use Rattle.mc_model.specs.Settles.{commands_of}
use Rattle.mc_model.specs.Sound.{IsSound}
use Rattle.mc_model.specs.Worlds.{WorldState, number}
use Rattle.mc_divided.specs.States.{IsAtLast, NetworkState}
use Rattle.mc_seq.proofs.Hears.{hears_somewhere}
use Rattle.mc_seq.specs.declared.stopping.SettleStop.TheVariants as stops
use Rattle.mc_rounds.proofs.Retried.{limit_played, ran_on}
use Rattle.mc_rounds.specs.Playing.{Plays}
use Rattle.mc_rounds.specs.Settling.{EndsSettle, HasBatch}

-- the slot has a number
pub has_number : (state : NetworkState) (who local : ℕ) → IsSound state.world → IsAtLast state (who, local)
    → number state.world who local ≡ None → ⊥
has_number state who local sound last none =
    hears_somewhere state.world (turn_of who (Media (Hear local last.on))) local sound last.lacks.1 refl none

-- ---- the next command

-- what is next after others
next_after : (xs ys : List Turn) (turn : Turn) → slice_get ys 0 ≡ Some turn
    → slice_get (xs ++ ys) (length xs) ≡ Some turn
next_after [] ys turn is = is
next_after (x ∷ xs) ys turn is = next_after xs ys turn is

-- the first command is the first turn
mapped_first : (who : ℕ) (events : List Event) (event : Event) → slice_get events 0 ≡ Some event
    → slice_get (map (turn_of who) events) 0 ≡ Some (turn_of who event)
mapped_first who [] event is = absurd cc
mapped_first who (one ∷ events) event is =
    let same : one ≡ event = cc in ap (λ (e : Event). Some (turn_of who e)) same

-- the turns were stopped, and the Hear comes next
pub ends_at_last : (world : WorldState) (batch turns : List Turn) (start now : NetworkState) (at : ℕ × ℕ) (slot : ℕ)
    → HasBatch world batch start → Plays start now turns → IsAtLast now at
    → number now.world at.0 at.1 ≡ Some slot → EndsSettle world batch turns now.world (Some (stops.VersionEnd slot))
ends_at_last world batch turns start now at slot has p last there =
    let hear : Event = Media (Hear at.1 last.on) in
    let left : (who : ℕ) → commands_of who turns ++ map (turn_of who) (now.stimuli who) ≡ commands_of who batch =
    λ who. p.commands who ∙ has.commands who in (
      record {
        runs = ran_on world batch turns start now has p;
        commands = λ who.
            sym (take-append_seam (commands_of who turns) (map (turn_of who) (now.stimuli who)))
            ∙ ap (take (length (commands_of who turns))) (left who);
      },
      record {
        turn = turn_of at.0 hear;
        next =
            ap (λ (t : List Turn). slice_get t (length (commands_of at.0 turns))) (sym (left at.0))
            ∙ next_after (commands_of at.0 turns) (map (turn_of at.0) (now.stimuli at.0)) (turn_of at.0 hear)
            (mapped_first at.0 (now.stimuli at.0) hear last.next);
        version = last.lacks.1;
        slot = there;
      },
      limit_played world batch turns start now has p,
    )

-- where a box stopped it is that box
pub at_last : (P : Type 0) (Q : ℕ × ℕ → Type 0) (found : Option (ℕ × ℕ)) (at : ℕ × ℕ) → MatchOption found P Q
    → found ≡ Some at → Q at
at_last P Q found at m is = subst (λ (o : Option (ℕ × ℕ)). MatchOption o P Q) is m
