-- A settled segment has the events of its batch, kind by kind.
use Rattle.std.proofs.Common.{◌≡◌, ◌==◌, ◌&&◌, ℕ, Bool, true, false, List, [], ◌∷◌, filter, refl, ap, sym, ◌∙◌, arith}
use Rattle.std.proofs.lemmas.Grind.{common_steps}
use Rattle.mc_box.specs.declared.event.Event.{Event}
use Rattle.mc_box.specs.declared.event.Event.TheVariants.{Take, Set, Media, Tell, Retry, Shift}
use Rattle.mc_box.specs.declared.event.Turn.{Turn}
use Rattle.mc_box.specs.BoxEvents.{is_command}
use Rattle.mc_model.specs.Settles.{SettledMakesItsBatch, commands_of, is_media, is_set, is_tell, of_kind}

-- one turn more, by both tests
more_filtered : (p q : Turn → Bool) (turn : Turn) (turns : List Turn) (first second : Bool) → p turn ≡ first → q turn ≡ second → (p turn ≡ true → q turn ≡ true)
    → filter p (filter q turns) ≡ filter p turns → filter p (filter q (turn ∷ turns)) ≡ filter p (turn ∷ turns)
more_filtered p q turn turns true true one two within more = grind (arith, common_steps)
more_filtered p q turn turns true false one two within more = absurd (grind (arith, within one))
more_filtered p q turn turns false true one two within more = grind (arith, common_steps)
more_filtered p q turn turns false false one two within more = grind (arith, common_steps)

-- what passes a test is there among what passes a weaker one
twice_filtered : (p q : Turn → Bool) → ((turn : Turn) → p turn ≡ true → q turn ≡ true) → (turns : List Turn) → filter p (filter q turns) ≡ filter p turns
twice_filtered p q within [] = refl
twice_filtered p q within (turn ∷ turns) = more_filtered p q turn turns (p turn) (q turn) refl refl (within turn) (twice_filtered p q within turns)

-- by the event
by_event : (kind command here : Bool) → kind && here ≡ true → (kind ≡ true → command ≡ true) → command && here ≡ true
by_event true true here is within = is
by_event true false here is within = absurd (grind (arith, within refl))
by_event false command here is within = absurd (cc)

-- two lists with the same commands of a box have the same of each kind of command
same_kind : (kind : Event → Bool) (who : ℕ) (batch turns : List Turn) → ((event : Event) → kind event ≡ true → is_command event ≡ true) → commands_of who turns ≡ commands_of who batch
    → of_kind kind who turns ≡ of_kind kind who batch
same_kind kind who batch turns within same =
    let both = λ (turn : Turn) (is : kind turn.event && turn.who == who ≡ true). by_event (kind turn.event) (is_command turn.event) (turn.who == who) is (within turn.event) in
    sym (twice_filtered (λ turn. kind turn.event && turn.who == who) (λ turn. is_command turn.event && turn.who == who) both turns)
    ∙ (ap (filter (λ (turn : Turn). kind turn.event && turn.who == who)) same
    ∙ twice_filtered (λ turn. kind turn.event && turn.who == who) (λ turn. is_command turn.event && turn.who == who) both batch)

set_commands : (event : Event) → is_set event ≡ true → is_command event ≡ true
set_commands (Set change) is = refl
set_commands (Take local) is = absurd (cc)
set_commands (Media change) is = absurd (cc)
set_commands (Tell word) is = absurd (cc)
set_commands (Retry local) is = absurd (cc)
set_commands Shift is = absurd (cc)

media_commands : (event : Event) → is_media event ≡ true → is_command event ≡ true
media_commands (Media change) is = refl
media_commands (Take local) is = absurd (cc)
media_commands (Set change) is = absurd (cc)
media_commands (Tell word) is = absurd (cc)
media_commands (Retry local) is = absurd (cc)
media_commands Shift is = absurd (cc)

tell_commands : (event : Event) → is_tell event ≡ true → is_command event ≡ true
tell_commands (Tell word) is = refl
tell_commands (Take local) is = absurd (cc)
tell_commands (Set change) is = absurd (cc)
tell_commands (Media change) is = absurd (cc)
tell_commands (Retry local) is = absurd (cc)
tell_commands Shift is = absurd (cc)

pub settled_makes_its_batch : SettledMakesItsBatch
settled_makes_its_batch world last batch turns settled who = (
  same_kind is_set who batch turns set_commands (settled.commands who),
  same_kind is_media who batch turns media_commands (settled.commands who),
  same_kind is_tell who batch turns tell_commands (settled.commands who),
)
