-- A box has as many slots after an event as before it.
use Rattle.std.proofs.Common.{◌≡◌, ◌≢◌, ◌==◌, if◌then◌else◌, ℕ, Some, None, [], ◌∷◌, length, refl, arith}
use Rattle.std.proofs.lemmas.Grind.{common_steps}
use Rattle.mc_signal.specs.declared.Signal.{Signal}
use Rattle.mc_box.specs.BoxEvents.{BoxStep, box_event}
use Rattle.mc_box.specs.BoxSound.{IsSoundBox}
use Rattle.mc_box.specs.Boxes.{BoxState}
use Rattle.mc_box.specs.declared.event.Event.{Event}
use Rattle.mc_box.specs.declared.event.Event.TheVariants.{Take}
use Rattle.mc_box.proofs.EventActs.{event_acts, take_acts}

here_is : (signal : Signal) (a b : ℕ) → a ≡ b → (if a == b then signal ∷ [] else []) ≡ signal ∷ []
here_is signal a b same = grind (arith, common_steps)

away_is : (signal : Signal) (a b : ℕ) → a ≢ b → [] ≡ (if a == b then signal ∷ [] else [])
away_is signal a b apart = grind (arith, common_steps)

pub took_as_many : (box : BoxState) (local : ℕ) (signal : Signal) (step : BoxStep) → IsSoundBox box → box_event box (Take local) (Some signal) ≡ Some step → length step.after.slots ≡ length box.slots
took_as_many box local signal step sound goes =
    (take_acts box local signal step (λ (k : ℕ). if k == local then signal ∷ [] else []) (λ (k : ℕ). []) sound goes (here_is signal local local refl) (λ k below apart. away_is signal k local apart)).make.alike.slots

pub acted_as_many : (box : BoxState) (event : Event) (step : BoxStep) → IsSoundBox box → box_event box event None ≡ Some step → length step.after.slots ≡ length box.slots
acted_as_many box event step sound goes = (event_acts box event step (λ (k : ℕ). []) (λ (k : ℕ). []) sound goes (λ k below. refl)).make.alike.slots
