-- What one step answers.
use Rattle.std.specs.Prelude.{◌≡◌, Bool, true, false, Option, Some, None, IsFalse, IsSome, IsTrue, Result, Ok, Err}
use Rattle.mc_box.specs.declared.event.Turn.{Turn}
use Rattle.mc_model.specs.Steps.{ends_version, step}
use Rattle.mc_model.specs.Worlds.{WorldState}
use Rattle.mc_world.specs.declared.network.step.StepFault.{StepFault}
use Rattle.mc_world.specs.declared.network.step.StepFault.TheVariants.{NotEnabled, NoMemory, VersionEnd}

-- a turn has no step, for want of a next version alone
abbrev pub LacksVersion : WorldState → Turn → Type 0
LacksVersion world turn = (step world turn ≡ None) × IsTrue (ends_version world turn)

-- a turn has no step, whatever the version is
abbrev pub CannotHappen : WorldState → Turn → Type 0
CannotHappen world turn = (step world turn ≡ None) × IsFalse (ends_version world turn)

-- what a step answers, from the world after it, if it is enabled, and from whether a version ends
abbrev pub Answers : WorldState → WorldState → Option WorldState → Bool → Result (Unit {0}) StepFault → Type 0
Answers old new after ends (Ok done) = after ≡ Some new
Answers old new after ends (Err NotEnabled) = (after ≡ None) × (ends ≡ false) × (new ≡ old)
Answers old new after ends (Err (NoMemory e)) = IsSome after × (new ≡ old)
Answers old new after ends (Err VersionEnd) = (after ≡ None) × (ends ≡ true) × (new ≡ old)
