-- What commands ask for: links, and Hears.
use Rattle.std.proofs.Common.{◌≡◌, ℕ, Bool, true, false, arith}
use Rattle.mc_box.specs.declared.event.Change.TheVariants.{Link as NewLink}
use Rattle.mc_box.specs.declared.event.Event.{Event}
use Rattle.mc_box.specs.declared.event.Event.TheVariants.{Set}
use Rattle.mc_model.specs.Settles.{hears_in}
use Rattle.mc_lines.specs.Meaning.{declared_at}
use Rattle.mc_lines.specs.SoFar.{Declared}
use Rattle.mc_net.specs.Nets.{batches_of}
use Rattle.mc_net.specs.Versions.{MeetsNoLast}

-- the event links two slots
abbrev pub sets_link : Event → Bool
sets_link (Set (NewLink first second)) = true
sets_link other = false

-- versions that begin at 1, and no Hears, meet no last version
pub no_last : (d : Declared) → ((who : ℕ) → (declared_at d.boxes who).version ≡ 1) → ((who local : ℕ) → hears_in who local (batches_of d.commands) ≡ 0) → MeetsNoLast d
no_last d ones none who local =
    let one = ones who in
    let no_hear = none who local in
    omega arith
