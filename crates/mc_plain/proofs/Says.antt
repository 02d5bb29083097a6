-- What follows from what the numbers say.
use Rattle.std.proofs.Common.{◌≡◌, false, Option, Some, None, List, length, refl}
use Rattle.std.specs.Option.{is_some}
use Rattle.std.specs.Prelude.{map}
use Rattle.mc_box.specs.Boxes.{first_box, set_up}
use Rattle.mc_box.specs.declared.setup.Setup.{Setup}
use Rattle.mc_plain.specs.Asked.{kind_of, setup_of, SaysSetup}
use Rattle.mc_plain.specs.Programs.{program_of}
use Rattle.mc_plain.specs.declared.asked.PlainSetup.{PlainSetup}
use Rattle.mc_plain.specs.declared.asked.PlainSlot.{PlainSlot}
use Rattle.mc_plain.specs.declared.program.PlainState.{PlainState}

pub is_none : {A : Type 0} (o : Option A) → is_some o ≡ false → o ≡ None
is_none None e = refl
is_none (Some a) e = absurd (cc)

-- the new box of a setup is what the numbers say
pub says_box : (plain : PlainSetup) (plains : List PlainSlot) (states : List PlainState) (setup : Setup) → SaysSetup plain plains states setup
    → set_up setup ≡ first_box (kind_of plain.kind) plain.number setup.codecs setup.sends plain.first_version (map setup_of plains) (program_of (length plains) states)
says_box plain plains states setup says = rw says.kind (rw says.number (rw says.version (rw says.slots (rw says.program refl))))
