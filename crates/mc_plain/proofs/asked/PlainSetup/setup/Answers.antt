use Rattle.std.proofs.Common.{refl}
use Rattle.mc_plain.proofs.asked.PlainSetup.setup.Goals as goal

pub returns : goal.returns
returns c = record { kind = c.kind_of.ensures; number = refl; version = refl; receives = c.list_of.ensures; sends = c.list_of-2.ensures; slots = c.in_ok-slots.ensures; program = c.in_ok-program.ensures.program; fits = c.in_ok-program.ensures.fits }
