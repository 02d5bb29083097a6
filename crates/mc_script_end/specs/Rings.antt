-- Texts whose batches all come to rest, and whose scripts come to their end.
use Rattle.std.specs.Prelude.{◌⊎◌, ℕ, List}
use Rattle.mc_model.specs.Worlds.{WorldState}
use Rattle.mc_net.specs.Nets.{IsFirstWorld, IsUnprogrammed, batches_of}
use Rattle.mc_net.specs.Texts.{Says}
use Rattle.mc_net.specs.Versions.{MeetsNoLast}
use Rattle.mc_lines.specs.SoFar.{Declared}
use Rattle.mc_lines.specs.declared.tail.Tail.TheVariants.{Nothing}
use Rattle.mc_settings.specs.Batches.{LeavesNoRing}
use Rattle.mc_laws.specs.Chains.{ClosesNoChain}
use Rattle.mc_grown_rest.specs.Rests.{RestsByWords}

-- in the first world of a text no batch leaves a ring: whichever turns settle them, their goals make none
abbrev pub MakesNoRing : Declared → Type 0
MakesNoRing d = (world : WorldState) → IsFirstWorld d world → LeavesNoRing world (batches_of d.commands)

-- in the first world of a text each program goes by words, and no chain of links and tunnels can be closed
abbrev pub GoesByNames : Declared → Type 0
GoesByNames d =
    (world : WorldState) → IsFirstWorld d world
    → RestsByWords world (batches_of d.commands) × ClosesNoChain world (batches_of d.commands)

-- each batch of a text comes to rest: no program was declared, and no batch leaves a ring; or what stands in the text
-- shows it, whatever its programs do
abbrev pub AlwaysRests : Declared → Type 0
AlwaysRests d = (IsUnprogrammed d × MakesNoRing d) ⊎ GoesByNames d

-- a text declares a network, in whose script no Hear meets the last version and each batch comes to rest
abbrev pub CanRun : List ℕ → Type 0
CanRun text = (d : Declared) × Says Nothing text d × MeetsNoLast d × AlwaysRests d
