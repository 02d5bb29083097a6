-- Texts whose batches come to rest by what stands in them.
use Rattle.std.specs.Prelude.{◌≤◌, ℕ, List, count_by}
use Rattle.std.specs.List.{All}
use Rattle.mc_box.specs.declared.event.Turn.{Turn}
use Rattle.mc_laws.specs.Chains.{ClosesNoChain}
use Rattle.mc_laws.specs.Words.{ShiftsByWords}
use Rattle.mc_model.specs.Settles.{is_tell_of}
use Rattle.mc_model.specs.Worlds.{WorldState}
use Rattle.mc_lines.specs.SoFar.{Declared}
use Rattle.mc_net.specs.Nets.{IsFirstWorld, batches_of}
use Rattle.mc_net.specs.Versions.{MeetsNoLast}

-- a batch tells each box one word at most
abbrev pub TellsOnce : List Turn → Type 0
TellsOnce batch = (who : ℕ) → count_by (is_tell_of who) batch ≤ 1

-- no Hear meets the last version, programs go by words, of which each batch tells a box one at most, and no chain of
-- links and tunnels can be closed
pub record ComesToRest (d : Declared) : Type 0 where
  pub versions : MeetsNoLast d
  pub by_words : (world : WorldState) → IsFirstWorld d world → ShiftsByWords world
  pub once : All TellsOnce (batches_of d.commands)
  pub chains : (world : WorldState) → IsFirstWorld d world → ClosesNoChain world (batches_of d.commands)
