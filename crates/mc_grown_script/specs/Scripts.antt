-- A script while it runs.
use Rattle.std.specs.Prelude.{ℕ, List, []}
use Rattle.mc_growth.specs.Growths.{GrownState}
use Rattle.mc_script.specs.declared.command.JournalLine.{JournalLine}

-- where its network stands, and what was kept and printed so far
pub record ScriptState : Type 0 where
  pub network : GrownState
  pub journal : List JournalLine
  pub output : List ℕ

-- nothing was run yet
abbrev pub first_state : GrownState → ScriptState
first_state network = record { network = network; journal = []; output = [] }
