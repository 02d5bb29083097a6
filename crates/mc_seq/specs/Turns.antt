-- Turns that are made and written down.
use Rattle.std.specs.Prelude.{◌≡◌, ◌++◌, List, Some}
use Rattle.mc_box.specs.declared.event.Turn.{Turn}
use Rattle.mc_model.specs.Steps.{run}
use Rattle.mc_world.specs.declared.settled.Settled.{Settled}

-- these turns lead from one world to another, and are written down after what was written before
pub record MadeAll (old new : Settled) (turns : List Turn) : Type 0 where
  pub ran : run old.world turns ≡ Some new.world
  pub logged : new.turns.items ≡ old.turns.items ++ turns
