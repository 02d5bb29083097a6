-- The commands of a batch.
use Rattle.std.specs.Prelude.{List}
use Rattle.mc_box.specs.declared.event.Turn.{Turn}
use Rattle.mc_script.specs.declared.command.Batch.{Batch}

abbrev pub batch_turns : Batch → List Turn
batch_turns batch = batch.turns.items
