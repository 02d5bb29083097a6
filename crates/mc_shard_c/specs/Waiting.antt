-- What isn't told while an entry waits.
use Rattle.std.specs.Prelude.{ℕ}
use Rattle.mc_shard_writer.specs.Writers.{Waits, WriterState}
use Rattle.mc_shard_c.specs.declared.answer.TheConstants.{WAITS}

-- the code of a stamp that isn't told
pub data WhyNoStamp (writer : WriterState) : ℕ → Type 0 where
  waits : Waits writer → WhyNoStamp writer WAITS
