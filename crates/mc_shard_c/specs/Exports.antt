-- What clauses of exports say of the shard that C holds.
use Rattle.std.specs.Prelude.{Option}
use Rattle.mc_shard_writer.specs.Writers.{WriterState}
use Rattle.mc_shard_c.specs.Handles.{held_writer}
use Rattle.mc_shard_c.specs.declared.handle.Handle.{Handle}

-- the shard of a handle and its entry that waits, where it has a shard
abbrev pub writer_in : Handle → Option WriterState
writer_in handle = held_writer handle.kept.held
