-- What a handle holds.
use Rattle.std.specs.Prelude.{Option, Some, None}
use Rattle.std.specs.Option.{option_map}
use Rattle.std.specs.declared.alloc.Global.{Global}
use Rattle.std.specs.declared.boxed.Box.{Box}
use Rattle.mc_shard_writer.specs.Writers.{WriterState}
use Rattle.mc_shard_c.specs.declared.held.HeldShard.{HeldShard}

-- a shard, and its entry that waits, where one does
abbrev pub writer_of : HeldShard → WriterState
writer_of held = record { shard = held.shard; made = held.made }

-- what is held, where something is
abbrev pub held_writer : Option HeldShard → Option WriterState
held_writer held = option_map writer_of held

-- the same of what is held on the heap
abbrev pub boxed_writer : Option (Box HeldShard Global) → Option WriterState
boxed_writer boxed = option_map (λ b. writer_of b.value) boxed

-- both are there, and so they are to each other
abbrev pub Between : Option WriterState → Option WriterState → (WriterState → WriterState → Type 0) → Type 0
Between (Some old) (Some new) P = P old new
Between old new P = ⊥

-- it is there, and so it is
abbrev pub Of : Option WriterState → (WriterState → Type 0) → Type 0
Of (Some old) P = P old
Of None P = ⊥
