-- What a kept shard owns: its block, where there is one.
use Rattle.std.specs.Prelude.{Option, Some, None}
use base.Fml.{Fml, ftrue}
use denote.RawPtr.{Ptr}
use Rattle.std.specs.declared.alloc.Global.{Global}
use Rattle.std.specs.contracts.impls.GlobalAllocator.TheImpl.{ghosts}
use Rattle.std.specs.Box.Ownership.{box_owns}
use Rattle.mc_shard_c.specs.contracts.held.HeldShard.{the_row}
use Rattle.mc_shard_c.specs.declared.held.HeldShard.{HeldShard}

abbrev pub kept_owns : Global → Ptr → Option HeldShard → Fml
kept_owns alloc at None = ftrue
kept_owns alloc at (Some held) = box_owns (ghosts.dealloc_token alloc) the_row at held
