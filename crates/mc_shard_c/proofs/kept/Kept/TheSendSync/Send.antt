-- A kept shard may go to another thread: its block may, and what it has.
use Rattle.std.specs.Prelude.{Option, Some, None}
use mir.Raw.{raw}
use base.Fraction.{full_share}
use base.Shift.{Keyless}
use denote.Exit.{Exit, unchanged, leaves, hidden, under}
use denote.RattleType.{RattleType}
use denote.Memory.{lone}
use denote.RawPtr.{Ptr, block_ptr, null_ptr, lies_at}
use denote.Struct.Struct.{exits_of}
use denote.Struct.Owning.{shape, fields, to}
use denote.Param.Send.{IsSend, Quiet, AllSend, part_keyless, owning_send, struct_send, sendable}
use Rattle.std.proofs.Crossing as heap
use Rattle.std.proofs.alloc.Global.TheSendSync as handle
use Rattle.std.specs.declared.alloc.Global.{Global}
use Rattle.mc_shard_c.specs.Kept.{kept_owns}
use Rattle.mc_shard_c.specs.contracts.held.HeldShard as held
use Rattle.mc_shard_c.specs.contracts.kept.Kept.{the_row, the_type}
use Rattle.mc_shard_c.specs.declared.held.HeldShard.{HeldShard}
use Rattle.mc_shard_c.proofs.held.HeldShard.TheSendSync.{the_send as held_send}

quiet : {D X : Type 0} (to : D → X) (e : Exit X) → Quiet e → Quiet (hidden (under to e))
quiet to unchanged q = λ x w. tt
quiet to (leaves L l S s r₀) q = λ d. q (to d)

lies : (R : RattleType) → IsSend R → (p : Ptr) (x : R.Denot) → Keyless (lies_at R full_share p x)
lies R s (block_ptr b o) x = part_keyless R s full_share x b o
lies R s null_ptr x = tt

owned : (alloc : Global) (p : Ptr) (x : Option HeldShard) → Keyless (kept_owns alloc p x)
owned alloc p None = tt
owned alloc p (Some x) = (lies held.the_row held_send p x, heap.frees.frees alloc (raw (lone held.the_row.mir)) p)

pub send : IsSend the_row
send =
    let all : AllSend (fields the_type) = (search sendable, (handle.the_field_send, tt)) in
    owning_send the_type all (λ d. owned d.alloc d.at d.held)
    (λ k. quiet (to the_type) (exits_of k (fields the_type)) ((struct_send (shape the_type) all).leaving k))
