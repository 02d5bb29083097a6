-- What comes in front of a buffer.
use Rattle.std.proofs.Common.{◌≡◌, ℕ, zero, suc, ◌+◌, List, [], ◌∷◌, length, drop, slice_get, Some, arith}
use Rattle.mc_shard.specs.Journals.{EntryState}
use Rattle.mc_entry.specs.Wire.{entry_wire}
use Rattle.mc_shard_writer.specs.Writers.{WriterState}
use Rattle.mc_shard_c.specs.Turns.{WhyNotPut, WhyNotWritten}
use Rattle.mc_shard_c.specs.Turns.WhyNotPut.{no_room as put_room, memory as put_memory}
use Rattle.mc_shard_c.specs.Turns.WhyNotWritten.{no_room, memory}

pub put_why : (writer : WriterState) (entry : EntryState) (room code : ℕ) → writer.made ≡ Some entry
    → WhyNotPut (length (entry_wire entry [])) room code → WhyNotWritten writer room code
put_why writer entry room _ is (put_room less) = no_room (record { entry = entry; waits = is; more = less })
put_why writer entry room _ is put_memory = memory

got : {A : Type 0} (xs : List A) (i : ℕ) (x : A) → slice_get xs i ≡ Some x → drop i xs ≡ x ∷ drop (suc i) xs
got [] i x at = absurd (cc)
got (y ∷ xs) zero x at = cc
got (y ∷ xs) (suc i) x at = got xs i x at

-- what is got at a place is the first of what is left from there
pub drop_got : {A : Type 0} (xs : List A) (i : ℕ) (x : A) → slice_get xs i ≡ Some x → drop i xs ≡ x ∷ drop (i + 1) xs
drop_got xs i x at = let on : i + 1 ≡ suc i = omega arith in rw on (got xs i x at)
