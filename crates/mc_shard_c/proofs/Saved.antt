-- What was saved is loaded.
use Rattle.std.proofs.Common.{◌≡◌, ◌∙◌, ℕ, zero, suc, List, [], ◌∷◌, ◌++◌, length, take, drop, refl, ap, sym, subst, None, Option}
use Rattle.mc_shard.specs.Journals.{EntryState}
use Rattle.mc_shard.specs.Shards.{LaidShard}
use Rattle.mc_shard_writer.specs.Writers.{WriterState}
use Rattle.mc_snapshot.specs.Shards.{shard_wire}
use Rattle.mc_shard_c.specs.Saving.{AreNoSnapshot, HasSaved, IsLoaded, SavedIsLoaded, WhyNoSnapshot, WhyNotSaved}
use Rattle.mc_shard_c.specs.Saving.WhyNotSaved.{no_room as saved_room, memory as saved_memory}
use Rattle.mc_shard_c.specs.Saving.WhyNoSnapshot.{no_room, memory}

pub saved_why : (writer : WriterState) (room count code : ℕ) → writer.made ≡ None → WhyNotSaved writer.shard room count code
    → WhyNoSnapshot writer room count code
saved_why writer room count _ free (saved_room needs) = no_room free needs
saved_why writer room count _ free (saved_memory none) = memory none

front_is : (items rest : List ℕ) → take (length items) (items ++ rest) ≡ items
front_is [] rest = refl
front_is (item ∷ items) rest = ap (λ (l : List ℕ). item ∷ l) (front_is items rest)

form_is : (saved : WriterState) (before after : List ℕ) (count : ℕ) → HasSaved saved before after count → take count after ≡ shard_wire saved.shard []
form_is saved before after count has =
    let form = shard_wire saved.shard [] in
    ap (λ (n : ℕ). take n after) has.saved.written.1
    ∙ (ap (λ (l : List ℕ). take (length form) l) has.saved.written.0
    ∙ front_is form (drop (length form) before))

same_writer : (a b : WriterState) → a.shard ≡ b.shard → a.made ≡ b.made → a ≡ b
same_writer a b shard made =
    let fields : (a.shard, a.made) ≡ (b.shard, b.made) = cc in
    ap (λ (p : LaidShard × Option EntryState). record { shard = p.0; made = p.1 }) fields

pub saved_is_loaded : SavedIsLoaded
saved_is_loaded = record {
  is = λ saved loaded before after count has is.
      same_writer loaded saved (is.one saved.shard has.saved.fits (form_is saved before after count has)) (is.free ∙ sym has.free);
  reads = λ saved before after count has none.
      none saved.shard has.saved.fits has.saved.kept (form_is saved before after count has);
}
