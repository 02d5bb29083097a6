-- A journal with one entry more.
use Rattle.std.proofs.Common.{◌≡◌, ℕ, zero, suc, ◌+◌, ◌<◌, List, [], ◌∷◌, ◌++◌, length, take, refl, ap, ◌∙◌, sym, subst, arith}
use Rattle.std.proofs.Math.ListN.{get_or}
use Rattle.mc_shard.specs.Journals.{EntryState}
use Rattle.mc_shard.specs.Shards.{IsMade, LaidShard}
use Rattle.mc_shard.specs.States.{IsJournal, MayFollow, Places, ShardState, after_entry, state_after}

-- with an entry that may follow it's a journal again, and its state is the one after that entry
pub journal_grows : (places : Places) (first : ShardState) (entries : List EntryState) (entry : EntryState)
    → IsJournal places first entries → MayFollow places (state_after first entries) entry
    → IsJournal places first (entries ++ entry ∷ []) × (state_after first (entries ++ entry ∷ []) ≡ after_entry (state_after first entries) entry)
journal_grows places first [] entry journal follows = ((follows, tt), refl)
journal_grows places first (one ∷ entries) entry journal follows =
    let rest = journal_grows places (after_entry first one) entries entry journal.1 follows in
    ((journal.0, rest.0), rest.1)

next_taken : {X : Type 0} (xs : List X) (i : ℕ) (x : X) → i < length xs → x ≡ get_or xs i x → take (suc i) xs ≡ take i xs ++ x ∷ []
next_taken [] i x inside at = absurd (omega arith)
next_taken (y ∷ xs) zero x inside at = ap (λ z. z ∷ []) (sym at)
next_taken (y ∷ xs) (suc i) x inside at = ap (λ l. y ∷ l) (next_taken xs i x (omega arith) at)

-- the first so many, and the next
taken_more : {X : Type 0} (xs : List X) (i : ℕ) (x : X) → i < length xs → x ≡ get_or xs i x → take (i + 1) xs ≡ take i xs ++ x ∷ []
taken_more xs i x inside at =
    let next : i + 1 ≡ suc i = omega arith in
    ap (λ (n : ℕ). take n xs) next ∙ next_taken xs i x inside at

-- a shard that is as the first entries tell, and then makes the next, is as these tell
pub replayed_more : (old now next : LaidShard) (entries : List EntryState) (i : ℕ) (entry : EntryState)
    → IsJournal old.places old.state (take i entries) → now ≡ record old { state = state_after old.state (take i entries) }
    → IsMade now next entry → i < length entries → entry ≡ get_or entries i entry
    → IsJournal old.places old.state (take (i + 1) entries) × (next ≡ record old { state = state_after old.state (take (i + 1) entries) })
replayed_more old now next entries i entry journal now_is made inside at =
    let more : take (i + 1) entries ≡ take i entries ++ entry ∷ [] = taken_more entries i entry inside at in
    let follows : MayFollow old.places (state_after old.state (take i entries)) entry = subst (λ (s : LaidShard). MayFollow s.places s.state entry) now_is made.follows in
    let grown = journal_grows old.places old.state (take i entries) entry journal follows in
    let after : next ≡ record old { state = after_entry (state_after old.state (take i entries)) entry } =
    subst (λ (s : LaidShard). next ≡ record s { state = after_entry s.state entry }) now_is made.after in (
      subst (λ (l : List EntryState). IsJournal old.places old.state l) (sym more) grown.0,
      after ∙ (ap (λ (s : ShardState). record old { state = s }) (sym grown.1) ∙ ap (λ (l : List EntryState). record old { state = state_after old.state l }) (sym more)),
    )
