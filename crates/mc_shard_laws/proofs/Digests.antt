-- Digests go on over the entries of a journal.
use Rattle.std.proofs.Common.{◌≡◌, inl, inr, ℕ, ◌<◌, List, [], ◌∷◌, ◌++◌, length, refl, ap, sym, ◌∙◌, subst}
use Rattle.std.proofs.lemmas.Bool.{cases_eq}
use Rattle.mc_shard.specs.Journals.{AreNumbered, EntryState, items_at, sent_at, taken_at, taken_list}
use Rattle.mc_shard.specs.States.{AreNext, Follows, IsJournal, Places, ShardState, after_entry, raised, raised_all, reached_at, state_after}
use Rattle.mc_shard.specs.declared.entry.AtEnd.{AtEnd}
use Rattle.mc_shard.specs.declared.entry.Numbered.{Numbered}
use Rattle.mc_shard.specs.declared.reached.Reached.{Reached}
use Rattle.mc_shard_laws.specs.Digests.{AreChained, NextIsChained, SentIsChained}
use Rattle.mc_shard_laws.proofs.Lanes.{inside_all, inside_raised, items_away, items_here, raised_away, raised_here, sends_next, sent_numbered, taken_is_front, taken_numbered}

abbrev digest_at : List Reached → ℕ → ℕ
digest_at lanes end = (reached_at lanes end).digest

-- the digest of the last of these
abbrev last_digest : ℕ → List Numbered → ℕ
last_digest last [] = last
last_digest last (item ∷ items) = last_digest item.digest items

last_append : (last : ℕ) (xs ys : List Numbered) → last_digest last (xs ++ ys) ≡ last_digest (last_digest last xs) ys
last_append last [] ys = refl
last_append last (x ∷ xs) ys = last_append x.digest xs ys

chained_append : (last : ℕ) (xs ys : List Numbered) → AreChained last xs → AreChained (last_digest last xs) ys → AreChained last (xs ++ ys)
chained_append last [] ys are more = more
chained_append last (x ∷ xs) ys are more = (are.0, chained_append x.digest xs ys are.1 more)

-- the next after a front
chained_next : (last : ℕ) (xs rest : List Numbered) (item : Numbered) → AreChained last (xs ++ item ∷ rest) → Follows (last_digest last xs) item
chained_next last [] rest item are = are.0
chained_next last (x ∷ xs) rest item are = chained_next x.digest xs rest item are.1

-- ---- signals at ends

digest_all : (xs : List AtEnd) (lanes : List Reached) (end : ℕ) → end < length lanes → digest_at (raised_all lanes xs) end ≡ last_digest (digest_at lanes end) (items_at end xs)
digest_all [] lanes end inside = refl
digest_all (one ∷ xs) lanes end inside =
    let rest : digest_at (raised_all (raised lanes one) xs) end ≡ last_digest (digest_at (raised lanes one) end) (items_at end xs) = digest_all xs (raised lanes one) end (inside_raised lanes end one inside) in
    elim (cases_eq one.end end) [
      | inl same ↦
          rest ∙ (ap (λ (r : Reached). last_digest r.digest (items_at end xs)) (raised_here lanes end one same inside)
          ∙ ap (λ (l : List Numbered). last_digest (digest_at lanes end) l) (sym (items_here end one xs same)))
      | inr apart ↦
          rest ∙ (ap (λ (r : Reached). last_digest r.digest (items_at end xs)) (raised_away lanes end one apart)
          ∙ ap (λ (l : List Numbered). last_digest (digest_at lanes end) l) (sym (items_away end one xs apart)))
    ]

next_chained : (xs : List AtEnd) (lanes : List Reached) (end : ℕ) → end < length lanes → AreNext lanes xs → AreChained (digest_at lanes end) (items_at end xs)
next_chained [] lanes end inside next = tt
next_chained (one ∷ xs) lanes end inside next =
    let rest : AreChained (digest_at (raised lanes one) end) (items_at end xs) = next_chained xs (raised lanes one) end (inside_raised lanes end one inside) next.1 in
    elim (cases_eq one.end end) [
      | inl same ↦
          subst (λ (l : List Numbered). AreChained (digest_at lanes end) l) (sym (items_here end one xs same)) (
            subst (λ (e : ℕ). Follows (digest_at lanes e) one.item) same next.0.digest,
            subst (λ (r : Reached). AreChained r.digest (items_at end xs)) (raised_here lanes end one same inside) rest,
          )
      | inr apart ↦
          subst (λ (l : List Numbered). AreChained (digest_at lanes end) l) (sym (items_away end one xs apart))
          (subst (λ (r : Reached). AreChained r.digest (items_at end xs)) (raised_away lanes end one apart) rest)
    ]

-- ---- journals

sent_chained_by : (entries : List EntryState) (places : Places) (a : ShardState) (end : ℕ) → end < length a.sent → IsJournal places a entries → AreChained (digest_at a.sent end) (sent_at end entries)
sent_chained_by [] places a end inside journal = tt
sent_chained_by (entry ∷ entries) places a end inside journal =
    chained_append (digest_at a.sent end) (items_at end entry.sent) (sent_at end entries)
    (next_chained entry.sent a.sent end inside (sends_next places a entry journal.0))
    (subst (λ (d : ℕ). AreChained d (sent_at end entries)) (digest_all entry.sent a.sent end inside)
    (sent_chained_by entries places (after_entry a entry) end (inside_all a.sent entry.sent end inside) journal.1))

pub sent_is_chained : SentIsChained
sent_is_chained places first entries end inside journal = sent_chained_by entries places first end inside journal

-- how far the journal took a lane
taken_digest : (entries : List EntryState) (a : ShardState) (end : ℕ) → end < length a.taken
    → digest_at (state_after a entries).taken end ≡ last_digest (digest_at a.taken end) (taken_at end entries)
taken_digest [] a end inside = refl
taken_digest (entry ∷ entries) a end inside =
    taken_digest entries (after_entry a entry) end (inside_all a.taken (taken_list entry.taken) end inside)
    ∙ (ap (λ (d : ℕ). last_digest d (taken_at end entries)) (digest_all (taken_list entry.taken) a.taken end inside)
    ∙ sym (last_append (digest_at a.taken end) (items_at end (taken_list entry.taken)) (taken_at end entries)))

pub next_is_chained : NextIsChained
next_is_chained shards to into c owners item rest journals alike left hindered =
    let taken = taken_at into (shards to).journal in
    let sent = sent_at c.out (shards c.from).journal in
    let first = digest_at (shards to).first.taken into in
    let fronts : taken ++ item ∷ rest ≡ sent =
    ap (λ (l : List Numbered). taken ++ l) (sym left)
    ∙ taken_is_front 0 taken sent
    (subst (λ (n : ℕ). AreNumbered n taken) c.none_taken (taken_numbered (shards to).journal (shards to).places (shards to).first into c.into_there (journals to)))
    (subst (λ (n : ℕ). AreNumbered n sent) c.none_sent (sent_numbered (shards c.from).journal (shards c.from).places (shards c.from).first c.out c.out_there (journals c.from)))
    c.has_sending in
    let chained : AreChained first sent =
    subst (λ (d : ℕ). AreChained d sent) alike (sent_chained_by (shards c.from).journal (shards c.from).places (shards c.from).first c.out c.out_there (journals c.from)) in
    let next : Follows (last_digest first taken) item =
    chained_next first taken rest item (subst (λ (l : List Numbered). AreChained first l) (sym fronts) chained) in
    hindered.differs (subst (λ (d : ℕ). Follows d item) (sym (taken_digest (shards to).journal (shards to).first into c.into_there)) next)
