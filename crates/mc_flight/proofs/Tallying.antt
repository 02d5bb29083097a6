-- Each step of a seat keeps the rule.
use Rattle.std.proofs.Common.{◌≡◌, ◌≢◌, ℕ, ◌+◌, ◌-◌, ◌*◌, ◌%◌, ◌^◌, ◌<◌, ◌≤◌, Bool, true, false, true≢false, if◌then◌else◌, List, [], ◌∷◌, ◌++◌, get_or, set, sym, refl, ap, ◌∙◌, subst, ⊎_elim, zero-le, arith}
use Rattle.std.proofs.lemmas.List.Sums.{sum_by_push}
use mathlib.Core.Option.{none, some, some-ne-none}
use lib.ListN.{get_elem?}
use Rattle.atomic_table.specs.Table.{Me, step, keeps, opening, Allows, Splits, Joins, Final, Seen}
use Rattle.atomic_table.proofs.Lists.{at_set, at_snoc}
use Rattle.mc_flight.specs.declared.account.Account.{Account}
use Rattle.mc_flight.specs.declared.limit.TheConstants.{SEAT_LIMIT, COUNT_LIMIT}
use Rattle.mc_flight.specs.Tallies.{account, spent_account, unspent, total, parts_of, sent_of, taken_of, IsFair, IsTallied, sent_more, took_more, SentMore, TookMore, ReadSent, kept_part, other_parts, both_accounts}
use Rattle.mc_flight.proofs.AccountSums.{sum_set, one_within, all_within, one_counts}

-- ---- fair accounts

abbrev AllFair : List Account → Type 0
AllFair accounts = (seat : ℕ) (a : Account) → get_elem? accounts seat ≡ some a → IsFair a

fair_set : (accounts : List Account) (seat : ℕ) (w : Account) → IsFair w → AllFair accounts → AllFair (set accounts seat w)
fair_set accounts seat w fair all other a e =
    ⊎_elim (λ (t : (other ≡ seat) × (w ≡ a)). subst (λ (x : Account). IsFair x) t.1 fair) (λ (t : (other ≢ seat) × (get_elem? accounts other ≡ some a)). all other a t.1)
    (at_set accounts seat other w a e)

fair_more : (accounts : List Account) (w : Account) → IsFair w → AllFair accounts → AllFair (accounts ++ w ∷ [])
fair_more accounts w fair all other a e =
    ⊎_elim (λ (t : get_elem? accounts other ≡ some a). all other a t) (λ (t : w ≡ a). subst (λ (x : Account). IsFair x) t fair) (at_snoc accounts w a other e)

fair_at_first : (number parts : ℕ) → 0 < parts → IsFair (account number parts 0 0)
fair_at_first number parts some_parts = record { some_part = λ _. some_parts; no_part = λ e. absurd (true≢false (sym e)); sent = zero-le; taken = zero-le }

-- an account that isn't spent counts in full
lives : (f : Account → ℕ) (a : Account) → a.spent ≡ false → unspent f a ≡ f a
lives f a live = ap (λ (b : Bool). if b then 0 else f a) live

-- what is within an account's parts is so, too, where a spent one counts nothing
within : (f : Account → ℕ) (a : Account) → f a ≤ a.parts * COUNT_LIMIT → unspent f a ≤ unspent parts_of a * COUNT_LIMIT
within f a low = go a.spent
  where
    go : (b : Bool) → (if b then 0 else f a) ≤ (if b then 0 else a.parts) * COUNT_LIMIT
    go true = zero-le
    go false = low

-- a count that no fair account has above 2^48 for each part
abbrev IsCount : (Account → ℕ) → Type 0
IsCount f = (a : Account) → IsFair a → f a ≤ a.parts * COUNT_LIMIT

sent_counts : IsCount sent_of
sent_counts a fair = fair.sent

taken_counts : IsCount taken_of
taken_counts a fair = fair.taken

-- no total passes 2^56
total_within : (f : Account → ℕ) (accounts : List Account) → IsCount f → AllFair accounts → total parts_of accounts ≡ SEAT_LIMIT → total f accounts ≤ SEAT_LIMIT * COUNT_LIMIT
total_within f accounts count fair whole =
    let low = all_within (unspent f) (unspent parts_of) accounts (λ seat a e. within f a (count a (fair seat a e))) in
    subst (λ (n : ℕ). total f accounts ≤ n * COUNT_LIMIT) whole low

-- who has all parts counted all
own_is_all : (f : Account → ℕ) (accounts : List Account) (seat : ℕ) (v : Account) → IsCount f → AllFair accounts → total parts_of accounts ≡ SEAT_LIMIT
    → get_elem? accounts seat ≡ some v → v.spent ≡ false → v.parts ≡ SEAT_LIMIT → total f accounts ≡ f v
own_is_all f accounts seat v count fair whole at live all =
    let same : total parts_of accounts ≡ unspent parts_of v = whole ∙ sym all ∙ sym (lives parts_of v live) in
    let none_of : (k : ℕ) (a : Account) → get_elem? accounts k ≡ some a → unspent parts_of a ≡ 0 → unspent f a ≡ 0 = λ k a e none. (let low = within f a (count a (fair k a e)) in omega arith) in
    one_counts (unspent f) (unspent parts_of) accounts seat v at none_of same ∙ lives f v live

-- a sum over accounts of which one changes
total_set : (f : Account → ℕ) (accounts : List Account) (seat n : ℕ) (v w : Account) → get_elem? accounts seat ≡ some v → v.spent ≡ false → w.spent ≡ false → f w ≡ f v + n
    → total f (set accounts seat w) ≡ total f accounts + n
total_set f accounts seat n v w at live live' more =
    let both = sum_set (unspent f) accounts seat v w at in
    let before = lives f v live in
    let after = lives f w live' in
    omega arith

-- the same, where it stays as it was in that sum
total_kept : (f : Account → ℕ) (accounts : List Account) (seat : ℕ) (v w : Account) → get_elem? accounts seat ≡ some v → unspent f w ≡ unspent f v → total f accounts ≡ total f (set accounts seat w)
total_kept f accounts seat v w at same = (let both = sum_set (unspent f) accounts seat v w at in omega arith)

no_wrap : (a b n : ℕ) → b ≡ a + n → b ≤ SEAT_LIMIT * COUNT_LIMIT → (a + n) % 2 ^ 64 ≡ b
no_wrap a b n e low = omega arith

-- ---- the steps

pub begins : IsTallied (opening (0 ∷ 0 ∷ []) [] (account 0 SEAT_LIMIT 0 0))
begins = record { words = refl; parts = refl; fair = fair_more [] (account 0 SEAT_LIMIT 0 0) (fair_at_first 0 SEAT_LIMIT (omega arith)) (λ seat a e. absurd (some-ne-none a (sym e))) }

pub sends : (slots seat n : ℕ) (me : Me (Unit {0}) Account) → me.0.spent ≡ false → me.0.sent + n ≤ COUNT_LIMIT
    → Allows IsTallied slots seat me 0 (λ k. (k + n) % 2 ^ 64) (SentMore (step slots 0 n 0 none) me)
sends slots seat n me live room s h homes at small =
    let v : Account = me.0 in
    let w : Account = sent_more n v in
    let now : List Account = set s.views seat w in
    let old = h.fair seat v at in
    let some_part = old.some_part live in
    let fair : AllFair now = fair_set s.views seat w (record { some_part = λ _. some_part; no_part = old.no_part; sent = (let r : v.sent + n ≤ COUNT_LIMIT = room in omega arith); taken = old.taken }) h.fair in
    let parts : total parts_of now ≡ SEAT_LIMIT = sym (total_kept parts_of s.views seat v w at refl) ∙ h.parts in
    let sent : total sent_of now ≡ total sent_of s.views + n = total_set sent_of s.views seat n v w at live live refl in
    let fits = no_wrap (total sent_of s.views) (total sent_of now) n sent (total_within sent_of now sent_counts fair parts) in
    let taken = total_kept taken_of s.views seat v w at refl in (
      w,
      keeps,
      tt,
      record { words = ap (λ (ws : List ℕ). set ws 0 ((get_or ws 0 0 + n) % 2 ^ 64)) h.words ∙ (λ i. fits i ∷ taken i ∷ []); parts = parts; fair = fair },
      refl,
    )

pub takes : (slots seat n : ℕ) (me : Me (Unit {0}) Account) → me.0.spent ≡ false → me.0.taken + n ≤ COUNT_LIMIT
    → Allows IsTallied slots seat me 1 (λ k. (k + n) % 2 ^ 64) (TookMore (step slots 1 n 0 none) me)
takes slots seat n me live room s h homes at small =
    let v : Account = me.0 in
    let w : Account = took_more n v in
    let now : List Account = set s.views seat w in
    let old = h.fair seat v at in
    let some_part = old.some_part live in
    let fair : AllFair now = fair_set s.views seat w (record { some_part = λ _. some_part; no_part = old.no_part; sent = old.sent; taken = (let r : v.taken + n ≤ COUNT_LIMIT = room in omega arith) }) h.fair in
    let parts : total parts_of now ≡ SEAT_LIMIT = sym (total_kept parts_of s.views seat v w at refl) ∙ h.parts in
    let taken : total taken_of now ≡ total taken_of s.views + n = total_set taken_of s.views seat n v w at live live refl in
    let fits = no_wrap (total taken_of s.views) (total taken_of now) n taken (total_within taken_of now taken_counts fair parts) in
    let sent = total_kept sent_of s.views seat v w at refl in (
      w,
      keeps,
      tt,
      record { words = ap (λ (ws : List ℕ). set ws 1 ((get_or ws 1 0 + n) % 2 ^ 64)) h.words ∙ (λ i. sent i ∷ fits i ∷ []); parts = parts; fair = fair },
      refl,
    )

-- a step that leaves words and accounts as they are
pub reads : (slots seat : ℕ) (me : Me (Unit {0}) Account) → me.0.spent ≡ false → Allows IsTallied slots seat me 0 (λ k. k) (ReadSent (step slots 0 0 0 none) me)
reads slots seat me live s h homes at small =
    let v : Account = me.0 in
    let kept : (f : Account → ℕ) → total f s.views ≡ total f (set s.views seat v) = λ f. total_kept f s.views seat v v at refl in
    let found : total sent_of s.views ≡ get_or s.words 0 0 = ap (λ (ws : List ℕ). get_or ws 0 0) (sym h.words) in
    let own : v.sent ≤ get_or s.words 0 0 = (let low = one_within (unspent sent_of) s.views seat v at in let mine : unspent sent_of v ≡ v.sent = lives sent_of v live in omega arith) in (
      v,
      keeps,
      tt,
      record {
        words = ap (λ (ws : List ℕ). set ws 0 (get_or ws 0 0)) h.words ∙ (λ i. kept sent_of i ∷ kept taken_of i ∷ []);
        parts = sym (kept parts_of) ∙ h.parts;
        fair = fair_set s.views seat v (h.fair seat v at) h.fair;
      },
      (refl, own, λ all. sym found ∙ own_is_all sent_of s.views seat v sent_counts h.fair h.parts at live all),
    )

-- ---- cutting and joining

-- a seat keeps one part, and the next one has the others
splits : (seat number parts : ℕ) → 1 < parts → Splits IsTallied seat (account number parts 0 0) (kept_part (account number parts 0 0)) (other_parts (account number parts 0 0))
splits seat number parts some_parts s h at =
    let v : Account = account number parts 0 0 in
    let l : Account = kept_part v in
    let r : Account = other_parts v in
    let kept : List Account = set s.views seat l in
    let change : (f : Account → ℕ) → f l + f r ≡ f v → total f s.views ≡ total f (kept ++ r ∷ []) = λ f same. (let one = sum_set (unspent f) s.views seat v l at in let more = sum_by_push (unspent f) kept r in omega arith) in
    record {
      words = h.words ∙ (λ i. change sent_of refl i ∷ change taken_of refl i ∷ []);
      parts = sym (change parts_of (omega arith)) ∙ h.parts;
      fair = fair_more kept r (fair_at_first (number + 1) (parts - 1) (omega arith)) (fair_set s.views seat l (fair_at_first number 1 (omega arith)) h.fair);
    }

pub splits_as : (seat : ℕ) (v : Account) (number parts : ℕ) → v ≡ account number parts 0 0 → 1 < parts → Splits IsTallied seat v (kept_part v) (other_parts v)
splits_as seat v number parts is some_parts = subst (λ (a : Account). Splits IsTallied seat a (kept_part a) (other_parts a)) (sym is) (splits seat number parts some_parts)

-- a seat takes in what another one had
pub joins : (seat : ℕ) (v : Account) (other : ℕ) (w : Account) → v.spent ≡ false → w.spent ≡ false → Joins IsTallied seat v other w (both_accounts v w) spent_account
joins seat v other w live live' s h at apart at' =
    let both : Account = both_accounts v w in
    let kept : List Account = set s.views seat both in
    let now : List Account = set kept other spent_account in
    let was : get_elem? s.views other ≡ some w = ⊎_elim (λ (t : (other ≡ seat) × (both ≡ w)). absurd (apart t.0)) (λ (t : (other ≢ seat) × (get_elem? s.views other ≡ some w)). t.1) (at_set s.views seat other both w at') in
    let change : (f : Account → ℕ) → f both ≡ f v + f w → total f s.views ≡ total f now = λ f adds. (
    let one = sum_set (unspent f) s.views seat v both at in
    let two = sum_set (unspent f) kept other w spent_account at' in
    let mine = lives f v live in
    let theirs = lives f w live' in
    omega arith) in
    let a = h.fair seat v at in
    let b = h.fair other w was in
    record {
      words = h.words ∙ (λ i. change sent_of refl i ∷ change taken_of refl i ∷ []);
      parts = sym (change parts_of refl) ∙ h.parts;
      fair = fair_set kept other spent_account (record { some_part = λ e. absurd (true≢false e); no_part = λ _. refl; sent = zero-le; taken = zero-le })
          (fair_set s.views seat both (record {
            some_part = λ _. (let p = a.some_part live in omega arith);
            no_part = λ e. absurd (true≢false (sym e));
            sent = (let x = a.sent in let y = b.sent in omega arith);
            taken = (let x = a.taken in let y = b.taken in omega arith);
          }) h.fair);
    }

-- who has all parts knows both words
pub ends : (seat : ℕ) (v : Account) (words : List ℕ) (slots : List (Unit {0})) → v.spent ≡ false → v.parts ≡ SEAT_LIMIT → Final (Seen IsTallied seat v) words slots → words ≡ v.sent ∷ v.taken ∷ []
ends seat v words slots live all final =
    let s = final.0 in
    let h : IsTallied s = final.1.0 in
    let own : (f : Account → ℕ) → IsCount f → total f s.views ≡ f v = λ f count. own_is_all f s.views seat v count h.fair h.parts final.1.1 live all in
    sym final.2 ∙ (h.words ∙ (λ i. own sent_of sent_counts i ∷ own taken_of taken_counts i ∷ []))
