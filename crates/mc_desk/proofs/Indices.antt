-- Requests that are counted from 0.
use Rattle.std.proofs.Common.{◌≡◌, ℕ, zero, suc, ◌+◌, List, [], ◌∷◌, ◌++◌, map, length, sym, refl, ap, ◌∙◌, subst, arith}
use Rattle.std.specs.List.{range_with_len}
use Rattle.std.proofs.lemmas.List.{map_push}
use Rattle.mc_desk.specs.declared.request.Request.{Request}
use Rattle.mc_desk.specs.declared.log.Log.{Log}
use Rattle.mc_desk.specs.Histories.{AreIndexed, with_accepted}

-- a range with one number more
pub range_more : (first count : ℕ) → range_with_len first (count + 1) ≡ range_with_len first count ++ (first + count) ∷ []
range_more first count = rw (add_one count) (go first count)
  where
    add_one : (n : ℕ) → n + 1 ≡ suc n
    add_one n = omega arith

    go : (first count : ℕ) → range_with_len first (suc count) ≡ range_with_len first count ++ (first + count) ∷ []
    go first zero = ap (λ (n : ℕ). n ∷ []) (omega arith)
    go first (suc count) = ap (λ (l : List ℕ). first ∷ l) (go (first + 1) count ∙ ap (λ (n : ℕ). range_with_len (first + 1) count ++ n ∷ []) (omega arith))

-- a list with one element more
pub length_more : {X : Type 0} (l : List X) (x : X) → length (l ++ x ∷ []) ≡ length l + 1
length_more [] x = refl
length_more (y ∷ ys) x = (let n = length_more ys x in omega arith)

-- the first number of a list, and those after it
abbrev pub head_or : ℕ → List ℕ → ℕ
head_or n [] = n
head_or n (x ∷ xs) = x

abbrev pub tail_of : List ℕ → List ℕ
tail_of [] = []
tail_of (x ∷ xs) = xs

abbrev index_of : Request → ℕ
index_of request = request.index

-- one request more
pub indexed_more : (l : List Request) (x : Request) → AreIndexed l → x.index ≡ length l → AreIndexed (l ++ x ∷ [])
indexed_more l x indexed is =
    map_push index_of l x ∙ ((λ i. indexed i ++ is i ∷ []) ∙ (sym (range_more 0 (length l) ∙ ap (λ (n : ℕ). range_with_len 0 (length l) ++ n ∷ []) (omega arith)) ∙ ap (range_with_len 0) (sym (length_more l x))))

counted : (first : ℕ) (before : List Request) (x : Request) (after : List Request) → map index_of (before ++ x ∷ after) ≡ range_with_len first (length (before ++ x ∷ after)) → x.index ≡ first + length before
counted first [] x after e = ap (head_or 0) e ∙ omega arith
counted first (y ∷ before) x after e = counted (first + 1) before x after (ap tail_of e) ∙ omega arith

-- each one's index is the number of those before it
pub indexed_at : (before : List Request) (x : Request) (after : List Request) → AreIndexed (before ++ x ∷ after) → x.index ≡ length before
indexed_at before x after indexed = counted 0 before x after indexed ∙ omega arith

-- what an operator's pass knows, once one request more was accepted
pub indexed_after : (old new : Log) (x : Request) → new ≡ with_accepted old x → AreIndexed old.accepted → length old.accepted ≡ x.index → AreIndexed new.accepted
indexed_after old new x is indexed counted = subst (λ (l : Log). AreIndexed l.accepted) (sym is) (indexed_more old.accepted x indexed (sym counted))
