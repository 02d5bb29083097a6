-- Requests of one operator.
use Rattle.std.proofs.Common.{◌≡◌, ◌≢◌, ℕ, ◌+◌, Bool, cond, eqb, eq-eqb, ne_eqb, List, [], ◌∷◌, ◌++◌, length, length-append, sym, refl, ap, ◌∙◌, subst, arith}
use mathlib.Core.Logic.{dite}
use native.Mathlib.Decide.{ℕ_discrete}
use Rattle.std.proofs.lemmas.List.Elements.{filter-append}
use Rattle.mc_desk.specs.declared.request.Request.{Request}
use Rattle.mc_desk.specs.Histories.{requests_of}

pub requests_append : (k : ℕ) (xs ys : List Request) → requests_of k (xs ++ ys) ≡ requests_of k xs ++ requests_of k ys
requests_append k xs ys = filter-append (λ (x : Request). eqb x.operator k) xs ys

-- one request is its operator's, and nobody else's
pub requests_own : (k : ℕ) (x : Request) → x.operator ≡ k → requests_of k (x ∷ []) ≡ x ∷ []
requests_own k x e = ap (λ (b : Bool). cond b (x ∷ []) []) (eq-eqb x.operator k e)

pub requests_else : (k : ℕ) (x : Request) → x.operator ≢ k → requests_of k (x ∷ []) ≡ []
requests_else k x e = ap (λ (b : Bool). cond b (x ∷ []) []) (ne_eqb x.operator k e)

-- without the first one of this operator
abbrev without : ℕ → List Request → List Request
without k [] = []
without k (y ∷ ys) = cond (eqb y.operator k) ys (y ∷ without k ys)

cons_ne : (x : Request) (xs : List Request) → x ∷ xs ≢ []
cons_ne x xs e = absurd (let n = ap length e in omega arith)

abbrev tail_of : List Request → List Request
tail_of [] = []
tail_of (x ∷ xs) = xs

record Removed (k : ℕ) (ys left : List Request) (x : Request) (more : List Request) : Type 0 where
  pub count : length ys ≡ length left + 1
  pub own : requests_of k left ≡ more
  pub others : (j : ℕ) → j ≢ k → requests_of j left ≡ requests_of j ys

removed : (k : ℕ) (ys : List Request) (x : Request) (more : List Request) → requests_of k ys ≡ x ∷ more → Removed k ys (without k ys) x more
removed k [] x more e = absurd (cons_ne x more (sym e))
removed k (y ∷ ys) x more e = dite (ℕ_discrete y.operator k)
    (λ (same : y.operator ≡ k).
    let first : y ∷ requests_of k ys ≡ x ∷ more = sym (ap (λ (b : Bool). cond b (y ∷ requests_of k ys) (requests_of k ys)) (eq-eqb y.operator k same)) ∙ e in
    let left : without k (y ∷ ys) ≡ ys = ap (λ (b : Bool). cond b ys (y ∷ without k ys)) (eq-eqb y.operator k same) in
    subst (λ (l : List Request). Removed k (y ∷ ys) l x more) (sym left) (record {
      count = omega arith;
      own = ap tail_of first;
      others = λ j ne. sym (ap (λ (b : Bool). cond b (y ∷ requests_of j ys) (requests_of j ys)) (ne_eqb y.operator j (λ is. ne (sym is ∙ same))));
    }))
    (λ (other : y.operator ≢ k).
    let later : requests_of k ys ≡ x ∷ more = sym (ap (λ (b : Bool). cond b (y ∷ requests_of k ys) (requests_of k ys)) (ne_eqb y.operator k other)) ∙ e in
    let r = removed k ys x more later in
    let w : List Request = without k ys in
    let left : without k (y ∷ ys) ≡ y ∷ w = ap (λ (b : Bool). cond b ys (y ∷ w)) (ne_eqb y.operator k other) in
    subst (λ (l : List Request). Removed k (y ∷ ys) l x more) (sym left) (record {
      count = (let n = r.count in omega arith);
      own = ap (λ (b : Bool). cond b (y ∷ requests_of k w) (requests_of k w)) (ne_eqb y.operator k other) ∙ r.own;
      others = λ j ne. ap (λ (l : List Request). cond (eqb y.operator j) (y ∷ l) l) (r.others j ne);
    }))

-- of each operator the same requests: as many in all
pub same_count : (xs ys : List Request) → ((k : ℕ) → requests_of k xs ≡ requests_of k ys) → length xs ≡ length ys
same_count [] [] same = refl
same_count [] (y ∷ ys) same = absurd (cons_ne y (requests_of y.operator ys)
    (sym (ap (λ (b : Bool). cond b (y ∷ requests_of y.operator ys) (requests_of y.operator ys)) (eq-eqb y.operator y.operator refl)) ∙ sym (same y.operator)))
same_count (x ∷ xs) ys same =
    let k : ℕ = x.operator in
    let first : requests_of k ys ≡ x ∷ requests_of k xs = sym (same k) ∙ ap (λ (b : Bool). cond b (x ∷ requests_of k xs) (requests_of k xs)) (eq-eqb k k refl) in
    let r = removed k ys x (requests_of k xs) first in
    let n = same_count xs (without k ys) (λ j. dite (ℕ_discrete j k)
    (λ (is : j ≡ k). subst (λ (i : ℕ). requests_of i xs ≡ requests_of i (without k ys)) (sym is) (sym r.own))
    (λ (ne : j ≢ k). sym (ap (λ (b : Bool). cond b (x ∷ requests_of j xs) (requests_of j xs)) (ne_eqb k j (λ is. ne (sym is)))) ∙ (same j ∙ sym (r.others j ne)))) in
    let m = r.count in
    omega arith

-- where no other operator has any, these are all
pub all_own : (k : ℕ) (xs : List Request) → ((j : ℕ) → j ≢ k → requests_of j xs ≡ []) → requests_of k xs ≡ xs
all_own k [] none = refl
all_own k (x ∷ xs) none = dite (ℕ_discrete x.operator k)
    (λ (same : x.operator ≡ k).
    ap (λ (b : Bool). cond b (x ∷ requests_of k xs) (requests_of k xs)) (eq-eqb x.operator k same)
    ∙ ap (λ (l : List Request). x ∷ l) (all_own k xs (λ j ne. sym (ap (λ (b : Bool). cond b (x ∷ requests_of j xs) (requests_of j xs)) (ne_eqb x.operator j (λ is. ne (sym is ∙ same)))) ∙ none j ne)))
    (λ (other : x.operator ≢ k). absurd (cons_ne x (requests_of x.operator xs)
    (sym (ap (λ (b : Bool). cond b (x ∷ requests_of x.operator xs) (requests_of x.operator xs)) (eq-eqb x.operator x.operator refl)) ∙ none x.operator other)))

-- one request among others, of its operator
pub requests_among : (before : List Request) (x : Request) (after : List Request) → requests_of x.operator (before ++ x ∷ after) ≡ requests_of x.operator before ++ x ∷ requests_of x.operator after
requests_among before x after =
    requests_append x.operator before (x ∷ after)
    ∙ ap (λ (b : Bool). requests_of x.operator before ++ cond b (x ∷ requests_of x.operator after) (requests_of x.operator after)) (eq-eqb x.operator x.operator refl)

-- so that operator has some
pub some_among : (before : List Request) (x : Request) (after : List Request) → requests_of x.operator (before ++ x ∷ after) ≢ []
some_among before x after none =
    let e : requests_of x.operator before ++ x ∷ requests_of x.operator after ≡ [] = sym (requests_among before x after) ∙ none in
    let n = ap length e in
    let m = length-append (requests_of x.operator before) (x ∷ requests_of x.operator after) in
    absurd (omega arith)
