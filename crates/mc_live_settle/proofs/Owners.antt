-- Lists that come in one another's midst have the same entries.
use Rattle.std.proofs.Common.{◌≡◌, ◌≢◌, ◌+◌, ◌<◌, ◌==◌, cond, ℕ, Bool, true, false, List, [], ◌∷◌, length, count_by, get_or, inl, inr, refl, sym, ap, ◌∙◌, subst, arith}
use Rattle.std.specs.List.{AllByRecursion}
use Rattle.std.proofs.lemmas.Bool.{eq-eqb, ne_eqb}
use Rattle.std.proofs.lemmas.List.Sums.{sum_by-cons}
use Rattle.mc_box.specs.declared.event.Turn.{Turn}
use Rattle.mc_laws.proofs.Sums.{total_plus, total_zero}
use Rattle.mc_live_settle.specs.Orders.{AreInterleaved, owned_by}
use Rattle.mc_slot_laws.proofs.Sums.{total_one, total_same}
use Rattle.mc_slot_laws.specs.Sums.{total}

-- ---- one owner

-- where there is one owner alone, all entries are its own
pub only_owner : (owners : List ℕ) (whole : List Turn) → length owners ≡ length whole → AllByRecursion (λ (owner : ℕ). owner < 1) owners → owned_by 0 owners whole ≡ whole
only_owner [] [] count known = refl
only_owner [] (turn ∷ whole) count known = absurd (omega (arith, count))
only_owner (owner ∷ owners) [] count known = absurd (omega (arith, count))
only_owner (owner ∷ owners) (turn ∷ whole) count known =
    let first = known.0 in
    ap (λ (b : Bool). cond b (turn ∷ owned_by 0 owners whole) (owned_by 0 owners whole)) (eq-eqb owner 0 (omega (arith, first)))
    ∙ ap (λ (l : List Turn). turn ∷ l) (only_owner owners whole (omega (arith, count)) known.1)

-- ---- counts

-- what one entry counts
abbrev weight : (Turn → Bool) → Turn → ℕ
weight kind turn = cond (kind turn) 1 0

abbrev pub weight_if : Bool → ℕ → ℕ
weight_if true many = many
weight_if false many = 0

pub count_if : (here : Bool) (kind : Turn → Bool) (turn : Turn) (turns : List Turn) → count_by kind (cond here (turn ∷ turns) turns) ≡ weight_if here (weight kind turn) + count_by kind turns
count_if true kind turn turns = sum_by-cons (λ (t : Turn). cond (kind t) 1 0) turn turns
count_if false kind turn turns = omega arith

-- of so many owners one has the entry
pub one_place : (n k many : ℕ) → k < n → total (λ (owner : ℕ). weight_if (k == owner) many) n ≡ many
one_place n k many low =
    let apart : (t : ℕ) → t < n → t ≢ k → weight_if (k == t) many ≡ 0 = λ t below other. ap (λ (b : Bool). weight_if b many) (ne_eqb k t (λ (same : k ≡ t). other (sym same))) in
    let moved = total_one (λ (owner : ℕ). weight_if (k == owner) many) (λ (owner : ℕ). 0) n k low apart in
    let none = total_zero n in
    let here : weight_if (k == k) many ≡ many = ap (λ (b : Bool). weight_if b many) (eq-eqb k k refl) in
    omega (arith, moved, none, here)

-- so the entries of all owners are all entries
pub count_owned : (kind : Turn → Bool) (n : ℕ) (owners : List ℕ) (whole : List Turn) → length owners ≡ length whole → AllByRecursion (λ (owner : ℕ). owner < n) owners
    → total (λ (owner : ℕ). count_by kind (owned_by owner owners whole)) n ≡ count_by kind whole
count_owned kind n [] [] count known = total_zero n
count_owned kind n [] (turn ∷ whole) count known = absurd (omega (arith, count))
count_owned kind n (other ∷ owners) [] count known = absurd (omega (arith, count))
count_owned kind n (other ∷ owners) (turn ∷ whole) count known =
    let each = total_same (λ (owner : ℕ). count_by kind (owned_by owner (other ∷ owners) (turn ∷ whole))) (λ (owner : ℕ). weight_if (other == owner) (weight kind turn) + count_by kind (owned_by owner owners whole)) n
    (λ owner low. count_if (other == owner) kind turn (owned_by owner owners whole)) in
    let parts = total_plus (λ (owner : ℕ). weight_if (other == owner) (weight kind turn)) (λ (owner : ℕ). count_by kind (owned_by owner owners whole)) n in
    let one = one_place n other (weight kind turn) known.0 in
    let rest = count_owned kind n owners whole (omega (arith, count)) known.1 in
    let first = sum_by-cons (λ (t : Turn). cond (kind t) 1 0) turn whole in
    each ∙ (parts ∙ omega (arith, one, rest, first))

-- and a list has as many entries of a kind as the lists that it is of
pub count_interleaved : (kind : Turn → Bool) (lists : List (List Turn)) (whole : List Turn) → AreInterleaved lists whole → count_by kind whole ≡ total (λ (k : ℕ). count_by kind (get_or lists k [])) (length lists)
count_interleaved kind lists whole are =
    sym (count_owned kind (length lists) are.owners whole are.count are.known)
    ∙ total_same (λ (k : ℕ). count_by kind (owned_by k are.owners whole)) (λ (k : ℕ). count_by kind (get_or lists k [])) (length lists) (λ k low. ap (count_by kind) (are.each k low))
