-- What a function gives for each number below a count.
use Rattle.std.proofs.Common.{◌≡◌, ◌<◌, ◌+◌, ◌++◌, inl, inr, cond, ℕ, zero, suc, Bool, true, List, [], ◌∷◌, All, count_by, refl, ap, ◌∙◌, arith}
use Rattle.std.specs.List.{list_all}
use Rattle.std.proofs.Math.ListN.{get_or}
use Rattle.std.proofs.lemmas.Bool.{cases_eq}
use Rattle.std.proofs.lemmas.List.Elements.{All-append}
use Rattle.std.proofs.lemmas.List.Folds.{list_all-append}
use Rattle.std.proofs.lemmas.List.Sums.{sum_by-append}
use Rattle.mc_box.specs.declared.event.Turn.{Turn}
use Rattle.mc_slot_laws.specs.Sums.{total}
use Rattle.mc_seq.specs.ForEach.{for_each}
use Rattle.mc_seq.proofs.Segments.{both_there}

-- what holds of all that is given holds of the list
pub each_all : (P : Turn → Type 0) (f : ℕ → List Turn) (n : ℕ) → ((t : ℕ) → t < n → All P (f t)) → All P (for_each f n)
each_all P f zero all = λ k none within. absurd (omega arith)
each_all P f (suc n) all = All-append P (for_each f n) (f n) (each_all P f n (λ t below. all t (omega arith))) (all n (omega arith))

-- what holds of the one item holds at each place of its list
one_at : (P : Turn → Type 0) (x : Turn) → P x → (k : ℕ) (d : Turn) → k < 1 → P (get_or (x ∷ []) k d)
one_at P x here zero d within = here
one_at P x here (suc k) d within = absurd (omega arith)

-- and of all of it
pub one_all : (P : Turn → Type 0) (x : Turn) → P x → All P (x ∷ [])
one_all P x here = one_at P x here

-- of an empty list all holds
pub none_all : (P : Turn → Type 0) → All P []
none_all P = λ k d within. absurd (omega arith)

-- lists of which nothing is left are empty
pub append_none : (xs ys : List Turn) → xs ++ ys ≡ [] → (xs ≡ []) × (ys ≡ [])
append_none [] ys none = (refl, none)
append_none (x ∷ xs) ys none = absurd (cc)

-- where there is nothing in all, nothing is given for any number
pub each_none : (f : ℕ → List Turn) (n t : ℕ) → for_each f n ≡ [] → t < n → f t ≡ []
each_none f zero t none below = absurd (omega arith)
each_none f (suc n) t none below =
    let parts = append_none (for_each f n) (f n) none in
    elim (cases_eq t n) [
      | inl same ↦ ap f same ∙ parts.1
      | inr apart ↦ each_none f n t parts.0 (omega arith)
    ]

-- two functions that give the same
pub each_same : (f g : ℕ → List Turn) (n : ℕ) → ((t : ℕ) → f t ≡ g t) → for_each f n ≡ for_each g n
each_same f g zero same = refl
each_same f g (suc n) same = ap (λ (turns : List Turn). turns ++ f n) (each_same f g n same) ∙ ap (λ (turns : List Turn). for_each g n ++ turns) (same n)

-- or that give the same for each number
pub each_alike : (f g : ℕ → List Turn) (n : ℕ) → ((t : ℕ) → t < n → f t ≡ g t) → for_each f n ≡ for_each g n
each_alike f g zero same = refl
each_alike f g (suc n) same =
    ap (λ (turns : List Turn). turns ++ f n) (each_alike f g n (λ t below. same t (omega arith))) ∙ ap (λ (turns : List Turn). for_each g n ++ turns) (same n (omega arith))

-- what is counted is counted number by number
pub each_count : (p : Turn → Bool) (f : ℕ → List Turn) (n : ℕ) → count_by p (for_each f n) ≡ total (λ (t : ℕ). count_by p (f t)) n
each_count p f zero = refl
each_count p f (suc n) =
    let rest = each_count p f n in
    let both : count_by p (for_each f n ++ f n) ≡ count_by p (for_each f n) + count_by p (f n) = sum_by-append (λ (turn : Turn). cond (p turn) 1 0) (for_each f n) (f n) in
    omega arith

-- a test that all pass
pub each_pass : (q : Turn → Bool) (f : ℕ → List Turn) (n : ℕ) → ((t : ℕ) → list_all q (f t) ≡ true) → list_all q (for_each f n) ≡ true
each_pass q f zero all = refl
each_pass q f (suc n) all = list_all-append q (for_each f n) (f n) ∙ both_there (list_all q (for_each f n)) (list_all q (f n)) (each_pass q f n all) (all n)
