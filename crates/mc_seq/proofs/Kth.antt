-- The k-th of what a function gives for each number, by the sums of how much it gives.
use Rattle.std.proofs.Common.{◌≡◌, ◌<◌, ◌≤◌, ◌+◌, ◌++◌, inl, inr, ℕ, zero, suc, List, [], ◌∷◌, length, sum, take, slice_get, Some, length-append, add-one, refl, ap, sym, ◌∙◌, subst, arith}
use Rattle.std.proofs.Math.ListN.{get_or}
use Rattle.std.proofs.lemmas.Bool.{cases_eq}
use Rattle.std.proofs.lemmas.List.Sums.{sum_by_more}
use Rattle.mc_box.specs.declared.event.Turn.{Turn}
use Rattle.mc_seq.specs.ForEach.{for_each}
use Rattle.mc_seq.specs.Ready.{CountsEach}

-- a place within the first of two lists
got_before : (xs ys : List Turn) (k : ℕ) (x : Turn) → slice_get xs k ≡ Some x → slice_get (xs ++ ys) k ≡ Some x
got_before [] ys k x got = absurd (cc)
got_before (t ∷ xs) ys zero x got = got
got_before (t ∷ xs) ys (suc k) x got = got_before xs ys k x got

-- a place after it
got_behind : (xs ys : List Turn) (k j : ℕ) → j ≡ length xs + k → slice_get (xs ++ ys) j ≡ slice_get ys k
got_behind [] ys k j is = ap (slice_get ys) (let e : j ≡ k = omega arith in e)
got_behind (t ∷ xs) ys k zero is = absurd (omega arith)
got_behind (t ∷ xs) ys k (suc j) is = got_behind xs ys k j (omega arith)

-- within a list something stands at each place
there_is : (xs : List Turn) (k : ℕ) → k < length xs → (x : Turn) × (slice_get xs k ≡ Some x)
there_is [] k inside = absurd (omega arith)
there_is (t ∷ xs) zero inside = (t, refl)
there_is (t ∷ xs) (suc k) inside = there_is xs k (omega arith)

-- by the number that gives it
pub each_got : (f : ℕ → List Turn) (n t k : ℕ) (x : Turn) → t < n → slice_get (f t) k ≡ Some x → slice_get (for_each f n) (length (for_each f t) + k) ≡ Some x
each_got f zero t k x below got = absurd (omega arith)
each_got f (suc n) t k x below got = elim (cases_eq t n) [
  | inl same ↦
      subst (λ (m : ℕ). slice_get (for_each f n ++ f n) (length (for_each f m) + k) ≡ Some x) (sym same)
      (got_behind (for_each f n) (f n) k (length (for_each f n) + k) refl ∙ (ap (λ (m : ℕ). slice_get (f m) k) (sym same) ∙ got))
  | inr apart ↦ got_before (for_each f n) (f n) (length (for_each f t) + k) x (each_got f n t k x (omega arith) got)
]

-- where so many stand before a number's list, a place in that list
found_is : (f : ℕ → List Turn) (n k place rest : ℕ) → place < n → length (for_each f place) + rest ≡ k → rest < length (f place) → slice_get (for_each f n) k ≡ slice_get (f place) rest
found_is f n k place rest below before within =
    let some = there_is (f place) rest within in
    ap (slice_get (for_each f n)) (sym before) ∙ (each_got f n place rest some.0 below some.1 ∙ sym some.1)

-- one more number is taken
take_one : (xs : List ℕ) (i : ℕ) → i < length xs → sum (take (suc i) xs) ≡ sum (take i xs) + get_or xs i 0
take_one xs i inside = ap (λ (n : ℕ). sum (take n xs)) (sym (add-one i)) ∙ sum_by_more (λ (n : ℕ). n) xs i 0 inside

-- sums of counts are lengths of lists
counted : (f : ℕ → List Turn) (counts : List ℕ) (n t : ℕ) → CountsEach f counts n → t ≤ n → sum (take t counts) ≡ length (for_each f t)
counted f counts n zero each inside = refl
counted f counts n (suc t) each inside =
    let rest : sum (take t counts) ≡ length (for_each f t) = counted f counts n t each (omega arith) in
    let here : get_or counts t 0 ≡ length (f t) = each.counts t (omega arith) in
    let one : sum (take (suc t) counts) ≡ sum (take t counts) + get_or counts t 0 = take_one counts t (let long = each.long in omega arith) in
    let two : length (for_each f t ++ f t) ≡ length (for_each f t) + length (f t) = length-append (for_each f t) (f t) in
    omega arith

-- so the place that a search in the sums finds has it
pub kth_is : (f : ℕ → List Turn) (counts : List ℕ) (n k place rest : ℕ) → CountsEach f counts n → place < length counts → sum (take place counts) + rest ≡ k → rest < get_or counts place 0
    → slice_get (for_each f n) k ≡ slice_get (f place) rest
kth_is f counts n k place rest each inside before within =
    let below : place < n = subst (λ (m : ℕ). place < m) each.long inside in
    let sums : sum (take place counts) ≡ length (for_each f place) = counted f counts n place each (omega arith) in
    found_is f n k place rest below (omega arith) (subst (λ (m : ℕ). rest < m) (each.counts place below) within)

-- all of a list are the list
take_whole : (xs : List ℕ) → take (length xs) xs ≡ xs
take_whole [] = refl
take_whole (x ∷ xs) = ap (λ (l : List ℕ). x ∷ l) (take_whole xs)

-- and there are as many as their sum
pub count_is : (f : ℕ → List Turn) (counts : List ℕ) (n : ℕ) → CountsEach f counts n → sum counts ≡ length (for_each f n)
count_is f counts n each =
    ap sum (sym (take_whole counts)) ∙ (ap (λ (m : ℕ). sum (take m counts)) each.long ∙ counted f counts n n each (omega arith))

-- ---- two functions, of which the one's list stands before the other's

-- there are as many as both give
pub both_count : (f g : ℕ → List Turn) (n : ℕ) → length (for_each (λ (t : ℕ). f t ++ g t) n) ≡ length (for_each f n) + length (for_each g n)
both_count f g zero = refl
both_count f g (suc n) =
    let rest = both_count f g n in
    let here : length (f n ++ g n) ≡ length (f n) + length (g n) = length-append (f n) (g n) in
    let all : length (for_each (λ (t : ℕ). f t ++ g t) n ++ (f n ++ g n)) ≡ length (for_each (λ (t : ℕ). f t ++ g t) n) + length (f n ++ g n) = length-append (for_each (λ (t : ℕ). f t ++ g t) n) (f n ++ g n) in
    let one : length (for_each f n ++ f n) ≡ length (for_each f n) + length (f n) = length-append (for_each f n) (f n) in
    let two : length (for_each g n ++ g n) ≡ length (for_each g n) + length (g n) = length-append (for_each g n) (g n) in
    omega arith

-- and a search in both sums finds the k-th
pub kth_of_both : (f g : ℕ → List Turn) (xs ys : List ℕ) (n k place rest : ℕ) → CountsEach f xs n → CountsEach g ys n → place < n → sum (take place ys) + sum (take place xs) + rest ≡ k
    → rest < get_or ys place 0 + get_or xs place 0 → slice_get (for_each (λ (t : ℕ). f t ++ g t) n) k ≡ slice_get (f place ++ g place) rest
kth_of_both f g xs ys n k place rest one two below before within =
    let first : sum (take place xs) ≡ length (for_each f place) = counted f xs n place one (omega arith) in
    let second : sum (take place ys) ≡ length (for_each g place) = counted g ys n place two (omega arith) in
    let all : length (for_each (λ (t : ℕ). f t ++ g t) place) ≡ length (for_each f place) + length (for_each g place) = both_count f g place in
    let here : length (f place ++ g place) ≡ length (f place) + length (g place) = length-append (f place) (g place) in
    let of_one : get_or xs place 0 ≡ length (f place) = one.counts place below in
    let of_two : get_or ys place 0 ≡ length (g place) = two.counts place below in
    found_is (λ (t : ℕ). f t ++ g t) n k place rest below (omega arith) (omega arith)

-- ---- the same for a function whose lists are as long as both

pub mixed_count : (h f g : ℕ → List Turn) (n : ℕ) → ((t : ℕ) → length (h t) ≡ length (f t) + length (g t)) → length (for_each h n) ≡ length (for_each f n) + length (for_each g n)
mixed_count h f g zero long = refl
mixed_count h f g (suc n) long =
    let rest = mixed_count h f g n long in
    let here : length (h n) ≡ length (f n) + length (g n) = long n in
    let all : length (for_each h n ++ h n) ≡ length (for_each h n) + length (h n) = length-append (for_each h n) (h n) in
    let one : length (for_each f n ++ f n) ≡ length (for_each f n) + length (f n) = length-append (for_each f n) (f n) in
    let two : length (for_each g n ++ g n) ≡ length (for_each g n) + length (g n) = length-append (for_each g n) (g n) in
    omega arith

pub kth_of_mixed : (h f g : ℕ → List Turn) (xs ys : List ℕ) (n k place rest : ℕ) → ((t : ℕ) → length (h t) ≡ length (f t) + length (g t)) → CountsEach f xs n → CountsEach g ys n → place < n
    → sum (take place ys) + sum (take place xs) + rest ≡ k → rest < get_or ys place 0 + get_or xs place 0 → slice_get (for_each h n) k ≡ slice_get (h place) rest
kth_of_mixed h f g xs ys n k place rest long one two below before within =
    let first : sum (take place xs) ≡ length (for_each f place) = counted f xs n place one (omega arith) in
    let second : sum (take place ys) ≡ length (for_each g place) = counted g ys n place two (omega arith) in
    let all : length (for_each h place) ≡ length (for_each f place) + length (for_each g place) = mixed_count h f g place long in
    let here : length (h place) ≡ length (f place) + length (g place) = long place in
    let of_one : get_or xs place 0 ≡ length (f place) = one.counts place below in
    let of_two : get_or ys place 0 ≡ length (g place) = two.counts place below in
    found_is h n k place rest below (omega arith) (omega arith)

-- a place within the first of two lists, and after it
pub got_first : (xs ys : List Turn) (k : ℕ) (x : Turn) → slice_get xs k ≡ Some x → slice_get (xs ++ ys) k ≡ Some x
got_first xs ys k x got = got_before xs ys k x got

pub got_second : (xs ys : List Turn) (k j : ℕ) → j ≡ length xs + k → slice_get (xs ++ ys) j ≡ slice_get ys k
got_second xs ys k j is = got_behind xs ys k j is
