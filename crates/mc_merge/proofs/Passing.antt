-- What passes through lanes, in two goes and through a ring.
use Rattle.std.proofs.Common.{◌≡◌, ◌⊎◌, inl, inr, ℕ, zero, suc, ◌+◌, ◌<◌, List, [], ◌∷◌, ◌++◌, length, length-append, Some, append_assoc, refl, ap, sym, ◌∙◌, subst, arith}
use Rattle.std.specs.List.{slice_get}
use Rattle.std.proofs.lemmas.List.{map-append}
use Rattle.mc_signal.specs.declared.Tagged.{Tagged}
use Rattle.mc_merge.specs.LaneLogs.{without_stamps}
use Rattle.mc_merge.specs.Passing.{LanePasses, LanesMeet, PassesJoin}
use Rattle.mc_port.specs.Ends.{without_stamp}
use Rattle.mc_port.specs.declared.stamped.Stamped.{Stamped}

-- ---- places in lists

split_at : (xs ys : List Stamped) (i : ℕ) (x : Stamped) → slice_get (xs ++ ys) i ≡ Some x → (slice_get xs i ≡ Some x) ⊎ ((k : ℕ) × (i ≡ length xs + k) × (slice_get ys k ≡ Some x))
split_at [] ys i x at = inr (i, omega arith, at)
split_at (y ∷ xs) ys zero x at = inl at
split_at (y ∷ xs) ys (suc i) x at = elim (split_at xs ys i x at) [
  | inl here ↦ inl here
  | inr there ↦
      let is : i ≡ length xs + there.0 = there.1 in
      inr (there.0, omega arith, there.2)
]

pub below : (xs : List Stamped) (i : ℕ) (x : Stamped) → slice_get xs i ≡ Some x → i < length xs
below [] i x at = absurd (cc)
below (y ∷ xs) zero x at = omega arith
below (y ∷ xs) (suc i) x at =
    let rest : i < length xs = below xs i x at in
    omega arith

there : (xs : List Stamped) (i : ℕ) → i < length xs → (x : Stamped) × (slice_get xs i ≡ Some x)
there [] i inside = absurd (omega arith)
there (x ∷ xs) zero inside = (x, refl)
there (x ∷ xs) (suc i) inside = there xs i (omega arith)

in_front : (xs ys : List Stamped) (i : ℕ) (x : Stamped) → slice_get xs i ≡ Some x → slice_get (xs ++ ys) i ≡ Some x
in_front [] ys i x at = absurd (cc)
in_front (y ∷ xs) ys zero x at = at
in_front (y ∷ xs) ys (suc i) x at = in_front xs ys i x at

pub same_length : (items : List Stamped) → length (without_stamps items) ≡ length items
same_length [] = refl
same_length (item ∷ items) = ap suc (same_length items)

lengths : (slack : ℕ) (a b : List Tagged) (taken came : List Stamped) → LanePasses slack a taken came b → length taken + length b ≡ length a + length came
lengths slack a b taken came passes =
    ap (λ (n : ℕ). n + length b) (sym (same_length taken))
    ∙ (sym (length-append (without_stamps taken) b)
    ∙ (ap (λ (l : List Tagged). length l) passes.order
    ∙ (length-append a (without_stamps came) ∙ ap (λ (n : ℕ). length a + n) (same_length came))))

-- ---- two goes

orders : (a b c : List Tagged) (taken came taken_2 came_2 : List Stamped) → without_stamps taken ++ b ≡ a ++ without_stamps came → without_stamps taken_2 ++ c ≡ b ++ without_stamps came_2
    → without_stamps (taken ++ taken_2) ++ c ≡ a ++ without_stamps (came ++ came_2)
orders a b c taken came taken_2 came_2 one two =
    ap (λ (l : List Tagged). l ++ c) (map-append without_stamp taken taken_2)
    ∙ (append_assoc (without_stamps taken) (without_stamps taken_2) c
    ∙ (ap (λ (l : List Tagged). without_stamps taken ++ l) two
    ∙ (sym (append_assoc (without_stamps taken) b (without_stamps came_2))
    ∙ (ap (λ (l : List Tagged). l ++ without_stamps came_2) one
    ∙ (append_assoc a (without_stamps came) (without_stamps came_2)
    ∙ ap (λ (l : List Tagged). a ++ l) (sym (map-append without_stamp came came_2)))))))

pub passes_join : PassesJoin
passes_join slack a b c taken came taken_2 came_2 one two bound = record {
  order = orders a b c taken came taken_2 came_2 one.order two.order;
  later = λ j k taking coming at at_taken at_came.
      let long : length taken + length b ≡ length a + length came = lengths slack a b taken came one in
      elim (split_at taken taken_2 j taking at_taken) [
        | inl first ↦ elim (split_at came came_2 k coming at_came) [
          | inl early ↦ one.later j k taking coming at first early
          | inr late ↦
              let inside : j < length taken = below taken j taking first in
              let is : k ≡ length came + late.0 = late.1 in
              absurd (omega arith)
        ]
        | inr second ↦ elim (split_at came came_2 k coming at_came) [
          | inl early ↦ bound second.0 k taking coming second.2 early
          | inr late ↦
              let is : j ≡ length taken + second.0 = second.1 in
              let is_2 : k ≡ length came + late.0 = late.1 in
              let at_2 : second.0 ≡ length b + late.0 = omega arith in
              two.later second.0 late.0 taking coming at_2 second.2 late.2
        ]
      ];
}

-- ---- through a ring

met_order : (inner inner_rest outer_rest : List Tagged) (taken gave left put sent : List Stamped) → without_stamps taken ++ inner_rest ≡ inner ++ without_stamps gave → gave ++ left ≡ put
    → without_stamps put ++ outer_rest ≡ without_stamps sent → without_stamps taken ++ (inner_rest ++ (without_stamps left ++ outer_rest)) ≡ inner ++ without_stamps sent
met_order inner inner_rest outer_rest taken gave left put sent one ring two =
    sym (append_assoc (without_stamps taken) inner_rest (without_stamps left ++ outer_rest))
    ∙ (ap (λ (l : List Tagged). l ++ (without_stamps left ++ outer_rest)) one
    ∙ (append_assoc inner (without_stamps gave) (without_stamps left ++ outer_rest)
    ∙ ap (λ (l : List Tagged). inner ++ l)
    (sym (append_assoc (without_stamps gave) (without_stamps left) outer_rest)
    ∙ (ap (λ (l : List Tagged). l ++ outer_rest) (sym (map-append without_stamp gave left))
    ∙ (ap (λ (l : List Stamped). without_stamps l ++ outer_rest) ring ∙ two)))))

pub lanes_meet : LanesMeet
lanes_meet inner inner_rest outer_rest taken gave left put sent one ring two = record {
  order = met_order inner inner_rest outer_rest taken gave left put sent one.order ring two.order;
  later = λ j k taking sending at at_taken at_sent.
      let long : length taken + length inner_rest ≡ length inner + length gave = lengths 0 inner inner_rest taken gave one in
      let inside : j < length taken = below taken j taking at_taken in
      let came = there gave k (omega arith) in
      let first : came.0.stamp < taking.stamp + 0 = one.later j k taking came.0 at at_taken came.1 in
      let through : slice_get put k ≡ Some came.0 = subst (λ (l : List Stamped). slice_get l k ≡ Some came.0) ring (in_front gave left k came.0 came.1) in
      let second : sending.stamp < came.0.stamp + 1 = two.later k k came.0 sending (omega arith) through at_sent in
      omega arith;
}
