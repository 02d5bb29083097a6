-- A text says something, or it has one fault.
use Rattle.std.proofs.Common.{◌≡◌, ◌⊎◌, inl, inr, ℕ, zero, suc, ◌+◌, ◌<◌, ◌≤◌, List, length, Option, Some, None, refl, ap, subst, arith}
use Rattle.std.proofs.lemmas.Bool.{cases_lt}
use Rattle.mc_lines.specs.Rules.{end_fault}
use Rattle.mc_lines.specs.SoFar.{Declared}
use Rattle.mc_lines.specs.declared.tail.Tail.{Tail}
use Rattle.mc_net.specs.TextLaws.{DeclaresOrFaults, OneFault, OneOrTheOther}
use Rattle.mc_net.specs.Texts.{AreSound, IsFault, at_line, at_end, Says, declared_by, fault_at, text_lines}

-- an option isn't both
pub not_both : {A : Type 0} (o : Option A) (x : A) → o ≡ None → o ≡ Some x → ⊥
not_both o x none some = cc

pub same_value : {A : Type 0} (o : Option A) (x y : A) → o ≡ Some x → o ≡ Some y → x ≡ y
same_value o x y one other = cc

-- ---- never both

pub declares_or_faults : DeclaresOrFaults
declares_or_faults tail text d number line says (at_line k within sound broken) = not_both (fault_at tail (length text) (text_lines tail text) k) number (says.sound k within) broken
declares_or_faults tail text d number line says (at_end sound broken) = not_both (end_fault (declared_by tail (text_lines tail text) (length (text_lines tail text)))) number says.ended broken

-- ---- one fault

-- the first place that has a value, and the value
two_firsts : (at : ℕ → Option ℕ) (k j number other : ℕ) → ((i : ℕ) → i < k → at i ≡ None) → at k ≡ Some number → ((i : ℕ) → i < j → at i ≡ None) → at j ≡ Some other
    → (number ≡ other) × (k + 1 ≡ j + 1)
two_firsts at k j number other before here earlier there = by (cases_lt k j) (cases_lt j k)
  where
    by : (k < j) ⊎ (j ≤ k) → (j < k) ⊎ (k ≤ j) → (number ≡ other) × (k + 1 ≡ j + 1)
    by (inl less) right = absurd (not_both (at k) number (earlier k less) here)
    by (inr most) (inl less) = absurd (not_both (at j) other (before j less) there)
    by (inr most) (inr least) =
        let same : k ≡ j = omega arith in
        let moved : at j ≡ Some number = subst (λ (i : ℕ). at i ≡ Some number) same here in
        (same_value (at j) number other moved there, ap (λ (i : ℕ). i + 1) same)

pub one_fault : OneFault
one_fault tail text number line other_number other_line (at_line k within sound broken) (at_line j inside clear found) = two_firsts (fault_at tail (length text) (text_lines tail text)) k j number other_number sound broken clear found
one_fault tail text number line other_number other_line (at_line k within sound broken) (at_end clear found) = absurd (not_both (fault_at tail (length text) (text_lines tail text) k) number (clear k within) broken)
one_fault tail text number line other_number other_line (at_end sound broken) (at_line j inside clear found) = absurd (not_both (fault_at tail (length text) (text_lines tail text) j) other_number (sound j inside) found)
one_fault tail text number line other_number other_line (at_end sound broken) (at_end clear found) = (same_value (end_fault (declared_by tail (text_lines tail text) (length (text_lines tail text)))) number other_number broken found, refl)

-- ---- one or the other

-- the first place below a bound that has a value
record IsFirst (at : ℕ → Option ℕ) (bound : ℕ) : Type 0 where
  place : ℕ
  number : ℕ
  within : place < bound
  before : (i : ℕ) → i < place → at i ≡ None
  here : at place ≡ Some number

none_or_first : (at : ℕ → Option ℕ) (bound : ℕ) → ((i : ℕ) → i < bound → at i ≡ None) ⊎ IsFirst at bound
none_or_first at zero = inl (λ i below. absurd (omega arith))
none_or_first at (suc bound) = by (none_or_first at bound)
  where
    last : ((i : ℕ) → i < bound → at i ≡ None) → (o : Option ℕ) → at bound ≡ o → ((i : ℕ) → i < suc bound → at i ≡ None) ⊎ IsFirst at (suc bound)
    last before (Some number) here = inr (record { place = bound; number = number; within = omega arith; before = before; here = here })
    last before None here = inl (λ i below. at_most i below (cases_lt i bound))
      where
        at_most : (i : ℕ) → i < suc bound → (i < bound) ⊎ (bound ≤ i) → at i ≡ None
        at_most i below (inl less) = before i less
        at_most i below (inr most) = let same : bound ≡ i = omega arith in subst (λ (j : ℕ). at j ≡ None) same here

    by : ((i : ℕ) → i < bound → at i ≡ None) ⊎ IsFirst at bound → ((i : ℕ) → i < suc bound → at i ≡ None) ⊎ IsFirst at (suc bound)
    by (inl before) = last before (at bound) refl
    by (inr first) = inr (record { place = first.place; number = first.number; within = let within = first.within in omega arith; before = first.before; here = first.here })

-- what all lines of a text declare
abbrev declared_of : Tail → List ℕ → Declared
declared_of tail text = declared_by tail (text_lines tail text) (length (text_lines tail text))

abbrev SaysOrFaults : Tail → List ℕ → Type 0
SaysOrFaults tail text = ((d : Declared) × Says tail text d) ⊎ ((number : ℕ) × (line : ℕ) × IsFault tail text number line)

ended_or_not : (tail : Tail) (text : List ℕ) → AreSound tail (length text) (text_lines tail text) (length (text_lines tail text)) → (o : Option ℕ) → end_fault (declared_of tail text) ≡ o → SaysOrFaults tail text
ended_or_not tail text sound None e = inl (declared_of tail text, record { sound = sound; ended = e; declared = refl })
ended_or_not tail text sound (Some number) e = inr (number, length (text_lines tail text) + 1, at_end sound e)

pub one_or_the_other : OneOrTheOther
one_or_the_other tail text = by (none_or_first (fault_at tail (length text) (text_lines tail text)) (length (text_lines tail text)))
  where
    by : AreSound tail (length text) (text_lines tail text) (length (text_lines tail text)) ⊎ IsFirst (fault_at tail (length text) (text_lines tail text)) (length (text_lines tail text)) → SaysOrFaults tail text
    by (inl sound) = ended_or_not tail text sound (end_fault (declared_of tail text)) refl
    by (inr first) = inr (first.number, first.place + 1, at_line first.place first.within first.before first.here)
