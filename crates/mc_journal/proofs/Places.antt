-- The lines of a text, passed one after the other up to a wanted one.
use Rattle.std.proofs.Common.{◌≡◌, ◌≤◌, ◌<◌, ◌+◌, ℕ, suc, true, false, List, [], ◌∷◌, arith, ap, length, refl, subst}
use Rattle.mc_box.specs.BoxShapes.{BoxShapeState}
use Rattle.mc_journal.specs.Places.{before_after, is_wanted, line_place}
use Rattle.mc_journal.specs.Readings.{line_reading, readings}
use Rattle.mc_journal.specs.declared.reading.LineReading.{LineReading}
use Rattle.mc_text.specs.Lines.{lines}
use Rattle.mc_text.specs.NameLists.{NameLists}

-- so many lines were passed, and the wanted one stands after as many of the rest as are left
pub record HasPassed (names : NameLists) (shape : List BoxShapeState) (text rest : List ℕ) (before left place : ℕ) : Type 0 where
  pub is : place + line_place (readings names shape rest) left ≡ line_place (readings names shape text) before
  pub within : place + length rest ≤ length text

-- the wanted line is the next one
here : (reading : LineReading) (others : List LineReading) (left : ℕ) → is_wanted reading left ≡ true → line_place (reading ∷ others) left ≡ 0
here reading others left wanted = rw wanted refl

-- or it isn't, and is passed
beyond : (reading : LineReading) (others : List LineReading) (left : ℕ) → is_wanted reading left ≡ false → line_place (reading ∷ others) left ≡ suc (line_place others (before_after reading left))
beyond reading others left passed = rw passed refl

module _ (names : NameLists) (shape : List BoxShapeState) (text rest : List ℕ) (before left place : ℕ) (so_far : HasPassed names shape text rest before left place) where
  -- no line is left
  pub at_end : rest ≡ [] → place ≡ line_place (readings names shape text) before
  at_end none =
      let all : place + 0 ≡ line_place (readings names shape text) before = subst (λ (some : List ℕ). place + line_place (readings names shape some) left ≡ line_place (readings names shape text) before) none so_far.is in
      omega (arith, all)

  module _ (line others : List ℕ) (is : lines rest ≡ line ∷ lines others) where
    pub at_wanted : is_wanted (line_reading names shape line) left ≡ true → place ≡ line_place (readings names shape text) before
    at_wanted wanted =
        let none : line_place (readings names shape rest) left ≡ 0 = rw is (here (line_reading names shape line) (readings names shape others) left wanted) in
        omega (arith, none, so_far.is)

    pub one_passed : is_wanted (line_reading names shape line) left ≡ false → length others < length rest
        → HasPassed names shape text others before (before_after (line_reading names shape line) left) (place + 1)
    one_passed passed shorter =
        let more : line_place (readings names shape rest) left ≡ suc (line_place (readings names shape others) (before_after (line_reading names shape line) left)) =
        rw is (beyond (line_reading names shape line) (readings names shape others) left passed) in
        record {
          is = omega (arith, more, so_far.is);
          within = omega (arith, shorter, so_far.within);
        }

-- so many lines were counted, and those of the rest are left
pub record HasCounted (text rest : List ℕ) (count : ℕ) : Type 0 where
  pub is : count + length (lines rest) ≡ length (lines text)
  pub within : count + length rest ≤ length text

pub one_counted : (text rest line others : List ℕ) (count : ℕ) → HasCounted text rest count → lines rest ≡ line ∷ lines others → length others < length rest → HasCounted text others (count + 1)
one_counted text rest line others count so_far is shorter =
    let more : length (lines rest) ≡ suc (length (lines others)) = ap (λ (some : List (List ℕ)). length some) is in
    record {
      is = omega (arith, more, so_far.is);
      within = omega (arith, shorter, so_far.within);
    }

pub all_counted : (text rest : List ℕ) (count : ℕ) → HasCounted text rest count → rest ≡ [] → count ≡ length (lines text)
all_counted text rest count so_far none =
    let all : count + 0 ≡ length (lines text) = subst (λ (some : List ℕ). count + length (lines some) ≡ length (lines text)) none so_far.is in
    omega (arith, all)
