-- The lines of a text, read one after the other.
use Rattle.std.proofs.Common.{◌≡◌, ℕ, ◌+◌, suc, true, false, List, [], ◌∷◌, ◌++◌, refl, ap, ◌∙◌, append_assoc, append-nil, flat_map, subst, sym, arith}
use Rattle.std.specs.List.{before_first, list_any, position_or_len}
use Rattle.mc_text.specs.Lines.{lines}
use Rattle.mc_text.specs.NameLists.{NameLists}
use Rattle.mc_box.specs.BoxShapes.{BoxShapeState}
use Rattle.mc_script.specs.declared.command.JournalLine.{JournalLine}
use Rattle.mc_journal.specs.Readings.{has_bad_line, is_bad, journal_lines, line_in, line_reading, readings}
use Rattle.mc_journal.specs.declared.reading.LineReading.{LineReading}

one_suc : (n : ℕ) → 1 + n ≡ suc n
one_suc n = omega arith

-- the lines that are said before the first that is bad
abbrev pub said : List LineReading → List JournalLine
said readings = flat_map line_in (before_first is_bad readings)

-- after a bad line nothing counts
pub said-bad : (reading : LineReading) (others : List LineReading) → is_bad reading ≡ true → said (reading ∷ others) ≡ []
said-bad reading others bad = rw bad refl

-- and any other comes first
pub said-more : (reading : LineReading) (others : List LineReading) → is_bad reading ≡ false → said (reading ∷ others) ≡ line_in reading ++ said others
said-more reading others good = rw (good, one_suc (position_or_len is_bad others)) refl

pub any-bad : (reading : LineReading) (others : List LineReading) → is_bad reading ≡ true → list_any is_bad (reading ∷ others) ≡ true
any-bad reading others bad = rw bad refl

pub any-more : (reading : LineReading) (others : List LineReading) → is_bad reading ≡ false → list_any is_bad (reading ∷ others) ≡ list_any is_bad others
any-more reading others good = rw good refl

-- the lines that were kept, and those that are still to be read, are the lines of the whole text
pub record HasRead (names : NameLists) (shape : List BoxShapeState) (text : List ℕ) (before : List JournalLine) (rest : List ℕ) (now : List JournalLine) : Type 0 where
  pub kept : before ++ journal_lines names shape text ≡ now ++ journal_lines names shape rest
  pub bad : has_bad_line names shape text ≡ has_bad_line names shape rest

module _ (names : NameLists) (shape : List BoxShapeState) (text : List ℕ) (before : List JournalLine) (rest : List ℕ) (now : List JournalLine) (read : HasRead names shape text before rest now) where
  -- no line is left
  pub all_kept : rest ≡ [] → now ≡ before ++ journal_lines names shape text
  all_kept gone =
      let kept : before ++ journal_lines names shape text ≡ now ++ journal_lines names shape [] = subst (λ (left : List ℕ). before ++ journal_lines names shape text ≡ now ++ journal_lines names shape left) gone read.kept in
      sym (kept ∙ append-nil now)

  pub none_bad : rest ≡ [] → false ≡ has_bad_line names shape text
  none_bad gone = sym (subst (λ (left : List ℕ). has_bad_line names shape text ≡ has_bad_line names shape left) gone read.bad)

  module _ (line others : List ℕ) (is : lines rest ≡ line ∷ lines others) where
    -- the next line is bad
    pub kept_before : is_bad (line_reading names shape line) ≡ true → now ≡ before ++ journal_lines names shape text
    kept_before bad =
        let none : journal_lines names shape rest ≡ [] = rw is (said-bad (line_reading names shape line) (readings names shape others) bad) in
        sym (read.kept ∙ ap (λ (some : List JournalLine). now ++ some) none ∙ append-nil now)

    pub is_bad_here : is_bad (line_reading names shape line) ≡ true → true ≡ has_bad_line names shape text
    is_bad_here bad =
        let some : has_bad_line names shape rest ≡ true = rw is (any-bad (line_reading names shape line) (readings names shape others) bad) in
        sym (read.bad ∙ some)

    -- it isn't, and is kept
    pub one_more : is_bad (line_reading names shape line) ≡ false → HasRead names shape text before others (now ++ line_in (line_reading names shape line))
    one_more good = record {
      kept = read.kept ∙ ap (λ (some : List JournalLine). now ++ some) more ∙ sym (append_assoc now (line_in (line_reading names shape line)) (journal_lines names shape others));
      bad = read.bad ∙ any;
    }
      where
        more : journal_lines names shape rest ≡ line_in (line_reading names shape line) ++ journal_lines names shape others
        more = rw is (said-more (line_reading names shape line) (readings names shape others) good)

        any : has_bad_line names shape rest ≡ has_bad_line names shape others
        any = rw is (any-more (line_reading names shape line) (readings names shape others) good)
