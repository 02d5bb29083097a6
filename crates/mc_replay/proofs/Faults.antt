-- A journal has one fault at most, and so many lines may stand before it.
use Rattle.std.proofs.Common.{◌≡◌, ◌<◌, ◌++◌, ◌+◌, ◌∙◌, ℕ, true, false, inl, inr, List, [], ◌∷◌, None, Some, IsSome, Option, length, slice_index_or, take, refl, ap, sym, subst, arith}
use Rattle.std.proofs.lemmas.List.{take_all, take_more}
use Rattle.mc_box.specs.declared.event.Turn.{Turn}
use Rattle.mc_model.specs.Steps.{step}
use Rattle.mc_model.specs.Worlds.{WorldState}
use Rattle.mc_script.specs.declared.command.JournalLine.{JournalLine}
use Rattle.mc_script.specs.declared.command.JournalLine.TheVariants.{Turn as Made, Settled}
use Rattle.mc_replay.specs.Faults.{BreaksOrder, BreaksStep, IsLineFault, IsMisplacedMark, StandsFor, at_bad, at_end, at_line, marks, order, steps}
use Rattle.mc_replay.specs.Laws.{OneJournalFault}
use Rattle.mc_replay.specs.Points.{AllMayStand, KeepsLineRules, MayStand, Point, first_point, point_after, point_behind, turns_in, world_at}
use Rattle.mc_replay.proofs.Lines.{may_next}

-- ---- one line

not_both : {A : Type 0} (o : Option A) → IsSome o → o ≡ None → ⊥
not_both None some none = cc
not_both (Some x) some none = cc

-- a line that may stand breaks no rule
keeps_marks : (point : Point) (line : JournalLine) → KeepsLineRules point line → IsMisplacedMark point line → ⊥
keeps_marks point (Made turn) keeps breaks = breaks
keeps_marks point Settled keeps breaks = breaks (world_at point) keeps

keeps_order : (point : Point) (line : JournalLine) → KeepsLineRules point line → BreaksOrder point line → ⊥
keeps_order point (Made turn) keeps breaks = breaks.1 (keeps.0 breaks.0)
keeps_order point Settled keeps breaks = breaks

keeps_steps : (point : Point) (line : JournalLine) → KeepsLineRules point line → BreaksStep point line → ⊥
keeps_steps point (Made turn) keeps breaks = not_both (step (world_at point) turn) keeps.1 breaks
keeps_steps point Settled keeps breaks = breaks

pub may_or_faulty : (point : Point) (line : JournalLine) (number : ℕ) → MayStand point line → IsLineFault point line number → ⊥
may_or_faulty point line number may (marks (inl none) is) = may.0 none
may_or_faulty point line number may (marks (inr misplaced) is) = keeps_marks point line may.1 misplaced
may_or_faulty point line number may (order not breaks is) = keeps_order point line may.1 breaks
may_or_faulty point line number may (steps not neither breaks is) = keeps_steps point line may.1 breaks

-- a line has one number
one_number : (point : Point) (line : JournalLine) (number other : ℕ) → IsLineFault point line number → IsLineFault point line other → number ≡ other
one_number point line number other (marks breaks is) (marks too same) = is ∙ sym same
one_number point line number other (marks breaks is) (order not too same) = absurd (not breaks)
one_number point line number other (marks breaks is) (steps not neither too same) = absurd (not breaks)
one_number point line number other (order not breaks is) (marks too same) = absurd (not too)
one_number point line number other (order not breaks is) (order nor too same) = is ∙ sym same
one_number point line number other (order not breaks is) (steps nor neither too same) = absurd (neither breaks)
one_number point line number other (steps not neither breaks is) (marks too same) = absurd (not too)
one_number point line number other (steps not neither breaks is) (order nor too same) = absurd (neither too)
one_number point line number other (steps not neither breaks is) (steps nor none too same) = is ∙ sym same

-- ---- one place

-- the same lines, parted twice at the first faulty one
record AreParted (one two : List JournalLine) (here there : JournalLine) : Type 0 where
  before : one ≡ two
  line : here ≡ there

first_is : {A : Type 0} (x y : A) (xs ys : List A) → x ∷ xs ≡ y ∷ ys → x ≡ y
first_is x y xs ys same = cc

rest_is : {A : Type 0} (x y : A) (xs ys : List A) → x ∷ xs ≡ y ∷ ys → xs ≡ ys
rest_is x y xs ys same = cc

parted : (one two others rest : List JournalLine) (here there : JournalLine) (point : Point) (number other : ℕ) → one ++ here ∷ others ≡ two ++ there ∷ rest
    → AllMayStand point one → AllMayStand point two → IsLineFault (point_after point one) here number → IsLineFault (point_after point two) there other → AreParted one two here there
parted [] [] others rest here there point number other same may too fault found = record { before = refl; line = first_is here there others rest same }
parted [] (line ∷ two) others rest here there point number other same may too fault found =
    absurd (may_or_faulty point here number (subst (MayStand point) (sym (first_is here line others (two ++ there ∷ rest) same)) too.0) fault)
parted (line ∷ one) [] others rest here there point number other same may too fault found =
    absurd (may_or_faulty point there other (subst (MayStand point) (first_is line there (one ++ here ∷ others) rest same) may.0) found)
parted (line ∷ one) (first ∷ two) others rest here there point number other same may too fault found =
    let is : line ≡ first = first_is line first (one ++ here ∷ others) (two ++ there ∷ rest) same in
    let again : (AllMayStand (point_behind point line) two) × IsLineFault (point_after (point_behind point line) two) there other =
    subst (λ (l : JournalLine). (AllMayStand (point_behind point l) two) × IsLineFault (point_after (point_behind point l) two) there other) (sym is) (too.1, found) in
    let others_are : AreParted one two here there = parted one two others rest here there (point_behind point line) number other (rest_is line first (one ++ here ∷ others) (two ++ there ∷ rest) same) may.1 again.0 fault again.1 in
    record { before = ap (λ (l : List JournalLine). line ∷ l) others_are.before ∙ ap (λ (l : JournalLine). l ∷ two) is; line = others_are.line }

-- where all lines may stand none is faulty
pub none_faulty : (lines before others : List JournalLine) (line : JournalLine) (point : Point) (number : ℕ) → AllMayStand point lines → lines ≡ before ++ line ∷ others
    → IsLineFault (point_after point before) line number → ⊥
none_faulty lines before others line point number may is fault =
    may_or_faulty (point_after point before) line number (may_next before others line point (subst (AllMayStand point) is may)) fault

pub one_journal_fault : OneJournalFault
one_journal_fault world batches lines bad number turn other_number other_turn (at_line before others line is may fault at) (at_line two rest there same too found here) =
    let parts : AreParted before two line there = parted before two others rest line there (first_point world batches) number other_number (sym is ∙ same) may too fault found in
    let moved : IsLineFault (point_after (first_point world batches) before) line other_number =
    subst (λ (l : List JournalLine). IsLineFault (point_after (first_point world batches) l) line other_number) (sym parts.before)
    (subst (λ (l : JournalLine). IsLineFault (point_after (first_point world batches) two) l other_number) (sym parts.line) found) in
    (one_number (point_after (first_point world batches) before) line number other_number fault moved, at ∙ (ap (λ (l : List JournalLine). turns_in l + 1) parts.before ∙ sym here))
one_journal_fault world batches lines bad number turn other_number other_turn (at_line before others line is may fault at) (at_bad all told same here) =
    absurd (none_faulty lines before others line (first_point world batches) number all is fault)
one_journal_fault world batches lines bad number turn other_number other_turn (at_line before others line is may fault at) (at_end all whole few same here) =
    absurd (none_faulty lines before others line (first_point world batches) number all is fault)
one_journal_fault world batches lines bad number turn other_number other_turn (at_bad all told same at) (at_line before others line is may fault here) =
    absurd (none_faulty lines before others line (first_point world batches) other_number all is fault)
one_journal_fault world batches lines bad number turn other_number other_turn (at_bad all told is at) (at_bad too so same here) = (is ∙ sym same, at ∙ sym here)
one_journal_fault world batches lines bad number turn other_number other_turn (at_bad all told is at) (at_end too whole few same here) = absurd (let both : true ≡ false = sym told ∙ whole in cc)
one_journal_fault world batches lines bad number turn other_number other_turn (at_end all whole few same at) (at_line before others line is may fault here) =
    absurd (none_faulty lines before others line (first_point world batches) other_number all is fault)
one_journal_fault world batches lines bad number turn other_number other_turn (at_end all whole few is at) (at_bad too told same here) = absurd (let both : true ≡ false = sym told ∙ whole in cc)
one_journal_fault world batches lines bad number turn other_number other_turn (at_end all whole few is at) (at_end too nor less same here) = (is ∙ sym same, at ∙ sym here)

-- ---- how many lines stand before it

-- after lines that may all stand comes a faulty one
pub stand_before : (world : WorldState) (batches : List (List Turn)) (lines : List JournalLine) (k : ℕ) (none : JournalLine) (number : ℕ) → k < length lines → AllMayStand (first_point world batches) (take k lines)
    → IsLineFault (point_after (first_point world batches) (take k lines)) (slice_index_or lines k none) number → StandsFor world batches lines k
stand_before world batches lines k none number within may fault =
    let point : Point = first_point world batches in
    record {
      within = omega (arith, within);
      may = may;
      last = λ more all.
          may_or_faulty (point_after point (take k lines)) (slice_index_or lines k none) number
          (may_next (take k lines) [] (slice_index_or lines k none) point (subst (AllMayStand point) (take_more lines k none within) all)) fault;
    }

-- all lines may stand
pub stand_all : (world : WorldState) (batches : List (List Turn)) (lines : List JournalLine) → AllMayStand (first_point world batches) lines → StandsFor world batches lines (length lines)
stand_all world batches lines may = record {
  within = omega arith;
  may = subst (AllMayStand (first_point world batches)) (sym (take_all (length lines) lines (omega arith))) may;
  last = λ more all. absurd (omega (arith, more));
}
