-- Where a journal stands after two lists of lines, and how many lines there are.
use Rattle.std.proofs.Common.{◌≡◌, ◌+◌, ◌++◌, List, [], ◌∷◌, cond, length, refl, arith}
use Rattle.std.proofs.lemmas.List.Sums.{sum_by-cons}
use Rattle.mc_script.specs.declared.command.JournalLine.{JournalLine}
use Rattle.mc_script.specs.declared.command.JournalLine.TheVariants.{Turn as Made, Settled}
use Rattle.mc_replay.specs.Points.{AllMayStand, MayStand, Point, is_mark, is_turn, marks_in, point_after, point_behind, turns_in}

pub after_both : (one two : List JournalLine) (point : Point) → point_after point (one ++ two) ≡ point_after (point_after point one) two
after_both [] two point = refl
after_both (line ∷ one) two point = after_both one two (point_behind point line)

pub may_both : (one two : List JournalLine) (point : Point) → AllMayStand point one → AllMayStand (point_after point one) two → AllMayStand point (one ++ two)
may_both [] two point first second = second
may_both (line ∷ one) two point first second = (first.0, may_both one two (point_behind point line) first.1 second)

-- the first line after some that may all stand
pub may_next : (one others : List JournalLine) (line : JournalLine) (point : Point) → AllMayStand point (one ++ line ∷ others) → MayStand (point_after point one) line
may_next [] others line point all = all.0
may_next (first ∷ one) others line point all = may_next one others line (point_behind point first) all.1

-- each line is a turn or a mark
pub turns_and_marks : (lines : List JournalLine) → turns_in lines + marks_in lines ≡ length lines
turns_and_marks [] = refl
turns_and_marks (Made turn ∷ lines) =
    let rest : turns_in lines + marks_in lines ≡ length lines = turns_and_marks lines in
    let turns : turns_in (Made turn ∷ lines) ≡ 1 + turns_in lines = sum_by-cons (λ (l : JournalLine). cond (is_turn l) 1 0) (Made turn) lines in
    let marks : marks_in (Made turn ∷ lines) ≡ 0 + marks_in lines = sum_by-cons (λ (l : JournalLine). cond (is_mark l) 1 0) (Made turn) lines in
    omega (arith, rest, turns, marks)
turns_and_marks (Settled ∷ lines) =
    let rest : turns_in lines + marks_in lines ≡ length lines = turns_and_marks lines in
    let turns : turns_in (Settled ∷ lines) ≡ 0 + turns_in lines = sum_by-cons (λ (l : JournalLine). cond (is_turn l) 1 0) Settled lines in
    let marks : marks_in (Settled ∷ lines) ≡ 1 + marks_in lines = sum_by-cons (λ (l : JournalLine). cond (is_mark l) 1 0) Settled lines in
    omega (arith, rest, turns, marks)
