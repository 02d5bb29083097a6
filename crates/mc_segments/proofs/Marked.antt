-- Turns with marks at their ends: one list of ends, a journal, and each turn once.
use Rattle.std.proofs.Common.{◌≡◌, ◌++◌, inl, inr, ℕ, List, [], ◌∷◌, drop, take, append_assoc, refl, ap, sym, ◌∙◌, subst, arith}
use Rattle.std.proofs.lemmas.Bool.{cases_lt}
use Rattle.std.proofs.lemmas.List.{take-append-drop}
use Rattle.mc_box.specs.declared.event.Turn.{Turn}
use Rattle.mc_model.specs.Steps.{after}
use Rattle.mc_model.specs.Worlds.{WorldState}
use Rattle.mc_script.specs.declared.command.JournalLine.{JournalLine}
use Rattle.mc_replay.specs.Journals.{IsJournal, lines_for}
use Rattle.mc_replay.specs.Told.{turns_among}
use Rattle.mc_segments.specs.Ends.{AreEnds, IsFirstEnd, turns_between}
use Rattle.mc_segments.specs.Lines.{last_end, settled_batches, settled_lines}
use Rattle.mc_segments.proofs.Places.{take_between}

-- ---- one list

same_first : (world : WorldState) (turns : List Turn) (from place other : ℕ) → IsFirstEnd world turns from place → IsFirstEnd world turns from other → place ≡ other
same_first world turns from place other one two = elim (cases_lt place other) [
  | inl before ↦ absurd (two.first place before one.is)
  | inr past ↦ elim (cases_lt other place) [
    | inl below ↦ absurd (one.first other below two.is)
    | inr beyond ↦ omega (arith, past, beyond)
  ]
]

pub same_ends : (ends others : List ℕ) (world : WorldState) (turns : List Turn) (from : ℕ) → AreEnds world turns from ends → AreEnds world turns from others → ends ≡ others
same_ends [] [] world turns from one two = refl
same_ends [] (other ∷ others) world turns from one two = absurd (one other two.0.is)
same_ends (place ∷ ends) [] world turns from one two = absurd (two place one.0.is)
same_ends (place ∷ ends) (other ∷ others) world turns from one two =
    let same : place ≡ other = same_first world turns from place other one.0 two.0 in
    let rest : ends ≡ others = same_ends ends others world turns place one.1 (subst (λ (k : ℕ). AreEnds world turns k others) (sym same) two.1) in
    cc

-- ---- a journal

pub journal_from : (ends : List ℕ) (world : WorldState) (turns : List Turn) (from : ℕ) → AreEnds world turns from ends → IsJournal (after world (take from turns)) (settled_batches turns from ends) (settled_lines turns from ends)
journal_from [] world turns from are = refl
journal_from (place ∷ ends) world turns from are =
    (turns_between from place turns, after world (take place turns), settled_lines turns place ends, refl, are.0.is.settles, journal_from ends world turns place are.1)

-- ---- each turn once

-- the turns of a segment, and those of the lines after it
among_lines : (turns : List Turn) (rest : List JournalLine) → turns_among (lines_for turns ++ rest) ≡ turns ++ turns_among rest
among_lines [] rest = refl
among_lines (turn ∷ turns) rest = ap (λ (l : List Turn). turn ∷ l) (among_lines turns rest)

pub once_from : (ends : List ℕ) (world : WorldState) (turns : List Turn) (from : ℕ) → AreEnds world turns from ends → take from turns ++ (turns_among (settled_lines turns from ends) ++ drop (last_end from ends) turns) ≡ turns
once_from [] world turns from are = take-append-drop from turns
once_from (place ∷ ends) world turns from are =
    let first = are.0.is in
    let segment = turns_between from place turns in
    let lines = turns_among (settled_lines turns place ends) in
    let rest = drop (last_end place ends) turns in
    ap (λ (l : List Turn). take from turns ++ (l ++ rest)) (among_lines segment (settled_lines turns place ends))
    ∙ (ap (λ (l : List Turn). take from turns ++ l) (append_assoc segment lines rest)
    ∙ (sym (append_assoc (take from turns) segment (lines ++ rest))
    ∙ (ap (λ (l : List Turn). l ++ (lines ++ rest)) (take_between turns from place (omega (arith, first.later)))
    ∙ once_from ends world turns place are.1)))
