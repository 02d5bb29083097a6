-- How many lines of a journal may stand is one number, and where a fault is they are the lines before it.
use Rattle.std.proofs.Common.{◌≡◌, ◌≤◌, ◌<◌, ◌+◌, ◌++◌, ◌∙◌, ℕ, zero, suc, List, [], ◌∷◌, length, take, refl, ap, sym, subst, arith}
use Rattle.std.proofs.lemmas.List.{length-append, take_all}
use Rattle.mc_box.specs.declared.event.Turn.{Turn}
use Rattle.mc_model.specs.Worlds.{WorldState}
use Rattle.mc_script.specs.declared.command.JournalLine.{JournalLine}
use Rattle.mc_replay.specs.Faults.{IsLineFault, StandsFor, at_bad, at_end, at_line}
use Rattle.mc_replay.specs.Laws.{FaultsStandThere, OnePlace}
use Rattle.mc_replay.specs.Points.{AllMayStand, Point, first_point, point_after, point_behind, turns_in}
use Rattle.mc_replay.proofs.Faults.{may_or_faulty, stand_all}
use Rattle.mc_replay.proofs.Lines.{may_next}

-- of lines that may all stand fewer may, too
fewer_stand : (point : Point) (lines : List JournalLine) (few many : ℕ) → few ≤ many → AllMayStand point (take many lines) → AllMayStand point (take few lines)
fewer_stand point [] zero many less all = tt
fewer_stand point [] (suc few) many less all = tt
fewer_stand point (line ∷ lines) zero many less all = tt
fewer_stand point (line ∷ lines) (suc few) zero less all = absurd (omega (arith, less))
fewer_stand point (line ∷ lines) (suc few) (suc many) less all = (all.0, fewer_stand (point_behind point line) lines few many (omega (arith, less)) all.1)

-- so no greater number may stand
no_more : (world : WorldState) (batches : List (List Turn)) (lines : List JournalLine) (count other : ℕ) → StandsFor world batches lines count → StandsFor world batches lines other → count < other → ⊥
no_more world batches lines count other one two less =
    one.last (omega (arith, less, two.within)) (fewer_stand (first_point world batches) lines (count + 1) other (omega (arith, less)) two.may)

pub one_place : OnePlace
one_place world batches lines count other one two =
    let up : count < other → ⊥ = no_more world batches lines count other one two in
    let down : other < count → ⊥ = no_more world batches lines other count two one in
    grind (arith, up, down)

-- ---- the lines before a fault

take_front : (before others : List JournalLine) → take (length before) (before ++ others) ≡ before
take_front [] [] = refl
take_front [] (line ∷ others) = refl
take_front (line ∷ before) others = ap (λ (l : List JournalLine). line ∷ l) (take_front before others)

take_with : (before others : List JournalLine) (line : JournalLine) → take (suc (length before)) (before ++ line ∷ others) ≡ before ++ line ∷ []
take_with [] [] line = refl
take_with [] (other ∷ others) line = refl
take_with (first ∷ before) others line = ap (λ (l : List JournalLine). first ∷ l) (take_with before others line)

one_suc : (n : ℕ) → n + 1 ≡ suc n
one_suc n = omega arith

-- the lines before a faulty one may stand, and no more
stand_to : (world : WorldState) (batches : List (List Turn)) (before others : List JournalLine) (line : JournalLine) (number : ℕ) → AllMayStand (first_point world batches) before
    → IsLineFault (point_after (first_point world batches) before) line number → StandsFor world batches (before ++ line ∷ others) (length before)
stand_to world batches before others line number may fault = record {
  within = omega (arith, length-append before (line ∷ others));
  may = subst (AllMayStand (first_point world batches)) (sym (take_front before (line ∷ others))) may;
  last = λ more all.
      may_or_faulty (point_after (first_point world batches) before) line number
      (may_next before [] line (first_point world batches)
      (subst (AllMayStand (first_point world batches)) (ap (λ (n : ℕ). take n (before ++ line ∷ others)) (one_suc (length before)) ∙ take_with before others line) all))
      fault;
}

-- the turns among all lines
turns_all : (lines : List JournalLine) → turns_in (take (length lines) lines) ≡ turns_in lines
turns_all lines = ap turns_in (take_all (length lines) lines (omega arith))

pub faults_stand_there : FaultsStandThere
faults_stand_there world batches lines bad number turn count (at_line before others line is may fault at) stands =
    let here : StandsFor world batches (before ++ line ∷ others) (length before) = stand_to world batches before others line number may fault in
    let same : count ≡ length before = one_place world batches lines count (length before) stands (subst (λ (l : List JournalLine). StandsFor world batches l (length before)) (sym is) here) in
    let front : take count lines ≡ before = ap (λ (n : ℕ). take n lines) same ∙ ap (λ (l : List JournalLine). take (length before) l) is ∙ take_front before (line ∷ others) in
    at ∙ ap (λ (l : List JournalLine). turns_in l + 1) (sym front)
faults_stand_there world batches lines bad number turn count (at_bad all told is at) stands =
    let same : count ≡ length lines = one_place world batches lines count (length lines) stands (stand_all world batches lines all) in
    at ∙ ap (λ (n : ℕ). n + 1) (sym (turns_all lines) ∙ ap (λ (n : ℕ). turns_in (take n lines)) (sym same))
faults_stand_there world batches lines bad number turn count (at_end all whole few is at) stands =
    let same : count ≡ length lines = one_place world batches lines count (length lines) stands (stand_all world batches lines all) in
    at ∙ ap (λ (n : ℕ). n + 1) (sym (turns_all lines) ∙ ap (λ (n : ℕ). turns_in (take n lines)) (sym same))
