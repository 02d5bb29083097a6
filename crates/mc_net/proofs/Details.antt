-- The lines before a text's first fault, and the line at fault.
use Rattle.std.proofs.Common.{◌≡◌, ℕ, ◌+◌, ◌-◌, ◌<◌, ◌≤◌, List, [], ◌∷◌, None, length, slice_index_or, subst, arith}
use Rattle.mc_lines.specs.Rules.{line_fault}
use Rattle.mc_lines.specs.SoFar.{Declared}
use Rattle.mc_lines.specs.declared.tail.Tail.{Tail}
use Rattle.mc_net.proofs.Reading.{HasRead, all_read, at_place}
use Rattle.mc_net.specs.Texts.{AreSound, IsFault, at_line, at_end, declared_by, fault_at, text_lines}

-- the lines before the fault break no rule
sound_before : (tail : Tail) (text : List ℕ) (number line : ℕ) → IsFault tail text number line → AreSound tail (length text) (text_lines tail text) (line - 1)
sound_before tail text number line (at_line k within sound broken) =
    let same : k ≡ k + 1 - 1 = omega arith in
    subst (λ (n : ℕ). AreSound tail (length text) (text_lines tail text) n) same sound
sound_before tail text number line (at_end sound broken) =
    let same : length (text_lines tail text) ≡ length (text_lines tail text) + 1 - 1 = omega arith in
    subst (λ (n : ℕ). AreSound tail (length text) (text_lines tail text) n) same sound

-- the end is the last line that a fault may have
not_after_end : (tail : Tail) (text : List ℕ) (number line : ℕ) → IsFault tail text number line → line ≤ length (text_lines tail text) + 1
not_after_end tail text number line (at_line k within sound broken) = omega arith
not_after_end tail text number line (at_end sound broken) = omega arith

-- a line before that of the fault breaks no rule
pub sound_here : (tail : Tail) (text : List ℕ) (number at here before : ℕ) (d : Declared) (line : List ℕ) (others : List (List ℕ)) → IsFault tail text number at → HasRead tail text here before d (line ∷ others) → here < at
    → line_fault (length text) before d line ≡ None
sound_here tail text number at here before d line others fault read earlier =
    let place : slice_index_or (text_lines tail text) read.count [] ≡ line = at_place (text_lines tail text) line others read.count [] read.rest in
    let counted = read.numbered in
    let sound : fault_at tail (length text) (text_lines tail text) read.count ≡ None = sound_before tail text number at fault read.count (omega arith) in
    rw (← place, read.counted, read.declared) sound

-- where all lines before the fault were read and none is left, they declare what is declared there
pub declared_at_end : (tail : Tail) (text : List ℕ) (number at here before : ℕ) (d : Declared) → IsFault tail text number at → HasRead tail text here before d [] → here ≤ at
    → d ≡ declared_by tail (text_lines tail text) (at - 1)
declared_at_end tail text number at here before d fault read most =
    let all : read.count ≡ length (text_lines tail text) = all_read (text_lines tail text) read.count read.rest read.so_far in
    let counted = read.numbered in
    let last = not_after_end tail text number at fault in
    let same : read.count ≡ at - 1 = omega arith in
    subst (λ (n : ℕ). d ≡ declared_by tail (text_lines tail text) n) same read.declared
