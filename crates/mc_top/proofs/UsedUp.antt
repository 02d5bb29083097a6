-- Turns by the schedule that leave no command make all commands of their batch.
use Rattle.std.proofs.Common.{◌≡◌, ◌≤◌, ◌+◌, ◌==◌, ◌&&◌, ◌++◌, if◌then◌else◌, ℕ, zero, suc, Bool, true, false, List, [], ◌∷◌, length, refl, ap, sym, ◌∙◌, subst, arith}
use Rattle.std.proofs.lemmas.Grind.{common_steps}
use Rattle.std.proofs.lemmas.List.{take_all}
use Rattle.mc_box.specs.BoxEvents.{is_command}
use Rattle.mc_box.specs.declared.event.Turn.{Turn}
use Rattle.mc_model.specs.Settles.{IsStopped, commands_of}
use Rattle.mc_model.specs.Worlds.{WorldState}
use Rattle.mc_seq.specs.Retries.{retries_by_box}
use Rattle.mc_seq.specs.Schedule.{AreDrawn, Goes, MakesRound, ScheduleState, first_schedule, schedule_after, without_next}

-- how many of the turns are commands of a box
abbrev count_of : ℕ → List Turn → ℕ
count_of who turns = length (commands_of who turns)

-- one where something is so
abbrev one_if : Bool → ℕ
one_if b = if b then 1 else 0

one_head : (b : Bool) (t : Turn) (xs : List Turn) → length (if b then t ∷ xs else xs) ≡ one_if b + length xs
one_head true t xs = omega arith
one_head false t xs = omega arith

head_at : (command at : Bool) (t : Turn) (xs : List Turn) → length (if command && at then t ∷ xs else xs) ≤ one_if at + length xs
head_at true true t xs = omega arith
head_at true false t xs = omega arith
head_at false true t xs = omega arith
head_at false false t xs = omega arith

same_number : (a b : ℕ) → (a == b) ≡ true → a ≡ b
same_number a b is = grind (arith, common_steps)

-- without the next turn of a box there is at most one command fewer of that box, and none fewer of the others
without_by : (here : Bool) (who w : ℕ) (t : Turn) (left less : List Turn) → (t.who == w) ≡ here → count_of who left ≤ one_if (w == who) + count_of who less
    → count_of who (t ∷ left) ≤ one_if (w == who) + count_of who (if here then left else t ∷ less)
without_by true who w t left less is fewer =
    subst (λ (v : ℕ). count_of who (t ∷ left) ≤ one_if (v == who) + count_of who left) (same_number t.who w is) (head_at (is_command t.event) (t.who == who) t (commands_of who left))
without_by false who w t left less is fewer =
    let one = one_head (is_command t.event && t.who == who) t (commands_of who left) in
    let other = one_head (is_command t.event && t.who == who) t (commands_of who less) in
    omega arith

without_count : (left : List Turn) (who w : ℕ) → count_of who left ≤ one_if (w == who) + count_of who (without_next w left)
without_count [] who w = omega arith
without_count (t ∷ left) who w = without_by (t.who == w) who w t left (without_next w left) refl (without_count left who w)

-- so a turn lets no command go but itself
turn_by : (command : Bool) (turn : Turn) (left : List Turn) (who : ℕ) → count_of who left ≤ one_if (command && turn.who == who) + count_of who (if command then without_next turn.who left else left)
turn_by true turn left who = without_count left who turn.who
turn_by false turn left who = omega arith

-- nor do drawn turns
drawn_counts : (turns : List Turn) (now last : ScheduleState) (who : ℕ) → AreDrawn now turns last → count_of who now.left ≤ count_of who turns + count_of who last.left
drawn_counts [] now last who draws = subst (λ (s : ScheduleState). count_of who now.left ≤ 0 + count_of who s.left) draws (omega arith)
drawn_counts (turn ∷ turns) now last who draws =
    let here = turn_by (is_command turn.event) turn now.left who in
    let later = drawn_counts turns (schedule_after now turn draws.0) last who draws.4 in
    let apart = one_head (is_command turn.event && turn.who == who) turn (commands_of who turns) in
    omega arith

-- those of two lists are those of each
both_counts : (one two : List Turn) (who : ℕ) → count_of who (one ++ two) ≡ count_of who one + count_of who two
both_counts [] two who = omega arith
both_counts (turn ∷ one) two who =
    let here = one_head (is_command turn.event && turn.who == who) turn (commands_of who one) in
    let all = one_head (is_command turn.event && turn.who == who) turn (commands_of who (one ++ two)) in
    let later = both_counts one two who in
    omega arith

-- a round lets none go
round_counts : (still next : ScheduleState) (who : ℕ) → MakesRound still next → count_of who still.left ≡ count_of who next.left
round_counts still next who round = sym (ap (λ (s : ScheduleState). count_of who s.left) round.then_not)

-- nor do rounds with drawn turns before and after them
goes_counts : (rounds : ℕ) (turns : List Turn) (now last : ScheduleState) (who : ℕ) → Goes rounds now turns last → count_of who now.left ≤ count_of who turns + count_of who last.left
goes_counts zero turns now last who goes = drawn_counts turns now last who goes
goes_counts (suc rounds) turns now last who (first, rest, still, next, is, draws, round, later) =
    let before = drawn_counts first now still who draws in
    let same = round_counts still next who round in
    let behind = goes_counts rounds rest next last who later in
    let all : count_of who turns ≡ count_of who first + count_of who (retries_by_box still.world ++ rest) = ap (count_of who) is ∙ both_counts first (retries_by_box still.world ++ rest) who in
    let others = both_counts (retries_by_box still.world) rest who in
    omega arith

-- so where none is left all were made
pub used_up : (world : WorldState) (batch turns : List Turn) (state rounds : ℕ) (last : ScheduleState) → Goes rounds (first_schedule world batch state) turns last → last.left ≡ [] → IsStopped world batch turns last.world
    → (who : ℕ) → commands_of who turns ≡ commands_of who batch
used_up world batch turns state rounds last goes none stopped who =
    let counts = goes_counts rounds turns (first_schedule world batch state) last who goes in
    let empty : count_of who last.left ≡ 0 = ap (count_of who) none in
    stopped.commands who ∙ take_all (count_of who turns) (commands_of who batch) (omega arith)
