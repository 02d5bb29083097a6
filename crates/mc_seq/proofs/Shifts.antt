-- Shifts and rounds of retries are few.
use Rattle.std.proofs.Common.{◌≡◌, ◌<◌, ◌≤◌, ◌+◌, ◌-◌, ◌*◌, ◌++◌, ◌==◌, ◌&&◌, ◌||◌, inl, inr, cond, if◌then◌else◌, nat_lt, ℕ, zero, suc, Bool, true, false, List, [], ◌∷◌, length, count_by, replicate, sum, Some, refl, ap, sym, ◌∙◌, arith}
use Rattle.std.specs.Prelude.{slice_index_or}
use Rattle.std.specs.List.{list_all}
use Rattle.std.proofs.Math.ListN.{get_or, set}
use Rattle.std.proofs.lemmas.Bool.{and_parts, cases_eq}
use Rattle.std.proofs.lemmas.Grind.{common_steps}
use Rattle.std.proofs.lemmas.List.{get_or-set_same, get_or-set_other}
use Rattle.std.proofs.lemmas.List.Sums.{sum_by-append, sum_by-cons}
use Rattle.mc_box.specs.BoxEvents.{is_command, is_enabled, is_shift}
use Rattle.mc_box.specs.declared.event.Event.{Event}
use Rattle.mc_box.specs.declared.event.Event.TheVariants.{Take, Set, Media, Tell, Retry, Shift}
use Rattle.mc_box.specs.declared.event.Turn.{Turn}
use Rattle.mc_model.specs.Settles.{takes_or_retries, is_shift_of}
use Rattle.mc_model.specs.Worlds.{WorldState, box_at}
use Rattle.mc_seq.specs.Drawing.{turns_of_programs}
use Rattle.mc_seq.specs.Draws.{RoundsAreFew, ShiftsAreFew}
use Rattle.mc_seq.specs.Retries.{retries_by_box}
use Rattle.mc_seq.specs.Schedule.{AreDrawn, Goes, ScheduleState, drawn_turn, due_after, first_schedule, shifts_by, schedule_after}
use Rattle.mc_box.specs.declared.limit.TheConstants.{SHIFT_LIMIT}
use Rattle.mc_seq.proofs.AllowedCommands.{left_pass, next_pass}
use Rattle.mc_seq.proofs.Candidates.{IsTakeOrShift, drawn_listed}
use Rattle.mc_seq.proofs.Retries.{boxes_besides}
use Rattle.mc_seq.proofs.Scheduled.{allowed_commands, drawn_pass, is_ordered}
use Rattle.mc_seq.proofs.Segments.{all_besides}

-- ---- a drawn Shift

-- a command is no Shift
command_apart : (event : Event) → is_command event ≡ true → is_shift event ≡ true → ⊥
command_apart (Take local) one two = cc
command_apart (Set change) one two = cc
command_apart (Media change) one two = cc
command_apart (Tell word) one two = cc
command_apart (Retry local) one two = cc
command_apart Shift one two = cc

-- by the test a number is above 0
above_by : (n : ℕ) → nat_lt 0 n ≡ true → 0 < n
above_by n is = grind (arith, common_steps)

-- what is listed beside commands, and is a Shift, is one that its box may make
other_spare : (world : WorldState) (shifts : List ℕ) (turn : Turn) → IsTakeOrShift world shifts turn → is_shift turn.event ≡ true → 0 < slice_index_or shifts turn.who 0
other_spare world shifts turn is shift = elim is [
  | inl take ↦ absurd (let none : is_shift turn.event ≡ false = ap is_shift take.event in cc (none, shift))
  | inr one ↦ above_by (slice_index_or shifts turn.who 0) (and_parts (nat_lt 0 (slice_index_or shifts turn.who 0)) (is_enabled (box_at world turn.who) Shift) one.may).0
]

-- so is a drawn Shift
pub drawn_spare : (now : ScheduleState) (turn : Turn) → list_all is_ordered now.left ≡ true → drawn_turn now ≡ Some turn → is_shift turn.event ≡ true → 0 < slice_index_or now.shifts turn.who 0
drawn_spare now turn all is shift = elim (drawn_listed now turn is) [
  | inl next ↦ absurd (command_apart turn.event (next_pass is_ordered turn.who now.left turn all next) shift)
  | inr other ↦ other_spare now.world now.shifts turn other.1 shift
]

-- ---- what may still come of programs

-- one number of a list is one less
sum_less : (xs : List ℕ) (k : ℕ) → 0 < get_or xs k 0 → sum (set xs k (get_or xs k 0 - 1)) + 1 ≡ sum xs
sum_less [] k some = absurd (omega arith)
sum_less (x ∷ xs) zero some =
    let new : sum ((x - 1) ∷ xs) ≡ (x - 1) + sum xs = sum_by-cons (λ (n : ℕ). n) (x - 1) xs in
    let old : sum (x ∷ xs) ≡ x + sum xs = sum_by-cons (λ (n : ℕ). n) x xs in
    omega arith
sum_less (x ∷ xs) (suc k) some =
    let rest = sum_less xs k some in
    let new : sum (x ∷ set xs k (get_or xs k 0 - 1)) ≡ x + sum (set xs k (get_or xs k 0 - 1)) = sum_by-cons (λ (n : ℕ). n) x (set xs k (get_or xs k 0 - 1)) in
    let old : sum (x ∷ xs) ≡ x + sum xs = sum_by-cons (λ (n : ℕ). n) x xs in
    omega arith

-- 1 where a round is due
abbrev pub owed : Bool → ℕ
owed due = if due then 1 else 0

one_at_most : (due : Bool) → owed due ≤ 1
one_at_most true = omega arith
one_at_most false = omega arith

-- a Shift lowers it
shift_lowers : (b : Bool) (who : ℕ) (shifts : List ℕ) (due : Bool) → b ≡ true → 0 < get_or shifts who 0
    → 2 * sum (if b then set shifts who (get_or shifts who 0 - 1) else shifts) + owed (b || due) < 2 * sum shifts + owed due
shift_lowers true who shifts due is some = let less = sum_less shifts who some in let most = one_at_most due in omega arith
shift_lowers false who shifts due is some = absurd (cc)

-- another turn leaves it
other_leaves : (b : Bool) (who : ℕ) (shifts : List ℕ) (due : Bool) → b ≡ false
    → 2 * sum (if b then set shifts who (get_or shifts who 0 - 1) else shifts) + owed (b || due) ≡ 2 * sum shifts + owed due
other_leaves true who shifts due is = absurd (cc)
other_leaves false who shifts due is = refl

-- so no drawn turn raises it, and a Shift lowers it
pub drawn_lowers : (now : ScheduleState) (turn : Turn) (next : WorldState) → list_all is_ordered now.left ≡ true → drawn_turn now ≡ Some turn → is_shift turn.event ≡ true
    → turns_of_programs (schedule_after now turn next) < turns_of_programs now
drawn_lowers now turn next all is shift = shift_lowers (is_shift turn.event) turn.who now.shifts now.due shift (drawn_spare now turn all is shift)

drawn_leaves : (now : ScheduleState) (turn : Turn) (next : WorldState) → is_shift turn.event ≡ false → turns_of_programs (schedule_after now turn next) ≡ turns_of_programs now
drawn_leaves now turn next apart = other_leaves (is_shift turn.event) turn.who now.shifts now.due apart

drawn_less : (b : Bool) (now : ScheduleState) (turn : Turn) (next : WorldState) → is_shift turn.event ≡ b → list_all is_ordered now.left ≡ true → drawn_turn now ≡ Some turn
    → turns_of_programs (schedule_after now turn next) ≤ turns_of_programs now
drawn_less true now turn next is all drawn = let less = drawn_lowers now turn next all drawn is in omega arith
drawn_less false now turn next is all drawn = let same = drawn_leaves now turn next is in omega arith

pub draws_fewer : (turns : List Turn) (now last : ScheduleState) → list_all is_ordered now.left ≡ true → AreDrawn now turns last → turns_of_programs last ≤ turns_of_programs now
draws_fewer [] now last all draws = let same : turns_of_programs now ≡ turns_of_programs last = ap turns_of_programs draws in omega arith
draws_fewer (turn ∷ turns) now last all draws =
    let one = drawn_less (is_shift turn.event) now turn draws.0 refl all draws.2 in
    let rest = draws_fewer turns (schedule_after now turn draws.0) last (left_pass is_ordered turn now.left all) draws.4 in
    omega arith

-- ---- the Shifts of a box

-- a turn more
count_more : (p : Turn → Bool) (turn : Turn) (turns : List Turn) → count_by p (turn ∷ turns) ≡ cond (p turn) 1 0 + count_by p turns
count_more p turn turns = sum_by-cons (λ (t : Turn). cond (p t) 1 0) turn turns

-- turns after turns
count_both : (p : Turn → Bool) (one two : List Turn) → count_by p (one ++ two) ≡ count_by p one + count_by p two
count_both p one two = sum_by-append (λ (t : Turn). cond (p t) 1 0) one two

-- past the end there is 0
spare_there : (xs : List ℕ) (k : ℕ) → 0 < get_or xs k 0 → k < length xs
spare_there [] k some = absurd (omega arith)
spare_there (x ∷ xs) zero some = omega arith
spare_there (x ∷ xs) (suc k) some = let rest = spare_there xs k some in omega arith

same_test : (a b : ℕ) → a ≡ b → (a == b) ≡ true
same_test a b is = grind (arith, common_steps)

apart_test : (a b : ℕ) → (a ≡ b → ⊥) → (a == b) ≡ false
apart_test a b apart = grind (arith, common_steps)

-- a Shift is one fewer of its own box
one_here : (at who : ℕ) (shifts : List ℕ) → 0 < get_or shifts at 0 → get_or (set shifts at (get_or shifts at 0 - 1)) who 0 + cond (at == who) 1 0 ≡ get_or shifts who 0
one_here at who shifts spare = elim (cases_eq at who) [
  | inl same ↦
      let here : get_or (set shifts at (get_or shifts at 0 - 1)) at 0 ≡ get_or shifts at 0 - 1 = get_or-set_same shifts at (get_or shifts at 0 - 1) 0 (spare_there shifts at spare) in
      let there : get_or (set shifts at (get_or shifts at 0 - 1)) who 0 ≡ get_or (set shifts at (get_or shifts at 0 - 1)) at 0 = ap (λ (w : ℕ). get_or (set shifts at (get_or shifts at 0 - 1)) w 0) (sym same) in
      let was : get_or shifts who 0 ≡ get_or shifts at 0 = ap (λ (w : ℕ). get_or shifts w 0) (sym same) in
      one_by (at == who) (get_or (set shifts at (get_or shifts at 0 - 1)) who 0) (get_or shifts who 0) (same_test at who same) (omega arith)
  | inr apart ↦
      none_by (at == who) (get_or (set shifts at (get_or shifts at 0 - 1)) who 0) (get_or shifts who 0) (apart_test at who apart)
      (get_or-set_other shifts at who (get_or shifts at 0 - 1) 0 (λ same. apart (sym same)))
]
  where
    one_by : (b : Bool) (n m : ℕ) → b ≡ true → n + 1 ≡ m → n + cond b 1 0 ≡ m
    one_by true n m is one = one
    one_by false n m is one = absurd (cc)

    none_by : (b : Bool) (n m : ℕ) → b ≡ false → n ≡ m → n + cond b 1 0 ≡ m
    none_by true n m is same = absurd (cc)
    none_by false n m is same = omega arith

one_spent : (b : Bool) (at who : ℕ) (shifts : List ℕ) → (b ≡ true → 0 < get_or shifts at 0)
    → get_or (if b then set shifts at (get_or shifts at 0 - 1) else shifts) who 0 + cond (b && at == who) 1 0 ≡ get_or shifts who 0
one_spent false at who shifts some = same_sum (get_or shifts who 0)
  where
    same_sum : (n : ℕ) → n + 0 ≡ n
    same_sum n = omega arith
one_spent true at who shifts some = one_here at who shifts (some refl)

-- what a box has made and what it may make are what it might make
pub drawn_spent : (turns : List Turn) (now last : ScheduleState) (who : ℕ) → list_all is_ordered now.left ≡ true → AreDrawn now turns last
    → slice_index_or last.shifts who 0 + count_by (is_shift_of who) turns ≡ slice_index_or now.shifts who 0
drawn_spent [] now last who all draws = let same : slice_index_or now.shifts who 0 ≡ slice_index_or last.shifts who 0 = ap (λ (s : ScheduleState). slice_index_or s.shifts who 0) draws in omega arith
drawn_spent (turn ∷ turns) now last who all draws =
    let rest = drawn_spent turns (schedule_after now turn draws.0) last who (left_pass is_ordered turn now.left all) draws.4 in
    let one : slice_index_or (shifts_by turn now.shifts) who 0 + cond (is_shift_of who turn) 1 0 ≡ slice_index_or now.shifts who 0
    = one_spent (is_shift turn.event) turn.who who now.shifts (drawn_spare now turn all draws.2) in
    let more = count_more (is_shift_of who) turn turns in
    omega arith

-- retries hold no Shift
no_shift_by : (event : Event) → takes_or_retries event ≡ true → is_shift event ≡ false
no_shift_by (Take local) is = refl
no_shift_by (Retry local) is = refl
no_shift_by (Set change) is = absurd (cc)
no_shift_by (Media change) is = absurd (cc)
no_shift_by (Tell word) is = absurd (cc)
no_shift_by Shift is = absurd (cc)

none_more : (b : Bool) (n m : ℕ) → b ≡ false → n ≡ cond b 1 0 + m → m ≡ 0 → n ≡ 0
none_more true n m is more rest = absurd (cc)
none_more false n m is more rest = omega arith

none_counted : (turns : List Turn) (who : ℕ) → all_besides turns ≡ true → count_by (is_shift_of who) turns ≡ 0
none_counted [] who all = refl
none_counted (turn ∷ turns) who all =
    let parts = and_parts (takes_or_retries turn.event) (all_besides turns) all in
    none_more (is_shift_of who turn) (count_by (is_shift_of who) (turn ∷ turns)) (count_by (is_shift_of who) turns)
    (ap (λ (b : Bool). b && turn.who == who) (no_shift_by turn.event parts.0)) (count_more (is_shift_of who) turn turns) (none_counted turns who parts.1)

pub goes_spent : (rounds : ℕ) (turns : List Turn) (now last : ScheduleState) (who : ℕ) → list_all is_ordered now.left ≡ true → Goes rounds now turns last
    → slice_index_or last.shifts who 0 + count_by (is_shift_of who) turns ≡ slice_index_or now.shifts who 0
goes_spent zero turns now last who all goes = drawn_spent turns now last who all goes
goes_spent (suc rounds) turns now last who all (first, rest, still, next, are, drew, round, more) =
    let owes : List Turn = retries_by_box still.world in
    let p : Turn → Bool = is_shift_of who in
    let begun : slice_index_or still.shifts who 0 + count_by (is_shift_of who) first ≡ slice_index_or now.shifts who 0 = drawn_spent first now still who all drew in
    let ordered : list_all is_ordered next.left ≡ true = ap (λ (s : ScheduleState). list_all is_ordered s.left) round.then_not ∙ drawn_pass is_ordered first now still all drew in
    let behind : slice_index_or last.shifts who 0 + count_by (is_shift_of who) rest ≡ slice_index_or next.shifts who 0 = goes_spent rounds rest next last who ordered more in
    let same : slice_index_or next.shifts who 0 ≡ slice_index_or still.shifts who 0 = ap (λ (s : ScheduleState). slice_index_or s.shifts who 0) round.then_not in
    let none : count_by (is_shift_of who) owes ≡ 0 = none_counted owes who (boxes_besides still.world (length still.world.boxes)) in
    let one : count_by (is_shift_of who) turns ≡ count_by (is_shift_of who) (first ++ (owes ++ rest)) = ap (count_by (is_shift_of who)) are in
    let two : count_by (is_shift_of who) (first ++ (owes ++ rest)) ≡ count_by (is_shift_of who) first + count_by (is_shift_of who) (owes ++ rest) = count_both (is_shift_of who) first (owes ++ rest) in
    let three : count_by (is_shift_of who) (owes ++ rest) ≡ count_by (is_shift_of who) owes + count_by (is_shift_of who) rest = count_both (is_shift_of who) owes rest in
    omega arith

-- each number of a list of so many is that number, or 0 past its end
same_or_none : (n k x : ℕ) → get_or (replicate n x) k 0 ≤ x
same_or_none zero k x = omega arith
same_or_none (suc n) zero x = omega arith
same_or_none (suc n) (suc k) x = same_or_none n k x

pub same_within : (n k x : ℕ) → k < n → get_or (replicate n x) k 0 ≡ x
same_within zero k x inside = absurd (omega arith)
same_within (suc n) zero x inside = refl
same_within (suc n) (suc k) x inside = same_within n k x (omega arith)

pub shifts_are_few : ShiftsAreFew
shifts_are_few world batch turns state rounds last allowed goes who =
    let spent = goes_spent rounds turns (first_schedule world batch state) last who (allowed_commands batch world allowed) goes in
    let most : slice_index_or (replicate (length world.boxes) SHIFT_LIMIT) who 0 ≤ SHIFT_LIMIT = same_or_none (length world.boxes) who SHIFT_LIMIT in
    omega arith

-- ---- rounds

abbrev any_shift : Turn → Bool
any_shift turn = is_shift turn.event

-- a Shift makes a round due
due_once : (b due : Bool) → owed (b || due) ≤ owed due + cond b 1 0
due_once true due = omega arith
due_once false due = omega arith

drawn_due : (turns : List Turn) (now last : ScheduleState) → AreDrawn now turns last → owed last.due ≤ owed now.due + count_by any_shift turns
drawn_due [] now last draws = let same : owed now.due ≡ owed last.due = ap (λ (s : ScheduleState). owed s.due) draws in omega arith
drawn_due (turn ∷ turns) now last draws =
    let rest = drawn_due turns (schedule_after now turn draws.0) last draws.4 in
    let one : owed (due_after turn now.due) ≤ owed now.due + cond (is_shift turn.event) 1 0 = due_once (is_shift turn.event) now.due in
    let more = count_more any_shift turn turns in
    omega arith

-- so rounds are no more than were due and Shifts
rounds_by : (rounds : ℕ) (turns : List Turn) (now last : ScheduleState) → Goes rounds now turns last → rounds ≤ count_by any_shift turns + owed now.due
rounds_by zero turns now last goes = omega arith
rounds_by (suc rounds) turns now last (first, rest, still, next, are, drew, round, more) =
    let owes : List Turn = retries_by_box still.world in
    let begun : owed still.due ≤ owed now.due + count_by any_shift first = drawn_due first now still drew in
    let behind : rounds ≤ count_by any_shift rest + owed next.due = rounds_by rounds rest next last more in
    let was : owed still.due ≡ 1 = ap owed round.was_due in
    let none : owed next.due ≡ 0 = ap (λ (s : ScheduleState). owed s.due) round.then_not in
    let one : count_by any_shift turns ≡ count_by any_shift (first ++ (owes ++ rest)) = ap (count_by any_shift) are in
    let two : count_by any_shift (first ++ (owes ++ rest)) ≡ count_by any_shift first + count_by any_shift (owes ++ rest) = count_both any_shift first (owes ++ rest) in
    let three : count_by any_shift (owes ++ rest) ≡ count_by any_shift owes + count_by any_shift rest = count_both any_shift owes rest in
    omega arith

pub rounds_are_few : RoundsAreFew
rounds_are_few world batch turns state rounds last goes = rounds_by rounds turns (first_schedule world batch state) last goes
