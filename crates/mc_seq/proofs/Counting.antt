-- Shifts among the candidates, and their counts: where no box has a program, and where one has.
use Rattle.std.proofs.Common.{◌≡◌, ◌≢◌, ◌<◌, ◌≤◌, ◌+◌, ◌-◌, ◌++◌, ◌==◌, ◌&&◌, ◌||◌, inl, inr, cond, if◌then◌else◌, nat_lt, ℕ, zero, suc, Bool, true, false, List, [], ◌∷◌, length, replicate, sum, take, slice_get, Option, Some, None, length-append, append-nil, refl, ap, sym, ◌∙◌, subst, arith}
use Rattle.std.specs.Prelude.{slice_index_or}
use Rattle.std.specs.List.{list_any}
use Rattle.std.specs.Option.{option_and_then, option_to_list}
use Rattle.std.proofs.Math.ListN.{get_or, set, length-set}
use Rattle.std.proofs.lemmas.Bool.{cases_eq}
use Rattle.std.proofs.lemmas.Grind.{common_steps}
use Rattle.std.proofs.lemmas.List.{get_or-set_same, get_or-set_other}
use Rattle.mc_box.specs.BoxEvents.{is_command, is_enabled, is_shift}
use Rattle.mc_box.specs.Boxes.{BoxState, no_box}
use Rattle.mc_box.specs.declared.event.Event.TheVariants.{Shift}
use Rattle.mc_box.specs.declared.event.Turn.{Turn}
use Rattle.mc_laws.proofs.NoPrograms.{run_makes_no_shift, still_none}
use Rattle.mc_laws.proofs.ShapesKept.{run_keeps_shape, step_keeps_shape}
use Rattle.mc_laws.proofs.StepActs.{step_acts}
use Rattle.mc_model.specs.Settles.{can_shift}
use Rattle.mc_model.specs.Sound.{IsSound}
use Rattle.mc_model.specs.Steps.{run, step, step_by}
use Rattle.mc_model.specs.Unprogrammed.{HasNoPrograms}
use Rattle.mc_model.specs.Worlds.{WorldState, box_at}
use Rattle.mc_world.specs.Waiting.{CountsTakes}
use Rattle.mc_signal.specs.Own.{address_of}
use Rattle.mc_seq.specs.ForEach.{for_each}
use Rattle.mc_seq.specs.Ready.{CountsEach, all_of_two, all_takes, next_commands, two_candidates}
use Rattle.mc_seq.specs.Schedule.{all_candidates, candidates_of, command_candidates, left_by, next_of, shift_of, shift_turn, shifts_by, takes_of, without_next}
use Rattle.mc_seq.specs.Spare.{AreCountedBut, AreKeptBut, AreShiftsCounted, AreShiftsKept, AreShiftsLong, others_of, spare_of}
use Rattle.mc_box.specs.declared.limit.TheConstants.{SHIFT_LIMIT}
use Rattle.mc_seq.specs.declared.shifting.Shifts.{Shifts}
use Rattle.mc_seq.proofs.Finds.{takes_each}
use Rattle.mc_seq.proofs.ForEach.{append_none, each_alike, each_none, each_same}
use Rattle.mc_seq.proofs.Kth.{count_is, got_first, got_second, kth_of_mixed, mixed_count}

-- ---- where no box has a program

-- a box without a program has no Shift
none_enabled : (box : BoxState) → box.program ≡ None → is_enabled box Shift ≡ false
none_enabled box none = rw none refl

none_by : (spare can : Bool) (who : ℕ) → can ≡ false → (if spare && can then shift_turn who ∷ [] else []) ≡ []
none_by true can who none = rw none refl
none_by false can who none = refl

pub no_shift_of : (world : WorldState) (shifts : List ℕ) (who : ℕ) → HasNoPrograms world → shift_of world shifts who ≡ []
no_shift_of world shifts who none = none_by (nat_lt 0 (slice_index_or shifts who 0)) (is_enabled (box_at world who) Shift) who (none_enabled (box_at world who) (none who))

-- so its candidates are its next command and its Takes
two_by : (only_commands : Bool) (world : WorldState) (left : List Turn) (shifts : List ℕ) (who : ℕ) → HasNoPrograms world → candidates_of world left shifts only_commands who ≡ two_candidates world left only_commands who
two_by true world left shifts who none = refl
two_by false world left shifts who none =
    ap (λ (l : List Turn). command_candidates left who ++ l) (ap (λ (l : List Turn). takes_of world who ++ l) (no_shift_of world shifts who none) ∙ append-nil (takes_of world who))

pub two_is : (world : WorldState) (left : List Turn) (shifts : List ℕ) (only_commands : Bool) → HasNoPrograms world → all_candidates world left shifts only_commands ≡ all_of_two world left only_commands
two_is world left shifts only_commands none = each_same (candidates_of world left shifts only_commands) (two_candidates world left only_commands) (length world.boxes) (λ who. two_by only_commands world left shifts who none)

-- and no program can go on
neither_can : (a b : Bool) → a ≡ false → b ≡ false → (a || b) ≡ false
neither_can a b one two = rw (one, two) refl

none_can : (boxes : List BoxState) (default : BoxState) → ((who : ℕ) → (get_or boxes who default).program ≡ None) → list_any (λ box. is_enabled box Shift) boxes ≡ false
none_can [] default none = refl
none_can (box ∷ boxes) default none =
    neither_can (is_enabled box Shift) (list_any (λ (b : BoxState). is_enabled b Shift) boxes) (none_enabled box (none 0)) (none_can boxes default (λ who. none (suc who)))

pub can_none : (world : WorldState) → HasNoPrograms world → can_shift world ≡ false
can_none world none = none_can world.boxes no_box none

-- ---- where some box has one

-- next commands alone
pub urgent_three : (world : WorldState) (left : List Turn) (shifts : List ℕ) (only_commands : Bool) (boxes : ℕ) → only_commands ≡ true → boxes ≡ length world.boxes → all_candidates world left shifts only_commands ≡ next_commands left boxes
urgent_three world left shifts only_commands boxes is count =
    ap (all_candidates world left shifts) is
    ∙ (each_same (candidates_of world left shifts true) (command_candidates left) (length world.boxes) (λ who. append-nil (command_candidates left who))
    ∙ ap (next_commands left) (sym count))

-- or all three: the Shift stands after the Takes, and is counted with the command
three_long : (world : WorldState) (left : List Turn) (shifts : List ℕ) (who : ℕ) → length (candidates_of world left shifts false who) ≡ length (others_of world left shifts who) + length (takes_of world who)
three_long world left shifts who =
    let one = length-append (command_candidates left who) (takes_of world who ++ shift_of world shifts who) in
    let two = length-append (takes_of world who) (shift_of world shifts who) in
    let three = length-append (command_candidates left who) (shift_of world shifts who) in
    omega arith

pub calm_three : (world : WorldState) (left : List Turn) (shifts : List ℕ) (only_commands : Bool) → only_commands ≡ false → all_candidates world left shifts only_commands ≡ all_candidates world left shifts false
calm_three world left shifts only_commands is = ap (all_candidates world left shifts) is

pub three_sum : (world : WorldState) (left : List Turn) (shifts : Shifts) (counts : List ℕ) → AreShiftsCounted world left shifts → CountsTakes world counts
    → sum shifts.others + sum counts ≡ length (all_candidates world left shifts.spare.items false)
three_sum world left shifts counts kept takes =
    let one : sum shifts.others ≡ length (for_each (others_of world left shifts.spare.items) (length world.boxes)) = count_is (others_of world left shifts.spare.items) shifts.others (length world.boxes) kept.counted in
    let two : sum counts ≡ length (for_each (takes_of world) (length world.boxes)) = count_is (takes_of world) counts (length world.boxes) (takes_each world counts takes) in
    let all : length (for_each (candidates_of world left shifts.spare.items false) (length world.boxes))
    ≡ length (for_each (others_of world left shifts.spare.items) (length world.boxes)) + length (for_each (takes_of world) (length world.boxes))
    = mixed_count (candidates_of world left shifts.spare.items false) (others_of world left shifts.spare.items) (takes_of world) (length world.boxes) (three_long world left shifts.spare.items) in
    omega arith

pub three_within : (world : WorldState) (left : List Turn) (shifts : Shifts) (counts : List ℕ) (who rest : ℕ) → AreShiftsCounted world left shifts → CountsTakes world counts → who < length counts
    → rest < slice_index_or counts who 0 + slice_index_or shifts.others who 0 → rest < length (candidates_of world left shifts.spare.items false who)
three_within world left shifts counts who rest kept takes inside within =
    let below : who < length world.boxes = subst (λ (n : ℕ). who < n) takes.long inside in
    let one : slice_index_or shifts.others who 0 ≡ length (others_of world left shifts.spare.items who) = kept.counted.counts who below in
    let two : slice_index_or counts who 0 ≡ length (takes_of world who) = (takes_each world counts takes).counts who below in
    let all = three_long world left shifts.spare.items who in
    omega arith

pub three_at_box : (world : WorldState) (left : List Turn) (shifts : Shifts) (counts : List ℕ) (k who rest : ℕ) → AreShiftsCounted world left shifts → CountsTakes world counts → who < length counts
    → sum (take who counts) + sum (take who shifts.others) + rest ≡ k → rest < slice_index_or counts who 0 + slice_index_or shifts.others who 0
    → slice_get (all_candidates world left shifts.spare.items false) k ≡ slice_get (candidates_of world left shifts.spare.items false who) rest
three_at_box world left shifts counts k who rest kept takes inside before within =
    kth_of_mixed (candidates_of world left shifts.spare.items false) (others_of world left shifts.spare.items) (takes_of world) shifts.others counts (length world.boxes) k who rest
    (three_long world left shifts.spare.items) kept.counted (takes_each world counts takes) (subst (λ (n : ℕ). who < n) takes.long inside) before within

-- after the next command: a Take
pub behind_take : (world : WorldState) (shifts : List ℕ) (who k : ℕ) (turn : Turn) → slice_get (takes_of world who) k ≡ Some turn → slice_get (takes_of world who ++ shift_of world shifts who) k ≡ Some turn
behind_take world shifts who k turn got = got_first (takes_of world who) (shift_of world shifts who) k turn got

-- or the Shift
shift_by : (may : Bool) (takes : List Turn) (who k : ℕ) → length takes ≤ k → k < length (takes ++ (if may then shift_turn who ∷ [] else [])) → slice_get (takes ++ (if may then shift_turn who ∷ [] else [])) k ≡ Some (shift_turn who)
shift_by true takes who k past inside =
    let long = length-append takes (shift_turn who ∷ []) in
    let at : k ≡ length takes + 0 = omega arith in
    got_second takes (shift_turn who ∷ []) 0 k at
shift_by false takes who k past inside =
    let long = length-append takes [] in
    absurd (omega arith)

pub behind_shift : (world : WorldState) (shifts : List ℕ) (who k : ℕ) → length (takes_of world who) ≤ k → k < length (takes_of world who ++ shift_of world shifts who)
    → slice_get (takes_of world who ++ shift_of world shifts who) k ≡ Some (shift_turn who)
behind_shift world shifts who k past inside = shift_by (nat_lt 0 (slice_index_or shifts who 0) && is_enabled (box_at world who) Shift) (takes_of world who) who k past inside

-- ---- after a turn

-- a number passes its own test, and no other
same_number : (a b : ℕ) → (a == b) ≡ true → a ≡ b
same_number a b is = grind (arith, common_steps)

apart_test : (a b : ℕ) → a ≢ b → (a == b) ≡ false
apart_test a b apart = grind (arith, common_steps)

-- the next command of another box stays
else_by : (here : Bool) (who other : ℕ) (t : Turn) (left less : List Turn) → (t.who == who) ≡ here → other ≢ who → next_of other less ≡ next_of other left → next_of other (if here then left else t ∷ less) ≡ next_of other (t ∷ left)
else_by true who other t left less is apart rest =
    let own : t.who ≡ who = same_number t.who who is in
    ap (λ (b : Bool). cond b (Some t) (next_of other left)) (sym (apart_test t.who other (λ same. apart (sym same ∙ own))))
else_by false who other t left less is apart rest = ap (λ (o : Option Turn). cond (t.who == other) (Some t) o) rest

next_else : (who other : ℕ) (left : List Turn) → other ≢ who → next_of other (without_next who left) ≡ next_of other left
next_else who other [] apart = refl
next_else who other (t ∷ left) apart = else_by (t.who == who) who other t left (without_next who left) refl apart (next_else who other left apart)

next_by : (b : Bool) (who other : ℕ) (left : List Turn) → other ≢ who → next_of other (if b then without_next who left else left) ≡ next_of other left
next_by true who other left apart = next_else who other left apart
next_by false who other left apart = refl

-- so what another box lists beside its Takes stays
others_stay : (world next : WorldState) (left : List Turn) (shifts : List ℕ) (turn : Turn) (other : ℕ) → IsSound world → step world turn ≡ Some next → other ≢ turn.who
    → others_of world left shifts other ≡ others_of next (left_by turn left) shifts other
others_stay world next left shifts turn other sound goes apart =
    ap (λ (o : Option Turn). option_to_list o ++ shift_of world shifts other) (sym (next_by (is_command turn.event) turn.who other left apart))
    ∙ ap (λ (b : BoxState). command_candidates (left_by turn left) other ++ (if nat_lt 0 (slice_index_or shifts other 0) && is_enabled b Shift then shift_turn other ∷ [] else []))
    (sym ((step_acts world next turn sound goes).boxes other apart))

-- the box of a turn is there
there_by : (b : Bool) (o : Option WorldState) (next : WorldState) → (if b then o else None) ≡ Some next → b ≡ true
there_by true o next goes = refl
there_by false o next goes = absurd (cc)

below_by : (a b : ℕ) → nat_lt a b ≡ true → a < b
below_by a b is = grind (arith, common_steps)

-- so a turn leaves all counts right but that of its box
first_none : (a b : Bool) → (a || b) ≡ false → a ≡ false
first_none true b is = absurd (cc)
first_none false b is = refl

pub kept_but : (shifts : Option Shifts) (world next : WorldState) (left : List Turn) (turn : Turn) → IsSound world → step world turn ≡ Some next → AreShiftsKept world left shifts → AreKeptBut next (left_by turn left) shifts turn
kept_but None world next left turn sound goes kept = (
  still_none next world (step_keeps_shape world next turn sound goes) kept,
  first_none (is_shift turn.event) (list_any (λ (t : Turn). is_shift t.event) [])
      (run_makes_no_shift world next (turn ∷ []) sound kept (ap (option_and_then (λ (w : WorldState). run w [])) goes)),
)
kept_but (Some shifts) world next left turn sound goes kept =
    let boxes : length next.boxes ≡ length world.boxes = (step_keeps_shape world next turn sound goes).boxes in
    let below : turn.who < length world.boxes = below_by turn.who (length world.boxes) (there_by (nat_lt turn.who (length world.boxes)) (step_by world turn.who turn.event) next goes) in
    record {
      long = kept.long ∙ sym boxes;
      others_long = kept.counted.long ∙ sym boxes;
      there = subst (λ (n : ℕ). turn.who < n) (sym boxes) below;
      counts = λ other inside apart.
          kept.counted.counts other (subst (λ (n : ℕ). other < n) boxes inside) ∙ ap length (others_stay world next left shifts.spare.items turn other sound goes apart);
    }

-- where there are as many boxes, each may make as many
pub spare_same : (shifts : Option Shifts) (world next : WorldState) → length next.boxes ≡ length world.boxes → spare_of next shifts ≡ spare_of world shifts
spare_same None world next boxes = ap (λ (n : ℕ). replicate n SHIFT_LIMIT) boxes
spare_same (Some shifts) world next boxes = refl

-- a Shift takes one from those of its box alone
spare_long : (shift : Bool) (spare : List ℕ) (who count : ℕ) → length (if shift then set spare who count else spare) ≡ length spare
spare_long true spare who count = length-set spare who count
spare_long false spare who count = refl

spare_other : (shift : Bool) (spare : List ℕ) (who other count : ℕ) → other ≢ who → get_or (if shift then set spare who count else spare) other 0 ≡ get_or spare other 0
spare_other true spare who other count apart = get_or-set_other spare who other count 0 apart
spare_other false spare who other count apart = refl

-- so with the count of that box all are right
pub recounted : (world : WorldState) (left : List Turn) (old new : Shifts) (turn : Turn) (spare : List ℕ) → AreCountedBut world left old turn.who → spare ≡ shifts_by turn old.spare.items → new.spare.items ≡ spare
    → new.others ≡ set old.others turn.who (length (others_of world left spare turn.who)) → AreShiftsCounted world left new
recounted world left old new turn spare but spare_is new_is others = record {
  long = ap (λ (l : List ℕ). length l) new_is
      ∙ (ap (λ (l : List ℕ). length l) spare_is ∙ (spare_long (is_shift turn.event) old.spare.items turn.who (get_or old.spare.items turn.who 0 - 1) ∙ but.long));
  counted = subst (λ (l : List ℕ). CountsEach (others_of world left l) new.others (length world.boxes)) (sym new_is) (record {
    long = ap (λ (l : List ℕ). length l) others ∙ (length-set old.others turn.who (length (others_of world left spare turn.who)) ∙ but.others_long);
    counts = λ other below.
        ap (λ (l : List ℕ). get_or l other 0) others
        ∙ (elim (cases_eq other turn.who) [
          | inl same ↦
              subst (λ (w : ℕ). get_or (set old.others turn.who (length (others_of world left spare turn.who))) w 0 ≡ length (others_of world left spare w)) (sym same)
              (get_or-set_same old.others turn.who (length (others_of world left spare turn.who)) 0 (omega (arith, but.there, but.others_long)))
          | inr apart ↦
              get_or-set_other old.others turn.who other (length (others_of world left spare turn.who)) 0 apart
              ∙ (but.counts other below apart
              ∙ ap (λ (n : ℕ). length (command_candidates left other ++ (if nat_lt 0 n && is_enabled (box_at world other) Shift then shift_turn other ∷ [] else [])))
              (sym (ap (λ (l : List ℕ). get_or l other 0) spare_is ∙ spare_other (is_shift turn.event) old.spare.items turn.who other (get_or old.spare.items turn.who 0 - 1) apart)))
        ]);
  });
}

-- ---- after a round

pub kept_long : (shifts : Option Shifts) (world next : WorldState) (left retries : List Turn) → IsSound world → run world retries ≡ Some next → AreShiftsKept world left shifts → AreShiftsLong next shifts
kept_long None world next left retries sound goes kept = still_none next world (run_keeps_shape world next retries sound goes) kept
kept_long (Some shifts) world next left retries sound goes kept =
    let boxes : length next.boxes ≡ length world.boxes = (run_keeps_shape world next retries sound goes).boxes in
    (kept.long ∙ sym boxes, kept.counted.long ∙ sym boxes)

-- ---- the first counts

-- the number of a box fits
numbers_fit : (who n : ℕ) → n ≡ who → address_of n < 4294967296 → who < 4294967296
numbers_fit who n is fits = omega arith

pub who_fits : (world : WorldState) (who : ℕ) → IsSound world → who < length world.boxes → who < 4294967296
who_fits world who sound inside = numbers_fit who (box_at world who).number (sound.numbered.boxes who inside) (sound.boxes who inside).wired.address

-- a count more
pub counts_more : (f : ℕ → List Turn) (counts : List ℕ) (number count : ℕ) → CountsEach f counts number → count ≡ length (f number) → CountsEach f (counts ++ count ∷ []) (number + 1)
counts_more f counts number count each is = record {
  long = (let long = length-append counts (count ∷ []) in let was = each.long in omega arith);
  counts = λ t below. elim (cases_eq t number) [
    | inl same ↦ subst (λ (w : ℕ). get_or (counts ++ count ∷ []) w 0 ≡ length (f w)) (sym same) (last_is counts count number each.long ∙ is)
    | inr apart ↦ before_is counts count t (let was = each.long in omega arith) ∙ each.counts t (omega arith)
  ];
}
  where
    last_is : (counts : List ℕ) (count number : ℕ) → length counts ≡ number → get_or (counts ++ count ∷ []) number 0 ≡ count
    last_is [] count zero is = refl
    last_is [] count (suc number) is = absurd (omega arith)
    last_is (x ∷ counts) count zero is = absurd (omega arith)
    last_is (x ∷ counts) count (suc number) is = last_is counts count number (omega arith)

    before_is : (counts : List ℕ) (count t : ℕ) → t < length counts → get_or (counts ++ count ∷ []) t 0 ≡ get_or counts t 0
    before_is [] count t inside = absurd (omega arith)
    before_is (x ∷ counts) count zero inside = refl
    before_is (x ∷ counts) count (suc t) inside = before_is counts count t (omega arith)

pub small_more : (counts : List ℕ) (count most : ℕ) → ((who : ℕ) → get_or counts who 0 ≤ most) → count ≤ most → (who : ℕ) → get_or (counts ++ count ∷ []) who 0 ≤ most
small_more [] count most small low zero = low
small_more [] count most small low (suc who) = omega arith
small_more (x ∷ counts) count most small low zero = small 0
small_more (x ∷ counts) count most small low (suc who) = small_more counts count most (λ w. small (suc w)) low who

-- ---- where no command and no Shift is listed

none_long : (xs : List Turn) → length xs ≡ 0 → xs ≡ []
none_long [] is = refl
none_long (x ∷ xs) is = absurd (omega arith)

-- a box that lists nothing beside its Takes lists these
takes_alone : (world : WorldState) (left : List Turn) (spare : List ℕ) (who : ℕ) → others_of world left spare who ≡ [] → candidates_of world left spare false who ≡ takes_of world who
takes_alone world left spare who none =
    let parts = append_none (command_candidates left who) (shift_of world spare who) none in
    ap (λ (l : List Turn). l ++ (takes_of world who ++ shift_of world spare who)) parts.0
    ∙ (ap (λ (l : List Turn). takes_of world who ++ l) parts.1 ∙ append-nil (takes_of world who))

-- so where these are none in all, the candidates are the Takes
pub only_takes : (world : WorldState) (left : List Turn) (shifts : Shifts) (only_commands : Bool) → AreShiftsCounted world left shifts → only_commands ≡ false → sum shifts.others ≡ 0
    → all_candidates world left shifts.spare.items only_commands ≡ all_takes world
only_takes world left shifts only_commands counted calm none =
    let spare : List ℕ = shifts.spare.items in
    let all : for_each (others_of world left spare) (length world.boxes) ≡ []
    = none_long (for_each (others_of world left spare) (length world.boxes)) (sym (count_is (others_of world left spare) shifts.others (length world.boxes) counted.counted) ∙ none) in
    calm_three world left spare only_commands calm
    ∙ each_alike (candidates_of world left spare false) (takes_of world) (length world.boxes)
    (λ who below. takes_alone world left spare who (each_none (others_of world left spare) (length world.boxes) who all below))
