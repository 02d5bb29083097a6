-- Turns drawn one after another, while a settle goes on.
use Rattle.std.proofs.Common.{◌≡◌, ◌≢◌, ◌<◌, ◌+◌, ◌-◌, ◌*◌, ◌/◌, ◌%◌, ◌++◌, ◌==◌, ◌&&◌, ◌⊎◌, inl, inr, if◌then◌else◌, nat_lt, not, ℕ, Bool, true, false, List, [], ◌∷◌, length, slice_get, Some, IsTrue, append_assoc, append-nil, refl, ap, sym, ◌∙◌, subst, arith}
use Rattle.std.proofs.lemmas.Bool.{and_parts}
use Rattle.std.proofs.lemmas.Grind.{common_steps}
use Rattle.mc_text.specs.Draws.{next_state}
use Rattle.mc_box.specs.declared.event.Event.{Event}
use Rattle.mc_box.specs.declared.event.Event.TheVariants.{Shift, Take}
use Rattle.mc_box.specs.declared.event.Turn.{Turn}
use Rattle.mc_box.specs.BoxEvents.{is_command, is_shift}
use Rattle.mc_laws.proofs.CommandsGo.{allowed_parts}
use Rattle.mc_model.specs.Shapes.{is_allowed, AreAllowed}
use Rattle.mc_laws.specs.Measures.{IsRingFree, measure}
use Rattle.mc_model.specs.Paths.{has_ring}
use Rattle.mc_model.specs.Sound.{IsSound}
use Rattle.mc_model.specs.Steps.{ends_version, ends_version_at, step}
use Rattle.mc_model.specs.Worlds.{WorldState}
use Rattle.mc_laws.proofs.Lowers.{take_lowers, take_stays_free}
use Rattle.mc_laws.proofs.ShapesKept.{step_keeps_shape}
use Rattle.mc_laws.proofs.StepKeeps.{step_keeps_sound}
use Rattle.mc_seq.specs.Drawing.{CameToRest, DrewAll, DrewOnce, DrewTurn, DrewVersionEnd, IsDrawOf, SoFar, RanOut, DrawnSoFar, TriedTurn, TurnMade, drawn_at}
use Rattle.mc_seq.specs.Schedule.{AreDrawn, MayGo, ScheduleState, candidates, drawn_turn, drawn_place, commands_only, left_by, all_candidates, next_of, since_by, without_next}
use Rattle.mc_seq.specs.declared.stopping.DrawOutcome.{DrawOutcome}
use Rattle.mc_seq.specs.declared.stopping.DrawOutcome.TheVariants.{Drawn, Nothing, Shifted, VersionEnd}
use Rattle.mc_seq.proofs.Candidates.{IsListed, IsTake, IsTakeOrShift, drawn_listed, none_left, take_same}
use Rattle.mc_seq.proofs.AllowedCommands.{all_kept, left_pass, next_pass}
use Rattle.mc_seq.proofs.Nexts.{without_less}

-- ---- several draws

-- whatever is drawn from here goes on from what was written down
abbrev pub GoesOn : DrawnSoFar → DrawnSoFar → Type 0
GoesOn start now = (more : List Turn) (last : ScheduleState) → AreDrawn now.schedule more last → DrewAll start (record { schedule = last; turns = now.turns ++ more })

-- and after one more drawn turn
pub goes_more : (start now next : DrawnSoFar) → MayGo now.schedule → DrewTurn now next → GoesOn start now → GoesOn start next
goes_more start now next may made drew_before more last draws =
    subst (λ (turns : List Turn). DrewAll start (record { schedule = last; turns = turns })) (sym (ap (λ (turns : List Turn). turns ++ more) made.logged ∙ append_assoc now.turns (made.turn ∷ []) more))
    (drew_before (made.turn ∷ more) last (next.schedule.world, may, made.is_drawn, made.goes, subst (λ (s : ScheduleState). AreDrawn s more last) made.moves draws))

-- at the end what was drawn is all that was written down
pub goes_last : (start last : DrawnSoFar) → GoesOn start last → DrewAll start last
goes_last start last drew_before = subst (λ (turns : List Turn). DrewAll start (record { schedule = last.schedule; turns = turns })) (append-nil last.turns) (drew_before [] last.schedule refl)

-- ---- one draw

-- two schedules of the same parts
pub schedule_is : {world next : WorldState} {left less : List Turn} {since counted : ℕ} {draws state : ℕ} {shifts spare : List ℕ} {due owed : Bool} → next ≡ world → less ≡ left → counted ≡ since → state ≡ draws → spare ≡ shifts → owed ≡ due
    → (let s : ScheduleState = record { world = next; left = less; since = counted; draws = state; shifts = spare; due = owed } in s)
    ≡ (let s : ScheduleState = record { world = world; left = left; since = since; draws = draws; shifts = shifts; due = due } in s)
schedule_is {world} {next} {left} {less} {since} {counted} {draws} {state} {shifts} {spare} {due} {owed} one two three four five six =
    ap (λ (w : WorldState). let s : ScheduleState = record { world = w; left = less; since = counted; draws = state; shifts = spare; due = owed } in s) one
    ∙ (ap (λ (l : List Turn). let s : ScheduleState = record { world = world; left = l; since = counted; draws = state; shifts = spare; due = owed } in s) two
    ∙ (ap (λ (n : ℕ). let s : ScheduleState = record { world = world; left = left; since = n; draws = state; shifts = spare; due = owed } in s) three
    ∙ (ap (λ (n : ℕ). let s : ScheduleState = record { world = world; left = left; since = since; draws = n; shifts = spare; due = owed } in s) four
    ∙ (ap (λ (l : List ℕ). let s : ScheduleState = record { world = world; left = left; since = since; draws = draws; shifts = l; due = owed } in s) five
    ∙ ap (λ (b : Bool). let s : ScheduleState = record { world = world; left = left; since = since; draws = draws; shifts = shifts; due = b } in s) six))))

-- a turn that was made is called as it is
pub tried_is : (d : DrawOutcome) (old new : SoFar) (turn : Turn) → IsDrawOf turn d → TurnMade old new turn → TriedTurn old new turn d
tried_is Drawn old new turn is made = (made, is)
tried_is Shifted old new turn is made = (made, is)
tried_is Nothing old new turn is made = absurd (is)
tried_is (VersionEnd at) old new turn is made = absurd (is)

-- a drawn turn that was tried
drew_turn : (old new : SoFar) (draws state : ℕ) (turn : Turn) → drawn_turn (drawn_at old draws).schedule ≡ Some turn → state ≡ next_state draws → TurnMade old new turn → DrewTurn (drawn_at old draws) (drawn_at new state)
drew_turn old new draws state turn is moved made = record {
  turn = turn;
  is_drawn = is;
  goes = made.goes;
  moves = schedule_is refl made.left made.since moved made.shifts made.due;
  logged = made.logged;
}

pub drew_by : (d : DrawOutcome) (old new : SoFar) (draws state : ℕ) (turn : Turn) → drawn_turn (drawn_at old draws).schedule ≡ Some turn → state ≡ next_state draws → TriedTurn old new turn d
    → DrewOnce (drawn_at old draws) (drawn_at new state) d
unfolding drew_turn
drew_by Drawn old new draws state turn is moved tried = (drew_turn old new draws state turn is moved tried.0, tried.1)
drew_by Shifted old new draws state turn is moved tried = (drew_turn old new draws state turn is moved tried.0, tried.1)
drew_by Nothing old new draws state turn is moved tried = absurd (tried)
drew_by (VersionEnd at) old new draws state turn is moved tried = record {
  turn = turn;
  is_drawn = is;
  version = tried.version;
  slot = tried.slot;
  stays = schedule_is tried.world tried.left tried.since moved tried.shifts tried.due;
  logged = tried.logged;
}

-- a turn that was made was drawn, whatever it is
pub made_by : (d : DrawOutcome) (now next : DrawnSoFar) → (d ≡ Drawn) ⊎ (d ≡ Shifted) → DrewOnce now next d → DrewTurn now next
made_by Drawn now next is drew = drew.0
made_by Shifted now next is drew = drew.0
made_by Nothing now next is drew = elim is [
  | inl one ↦ absurd (cc)
  | inr two ↦ absurd (cc)
]
made_by (VersionEnd at) now next is drew = elim is [
  | inl one ↦ absurd (cc)
  | inr two ↦ absurd (cc)
]

-- ---- while commands are left

-- what a drawn turn is
pub made_listed : (now next : DrawnSoFar) → (made : DrewTurn now next) → IsListed now.schedule.world now.schedule.left now.schedule.shifts (commands_only now.schedule.left now.schedule.since) made.turn
made_listed now next made = drawn_listed now.schedule made.turn made.is_drawn

-- a drawn turn leaves a sound world
pub made_sound : (now next : DrawnSoFar) → DrewTurn now next → IsSound now.schedule.world → IsSound next.schedule.world
made_sound now next made sound = step_keeps_sound now.schedule.world next.schedule.world made.turn sound made.goes

-- commands that are allowed stay so
pub made_allowed : (now next : DrawnSoFar) → DrewTurn now next → IsSound now.schedule.world → AreAllowed now.schedule.world now.schedule.left → AreAllowed next.schedule.world next.schedule.left
made_allowed now next made sound allowed =
    subst (λ (left : List Turn). AreAllowed next.schedule.world left) (sym (ap (λ (s : ScheduleState). s.left) made.moves))
    (all_kept (left_by made.turn now.schedule.left) now.schedule.world next.schedule.world sound (made_sound now next made sound) (step_keeps_shape now.schedule.world next.schedule.world made.turn sound made.goes)
    (left_pass (is_allowed now.schedule.world) made.turn now.schedule.left allowed))

-- how many turns may come until the batch is used up
abbrev pub turns_to_come : List Turn → ℕ → ℕ
turns_to_come left since = 64 * length left + (63 - since)

-- a command lowers it by 64, and gives back 63 at most
lower_command : (less all since : ℕ) → less + 1 ≡ all → 64 * less + (63 - 0) < 64 * all + (63 - since)
lower_command less all since one = omega arith

-- a turn that is none lowers it by one
lower_take : (all since : ℕ) → since < 63 → 64 * all + (63 - (since + 1)) < 64 * all + (63 - since)
lower_take all since few = omega arith

-- where commands are left and not they alone are listed, fewer than 63 turns came since the last
not_urgent : (count since : ℕ) → count ≢ 0 → (not (count == 0) && not (nat_lt since 63)) ≡ false → nat_lt since 63 ≡ true
not_urgent count since some is = grind (arith, common_steps)

-- a number that is below a limit by the test is below it
few_by : (a b : ℕ) → nat_lt a b ≡ true → a < b
few_by a b is = grind (arith, common_steps)

-- so a drawn command lowers it
command_lowers : (turn : Turn) (left : List Turn) (since : ℕ) → is_command turn.event ≡ true → next_of turn.who left ≡ Some turn → turns_to_come (left_by turn left) (since_by turn since) < turns_to_come left since
command_lowers turn left since is next =
    subst (λ (b : Bool). turns_to_come (if b then without_next turn.who left else left) (if b then 0 else (if nat_lt since 63 then since + 1 else since)) < turns_to_come left since) (sym is)
    (lower_command (length (without_next turn.who left)) (length left) since (without_less turn.who left turn next))

-- a Take is no command
pub take_none : (turn : Turn) (local : ℕ) → turn.event ≡ Take local → is_command turn.event ≡ false
take_none turn local is = ap is_command is

-- neither is a Shift
shift_none : (turn : Turn) → turn.event ≡ Shift → is_command turn.event ≡ false
shift_none turn is = ap is_command is

-- so none of the two is one
pub other_none : (world : WorldState) (shifts : List ℕ) (turn : Turn) → IsTakeOrShift world shifts turn → is_command turn.event ≡ false
other_none world shifts turn is = elim is [
  | inl take ↦ take_none turn take.local take.event
  | inr shift ↦ shift_none turn shift.event
]

-- and so does a turn that is none
take_down : (turn : Turn) (left : List Turn) (since : ℕ) → is_command turn.event ≡ false → nat_lt since 63 ≡ true → turns_to_come (left_by turn left) (since_by turn since) < turns_to_come left since
take_down turn left since is few =
    subst (λ (b : Bool). turns_to_come (if b then without_next turn.who left else left) (if b then 0 else (if nat_lt since 63 then since + 1 else since)) < turns_to_come left since) (sym is)
    (subst (λ (b : Bool). turns_to_come left (if b then since + 1 else since) < turns_to_come left since) (sym few) (lower_take (length left) since (few_by since 63 few)))

-- each listed turn is a command or none
pub listed_lowers : (world : WorldState) (turn : Turn) (left : List Turn) (shifts : List ℕ) (since : ℕ) → AreAllowed world left → length left ≢ 0 → IsListed world left shifts (commands_only left since) turn
    → turns_to_come (left_by turn left) (since_by turn since) < turns_to_come left since
listed_lowers world turn left shifts since allowed some is = elim is [
  | inl next ↦ command_lowers turn left since (allowed_parts world turn (next_pass (is_allowed world) turn.who left turn allowed next)).command next
  | inr other ↦ take_down turn left since (other_none world shifts turn other.1) (not_urgent (length left) since some other.0)
]

-- each drawn turn lowers it, whether links make a ring or not
pub made_lowers : (now next : DrawnSoFar) → DrewTurn now next → AreAllowed now.schedule.world now.schedule.left → length now.schedule.left ≢ 0
    → turns_to_come next.schedule.left next.schedule.since < turns_to_come now.schedule.left now.schedule.since
made_lowers now next made allowed some =
    subst (λ (s : ScheduleState). turns_to_come s.left s.since < turns_to_come now.schedule.left now.schedule.since) (sym made.moves)
    (listed_lowers now.schedule.world made.turn now.schedule.left now.schedule.shifts now.schedule.since allowed some (made_listed now next made))

-- where commands are left, something is listed
pub some_listed : (now : ScheduleState) → AreAllowed now.world now.left → length now.left ≢ 0 → candidates now ≡ [] → ⊥
some_listed now allowed some none = some (ap length (none_left now.world now.left now.shifts (commands_only now.left now.since) allowed none))

-- while commands are left a ring stops nothing
pub left_goes : (now : ScheduleState) → length now.left ≢ 0 → MayGo now
left_goes now some none = absurd (some (ap length none))

-- a list of length 0 is empty
pub empty_is : (xs : List Turn) → length xs ≡ 0 → xs ≡ []
empty_is [] is = refl
empty_is (x ∷ xs) is = absurd (omega arith)

-- ---- where the batch is used up

-- what is listed there is a Take that waits, or a Shift
other_by : (world : WorldState) (left : List Turn) (shifts : List ℕ) (only_commands : Bool) (turn : Turn) → left ≡ [] → IsListed world left shifts only_commands turn → IsTakeOrShift world shifts turn
other_by world left shifts only_commands turn none is = elim is [
  | inl next ↦ absurd (let there : next_of turn.who [] ≡ Some turn = subst (λ (l : List Turn). next_of turn.who l ≡ Some turn) none next in cc (there))
  | inr other ↦ other.1
]

-- so is what is drawn
pub drawn_other : (now : ScheduleState) (turn : Turn) → now.left ≡ [] → drawn_turn now ≡ Some turn → IsTakeOrShift now.world now.shifts turn
drawn_other now turn none is = other_by now.world now.left now.shifts (commands_only now.left now.since) turn none (drawn_listed now turn is)

-- what is no Shift of the two is a Take
no_shift : (world : WorldState) (shifts : List ℕ) (turn : Turn) → IsTakeOrShift world shifts turn → is_shift turn.event ≡ false → IsTake world turn
no_shift world shifts turn is apart = elim is [
  | inl take ↦ take
  | inr shift ↦ absurd (let one : is_shift turn.event ≡ true = ap is_shift shift.event in cc (one, apart))
]

-- so but for Shifts only Takes are drawn
pub drawn_take : (now : ScheduleState) (turn : Turn) → now.left ≡ [] → is_shift turn.event ≡ false → drawn_turn now ≡ Some turn → IsTake now.world turn
drawn_take now turn none apart is = no_shift now.world now.shifts turn (drawn_other now turn none is) apart

-- the drawn turn is a step, as a Take
made_step : (now next : DrawnSoFar) (made : DrewTurn now next) (take : IsTake now.schedule.world made.turn) → step now.schedule.world (record { who = made.turn.who; event = Take take.local }) ≡ Some next.schedule.world
made_step now next made take = ap (step now.schedule.world) (take_same made.turn take.local take.event) ∙ made.goes

-- it lowers the measure
pub take_lower : (now next : DrawnSoFar) (made : DrewTurn now next) → is_shift made.turn.event ≡ false → now.schedule.left ≡ [] → IsRingFree now.schedule.world → measure next.schedule.world < measure now.schedule.world
take_lower now next made apart none free =
    let take = drawn_take now.schedule made.turn none apart made.is_drawn in
    take_lowers now.schedule.world next.schedule.world made.turn.who take.local free (made_step now next made take)

-- and leaves the world without a ring
pub take_free : (now next : DrawnSoFar) (made : DrewTurn now next) → is_shift made.turn.event ≡ false → now.schedule.left ≡ [] → IsRingFree now.schedule.world → IsRingFree next.schedule.world
take_free now next made apart none free =
    let take = drawn_take now.schedule made.turn none apart made.is_drawn in
    take_stays_free now.schedule.world next.schedule.world made.turn.who take.local free (made_step now next made take)

-- no command is taken from those that are left by a turn that is none
left_none : (b : Bool) (who : ℕ) (left : List Turn) → b ≡ false → (if b then without_next who left else left) ≡ left
left_none true who left is = absurd (cc)
left_none false who left is = refl

-- a Take and a Shift leave the commands that are left
pub other_left : (turn : Turn) (left : List Turn) (world : WorldState) (shifts : List ℕ) → IsTakeOrShift world shifts turn → left_by turn left ≡ left
other_left turn left world shifts is = left_none (is_command turn.event) turn.who left (other_none world shifts turn is)

-- so none are left after it
pub made_none : (now next : DrawnSoFar) → DrewTurn now next → now.schedule.left ≡ [] → next.schedule.left ≡ []
made_none now next made none =
    ap (λ (s : ScheduleState). s.left) made.moves ∙ (other_left made.turn now.schedule.left now.schedule.world now.schedule.shifts (drawn_other now.schedule made.turn none made.is_drawn) ∙ none)

-- ---- what is picked

-- a list that code looked at is the list of candidates
pub list_is : (now : ScheduleState) (list seen looked : List Turn) (spare : List ℕ) (only_commands : Bool) → list ≡ all_candidates now.world seen spare only_commands → seen ≡ now.left → spare ≡ now.shifts → only_commands ≡ commands_only looked now.since → looked ≡ now.left → list ≡ candidates now
list_is now list seen looked spare only_commands is left shifts by looks =
    is
    ∙ (ap (λ (l : List Turn). all_candidates now.world l spare only_commands) left
    ∙ (ap (λ (l : List ℕ). all_candidates now.world now.left l only_commands) shifts
    ∙ ap (all_candidates now.world now.left now.shifts) (by ∙ ap (λ (l : List Turn). commands_only l now.since) looks)))

-- what was picked of it is drawn
pub picked : (now : ScheduleState) (shown : List Turn) (turn : Turn) → shown ≡ candidates now → slice_get shown (drawn_place now.draws (length shown)) ≡ Some turn → drawn_turn now ≡ Some turn
picked now shown turn is got = subst (λ (l : List Turn). slice_get l (drawn_place now.draws (length l)) ≡ Some turn) is got

-- at the place that is drawn, as code reckons it
pub place_is : (now : ScheduleState) (draw count next : ℕ) (shown : List Turn) → count ≡ length shown → draw ≡ next / 65536 → next ≡ next_state now.draws → draw % count ≡ drawn_place now.draws (length shown)
place_is now draw count next shown total drawn state =
    ap (λ (n : ℕ). n % count) (drawn ∙ ap (λ (s : ℕ). s / 65536) state) ∙ ap (λ (n : ℕ). next_state now.draws / 65536 % n) total

-- which is within the list
pub place_low : (draw count all : ℕ) → count ≡ all → count ≢ 0 → draw % count < all
place_low draw count all is some = subst (λ (n : ℕ). draw % count < n) is (grind (arith, common_steps))

-- ---- the last version

-- an event that is no Hear ends no version
version_apart : (event : Event) (turn : Turn) (world : WorldState) → turn.event ≡ event → ends_version_at world turn.who event ≡ false → IsTrue (ends_version world turn) → ⊥
version_apart event turn world is apart ends =
    let same : ends_version world turn ≡ (nat_lt turn.who (length world.boxes) && ends_version_at world turn.who event) = ap (λ (e : Event). nat_lt turn.who (length world.boxes) && ends_version_at world turn.who e) is in
    let parts = and_parts (nat_lt turn.who (length world.boxes)) (ends_version_at world turn.who event) (sym same ∙ ends) in
    let here = parts.1 in
    cc (here, apart)

-- so neither a Take nor a Shift does
pub other_ends_none : (world : WorldState) (shifts : List ℕ) (turn : Turn) → IsTakeOrShift world shifts turn → IsTrue (ends_version world turn) → ⊥
other_ends_none world shifts turn is ends = elim is [
  | inl take ↦ version_apart (Take take.local) turn world take.event refl ends
  | inr shift ↦ version_apart Shift turn world shift.event refl ends
]

-- no version ends there
pub never_ends : (now next : DrawnSoFar) (at : ℕ) → now.schedule.left ≡ [] → DrewVersionEnd now next at → ⊥
never_ends now next at none ends = other_ends_none now.schedule.world now.schedule.shifts ends.turn (drawn_other now.schedule ends.turn none ends.is_drawn) ends.version

-- ---- the ends

-- a draw that finds nothing changes nothing
pub rested_is : (start now next : DrawnSoFar) → GoesOn start now → now.schedule.left ≡ [] → IsRingFree now.schedule.world → DrewOnce now next Nothing → CameToRest start next
rested_is start now next drew_before none free comes =
    let drew = goes_last start now drew_before in
    record {
      drew = record { turns = drew.turns; draws = subst (λ (s : ScheduleState). AreDrawn start.schedule drew.turns s) (sym comes.1) drew.draws; logged = comes.2 ∙ drew.logged };
      none = ap candidates comes.1 ∙ comes.0;
      left = ap (λ (s : ScheduleState). s.left) comes.1 ∙ none;
      free = ap (λ (s : ScheduleState). has_ring s.world) comes.1 ∙ free.free;
    }

-- a version ends after what was drawn
pub ran_out : (start now next : DrawnSoFar) (at : ℕ) → GoesOn start now → DrewVersionEnd now next at → RanOut start next at
ran_out start now next at drew_before ends = record { last = now; drew = goes_last start now drew_before; ends = ends }

-- the test says yes
zero_by : (b : Bool) (n : ℕ) → b ≡ (n == 0) → b ≡ true → n ≡ 0
zero_by b n is other = grind (arith, common_steps)

-- and then nothing is left
pub none_by : (b : Bool) (left : List Turn) → b ≡ (length left == 0) → b ≡ true → left ≡ []
none_by b left is none = empty_is left (zero_by b (length left) is none)
