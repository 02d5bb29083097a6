-- The schedule of a settle by draws: what can come next, and which of that is drawn.
use Rattle.std.specs.Prelude.{◌≡◌, ℕ, zero, suc, ◌+◌, ◌-◌, ◌/◌, ◌%◌, ◌==◌, ◌&&◌, ◌||◌, not, if◌then◌else◌, Bool, true, false, List, [], ◌∷◌, ◌++◌, length, nat_lt, replicate, slice_get, slice_index_or, slice_set, Option, Some}
use Rattle.std.specs.List.{find}
use Rattle.std.specs.Option.{option_to_list}
use Rattle.mc_text.specs.Draws.{next_state}
use Rattle.mc_box.specs.BoxEvents.{is_command, is_enabled, is_shift}
use Rattle.mc_box.specs.declared.event.Event.TheVariants.{Shift, Take}
use Rattle.mc_box.specs.declared.event.Turn.{Turn}
use Rattle.mc_model.specs.Paths.{has_ring}
use Rattle.mc_model.specs.Settles.{can_shift}
use Rattle.mc_model.specs.Steps.{run, step}
use Rattle.mc_model.specs.Worlds.{WorldState, box_at}
use Rattle.mc_world.specs.Waiting.{take_waits}
use Rattle.mc_seq.specs.ForEach.{for_each}
use Rattle.mc_seq.specs.Retries.{retries_by_box}
use Rattle.mc_box.specs.declared.limit.TheConstants.{SHIFT_LIMIT}

-- where a settle stands: its world, the commands that are left, how many turns came since its last command or its
-- beginning, counted to 63, the state of the draws, how many Shifts each box may still make, and whether a round of
-- retries is due: none was made yet, or a Shift came since the last one
pub record ScheduleState : Type 0 where
  pub world : WorldState
  pub left : List Turn
  pub since : ℕ
  pub draws : ℕ
  pub shifts : List ℕ
  pub due : Bool

-- at the beginning all commands are left, and each box may make all its Shifts
abbrev pub first_schedule : WorldState → List Turn → ℕ → ScheduleState
first_schedule world batch draws =
    record {
      world = world;
      left = batch;
      since = 0;
      draws = draws;
      shifts = replicate
          (length world.boxes) SHIFT_LIMIT;
      due = true;
    }

-- ---- the candidates

-- the next command of a box
abbrev pub next_of : ℕ → List Turn → Option Turn
next_of who left = find (λ turn. turn.who == who) left

-- that command, if a box has one
abbrev pub command_candidates : List Turn → ℕ → List Turn
command_candidates left who = option_to_list (next_of who left)

abbrev pub take_turn : ℕ → ℕ → Turn
take_turn who local = record { who = who; event = Take local }

-- the Take of a box's slot, if a signal waits that the slot can take now
abbrev pub waiting_take : WorldState → ℕ → ℕ → List Turn
waiting_take world who local = if take_waits world who local then take_turn who local ∷ [] else []

-- a Take for each local slot of a box at which one waits, in rising order
abbrev pub takes_of : WorldState → ℕ → List Turn
takes_of world who = for_each (waiting_take world who) (length (box_at world who).slots)

-- whether a box's program has an enabled transition, and the box may make one Shift more
abbrev pub may_shift : WorldState → List ℕ → ℕ → Bool
may_shift world shifts who = nat_lt 0 (slice_index_or shifts who 0) && is_enabled (box_at world who) Shift

abbrev pub shift_turn : ℕ → Turn
shift_turn who = record { who = who; event = Shift }

-- that Shift, if the box may make it
abbrev pub shift_of : WorldState → List ℕ → ℕ → List Turn
shift_of world shifts who = if may_shift world shifts who then shift_turn who ∷ [] else []

-- whether commands alone are listed: some are left, and the last 63 turns were none
abbrev pub commands_only : List Turn → ℕ → Bool
commands_only left since = not (length left == 0) && not (nat_lt since 63)

-- the candidates of a box: its next command; then its Takes and its Shift, unless commands alone are listed
abbrev pub candidates_of : WorldState → List Turn → (shifts : List ℕ) → Bool → ℕ → List Turn
candidates_of world left shifts only_commands who =
    command_candidates left who ++ (if only_commands then [] else takes_of world who ++ shift_of world shifts who)

-- the candidates of all boxes, box by box
abbrev pub all_candidates : WorldState → List Turn → (shifts : List ℕ) → Bool → List Turn
all_candidates world left shifts only_commands =
    for_each (candidates_of world left shifts only_commands) (length world.boxes)

abbrev pub candidates : ScheduleState → List Turn
candidates now = all_candidates now.world now.left now.shifts (commands_only now.left now.since)

-- ---- a turn

-- the place of the candidate that is drawn: the next draw modulo their number
abbrev pub drawn_place : ℕ → ℕ → ℕ
drawn_place draws count = next_state draws / 65536 % count

-- the candidate that is drawn; none where there is none
abbrev pub drawn_turn : ScheduleState → Option Turn
drawn_turn now = slice_get (candidates now) (drawn_place now.draws (length (candidates now)))

-- commands without the next one of a box
abbrev pub without_next : ℕ → List Turn → List Turn
without_next who [] = []
without_next who (turn ∷ rest) = if turn.who == who then rest else turn ∷ without_next who rest

abbrev pub left_by : Turn → List Turn → List Turn
left_by turn left = if is_command turn.event then without_next turn.who left else left

abbrev pub since_by : Turn → ℕ → ℕ
since_by turn since = if is_command turn.event then 0 else (if nat_lt since 63 then since + 1 else since)

-- a Shift is one of those that its box may make
abbrev pub shifts_by : Turn → List ℕ → List ℕ
shifts_by turn shifts =
    if is_shift turn.event then slice_set shifts turn.who (slice_index_or shifts turn.who 0 - 1) else shifts

-- and makes a round of retries due
abbrev pub due_after : Turn → Bool → Bool
due_after turn due = is_shift turn.event || due

-- the state after a drawn turn that led to this world
abbrev pub schedule_after : ScheduleState → Turn → WorldState → ScheduleState
schedule_after now turn next =
    record {
      world = next;
      left = left_by turn now.left;
      since = since_by turn now.since;
      draws = next_state now.draws;
      shifts = shifts_by turn now.shifts;
      due = due_after turn now.due;
    }

-- where the batch is used up there is no ring
abbrev pub MayGo : ScheduleState → Type 0
MayGo now = now.left ≡ [] → has_ring now.world ≡ false

-- turns that are drawn one after another lead from one state to another
abbrev pub AreDrawn : ScheduleState → List Turn → ScheduleState → Type 0
AreDrawn now [] last = now ≡ last
AreDrawn now (turn ∷ turns) last =
    (next : WorldState) × MayGo now × (drawn_turn now ≡ Some turn) × (step now.world turn ≡ Some next)
    × AreDrawn (schedule_after now turn next) turns last

-- ---- rounds of retries

-- nothing can come: nothing is listed, no box's program has an enabled transition, and there is no ring
pub record IsStill (now : ScheduleState) : Type 0 where
  pub none : candidates now ≡ []
  pub no_shift : can_shift now.world ≡ false
  pub no_ring : has_ring now.world ≡ false

-- where a round is due, each owed retry is made, without draws, and then no round is due
pub record MakesRound (now next : ScheduleState) : Type 0 where
  pub still : IsStill now
  pub was_due : now.due ≡ true
  pub retries : run now.world (retries_by_box now.world) ≡ Some next.world
  pub then_not : next ≡ record now { world = next.world; due = false }

-- so many rounds, with drawn turns before each of them and after the last, lead from one state to another
abbrev pub Goes : (rounds : ℕ) → ScheduleState → List Turn → ScheduleState → Type 0
Goes zero now turns last = AreDrawn now turns last
Goes (suc rounds) now turns last =
    (first : List Turn) × (rest : List Turn) × (still : ScheduleState) × (next : ScheduleState)
    × (turns ≡ first ++ (retries_by_box still.world ++ rest)) × AreDrawn now first still × MakesRound still next
    × Goes rounds next rest last
