-- A settle from its beginning to its end: what its loops did one after another, and what it answers then.
use Rattle.std.proofs.Common.{◌≡◌, ◌<◌, ◌≤◌, ◌+◌, ◌++◌, ℕ, zero, suc, true, false, List, [], length, count_by, replicate, Option, Some, None, Result, Ok, Err, IfOk, IfErr, position, sum, append_assoc, refl, ap, sym, ◌∙◌, subst, arith}
use Rattle.std.specs.Prelude.{slice_index_or}
use Rattle.std.specs.List.{list_all, list_any}
use Rattle.std.proofs.lemmas.List.Quantifiers.{position-Some}
use Rattle.mc_box.specs.BoxEvents.{is_enabled, is_shift}
use Rattle.mc_box.specs.Boxes.{BoxState, no_box}
use Rattle.mc_box.specs.declared.event.Event.TheVariants.{Shift}
use Rattle.mc_laws.specs.Measures.{IsRingFree}
use Rattle.mc_text.proofs.Places.{list_any-none}
use Rattle.mc_box.proofs.Options.{then_some}
use Rattle.mc_box.specs.declared.event.Turn.{Turn}
use Rattle.mc_laws.proofs.Numbers.{number_is}
use Rattle.mc_laws.proofs.ShapesKept.{run_keeps_shape}
use Rattle.mc_model.specs.Settles.{IsSettled, can_shift, is_shift_of}
use Rattle.mc_model.specs.Shapes.{AreAllowed}
use Rattle.mc_model.specs.Sound.{IsSound}
use Rattle.mc_model.specs.Steps.{heard_local, heard_slot, run}
use Rattle.mc_model.specs.Worlds.{ChannelState, WorldState, number, place, places_among, slot_count}
use Rattle.mc_world.specs.declared.settled.Settled.{Settled}
use Rattle.mc_seq.specs.Drawing.{CameToRest, CameToRing, CameToShift, DrewAll, DrewTurn, Ended, SoFar, RanOut, RoundMade, DrawnSoFar, WentOn, WentRestless, WentToRest, WentToRing, first_drawn, drawn_at, turns_of_programs}
use Rattle.mc_seq.specs.Draws.{IsScheduled, SettlesByDraws, StopsAtRing, StopsAtVersion, StopsByDraws, StopsRestless}
use Rattle.mc_seq.specs.Places.{Answered, IsInside, IsPlaced, TellsSlot}
use Rattle.mc_seq.specs.Restless.{IsFirstShifter}
use Rattle.mc_seq.specs.Retries.{retries_by_box}
use Rattle.mc_seq.specs.Schedule.{AreDrawn, Goes, IsStill, MakesRound, ScheduleState, all_candidates, first_schedule, commands_only}
use Rattle.mc_seq.specs.ShiftLimit.{KeepsShiftLimit}
use Rattle.mc_seq.specs.declared.fault.SettleFault.{SettleFault}
use Rattle.mc_seq.specs.declared.fault.SettleFault.TheVariants.{NoMemory, Restless, Ring, VersionEnd}
use Rattle.mc_seq.specs.declared.fault.Stopped.{Stopped}
use Rattle.mc_seq.specs.declared.fault.StoppedBox.{StoppedBox}
use Rattle.mc_box.specs.declared.limit.TheConstants.{SHIFT_LIMIT}
use Rattle.mc_seq.specs.declared.stopping.SettleStop.{SettleStop}
use Rattle.mc_seq.specs.declared.stopping.SettleStop.TheVariants as stops
use Rattle.mc_seq.proofs.Candidates.{listed_spent}
use Rattle.mc_seq.proofs.Rounds.{end_is, goes_both, goes_round, goes_run, goes_stopped, schedule_settles}
use Rattle.mc_seq.proofs.Scheduled.{allowed_commands, drawn_both, drawn_commands, drawn_pass, ends_next, is_ordered, next_is}
use Rattle.mc_seq.proofs.Shifts.{draws_fewer, drawn_lowers, goes_spent, owed, same_within, shifts_are_few}
use Rattle.mc_seq.proofs.SettlesSoFar.{GoesOn, goes_last, goes_more, made_none, schedule_is}

-- ---- one after another

-- drawn turns after drawn turns
pub drew_more : (start now next : DrawnSoFar) → DrewAll start now → DrewAll now next → DrewAll start next
drew_more start now next one two = record {
  turns = one.turns ++ two.turns;
  draws = drawn_both one.turns two.turns start.schedule now.schedule next.schedule one.draws two.draws;
  logged = two.logged ∙ (ap (λ (t : List Turn). t ++ two.turns) one.logged ∙ append_assoc start.turns one.turns two.turns);
}

-- to a rest or a ring
pub rest_more : (start now next : DrawnSoFar) → DrewAll start now → CameToRest now next → CameToRest start next
rest_more start now next one two = record { drew = drew_more start now next one two.drew; none = two.none; left = two.left; free = two.free }

-- drawn turns after rounds
pub went_drew : (start now next : DrawnSoFar) → WentOn start now → DrewAll now next → WentOn start next
went_drew start now next went drew = record {
  rounds = went.rounds;
  turns = went.turns ++ drew.turns;
  goes = goes_both went.rounds went.turns drew.turns start.schedule now.schedule next.schedule went.goes drew.draws;
  logged = drew.logged ∙ (ap (λ (t : List Turn). t ++ drew.turns) went.logged ∙ append_assoc start.turns went.turns drew.turns);
}

-- and rounds after drawn turns
pub drew_went : (start now next : DrawnSoFar) → DrewAll start now → WentOn now next → WentOn start next
drew_went start now next drew went = record {
  rounds = went.rounds;
  turns = drew.turns ++ went.turns;
  goes = drawn_goes went.rounds drew.turns went.turns start.schedule now.schedule next.schedule drew.draws went.goes;
  logged = went.logged ∙ (ap (λ (t : List Turn). t ++ went.turns) drew.logged ∙ append_assoc start.turns drew.turns went.turns);
}
  where
    drawn_goes : (rounds : ℕ) (one two : List Turn) (start now next : ScheduleState) → AreDrawn start one now → Goes rounds now two next → Goes rounds start (one ++ two) next
    drawn_goes zero one two start now next draws goes = drawn_both one two start now next draws goes
    drawn_goes (suc rounds) one two start now next draws (first, rest, still, after, are, drew, round, more) = (
      one ++ first,
      rest,
      still,
      after,
      ap (λ (t : List Turn). one ++ t) are ∙ sym (append_assoc one first (retries_by_box still.world ++ rest)),
      drawn_both one first start now still draws drew,
      round,
      more,
    )

-- a round after them
pub went_round : (start now next : DrawnSoFar) → WentOn start now → MakesRound now.schedule next.schedule → next.turns ≡ now.turns ++ retries_by_box now.schedule.world → WentOn start next
went_round start now next went round logged = record {
  rounds = suc went.rounds;
  turns = went.turns ++ retries_by_box now.schedule.world;
  goes = goes_round went.rounds went.turns start.schedule now.schedule next.schedule went.goes round;
  logged = logged ∙ (ap (λ (t : List Turn). t ++ retries_by_box now.schedule.world) went.logged ∙ append_assoc start.turns went.turns (retries_by_box now.schedule.world));
}

-- a round that code made is one of the schedule
pub round_is : (old new : SoFar) (draws : ℕ) → RoundMade old new → IsStill (drawn_at old draws).schedule → old.due ≡ true → MakesRound (drawn_at old draws).schedule (drawn_at new draws).schedule
round_is old new draws made still due = record {
  still = still;
  was_due = due;
  retries = made.retries;
  then_not = schedule_is refl made.left made.since refl made.shifts made.due;
}

-- and lowers what may still come
pub round_lowers : (old new : SoFar) (draws : ℕ) → RoundMade old new → old.due ≡ true → turns_of_programs (drawn_at new draws).schedule < turns_of_programs (drawn_at old draws).schedule
round_lowers old new draws made due =
    let same : sum new.shifts ≡ sum old.shifts = ap sum made.shifts in
    let was : owed old.due ≡ 1 = ap owed due in
    let now : owed new.due ≡ 0 = ap owed made.due in
    omega arith

-- drawn turns leave no more of it
pub drew_fewer : (start now : DrawnSoFar) → start.schedule.left ≡ [] → DrewAll start now → turns_of_programs now.schedule ≤ turns_of_programs start.schedule
drew_fewer start now none drew = draws_fewer drew.turns start.schedule now.schedule (ap (list_all is_ordered) none) drew.draws

pub below_both : (a b c : ℕ) → a < b → b ≤ c → a < c
below_both a b c one two = omega arith

-- after a Shift there are fewer
pub shifted_is : (start now next : DrawnSoFar) → GoesOn start now → start.schedule.left ≡ [] → now.schedule.left ≡ [] → IsRingFree now.schedule.world → (made : DrewTurn now next) → is_shift made.turn.event ≡ true → CameToShift start next
shifted_is start now next drew_before begun none free made shift = record {
  drew = goes_last start next (goes_more start now next (λ left. free.free) made drew_before);
  left = made_none now next made none;
  fewer = below_both (turns_of_programs next.schedule) (turns_of_programs now.schedule) (turns_of_programs start.schedule)
      (subst (λ (s : ScheduleState). turns_of_programs s < turns_of_programs now.schedule) (sym made.moves) (drawn_lowers now.schedule made.turn next.schedule.world (ap (list_all is_ordered) none) made.is_drawn shift))
      (drew_fewer start now begun (goes_last start now drew_before));
}

-- ---- the first box that can go on

pub shifter_none : (boxes : List BoxState) → None ≡ position (λ (one : BoxState). is_enabled one Shift) boxes → list_any (λ (one : BoxState). is_enabled one Shift) boxes ≡ false
shifter_none boxes is = list_any-none (λ (one : BoxState). is_enabled one Shift) boxes (sym is)

pub shifter_is : (world : WorldState) (who : ℕ) → position (λ (one : BoxState). is_enabled one Shift) world.boxes ≡ Some who → IsFirstShifter world who
shifter_is world who is =
    let found = position-Some (λ (one : BoxState). is_enabled one Shift) world.boxes who no_box is in
    record { inside = found.0; can = found.1; least = found.2 }

-- ---- the ways to end

-- at a rest
pub rest_is : (start now next : DrawnSoFar) → WentOn start now → CameToRest now next → can_shift next.schedule.world ≡ false → next.schedule.due ≡ false → WentToRest start next
rest_is start now next went came no_shift not_due = record {
  went = went_drew start now next went came.drew;
  still = record { none = came.none; no_shift = no_shift; no_ring = came.free };
  not_due = not_due;
}

-- at a ring
pub ring_is : (start now next : DrawnSoFar) (at : ℕ) → WentOn start now → CameToRing now next at → WentToRing start next at
ring_is start now next at went came = record { went = went_drew start now next went came.drew; left = came.left; least = came.least }

-- at a box
pub restless_is : (start now next : DrawnSoFar) (at : ℕ) → WentOn start now → CameToRest now next → IsFirstShifter next.schedule.world at → WentRestless start next at
restless_is start now next at went came first = record { went = went_drew start now next went came.drew; left = came.left; none = came.none; free = came.free; first = first }

-- and after drawn turns
pub ended_more : (ending : Option SettleStop) (start now next : DrawnSoFar) → DrewAll start now → Ended now next ending → Ended start next ending
ended_more None start now next drew ended = record { went = drew_went start now next drew ended.went; still = ended.still; not_due = ended.not_due }
ended_more (Some (stops.Ring at)) start now next drew ended = record { went = drew_went start now next drew ended.went; left = ended.left; least = ended.least }
ended_more (Some (stops.Restless at)) start now next drew ended = record { went = drew_went start now next drew ended.went; left = ended.left; none = ended.none; free = ended.free; first = ended.first }
ended_more (Some (stops.VersionEnd at)) start now next drew ended = record { last = ended.last; drew = drew_more start now ended.last drew ended.drew; ends = ended.ends }

-- ---- what was written down from the beginning

-- all turns are by the schedule
first_goes : (world : WorldState) (batch : List Turn) (state : ℕ) (last : DrawnSoFar) (went : WentOn (first_drawn world batch state) last) → Goes went.rounds (first_schedule world batch state) last.turns last.schedule
first_goes world batch state last went = subst (λ (t : List Turn). Goes went.rounds (first_schedule world batch state) t last.schedule) (sym went.logged) went.goes

-- a settle that rests
pub scheduled_is : (world : WorldState) (batch : List Turn) (state : ℕ) (last : DrawnSoFar) (done : Settled) → WentToRest (first_drawn world batch state) last → done.world ≡ last.schedule.world → done.turns.items ≡ last.turns
    → SettlesByDraws world batch state last.schedule.draws done
scheduled_is world batch state last done ended world_is turns_are = record {
  rounds = ended.went.rounds;
  ended = last.schedule;
  goes = subst (λ (t : List Turn). Goes ended.went.rounds (first_schedule world batch state) t last.schedule) (sym turns_are) (first_goes world batch state last ended.went);
  still = ended.still;
  not_due = ended.not_due;
  to_last = sym world_is;
  to_end = refl;
}

-- one that stops at a ring
stops_at_ring : (world : WorldState) (batch : List Turn) (state at : ℕ) (last : DrawnSoFar) → AreAllowed world batch → WentToRing (first_drawn world batch state) last at
    → StopsAtRing world batch state last.turns last.schedule.draws at
stops_at_ring world batch state at last allowed ended = record {
  rounds = ended.went.rounds;
  last = last.schedule;
  goes = first_goes world batch state last ended.went;
  used_up = ended.left;
  least = ended.least;
  to_end = refl;
  stopped = goes_stopped ended.went.rounds world batch last.turns state last.schedule allowed (first_goes world batch state last ended.went);
  shift_limit = shifts_are_few world batch last.turns state ended.went.rounds last.schedule allowed (first_goes world batch state last ended.went);
}

-- a box that may make no more has made all
all_made : (spare made all : ℕ) → spare ≡ 0 → spare + made ≡ all → made ≡ all
all_made spare made all none is = omega arith

-- one at which a program goes on
stops_restless : (world : WorldState) (batch : List Turn) (state at : ℕ) (last : DrawnSoFar) → IsSound world → AreAllowed world batch → WentRestless (first_drawn world batch state) last at
    → StopsRestless world batch state last.turns last.schedule.draws at
stops_restless world batch state at last sound allowed ended =
    let goes = first_goes world batch state last ended.went in
    let ran : run world last.turns ≡ Some last.schedule.world = goes_run ended.went.rounds last.turns (first_schedule world batch state) last.schedule goes in
    let nothing = subst (λ (l : List Turn). all_candidates last.schedule.world l last.schedule.shifts (commands_only l last.schedule.since) ≡ []) ended.left ended.none in
    let spent : slice_index_or last.schedule.shifts at 0 ≡ 0 = listed_spent last.schedule.world last.schedule.shifts at nothing ended.first.inside ended.first.can in
    let all : slice_index_or last.schedule.shifts at 0 + count_by (is_shift_of at) last.turns ≡ slice_index_or (replicate (length world.boxes) SHIFT_LIMIT) at 0
    = goes_spent ended.went.rounds last.turns (first_schedule world batch state) last.schedule at (allowed_commands batch world allowed) goes in
    let there : at < length world.boxes = subst (λ (n : ℕ). at < n) (run_keeps_shape world last.schedule.world last.turns sound ran).boxes ended.first.inside in
    record {
      rounds = ended.went.rounds;
      last = last.schedule;
      goes = goes;
      used_up = ended.left;
      none = ended.none;
      restless = record {
        quiet = (end_is ended.went.rounds world batch last.turns state last.schedule sound allowed goes ended.none).quiet;
        no_ring = ended.free;
        first = ended.first;
        made = all_made (slice_index_or last.schedule.shifts at 0) (count_by (is_shift_of at) last.turns) SHIFT_LIMIT spent (all ∙ same_within (length world.boxes) at SHIFT_LIMIT there);
      };
      to_end = refl;
      stopped = goes_stopped ended.went.rounds world batch last.turns state last.schedule allowed goes;
      shift_limit = shifts_are_few world batch last.turns state ended.went.rounds last.schedule allowed goes;
    }

-- drawn turns from the beginning
first_are_drawn : (world : WorldState) (batch : List Turn) (state : ℕ) (last : DrawnSoFar) → DrewAll (first_drawn world batch state) last → AreDrawn (first_schedule world batch state) last.turns last.schedule
first_are_drawn world batch state last drew = subst (λ (t : List Turn). AreDrawn (first_schedule world batch state) t last.schedule) (sym drew.logged) drew.draws

-- and one that stops at the last version
stops_at_version : (world : WorldState) (batch : List Turn) (state at : ℕ) (used : DrawnSoFar) → AreAllowed world batch → RanOut (first_drawn world batch state) used at
    → StopsAtVersion world batch state used.turns used.schedule.draws at
stops_at_version world batch state at used allowed out =
    let draws = first_are_drawn world batch state out.last out.drew in
    let same : AreDrawn (first_schedule world batch state) used.turns out.last.schedule = subst (λ (t : List Turn). AreDrawn (first_schedule world batch state) t out.last.schedule) (sym out.ends.logged) draws in
    let ordered = allowed_commands batch world allowed in
    record {
      last = out.last.schedule;
      draws = same;
      meets = record {
        turn = out.ends.turn;
        next = next_is batch used.turns out.last.schedule out.ends.turn (drawn_pass is_ordered used.turns (first_schedule world batch state) out.last.schedule ordered same)
            (drawn_commands used.turns (first_schedule world batch state) out.last.schedule out.ends.turn.who ordered same)
            (ends_next out.last.schedule out.ends.turn out.ends.version out.ends.is_drawn);
        version = out.ends.version;
        slot = out.ends.slot;
      };
      is_drawn = out.ends.is_drawn;
      to_end = sym (ap (λ (s : ScheduleState). s.draws) out.ends.stays);
      stopped = goes_stopped zero world batch used.turns state out.last.schedule allowed same;
      shift_limit = shifts_are_few world batch used.turns state zero out.last.schedule allowed same;
    }

-- ---- where a settle stops

-- the places of slots stay
pub placed_same : (world last : WorldState) (turns : List Turn) (s : ℕ) → IsSound world → run world turns ≡ Some last → place last s ≡ place world s
placed_same world last turns s sound goes = ap (λ (channels : List ChannelState). slice_index_or (places_among channels) s (0, 0)) (run_keeps_shape world last turns sound goes).channels

-- the slot that hears a turn is one of the world's
pub heard_inside : (world : WorldState) (turn : Turn) (at : ℕ) → heard_slot world turn ≡ Some at → at < slot_count world
heard_inside world turn at heard =
    let one = then_some (number world turn.who) (heard_local turn.event) at heard in
    (number_is world turn.who one.0 at one.2).0

-- the slot at which a version ended is one of the world's
out_inside : (start used : DrawnSoFar) (at : ℕ) → RanOut start used at → at < slot_count used.schedule.world
out_inside start used at out =
    subst (λ (w : WorldState). at < slot_count w) (sym (ap (λ (s : ScheduleState). s.world) out.ends.stays)) (heard_inside out.last.schedule.world out.ends.turn at out.ends.slot)

-- so is that of each ending
pub ended_inside : (ending : Option SettleStop) (start last : DrawnSoFar) → Ended start last ending → IsInside last.schedule.world ending
ended_inside None start last ended = tt
ended_inside (Some (stops.Ring at)) start last ended = ended.least.inside
ended_inside (Some (stops.Restless at)) start last ended = tt
ended_inside (Some (stops.VersionEnd at)) start last ended = out_inside start last at ended

-- its place is what it was
version_placed : (world : WorldState) (batch : List Turn) (state at : ℕ) (used : DrawnSoFar) → IsSound world → RanOut (first_drawn world batch state) used at → place used.schedule.world at ≡ place world at
version_placed world batch state at used sound out =
    ap (λ (s : ScheduleState). place s.world at) out.ends.stays
    ∙ placed_same world out.last.schedule.world out.last.turns at sound (goes_run zero out.last.turns (first_schedule world batch state) out.last.schedule (first_are_drawn world batch state out.last out.drew))

ring_placed : (world : WorldState) (batch : List Turn) (state at : ℕ) (last : DrawnSoFar) → IsSound world → WentOn (first_drawn world batch state) last → place last.schedule.world at ≡ place world at
ring_placed world batch state at last sound went =
    placed_same world last.schedule.world last.turns at sound (goes_run went.rounds last.turns (first_schedule world batch state) last.schedule (first_goes world batch state last went))

-- as it is told
told_place : (world : WorldState) (settled : Settled) (last : DrawnSoFar) (at : ℕ) (stop : Stopped) → settled.world ≡ last.schedule.world → TellsSlot settled at stop → place last.schedule.world at ≡ place world at → IsPlaced world stop
told_place world settled last at stop world_is tells placed =
    tells.place_is ∙ (ap (λ (w : WorldState). place w at) world_is ∙ (placed ∙ ap (place world) (sym tells.at_is)))

-- ---- what a settle answers

-- what it ended with, beside what it answers of it
pub record EndsAs (world : WorldState) (batch : List Turn) (state : ℕ) (last : DrawnSoFar) (settled : Settled) (ending : Option SettleStop) : Type 0 where
  pub sound : IsSound world
  pub allowed : AreAllowed world batch
  pub ended : Ended (first_drawn world batch state) last ending
  pub world_is : settled.world ≡ last.schedule.world
  pub turns_are : settled.turns.items ≡ last.turns

answers_rest : (ending : Option SettleStop) (world : WorldState) (batch : List Turn) (state : ℕ) (last : DrawnSoFar) (settled done : Settled) → EndsAs world batch state last settled ending → Answered settled ending (Ok done)
    → SettlesByDraws world batch state last.schedule.draws done
answers_rest None world batch state last settled done ends answered =
    scheduled_is world batch state last done ends.ended (ap (λ (s : Settled). s.world) answered ∙ ends.world_is) (ap (λ (s : Settled). s.turns.items) answered ∙ ends.turns_are)
answers_rest (Some (stops.Ring at)) world batch state last settled done ends answered = absurd (answered)
answers_rest (Some (stops.Restless at)) world batch state last settled done ends answered = absurd (answered)
answers_rest (Some (stops.VersionEnd at)) world batch state last settled done ends answered = absurd (answered)

answers_ring : (ending : Option SettleStop) (world : WorldState) (batch : List Turn) (state : ℕ) (last : DrawnSoFar) (settled : Settled) (stop : Stopped) → EndsAs world batch state last settled ending → Answered settled ending (Err (Ring stop))
    → StopsByDraws world batch state last.schedule.draws (Ring stop)
answers_ring None world batch state last settled stop ends answered = absurd (answered)
answers_ring (Some (stops.Ring at)) world batch state last settled stop ends answered = (
  subst (λ (a : ℕ). StopsAtRing world batch state stop.turns.items last.schedule.draws a) (sym answered.at_is)
      (subst (λ (t : List Turn). StopsAtRing world batch state t last.schedule.draws at) (sym (answered.turns ∙ ends.turns_are)) (stops_at_ring world batch state at last ends.allowed ends.ended)),
  told_place world settled last at stop ends.world_is answered (ring_placed world batch state at last ends.sound ends.ended.went),
)
answers_ring (Some (stops.Restless at)) world batch state last settled stop ends answered = absurd (answered)
answers_ring (Some (stops.VersionEnd at)) world batch state last settled stop ends answered = absurd (answered)

answers_restless : (ending : Option SettleStop) (world : WorldState) (batch : List Turn) (state : ℕ) (last : DrawnSoFar) (settled : Settled) (stop : StoppedBox) → EndsAs world batch state last settled ending
    → Answered settled ending (Err (Restless stop)) → StopsByDraws world batch state last.schedule.draws (Restless stop)
answers_restless None world batch state last settled stop ends answered = absurd (answered)
answers_restless (Some (stops.Ring at)) world batch state last settled stop ends answered = absurd (answered)
answers_restless (Some (stops.Restless at)) world batch state last settled stop ends answered =
    subst (λ (a : ℕ). StopsRestless world batch state stop.turns.items last.schedule.draws a) (sym answered.at_is)
    (subst (λ (t : List Turn). StopsRestless world batch state t last.schedule.draws at) (sym (answered.turns ∙ ends.turns_are)) (stops_restless world batch state at last ends.sound ends.allowed ends.ended))
answers_restless (Some (stops.VersionEnd at)) world batch state last settled stop ends answered = absurd (answered)

answers_version : (ending : Option SettleStop) (world : WorldState) (batch : List Turn) (state : ℕ) (last : DrawnSoFar) (settled : Settled) (stop : Stopped) → EndsAs world batch state last settled ending
    → Answered settled ending (Err (VersionEnd stop)) → StopsByDraws world batch state last.schedule.draws (VersionEnd stop)
answers_version None world batch state last settled stop ends answered = absurd (answered)
answers_version (Some (stops.Ring at)) world batch state last settled stop ends answered = absurd (answered)
answers_version (Some (stops.Restless at)) world batch state last settled stop ends answered = absurd (answered)
answers_version (Some (stops.VersionEnd at)) world batch state last settled stop ends answered = (
  subst (λ (a : ℕ). StopsAtVersion world batch state stop.turns.items last.schedule.draws a) (sym answered.at_is)
      (subst (λ (t : List Turn). StopsAtVersion world batch state t last.schedule.draws at) (sym (answered.turns ∙ ends.turns_are)) (stops_at_version world batch state at last ends.allowed ends.ended)),
  told_place world settled last at stop ends.world_is answered (version_placed world batch state at last ends.sound ends.ended),
)

-- all of it
pub answers_scheduled : (result : Result Settled SettleFault) (ending : Option SettleStop) (world : WorldState) (batch : List Turn) (state : ℕ) (last : DrawnSoFar) (settled : Settled) → EndsAs world batch state last settled ending
    → Answered settled ending result → IfOk result (SettlesByDraws world batch state last.schedule.draws)
answers_scheduled (Ok done) ending world batch state last settled ends answered = answers_rest ending world batch state last settled done ends answered
answers_scheduled (Err fault) ending world batch state last settled ends answered = tt

-- no box makes more Shifts than the limit
limit_kept : (world : WorldState) (batch turns : List Turn) (state end : ℕ) (last : WorldState) → AreAllowed world batch → IsScheduled world batch state turns last end → KeepsShiftLimit turns
limit_kept world batch turns state end last allowed s = shifts_are_few world batch turns state s.rounds s.ended allowed s.goes

pub answers_limit : (result : Result Settled SettleFault) (ending : Option SettleStop) (world : WorldState) (batch : List Turn) (state : ℕ) (last : DrawnSoFar) (settled : Settled) → EndsAs world batch state last settled ending
    → Answered settled ending result → IfOk result (λ done. KeepsShiftLimit done.turns.items)
answers_limit (Ok done) ending world batch state last settled ends answered =
    limit_kept world batch done.turns.items state last.schedule.draws done.world ends.allowed (answers_rest ending world batch state last settled done ends answered)
answers_limit (Err fault) ending world batch state last settled ends answered = tt

pub answers_settled : (result : Result Settled SettleFault) (ending : Option SettleStop) (world : WorldState) (batch : List Turn) (state : ℕ) (last : DrawnSoFar) (settled : Settled) → EndsAs world batch state last settled ending
    → Answered settled ending result → IfOk result (λ done. IsSettled world batch done.turns.items done.world)
answers_settled (Ok done) ending world batch state last settled ends answered =
    schedule_settles world done.world batch done.turns.items state last.schedule.draws ends.sound ends.allowed (answers_rest ending world batch state last settled done ends answered)
answers_settled (Err fault) ending world batch state last settled ends answered = tt

answers_fault : (fault : SettleFault) (ending : Option SettleStop) (world : WorldState) (batch : List Turn) (state : ℕ) (last : DrawnSoFar) (settled : Settled) → EndsAs world batch state last settled ending
    → Answered settled ending (Err fault) → StopsByDraws world batch state last.schedule.draws fault
answers_fault (Ring stop) ending world batch state last settled ends answered = answers_ring ending world batch state last settled stop ends answered
answers_fault (Restless stop) ending world batch state last settled ends answered = answers_restless ending world batch state last settled stop ends answered
answers_fault (VersionEnd stop) ending world batch state last settled ends answered = answers_version ending world batch state last settled stop ends answered
answers_fault (NoMemory e) ending world batch state last settled ends answered = tt

pub answers_stops : (result : Result Settled SettleFault) (ending : Option SettleStop) (world : WorldState) (batch : List Turn) (state : ℕ) (last : DrawnSoFar) (settled : Settled) → EndsAs world batch state last settled ending
    → Answered settled ending result → IfErr result (StopsByDraws world batch state last.schedule.draws)
answers_stops (Ok done) ending world batch state last settled ends answered = tt
answers_stops (Err fault) ending world batch state last settled ends answered = answers_fault fault ending world batch state last settled ends answered
