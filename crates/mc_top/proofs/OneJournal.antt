-- The first state of the draws leaves no choice of a journal.
use Rattle.std.proofs.Common.{◌≡◌, ◌<◌, ◌++◌, ℕ, zero, suc, Bool, true, false, List, [], ◌∷◌, inl, inr, map, length, slice_get, Option, Some, None, ap, sym, ◌∙◌, subst, arith}
use Rattle.mc_box.specs.BoxEvents.{is_enabled}
use Rattle.mc_box.specs.declared.event.Event.TheVariants.{Shift}
use Rattle.mc_box.specs.declared.event.Turn.{Turn}
use Rattle.mc_laws.proofs.BothWays.{has_by}
use Rattle.mc_laws.proofs.StepKeeps.{run_keeps_sound, step_keeps_sound}
use Rattle.mc_model.specs.Paths.{has_ring}
use Rattle.mc_model.specs.Rings.{IsFirstOnRing}
use Rattle.mc_model.specs.Settles.{IsStopped, MeetsLast, can_shift, commands_of}
use Rattle.mc_model.specs.Sound.{IsSound}
use Rattle.mc_model.specs.Steps.{heard_slot}
use Rattle.mc_model.specs.Worlds.{WorldState, box_at}
use Rattle.mc_script.specs.declared.command.JournalLine.{JournalLine}
use Rattle.mc_script.specs.declared.command.JournalLine.TheVariants.{Turn as Made}
use Rattle.mc_seq.proofs.OneSchedule.{AreOne, IsOver, ended_over, goes_one, restless_over, ring_over, version_over}
use Rattle.mc_seq.specs.Draws.{IsScheduled, ScheduleIsOne, StopsAtRing, StopsAtVersion, StopsRestless}
use Rattle.mc_seq.specs.Restless.{IsFirstShifter}
use Rattle.mc_seq.specs.Retries.{retries_by_box}
use Rattle.mc_seq.specs.Schedule.{AreDrawn, Goes, ScheduleState, candidates, drawn_place, drawn_turn, first_schedule, schedule_after}
use Rattle.mc_top.specs.Drawn.{DrawnJournalIsOne, EndsWithin, IsDrawnJournal, StopsBy}
use Rattle.mc_replay.specs.Journals.{lines_for}
use Rattle.mc_seq.specs.declared.stopping.SettleStop.{SettleStop}
use Rattle.mc_seq.specs.declared.stopping.SettleStop.TheVariants.{Restless, Ring, VersionEnd}
use Rattle.mc_top.proofs.Shifters.{first_can}
use Rattle.mc_top.proofs.UsedUp.{used_up}

-- ---- soundness

drawn_sound : (turns : List Turn) (now last : ScheduleState) → IsSound now.world → AreDrawn now turns last → IsSound last.world
drawn_sound [] now last sound draws = subst (λ (s : ScheduleState). IsSound s.world) draws sound
drawn_sound (turn ∷ turns) now last sound draws = drawn_sound turns (schedule_after now turn draws.0) last (step_keeps_sound now.world draws.0 turn sound draws.3) draws.4

goes_sound : (rounds : ℕ) (turns : List Turn) (now last : ScheduleState) → IsSound now.world → Goes rounds now turns last → IsSound last.world
goes_sound zero turns now last sound goes = drawn_sound turns now last sound goes
goes_sound (suc rounds) turns now last sound (first, rest, still, next, is, draws, round, later) =
    goes_sound rounds rest next last (run_keeps_sound still.world next.world (retries_by_box still.world) (drawn_sound first now still sound draws) round.retries) later

-- a settle by draws leaves a sound world
scheduled_sound : (world last : WorldState) (batch turns : List Turn) (state end : ℕ) → IsSound world → IsScheduled world batch state turns last end → IsSound last
scheduled_sound world last batch turns state end sound is = subst IsSound is.to_last (goes_sound is.rounds turns (first_schedule world batch state) is.ended sound is.goes)

-- ---- how a settle by draws is over

-- turns by the schedule lead to where nothing goes on
record GoesToEnd (world : WorldState) (batch turns : List Turn) (state : ℕ) (last : ScheduleState) : Type 0 where
  pub rounds : ℕ
  pub goes : Goes rounds (first_schedule world batch state) turns last
  pub over : IsOver last

one_end : (world : WorldState) (batch turns more : List Turn) (state : ℕ) (last other : ScheduleState) → GoesToEnd world batch turns state last → GoesToEnd world batch more state other → AreOne turns more last other
one_end world batch turns more state last other one two = goes_one one.rounds two.rounds turns more (first_schedule world batch state) last other one.goes one.over two.goes two.over

settled_end : (world last : WorldState) (batch turns : List Turn) (state end : ℕ) → (is : IsScheduled world batch state turns last end) → GoesToEnd world batch turns state is.ended
settled_end world last batch turns state end is = record { rounds = is.rounds; goes = is.goes; over = ended_over is.ended is.still is.not_due }

version_end : (world : WorldState) (batch turns : List Turn) (state end at : ℕ) → (stops : StopsAtVersion world batch state turns end at) → GoesToEnd world batch turns state stops.last
version_end world batch turns state end at stops = record { rounds = 0; goes = stops.draws; over = version_over stops.last stops.meets.turn stops.is_drawn stops.meets.version }

ring_there : (world last : WorldState) (batch turns : List Turn) (at : ℕ) → IsSound world → IsStopped world batch turns last → IsFirstOnRing last at → has_ring last ≡ true
ring_there world last batch turns at sound stopped least = has_by last (Some at) (run_keeps_sound world last turns sound stopped.runs) least

ring_end : (world : WorldState) (batch turns : List Turn) (state end at : ℕ) → IsSound world → (stops : StopsAtRing world batch state turns end at) → GoesToEnd world batch turns state stops.last
ring_end world batch turns state end at sound stops = record {
  rounds = stops.rounds;
  goes = stops.goes;
  over = ring_over stops.last stops.used_up (ring_there world stops.last.world batch turns at sound stops.stopped stops.least);
}

restless_end : (world : WorldState) (batch turns : List Turn) (state end at : ℕ) → (stops : StopsRestless world batch state turns end at) → GoesToEnd world batch turns state stops.last
restless_end world batch turns state end at stops = record {
  rounds = stops.rounds;
  goes = stops.goes;
  over = restless_over stops.last stops.none (first_can stops.last.world at stops.restless.first);
}

-- where nothing is listed nothing is drawn
none_drawn : (now : ScheduleState) (turn : Turn) → candidates now ≡ [] → drawn_turn now ≡ Some turn → ⊥
none_drawn now turn none is =
    let nothing : drawn_turn now ≡ None = ap (λ (l : List Turn). slice_get l (drawn_place now.draws (length l))) none in
    cc (nothing, is)

-- ---- two stops

same_at : (o : Option ℕ) (a b : ℕ) → o ≡ Some a → o ≡ Some b → a ≡ b
same_at o a b one two = cc

same_turn : (o : Option Turn) (s t : Turn) → o ≡ Some s → o ≡ Some t → s ≡ t
same_turn o s t one two = cc

some_none : (b : Bool) → b ≡ true → b ≡ false → ⊥
some_none b some none = cc

-- there is one least number
least_by : (a b : ℕ) → (a < b → ⊥) → (b < a → ⊥) → a ≡ b
least_by a b above below = grind (arith, above, below)

-- one least slot on a ring
least_one : (world : WorldState) (a b : ℕ) → IsFirstOnRing world a → IsFirstOnRing world b → a ≡ b
least_one world a b one two = least_by a b (λ above. two.least a above one.on) (λ below. one.least b below two.on)

-- one first box whose program can go on
first_one : (world : WorldState) (a b : ℕ) → IsFirstShifter world a → IsFirstShifter world b → a ≡ b
first_one world a b one two =
    least_by a b (λ above. some_none (is_enabled (box_at world a) Shift) one.can (two.least a above)) (λ below. some_none (is_enabled (box_at world b) Shift) two.can (one.least b below))

-- nothing stands at the end of a list
past_end : (xs : List Turn) (x : Turn) → slice_get xs (length xs) ≡ Some x → ⊥
past_end [] x is = cc
past_end (y ∷ xs) x is = past_end xs x is

-- no command comes next where all were made
none_next : (batch turns : List Turn) (last : WorldState) (at : ℕ) → ((who : ℕ) → commands_of who turns ≡ commands_of who batch) → MeetsLast batch turns last at → ⊥
none_next batch turns last at used meets =
    past_end (commands_of meets.turn.who batch) meets.turn
    (subst (λ (made : List Turn). slice_get (commands_of meets.turn.who batch) (length made) ≡ Some meets.turn) (used meets.turn.who) meets.next)

record IsSameStop (stop other : SettleStop) (turns more : List Turn) : Type 0 where
  pub stops : stop ≡ other
  pub turns_same : turns ≡ more

two_versions : (world : WorldState) (batch turns more : List Turn) (state end until a b : ℕ) → StopsAtVersion world batch state turns end a → StopsAtVersion world batch state more until b → IsSameStop (VersionEnd a) (VersionEnd b) turns more
two_versions world batch turns more state end until a b one two =
    let same = one_end world batch turns more state one.last two.last (version_end world batch turns state end a one) (version_end world batch more state until b two) in
    let turn = same_turn (drawn_turn two.last) one.meets.turn two.meets.turn (subst (λ (s : ScheduleState). drawn_turn s ≡ Some one.meets.turn) same.stands one.is_drawn) two.is_drawn in
    let heard : heard_slot two.last.world two.meets.turn ≡ Some a =
    subst (λ (t : Turn). heard_slot two.last.world t ≡ Some a) turn (subst (λ (s : ScheduleState). heard_slot s.world one.meets.turn ≡ Some a) same.stands one.meets.slot) in
    record { stops = ap VersionEnd (same_at (heard_slot two.last.world two.meets.turn) a b heard two.meets.slot); turns_same = same.turns }

two_rings : (world : WorldState) (batch turns more : List Turn) (state end until a b : ℕ) → IsSound world → StopsAtRing world batch state turns end a → StopsAtRing world batch state more until b → IsSameStop (Ring a) (Ring b) turns more
two_rings world batch turns more state end until a b sound one two =
    let same = one_end world batch turns more state one.last two.last (ring_end world batch turns state end a sound one) (ring_end world batch more state until b sound two) in
    record { stops = ap Ring (least_one two.last.world a b (subst (λ (s : ScheduleState). IsFirstOnRing s.world a) same.stands one.least) two.least); turns_same = same.turns }

two_restless : (world : WorldState) (batch turns more : List Turn) (state end until a b : ℕ) → StopsRestless world batch state turns end a → StopsRestless world batch state more until b → IsSameStop (Restless a) (Restless b) turns more
two_restless world batch turns more state end until a b one two =
    let same = one_end world batch turns more state one.last two.last (restless_end world batch turns state end a one) (restless_end world batch more state until b two) in
    record { stops = ap Restless (first_one two.last.world a b (subst (λ (s : ScheduleState). IsFirstShifter s.world a) same.stands one.restless.first) two.restless.first); turns_same = same.turns }

-- a settle doesn't stop at the last version where the batch is used up
version_apart : (world : WorldState) (batch turns more : List Turn) (state end a rounds : ℕ) (last : ScheduleState) → StopsAtVersion world batch state turns end a
    → Goes rounds (first_schedule world batch state) more last → IsOver last → last.left ≡ [] → IsStopped world batch more last.world → ⊥
version_apart world batch turns more state end a rounds last one goes over left stopped =
    let same = one_end world batch turns more state one.last last (version_end world batch turns state end a one) (record { rounds = rounds; goes = goes; over = over }) in
    none_next batch more one.last.world a (λ who. used_up world batch more state rounds last goes left stopped who)
    (subst (λ (t : List Turn). MeetsLast batch t one.last.world a) same.turns one.meets)

version_ring : (world : WorldState) (batch turns more : List Turn) (state end until a b : ℕ) → IsSound world → StopsAtVersion world batch state turns end a → StopsAtRing world batch state more until b → ⊥
version_ring world batch turns more state end until a b sound one two =
    version_apart world batch turns more state end a two.rounds two.last one two.goes (ring_end world batch more state until b sound two).over two.used_up two.stopped

version_restless : (world : WorldState) (batch turns more : List Turn) (state end until a b : ℕ) → StopsAtVersion world batch state turns end a → StopsRestless world batch state more until b → ⊥
version_restless world batch turns more state end until a b one two =
    version_apart world batch turns more state end a two.rounds two.last one two.goes (restless_end world batch more state until b two).over two.used_up two.stopped

-- nor at a ring where there is none
ring_restless : (world : WorldState) (batch turns more : List Turn) (state end until a b : ℕ) → IsSound world → StopsAtRing world batch state turns end a → StopsRestless world batch state more until b → ⊥
ring_restless world batch turns more state end until a b sound one two =
    let same = one_end world batch turns more state one.last two.last (ring_end world batch turns state end a sound one) (restless_end world batch more state until b two) in
    some_none (has_ring two.last.world) (subst (λ (s : ScheduleState). has_ring s.world ≡ true) same.stands (ring_there world one.last.world batch turns a sound one.stopped one.least)) two.restless.no_ring

same_stop : (stop other : SettleStop) (world : WorldState) (batch turns more : List Turn) (state end until : ℕ) → IsSound world → StopsBy stop world batch state turns end → StopsBy other world batch state more until → IsSameStop stop other turns more
same_stop (VersionEnd a) (VersionEnd b) world batch turns more state end until sound one two = two_versions world batch turns more state end until a b one two
same_stop (VersionEnd a) (Ring b) world batch turns more state end until sound one two = absurd (version_ring world batch turns more state end until a b sound one two)
same_stop (VersionEnd a) (Restless b) world batch turns more state end until sound one two = absurd (version_restless world batch turns more state end until a b one two)
same_stop (Ring a) (VersionEnd b) world batch turns more state end until sound one two = absurd (version_ring world batch more turns state until end b a sound two one)
same_stop (Ring a) (Ring b) world batch turns more state end until sound one two = two_rings world batch turns more state end until a b sound one two
same_stop (Ring a) (Restless b) world batch turns more state end until sound one two = absurd (ring_restless world batch turns more state end until a b sound one two)
same_stop (Restless a) (VersionEnd b) world batch turns more state end until sound one two = absurd (version_restless world batch more turns state until end b a two one)
same_stop (Restless a) (Ring b) world batch turns more state end until sound one two = absurd (ring_restless world batch more turns state until end b a sound two one)
same_stop (Restless a) (Restless b) world batch turns more state end until sound one two = two_restless world batch turns more state end until a b one two

-- ---- a stop and an end

-- a batch that stops isn't settled
stop_apart : (stop : SettleStop) (world last : WorldState) (batch turns more : List Turn) (state end until : ℕ) → IsSound world → StopsBy stop world batch state turns end → IsScheduled world batch state more last until → ⊥
stop_apart (VersionEnd at) world last batch turns more state end until sound one two =
    let same = one_end world batch turns more state one.last two.ended (version_end world batch turns state end at one) (settled_end world last batch more state until two) in
    none_drawn two.ended one.meets.turn two.still.none (subst (λ (s : ScheduleState). drawn_turn s ≡ Some one.meets.turn) same.stands one.is_drawn)
stop_apart (Ring at) world last batch turns more state end until sound one two =
    let same = one_end world batch turns more state one.last two.ended (ring_end world batch turns state end at sound one) (settled_end world last batch more state until two) in
    some_none (has_ring two.ended.world) (subst (λ (s : ScheduleState). has_ring s.world ≡ true) same.stands (ring_there world one.last.world batch turns at sound one.stopped one.least)) two.still.no_ring
stop_apart (Restless at) world last batch turns more state end until sound one two =
    let same = one_end world batch turns more state one.last two.ended (restless_end world batch turns state end at one) (settled_end world last batch more state until two) in
    some_none (can_shift two.ended.world) (subst (λ (s : ScheduleState). can_shift s.world ≡ true) same.stands (first_can one.last.world at one.restless.first)) two.still.no_shift

within_apart : (stop : Option SettleStop) (world last : WorldState) (batch more : List Turn) (state until : ℕ) (journal : List JournalLine) → IsSound world → EndsWithin stop state world batch journal → IsScheduled world batch state more last until → ⊥
within_apart None world last batch more state until journal sound one two = one
within_apart (Some stop) world last batch more state until journal sound (turns, end, is, stops) two = stop_apart stop world last batch turns more state end until sound stops two

within_one : (stop other : Option SettleStop) (world : WorldState) (batch : List Turn) (state : ℕ) (journal more : List JournalLine) → IsSound world → EndsWithin stop state world batch journal → EndsWithin other state world batch more
    → (stop ≡ other) × (journal ≡ more)
within_one None other world batch state journal more sound one two = absurd one
within_one (Some stop) None world batch state journal more sound one two = absurd two
within_one (Some stop) (Some other) world batch state journal more sound (turns, end, is, stops) (next, until, are, ends) =
    let same = same_stop stop other world batch turns next state end until sound stops ends in
    (ap (λ (s : SettleStop). Some s) same.stops, is ∙ (ap (map Made) same.turns_same ∙ sym are))

-- ---- journals

pub drawn_journal_is_one : ScheduleIsOne → DrawnJournalIsOne
drawn_journal_is_one schedule stop other state world [] journal more sound one two = (one.0 ∙ sym two.0, one.1 ∙ sym two.1)
drawn_journal_is_one schedule stop other state world (batch ∷ batches) journal more sound (inl one) (inl two) = within_one stop other world batch state journal more sound one two
drawn_journal_is_one schedule stop other state world (batch ∷ batches) journal more sound (inl one) (inr (next, last, until, others, are, scheduled, rest)) =
    absurd (within_apart stop world last batch next state until journal sound one scheduled)
drawn_journal_is_one schedule stop other state world (batch ∷ batches) journal more sound (inr (turns, last, end, later, is, scheduled, rest)) (inl two) =
    absurd (within_apart other world last batch turns state end more sound two scheduled)
drawn_journal_is_one schedule stop other state world (batch ∷ batches) journal more sound (inr (turns, last, end, later, is, scheduled, rest)) (inr (next, more_last, until, others, are, more_scheduled, more_rest)) =
    let same = schedule world last more_last batch turns next state end until scheduled more_scheduled in
    let there : IsDrawnJournal other end last batches others =
    subst (λ (w : WorldState). IsDrawnJournal other end w batches others) (sym same.worlds_same) (subst (λ (n : ℕ). IsDrawnJournal other n more_last batches others) (sym same.ends_same) more_rest) in
    let further = drawn_journal_is_one schedule stop other end last batches later others (scheduled_sound world last batch turns state end sound scheduled) rest there in
    (further.0, is ∙ (ap (λ (t : List Turn). lines_for t ++ later) same.turns_same ∙ (ap (λ (l : List JournalLine). lines_for next ++ l) further.1 ∙ sym are)))
