-- The schedule leaves no choice.
use Rattle.std.proofs.Common.{◌≡◌, ◌++◌, if◌then◌else◌, nat_lt, ℕ, zero, suc, Bool, true, false, List, [], ◌∷◌, length, slice_get, Option, Some, None, IsTrue, refl, ap, sym, ◌∙◌, subst}
use Rattle.std.specs.Option.{option_map}
use Rattle.std.proofs.lemmas.Bool.{and_parts}
use Rattle.mc_box.specs.declared.event.Turn.{Turn}
use Rattle.mc_box.specs.BoxEvents.{is_enabled, is_version_end}
use Rattle.mc_box.specs.declared.event.Event.{Event}
use Rattle.mc_box.specs.declared.event.Event.TheVariants.{Take, Set, Media, Tell, Retry, Shift}
use Rattle.mc_box.proofs.EventGoes.{version_end_stops}
use Rattle.mc_model.specs.Paths.{has_ring}
use Rattle.mc_model.specs.Settles.{can_shift}
use Rattle.mc_model.specs.Steps.{after_making, ends_version, ends_version_at, run, step, step_by}
use Rattle.mc_model.specs.Worlds.{WorldState, box_at}
use Rattle.mc_seq.specs.Draws.{ScheduleIsOne}
use Rattle.mc_seq.specs.Retries.{retries_by_box}
use Rattle.mc_seq.specs.Schedule.{AreDrawn, Goes, IsStill, MakesRound, MayGo, ScheduleState, candidates, drawn_turn, drawn_place, first_schedule, schedule_after}

-- where nothing is listed, nothing is drawn
none_drawn : (now : ScheduleState) (turn : Turn) → candidates now ≡ [] → drawn_turn now ≡ Some turn → ⊥
none_drawn now turn none is =
    let nothing : drawn_turn now ≡ None = ap (λ (l : List Turn). slice_get l (drawn_place now.draws (length l))) none in
    cc (nothing, is)

-- ---- where the schedule is over

-- no drawn turn can be made
abbrev pub DrawsNone : ScheduleState → Type 0
DrawsNone now = (turn : Turn) (next : WorldState) → MayGo now → drawn_turn now ≡ Some turn → step now.world turn ≡ Some next → ⊥

-- nor is a round
pub record IsOver (now : ScheduleState) : Type 0 where
  pub no_turn : DrawsNone now
  pub no_round : (next : ScheduleState) → MakesRound now next → ⊥

-- nothing is listed
none_listed : (now : ScheduleState) → candidates now ≡ [] → DrawsNone now
none_listed now none turn next may is goes = none_drawn now turn none is

-- a test is not both true and false
not_both : (b : Bool) → b ≡ true → b ≡ false → ⊥
not_both b one two = cc

-- nothing can come, and no round is due
pub ended_over : (now : ScheduleState) → IsStill now → now.due ≡ false → IsOver now
ended_over now still not_due = record {
  no_turn = none_listed now still.none;
  no_round = λ next round. not_both now.due round.was_due not_due;
}

-- the batch is used up, and there is a ring
pub ring_over : (now : ScheduleState) → now.left ≡ [] → has_ring now.world ≡ true → IsOver now
ring_over now left ring = record {
  no_turn = λ turn next may is goes. not_both (has_ring now.world) ring (may left);
  no_round = λ next round. not_both (has_ring now.world) ring round.still.no_ring;
}

-- nothing is listed, and a program can go on
pub restless_over : (now : ScheduleState) → candidates now ≡ [] → can_shift now.world ≡ true → IsOver now
restless_over now none can = record {
  no_turn = none_listed now none;
  no_round = λ next round. not_both (can_shift now.world) can round.still.no_shift;
}

-- an option has one value
same_turn : (o : Option Turn) (s t : Turn) → o ≡ Some s → o ≡ Some t → s ≡ t
same_turn o s t one two = cc

-- an event that ends a version has no step
step_none : (event : Event) (world : WorldState) (who : ℕ) → is_version_end (box_at world who) event ≡ true → step_by world who event ≡ None
step_none (Take local) world who end = absurd (cc)
step_none (Set change) world who end = ap (option_map (after_making world who)) (version_end_stops (box_at world who) (Set change) end)
step_none (Media change) world who end = ap (option_map (after_making world who)) (version_end_stops (box_at world who) (Media change) end)
step_none (Tell word) world who end = ap (option_map (after_making world who)) (version_end_stops (box_at world who) (Tell word) end)
step_none (Retry local) world who end = ap (option_map (after_making world who)) (version_end_stops (box_at world who) (Retry local) end)
step_none Shift world who end = ap (option_map (after_making world who)) (version_end_stops (box_at world who) Shift end)

ends_stops : (world next : WorldState) (turn : Turn) → IsTrue (ends_version world turn) → step world turn ≡ Some next → ⊥
ends_stops world next turn ends goes =
    let parts = and_parts (nat_lt turn.who (length world.boxes)) (ends_version_at world turn.who turn.event) ends in
    let at = and_parts (is_version_end (box_at world turn.who) turn.event) (is_enabled (box_at world turn.who) turn.event) parts.1 in
    let none : step world turn ≡ None = ap (λ (b : Bool). if b then step_by world turn.who turn.event else None) parts.0 ∙ step_none turn.event world turn.who at.0 in
    cc (none, goes)

-- the drawn turn ends a version
pub version_over : (now : ScheduleState) (turn : Turn) → drawn_turn now ≡ Some turn → IsTrue (ends_version now.world turn) → IsOver now
version_over now turn drawn ends = record {
  no_turn = λ other next may is goes.
      ends_stops now.world next turn ends (ap (step now.world) (same_turn (drawn_turn now) turn other drawn is) ∙ goes);
  no_round = λ next round. none_drawn now turn round.still.none drawn;
}

-- ---- one end

pub record AreOne (one two : List Turn) (last other : ScheduleState) : Type 0 where
  pub turns : one ≡ two
  pub stands : last ≡ other

-- one turn leads to one world
same_world : (world n m : WorldState) (s t : Turn) → s ≡ t → step world s ≡ Some n → step world t ≡ Some m → n ≡ m
same_world world n m s t is one two = cc

-- from one state of it the same turns are drawn, up to one at which no turn can be made
pub drawn_one : (one two : List Turn) (now last other : ScheduleState) → AreDrawn now one last → DrawsNone last → AreDrawn now two other → DrawsNone other → AreOne one two last other
drawn_one [] [] now last other first none second nothing = record { turns = refl; stands = sym first ∙ second }
drawn_one [] (t ∷ two) now last other first none second nothing = absurd (subst DrawsNone (sym first) none t second.0 second.1 second.2 second.3)
drawn_one (s ∷ one) [] now last other first none second nothing = absurd (subst DrawsNone (sym second) nothing s first.0 first.1 first.2 first.3)
drawn_one (s ∷ one) (t ∷ two) now last other first none second nothing =
    let same = same_turn (drawn_turn now) s t first.2 second.2 in
    let world = same_world now.world first.0 second.0 s t same first.3 second.3 in
    let rest : AreDrawn (schedule_after now s first.0) two other =
    subst (λ (w : WorldState). AreDrawn (schedule_after now s w) two other) (sym world) (subst (λ (x : Turn). AreDrawn (schedule_after now x second.0) two other) (sym same) second.4) in
    let later = drawn_one one two (schedule_after now s first.0) last other first.4 none rest nothing in
    record { turns = ap (λ (x : Turn). x ∷ one) same ∙ ap (λ (l : List Turn). t ∷ l) later.turns; stands = later.stands }

-- one world has one round, and one world after it
same_run : (world other n m : WorldState) → world ≡ other → run world (retries_by_box world) ≡ Some n → run other (retries_by_box other) ≡ Some m → n ≡ m
same_run world other n m is one two = let both : run world (retries_by_box world) ≡ run other (retries_by_box other) = ap (λ (w : WorldState). run w (retries_by_box w)) is in cc

-- and one state
same_round : (still again next other : ScheduleState) → still ≡ again → MakesRound still next → MakesRound again other → next ≡ other
same_round still again next other is one two =
    let worlds : next.world ≡ other.world = same_run still.world again.world next.world other.world (ap (λ (s : ScheduleState). s.world) is) one.retries two.retries in
    one.then_not
    ∙ (ap (λ (w : WorldState). let s : ScheduleState = record still { world = w; due = false } in s) worlds
    ∙ (ap (λ (t : ScheduleState). let s : ScheduleState = record t { world = other.world; due = false } in s) is ∙ sym two.then_not))

-- so the schedule leads from one state to one end
pub goes_one : (rounds others : ℕ) (one two : List Turn) (now last other : ScheduleState) → Goes rounds now one last → IsOver last → Goes others now two other → IsOver other → AreOne one two last other
goes_one zero zero one two now last other first over second ends = drawn_one one two now last other first over.no_turn second ends.no_turn
goes_one zero (suc others) one two now last other first over (head, rest, still, next, are, drew, round, more) ends =
    let same = drawn_one one head now last still first over.no_turn drew (none_listed still round.still.none) in
    absurd ((subst IsOver same.stands over).no_round next round)
goes_one (suc rounds) zero one two now last other (head, rest, still, next, are, drew, round, more) over second ends =
    let same = drawn_one two head now other still second ends.no_turn drew (none_listed still round.still.none) in
    absurd ((subst IsOver same.stands ends).no_round next round)
goes_one (suc rounds) (suc others) one two now last other (head, rest, still, next, are, drew, round, more) over (begun, left, again, after, is, drawn, made, later) ends =
    let same = drawn_one head begun now still again drew (none_listed still round.still.none) drawn (none_listed again made.still.none) in
    let from : next ≡ after = same_round still again next after same.stands round made in
    let behind = goes_one rounds others rest left next last other more over (subst (λ (s : ScheduleState). Goes others s left other) (sym from) later) ends in
    record {
      turns = are
          ∙ (ap (λ (l : List Turn). l ++ (retries_by_box still.world ++ rest)) same.turns
          ∙ (ap (λ (s : ScheduleState). begun ++ (retries_by_box s.world ++ rest)) same.stands
          ∙ (ap (λ (l : List Turn). begun ++ (retries_by_box again.world ++ l)) behind.turns ∙ sym is)));
      stands = behind.stands;
    }

-- so a settle by draws has one schedule
pub schedule_is_one : ScheduleIsOne
schedule_is_one world last other batch turns more state end until one two =
    let same = goes_one one.rounds two.rounds turns more (first_schedule world batch state) one.ended two.ended
    one.goes (ended_over one.ended one.still one.not_due) two.goes (ended_over two.ended two.still two.not_due) in
    record {
      turns_same = same.turns;
      worlds_same = sym one.to_last ∙ (ap (λ (s : ScheduleState). s.world) same.stands ∙ two.to_last);
      ends_same = sym one.to_end ∙ (ap (λ (s : ScheduleState). s.draws) same.stands ∙ two.to_end);
    }
