-- What a round and a request do to a box that runs freely.
use Rattle.std.proofs.Common.{◌≡◌, ◌≢◌, ◌⊎◌, ◌↔◌, ℕ, ◌+◌, ◌^◌, ◌<◌, ◌≤◌, Bool, false, true, IsTrue, List, [], ◌∷◌, ◌++◌, MatchOption, Option, None, Some, inl, inr, nat_lt, refl, sym, ◌∙◌, ap, subst, length, slice_get, append_assoc, arith}
use Rattle.std.specs.List.{AllByRecursion, cons_option}
use Rattle.std.proofs.lemmas.Bool.{cases_lt, lt-ltb, le-ltb}
use Rattle.std.proofs.lemmas.List.{append-nil}
use Rattle.std.proofs.lemmas.List.Elements.{filter_map-append}
use Rattle.std.proofs.lemmas.List.Sums.{sum_by-append}
use Rattle.mc_box.specs.BoxShapes.{BoxShapeState, box_shape, is_enabled_by}
use Rattle.mc_box.specs.declared.event.Event.{Event}
use Rattle.mc_desk.specs.Desks.{IsNextRequest, operator_count, taken_by}
use Rattle.mc_desk.specs.declared.desk.Desk.{Desk}
use Rattle.mc_desk.specs.declared.desk.Taker.{Taker}
use Rattle.mc_desk.specs.declared.request.Request.{Request}
use Rattle.mc_flight.specs.Seats.{IsSameSeat}
use Rattle.mc_flight.specs.declared.flight.FlightSeat.{FlightSeat}
use Rattle.mc_lane.specs.Queue.{Queue}
use Rattle.mc_live.proofs.Halving.{all_first, all_last}
use Rattle.mc_live.proofs.Joining.{add_command, add_round, begin}
use Rattle.mc_live.specs.Accounts.{HasRun, with_commands}
use Rattle.mc_live.specs.Courses.{AreAllAllowed, GoesSo, HasBegun, HasCome, IsLastStop, IsOn, MeetsEvent, TakesIn, is_refused, pace_after, pace_by, unfit_pace}
use Rattle.mc_live.specs.Requests.{AreOfDesk, end_in, ends_asked, events_asked}
use Rattle.mc_live.specs.declared.course.Course.{Course}
use Rattle.mc_live.specs.declared.course.Pace.{Pace}
use Rattle.mc_live.specs.declared.course.Pace.TheVariants.{Runs, Finished, Stopped, Unfit, Refused}
use Rattle.mc_live.specs.declared.limit.TheConstants.{FURTHER_ROUND_LIMIT}
use Rattle.mc_worker.specs.Account.{JoinAccounts}
use Rattle.mc_worker.specs.Ready.{IsAllowed, IsReady}
use Rattle.mc_worker.specs.Rounds.{AllIdle, HasStopped, IsLastHear, IsRound}
use Rattle.mc_worker.specs.declared.limit.TheConstants.{TURN_LIMIT}
use Rattle.mc_worker.specs.declared.stop.RoundEnd.{RoundEnd}
use Rattle.mc_worker.specs.declared.stop.Stop.{Stop}
use Rattle.mc_worker.specs.declared.stop.Stop.TheVariants.{Rested, Spent, NoMemory, VersionEnd, Strange}
use Rattle.mc_worker.specs.declared.worker.Worker.{Worker}

-- ---- requests

one_event : (request : Request) → events_asked (request ∷ []) ≡ cons_option request.event []
one_event request = refl

pub events_more : (requests : List Request) (request : Request) → events_asked (requests ++ request ∷ []) ≡ events_asked requests ++ cons_option request.event []
events_more requests request = filter_map-append (λ (r : Request). r.event) requests (request ∷ [])

pub ends_more : (requests : List Request) (request : Request) → ends_asked (requests ++ request ∷ []) ≡ ends_asked requests + end_in request.event
ends_more requests request =
    let one : ends_asked (request ∷ []) ≡ 0 + end_in request.event = refl in
    let both = sum_by-append (λ (r : Request). end_in r.event) requests (request ∷ []) in
    omega (arith, one, both)

end_small : (event : Option Event) → end_in event ≤ 1
end_small None = omega arith
end_small (Some event) = omega arith

ends_few : (requests : List Request) → ends_asked requests ≤ length requests
ends_few [] = omega arith
ends_few (first ∷ requests) =
    let one : ends_asked (first ∷ []) ≡ 0 + end_in first.event = refl in
    let both : ends_asked (first ∷ requests) ≡ ends_asked (first ∷ []) + ends_asked requests = sum_by-append (λ (r : Request). end_in r.event) (first ∷ []) requests in
    let rest = ends_few requests in
    let small = end_small first.event in
    omega (arith, one, both, rest, small)

-- what holds of each holds with one more
pub all_more : {X : Type 0} (P : X → Type 0) (xs : List X) (y : X) → AllByRecursion P xs → P y → AllByRecursion P (xs ++ y ∷ [])
all_more P [] y all last = (last, tt)
all_more P (x ∷ xs) y all last = (all.0, all_more P xs y all.1 last)

-- what was taken from a desk is of its operators, and so with one request more
pub none_known : (desk : Desk) (taker : Taker) → taken_by taker ≡ [] → AreOfDesk desk (taken_by taker)
none_known desk taker none = subst (AreOfDesk desk) (sym none) tt

pub known_more : (desk : Desk) (old new : Taker) (request : Request) → taken_by new ≡ taken_by old ++ request ∷ [] → IsNextRequest desk old request → AreOfDesk desk (taken_by old) → AreOfDesk desk (taken_by new)
known_more desk old new request is next known =
    subst (AreOfDesk desk) (sym is) (all_more (λ (r : Request). r.operator < operator_count desk) (taken_by old) request known next.operator)

pub seat_still : (seat : FlightSeat) → IsSameSeat seat seat
seat_still seat = record { counter = refl; number = refl; parts = refl }

-- ---- the beginning

pub begun : (worker : Worker) (course : Course) (asked : List Request) (sent took : ℕ) → asked ≡ [] → sent ≡ 0 → took ≡ 0 → HasBegun course → IsReady worker → worker.stamp ≡ 0 → IsOn worker worker asked sent took course
begun worker course asked sent took none no_sent no_took begins ready low = record {
  ready = ready;
  come = inr (
    record {
      added = [];
      run = rw (begins.turns, no_sent, no_took) (begin worker ready (omega (arith, low)));
      allowed = tt;
      asked = rw (begins.taken, begins.kept) refl;
      none_kept = λ all. begins.kept;
      ended_is = rw (begins.ended, begins.taken) refl;
      few = rw begins.turns (omega arith);
      goes = rw (begins.pace, begins.turns) (omega arith, begins.kept);
    },
    none ∙ sym begins.taken,
  );
}

-- ---- a round more

-- a box that has made many turns makes no further round
so_by : (finished : Bool) (a c : Worker) (taken : List Request) (kept : List Event) (turns : ℕ) → nat_lt FURTHER_ROUND_LIMIT turns ≡ finished → kept ≡ [] → (FURTHER_ROUND_LIMIT < turns) ⊎ (turns ≤ FURTHER_ROUND_LIMIT) → GoesSo a c taken kept turns (pace_by finished)
so_by true a c taken kept turns is none (inl more) = more
so_by true a c taken kept turns is none (inr few) = let not : nat_lt FURTHER_ROUND_LIMIT turns ≡ false = le-ltb FURTHER_ROUND_LIMIT turns few in cc
so_by false a c taken kept turns is none (inl more) = let so : nat_lt FURTHER_ROUND_LIMIT turns ≡ true = lt-ltb FURTHER_ROUND_LIMIT turns more in cc
so_by false a c taken kept turns is none (inr few) = (few, none)

-- why it goes as it does then
so_after : (stop : Stop) (a b c : Worker) (taken : List Request) (kept : List Event) (turns made : ℕ) → kept ≡ [] → made ≤ TURN_LIMIT → (made < TURN_LIMIT → HasStopped (AllIdle b c) c stop) → ((stop ≡ Spent) ↔ (made ≡ TURN_LIMIT))
    → IsTrue (is_refused (pace_after turns stop)) ⊎ GoesSo a c taken kept turns (pace_after turns stop)
so_after Rested a b c taken kept turns made none most cause spent = inr (so_by (nat_lt FURTHER_ROUND_LIMIT turns) a c taken kept turns refl none (cases_lt FURTHER_ROUND_LIMIT turns))
so_after Spent a b c taken kept turns made none most cause spent = inr (so_by (nat_lt FURTHER_ROUND_LIMIT turns) a c taken kept turns refl none (cases_lt FURTHER_ROUND_LIMIT turns))
so_after (NoMemory e) a b c taken kept turns made none most cause spent = inl refl
so_after (VersionEnd slot) a b c taken kept turns made none most cause spent =
    let other : made ≢ TURN_LIMIT = λ all. let is : VersionEnd slot ≡ Spent = spent.1 all in cc in
    inr (cause (omega arith))
so_after (Strange end tunnel) a b c taken kept turns made none most cause spent =
    let other : made ≢ TURN_LIMIT = λ all. let is : Strange end tunnel ≡ Spent = spent.1 all in cc in
    inr (cause (omega arith))

-- a course after a round
abbrev pub after_round : Course → RoundEnd → Course
after_round course end = record course { turns = course.turns + end.turns; pace = pace_after (course.turns + end.turns) end.stop }

runs_few : (pace : Pace) (a b : Worker) (taken : List Request) (kept : List Event) (turns : ℕ) → pace ≡ Runs → GoesSo a b taken kept turns pace → (turns ≤ FURTHER_ROUND_LIMIT) × (kept ≡ [])
runs_few pace a b taken kept turns runs so = subst (λ (w : Pace). GoesSo a b taken kept turns w) runs so

round_on : JoinAccounts → (a b c : Worker) (sent took : ℕ) (course : Course) (end : RoundEnd) → course.pace ≡ Runs → IsRound false b c end → IsReady c → box_shape c.part ≡ box_shape b.part → end.sent < 2 ^ 32
    → end.turns ≤ TURN_LIMIT → (end.turns < TURN_LIMIT → HasStopped (AllIdle b c) c end.stop) → ((end.stop ≡ Spent) ↔ (end.turns ≡ TURN_LIMIT)) → HasCome a b sent took course
    → IsTrue (is_refused (after_round course end).pace) ⊎ HasCome a c (sent + end.sent) (took + end.took) (after_round course end)
round_on law a b c sent took course end runs round ready shape fits most cause spent is =
    let few = runs_few course.pace a b course.taken.items course.kept.items course.turns runs is.goes in
    let low : course.turns ≤ FURTHER_ROUND_LIMIT = few.0 in
    elim (so_after end.stop a b c course.taken.items course.kept.items (course.turns + end.turns) end.turns few.1 most cause spent) [
      | inl refused ↦ inl refused
      | inr so ↦ inr (record {
        added = is.added;
        run = add_round law a b c is.added course.turns sent took end round ready shape fits is.run;
        allowed = is.allowed;
        asked = is.asked;
        none_kept = is.none_kept;
        ended_is = is.ended_is;
        few = omega (arith, low, most);
        goes = so;
      })
    ]

-- so a box that makes a round is on its course
pub round_goes_on : JoinAccounts → (a b c : Worker) (asked : List Request) (sent took : ℕ) (course : Course) (end : RoundEnd) → course.pace ≡ Runs → IsRound false b c end → IsReady c → box_shape c.part ≡ box_shape b.part → end.sent < 2 ^ 32
    → end.turns ≤ TURN_LIMIT → (end.turns < TURN_LIMIT → HasStopped (AllIdle b c) c end.stop) → ((end.stop ≡ Spent) ↔ (end.turns ≡ TURN_LIMIT)) → IsOn a b asked sent took course
    → IsOn a c asked (sent + end.sent) (took + end.took) (after_round course end)
round_goes_on law a b c asked sent took course end runs round ready shape fits most cause spent on = record {
  ready = ready;
  come = elim on.come [
    | inl refused ↦ let not : IsTrue (is_refused Runs) = subst (λ (w : Pace). IsTrue (is_refused w)) runs refused in cc
    | inr both ↦ elim (round_on law a b c sent took course end runs round ready shape fits most cause spent both.0) [
      | inl refused ↦ inl refused
      | inr is ↦ inr (is, both.1)
    ]
  ];
}

-- ---- a request more

-- what is first stays first
front_stays : (items : List Event) (more : Event) (P : Event → Type 0) → MatchOption (slice_get items 0) ⊥ P → MatchOption (slice_get (items ++ more ∷ []) 0) ⊥ P
front_stays [] more P none = absurd none
front_stays (first ∷ items) more P is = is

last_stays : (stop : Stop) (b : Worker) (commands : Queue Event) (event : Event) → commands.items ≡ b.stimuli.items ++ event ∷ [] → IsLastStop b stop → IsLastStop (with_commands b commands) stop
last_stays Rested b commands event is last = last
last_stays Spent b commands event is last = last
last_stays (NoMemory e) b commands event is last = last
last_stays (VersionEnd slot) b commands event is last =
    subst (λ (l : List Event). MatchOption (slice_get l 0) ⊥ (λ event. IsLastHear b.part slot event)) (sym is) (front_stays b.stimuli.items event (λ event. IsLastHear b.part slot event) last)
last_stays (Strange end tunnel) b commands event is last = last

-- a command more
so_got : (pace : Pace) (a b : Worker) (commands : Queue Event) (event : Event) (taken more : List Request) (kept : List Event) (turns : ℕ) → commands.items ≡ b.stimuli.items ++ event ∷ []
    → (AreAllAllowed a more → AreAllAllowed a taken) → GoesSo a b taken kept turns pace → GoesSo a (with_commands b commands) more kept turns pace
so_got Runs a b commands event taken more kept turns is less so = so
so_got Finished a b commands event taken more kept turns is less so = so
so_got (Stopped stop) a b commands event taken more kept turns is less so = last_stays stop b commands event is so
so_got Unfit a b commands event taken more kept turns is less so = λ all. so (less all)
so_got (Refused e) a b commands event taken more kept turns is less so = so

-- nothing more
so_stays : (pace : Pace) (a b : Worker) (taken more : List Request) (kept : List Event) (turns : ℕ) → (AreAllAllowed a more → AreAllAllowed a taken) → GoesSo a b taken kept turns pace → GoesSo a b more kept turns pace
so_stays Runs a b taken more kept turns less so = so
so_stays Finished a b taken more kept turns less so = so
so_stays (Stopped stop) a b taken more kept turns less so = so
so_stays Unfit a b taken more kept turns less so = λ all. so (less all)
so_stays (Refused e) a b taken more kept turns less so = so

-- an event that it can't make
so_unfit : (pace : Pace) (a b : Worker) (taken more : List Request) (kept other : List Event) (turns : ℕ) → (AreAllAllowed a more → ⊥) → GoesSo a b taken kept turns pace → GoesSo a b more other turns (unfit_pace pace)
so_unfit Runs a b taken more kept other turns never so = never
so_unfit Finished a b taken more kept other turns never so = so
so_unfit (Stopped stop) a b taken more kept other turns never so = so
so_unfit Unfit a b taken more kept other turns never so = never
so_unfit (Refused e) a b taken more kept other turns never so = so

-- events that are all allowed are none that were kept
never_kept : (a b : Worker) (sent took : ℕ) (old : Course) (event : Event) (more : List Request) → events_asked more ≡ events_asked old.taken.items ++ event ∷ [] → HasCome a b sent took old
    → ((old.kept.items ≡ [] → ⊥) ⊎ (IsAllowed b.part event → ⊥)) → AreAllAllowed a more → ⊥
never_kept a b sent took old event more is come (inl some) all =
    some (come.none_kept (all_first (IsAllowed a.part) (events_asked old.taken.items) (event ∷ []) (subst (λ (l : List Event). AllByRecursion (IsAllowed a.part) l) is all)))
never_kept a b sent took old event more is come (inr never) all =
    let one = all_last (IsAllowed a.part) (events_asked old.taken.items) (event ∷ []) (subst (λ (l : List Event). AllByRecursion (IsAllowed a.part) l) is all) in
    never (subst (λ (s : BoxShapeState). IsTrue (is_enabled_by s event)) (sym come.run.shape) one.0)

run_same : (a b c : Worker) (added : List Event) (t sent took t2 : ℕ) → c ≡ b → t2 ≡ t → HasRun a b added t sent took → HasRun a c added t2 sent took
run_same a b c added t sent took t2 same turns run = rw (same, turns) run

less : (a : Worker) (old new : List Request) (event : Option Event) → events_asked new ≡ events_asked old ++ cons_option event [] → AreAllAllowed a new → AreAllAllowed a old
less a old new event is all = all_first (IsAllowed a.part) (events_asked old) (cons_option event []) (subst (λ (l : List Event). AllByRecursion (IsAllowed a.part) l) is all)

so_same : (a b c : Worker) (taken : List Request) (kept other : List Event) (turns more : ℕ) (pace next : Pace) → c ≡ b → other ≡ kept → more ≡ turns → next ≡ pace → GoesSo a b taken kept turns pace → GoesSo a c taken other more next
so_same a b c taken kept other turns more pace next one two three four so = rw (one, two, three, four) so

take_by : (event : Option Event) → JoinAccounts → (a b c : Worker) (sent took : ℕ) (old new : Course) → new.turns ≡ old.turns → events_asked new.taken.items ≡ events_asked old.taken.items ++ cons_option event []
    → new.ended ≡ ends_asked new.taken.items → IsReady c → MeetsEvent event b c old new → HasCome a b sent took old → HasCome a c sent took new
take_by None law a b c sent took old new turns is ended ready meets come = record {
  added = come.added;
  run = run_same a b c come.added old.turns sent took new.turns meets.worker turns come.run;
  allowed = come.allowed;
  asked = is ∙ (append-nil (events_asked old.taken.items) ∙ (come.asked ∙ ap (λ (l : List Event). come.added ++ l) (sym meets.kept)));
  none_kept = λ all. meets.kept ∙ come.none_kept (less a old.taken.items new.taken.items None is all);
  ended_is = ended;
  few = rw turns come.few;
  goes = so_same a b c new.taken.items old.kept.items new.kept.items old.turns new.turns old.pace new.pace meets.worker meets.kept turns meets.pace
      (so_stays old.pace a b old.taken.items new.taken.items old.kept.items old.turns (less a old.taken.items new.taken.items None is) come.goes);
}
take_by (Some event) law a b c sent took old new turns is ended ready (inl meets) come = record {
  added = come.added ++ event ∷ [];
  run = run_same a (with_commands b c.stimuli) c (come.added ++ event ∷ []) old.turns sent took new.turns meets.worker turns
      (add_command law a b come.added old.turns sent took c.stimuli event meets.added (subst (λ (w : Worker). IsReady w) meets.worker ready) come.run);
  allowed = all_more (IsAllowed a.part) come.added event come.allowed (subst (λ (s : BoxShapeState). IsTrue (is_enabled_by s event)) come.run.shape meets.allowed);
  asked =
      let none : come.added ++ old.kept.items ≡ come.added = ap (λ (l : List Event). come.added ++ l) meets.none_kept ∙ append-nil come.added in
      is ∙ (ap (λ (l : List Event). l ++ event ∷ []) (come.asked ∙ none) ∙ (sym (append-nil (come.added ++ event ∷ [])) ∙ ap (λ (l : List Event). (come.added ++ event ∷ []) ++ l) (sym (meets.kept ∙ meets.none_kept))));
  none_kept = λ all. meets.kept ∙ meets.none_kept;
  ended_is = ended;
  few = rw turns come.few;
  goes = so_same a (with_commands b c.stimuli) c new.taken.items old.kept.items new.kept.items old.turns new.turns old.pace new.pace meets.worker meets.kept turns meets.pace
      (so_got old.pace a b c.stimuli event old.taken.items new.taken.items old.kept.items old.turns meets.added (less a old.taken.items new.taken.items (Some event) is) come.goes);
}
take_by (Some event) law a b c sent took old new turns is ended ready (inr meets) come =
    let never = never_kept a b sent took old event new.taken.items is come meets.why in
    record {
      added = come.added;
      run = run_same a b c come.added old.turns sent took new.turns meets.worker turns come.run;
      allowed = come.allowed;
      asked = is ∙ (ap (λ (l : List Event). l ++ event ∷ []) come.asked ∙ (append_assoc come.added old.kept.items (event ∷ []) ∙ ap (λ (l : List Event). come.added ++ l) (sym meets.kept)));
      none_kept = λ all. absurd (never all);
      ended_is = ended;
      few = rw turns come.few;
      goes = so_same a b c new.taken.items new.kept.items new.kept.items old.turns new.turns (unfit_pace old.pace) new.pace meets.worker refl turns meets.pace
          (so_unfit old.pace a b old.taken.items new.taken.items old.kept.items new.kept.items old.turns never come.goes);
    }

take_on : JoinAccounts → (a b c : Worker) (sent took : ℕ) (request : Request) (old new : Course) → TakesIn request b c old new → IsReady c → HasCome a b sent took old → HasCome a c sent took new
take_on law a b c sent took request old new takes ready come =
    take_by request.event law a b c sent took old new takes.turns
    (ap events_asked takes.taken ∙ events_more old.taken.items request)
    (takes.ended ∙ (ap (λ (n : ℕ). n + end_in request.event) come.ended_is ∙ (sym (ends_more old.taken.items request) ∙ ap ends_asked (sym takes.taken))))
    ready takes.event come

-- so a box that takes a request in is on its course
pub takes_on : JoinAccounts → (a b c : Worker) (asked : List Request) (sent took : ℕ) (request : Request) (old new : Course) → is_refused old.pace ≡ false → TakesIn request b c old new → IsReady c
    → IsOn a b asked sent took old → IsOn a c (asked ++ request ∷ []) sent took new
takes_on law a b c asked sent took request old new not takes ready on = record {
  ready = ready;
  come = elim on.come [
    | inl refused ↦ cc
    | inr both ↦ inr (take_on law a b c sent took request old new takes ready both.0, ap (λ (l : List Request). l ++ request ∷ []) both.1 ∙ sym takes.taken)
  ];
}

-- each end that was counted was asked
pub ends_counted : (a b : Worker) (asked : List Request) (sent took : ℕ) (course : Course) → is_refused course.pace ≡ false → IsOn a b asked sent took course → course.ended ≤ length course.taken.items
ends_counted a b asked sent took course not on = elim on.come [
  | inl refused ↦ cc
  | inr both ↦ let few = ends_few course.taken.items in let is = both.0.ended_is in omega (arith, few, is)
]
