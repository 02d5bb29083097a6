-- What the logs and stops of a team show of the rounds of its boxes.
use Rattle.std.proofs.Common.{◌≡◌, ◌≢◌, ◌↔◌, inl, inr, ℕ, ◌+◌, ◌<◌, ◌≤◌, ◌++◌, Bool, false, List, length, map, slice_index_or, Option, Some, None, refl, sym, ◌∙◌, ap, subst, arith}
use Rattle.std.proofs.lemmas.List.{append-nil, length-map}
use Rattle.mc_box.specs.BoxEvents.{is_command, is_enabled, is_shift}
use Rattle.mc_box.specs.Boxes.{BoxState}
use Rattle.mc_box.specs.declared.event.Event.{Event}
use Rattle.mc_box.specs.declared.event.Event.TheVariants.{Shift}
use Rattle.mc_box.specs.declared.event.Turn.{Turn}
use Rattle.mc_team.proofs.KeptOrder.{taken_same}
use Rattle.mc_team.proofs.RoundTurns.{all_below}
use Rattle.mc_team.specs.Teams.{TeamState, shifts_at, stimuli_at}
use Rattle.mc_team.specs.OwnRounds.{AreOwnRounds, AreShown, BeginsByRetries, DidBox, HasBox, HasLaneEnd, IsOwnRound, MayNotShift, ShowsBox, ShowsEnd, ShowsRound, TakesAll}
use Rattle.mc_team.specs.Rounds.{EndsBox, IsTeamRound}
use Rattle.mc_port.specs.Entries.{AreMade, AreStamped, Claimed, Entry, entries_of, events_that, stamps_of}
use Rattle.mc_port.specs.Tunnels.{log_takes, tunnels_at}
use Rattle.mc_merge.proofs.Claims.{claimed_are_logged, logs_at}
use Rattle.mc_merge.specs.LaneLogs.{claimed_of}
use Rattle.mc_merge.specs.Lanes.{into_box, leads_to}
use Rattle.mc_model.specs.Worlds.{WorldState, box_at}
use Rattle.mc_order.specs.Keys.{Rise}
use Rattle.mc_port.specs.Ends.{RingName, in_ring}
use Rattle.mc_port.specs.declared.stamped.Stamped.{Stamped}
use Rattle.mc_signal.specs.declared.Tagged.{Tagged}
use Rattle.mc_worker.specs.Account.{retries_below}
use Rattle.mc_worker.specs.Ends.{unclaimed}
use Rattle.mc_worker.specs.Rounds.{AllIdle, CantShift, HasStopped, IsRound}
use Rattle.mc_worker.specs.Turns.{is_memory}
use Rattle.mc_worker.specs.declared.limit.TheConstants.{TURN_LIMIT}
use Rattle.mc_worker.specs.declared.logged.Logged.{Logged}
use Rattle.mc_worker.specs.declared.stop.RoundEnd.{RoundEnd}
use Rattle.mc_worker.specs.declared.stop.Stop.{Stop}
use Rattle.mc_worker.specs.declared.stop.Stop.TheVariants.{Rested, Spent, NoMemory, VersionEnd, Strange}
use Rattle.mc_worker.specs.declared.worker.Worker.{Worker}

-- ---- at rest

-- what a worker can't shift, the box of the team can't
may_not : (new : TeamState) (who : ℕ) (worker : Worker) → HasBox new who worker → CantShift worker → MayNotShift new who
may_not new who worker has (inl off) = inl (subst (λ (box : BoxState). is_enabled box Shift ≡ false) has.part off)
may_not new who worker has (inr all) = inr (sym has.shifts ∙ all)

-- what was under way on a lane was taken where its end is idle
takes_all : (retries : Bool) (world : WorldState) (who lane : ℕ) (b c : Worker) (end : RoundEnd) (round : IsRound retries b c end) → HasLaneEnd world lane b → leads_to world lane ≡ who → AllIdle b c → TakesAll world who lane round.log
takes_all retries world who lane b c end round at leads idle =
    let work = round.account.work in
    let ins : length c.ins.items ≡ length b.ins.items = sym (length-map c.ins.items in_ring) ∙ (ap (λ (l : List RingName). length l) work.in_rings ∙ length-map b.ins.items in_ring) in
    let there : at.end < length b.ins.items = at.there in
    let rests = idle at.end (omega arith) in
    let account = work.ins at.end in
    let taken : List Stamped = log_takes (tunnels_at b.place at.end) round.log in
    record {
      later = account.gave;
      order = sym (taken_same round.log (tunnels_at b.place at.end) (into_box world who lane) (λ local. at.tunnels local ∙ ap (λ (n : ℕ). into_box world n lane local) leads))
          ∙ (sym (append-nil (log_takes (tunnels_at b.place at.end) round.log))
          ∙ (ap (λ (l : List Tagged). log_takes (tunnels_at b.place at.end) round.log ++ map unclaimed l) (sym rests.inbox)
          ∙ (account.order ∙ ap (λ (l : List Tagged). map unclaimed l ++ account.gave) at.waits)));
    }

-- ---- why a round ended

-- a round that wasn't spent has fewer turns than it may have
fewer_turns : (stop : Stop) (count : ℕ) → stop ≢ Spent → count ≤ TURN_LIMIT → (stop ≡ Spent) ↔ (count ≡ TURN_LIMIT) → count < TURN_LIMIT
fewer_turns stop count other most spent = let apart : count ≢ TURN_LIMIT = λ all. other (spent.1 all) in omega arith

shows_cause : (stop : Stop) (retries : Bool) (old new : TeamState) (turns : List Turn) (who : ℕ) (log : List Claimed) (worker : Worker) (Idle : Type 0) → EndsBox retries old new turns who (Some stop) → HasBox new who worker → length log ≤ TURN_LIMIT
    → (stop ≡ Spent) ↔ (length log ≡ TURN_LIMIT) → (length log < TURN_LIMIT → HasStopped Idle worker stop)
    → (Idle → (lane : ℕ) → lane < length old.world.lanes → leads_to old.world lane ≡ who → TakesAll old.world who lane log) → ShowsEnd old new who log stop
shows_cause Rested retries old new turns who log worker Idle ends has most spent cause takes =
    let few : length log < TURN_LIMIT = fewer_turns Rested (length log) (λ same. cc) most spent in
    let stopped = cause few in
    record { few = few; no_command = ends.1; no_shift = may_not new who worker has stopped.1; taken = takes stopped.2 }
shows_cause Spent retries old new turns who log worker Idle ends has most spent cause takes = spent.0 refl
shows_cause (NoMemory e) retries old new turns who log worker Idle ends has most spent cause takes = ends
shows_cause (VersionEnd local) retries old new turns who log worker Idle ends has most spent cause takes = record { few = fewer_turns (VersionEnd local) (length log) (λ same. cc) most spent; next = ends.1 }
shows_cause (Strange end tunnel) retries old new turns who log worker Idle ends has most spent cause takes = ends

-- no round of a team stopped for want of memory
no_memory : (stop : Stop) (retries : Bool) (old new : TeamState) (turns : List Turn) (who : ℕ) → EndsBox retries old new turns who (Some stop) → is_memory stop ≡ false
no_memory Rested retries old new turns who ends = refl
no_memory Spent retries old new turns who ends = refl
no_memory (NoMemory e) retries old new turns who ends = absurd ends
no_memory (VersionEnd local) retries old new turns who ends = refl
no_memory (Strange end tunnel) retries old new turns who ends = refl

-- ---- one box

-- the retries of a round come first
retries_first : (retries : Bool) (box : BoxState) (b c : Worker) (end : RoundEnd) (round : IsRound retries b c end) → is_memory end.stop ≡ false → b.part ≡ box → BeginsByRetries retries box round.log
retries_first retries box b c end round whole same =
    let account = round.account in
    record {
      first = account.first;
      rest = account.rest;
      parts = account.parts;
      retried = account.retried ∙ (ap (λ (n : ℕ). retries_below retries b.part n) (all_below retries b c end round whole) ∙ ap (λ (x : BoxState). retries_below retries x (length x.slots)) same);
      no_other = account.no_other;
    }

-- what the log of a round shows
shows_round : (retries : Bool) (old new : TeamState) (turns : List Turn) (who : ℕ) (log : List Claimed) (stop : Stop) → EndsBox retries old new turns who (Some stop) → IsOwnRound retries old new who log stop
    → AreMade (box_at old.world who) (entries_of log) (box_at new.world who) → AreStamped 0 log → Rise (stamps_of (entries_of log)) → ShowsRound retries old new who log stop
shows_round retries old new turns who log stop ends own made stamps rise =
    let work = own.round.account.work in
    let same : own.round.log ≡ log = sym own.log_is in
    let count : own.end.turns ≡ length log = own.round.turns ∙ ap (λ (l : List Claimed). length l) same in
    record {
      works = own.works;
      made = made;
      stamps = stamps;
      rise = rise;
      retried = subst (BeginsByRetries retries (box_at old.world who)) same
          (retries_first retries (box_at old.world who) own.before own.after own.end own.round
          (no_memory own.end.stop retries old new turns who (subst (λ (s : Stop). EndsBox retries old new turns who (Some s)) own.stop_is ends)) own.has_before.part);
      commands = ap (λ (l : List Claimed). events_that is_command l ++ stimuli_at new who) (sym same)
          ∙ (ap (λ (l : List Event). events_that is_command own.round.log ++ l) (sym own.has_after.stimuli) ∙ (work.stimuli ∙ own.has_before.stimuli));
      shifts = sym own.has_after.shifts
          ∙ (work.shifts
          ∙ (ap (λ (n : ℕ). n + length (events_that is_shift own.round.log)) own.has_before.shifts ∙ ap (λ (l : List Claimed). shifts_at old who + length (events_that is_shift l)) same));
      most = subst (λ (n : ℕ). n ≤ TURN_LIMIT) count own.most;
      cause = shows_cause stop retries old new turns who log own.after (AllIdle own.before own.after) ends own.has_after
          (subst (λ (n : ℕ). n ≤ TURN_LIMIT) count own.most)
          (subst (λ (n : ℕ). (stop ≡ Spent) ↔ (n ≡ TURN_LIMIT)) count (subst (λ (s : Stop). (s ≡ Spent) ↔ (own.end.turns ≡ TURN_LIMIT)) (sym own.stop_is) own.spent))
          (λ few. subst (HasStopped (AllIdle own.before own.after) own.after) (sym own.stop_is) (own.cause (subst (λ (n : ℕ). n < TURN_LIMIT) (sym count) few)))
          (λ idle lane inside leads. subst (TakesAll old.world who lane) same
          (takes_all retries old.world who lane own.before own.after own.end own.round (own.lanes lane inside leads) leads idle));
    }

-- and that of a box, whether it made a round or not
shows_box : (stop : Option Stop) (retries : Bool) (old new : TeamState) (turns : List Turn) (who : ℕ) (log : List Claimed) → EndsBox retries old new turns who stop → DidBox retries old new who log stop
    → AreMade (box_at old.world who) (entries_of log) (box_at new.world who) → AreStamped 0 log → Rise (stamps_of (entries_of log)) → ShowsBox retries old new who log stop
shows_box None retries old new turns who log ends own made stamps rise = own
shows_box (Some stop) retries old new turns who log ends own made stamps rise = shows_round retries old new turns who log stop ends own made stamps rise

-- ---- all boxes

pub own_rounds_show : (retries : Bool) (old new : TeamState) (turns : List Turn) (logs : List (List Logged)) (stops : List (Option Stop)) → IsTeamRound retries old new turns stops → AreOwnRounds retries old new logs stops → AreShown retries old new logs stops
own_rounds_show retries old new turns logs stops round own = record {
  log_count = own.log_count;
  stop_count = own.stop_count;
  entries = own.entries;
  logs_are = own.logs_are;
  each = λ who inside.
      let rises = (claimed_are_logged old.world own.entries new.world.boxes own.rests own.claimed).rise who inside in
      shows_box (slice_index_or stops who None) retries old new turns who (claimed_of own.entries who) (round.each who inside) (own.each who inside)
      (own.claimed.made who inside) (own.claimed.stamps who inside) (subst (λ (l : List Entry). Rise (stamps_of l)) (logs_at own.entries who) rises);
  rests = own.rests;
  rests_are = own.rests_are;
  claimed = own.claimed;
}
