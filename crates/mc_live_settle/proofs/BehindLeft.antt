-- Turns that were made of what is left of an order, behind those that left it.
use Rattle.std.proofs.Common.{◌≡◌, ◌+◌, ◌++◌, if◌then◌else◌, ℕ, zero, suc, List, [], ◌∷◌, Option, Some, IsTrue, length, take, drop, count_by, slice_get, length-append, refl, ap, sym, ◌∙◌, subst, arith}
use Rattle.std.specs.List.{list_all}
use Rattle.std.specs.Option.{option_and_then, unwrap_or}
use Rattle.std.proofs.Math.Seq.{drop-append-add, take-append-add}
use Rattle.mc_box.proofs.Options.{then_some}
use Rattle.mc_box.specs.declared.event.Turn.{Turn}
use Rattle.mc_live_settle.specs.Laws.{MeetsBehindLeft, SettledBehindLeft, SettlesWhatIsUsed, StoppedBehindLeft, StopsLiveInOrder}
use Rattle.mc_live_settle.specs.Settles.{LeadsTo}
use Rattle.mc_model.specs.Settles.{IsSettled, IsStopped, MeetsLast, commands_of, is_retry_of, rests, takes_or_retries, world_owes}
use Rattle.mc_model.specs.Steps.{after, run, step}
use Rattle.mc_model.specs.Worlds.{WorldState}
use Rattle.mc_rounds.proofs.Plays.{commands_both}
use Rattle.mc_seq.proofs.Runs.{run-append}
use Rattle.mc_seq.specs.declared.stopping.SettleStop.TheVariants.{Restless, Ring, VersionEnd}
use Rattle.mc_settings.specs.Batches.{UseUp}

-- ---- runs

-- the first turns of a run lead to some world
run_begins : (count : ℕ) (turns : List Turn) (world last : WorldState) → run world turns ≡ Some last → (middle : WorldState) × (run world (take count turns) ≡ Some middle)
run_begins zero turns world last goes = (world, refl)
run_begins (suc count) [] world last goes = (world, refl)
run_begins (suc count) (turn ∷ turns) world last goes =
    let one = then_some (λ (w : WorldState). run w turns) (step world turn) last goes in
    let rest = run_begins count turns one.0 last one.2 in
    (rest.0, ap (λ (o : Option WorldState). option_and_then (λ (w : WorldState). run w (take count turns)) o) one.1 ∙ rest.1)

-- what uses up what is left uses up the whole, behind the turns that left it
used_behind : (start middle : WorldState) (order before left turns : List Turn) → LeadsTo start order before left middle → UseUp left turns → UseUp order (before ++ turns)
used_behind start middle order before left turns leads used who =
    commands_both who before turns ∙ (ap (λ (t : List Turn). commands_of who before ++ t) (used who) ∙ leads.commands who)

-- ---- settles

pub settled_behind_left : SettledBehindLeft
settled_behind_left start middle last order before left turns leads settled =
    let moment : ℕ = settled.moment in
    let rest = settled.last_rest in
    let within = rest.within in
    let first = run_begins moment turns middle last settled.runs in
    let seam : take (length before + moment) (before ++ turns) ≡ before ++ take moment turns = take-append-add before turns moment in
    let seam_after : drop (length before + moment) (before ++ turns) ≡ drop moment turns = drop-append-add before turns moment in
    let here : after middle (take moment turns) ≡ first.0 = ap (λ (o : Option WorldState). unwrap_or o middle) first.1 in
    let there : after start (take (length before + moment) (before ++ turns)) ≡ first.0 =
    ap (after start) seam ∙ ap (λ (o : Option WorldState). unwrap_or o start) (run-append before (take moment turns) start middle leads.runs ∙ first.1) in
    let same = there ∙ sym here in
    record {
      runs = run-append before turns start middle leads.runs ∙ settled.runs;
      commands = used_behind start middle order before left turns leads settled.commands;
      at_rest = settled.at_rest;
      no_ring = settled.no_ring;
      moment = length before + moment;
      last_rest = record {
        within = rw (length-append before turns) (omega (arith, within));
        at_rest = subst (λ (w : WorldState). IsTrue (rests w)) (sym same) rest.at_rest;
        used_up = λ who. ap (commands_of who) seam ∙ used_behind start middle order before left (take moment turns) leads rest.used_up who;
        retries = λ who local. ap (count_by (is_retry_of who local)) seam_after ∙ (rest.retries who local ∙ ap (λ (w : WorldState). if world_owes w who local then 1 else 0) (sym same));
        besides = subst (λ (l : List Turn). IsTrue (list_all (λ (turn : Turn). takes_or_retries turn.event) l)) (sym seam_after) rest.besides;
      };
    }

pub settles_what_is_used : SettlesWhatIsUsed
settles_what_is_used world last batch order turns used settled = record {
  runs = settled.runs;
  commands = λ who. settled.commands who ∙ used who;
  at_rest = settled.at_rest;
  no_ring = settled.no_ring;
  moment = settled.moment;
  last_rest = record {
    within = settled.last_rest.within;
    at_rest = settled.last_rest.at_rest;
    used_up = λ who. settled.last_rest.used_up who ∙ used who;
    retries = settled.last_rest.retries;
    besides = settled.last_rest.besides;
  };
}

-- ---- stops

-- the first of a list, and behind them the first of what comes next in it, are its first
first_behind : (before turns left whole order : List Turn) → whole ≡ before ++ turns → before ++ left ≡ order → turns ≡ take (length turns) left → whole ≡ take (length whole) order
first_behind before turns left whole order is parts first =
    let long : length whole ≡ length before + length turns = ap (λ (l : List Turn). length l) is ∙ length-append before turns in
    is ∙ (ap (λ (l : List Turn). before ++ l) first
    ∙ (sym (take-append-add before left (length turns))
    ∙ (ap (take (length before + length turns)) parts ∙ ap (λ (n : ℕ). take n order) (sym long))))

pub stopped_behind_left : StoppedBehindLeft
stopped_behind_left start middle last order before left turns leads stopped = record {
  runs = run-append before turns start middle leads.runs ∙ stopped.runs;
  commands = λ who. first_behind (commands_of who before) (commands_of who turns) (commands_of who left) (commands_of who (before ++ turns)) (commands_of who order) (commands_both who before turns) (leads.commands who) (stopped.commands who);
}

-- what stands at a place behind a list
get_behind : (before rest : List Turn) (place at : ℕ) → place ≡ length before + at → slice_get (before ++ rest) place ≡ slice_get rest at
get_behind [] rest place at is = ap (slice_get rest) (omega (arith, is))
get_behind (turn ∷ before) rest zero at is = absurd (omega (arith, is))
get_behind (turn ∷ before) rest (suc place) at is = get_behind before rest place at (omega (arith, is))

-- what comes next in what is left comes next in the whole
next_behind : (before turns left whole order : List Turn) → whole ≡ before ++ turns → before ++ left ≡ order → slice_get order (length whole) ≡ slice_get left (length turns)
next_behind before turns left whole order is parts =
    let long : length whole ≡ length before + length turns = ap (λ (l : List Turn). length l) is ∙ length-append before turns in
    ap (λ (l : List Turn). slice_get l (length whole)) (sym parts) ∙ get_behind before left (length whole) (length turns) long

pub meets_behind_left : MeetsBehindLeft
meets_behind_left start middle last order before left turns at leads meets =
    let who = meets.turn.who in
    record {
      turn = meets.turn;
      next = next_behind (commands_of who before) (commands_of who turns) (commands_of who left) (commands_of who (before ++ turns)) (commands_of who order) (commands_both who before turns) (leads.commands who) ∙ meets.next;
      version = meets.version;
      slot = meets.slot;
    }

pub stops_live_in_order : StopsLiveInOrder
stops_live_in_order operators world batch turns (VersionEnd at) stops =
    let stop = stops.stopped in
    record {
      order = stops.order;
      is_order = stops.is_order;
      last = stop.last;
      stopped = subst (λ (t : List Turn). IsStopped world stops.order t stop.last) (sym stops.turns_are) (stopped_behind_left world stops.middle stop.last stops.order stops.before stops.left stops.after stops.leads stop.stopped);
      cause = subst (λ (t : List Turn). MeetsLast stops.order t stop.last at) (sym stops.turns_are) (meets_behind_left world stops.middle stop.last stops.order stops.before stops.left stops.after at stops.leads stop.meets);
    }
stops_live_in_order operators world batch turns (Ring at) stops =
    let stop = stops.stopped in
    record {
      order = stops.order;
      is_order = stops.is_order;
      last = stop.last;
      stopped = subst (λ (t : List Turn). IsStopped world stops.order t stop.last) (sym stops.turns_are) (stopped_behind_left world stops.middle stop.last stops.order stops.before stops.left stops.after stops.leads stop.stopped);
      cause = (
        subst (UseUp stops.order) (sym stops.turns_are) (used_behind world stops.middle stops.order stops.before stops.left stops.after stops.leads stop.used_up),
        stop.least,
      );
    }
stops_live_in_order operators world batch turns (Restless at) stops =
    let stop = stops.stopped in
    record {
      order = stops.order;
      is_order = stops.is_order;
      last = stop.last;
      stopped = subst (λ (t : List Turn). IsStopped world stops.order t stop.last) (sym stops.turns_are) (stopped_behind_left world stops.middle stop.last stops.order stops.before stops.left stops.after stops.leads stop.stopped);
      cause = (
        subst (UseUp stops.order) (sym stops.turns_are) (used_behind world stops.middle stops.order stops.before stops.left stops.after stops.leads stop.used_up),
        record { quiet = stop.restless.quiet; no_ring = stop.restless.no_ring; first = stop.restless.first },
      );
    }
