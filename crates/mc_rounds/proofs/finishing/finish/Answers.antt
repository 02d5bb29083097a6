use Rattle.std.proofs.Common.{Bool, false, ◌≡◌, ◌∙◌, ◌||◌, List, ap, sym, subst}
use Rattle.mc_box.specs.declared.event.Turn.{Turn}
use Rattle.mc_divided.specs.Networks.{network_state}
use Rattle.mc_rounds.proofs.Retried.{HasWentOn, at_rest, ends_at_ring, ends_kept, ends_restless, ends_settled, free_retry, none_shifts, on_ring, rests_fewer, shifter_of, went_begin, went_rest, went_retry}
use Rattle.mc_rounds.proofs.Since.{counted_as, counted_more, counted_rested}
use Rattle.mc_rounds.proofs.finishing.finish.Goals as goal

pub rests-init : goal.rests-init
rests-init g c = record {
  divided = c.requires.divided;
  none = c.requires.used_up;
  counted = c.requires.counted;
  free = c.requires.free;
  went = went_begin (network_state c.args.network.now) c.args.turns.now.items;
}

pub first_shifter_since-requires-clause-idle : goal.first_shifter_since-requires-clause-idle
first_shifter_since-requires-clause-idle g c =
    (at_rest (network_state c.come_to_rest.new.network) c.in_ok-rest.rest.ring c.in_ok-rest.ensures.came.ended c.in_default.is).0

pub first_shifter_since-requires-clause-counted : goal.first_shifter_since-requires-clause-counted
first_shifter_since-requires-clause-counted g c =
    counted_as c.deref.result.now c.come_to_rest.new.turns.items (network_state c.come_to_rest.new.network) c.deref.ensures.value
    (counted_rested (network_state c.rests.network) (network_state c.come_to_rest.new.network) c.rests.turns.items
    c.come_to_rest.new.turns.items _ _ c.in_ok-rest.ensures.came c.rests.invariant.counted)

pub returns-in-Some-clause-ended : goal.returns-in-Some-clause-ended
returns-in-Some-clause-ended g c =
    let came = c.in_ok-rest.ensures.came in
    ends_at_ring (network_state c.args.network.now) (network_state c.come_to_rest.new.network) c.args.turns.now.items
    c.come_to_rest.new.turns.items _ c.in-Some.at
    (went_rest (network_state c.args.network.now) _ _ c.args.turns.now.items _ _ c.rests.due _ _
    c.rests.invariant.went came)
    came.none
    (on_ring (network_state c.come_to_rest.new.network) c.in_ok-rest.rest.ring c.in-Some.at came.ended c.in-Some.is)

pub returns-in-Some-first_shifter_since-clause-ended : goal.returns-in-Some-first_shifter_since-clause-ended
returns-in-Some-first_shifter_since-clause-ended g c =
    let came = c.in_ok-rest.ensures.came in
    let rest =
    at_rest (network_state c.come_to_rest.new.network) c.in_ok-rest.rest.ring came.ended c.in_default.is in
    ends_restless (network_state c.args.network.now) (network_state c.come_to_rest.new.network) c.args.turns.now.items
    c.come_to_rest.new.turns.items _ c.in-Some-first_shifter_since.at
    (went_rest (network_state c.args.network.now) _ _ c.args.turns.now.items _ _ c.rests.due _ _
    c.rests.invariant.went came)
    came.none rest.0 rest.1
    (shifter_of (network_state c.come_to_rest.new.network).world c.first_shifter_since.result c.in-Some-first_shifter_since.at
    c.first_shifter_since.ensures c.in-Some-first_shifter_since.is)

pub end_settle-requires-clause-free : goal.end_settle-requires-clause-free
end_settle-requires-clause-free g c =
    (at_rest (network_state c.come_to_rest.new.network) c.in_ok-rest.rest.ring c.in_ok-rest.ensures.came.ended c.in_default.is).1

pub returns-then-not-is_due-clause-ended : goal.returns-then-not-is_due-clause-ended
returns-then-not-is_due-clause-ended g c =
    let came = c.in_ok-rest.ensures.came in
    let rest =
    at_rest (network_state c.come_to_rest.new.network) c.in_ok-rest.rest.ring came.ended c.in_default.is in
    let not_due : (c.rests.due || c.in_ok-rest.rest.shifted) ≡ false =
    ◌∙◌ {a = c.rests.due || c.in_ok-rest.rest.shifted} (sym c.is_due.ensures) c.if-not-is_due.true in
    ends_kept (network_state c.args.network.now) (network_state c.come_to_rest.new.network) (network_state c.end_settle.new.network)
    c.args.turns.now.items c.come_to_rest.new.turns.items c.end_settle.ensures.same
    (ends_settled (network_state c.args.network.now) (network_state c.come_to_rest.new.network) c.args.turns.now.items
    c.come_to_rest.new.turns.items
    (subst (λ (b : Bool). HasWentOn (network_state c.args.network.now) c.args.turns.now.items
    (network_state c.come_to_rest.new.network) c.come_to_rest.new.turns.items b) not_due
    (went_rest (network_state c.args.network.now) _ _ c.args.turns.now.items _ _ c.rests.due _ _
    c.rests.invariant.went came))
    rest.0 rest.1
    (none_shifts (network_state c.come_to_rest.new.network).world c.first_shifter_since.result c.first_shifter_since.ensures
    c.in_default-first_shifter_since.is))

pub rests-smaller : goal.rests-smaller
rests-smaller g c =
    rests_fewer (network_state c.rests.network) (network_state c.come_to_rest.new.network)
    (network_state c.retry.new.network) c.rests.turns.items c.come_to_rest.new.turns.items c.retry.new.turns.items
    c.rests.due c.in_ok-rest.rest.shifted c.in_ok-due.due c.in_ok-rest.rest.ring c.rests.invariant.divided.sound
    c.in_ok-rest.ensures.divided.sound c.in_ok-rest.ensures.came c.in_ok-due.ensures.retried
    (sym c.is_due.ensures ∙ c.if-not-is_due.false)

pub rests-preserved : goal.rests-preserved
rests-preserved g c =
    let came = c.in_ok-rest.ensures.came in
    let retries = c.in_ok-due.ensures.retried in
    let rest =
    at_rest (network_state c.come_to_rest.new.network) c.in_ok-rest.rest.ring came.ended c.in_default.is in
    record {
      divided = c.in_ok-due.ensures.divided;
      none = retries.none;
      counted =
          counted_more (network_state c.come_to_rest.new.network) (network_state c.retry.new.network)
          c.come_to_rest.new.turns.items c.retry.new.turns.items retries.played
          (counted_rested (network_state c.rests.network) (network_state c.come_to_rest.new.network) c.rests.turns.items
          c.come_to_rest.new.turns.items _ _ c.in_ok-rest.ensures.came c.rests.invariant.counted);
      free = λ off. free_retry (network_state c.come_to_rest.new.network) (network_state c.retry.new.network)
          c.come_to_rest.new.turns.items c.retry.new.turns.items c.in_ok-due.due c.in_ok-rest.ensures.divided.sound retries
          rest.1 off;
      went =
          went_retry (network_state c.args.network.now) (network_state c.come_to_rest.new.network)
          (network_state c.retry.new.network) c.args.turns.now.items c.come_to_rest.new.turns.items
          c.retry.new.turns.items _ c.in_ok-due.due
          (went_rest (network_state c.args.network.now) _ _ c.args.turns.now.items _ _ c.rests.due _ _
          c.rests.invariant.went came)
          came.none rest.0
          (none_shifts (network_state c.come_to_rest.new.network).world c.first_shifter_since.result c.first_shifter_since.ensures
          c.in_default-first_shifter_since.is) retries;
    }
