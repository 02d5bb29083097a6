use Rattle.std.proofs.Common.{rules, refl, arith}
use Rattle.mc_part.proofs.Halving.{both_changed, first_of, second_of}
use Rattle.mc_part.proofs.Written.{both_written}
use Rattle.mc_part.specs.Phases.{AreReady, HasGone, HaveGone, HaveWritten, IsReady}
use Rattle.mc_part.proofs.phase.+fn-run_parts-join_mut+arg2+fn-run_parts-join_mut+arg3+run_parts.Goals as goal

pub run_parts-requires-clause-ready : goal.run_parts-requires-clause-ready
run_parts-requires-clause-ready g t c κs within =
    let p = c.split_at_mut-front in
    first_of (IsReady c.args.retries c.args.every c.args.budget) c.args.runs.now p.result.0.now p.result.1.now p.ensures.value c.requires.ready

pub run_parts-requires-then-not-any_active-clause-ready : goal.run_parts-requires-then-not-any_active-clause-ready
run_parts-requires-then-not-any_active-clause-ready g t c κs within =
    let p = c.split_at_mut-front in
    second_of (IsReady c.args.retries c.args.every c.args.budget) c.args.runs.now p.result.0.now p.result.1.now p.ensures.value c.requires.ready

pub returns-then-not-any_active : goal.returns-then-not-any_active
returns-then-not-any_active g t c =
    let p = c.split_at_mut-front in
    let q = c.split_at_mut-front_logs in
    record {
      gone = both_changed (HasGone c.args.retries c.args.budget) c.args.runs.now _ p.result.0.now p.result.1.now c.run_parts.new.runs c.run_parts-then-not-any_active.new.runs p.ensures.value refl
          c.run_parts.ensures.gone c.run_parts-then-not-any_active.ensures.gone;
      written = both_written _ c.run_parts.new.runs c.run_parts-then-not-any_active.new.runs c.args.logs.now q.result.0.now q.result.1.now _ c.run_parts.new.logs c.run_parts-then-not-any_active.new.logs refl q.ensures.value refl
          (search rules) c.run_parts.ensures.written c.run_parts-then-not-any_active.ensures.written;
    }

pub join_mut-requires-after_bounds : goal.join_mut-requires-after_bounds
join_mut-requires-after_bounds g t c κs within =
    let p = c.split_at_mut-front in
    let first : AreReady c.args.retries c.args.every c.args.budget p.result.0.now = first_of (IsReady c.args.retries c.args.every c.args.budget) c.args.runs.now p.result.0.now p.result.1.now p.ensures.value c.requires.ready in
    let second : AreReady c.args.retries c.args.every c.args.budget p.result.1.now = second_of (IsReady c.args.retries c.args.every c.args.budget) c.args.runs.now p.result.0.now p.result.1.now p.ensures.value c.requires.ready in
    search rules

pub returns-clause-gone : goal.returns-clause-gone
returns-clause-gone g t c =
    let p = c.split_at_mut-front in
    let q = c.split_at_mut-front_logs in
    let front : HaveGone c.args.retries c.args.budget p.result.0.now c.front-2-1.given.0 × HaveWritten c.front-2-1.given.0 q.result.0.now c.front_logs-2-1.given.0 = search rules in
    let back : HaveGone c.args.retries c.args.budget p.result.1.now c.back-2-1.given.0 × HaveWritten c.back-2-1.given.0 q.result.1.now c.back_logs-2-1.given.0 = search rules in
    both_changed (HasGone c.args.retries c.args.budget) c.args.runs.now _ p.result.0.now p.result.1.now c.front-2-1.given.0 c.back-2-1.given.0 p.ensures.value refl front.0 back.0

pub returns-clause-written : goal.returns-clause-written
returns-clause-written g t c =
    let p = c.split_at_mut-front in
    let q = c.split_at_mut-front_logs in
    let front : HaveGone c.args.retries c.args.budget p.result.0.now c.front-2-1.given.0 × HaveWritten c.front-2-1.given.0 q.result.0.now c.front_logs-2-1.given.0 = search rules in
    let back : HaveGone c.args.retries c.args.budget p.result.1.now c.back-2-1.given.0 × HaveWritten c.back-2-1.given.0 q.result.1.now c.back_logs-2-1.given.0 = search rules in
    both_written _ c.front-2-1.given.0 c.back-2-1.given.0 c.args.logs.now q.result.0.now q.result.1.now _ c.front_logs-2-1.given.0 c.back_logs-2-1.given.0 refl q.ensures.value refl
    (omega (arith, front.0.count, p.ensures.front_len, q.ensures.front_len)) front.1 back.1
