use Rattle.std.proofs.Common.{ℕ, ◌+◌, ◌≡◌, ◌∷◌, [], length, length-append, ◌∙◌, ap, arith}
use Rattle.crossbeam_queue.specs.Passes.{view}
use Rattle.mc_desk.proofs.Draining.{as_many, all_left, none_taken, one_taken, taking_more, back_more, left_more}
use Rattle.mc_desk.proofs.Moves.{leaves, takes}
use Rattle.mc_desk.proofs.desk.Desk.drain.Goals as goal

pub len_as-count-requires-clause-rule : goal.len_as-count-requires-clause-rule
len_as-count-requires-clause-rule g c = leaves _ _ c.requires.taker c.requires.back

pub loop-init : goal.loop-init
loop-init g c =
    let told = c.len_as-count.ensures.queue in
    record {
      queue = (told.0.0 ∙ c.requires.queue.0, told.0.2 ∙ c.requires.queue.1);
      view_is = none_taken _ _ _ c.requires.rest.0 told.1;
      count = ap length c.requires.rest.0;
      room = omega arith;
    }

pub pop_as-requires-clause-rule : goal.pop_as-requires-clause-rule
pop_as-requires-clause-rule g c =
    let now = c.loop.invariant.view_is in
    let kind = taking_more (view c.args.taker.now) (view c.loop.taker) c.loop.rest.items now c.requires.taker in
    (takes _ _ kind, leaves _ _ kind (back_more (view c.args.taker.now) (view c.loop.taker) c.loop.rest.items now c.requires.back))

pub unreachable-requires : goal.unreachable-requires
unreachable-requires g c =
    let before = c.len_as-count.ensures.rule.1 in
    let after = c.in_default.ensures.rule.1 in
    let n = as_many (view c.args.taker.now) before.0 c.loop.rest.items after.0 before.2 (left_more (view c.args.taker.now) (view c.loop.taker) c.loop.rest.items _ c.loop.invariant.view_is after.2) in
    let a : length before.0 ≡ c.len_as-count.result = before.1 in
    let b : length after.0 ≡ 0 = after.1 in
    absurd (omega (arith, n, a, b, c.loop.invariant.count, c.loop-test.true))

pub push-requires : goal.push-requires
push-requires g c = omega (arith, c.loop.invariant.room, c.loop-test.true, c.len_as-count.ensures.rule.0, c.requires.rest.1)

pub loop-preserved : goal.loop-preserved
loop-preserved g c =
    let told = c.in-Some.ensures.queue in
    record {
      queue = (told.0 ∙ c.loop.invariant.queue.0, told.2 ∙ c.loop.invariant.queue.1);
      view_is = one_taken (view c.args.taker.now) (view c.loop.taker) (view c.pop_as.new.pass) c.loop.rest.items c.push.new.self.items c.in-Some.request c.loop.invariant.view_is c.in-Some.ensures.rule c.push.ensures.items;
      count = ap length c.push.ensures.items ∙ (length-append c.loop.rest.items (c.in-Some.request ∷ []) ∙ ap (λ (n : ℕ). n + 1) c.loop.invariant.count);
      room = omega (arith, c.loop.invariant.room, c.push.ensures.room);
    }

pub learn_as-requires-clause-rule : goal.learn_as-requires-clause-rule
learn_as-requires-clause-rule g c =
    let now = c.loop.invariant.view_is in
    leaves _ _ (taking_more (view c.args.taker.now) (view c.loop.taker) c.loop.rest.items now c.requires.taker) (back_more (view c.args.taker.now) (view c.loop.taker) c.loop.rest.items now c.requires.back)

pub returns : goal.returns
returns g c =
    let before = c.len_as-count.ensures.rule.1 in
    let after = c.learn_as.ensures.rule in
    let a : length before.0 ≡ c.len_as-count.result = before.1 in
    all_left (view c.args.taker.now) before.0 c.loop.rest.items after.0 before.2 (left_more (view c.args.taker.now) (view c.loop.taker) c.loop.rest.items _ c.loop.invariant.view_is after.1)
    (omega (arith, a, c.loop.invariant.count, c.loop-test.false, c.loop.auto.counter-end))
