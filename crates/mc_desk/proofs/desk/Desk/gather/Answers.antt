use Rattle.std.proofs.Common.{◌≡◌, [], ◌∙◌, ap, refl, List, arith}
use Rattle.std.proofs.lemmas.List.{nil_from_length}
use Rattle.crossbeam_queue.specs.Passes.{view}
use Rattle.mc_desk.specs.declared.log.Log.{Log}
use Rattle.mc_desk.specs.declared.request.Request.{Request}
use Rattle.mc_desk.specs.Histories.{with_all_known}
use Rattle.mc_desk.proofs.Gathering.{going_first, going_number, going_more, going_last, taking_known, known_more}
use Rattle.mc_desk.proofs.Moves.{ends}
use Rattle.mc_desk.proofs.desk.Desk.gather.Goals as goal

pub loop-operator-init : goal.loop-operator-init
loop-operator-init c = record {
  queue = c.requires.queue;
  view_is = refl;
  going = going_first c.args.self.now _ _ _ c.into_iter-operator-iterator.ensures.into_iter_gives.0 c.requires.none c.requires.operators;
}

pub absorb-requires-clause-rule : goal.absorb-requires-clause-rule
absorb-requires-clause-rule c =
    ends _ _ _ _ (taking_known _ _ _ c.requires.taker c.loop-operator.invariant.view_is) c.in-Some.operator.kind
    (c.in-Some.operator.numbered ∙ going_number c.args.self.now _ _ _ c.in-Some.operator _ c.in-Some.ensures.steps.0 c.loop-operator.invariant.going)

pub loop-operator-preserved : goal.loop-operator-preserved
loop-operator-preserved c = record {
  queue = (c.absorb.ensures.queue.0 ∙ c.loop-operator.invariant.queue.0, c.absorb.ensures.queue.2 ∙ c.loop-operator.invariant.queue.1);
  view_is = known_more (view c.args.taker.now) (view c.loop-operator.taker) (view c.absorb.new.pass) (view c.in-Some.operator.pass) c.loop-operator.invariant.view_is c.absorb.ensures.rule;
  going = going_more c.args.self.now _ _ _ c.in-Some.operator _ _ c.in-Some.ensures.steps.0 (ap (λ (l : Log). l.known) c.absorb.ensures.rule) c.loop-operator.invariant.going;
}

pub returns-clause-view : goal.returns-clause-view
returns-clause-view c =
    let none : c.loop-operator.operator-iterator.rest.items ≡ [] = nil_from_length _ (omega (arith, c.in-None.ensures.steps.0, c.loop-operator.operator-iterator.rest.ok.0)) in
    c.loop-operator.invariant.view_is ∙ ap (λ (known : List (List Request)). with_all_known (view c.args.taker.now) known) (going_last c.args.self.now _ _ _ none c.loop-operator.invariant.going)
