use Rattle.std.proofs.Common.{◌≡◌, ◌∙◌, Err, ap, refl, sym}
use Rattle.std.proofs.lemmas.Result.{err_from_is_err_and}
use Rattle.mc_replay.specs.declared.segment.TurnFault.{TurnFault}
use Rattle.mc_replay.proofs.Followed.{slots_after}
use Rattle.mc_segments.proofs.Own.{own_made, own_tried}
use Rattle.mc_segments.proofs.following.make_own.Goals as goal

pub returns-in_err-step-clause-makes : goal.returns-in_err-step-clause-makes
returns-in_err-step-clause-makes c =
    let fault = err_from_is_err_and c.from_residual.result c.from_residual.ensures.1 in
    let same : c.from_residual.result ≡ Err c.in_err-step.field-0.0 = fault.1 ∙ ap (λ (f : TurnFault). Err f) fault.2 in
    λ begins turns follows. own_tried c.in_err-step.field-0.0 c.from_residual.result begins c.step.new.world turns c.args.turn c.step.new.counts c.args.segment.now _ same follows c.in_err-step.ensures

pub count_retry-requires-clause-slots : goal.count_retry-requires-clause-slots
count_retry-requires-clause-slots c = c.requires.stands.numbered.slots ∙ sym (slots_after c.args.segment.now.world c.step.new.world c.args.turn c.keeps.ensures.sound c.in_ok-step.ensures.0)

pub returns-clause-makes : goal.returns-clause-makes
returns-clause-makes c =
    λ begins turns follows. own_made begins turns c.args.turn c.args.segment.now _ c.forget.new.moments.items follows c.keeps.ensures.sound (record {
      steps = c.in_ok-step.ensures.0;
      counted = c.in_ok-step.ensures.1;
      left = refl;
      counts = c.count_retry.ensures.counts;
      forgets = c.forget.ensures;
      moments = c.in_ok-keep_moment.ensures;
    })
