use Rattle.std.proofs.Common.{◌≡◌, ◌∙◌, true, false, Err, ap, sym, subst}
use Rattle.std.proofs.lemmas.Result.{err_from_is_err_and}
use Rattle.mc_seq.specs.Commands.{commands_left}
use Rattle.mc_replay.specs.Follows.{TellsNext}
use Rattle.mc_replay.specs.declared.segment.TurnFault.{TurnFault}
use Rattle.mc_replay.proofs.Followed.{follows_more, next_of_batch, not_next, slots_after, tried_makes}
use Rattle.mc_replay.proofs.segment.Segment.make.Goals as goal

pub returns-then-not-may_come-clause-makes : goal.returns-then-not-may_come-clause-makes
returns-then-not-may_come-clause-makes c =
    let no : c.may_come.result ≡ false = cc in
    λ begins batch turns follows. not_next begins batch turns c.args.turn c.args.self.now follows (subst (TellsNext (commands_left c.args.self.now.left) c.args.turn) no c.may_come.ensures)

pub returns-in_err-step-clause-makes : goal.returns-in_err-step-clause-makes
returns-in_err-step-clause-makes c =
    let yes : c.may_come.result ≡ true = cc in
    let fault = err_from_is_err_and c.from_residual.result c.from_residual.ensures.1 in
    let same : c.from_residual.result ≡ Err c.in_err-step.field-0.0 = fault.1 ∙ ap (λ (f : TurnFault). Err f) fault.2 in
    λ begins batch turns follows. tried_makes c.in_err-step.field-0.0 c.from_residual.result begins c.step.new.world batch turns c.args.turn c.step.new.counts c.args.self.now _ same follows
    (subst (TellsNext (commands_left c.args.self.now.left) c.args.turn) yes c.may_come.ensures) c.in_err-step.ensures

pub count_retry-requires-clause-slots : goal.count_retry-requires-clause-slots
count_retry-requires-clause-slots c = c.requires.stands.numbered.slots ∙ sym (slots_after c.args.self.now.world c.step.new.world c.args.turn c.keeps.ensures.sound c.in_ok-step.ensures.0)

pub returns-clause-makes : goal.returns-clause-makes
returns-clause-makes c =
    let yes : c.may_come.result ≡ true = cc in
    let next = subst (TellsNext (commands_left c.args.self.now.left) c.args.turn) yes c.may_come.ensures in
    λ begins batch turns follows. (
      follows_more begins batch turns c.args.turn c.args.self.now _ c.forget.new.moments.items follows c.keeps.ensures.sound c.in_ok-step.ensures.0 c.in_ok-step.ensures.1
          c.drop_made.ensures.kept c.drop_made.ensures.boxes c.drop_made.ensures.left next c.count_retry.ensures.counts c.forget.ensures c.in_ok-keep_moment.ensures,
      next_of_batch begins batch turns c.args.turn c.args.self.now follows next,
    )
