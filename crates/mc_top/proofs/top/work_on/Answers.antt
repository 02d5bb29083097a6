use Rattle.std.proofs.Common.{◌∙◌, ℕ, List, refl, subst, sym}
use Rattle.mc_call.proofs.Answering.{answers_weaker}
use Rattle.mc_call.proofs.Explaining.{told_as}
use Rattle.mc_call.specs.Answers.{Refuses}
use Rattle.mc_call.specs.Printed.{feature_words, no_box_line}
use Rattle.mc_call.specs.Reasons.{IsFaultOf, of_box}
use Rattle.mc_top.proofs.Ending.{box_due, ends_no_box}
use Rattle.mc_top.specs.Modes.{tail_of}
use Rattle.mc_top.proofs.top.work_on.Goals as goal

pub returns-in-Check-clause-answers : goal.returns-in-Check-clause-answers
returns-in-Check-clause-answers g c = rw c.in-Check.is c.check_net.ensures.answers

pub returns-else-has_box : goal.returns-else-has_box
returns-else-has_box g c = record {
  ends =
      ends_no_box c.args.mode c.args.text.now c.args.net (g.K.Sink.written c.args.sink.now) (g.K.Sink.written c.refuse_name.new.sink) c.refuse_name.result
      c.requires.declares (sym c.has_box.ensures ∙ c.if-has_box.false) c.refuse_name.ensures.answers.dues
      (subst (λ (name : List ℕ). Refuses 9 (no_box_line name) (g.K.Sink.written c.args.sink.now) (g.K.Sink.written c.refuse_name.new.sink) c.refuse_name.result) c.box_name.ensures c.refuse_name.ensures.ends);
  answers =
      answers_weaker _ _ _ _ _ _ _ _ _ (box_due c.refuse_name.result.due)
      (told_as (IsFaultOf (tail_of c.args.mode) c.args.text.now) (of_box (feature_words c.args.net.names c.args.net.world)) (c.args.net, c.requires.declares, refl))
      c.refuse_name.ensures.answers;
}
