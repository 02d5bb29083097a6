use Rattle.std.proofs.Common.{List, IfErr, IfOk, subst}
use Rattle.mc_box.specs.declared.event.Turn.{Turn}
use Rattle.mc_live_settle.proofs.Ordered.{settles, stops_live}
use Rattle.mc_model.specs.Settles.{IsSettled}
use Rattle.mc_rounds.specs.Stops.{Stops}
use Rattle.mc_live_settle.proofs.settling.settle_live.Goals as goal

pub returns-clause-settled : goal.returns-clause-settled
returns-clause-settled g c =
    let phase = c.in_ok-phase.phase in
    settles c.args.operators c.args.world c.args.batch.now phase.turns.items phase.left.turns.items phase.world c.settle_rounds-answer.result c.answer_behind.result c.in_ok-phase.ensures
    (subst (λ (l : List Turn). IfOk c.settle_rounds-answer.result (λ done. IsSettled phase.world l done.turns.items done.world)) c.deref.ensures.value c.settle_rounds-answer.ensures.settled) c.answer_behind.ensures

pub returns-clause-stops : goal.returns-clause-stops
returns-clause-stops g c =
    let phase = c.in_ok-phase.phase in
    stops_live c.args.operators c.args.world c.args.batch.now phase.turns.items phase.left.turns.items phase.world c.settle_rounds-answer.result c.answer_behind.result c.in_ok-phase.ensures
    (subst (λ (l : List Turn). IfErr c.settle_rounds-answer.result (Stops phase.world l)) c.deref.ensures.value c.settle_rounds-answer.ensures.stops) c.answer_behind.ensures
