use Rattle.std.proofs.Common.{subst}
use Rattle.std.proofs.lemmas.Result.{IfOk-weaker}
use Rattle.mc_seq.specs.Drawing.{Ended, DrawnSoFar, UsedUp, drawn_of}
use Rattle.mc_seq.proofs.Endings.{ended_more}
use Rattle.mc_seq.proofs.drawing.settle.Goals as goal

pub returns : goal.returns
returns c =
    let start : DrawnSoFar = drawn_of c.args.so_far.now c.args.draws.now.state in
    let used : DrawnSoFar = drawn_of c.use_up.new.so_far c.use_up.new.draws.state in
    let last : DrawnSoFar = drawn_of c.finish.new.so_far c.finish.new.draws.state in
    let drew = subst (UsedUp start used) c.in_default.is c.in_ok-at.ensures.drew in
    IfOk-weaker c.finish.result (Ended used last) (Ended start last) (λ ending ended. ended_more ending start used last drew.0 ended) c.finish.ensures
