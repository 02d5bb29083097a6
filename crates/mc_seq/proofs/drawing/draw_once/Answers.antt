use Rattle.std.proofs.Common.{subst}
use Rattle.mc_seq.specs.Drawing.{DrewOnce, SoFar, Picks, TriedTurn, so_far_of, drawn_of}
use Rattle.mc_seq.specs.Schedule.{ScheduleState, commands_only}
use Rattle.mc_seq.proofs.AllowedCommands.{listed_comes}
use Rattle.mc_seq.proofs.Candidates.{drawn_listed}
use Rattle.mc_seq.proofs.SettlesSoFar.{drew_by}
use Rattle.std.proofs.lemmas.Result.{IfOk-weaker}
use Rattle.mc_seq.proofs.drawing.draw_once.Goals as goal

pub try_turn-requires-clause-comes : goal.try_turn-requires-clause-comes
try_turn-requires-clause-comes c =
    let now : ScheduleState = (drawn_of c.args.so_far.now c.args.draws.now.state).schedule in
    let drawn = subst (Picks now c.pick.new.draws.state) c.in-Some.is c.pick.ensures in
    listed_comes now.world now.left now.shifts (commands_only now.left now.since) c.in-Some.turn c.keeps.ensures.sound c.requires.allowed (drawn_listed now c.in-Some.turn drawn.0)

pub returns-in-Some-clause-drew : goal.returns-in-Some-clause-drew
returns-in-Some-clause-drew c =
    let now : ScheduleState = (drawn_of c.args.so_far.now c.args.draws.now.state).schedule in
    let drawn = subst (Picks now c.pick.new.draws.state) c.in-Some.is c.pick.ensures in
    let old : SoFar = so_far_of c.args.so_far.now in
    let new : SoFar = so_far_of c.try_turn.new.so_far in
    IfOk-weaker c.try_turn.result (TriedTurn old new c.in-Some.turn) (DrewOnce (drawn_of c.args.so_far.now c.args.draws.now.state) (drawn_of c.try_turn.new.so_far c.pick.new.draws.state))
    (λ d tried. drew_by d old new c.args.draws.now.state c.pick.new.draws.state c.in-Some.turn drawn.0 drawn.1 tried) c.try_turn.ensures.tried
