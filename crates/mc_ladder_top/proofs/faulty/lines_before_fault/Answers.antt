use Rattle.std.proofs.lemmas.Result.{IfOk-weaker}
use Rattle.mc_lines.specs.declared.tail.Tail.TheVariants.{Journal}
use Rattle.mc_net.proofs.MadeNets.{nets_are_named}
use Rattle.mc_ladder_top.proofs.faulty.lines_before_fault.Goals as goal

pub lines_by_net-requires-clause-fits : goal.lines_by_net-requires-clause-fits
lines_by_net-requires-clause-fits c = (nets_are_named Journal c.args.text.now c.in_ok-net.net c.in_ok-net.ensures.declares).fits

pub returns-clause-lines : goal.returns-clause-lines
returns-clause-lines c = IfOk-weaker c.lines_by_net.result _ _ (λ lines are. (c.in_ok-net.net, c.in_ok-net.ensures.declares, are)) c.lines_by_net.ensures.lines
