use Rattle.std.proofs.Common.{All, arith, subst, take_all}
use Rattle.std.proofs.lemmas.Grind.{common_steps}
use Rattle.std.proofs.lemmas.List.Elements.{All-more, All-nil}
use Rattle.mc_journal.specs.Printed.{IsFoundLine}
use Rattle.mc_journal.proofs.print.print_journal.Goals as goal

pub loop-line-init : goal.loop-line-init
loop-line-init c = record { printed = grind (arith, common_steps); found = All-nil (IsFoundLine c.args.names.now) }

pub loop-line-preserved : goal.loop-line-preserved
loop-line-preserved c = record {
  printed = grind (arith, common_steps);
  found = All-more (IsFoundLine c.args.names.now) c.args.lines.now c.loop-line.line-index _ c.loop-line-test.true c.loop-line.invariant.found c.in_ok-put_line.ensures.found;
}

pub returns-clause-found : goal.returns-clause-found
returns-clause-found c = subst (All (IsFoundLine c.args.names.now)) (take_all c.loop-line.line-index c.args.lines.now (omega (arith, c.loop-line-test.false))) c.loop-line.invariant.found
