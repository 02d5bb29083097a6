use Rattle.std.proofs.Common.{◌∙◌, List, ap, arith, length}
use Rattle.mc_lines.specs.declared.tail.Tail.TheVariants.{Journal}
use Rattle.mc_net.proofs.MadeNets.{nets_are_named}
use Rattle.mc_script.specs.declared.command.JournalLine.{JournalLine}
use Rattle.mc_call.proofs.BytesBehind.{lines_within}
use Rattle.mc_top.proofs.NoneClose.{none_closes}
use Rattle.mc_ladder_top.proofs.drawing.draw_checked.Goals as goal

pub check_by_net-requires-clause-fits : goal.check_by_net-requires-clause-fits
check_by_net-requires-clause-fits c = (nets_are_named Journal c.args.text.now c.args.net c.requires.declares).fits

pub check_by_net-requires-clause-none : goal.check_by_net-requires-clause-none
check_by_net-requires-clause-none c = none_closes c.requires.declares.declared c.args.net.world c.requires.declares.world

pub draw_journal-requires-clause-declared : goal.draw_journal-requires-clause-declared
draw_journal-requires-clause-declared c = (c.requires.declares.declared, c.requires.declares.says)

pub draw_journal-requires-clause-few : goal.draw_journal-requires-clause-few
draw_journal-requires-clause-few c =
    let are = ap (λ (lines : List JournalLine). length lines) (c.deref.ensures.value ∙ c.in_ok-journal.ensures.has.lines) in
    let few = lines_within c.args.net.names c.args.net.shape c.args.text.now c.args.net.rest in
    omega (arith, are, few)
