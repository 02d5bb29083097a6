use Rattle.std.proofs.Common.{map}
use Rattle.mc_net.specs.Nets.{batch_turns}
use Rattle.mc_top.proofs.Refusing.{refuses_tail}
use Rattle.mc_top.proofs.top.check_lines.Goals as goal

pub returns-in-Err-At-clause-refused : goal.returns-in-Err-At-clause-refused
returns-in-Err-At-clause-refused c =
    refuses_tail c.args.names.now c.args.shape.now c.args.world (map batch_turns c.args.batches.now) c.args.text.now c.args.rest
    c.in_ok-journal.journal.lines.items c.in_ok-journal.journal.bad c.in-Err-At.fault c.journal_line.result
    c.in_ok-journal.ensures.lines c.in_ok-journal.ensures.bad (rw c.in-Err-At.field-0-is at c.in-Err-At.ensures.refused) c.journal_line.ensures
