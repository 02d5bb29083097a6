use Rattle.std.proofs.Common.{◌∙◌}
use Rattle.mc_journal.proofs.Joined.{behind_turn}
use Rattle.mc_journal.proofs.print.put_command.Goals as goal

pub returns-clause-printed : goal.returns-clause-printed
returns-clause-printed c =
    c.in_ok-print_command.ensures.printed ∙ rw c.in_ok-extend_from_slice.ensures.items (behind_turn c.args.names.now c.args.who c.args.event c.requires c.args.text.now.items)
