use Rattle.std.proofs.Common.{false, true}
use Rattle.mc_desk.proofs.Moves.{makes}
use Rattle.mc_desk.proofs.desk.Desk.next_pass.Goals as goal

pub another-requires-clause-rule : goal.another-requires-clause-rule
another-requires-clause-rule c = makes true _ _ c.requires.taker c.requires.more

pub another-requires-else-last-clause-rule : goal.another-requires-else-last-clause-rule
another-requires-else-last-clause-rule c = makes false _ _ c.requires.taker c.requires.more
