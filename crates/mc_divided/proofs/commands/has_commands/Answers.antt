use Rattle.mc_divided.proofs.CommandsLeft.{all_none, some_left}
use Rattle.mc_divided.proofs.commands.has_commands.Goals as goal

pub returns-clause-some : goal.returns-clause-some
returns-clause-some c on = some_left c.args.network.now c.deref.result.now c.requires c.deref.ensures.value (c.any_left.ensures.some on)

pub returns-clause-none : goal.returns-clause-none
returns-clause-none c off = all_none c.args.network.now c.deref.result.now c.requires c.deref.ensures.value (c.any_left.ensures.none off)
