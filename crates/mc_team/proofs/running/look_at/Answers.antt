use Rattle.mc_team.proofs.Looks.{looked_at}
use Rattle.mc_team.proofs.running.look_at.Goals as goal

pub returns-clause-looked : goal.returns-clause-looked
returns-clause-looked c = looked_at c.args.member.now c.empty.new.log c.requires c.empty.ensures
