use Rattle.mc_team.proofs.TeamLogs.{fits_added}
use Rattle.mc_team.proofs.team.Team.add.Goals as goal

pub invariant_of-self : goal.invariant_of-self
invariant_of-self c =
    (c.add.ensures.team, fits_added c.add.result c.self.inside.frame c.self.inside.boxes c.add.new.team c.args.turn c.self.invariant.1 c.add.ensures.added c.add.ensures.kept)
