use Rattle.std.proofs.Common.{subst}
use Rattle.mc_team.proofs.ShownRounds.{own_rounds_show}
use Rattle.mc_team.proofs.TeamLogs.{fits_round}
use Rattle.mc_team.specs.Logs.{log_lists}
use Rattle.mc_team.specs.OwnRounds.{AreShown}
use Rattle.mc_team.specs.Teams.{TeamState, team_state}
use Rattle.mc_team.proofs.team.Team.round.Goals as goal

pub invariant_of-result : goal.invariant_of-result
invariant_of-result g c =
    let made = c.in_ok-log.ensures in
    (made.team, fits_round c.args.retries c.self.inside.frame c.self.inside.boxes c.make_round.new.team _ _ c.self.invariant.0 made.round c.self.invariant.1)

pub returns-clause-shown : goal.returns-clause-shown
returns-clause-shown g c =
    let made = c.in_ok-log.ensures in
    subst (λ (team : TeamState). AreShown c.args.retries team (team_state c.make_round.new.team) (log_lists c.in_ok-log.log.logs.items) c.in_ok-log.log.stops.items) c.self.view_is
    (own_rounds_show c.args.retries (team_state c.self.inside.boxes) (team_state c.make_round.new.team) c.in_ok-log.log.turns.items (log_lists c.in_ok-log.log.logs.items) c.in_ok-log.log.stops.items made.round made.own)
