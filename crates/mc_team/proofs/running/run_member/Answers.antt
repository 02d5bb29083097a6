use Rattle.std.proofs.Common.{refl}
use Rattle.mc_team.proofs.running.run_member.Goals as goal

pub returns : goal.returns
returns g c = record {
  end = c.round.result;
  is = refl;
  round = c.round.ensures.round;
  ready = c.round.ensures.ready;
  shape = c.round.ensures.shape;
  most = c.round.ensures.most;
  cause = c.round.ensures.cause;
  spent = c.round.ensures.spent;
  works = c.round.ensures.works;
}
