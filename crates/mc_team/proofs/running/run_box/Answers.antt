use Rattle.mc_team.proofs.Looks.{has_run}
use Rattle.mc_team.proofs.running.run_box.Goals as goal

pub returns : goal.returns
returns g c = has_run c.args.retries c.look_at-works.result c.args.member.now c.look_at-works.new.member c.run_where.new.member c.look_at-works.ensures.looked c.look_at-works.ensures.work c.run_where.ensures
