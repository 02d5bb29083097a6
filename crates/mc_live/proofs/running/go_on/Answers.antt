use Rattle.std.proofs.Common.{rules, ◌≡◌, ◌^◌, ◌<◌}
use Rattle.mc_live.proofs.Stepping.{round_goes_on}
use Rattle.mc_live.specs.declared.course.Pace.TheVariants.{Runs}
use Rattle.mc_live.proofs.running.go_on.Goals as goal

pub returns-clause-on : goal.returns-clause-on
returns-clause-on g c a asked on =
    let end = c.round-end in
    let runs : c.args.course.now.pace ≡ Runs = search rules in
    let fits : end.result.sent < 2 ^ 32 = search rules in
    let sent = c.sent.ensures in
    let took = c.took.ensures in
    let pace = c.pace_after-course.ensures in
    rw (took.sent, sent.sent, took.taken, sent.taken, pace)
    (round_goes_on c.join_accounts.ensures a c.args.worker.now end.new.self asked _ _ c.args.course.now end.result runs end.ensures.round end.ensures.ready end.ensures.shape fits end.ensures.most end.ensures.cause end.ensures.spent on)
