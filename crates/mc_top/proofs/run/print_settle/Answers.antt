use Rattle.mc_settle_text.proofs.Shown.{views_named}
use Rattle.mc_script_end.proofs.Running.{has_names}
use Rattle.mc_top.proofs.Viewing.{parties_named}
use Rattle.mc_top.specs.Scripts.{network_world}
use Rattle.mc_top.proofs.run.print_settle.Goals as goal

pub put_report-requires-clause-views : goal.put_report-requires-clause-views
put_report-requires-clause-views c =
    rw (c.deref.ensures.value, c.in_ok-views.ensures.views)
    (views_named c.args.names.now (network_world c.args.network.now)
    (has_names c.args.names.now (network_world c.args.network.now) c.keeps.ensures.sound c.requires.named) c.keeps.ensures.sound (c.in_ok-views.ensures.quiet c.requires.quiet))

pub put_report-requires-clause-ends : goal.put_report-requires-clause-ends
put_report-requires-clause-ends c =
    rw (c.deref.ensures.value, c.in_ok-views.ensures.views) (parties_named c.args.names.now (network_world c.args.network.now) c.requires.named c.keeps.ensures.sound)
