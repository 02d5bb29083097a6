use Rattle.std.proofs.Common.{◌∙◌, ◌<◌, length, ap, sym, subst}
use Rattle.mc_plan.specs.Plans.{last_channel, slots_of}
use Rattle.mc_lines.specs.BoxLines.{check_widen}
use Rattle.mc_lines.specs.Meaning.{with_new_tunnel}
use Rattle.mc_lines.specs.SoFar.{Declared}
use Rattle.mc_lines.proofs.Joining.{widen_wanting}
use Rattle.mc_lines.proofs.reader.Reader.widen.Goals as goal

pub plan_wanting-requires : goal.plan_wanting-requires
plan_wanting-requires c =
    widen_wanting c.args.self.now.names c.self.inside.plan c.in-Err.fault (λ who. ap (λ (d : Declared). slots_of d.channels who) c.self.view_is ∙ c.requires.in_form.named.slots who)
    (subst (λ (d : Declared). 0 < length d.channels) (sym c.self.view_is) c.requires.some)
    (ap (λ (d : Declared). check_widen c.args.self.now.names (last_channel d.channels)) c.self.view_is ∙ c.requires.widens) c.in-Err.ensures.answer

pub returns : goal.returns
returns c = rw c.in_default.ensures.widened (ap (λ (d : Declared). with_new_tunnel d c.args.medium) c.self.view_is)
