use Rattle.std.proofs.Common.{◌≡◌, Ok, false, length, nat_le, refl, subst, arith}
use Rattle.std.proofs.lemmas.Grind.{common_steps}
use Rattle.mc_model.specs.Worlds.{ChannelState}
use Rattle.mc_model.specs.declared.channel.TheConstants.{TUNNEL_LIMIT}
use Rattle.mc_plan.specs.Refusals.{overfills, unless_fault, widen_fault_at}
use Rattle.mc_plan.proofs.plan.Plan.may_widen_at.Goals as goal

pub returns : goal.returns
returns c =
    let tunnels : nat_le TUNNEL_LIMIT (length c.channel.inside.tunnels.items) ≡ false = grind (arith, common_steps) in
    let near : overfills c.args.self.now c.channel.inside.from 1 ≡ false = grind (arith, common_steps) in
    let far : overfills c.args.self.now c.channel.inside.to 1 ≡ false = grind (arith, common_steps) in
    subst (λ (ends : ChannelState). Ok tt ≡ unless_fault (widen_fault_at c.args.self.now ends)) c.channel.view_is (rw (tunnels, near, far) refl)
