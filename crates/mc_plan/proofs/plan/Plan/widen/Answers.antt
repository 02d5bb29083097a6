use Rattle.std.proofs.Common.{rules, ◌≡◌, ◌-◌, ◌∙◌, ℕ, List, None, Ok, ap, length, subst, sym}
use Rattle.std.specs.Vec.{with_items}
use Rattle.mc_model.specs.Worlds.{ChannelState}
use Rattle.mc_model.specs.declared.channel.Tunnel.{Tunnel}
use Rattle.mc_plan.specs.LaidOut.{IsCountedPlan, MayCount}
use Rattle.mc_plan.specs.Plans.{PlanState, last_channel, next_tunnel, with_tunnel, with_tunnel_at}
use Rattle.mc_plan.specs.Refusals.{unless_fault, widen_fault}
use Rattle.mc_plan.proofs.Counted.{last_may_count, widened_counted, written_counted}
use Rattle.mc_plan.proofs.Widened.{no_fault}
use Rattle.mc_plan.proofs.plan.Plan.widen.Goals as goal

pub count_slots-requires : goal.count_slots-requires
count_slots-requires c =
    let plan : PlanState = record { boxes = c.self.inside.boxes.items; channels = c.self.inside.channels.items } in
    let ends : ChannelState = record { from = c.channel.inside.from; to = c.channel.inside.to; tunnels = c.channel.inside.tunnels.items } in
    let none : widen_fault plan ≡ None = no_fault (widen_fault plan) (subst (λ (p : PlanState). unless_fault (widen_fault p) ≡ Ok tt) (sym c.self.view_is) (sym c.may_widen.ensures ∙ c.in_ok-may_widen.was)) in
    subst (λ (counts : List ℕ). MayCount counts c.channel.inside.from c.channel.inside.to 1) (sym c.deref_mut.ensures.value)
    (last_may_count plan c.self.inside.slot_counts.items c.args.medium ends c.self.invariant none (c.channel.view_is ∙ (c.last_channel-channel.ensures ∙ ap last_channel c.deref.ensures.value)))

-- the channels then are those of the next plan
channels_are : (c : goal.After-self-1) → c.add_tunnel.new.channels.items ≡ (with_tunnel (record { boxes = c.self.inside.boxes.items; channels = c.self.inside.channels.items }) c.args.medium).channels
channels_are c =
    let plan : PlanState = record { boxes = c.self.inside.boxes.items; channels = c.self.inside.channels.items } in
    let last : c.last_channel-channel.result.now ≡ last_channel plan.channels = c.last_channel-channel.ensures ∙ ap last_channel c.deref.ensures.value in
    let number : c.len-number.result ≡ length c.self.inside.channels.items = search rules in
    c.in_ok-add_tunnel.ensures.added
    ∙ ap (λ (length : ℕ). with_tunnel_at plan.channels (length - 1) c.next_tunnel-tunnel.result) number
    ∙ ap (λ (tunnel : Tunnel). with_tunnel_at plan.channels (length plan.channels - 1) tunnel)
    (c.next_tunnel-tunnel.ensures
    ∙ ap (λ (p : PlanState). next_tunnel p.channels c.last_channel-channel.result.now c.args.medium) (sym c.self.view_is)
    ∙ ap (λ (e : ChannelState). next_tunnel plan.channels e c.args.medium) last)

pub invariant_of-self-2 : goal.invariant_of-self-2
invariant_of-self-2 c =
    let plan : PlanState = record { boxes = c.self.inside.boxes.items; channels = c.self.inside.channels.items } in
    let ends : ChannelState = record { from = c.channel.inside.from; to = c.channel.inside.to; tunnels = c.channel.inside.tunnels.items } in
    let none : widen_fault plan ≡ None = no_fault (widen_fault plan) (subst (λ (p : PlanState). unless_fault (widen_fault p) ≡ Ok tt) (sym c.self.view_is) (sym c.may_widen.ensures ∙ c.in_ok-may_widen.was)) in
    let last : c.last_channel-channel.result.now ≡ last_channel plan.channels = c.last_channel-channel.ensures ∙ ap last_channel c.deref.ensures.value in
    subst (λ (l : List ChannelState). IsCountedPlan (record { boxes = c.self.inside.boxes.items; channels = l }) (with_items c.self.inside.slot_counts c.count_slots.new.counts).items) (sym (channels_are c))
    (written_counted (with_tunnel plan c.args.medium) c.self.inside.slot_counts c.deref_mut.result.now c.count_slots.new.counts c.channel.inside.from c.channel.inside.to 1 c.deref_mut.ensures.value c.count_slots.ensures
    (widened_counted plan c.self.inside.slot_counts.items c.args.medium ends c.self.invariant none (c.channel.view_is ∙ last)))

pub returns-clause-answer : goal.returns-clause-answer
returns-clause-answer c = (
  no_fault (widen_fault c.args.self.now) (sym c.may_widen.ensures ∙ c.in_ok-may_widen.was),
  ap (λ (n : ℕ). n - 1) (c.len-number.ensures ∙ (c.self.inside.channels.ok.0 ∙ ap (λ (p : PlanState). length p.channels) c.self.view_is)),
)

pub returns-clause-widened : goal.returns-clause-widened
returns-clause-widened c =
    ap (λ (l : List ChannelState). record { boxes = c.self.inside.boxes.items; channels = l }) (channels_are c) ∙ ap (λ (p : PlanState). with_tunnel p c.args.medium) c.self.view_is
