use Rattle.std.proofs.Common.{rules, ◌≡◌, ◌+◌, ◌∙◌, drop, subst, sym}
use Rattle.mc_model.specs.Worlds.{ChannelState}
use Rattle.mc_plan.specs.Setups.{lists_of, setups_at, setups_within, with_more}
use Rattle.mc_plan.proofs.Filled.{tunnel_step, tunnels_done}
use Rattle.mc_plan.proofs.boxes.add_channel.Goals as goal

pub loop-i-preserved : goal.loop-i-preserved
loop-i-preserved c =
    let ends : ChannelState = record { from = c.channel.inside.from; to = c.channel.inside.to; tunnels = c.channel.inside.tunnels.items } in
    let whole : with_more (λ who. setups_within who (c.args.count + c.loop-i.i) ends (drop c.loop-i.i ends.tunnels)) 0 (lists_of c.loop-i.lists.items) ≡ with_more (λ who. setups_at who c.args.count ends) 0 (lists_of c.args.lists.now.items) =
    subst (λ (e : ChannelState). with_more (λ who. setups_within who (c.args.count + c.loop-i.i) e (drop c.loop-i.i e.tunnels)) 0 (lists_of c.loop-i.lists.items) ≡ with_more (λ who. setups_at who c.args.count e) 0 (lists_of c.args.lists.now.items)) (sym c.channel.view_is) c.loop-i.invariant.all in
    record {
      all = subst (λ (e : ChannelState). with_more (λ who. setups_within who (c.args.count + (c.loop-i.i + 1)) e (drop (c.loop-i.i + 1) e.tunnels)) 0 (lists_of c.add_slot-in-loop-i.new.lists.items) ≡ with_more (λ who. setups_at who c.args.count e) 0 (lists_of c.args.lists.now.items)) c.channel.view_is
          (tunnel_step ends c.args.count c.loop-i.i c.index.result.now (lists_of c.loop-i.lists.items) (lists_of c.add_slot.new.lists.items) _ _
          (search rules) c.index.ensures c.in_ok-add_slot.ensures.slots c.in_ok-add_slot-2.ensures.slots whole);
      boxes = c.in_ok-add_slot-2.ensures.boxes ∙ (c.in_ok-add_slot.ensures.boxes ∙ c.loop-i.invariant.boxes);
    }

pub returns-clause-slots : goal.returns-clause-slots
returns-clause-slots c = tunnels_done c.args.channel.now c.args.count c.loop-i.i (lists_of c.loop-i.lists.items) _ (search rules) c.loop-i.invariant.all
