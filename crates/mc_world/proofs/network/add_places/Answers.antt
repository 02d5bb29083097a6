use Rattle.std.proofs.Common.{◌≡◌, ◌∙◌, ◌+◌, ◌++◌, List, ap, flat_map, subst, sym, take}
use Rattle.mc_model.specs.Worlds.{ChannelState, places_of}
use Rattle.mc_model.specs.declared.channel.Tunnel.{Tunnel}
use Rattle.mc_world.proofs.PlaceTables.{tunnel_more}
use Rattle.mc_world.proofs.network.add_places.Goals as goal

pub loop-tunnel-preserved : goal.loop-tunnel-preserved
loop-tunnel-preserved c =
    let items : c.deref-tunnel-items.result.now ≡ c.args.channel.now.tunnels = c.deref-tunnel-items.ensures.value ∙ ap (λ (e : ChannelState). e.tunnels) c.channel.view_is in
    subst (λ (l : List Tunnel). c.push-in-loop-tunnel.new.self.items ≡ c.args.places.now.items ++ flat_map (places_of c.args.channel.now) (take (c.loop-tunnel.tunnel-index + 1) l)) items
    (tunnel_more (places_of c.args.channel.now) (λ tunnel. (c.channel.inside.from, tunnel.from)) (λ tunnel. (c.channel.inside.to, tunnel.to))
    c.args.places.now.items c.loop-tunnel.places.items c.push.new.self.items _ c.deref-tunnel-items.result.now c.loop-tunnel.tunnel-index _ (λ tunnel. ap (λ (e : ChannelState). places_of e tunnel) (sym c.channel.view_is)) c.loop-tunnel-test.true
    (subst (λ (l : List Tunnel). c.loop-tunnel.places.items ≡ c.args.places.now.items ++ flat_map (places_of c.args.channel.now) (take c.loop-tunnel.tunnel-index l)) (sym items) c.loop-tunnel.invariant)
    c.in_ok-push.ensures.items c.in_ok-push-2.ensures.items)
