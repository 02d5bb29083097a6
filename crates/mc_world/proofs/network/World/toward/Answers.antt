use Rattle.std.proofs.Common.{◌<◌, ◌∙◌, ap, length, subst, sym, List, ℕ}
use Rattle.std.proofs.lemmas.List.{length-map}
use Rattle.mc_model.specs.Worlds.{WorldState, lane_of, slot_count, tunnel_of}
use Rattle.mc_world.specs.Tables.{world_state}
use Rattle.mc_world.proofs.LaneChanges.{Lane}
use Rattle.mc_world.proofs.Tables.{tunnel_below}
use Rattle.mc_world.proofs.TopologyLanes.{lane_same, lane_there, tables_laid, tunnel_same}
use Rattle.mc_world.proofs.network.World.toward.Goals as goal

pub toward-requires : goal.toward-requires
toward-requires c = tunnel_below c.self.inside c.args.slot c.self.invariant (rw (← c.self.view_is) at c.requires)

pub returns-clause-lane : goal.returns-clause-lane
returns-clause-lane c =
    c.toward.ensures.lane ∙ (lane_same (world_state c.self.inside) c.self.inside.topology c.args.slot c.self.invariant.topology.tunnels ∙ ap (λ (w : WorldState). lane_of w c.args.slot) c.self.view_is)

pub returns-clause-tunnel : goal.returns-clause-tunnel
returns-clause-tunnel c =
    c.toward.ensures.tunnel ∙ (tunnel_same (world_state c.self.inside) c.self.inside.topology c.args.slot c.self.invariant.topology.tunnels ∙ ap (λ (w : WorldState). (tunnel_of w c.args.slot).within) c.self.view_is)

pub returns-clause-there : goal.returns-clause-there
returns-clause-there c =
    let slot : c.args.slot < slot_count (world_state c.self.inside) = rw (← c.self.view_is) at c.requires in
    let below : c.args.slot < length c.self.inside.topology.places.items = subst (λ (l : List (ℕ × ℕ)). c.args.slot < length l) (sym c.self.invariant.topology.places) slot in
    rw (← c.self.view_is, c.toward.ensures.lane, length-map c.self.inside.lanes.items (λ (lane : Lane). lane.items))
    (lane_there c.self.inside.topology (length c.self.inside.lanes.items) c.args.slot (tables_laid c.self.inside c.self.invariant) below)
