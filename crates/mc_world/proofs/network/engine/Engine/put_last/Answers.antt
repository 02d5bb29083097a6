use Rattle.std.proofs.Common.{◌<◌, List, ℕ, length, subst, sym}
use Rattle.mc_model.specs.Worlds.{WorldState, slot_count}
use Rattle.mc_world.proofs.PieceLanes.{put_runs}
use Rattle.mc_world.proofs.network.engine.Engine.put_last.Goals as goal

pub invariant_of-self : goal.invariant_of-self
invariant_of-self c =
    let slot : c.args.slot < slot_count c.args.self.now = c.requires in
    let here : c.args.slot < length c.self.inside.topology.places.items =
    subst (λ (l : List (ℕ × ℕ)). c.args.slot < length l) (sym c.self.invariant.topology.places) (subst (λ (w : WorldState). c.args.slot < slot_count w) (sym c.self.view_is) slot) in
    put_runs c.self.inside c.deref_mut.result.now c.put_last.new.lanes c.put_last.new.waiting c.args.signal c.args.slot c.put_last.result c.self.invariant c.deref_mut.ensures.value c.put_last.auto.lanes
    c.put_last.ensures.sent c.put_last.ensures.same c.put_last.ensures.waiting here
