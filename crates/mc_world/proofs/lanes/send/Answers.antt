use Rattle.std.proofs.Common.{◌∙◌, subst, sym, ℕ}
use Rattle.mc_world.specs.Lanes.{HasRoom, lane_by}
use Rattle.mc_world.proofs.lanes.send.Goals as goal

pub push_last-requires-clause-room : goal.push_last-requires-clause-room
push_last-requires-clause-room c = subst (λ (t : ℕ). HasRoom c.args.lanes.now (lane_by c.args.topology.now t) 1) (sym c.far.ensures) (c.requires.room c.in-Some.slot (sym c.requires.number ∙ c.in-Some.is))
