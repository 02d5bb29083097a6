use Rattle.std.proofs.Common.{◌≡◌, ◌<◌, ℕ, get_or}
use Rattle.mc_world.specs.Lanes.{HasRoom, lane_by, numbers_of, signals_of}
use Rattle.mc_model.specs.Worlds.{far}
use Rattle.mc_world.proofs.lanes.make_room.Given as goal

-- no signal has come or gone, and the lanes away from the box's slots so far have room
abbrev pub invariant-loop-slot : goal.invariant-loop-slot
invariant-loop-slot l = record {
  same : signals_of l.lanes ≡ signals_of l.initial.lanes;
  room : (local : ℕ) → local < l.slot-index → HasRoom l.lanes (lane_by l.topology (far (get_or (numbers_of l.topology l.who) local 0))) l.most;
}
