use Rattle.std.proofs.Common.{◌<◌, ◌∙◌, ap, subst, ℕ, List, get_or, length, below_more, arith}
use Rattle.mc_laws.proofs.Numbers.{half_in}
use Rattle.mc_model.specs.Worlds.{far}
use Rattle.mc_world.specs.Lanes.{HasRoom, lane_by, numbers_of}
use Rattle.mc_world.proofs.SlotNumbers.{room_from}
use Rattle.mc_world.proofs.TopologyLanes.{away_there, lane_there}
use Rattle.mc_world.proofs.lanes.make_room.Goals as goal

pub toward-lane-requires : goal.toward-lane-requires
toward-lane-requires c =
    half_in c.far.result (length c.args.topology.now.tunnels.items) (subst (λ (n : ℕ). c.far.result < n) c.requires.slots
    (away_there c.args.topology.now (length c.args.lanes.now) c.args.who c.loop-slot.slot-index c.far.result c.numbers-slot-items.result.now c.requires c.numbers-slot-items.ensures c.loop-slot-test.true c.far.ensures))

pub reserve-requires : goal.reserve-requires
reserve-requires c =
    let there = lane_there c.args.topology.now (length c.args.lanes.now) c.far.result c.requires
    (away_there c.args.topology.now (length c.args.lanes.now) c.args.who c.loop-slot.slot-index c.far.result c.numbers-slot-items.result.now c.requires c.numbers-slot-items.ensures c.loop-slot-test.true c.far.ensures) in
    omega (arith, there, c.toward-lane.ensures.lane, c.loop-slot.auto.lanes)

pub loop-slot-preserved : goal.loop-slot-preserved
loop-slot-preserved c = record {
  same = c.reserve.ensures.same ∙ c.loop-slot.invariant.same;
  room = below_more
      (λ local. HasRoom c.reserve.new.lanes (lane_by c.args.topology.now (far (get_or (numbers_of c.args.topology.now c.args.who) local 0))) c.args.most)
      c.loop-slot.slot-index
      (λ local below. c.reserve.ensures.kept (lane_by c.args.topology.now (far (get_or (numbers_of c.args.topology.now c.args.who) local 0))) c.args.most (c.loop-slot.invariant.room local below))
      (subst (λ (k : ℕ). HasRoom c.reserve.new.lanes k c.args.most)
      (c.toward-lane.ensures.lane ∙ ap (λ (s : ℕ). lane_by c.args.topology.now s) (c.far.ensures ∙ ap (λ (l : List ℕ). far (get_or l c.loop-slot.slot-index 0)) c.numbers-slot-items.ensures))
      c.in_ok-reserve.ensures.room);
}

pub returns-clause-room : goal.returns-clause-room
returns-clause-room c =
    room_from c.loop-slot.lanes c.args.topology.now c.args.who c.args.most
    (λ local inside. c.loop-slot.invariant.room local (omega (arith, inside, c.loop-slot-test.false, ap length c.numbers-slot-items.ensures)))
