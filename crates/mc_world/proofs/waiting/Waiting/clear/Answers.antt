use Rattle.std.proofs.Common.{◌-◌, false, refl, ap, arith, get_or}
use Rattle.mc_world.specs.Waiting.{bit}
use Rattle.mc_world.proofs.FlagCounts.{HasPlace, counted_by, one_there}
use Rattle.mc_world.proofs.waiting.Waiting.clear.Goals as goal

pub lower-requires : goal.lower-requires
lower-requires c =
    let read : HasPlace c.args.topology.now c.args.self.now c.args.slot c.index.result.now =
    record { numbers = c.requires.numbers; counted = c.requires.counted; below = c.requires.here; place_is = c.index.ensures } in
    record { some = one_there c.args.topology.now c.args.self.now c.args.slot c.index.result.now read c.requires.set }

pub returns-clause-counted : goal.returns-clause-counted
returns-clause-counted c =
    let read : HasPlace c.args.topology.now c.args.self.now c.args.slot c.index.result.now =
    record { numbers = c.requires.numbers; counted = c.requires.counted; below = c.requires.here; place_is = c.index.ensures } in
    counted_by c.args.topology.now c.args.self.now _ c.args.slot c.index.result.now (get_or c.args.self.now.takes c.index.result.now.0 0 - 1) false read refl c.lower.ensures
    (omega (arith, ap bit c.requires.set, one_there c.args.topology.now c.args.self.now c.args.slot c.index.result.now read c.requires.set))
