use Rattle.std.proofs.Common.{◌+◌, true, refl, ap, arith, get_or}
use Rattle.mc_world.specs.Waiting.{bit}
use Rattle.mc_world.proofs.FlagCounts.{HasPlace, counted_by, home_read, one_more_fits}
use Rattle.mc_world.proofs.waiting.Waiting.set.Goals as goal

pub raise-requires-clause-inside : goal.raise-requires-clause-inside
raise-requires-clause-inside c =
    let read : HasPlace c.args.topology.now c.args.self.now c.args.slot c.index.result.now =
    record { numbers = c.requires.numbers; counted = c.requires.counted; below = c.requires.here; place_is = c.index.ensures } in
    home_read c.args.topology.now c.args.self.now c.args.slot c.index.result.now read

pub raise-requires-clause-room : goal.raise-requires-clause-room
raise-requires-clause-room c =
    let read : HasPlace c.args.topology.now c.args.self.now c.args.slot c.index.result.now =
    record { numbers = c.requires.numbers; counted = c.requires.counted; below = c.requires.here; place_is = c.index.ensures } in
    omega (arith, one_more_fits c.args.topology.now c.args.self.now c.args.slot c.index.result.now read c.requires.unset)

pub returns-clause-counted : goal.returns-clause-counted
returns-clause-counted c =
    let read : HasPlace c.args.topology.now c.args.self.now c.args.slot c.index.result.now =
    record { numbers = c.requires.numbers; counted = c.requires.counted; below = c.requires.here; place_is = c.index.ensures } in
    counted_by c.args.topology.now c.args.self.now _ c.args.slot c.index.result.now (get_or c.args.self.now.takes c.index.result.now.0 0 + 1) true read refl c.raise.ensures
    (omega (arith, ap bit c.requires.unset))
