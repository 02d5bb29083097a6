use Rattle.std.proofs.Common.{arith}
use Rattle.mc_divided.proofs.CarriedOver.{all_carried, next_carried, none_carried, still_carryable}
use Rattle.mc_divided.proofs.Lists.{there_at}
use Rattle.mc_divided.proofs.carrying_over.carry_over.Goals as goal

pub loop-place-init : goal.loop-place-init
loop-place-init c = none_carried c.args.crossings.now c.args.runs.now

pub carry_at-requires-clause-carryable : goal.carry_at-requires-clause-carryable
carry_at-requires-clause-carryable c =
    let there = there_at c.args.crossings.now c.loop-place.place (record { from = 0; from_port = 0; to = 0; to_port = 0 }) (omega arith) in
    still_carryable c.args.crossings.now c.loop-place.place _ c.args.runs.now c.loop-place.runs c.requires.apart there c.loop-place.invariant (c.requires.carryable c.loop-place.place _ there)

pub loop-place-preserved : goal.loop-place-preserved
loop-place-preserved c =
    let there = there_at c.args.crossings.now c.loop-place.place (record { from = 0; from_port = 0; to = 0; to_port = 0 }) (omega arith) in
    next_carried c.args.crossings.now c.loop-place.place _ c.args.runs.now c.loop-place.runs c.carry_at.new.runs c.requires.apart there c.loop-place.invariant c.in_ok-carry_at.ensures

pub returns : goal.returns
returns c = all_carried c.args.crossings.now c.loop-place.place c.args.runs.now c.loop-place.runs (omega arith) c.loop-place.invariant
