use Rattle.std.proofs.Common.{rules}
use Rattle.mc_part.specs.Carrying.{LosesNothing}
use Rattle.mc_part.proofs.CarriedLanes.{all_over, loses_more, loses_none, on_err}
use Rattle.mc_part.proofs.carrying.carry.Goals as goal

pub loop-init : goal.loop-init
loop-init c = record { over = loses_none c.args.from.now c.args.to.now c.args.sender c.args.taker c.requires; knew = λ knew. knew }

pub returns-in_err-carry_item-clause-kept : goal.returns-in_err-carry_item-clause-kept
returns-in_err-carry_item-clause-kept c =
    on_err c.from_residual.result (LosesNothing c.args.from.now c.carry_item.new.from c.args.to.now c.carry_item.new.to c.args.sender c.args.taker)
    (loses_more c.args.from.now c.loop.from c.carry_item.new.from c.args.to.now c.loop.to c.carry_item.new.to c.args.sender c.args.taker c.loop.invariant.over c.carry_item.ensures.over)

pub loop-preserved : goal.loop-preserved
loop-preserved c = record {
  over = loses_more c.args.from.now c.loop.from c.carry_item.new.from c.args.to.now c.loop.to c.carry_item.new.to c.args.sender c.args.taker c.loop.invariant.over c.carry_item.ensures.over;
  knew = λ later. c.loop.invariant.knew c.carry_item.ensures.knew;
}

pub loop-2-init : goal.loop-2-init
loop-2-init c = record {
  over = loses_more c.args.from.now c.loop.from c.carry_item.new.from c.args.to.now c.loop.to c.carry_item.new.to c.args.sender c.args.taker c.loop.invariant.over c.carry_item.ensures.over;
  drained = c.in_ok-carry_item.ensures.none (search rules);
  knew = c.loop.invariant.knew c.carry_item.ensures.knew;
}

pub returns-in_err-carry_signal-clause-kept : goal.returns-in_err-carry_signal-clause-kept
returns-in_err-carry_signal-clause-kept c =
    on_err c.from_residual-in_err-carry_signal.result (LosesNothing c.args.from.now c.carry_signal.new.from c.args.to.now c.carry_signal.new.to c.args.sender c.args.taker)
    (loses_more c.args.from.now c.loop-2.from c.carry_signal.new.from c.args.to.now c.loop-2.to c.carry_signal.new.to c.args.sender c.args.taker c.loop-2.invariant.over c.carry_signal.ensures.over)

pub loop-2-preserved : goal.loop-2-preserved
loop-2-preserved c = record {
  over = loses_more c.args.from.now c.loop-2.from c.carry_signal.new.from c.args.to.now c.loop-2.to c.carry_signal.new.to c.args.sender c.args.taker c.loop-2.invariant.over c.carry_signal.ensures.over;
  drained = c.carry_signal.ensures.drained;
  knew = c.loop-2.invariant.knew;
}

pub returns-clause-all : goal.returns-clause-all
returns-clause-all c =
    all_over c.args.from.now c.carry_signal.new.from c.args.to.now c.carry_signal.new.to c.args.sender c.args.taker
    (loses_more c.args.from.now c.loop-2.from c.carry_signal.new.from c.args.to.now c.loop-2.to c.carry_signal.new.to c.args.sender c.args.taker c.loop-2.invariant.over c.carry_signal.ensures.over)
    c.loop-2.invariant.knew c.carry_signal.ensures.drained (c.in_ok-carry_signal.ensures.none (search rules))
