use Rattle.std.proofs.Common.{◌+◌, ◌∙◌, sym, subst, arith}
use Rattle.mc_world.specs.Lanes.{signals_of}
use Rattle.mc_world.specs.Waiting.{AreFlagsCounted}
use Rattle.mc_world.specs.declared.waiting.Waiting.{Waiting}
use Rattle.mc_world.proofs.Flags.{FlaggedTo, flagged_all, flagged_none, flagged_set, flagged_skip}
use Rattle.mc_world.proofs.waiting.Waiting.of.Goals as goal
use Rattle.mc_world.proofs.waiting.Waiting.of.Goals.{then-waits, else-waits}

pub loop-slot-init : goal.loop-slot-init
loop-slot-init c = record {
  counted = c.in_ok-waiting.ensures.counted;
  flagged = flagged_none c.args.topology.now (signals_of c.args.lanes.now) c.in_ok-waiting.waiting.flags.items c.in_ok-waiting.ensures.none;
}

pub loop-slot-preserved : goal.loop-slot-preserved
loop-slot-preserved c = elim c.if-waits.branch [
  | then-waits w ↦
      record {
        counted = subst (λ (waiting : Waiting). AreFlagsCounted c.args.topology.now waiting) (sym w.waiting-is) w.set.ensures.counted;
        flagged = subst (λ (waiting : Waiting). FlaggedTo c.args.topology.now (signals_of c.args.lanes.now) waiting.flags.items (c.loop-slot.slot + 1)) (sym w.waiting-is)
            (flagged_set c.args.topology.now (signals_of c.args.lanes.now) c.loop-slot.waiting.flags.items _ c.loop-slot.slot c.loop-slot.invariant.flagged
            (omega (arith, c.loop-slot-test.true, c.len-slot-end.ensures, c.args.topology.now.places.ok.0, c.loop-slot.invariant.counted.flags)) (sym c.waits.ensures ∙ w.if-waits.true) w.set.ensures.flags);
      }
  | else-waits w ↦
      record {
        counted = subst (λ (waiting : Waiting). AreFlagsCounted c.args.topology.now waiting) (sym w.waiting-is) c.loop-slot.invariant.counted;
        flagged = subst (λ (waiting : Waiting). FlaggedTo c.args.topology.now (signals_of c.args.lanes.now) waiting.flags.items (c.loop-slot.slot + 1)) (sym w.waiting-is)
            (flagged_skip c.args.topology.now (signals_of c.args.lanes.now) c.loop-slot.waiting.flags.items c.loop-slot.slot c.loop-slot.invariant.flagged
            (omega (arith, c.loop-slot-test.true, c.len-slot-end.ensures, c.args.topology.now.places.ok.0)) (sym c.waits.ensures ∙ w.if-waits.false));
      }
]

pub returns : goal.returns
returns c = record {
  counted = c.loop-slot.invariant.counted;
  flagged = flagged_all c.args.topology.now (signals_of c.args.lanes.now) c.loop-slot.waiting.flags.items c.loop-slot.slot
      (omega (arith, c.loop-slot-test.false, c.len-slot-end.ensures, c.args.topology.now.places.ok.0)) c.loop-slot.invariant.flagged;
}
