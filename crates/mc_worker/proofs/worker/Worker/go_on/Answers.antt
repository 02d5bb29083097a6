use Rattle.std.proofs.Common.{refl, arith}
use Rattle.mc_worker.specs.Account.{in_at}
use Rattle.mc_worker.specs.Rounds.{AllIdle}
use Rattle.mc_worker.proofs.Joins.{no_turns, turns_joined}
use Rattle.mc_worker.proofs.Turning.{cause_for, idle_on}
use Rattle.mc_worker.proofs.worker.Worker.go_on.Goals as goal

pub loop-init : goal.loop-init
loop-init g c = record {
  made = no_turns _ _;
  under_way = c.requires.under_way;
  idle = λ e h. absurd (omega (arith, c.requires.passed));
  turns = refl;
}

pub returns-in-Some-clause-turns : goal.returns-in-Some-clause-turns
returns-in-Some-clause-turns g c = turns_joined _ _ _ _ _ _ c.loop.invariant.made c.turn.ensures.turned.turns

pub returns-in-Some-clause-cause : goal.returns-in-Some-clause-cause
returns-in-Some-clause-cause g c fewer =
    cause_for _ (AllIdle c.args.self.now c.turn.new.self) c.turn.new.self c.in-Some.stop
    (λ all e h. idle_on c.loop.progress.passed e (in_at c.args.self.now e) (in_at c.loop.self e) (in_at c.turn.new.self e) (c.loop.invariant.made.work.ins e).looks (c.loop.invariant.idle e) (c.turn.ensures.passed e (omega (arith, all, h))))
    c.in-Some.ensures.turned.cause

pub loop-preserved : goal.loop-preserved
loop-preserved g c = record {
  made = turns_joined _ _ _ _ _ _ c.loop.invariant.made c.turn.ensures.turned.turns;
  under_way = c.turn.ensures.turned.under_way;
  idle = λ e h. idle_on c.loop.progress.passed e (in_at c.args.self.now e) (in_at c.loop.self e) (in_at c.turn.new.self e) (c.loop.invariant.made.work.ins e).looks (c.loop.invariant.idle e) (c.turn.ensures.passed e h);
  turns = omega (arith, c.in_default.ensures.turned.made, c.loop.invariant.turns);
}
