use Rattle.std.proofs.Common.{refl, sym}
use Rattle.mc_worker.proofs.Turning.{next_stimulus}
use Rattle.mc_worker.proofs.worker.Worker.next_act.Goals as goal

pub returns-in-Some-clause-some : goal.returns-in-Some-clause-some
returns-in-Some-clause-some c =
    let next = next_stimulus c.args.self.now.part c.args.self.now.stimuli.items c.in-Some.event c.requires (sym c.in-Some.ensures.item) in
    record {
      enabled = next.enabled;
      no_take = next.no_take;
      no_retry = next.no_retry;
      first = λ command. sym c.in-Some.ensures.item;
      shift = λ shift. absurd cc;
      begins = λ some. next.command;
    }

pub returns-then-can_shift-clause-some : goal.returns-then-can_shift-clause-some
returns-then-can_shift-clause-some c =
    let can = c.can_shift.ensures.some c.if-can_shift.true in
    record {
      enabled = can.1;
      no_take = refl;
      no_retry = refl;
      first = λ command. absurd cc;
      shift = λ shift. can.0;
      begins = λ some. absurd (some c.in_default.ensures.none);
    }
