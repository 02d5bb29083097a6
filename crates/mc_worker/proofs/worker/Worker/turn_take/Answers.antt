use Rattle.std.proofs.Common.{◌≡◌, false, is_some, refl, rules}
use Rattle.mc_box.specs.Boxes.{slot_at}
use Rattle.mc_slot.specs.Moves.{slot_take}
use Rattle.mc_worker.proofs.Joins.{no_turns}
use Rattle.mc_worker.proofs.Turning.{take_made, unlawful_front, unmoved}
use Rattle.mc_worker.proofs.worker.Worker.turn_take.Goals as goal

pub returns-then-not-may_take-clause-turned : goal.returns-then-not-may_take-clause-turned
returns-then-not-may_take-clause-turned c =
    let off : is_some (slot_take (slot_at c.args.self.now.part c.args.slot) c.args.item.signal) ≡ false = cc in
    record {
      turns = no_turns c.args.self.now c.args.progress.now;
      under_way = c.requires.under_way;
      ports = refl;
      made = search rules;
      stopped = refl;
      cause = unlawful_front c.args.self.now c.args.end c.args.slot c.args.item c.requires.next c.requires.place c.keeps.ensures.apart off;
    }

pub returns-in-Err-clause-turned : goal.returns-in-Err-clause-turned
returns-in-Err-clause-turned c = record {
  turns = unmoved c.args.self.now c.reserve_turn.new.self c.args.progress.now c.reserve_turn.ensures.work;
  under_way = search rules;
  ports = search rules;
  made = search rules;
  stopped = refl;
  cause = search rules;
}

pub returns-clause-turned : goal.returns-clause-turned
returns-clause-turned c = record {
  turns = take_made c.args.self.now c.reserve_turn.new.self c.make_take-sent.new.self c.args.slot c.args.item c.make_take-sent.result c.args.progress.now _
      c.reserve_turn.ensures.work c.make_take-sent.ensures.work refl refl refl c.requires.priority;
  under_way = search rules;
  ports = search rules;
  made = refl;
  stopped = search rules;
  cause = search rules;
}
