use Rattle.mc_divided.specs.Networks.{network_state}
use Rattle.mc_rounds.proofs.Ends.{EndsAs, answers_divided, answers_done, answers_limit, answers_stops}
use Rattle.mc_rounds.proofs.settling.settle.Goals as goal

-- how the phases ended
ends : (g : _) (c : goal.After-answer g) → EndsAs (network_state c.args.network).world c.args.batch.now
    c.run_batch.new.network c.run_batch.new.turns c.in_ok-ending.ending
ends g c = record {
  sound = c.requires.divided.sound;
  divided = c.in_ok-ending.ensures.divided;
  ended = c.in_ok-ending.ensures.ended;
}

pub returns-clause-divided : goal.returns-clause-divided
returns-clause-divided g c =
    answers_divided c.answer.result c.in_ok-ending.ending (network_state c.args.network).world c.args.batch.now
    c.run_batch.new.network c.run_batch.new.turns (ends g c) c.answer.ensures

pub returns-clause-settled : goal.returns-clause-settled
returns-clause-settled g c =
    answers_done c.answer.result c.in_ok-ending.ending (network_state c.args.network).world c.args.batch.now
    c.run_batch.new.network c.run_batch.new.turns (ends g c) c.answer.ensures

pub returns-clause-shift_limit : goal.returns-clause-shift_limit
returns-clause-shift_limit g c =
    answers_limit c.answer.result c.in_ok-ending.ending (network_state c.args.network).world c.args.batch.now
    c.run_batch.new.network c.run_batch.new.turns (ends g c) c.answer.ensures

pub returns-clause-stops : goal.returns-clause-stops
returns-clause-stops g c =
    answers_stops c.answer.result c.in_ok-ending.ending (network_state c.args.network).world c.args.batch.now
    c.run_batch.new.network c.run_batch.new.turns (ends g c) c.answer.ensures
