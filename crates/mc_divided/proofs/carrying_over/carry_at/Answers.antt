use Rattle.std.proofs.Common.{arith}
use Rattle.std.proofs.lemmas.Option.{slice_get_within}
use Rattle.mc_divided.proofs.CarriedOver.{answer_back, answer_forward, can_of, can_of_back}
use Rattle.mc_divided.proofs.Lists.{of_back, of_front}
use Rattle.mc_divided.proofs.carrying_over.carry_at.Goals as goal

-- ---- the first part stands first

pub carry_both-requires-clause-there : goal.carry_both-requires-clause-there
carry_both-requires-clause-there c =
    let s = c.split_at_mut-front in
    let below = slice_get_within c.args.runs.now c.args.crossing.to c.requires.carryable.to c.requires.carryable.to_there in
    can_of c.args.runs.now c.args.crossing _ _ c.requires.carryable (of_front c.args.runs.now s.result.0.now s.result.1.now c.args.crossing.from c.index-front-from.result s.ensures.value (omega arith))
    (of_back c.args.runs.now s.result.0.now s.result.1.now c.args.crossing.to c.index-back-0.result s.ensures.value s.ensures.front_len (omega (arith, below)))

pub carry_both-requires-clause-back : goal.carry_both-requires-clause-back
carry_both-requires-clause-back c =
    let s = c.split_at_mut-front in
    let below = slice_get_within c.args.runs.now c.args.crossing.to c.requires.carryable.to c.requires.carryable.to_there in
    can_of_back c.args.runs.now c.args.crossing _ _ c.requires.carryable (of_front c.args.runs.now s.result.0.now s.result.1.now c.args.crossing.from c.index-front-from.result s.ensures.value (omega arith))
    (of_back c.args.runs.now s.result.0.now s.result.1.now c.args.crossing.to c.index-back-0.result s.ensures.value s.ensures.front_len (omega (arith, below)))

pub returns-then-from-to : goal.returns-then-from-to
returns-then-from-to c =
    let s = c.split_at_mut-front in
    let below = slice_get_within c.args.runs.now c.args.crossing.to c.requires.carryable.to c.requires.carryable.to_there in
    answer_forward c.carry_both.result c.args.runs.now s.result.0.now s.result.1.now c.args.crossing _ _ c.carry_both.new.from c.carry_both.new.to c.requires.apart s.ensures.value s.ensures.front_len (omega arith) (omega (arith, below))
    (of_front c.args.runs.now s.result.0.now s.result.1.now c.args.crossing.from c.index-front-from.result s.ensures.value (omega arith))
    (of_back c.args.runs.now s.result.0.now s.result.1.now c.args.crossing.to c.index-back-0.result s.ensures.value s.ensures.front_len (omega (arith, below)))
    c.carry_both.ensures

-- ---- the second one does

pub split_at_mut-front-requires-2 : goal.split_at_mut-front-requires-2
split_at_mut-front-requires-2 c =
    let below = slice_get_within c.args.runs.now c.args.crossing.from c.requires.carryable.from c.requires.carryable.from_there in
    omega (arith, below)

pub carry_both-requires-2-clause-there : goal.carry_both-requires-2-clause-there
carry_both-requires-2-clause-there c =
    let s = c.split_at_mut-front-2 in
    let below = slice_get_within c.args.runs.now c.args.crossing.from c.requires.carryable.from c.requires.carryable.from_there in
    can_of c.args.runs.now c.args.crossing _ _ c.requires.carryable (of_back c.args.runs.now s.result.0.now s.result.1.now c.args.crossing.from c.index-back-0-2.result s.ensures.value s.ensures.front_len (omega (arith, below)))
    (of_front c.args.runs.now s.result.0.now s.result.1.now c.args.crossing.to c.index-front-to.result s.ensures.value (omega (arith, c.requires.apart)))

pub carry_both-requires-2-clause-back : goal.carry_both-requires-2-clause-back
carry_both-requires-2-clause-back c =
    let s = c.split_at_mut-front-2 in
    let below = slice_get_within c.args.runs.now c.args.crossing.from c.requires.carryable.from c.requires.carryable.from_there in
    can_of_back c.args.runs.now c.args.crossing _ _ c.requires.carryable (of_back c.args.runs.now s.result.0.now s.result.1.now c.args.crossing.from c.index-back-0-2.result s.ensures.value s.ensures.front_len (omega (arith, below)))
    (of_front c.args.runs.now s.result.0.now s.result.1.now c.args.crossing.to c.index-front-to.result s.ensures.value (omega (arith, c.requires.apart)))

pub returns : goal.returns
returns c =
    let s = c.split_at_mut-front-2 in
    let below = slice_get_within c.args.runs.now c.args.crossing.from c.requires.carryable.from c.requires.carryable.from_there in
    answer_back c.carry_both-2.result c.args.runs.now s.result.0.now s.result.1.now c.args.crossing _ _ c.carry_both-2.new.from c.carry_both-2.new.to c.requires.apart s.ensures.value s.ensures.front_len (omega (arith, c.requires.apart)) (omega (arith, below))
    (of_back c.args.runs.now s.result.0.now s.result.1.now c.args.crossing.from c.index-back-0-2.result s.ensures.value s.ensures.front_len (omega (arith, below)))
    (of_front c.args.runs.now s.result.0.now s.result.1.now c.args.crossing.to c.index-front-to.result s.ensures.value (omega (arith, c.requires.apart)))
    c.carry_both-2.ensures
