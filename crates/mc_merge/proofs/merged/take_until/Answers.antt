use Rattle.std.proofs.Common.{◌∙◌, arith, vec_capacity, vec_len}
use Rattle.mc_merge.proofs.Taking.{taken_more}
use Rattle.mc_merge.proofs.merged.take_until.Goals as goal

pub loop-first-preserved : goal.loop-first-preserved
loop-first-preserved c = (
  taken_more c.args.until c.args.log.now c.loop-first.log c.take_turn-turn.new.log c.args.turns.now.items c.loop-first.turns.items c.push_reserved.new.self.items c.take_turn-turn.result c.in-Some.first
      (vec_len c.loop-first.turns) (vec_len c.push_reserved.new.self) (vec_capacity c.loop-first.turns) (vec_capacity c.push_reserved.new.self) c.loop-first.invariant.0 c.in-Some.ensures.item (omega arith)
      c.take_turn-turn.ensures.turn c.take_turn-turn.ensures.numbers c.take_turn-turn.ensures.clock c.push_reserved.ensures.items c.push_reserved.ensures.len c.push_reserved.ensures.capacity,
  c.push_reserved.ensures.capacity ∙ c.loop-first.invariant.1,
)
