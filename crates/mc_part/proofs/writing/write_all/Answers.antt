use Rattle.std.proofs.Common.{◌+◌, ◌-◌, ◌≤◌, length, arith, vec_capacity, vec_len}
use Rattle.mc_part.proofs.Written.{written_more}
use Rattle.mc_part.proofs.writing.write_all.Goals as goal

pub loop-at-preserved : goal.loop-at-preserved
loop-at-preserved c = (
  written_more c.args.numbers.now c.args.made.now.items c.loop-at.at c.get.result c.turn_by.result c.loop-at.turns.items c.push_reserved.new.self.items (omega arith) c.get.ensures c.turn_by.ensures
      c.loop-at.invariant.0 c.push_reserved.ensures.items,
  (let room : vec_len c.loop-at.turns + (length c.args.made.now.items - c.loop-at.at) ≤ vec_capacity c.loop-at.turns = c.loop-at.invariant.1 in
      omega (arith, room, c.push_reserved.ensures.len, c.push_reserved.ensures.capacity)),
)
