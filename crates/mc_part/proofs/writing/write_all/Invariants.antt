use Rattle.std.proofs.Common.{◌≡◌, ◌+◌, ◌-◌, ◌≤◌, length, map, take, vec_capacity, vec_len}
use Rattle.mc_merge.specs.Weaving.{turn_by}
use Rattle.mc_part.proofs.writing.write_all.Given as goal

-- the turns of the first so many
abbrev pub invariant-loop-at : goal.invariant-loop-at
invariant-loop-at l = (l.turns.items ≡ map (turn_by l.numbers) (take l.at l.made.items))
    × (vec_len l.turns + (length l.made.items - l.at) ≤ vec_capacity l.turns)
