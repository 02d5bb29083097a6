use Rattle.std.proofs.Common.{◌≡◌, drop}
use Rattle.mc_ladder.specs.Rows.{state_among}
use Rattle.mc_ladder.proofs.turn.state_among.Given as goal

-- the name among the programs that are left is that among all
abbrev pub invariant-loop-block : goal.invariant-loop-block
invariant-loop-block l = state_among (drop l.block-index l.blocks) l.who l.at ≡ state_among l.blocks l.who l.at
