use Rattle.std.proofs.Common.{take}
use Rattle.mc_growth.specs.Outs.{SetNoneOut}
use Rattle.mc_stages.proofs.commands.sets_none_out.Given as goal

-- none of the turns so far is
abbrev pub invariant-loop-turn : goal.invariant-loop-turn
invariant-loop-turn l = SetNoneOut l.network.world l.network.out (take l.turn-index l.batch)
