use Rattle.std.proofs.Common.{◌≡◌, drop}
use Rattle.mc_net.specs.Nets.{MayHavePrograms, with_programs}
use Rattle.mc_net.proofs.net.lay_programs.Given as goal

-- the programs that are left may be laid out, and lead to where all of them do
abbrev pub invariant-loop-block : goal.invariant-loop-block
invariant-loop-block l = record {
  may : MayHavePrograms l.layout (drop l.block-index l.blocks);
  all : with_programs l.layout (drop l.block-index l.blocks) ≡ with_programs l.fn.layout l.blocks;
}
