use Rattle.mc_lines.specs.declared.tail.Tail.TheVariants.{Grow}
use Rattle.mc_net.proofs.Faults.{declares_or_faults}
use Rattle.mc_tail.proofs.tail.read_head.Goals as goal

pub unreachable-requires : goal.unreachable-requires
unreachable-requires c = declares_or_faults Grow c.args.text.now c.requires.0 _ _ c.requires.1 (rw c.in-Err-Line.field-0-is at c.in-Err-Line.ensures.refused)
