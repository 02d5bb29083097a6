use Rattle.mc_text.specs.Lines.{is_space}
use Rattle.mc_text.proofs.Cuts.{position_or_end}
use Rattle.mc_text.proofs.lines.word_len.Goals as goal

pub returns-clause-first : goal.returns-clause-first
returns-clause-first c = rw (c.unwrap_or.ensures, c.first_space.ensures) (position_or_end is_space c.args.bytes.now)
