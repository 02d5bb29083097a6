use Rattle.mc_text.specs.Lines.{is_line_end}
use Rattle.mc_text.proofs.Cuts.{first_or_end}
use Rattle.mc_text.proofs.lines.search_line_end.Goals as goal

pub returns-clause-first : goal.returns-clause-first
returns-clause-first c = rw c.unwrap_or.ensures (first_or_end is_line_end c.args.bytes.now c.memchr.result c.memchr.ensures)
