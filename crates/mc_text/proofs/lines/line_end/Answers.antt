use Rattle.mc_text.specs.Lines.{is_line_end}
use Rattle.mc_text.proofs.Cuts.{line_from}
use Rattle.mc_text.proofs.lines.line_end.Goals as goal

pub returns-clause-line : goal.returns-clause-line
returns-clause-line c = λ within. line_from is_line_end c.args.text.now c.args.from c.line_len.result within (rw (← c.rest_of.ensures) c.line_len.ensures.first)
