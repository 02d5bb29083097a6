use Rattle.std.proofs.lemmas.List.{drop-drop}
use Rattle.mc_text.specs.Lines.{is_line_end}
use Rattle.mc_text.proofs.Cuts.{first_line}
use Rattle.mc_text.proofs.lines.next_line.Goals as goal

pub returns-clause-first : goal.returns-clause-first
returns-clause-first c = rw (c.without_first.ensures, c.split_at.ensures.front, c.split_at.ensures.back, drop-drop, c.line_len.ensures.first) (first_line is_line_end c.args.text.now c.requires)
