use Rattle.mc_program_lines.specs.Programs.{words_of}
use Rattle.mc_ladder_page.proofs.Rows.{IsTold}
use Rattle.mc_ladder_page.proofs.data.put_rows.Given as goal

-- what is told, and the rows of the lines that are left, are all
abbrev pub invariant-loop-line : goal.invariant-loop-line
invariant-loop-line l =
    IsTold l.names l.blocks l.initial.world l.journal l.initial.out.items l.world (words_of l.cells.items) l.passed l.line-index l.out.items
