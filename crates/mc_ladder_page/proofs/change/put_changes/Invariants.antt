use Rattle.mc_program_lines.specs.Programs.{words_of}
use Rattle.mc_ladder_page.proofs.Rows.{IsChanged}
use Rattle.mc_ladder_page.proofs.change.put_changes.Given as goal

-- what is told, and the changes of the cells that are left, are all
abbrev pub invariant-loop-at : goal.invariant-loop-at
invariant-loop-at l = IsChanged (words_of l.old) (words_of l.new) l.initial.out.items l.out.items l.at
