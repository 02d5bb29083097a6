use Rattle.std.proofs.Common.{◌∙◌, ◌++◌, List, ap, ℕ}
use Rattle.mc_ladder_top.proofs.faulty.draw_up_to_fault.Goals as goal

pub returns : goal.returns
returns c = record {
  before = c.in_ok-before.before.items;
  ladder = c.in_ok-output.output.items;
  lines = c.in_ok-before.ensures.lines;
  drawn = rw c.deref.ensures.value at c.in_ok-output.ensures;
  noted = c.in_ok-extend_from_slice.ensures.items ∙ ap (λ (l : List ℕ). c.in_ok-output.output.items ++ l) (c.deref-2.ensures.value ∙ c.in_ok-note.ensures);
}
