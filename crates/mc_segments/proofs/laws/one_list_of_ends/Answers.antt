use Rattle.mc_segments.proofs.Marked.{same_ends}
use Rattle.mc_segments.proofs.laws.one_list_of_ends.Goals as goal

pub returns : goal.returns
returns c = λ world turns ends others one two. same_ends ends others world turns 0 one two
