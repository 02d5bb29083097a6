use Rattle.mc_ladder_top.proofs.faulty.lines_by_net.Goals as goal

pub count_before-requires-clause-allowed : goal.count_before-requires-clause-allowed
count_before-requires-clause-allowed c = rw c.deref.ensures.value c.requires.allowed
