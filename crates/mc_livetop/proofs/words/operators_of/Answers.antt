use Rattle.mc_livetop.proofs.words.operators_of.Goals as goal

pub returns-in-Some-Some-None-clause-none : goal.returns-in-Some-Some-None-clause-none
returns-in-Some-Some-None-clause-none c = rw (c.in-Some-Some-None.is-0, c.in-Some-Some-None.is-1, c.in-Some-Some-None.is-2) c.operators_by.ensures.none
