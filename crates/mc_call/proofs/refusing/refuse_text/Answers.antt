use Rattle.mc_call.proofs.refusing.refuse_text.Goals as goal

pub returns-in-Ok-clause-answers : goal.returns-in-Ok-clause-answers
returns-in-Ok-clause-answers g c = rw c.in-Ok.ensures at c.refuse_line.ensures.answers
