use Rattle.mc_part.proofs.Calm.{goes_on}
use Rattle.mc_part.proofs.Commanding.{any_done, any_ended, first_on}
use Rattle.mc_part.proofs.running.go_on.Goals as goal

pub returns-then-is_empty-clause-goes : goal.returns-then-is_empty-clause-goes
returns-then-is_empty-clause-goes g c = goes_on c.args.budget c.args.part.now c.begin.new.part c.take_all.new.part c.begin.ensures.goes c.take_all.ensures.goes

pub returns-clause-goes : goal.returns-clause-goes
returns-clause-goes g c = goes_on c.args.budget c.args.part.now c.begin.new.part c.take_over.new.part c.begin.ensures.goes c.take_over.ensures.goes

pub returns-then-is_empty-clause-used : goal.returns-then-is_empty-clause-used
returns-then-is_empty-clause-used g c =
    any_done c.args.budget c.args.part.now c.take_all.new.part c.take_all.result (first_on c.args.budget c.args.part.now c.begin.new.part c.take_all.new.part c.in_ok-begin.ensures.used c.take_all.ensures.goes.runs)

pub returns-then-is_empty-clause-spent : goal.returns-then-is_empty-clause-spent
returns-then-is_empty-clause-spent g c =
    any_ended c.args.budget c.args.part.now c.take_all.new.part c.take_all.result (first_on c.args.budget c.args.part.now c.begin.new.part c.take_all.new.part c.in_ok-begin.ensures.used c.take_all.ensures.goes.runs)

pub returns-clause-used : goal.returns-clause-used
returns-clause-used g c =
    any_done c.args.budget c.args.part.now c.take_over.new.part c.take_over.result (first_on c.args.budget c.args.part.now c.begin.new.part c.take_over.new.part c.in_ok-begin.ensures.used c.take_over.ensures.goes.runs)

pub returns-clause-spent : goal.returns-clause-spent
returns-clause-spent g c =
    any_ended c.args.budget c.args.part.now c.take_over.new.part c.take_over.result (first_on c.args.budget c.args.part.now c.begin.new.part c.take_over.new.part c.in_ok-begin.ensures.used c.take_over.ensures.goes.runs)
