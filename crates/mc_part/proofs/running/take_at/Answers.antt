use Rattle.mc_part.proofs.Calm.{goes_on, ok_then, take_calm}
use Rattle.mc_part.proofs.running.take_at.Goals as goal

pub returns-clause-goes : goal.returns-clause-goes
returns-clause-goes g c = goes_on c.args.budget c.args.part.now c.take.new.part c.shift_on.new.part c.take.ensures.goes c.shift_on.ensures.goes

pub returns-clause-calm : goal.returns-clause-calm
returns-clause-calm g c = ok_then c.shift_on.result
    (take_calm c.args.budget c.args.part.now c.take.new.part c.shift_on.new.part c.args.who c.take.ensures.goes c.shift_on.ensures.goes c.take.ensures.only c.shift_on.ensures.only c.requires.calm) c.shift_on.ensures.calm
