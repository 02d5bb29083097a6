use Rattle.mc_part.proofs.Calm.{begun_from, goes_on, ok_then}
use Rattle.mc_part.proofs.Commanding.{any_done, any_ended, first_on}
use Rattle.mc_part.proofs.running.begin.Goals as goal

pub returns-then-every-clause-goes : goal.returns-then-every-clause-goes
returns-then-every-clause-goes g c = goes_on c.args.budget c.args.part.now c.command_all.new.part c.shift_every.new.part c.command_all.ensures.goes c.shift_every.ensures.goes

pub returns-then-every-clause-begun : goal.returns-then-every-clause-begun
returns-then-every-clause-begun g c = ok_then c.shift_every.result (begun_from c.args.budget c.command_all.new.part c.shift_every.new.part c.shift_every.ensures.goes c.in_ok-command_all.ensures.left) c.shift_every.ensures.calm

pub shift_commanded-requires-clause-calm : goal.shift_commanded-requires-clause-calm
shift_commanded-requires-clause-calm g c = c.command_all.ensures.calm (c.requires.calm c.if-every.false)

pub returns-clause-goes : goal.returns-clause-goes
returns-clause-goes g c = goes_on c.args.budget c.args.part.now c.command_all.new.part c.shift_commanded.new.part c.command_all.ensures.goes c.shift_commanded.ensures.goes

pub returns-clause-begun : goal.returns-clause-begun
returns-clause-begun g c = ok_then c.shift_commanded.result (begun_from c.args.budget c.command_all.new.part c.shift_commanded.new.part c.shift_commanded.ensures.goes c.in_ok-command_all.ensures.left) c.shift_commanded.ensures.calm

pub returns-then-every-clause-used : goal.returns-then-every-clause-used
returns-then-every-clause-used g c =
    any_done c.args.budget c.args.part.now c.shift_every.new.part c.shift_every.result (first_on c.args.budget c.args.part.now c.command_all.new.part c.shift_every.new.part c.in_ok-command_all.ensures.used c.shift_every.ensures.goes.runs)

pub returns-then-every-clause-spent : goal.returns-then-every-clause-spent
returns-then-every-clause-spent g c =
    any_ended c.args.budget c.args.part.now c.shift_every.new.part c.shift_every.result (first_on c.args.budget c.args.part.now c.command_all.new.part c.shift_every.new.part c.in_ok-command_all.ensures.used c.shift_every.ensures.goes.runs)

pub returns-clause-used : goal.returns-clause-used
returns-clause-used g c =
    any_done c.args.budget c.args.part.now c.shift_commanded.new.part c.shift_commanded.result (first_on c.args.budget c.args.part.now c.command_all.new.part c.shift_commanded.new.part c.in_ok-command_all.ensures.used c.shift_commanded.ensures.goes.runs)

pub returns-clause-spent : goal.returns-clause-spent
returns-clause-spent g c =
    any_ended c.args.budget c.args.part.now c.shift_commanded.new.part c.shift_commanded.result (first_on c.args.budget c.args.part.now c.command_all.new.part c.shift_commanded.new.part c.in_ok-command_all.ensures.used c.shift_commanded.ensures.goes.runs)
