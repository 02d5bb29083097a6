use Rattle.mc_part.proofs.Calm.{command_calm, goes_none, goes_on}
use Rattle.std.proofs.Common.{◌<◌, ◌≤◌, inl, inr, length, refl, arith, rules}
use Rattle.mc_part.proofs.Commanding.{so_far_on, stopped_to, used_all, uses_one}
use Rattle.mc_part.specs.Running.{UsesTo}
use Rattle.mc_part.proofs.running.command_all.Goals as goal

pub commands-init : goal.commands-init
commands-init g c = record { goes = goes_none c.args.budget c.args.part.now c.requires.within; calm = λ calm. calm; used = inl refl }

pub commands-preserved : goal.commands-preserved
commands-preserved g c =
    let a = c.commands.part in
    let some : a.used < length a.commands.items = omega (arith, c.commands-test.true, c.len.ensures) in
    record {
      goes = goes_on c.args.budget c.args.part.now a c.command.new.part c.commands.invariant.goes c.command.ensures.goes;
      calm = λ calm. command_calm c.args.budget a c.command.new.part c.command.ensures.goes some c.command.ensures.only (c.commands.invariant.calm calm);
      used = inr (so_far_on c.args.part.now a c.command.new.part c.commands.invariant.used c.command.ensures.goes.runs (uses_one a c.command.new.part c.command.ensures.goes.runs some c.in_ok-command.ensures.used));
    }

pub returns-in_err-command-clause-goes : goal.returns-in_err-command-clause-goes
returns-in_err-command-clause-goes g c = goes_on c.args.budget c.args.part.now c.commands.part c.command.new.part c.commands.invariant.goes c.command.ensures.goes

pub returns-in_err-command-clause-calm : goal.returns-in_err-command-clause-calm
returns-in_err-command-clause-calm g c calm =
    let a = c.commands.part in
    let some : a.used < length a.commands.items = omega (arith, c.commands-test.true, c.len.ensures) in
    command_calm c.args.budget a c.command.new.part c.command.ensures.goes some c.command.ensures.only (c.commands.invariant.calm calm)

pub returns-in_err-command-clause-spent : goal.returns-in_err-command-clause-spent
returns-in_err-command-clause-spent g c =
    let is : UsesTo c.args.budget c.args.part.now c.command.new.part c.in_err-command.field-0.0 =
    stopped_to c.args.budget c.args.part.now c.commands.part c.command.new.part _ c.commands.invariant.used c.command.ensures.goes.runs c.in_err-command.ensures.log c.in_err-command.ensures.stops in
    search rules

pub returns-clause-used : goal.returns-clause-used
returns-clause-used g c =
    let past : length c.commands.part.commands.items ≤ c.commands.part.used = omega (arith, c.commands-test.false, c.len.ensures) in
    used_all c.args.budget c.args.part.now c.commands.part c.commands.invariant.used past
