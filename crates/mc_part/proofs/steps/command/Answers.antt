use Rattle.std.proofs.Common.{◌≡◌, ◌<◌, ◌+◌, ◌∙◌, IsTrue, Some, length, slice_get, refl, ap, sym, subst, arith}
use Rattle.std.proofs.lemmas.Option.{slice_get_read}
use Rattle.mc_box.specs.BoxEvents.{is_command}
use Rattle.mc_box.specs.declared.event.Turn.{Turn}
use Rattle.mc_merge.proofs.Logs.{all_at}
use Rattle.mc_part.specs.Parts.{Runs, no_retries}
use Rattle.mc_part.specs.Running.{next_command}
use Rattle.mc_part.specs.declared.part.Part.{Part}
use Rattle.mc_part.proofs.Calm.{goes_none, goes_once, goes_still, only_command}
use Rattle.mc_part.proofs.Ran.{command_run, failed, none_within, once_longer, once_within}
use Rattle.mc_part.proofs.steps.command.Goals as goal

pub returns-then-len-budget-clause-goes : goal.returns-then-len-budget-clause-goes
returns-then-len-budget-clause-goes g c = goes_none c.args.budget c.args.part.now c.requires.within

pub refused_command-requires-clause-next : goal.refused_command-requires-clause-next
refused_command-requires-clause-next g c =
    let a : Part = c.args.part.now in
    ap (λ (p : Part). next_command p) c.in-Err.ensures.same ∙ slice_get_read a.commands.items (length a.commands.items) a.used c.index.result.now refl c.requires.some c.index.ensures

pub returns-in-Ok-clause-goes : goal.returns-in-Ok-clause-goes
returns-in-Ok-clause-goes g c =
    let a : Part = c.args.part.now in
    let b : Part = c.turn.new.self in
    let turn : Turn = c.index.result.now in
    let there : slice_get a.commands.items a.used ≡ Some turn = slice_get_read a.commands.items (length a.commands.items) a.used turn refl c.requires.some c.index.ensures in
    let once = c.in-Ok.ensures.made in
    let used : b.used ≡ a.used = ap (λ (p : Part). p.used) once.kept in
    let runs = command_run a b turn c.requires.within there (all_at (λ (t : Turn). IsTrue (is_command t.event)) a.commands.items a.used turn c.requires.within.commands there) once in
    let next : Part = record b { used = b.used + 1 } in
    let same : record b { used = a.used + 1 } ≡ next = ap (λ n. record b { used = n + 1 }) (sym used) in
    let runs_next : Runs a next no_retries = subst (λ (p : Part). Runs a p no_retries) same runs in
    let fewer : length a.log.items < c.args.budget = omega (arith, c.if-len-budget.false, c.len.ensures) in
    goes_once c.args.budget a next runs_next (once_within a b next turn.who turn.event no_retries c.requires.within once refl refl refl (ap (λ (p : Part). length p.shifts.items) once.kept) runs_next) fewer
    (once_longer a b turn.who turn.event once)

pub returns-in-Ok-clause-only : goal.returns-in-Ok-clause-only
returns-in-Ok-clause-only g c turn next =
    let a : Part = c.args.part.now in
    let there : slice_get a.commands.items a.used ≡ Some c.index.result.now = slice_get_read a.commands.items (length a.commands.items) a.used c.index.result.now refl c.requires.some c.index.ensures in
    only_command a c.turn.new.self c.index.result.now turn (c.turn.new.self.used + 1) there next c.in-Ok.ensures.made

pub returns-in-Err-clause-goes : goal.returns-in-Err-clause-goes
returns-in-Err-clause-goes g c =
    let a = c.args.part.now in
    let b = c.turn.new.self in
    goes_still c.args.budget a b (failed a b c.requires.within c.in-Err.ensures.same c.in-Err.ensures.log) (none_within a b c.requires.within c.in-Err.ensures.same c.in-Err.ensures.log) c.in-Err.ensures.log
