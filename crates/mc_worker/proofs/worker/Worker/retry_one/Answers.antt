use Rattle.std.proofs.Common.{◌≡◌, [], List, sym, subst, arith}
use Rattle.std.proofs.lemmas.Grind.{common_steps}
use Rattle.mc_box.specs.declared.event.Event.{Event}
use Rattle.mc_worker.specs.Account.{owed_retry_of}
use Rattle.mc_worker.specs.Turns.{AreRetried}
use Rattle.mc_worker.proofs.Joins.{still}
use Rattle.mc_worker.proofs.Turning.{none_retried}
use Rattle.mc_worker.proofs.worker.Worker.retry_one.Goals as goal

pub returns-then-not-enabled-clause-made : goal.returns-then-not-enabled-clause-made
returns-then-not-enabled-clause-made g c =
    let none : owed_retry_of c.args.self.now.part c.args.slot ≡ [] = grind (arith, common_steps) in
    subst (λ (events : List Event). AreRetried c.args.self.now c.args.self.now c.args.progress.now c.args.progress.now events) (sym none) (none_retried _ _ c.args.progress.now (still c.args.self.now))
