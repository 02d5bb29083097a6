use Rattle.std.proofs.Common.{◌≡◌, [], List, length, sym, subst, arith}
use Rattle.std.proofs.lemmas.Grind.{common_steps}
use Rattle.mc_box.specs.declared.event.Event.{Event}
use Rattle.mc_worker.specs.Account.{retries_below}
use Rattle.mc_worker.specs.Turns.{AreRetried}
use Rattle.mc_worker.proofs.Joins.{still}
use Rattle.mc_worker.proofs.Turning.{none_retried}
use Rattle.mc_worker.proofs.worker.Worker.begin.Goals as goal

pub returns-else-retries-clause-made : goal.returns-else-retries-clause-made
returns-else-retries-clause-made g c =
    let none : retries_below c.args.retries c.args.self.now.part (length c.args.self.now.part.slots) ≡ [] = grind (arith, common_steps) in
    subst (λ (events : List Event). AreRetried c.args.self.now c.args.self.now c.args.progress.now c.args.progress.now events) (sym none) (none_retried _ _ c.args.progress.now (still c.args.self.now))
