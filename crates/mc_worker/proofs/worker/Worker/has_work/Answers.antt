use Rattle.std.proofs.Common.{◌≡◌, ◌∙◌, ◌==◌, true, ap, sym, refl, subst, length, IsTrue}
use Rattle.mc_worker.specs.Rounds.{OwesRetry}
use Rattle.mc_worker.specs.declared.worker.Worker.{Worker}
use Rattle.mc_worker.proofs.Working.{NoShift, nil_of, work_found}
use Rattle.mc_worker.proofs.worker.Worker.has_work.Goals as goal

pub returns-clause-exact : goal.returns-clause-exact
returns-clause-exact c =
    let kept = c.look.ensures.looked.same in
    let empty : (length c.args.self.now.stimuli.items == 0) ≡ true = cc in
    rw c.is_some.ensures
    (work_found c.look.result c.args.retries c.args.self.now c.look.new.self c.look.new.progress.passed (ap (λ (w : Worker). w.stimuli.items) kept ∙ nil_of c.args.self.now.stimuli.items empty)
    (subst (λ (w : Worker). NoShift w) (sym kept) (c.if-can_shift.ensures.none refl))
    (subst (λ (w : Worker). IsTrue c.args.retries × OwesRetry w.part → ⊥) (sym kept) c.if-owes.ensures)
    c.look.ensures.looked.ports c.look.ensures.found c.look.ensures.none c.look.ensures.passed)
