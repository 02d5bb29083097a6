use Rattle.std.proofs.Common.{◌≡◌, ◌==◌, true, refl, length}
use Rattle.mc_worker.proofs.Working.{nil_of, waiting_found}
use Rattle.mc_worker.proofs.worker.Worker.has_waiting_work.Goals as goal

pub returns : goal.returns
returns c =
    let empty : (length c.args.self.now.stimuli.items == 0) ≡ true = cc in
    rw c.is_some.ensures
    (waiting_found c.first.result c.args.retries c.args.self.now (nil_of c.args.self.now.stimuli.items empty) (c.if-can_shift.ensures.none refl) c.if-owes.ensures c.first.ensures.some c.first.ensures.none)
