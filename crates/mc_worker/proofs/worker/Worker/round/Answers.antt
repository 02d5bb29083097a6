use Rattle.std.proofs.Common.{ap, sym, refl, subst, arith}
use Rattle.mc_port.specs.Entries.{entries_of}
use Rattle.mc_worker.specs.Account.{in_at}
use Rattle.mc_worker.specs.Rounds.{AllIdle, HasStopped}
use Rattle.mc_worker.specs.declared.stop.RoundEnd.{RoundEnd}
use Rattle.mc_worker.proofs.EndSteps.{idle_from}
use Rattle.mc_worker.proofs.Shapes.{made_same}
use Rattle.mc_worker.proofs.Turning.{cause_for, cut_short, whole_round}
use Rattle.mc_worker.proofs.Working.{rested_idle}
use Rattle.mc_worker.proofs.worker.Worker.round.Goals as goal

pub returns-in-Some-clause-round : goal.returns-in-Some-clause-round
returns-in-Some-clause-round g c =
    cut_short c.args.retries c.args.self.now c.begin.new.self _ c.begin.new.progress c.ended.result c.in-Some.stop refl refl refl c.in-Some.ensures.made.0 c.in-Some.ensures.made.1
    c.begin.ensures.under_way.ready.shifts c.ended.ensures

pub returns-in-Some-clause-shape : goal.returns-in-Some-clause-shape
returns-in-Some-clause-shape g c = made_same c.args.self.now.part c.begin.new.self.part _ c.keeps.ensures c.in-Some.ensures.made.1.made.work.made

pub returns-clause-round : goal.returns-clause-round
returns-clause-round g c =
    whole_round c.args.retries c.args.self.now c.begin.new.self c.go_on-stop.new.self _ c.begin.new.progress c.go_on-stop.new.progress c.ended-2.result c.go_on-stop.result refl refl refl
    c.in_default.ensures.made c.go_on-stop.ensures.turns c.go_on-stop.ensures.under_way.ready.shifts c.ended-2.ensures

pub returns-clause-shape : goal.returns-clause-shape
returns-clause-shape g c = made_same c.args.self.now.part c.go_on-stop.new.self.part (entries_of (returns-clause-round g c).log) c.keeps.ensures (returns-clause-round g c).account.work.made

pub returns-clause-works : goal.returns-clause-works
returns-clause-works g c work none rested =
    let count = ap (λ (e : RoundEnd). e.turns) c.ended-2.ensures in
    let cause = cause_for (AllIdle c.begin.new.self c.go_on-stop.new.self) (AllIdle c.args.self.now c.go_on-stop.new.self) c.go_on-stop.new.self c.go_on-stop.result
    (λ idle e h. idle_from (in_at c.args.self.now e) (in_at c.begin.new.self e) (in_at c.go_on-stop.new.self e) (c.in_default.ensures.made.work.ins e).looks (idle e h))
    (c.go_on-stop.ensures.cause (omega (arith, none, count))) in
    rested_idle c.args.retries c.args.self.now c.go_on-stop.new.self c.ended-2.result (returns-clause-round g c)
    (subst (λ (e : RoundEnd). HasStopped (AllIdle c.args.self.now c.go_on-stop.new.self) c.go_on-stop.new.self e.stop) (sym c.ended-2.ensures) cause) work none rested
