use Rattle.std.proofs.Common.{◌≡◌, ◌+◌, ◌++◌, ◌∙◌, List, ap, if◌then◌else◌, ◌∷◌, [], Bool, refl, subst, arith, add-one}
use Rattle.std.proofs.lemmas.List.{append-nil}
use Rattle.mc_box.specs.declared.event.Event.{Event}
use Rattle.mc_box.specs.declared.event.Event.TheVariants.{Retry}
use Rattle.mc_worker.specs.Account.{owed_below, owed_retry_of}
use Rattle.mc_worker.specs.Turns.{AreRetried}
use Rattle.mc_worker.proofs.Joins.{still}
use Rattle.mc_worker.proofs.Turning.{none_retried, retried_joined}
use Rattle.mc_worker.proofs.worker.Worker.retry_all.Goals as goal

pub loop-slot-init : goal.loop-slot-init
loop-slot-init g c = record {
  made = none_retried _ _ c.args.progress.now (still c.args.self.now);
  owes_on = λ other h. refl;
  under_way = c.requires.under_way;
  slots = refl;
  passed = refl;
  turns = omega (arith, c.requires.turns);
}

pub returns-in-Some-clause-made : goal.returns-in-Some-clause-made
returns-in-Some-clause-made g c = record {
  below = c.loop-slot.slot;
  made = subst (λ (events : List Event). AreRetried c.args.self.now c.retry_one.new.self c.args.progress.now c.retry_one.new.progress events) (append-nil (owed_below c.args.self.now.part c.loop-slot.slot))
      (retried_joined _ _ _ _ _ _ _ _ c.loop-slot.invariant.made c.in-Some.ensures.made.0);
  memory = c.in-Some.ensures.made.1;
}

pub loop-slot-preserved : goal.loop-slot-preserved
loop-slot-preserved g c =
    let same : owed_retry_of c.loop-slot.self.part c.loop-slot.slot ≡ owed_retry_of c.args.self.now.part c.loop-slot.slot =
    ap (λ (test : Bool). if test then Retry c.loop-slot.slot ∷ [] else []) (c.loop-slot.invariant.owes_on c.loop-slot.slot (omega arith)) in
    let more : owed_below c.args.self.now.part c.loop-slot.slot ++ owed_retry_of c.loop-slot.self.part c.loop-slot.slot ≡ owed_below c.args.self.now.part (c.loop-slot.slot + 1) =
    rw (same, add-one) refl in
    record {
      made = subst (λ (events : List Event). AreRetried c.args.self.now c.retry_one.new.self c.args.progress.now c.retry_one.new.progress events) more
          (retried_joined _ _ _ _ _ _ _ _ c.loop-slot.invariant.made c.in_default.ensures.made);
      owes_on = λ other h. c.in_default.ensures.others other (λ e. absurd (omega arith)) ∙ c.loop-slot.invariant.owes_on other (omega arith);
      under_way = c.retry_one.ensures.under_way;
      slots = c.retry_one.ensures.slots ∙ c.loop-slot.invariant.slots;
      passed = c.retry_one.ensures.passed ∙ c.loop-slot.invariant.passed;
      turns = omega (arith, c.retry_one.ensures.turns, c.loop-slot.invariant.turns);
    }
