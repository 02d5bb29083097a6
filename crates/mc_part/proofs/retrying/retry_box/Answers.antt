use Rattle.std.proofs.Common.{◌≡◌, ◌∙◌, ℕ, List, length, refl, ap, arith}
use Rattle.mc_box.specs.Boxes.{BoxState}
use Rattle.mc_slot.specs.declared.Slot.{Slot}
use Rattle.mc_model.specs.Worlds.{box_at}
use Rattle.mc_part.specs.Retries.{below_slot, owed_in}
use Rattle.mc_part.proofs.Calm.{only_none, only_on}
use Rattle.mc_part.proofs.Retries.{box_more, box_retried, no_slots_below, some_on}
use Rattle.mc_part.proofs.Turned.{read_box}
use Rattle.mc_part.proofs.retrying.retry_box.Goals as goal

pub loop-local-init : goal.loop-local-init
loop-local-init g c = record {
  retried = no_slots_below c.args.part.now c.args.who c.requires.within;
  only = only_none c.args.part.now c.args.who;
  others = λ other low. refl;
  within = c.requires.within;
  few = omega arith;
}

pub returns-in_err-retry_slot-clause-some : goal.returns-in_err-retry_slot-clause-some
returns-in_err-retry_slot-clause-some g c =
    some_on c.args.part.now c.loop-local.part c.retry_slot.new.part (owed_in (below_slot c.args.who c.loop-local.local) c.args.part.now) c.loop-local.invariant.retried c.retry_slot.ensures.some

pub loop-local-preserved : goal.loop-local-preserved
loop-local-preserved g c =
    let a = c.args.part.now in
    let b = c.loop-local.part in
    let d = c.retry_slot.new.part in
    let k : ℕ = c.loop-local.local in
    record {
      retried = box_more a b d c.args.who k c.loop-local.invariant.retried.run.spanned.work.box_count c.requires.here (c.loop-local.invariant.others k (omega arith)) c.loop-local.invariant.retried c.in_ok-retry_slot.ensures.retried;
      only = only_on a b d c.args.who c.loop-local.invariant.only c.retry_slot.ensures.only;
      others = λ other low. c.in_ok-retry_slot.ensures.others other (λ same. absurd (omega (arith, low, same))) ∙ c.loop-local.invariant.others other (omega (arith, low));
      within = c.retry_slot.ensures.within;
      few = omega (arith, c.retry_slot.ensures.few, c.loop-local.invariant.few);
    }

pub returns-clause-retried : goal.returns-clause-retried
returns-clause-retried g c =
    let a = c.args.part.now in
    let box : c.index-boxes-who.result ≡ box_at a.engine c.args.who = read_box a.engine c.boxes.result.now c.args.who c.index-boxes-who.result c.boxes.ensures c.requires.here c.index-boxes-who.is in
    let slots : length c.slots-slots.result.now ≡ length c.index-boxes-who.result.slots = ap (λ (l : List Slot). length l) c.slots-slots.ensures.slots in
    let same : length c.index-boxes-who.result.slots ≡ length (box_at a.engine c.args.who).slots = ap (λ (x : BoxState). length x.slots) box in
    box_retried a c.loop-local.part c.args.who c.loop-local.local (omega (arith, c.loop-local-test.false, slots, same)) c.loop-local.invariant.retried
