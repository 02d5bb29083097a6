use Rattle.std.proofs.Common.{◌≡◌, ◌∙◌, true, false, ap, sym}
use Rattle.mc_box.specs.BoxEvents.{is_enabled}
use Rattle.mc_box.specs.Boxes.{BoxState}
use Rattle.mc_box.specs.declared.event.Event.TheVariants.{Retry}
use Rattle.mc_model.specs.Worlds.{box_at}
use Rattle.mc_part.specs.Retries.{owed_in, owes, slot_only}
use Rattle.mc_part.proofs.Retries.{made_some, none_retried, some_of}
use Rattle.mc_part.proofs.Turned.{read_box}
use Rattle.mc_part.proofs.retrying.retry_slot.Goals as goal

pub returns-then-not-enabled-clause-retried : goal.returns-then-not-enabled-clause-retried
returns-then-not-enabled-clause-retried g c =
    let a = c.args.part.now in
    let box : c.index-boxes-who.result ≡ box_at a.engine c.args.who = read_box a.engine c.boxes.result.now c.args.who c.index-boxes-who.result c.boxes.ensures c.requires.here c.index-boxes-who.is in
    let none : owes a c.args.who c.args.local ≡ false = ap (λ (x : BoxState). is_enabled x (Retry c.args.local)) (sym box) ∙ (sym c.enabled.ensures ∙ c.if-not-enabled.true) in
    none_retried a c.args.who c.args.local c.requires.within c.requires.here none

pub returns-then-not-enabled-clause-some : goal.returns-then-not-enabled-clause-some
returns-then-not-enabled-clause-some g c =
    some_of c.args.part.now c.args.part.now (owed_in (slot_only c.args.who c.args.local) c.args.part.now) (returns-then-not-enabled-clause-retried g c)

pub returns-clause-some : goal.returns-clause-some
returns-clause-some g c =
    let a = c.args.part.now in
    let box : c.index-boxes-who.result ≡ box_at a.engine c.args.who = read_box a.engine c.boxes.result.now c.args.who c.index-boxes-who.result c.boxes.ensures c.requires.here c.index-boxes-who.is in
    let is : owes a c.args.who c.args.local ≡ true = ap (λ (x : BoxState). is_enabled x (Retry c.args.local)) (sym box) ∙ (sym c.enabled.ensures ∙ c.if-not-enabled.false) in
    made_some a c.act.new.part c.args.who c.args.local c.act.result c.requires.within c.requires.here is c.act.ensures.made c.act.ensures.same c.act.ensures.log
