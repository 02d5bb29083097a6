use Rattle.std.proofs.Common.{◌≡◌, ◌∙◌, List, ap, sym, refl, subst, length, arith}
use Rattle.mc_box.specs.BoxShapes.{box_shape}
use Rattle.mc_signal.specs.declared.Tagged.{Tagged}
use Rattle.mc_worker.specs.Boxes.{AreEmpty}
use Rattle.mc_worker.specs.declared.worker.Worker.{Worker}
use Rattle.mc_worker.proofs.Turning.{act_made, one_shift, ready_after, under_way_after}
use Rattle.mc_worker.proofs.worker.Worker.turn_act.Goals as goal

pub returns-clause-made : goal.returns-clause-made
returns-clause-made c =
    act_made c.args.self.now c.reserve_turn.new.self c.make_act.new.self c.args.event c.in-Ok.sent c.args.progress.now _ c.reserve_turn.ensures.work c.in-Ok.ensures.work c.requires.takes_nothing refl refl refl

pub returns-clause-under_way : goal.returns-clause-under_way
returns-clause-under_way c =
    let turn = returns-clause-made c in
    let kept = c.reserve_turn.ensures.kept in
    let same : box_shape c.make_act.new.self.part ≡ box_shape c.args.self.now.part = c.make_act.ensures.same ∙ ap (λ (w : Worker). box_shape w.part) kept in
    let inboxes : c.make_act.new.self.inboxes ≡ c.args.self.now.inboxes = c.make_act.ensures.ins.1 ∙ ap (λ (w : Worker). w.inboxes) kept in
    let slots : length c.reserve_turn.new.self.part.slots ≡ length c.args.self.now.part.slots = ap (λ (w : Worker). length w.part.slots) kept in
    let all : length c.slots.result.now ≡ length c.args.self.now.part.slots = ap length c.slots.ensures.slots in
    under_way_after c.args.self.now c.make_act.new.self turn.one c.args.progress.now _ c.requires.under_way c.requires.fewer turn.work turn.added
    (omega (arith, c.in-Ok.ensures.few, c.in-Ok.ensures.work.counted, slots, all, c.slots.ensures.few))
    (ready_after c.args.self.now c.make_act.new.self _ turn.work same c.make_act.ensures.shaped c.requires.under_way.ready
    (one_shift c.args.self.now c.make_act.new.self turn.one c.args.event turn.work turn.event_is c.requires.shift c.requires.under_way.ready.shifts))
    (λ some. subst (λ (boxes : List (List Tagged)). AreEmpty boxes) (sym inboxes) (c.requires.under_way.empty some))
