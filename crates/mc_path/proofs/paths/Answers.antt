use Rattle.std.proofs.Common.{Vec, Global, ap, sym, ◌∙◌, arith}
use Rattle.mc_view.specs.declared.PathView.{PathView}
use Rattle.mc_path_laws.proofs.Quiet.{quiet_paths}
use Rattle.mc_path.proofs.Reaching.{flags_reached}
use Rattle.mc_path.proofs.Shown.{shown_all, shown_next, shown_none}
use Rattle.mc_path.proofs.paths.Goals as goal
use Rattle.mc_path.proofs.paths.Goals.{in-Some+in_ok-push, in_default}

pub returns-in_err-reached-clause-quiet : goal.returns-in_err-reached-clause-quiet
returns-in_err-reached-clause-quiet g c = quiet_paths (g.N.Network.world c.args.network.now) c.keeps.ensures.sound

pub returns-in_err-push-clause-quiet : goal.returns-in_err-push-clause-quiet
returns-in_err-push-clause-quiet g c = quiet_paths (g.N.Network.world c.args.network.now) c.keeps.ensures.sound

pub loop-slot-preserved : goal.loop-slot-preserved
loop-slot-preserved g c = record {
  shown = elim c.match-next_path.branch [
    | in-Some+in_ok-push w ↦
        shown_next (g.N.Network.world c.args.network.now) c.loop-slot.slot c.loop-slot.views.items c.match-next_path.views.items w.in-Some.view (omega (arith, c.loop-slot-test.true, c.slot_count-slot-end.ensures))
        (sym c.next_path.ensures.path ∙ w.in-Some.is) (ap (λ (views : Vec PathView Global). views.items) w.views-is ∙ w.in_ok-push.ensures.items) c.loop-slot.invariant.shown
    | in_default w ↦
        shown_none (g.N.Network.world c.args.network.now) c.loop-slot.slot c.loop-slot.views.items c.match-next_path.views.items (omega (arith, c.loop-slot-test.true, c.slot_count-slot-end.ensures))
        (sym c.next_path.ensures.path ∙ w.in_default.is) (ap (λ (views : Vec PathView Global). views.items) w.views-is) c.loop-slot.invariant.shown
  ];
  reached = flags_reached (g.N.Network.world c.args.network.now) c.loop-slot.reached c.deref_mut.result.now c.next_path.new.reached c.deref_mut.ensures.value c.next_path.auto.reached c.next_path.ensures.reached;
}

pub returns-clause-views : goal.returns-clause-views
returns-clause-views g c = shown_all (g.N.Network.world c.args.network.now) c.loop-slot.slot c.loop-slot.views.items (omega (arith, c.loop-slot-test.false, c.slot_count-slot-end.ensures)) c.loop-slot.invariant.shown

pub returns-clause-quiet : goal.returns-clause-quiet
returns-clause-quiet g c = quiet_paths (g.N.Network.world c.args.network.now) c.keeps.ensures.sound
