use Rattle.std.proofs.Common.{◌<◌, ℕ, Some, length, subst, sym}
use Rattle.std.proofs.lemmas.Result.{err_from_is_err_and}
use Rattle.mc_box.specs.declared.event.Event.TheVariants.{Take}
use Rattle.mc_model.specs.Worlds.{WorldState}
use Rattle.mc_world.specs.Lanes.{lane_by, signals_of, without_front}
use Rattle.mc_world.specs.Making.{MakesEvent}
use Rattle.mc_world.proofs.Running.{Reads, take_can, took, took_runs, unmoved, unmoved_runs}
use Rattle.mc_world.proofs.network.engine.Engine.take_front.Goals as goal
use Rattle.mc_world.proofs.network.engine.Engine.take_front.Goals.{In_ok-take_front}

reads_err : (c : goal.After-from_residual) → Reads c.self.inside c.args.who c.index_mut-home.result.now c.deref_mut.result.now
reads_err c = record {
  here = subst (λ (w : WorldState). c.args.who < length w.boxes) (sym c.self.view_is) c.requires.here;
  home_is = c.index_mut-home.ensures.value;
  first_is = c.deref_mut.ensures.value;
}

reads_ok : (c : In_ok-take_front) → Reads c.self.inside c.args.who c.index_mut-home.result.now c.deref_mut.result.now
reads_ok c = record {
  here = subst (λ (w : WorldState). c.args.who < length w.boxes) (sym c.self.view_is) c.requires.here;
  home_is = c.index_mut-home.ensures.value;
  first_is = c.deref_mut.ensures.value;
}

makes : (c : In_ok-take_front) → MakesEvent c.self.inside.topology c.args.who c.index_mut-home.result.now c.take_front.new.home (Take c.args.local) (Some c.args.signal)
    (without_front (signals_of c.deref_mut.result.now) (lane_by c.self.inside.topology c.args.slot)) (signals_of c.take_front.new.lanes)
makes c =
    subst (λ (own : ℕ × ℕ). MakesEvent c.self.inside.topology c.args.who c.index_mut-home.result.now c.take_front.new.home (Take own.0) (Some c.args.signal) (without_front (signals_of c.deref_mut.result.now) (lane_by c.self.inside.topology own.1)) (signals_of c.take_front.new.lanes))
    c.senders_of-senders.ensures.own c.in_ok-take_front.ensures.made

pub invariant_of-self : goal.invariant_of-self
invariant_of-self c =
    unmoved_runs c.self.inside c.args.who c.index_mut-home.result.now c.take_front.new.home c.deref_mut.result.now c.take_front.new.lanes c.take_front.new.waiting c.self.inside.scratch c.self.invariant (reads_err c)
    c.in_err-take_front.ensures.same.0 c.take_front.auto.lanes c.in_err-take_front.ensures.same.1 c.take_front.ensures.waiting c.self.invariant.scratch

pub returns-in_err-take_front : goal.returns-in_err-take_front
returns-in_err-take_front c =
    let p = err_from_is_err_and c.from_residual.result c.from_residual.ensures.1 in
    rw (p.1, p.2) (
      take_can c.self.inside c.args.self.now c.args.who c.args.local c.args.slot c.args.signal c.index_mut-home.result.now c.deref_mut.result.now c.self.invariant c.self.view_is (reads_err c) c.keeps.ensures
          c.requires.inside c.requires.lawful c.requires.number c.requires.front,
      unmoved c.self.inside c.args.self.now c.args.who c.index_mut-home.result.now c.take_front.new.home c.deref_mut.result.now c.take_front.new.lanes c.take_front.new.waiting c.self.inside.scratch c.self.view_is (reads_err c)
          c.in_err-take_front.ensures.same.0 c.take_front.auto.lanes c.in_err-take_front.ensures.same.1,
    )

pub invariant_of-self-2 : goal.invariant_of-self-2
invariant_of-self-2 c =
    took_runs c.self.inside c.args.who c.args.local c.args.slot c.args.signal c.index_mut-home.result.now c.take_front.new.home c.deref_mut.result.now c.take_front.new.lanes c.take_front.new.waiting c.self.invariant (reads_ok c)
    c.keeps.ensures c.take_front.auto.lanes (makes c) c.take_front.ensures.waiting

pub returns : goal.returns
returns c =
    took c.self.inside c.args.self.now c.args.who c.args.local c.args.slot c.args.signal c.index_mut-home.result.now c.take_front.new.home c.deref_mut.result.now c.take_front.new.lanes c.take_front.new.waiting c.self.invariant c.self.view_is (reads_ok c)
    c.requires.number c.requires.front c.take_front.auto.lanes (makes c)
