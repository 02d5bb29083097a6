use Rattle.std.proofs.Common.{◌≡◌, ◌<◌, ℕ, Some, length, refl, subst, sym}
use Rattle.std.proofs.lemmas.List.{length-set}
use Rattle.std.specs.Vec.{with_item, with_items}
use Rattle.std.proofs.lemmas.Result.{err_from_is_err_and}
use Rattle.mc_box.specs.declared.event.Event.TheVariants.{Take}
use Rattle.mc_model.specs.Worlds.{WorldState}
use Rattle.mc_world.specs.Lanes.{lane_by, signals_of, without_front}
use Rattle.mc_world.specs.Making.{MakesEvent}
use Rattle.mc_model.specs.Steps.{step_by}
use Rattle.mc_world.specs.Tables.{world_state}
use Rattle.mc_world.proofs.Running.{Reads, as_engine, home_sound, read_laid, read_served, take_can, took, took_runs, unmoved, unmoved_tables, world_runs}
use Rattle.mc_world.proofs.WorldSteps.{step_tables}
use Rattle.mc_world.proofs.network.World.take_front.Goals as goal
use Rattle.mc_world.proofs.network.World.take_front.Goals.{In_ok-take_front}

reads_err : (c : goal.After-from_residual) → Reads (as_engine c.self.inside) c.args.who c.index_mut-home.result.now c.deref_mut.result.now
reads_err c = record {
  here = subst (λ (w : WorldState). c.args.who < length w.boxes) (sym c.self.view_is) c.requires.here;
  home_is = c.index_mut-home.ensures.value;
  first_is = c.deref_mut.ensures.value;
}

reads_ok : (c : In_ok-take_front) → Reads (as_engine c.self.inside) c.args.who c.index_mut-home.result.now c.deref_mut.result.now
reads_ok c = record {
  here = subst (λ (w : WorldState). c.args.who < length w.boxes) (sym c.self.view_is) c.requires.here;
  home_is = c.index_mut-home.ensures.value;
  first_is = c.deref_mut.ensures.value;
}

makes : (c : In_ok-take_front) → MakesEvent c.self.inside.topology c.args.who c.index_mut-home.result.now c.take_front.new.home (Take c.args.local) (Some c.args.signal)
    (without_front (signals_of c.deref_mut.result.now) (lane_by c.self.inside.topology c.args.slot)) (signals_of c.take_front.new.lanes)
makes c =
    subst (λ (own : ℕ × ℕ). MakesEvent c.self.inside.topology c.args.who c.index_mut-home.result.now c.take_front.new.home (Take own.0) (Some c.args.signal) (without_front (signals_of c.deref_mut.result.now) (lane_by c.self.inside.topology own.1)) (signals_of c.take_front.new.lanes))
    c.senders_of-senders.ensures.own c.in_ok-take_front.ensures.made

pub take_front-requires-clause-laid : goal.take_front-requires-clause-laid
take_front-requires-clause-laid c = read_laid (as_engine c.self.inside) c.deref_mut.result.now (world_runs c.self.inside c.self.invariant) c.deref_mut.ensures.value

pub take_front-requires-clause-served : goal.take_front-requires-clause-served
take_front-requires-clause-served c = read_served (as_engine c.self.inside) c.deref_mut.result.now c.senders_of-senders.result.own.1 (world_runs c.self.inside c.self.invariant) c.deref_mut.ensures.value

pub invariant_of-self : goal.invariant_of-self
invariant_of-self c =
    unmoved_tables c.self.inside c.args.who c.index_mut-home.result.now c.take_front.new.home c.deref_mut.result.now c.take_front.new.lanes c.take_front.new.waiting c.self.inside.scratch c.self.invariant (reads_err c)
    c.in_err-take_front.ensures.same.0 c.take_front.auto.lanes c.in_err-take_front.ensures.same.1 c.take_front.ensures.waiting c.self.invariant.scratch

pub returns-in_err-take_front : goal.returns-in_err-take_front
returns-in_err-take_front c =
    let p = err_from_is_err_and c.from_residual.result c.from_residual.ensures.1 in
    rw (p.1, p.2) (
      take_can (as_engine c.self.inside) c.args.self.now c.args.who c.args.local c.args.slot c.args.signal c.index_mut-home.result.now c.deref_mut.result.now (world_runs c.self.inside c.self.invariant) c.self.view_is (reads_err c) (home_sound c.self.inside c.args.self.now c.args.who c.index_mut-home.result.now c.self.view_is c.requires.here c.requires.sound c.index_mut-home.ensures.value)
          c.requires.inside c.requires.lawful c.requires.number c.requires.front,
      unmoved (as_engine c.self.inside) c.args.self.now c.args.who c.index_mut-home.result.now c.take_front.new.home c.deref_mut.result.now c.take_front.new.lanes c.take_front.new.waiting c.self.inside.scratch c.self.view_is (reads_err c)
          c.in_err-take_front.ensures.same.0 c.take_front.auto.lanes c.in_err-take_front.ensures.same.1,
    )

-- the world that was left is the next one
stepped : (c : In_ok-take_front) → step_by c.args.self.now c.args.who (Take c.args.local)
    ≡ Some (world_state (record c.self.inside { boxes = with_item c.self.inside.boxes c.args.who c.take_front.new.home; lanes = with_items c.self.inside.lanes c.take_front.new.lanes; waiting = c.take_front.new.waiting }))
stepped c =
    took (as_engine c.self.inside) c.args.self.now c.args.who c.args.local c.args.slot c.args.signal c.index_mut-home.result.now c.take_front.new.home c.deref_mut.result.now c.take_front.new.lanes c.take_front.new.waiting (world_runs c.self.inside c.self.invariant) c.self.view_is (reads_ok c)
    c.requires.number c.requires.front c.take_front.auto.lanes (makes c)

pub invariant_of-self-2 : goal.invariant_of-self-2
invariant_of-self-2 c =
    let runs = took_runs (as_engine c.self.inside) c.args.who c.args.local c.args.slot c.args.signal c.index_mut-home.result.now c.take_front.new.home c.deref_mut.result.now c.take_front.new.lanes c.take_front.new.waiting (world_runs c.self.inside c.self.invariant) (reads_ok c)
    (home_sound c.self.inside c.args.self.now c.args.who c.index_mut-home.result.now c.self.view_is c.requires.here c.requires.sound c.index_mut-home.ensures.value) c.take_front.auto.lanes (makes c) c.take_front.ensures.waiting in
    step_tables c.self.inside c.args.self.now c.args.who (Take c.args.local) (with_item c.self.inside.boxes c.args.who c.take_front.new.home) (with_items c.self.inside.lanes c.take_front.new.lanes) c.take_front.new.waiting c.self.inside.scratch c.self.inside.ringless
    c.self.invariant c.self.view_is c.requires.here (length-set c.self.inside.boxes.items c.args.who c.take_front.new.home) runs.waiting c.self.invariant.scratch (λ remembered. (remembered, refl)) (stepped c)

pub returns : goal.returns
returns c = stepped c
