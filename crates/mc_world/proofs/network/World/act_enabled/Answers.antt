use Rattle.std.proofs.Common.{◌≡◌, ◌<◌, Some, length, subst, sym}
use Rattle.std.proofs.lemmas.List.{length-set}
use Rattle.std.specs.Vec.{with_item, with_items}
use Rattle.std.proofs.lemmas.Result.{err_from_is_err_and}
use Rattle.mc_model.specs.Worlds.{WorldState}
use Rattle.mc_model.specs.Steps.{step_by}
use Rattle.mc_world.specs.Tables.{world_state}
use Rattle.mc_world.proofs.Running.{Reads, act_can, acted, acted_runs, as_engine, home_sound, read_laid, unmoved, unmoved_tables, world_runs}
use Rattle.mc_world.proofs.WorldSteps.{step_tables, still_remembered}
use Rattle.mc_world.proofs.network.World.act_enabled.Goals as goal

reads_err : (c : goal.After-from_residual) → Reads (as_engine c.self.inside) c.args.who c.index_mut-home.result.now c.deref_mut.result.now
reads_err c = record {
  here = subst (λ (w : WorldState). c.args.who < length w.boxes) (sym c.self.view_is) c.requires.here;
  home_is = c.index_mut-home.ensures.value;
  first_is = c.deref_mut.ensures.value;
}

reads_ok : (c : goal.After-self-3-1) → Reads (as_engine c.self.inside) c.args.who c.index_mut-home.result.now c.deref_mut.result.now
reads_ok c = record {
  here = subst (λ (w : WorldState). c.args.who < length w.boxes) (sym c.self.view_is) c.requires.here;
  home_is = c.index_mut-home.ensures.value;
  first_is = c.deref_mut.ensures.value;
}

pub act-requires-clause-laid : goal.act-requires-clause-laid
act-requires-clause-laid c = read_laid (as_engine c.self.inside) c.deref_mut.result.now (world_runs c.self.inside c.self.invariant) c.deref_mut.ensures.value

pub invariant_of-self : goal.invariant_of-self
invariant_of-self c =
    unmoved_tables c.self.inside c.args.who c.index_mut-home.result.now c.act.new.home c.deref_mut.result.now c.act.new.lanes c.act.new.waiting c.act.new.sends c.self.invariant (reads_err c)
    c.in_err-act.ensures.same.0 c.act.auto.lanes c.in_err-act.ensures.same.1 c.act.ensures.waiting c.act.ensures.none

pub returns-in_err-act : goal.returns-in_err-act
returns-in_err-act c =
    let p = err_from_is_err_and c.from_residual.result c.from_residual.ensures.1 in
    rw (p.1, p.2) (
      act_can (as_engine c.self.inside) c.args.self.now c.args.who c.args.event c.index_mut-home.result.now c.deref_mut.result.now c.self.view_is (reads_err c) (home_sound c.self.inside c.args.self.now c.args.who c.index_mut-home.result.now c.self.view_is c.requires.here c.requires.sound c.index_mut-home.ensures.value) c.requires.other c.requires.enabled c.requires.goes_on,
      unmoved (as_engine c.self.inside) c.args.self.now c.args.who c.index_mut-home.result.now c.act.new.home c.deref_mut.result.now c.act.new.lanes c.act.new.waiting c.act.new.sends c.self.view_is (reads_err c)
          c.in_err-act.ensures.same.0 c.act.auto.lanes c.in_err-act.ensures.same.1,
    )

-- the world that was left is the next one
stepped : (c : goal.After-self-3-1) → step_by c.args.self.now c.args.who c.args.event
    ≡ Some (world_state (record c.self.inside { boxes = with_item c.self.inside.boxes c.args.who c.act.new.home; lanes = with_items c.self.inside.lanes c.act.new.lanes; waiting = c.act.new.waiting; scratch = c.act.new.sends }))
stepped c =
    acted (as_engine c.self.inside) c.args.self.now c.args.who c.args.event c.index_mut-home.result.now c.act.new.home c.deref_mut.result.now c.act.new.lanes c.act.new.waiting c.act.new.sends (world_runs c.self.inside c.self.invariant) c.self.view_is (reads_ok c)
    c.requires.other c.act.auto.lanes c.in_ok-act.ensures.made

pub invariant_of-self-2 : goal.invariant_of-self-2
invariant_of-self-2 c =
    let runs = acted_runs (as_engine c.self.inside) c.args.who c.args.event c.index_mut-home.result.now c.act.new.home c.deref_mut.result.now c.act.new.lanes c.act.new.waiting c.act.new.sends (world_runs c.self.inside c.self.invariant) (reads_ok c)
    (home_sound c.self.inside c.args.self.now c.args.who c.index_mut-home.result.now c.self.view_is c.requires.here c.requires.sound c.index_mut-home.ensures.value) c.act.auto.lanes c.in_ok-act.ensures.made c.act.ensures.waiting c.act.ensures.none in
    step_tables c.self.inside c.args.self.now c.args.who c.args.event (with_item c.self.inside.boxes c.args.who c.act.new.home) (with_items c.self.inside.lanes c.act.new.lanes) c.act.new.waiting c.act.new.sends c.stays_ringless-self-inside.result
    c.self.invariant c.self.view_is c.requires.here (length-set c.self.inside.boxes.items c.args.who c.act.new.home) runs.waiting c.act.ensures.none
    (still_remembered c.self.inside.ringless c.stays_ringless-self-inside.result c.args.event c.stays_ringless-self-inside.ensures) (stepped c)

pub returns : goal.returns
returns c = stepped c
