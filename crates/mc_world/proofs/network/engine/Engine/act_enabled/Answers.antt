use Rattle.std.proofs.Common.{◌<◌, length, subst, sym}
use Rattle.std.proofs.lemmas.Result.{err_from_is_err_and}
use Rattle.mc_model.specs.Worlds.{WorldState}
use Rattle.mc_world.proofs.Running.{Reads, act_can, acted, acted_runs, unmoved}
use Rattle.mc_world.proofs.network.engine.Engine.act_enabled.Goals as goal
use Rattle.mc_world.proofs.network.engine.Engine.act_enabled.Goals.{In_ok-act}

reads_err : (c : goal.After-from_residual) → Reads c.self.inside c.args.who c.index_mut-home.result.now c.deref_mut.result.now
reads_err c = record {
  here = subst (λ (w : WorldState). c.args.who < length w.boxes) (sym c.self.view_is) c.requires.here;
  home_is = c.index_mut-home.ensures.value;
  first_is = c.deref_mut.ensures.value;
}

reads_ok : (c : In_ok-act) → Reads c.self.inside c.args.who c.index_mut-home.result.now c.deref_mut.result.now
reads_ok c = record {
  here = subst (λ (w : WorldState). c.args.who < length w.boxes) (sym c.self.view_is) c.requires.here;
  home_is = c.index_mut-home.ensures.value;
  first_is = c.deref_mut.ensures.value;
}

pub returns-in_err-act : goal.returns-in_err-act
returns-in_err-act c =
    let p = err_from_is_err_and c.from_residual.result c.from_residual.ensures.1 in
    rw (p.1, p.2) (
      act_can c.self.inside c.args.self.now c.args.who c.args.event c.index_mut-home.result.now c.deref_mut.result.now c.self.view_is (reads_err c) c.keeps.ensures c.requires.other c.requires.enabled c.requires.goes_on,
      unmoved c.self.inside c.args.self.now c.args.who c.index_mut-home.result.now c.act.new.home c.deref_mut.result.now c.act.new.lanes c.act.new.waiting c.act.new.sends c.self.view_is (reads_err c)
          c.in_err-act.ensures.same.0 c.act.auto.lanes c.in_err-act.ensures.same.1,
    )

pub invariant_of-self-2 : goal.invariant_of-self-2
invariant_of-self-2 c =
    acted_runs c.self.inside c.args.who c.args.event c.index_mut-home.result.now c.act.new.home c.deref_mut.result.now c.act.new.lanes c.act.new.waiting c.act.new.sends c.self.invariant (reads_ok c)
    c.keeps.ensures c.act.auto.lanes c.in_ok-act.ensures.made c.act.ensures.waiting c.act.ensures.none

pub returns : goal.returns
returns c =
    acted c.self.inside c.args.self.now c.args.who c.args.event c.index_mut-home.result.now c.act.new.home c.deref_mut.result.now c.act.new.lanes c.act.new.waiting c.act.new.sends c.self.invariant c.self.view_is (reads_ok c)
    c.requires.other c.act.auto.lanes c.in_ok-act.ensures.made
