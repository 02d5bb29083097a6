use Rattle.std.proofs.Common.{◌∙◌, List, sym, subst}
use Rattle.std.specs.Vec.{with_items}
use Rattle.mc_part.specs.Phases.{EachOf, IsKnown}
use Rattle.mc_part.specs.declared.part_run.PartRun.{PartRun}
use Rattle.mc_divided.specs.Commanding.{HasNoneOwed}
use Rattle.mc_divided.proofs.BetweenSettles.{known_anew, known_as, looked_divided, looked_state, looked_vec, none_owed_by, read_new}
use Rattle.mc_divided.proofs.knowing.owes_retry.Goals as goal

pub look_over-requires : goal.look_over-requires
look_over-requires c = known_as c.args.network.now c.deref_mut.result.now c.requires c.deref_mut.ensures.value

pub any_owed-requires : goal.any_owed-requires
any_owed-requires c =
    subst (λ (l : List PartRun). EachOf IsKnown l)
    (sym (c.deref.ensures.value ∙ read_new c.args.network.now c.deref_mut.result.now c.look_over.new.runs c.deref_mut.ensures.value c.look_over.ensures))
    (known_anew c.deref_mut.result.now c.look_over.new.runs c.look_over.ensures)

pub returns-clause-divided : goal.returns-clause-divided
returns-clause-divided c =
    looked_divided c.args.network.now (with_items c.args.network.now.runs c.look_over.new.runs) c.requires
    (looked_vec c.args.network.now c.deref_mut.result.now c.look_over.new.runs c.deref_mut.ensures.value c.look_over.ensures)

pub returns-clause-same : goal.returns-clause-same
returns-clause-same c =
    looked_state c.args.network.now (with_items c.args.network.now.runs c.look_over.new.runs)
    (looked_vec c.args.network.now c.deref_mut.result.now c.look_over.new.runs c.deref_mut.ensures.value c.look_over.ensures)

pub returns-clause-none : goal.returns-clause-none
returns-clause-none c off =
    none_owed_by c.args.network.now c.deref_mut.result.now c.look_over.new.runs c.requires c.deref_mut.ensures.value
    c.look_over.ensures
    (subst (λ (l : List PartRun). EachOf HasNoneOwed l)
    (c.deref.ensures.value ∙ read_new c.args.network.now c.deref_mut.result.now c.look_over.new.runs c.deref_mut.ensures.value c.look_over.ensures)
    (c.any_owed.ensures off))
