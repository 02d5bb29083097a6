use Rattle.std.proofs.Common.{[], ◌∷◌, refl}
use Rattle.mc_divided.proofs.CommandAdded.{adds_err, adds_ok}
use Rattle.mc_divided.proofs.commands.add_at.Goals as goal

pub returns-clause-added : goal.returns-clause-added
returns-clause-added c =
    adds_ok c.add_to.result c.args.runs.now.items c.args.part c.index_mut.result.now
    (record c.index_mut.result.now { part = c.add_to.new.part }) (c.args.turn ∷ []) c.requires.there
    c.index_mut.ensures.value refl c.add_to.ensures.added

pub returns-clause-kept : goal.returns-clause-kept
returns-clause-kept c =
    adds_err c.add_to.result c.args.runs.now.items c.args.part c.index_mut.result.now
    (record c.index_mut.result.now { part = c.add_to.new.part }) [] c.requires.there
    c.index_mut.ensures.value refl c.add_to.ensures.kept
