use Rattle.std.proofs.Common.{slice_set, ◌∙◌, ap}
use Rattle.mc_team.proofs.Pushed.{list_replaced}
use Rattle.mc_team.specs.Layouts.{inner_lists}
use Rattle.mc_team.proofs.making.take_list.Goals as goal

pub returns-clause-left : goal.returns-clause-left
returns-clause-left g c =
    list_replaced c.args.lists.now.items c.args.who c.replace.new.dest ∙ ap (λ l. slice_set (inner_lists c.args.lists.now.items) c.args.who l) (ap (λ v. v.items) c.replace.ensures.after ∙ c.new.ensures.items)
