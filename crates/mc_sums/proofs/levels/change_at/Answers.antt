use Rattle.mc_sums.proofs.TreePuts.{changed_is}
use Rattle.mc_sums.proofs.levels.change_at.Goals as goal

pub returns : goal.returns
returns c =
    changed_is (λ level. level.items) c.args.levels.now c.args.depth c.args.place c.args.less c.args.more c.index-levels-depth.result c.change_number.new.level c.requires.depth c.change_number.ensures
