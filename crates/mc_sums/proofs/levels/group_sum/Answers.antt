use Rattle.std.proofs.Common.{◌-◌, ◌*◌, ◌^◌}
use Rattle.mc_sums.specs.declared.levels.TheConstants.{FAN}
use Rattle.mc_sums.proofs.TreeBuilds.{part_small}
use Rattle.mc_sums.proofs.levels.group_sum.Goals as goal

pub sum_of-requires : goal.sum_of-requires
sum_of-requires c = part_small c.args.level.now (c.args.group * FAN) (c.min-end.result - c.args.group * FAN) (2 ^ 63) c.requires.fits
