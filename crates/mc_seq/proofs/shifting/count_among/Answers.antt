use Rattle.std.proofs.Common.{ap, ℕ, Vec, Global}
use Rattle.mc_seq.specs.Commands.{commands_left}
use Rattle.mc_seq.proofs.Counting.{recounted}
use Rattle.mc_seq.proofs.shifting.count_among.Goals as goal

pub recount-requires : goal.recount-requires
recount-requires c = record { kept = c.requires.kept.kept; there = c.requires.but.there; long = c.requires.but.others_long }

pub returns-clause-kept : goal.returns-clause-kept
returns-clause-kept c =
    recounted c.args.world.now (commands_left c.args.left.now) c.args.shifts.now c.recount.new.shifts c.args.turn c.count_shift-draw.new.spare.items c.requires.but c.count_shift-draw.ensures.spare
    (ap (λ (v : Vec ℕ Global). v.items) c.recount.ensures.spare) c.recount.ensures.others
