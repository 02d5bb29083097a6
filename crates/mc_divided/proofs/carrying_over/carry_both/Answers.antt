use Rattle.std.proofs.Common.{refl}
use Rattle.mc_divided.proofs.CarriedLanes.{can_back}
use Rattle.mc_divided.proofs.CarriedOver.{runs_both}
use Rattle.mc_divided.proofs.Lists.{on_ok}
use Rattle.mc_divided.proofs.carrying_over.carry_both.Goals as goal

pub carry-requires-2 : goal.carry-requires-2
carry-requires-2 c =
    let one = c.in_ok-carry.ensures.all in
    can_back c.args.from.now.part c.carry.new.from c.args.to.now.part c.carry.new.to c.args.from_port c.args.to_port one.old one.over c.requires.back

pub returns : goal.returns
returns c =
    on_ok c.carry-2.result
    (λ two. runs_both c.args.from.now _ c.args.to.now _ c.args.from_port c.args.to_port c.carry.new.from c.carry.new.to c.in_ok-carry.ensures.all two refl refl)
    c.carry-2.ensures.all
