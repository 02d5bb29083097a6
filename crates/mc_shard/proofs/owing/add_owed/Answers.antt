use Rattle.std.proofs.Common.{List, ◌++◌, ap, sym, ◌∙◌}
use Rattle.mc_shard.specs.Owing.{owed_if}
use Rattle.mc_shard.specs.declared.owing.BoxSlot.{BoxSlot}
use Rattle.mc_shard.proofs.Owed.{each_more}
use Rattle.mc_shard.proofs.owing.add_owed.Goals as goal

pub loop-slot-preserved : goal.loop-slot-preserved
loop-slot-preserved c =
    c.in_ok-add_if_owed.ensures
    ∙ (ap (λ (l : List BoxSlot). l ++ owed_if c.args.who c.args.one.now c.loop-slot.slot) c.loop-slot.invariant
    ∙ sym (each_more (owed_if c.args.who c.args.one.now) c.args.owed.now.items c.loop-slot.slot))
