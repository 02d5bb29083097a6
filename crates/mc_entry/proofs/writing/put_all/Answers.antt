use Rattle.std.proofs.Common.{◌++◌, ◌+◌, ◌∙◌, List, drop, ap, sym}
use Rattle.mc_entry.specs.Wire.{all_wire}
use Rattle.mc_shard.specs.declared.entry.AtEnd.{AtEnd}
use Rattle.mc_entry.proofs.Rest.{drop_at}
use Rattle.mc_entry.proofs.writing.put_all.Goals as goal

pub loop-i-preserved : goal.loop-i-preserved
loop-i-preserved c more =
    c.in_ok-put_at.ensures (all_wire (drop (c.loop-i.i + 1) c.args.sent.now.items) more)
    ∙ (ap (λ (l : List AtEnd). c.loop-i.out.items ++ all_wire l more) (sym (drop_at c.args.sent.now.items c.loop-i.i c.get.result c.get.ensures)) ∙ c.loop-i.invariant more)
