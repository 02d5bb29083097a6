use Rattle.std.proofs.Common.{drop}
use Rattle.mc_shard_c.specs.Laying.{StillLays}
use Rattle.mc_shard_c.proofs.laying.laid_out.Given as goal

abbrev pub invariant-loop-who : goal.invariant-loop-who
invariant-loop-who l =
    StillLays l.plains l.all_slots l.all_states l.end_count (drop l.who l.plains) l.slots l.states l.who l.laying.boxes.items l.laying.places.items l.laying.owners.items
