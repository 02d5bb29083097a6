use Rattle.std.proofs.Common.{◌≡◌, drop, map}
use Rattle.mc_shard_c.specs.Laying.{owned_by, place_in}
use Rattle.mc_shard_c.proofs.boxes.own_ends.Given as goal

-- what is left makes the whole
abbrev pub invariant-loop-slot : goal.invariant-loop-slot
invariant-loop-slot l = owned_by l.who (map place_in (drop l.slot-index l.slots)) l.owners.items ≡ owned_by l.who (map place_in l.slots) l.initial.owners.items
