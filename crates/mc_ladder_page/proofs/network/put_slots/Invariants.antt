use Rattle.std.proofs.Common.{◌≡◌, ◌++◌, flat_map}
use Rattle.std.specs.List.{range_with_len}
use Rattle.mc_ladder_page.specs.Data.{slot_entry}
use Rattle.mc_ladder_page.proofs.network.put_slots.Given as goal

-- the entries so far are appended
abbrev pub invariant-loop-slot : goal.invariant-loop-slot
invariant-loop-slot l = l.out.items ≡ l.initial.out.items ++ flat_map (slot_entry l.names l.world) (range_with_len 0 l.slot)
