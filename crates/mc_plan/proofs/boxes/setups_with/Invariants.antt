use Rattle.std.proofs.Common.{◌≡◌, ◌+◌, ◌++◌, drop, length, map}
use Rattle.mc_box.specs.Boxes.{set_up}
use Rattle.mc_plan.specs.Plans.{boxes_given}
use Rattle.mc_plan.specs.Setups.{lists_of}
use Rattle.mc_plan.proofs.boxes.setups_with.Given as goal

-- the boxes so far, and those of the lists that are left, are all
abbrev pub invariant-loop-slots : goal.invariant-loop-slots
invariant-loop-slots l = record {
  all : map set_up l.setups.items ++ boxes_given (length l.setups.items) (lists_of l.slots-iterator.rest.items) (drop (length l.setups.items) l.plans) ≡ boxes_given 0 (lists_of l.fn.lists.items) l.plans;
  each : length l.setups.items + length l.slots-iterator.rest.items ≡ length l.plans;
}
