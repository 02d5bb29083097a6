use Rattle.std.proofs.Common.{◌≡◌, ◌++◌, map}
use Rattle.mc_box.specs.Boxes.{set_up}
use Rattle.mc_model.specs.Sound.{AreNew}
use Rattle.mc_plan.proofs.boxes.boxes_of.Given as goal

-- the boxes so far, and those that are left to make
abbrev pub invariant-loop-setup : goal.invariant-loop-setup
invariant-loop-setup l = record {
  all : l.boxes.items ++ map set_up l.setup-iterator.rest.items ≡ map set_up l.fn.setups.items;
  fresh : AreNew (map set_up l.setup-iterator.rest.items);
}
