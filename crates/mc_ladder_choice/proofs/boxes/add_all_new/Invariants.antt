use Rattle.std.proofs.Common.{◌≡◌, drop}
use Rattle.mc_ladder_choice.specs.Boxes.{with_all_new}
use Rattle.mc_ladder_choice.proofs.boxes.add_all_new.Given as goal

-- the boxes that are left make the whole
abbrev pub invariant-loop-who : goal.invariant-loop-who
invariant-loop-who l = with_all_new l.boxes.items (drop l.who-index l.others) ≡ with_all_new l.initial.boxes.items l.others
