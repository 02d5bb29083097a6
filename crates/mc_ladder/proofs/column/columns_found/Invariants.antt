use Rattle.std.proofs.Common.{◌≡◌, ◌++◌, drop, filter}
use Rattle.mc_ladder_choice.specs.Boxes.{is_among}
use Rattle.mc_ladder.proofs.column.columns_found.Given as goal

-- what is left makes the whole
abbrev pub invariant-loop-who : goal.invariant-loop-who
invariant-loop-who l = l.kept.items ++ filter (λ who. is_among l.boxes who) (drop l.who-index l.columns) ≡ filter (λ who. is_among l.boxes who) l.columns
