use Rattle.std.proofs.Common.{◌<◌, ℕ}
use Rattle.mc_box.specs.Boxes.{goals_in}
use Rattle.mc_box.specs.Loading.{FitsGoals}
use Rattle.mc_box.proofs.loading.fit_goals.Given as goal

-- the states before have goals for these slots
abbrev pub invariant-loop-at : goal.invariant-loop-at
invariant-loop-at l = (at : ℕ) → at < l.at → FitsGoals l.slots (goals_in l.program at)
