use Rattle.std.proofs.Common.{◌<◌, ℕ}
use Rattle.mc_box.specs.BoxSound.{RestsAt, box_state}
use Rattle.mc_box.specs.Boxes.{goal_at}
use Rattle.mc_box.proofs.parts.BoxParts.all_rest.Given as goal

-- the goals before are at rest
abbrev pub invariant-loop-local : goal.invariant-loop-local
invariant-loop-local l =
    (local : ℕ) → local < l.local → RestsAt (goal_at (box_state l.self) local) (box_state l.self) local
