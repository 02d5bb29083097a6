use Rattle.std.proofs.Common.{◌<◌, ℕ}
use Rattle.mc_box.specs.BoxSound.{box_state}
use Rattle.mc_box.specs.Loading.{IsWiredAt}
use Rattle.mc_box.proofs.parts.BoxParts.are_wired.Given as goal

-- the slots before are wired
abbrev pub invariant-loop-local : goal.invariant-loop-local
invariant-loop-local l = (local : ℕ) → local < l.local → IsWiredAt (box_state l.self) local
