use Rattle.std.proofs.Common.{◌≡◌, take}
use Rattle.mc_divided.proofs.whole.copy_of.Given as goal

-- the first ones
abbrev pub invariant-loop-place : goal.invariant-loop-place
invariant-loop-place l = l.copy.items ≡ take l.place l.signals.items
