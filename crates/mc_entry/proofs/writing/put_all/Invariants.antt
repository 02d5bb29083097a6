use Rattle.std.proofs.Common.{◌≡◌, ◌++◌, ℕ, List, drop}
use Rattle.mc_entry.specs.Wire.{all_wire}
use Rattle.mc_entry.proofs.writing.put_all.Given as goal

-- what is left to write completes the whole
abbrev pub invariant-loop-i : goal.invariant-loop-i
invariant-loop-i l = (more : List ℕ) → l.out.items ++ all_wire (drop l.i l.sent.items) more ≡ l.initial.out.items ++ all_wire l.sent.items more
