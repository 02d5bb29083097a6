use Rattle.std.proofs.Common.{◌≡◌, ◌++◌, ℕ, List, drop, take}
use Rattle.std.specs.List.{AllByRecursion}
use Rattle.mc_snapshot.specs.Forms.{each_wire}
use Rattle.mc_snapshot.proofs.lists.put_each.Given as goal

-- what is left to write completes the whole
abbrev pub invariant-loop-i : goal.invariant-loop-i
invariant-loop-i g l =
    let wire = g.T.Put.wire in
    record {
      fits : AllByRecursion g.T.Put.Fits (take l.i l.list);
      writes : (more : List ℕ) → l.out.items ++ each_wire wire (drop l.i l.list) more ≡ l.initial.out.items ++ each_wire wire l.list more;
    }
