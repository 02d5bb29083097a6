use Rattle.std.proofs.Common.{◌≡◌, ℕ, List, drop, length, take}
use Rattle.std.specs.List.{AllByRecursion}
use Rattle.mc_snapshot.specs.Forms.{each_wire}
use Rattle.mc_snapshot.proofs.lists.get_each.Given as goal

-- the values before were read
abbrev pub invariant-loop : goal.invariant-loop
invariant-loop g l =
    let wire = g.T.Get.wire in
    let Fits = g.T.Get.Fits in
    record {
      few : length l.found.items ≡ l.counter;
      fits : AllByRecursion Fits l.found.items;
      reads : (list : List _) (more : List ℕ) → length list ≡ l.fn.count → AllByRecursion Fits list → l.initial.bytes ≡ each_wire wire list more
          → (l.found.items ≡ take l.counter list) × (l.bytes ≡ each_wire wire (drop l.counter list) more);
    }
