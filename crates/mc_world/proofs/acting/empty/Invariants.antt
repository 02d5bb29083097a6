use Rattle.std.proofs.Common.{◌≡◌, ◌+◌, length}
use Rattle.mc_world.proofs.acting.empty.Given as goal

-- those that are left, and those taken so far, are all
abbrev pub invariant-loop-done : goal.invariant-loop-done
invariant-loop-done l = length l.queue.items + l._done ≡ length l.fn.queue.items
