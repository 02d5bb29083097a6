use Rattle.std.proofs.Common.{◌≡◌, ◌+◌}
use Rattle.mc_world.specs.Waiting.{flag_count}
use Rattle.mc_world.proofs.waiting.Waiting.kth.Given as goal

-- the flags of the slots so far and those that are still to be passed are k
abbrev pub invariant-loop-local : goal.invariant-loop-local
invariant-loop-local l = flag_count l.topology l.self.flags.items l.who l.local + l.rest ≡ l.k
