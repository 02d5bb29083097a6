use Rattle.std.proofs.Common.{◌≡◌, drop}
use Rattle.mc_part.specs.DividedParts.{inner_lists}
use Rattle.mc_part.proofs.Shares.{shares_so_far}
use Rattle.mc_part.proofs.sharing.share.Given as goal

-- the things so far, and those that are left
abbrev pub invariant-loop-thing : goal.invariant-loop-thing
invariant-loop-thing g l = record {
  shares : inner_lists l.shares.items ≡ shares_so_far l.fn.things.items l.assigned l.fn.count l.who;
  rest : l.thing-iterator.rest.items ≡ drop l.who l.fn.things.items;
}
