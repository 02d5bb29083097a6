use Rattle.std.proofs.Common.{All, List, subst, sym}
use Rattle.mc_order.specs.declared.Key.{Key}
use Rattle.mc_team.proofs.Gathered.{are_entries, in_order}
use Rattle.mc_team.specs.Logs.{IsEntryOf, log_lists}
use Rattle.mc_team.proofs.merging.merge.Goals as goal

pub turns_of-requires : goal.turns_of-requires
turns_of-requires c =
    let ordered = in_order (log_lists c.args.logs.now) c.in_ok-keys.keys.items c.sort_keys.new.keys.items c.in_ok-keys.ensures c.sort_keys.ensures.permutation c.sort_keys.ensures.sorted in
    subst (λ (l : List Key). All (IsEntryOf (log_lists c.args.logs.now)) l) (sym c.deref.ensures.value) (are_entries (log_lists c.args.logs.now) c.sort_keys.new.keys.items ordered)
