use Rattle.std.proofs.Common.{◌≡◌, ◌<◌, ◌^◌, ◌++◌, ◌+◌, [], List, Some, Vec, Global, length, map, drop, slice_get, refl, sym, ◌∙◌, ap, subst, append_assoc, arith}
use Rattle.std.proofs.lemmas.Option.{slice_get_read}
use Rattle.mc_order.specs.Keys.{keys_from, keys_of}
use Rattle.mc_order.specs.declared.Key.{Key}
use Rattle.mc_team.proofs.ByPlace.{get_map}
use Rattle.mc_team.proofs.Gathered.{logs_step}
use Rattle.mc_team.proofs.Lists.{at_some}
use Rattle.mc_team.specs.Logs.{log_lists, log_stamps}
use Rattle.mc_worker.specs.declared.logged.Logged.{Logged}
use Rattle.mc_team.proofs.merging.gather.Goals as goal

pub add_keys-requires : goal.add_keys-requires
add_keys-requires c =
    let there = slice_get_read c.args.logs.now (length c.args.logs.now) c.loop-who.who c.index-logs-who.result refl (omega arith) c.index-logs-who.is in
    let own = at_some (λ (v : Vec Logged Global). v.items) c.args.logs.now c.loop-who.who c.index-logs-who.result [] there ∙ sym c.deref.ensures.value in
    subst (λ (l : List Logged). length l < 2 ^ 32) own (c.requires.short c.loop-who.who)

pub loop-who-preserved : goal.loop-who-preserved
loop-who-preserved c =
    let logs : List (List Logged) = log_lists c.args.logs.now in
    let rest : List Key = keys_from (c.loop-who.who + 1) (map log_stamps (drop (c.loop-who.who + 1) logs)) in
    let there = slice_get_read c.args.logs.now (length c.args.logs.now) c.loop-who.who c.index-logs-who.result refl (omega arith) c.index-logs-who.is in
    let own : slice_get logs c.loop-who.who ≡ Some c.deref.result.now = get_map (λ (v : Vec Logged Global). v.items) c.args.logs.now c.loop-who.who c.index-logs-who.result there ∙ ap (λ (l : List Logged). Some l) (sym c.deref.ensures.value) in
    ap (λ (l : List Key). l ++ rest) c.in_ok-add_keys.ensures
    ∙ (append_assoc c.loop-who.keys.items (keys_of c.loop-who.who 0 (log_stamps c.deref.result.now)) rest
    ∙ (ap (λ (l : List Key). c.loop-who.keys.items ++ l) (sym (logs_step c.loop-who.who logs c.deref.result.now own)) ∙ c.loop-who.invariant))
