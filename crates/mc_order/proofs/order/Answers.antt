use Rattle.std.proofs.Common.{◌≡◌, ℕ, ◌+◌, ◌<◌, ◌≤◌, List, [], ◌++◌, length, map, drop, get_or, sym, ◌∙◌, ap, append_assoc, add-one, drop-cons, arith, subst, Vec, Global}
use Rattle.std.proofs.lemmas.Grind.{common_steps}
use Rattle.std.specs.List.Sorted.{IsPermutation}
use Rattle.mc_order.specs.declared.Key.{Key}
use Rattle.mc_order.specs.Keys.{keys_of, keys_from}
use Rattle.mc_order.proofs.LaterStamps.{rises}
use Rattle.mc_order.proofs.Orders.{own_order}
use Rattle.mc_order.proofs.order.Goals as goal

-- one more log
one_more : (keys all : List Key) (logs : List (List ℕ)) (who : ℕ) (log : List ℕ) → who < length logs → get_or logs who [] ≡ log
    → keys ++ keys_from who (drop who logs) ≡ all → (keys ++ keys_of who 0 log) ++ keys_from (who + 1) (drop (who + 1) logs) ≡ all
one_more keys all logs who log inside is before =
    let next = rw (drop-cons logs who []) at before in
    append_assoc keys (keys_of who 0 log) (keys_from (who + 1) (drop (who + 1) logs)) ∙ rw (ap (λ n. drop n logs) (add-one who), ← is) next

pub loop-who-preserved : goal.loop-who-preserved
loop-who-preserved c =
    subst (λ (keys : List Key). keys ++ keys_from (c.loop-who.who + 1) (drop (c.loop-who.who + 1) (map (λ (log : Vec ℕ Global). log.items) c.args.logs.now)) ≡ keys_from 0 (map (λ (log : Vec ℕ Global). log.items) c.args.logs.now))
    (sym c.in_ok-add_log.ensures)
    (one_more c.loop-who.keys.items _ (map (λ (log : Vec ℕ Global). log.items) c.args.logs.now) c.loop-who.who c.index-logs-who.result.items (grind (arith, common_steps)) (grind (arith, common_steps)) c.loop-who.invariant)

pub returns-clause-rise : goal.returns-clause-rise
returns-clause-rise c = rises c.sort_keys.new.keys.items c.sort_keys.ensures.sorted

-- no log is left
no_more : (keys all : List Key) (logs : List (List ℕ)) (who : ℕ) → length logs ≤ who → keys ++ keys_from who (drop who logs) ≡ all → all ≡ keys
no_more keys all logs who past is = grind (arith, common_steps)

pub returns-clause-own : goal.returns-clause-own
returns-clause-own c =
    let logs : List (List ℕ) = map (λ (log : Vec ℕ Global). log.items) c.args.logs.now in
    let all : keys_from 0 (map (λ (log : Vec ℕ Global). log.items) c.args.logs.now) ≡ c.loop-who.keys.items =
    no_more c.loop-who.keys.items _ (map (λ (log : Vec ℕ Global). log.items) c.args.logs.now) c.loop-who.who (grind (arith, common_steps)) c.loop-who.invariant in
    own_order (map (λ (log : Vec ℕ Global). log.items) c.args.logs.now) c.sort_keys.new.keys.items
    (record { each_once = subst (λ (keys : List Key). IsPermutation keys c.sort_keys.new.keys.items) (sym all) c.sort_keys.ensures.permutation; sorted = c.sort_keys.ensures.sorted }) c.requires.rise
