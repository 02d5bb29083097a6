-- The entries of all logs, box by box.
use Rattle.std.proofs.Common.{◌≡◌, ℕ, zero, suc, ◌+◌, ◌<◌, ◌≤◌, ◌++◌, All, List, [], ◌∷◌, Some, drop, length, map, slice_get, slice_index_or, refl, sym, ◌∙◌, ap, subst, arith, append_assoc}
use Rattle.std.proofs.lemmas.Grind.{common_steps}
use Rattle.std.proofs.lemmas.List.{append-nil, get_or-map, length-map}
use Rattle.std.proofs.lemmas.List.Elements.{All-from_recursion}
use Rattle.std.specs.List.{AllByRecursion}
use Rattle.std.specs.List.Sorted.{IsPermutation, IsSorted}
use Rattle.mc_order.proofs.Orders.{Names, all_named}
use Rattle.mc_order.specs.Keys.{IsOrdered, key_cmp, keys_from, keys_of}
use Rattle.mc_order.specs.declared.Key.{Key}
use Rattle.mc_team.specs.Logs.{IsEntryOf, log_stamps}
use Rattle.mc_worker.specs.declared.logged.Logged.{Logged}

-- ---- entry by entry

drop_all : {X : Type 0} (n : ℕ) (xs : List X) → length xs ≤ n → drop n xs ≡ []
drop_all n xs long = grind (arith, common_steps)

drop_at : (log : List Logged) (i : ℕ) (x : Logged) → slice_get log i ≡ Some x → drop i (log_stamps log) ≡ x.stamp ∷ drop (i + 1) (log_stamps log)
drop_at [] i x e = cc
drop_at (y ∷ ys) zero x e = let is : y ≡ x = cc in ap (λ (l : Logged). l.stamp ∷ log_stamps ys) is
drop_at (y ∷ ys) (suc i) x e = let more : suc i + 1 ≡ suc (i + 1) = omega arith in rw more (drop_at ys i x e)

pub keys_step : (who i : ℕ) (log : List Logged) (x : Logged) → slice_get log i ≡ Some x → keys_of who i (drop i (log_stamps log)) ≡ record { stamp = x.stamp; who = who; index = i } ∷ keys_of who (i + 1) (drop (i + 1) (log_stamps log))
keys_step who i log x at = rw (drop_at log i x at) refl

-- one entry more
pub keys_more : (who i : ℕ) (log : List Logged) (x : Logged) (now new first : List Key) (key : Key) → slice_get log i ≡ Some x → key ≡ record { stamp = x.stamp; who = who; index = i } → new ≡ now ++ key ∷ [] → now ++ keys_of who i (drop i (log_stamps log)) ≡ first
    → new ++ keys_of who (i + 1) (drop (i + 1) (log_stamps log)) ≡ first
keys_more who i log x now new first key at is pushed so_far =
    let rest : List Key = keys_of who (i + 1) (drop (i + 1) (log_stamps log)) in
    ap (λ (l : List Key). l ++ rest) (pushed ∙ ap (λ (k : Key). now ++ k ∷ []) is)
    ∙ (append_assoc now (record { stamp = x.stamp; who = who; index = i } ∷ []) rest ∙ (ap (λ (l : List Key). now ++ l) (sym (keys_step who i log x at)) ∙ so_far))

-- ---- log by log

-- what is still to come of a list of logs, one log less
pub logs_step : (who : ℕ) (logs : List (List Logged)) (log : List Logged) → slice_get logs who ≡ Some log → keys_from who (map log_stamps (drop who logs)) ≡ keys_of who 0 (log_stamps log) ++ keys_from (who + 1) (map log_stamps (drop (who + 1) logs))
logs_step who logs log at = ap (λ (l : List (List Logged)). keys_from who (map log_stamps l)) (rest_at who logs log at)
  where
    rest_at : (who : ℕ) (logs : List (List Logged)) (log : List Logged) → slice_get logs who ≡ Some log → drop who logs ≡ log ∷ drop (who + 1) logs
    rest_at who [] log at = cc
    rest_at zero (one ∷ logs) log at = let is : one ≡ log = cc in ap (λ (l : List Logged). l ∷ logs) is
    rest_at (suc who) (one ∷ logs) log at = let more : suc who + 1 ≡ suc (who + 1) = omega arith in rw more (rest_at who logs log at)

-- ---- all entries

-- a key that names an entry of the stamps names one of the logs
pub named_entry : (logs : List (List Logged)) (key : Key) → Names (map log_stamps logs) key → IsEntryOf logs key
named_entry logs key named =
    let long = length-map logs log_stamps in
    let there : key.who < length logs = omega (arith, named.who, long) in
    let low : key.index < length (log_stamps (slice_index_or logs key.who [])) = subst (λ (l : List ℕ). key.index < length l) (get_or-map log_stamps logs key.who [] [] there) named.index in
    let same = length-map (slice_index_or logs key.who []) (λ (logged : Logged). logged.stamp) in
    record { there = there; entry = omega (arith, low, same) }

named_all : (logs : List (List Logged)) (keys : List Key) → AllByRecursion (Names (map log_stamps logs)) keys → AllByRecursion (IsEntryOf logs) keys
named_all logs [] named = tt
named_all logs (key ∷ keys) named = (named_entry logs key named.0, named_all logs keys named.1)

-- so sorted entries are in order, and each of them is an entry
pub in_order : (logs : List (List Logged)) (old new : List Key) → old ≡ keys_from 0 (map log_stamps logs) → IsPermutation old new → IsSorted key_cmp new → IsOrdered (map log_stamps logs) new
in_order logs old new are same sorted = record { each_once = subst (λ (l : List Key). IsPermutation l new) are same; sorted = sorted }

pub are_entries : (logs : List (List Logged)) (keys : List Key) → IsOrdered (map log_stamps logs) keys → All (IsEntryOf logs) keys
are_entries logs keys ordered = All-from_recursion (IsEntryOf logs) keys (named_all logs keys (all_named (map log_stamps logs) keys ordered))
