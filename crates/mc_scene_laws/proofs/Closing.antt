-- Why no chain of tunnels and named links is closed.
use Rattle.std.proofs.Common.{◌≡◌, ◌<◌, ℕ, zero, suc, Bool, true, List, ◌∙◌, subst, arith}
use Rattle.std.proofs.lemmas.List.Sums.{AllPass-from_list_all}
use Rattle.std.specs.List.{All, list_all}
use Rattle.mc_box.specs.declared.event.Turn.{Turn}
use Rattle.mc_model.specs.Worlds.{WorldState, far, place}
use Rattle.mc_laws.specs.Chains.{ClosesNoChain, IsAmong, Joins, NamesLink}
use Rattle.mc_laws.proofs.Chains.{Leads, no_way_closes}
use Rattle.mc_laws.proofs.Numbers.{number_is}

-- what holds of each turn of each batch holds of one that is among them
pub among_has : (P : Turn → Type 0) (batches : List (List Turn)) (turn : Turn) → All (λ batch. All P batch) batches → IsAmong batches turn → P turn
among_has P batches turn all among =
    let these : All P among.1 = subst (λ (batch : List Turn). All P batch) among.3 (all among.0 among.1 among.2) in
    subst P among.4.2 (these among.4.0 turn among.4.1)

-- a test that each turn of each batch passes
pub all_pass : (p : Turn → Bool) (batches : List (List Turn)) → list_all (λ batch. list_all p batch) batches ≡ true → All (λ batch. All (λ turn. p turn ≡ true) batch) batches
all_pass p batches pass k d within = AllPass-from_list_all p _ (AllPass-from_list_all (λ batch. list_all p batch) batches pass k d within)

-- ---- all links of one box

module _ (world : WorldState) (batches : List (List Turn)) (hub : ℕ) (at_hub : (who first second : ℕ) → NamesLink world batches who first second → who ≡ hub) where
  near_hub : (s u : ℕ) → Joins world batches (far s) u → (place world (far s)).0 ≡ hub
  near_hub s u joins = (number_is world joins.who joins.first (far s) joins.near).1 ∙ at_hub joins.who joins.first joins.second joins.named

  beyond_hub : (s u : ℕ) → Joins world batches (far s) u → (place world u).0 ≡ hub
  beyond_hub s u joins = (number_is world joins.who joins.second u joins.beyond).1 ∙ at_hub joins.who joins.first joins.second joins.named

  module _ (apart : (s : ℕ) → (place world s).0 ≡ hub → (place world (far s)).0 ≡ hub → ⊥) where
    behind_one : (s u count : ℕ) → Joins world batches (far s) u → Leads world batches count u s → ⊥
    behind_one s u zero joins same = apart s (subst (λ (n : ℕ). (place world n).0 ≡ hub) same (beyond_hub s u joins)) (near_hub s u joins)
    behind_one s u (suc count) joins (v, next, others) = apart u (beyond_hub s u joins) (near_hub u v next)

    -- where all named links are of one box, and no tunnel joins the box with itself, a chain has one link at most
    pub one_box : ClosesNoChain world batches
    one_box = no_way_closes world batches leads_back
      where
        leads_back : (s count : ℕ) → 0 < count → Leads world batches count s s → ⊥
        leads_back s zero some leads = absurd (omega arith)
        leads_back s (suc count) some (u, joins, others) = behind_one s u count joins others
