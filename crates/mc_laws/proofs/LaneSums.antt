-- What is under way to all slots is on the lanes, each signal once.
use Rattle.std.proofs.Common.{◌≡◌, ◌<◌, ◌≤◌, ◌+◌, ◌==◌, ◌&&◌, if◌then◌else◌, ℕ, Bool, true, false, List, [], ◌∷◌, length, refl, sym, ◌∙◌, subst, arith}
use Rattle.std.specs.List.{sum_by}
use Rattle.std.proofs.Math.ListN.{get_or}
use Rattle.std.proofs.lemmas.Grind.{common_steps}
use Rattle.std.proofs.lemmas.List.Sums.{sum_by-cons}
use Rattle.mc_slot_laws.specs.Sums.{total}
use Rattle.mc_slot_laws.proofs.Sums.{total_same}
use Rattle.mc_signal.specs.declared.Tagged.{Tagged}
use Rattle.mc_model.specs.Sound.{IsNumbered}
use Rattle.mc_model.specs.Worlds.{WorldState, for_tunnel, tunnel_of, lane_of, list_to, slot_count}
use Rattle.mc_laws.proofs.LanesKept.{lane_apart, lane_in}
use Rattle.mc_laws.proofs.Sums.{total_front, total_has, total_le, total_zero, total_once, total_plus, total_swap}

-- ---- one lane

-- what a lane has for a slot, where it is the slot's lane
abbrev on_lane : Bool → ℕ → List Tagged → ℕ
on_lane leads within lane = if leads then length (for_tunnel within lane) else 0

-- 1 where a signal is for a slot
abbrev mark : Bool → ℕ → Tagged → ℕ
mark leads within tagged = if leads && tagged.tunnel == within then 1 else 0

-- the next signal of a lane counts where it is for the slot
next_on_lane : (leads here : Bool) (within : ℕ) (tagged : Tagged) (lane : List Tagged) → (tagged.tunnel == within) ≡ here
    → on_lane leads within (tagged ∷ lane) ≡ mark leads within tagged + on_lane leads within lane
next_on_lane true true within tagged lane is = grind (arith, common_steps)
next_on_lane true false within tagged lane is = grind (arith, common_steps)
next_on_lane false here within tagged lane is = omega arith

-- an empty lane has nothing for any slot
none_on_lane : (leads : Bool) (within : ℕ) → on_lane leads within [] ≤ 0
none_on_lane true within = omega arith
none_on_lane false within = omega arith

-- a signal counts once at most for a slot
mark_most : (leads here : Bool) (within : ℕ) (tagged : Tagged) → (tagged.tunnel == within) ≡ here → mark leads within tagged ≤ 1
mark_most leads here within tagged is = grind (arith, common_steps)

-- a signal is for a slot whose lane and tunnel it has
marked : (lane j within : ℕ) (tagged : Tagged) → 1 ≤ mark (lane == j) within tagged → (lane ≡ j) × (within ≡ tagged.tunnel)
marked lane j within tagged some = (grind (arith, common_steps), grind (arith, common_steps))

-- slots that differ in lane or tunnel have together no more than is on a lane
lane_total : (lane_at within : ℕ → ℕ) (k j : ℕ) (lane : List Tagged) → ((s t : ℕ) → s < k → t < k → lane_at s ≡ lane_at t → within s ≡ within t → s ≡ t)
    → total (λ (s : ℕ). on_lane (lane_at s == j) (within s) lane) k ≤ length lane
lane_total lane_at within k j [] apart =
    omega (arith, total_le (λ (s : ℕ). on_lane (lane_at s == j) (within s) []) (λ (s : ℕ). 0) k (λ s below. none_on_lane (lane_at s == j) (within s)), total_zero k)
lane_total lane_at within k j (tagged ∷ lane) apart =
    let parts : total (λ (s : ℕ). on_lane (lane_at s == j) (within s) (tagged ∷ lane)) k ≡ total (λ (s : ℕ). mark (lane_at s == j) (within s) tagged + on_lane (lane_at s == j) (within s) lane) k =
    total_same (λ (s : ℕ). on_lane (lane_at s == j) (within s) (tagged ∷ lane)) (λ (s : ℕ). mark (lane_at s == j) (within s) tagged + on_lane (lane_at s == j) (within s) lane) k
    (λ s below. next_on_lane (lane_at s == j) (tagged.tunnel == within s) (within s) tagged lane refl) in
    let one : total (λ (s : ℕ). mark (lane_at s == j) (within s) tagged) k ≤ 1 =
    total_once (λ (s : ℕ). mark (lane_at s == j) (within s) tagged) k (λ s below. mark_most (lane_at s == j) (tagged.tunnel == within s) (within s) tagged refl)
    (λ s t first second here there.
    let p = marked (lane_at s) j (within s) tagged here in
    let q = marked (lane_at t) j (within t) tagged there in
    apart s t first second (p.0 ∙ sym q.0) (p.1 ∙ sym q.1)) in
    let rest : total (λ (s : ℕ). on_lane (lane_at s == j) (within s) lane) k ≤ length lane = lane_total lane_at within k j lane apart in
    omega (arith, parts, one, rest, total_plus (λ (s : ℕ). mark (lane_at s == j) (within s) tagged) (λ (s : ℕ). on_lane (lane_at s == j) (within s) lane) k)

-- ---- all lanes

-- a slot's own lane has the slot's list
on_own : (lane_at within : ℕ) (lane : List Tagged) → on_lane (lane_at == lane_at) within lane ≡ length (for_tunnel within lane)
on_own lane_at within lane = grind (arith, common_steps)

-- the lanes by their numbers, or as they stand
lengths_sum : (lanes : List (List Tagged)) → total (λ (j : ℕ). length (get_or lanes j [])) (length lanes) ≡ sum_by length lanes
lengths_sum [] = refl
lengths_sum (lane ∷ lanes) =
    let rest : total (λ (j : ℕ). length (get_or lanes j [])) (length lanes) ≡ sum_by length lanes = lengths_sum lanes in
    omega (arith, rest, total_front (λ (j : ℕ). length (get_or (lane ∷ lanes) j [])) (length lanes), sum_by-cons length lane lanes)

-- slots that differ in lane or tunnel have together no more than is on the lanes
lanes_total : (lane_at within : ℕ → ℕ) (k : ℕ) (lanes : List (List Tagged)) → ((s : ℕ) → s < k → lane_at s < length lanes)
    → ((s t : ℕ) → s < k → t < k → lane_at s ≡ lane_at t → within s ≡ within t → s ≡ t)
    → total (λ (s : ℕ). length (for_tunnel (within s) (get_or lanes (lane_at s) []))) k ≤ sum_by length lanes
lanes_total lane_at within k lanes inside apart =
    let spread : total (λ (s : ℕ). length (for_tunnel (within s) (get_or lanes (lane_at s) []))) k ≤ total (λ (s : ℕ). total (λ (j : ℕ). on_lane (lane_at s == j) (within s) (get_or lanes j [])) (length lanes)) k =
    total_le (λ (s : ℕ). length (for_tunnel (within s) (get_or lanes (lane_at s) []))) (λ (s : ℕ). total (λ (j : ℕ). on_lane (lane_at s == j) (within s) (get_or lanes j [])) (length lanes)) k
    (λ s below. subst (λ (n : ℕ). n ≤ total (λ (j : ℕ). on_lane (lane_at s == j) (within s) (get_or lanes j [])) (length lanes)) (on_own (lane_at s) (within s) (get_or lanes (lane_at s) []))
    (total_has (λ (j : ℕ). on_lane (lane_at s == j) (within s) (get_or lanes j [])) (length lanes) (lane_at s) (inside s below))) in
    let swapped = total_swap (λ (s j : ℕ). on_lane (lane_at s == j) (within s) (get_or lanes j [])) k (length lanes) in
    let each : total (λ (j : ℕ). total (λ (s : ℕ). on_lane (lane_at s == j) (within s) (get_or lanes j [])) k) (length lanes) ≤ total (λ (j : ℕ). length (get_or lanes j [])) (length lanes) =
    total_le (λ (j : ℕ). total (λ (s : ℕ). on_lane (lane_at s == j) (within s) (get_or lanes j [])) k) (λ (j : ℕ). length (get_or lanes j [])) (length lanes)
    (λ j below. lane_total lane_at within k j (get_or lanes j []) apart) in
    omega (arith, spread, swapped, each, lengths_sum lanes)

-- so the lists to all slots are no longer than the lanes
pub lists_most : (world : WorldState) → IsNumbered world → total (λ (s : ℕ). length (list_to world s)) (slot_count world) ≤ sum_by length world.lanes
lists_most world numbered =
    lanes_total (lane_of world) (λ (s : ℕ). (tunnel_of world s).within) (slot_count world) world.lanes
    (λ s below. subst (λ (n : ℕ). lane_of world s < n) (sym numbered.lanes) (lane_in world s below))
    (λ s t one two lane within. lane_apart world s t one two lane within)
