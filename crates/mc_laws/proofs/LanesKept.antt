-- Lanes: what is under way to each slot after a front has left one lane and signals have gone to the end of another.
use Rattle.std.proofs.Common.{◌≡◌, ◌≢◌, ◌<◌, ◌+◌, ◌*◌, ◌/◌, ◌%◌, ◌==◌, if◌then◌else◌, ℕ, Bool, true, false, Some, None, List, [], ◌∷◌, ◌++◌, map, length, drop, refl, ap, sym, ◌∙◌, subst, arith}
use Rattle.std.proofs.Math.ListN.{get_or}
use Rattle.std.proofs.lemmas.Grind.{common_steps}
use Rattle.std.proofs.lemmas.List.{append-nil}
use Rattle.mc_signal.specs.declared.Signal.{Signal}
use Rattle.mc_signal.specs.declared.Tagged.{Tagged}
use Rattle.mc_model.specs.Worlds.{WorldState, far, for_tunnel, front_for, tunnel_of, all_tunnels, lane_of, no_tunnel, slot_count}
use Rattle.mc_laws.proofs.TunnelPlaces.{channel_in, places_apart, two_each}
use Rattle.mc_laws.proofs.Numbers.{by_half, far_half, half_in}

-- ---- lanes of a world

-- the tunnel of a slot is one of the world's
tunnel_in : (world : WorldState) (s : ℕ) → s < slot_count world → s / 2 < length (all_tunnels world)
tunnel_in world s below = half_in s (length (all_tunnels world)) (subst (λ (n : ℕ). s < n) (two_each world.channels 0) below)

lane_sum : (channel count side : ℕ) → channel < 0 + count → side < 2 → 2 * channel + side < 2 * count
lane_sum channel count side below low = omega arith

side_low : (s : ℕ) → s % 2 < 2
side_low s = omega arith

-- the lane that leads to a slot is one of the world's
pub lane_in : (world : WorldState) (s : ℕ) → s < slot_count world → lane_of world s < 2 * length world.channels
lane_in world s below =
    lane_sum (tunnel_of world s).channel (length world.channels) (s % 2) ((channel_in world.channels 0 (s / 2) (tunnel_in world s below)).1) (side_low s)

lane_parts : (c d p q : ℕ) → p < 2 → q < 2 → 2 * c + p ≡ 2 * d + q → (c ≡ d) × (p ≡ q)
lane_parts c d p q one two same = (omega arith, omega arith)

-- slots of one lane and of one number within its channel are the same
pub lane_apart : (world : WorldState) (s t : ℕ) → s < slot_count world → t < slot_count world → lane_of world s ≡ lane_of world t
    → (tunnel_of world s).within ≡ (tunnel_of world t).within → s ≡ t
lane_apart world s t one two lane within =
    let parts = lane_parts (tunnel_of world s).channel (tunnel_of world t).channel (s % 2) (t % 2) (side_low s) (side_low t) lane in
    by_half s t (places_apart world.channels 0 (s / 2) (t / 2) (tunnel_in world s one) (tunnel_in world t two) parts.0 within) parts.1

-- far slots share their tunnel
pub far_tunnel : (world : WorldState) (s : ℕ) → tunnel_of world (far s) ≡ tunnel_of world s
far_tunnel world s = ap (λ (t : ℕ). get_or (all_tunnels world) t no_tunnel) (far_half s)

-- ---- what a lane has for a tunnel

abbrev pub tagged_for : ℕ → Signal → Tagged
tagged_for tunnel signal = record { tunnel = tunnel; signal = signal }

for_next : (here : Bool) (signal : Signal) (first second : List Signal) → (if here then signal ∷ (first ++ second) else (first ++ second)) ≡ (if here then signal ∷ first else first) ++ second
for_next true signal first second = refl
for_next false signal first second = refl

for_by : (tunnel : ℕ) (tagged : Tagged) (first second : List Tagged) (more : List Signal) → for_tunnel tunnel (first ++ second) ≡ for_tunnel tunnel first ++ more
    → for_tunnel tunnel (tagged ∷ (first ++ second)) ≡ for_tunnel tunnel (tagged ∷ first) ++ more
for_by tunnel tagged first second more later = rw later (for_next (tagged.tunnel == tunnel) tagged.signal (for_tunnel tunnel first) more)

-- one lane after another
pub for_tunnel-append : (tunnel : ℕ) (first second : List Tagged) → for_tunnel tunnel (first ++ second) ≡ for_tunnel tunnel first ++ for_tunnel tunnel second
for_tunnel-append tunnel [] second = refl
for_tunnel-append tunnel (tagged ∷ first) second = for_by tunnel tagged first second (for_tunnel tunnel second) (for_tunnel-append tunnel first second)

for_cons : (tunnel : ℕ) (signal : Signal) (rest : List Tagged) → for_tunnel tunnel (tagged_for tunnel signal ∷ rest) ≡ signal ∷ for_tunnel tunnel rest
for_cons tunnel signal rest = grind (arith, common_steps)

for_skip : (tunnel : ℕ) (tagged : Tagged) (rest : List Tagged) → tagged.tunnel ≢ tunnel → for_tunnel tunnel (tagged ∷ rest) ≡ for_tunnel tunnel rest
for_skip tunnel tagged rest other = grind (arith, common_steps)

-- what is sent into a tunnel is for it
pub for_own : (tunnel : ℕ) (signals : List Signal) → for_tunnel tunnel (map (tagged_for tunnel) signals) ≡ signals
for_own tunnel [] = refl
for_own tunnel (signal ∷ signals) = for_cons tunnel signal (map (tagged_for tunnel) signals) ∙ ap (λ (l : List Signal). signal ∷ l) (for_own tunnel signals)

-- and not for another
pub for_another : (tunnel other : ℕ) (signals : List Signal) → other ≢ tunnel → for_tunnel tunnel (map (tagged_for other) signals) ≡ []
for_another tunnel other [] apart = refl
for_another tunnel other (signal ∷ signals) apart = for_skip tunnel (tagged_for other signal) (map (tagged_for other) signals) apart ∙ for_another tunnel other signals apart

-- the front that is for a tunnel is the next of what the lane has for it, and nothing to other tunnels
pub record Fronts (tunnel : ℕ) (signal : Signal) (lane : List Tagged) : Type 0 where
  pub next : for_tunnel tunnel lane ≡ signal ∷ for_tunnel tunnel (drop 1 lane)
  pub others : (other : ℕ) → other ≢ tunnel → for_tunnel other (drop 1 lane) ≡ for_tunnel other lane

front_here : (tunnel : ℕ) (signal : Signal) (tagged : Tagged) (rest : List Tagged) (here : Bool) → (tagged.tunnel == tunnel) ≡ here
    → (if here then Some tagged.signal else None) ≡ Some signal → (tagged.tunnel ≡ tunnel) × (tagged.signal ≡ signal)
front_here tunnel signal tagged rest here is fronts = grind (arith, common_steps)

pub front_next : (tunnel : ℕ) (signal : Signal) (lane : List Tagged) → front_for tunnel lane ≡ Some signal → Fronts tunnel signal lane
front_next tunnel signal [] fronts = absurd (cc)
front_next tunnel signal (tagged ∷ rest) fronts =
    let here = front_here tunnel signal tagged rest (tagged.tunnel == tunnel) refl fronts in
    record {
      next = grind (arith, common_steps);
      others = λ other apart. sym (for_skip other tagged rest (λ same. apart (sym same ∙ here.0)));
    }

-- ---- two lanes change

-- what the new second lane has for its tunnel, and for each other
pub sent_own : (tunnel : ℕ) (lane : List Tagged) (signals : List Signal) → for_tunnel tunnel (lane ++ map (tagged_for tunnel) signals) ≡ for_tunnel tunnel lane ++ signals
sent_own tunnel lane signals = for_tunnel-append tunnel lane (map (tagged_for tunnel) signals) ∙ ap (λ (l : List Signal). for_tunnel tunnel lane ++ l) (for_own tunnel signals)

pub sent_another : (tunnel other : ℕ) (lane : List Tagged) (signals : List Signal) → other ≢ tunnel → for_tunnel tunnel (lane ++ map (tagged_for other) signals) ≡ for_tunnel tunnel lane
sent_another tunnel other lane signals apart =
    for_tunnel-append tunnel lane (map (tagged_for other) signals)
    ∙ (ap (λ (l : List Signal). for_tunnel tunnel lane ++ l) (for_another tunnel other signals apart) ∙ append-nil (for_tunnel tunnel lane))
