-- What is under way to a slot: what a lane has for one of its tunnels, signal by signal.
use Rattle.std.proofs.Common.{◌≡◌, ◌<◌, ◌≤◌, ◌+◌, ◌*◌, ◌%◌, ◌==◌, ◌++◌, ◌∙◌, ℕ, Bool, true, false, if◌then◌else◌, List, ◌∷◌, drop, length, flat_map, refl, ap, sym, append_assoc, append-nil}
use Rattle.std.proofs.Math.ListN.{get_or}
use Rattle.std.proofs.lemmas.List.{drop_all, drop_more}
use Rattle.mc_signal.specs.declared.Signal.{Signal}
use Rattle.mc_signal.specs.declared.Tagged.{Tagged}
use Rattle.mc_model.specs.Worlds.{for_tunnel}

-- what is told so far, and what is left of the lane, are all
abbrev pub IsTold : (f : Signal → List ℕ) (tunnel : ℕ) (lane : List Tagged) (start told : List ℕ) (i : ℕ) → Type 0
IsTold f tunnel lane start told i = told ++ flat_map f (for_tunnel tunnel (drop i lane)) ≡ start ++ flat_map f (for_tunnel tunnel lane)

-- ---- a signal more

for_tunnel_is : (tunnel : ℕ) (tagged : Tagged) (rest : List Tagged) (own : Bool) → (tagged.tunnel == tunnel) ≡ own
    → for_tunnel tunnel (tagged ∷ rest) ≡ (if own then tagged.signal ∷ for_tunnel tunnel rest else for_tunnel tunnel rest)
for_tunnel_is tunnel tagged rest own is = rw is refl

-- the front of what is left is for the tunnel
pub told_more : (f : Signal → List ℕ) (tunnel : ℕ) (lane : List Tagged) (start told next : List ℕ) (i : ℕ) (tagged : Tagged) → i < length lane
    → tagged ≡ get_or lane i tagged → (tagged.tunnel == tunnel) ≡ true → next ≡ told ++ f tagged.signal → IsTold f tunnel lane start told i
    → IsTold f tunnel lane start next (i + 1)
told_more f tunnel lane start told next i tagged below here own is so_far =
    let rest = for_tunnel tunnel (drop (i + 1) lane) in
    let left : for_tunnel tunnel (drop i lane) ≡ tagged.signal ∷ rest =
    ap (for_tunnel tunnel) (drop_more lane i tagged below ∙ ap (λ (t : Tagged). t ∷ drop (i + 1) lane) (sym here)) ∙ for_tunnel_is tunnel tagged (drop (i + 1) lane) true own in
    ap (λ (l : List ℕ). l ++ flat_map f rest) is
    ∙ (append_assoc told (f tagged.signal) (flat_map f rest) ∙ (ap (λ (signals : List Signal). told ++ flat_map f signals) (sym left) ∙ so_far))

-- it is for another tunnel
pub told_other : (f : Signal → List ℕ) (tunnel : ℕ) (lane : List Tagged) (start told : List ℕ) (i : ℕ) (tagged : Tagged) → i < length lane
    → tagged ≡ get_or lane i tagged → (tagged.tunnel == tunnel) ≡ false → IsTold f tunnel lane start told i → IsTold f tunnel lane start told (i + 1)
told_other f tunnel lane start told i tagged below here other so_far =
    let left : for_tunnel tunnel (drop i lane) ≡ for_tunnel tunnel (drop (i + 1) lane) =
    ap (for_tunnel tunnel) (drop_more lane i tagged below ∙ ap (λ (t : Tagged). t ∷ drop (i + 1) lane) (sym here)) ∙ for_tunnel_is tunnel tagged (drop (i + 1) lane) false other in
    ap (λ (signals : List Signal). told ++ flat_map f signals) (sym left) ∙ so_far

-- nothing is left
pub all_told : (f : Signal → List ℕ) (tunnel : ℕ) (lane : List Tagged) (start told : List ℕ) (i : ℕ) → length lane ≤ i → IsTold f tunnel lane start told i
    → told ≡ start ++ flat_map f (for_tunnel tunnel lane)
all_told f tunnel lane start told i past so_far =
    sym (append-nil told) ∙ (ap (λ (l : List Tagged). told ++ flat_map f (for_tunnel tunnel l)) (sym (drop_all i lane past)) ∙ so_far)

-- ---- the lane of a slot
