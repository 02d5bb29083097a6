-- One slot of a world acts: what is then of each slot, and under way to it.
use Rattle.std.proofs.Common.{◌≡◌, ◌<◌, ℕ, ap, sym, ◌∙◌, subst}
use Rattle.mc_model.specs.Sound.{IsNumbered}
use Rattle.mc_model.specs.Worlds.{WorldState, far, number, place, slot_count}
use Rattle.mc_laws.proofs.TunnelPlaces.{two_each}
use Rattle.mc_laws.proofs.Numbers.{some_same, far_in}

-- ---- numbers

-- the far slot of a world's slot is one of its slots
pub far_inside : (world : WorldState) (s : ℕ) → s < slot_count world → far s < slot_count world
far_inside world s inside =
    subst (λ (n : ℕ). far s < n) (sym (two_each world.channels 0)) (far_in s _ (subst (λ (n : ℕ). s < n) (two_each world.channels 0) inside))

-- slots of one place are the same
pub place_apart : (world : WorldState) (s t : ℕ) → IsNumbered world → s < slot_count world → t < slot_count world
    → (place world s).0 ≡ (place world t).0 → (place world s).1 ≡ (place world t).1 → s ≡ t
place_apart world s t numbered one two who local =
    let same : number world (place world s).0 (place world s).1 ≡ number world (place world t).0 (place world t).1 =
    ap (λ (w : ℕ). number world w (place world s).1) who ∙ ap (λ (l : ℕ). number world (place world t).0 l) local in
    some_same s t (sym (numbered.once s one) ∙ (same ∙ numbered.once t two))
