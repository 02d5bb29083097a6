-- All slots of a path have one medium: tunnels have one, and links join slots of one.
use Rattle.std.proofs.Common.{◌≡◌, ◌<◌, ℕ, Some, List, All, length, ap, sym, ◌∙◌, subst, arith}
use Rattle.mc_signal.specs.declared.Medium.{Medium}
use Rattle.mc_model.specs.Paths.{both_sides, partner_of, path_from, slots_on, walk, whole_walk}
use Rattle.mc_model.specs.Sound.{IsSound}
use Rattle.mc_model.specs.Worlds.{TunnelPlace, WorldState, far, goal_of, tunnel_of, all_tunnels, places, slot_count, slot_of}
use Rattle.mc_laws.proofs.ActedWorlds.{far_inside}
use Rattle.mc_laws.proofs.LanesKept.{far_tunnel}
use Rattle.mc_laws.proofs.Numbers.{some_same}
use Rattle.mc_laws.proofs.Partners.{is_partner, linked_with}
use Rattle.mc_path_laws.specs.PathLaws.{PathsOfOneMedium}
use Rattle.mc_path_laws.proofs.Ends.{parts_of}
use Rattle.mc_path_laws.proofs.Quiet.{each_from}
use Rattle.mc_path_laws.proofs.Sides.{all_along}

-- these slots have a medium
abbrev AreOf : WorldState → Medium → List ℕ → Type 0
AreOf world medium slots = All (λ s. (slot_of world s).medium ≡ medium) slots

-- the two slots of a tunnel have its medium
far_medium : (world : WorldState) (s : ℕ) → IsSound world → s < slot_count world → (slot_of world (far s)).medium ≡ (slot_of world s).medium
far_medium world s sound inside =
    sound.numbered.media (far s) (far_inside world s inside) ∙ (ap (λ (tunnel : TunnelPlace). tunnel.medium) (far_tunnel world s) ∙ sym (sound.numbered.media s inside))

-- a slot of the world that has a medium
record IsOf (world : WorldState) (medium : Medium) (s : ℕ) : Type 0 where
  inside : s < slot_count world
  is : (slot_of world s).medium ≡ medium

-- so has the slot that it is linked with
partner_of_it : (world : WorldState) (s t : ℕ) (medium : Medium) → IsSound world → IsOf world medium s → partner_of world s ≡ Some t → IsOf world medium t
partner_of_it world s t medium sound has is =
    let link = linked_with world s t (goal_of world s) is in
    let there = is_partner world s link.0 t sound has.inside link.1 link.2 in
    record { inside = there.inside; is = there.medium ∙ has.is }

-- so have all slots that a walk from one goes over
walk_of : (most : ℕ) (world : WorldState) (s : ℕ) (medium : Medium) → IsSound world → IsOf world medium s → AreOf world medium (both_sides (walk world (Some s) most))
walk_of most world s medium sound has =
    all_along (IsOf world medium) (λ t. (slot_of world t).medium ≡ medium) world (λ t is. is.is)
    (λ t is. record { inside = far_inside world t is.inside; is = far_medium world t sound is.inside ∙ is.is })
    (λ t next is link. partner_of_it world t next medium sound is link) most (Some s)
    (λ t same. subst (IsOf world medium) (some_same s t same) has)

pub paths_of_one_medium : PathsOfOneMedium
paths_of_one_medium world sound =
    each_from (λ path. AreOf world (tunnel_of world path.low).medium (slots_on world path)) (path_from world) (places world) 0 (slot_count world) (omega arith)
    (λ s inside path is.
    let low : path.low ≡ s = (parts_of world s path is).low_is in
    subst (λ (n : ℕ). AreOf world (tunnel_of world n).medium (both_sides (whole_walk world n))) (sym low)
    (walk_of (length (all_tunnels world)) world s (tunnel_of world s).medium sound (record { inside = inside; is = sound.numbered.media s inside })))
