-- Rings: closed chains of tunnels and links, which come to no end.
use Rattle.std.specs.Prelude.{◌≡◌, ◌≢◌, ◌<◌, ◌↔◌, ℕ, List, IsTrue, Option, Some, None}
use Rattle.std.specs.List.{list_all}
use Rattle.mc_model.specs.Paths.{has_ring, other_end, slot_after}
use Rattle.mc_model.specs.Settles.{takes_or_retries}
use Rattle.mc_model.specs.Sound.{IsSound}
use Rattle.mc_model.specs.Steps.{run}
use Rattle.mc_model.specs.Worlds.{WorldState, far, slot_count}
use Rattle.mc_box.specs.declared.event.Turn.{Turn}

-- a slot stands on a ring: some tunnels and links lead back to it
pub record IsOnRing (world : WorldState) (s : ℕ) : Type 0 where
  pub count : ℕ
  pub some : 0 < count
  pub back : slot_after world count s ≡ Some s

-- no slot before this one stands on a ring
abbrev pub NoneBefore : WorldState → ℕ → Type 0
NoneBefore world s = (t : ℕ) → t < s → IsOnRing world t → ⊥

-- a slot that stands on a ring, where none before it does
pub record IsFirstOnRing (world : WorldState) (s : ℕ) : Type 0 where
  pub inside : s < slot_count world
  pub on : IsOnRing world s
  pub least : NoneBefore world s

-- this is the least slot on a ring, or none where there is no ring
abbrev pub IsLeastOnRing : WorldState → Option ℕ → Type 0
IsLeastOnRing world (Some s) = IsFirstOnRing world s
IsLeastOnRing world None = NoneBefore world (slot_count world)

-- a walk over as many tunnels as there are meets no end exactly where its slot stands on a ring, to which it comes back
abbrev pub RingsMeetNoEnd : Type 0
RingsMeetNoEnd =
    (world : WorldState) (s : ℕ) → IsSound world → s < slot_count world → (other_end world s ≡ None) ↔ IsOnRing world s

-- a walk goes over no tunnel both ways: of the slots from which it goes over a tunnel, none is the far slot of another
abbrev pub WalksNeverReturn : Type 0
WalksNeverReturn =
    (world : WorldState) (s count other t u : ℕ) → IsSound world → s < slot_count world
    → slot_after world count s ≡ Some t → slot_after world other s ≡ Some u → t ≢ far u

-- Takes and Retries change no link, so there is a ring after them where there was one before
abbrev pub RestKeepsRings : Type 0
RestKeepsRings =
    (world next : WorldState) (turns : List Turn) → IsSound world
    → IsTrue (list_all (λ turn. takes_or_retries turn.event) turns) → run world turns ≡ Some next
    → has_ring next ≡ has_ring world
