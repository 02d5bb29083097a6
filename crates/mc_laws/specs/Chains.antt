-- Rings only from named links: which links programs and commands name, and that a ring is a closed chain of tunnels and
-- of these.
use Rattle.std.specs.Prelude.{◌≡◌, ◌≢◌, ◌<◌, ◌⊎◌, ℕ, suc, true, false, List, All, Any, Contains, slice_index_or, Some}
use Rattle.mc_slot.specs.declared.Goal.TheVariants.{Close as ToClose}
use Rattle.mc_slot.specs.declared.SlotGoal.TheVariants.{End, Link}
use Rattle.mc_box.specs.BoxEvents.{is_command, turn_of}
use Rattle.mc_box.specs.Boxes.{BoxState, goal_at, goals_in, states_of}
use Rattle.mc_box.specs.declared.event.Change.TheVariants.{Link as NewLink}
use Rattle.mc_box.specs.declared.event.Event.TheVariants.{Set}
use Rattle.mc_box.specs.declared.event.Turn.{Turn}
use Rattle.mc_model.specs.Paths.{has_ring}
use Rattle.mc_model.specs.Rings.{IsFirstOnRing, IsOnRing}
use Rattle.mc_model.specs.Shapes.{HasShape}
use Rattle.mc_model.specs.Sound.{IsSound}
use Rattle.mc_model.specs.Steps.{run, step}
use Rattle.mc_model.specs.Worlds.{WorldState, box_at, far, number, slot_count}

-- ---- commands of batches

-- the turn is one of some batch
abbrev pub IsAmong : List (List Turn) → Turn → Type 0
IsAmong batches turn = Any (λ batch. Contains batch turn) batches

-- the turn, if it is a command, is one of some batch
abbrev pub ComesFrom : List (List Turn) → Turn → Type 0
ComesFrom batches turn = is_command turn.event ≡ true → IsAmong batches turn

-- and so is each of these turns
abbrev pub ComeFrom : List (List Turn) → List Turn → Type 0
ComeFrom batches turns = All (ComesFrom batches) turns

-- ---- named links

-- some state of a box's program links the first slot with the second
abbrev pub StateLinks : BoxState → (first second : ℕ) → Type 0
StateLinks box first second =
    (at : ℕ) × (slice_index_or (goals_in (states_of box.program) at) first (End ToClose) ≡ Link second)

-- some command of a batch links the two slots of a box, either way round
abbrev pub CommandLinks : List (List Turn) → (who first second : ℕ) → Type 0
CommandLinks batches who first second =
    IsAmong batches (turn_of who (Set (NewLink first second)))
    ⊎ IsAmong batches (turn_of who (Set (NewLink second first)))

-- the first slot of a box is linked with the second in the world itself, or some state of the box's program or some
-- command of a batch links them
abbrev pub NamesLink : WorldState → List (List Turn) → (who first second : ℕ) → Type 0
NamesLink world batches who first second =
    (goal_at (box_at world who) first ≡ Link second)
    ⊎ (StateLinks (box_at world who) first second ⊎ CommandLinks batches who first second)

-- the links of a later world, of the same boxes and tunnels, are named ones
pub record LinksAreNamed (world : WorldState) (batches : List (List Turn)) (now : WorldState) : Type 0 where
  pub shape : HasShape now world
  pub named : (who first second : ℕ) → goal_at (box_at now who) first ≡ Link second
      → NamesLink world batches who first second

-- ---- chains of tunnels and named links

-- two slots, by their numbers, are of one box, and the link of the first with the second is named
pub record Joins (world : WorldState) (batches : List (List Turn)) (s t : ℕ) : Type 0 where
  pub who : ℕ
  pub first : ℕ
  pub second : ℕ
  pub near : number world who first ≡ Some s
  pub beyond : number world who second ≡ Some t
  pub named : NamesLink world batches who first second

-- two slots are of different tunnels
abbrev pub AreOfTwoTunnels : (s t : ℕ) → Type 0
AreOfTwoTunnels s t = (s ≢ t) × (s ≢ far t)

-- The slots `at 0` up to `at (count - 1)` make a closed chain: from each of them its tunnel and then a named link lead
-- to the next one, and from the last to the first. No tunnel is in the chain twice, whichever way
pub record ClosesChain (world : WorldState) (batches : List (List Turn)) (at : ℕ → ℕ) (count : ℕ) : Type 0 where
  pub some : 0 < count
  pub joins : (k : ℕ) → k < count → Joins world batches (far (at k)) (at (suc k))
  pub back : at count ≡ at 0
  pub once : (j k : ℕ) → j < k → k < count → AreOfTwoTunnels (at j) (at k)

-- no tunnels and named links make one
abbrev pub ClosesNoChain : WorldState → List (List Turn) → Type 0
ClosesNoChain world batches = (at : ℕ → ℕ) (count : ℕ) → ClosesChain world batches at count → ⊥

-- ---- laws

-- each turn that comes from the batches leaves all links named
abbrev pub StepKeepsNamed : Type 0
StepKeepsNamed =
    (world now next : WorldState) (batches : List (List Turn)) (turn : Turn) → IsSound now
    → LinksAreNamed world batches now → ComesFrom batches turn
    → step now turn ≡ Some next → LinksAreNamed world batches next

-- and so does each run
abbrev pub RunKeepsNamed : Type 0
RunKeepsNamed =
    (world now next : WorldState) (batches : List (List Turn)) (turns : List Turn) → IsSound now
    → LinksAreNamed world batches now → ComeFrom batches turns
    → run now turns ≡ Some next → LinksAreNamed world batches next

-- where all links are named, a ring is a closed chain of tunnels and named links
abbrev pub RingsAreNamed : Type 0
RingsAreNamed =
    (world now : WorldState) (batches : List (List Turn)) (s : ℕ) → IsSound now → LinksAreNamed world batches now
    → s < slot_count now → IsOnRing now s
    → (at : ℕ → ℕ) × (count : ℕ) × (at 0 ≡ s) × ClosesChain world batches at count

-- so where these close no chain there is no ring
abbrev pub NamedLinksCloseNone : Type 0
NamedLinksCloseNone =
    (world now : WorldState) (batches : List (List Turn)) → IsSound now → LinksAreNamed world batches now
    → ClosesNoChain world batches
    → (has_ring now ≡ false) × ((at : ℕ) → IsFirstOnRing now at → ⊥)

-- nor does a run of turns that come from the batches make one
abbrev pub NamedLinksMakeRings : Type 0
NamedLinksMakeRings =
    (world last : WorldState) (turns : List Turn) (batches : List (List Turn)) → IsSound world → ComeFrom batches turns
    → run world turns ≡ Some last
    → ClosesNoChain world batches → has_ring last ≡ false
