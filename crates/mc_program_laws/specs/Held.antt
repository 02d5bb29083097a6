-- Tunnels that flow on: while both of their slots are ends that don't close, no turn closes them.
use Rattle.std.specs.Prelude.{◌≡◌, ◌<◌, ℕ, Bool, true, false, List, ◌∷◌, IsTrue, Some}
use Rattle.std.specs.List.{list_all}
use Rattle.mc_signal.specs.declared.Signal.{Signal}
use Rattle.mc_signal.specs.declared.Signal.TheVariants.{Describe, Select}
use Rattle.mc_slot.specs.declared.Goal.TheVariants.{Close as ToClose}
use Rattle.mc_slot.specs.declared.SlotGoal.{SlotGoal}
use Rattle.mc_slot.specs.declared.SlotGoal.TheVariants.{End, Link}
use Rattle.mc_slot.specs.declared.State.TheVariants.{Flowing}
use Rattle.mc_box.specs.BoxEvents.{turn_of}
use Rattle.mc_box.specs.declared.event.Event.TheVariants.{Tell, Shift}
use Rattle.mc_box.specs.declared.event.Turn.{Turn}
use Rattle.mc_model.specs.Settles.{is_quiet, takes_or_retries}
use Rattle.mc_model.specs.Sound.{IsSound}
use Rattle.mc_model.specs.Steps.{run, step}
use Rattle.mc_model.specs.Worlds.{WorldState, far, goal_of, list_to, slot_count, slot_of}

-- ---- tunnels that flow

-- a describe or a select, which leaves a slot flowing
abbrev pub is_update : Signal → Bool
is_update (Describe d) = true
is_update (Select s) = true
is_update signal = false

-- a slot flows, and all that is under way to it are describes and selects
pub record SlotFlows (world : WorldState) (s : ℕ) : Type 0 where
  pub flows : (slot_of world s).state ≡ Flowing
  pub updates : IsTrue (list_all is_update (list_to world s))

-- so do both slots of a tunnel
pub record TunnelFlows (world : WorldState) (s : ℕ) : Type 0 where
  pub inside : s < slot_count world
  pub near : SlotFlows world s
  pub away : SlotFlows world (far s)

-- ---- goals that keep a tunnel open

-- an end that holds or opens
abbrev pub stays_open : SlotGoal → Bool
stays_open (End ToClose) = false
stays_open (End goal) = true
stays_open (Link partner) = false

-- both slots of a tunnel are such ends
pub record AreOpenEnds (world : WorldState) (s : ℕ) : Type 0 where
  pub near : IsTrue (stays_open (goal_of world s))
  pub away : IsTrue (stays_open (goal_of world (far s)))

-- ---- laws

-- where nothing is under way in a sound world, a tunnel flows if one of its slots does
abbrev pub QuietTunnelsFlow : Type 0
QuietTunnelsFlow =
    (world : WorldState) (s : ℕ) → IsSound world → IsTrue (is_quiet world) → s < slot_count world
    → (slot_of world s).state ≡ Flowing → TunnelFlows world s

-- a tunnel that flows still does after any turn that leaves both of its slots ends which don't close
abbrev pub OpenEndsFlowOn : Type 0
OpenEndsFlowOn =
    (world next : WorldState) (turn : Turn) (s : ℕ) → IsSound world → step world turn ≡ Some next → TunnelFlows world s
    → AreOpenEnds next s → TunnelFlows next s

-- and after a Tell, whatever the goals of its slots
abbrev pub TellsLeaveFlowing : Type 0
TellsLeaveFlowing =
    (world next : WorldState) (who word s : ℕ) → IsSound world → step world (turn_of who (Tell word)) ≡ Some next
    → TunnelFlows world s → TunnelFlows next s

-- while only Takes and Retries come, a tunnel that flows between two such ends does so all along
abbrev pub RestsFlowOn : Type 0
RestsFlowOn =
    (world last : WorldState) (turns : List Turn) (s : ℕ) → IsSound world
    → IsTrue (list_all (λ turn. takes_or_retries turn.event) turns)
    → run world turns ≡ Some last → TunnelFlows world s → AreOpenEnds world s → TunnelFlows last s × AreOpenEnds last s

-- from a sound world in which nothing is under way, by a Tell, a Shift, and then Takes and Retries alone: a tunnel one
-- of whose slots flowed flows, if both of its slots are in the end ends that don't close
abbrev pub HeldTunnelsFlowOn : Type 0
HeldTunnelsFlowOn =
    (world last : WorldState) (who word s : ℕ) (rest : List Turn) → IsSound world → IsTrue (is_quiet world)
    → s < slot_count world
    → (slot_of world s).state ≡ Flowing → IsTrue (list_all (λ turn. takes_or_retries turn.event) rest)
    → run world (turn_of who (Tell word) ∷ turn_of who Shift ∷ rest) ≡ Some last → AreOpenEnds last s
    → TunnelFlows last s
