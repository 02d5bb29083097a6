-- Laws of one tunnel: its two slots, and the signals under way to each of them.
use Rattle.std.specs.Prelude.{◌≡◌, Option, Some, Bool, not, List, [], ◌∷◌, ◌++◌, IsSome}
use Rattle.mc_signal.specs.declared.Medium.{Medium}
use Rattle.mc_signal.specs.declared.Signal.{Signal}
use Rattle.mc_slot.specs.Moves.{answer_signals, closed_slot, slot_send_all, slot_take}
use Rattle.mc_slot.specs.Tunnel.{TunnelSound}
use Rattle.mc_slot.specs.declared.Slot.{Slot}

-- the next signal of a sound tunnel is lawful
abbrev pub FrontIsLawful : Type 0
FrontIsLawful = (a : Slot) (signal : Signal) (to_a : List Signal) (b : Slot) (to_b : List Signal)
    → TunnelSound a (signal ∷ to_a) b to_b → IsSome (slot_take a signal)

-- a sound tunnel is sound from its other side
abbrev pub TunnelTurns : Type 0
TunnelTurns = (a : Slot) (to_a : List Signal) (b : Slot) (to_b : List Signal)
    → TunnelSound a to_a b to_b → TunnelSound b to_b a to_a

-- a slot that takes its next signal, and sends the answer, keeps the tunnel sound
abbrev pub TakeKeepsTunnel : Type 0
TakeKeepsTunnel =
    (a : Slot) (signal : Signal) (to_a : List Signal) (b : Slot) (to_b : List Signal) (answer : Option Signal)
    (after : Slot)
    → TunnelSound a (signal ∷ to_a) b to_b → slot_take a signal ≡ Some record { answer = answer; after = after }
    → TunnelSound after to_a b (to_b ++ answer_signals answer)

-- a slot that sends signals, each where it may, keeps the tunnel sound
abbrev pub SendsKeepTunnel : Type 0
SendsKeepTunnel = (a : Slot) (to_a : List Signal) (b : Slot) (to_b signals : List Signal) (after : Slot)
    → TunnelSound a to_a b to_b → slot_send_all a signals ≡ Some after → TunnelSound after to_a b (to_b ++ signals)

-- two new slots of one medium, one of them the initiator's, are a sound tunnel with nothing under way
abbrev pub ClosedTunnelSound : Type 0
ClosedTunnelSound = (medium : Medium) (initiator : Bool)
    → TunnelSound (closed_slot medium initiator) [] (closed_slot medium (not initiator)) []
