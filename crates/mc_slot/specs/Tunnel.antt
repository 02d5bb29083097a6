-- A sound tunnel: its two slots, and the signals under way to each of them.
use Rattle.std.specs.Prelude.{◌≡◌, ◌+◌, Option, Some, None, not, List, IsSome}
use Rattle.mc_signal.specs.declared.Signal.{Signal}
use Rattle.mc_slot.specs.Outlook.{outlook, closes, acks, waits}
use Rattle.mc_slot.specs.declared.Slot.{Slot}
use Rattle.mc_slot.specs.declared.State.{State}
use Rattle.mc_slot.specs.declared.State.TheVariants.{Closed, Opening, Opened, Flowing, Closing}

-- what a slot keeps in each state
abbrev pub KeptIn : State → Slot → Type 0
KeptIn Closed slot = (slot.sent ≡ None) × (slot.got ≡ None) × (slot.sel_out ≡ None) × (slot.sel_in ≡ None)
KeptIn Opening slot = IsSome slot.sent × (slot.got ≡ None) × (slot.sel_out ≡ None) × (slot.sel_in ≡ None)
KeptIn Opened slot = (slot.sent ≡ None) × IsSome slot.got × (slot.sel_out ≡ None) × (slot.sel_in ≡ None)
KeptIn Flowing slot = IsSome slot.sent × IsSome slot.got
KeptIn Closing slot = Unit {0}

abbrev pub Kept : Slot → Type 0
Kept slot = KeptIn slot.state slot

-- two slots to which nothing is under way agree: the pairs of states that may meet, and what each then has of the other
abbrev pub AgreeIn : State → State → Slot → Slot → Type 0
AgreeIn Closed Closed a b = Unit {0}
AgreeIn Opening Opened a b = b.got ≡ a.sent
AgreeIn Opened Opening a b = a.got ≡ b.sent
AgreeIn Flowing Flowing a b = (a.got ≡ b.sent) × (b.got ≡ a.sent) × (a.sel_in ≡ b.sel_out) × (b.sel_in ≡ a.sel_out)
AgreeIn Closing Closed a b = Unit {0}
AgreeIn Closed Closing a b = Unit {0}
AgreeIn Closing Closing a b = Unit {0}
AgreeIn first second a b = ⊥

abbrev pub Agree : Slot → Slot → Type 0
Agree a b = AgreeIn a.state b.state a b

-- both outlooks are there, and agree
abbrev pub Meet : Option Slot → Option Slot → Type 0
Meet (Some a) (Some b) = Agree a b
Meet a b = ⊥

-- each signal is lawful when its turn comes, the outlooks agree, closes and closeacks are counted, and each slot keeps
-- what its state allows
pub record TunnelSound (a : Slot) (to_a : List Signal) (b : Slot) (to_b : List Signal) : Type 0 where
  pub medium : a.medium ≡ b.medium
  pub sides : a.initiator ≡ not b.initiator
  pub meet : Meet (outlook a to_a) (outlook b to_b)
  pub first_waits : closes to_b + acks to_a ≡ waits a.state
  pub second_waits : closes to_a + acks to_b ≡ waits b.state
  pub first_kept : Kept a
  pub second_kept : Kept b
