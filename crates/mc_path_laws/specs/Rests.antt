-- What may be at rest on one side of a box: an end, by its goal and its state, and the two slots of a link, by theirs.
use Rattle.std.specs.Prelude.{◌≡◌, ◌↔◌, Option, Some, true}
use Rattle.std.specs.Option.{option_map}
use Rattle.mc_signal.specs.Choice.{answers, choose}
use Rattle.mc_signal.specs.declared.Descriptor.{Descriptor}
use Rattle.mc_signal.specs.declared.Selector.{Selector}
use Rattle.mc_signal.specs.declared.Sender.{Sender}
use Rattle.mc_slot.specs.EndTurn.{IsAtRest}
use Rattle.mc_slot.specs.Tunnel.{Kept}
use Rattle.mc_slot.specs.declared.Goal.{Goal}
use Rattle.mc_slot.specs.declared.Goal.TheVariants.{Close as ToClose}
use Rattle.mc_slot.specs.declared.Slot.{Slot}
use Rattle.mc_slot.specs.declared.State.{State}
use Rattle.mc_slot.specs.declared.State.TheVariants.{Closed, Opened, Flowing, Closing}
use Rattle.mc_link.specs.LinkTurn.{IsLinkAtRest}

-- what an end at rest may be: under close it is closed or closing; else it isn't opened, and where it flows it has sent
-- its own descriptor and the choice for what it got
abbrev pub EndMayRest : Goal → State → Slot → Descriptor → Sender → Type 0
EndMayRest ToClose Closed slot own me = Unit {0}
EndMayRest ToClose Closing slot own me = Unit {0}
EndMayRest ToClose state slot own me = ⊥
EndMayRest goal Opened slot own me = ⊥
EndMayRest goal Flowing slot own me =
    (slot.sent ≡ Some own) × (slot.sel_out ≡ option_map (λ got. choose got me) slot.got)
EndMayRest goal state slot own me = Unit {0}

-- an end is at rest exactly where the table has it
abbrev pub EndsAtRest : Type 0
EndsAtRest =
    (goal : Goal) (slot : Slot) (own : Descriptor) (me : Sender) → Kept slot
    → IsAtRest goal slot own me ↔ EndMayRest goal slot.state slot own me

-- a selector that one slot of a link got was sent on by the other, where it answers what that one got
abbrev pub IsPassedOn : Option Selector → Option Descriptor → Option Selector → Type 0
IsPassedOn heard got last =
    (h : Selector) (g : Descriptor) → heard ≡ Some h → got ≡ Some g → answers h g ≡ true → last ≡ Some h

-- two flowing slots of a link have sent on what the other got
pub record HavePassedOn (a b : Slot) : Type 0 where
  pub first : a.sent ≡ b.got
  pub second : b.sent ≡ a.got
  pub first_selector : IsPassedOn b.sel_in a.got a.sel_out
  pub second_selector : IsPassedOn a.sel_in b.got b.sel_out

-- what the two slots of a link at rest may be: one of them is opening or closing, or both are closed, or both flow and
-- have sent on what the other got
abbrev pub LinkMayRest : State → State → Slot → Slot → Type 0
LinkMayRest Closed Opened a b = ⊥
LinkMayRest Closed Flowing a b = ⊥
LinkMayRest Opened Closed a b = ⊥
LinkMayRest Flowing Closed a b = ⊥
LinkMayRest Opened Opened a b = ⊥
LinkMayRest Opened Flowing a b = ⊥
LinkMayRest Flowing Opened a b = ⊥
LinkMayRest Flowing Flowing a b = HavePassedOn a b
LinkMayRest first second a b = Unit {0}

-- a link is at rest exactly where the table has its slots
abbrev pub LinksAtRest : Type 0
LinksAtRest = (a b : Slot) → Kept a → Kept b → IsLinkAtRest a b ↔ LinkMayRest a.state b.state a b
