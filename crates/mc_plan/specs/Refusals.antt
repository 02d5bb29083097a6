-- When a box or a channel isn't added to a plan.
use Rattle.std.specs.Prelude.{◌≡◌, ℕ, ◌+◌, ◌==◌, ◌||◌, Bool, if◌then◌else◌, List, length, nat_le, nat_lt, Option, Some, None, Result, Ok, Err}
use Rattle.mc_signal.specs.declared.Medium.{Medium}
use Rattle.mc_model.specs.Worlds.{ChannelState}
use Rattle.mc_plan.specs.Plans.{PlanState, last_channel, slots_of}
use Rattle.mc_plan.specs.declared.fault.PlanFault.{PlanFault}
use Rattle.mc_box.specs.declared.limit.TheConstants.{SLOT_LIMIT}
use Rattle.mc_model.specs.declared.channel.TheConstants.{TUNNEL_LIMIT}
use Rattle.mc_plan.specs.declared.limit.TheConstants.{PLAN_BOX_LIMIT, PLAN_CHANNEL_LIMIT}
use Rattle.mc_plan.specs.declared.fault.PlanFault.TheVariants.{NoBox, NoChannel, SameBox, NoTunnels, TooManyTunnels, BoxesFull, ChannelsFull, SlotsFull, NoMemory}

-- this fault where a rule is broken, and else the first of the others
abbrev pub fault_if : {F : Type 0} → Bool → F → Option F → Option F
fault_if broken fault others = if broken then Some fault else others

-- why a box isn't added
abbrev pub add_fault : PlanState → Option PlanFault
add_fault plan = fault_if (nat_le PLAN_BOX_LIMIT (length plan.boxes)) BoxesFull None

-- whether a box would have more than 64 slots
abbrev pub overfills : PlanState → (who more : ℕ) → Bool
overfills plan who more = nat_lt SLOT_LIMIT (slots_of plan.channels who + more)

-- why a channel isn't added: the first rule that it breaks
abbrev pub join_fault : PlanState → (from to : ℕ) → List Medium → Option PlanFault
join_fault plan from to media =
    fault_if (nat_le (length plan.boxes) from || nat_le (length plan.boxes) to) NoBox
    (fault_if (from == to) SameBox
    (fault_if (length media == 0) NoTunnels
    (fault_if (nat_lt TUNNEL_LIMIT (length media)) TooManyTunnels
    (fault_if (nat_le PLAN_CHANNEL_LIMIT (length plan.channels)) ChannelsFull
    (fault_if (overfills plan from (length media) || overfills plan to (length media)) SlotsFull None)))))

-- why a channel gets no tunnel more: the first rule that this breaks
abbrev pub widen_fault_at : PlanState → ChannelState → Option PlanFault
widen_fault_at plan ends =
    fault_if (nat_le TUNNEL_LIMIT (length ends.tunnels)) TooManyTunnels
    (fault_if (overfills plan ends.from 1 || overfills plan ends.to 1) SlotsFull None)

-- and why the last one gets none
abbrev pub widen_fault : PlanState → Option PlanFault
widen_fault plan = fault_if (length plan.channels == 0) NoChannel (widen_fault_at plan (last_channel plan.channels))

-- a fault, or nothing to say
abbrev pub unless_fault : {F : Type 0} → Option F → Result (Unit {0}) F
unless_fault None = Ok tt
unless_fault (Some fault) = Err fault

-- whether a channel may be added: the first rule that it breaks, if it breaks one
abbrev pub may_join : PlanState → (from to : ℕ) → List Medium → Result (Unit {0}) PlanFault
may_join plan from to media = unless_fault (join_fault plan from to media)

-- whether the last channel may get one tunnel more: the first rule that this breaks, if it breaks one
abbrev pub may_widen : PlanState → Result (Unit {0}) PlanFault
may_widen plan = unless_fault (widen_fault plan)

-- a refusal is the fault that there is; memory is asked for only where there is none
abbrev pub IsRefusal : PlanFault → Option PlanFault → Type 0
IsRefusal (NoMemory e) fault = fault ≡ None
IsRefusal NoBox fault = fault ≡ Some NoBox
IsRefusal NoChannel fault = fault ≡ Some NoChannel
IsRefusal SameBox fault = fault ≡ Some SameBox
IsRefusal NoTunnels fault = fault ≡ Some NoTunnels
IsRefusal TooManyTunnels fault = fault ≡ Some TooManyTunnels
IsRefusal BoxesFull fault = fault ≡ Some BoxesFull
IsRefusal ChannelsFull fault = fault ≡ Some ChannelsFull
IsRefusal SlotsFull fault = fault ≡ Some SlotsFull

-- a call answers the fault if there is one, and else this number or that memory ran out
abbrev pub Gives : Result ℕ PlanFault → Option PlanFault → ℕ → Type 0
Gives (Ok x) fault number = (fault ≡ None) × (x ≡ number)
Gives (Err refusal) fault number = IsRefusal refusal fault
