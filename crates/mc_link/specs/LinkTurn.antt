-- The turn of a link: what its two slots send after a turn that concerns one of them, and in which order.
use Rattle.std.specs.Prelude.{◌≡◌, ℕ, Option, Some, None, Bool, true, false, if◌then◌else◌, List, [], ◌∷◌, ◌++◌, map}
use Rattle.mc_signal.specs.Choice.{answers}
use Rattle.mc_signal.specs.declared.Descriptor.{Descriptor}
use Rattle.mc_signal.specs.declared.Selector.{Selector}
use Rattle.mc_signal.specs.declared.Signal.{Signal}
use Rattle.mc_signal.specs.declared.Signal.TheVariants.{Open, Oack, Close}
use Rattle.mc_slot.specs.EndTurn.{describe_newer, select_newer}
use Rattle.mc_slot.specs.Sending.{sends_of}
use Rattle.mc_slot.specs.declared.Cause.{Cause}
use Rattle.mc_slot.specs.declared.Cause.TheVariants.{Close as ByClose}
use Rattle.mc_slot.specs.declared.Slot.{Slot}
use Rattle.mc_slot.specs.declared.State.{State}
use Rattle.mc_slot.specs.declared.State.TheVariants.{Closed, Opening, Opened, Flowing}
use Rattle.mc_slot.specs.declared.sends.Sends.{Sends}
use Rattle.mc_link.specs.declared.Side.{Side}
use Rattle.mc_link.specs.declared.Side.TheVariants.{First, Second}

-- the slot of this side is named where a taken close has made it closed
abbrev pub closed_side : Cause → Side → Option Side
closed_side ByClose side = Some side
closed_side cause side = None

-- the slot that is named is closed
abbrev pub NamesClosed : Option Side → Slot → Slot → Type 0
NamesClosed None a b = Unit {0}
NamesClosed (Some First) a b = a.state ≡ Closed
NamesClosed (Some Second) a b = b.state ≡ Closed

-- a slot that is opening, opened or flowing may send close
abbrev pub can_close : State → Bool
can_close Opening = true
can_close Opened = true
can_close Flowing = true
can_close state = false

-- signals that the slot of one side sends
abbrev pub from_side : Side → List Signal → List (Side × Signal)
from_side side signals = map (λ signal. (side, signal)) signals

-- the open of a closed slot, with the descriptor that the other slot got
abbrev pub open_with : Slot → Option Descriptor → List Signal
open_with slot None = []
open_with slot (Some got) = Open slot.medium got ∷ []

-- a live slot passes on the descriptor that the other slot got: it accepts by it, or describes it where its own last
-- differs
abbrev pub pass_descriptor : State → Option Descriptor → Option Descriptor → List Signal
pass_descriptor Opened last (Some got) = Oack got ∷ []
pass_descriptor Flowing last (Some got) = describe_newer last got
pass_descriptor state last got = []

-- what a slot passes on of the other's descriptor, as both are
abbrev pub descriptor_due : Slot → Slot → List Signal
descriptor_due slot other = pass_descriptor slot.state slot.sent other.got

-- a slot passes on the selector that the other slot got, where it answers what this slot got and differs from the last
abbrev pub pass_selector : Option Selector → Option Descriptor → Option Selector → List Signal
pass_selector (Some heard) (Some got) last = if answers heard got then select_newer last heard else []
pass_selector heard got last = []

-- what it passes on of the other's selector, as both are
abbrev pub selector_due : Slot → Slot → List Signal
selector_due slot other = pass_selector other.sel_in slot.got slot.sel_out

-- what two live slots send: first each the other's descriptor, then each the other's selector
abbrev pub flow : Slot → Slot → List (Side × Signal)
flow a b =
    from_side First (descriptor_due a b)
    ++ (from_side Second (descriptor_due b a)
    ++ (from_side First (selector_due a b) ++ from_side Second (selector_due b a)))

-- what a link sends by the states of its slots: a closed one asks for media where the other is live, and two live ones
-- pass on what is new
abbrev pub lean_in : State → State → Slot → Slot → List (Side × Signal)
lean_in Closed Opened a b = from_side First (open_with a b.got)
lean_in Closed Flowing a b = from_side First (open_with a b.got)
lean_in Opened Closed a b = from_side Second (open_with b a.got)
lean_in Flowing Closed a b = from_side Second (open_with b a.got)
lean_in Opened Opened a b = flow a b
lean_in Opened Flowing a b = flow a b
lean_in Flowing Opened a b = flow a b
lean_in Flowing Flowing a b = flow a b
lean_in first second a b = []

-- the same, for the slots as they are
abbrev pub lean : Slot → Slot → List (Side × Signal)
lean a b = lean_in a.state b.state a b

-- what a link sends in a turn: a close that closed one slot is passed on to the other, or else by the states
abbrev pub link_turn_by : Option Side → Slot → Slot → List (Side × Signal)
link_turn_by None a b = lean a b
link_turn_by (Some First) a b = if can_close b.state then (Second, Close) ∷ [] else lean a b
link_turn_by (Some Second) a b = if can_close a.state then (First, Close) ∷ [] else lean a b

-- what a link sends in a turn, in order; the far side's close has closed the slot that is named, if one is
abbrev pub link_turn : Slot → Slot → Option Side → List (Side × Signal)
link_turn a b closed_by_far = link_turn_by closed_by_far a b

-- a link is at rest where a turn without a close sends nothing
abbrev pub IsLinkAtRest : Slot → Slot → Type 0
IsLinkAtRest a b = link_turn a b None ≡ []

-- what the first slot sends of all that is sent
abbrev pub sent_by_first : List (Side × Signal) → List Signal
sent_by_first [] = []
sent_by_first ((First, signal) ∷ rest) = signal ∷ sent_by_first rest
sent_by_first ((Second, signal) ∷ rest) = sent_by_first rest

-- what the second slot sends of all that is sent
abbrev pub sent_by_second : List (Side × Signal) → List Signal
sent_by_second [] = []
sent_by_second ((First, signal) ∷ rest) = sent_by_second rest
sent_by_second ((Second, signal) ∷ rest) = signal ∷ sent_by_second rest

-- a signal with the local number of the slot that sends it, for the two slots' numbers
abbrev pub with_number : ℕ → ℕ → Side × Signal → ℕ × Signal
with_number an bn (First, signal) = (an, signal)
with_number an bn (Second, signal) = (bn, signal)

-- signals that two linked slots send are added
abbrev pub AddsBoth : Sends → Sends → ℕ → ℕ → List (Side × Signal) → Type 0
AddsBoth old new an bn signals = sends_of new ≡ sends_of old ++ map (with_number an bn) signals
