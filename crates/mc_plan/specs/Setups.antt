-- The slots that channels give a box.
use Rattle.std.specs.Prelude.{None, ℕ, ◌+◌, ◌*◌, ◌==◌, Bool, true, false, if◌then◌else◌, List, [], ◌∷◌, ◌++◌, length, map, Vec}
use Rattle.std.specs.declared.alloc.Global.{Global}
use Rattle.mc_model.specs.Worlds.{ChannelState}
use Rattle.mc_box.specs.declared.setup.SlotSetup.{SlotSetup}
use Rattle.mc_model.specs.declared.channel.Tunnel.{Tunnel}

-- a slot, if it is of the box
abbrev pub setup_if : Bool → SlotSetup → List SlotSetup
setup_if here setup = if here then setup ∷ [] else []

-- the slots of a box at these tunnels of a channel, which are counted from a number on
abbrev pub setups_within : ℕ → ℕ → ChannelState → List Tunnel → List SlotSetup
setups_within who count ends [] = []
setups_within who count ends (tunnel ∷ tunnels) =
    setup_if (ends.from == who)
    (record { origin = 2 * count; medium = tunnel.medium; initiator = true; address = None })
    ++ setup_if (ends.to == who)
    (record { origin = 2 * count + 1; medium = tunnel.medium; initiator = false; address = None })
    ++ setups_within who (count + 1) ends tunnels

-- the slots of a box at a channel, whose tunnels are counted from a number on
abbrev pub setups_at : ℕ → ℕ → ChannelState → List SlotSetup
setups_at who count ends = setups_within who count ends ends.tunnels

-- the slots of a box at these channels, whose tunnels are counted from a number on
abbrev pub setups_from : ℕ → ℕ → List ChannelState → List SlotSetup
setups_from who count [] = []
setups_from who count (ends ∷ channels) =
    setups_at who count ends ++ setups_from who (count + length ends.tunnels) channels

-- all slots of a box
abbrev pub setups_of : List ChannelState → ℕ → List SlotSetup
setups_of channels who = setups_from who 0 channels

-- ---- the slots of many boxes

-- lists by box, as code keeps them
abbrev pub lists_of : List (Vec SlotSetup Global) → List (List SlotSetup)
lists_of lists = map (λ list. list.items) lists

-- each of these boxes, numbered from a number on, has more slots, after those that it has
abbrev pub with_more : (ℕ → List SlotSetup) → (who : ℕ) → List (List SlotSetup) → List (List SlotSetup)
with_more more who [] = []
with_more more who (list ∷ lists) = (list ++ more who) ∷ with_more more (who + 1) lists
