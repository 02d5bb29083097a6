-- What the lines of a text so far have declared, where lines by which the network grows stand after its commands.
use Rattle.std.specs.Prelude.{ℕ, ◌==◌, ◌&&◌, ◌||◌, Bool, false, List, Option, Some, None, position}
use Rattle.std.specs.List.{list_any, slice_get}
use Rattle.mc_model.specs.Worlds.{ChannelState}
use Rattle.mc_script.specs.Places.{box_named, slot_named}
use Rattle.mc_script.specs.declared.keyword.CommandWord.{CommandWord}
use Rattle.mc_script.specs.declared.keyword.CommandWord.TheVariants.{Set, Link, Hear, Talk}
use Rattle.mc_lines.specs.SoFar.{Declared}
use Rattle.mc_tail.specs.declared.item.Item.{Item}

-- what is declared, channels that joined included, which channels were cut, and what each line says
pub record TailState : Type 0 where
  pub declared : Declared
  pub out : List ℕ
  pub items : List Item

-- ---- slots and their channels

-- a slot of a box is at an end of one of the channel's tunnels
abbrev pub has_end : (who local : ℕ) → ChannelState → Bool
has_end who local channel =
    list_any
    (λ tunnel. (channel.from == who && tunnel.from == local) || (channel.to == who && tunnel.to == local))
    channel.tunnels

-- the number of the channel that has the slot
abbrev pub channel_of : List ChannelState → (who local : ℕ) → Option ℕ
channel_of channels who local = position (has_end who local) channels

-- the channel of a slot that is known
abbrev pub known_channel : List ChannelState → (who local : Option ℕ) → Option ℕ
known_channel channels (Some who) (Some local) = channel_of channels who local
known_channel channels who local = None

-- the channel that two words name by a box and a slot of it
abbrev pub channel_named : Declared → (box slot : Option (List ℕ)) → Option ℕ
channel_named d box slot =
    known_channel d.channels (box_named d.names box) (slot_named d.names (box_named d.names box) slot)

-- ---- what is out

-- a channel is known, and was cut
abbrev pub is_cut : List ℕ → Option ℕ → Bool
is_cut out None = false
is_cut out (Some channel) = list_any (λ cut. cut == channel) out

-- the slot that two words name is out: its channel was cut
abbrev pub is_out : TailState → (box slot : Option (List ℕ)) → Bool
is_out t box slot = is_cut t.out (channel_named t.declared box slot)

-- a command names a slot that is out; its words are those after the first
abbrev pub names_out : TailState → CommandWord → List (List ℕ) → Bool
names_out t Set words = is_out t (slice_get words 0) (slice_get words 1)
names_out t Link words =
    is_out t (slice_get words 0) (slice_get words 1) || is_out t (slice_get words 0) (slice_get words 2)
names_out t Hear words = is_out t (slice_get words 0) (slice_get words 1)
names_out t Talk words = is_out t (slice_get words 0) (slice_get words 1)
names_out t other words = false
