-- What can be seen of a shard's boxes, and when not.
use Rattle.std.specs.Prelude.{◌≡◌, ◌<◌, ◌≤◌, ℕ, length, None}
use Rattle.mc_shard.specs.States.{box_in}
use Rattle.mc_shard_writer.specs.Writers.{Waits, WriterState}
use Rattle.mc_shard_c.specs.declared.answer.TheConstants.{NO_BOX, NO_SLOT, WAITS}

-- the box is there, and no entry waits
abbrev pub IsSeen : WriterState → ℕ → Type 0
IsSeen writer who = (writer.made ≡ None) × (who < length writer.shard.state.boxes)

-- no entry waits, but the box isn't there
abbrev pub LacksBox : ℕ → WriterState → Type 0
LacksBox who writer = (writer.made ≡ None) × (length writer.shard.state.boxes ≤ who)

-- the codes of a box that isn't seen
pub data WhyNoBox (writer : WriterState) (who : ℕ) : ℕ → Type 0 where
  waits : Waits writer → WhyNoBox writer who WAITS
  no_box : LacksBox who writer → WhyNoBox writer who NO_BOX

-- the box can be seen, but it has no such slot
pub record LacksSlot (writer : WriterState) (who slot : ℕ) : Type 0 where
  pub box : IsSeen writer who
  pub lacks : length (box_in writer.shard.state who).slots ≤ slot

-- the codes of a slot that isn't seen
pub data WhyNoSlot (writer : WriterState) (who slot : ℕ) : ℕ → Type 0 where
  waits : Waits writer → WhyNoSlot writer who slot WAITS
  no_box : LacksBox who writer → WhyNoSlot writer who slot NO_BOX
  no_slot : LacksSlot writer who slot → WhyNoSlot writer who slot NO_SLOT
