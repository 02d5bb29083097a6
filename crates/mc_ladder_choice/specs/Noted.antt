-- What is noted of why slots are closed, while the lines of a journal are passed.
use Rattle.std.specs.Prelude.{◌≤◌, ◌+◌, List}
use Rattle.mc_box.specs.declared.event.Turn.{Turn}
use Rattle.mc_cause.specs.Carried.{AreOfSlots, TellsCauses, WhysState}
use Rattle.mc_model.specs.Worlds.{WorldState}
use Rattle.mc_script.specs.declared.command.JournalLine.{JournalLine}
use Rattle.mc_ladder_choice.specs.Entries.{made_after}

-- a line leads from one world to another, and what was noted before it to what is noted after it: that tells of one
-- turn more, if the line is a turn that can happen
pub record NotesLine (old new : WorldState) (line : JournalLine) (before after : WhysState) : Type 0 where
  pub slots : AreOfSlots new after
  pub turns : after.turns ≤ before.turns + 1
  pub tells : (first : WorldState) (made : List Turn) → TellsCauses first made old before
      → TellsCauses first (made_after old made line) new after
