-- What is said of the statuses with which a call ends.
use Rattle.std.specs.Prelude.{ℕ, ◌==◌, ◌||◌, Bool, Option, Some, None}
use Rattle.mc_call.specs.declared.status.TheConstants.{WORKED, FAULTY_TEXT, VERSION_END, RESTLESS, RING, JOURNAL_FAULT, NO_BOX, CHANNEL_IN_USE}
use Rattle.mc_seq.specs.declared.stopping.SettleStop.{SettleStop}
use Rattle.mc_seq.specs.declared.stopping.SettleStop.TheVariants.{Restless, Ring, VersionEnd}

-- the text was read, and it was found to have a fault or none
abbrev pub judges_text : ℕ → Bool
judges_text due =
    due == WORKED || due == FAULTY_TEXT || due == RESTLESS || due == RING || due == JOURNAL_FAULT || due == NO_BOX

-- what was settled, checked or made up to a stop, is in the journal
abbrev pub keeps_journal : ℕ → Bool
keeps_journal due =
    due == WORKED || due == VERSION_END || due == RESTLESS || due == RING || due == CHANNEL_IN_USE

-- the status with which a call ends whose script stopped
abbrev pub stop_status : SettleStop → ℕ
stop_status (VersionEnd at) = VERSION_END
stop_status (Ring at) = RING
stop_status (Restless at) = RESTLESS

-- the status that is due for a script that was run to its end, or to a stop
abbrev pub due_by : Option SettleStop → ℕ
due_by None = WORKED
due_by (Some stop) = stop_status stop
