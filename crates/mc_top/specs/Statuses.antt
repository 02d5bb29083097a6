-- What is said of the statuses with which a call ends.
use Rattle.std.specs.Prelude.{ℕ, ◌≡◌, ◌⊎◌, ◌==◌, ◌||◌, Bool, false, Option, Some, None}
use Rattle.mc_call.specs.Statuses.{judges_text, stop_status}
use Rattle.mc_call.specs.declared.status.TheConstants.{WORKED, FAULTY_TEXT, USAGE, NO_MEMORY, READ_FAULT, RESTLESS, RING, JOURNAL_FAULT, NO_BOX, CHANNEL_IN_USE}
use Rattle.mc_grown_script.specs.declared.stop.GrownStop.{GrownStop}
use Rattle.mc_grown_script.specs.declared.stop.GrownStop.TheVariants.{Cut, Settle}

-- the status may be due: each may but that of a fault in writing
abbrev pub IsDue : ℕ → Type 0
IsDue due =
    (due ≡ WORKED) ⊎ (due ≡ FAULTY_TEXT) ⊎ (due ≡ USAGE) ⊎ (due ≡ NO_MEMORY) ⊎ (due ≡ READ_FAULT) ⊎ (due ≡ RESTLESS)
    ⊎ (due ≡ RING) ⊎ (due ≡ JOURNAL_FAULT) ⊎ (due ≡ NO_BOX) ⊎ (due ≡ CHANNEL_IN_USE)

-- the status may be due where the words are a mode's
abbrev pub IsDueForMode : ℕ → Type 0
IsDueForMode due =
    (due ≡ WORKED) ⊎ (due ≡ FAULTY_TEXT) ⊎ (due ≡ NO_MEMORY) ⊎ (due ≡ READ_FAULT) ⊎ (due ≡ RESTLESS) ⊎ (due ≡ RING)
    ⊎ (due ≡ JOURNAL_FAULT) ⊎ (due ≡ NO_BOX)

-- the status may be due for a text that was read whole; that of a stop at the last version is that of a fault
abbrev pub IsDueForText : ℕ → Type 0
IsDueForText due =
    (due ≡ WORKED) ⊎ (due ≡ FAULTY_TEXT) ⊎ (due ≡ NO_MEMORY) ⊎ (due ≡ RESTLESS) ⊎ (due ≡ RING) ⊎ (due ≡ JOURNAL_FAULT)
    ⊎ (due ≡ NO_BOX)

-- the status may be due where the words are those of a script that grows
abbrev pub IsDueForGrowing : ℕ → Type 0
IsDueForGrowing due =
    (due ≡ WORKED) ⊎ (due ≡ FAULTY_TEXT) ⊎ (due ≡ NO_MEMORY) ⊎ (due ≡ READ_FAULT) ⊎ (due ≡ RESTLESS) ⊎ (due ≡ RING)
    ⊎ (due ≡ CHANNEL_IN_USE)

-- the status isn't that of a fault in reading
abbrev pub IsPastReading : ℕ → Type 0
IsPastReading due = (due == READ_FAULT) ≡ false

-- ---- scripts of networks that grow

-- the text was read, and it was found to have a fault or none
abbrev pub judges_growing : ℕ → Bool
judges_growing due = judges_text due || due == CHANNEL_IN_USE

-- the status with which a call ends whose script stopped
abbrev pub grown_stop_status : GrownStop → ℕ
grown_stop_status (Settle stop) = stop_status stop
grown_stop_status (Cut at) = CHANNEL_IN_USE

-- the status that is due for a script that was run to its end, or to a stop
abbrev pub grown_due_by : Option GrownStop → ℕ
grown_due_by None = WORKED
grown_due_by (Some stop) = grown_stop_status stop
