-- The statuses that may be due.
use Rattle.std.specs.Prelude.{◌≡◌, ◌⊎◌, ℕ}
use Rattle.mc_call.specs.declared.status.TheConstants.{
  WORKED,
  FAULTY_TEXT,
  USAGE,
  NO_MEMORY,
  READ_FAULT,
  RESTLESS,
  RING,
}

-- the status may be due for a text that was read whole; that of a stop at the last version is that of a fault
abbrev pub IsDueForText : ℕ → Type 0
IsDueForText due = (due ≡ WORKED) ⊎ (due ≡ FAULTY_TEXT) ⊎ (due ≡ NO_MEMORY) ⊎ (due ≡ RESTLESS) ⊎ (due ≡ RING)

-- the status may be due where the words ask for a live run
abbrev pub IsDueForLive : ℕ → Type 0
IsDueForLive due = IsDueForText due ⊎ (due ≡ READ_FAULT)

-- the status may be due: each may but that of a fault in writing
abbrev pub IsDue : ℕ → Type 0
IsDue due = IsDueForLive due ⊎ (due ≡ USAGE)
