-- The numbers that stand for variants.
use Rattle.std.specs.Prelude.{◌==◌, ℕ, if◌then◌else◌, Bool, true, false}
use Rattle.mc_box.specs.declared.event.Change.TheVariants.{End as NewEnd, Link as NewLink}
use Rattle.mc_box.specs.declared.event.Event.{Event}
use Rattle.mc_box.specs.declared.event.Event.TheVariants.{Take, Set, Media, Tell, Retry, Shift}
use Rattle.mc_box.specs.declared.event.MediaChange.TheVariants.{Hear, Talk}
use Rattle.mc_signal.specs.declared.Medium.{Medium}
use Rattle.mc_signal.specs.declared.Medium.TheVariants.{Audio, Video}
use Rattle.mc_signal.specs.declared.Signal.{Signal}
use Rattle.mc_signal.specs.declared.Signal.TheVariants.{Open, Oack, Close, Closeack, Describe, Select}
use Rattle.mc_slot.specs.declared.Goal.{Goal}
use Rattle.mc_slot.specs.declared.Goal.TheVariants.{Open as ToOpen, Close as ToClose, Hold as ToHold}

abbrev pub kind_code : Signal → ℕ
kind_code (Open medium d) = 0
kind_code (Oack d) = 1
kind_code Close = 2
kind_code Closeack = 3
kind_code (Describe d) = 4
kind_code (Select s) = 5

abbrev pub goal_code : Goal → ℕ
goal_code ToOpen = 0
goal_code ToClose = 1
goal_code ToHold = 2

abbrev pub bit_code : Bool → ℕ
bit_code false = 0
bit_code true = 1

-- which event it is, and what it says
abbrev pub event_code : Event → ℕ × ℕ × ℕ
event_code (Take local) = (0, local, 0)
event_code (Set (NewEnd local goal)) = (1, local, goal_code goal)
event_code (Set (NewLink first second)) = (2, first, second)
event_code (Media (Hear local on)) = (3, local, bit_code on)
event_code (Media (Talk local on)) = (4, local, bit_code on)
event_code (Tell word) = (5, word, 0)
event_code (Retry local) = (6, local, 0)
event_code Shift = (7, 0, 0)

-- ---- and back

abbrev pub medium_of : ℕ → Medium
medium_of code = if code == 1 then Video else Audio

abbrev pub goal_of : ℕ → Goal
goal_of code = if code == 0 then ToOpen else (if code == 1 then ToClose else ToHold)

abbrev pub bit_of : ℕ → Bool
bit_of code = code == 1

-- the event of three numbers, and a Shift where they are no event's
abbrev pub event_of : ℕ × ℕ × ℕ → Event
event_of code =
    if code.0 == 0 then Take code.1
    else (if code.0 == 1 then Set (NewEnd code.1 (goal_of code.2))
    else (if code.0 == 2 then Set (NewLink code.1 code.2)
    else (if code.0 == 3 then Media (Hear code.1 (bit_of code.2))
    else (if code.0 == 4 then Media (Talk code.1 (bit_of code.2))
    else (if code.0 == 5 then Tell code.1
    else (if code.0 == 6 then Retry code.1 else Shift))))))
