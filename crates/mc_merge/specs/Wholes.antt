-- What the merged logs of parts are to the world.
use Rattle.std.specs.Prelude.{◌≡◌, Bool, filter, ℕ, ◌+◌, ◌<◌, List, length, map, Some}
use Rattle.std.specs.List.{AllByRecursion}
use Rattle.mc_signal.specs.declared.Tagged.{Tagged}
use Rattle.mc_box.specs.BoxEvents.{turn_of}
use Rattle.mc_box.specs.Boxes.{BoxState}
use Rattle.mc_box.specs.declared.event.Event.{Event}
use Rattle.mc_port.specs.Entries.{Entry}
use Rattle.mc_merge.specs.LaneLogs.{log_of}
use Rattle.mc_merge.specs.Weaving.{AreWoven, Climb, log_at, numbers_at, of_part, turn_in}
use Rattle.mc_merge.specs.declared.log.Made.{Made}
use Rattle.mc_model.specs.Settles.{of_kind}
use Rattle.mc_model.specs.Steps.{run}
use Rattle.mc_model.specs.Worlds.{WorldState}
use Rattle.mc_merge.specs.Logs.{Own, own_log}
use Rattle.mc_merge.specs.Order.{IsMerged, ShareClocks}
use Rattle.mc_merge.specs.Together.{ArePartsOf, Homes, Ran}
use Rattle.std.specs.Prelude.{slice_index_or}

-- what a log keeps of an entry
abbrev pub made_of : Own → Made
made_of own = record { stamp = own.entry.stamp; who = own.who; event = own.entry.event }

-- the number in the world of each box of each part
abbrev pub Numbers : Type 0
Numbers = ℕ → ℕ → ℕ

abbrev pub numbers_in : List (List ℕ) → Numbers
numbers_in numbers part at = slice_index_or (numbers_at numbers part) at 0

-- each of so many boxes of the world stands in one part, and the boxes of parts are those
pub record AreHomes (homes : Homes) (parts : ℕ → Ran) (number : Numbers) (count : ℕ) : Type 0 where
  pub back : (who : ℕ) → who < count → number (homes who).0 (homes who).1 ≡ who
  pub there : (part at : ℕ) → at < length (parts part).old.boxes → homes (number part at) ≡ (part, at)
  pub inside : (part at : ℕ) → at < length (parts part).old.boxes → number part at < count
  -- the entries of a part are of its boxes
  pub known : (part : ℕ) → AllByRecursion (λ (own : Own). own.who < length (parts part).old.boxes) (parts part).log

-- an entry, by the world's number of its box
abbrev pub numbered : Numbers → ℕ × Own → Own
numbered number item = record { who = number item.0 item.1.who; entry = item.1.entry }

-- when entries were made, where the clock of each part begins at a time of its own
abbrev pub entry_times : (ℕ → ℕ) → List (ℕ × Own) → List ℕ
entry_times clock woven = map (λ (item : ℕ × Own). clock item.0 + item.1.entry.stamp) woven

-- a box has the clock of its part
abbrev pub box_clock : Homes → (ℕ → ℕ) → ℕ → ℕ
box_clock homes clock who = clock (homes who).0

-- all logs of boxes are those of their parts
abbrev pub WovenIsMerged : Type 0
WovenIsMerged = (homes : Homes) (parts : ℕ → Ran) (number : Numbers) (clock : ℕ → ℕ) (logs : List (List Entry))
    (woven : List (ℕ × Own))
    → AreHomes homes parts number (length logs)
    → ((who : ℕ) → who < length logs → log_of logs who ≡ own_log (homes who).1 (parts (homes who).0).log)
    → ((part : ℕ) → of_part part woven ≡ (parts part).log) → Climb (entry_times clock woven)
    → IsMerged (box_clock homes clock) logs (map (numbered number) woven)

-- logs as they are kept
abbrev pub AreKept : (ℕ → Ran) → List (List Made) → Type 0
AreKept parts made = (part : ℕ) → map made_of (parts part).log ≡ log_at made part

-- the turns are a run of the world
abbrev pub MergedIsRun : Type 0
MergedIsRun = (world : WorldState) (homes : Homes) (parts : ℕ → Ran) (numbers : List (List ℕ)) (clock : ℕ → ℕ)
    (logs : List (List Entry)) (boxes : List BoxState) (rests : List (List Tagged)) (made : List (List Made))
    (woven : List (ℕ × Made))
    → ArePartsOf world homes parts logs boxes rests → AreHomes homes parts (numbers_in numbers) (length world.boxes)
    → AreKept parts made → AreWoven clock made woven → ShareClocks world (box_clock homes clock)
    → run world (map (turn_in numbers) woven) ≡ Some (record world { boxes = boxes; lanes = rests })

-- and each box's turns of a kind are those of its own log
abbrev pub MergedInOrder : Type 0
MergedInOrder = (world : WorldState) (homes : Homes) (parts : ℕ → Ran) (numbers : List (List ℕ)) (clock : ℕ → ℕ)
    (logs : List (List Entry)) (boxes : List BoxState) (rests : List (List Tagged)) (made : List (List Made))
    (woven : List (ℕ × Made)) (who : ℕ) (kind : Event → Bool)
    → ArePartsOf world homes parts logs boxes rests → AreHomes homes parts (numbers_in numbers) (length world.boxes)
    → AreKept parts made → AreWoven clock made woven
    → of_kind kind who (map (turn_in numbers) woven) ≡ map (λ (entry : Entry). turn_of who entry.event)
    (filter (λ (entry : Entry). kind entry.event) (log_of logs who))
