-- How many signals boxes send and take by their logs, and how many are under way.
use Rattle.std.specs.Prelude.{◌≡◌, ℕ, ◌+◌, ◌<◌, List, [], length, IsSome, slice_index_or}
use Rattle.std.specs.List.{AllByRecursion}
use Rattle.mc_box.specs.BoxEvents.{is_take}
use Rattle.mc_box.specs.Boxes.{BoxState}
use Rattle.mc_merge.specs.Claims.{IsClaimed}
use Rattle.mc_merge.specs.LaneLogs.{claimed_of}
use Rattle.mc_model.specs.Sound.{IsNumbered}
use Rattle.mc_model.specs.Worlds.{AreChannels, WorldState, number}
use Rattle.mc_port.specs.Entries.{Claimed, count_sent, entries_of, events_that}
use Rattle.mc_port.specs.declared.stamped.Stamped.{Stamped}
use Rattle.mc_slot_laws.specs.Sums.{total}

-- each signal that a box sends is of a slot that has a number
abbrev pub HaveNumbers : WorldState → List (List Claimed) → Type 0
HaveNumbers world logs = (who : ℕ) → who < length world.boxes
    → AllByRecursion (λ entry. AllByRecursion (λ sending. IsSome (number world who sending.0)) entry.sent)
    (entries_of (claimed_of logs who))

-- what was under way and what was sent is as much as what was taken and what is under way then
abbrev pub SignalsCount : Type 0
SignalsCount =
    (world : WorldState) (logs : List (List Claimed)) (boxes : List BoxState) (rests : List (List Stamped))
    → IsClaimed world logs boxes rests → IsNumbered world → AreChannels world.channels → HaveNumbers world logs
    → total (λ lane. length (slice_index_or world.lanes lane [])) (length world.lanes)
    + total (λ who. count_sent (claimed_of logs who)) (length world.boxes)
    ≡ total (λ who. length (events_that is_take (claimed_of logs who))) (length world.boxes)
    + total (λ lane. length (slice_index_or rests lane [])) (length world.lanes)
