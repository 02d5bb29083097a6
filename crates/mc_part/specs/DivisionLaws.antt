-- What a division of a network is, whatever box is assigned to whatever part.
use Rattle.std.specs.Prelude.{◌≡◌, true, All, if◌then◌else◌, ℕ, ◌<◌, ◌≤◌, ◌+◌, ◌-◌, ◌*◌, List, [], length, filter, map, nat_lt, position, slice_index_or, Some}
use Rattle.std.specs.List.{AllByRecursion, range_with_len}
use Rattle.mc_box.specs.declared.limit.TheConstants.{SLOT_LIMIT}
use Rattle.mc_merge.specs.Lanes.{absent_channel, leads_from, leads_to}
use Rattle.mc_model.specs.Settles.{is_quiet}
use Rattle.mc_model.specs.Sound.{IsNumbered}
use Rattle.mc_model.specs.Worlds.{AreChannels, ChannelState, WorldState, box_at, is_place, places}
use Rattle.mc_merge.specs.Account.{PartState, part_box}
use Rattle.mc_merge.specs.Logs.{Own}
use Rattle.mc_merge.specs.Phases.{AreEmptied, IsLayout, stands_for}
use Rattle.mc_merge.specs.Together.{Ran}
use Rattle.mc_merge.specs.Wholes.{AreHomes, numbers_in}
use Rattle.mc_part.specs.Divisions.{IsDivided, boxes_in, channels_in, is_crossing, first_part, home_at, layout_of, members, part_numbers, starts_in, tables_in, touching}
use Rattle.mc_part.specs.DividedParts.{HasBoxes, shares_of}

-- the tables and first states that are defined are a division
abbrev pub FirstPartsAreDivided : Type 0
FirstPartsAreDivided = (world : WorldState) (assigned : List ℕ) → length assigned ≡ length world.boxes
    → IsDivided world assigned (tables_in world assigned) (first_part world assigned)

-- what is shared out of the boxes are those of the parts, and what of their numbers are these
abbrev pub SharesAreBoxes : Type 0
SharesAreBoxes = (world : WorldState) (assigned : List ℕ) (count : ℕ) → length assigned ≡ length world.boxes
    → (shares_of world.boxes assigned count ≡ map (boxes_in world assigned) (range_with_len 0 count))
    × (shares_of (range_with_len 0 (length assigned)) assigned count ≡ part_numbers assigned count)

-- each channel joins two boxes that are there
abbrev pub ChannelsHaveBoxes : Type 0
ChannelsHaveBoxes = (world : WorldState) → IsNumbered world → AreChannels world.channels
    → All (HasBoxes (length world.boxes)) world.channels

-- each box and each lane stands in its parts, nothing waits before a ring, and the parts stand for the world
pub record StandFor (world : WorldState) (assigned : List ℕ) (tables : ℕ → WorldState)
    (states : ℕ → PartState) : Type 0 where
  pub laid : IsLayout world (layout_of world assigned) tables states
  pub empty : AreEmptied world (layout_of world assigned) tables states
  pub whole : stands_for world (layout_of world assigned) states ≡ world

abbrev pub DivisionsAreLayouts : Type 0
DivisionsAreLayouts = (world : WorldState) (assigned : List ℕ) (tables : ℕ → WorldState) (states : ℕ → PartState)
    → IsNumbered world → AreChannels world.channels → is_quiet world ≡ true → IsDivided world assigned tables states
    → StandFor world assigned tables states

-- past the last of so many parts there is nothing
abbrev pub NonePastParts : Type 0
NonePastParts = (assigned : List ℕ) (channels : List ChannelState) (count part : ℕ)
    → AllByRecursion (λ (part : ℕ). part < count) assigned → 0 < count → count ≤ part
    → (members assigned part ≡ []) × (channels_in assigned channels part ≡ [])

-- boxes have their numbers
abbrev pub DivisionsAreHomes : Type 0
DivisionsAreHomes = (assigned : List ℕ) (count : ℕ) (parts : ℕ → Ran)
    → AllByRecursion (λ (part : ℕ). part < count) assigned
    → ((part : ℕ) → length (parts part).old.boxes ≡ length (members assigned part))
    → ((part : ℕ) → AllByRecursion (λ (own : Own). own.who < length (parts part).old.boxes) (parts part).log)
    → AreHomes (home_at assigned) parts (numbers_in (part_numbers assigned count)) (length assigned)

-- the far end of each channel that crosses is a number past the last box, and channels are within the limits
pub record LeadOut (world : WorldState) (assigned : List ℕ) (tables : ℕ → WorldState) (states : ℕ → PartState)
    (part : ℕ) : Type 0 where
  pub away : (c : ℕ) → c < length (starts_in assigned world.channels part)
      → (length (states part).boxes
      ≤ leads_from (tables part) (2 * c + (if slice_index_or (starts_in assigned world.channels part) c true
      then 0 else 1)))
      × (length (states part).boxes
      ≤ leads_to (tables part) (2 * c + (if slice_index_or (starts_in assigned world.channels part) c true
      then 1 else 0)))
  pub channels : AreChannels (tables part).channels

abbrev pub DivisionsLeadAway : Type 0
DivisionsLeadAway = (world : WorldState) (assigned : List ℕ) (tables : ℕ → WorldState) (states : ℕ → PartState)
    → AreChannels world.channels → IsDivided world assigned tables states
    → (part : ℕ) → LeadOut world assigned tables states part

-- how many slots a box of a part has, or a place holder of it
abbrev pub slots_at : WorldState → List ℕ → ℕ → ℕ → ℕ
slots_at world assigned part at = if nat_lt at (length (members assigned part))
    then length (box_at world (slice_index_or (members assigned part) at 0)).slots
    else length (slice_index_or (touching assigned world.channels part) (at - length (members assigned part))
    absent_channel).tunnels

-- the boxes of a part, and the place holders after them
abbrev pub homes_in : WorldState → List ℕ → ℕ → ℕ
homes_in world assigned part = length (members assigned part)
    + length (filter (is_crossing assigned part) world.channels)

-- places of slots: each of so many homes has a slot at each of so many local numbers, and each slot has a place alone
pub record AreFull (places : List (ℕ × ℕ)) (homes : ℕ) (counts : ℕ → ℕ) : Type 0 where
  pub placed : (s : ℕ) → s < length places → (slice_index_or places s (0, 0)).0 < homes
  pub slots : (s : ℕ) → s < length places
      → (slice_index_or places s (0, 0)).1 < counts (slice_index_or places s (0, 0)).0
  pub once : (s : ℕ) → s < length places → position (is_place (slice_index_or places s (0, 0))) places ≡ Some s
  pub all : (at local : ℕ) → at < homes → local < counts at
      → (s : ℕ) × (s < length places) × (slice_index_or places s (0, 0) ≡ (at, local))
  pub few : (at : ℕ) → at < homes → counts at ≤ SLOT_LIMIT

-- each slot of each box of a part and of each place holder has one number
pub record HaveNumbers (world : WorldState) (assigned : List ℕ) (tables : ℕ → WorldState) (states : ℕ → PartState)
    (part : ℕ) : Type 0 where
  pub full : AreFull (places (tables part)) (homes_in world assigned part) (slots_at world assigned part)
  pub boxes : (at : ℕ) → at < length (states part).boxes
      → length (part_box (states part) at).slots ≡ slots_at world assigned part at

abbrev pub DivisionsHaveNumbers : Type 0
DivisionsHaveNumbers = (world : WorldState) (assigned : List ℕ) (tables : ℕ → WorldState) (states : ℕ → PartState)
    → IsNumbered world → AreChannels world.channels
    → ((who : ℕ) → who < length world.boxes → length (box_at world who).slots ≤ SLOT_LIMIT)
    → IsDivided world assigned tables states → (part : ℕ) → HaveNumbers world assigned tables states part
