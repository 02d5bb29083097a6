-- The shard that lists of numbers say.
use Rattle.std.specs.Prelude.{◌≡◌, ◌+◌, ◌<◌, ◌≤◌, ◌^◌, ℕ, List, [], ◌∷◌, ◌++◌, drop, length, map, replicate, slice_set, take, None}
use Rattle.mc_box.specs.Boxes.{BoxState}
use Rattle.mc_plain.specs.Asked.{SaysBox}
use Rattle.mc_plain.specs.declared.asked.PlainSlot.{PlainSlot}
use Rattle.mc_plain.specs.declared.program.PlainState.{PlainState}
use Rattle.mc_shard.specs.Shards.{AreLaid, LaidShard, first_state}
use Rattle.mc_shard.specs.States.{Places}
use Rattle.mc_shard_writer.specs.Writers.{WriterState}
use Rattle.mc_shard_c.specs.declared.answer.TheConstants.{INVALID, MEMORY}
use Rattle.mc_shard_c.specs.declared.laying.NotLaid.{NotLaid}
use Rattle.mc_shard_c.specs.declared.laying.NotLaid.TheVariants.{Invalid, NoMemory}
use Rattle.mc_shard_c.specs.declared.boxes.PlainShardBox.{PlainShardBox}
use Rattle.mc_shard_c.specs.declared.boxes.PlainShardSlot.{PlainShardSlot}

-- the code of why no shard is made
abbrev pub code_of_not_laid : NotLaid → ℕ
code_of_not_laid Invalid = INVALID
code_of_not_laid NoMemory = MEMORY

abbrev pub slot_in : PlainShardSlot → PlainSlot
slot_in plain = plain.slot

abbrev pub place_in : PlainShardSlot → ℕ × ℕ
place_in plain = (plain.end, plain.tunnel)

-- the numbers say this box, of the first of these slots and states
pub record IsFirst (plain : PlainShardBox) (slots : List PlainShardSlot) (states : List PlainState)
    (box : BoxState) : Type 0 where
  pub enough_slots : plain.slot_count ≤ length slots
  pub enough_states : plain.state_count ≤ length states
  pub says : SaysBox plain.setup (map slot_in (take plain.slot_count slots)) (take plain.state_count states) box

-- they say these boxes, each of slots and states that those before it left, and none is left at the end
abbrev pub AreBoxes : List PlainShardBox → List PlainShardSlot → List PlainState → List BoxState → Type 0
AreBoxes [] slots states [] = (slots ≡ []) × (states ≡ [])
AreBoxes [] slots states (box ∷ boxes) = ⊥
AreBoxes (plain ∷ plains) slots states [] = ⊥
AreBoxes (plain ∷ plains) slots states (box ∷ boxes) = IsFirst plain slots states box
    × AreBoxes plains (drop plain.slot_count slots) (drop plain.state_count states) boxes

-- they say none
abbrev pub CannotBe : List PlainShardBox → List PlainShardSlot → List PlainState → Type 0
CannotBe plains slots states = (boxes : List BoxState) → AreBoxes plains slots states boxes → ⊥

-- the places of each box's slots
abbrev pub places_in : List PlainShardBox → List PlainShardSlot → Places
places_in [] slots = []
places_in (plain ∷ plains) slots =
    map place_in (take plain.slot_count slots) ∷ places_in plains (drop plain.slot_count slots)

-- the end of each of these places is this box's, where it is there
abbrev pub owned_by : ℕ → List (ℕ × ℕ) → List ℕ → List ℕ
owned_by who [] owners = owners
owned_by who (place ∷ places) owners = owned_by who places (slice_set owners place.0 who)

-- and so for each box, from a number on
abbrev pub owned_from : ℕ → Places → List ℕ → List ℕ
owned_from who [] owners = owners
owned_from who (places ∷ rest) owners = owned_from (who + 1) rest (owned_by who places owners)

-- for each end the last box that has a slot there, and the first box where none has
abbrev pub owners_in : List PlainShardBox → List PlainShardSlot → ℕ → List ℕ
owners_in plains slots ends = owned_from 0 (places_in plains slots) (replicate ends 0)

-- one box more, which these numbers say
pub record HasAdded (old new : List BoxState) (plain : PlainShardBox) (slots : List PlainShardSlot)
    (states : List PlainState) : Type 0 where
  pub box : BoxState
  pub says : SaysBox plain.setup (map slot_in slots) states box
  pub is : new ≡ old ++ box ∷ []

-- the numbers say this shard, as it is when it is new
pub record SaysShard (plains : List PlainShardBox) (slots : List PlainShardSlot) (states : List PlainState)
    (ends askers : ℕ) (shard : LaidShard) : Type 0 where
  pub boxes : List BoxState
  pub few : length plains < 2 ^ 32
  pub are : AreBoxes plains slots states boxes
  pub laid : AreLaid boxes (places_in plains slots) (owners_in plains slots ends)
  pub is : shard ≡ record {
    places = places_in plains slots;
    owners = owners_in plains slots ends;
    state = first_state boxes ends askers;
  }

-- they say none
abbrev pub SaysNoShard : List PlainShardBox → List PlainShardSlot → List PlainState → ℕ → ℕ → Type 0
SaysNoShard plains slots states ends askers =
    (shard : LaidShard) → SaysShard plains slots states ends askers shard → ⊥

-- they say this shard, and no entry waits
pub record SaysWriter (plains : List PlainShardBox) (slots : List PlainShardSlot) (states : List PlainState)
    (ends askers : ℕ) (writer : WriterState) : Type 0 where
  pub free : writer.made ≡ None
  pub shard : SaysShard plains slots states ends askers writer.shard

-- the boxes so far, and those that are left, make the whole
pub record StillLays (plains : List PlainShardBox) (slots : List PlainShardSlot) (states : List PlainState) (ends : ℕ)
    (rest : List PlainShardBox) (rest_slots : List PlainShardSlot) (rest_states : List PlainState) (who : ℕ)
    (boxes : List BoxState) (places : Places) (owners : List ℕ) : Type 0 where
  pub boxes_are : (more : List BoxState) → AreBoxes rest rest_slots rest_states more
      → AreBoxes plains slots states (boxes ++ more)
  pub none : CannotBe rest rest_slots rest_states → CannotBe plains slots states
  pub places_are : places ++ places_in rest rest_slots ≡ places_in plains slots
  pub owners_are : owned_from who (places_in rest rest_slots) owners ≡ owners_in plains slots ends

-- where any boxes of channel ends make a shard, those that are found do
abbrev pub OwnersFit : Type 0
OwnersFit = (boxes : List BoxState) (places : Places) (owners : List ℕ) → AreLaid boxes places owners
    → AreLaid boxes places (owned_from 0 places (replicate (length owners) 0))
