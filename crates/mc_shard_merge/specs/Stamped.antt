-- Two lists of turns with their stamps, as one.
use Rattle.std.specs.Prelude.{ℕ, zero, suc, nat_lt, if◌then◌else◌, List, [], ◌∷◌, ◌++◌, map}
use Rattle.mc_box.specs.BoxEvents.{turn_of}
use Rattle.mc_box.specs.declared.event.Turn.{Turn}
use Rattle.mc_shard.specs.Journals.{EntryState}
use Rattle.mc_shard_merge.specs.Compared.{journal_at}
use Rattle.mc_shard_merge.specs.declared.stamped.StampedTurn.{StampedTurn}

-- the first of these, up to one whose stamp isn't lower
abbrev pub before_stamp : ℕ → List StampedTurn → List StampedTurn
before_stamp stamp [] = []
before_stamp stamp (first ∷ rest) = if nat_lt first.stamp stamp then first ∷ before_stamp stamp rest else []

-- and that one, with those after it
abbrev pub from_stamp : ℕ → List StampedTurn → List StampedTurn
from_stamp stamp [] = []
from_stamp stamp (first ∷ rest) = if nat_lt first.stamp stamp then from_stamp stamp rest else first ∷ rest

abbrev pub bare_turn : StampedTurn → Turn
bare_turn one = one.turn

-- each of the first list stands after those of the second that have lower stamps
abbrev pub merged_with : List StampedTurn → List StampedTurn → List StampedTurn
merged_with [] others = others
merged_with (turn ∷ turns) others =
    before_stamp turn.stamp others ++ turn ∷ merged_with turns (from_stamp turn.stamp others)

-- an entry's turn, by the numbers that its shard's boxes have in the world
abbrev pub stamped_turn : (ℕ → ℕ) → EntryState → StampedTurn
stamped_turn names entry = record { stamp = entry.stamp; turn = turn_of (names entry.who) entry.event }

abbrev pub stamped_turns : (ℕ → ℕ) → List EntryState → List StampedTurn
stamped_turns names journal = map (stamped_turn names) journal

-- those of the first so many shards
abbrev pub merged_stamped : ℕ → (ℕ → ℕ → ℕ) → List (List EntryState) → List StampedTurn
merged_stamped zero names journals = []
merged_stamped (suc shard) names journals =
    merged_with (stamped_turns (names shard) (journal_at journals shard)) (merged_stamped shard names journals)
