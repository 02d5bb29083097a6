-- The journal of a shard, and what it says of the lanes at its channel ends.
use Rattle.std.specs.Prelude.{◌≡◌, ◌⊎◌, ◌==◌, ℕ, ◌+◌, if◌then◌else◌, List, [], ◌∷◌, ◌++◌, Option, Some, None}
use Rattle.mc_box.specs.declared.event.Event.{Event}
use Rattle.mc_shard.specs.declared.entry.Asked.{Asked}
use Rattle.mc_shard.specs.declared.entry.AtEnd.{AtEnd}
use Rattle.mc_shard.specs.declared.entry.Numbered.{Numbered}

-- an entry of a journal, which is one turn: of which box, by its number in the shard, with which stamp, which event,
-- which request asked for it, what it took, and what it sent, in order
pub record EntryState : Type 0 where
  pub who : ℕ
  pub stamp : ℕ
  pub event : Event
  pub asked : Option Asked
  pub taken : Option AtEnd
  pub sent : List AtEnd

-- the signals of one end
abbrev pub items_at : ℕ → List AtEnd → List Numbered
items_at end [] = []
items_at end (one ∷ rest) = (if one.end == end then one.item ∷ [] else []) ++ items_at end rest

abbrev pub taken_list : Option AtEnd → List AtEnd
taken_list None = []
taken_list (Some one) = one ∷ []

-- a lane is nothing but what the sender's journal says: all that was sent at an end, in order
abbrev pub sent_at : ℕ → List EntryState → List Numbered
sent_at end [] = []
sent_at end (entry ∷ entries) = items_at end entry.sent ++ sent_at end entries

-- and all that was taken there
abbrev pub taken_at : ℕ → List EntryState → List Numbered
taken_at end [] = []
taken_at end (entry ∷ entries) = items_at end (taken_list entry.taken) ++ taken_at end entries

-- each number is one more than the one before it
abbrev pub AreNumbered : ℕ → List Numbered → Type 0
AreNumbered last [] = Unit {0}
AreNumbered last (item ∷ items) = (item.number ≡ last + 1) × AreNumbered item.number items

-- it is one of these
abbrev pub IsAmong : List Numbered → Numbered → Type 0
IsAmong [] item = ⊥
IsAmong (first ∷ items) item = (first ≡ item) ⊎ IsAmong items item

-- each of the first list is one of the second
abbrev pub AreAllAmong : List Numbered → List Numbered → Type 0
AreAllAmong items others = (item : Numbered) → IsAmong items item → IsAmong others item
