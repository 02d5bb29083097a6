-- A journal as a list of entries: each of its lines, with what stands before it.
use Rattle.std.specs.Prelude.{ℕ, ◌+◌, List, [], ◌∷◌, ◌++◌, map, Option, None, Some}
use Rattle.std.specs.List.{range_with_len}
use Rattle.std.specs.Option.{unwrap_or}
use Rattle.mc_box.specs.declared.event.Turn.{Turn}
use Rattle.mc_cause.specs.Causes.{why}
use Rattle.mc_model.specs.Steps.{step}
use Rattle.mc_model.specs.Worlds.{WorldState, slot_count}
use Rattle.mc_script.specs.declared.command.JournalLine.{JournalLine}
use Rattle.mc_script.specs.declared.command.JournalLine.TheVariants.{Turn as Made, Settled}
use Rattle.mc_ladder_choice.specs.declared.count.Count.{Count}

-- a line of a journal, how many turns and settles stand before it, the world that they leave, and of each slot of that
-- world, by its number, why it is closed
pub record Entry : Type 0 where
  pub world : WorldState
  pub whys : List (Option ℕ)
  pub count : Count
  pub line : JournalLine

-- nothing stands before it
abbrev pub first_count : Count
first_count = record { turns = 0; settles = 0 }

-- after one line more
abbrev pub count_after : Count → JournalLine → Count
count_after count (Made turn) = record { turns = count.turns + 1; settles = count.settles }
count_after count Settled = record { turns = count.turns; settles = count.settles + 1 }

-- the world after a turn of a journal
abbrev pub next_world : WorldState → Turn → WorldState
next_world world turn = unwrap_or (step world turn) world

-- the world after a line
abbrev pub world_after : WorldState → JournalLine → WorldState
world_after world (Made turn) = next_world world turn
world_after world Settled = world

-- ---- why slots are closed

-- the turns that were made, after one more: a turn that can't happen isn't, and leads to no world
abbrev pub made_by : (next : Option WorldState) → List Turn → Turn → List Turn
made_by None made turn = made
made_by (Some next) made turn = made ++ turn ∷ []

-- the same after a line more
abbrev pub made_after : WorldState → List Turn → JournalLine → List Turn
made_after world made (Made turn) = made_by (step world turn) made turn
made_after world made Settled = made

-- why so many slots are closed, by their numbers, after these turns
abbrev pub whys_after : (first : WorldState) → List Turn → (slots : ℕ) → List (Option ℕ)
whys_after first made slots = map (why first made) (range_with_len 0 slots)

-- ---- the entries

abbrev pub entry_at : WorldState → List (Option ℕ) → Count → JournalLine → Entry
entry_at world whys count line = record { world = world; whys = whys; count = count; line = line }

-- the entries of these lines, in a world and after so many turns and settles, of which these turns were made, from the
-- first world on
abbrev pub entries_from : (first : WorldState) → List Turn → WorldState → Count → List JournalLine → List Entry
entries_from first made world count [] = []
entries_from first made world count (line ∷ lines) =
    entry_at world (whys_after first made (slot_count world)) count line
    ∷ entries_from first (made_after world made line) (world_after world line) (count_after count line) lines

-- those of a journal, from the first world of a network on
abbrev pub entries_of : WorldState → List JournalLine → List Entry
entries_of world journal = entries_from world [] world first_count journal
