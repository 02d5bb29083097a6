-- What the declarations of a text keep, line by line.
use Rattle.std.specs.Prelude.{◌≡◌, ℕ, List, length, Option, Some, None}
use Rattle.mc_text.specs.NameLists.{NameLists, slot_names}
use Rattle.mc_model.specs.Worlds.{ChannelState}
use Rattle.mc_plan.specs.Plans.{slots_of}
use Rattle.mc_script.specs.Places.{Fits}
use Rattle.mc_program_lines.specs.Programs.{BlockState, FitsBox}
use Rattle.mc_lines.specs.Rules.{open_block}
use Rattle.mc_lines.specs.SoFar.{Declared, DeclaredBox}

-- a program that is open is that of a box, and its open part has the box's slots
abbrev pub IsOpenIn : NameLists → Option BlockState → Type 0
IsOpenIn names None = Unit {0}
IsOpenIn names (Some block) = FitsBox names block

-- there are as many names of boxes as boxes, with a list for each, and of each box as many of slots as channels give it
pub record NamesEach (names : NameLists) (declared : List DeclaredBox) (channels : List ChannelState) : Type 0 where
  pub listed : length names.slots ≡ length names.boxes
  pub boxes : length declared ≡ length names.boxes
  pub slots : (who : ℕ) → slots_of channels who ≡ length (slot_names names who)

-- names, shapes, and boxes and channels are of the same boxes and slots, and so is the open program
pub record IsInForm (d : Declared) : Type 0 where
  pub fits : Fits d.names d.shape
  pub named : NamesEach d.names d.boxes d.channels
  pub block : IsOpenIn d.names (open_block d)
