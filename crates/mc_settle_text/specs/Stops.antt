-- The one line that is printed of a settle that stopped.
use Rattle.std.specs.Prelude.{ℕ, List, [], ◌∷◌, codes}
use Rattle.mc_model.specs.Worlds.{WorldState}
use Rattle.mc_seq.specs.declared.stopping.SettleStop.{SettleStop}
use Rattle.mc_seq.specs.declared.stopping.SettleStop.TheVariants.{Restless, Ring, VersionEnd}
use Rattle.mc_settle_text.specs.Words.{box_word, place_word}
use Rattle.mc_table.specs.Words.{line_of}
use Rattle.mc_text.specs.NameLists.{NameLists}

-- the word for why it stopped
abbrev pub stop_word : SettleStop → List ℕ
stop_word (VersionEnd at) = codes "version"
stop_word (Ring at) = codes "ring"
stop_word (Restless at) = codes "restless"

-- where it stopped: a slot by its place in a world, or a box
abbrev pub stop_place : NameLists → WorldState → SettleStop → List ℕ
stop_place names world (VersionEnd at) = place_word names world at
stop_place names world (Ring at) = place_word names world at
stop_place names world (Restless at) = box_word names at

abbrev pub stop_line : NameLists → WorldState → SettleStop → List ℕ
stop_line names world stop = line_of (stop_word stop ∷ stop_place names world stop ∷ [])
