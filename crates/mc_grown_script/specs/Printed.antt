-- What is printed at the settles of a network that grows, by the path table, and where a script stops.
use Rattle.std.specs.Prelude.{ℕ, ◌+◌, List, [], ◌∷◌, ◌++◌, codes}
use Rattle.mc_growth.specs.Growths.{GrownState, network_paths}
use Rattle.mc_grown_script.specs.declared.stop.GrownStop.{GrownStop}
use Rattle.mc_grown_script.specs.declared.stop.GrownStop.TheVariants.{Cut, Settle}
use Rattle.mc_model.specs.Worlds.{WorldState}
use Rattle.mc_settle_text.specs.Paths.{paths_text}
use Rattle.mc_settle_text.specs.Stops.{stop_place as settle_place, stop_word as settle_word}
use Rattle.mc_settle_text.specs.Words.{place_word}
use Rattle.mc_table.specs.Words.{line_of}
use Rattle.mc_text.specs.NameLists.{NameLists}

-- ---- settles

-- a settle by its number: each path of the network once, in the order of the lower end slots
abbrev pub network_text : NameLists → ℕ → GrownState → List ℕ
network_text names number network = paths_text names number network.world (network_paths network)

-- several settles, numbered from a number on, by the networks after them
abbrev pub networks_text : NameLists → ℕ → List GrownState → List ℕ
networks_text names number [] = []
networks_text names number (network ∷ networks) =
    network_text names number network ++ networks_text names (number + 1) networks

-- ---- a stop

-- the word for why a script stopped
abbrev pub stop_word : GrownStop → List ℕ
stop_word (Settle stop) = settle_word stop
stop_word (Cut at) = codes "cut"

-- where it stopped: a slot by its place in a world, or a box
abbrev pub stop_place : NameLists → WorldState → GrownStop → List ℕ
stop_place names world (Settle stop) = settle_place names world stop
stop_place names world (Cut at) = place_word names world at

-- the one line for a script that stopped
abbrev pub stop_line : NameLists → WorldState → GrownStop → List ℕ
stop_line names world stop = line_of (stop_word stop ∷ stop_place names world stop ∷ [])
