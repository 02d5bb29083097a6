-- The line of a stop: by the place of its slot, in a world of the same shape.
use Rattle.std.proofs.Common.{◌≡◌, ℕ, List, [], ◌∷◌, refl, ap, slice_index_or}
use Rattle.mc_model.specs.Shapes.{HasShape}
use Rattle.mc_model.specs.Worlds.{ChannelState, WorldState, place, places_among}
use Rattle.mc_seq.specs.declared.stopping.SettleStop.{SettleStop}
use Rattle.mc_seq.specs.declared.stopping.SettleStop.TheVariants.{Restless, Ring, VersionEnd}
use Rattle.mc_settle_text.specs.Stops.{stop_line, stop_word}
use Rattle.mc_settle_text.specs.Words.{place_word}
use Rattle.mc_table.specs.Words.{line_of}
use Rattle.mc_text.specs.NameLists.{NameLists, slot_word}

-- the line of a stop with this word, by the slot's place
pub line_at : (names : NameLists) (world : WorldState) (word : List ℕ) (s : ℕ) (at : ℕ × ℕ) → at ≡ place world s → line_of (word ∷ slot_word names at.0 at.1 ∷ []) ≡ line_of (word ∷ place_word names world s ∷ [])
line_at names world word s at there = ap (λ (p : ℕ × ℕ). line_of (word ∷ slot_word names p.0 p.1 ∷ [])) there

-- the places of slots are those of the beginning
slot_line_same : (names : NameLists) (now start : WorldState) (word : List ℕ) (s : ℕ) → HasShape now start → line_of (word ∷ place_word names now s ∷ []) ≡ line_of (word ∷ place_word names start s ∷ [])
slot_line_same names now start word s shape =
    ap (λ (channels : List ChannelState). line_of (word ∷ slot_word names (slice_index_or (places_among channels) s (0, 0)).0 (slice_index_or (places_among channels) s (0, 0)).1 ∷ [])) shape.channels

pub stop_line_same : (names : NameLists) (now start : WorldState) (stop : SettleStop) → HasShape now start → stop_line names now stop ≡ stop_line names start stop
stop_line_same names now start (VersionEnd at) shape = slot_line_same names now start (stop_word (VersionEnd at)) at shape
stop_line_same names now start (Ring at) shape = slot_line_same names now start (stop_word (Ring at)) at shape
stop_line_same names now start (Restless at) shape = refl
