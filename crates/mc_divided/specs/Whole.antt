-- How the lanes and boxes of a network are found in its parts.
use Rattle.std.specs.Prelude.{◌≡◌, ◌<◌, ◌+◌, ◌*◌, ◌==◌, ◌++◌, ◌∷◌, if◌then◌else◌, ℕ, zero, suc, Bool, List, [], filter, length, map, slice_index_or}
use Rattle.std.specs.declared.alloc.Global.{Global}
use Rattle.std.specs.declared.vec.Vec.{Vec}
use Rattle.mc_box.specs.Boxes.{BoxState}
use Rattle.mc_part.specs.Divisions.{is_crossing, is_inner, part_of, place_in, rank}
use Rattle.mc_lane.specs.Queue.{Queue}
use Rattle.mc_merge.specs.Lanes.{absent_channel}
use Rattle.mc_model.specs.Worlds.{ChannelState}
use Rattle.mc_part.specs.declared.part_run.PartRun.{PartRun}
use Rattle.mc_signal.specs.declared.Tagged.{Tagged}
use Rattle.mc_world.specs.Lanes.{signals_of}

-- the boxes of each part, and what is under way on its lanes
abbrev pub boxes_among : List PartRun → List (List BoxState)
boxes_among runs = map (λ (run : PartRun). run.part.engine.boxes) runs

abbrev pub lanes_among : List PartRun → List (List (List Tagged))
lanes_among runs = map (λ (run : PartRun). run.part.engine.lanes) runs

abbrev pub lanes_of : List (Vec (Queue Tagged) Global) → List (List (List Tagged))
lanes_of taken = map (λ (lanes : Vec (Queue Tagged) Global). signals_of lanes.items) taken

-- the part at an end of a channel, the initiator's first
abbrev pub end_part : List ℕ → List ChannelState → (c side : ℕ) → ℕ
end_part assigned channels c side = part_of assigned (if side == 0
    then (slice_index_or channels c absent_channel).from else (slice_index_or channels c absent_channel).to)

-- the lane to an end of a channel, as the part there has it
abbrev pub lane_by : List ℕ → List ChannelState → List (List (List Tagged)) → (c side : ℕ) → List Tagged
lane_by assigned channels lanes c side = slice_index_or
    (slice_index_or lanes (end_part assigned channels c side) [])
    (2 * place_in assigned channels (end_part assigned channels c side) c + side) []

-- the two lanes of each channel
abbrev pub lanes_upto : List ℕ → List ChannelState → List (List (List Tagged)) → ℕ → List (List Tagged)
lanes_upto assigned channels lanes zero = []
lanes_upto assigned channels lanes (suc n) = lanes_upto assigned channels lanes n
    ++ (lane_by assigned channels lanes n 0 ∷ (lane_by assigned channels lanes n 1 ∷ []))

abbrev pub lanes_by : List ℕ → List ChannelState → List (List (List Tagged)) → List (List Tagged)
lanes_by assigned channels lanes = lanes_upto assigned channels lanes (length channels)

-- ---- counts

-- for each part how many of the first so many channels pass its test, and so many more
pub record AreRanks (test : ℕ → ChannelState → Bool) (base : ℕ → ℕ) (channels : List ChannelState) (n : ℕ)
    (counts : List ℕ) : Type 0 where
  pub each : (part : ℕ) → part < length counts
      → slice_index_or counts part 0 ≡ base part + rank (test part) n channels

abbrev pub no_base : ℕ → ℕ
no_base part = 0

-- inner channels come after those that cross
abbrev pub inner_base : List ℕ → List ChannelState → ℕ → ℕ
inner_base assigned channels part = length (filter (is_crossing assigned part) channels)

-- the next numbers of channels in each part, after the first so many
pub record AreCounted (assigned : List ℕ) (channels : List ChannelState) (n : ℕ)
    (crossed inner : List ℕ) : Type 0 where
  pub crossed_are : AreRanks (is_crossing assigned) no_base channels n crossed
  pub inner_are : AreRanks (is_inner assigned) (inner_base assigned channels) channels n inner
