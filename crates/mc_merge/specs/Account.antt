-- The account of a part: what its boxes have made, and what went through its lanes.
use Rattle.std.specs.Prelude.{◌≡◌, ℕ, ◌<◌, ◌≤◌, List, ◌++◌, length, slice_index_or, []}
use Rattle.std.specs.List.{AllByRecursion}
use Rattle.mc_signal.specs.declared.Tagged.{Tagged}
use Rattle.mc_box.specs.Boxes.{BoxState, no_box}
use Rattle.mc_port.specs.Entries.{AreMade, Entry}
use Rattle.mc_merge.specs.Lanes.{FitsTunnel, leads_from, leads_to}
use Rattle.mc_model.specs.Worlds.{WorldState}
use Rattle.mc_merge.specs.Logs.{AreRising, Own, own_log, sent_by, taken_by}
use Rattle.mc_merge.specs.Passing.{LanePasses}
use Rattle.mc_port.specs.declared.stamped.Stamped.{Stamped}

-- a part: its boxes, the lanes of all channels that touch them, the stamp of its last turn, and the greatest stamp
-- that came by a ring.
-- Its tables are a world of these channels, in which boxes have the numbers that they have in the part; a channel
-- that crosses leads at its other end to a number past the last box
pub record PartState : Type 0 where
  pub boxes : List BoxState
  pub lanes : List (List Tagged)
  pub stamp : ℕ
  pub heard : ℕ

abbrev pub part_lane : PartState → ℕ → List Tagged
part_lane part lane = slice_index_or part.lanes lane []

abbrev pub part_box : PartState → ℕ → BoxState
part_box part who = slice_index_or part.boxes who no_box

-- a box of the part stands at the end of a lane from which signals come, and at that to which they go
abbrev pub ComesFromHere : WorldState → PartState → ℕ → Type 0
ComesFromHere tables part lane = leads_from tables lane < length part.boxes

abbrev pub GoesToHere : WorldState → PartState → ℕ → Type 0
GoesToHere tables part lane = leads_to tables lane < length part.boxes

-- these entries lead from the one state to the other, while rings gave this for each lane that comes in, and this was
-- put into rings of each that goes out
pub record IsPartWork (tables : WorldState) (a b : PartState) (log : List Own)
    (gave put : ℕ → List Stamped) : Type 0 where
  pub box_count : length b.boxes ≡ length a.boxes
  pub lane_count : length b.lanes ≡ length a.lanes
  pub made : (who : ℕ) → AreMade (part_box a who) (own_log who log) (part_box b who)
  pub fits : (who : ℕ) → AllByRecursion (λ (entry : Entry). FitsTunnel tables who entry.event entry.taken)
      (own_log who log)
  -- one clock for all boxes
  pub rising : AreRising a.stamp log b.stamp
  pub hears : AllByRecursion (λ (own : Own). a.heard < own.entry.stamp) log
  pub heard : a.heard ≤ b.heard
  pub came : (lane : ℕ) → AllByRecursion (λ (item : Stamped). item.stamp ≤ b.heard) (gave lane)
  pub went : (lane : ℕ) → AllByRecursion (λ (item : Stamped). a.stamp ≤ item.stamp) (put lane)
  -- inner lanes, those that come in, and those that go out
  pub inner : (lane : ℕ) → lane < length a.lanes → ComesFromHere tables a lane → GoesToHere tables a lane
      → LanePasses 0 (part_lane a lane) (taken_by tables log lane) (sent_by tables log lane) (part_lane b lane)
  pub ins : (lane : ℕ) → lane < length a.lanes → (length a.boxes ≤ leads_from tables lane) → GoesToHere tables a lane
      → LanePasses 0 (part_lane a lane) (taken_by tables log lane) (gave lane) (part_lane b lane)
  pub outs : (lane : ℕ) → lane < length a.lanes → ComesFromHere tables a lane
      → (length a.boxes ≤ leads_to tables lane) → LanePasses 1 (part_lane a lane) (put lane)
      (sent_by tables log lane) (part_lane b lane)

-- what it does in two goes is what it does in one
abbrev pub PartsJoin : Type 0
PartsJoin = (tables : WorldState) (a b c : PartState) (log log_2 : List Own) (gave gave_2 put put_2 : ℕ → List Stamped)
    → IsPartWork tables a b log gave put → IsPartWork tables b c log_2 gave_2 put_2
    → IsPartWork tables a c (log ++ log_2) (λ lane. gave lane ++ gave_2 lane) (λ lane. put lane ++ put_2 lane)
