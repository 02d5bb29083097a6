-- One turn of a part.
use Rattle.std.specs.Prelude.{◌≡◌, ℕ, ◌+◌, ◌<◌, List, [], ◌∷◌, ◌++◌, length, max, slice_set, Some}
use Rattle.mc_signal.specs.declared.Tagged.{Tagged}
use Rattle.mc_box.specs.BoxEvents.{box_event}
use Rattle.mc_port.specs.Entries.{signal_in}
use Rattle.mc_merge.specs.LaneLogs.{without_stamps}
use Rattle.mc_merge.specs.Lanes.{FitsTunnel}
use Rattle.mc_model.specs.Worlds.{WorldState}
use Rattle.mc_merge.specs.Account.{IsPartWork, PartState, part_box, part_lane}
use Rattle.mc_merge.specs.Logs.{Own, sent_by, taken_by}
use Rattle.mc_port.specs.declared.stamped.Stamped.{Stamped}

abbrev pub no_items : ℕ → List Stamped
no_items lane = []

-- a lane after a turn: what the box takes leaves its front, and what the box sends comes to its end
pub record LaneTurns (before after : List Tagged) (taken sent : List Stamped) : Type 0 where
  pub left : List Tagged
  pub front : before ≡ without_stamps taken ++ left
  pub back : after ≡ left ++ without_stamps sent

-- one of its boxes makes an event, with the next stamp
pub record IsTurn (tables : WorldState) (a b : PartState) (own : Own) : Type 0 where
  pub here : own.who < length a.boxes
  pub makes : box_event (part_box a own.who) own.entry.event (signal_in own.entry.taken)
      ≡ Some (record { sent = own.entry.sent; after = own.entry.after })
  pub fits : FitsTunnel tables own.who own.entry.event own.entry.taken
  pub boxes : b.boxes ≡ slice_set a.boxes own.who own.entry.after
  pub lane_count : length b.lanes ≡ length a.lanes
  pub lanes : (lane : ℕ) → lane < length a.lanes → LaneTurns (part_lane a lane) (part_lane b lane)
      (taken_by tables (own ∷ []) lane) (sent_by tables (own ∷ []) lane)
  pub next : own.entry.stamp ≡ max a.stamp a.heard + 1
  pub stamp : b.stamp ≡ own.entry.stamp
  pub heard : b.heard ≡ a.heard

abbrev pub TurnsAreWork : Type 0
TurnsAreWork = (tables : WorldState) (a b : PartState) (own : Own) → IsTurn tables a b own
    → IsPartWork tables a b (own ∷ []) no_items no_items
