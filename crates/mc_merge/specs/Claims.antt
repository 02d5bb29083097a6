-- Logs with the stamps of what was taken: then one equation for each lane is all that the merge law asks of it.
use Rattle.std.specs.Prelude.{◌≡◌, ◌⊎◌, Bool, ℕ, ◌*◌, ◌<◌, ◌≤◌, List, [], ◌∷◌, ◌++◌, All, flat_map, length, map, slice_index_or}
use Rattle.std.specs.List.{AllByRecursion, sum_by}
use Rattle.mc_signal.specs.declared.Tagged.{Tagged}
use Rattle.mc_box.specs.BoxEvents.{turn_of}
use Rattle.mc_box.specs.Boxes.{BoxState, no_box}
use Rattle.mc_box.specs.declared.event.Event.{Event}
use Rattle.mc_port.specs.Entries.{AreMade, AreStamped, Claimed, entries_of, events_that, stamps_of}
use Rattle.mc_port.specs.Tunnels.{Tunnels, log_sends}
use Rattle.mc_merge.specs.LaneLogs.{claimed_of, claims_from, logs_of, sent_to, without_stamps}
use Rattle.mc_merge.specs.Lanes.{FitsTunnel}
use Rattle.mc_merge.specs.Merging.{IsLogged, LaneKeeps, merged}
use Rattle.mc_model.specs.Settles.{of_kind}
use Rattle.mc_model.specs.Worlds.{WorldState, box_at}
use Rattle.mc_order.specs.Keys.{IsOrdered}
use Rattle.mc_order.specs.declared.Key.{Key}
use Rattle.mc_port.specs.Ends.{with_stamp, without_stamp}
use Rattle.mc_port.specs.declared.stamped.Stamped.{Stamped}

-- ---- one lane

-- for each taking its claim: the same signal, with the stamp with which it was sent, which is below that of the taking
abbrev pub AreClaims : List Stamped → List Stamped → Type 0
AreClaims [] [] = Unit {0}
AreClaims [] (claim ∷ claims) = ⊥
AreClaims (taking ∷ taken) [] = ⊥
AreClaims (taking ∷ taken) (claim ∷ claims) =
    (without_stamp claim ≡ without_stamp taking) × (claim.stamp < taking.stamp) × AreClaims taken claims

-- where the claims, then a rest, are what was under way, with the stamp 0, then all that was sent, the lane keeps its
-- order
abbrev pub ClaimsKeep : Type 0
ClaimsKeep =
    (lane : List Tagged) (taken claims sent rest : List Stamped) → AreClaims taken claims
    → claims ++ rest ≡ map (with_stamp 0) lane ++ sent → LaneKeeps lane taken sent (without_stamps rest)

-- a lane that goes through a ring: what the taker takes and still has is what it had and what the ring gave, of which
-- it keeps nothing back; what was sent is what the ring was given, and then what it had no place for.
-- so the claims are followed by what the taker has, what the ring has left, and what had no place
abbrev pub RingKeeps : Type 0
RingKeeps = (before after : List Tagged) (claims gave left given kept : List Stamped)
    → claims ++ map (with_stamp 0) after ≡ map (with_stamp 0) before ++ gave → (gave ≡ []) ⊎ (after ≡ [])
    → gave ++ left ≡ given
    → claims ++ (map (with_stamp 0) after ++ (left ++ kept)) ≡ map (with_stamp 0) before ++ (given ++ kept)

-- ---- all logs

-- each box has a log of its own, made from the box in the world, with stamps from 1 on by these claims; what is taken
-- is for the slot that takes it; and of each lane the claims, then a rest, are what was under way and what was sent
pub record IsClaimed (world : WorldState) (logs : List (List Claimed)) (boxes : List BoxState)
    (rests : List (List Stamped)) : Type 0 where
  pub each_lane : length world.lanes ≡ 2 * length world.channels
  pub log_count : length logs ≡ length world.boxes
  pub box_count : length boxes ≡ length world.boxes
  pub lane_count : length rests ≡ length world.lanes
  pub made : (who : ℕ) → who < length world.boxes
      → AreMade (box_at world who) (entries_of (claimed_of logs who)) (slice_index_or boxes who no_box)
  pub stamps : (who : ℕ) → who < length world.boxes → AreStamped 0 (claimed_of logs who)
  pub tunnels : (who : ℕ) → who < length world.boxes
      → AllByRecursion (λ claimed. FitsTunnel world who claimed.entry.event claimed.entry.taken) (claimed_of logs who)
  pub keeps : (lane : ℕ) → lane < length world.lanes
      → claims_from world logs lane ++ slice_index_or rests lane []
      ≡ map (with_stamp 0) (slice_index_or world.lanes lane []) ++ sent_to world (logs_of logs) lane

-- such logs are what the merge law asks for
abbrev pub ClaimedAreLogged : Type 0
ClaimedAreLogged =
    (world : WorldState) (logs : List (List Claimed)) (boxes : List BoxState) (rests : List (List Stamped))
    → IsClaimed world logs boxes rests → IsLogged world (logs_of logs) boxes (map without_stamps rests)

-- and a box's turns of a kind are the events of that kind in its own log, in order
abbrev pub OwnEvents : Type 0
OwnEvents =
    (world : WorldState) (logs : List (List Claimed)) (boxes : List BoxState) (rests : List (List Stamped))
    (keys : List Key) (who : ℕ) (kind : Event → Bool)
    → IsClaimed world logs boxes rests → IsOrdered (map stamps_of (logs_of logs)) keys
    → of_kind kind who (merged (logs_of logs) keys) ≡ map (turn_of who) (events_that kind (claimed_of logs who))

-- ---- how great stamps get

-- all stamps, of all logs
abbrev pub all_stamps : List (List Claimed) → List ℕ
all_stamps logs = flat_map (λ log. stamps_of (entries_of log)) logs

-- how many entries all logs have
abbrev pub entry_count : List (List Claimed) → ℕ
entry_count logs = sum_by (λ log. length log) logs

-- no stamp is above the number of all entries
abbrev pub ClaimedStampsFit : Type 0
ClaimedStampsFit =
    (world : WorldState) (logs : List (List Claimed)) (boxes : List BoxState) (rests : List (List Stamped))
    → IsClaimed world logs boxes rests → All (λ stamp. stamp ≤ entry_count logs) (all_stamps logs)

-- nor is that of anything that a box sends at one of its ends
abbrev pub ClaimedSendsFit : Type 0
ClaimedSendsFit =
    (world : WorldState) (logs : List (List Claimed)) (boxes : List BoxState) (rests : List (List Stamped)) (who : ℕ)
    (tunnels : Tunnels)
    → IsClaimed world logs boxes rests
    → All (λ item. item.stamp ≤ entry_count logs) (log_sends tunnels (entries_of (claimed_of logs who)))
