-- Shards that together hold the boxes of a world.
use Rattle.std.specs.Prelude.{◌≡◌, ℕ, ◌+◌, ◌*◌, ◌<◌, ◌≤◌, List, [], ◌++◌, drop, length, map, slice_get, slice_index_or, Some}
use Rattle.std.specs.Option.{option_map}
use Rattle.mc_signal.specs.declared.Tagged.{Tagged}
use Rattle.mc_box.specs.Boxes.{BoxState, no_box}
use Rattle.mc_port.specs.Entries.{Entry}
use Rattle.mc_port.specs.Tunnels.{Tunnels, tunnels_at}
use Rattle.mc_merge.specs.LaneLogs.{log_of}
use Rattle.mc_merge.specs.Lanes.{into_box, leads_from, leads_to, out_of_box, tunnel_at}
use Rattle.mc_merge.specs.Logs.{Own, own_log}
use Rattle.mc_merge.specs.Merging.{IsLogged}
use Rattle.mc_merge.specs.Order.{IsMerged, turns_of}
use Rattle.mc_merge.specs.Together.{Homes}
use Rattle.mc_model.specs.Steps.{run}
use Rattle.mc_model.specs.Worlds.{WorldState, box_at}
use Rattle.mc_shard.specs.Journals.{AreAllAmong, AreNumbered, EntryState, sent_at, taken_at}
use Rattle.mc_shard.specs.States.{IsJournal, Places, ShardState, box_in, count_at, places_of, state_after}
use Rattle.mc_shard.specs.declared.entry.Numbered.{Numbered}
use Rattle.mc_shard_laws.specs.Logs.{owns, tagged}

-- a shard by its journal so far: the places of its boxes' slots, its first state, and the entries
pub record Journalled : Type 0 where
  pub places : Places
  pub first : ShardState
  pub journal : List EntryState

-- the state that it is in
abbrev pub state_of : Journalled → ShardState
state_of shard = state_after shard.first shard.journal

-- ---- lanes

-- which tunnel of an end each slot of a box has
abbrev pub end_tunnels : Places → ℕ → ℕ → Tunnels
end_tunnels places who end = tunnels_at (places_of places who) end

-- no slot of another box is at this end
abbrev pub HasEnd : Places → ℕ → ℕ → Type 0
HasEnd places end who = (other local tunnel : ℕ) → slice_get (places_of places other) local ≡ Some (end, tunnel)
    → other ≡ who

-- what was sent and isn't taken yet
abbrev pub under_way : List Numbered → List Numbered → List Numbered
under_way taken sent = drop (length taken) sent

-- a lane of the world leads from an end of one shard to one of another, or of the same; and each signal that was taken
-- there was sent here, as it stands in the two journals
pub record JoinsEnds (world : WorldState) (homes : Homes) (shards : ℕ → Journalled) (lane : ℕ)
    (rest : List Tagged) : Type 0 where
  pub from : ℕ
  pub sender : ℕ
  pub out : ℕ
  pub to : ℕ
  pub taker : ℕ
  pub into : ℕ
  -- where the two boxes are
  pub sender_home : homes (leads_from world lane) ≡ (from, sender)
  pub taker_home : homes (leads_to world lane) ≡ (to, taker)
  -- and their slots
  pub out_tunnels : (local : ℕ) → out_of_box world (leads_from world lane) lane local
      ≡ end_tunnels (shards from).places sender out local
  pub into_tunnels : (local : ℕ) → into_box world (leads_to world lane) lane local
      ≡ end_tunnels (shards to).places taker into local
  pub out_owner : HasEnd (shards from).places out sender
  pub into_owner : HasEnd (shards to).places into taker
  -- nothing was sent or taken before the journals
  pub out_there : out < length (shards from).first.sent
  pub into_there : into < length (shards to).first.taken
  pub none_sent : count_at (shards from).first.sent out ≡ 0
  pub none_taken : count_at (shards to).first.taken into ≡ 0
  -- each take has its sending
  pub has_sending : AreAllAmong (taken_at into (shards to).journal) (sent_at out (shards from).journal)
  pub rest_is : rest ≡ map tagged (under_way (taken_at into (shards to).journal) (sent_at out (shards from).journal))

-- ---- boxes

-- a box of the world stands in its shard, whose journal each of its entries may follow
pub record StandsIn (world : WorldState) (homes : Homes) (shards : ℕ → Journalled) (boxes : List BoxState)
    (who : ℕ) : Type 0 where
  pub journal : IsJournal (shards (homes who).0).places (shards (homes who).0).first (shards (homes who).0).journal
  pub before : box_in (shards (homes who).0).first (homes who).1 ≡ box_at world who
  pub after : box_in (state_of (shards (homes who).0)) (homes who).1 ≡ slice_index_or boxes who no_box
  pub tunnels : (local : ℕ) → tunnel_at world who local
      ≡ option_map (λ place. place.1) (slice_get (places_of (shards (homes who).0).places (homes who).1) local)

-- ---- all of it

-- each box of the world stands in a shard, and each lane joins two ends; nothing is under way at the beginning
pub record AreShardsOf (world : WorldState) (homes : Homes) (shards : ℕ → Journalled) (logs : List (List Entry))
    (boxes : List BoxState) (rests : List (List Tagged)) : Type 0 where
  pub each_lane : length world.lanes ≡ 2 * length world.channels
  pub log_count : length logs ≡ length world.boxes
  pub box_count : length boxes ≡ length world.boxes
  pub lane_count : length rests ≡ length world.lanes
  pub ends_stand : (lane : ℕ) → lane < length world.lanes
      → (leads_from world lane < length world.boxes) × (leads_to world lane < length world.boxes)
  pub logs_are : (who : ℕ) → log_of logs who
      ≡ own_log (homes who).1 (owns (shards (homes who).0).first (shards (homes who).0).journal)
  pub stand : (who : ℕ) → who < length world.boxes → StandsIn world homes shards boxes who
  pub quiet : (lane : ℕ) → slice_index_or world.lanes lane [] ≡ []
  pub joined : (lane : ℕ) → lane < length world.lanes
      → JoinsEnds world homes shards lane (slice_index_or rests lane [])

-- all shards have one clock
abbrev pub one_clock : ℕ → ℕ
one_clock who = 0

-- ---- laws

-- signals of one lane, each with the next number: where each of the first list is among the second, the first is a
-- front of the second
abbrev pub TakenIsFront : Type 0
TakenIsFront = (last : ℕ) (taken sent : List Numbered) → AreNumbered last taken → AreNumbered last sent
    → AreAllAmong taken sent → taken ++ under_way taken sent ≡ sent

-- the same where the sender's journal is cut so many signals before what was taken when the taker's was: so what is
-- taken may be cut
abbrev pub TakenFromCut : Type 0
TakenFromCut = (last more : ℕ) (taken sent : List Numbered) → AreNumbered (last + more) taken → AreNumbered last sent
    → more ≤ length sent → AreAllAmong taken sent → taken ++ under_way taken (drop more sent) ≡ drop more sent

-- their logs, box by box, are what the merge law asks for
abbrev pub ShardsAreLogged : Type 0
ShardsAreLogged = (world : WorldState) (homes : Homes) (shards : ℕ → Journalled) (logs : List (List Entry))
    (boxes : List BoxState) (rests : List (List Tagged))
    → AreShardsOf world homes shards logs boxes rests → IsLogged world logs boxes rests

-- and in the order of stamps they are one run
abbrev pub ShardsRun : Type 0
ShardsRun = (world : WorldState) (homes : Homes) (shards : ℕ → Journalled) (logs : List (List Entry))
    (boxes : List BoxState) (rests : List (List Tagged)) (whole : List Own)
    → AreShardsOf world homes shards logs boxes rests → IsMerged one_clock logs whole
    → run world (turns_of whole) ≡ Some (record world { boxes = boxes; lanes = rests })
