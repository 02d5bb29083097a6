-- What is carried over from part to part between two phases, by a lane that crosses.
use Rattle.std.specs.Prelude.{◌≡◌, ◌≢◌, ℕ, ◌/◌, ◌<◌, ◌≤◌, IsTrue, List, [], ◌++◌, length, map, slice_get, slice_index_or, slice_set, Option, Some, None}
use Rattle.std.specs.List.{AllByRecursion}
use mathlib.Core.List.{IsPrefix}
use Rattle.mc_signal.specs.declared.Tagged.{Tagged}
use Rattle.mc_merge.specs.LaneLogs.{without_stamps}
use Rattle.mc_merge.specs.Lanes.{absent_channel, leads_to}
use Rattle.mc_model.specs.Worlds.{WorldState, channel_number_limit, lane_of, number, place, slot_count}
use Rattle.mc_port.specs.Ends.{IsPair, given, in_ring, known, left_in, out_ring, received}
use Rattle.mc_port.specs.declared.stamped.Stamped.{Stamped}
use Rattle.mc_merge.specs.Account.{ComesFromHere, IsPartWork, PartState, part_lane}
use Rattle.mc_merge.specs.Logs.{Own}
use Rattle.mc_world.specs.Pumping.{is_slot_at}
use Rattle.mc_part.specs.Parts.{state_of, tables_of}
use Rattle.mc_part.specs.Ports.{entry_slot, into_lane, out_lane, rings_of, sides}
use Rattle.mc_part.specs.declared.part.Part.{Part}
use Rattle.mc_part.specs.declared.port.Port.{Port}

-- ---- tunnels

abbrev pub tunnel_count : WorldState → ℕ → ℕ
tunnel_count tables channel = length (slice_index_or tables.channels channel absent_channel).tunnels

-- all of these signals are for tunnels below a number
abbrev pub AreFor : ℕ → List Tagged → Type 0
AreFor count signals = AllByRecursion (λ (tagged : Tagged). tagged.tunnel < count) signals

-- the port has a slot for each tunnel of its channel
abbrev pub AllComeIn : WorldState → ℕ → Port → Type 0
AllComeIn tables channel port = (tunnel : ℕ) → tunnel < tunnel_count tables channel
    → IsTrue (is_slot_at tables (into_lane channel port.starts_here) tunnel (entry_slot port tunnel))

-- a place holder has a slot for this tunnel of a lane
pub record HoldsAt (tables : WorldState) (holder lane tunnel : ℕ) : Type 0 where
  pub local : ℕ
  pub slot : ℕ
  pub number : number tables holder local ≡ Some slot
  pub leads : IsTrue (is_slot_at tables lane tunnel slot)

-- the port's place holder has one for each tunnel of the channel, and has no others
pub record AllGoOut (tables : WorldState) (channel : ℕ) (port : Port) : Type 0 where
  pub held : (tunnel : ℕ) → tunnel < tunnel_count tables channel
      → HoldsAt tables port.holder (out_lane channel port.starts_here) tunnel
  pub alone : (slot : ℕ) → slot < slot_count tables → (place tables slot).0 ≡ port.holder
      → lane_of tables slot ≡ out_lane channel port.starts_here

-- ---- a lane that crosses

-- what waits before a ring, and the lane that is taken from beyond it
abbrev pub waiting_at : Part → ℕ → Port → List Tagged
waiting_at part channel port = part_lane (state_of part) (out_lane channel port.starts_here)

abbrev pub lane_at : Part → ℕ → Port → List Tagged
lane_at part channel port = part_lane (state_of part) (into_lane channel port.starts_here)

-- two parts have the ends of one ring in these ports; and all that is under way between them is for tunnels of the
-- channel, of which each comes in at the one and goes out at the other
pub record CanCarry (from to : Part) (sender taker : ℕ) : Type 0 where
  pub out : Port
  pub into : Port
  pub sends : slice_get from.ports.items sender ≡ Some out
  pub takes : slice_get to.ports.items taker ≡ Some into
  pub pair : IsPair out.to into.from
  pub sender_few : sender < channel_number_limit
  pub taker_few : taker < channel_number_limit
  pub one_count : tunnel_count (tables_of from) sender ≡ tunnel_count (tables_of to) taker
  pub goes : AllGoOut (tables_of from) sender out
  pub comes : AllComeIn (tables_of to) taker into
  pub left : AreFor (tunnel_count (tables_of to) taker) (without_stamps (left_in out.to into.from))
  pub waiting : AreFor (tunnel_count (tables_of to) taker) (waiting_at from sender out)

-- all that is under way on the lane: what can be taken, what is left in the ring, and what waits before it
abbrev pub under_way : (from to : Part) (sender taker : ℕ) → CanCarry from to sender taker → List Tagged
under_way from to sender taker can =
    lane_at to taker can.into ++ (without_stamps (left_in can.out.to can.into.from) ++ waiting_at from sender can.out)

-- nothing of a part changed but what one lane has, and one port, which is at its ends of its rings still
pub record IsSameBut (a b : Part) (channel lane : ℕ) (port port_2 : Port) : Type 0 where
  pub ports : b.ports.items ≡ slice_set a.ports.items channel port_2
  pub sides_are : sides b.ports.items ≡ sides a.ports.items
  pub rings_are : map rings_of b.ports.items ≡ map rings_of a.ports.items
  pub port_is : port_2 ≡ record port { from = port_2.from; to = port_2.to }
  pub in_ring_is : in_ring port_2.from ≡ in_ring port.from
  pub out_ring_is : out_ring port_2.to ≡ out_ring port.to
  pub boxes : b.engine.boxes ≡ a.engine.boxes
  pub channels : b.engine.channels ≡ a.engine.channels
  pub lane_count : length b.engine.lanes ≡ length a.engine.lanes
  pub lanes : (other : ℕ) → other ≢ lane → part_lane (state_of b) other ≡ part_lane (state_of a) other
  pub kept : b ≡ record a { engine = b.engine; ports = b.ports }

-- something is carried on, or nothing: what is under way stays the same, in its order, and so does all else
pub record Carries (from from_2 to to_2 : Part) (sender taker : ℕ) (old : CanCarry from to sender taker)
    (new : CanCarry from_2 to_2 sender taker) : Type 0 where
  pub items : List Stamped
  pub from_same : IsSameBut from from_2 sender (out_lane sender old.out.starts_here) old.out new.out
  pub to_same : IsSameBut to to_2 taker (into_lane taker old.into.starts_here) old.into new.into
  pub given_is : given new.out.to ≡ given old.out.to
  pub received_is : received new.into.from ≡ received old.into.from ++ items
  pub left_is : left_in old.out.to old.into.from ≡ items ++ left_in new.out.to new.into.from
  pub out_from : new.out.from ≡ old.out.from
  pub into_to : new.into.to ≡ old.into.to
  pub kept : under_way from_2 to_2 sender taker new ≡ under_way from to sender taker old

-- so it is from there on
pub record GoesOver (from to : Part) (sender taker : ℕ) (old : CanCarry from to sender taker)
    (from_2 to_2 : Part) : Type 0 where
  pub new : CanCarry from_2 to_2 sender taker
  pub carries : Carries from from_2 to to_2 sender taker old new

-- nothing is lost
pub record LosesNothing (from from_2 to to_2 : Part) (sender taker : ℕ) : Type 0 where
  pub old : CanCarry from to sender taker
  pub over : GoesOver from to sender taker old from_2 to_2

-- all is carried over: nothing is left in the ring, and nothing waits before it. What the taking end knew of was a
-- beginning of what was left
pub record CarriesAll (from from_2 to to_2 : Part) (sender taker : ℕ) : Type 0 where
  pub old : CanCarry from to sender taker
  pub over : GoesOver from to sender taker old from_2 to_2
  pub left : List Stamped
  pub all : received old.into.from ++ left ≡ given old.out.to
  pub knew : IsPrefix (known old.into.from) left
  pub came : lane_at to_2 taker old.into ≡ lane_at to taker old.into
      ++ (without_stamps left ++ waiting_at from sender old.out)
  pub empty : waiting_at from_2 sender old.out ≡ []
  pub even : received over.new.into.from ≡ given over.new.out.to

-- ---- one step of it

-- what the taking end knows of is a beginning of what is left in the ring
abbrev pub Knew : (from to : Part) (sender taker : ℕ) → Type 0
Knew from to sender taker = (can : CanCarry from to sender taker) → IsPrefix (known can.into.from)
    (left_in can.out.to can.into.from)

-- the ring is empty, and so is what waits before it
abbrev pub HasNoneLeft : (from to : Part) (sender taker : ℕ) → Type 0
HasNoneLeft from to sender taker = (can : CanCarry from to sender taker) → received can.into.from ≡ given can.out.to

abbrev pub HasNoneWaiting : (from to : Part) (sender taker : ℕ) → Type 0
HasNoneWaiting from to sender taker = (can : CanCarry from to sender taker) → waiting_at from sender can.out ≡ []

-- how many items are left between two ports, and how many signals wait before one
abbrev pub left_between : Option Port → Option Port → ℕ
left_between None into = 0
left_between (Some out) None = 0
left_between (Some out) (Some into) = length (left_in out.to into.from)

abbrev pub left_count : (from to : Part) (sender taker : ℕ) → ℕ
left_count from to sender taker = left_between (slice_get from.ports.items sender) (slice_get to.ports.items taker)

abbrev pub waiting_by : Part → ℕ → Option Port → ℕ
waiting_by part channel None = 0
waiting_by part channel (Some port) = length (waiting_at part channel port)

abbrev pub waiting_before : Part → ℕ → ℕ
waiting_before part channel = waiting_by part channel (slice_get part.ports.items channel)

-- ---- a law

-- what went into the ring by a lane, and what waits before it in the end, is for tunnels of the lane's channel
pub record FitsChannel (tables : WorldState) (end : PartState) (put : ℕ → List Stamped) (lane : ℕ) : Type 0 where
  pub went : AreFor (tunnel_count tables (lane / 2)) (without_stamps (put lane))
  pub waits : AreFor (tunnel_count tables (lane / 2)) (part_lane end lane)

-- so it is where that holds of what waited at the beginning: boxes send for tunnels of their channels alone
abbrev pub WorkFitsChannels : Type 0
WorkFitsChannels = (tables : WorldState) (a b : PartState) (log : List Own) (gave put : ℕ → List Stamped) (lane : ℕ)
    → IsPartWork tables a b log gave put → lane < length a.lanes → ComesFromHere tables a lane
    → length a.boxes ≤ leads_to tables lane → AreFor (tunnel_count tables (lane / 2)) (part_lane a lane)
    → FitsChannel tables b put lane

-- and so is what is left of it
abbrev pub LeftFitsChannel : Type 0
LeftFitsChannel = (count : ℕ) (gave left put : List Stamped) → gave ++ left ≡ put → AreFor count (without_stamps put)
    → AreFor count (without_stamps left)
