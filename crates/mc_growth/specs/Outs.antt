-- Channels that are out of the network: which slots are, what a channel that is cut must be, and what paths are left.
use Rattle.std.specs.Prelude.{◌≡◌, ◌<◌, ◌==◌, ◌&&◌, ◌||◌, not, ℕ, Bool, true, false, List, [], filter, length, map, slice_index_or, Option, None}
use Rattle.std.specs.List.{enumerate_from, find, range_with_len, list_any}
use Rattle.mc_slot.specs.declared.Goal.TheVariants.{Close as ToClose}
use Rattle.mc_slot.specs.declared.SlotGoal.{SlotGoal}
use Rattle.mc_slot.specs.declared.SlotGoal.TheVariants.{End}
use Rattle.mc_slot.specs.declared.State.{State}
use Rattle.mc_slot.specs.declared.State.TheVariants.{Closed}
use Rattle.mc_box.specs.declared.event.Change.TheVariants.{End as NewEnd, Link as NewLink}
use Rattle.mc_box.specs.declared.event.Event.{Event}
use Rattle.mc_box.specs.declared.event.Event.TheVariants.{Set}
use Rattle.mc_box.specs.declared.event.Turn.{Turn}
use Rattle.mc_model.specs.Paths.{PathEnds, paths}
use Rattle.mc_model.specs.Worlds.{WorldState, box_at, goal_of, list_to, place, slot_count, slot_of, tunnel_of}

-- ---- slots that are out

-- whether a slot is out, by the flags of all slots
abbrev pub is_out : List Bool → ℕ → Bool
is_out out s = slice_index_or out s false

-- the channel of a slot
abbrev pub channel_at : WorldState → ℕ → ℕ
channel_at world s = (tunnel_of world s).channel

-- whether a slot is one of a channel's
abbrev pub is_of : WorldState → ℕ → ℕ → Bool
is_of world channel s = channel_at world s == channel

-- the box of a slot has no program
abbrev pub IsUnprogrammed : WorldState → ℕ → Type 0
IsUnprogrammed world s = (box_at world (place world s).0).program ≡ None

-- an idle slot: it is closed and to close, nothing is under way to it, and no program will set it another goal
pub record IsIdle (world : WorldState) (s : ℕ) : Type 0 where
  pub closed : (slot_of world s).state ≡ Closed
  pub goal : goal_of world s ≡ End ToClose
  pub nothing : list_to world s ≡ []
  pub unprogrammed : IsUnprogrammed world s

-- flags of the slots that are out: there is one for each slot, those of a channel's slots are the same, and each slot
-- that is out is idle
pub record AreOut (world : WorldState) (out : List Bool) : Type 0 where
  pub all : length out ≡ slot_count world
  pub whole : (s t : ℕ) → s < slot_count world → t < slot_count world
      → channel_at world s ≡ channel_at world t → is_out out s ≡ is_out out t
  pub idle : (s : ℕ) → s < slot_count world → is_out out s ≡ true → IsIdle world s

-- ---- a cut

abbrev pub is_closed : State → Bool
is_closed Closed = true
is_closed state = false

abbrev pub is_close : SlotGoal → Bool
is_close (End ToClose) = true
is_close goal = false

-- a slot is in use where it isn't closed, or has another goal than close
abbrev pub is_used : WorldState → ℕ → Bool
is_used world s = not (is_closed (slot_of world s).state && is_close (goal_of world s))

-- the least slot of a channel that is in use, if any is
abbrev pub least_used : WorldState → ℕ → Option ℕ
least_used world channel = find (λ s. is_of world channel s && is_used world s) (range_with_len 0 (slot_count world))

-- the flags with all slots of a channel out, besides those that were
abbrev pub flags_without : WorldState → List Bool → ℕ → List Bool
flags_without world out channel = map (λ entry. entry.1 || is_of world channel entry.0) (enumerate_from 0 out)

-- a channel may be cut: it is there, none of its slots is out, and neither of its boxes has a program
pub record MayCut (world : WorldState) (out : List Bool) (channel : ℕ) : Type 0 where
  pub there : channel < length world.channels
  pub within : (s : ℕ) → s < slot_count world → channel_at world s ≡ channel → is_out out s ≡ false
  pub unprogrammed : (s : ℕ) → s < slot_count world → channel_at world s ≡ channel → IsUnprogrammed world s

-- ---- while the network runs

-- an event is a Set on a slot of its box, by the slot's local number: of an end there, or of a link with another slot
abbrev pub sets_slot : ℕ → Event → Bool
sets_slot local (Set (NewEnd slot goal)) = slot == local
sets_slot local (Set (NewLink first second)) = first == local || second == local
sets_slot local event = false

-- a turn is a Set on a slot, by the slot's number
abbrev pub sets : WorldState → ℕ → Turn → Bool
sets world s turn = turn.who == (place world s).0 && sets_slot (place world s).1 turn.event

-- none of these turns is a Set on a slot that is out
abbrev pub SetNoneOut : WorldState → List Bool → List Turn → Type 0
SetNoneOut world out turns =
    (s : ℕ) → s < slot_count world → is_out out s ≡ true → list_any (sets world s) turns ≡ false

-- ---- the paths of the network

-- the paths whose lower end is not out: each of the others is one tunnel, with both slots out
abbrev pub present_paths : WorldState → List Bool → List PathEnds
present_paths world out = filter (λ path. not (is_out out path.low)) (paths world)
