-- What a settle is: a run that uses up a batch of commands and comes to rest.
use Rattle.std.specs.Prelude.{◌≡◌, ℕ, ◌≤◌, ◌==◌, ◌&&◌, not, Bool, true, false, if◌then◌else◌, List, [], ◌∷◌, filter, length, take, drop, count_by, nat_lt, slice_get, IsTrue, Option, Some}
use Rattle.std.specs.List.{list_all, list_any, sum_by}
use Rattle.mc_signal.specs.declared.Tagged.{Tagged}
use Rattle.mc_box.specs.BoxEvents.{is_command, is_enabled, is_shift}
use Rattle.mc_box.specs.Boxes.{is_slot, box_owes}
use Rattle.mc_model.specs.Paths.{has_ring}
use Rattle.mc_model.specs.Steps.{after, ends_version, heard_slot, run}
use Rattle.mc_model.specs.Worlds.{WorldState, box_at}
use Rattle.mc_box.specs.declared.event.Event.{Event}
use Rattle.mc_box.specs.declared.event.Event.TheVariants.{Take, Set, Media, Tell, Retry, Shift}
use Rattle.mc_box.specs.declared.event.MediaChange.TheVariants.{Hear}
use Rattle.mc_box.specs.declared.event.Turn.{Turn}

abbrev pub is_empty : List Tagged → Bool
is_empty [] = true
is_empty (tagged ∷ rest) = false

-- nothing is under way
abbrev pub is_quiet : WorldState → Bool
is_quiet world = list_all is_empty world.lanes

-- some box's program has an enabled transition
abbrev pub can_shift : WorldState → Bool
can_shift world = list_any (λ box. is_enabled box Shift) world.boxes

-- nothing is under way, and no program can go on
abbrev pub rests : WorldState → Bool
rests world = is_quiet world && not (can_shift world)

-- the commands of one box among turns, in order
abbrev pub commands_of : ℕ → List Turn → List Turn
commands_of who turns = filter (λ turn. is_command turn.event && turn.who == who) turns

abbrev pub is_retry_at : ℕ → Event → Bool
is_retry_at local (Retry slot) = slot == local
is_retry_at local event = false

-- the turn is the retry of this slot of this box
abbrev pub is_retry_of : ℕ → ℕ → Turn → Bool
is_retry_of who local turn = is_retry_at local turn.event && turn.who == who

-- the turn is a Shift of this box
abbrev pub is_shift_of : ℕ → Turn → Bool
is_shift_of who turn = is_shift turn.event && turn.who == who

abbrev pub is_hear_at : ℕ → Event → Bool
is_hear_at local (Media (Hear slot on)) = slot == local
is_hear_at local event = false

-- the turn is a Hear of this slot of this box
abbrev pub is_hear_of : ℕ → ℕ → Turn → Bool
is_hear_of who local turn = is_hear_at local turn.event && turn.who == who

-- how many of the turns are
abbrev pub hears_of : ℕ → ℕ → List Turn → ℕ
hears_of who local turns = count_by (is_hear_of who local) turns

-- and how many in all batches
abbrev pub hears_in : ℕ → ℕ → List (List Turn) → ℕ
hears_in who local batches = sum_by (hears_of who local) batches

abbrev pub takes_or_retries : Event → Bool
takes_or_retries (Take local) = true
takes_or_retries (Retry local) = true
takes_or_retries event = false

-- whether a box's slot owes a retry
abbrev pub world_owes : WorldState → ℕ → ℕ → Bool
world_owes world who local =
    nat_lt who (length world.boxes) && is_slot (box_at world who) local && box_owes (box_at world who) local

-- after a moment of a run, at which the world rests and the batch is used up, each retry that was owed at that moment
-- comes once, and besides only Takes come
pub record IsLastRest (world : WorldState) (batch turns : List Turn) (moment : ℕ) : Type 0 where
  pub within : moment ≤ length turns
  pub at_rest : IsTrue (rests (after world (take moment turns)))
  pub used_up : (who : ℕ) → commands_of who (take moment turns) ≡ commands_of who batch
  pub retries : (who local : ℕ)
      → count_by (is_retry_of who local) (drop moment turns)
      ≡ (if world_owes (after world (take moment turns)) who local then 1 else 0)
  pub besides : IsTrue (list_all (λ turn. takes_or_retries turn.event) (drop moment turns))

-- the turns settle a batch, and leave the world last
pub record IsSettled (world : WorldState) (batch turns : List Turn) (last : WorldState) : Type 0 where
  pub runs : run world turns ≡ Some last
  pub commands : (who : ℕ) → commands_of who turns ≡ commands_of who batch
  pub at_rest : IsTrue (rests last)
  pub no_ring : has_ring last ≡ false
  pub moment : ℕ
  pub last_rest : IsLastRest world batch turns moment

-- turns that stopped within a batch: box by box they have made the first of its commands
pub record IsStopped (world : WorldState) (batch turns : List Turn) (last : WorldState) : Type 0 where
  pub runs : run world turns ≡ Some last
  pub commands : (who : ℕ) → commands_of who turns ≡ take (length (commands_of who turns)) (commands_of who batch)

-- the command of a box that comes next, after turns that have made the first ones of a batch
abbrev pub next_command : (batch turns : List Turn) → ℕ → Option Turn
next_command batch turns who = slice_get (commands_of who batch) (length (commands_of who turns))

-- the next command of some box is the Hear of this slot, whose descriptor has the last version
pub record MeetsLast (batch turns : List Turn) (last : WorldState) (at : ℕ) : Type 0 where
  pub turn : Turn
  pub next : next_command batch turns turn.who ≡ Some turn
  pub version : IsTrue (ends_version last turn)
  pub slot : heard_slot last turn ≡ Some at

-- the events of three kinds
abbrev pub is_set : Event → Bool
is_set (Set change) = true
is_set event = false

abbrev pub is_media : Event → Bool
is_media (Media change) = true
is_media event = false

abbrev pub is_tell : Event → Bool
is_tell (Tell word) = true
is_tell event = false

-- the turn is a Tell of this box
abbrev pub is_tell_of : ℕ → Turn → Bool
is_tell_of who turn = is_tell turn.event && turn.who == who

-- the turns of one box among turns whose events are of a kind, in order
abbrev pub of_kind : (Event → Bool) → ℕ → List Turn → List Turn
of_kind kind who turns = filter (λ turn. kind turn.event && turn.who == who) turns

-- a settled segment has the Sets, the Media events and the Tells of its batch, box by box and in order, each once, and
-- no others
abbrev pub SettledMakesItsBatch : Type 0
SettledMakesItsBatch =
    (world last : WorldState) (batch turns : List Turn) → IsSettled world batch turns last → (who : ℕ)
    → (of_kind is_set who turns ≡ of_kind is_set who batch)
    × (of_kind is_media who turns ≡ of_kind is_media who batch)
    × (of_kind is_tell who turns ≡ of_kind is_tell who batch)
