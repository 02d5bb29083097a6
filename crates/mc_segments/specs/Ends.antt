-- Where turns settle. A place among turns is the number of turns before it.
use Rattle.std.specs.Prelude.{◌≡◌, ℕ, ◌<◌, ◌≤◌, Bool, true, IsTrue, List, [], ◌∷◌, drop, filter, length, slice_get, take, Option, None, Some}
use Rattle.mc_box.specs.BoxEvents.{is_command}
use Rattle.mc_box.specs.declared.event.Turn.{Turn}
use Rattle.mc_model.specs.Settles.{IsSettled}
use Rattle.mc_model.specs.Steps.{after, run, step}
use Rattle.mc_model.specs.Worlds.{WorldState}
use Rattle.mc_segments.specs.declared.fault.SegmentsFault.{SegmentsFault}
use Rattle.mc_segments.specs.declared.fault.SegmentsFault.TheVariants.{NoMemory, NotEnabled}

-- the commands among turns, in order
abbrev pub commands_in : List Turn → List Turn
commands_in turns = filter (λ turn. is_command turn.event) turns

-- the turns from one place up to another
abbrev pub turns_between : ℕ → ℕ → List Turn → List Turn
turns_between from place turns = drop from (take place turns)

-- a settle may end where a command comes next, or nothing
abbrev pub may_end : Option Turn → Bool
may_end None = true
may_end (Some turn) = is_command turn.event

-- turns settle the commands among them. So a segment has no limit of Shifts, as no journal has that is checked
abbrev pub SettlesOwn : WorldState → List Turn → WorldState → Type 0
SettlesOwn begins turns last = IsSettled begins (commands_in turns) turns last

-- a settle that begins at one place ends at another, which is later: a settle may end there, and the turns between
-- settle their own commands
pub record IsEnd (world : WorldState) (turns : List Turn) (from place : ℕ) : Type 0 where
  pub later : from < place
  pub within : place ≤ length turns
  pub may : IsTrue (may_end (slice_get turns place))
  pub settles : SettlesOwn (after world (take from turns)) (turns_between from place turns)
      (after world (take place turns))

-- the first place at which it does
pub record IsFirstEnd (world : WorldState) (turns : List Turn) (from place : ℕ) : Type 0 where
  pub is : IsEnd world turns from place
  pub first : (other : ℕ) → other < place → IsEnd world turns from other → ⊥

-- all ends after a place: each is the first for the settle that begins at the one before it, and no end comes after the
-- last
abbrev pub AreEnds : WorldState → List Turn → ℕ → List ℕ → Type 0
AreEnds world turns from [] = (place : ℕ) → IsEnd world turns from place → ⊥
AreEnds world turns from (place ∷ ends) = IsFirstEnd world turns from place × AreEnds world turns place ends

-- ---- turns that can't happen

-- the turns before this place are a run, after which the turn there can't happen
pub record StopsAt (world : WorldState) (turns : List Turn) (place : ℕ) : Type 0 where
  pub last : WorldState
  pub runs : run world (take place turns) ≡ Some last
  pub turn : Turn
  pub there : slice_get turns place ≡ Some turn
  pub never : step last turn ≡ None

-- why turns aren't followed: one of them can't happen, or want of memory, which says nothing of the turns
abbrev pub IsSegmentsFault : WorldState → List Turn → SegmentsFault → Type 0
IsSegmentsFault world turns (NotEnabled place) = StopsAt world turns place
IsSegmentsFault world turns (NoMemory e) = Unit {0}
