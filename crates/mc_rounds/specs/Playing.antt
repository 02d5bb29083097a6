-- What phases of a network come to.
use Rattle.std.specs.Prelude.{◌≡◌, ◌<◌, ◌≤◌, ◌+◌, ◌-◌, ◌++◌, ℕ, Bool, false, if◌then◌else◌, List, count_by, length, map, IsTrue, MatchBool, MatchOption, Option, Some}
use Rattle.std.specs.List.{list_all, list_any}
use Rattle.mc_box.specs.BoxEvents.{is_shift, is_take, turn_of}
use Rattle.mc_box.specs.declared.event.Turn.{Turn}
use Rattle.mc_box.specs.declared.limit.TheConstants.{SHIFT_LIMIT}
use Rattle.mc_model.specs.Paths.{has_ring}
use Rattle.mc_model.specs.Rings.{IsFirstOnRing}
use Rattle.mc_model.specs.Settles.{commands_of, is_retry_of, is_shift_of, takes_or_retries, world_owes}
use Rattle.mc_model.specs.Steps.{run}
use Rattle.mc_divided.specs.States.{HasWork, IsAtLast, NetworkState, NoneLeft}
use Rattle.mc_slot_laws.specs.Sums.{total}

-- ---- phases

-- the turns are a run; each box used its first commands, in order, and counts its Shifts
pub record Plays (old new : NetworkState) (made : List Turn) : Type 0 where
  pub runs : run old.world made ≡ Some new.world
  pub commands : (who : ℕ) → commands_of who made ++ map (turn_of who) (new.stimuli who)
      ≡ map (turn_of who) (old.stimuli who)
  pub shifts : (who : ℕ) → new.shifts who ≡ old.shifts who + count_by (is_shift_of who) made
  pub few_shifts : (who : ℕ) → new.shifts who ≤ SHIFT_LIMIT

-- such turns come after those before
pub record HasPlayed (old new : NetworkState) (before after : List Turn) : Type 0 where
  pub made : List Turn
  pub added : after ≡ before ++ made
  pub plays : Plays old new made

-- ---- commands

-- how many commands are left
abbrev pub command_total : NetworkState → ℕ
command_total state = total (λ who. length (state.stimuli who)) (length state.world.boxes)

-- phases that used them up, or went on until a box stopped at its last version
pub record UsesUp (old new : NetworkState) (before after : List Turn) (last : Option (ℕ × ℕ)) : Type 0 where
  pub played : HasPlayed old new before after
  pub ended : MatchOption last (NoneLeft new) (IsAtLast new)

-- ---- coming to rest

-- nothing is left to do
abbrev pub HasNoWork : NetworkState → Type 0
HasNoWork state = HasWork false state → ⊥

abbrev pub all_take : List Turn → Bool
all_take turns = list_all (λ turn. is_take turn.event) turns

abbrev pub some_shift : List Turn → Bool
some_shift turns = list_any (λ turn. is_shift turn.event) turns

-- how many Shifts the boxes may still make
abbrev pub spare_shifts : NetworkState → ℕ
spare_shifts state = total (λ who. SHIFT_LIMIT - state.shifts who) (length state.world.boxes)

-- phases after the commands, to the first with a Shift, or until nothing is left to do; then all turns are Takes
pub record GoesOn (old new : NetworkState) (before after : List Turn) (shifted : Bool) : Type 0 where
  pub played : HasPlayed old new before after
  pub none : NoneLeft new
  pub ended : MatchBool shifted (IsTrue (some_shift played.made)) (HasNoWork new × IsTrue (all_take played.made))

-- phases to a ring, or until nothing is left to do, and there is no ring; and whether a Shift came. Else all turns are
-- Takes
pub record Rests (old new : NetworkState) (before after : List Turn) (ring : Option ℕ) (shifted : Bool) : Type 0 where
  pub played : HasPlayed old new before after
  pub none : NoneLeft new
  pub ended : MatchOption ring (HasNoWork new × (has_ring new.world ≡ false)) (λ at. IsFirstOnRing new.world at)
  pub fewer : MatchBool shifted (spare_shifts new < spare_shifts old) (IsTrue (all_take played.made))

-- ---- retries

-- a phase in which each retry that was owed came once; and whether a Shift came in it. Else the others are Takes
pub record Retries (old new : NetworkState) (before after : List Turn) (shifted : Bool) : Type 0 where
  pub played : HasPlayed old new before after
  pub none : NoneLeft new
  pub retried : (who local : ℕ) → count_by (is_retry_of who local) played.made
      ≡ (if world_owes old.world who local then 1 else 0)
  pub kinds : MatchBool shifted (spare_shifts new < spare_shifts old)
      (IsTrue (list_all (λ turn. takes_or_retries turn.event) played.made))
