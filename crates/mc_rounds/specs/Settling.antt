-- How a settle by phases ends.
use Rattle.std.specs.Prelude.{◌≡◌, ◌*◌, ◌+◌, ℕ, Bool, if◌then◌else◌, List, map, Option, Some, None}
use Rattle.std.specs.List.{list_any}
use Rattle.mc_box.specs.BoxEvents.{turn_of}
use Rattle.mc_box.specs.LinkFree.{is_linking}
use Rattle.mc_box.specs.declared.event.Turn.{Turn}
use Rattle.mc_model.specs.Rings.{IsFirstOnRing}
use Rattle.mc_model.specs.Settles.{IsSettled, IsStopped, MeetsLast, commands_of}
use Rattle.mc_model.specs.Sound.{IsSound}
use Rattle.mc_model.specs.Worlds.{WorldState}
use Rattle.mc_divided.specs.States.{NetworkState}
use Rattle.mc_seq.specs.Restless.{IsRestless}
use Rattle.mc_seq.specs.ShiftLimit.{KeepsShiftLimit}
use Rattle.mc_seq.specs.declared.stopping.SettleStop.{SettleStop}
use Rattle.mc_seq.specs.declared.stopping.SettleStop.TheVariants as stops
use Rattle.mc_settings.specs.Batches.{UseUp}
use Rattle.mc_rounds.specs.Playing.{spare_shifts}

-- a network has a sound world, the commands of a batch, and has made no Shift
pub record HasBatch (world : WorldState) (batch : List Turn) (state : NetworkState) : Type 0 where
  pub sound : IsSound world
  pub same : state.world ≡ world
  pub commands : (who : ℕ) → map (turn_of who) (state.stimuli who) ≡ commands_of who batch
  pub no_shifts : (who : ℕ) → state.shifts who ≡ 0

-- a turn may link slots
abbrev pub sets_link : List Turn → Bool
sets_link turns = list_any (λ turn. is_linking turn.event) turns

-- the turns settle a batch, and no box makes more Shifts among them than the limit
pub record SettlesInLimit (world : WorldState) (batch turns : List Turn) (last : WorldState) : Type 0 where
  pub settled : IsSettled world batch turns last
  pub shift_limit : KeepsShiftLimit turns

-- how the turns so far ended, at this world
abbrev pub EndsSettle : WorldState → (batch turns : List Turn) → (last : WorldState) → Option SettleStop → Type 0
EndsSettle world batch turns last None = SettlesInLimit world batch turns last
EndsSettle world batch turns last (Some (stops.Ring at)) = IsStopped world batch turns last × UseUp batch turns
    × IsFirstOnRing last at × KeepsShiftLimit turns
EndsSettle world batch turns last (Some (stops.Restless at)) = IsStopped world batch turns last × UseUp batch turns
    × IsRestless turns last at × KeepsShiftLimit turns
EndsSettle world batch turns last (Some (stops.VersionEnd at)) =
    IsStopped world batch turns last × MeetsLast batch turns last at
    × KeepsShiftLimit turns

-- what may still come: two for each Shift, and one where a phase of retries is due
abbrev pub rests_left : NetworkState → Bool → ℕ
rests_left state due = 2 * spare_shifts state + (if due then 1 else 0)
