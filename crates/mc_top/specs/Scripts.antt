-- A script while it runs.
use Rattle.std.specs.Prelude.{◌≡◌, ℕ, List, [], ◌++◌, Option, Some, None}
use Rattle.mc_model.specs.Settles.{IsSettled}
use Rattle.mc_model.specs.Worlds.{WorldState}
use Rattle.mc_box.specs.declared.event.Turn.{Turn}
use Rattle.mc_script.specs.declared.command.JournalLine.{JournalLine}
use Rattle.mc_seq.specs.Draws.{IsScheduled}
use Rattle.mc_seq.specs.ShiftLimit.{KeepsShiftLimit}
use Rattle.mc_replay.specs.Journals.{lines_for}
use Rattle.mc_top.specs.declared.script_network.ScriptNetwork.{ScriptNetwork}
use Rattle.mc_top.specs.declared.script_network.ScriptNetwork.TheVariants.{Drawn, Free}

-- the world of its network, and where the draws of that are, if it has some
abbrev pub network_world : ScriptNetwork → WorldState
network_world (Drawn world draws) = world
network_world (Free parts) = parts

abbrev pub network_draws : ScriptNetwork → Option ℕ
network_draws (Drawn world draws) = Some draws.state
network_draws (Free parts) = None

-- where its world stands, and its draws, if it has some, and what was kept and printed so far
pub record ScriptState : Type 0 where
  pub world : WorldState
  pub draws : Option ℕ
  pub journal : List JournalLine
  pub output : List ℕ

-- nothing was settled yet, and this is what stands in front
abbrev pub first_state : WorldState → (draws : Option ℕ) → (opening : List ℕ) → ScriptState
first_state world draws opening = record { world = world; draws = draws; journal = []; output = opening }

-- where there are draws the turns settle a batch by their schedule, and the draws go on from there
abbrev pub FollowSchedule : (draws after : Option ℕ) → WorldState → (batch turns : List Turn) → WorldState → Type 0
FollowSchedule None after world batch turns last = Unit {0}
FollowSchedule (Some state) None world batch turns last = ⊥
FollowSchedule (Some state) (Some end) world batch turns last = IsScheduled world batch state turns last end

-- a batch was settled, and that was kept, and printed under the settle's number
pub record Settling (print : ℕ → WorldState → List ℕ) (number : ℕ) (batch : List Turn)
    (old new : ScriptState) : Type 0 where
  pub turns : List Turn
  pub settled : IsSettled old.world batch turns new.world
  pub shift_limit : KeepsShiftLimit turns
  pub scheduled : FollowSchedule old.draws new.draws old.world batch turns new.world
  pub journal : new.journal ≡ old.journal ++ lines_for turns
  pub output : new.output ≡ old.output ++ print number new.world
