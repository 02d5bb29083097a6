-- What is told at the marks of a journal of why slots are closed.
use Rattle.std.specs.Prelude.{◌≡◌, ◌<◌, ◌++◌, ℕ, List, [], ◌∷◌, map, slice_index_or, Option, None, Some, IfSome, Vec}
use Rattle.std.specs.declared.alloc.Global.{Global}
use Rattle.mc_box.specs.declared.event.Turn.{Turn}
use Rattle.mc_cause.specs.Carried.{AreOfSlots, TellsCauses, WhysState}
use Rattle.mc_cause.specs.Causes.{why}
use Rattle.mc_model.specs.Worlds.{WorldState, slot_count}
use Rattle.mc_script.specs.declared.command.JournalLine.{JournalLine}
use Rattle.mc_script.specs.declared.command.JournalLine.TheVariants.{Turn as Made, Settled}
use Rattle.mc_replay.specs.declared.replay.Replay.{Replay}
use Rattle.mc_replay.specs.declared.telling.Telling.{Telling}

-- the turns among the lines of a journal
abbrev pub turns_among : List JournalLine → List Turn
turns_among [] = []
turns_among (Made turn ∷ lines) = turn ∷ turns_among lines
turns_among (Settled ∷ lines) = turns_among lines

-- by the numbers of the slots, this tells why each is closed after some turns of a world
abbrev pub TellsWhys : WorldState → List Turn → List (Option ℕ) → Type 0
TellsWhys first turns whys = (s : ℕ) → s < slot_count first → slice_index_or whys s None ≡ why first turns s

-- there is one such list for each mark of what is left of a journal, in order, after these turns of a world
abbrev pub AreTold : WorldState → List Turn → List JournalLine → List (List (Option ℕ)) → Type 0
AreTold first turns [] told = told ≡ []
AreTold first turns (Made turn ∷ journal) told = AreTold first (turns ++ turn ∷ []) journal told
AreTold first turns (Settled ∷ journal) [] = ⊥
AreTold first turns (Settled ∷ journal) (whys ∷ told) = TellsWhys first turns whys × AreTold first turns journal told

-- ---- while it is read

-- why slots are closed is noted of each turn that a replay has made
pub record KeepsPace (replay : Replay) (whys : WhysState) : Type 0 where
  pub slots : AreOfSlots replay.segment.world whys
  pub turns : whys.turns ≡ replay.turns

-- a turn is noted that has led from a world to that of a replay
pub record NotesMade (old : WorldState) (turn : Turn) (replay : Replay) (before after : WhysState) : Type 0 where
  pub pace : KeepsPace replay after
  pub tells : (first : WorldState) (turns : List Turn) → TellsCauses first turns old before
      → TellsCauses first (turns ++ turn ∷ []) replay.segment.world after

-- the same where it is asked for
abbrev pub HasNoted : WorldState → Turn → Replay → (before after : Option WhysState) → Type 0
HasNoted old turn replay None after = after ≡ None
HasNoted old turn replay (Some before) None = ⊥
HasNoted old turn replay (Some before) (Some after) = NotesMade old turn replay before after

-- at a mark, why all slots are closed is appended, where it is asked for
abbrev pub AddsWhys : Option WhysState → (old new : List (List (Option ℕ))) → Type 0
AddsWhys None old new = new ≡ old
AddsWhys (Some whys) old new = new ≡ old ++ whys.whys ∷ []

-- the lists that are told, as code keeps them
abbrev pub whys_of : List (Vec (Option ℕ) Global) → List (List (Option ℕ))
whys_of kept = map (λ whys. whys.items) kept

-- what was told so far
abbrev pub told_of : Telling → List (List (Option ℕ))
told_of telling = whys_of telling.told.items

-- what a line does to it: a turn is noted, and a mark tells
abbrev pub TellsLine : WorldState → JournalLine → Replay → (old new : Telling) → Type 0
TellsLine world (Made turn) replay old new = HasNoted world turn replay old.whys new.whys × (told_of new ≡ told_of old)
TellsLine world Settled replay old new =
    (new.whys ≡ old.whys) × AddsWhys old.whys (told_of old) (told_of new) × (replay.segment.world ≡ world)
    × IfSome new.whys (KeepsPace replay)

-- these lines were read from a world, and have led to another; what follows is told after what was told at their marks
pub record HasTold (first : WorldState) (read : List JournalLine) (last : WorldState) (telling : Telling) : Type 0 where
  pub kept : WhysState
  pub asked : telling.whys ≡ Some kept
  pub slots : AreOfSlots last kept
  pub causes : TellsCauses first (turns_among read) last kept
  pub told : (more : List JournalLine) (others : List (List (Option ℕ))) → AreTold first (turns_among read) more others
      → AreTold first [] (read ++ more) (told_of telling ++ others)
