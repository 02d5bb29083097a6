-- Laws of settings: commands alone decide them, and with them which paths and rings there are.
use Rattle.std.specs.Prelude.{◌≡◌, ◌↔◌, ℕ, false, List, ◌∷◌, Some, None}
use Rattle.std.specs.List.{All}
use Rattle.mc_box.specs.declared.event.Turn.{Turn}
use Rattle.mc_model.specs.LinkFree.{AllLinkNone, HasNoLinks}
use Rattle.mc_model.specs.PathTable.{PathHolds, path_state}
use Rattle.mc_model.specs.Paths.{has_ring, paths}
use Rattle.mc_model.specs.Rings.{IsLeastOnRing}
use Rattle.mc_model.specs.Settles.{IsSettled, IsStopped, commands_of, next_command}
use Rattle.mc_model.specs.Sound.{IsSound}
use Rattle.mc_model.specs.Steps.{run}
use Rattle.mc_model.specs.Unprogrammed.{HasNoPrograms, ShiftNone}
use Rattle.mc_model.specs.Worlds.{WorldState}
use Rattle.mc_settings.specs.Alike.{AreAlike, EndsAgree, HaveSamePaths}
use Rattle.mc_settings.specs.Batches.{AreDecided, LeavesDecided, LeavesNoRing, SettleAll, RunsThrough, commanded_by}
use Rattle.mc_settings.specs.Settings.{commanded}

-- ---- commands alone

-- after a run without Shifts a world is as its commands make it, but for what signals change
abbrev pub RunsFollowCommands : Type 0
RunsFollowCommands =
    (world last : WorldState) (turns : List Turn) → IsSound world → ShiftNone turns → run world turns ≡ Some last
    → AreAlike last (commanded world turns)

-- turns with the same commands of each box make the same world
abbrev pub CommandsAlone : Type 0
CommandsAlone =
    (world : WorldState) (turns others : List Turn) → ((who : ℕ) → commands_of who turns ≡ commands_of who others)
    → commanded world turns ≡ commanded world others

-- ---- alike

-- to be alike is reflexive, symmetric and transitive
pub record AlikeIsEquivalence : Type 0 where
  pub reflexive : (world : WorldState) → AreAlike world world
  pub symmetric : (world other : WorldState) → AreAlike world other → AreAlike other world
  pub transitive : (world other third : WorldState) → AreAlike world other → AreAlike other third → AreAlike world third

-- commands leave worlds alike
abbrev pub CommandsKeepAlike : Type 0
CommandsKeepAlike =
    (world other : WorldState) (turns : List Turn) → AreAlike world other
    → AreAlike (commanded world turns) (commanded other turns)

-- two settled segments of one batch lead from worlds that are alike, and have no programs, to worlds that are alike
abbrev pub SettlesAreAlike : Type 0
SettlesAreAlike =
    (world other last end : WorldState) (batch turns others : List Turn) → IsSound world → IsSound other
    → HasNoPrograms world → AreAlike world other
    → IsSettled world batch turns last → IsSettled other batch others end → AreAlike last end

-- worlds that are alike have the same paths and rings
abbrev pub AlikeHaveSamePaths : Type 0
AlikeHaveSamePaths = (world other : WorldState) → AreAlike world other → HaveSamePaths world other

-- ---- batches

-- turns that stopped within a batch use it up exactly where no box has a next command
abbrev pub StoppedUsesUp : Type 0
StoppedUsesUp = (world last : WorldState) (batch turns : List Turn) → IsStopped world batch turns last
    → RunsThrough world batch turns last ↔ ((who : ℕ) → next_command batch turns who ≡ None)

-- a batch that is used up leaves a world without programs as its commands make it
abbrev pub BatchIsLeft : Type 0
BatchIsLeft =
    (world last : WorldState) (batch turns : List Turn) → IsSound world → HasNoPrograms world
    → RunsThrough world batch turns last → AreAlike last (commanded world batch)

-- and so do several batches that are settled
abbrev pub BatchesAreLeft : Type 0
BatchesAreLeft =
    (world last : WorldState) (batches : List (List Turn)) → IsSound world → HasNoPrograms world
    → SettleAll world batches last → AreAlike last (commanded_by world batches)

-- there is a ring after a batch where its commands make one, as no program does
abbrev pub RingsAreLeft : Type 0
RingsAreLeft =
    (world last : WorldState) (batch turns : List Turn) → IsSound world → HasNoPrograms world
    → RunsThrough world batch turns last → has_ring last ≡ has_ring (commanded world batch)

-- where no batch leaves a ring, and no box has a program, none is there when the next one is used up
abbrev pub NoRingIsMet : Type 0
NoRingIsMet =
    (world last : WorldState) (batch turns : List Turn) (batches : List (List Turn)) → IsSound world
    → HasNoPrograms world → LeavesNoRing world (batch ∷ batches)
    → RunsThrough world batch turns last → (has_ring last ≡ false) × IsLeastOnRing last None

-- and the batches after one that is settled leave none
abbrev pub NoRingStays : Type 0
NoRingStays =
    (world last : WorldState) (batch turns : List Turn) (batches : List (List Turn)) → IsSound world
    → HasNoPrograms world → LeavesNoRing world (batch ∷ batches)
    → IsSettled world batch turns last → LeavesNoRing last batches

-- batches that set no link leave none in a world without links
abbrev pub LinkFreeLeavesNoRing : Type 0
LinkFreeLeavesNoRing =
    (world : WorldState) (batches : List (List Turn)) → HasNoLinks world → AllLinkNone batches
    → LeavesNoRing world batches

-- ---- decided paths

-- of worlds that are alike the paths are in the same states, if none of them is hold against hold
abbrev pub DecidedPathsAgree : Type 0
DecidedPathsAgree =
    (world other : WorldState) → AreAlike world other → AreDecided world
    → All (λ path. path_state world path ≡ path_state other path) (paths world)

-- and where those paths are as the path table says, as they are after settles, their ends agree
abbrev pub HeldPathsAgree : Type 0
HeldPathsAgree =
    (world other : WorldState) → AreAlike world other → AreDecided world → All (PathHolds world) (paths world)
    → All (PathHolds other) (paths other)
    → All (EndsAgree world other) (paths world)

-- where no batch leaves a path of hold against hold, and no box has a program, none is there when the next one is used
-- up
abbrev pub DecidedIsLeft : Type 0
DecidedIsLeft =
    (world last : WorldState) (batch turns : List Turn) (batches : List (List Turn)) → IsSound world
    → HasNoPrograms world → LeavesDecided world (batch ∷ batches)
    → RunsThrough world batch turns last → AreDecided last

-- and the batches after one that is settled leave none
abbrev pub DecidedStays : Type 0
DecidedStays =
    (world last : WorldState) (batch turns : List Turn) (batches : List (List Turn)) → IsSound world
    → HasNoPrograms world → LeavesDecided world (batch ∷ batches)
    → IsSettled world batch turns last → LeavesDecided last batches
