-- Journals of settles by draws: their turns are those of the schedule, settle by settle, and each settle goes on from
-- the state of the draws that the one before it left.
use Rattle.std.specs.Prelude.{◌≡◌, ◌⊎◌, ℕ, List, [], ◌∷◌, ◌++◌, map, Option, Some, None, IfSome}
use Rattle.mc_box.specs.declared.event.Turn.{Turn}
use Rattle.mc_model.specs.Sound.{IsSound}
use Rattle.mc_model.specs.Worlds.{WorldState}
use Rattle.mc_script.specs.declared.command.JournalLine.{JournalLine}
use Rattle.mc_script.specs.declared.command.JournalLine.TheVariants.{Turn as Made}
use Rattle.mc_seq.specs.Draws.{IsScheduled, StopsAtRing, StopsAtVersion, StopsByDraws, StopsRestless}
use Rattle.mc_seq.specs.declared.fault.SettleFault.{SettleFault}
use Rattle.mc_replay.specs.Journals.{lines_for}
use Rattle.mc_text.specs.declared.draws.Draws.{Draws}
use Rattle.mc_seq.specs.declared.stopping.SettleStop.{SettleStop}
use Rattle.mc_seq.specs.declared.stopping.SettleStop.TheVariants.{Restless, Ring, VersionEnd}

-- the state of the draws, where there are some
abbrev pub draws_state : Option Draws → Option ℕ
draws_state None = None
draws_state (Some draws) = Some draws.state

-- the schedule stops so within a batch, after these turns
abbrev pub StopsBy : SettleStop → WorldState → (batch : List Turn) → (state : ℕ) → (turns : List Turn) → (end : ℕ)
    → Type 0
StopsBy (VersionEnd at) world batch state turns end = StopsAtVersion world batch state turns end at
StopsBy (Ring at) world batch state turns end = StopsAtRing world batch state turns end at
StopsBy (Restless at) world batch state turns end = StopsRestless world batch state turns end at

-- a journal ends within a batch, where it has a stop
abbrev pub EndsWithin : Option SettleStop → (state : ℕ) → WorldState → (batch : List Turn) → List JournalLine → Type 0
EndsWithin None state world batch journal = ⊥
EndsWithin (Some stop) state world batch journal =
    (turns : List Turn) × (end : ℕ) × (journal ≡ map Made turns) × StopsBy stop world batch state turns end

-- the journal of settles by draws that begin at a state, one for each batch, to their end or to a stop
abbrev pub IsDrawnJournal : Option SettleStop → (state : ℕ) → WorldState → List (List Turn) → List JournalLine → Type 0
IsDrawnJournal stop state world [] journal = (stop ≡ None) × (journal ≡ [])
IsDrawnJournal stop state world (batch ∷ batches) journal = EndsWithin stop state world batch journal
    ⊎ ((turns : List Turn) × (last : WorldState) × (end : ℕ) × (rest : List JournalLine)
    × (journal ≡ lines_for turns ++ rest) × IsScheduled world batch state turns last end
    × IsDrawnJournal stop end last batches rest)

-- there is one such journal, and one stop or none, for a sound world, its batches and a state
abbrev pub DrawnJournalIsOne : Type 0
DrawnJournalIsOne =
    (stop other : Option SettleStop) (state : ℕ) (world : WorldState) (batches : List (List Turn))
    (journal more : List JournalLine)
    → IsSound world
    → IsDrawnJournal stop state world batches journal → IsDrawnJournal other state world batches more
    → (stop ≡ other) × (journal ≡ more)

-- ---- where there may be draws or none

-- a settle by draws stops so. Where there are none nothing is said of it
abbrev pub StopsDrawn : (draws : Option ℕ) → WorldState → (batch : List Turn) → SettleFault → Type 0
StopsDrawn draws world batch fault = IfSome draws (λ state. (end : ℕ) × StopsByDraws world batch state end fault)

-- the journal is that of settles by draws. Where there are none nothing is said of which it is
abbrev pub FollowsDraws : (draws : Option ℕ) → Option SettleStop → WorldState → List (List Turn) → List JournalLine
    → Type 0
FollowsDraws draws stop world batches journal = IfSome draws (λ state. IsDrawnJournal stop state world batches journal)
