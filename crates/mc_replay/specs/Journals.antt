-- A journal: the turns of every settle, in order, each settle with its mark after it, and what is shown at the marks.
use Rattle.std.specs.Prelude.{◌≡◌, List, [], ◌∷◌, ◌++◌, map}
use Rattle.std.specs.List.{All}
use Rattle.std.specs.Option.{unwrap_or}
use Rattle.mc_model.specs.PathTable.{PathHolds}
use Rattle.mc_model.specs.Paths.{paths}
use Rattle.mc_model.specs.Settles.{IsSettled}
use Rattle.mc_model.specs.Steps.{step}
use Rattle.mc_model.specs.Worlds.{WorldState}
use Rattle.mc_box.specs.declared.event.Turn.{Turn}
use Rattle.mc_script.specs.declared.command.JournalLine.{JournalLine}
use Rattle.mc_script.specs.declared.command.JournalLine.TheVariants.{Turn as Made, Settled}
use Rattle.mc_view.specs.declared.PathView.{PathView}

-- the turns of a settle, as lines
abbrev pub lines_for : List Turn → List JournalLine
lines_for turns = map Made turns ++ Settled ∷ []

-- the journal is one settled segment for each batch, in order, all of them one run from a world
abbrev pub IsJournal : WorldState → List (List Turn) → List JournalLine → Type 0
IsJournal world [] journal = journal ≡ []
IsJournal world (batch ∷ batches) journal =
    (turns : List Turn) × (last : WorldState) × (rest : List JournalLine)
    × (journal ≡ lines_for turns ++ rest) × IsSettled world batch turns last × IsJournal last batches rest

-- the world after a turn of a journal
abbrev pub next_world : WorldState → Turn → WorldState
next_world world turn = unwrap_or (step world turn) world

-- at each settle the two end slots of every path are in the path's state, and where it flows they have each other's
-- newest descriptor and the choice for it
abbrev pub HoldsAtSettles : WorldState → List JournalLine → Type 0
HoldsAtSettles world [] = Unit {0}
HoldsAtSettles world (Made turn ∷ journal) = HoldsAtSettles (next_world world turn) journal
HoldsAtSettles world (Settled ∷ journal) = All (PathHolds world) (paths world) × HoldsAtSettles world journal

-- there is one list of views for each settle, in order, and it shows the world there
abbrev pub AreShown : (WorldState → List PathView → Type 0) → WorldState → List JournalLine → List (List PathView)
    → Type 0
AreShown Shows world [] shown = shown ≡ []
AreShown Shows world (Made turn ∷ journal) shown = AreShown Shows (next_world world turn) journal shown
AreShown Shows world (Settled ∷ journal) [] = ⊥
AreShown Shows world (Settled ∷ journal) (views ∷ shown) = Shows world views × AreShown Shows world journal shown
