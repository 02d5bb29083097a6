-- Why the journal after a text isn't taken.
use Rattle.std.specs.Prelude.{◌≡◌, ℕ, List, map}
use Rattle.mc_box.specs.BoxShapes.{BoxShapeState}
use Rattle.mc_box.specs.declared.event.Turn.{Turn}
use Rattle.mc_model.specs.Worlds.{WorldState}
use Rattle.mc_net.specs.Nets.{batch_turns}
use Rattle.mc_net.specs.declared.net.Net.{Net}
use Rattle.mc_replay.specs.Faults.{IsJournalFault, StandsFor}
use Rattle.mc_text.specs.NameLists.{NameLists}
use Rattle.mc_call.specs.Behind.{has_bad_tail, journal_line, tail_lines}
use Rattle.mc_top.specs.declared.checking.TailFault.{TailFault}
use Rattle.mc_top.specs.declared.checking.TailFault.TheVariants.{At, NoMemory}

-- the fault is the journal's first, on the line of the text where it stands; or memory was wanting, which says nothing
-- of the journal
abbrev pub RefusesTail : NameLists → List BoxShapeState → WorldState → List (List Turn) → (text : List ℕ) → (rest : ℕ)
    → TailFault → Type 0
RefusesTail names shape world batches text rest (At place) =
    IsJournalFault world batches (tail_lines names shape text rest)
    (has_bad_tail names shape text rest) place.number place.turn
    × ((before : ℕ) × StandsFor world batches (tail_lines names shape text rest) before
    × (place.line ≡ journal_line names shape text rest before))
RefusesTail names shape world batches text rest (NoMemory e) = Unit {0}

-- the same by the network that the text declares
abbrev pub RefusesCheckBy : (text : List ℕ) → Net → TailFault → Type 0
RefusesCheckBy text net fault =
    RefusesTail net.names net.shape net.world (map batch_turns net.batches.items) text net.rest fault
