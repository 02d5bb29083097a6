-- What holds at the settles of a journal.
use Rattle.std.proofs.Common.{◌≡◌, ◌++◌, ◌∷◌, [], ◌∙◌, List, Some, map, refl, sym, subst, append_assoc}
use Rattle.mc_box.proofs.Options.{then_some}
use Rattle.mc_box.specs.declared.event.Turn.{Turn}
use Rattle.mc_laws.proofs.StepKeeps.{run_keeps_sound}
use Rattle.mc_model.specs.Settles.{IsSettled}
use Rattle.mc_model.specs.Sound.{IsSound}
use Rattle.mc_model.specs.Steps.{run, step}
use Rattle.mc_model.specs.Worlds.{WorldState}
use Rattle.mc_path_laws.proofs.SettledHold.{settled_paths_hold}
use Rattle.mc_script.specs.declared.command.JournalLine.{JournalLine}
use Rattle.mc_script.specs.declared.command.JournalLine.TheVariants.{Turn as Made, Settled}
use Rattle.mc_replay.specs.Journals.{HoldsAtSettles, lines_for, next_world}
use Rattle.mc_replay.specs.Laws.{JournalsHold}

-- the world after a turn that is made
pub replayed_is : (world next : WorldState) (turn : Turn) → step world turn ≡ Some next → next_world world turn ≡ next
replayed_is world next turn goes = rw goes refl

-- replaying the turns of a run leads where the run does
pub holds_after : (turns : List Turn) (world last : WorldState) (rest : List JournalLine) → run world turns ≡ Some last → HoldsAtSettles last rest → HoldsAtSettles world (map Made turns ++ rest)
holds_after [] world last rest goes holds = let same : world ≡ last = cc in subst (λ (w : WorldState). HoldsAtSettles w rest) (sym same) holds
holds_after (turn ∷ turns) world last rest goes holds =
    let one = then_some (λ (w : WorldState). run w turns) (step world turn) last goes in
    subst (λ (w : WorldState). HoldsAtSettles w (map Made turns ++ rest)) (sym (replayed_is world one.0 turn one.1)) (holds_after turns one.0 last rest one.2 holds)

-- so do they after a settled segment and what follows it
pub segment_holds : (world last : WorldState) (batch turns : List Turn) (journal rest : List JournalLine) → IsSound world → IsSettled world batch turns last → journal ≡ lines_for turns ++ rest
    → HoldsAtSettles last rest → HoldsAtSettles world journal
segment_holds world last batch turns journal rest sound settled is holds =
    let whole : journal ≡ map Made turns ++ (Settled ∷ rest) = is ∙ append_assoc (map Made turns) (Settled ∷ []) rest in
    subst (λ (lines : List JournalLine). HoldsAtSettles world lines) (sym whole)
    (holds_after turns world last (Settled ∷ rest) settled.runs (settled_paths_hold world last batch turns sound settled, holds))

pub journals_hold : JournalsHold
journals_hold world [] journal sound is = subst (λ (lines : List JournalLine). HoldsAtSettles world lines) (sym is) tt
journals_hold world (batch ∷ waiting) journal sound (turns, last, rest, is, settled, later) =
    segment_holds world last batch turns journal rest sound settled is
    (journals_hold last waiting rest (run_keeps_sound world last turns sound settled.runs) later)
