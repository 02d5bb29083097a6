-- What is printed of a settle that is seen as a world that is written out, and of the journal around it.
use Rattle.std.proofs.Common.{◌≡◌, ◌+◌, ◌<◌, ◌++◌, ℕ, List, [], ◌∷◌, Some, All, codes, ap, sym, ◌∙◌, subst}
use Rattle.std.specs.List.{flat_map}
use Rattle.std.proofs.lemmas.Fmt.{decimal_digit}
use Rattle.std.proofs.lemmas.List.Elements.{All-nil, All-cons}
use Rattle.mc_box.specs.declared.event.Turn.{Turn}
use Rattle.mc_model.specs.PathTable.{path_state}
use Rattle.mc_model.specs.Paths.{PathEnds, paths}
use Rattle.mc_model.specs.Steps.{run}
use Rattle.mc_model.specs.Worlds.{WorldState}
use Rattle.mc_replay.specs.Journals.{lines_for}
use Rattle.mc_scene.specs.Lines.{lines_text}
use Rattle.mc_scene.specs.Outputs.{settle_lines}
use Rattle.mc_script.specs.declared.command.JournalLine.{JournalLine}
use Rattle.mc_table.specs.Words.{line_of}
use Rattle.mc_text.specs.NameLists.{NameLists}
use Rattle.mc_script_end.specs.Printed.{journal_text}
use Rattle.mc_settle_text.specs.Paths.{path_text, settle_text}
use Rattle.mc_top.proofs.SeenAlike.{AgreeOnPaths, AreSeenAlike, seen_back, settle_agrees}
use Rattle.mc_top.proofs.TextAlone.{segment_text}

-- two paths are in the states that the world has that is written out
pub two_paths_text : (names : NameLists) (number : ℕ) (world ref : WorldState) (one two : PathEnds) (text : List ℕ) → AreSeenAlike world ref → paths ref ≡ one ∷ two ∷ []
    → path_state ref one ≡ path_state world one → path_state ref two ≡ path_state world two → settle_text names number ref ≡ text → settle_text names number world ≡ text
two_paths_text names number world ref one two text seen are first second is =
    let agree : AgreeOnPaths ref world =
    subst (λ (ends : List PathEnds). All (λ path. path_state ref path ≡ path_state world path) ends) (sym are)
    (All-cons (λ (path : PathEnds). path_state ref path ≡ path_state world path) one (two ∷ []) first
    (All-cons (λ (path : PathEnds). path_state ref path ≡ path_state world path) two [] second (All-nil (λ (path : PathEnds). path_state ref path ≡ path_state world path)))) in
    sym (settle_agrees names number ref world (seen_back world ref seen) agree) ∙ is

-- a settle with a number of one digit, by the lines of its paths
pub settle_written : (names : NameLists) (number : ℕ) (ref : WorldState) (line : List ℕ) (shown : List (List ℕ)) → number < 10 → line_of (codes "settle" ∷ ((48 + number) ∷ []) ∷ []) ≡ line ++ 10 ∷ []
    → flat_map (path_text names ref) (paths ref) ≡ lines_text shown → settle_text names number ref ≡ settle_lines line shown
settle_written names number ref line shown small line_is shown_is =
    ap (λ (digits : List ℕ). line_of (codes "settle" ∷ digits ∷ []) ++ flat_map (path_text names ref) (paths ref)) (decimal_digit number small)
    ∙ (ap (λ (first : List ℕ). first ++ flat_map (path_text names ref) (paths ref)) line_is ∙ ap (λ (rest : List ℕ). (line ++ 10 ∷ []) ++ rest) shown_is)

-- a settled segment, by the text of its settle and of what follows
pub settle_then : (names : NameLists) (number : ℕ) (world last : WorldState) (turns : List Turn) (journal rest : List JournalLine) (text more : List ℕ) → run world turns ≡ Some last
    → journal ≡ lines_for turns ++ rest → settle_text names number last ≡ text → journal_text names (number + 1) last rest ≡ more → journal_text names number world journal ≡ text ++ more
settle_then names number world last turns journal rest text more goes is here later =
    segment_text names number world last turns journal rest goes is
    ∙ (ap (λ (lines : List ℕ). lines ++ journal_text names (number + 1) last rest) here ∙ ap (λ (lines : List ℕ). text ++ lines) later)
