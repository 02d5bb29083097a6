-- What is shown at the marks of a journal has names, and is printed as the settles of the journal.
use Rattle.std.proofs.Common.{◌≡◌, ◌+◌, ◌<◌, ◌≤◌, ◌++◌, ◌∷◌, [], ℕ, List, All, Some, Vec, add-one, append-nil, append_assoc, ap, arith, drop, length, map, slice_index_or, subst, sym, ◌∙◌}
use Rattle.std.proofs.Math.Seq.{drop-cons}
use Rattle.std.proofs.lemmas.List.{drop_all, get_or-map, length-map}
use Rattle.std.specs.declared.alloc.Global.{Global}
use Rattle.std.proofs.lemmas.List.Elements.{All-cons, All-nil}
use Rattle.mc_box.proofs.Options.{then_some}
use Rattle.mc_box.specs.declared.event.Turn.{Turn}
use Rattle.mc_model.specs.PathTable.{PathHolds}
use Rattle.mc_model.specs.Paths.{paths}
use Rattle.mc_model.specs.Sound.{IsSound}
use Rattle.mc_model.specs.Steps.{run, step}
use Rattle.mc_model.specs.Worlds.{WorldState}
use Rattle.mc_net.specs.Nets.{NamesAll}
use Rattle.mc_path_laws.proofs.Quiet.{quiet_paths}
use Rattle.mc_path_laws.proofs.SettledHold.{settled_paths_hold}
use Rattle.mc_replay.proofs.Holds.{replayed_is}
use Rattle.mc_replay.specs.Journals.{AreShown, IsJournal, next_world}
use Rattle.mc_replay.specs.Replays.{views_of}
use Rattle.mc_script.specs.declared.command.JournalLine.{JournalLine}
use Rattle.mc_script.specs.declared.command.JournalLine.TheVariants.{Turn as Made, Settled}
use Rattle.mc_table.specs.Shown.{IsNamedView, print_settle}
use Rattle.mc_text.specs.NameLists.{NameLists}
use Rattle.mc_script_end.specs.Printed.{journal_text}
use Rattle.mc_settle_text.specs.Paths.{settle_text}
use Rattle.mc_top.specs.Shown.{ShowsPaths, shown_text}
use Rattle.mc_script_end.proofs.Running.{IsAfterSettle, after_settle}
use Rattle.mc_top.proofs.TextAlone.{segment_text}
use Rattle.mc_settle_text.proofs.Shown.{settle_is, views_named}
use Rattle.mc_script_end.proofs.Running.{has_names}
use Rattle.mc_view.specs.declared.PathView.{PathView}

-- ---- replaying

-- what is shown after the turns of a run is shown where the run leads
pub shown_behind : (Shows : WorldState → List PathView → Type 0) (turns : List Turn) (world last : WorldState) (rest : List JournalLine) (shown : List (List PathView)) → run world turns ≡ Some last
    → AreShown Shows world (map Made turns ++ rest) shown → AreShown Shows last rest shown
shown_behind Shows [] world last rest shown goes are = let same : world ≡ last = cc in subst (λ (w : WorldState). AreShown Shows w rest shown) same are
shown_behind Shows (turn ∷ turns) world last rest shown goes are =
    let one = then_some (λ (w : WorldState). run w turns) (step world turn) last goes in
    shown_behind Shows turns one.0 last rest shown one.2 (subst (λ (w : WorldState). AreShown Shows w (map Made turns ++ rest) shown) (replayed_is world one.0 turn one.1) are)

-- there are no more marks than lines
pub shown_few : (Shows : WorldState → List PathView → Type 0) (world : WorldState) (lines : List JournalLine) (shown : List (List PathView)) → AreShown Shows world lines shown → length shown ≤ length lines
shown_few Shows world [] shown are = omega (arith, ap (λ (list : List (List PathView)). length list) are)
shown_few Shows world (Made turn ∷ lines) shown are = let h = shown_few Shows (next_world world turn) lines shown are in omega (arith, h)
shown_few Shows world (Settled ∷ lines) [] are = absurd are
shown_few Shows world (Settled ∷ lines) (views ∷ shown) are = let h = shown_few Shows world lines shown are.1 in omega (arith, h)

-- ---- what is printed

-- what is shown has names, and is printed as the settles from a number on
pub record IsPrintable (names : NameLists) (number : ℕ) (world : WorldState) (lines : List JournalLine) (shown : List (List PathView)) : Type 0 where
  pub named : All (All (IsNamedView names)) shown
  pub text : shown_text names number shown ≡ journal_text names number world lines

-- at a mark, if so is what is shown after it
at_mark : (names : NameLists) (number : ℕ) (world last : WorldState) (lines rest : List JournalLine) (shown : List (List PathView)) → IsAfterSettle names last → All (PathHolds last) (paths last)
    → journal_text names number world lines ≡ settle_text names number last ++ journal_text names (number + 1) last rest
    → ((more : List (List PathView)) → AreShown ShowsPaths last rest more → IsPrintable names (number + 1) last rest more)
    → AreShown ShowsPaths last (Settled ∷ rest) shown → IsPrintable names number world lines shown
at_mark names number world last lines rest [] after holds prints later are = absurd are
at_mark names number world last lines rest (views ∷ shown) after holds prints later are =
    let others = later shown are.1 in
    record {
      named =
          All-cons (All (IsNamedView names)) views shown
          (subst (λ (list : List PathView). All (IsNamedView names) list) (sym are.0) (views_named names last (has_names names last after.sound after.named) after.sound (quiet_paths last after.sound after.quiet)))
          others.named;
      text =
          ap (λ (text : List ℕ). text ++ shown_text names (number + 1) shown) (ap (λ (list : List PathView). print_settle names number list) are.0 ∙ settle_is names number last holds)
          ∙ (ap (λ (text : List ℕ). settle_text names number last ++ text) others.text ∙ sym prints);
    }

pub journal_printable : (batches : List (List Turn)) (names : NameLists) (number : ℕ) (world : WorldState) (lines : List JournalLine) (shown : List (List PathView)) → IsSound world → NamesAll names world → IsJournal world batches lines
    → AreShown ShowsPaths world lines shown → IsPrintable names number world lines shown
journal_printable [] names number world lines shown sound all is are =
    let none : shown ≡ [] = subst (λ (list : List JournalLine). AreShown ShowsPaths world list shown) is are in
    record {
      named = subst (λ (list : List (List PathView)). All (All (IsNamedView names)) list) (sym none) (All-nil (All (IsNamedView names)));
      text = ap (λ (list : List (List PathView)). shown_text names number list) none ∙ sym (ap (λ (list : List JournalLine). journal_text names number world list) is);
    }
journal_printable (batch ∷ batches) names number world lines shown sound all (turns, last, rest, is, settled, later) are =
    let after = after_settle names world last batch turns sound all settled in
    let whole : lines ≡ map Made turns ++ (Settled ∷ rest) = is ∙ append_assoc (map Made turns) (Settled ∷ []) rest in
    at_mark names number world last lines rest shown after (settled_paths_hold world last batch turns sound settled) (segment_text names number world last turns lines rest settled.runs is)
    (λ more there. journal_printable batches names (number + 1) last rest more after.sound after.named later there)
    (shown_behind ShowsPaths turns world last (Settled ∷ rest) shown settled.runs (subst (λ (list : List JournalLine). AreShown ShowsPaths world list shown) whole are))

-- ---- settle by settle, as code keeps what is shown

-- the first settle that is left, and those after it
first_left : (names : NameLists) (all : List (Vec PathView Global)) (i : ℕ) (none : Vec PathView Global) → i < length all
    → shown_text names (i + 1) (views_of (drop i all)) ≡ print_settle names (i + 1) (slice_index_or all i none).items ++ shown_text names (i + 1 + 1) (views_of (drop (i + 1) all))
first_left names all i none within =
    ap (λ (left : List (Vec PathView Global)). shown_text names (i + 1) (views_of left)) (drop-cons all i none within ∙ ap (λ (n : ℕ). slice_index_or all i none ∷ drop n all) (sym (add-one i)))

pub printed_more : (names : NameLists) (all : List (Vec PathView Global)) (i : ℕ) (none : Vec PathView Global) (whole output : List ℕ) → i < length all → whole ≡ output ++ shown_text names (i + 1) (views_of (drop i all))
    → whole ≡ (output ++ print_settle names (i + 1) (slice_index_or all i none).items) ++ shown_text names (i + 1 + 1) (views_of (drop (i + 1) all))
printed_more names all i none whole output within so_far =
    so_far ∙ (ap (λ (text : List ℕ). output ++ text) (first_left names all i none within)
    ∙ sym (append_assoc output (print_settle names (i + 1) (slice_index_or all i none).items) (shown_text names (i + 1 + 1) (views_of (drop (i + 1) all)))))

pub printed_all : (names : NameLists) (all : List (Vec PathView Global)) (i : ℕ) (whole output : List ℕ) → length all ≤ i → whole ≡ output ++ shown_text names (i + 1) (views_of (drop i all)) → output ≡ whole
printed_all names all i whole output past so_far =
    sym (so_far ∙ (ap (λ (left : List (Vec PathView Global)). output ++ shown_text names (i + 1) (views_of left)) (drop_all i all past) ∙ append-nil output))

-- what is shown at a mark has names
pub views_at : (names : NameLists) (all : List (Vec PathView Global)) (i : ℕ) (none : Vec PathView Global) → i < length all → All (All (IsNamedView names)) (views_of all) → All (IsNamedView names) (slice_index_or all i none).items
views_at names all i none within named =
    subst (λ (list : List PathView). All (IsNamedView names) list) (get_or-map items_of all i none (items_of none) within)
    (named i (items_of none) (subst (λ (n : ℕ). i < n) (sym (length-map all items_of)) within))
  where
    items_of : Vec PathView Global → List PathView
    items_of views = views.items
