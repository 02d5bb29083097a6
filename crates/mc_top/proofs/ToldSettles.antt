-- What is told at the marks of a journal of why paths closed is printed as the definition says.
use Rattle.std.proofs.Common.{◌≡◌, ◌+◌, ◌<◌, ◌≤◌, ◌++◌, ◌∷◌, [], ℕ, suc, Bool, false, List, All, Some, None, Option, Vec, add-one, append-nil, append_assoc, ap, codes, drop, length, map, refl, slice_index_or, subst, sym, ◌∙◌}
use Rattle.std.proofs.Math.Seq.{drop-cons}
use Rattle.std.proofs.lemmas.List.{drop_all}
use Rattle.std.specs.declared.alloc.Global.{Global}
use Rattle.std.specs.List.{AllByRecursion, flat_map}
use Rattle.std.proofs.lemmas.List.Elements.{recursion_from_All}
use Rattle.mc_box.proofs.Options.{then_some}
use Rattle.mc_box.specs.declared.event.Turn.{Turn}
use Rattle.mc_cause.specs.Causes.{why}
use Rattle.mc_cause.proofs.Known.{run_count}
use Rattle.mc_model.specs.PathTable.{PathHolds, path_state}
use Rattle.mc_model.specs.Paths.{PathEnds, paths}
use Rattle.mc_model.specs.Sound.{IsSound}
use Rattle.mc_model.specs.Steps.{run, step}
use Rattle.mc_model.specs.Worlds.{WorldState, slot_count, slot_of}
use Rattle.mc_slot.specs.declared.State.{State}
use Rattle.mc_slot.specs.declared.State.TheVariants.{Closed, Opening, Opened, Flowing, Closing}
use Rattle.mc_net.specs.Nets.{NamesAll}
use Rattle.mc_path.specs.Views.{end_view, is_flowing, path_flows, view_of}
use Rattle.mc_path_laws.proofs.SettledHold.{settled_paths_hold}
use Rattle.mc_replay.proofs.Holds.{replayed_is}
use Rattle.mc_replay.specs.Journals.{AreShown, IsJournal, next_world}
use Rattle.mc_replay.specs.Replays.{views_of}
use Rattle.mc_replay.specs.Told.{AreTold, TellsWhys, whys_of}
use Rattle.mc_script.specs.declared.command.JournalLine.{JournalLine}
use Rattle.mc_script.specs.declared.command.JournalLine.TheVariants.{Turn as Made, Settled}
use Rattle.mc_table.specs.Shown.{print_settle}
use Rattle.mc_table.specs.Whys as shown
use Rattle.mc_table.specs.Whys.{print_whys, why_word}
use Rattle.mc_table.specs.Words.{line_of}
use Rattle.mc_text.specs.NameLists.{NameLists}
use Rattle.mc_top.specs.Printed.{told_text, why_line, why_lines, whys_text}
use Rattle.mc_settle_text.specs.Paths.{settle_text}
use Rattle.mc_settle_text.specs.Words.{place_word}
use Rattle.mc_top.specs.Shown.{ShowsPaths, printed_text}
use Rattle.mc_script_end.proofs.Running.{after_settle}
use Rattle.mc_top.proofs.ShownSettles.{shown_behind}
use Rattle.mc_settle_text.proofs.Shown.{AreInside, are_inside, both_flow, settle_is, view_by}
use Rattle.mc_view.specs.declared.PathView.{PathView}

-- ---- one settle

-- an end, by what is told of its slot
end_is : (names : NameLists) (world : WorldState) (flowing : Bool) (whys : List (Option ℕ)) (s : ℕ) (first : WorldState) (turns : List Turn) → slice_index_or whys s None ≡ why first turns s
    → shown.why_line names whys (end_view world flowing s) ≡ why_line names first turns world s
end_is names world flowing whys s first turns is = ap (λ (o : Option ℕ). line_of (codes "why" ∷ place_word names world s ∷ why_word o ∷ [])) is

-- both ends of a path that doesn't flow
both_ends : (names : NameLists) (world : WorldState) (whys : List (Option ℕ)) (first : WorldState) (turns : List Turn) (path : PathEnds)
    → slice_index_or whys path.low None ≡ why first turns path.low → slice_index_or whys path.high None ≡ why first turns path.high
    → shown.why_line names whys (end_view world false path.low) ++ shown.why_line names whys (end_view world false path.high) ≡ why_line names first turns world path.low ++ why_line names first turns world path.high
both_ends names world whys first turns path low high =
    ap (λ (line : List ℕ). line ++ shown.why_line names whys (end_view world false path.high)) (end_is names world false whys path.low first turns low)
    ∙ ap (λ (line : List ℕ). why_line names first turns world path.low ++ line) (end_is names world false whys path.high first turns high)

-- and by the path's state
lines_by : (state : State) (names : NameLists) (world : WorldState) (whys : List (Option ℕ)) (first : WorldState) (turns : List Turn) (path : PathEnds)
    → slice_index_or whys path.low None ≡ why first turns path.low → slice_index_or whys path.high None ≡ why first turns path.high
    → shown.why_lines (is_flowing state) names whys (view_by world path (is_flowing state)) ≡ why_lines state names first turns world path
lines_by Flowing names world whys first turns path low high = refl
lines_by Closed names world whys first turns path low high = both_ends names world whys first turns path low high
lines_by Opening names world whys first turns path low high = both_ends names world whys first turns path low high
lines_by Opened names world whys first turns path low high = both_ends names world whys first turns path low high
lines_by Closing names world whys first turns path low high = both_ends names world whys first turns path low high

lines_are : (names : NameLists) (world : WorldState) (whys : List (Option ℕ)) (first : WorldState) (turns : List Turn) (path : PathEnds) → TellsWhys first turns whys → slot_count world ≡ slot_count first
    → PathHolds world path → AreInside world path
    → shown.why_lines (view_of world path).flowing names whys (view_of world path) ≡ why_lines (path_state world path) names first turns world path
lines_are names world whys first turns path tells same holds inside =
    let flows : path_flows world path ≡ is_flowing (path_state world path) = both_flow (path_state world path) (slot_of world path.low).state (slot_of world path.high).state holds.low holds.high in
    ap (λ (flowing : Bool). shown.why_lines flowing names whys (view_by world path flowing)) flows
    ∙ lines_by (path_state world path) names world whys first turns path
    (tells path.low (subst (λ (n : ℕ). path.low < n) same inside.0)) (tells path.high (subst (λ (n : ℕ). path.high < n) same inside.1))

all_lines : (names : NameLists) (world : WorldState) (whys : List (Option ℕ)) (first : WorldState) (turns : List Turn) (ends : List PathEnds) → TellsWhys first turns whys → slot_count world ≡ slot_count first
    → AllByRecursion (PathHolds world) ends → AllByRecursion (AreInside world) ends
    → print_whys names (map (view_of world) ends) whys ≡ flat_map (λ path. why_lines (path_state world path) names first turns world path) ends
all_lines names world whys first turns [] tells same holds inside = refl
all_lines names world whys first turns (path ∷ ends) tells same holds inside =
    ap (λ (text : List ℕ). text ++ print_whys names (map (view_of world) ends) whys) (lines_are names world whys first turns path tells same holds.0 inside.0)
    ∙ ap (λ (text : List ℕ). why_lines (path_state world path) names first turns world path ++ text) (all_lines names world whys first turns ends tells same holds.1 inside.1)

whys_are : (names : NameLists) (world : WorldState) (whys : List (Option ℕ)) (first : WorldState) (turns : List Turn) → TellsWhys first turns whys → slot_count world ≡ slot_count first → IsSound world
    → All (PathHolds world) (paths world) → print_whys names (map (view_of world) (paths world)) whys ≡ whys_text names first turns world
whys_are names world whys first turns tells same sound holds =
    all_lines names world whys first turns (paths world) tells same (recursion_from_All (PathHolds world) (paths world) holds) (recursion_from_All (AreInside world) (paths world) (are_inside world sound))

-- ---- replaying

-- what is told after the turns of a run is told after these turns more
told_behind : (made : List Turn) (first : WorldState) (turns : List Turn) (rest : List JournalLine) (told : List (List (Option ℕ))) → AreTold first turns (map Made made ++ rest) told → AreTold first (turns ++ made) rest told
told_behind [] first turns rest told are = subst (λ (l : List Turn). AreTold first l rest told) (sym (append-nil turns)) are
told_behind (turn ∷ made) first turns rest told are =
    subst (λ (l : List Turn). AreTold first l rest told) (append_assoc turns (turn ∷ []) made) (told_behind made first (turns ++ turn ∷ []) rest told are)

-- and so is what is printed
text_behind : (made : List Turn) (names : NameLists) (number : ℕ) (first : WorldState) (turns : List Turn) (world last : WorldState) (rest : List JournalLine) → run world made ≡ Some last
    → told_text names number first turns world (map Made made ++ rest) ≡ told_text names number first (turns ++ made) last rest
text_behind [] names number first turns world last rest goes =
    let same : world ≡ last = cc in
    ap (λ (w : WorldState). told_text names number first turns w rest) same ∙ ap (λ (l : List Turn). told_text names number first l last rest) (sym (append-nil turns))
text_behind (turn ∷ made) names number first turns world last rest goes =
    let one = then_some (λ (w : WorldState). run w made) (step world turn) last goes in
    ap (λ (w : WorldState). told_text names number first (turns ++ turn ∷ []) w (map Made made ++ rest)) (replayed_is world one.0 turn one.1)
    ∙ (text_behind made names number first (turns ++ turn ∷ []) one.0 last rest one.2
    ∙ ap (λ (l : List Turn). told_text names number first l last rest) (append_assoc turns (turn ∷ []) made))

-- ---- what is printed

-- at a mark, if so is what is told after it
at_mark : (names : NameLists) (number : ℕ) (first : WorldState) (turns : List Turn) (last : WorldState) (rest : List JournalLine) (shown : List (List PathView)) (told : List (List (Option ℕ)))
    → slot_count last ≡ slot_count first → IsSound last → All (PathHolds last) (paths last)
    → ((more : List (List PathView)) (others : List (List (Option ℕ))) → AreShown ShowsPaths last rest more → AreTold first turns rest others → printed_text names (number + 1) more others ≡ told_text names (number + 1) first turns last rest)
    → AreShown ShowsPaths last (Settled ∷ rest) shown → AreTold first turns (Settled ∷ rest) told
    → printed_text names number shown told ≡ told_text names number first turns last (Settled ∷ rest)
at_mark names number first turns last rest [] told same sound holds later are tells = absurd are
at_mark names number first turns last rest (views ∷ shown) [] same sound holds later are tells = absurd tells
at_mark names number first turns last rest (views ∷ shown) (whys ∷ told) same sound holds later are tells =
    ap (λ (list : List PathView). (print_settle names number list ++ print_whys names list whys) ++ printed_text names (number + 1) shown told) are.0
    ∙ (ap (λ (text : List ℕ). (text ++ print_whys names (map (view_of last) (paths last)) whys) ++ printed_text names (number + 1) shown told) (settle_is names number last holds)
    ∙ (ap (λ (text : List ℕ). (settle_text names number last ++ text) ++ printed_text names (number + 1) shown told) (whys_are names last whys first turns tells.0 same sound holds)
    ∙ ap (λ (text : List ℕ). (settle_text names number last ++ whys_text names first turns last) ++ text) (later shown told are.1 tells.1)))

pub told_printable : (batches : List (List Turn)) (names : NameLists) (number : ℕ) (first : WorldState) (turns : List Turn) (world : WorldState) (lines : List JournalLine) (shown : List (List PathView)) (told : List (List (Option ℕ)))
    → IsSound world → NamesAll names world → slot_count world ≡ slot_count first → IsJournal world batches lines → AreShown ShowsPaths world lines shown → AreTold first turns lines told
    → printed_text names number shown told ≡ told_text names number first turns world lines
told_printable [] names number first turns world lines shown told sound all same is are tells =
    let none : shown ≡ [] = subst (λ (list : List JournalLine). AreShown ShowsPaths world list shown) is are in
    ap (λ (list : List (List PathView)). printed_text names number list told) none ∙ sym (ap (λ (list : List JournalLine). told_text names number first turns world list) is)
told_printable (batch ∷ batches) names number first turns world lines shown told sound all same (made, last, rest, is, settled, later) are tells =
    let after = after_settle names world last batch made sound all settled in
    let whole : lines ≡ map Made made ++ (Settled ∷ rest) = is ∙ append_assoc (map Made made) (Settled ∷ []) rest in
    let count : slot_count last ≡ slot_count first = run_count made world last sound settled.runs ∙ same in
    at_mark names number first (turns ++ made) last rest shown told count after.sound (settled_paths_hold world last batch made sound settled)
    (λ more others there telling. told_printable batches names (number + 1) first (turns ++ made) last rest more others after.sound after.named count later there telling)
    (shown_behind ShowsPaths made world last (Settled ∷ rest) shown settled.runs (subst (λ (list : List JournalLine). AreShown ShowsPaths world list shown) whole are))
    (told_behind made first turns (Settled ∷ rest) told (subst (λ (list : List JournalLine). AreTold first turns list told) whole tells))
    ∙ sym (ap (λ (list : List JournalLine). told_text names number first turns world list) whole ∙ text_behind made names number first turns world last (Settled ∷ rest) settled.runs)

-- ---- settle by settle, as code keeps what is shown and told

-- there are as many of both
pub as_many : (Shows : WorldState → List PathView → Type 0) (first : WorldState) (turns : List Turn) (world : WorldState) (lines : List JournalLine) (shown : List (List PathView)) (told : List (List (Option ℕ)))
    → AreShown Shows world lines shown → AreTold first turns lines told → length told ≡ length shown
as_many Shows first turns world [] shown told are tells = ap length tells ∙ sym (ap length are)
as_many Shows first turns world (Made turn ∷ lines) shown told are tells = as_many Shows first (turns ++ turn ∷ []) (next_world world turn) lines shown told are tells
as_many Shows first turns world (Settled ∷ lines) [] told are tells = absurd are
as_many Shows first turns world (Settled ∷ lines) (views ∷ shown) [] are tells = absurd tells
as_many Shows first turns world (Settled ∷ lines) (views ∷ shown) (whys ∷ told) are tells = ap suc (as_many Shows first turns world lines shown told are.1 tells.1)

-- the first settle that is left, and those after it
first_left : (names : NameLists) (shown : List (Vec PathView Global)) (told : List (Vec (Option ℕ) Global)) (i : ℕ) (none : Vec PathView Global) (no_whys : Vec (Option ℕ) Global) → i < length shown → length told ≡ length shown
    → printed_text names (i + 1) (views_of (drop i shown)) (whys_of (drop i told))
    ≡ (print_settle names (i + 1) (slice_index_or shown i none).items ++ print_whys names (slice_index_or shown i none).items (slice_index_or told i no_whys).items) ++ printed_text names (i + 1 + 1) (views_of (drop (i + 1) shown)) (whys_of (drop (i + 1) told))
first_left names shown told i none no_whys within same =
    ap (λ (left : List (Vec PathView Global)). printed_text names (i + 1) (views_of left) (whys_of (drop i told))) (drop-cons shown i none within ∙ ap (λ (n : ℕ). slice_index_or shown i none ∷ drop n shown) (sym (add-one i)))
    ∙ ap (λ (left : List (Vec (Option ℕ) Global)). printed_text names (i + 1) (views_of (slice_index_or shown i none ∷ drop (i + 1) shown)) (whys_of left))
    (drop-cons told i no_whys (subst (λ (n : ℕ). i < n) (sym same) within) ∙ ap (λ (n : ℕ). slice_index_or told i no_whys ∷ drop n told) (sym (add-one i)))

pub told_more : (names : NameLists) (shown : List (Vec PathView Global)) (told : List (Vec (Option ℕ) Global)) (i : ℕ) (none : Vec PathView Global) (no_whys : Vec (Option ℕ) Global) (whole output : List ℕ) → i < length shown → length told ≡ length shown
    → whole ≡ output ++ printed_text names (i + 1) (views_of (drop i shown)) (whys_of (drop i told))
    → whole ≡ (output ++ (print_settle names (i + 1) (slice_index_or shown i none).items ++ print_whys names (slice_index_or shown i none).items (slice_index_or told i no_whys).items))
    ++ printed_text names (i + 1 + 1) (views_of (drop (i + 1) shown)) (whys_of (drop (i + 1) told))
told_more names shown told i none no_whys whole output within same so_far =
    so_far ∙ (ap (λ (text : List ℕ). output ++ text) (first_left names shown told i none no_whys within same)
    ∙ sym (append_assoc output (print_settle names (i + 1) (slice_index_or shown i none).items ++ print_whys names (slice_index_or shown i none).items (slice_index_or told i no_whys).items)
    (printed_text names (i + 1 + 1) (views_of (drop (i + 1) shown)) (whys_of (drop (i + 1) told)))))

pub told_all : (names : NameLists) (shown : List (Vec PathView Global)) (told : List (Vec (Option ℕ) Global)) (i : ℕ) (whole output : List ℕ) → length shown ≤ i
    → whole ≡ output ++ printed_text names (i + 1) (views_of (drop i shown)) (whys_of (drop i told)) → output ≡ whole
told_all names shown told i whole output past so_far =
    sym (so_far ∙ (ap (λ (left : List (Vec PathView Global)). output ++ printed_text names (i + 1) (views_of left) (whys_of (drop i told))) (drop_all i shown past) ∙ append-nil output))
