-- What is counted of the paths that are shown is what the path table says.
use Rattle.std.proofs.Common.{◌≡◌, ◌+◌, ◌++◌, ◌∷◌, [], ℕ, Bool, true, not, cond, List, All, Option, map, refl, ap, sym, ◌∙◌}
use Rattle.std.specs.List.{AllByRecursion, sum_by}
use Rattle.std.proofs.lemmas.List.Elements.{recursion_from_All}
use Rattle.std.proofs.lemmas.List.Sums.{sum_by-cons}
use Rattle.mc_slot.specs.declared.State.{State}
use Rattle.mc_slot.specs.declared.State.TheVariants.{Closed, Opening, Opened, Flowing, Closing}
use Rattle.mc_conf.specs.Printed.{print_conf}
use Rattle.mc_model.specs.PathTable.{PathHolds, high_hears, low_hears, path_state}
use Rattle.mc_model.specs.Paths.{PathEnds, paths}
use Rattle.mc_model.specs.Worlds.{WorldState, own_descriptor, own_sender, slot_of}
use Rattle.mc_path.specs.Views.{is_flowing, path_flows, shown_codec, view_of}
use Rattle.mc_table.specs.Summaries.{closed_views, flowing_views, heard_ends, hearing_ends, print_summary, summary_line}
use Rattle.mc_text.specs.NameLists.{NameLists}
use Rattle.mc_top.specs.Printed.{report_text}
use Rattle.mc_top.specs.Shown.{print_report}
use Rattle.mc_top.specs.Summaries.{closed_paths, flowing_paths, hearing_path_ends, summary_text}
use Rattle.mc_top.specs.declared.report.Report.{Report}
use Rattle.mc_top.specs.declared.report.Report.TheVariants.{Conference, Paths, Summary}
use Rattle.mc_settle_text.proofs.Shown.{both_flow, heard_is, settle_is}
use Rattle.mc_view.specs.declared.PathView.{PathView}

-- ---- sums

-- a sum over the images of a list, where each has the term of what it is the image of
sums_alike : {X Y : Type 0} (P : X → Type 0) (f : Y → ℕ) (g : X → ℕ) (image : X → Y) → ((x : X) → P x → f (image x) ≡ g x) → (xs : List X) → AllByRecursion P xs → sum_by f (map image xs) ≡ sum_by g xs
sums_alike P f g image alike [] all = refl
sums_alike P f g image alike (x ∷ xs) all =
    sum_by-cons f (image x) (map image xs)
    ∙ (ap (λ (n : ℕ). n + sum_by f (map image xs)) (alike x all.0)
    ∙ (ap (λ (n : ℕ). g x + n) (sums_alike P f g image alike xs all.1) ∙ sym (sum_by-cons g x xs)))

-- ---- a path that is as the table says

-- it flows where the table says so
flows_is : (world : WorldState) (path : PathEnds) → PathHolds world path → path_flows world path ≡ is_flowing (path_state world path)
flows_is world path holds = both_flow (path_state world path) (slot_of world path.low).state (slot_of world path.high).state holds.low holds.high

-- and its ends hear what the table says
ends_by : (state : State) (world : WorldState) (path : PathEnds)
    → (state ≡ Flowing → shown_codec true (slot_of world path.low).sel_in ≡ low_hears world path)
    → (state ≡ Flowing → shown_codec true (slot_of world path.high).sel_in ≡ high_hears world path)
    → heard_ends (is_flowing state) (shown_codec (is_flowing state) (slot_of world path.low).sel_in) (shown_codec (is_flowing state) (slot_of world path.high).sel_in)
    ≡ heard_ends (is_flowing state) (low_hears world path) (high_hears world path)
ends_by Closed world path low high = refl
ends_by Opening world path low high = refl
ends_by Opened world path low high = refl
ends_by Closing world path low high = refl
ends_by Flowing world path low high =
    ap (λ (codec : Option ℕ). heard_ends true codec (shown_codec true (slot_of world path.high).sel_in)) (low refl)
    ∙ ap (λ (codec : Option ℕ). heard_ends true (low_hears world path) codec) (high refl)

ends_are : (world : WorldState) (path : PathEnds) → PathHolds world path
    → heard_ends (view_of world path).flowing (view_of world path).low.hears (view_of world path).high.hears ≡ heard_ends (is_flowing (path_state world path)) (low_hears world path) (high_hears world path)
ends_are world path holds =
    ap (λ (flowing : Bool). heard_ends flowing (shown_codec flowing (slot_of world path.low).sel_in) (shown_codec flowing (slot_of world path.high).sel_in)) (flows_is world path holds)
    ∙ ends_by (path_state world path) world path
    (λ flows. heard_is (slot_of world path.low).sel_in (own_descriptor world path.low) (own_sender world path.high) (holds.low_hears flows).chosen)
    (λ flows. heard_is (slot_of world path.high).sel_in (own_descriptor world path.high) (own_sender world path.low) (holds.high_hears flows).chosen)

-- ---- a settle

summary_is : (number : ℕ) (world : WorldState) → All (PathHolds world) (paths world) → print_summary number (map (view_of world) (paths world)) ≡ summary_text number world
summary_is number world holds =
    let views : List PathView = map (view_of world) (paths world) in
    let all = recursion_from_All (PathHolds world) (paths world) holds in
    let flowing : flowing_views views ≡ flowing_paths world =
    sums_alike (PathHolds world) (λ (view : PathView). cond view.flowing 1 0) (λ (path : PathEnds). cond (is_flowing (path_state world path)) 1 0) (view_of world)
    (λ path here. ap (λ (flows : Bool). cond flows 1 0) (flows_is world path here)) (paths world) all in
    let closed : closed_views views ≡ closed_paths world =
    sums_alike (PathHolds world) (λ (view : PathView). cond (not view.flowing) 1 0) (λ (path : PathEnds). cond (not (is_flowing (path_state world path))) 1 0) (view_of world)
    (λ path here. ap (λ (flows : Bool). cond (not flows) 1 0) (flows_is world path here)) (paths world) all in
    let heard : hearing_ends views ≡ hearing_path_ends world =
    sums_alike (PathHolds world) (λ (view : PathView). heard_ends view.flowing view.low.hears view.high.hears)
    (λ (path : PathEnds). heard_ends (is_flowing (path_state world path)) (low_hears world path) (high_hears world path)) (view_of world) (ends_are world) (paths world) all in
    ap (λ (n : ℕ). summary_line number n (closed_views views) (hearing_ends views)) flowing
    ∙ (ap (λ (n : ℕ). summary_line number (flowing_paths world) n (hearing_ends views)) closed
    ∙ ap (λ (n : ℕ). summary_line number (flowing_paths world) (closed_paths world) n) heard)

-- what is reported of paths that are as the table says
pub report_is : (report : Report) (names : NameLists) (number : ℕ) (world : WorldState) → All (PathHolds world) (paths world)
    → print_report report names number (map (view_of world) (paths world)) ≡ report_text report names number world
report_is Paths names number world holds = settle_is names number world holds
report_is (Summary first size) names number world holds = summary_is number world holds
report_is (Conference who) names number world holds =
    ap (λ (text : List ℕ). text ++ print_conf names who (map (view_of world) (paths world))) (settle_is names number world holds)
