-- What is shown of a network has names, and is printed as the table says.
use Rattle.std.proofs.Common.{◌≡◌, ◌∙◌, [], ◌∷◌, ℕ, Bool, true, false, List, All, cond, filter, map, not, refl, ap, sym, subst}
use Rattle.std.proofs.lemmas.List.Elements.{All-filter}
use Rattle.mc_growth.specs.Growths.{GrownState, network_paths}
use Rattle.mc_growth.specs.Outs.{is_out}
use Rattle.mc_grown_script.proofs.Names.{has_names}
use Rattle.mc_grown_script.specs.Printed.{network_text}
use Rattle.mc_model.specs.PathTable.{PathHolds}
use Rattle.mc_model.specs.Paths.{PathEnds, paths}
use Rattle.mc_model.specs.Sound.{IsSound}
use Rattle.mc_model.specs.Worlds.{WorldState}
use Rattle.mc_path.specs.Views.{view_of}
use Rattle.mc_path_laws.specs.PathLaws.{IsQuietPath}
use Rattle.mc_settle_text.proofs.Shown.{paths_are, views_named}
use Rattle.mc_stages.specs.Plans.{NamesEnough}
use Rattle.mc_table.specs.Shown.{IsNamedView, print_settle}
use Rattle.mc_text.specs.NameLists.{NameLists}
use Rattle.mc_view.specs.declared.PathView.{PathView}

-- ---- text

-- one path more, by whether a test leaves it
shown_one : (here : Bool) (world : WorldState) (path : PathEnds) (views : List PathView) (more : List PathEnds) → views ≡ map (view_of world) more
    → cond here (view_of world path ∷ views) views ≡ map (view_of world) (cond here (path ∷ more) more)
shown_one true world path views more same = ap (λ (rest : List PathView). view_of world path ∷ rest) same
shown_one false world path views more same = same

-- those that a test by the lower end leaves
shown_left : (world : WorldState) (left : ℕ → Bool) (ends : List PathEnds)
    → filter (λ view. left view.low.slot) (map (view_of world) ends) ≡ map (view_of world) (filter (λ path. left path.low) ends)
shown_left world left [] = refl
shown_left world left (path ∷ ends) =
    shown_one (left path.low) world path (filter (λ view. left view.low.slot) (map (view_of world) ends)) (filter (λ (p : PathEnds). left p.low) ends) (shown_left world left ends)

-- all paths of a network are printed as the table says
pub network_is : (names : NameLists) (number : ℕ) (network : GrownState) → All (PathHolds network.world) (network_paths network)
    → print_settle names number (filter (λ view. not (is_out network.out view.low.slot)) (map (view_of network.world) (paths network.world)))
    ≡ network_text names number network
network_is names number network all =
    ap (λ (views : List PathView). print_settle names number views) (shown_left network.world (λ s. not (is_out network.out s)) (paths network.world))
    ∙ paths_are names number network.world (network_paths network) all

-- ---- names

-- those that are not out have names
pub present_named : (names : NameLists) (network : GrownState) → NamesEnough names network.world → IsSound network.world
    → All (IsQuietPath network.world) (paths network.world)
    → All (IsNamedView names) (filter (λ view. not (is_out network.out view.low.slot)) (map (view_of network.world) (paths network.world)))
present_named names network all sound quiet =
    All-filter (λ view. not (is_out network.out view.low.slot)) (IsNamedView names) (map (view_of network.world) (paths network.world))
    (views_named names network.world (has_names names network.world sound all) sound quiet)

-- ---- as code makes the views

-- what is shown of a network, by the views of all its paths
pub shown_text : (names : NameLists) (number : ℕ) (network : GrownState) (world : WorldState) (views shown : List PathView) → world ≡ network.world
    → views ≡ map (view_of world) (paths world) → shown ≡ filter (λ view. not (is_out network.out view.low.slot)) views
    → All (PathHolds network.world) (network_paths network) → print_settle names number shown ≡ network_text names number network
shown_text names number network world views shown one two three holds =
    ap (λ (list : List PathView). print_settle names number list)
    (three ∙ (ap (λ (list : List PathView). filter (λ view. not (is_out network.out view.low.slot)) list) two
    ∙ ap (λ (w : WorldState). filter (λ view. not (is_out network.out view.low.slot)) (map (view_of w) (paths w))) one))
    ∙ network_is names number network holds

pub shown_named : (names : NameLists) (network : GrownState) (world : WorldState) (views shown : List PathView) → world ≡ network.world
    → views ≡ map (view_of world) (paths world) → shown ≡ filter (λ view. not (is_out network.out view.low.slot)) views
    → IsSound world → All (IsQuietPath world) (paths world) → NamesEnough names network.world → All (IsNamedView names) shown
shown_named names network world views shown one two three sound quiet named =
    subst (λ (list : List PathView). All (IsNamedView names) list)
    (sym (three ∙ (ap (λ (list : List PathView). filter (λ view. not (is_out network.out view.low.slot)) list) two
    ∙ ap (λ (w : WorldState). filter (λ view. not (is_out network.out view.low.slot)) (map (view_of w) (paths w))) one)))
    (present_named names network named (subst IsSound one sound) (subst (λ (w : WorldState). All (IsQuietPath w) (paths w)) one quiet))
