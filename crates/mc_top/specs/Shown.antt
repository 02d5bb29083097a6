-- What is shown at the marks of a journal that is checked, and printed.
use Rattle.std.specs.Prelude.{◌≡◌, ℕ, ◌+◌, List, [], ◌∷◌, ◌++◌, ◌<◌, length, map, Option}
use Rattle.mc_conf.specs.Printed.{print_conf}
use Rattle.mc_model.specs.Paths.{paths}
use Rattle.mc_model.specs.Worlds.{WorldState}
use Rattle.mc_path.specs.Views.{view_of}
use Rattle.mc_table.specs.Shown.{print_settle}
use Rattle.mc_table.specs.Whys.{print_whys}
use Rattle.mc_table.specs.Summaries.{print_summary}
use Rattle.mc_text.specs.NameLists.{NameLists}
use Rattle.mc_top.specs.declared.report.Report.{Report}
use Rattle.mc_top.specs.declared.report.Report.TheVariants.{Conference, Paths, Summary}
use Rattle.mc_view.specs.declared.PathView.{PathView}

-- these are the views of all paths of a world
abbrev pub ShowsPaths : WorldState → List PathView → Type 0
ShowsPaths world views = views ≡ map (view_of world) (paths world)

-- the settles for what is shown at each, numbered from a number on
abbrev pub shown_text : NameLists → ℕ → List (List PathView) → List ℕ
shown_text names number [] = []
shown_text names number (views ∷ shown) = print_settle names number views ++ shown_text names (number + 1) shown

-- the same with what is told at each settle of why slots are closed
abbrev pub printed_text : NameLists → ℕ → List (List PathView) → List (List (Option ℕ)) → List ℕ
printed_text names number [] told = []
printed_text names number (views ∷ shown) [] = []
printed_text names number (views ∷ shown) (whys ∷ told) =
    (print_settle names number views ++ print_whys names views whys) ++ printed_text names (number + 1) shown told

-- what a run prints for what is shown at a settle, by the settle's number
abbrev pub print_report : Report → NameLists → ℕ → List PathView → List ℕ
print_report Paths names number views = print_settle names number views
print_report (Summary first size) names number views = print_summary number views
print_report (Conference who) names number views = print_settle names number views ++ print_conf names who views

-- the box of a conference has a name
abbrev pub HasNamedBox : NameLists → Report → Type 0
HasNamedBox names (Conference who) = who < length names.boxes
HasNamedBox names report = Unit {0}
