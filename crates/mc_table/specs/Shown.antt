-- What is printed for a settle, of the paths that are shown.
use Rattle.std.specs.Prelude.{ℕ, ◌<◌, Bool, true, false, length, List, [], ◌∷◌, ◌++◌, codes}
use Rattle.std.specs.Fmt.{decimal}
use Rattle.std.specs.List.{flat_map}
use Rattle.mc_view.specs.declared.EndView.{EndView}
use Rattle.mc_view.specs.declared.PathView.{PathView}
use Rattle.mc_text.specs.NameLists.{NameLists, slot_word, slot_names}
use Rattle.mc_script.specs.Meaning.{goal_word}
use Rattle.mc_table.specs.Words.{IsNamedCodec, codec_word, flow_word, line_of, medium_word}

abbrev pub end_word : NameLists → EndView → List ℕ
end_word names end = slot_word names end.who end.local

abbrev pub view_line : NameLists → PathView → List ℕ
view_line names view = line_of (
    codes "path"
    ∷ end_word names view.low
    ∷ end_word names view.high
    ∷ goal_word view.low.goal
    ∷ goal_word view.high.goal
    ∷ flow_word view.flowing
    ∷ medium_word view.medium
    ∷ [])

abbrev pub hearing_line : NameLists → EndView → List ℕ
hearing_line names end = line_of (codes "hears" ∷ end_word names end ∷ codec_word names end.hears ∷ [])

-- who hears what, where the path flows
abbrev pub hearing_lines : Bool → NameLists → PathView → List ℕ
hearing_lines true names view = hearing_line names view.low ++ hearing_line names view.high
hearing_lines false names view = []

abbrev pub view_text : NameLists → PathView → List ℕ
view_text names view = view_line names view ++ hearing_lines view.flowing names view

-- a settle by its number, and then each path that is shown, in their order
abbrev pub print_settle : NameLists → ℕ → List PathView → List ℕ
print_settle names number views = line_of (codes "settle" ∷ decimal number ∷ []) ++ flat_map (view_text names) views

-- the box, the slot and the heard codec of an end have names
pub record IsNamedEnd (names : NameLists) (end : EndView) : Type 0 where
  pub box : end.who < length names.boxes
  pub slot : end.local < length (slot_names names end.who)
  pub codec : IsNamedCodec names end.hears

-- both ends of a path have names
pub record IsNamedView (names : NameLists) (view : PathView) : Type 0 where
  pub low : IsNamedEnd names view.low
  pub high : IsNamedEnd names view.high
