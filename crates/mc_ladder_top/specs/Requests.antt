-- What is asked for, and what it chooses in a network.
use Rattle.std.specs.Prelude.{ℕ, Bool, List, Option, filter_map, find, is_none, map}
use Rattle.mc_ladder_choice.specs.declared.choice.Span.{Span}
use Rattle.mc_ladder_choice.specs.Choices.{ChoiceState}
use Rattle.mc_text.specs.NameLists.{NameLists, place_of}
use Rattle.mc_ladder_top.specs.declared.picture.Picture.{Picture}
use Rattle.mc_ladder_top.specs.declared.words.LadderRequest.{LadderRequest}

-- the form of the ladder, the settles that are drawn, where not all, the names of the boxes, where not all, and whether
-- a faulty journal is drawn up to its first fault
pub record Requested : Type 0 where
  pub picture : Picture
  pub settles : Option Span
  pub names : List (List ℕ)
  pub up_to_fault : Bool

-- the same as the words have it
abbrev pub asked : LadderRequest → Requested
asked request = record {
  picture = request.picture;
  settles = request.settles;
  names = map (λ name. name.now) request.boxes.items;
  up_to_fault = request.up_to_fault;
}

-- the number of the box with a name, if there is one
abbrev pub box_named : NameLists → (name : List ℕ) → Option ℕ
box_named names name = place_of names.boxes name

-- the first of these names that no box has
abbrev pub unknown_in : NameLists → List (List ℕ) → Option (List ℕ)
unknown_in names wanted = find (λ name. is_none (box_named names name)) wanted

-- what is asked for, by the numbers of the boxes
abbrev pub choice_of : NameLists → Requested → ChoiceState
choice_of names request =
    record { settles = request.settles; boxes = filter_map (λ name. box_named names name) request.names }
