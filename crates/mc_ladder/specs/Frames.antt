-- What all rows of a ladder have in common.
use Rattle.std.specs.Prelude.{ℕ, Bool, List, nat_lt}
use Rattle.mc_model.specs.Worlds.{WorldState}
use Rattle.mc_text.specs.NameLists.{NameLists}
use Rattle.mc_ladder.specs.declared.frame.TheConstants.{SHORT_NAME}
use Rattle.mc_ladder.specs.declared.glyph.Style.{Style}
use Rattle.mc_ladder.specs.Placing.{place_width, widest_name}

-- in which bytes it is drawn, the boxes by their columns, the cells for the place of a turn, and whether the heads need
-- two lines
pub record FrameState : Type 0 where
  pub style : Style
  pub columns : List ℕ
  pub width : ℕ
  pub long : Bool

-- the name of some box is too long for heads in one line
abbrev pub has_long_name : NameLists → Bool
has_long_name names = nat_lt SHORT_NAME (widest_name names)

-- the frame for these columns of a network
abbrev pub frame_of : Style → NameLists → WorldState → (columns : List ℕ) → FrameState
frame_of style names world columns = record {
  style = style;
  columns = columns;
  width = place_width style names world;
  long = has_long_name names;
}
