-- The ladder of the journal after a text.
use Rattle.std.specs.Prelude.{◌≡◌, ℕ, List}
use Rattle.mc_ladder.specs.Ladders.{ladder_text}
use Rattle.mc_ladder_page.specs.Data.{page_data}
use Rattle.mc_ladder_page.specs.Pages.{page_of}
use Rattle.mc_ladder_svg.specs.Pictures.{ladder_svg}
use Rattle.mc_lines.specs.SoFar.{Declared}
use Rattle.mc_lines.specs.declared.tail.Tail.TheVariants.{Journal}
use Rattle.mc_net.specs.Nets.{DeclaresBlocks, DeclaresNet}
use Rattle.mc_net.specs.Texts.{Says}
use Rattle.mc_net.specs.declared.net.Net.{Net}
use Rattle.mc_program_lines.specs.Programs.{BlockState}
use Rattle.mc_script.specs.declared.command.JournalLine.{JournalLine}
use Rattle.mc_text.specs.NameLists.{NameLists}
use Rattle.mc_model.specs.Worlds.{WorldState}
use Rattle.mc_ladder_choice.specs.Choices.{ChoiceState}
use Rattle.mc_ladder_top.specs.declared.picture.Picture.{Picture}
use Rattle.mc_ladder_top.specs.declared.picture.Picture.TheVariants.{Text, Svg, Page}
use Rattle.mc_ladder_top.specs.Requests.{Requested, choice_of}

-- the ladder of what is chosen of a journal, from the first world of a network on; a page has it as SVG
abbrev pub ladder_bytes : Picture → NameLists → List BlockState → WorldState → ChoiceState → List JournalLine → List ℕ
ladder_bytes (Text style) names blocks world choice journal = ladder_text style names blocks world choice journal
ladder_bytes Svg names blocks world choice journal = ladder_svg names blocks world choice journal
ladder_bytes Page names blocks world choice journal = ladder_svg names blocks world choice journal

-- the ladder as it is handed out: in a page it stands beside what is told of each row of the whole journal
abbrev pub framed : Picture → NameLists → List BlockState → WorldState → List JournalLine → (ladder : List ℕ) → List ℕ
framed (Text style) names blocks world journal ladder = ladder
framed Svg names blocks world journal ladder = ladder
framed Page names blocks world journal ladder = page_of ladder (page_data names blocks world journal)

-- the picture of what is chosen of a journal, in this form
abbrev pub picture_bytes : Picture → NameLists → List BlockState → WorldState → ChoiceState → List JournalLine → List ℕ
picture_bytes picture names blocks world choice journal =
    framed picture names blocks world journal (ladder_bytes picture names blocks world choice journal)

-- the ladder that is asked for
abbrev pub drawn_bytes : Requested → NameLists → List BlockState → WorldState → List JournalLine → List ℕ
drawn_bytes request names blocks world journal =
    picture_bytes request.picture names blocks world (choice_of names request) journal

-- the text is in the grammar
abbrev pub IsInGrammar : List ℕ → Type 0
IsInGrammar text = (d : Declared) × Says Journal text d

-- the output is the ladder of the journal that is asked for, with the network that the text declares and the blocks of
-- its programs
pub record IsLadder (request : Requested) (text : List ℕ) (journal : List JournalLine) (output : List ℕ) : Type 0 where
  pub net : Net
  pub blocks : List BlockState
  pub declares : DeclaresNet Journal text net
  pub gives : DeclaresBlocks Journal text blocks
  pub drawn : output ≡ drawn_bytes request net.names blocks net.world journal
