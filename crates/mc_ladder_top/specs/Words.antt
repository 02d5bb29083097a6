-- What the words of the command line ask for.
use Rattle.std.specs.Prelude.{◌≡◌, ◌≢◌, ◌+◌, ◌==◌, ◌&&◌, ℕ, Bool, true, false, if◌then◌else◌, List, [], ◌∷◌, ◌++◌, None, Some, String, codes, drop, map, nat_le, nat_lt, option_map, position, string_bytes, take}
use Rattle.std.specs.Option.{unwrap_or}
use Rattle.std.specs.declared.alloc.Global.{Global}
use Rattle.std.specs.declared.option.Option.{Option}
use Rattle.clap.specs.Words.{App, Rule, Text, all_of, count_of, fault_of, matches_of, new_app, new_rule, with_rule}
use Rattle.clap.specs.declared.builder.action.ArgAction.TheVariants.{Append, Count}
use Rattle.mc_text.specs.Spelling.{number_of}
use Rattle.mc_ladder.specs.declared.glyph.Style.TheVariants.{Utf8, Ascii}
use Rattle.mc_ladder_choice.specs.declared.choice.Span.{Span}
use Rattle.mc_ladder_top.specs.declared.picture.Picture.{Picture}
use Rattle.mc_ladder_top.specs.declared.picture.Picture.TheVariants.{Text as AsText, Svg, Page}
use Rattle.mc_ladder_top.specs.Requests.{Requested}

-- a flag that is counted
abbrev pub flag : Text → Rule
flag name = record (new_rule name) { long = Some name; action = Some Count }

-- an option, each use of which has a value
abbrev pub valued : Text → Rule
valued name = record (new_rule name) { long = Some name; action = Some Append }

-- the program's command line: four counted flags and two options, without help
abbrev pub ladder_command : App
ladder_command =
    let named = new_app (codes "medialadder") in
    let bare : App = record named { top = record named.top { no_binary_name = true; disable_help_flag = true } } in
    let forms =
    with_rule (with_rule (with_rule bare (flag (codes "ascii"))) (flag (codes "svg"))) (flag (codes "html")) in
    let flags = with_rule forms (flag (codes "up-to-fault")) in
    with_rule (with_rule flags (valued (codes "settles"))) (valued (codes "box"))

-- a flag was met
abbrev pub asks_for : Text → List Text → Bool
asks_for name words = nat_lt 0 (count_of name (matches_of ladder_command words))

-- the values of an option
abbrev pub values_of : Text → List Text → List Text
values_of name words = unwrap_or (all_of name (matches_of ladder_command words)) []

-- a ladder is drawn in ASCII, as SVG, as a page, or else in UTF-8; two of the three flags ask for nothing
abbrev pub picture_of : (ascii svg html : Bool) → Option Picture
picture_of false false false = Some (AsText Utf8)
picture_of true false false = Some (AsText Ascii)
picture_of false true false = Some Svg
picture_of false false true = Some Page
picture_of true true html = None
picture_of true false true = None
picture_of false true true = None

-- ---- settles

abbrev pub is_dash : ℕ → Bool
is_dash byte = byte == 45

-- from one settle to another that isn't before it; they are counted from 1
abbrev pub span_between : (first last : Option ℕ) → Option Span
span_between None last = None
span_between (Some first) None = None
span_between (Some first) (Some last) =
    if nat_le 1 first && nat_le first last then Some (record { first = first; last = last }) else None

-- a word names the two, with its first dash between them
abbrev pub span_around : Text → (dash : Option ℕ) → Option Span
span_around word None = None
span_around word (Some dash) = span_between (number_of (take dash word)) (number_of (drop (dash + 1) word))

abbrev pub span_of : Text → Option Span
span_of word = span_around word (position is_dash word)

-- all settles where no word names some, and else those that the only word names
abbrev pub settles_of : List Text → Option (Option Span)
settles_of [] = Some None
settles_of (word ∷ []) = option_map Some (span_of word)
settles_of (word ∷ other ∷ words) = None

-- ---- all words

abbrev pub request_by : Option Picture → Option (Option Span) → (names : List Text) → (up_to_fault : Bool)
    → Option Requested
request_by None settles names up_to_fault = None
request_by (Some picture) None names up_to_fault = None
request_by (Some picture) (Some settles) names up_to_fault =
    Some (record { picture = picture; settles = settles; names = names; up_to_fault = up_to_fault })

-- they ask for what stands before the first fault of a journal
abbrev pub asks_up_to_fault : List Text → Bool
asks_up_to_fault words = asks_for (codes "up-to-fault") words

-- what words ask for that the command line takes
abbrev pub request_of : List Text → Option Requested
request_of words =
    request_by
    (picture_of (asks_for (codes "ascii") words) (asks_for (codes "svg") words) (asks_for (codes "html") words))
    (settles_of (values_of (codes "settles") words))
    (values_of (codes "box") words)
    (asks_up_to_fault words)

-- the words are those of the command line, and ask for this, if for anything
abbrev pub AskForAny : List Text → Option Requested → Type 0
AskForAny words request = (fault_of ladder_command words ≡ []) × (request_of words ≡ request)

-- the words are a command line of the program, and ask for this
abbrev pub AskFor : List (String Global) → Requested → Type 0
AskFor words request = AskForAny (map string_bytes words) (Some request)

-- the words are such a command line
abbrev pub AreTaken : List (String Global) → Type 0
AreTaken words = (request : Requested) × AskFor words request

-- ---- examples

-- all of a journal, in this form
abbrev pub all_as : Picture → Option Requested
all_as picture = Some (record { picture = picture; settles = None; names = []; up_to_fault = false })

-- from one settle to another, in this form
abbrev pub settles_as : Picture → (first last : ℕ) → Option Requested
settles_as picture first last =
    Some (record {
      picture = picture;
      settles = Some (record { first = first; last = last });
      names = [];
      up_to_fault = false;
    })

-- of these boxes, in this form
abbrev pub boxes_as : Picture → (names : List Text) → Option Requested
boxes_as picture names = Some (record { picture = picture; settles = None; names = names; up_to_fault = false })

-- all of a journal up to its first fault, in this form
abbrev pub up_to_fault_as : Picture → Option Requested
up_to_fault_as picture = Some (record { picture = picture; settles = None; names = []; up_to_fault = true })

-- the flag for ASCII twice, and after it the word that ends the flags
abbrev pub flag_twice : List Text
flag_twice = codes "--ascii" ∷ codes "--ascii" ∷ codes "--" ∷ []

-- the option for settles with this value
abbrev pub of_settles : Text → List Text
of_settles span = codes "--settles" ∷ span ∷ []

-- the option for boxes with this value
abbrev pub of_box : Text → List Text
of_box name = codes "--box" ∷ name ∷ []

-- what the words ask for: none for UTF-8, a flag for ASCII, also where it stands twice, another for SVG, and one for a
-- page. Two of them together ask for nothing, and neither a word of another kind nor another flag is taken
pub record WordsAskForPictures : Type 0 where
  pub none : AskForAny [] (all_as (AsText Utf8))
  pub ascii : AskForAny (codes "--ascii" ∷ []) (all_as (AsText Ascii))
  pub twice : AskForAny flag_twice (all_as (AsText Ascii))
  pub svg : AskForAny (codes "--svg" ∷ []) (all_as Svg)
  pub html : AskForAny (codes "--html" ∷ []) (all_as Page)
  pub both : AskForAny (codes "--svg" ∷ codes "--ascii" ∷ []) None
  pub html_svg : AskForAny (codes "--html" ∷ codes "--svg" ∷ []) None
  pub html_ascii : AskForAny (codes "--ascii" ∷ codes "--html" ∷ []) None
  pub help : fault_of ladder_command (codes "--help" ∷ []) ≢ []
  pub other : fault_of ladder_command (codes "run" ∷ []) ≢ []

-- an option for settles asks for some of them, from one to another; once, from 1 on, and in their order
pub record WordsAskForSettles : Type 0 where
  pub some : AskForAny (of_settles (codes "3-12")) (settles_as (AsText Utf8) 3 12)
  pub one : AskForAny (codes "--svg" ∷ codes "--settles=2-2" ∷ []) (settles_as Svg 2 2)
  pub html : AskForAny (codes "--html" ∷ codes "--settles=2-2" ∷ []) (settles_as Page 2 2)
  pub none : AskForAny (of_settles (codes "0-1")) None
  pub order : AskForAny (of_settles (codes "7-3")) None
  pub number : AskForAny (of_settles (codes "3")) None
  pub again : AskForAny (of_settles (codes "1-2") ++ of_settles (codes "3-4")) None

-- an option for boxes asks for one, and may stand more than once
pub record WordsAskForBoxes : Type 0 where
  pub one : AskForAny (of_box (codes "pc")) (boxes_as (AsText Utf8) (codes "pc" ∷ []))
  pub two : AskForAny (of_box (codes "pc") ++ of_box (codes "voice"))
      (boxes_as (AsText Utf8) (codes "pc" ∷ codes "voice" ∷ []))
  pub no_name : fault_of ladder_command (codes "--box" ∷ []) ≢ []

-- a flag asks for what stands before the first fault of a journal, also where it stands twice, and in each form
pub record WordsAskUpToFault : Type 0 where
  pub one : AskForAny (codes "--up-to-fault" ∷ []) (up_to_fault_as (AsText Utf8))
  pub twice : AskForAny (codes "--up-to-fault" ∷ codes "--up-to-fault" ∷ []) (up_to_fault_as (AsText Utf8))
  pub html : AskForAny (codes "--html" ∷ codes "--up-to-fault" ∷ []) (up_to_fault_as Page)
  pub value : fault_of ladder_command (codes "--up-to-fault=3" ∷ []) ≢ []
