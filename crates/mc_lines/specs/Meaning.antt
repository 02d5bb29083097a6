-- What a line that breaks no rule declares. The words are those after the first.
use Rattle.std.specs.Prelude.{ℕ, ◌-◌, Bool, true, false, List, [], ◌∷◌, ◌++◌, Option, Some, None, drop, if◌then◌else◌, length, map, slice_index_or, slice_set}
use Rattle.std.specs.List.{slice_get}
use Rattle.std.specs.Option.{option_and_then, option_map, unwrap_or}
use Rattle.mc_signal.specs.declared.Medium.{Medium}
use Rattle.mc_text.specs.Lines.{words}
use Rattle.mc_text.specs.NameLists.{NameLists, place_of, with_box_name, with_codec_name, with_slot_name}
use Rattle.mc_text.specs.Spelling.{number_of}
use Rattle.mc_box.specs.BoxShapes.{BoxShapeState, shape_of}
use Rattle.mc_box.specs.declared.event.Kind.{Kind}
use Rattle.mc_box.specs.declared.event.Kind.TheVariants.{Device, Feature}
use Rattle.mc_plan.specs.Plans.{channel_between, last_channel, widened}
use Rattle.mc_script.specs.Meaning.{command_by}
use Rattle.mc_script.specs.Places.{box_named, spelt_value}
use Rattle.mc_script.specs.declared.keyword.CommandWord.{CommandWord}
use Rattle.mc_lines.specs.Rules.{begins_digit, codec_words, is_program_link, is_second, is_skipped, kind_of, spelt_medium, open_block}
use Rattle.mc_program_lines.specs.Programs.{◌>>=◌, BlockState, block_goal_after, block_link_after, block_when_after, new_block, with_new_part}
use Rattle.mc_lines.specs.SoFar.{Declared, DeclaredBox}
use Rattle.mc_lines.specs.declared.section.Keyword.{Keyword}
use Rattle.mc_lines.specs.declared.section.Keyword.TheVariants as keyword
use Rattle.mc_lines.specs.declared.section.Section.TheVariants as section

-- ---- codecs, boxes, channels

-- a codec with the next number
abbrev pub with_new_codec : Declared → List ℕ → Declared
with_new_codec d name = record d { section = section.Codecs; names = with_codec_name d.names name }

abbrev pub codec_after : Declared → List (List ℕ) → Option Declared
codec_after d words = option_map (with_new_codec d) (slice_get words 0)

-- a box as its line leaves it: without slots, without a program
abbrev pub new_shape : Kind → BoxShapeState
new_shape kind = record { kind = kind; media = []; programmed = false }

-- a box comes last
abbrev pub with_planned : Declared → DeclaredBox → Declared
with_planned d declared = record d { shape = d.shape ++ new_shape declared.kind ∷ []; boxes = d.boxes ++ declared ∷ [] }

-- a box with the next number, and its name
abbrev pub with_new_box : Declared → List ℕ → DeclaredBox → Declared
with_new_box d name declared =
    record (with_planned d declared) { section = section.Boxes; names = with_box_name d.names name }

-- the version that a `dev` line gives, and else 1
abbrev pub version_of : List (List ℕ) → ℕ
version_of [] = 1
version_of (first ∷ others) = if begins_digit first then unwrap_or (number_of first) 1 else 1

abbrev pub codec_number : NameLists → List ℕ → ℕ
codec_number names word = unwrap_or (place_of names.codecs word) 0

-- the codecs of a `dev` line, whose words are those after the name
abbrev pub codecs_in : NameLists → List (List ℕ) → List ℕ
codecs_in names words = map (codec_number names) (codec_words words)

-- the device that such a line declares: without a line of its own for that, it sends the codecs that it receives
abbrev pub device_in : NameLists → List (List ℕ) → DeclaredBox
device_in names words =
    record {
      kind = Device;
      version = version_of words;
      receives = codecs_in names words;
      sends = codecs_in names words;
    }

-- a feature has no codecs of its own
abbrev pub new_feature : DeclaredBox
new_feature = record { kind = Feature; version = 1; receives = []; sends = [] }

abbrev pub device_after : Declared → List (List ℕ) → Option Declared
device_after d words = option_map (λ name. with_new_box d name (device_in d.names (drop 1 words))) (slice_get words 0)

abbrev pub with_new_feature : Declared → List ℕ → Declared
with_new_feature d name = with_new_box d name new_feature

abbrev pub feature_after : Declared → List (List ℕ) → Option Declared
feature_after d words = option_map (with_new_feature d) (slice_get words 0)

-- a declared box, and one without codecs where none is
abbrev pub declared_at : List DeclaredBox → ℕ → DeclaredBox
declared_at boxes who = slice_index_or boxes who new_feature

-- a box sends these codecs
abbrev pub with_send_list : List DeclaredBox → ℕ → List ℕ → List DeclaredBox
with_send_list boxes who sends = slice_set boxes who (record (declared_at boxes who) { sends = sends })

-- a `send` line gives a box these codecs
abbrev pub with_send_line : Declared → ℕ → List ℕ → Declared
with_send_line d who sends =
    record d { section = section.Boxes; boxes = with_send_list d.boxes who sends; senders = d.senders ++ who ∷ [] }

-- all words after the box are codecs
abbrev pub send_after : Declared → List (List ℕ) → Option Declared
send_after d words =
    option_map (λ who. with_send_line d who (map (codec_number d.names) (drop 1 words)))
    (box_named d.names (slice_get words 0))

-- a box has one more slot, of this medium
abbrev pub with_medium : List BoxShapeState → ℕ → Medium → List BoxShapeState
with_medium shape who medium =
    slice_set shape who (record (shape_of shape who) { media = (shape_of shape who).media ++ medium ∷ [] })

-- a box has one more slot, of this name and medium
abbrev pub with_new_slot : Declared → ℕ → List ℕ → Medium → Declared
with_new_slot d who name medium =
    record d { names = with_slot_name d.names who name; shape = with_medium d.shape who medium }

-- two boxes have one slot more each, of one medium, by a line of the channels
abbrev pub with_slots : Declared → Medium → ℕ → List ℕ → ℕ → List ℕ → Declared
with_slots d medium from slot to far_slot =
    record (with_new_slot (with_new_slot d from slot medium) to far_slot medium) { section = section.Channels }

-- a channel of one tunnel more between two boxes
abbrev pub with_new_channel : Declared → (from to : ℕ) → Medium → Declared
with_new_channel d from to medium =
    record d { channels = d.channels ++ channel_between d.channels from to (medium ∷ []) ∷ [] }

-- a channel of one tunnel between a new slot of each of two boxes
abbrev pub with_joined : Declared → Medium → ℕ → List ℕ → ℕ → List ℕ → Declared
with_joined d medium from slot to far_slot = with_slots (with_new_channel d from to medium) medium from slot to far_slot

abbrev pub channel_after : Declared → List (List ℕ) → Option Declared
channel_after d words = do
  medium ← spelt_value spelt_medium (slice_get words 0)
  from ← box_named d.names (slice_get words 1)
  slot ← slice_get words 2
  to ← box_named d.names (slice_get words 3)
  far_slot ← slice_get words 4
  Some (with_joined d medium from slot to far_slot)

-- the last channel has one tunnel more
abbrev pub with_new_tunnel : Declared → Medium → Declared
with_new_tunnel d medium = record d { channels = widened d.channels medium }

-- one tunnel more between a new slot of each of its two boxes
abbrev pub with_widened : Declared → Medium → ℕ → List ℕ → ℕ → List ℕ → Declared
with_widened d medium from slot to far_slot = with_slots (with_new_tunnel d medium) medium from slot to far_slot

abbrev pub also_after : Declared → List (List ℕ) → Option Declared
also_after d words = do
  medium ← spelt_value spelt_medium (slice_get words 0)
  slot ← slice_get words 1
  far_slot ← slice_get words 2
  Some (with_widened d medium (last_channel d.channels).from slot (last_channel d.channels).to far_slot)

-- ---- programs

-- a box has a program
abbrev pub programmed_shape : List BoxShapeState → ℕ → List BoxShapeState
programmed_shape shape who = slice_set shape who (record (shape_of shape who) { programmed = true })

abbrev pub program_after : Declared → List (List ℕ) → Option Declared
program_after d words = option_map (λ who. record d {
  section = section.Programs;
  shape = programmed_shape d.shape who;
  blocks = d.blocks ++ new_block who (drop 1 words) ∷ [];
}) (box_named d.names (slice_get words 0))

-- the last program becomes another
abbrev pub with_block : Declared → BlockState → Declared
with_block d block = record d { blocks = slice_set d.blocks (length d.blocks - 1) block }

abbrev pub state_after : Declared → List (List ℕ) → Option Declared
state_after d words = option_map (λ block. with_block d (with_new_part d.names block)) (open_block d)

-- a told word may be new
abbrev pub when_after : Declared → BlockState → List (List ℕ) → Option Declared
when_after d block words =
    option_map (λ after. with_block (record d { names = after.0 }) after.1) (block_when_after d.names block words)

-- ---- begin and commands

abbrev pub begin_after : Declared → Declared
begin_after d = record d { section = section.Commands; begun = true }

abbrev pub command_after : Declared → CommandWord → List (List ℕ) → Option Declared
command_after d kind words =
    option_map (λ it. record d { section = section.Commands; commands = d.commands ++ it ∷ [] })
    (command_by d.names (Some kind) words)

-- ---- any line

abbrev pub program_link_after : Declared → List (List ℕ) → Option Declared
program_link_after d words =
    option_and_then (λ block. option_map (with_block d) (block_link_after d.names block words)) (open_block d)

abbrev pub after_by : Declared → Option Keyword → List (List ℕ) → Option Declared
after_by d (Some keyword.Codec) words = codec_after d words
after_by d (Some keyword.Dev) words = device_after d words
after_by d (Some keyword.Feat) words = feature_after d words
after_by d (Some keyword.Send) words = send_after d words
after_by d (Some keyword.Chan) words = channel_after d words
after_by d (Some keyword.Also) words = also_after d words
after_by d (Some keyword.Prog) words = program_after d words
after_by d (Some keyword.State) words = state_after d words
after_by d (Some keyword.Goal) words =
    option_and_then (λ block. option_map (with_block d) (block_goal_after d.names block words)) (open_block d)
after_by d (Some keyword.When) words = option_and_then (λ block. when_after d block words) (open_block d)
after_by d (Some keyword.Begin) words = Some (begin_after d)
after_by d (Some keyword.Journal) words = Some d
after_by d (Some keyword.Grow) words = Some d
after_by d (Some (keyword.Command kind)) words =
    if is_program_link d.section kind then program_link_after d words else command_after d kind words
after_by d other words = None

abbrev pub words_after : Bool → Declared → List (List ℕ) → Option Declared
words_after false d words = Some (record d { versioned = true; sends_apart = is_second words })
words_after true d words = after_by d (kind_of words) (drop 1 words)

abbrev pub unless_skipped : Bool → Declared → Option Declared → Option Declared
unless_skipped true d after = Some d
unless_skipped false d after = after

-- what is declared after a line of these words
abbrev pub entry_after : Declared → List (List ℕ) → Option Declared
entry_after d words = unless_skipped (is_skipped words) d (words_after d.versioned d words)

-- what is declared after a line, if it means anything
abbrev pub line_after : Declared → List ℕ → Option Declared
line_after d line = entry_after d (words line)
