-- The lines of a network.
use Rattle.std.specs.Prelude.{ℕ, ◌+◌, ◌==◌, not, Bool, List, [], ◌∷◌, ◌++◌, Option, Some, None, codes, if◌then◌else◌, nat_lt, slice_index_or}
use Rattle.std.specs.Fmt.{decimal}
use Rattle.std.specs.List.{flat_map, list_any}
use Rattle.std.specs.Str.{bytes_eq}
use Rattle.mc_signal.specs.Choice.{codecs_of}
use Rattle.mc_slot.specs.declared.SlotGoal.{SlotGoal}
use Rattle.mc_slot.specs.declared.SlotGoal.TheVariants.{End, Link}
use Rattle.mc_slot.specs.declared.State.{State}
use Rattle.mc_slot.specs.declared.State.TheVariants.{Closed, Opening, Opened, Flowing, Closing}
use Rattle.mc_text.specs.NameLists.{NameLists, slot_names}
use Rattle.mc_box.specs.declared.event.Kind.{Kind}
use Rattle.mc_box.specs.declared.event.Kind.TheVariants.{Device, Feature}
use Rattle.mc_model.specs.Worlds.{ChannelState}
use Rattle.mc_model.specs.declared.channel.Tunnel.{Tunnel}
use Rattle.mc_plan.specs.Plans.{PlanState}
use Rattle.mc_plan.specs.declared.plan.BoxPlan.{BoxPlan}
use Rattle.mc_program_lines.specs.Programs.{BlockState, PartState}
use Rattle.mc_rule.specs.declared.Guard.{Guard}
use Rattle.mc_rule.specs.declared.Guard.TheVariants.{SlotIs, Told}
use Rattle.mc_rule.specs.declared.Rule.{Rule}
use Rattle.mc_script.specs.Meaning.{goal_word}
use Rattle.mc_table.specs.Words.{line_of, medium_word}

-- ---- words

-- the name that has a number in a list, and a word that is no name where none has it
abbrev pub word_at : List (List ℕ) → ℕ → List ℕ
word_at names number = slice_index_or names number (codes "?")

abbrev pub state_word : State → List ℕ
state_word Closed = codes "closed"
state_word Opening = codes "opening"
state_word Opened = codes "opened"
state_word Flowing = codes "flowing"
state_word Closing = codes "closing"

-- a word after a space
abbrev pub next_word : List ℕ → List ℕ
next_word word = 32 ∷ word

-- codecs, each after a space
abbrev pub codec_words : NameLists → List ℕ → List ℕ
codec_words names codecs = flat_map (λ codec. next_word (word_at names.codecs codec)) codecs

-- a first version after a space, where it isn't 1
abbrev pub version_word : ℕ → List ℕ
version_word version = if version == 1 then [] else next_word (decimal version)

-- ---- codecs and boxes

abbrev pub codec_line : List ℕ → List ℕ
codec_line name = line_of (codes "codec" ∷ name ∷ [])

-- a box sends other codecs than it receives
abbrev pub sends_others : BoxPlan → Bool
sends_others planned = not (bytes_eq (codecs_of planned.codecs) (codecs_of planned.sends))

-- a text in which some box does is of version 2
abbrev pub media_line : List BoxPlan → List ℕ
media_line boxes = if list_any sends_others boxes then codes "media 2\n" else codes "media 1\n"

abbrev pub device_line : NameLists → (who : ℕ) → BoxPlan → List ℕ
device_line names who planned =
    codes "dev" ++ next_word (word_at names.boxes who) ++ version_word planned.first_version
    ++ codec_words names (codecs_of planned.codecs)
    ++ codes "\n"

abbrev pub send_line : NameLists → (who : ℕ) → BoxPlan → List ℕ
send_line names who planned =
    if sends_others planned
    then codes "send" ++ next_word (word_at names.boxes who) ++ codec_words names (codecs_of planned.sends) ++ codes "\n"
    else []

abbrev pub feature_line : NameLists → (who : ℕ) → List ℕ
feature_line names who = line_of (codes "feat" ∷ word_at names.boxes who ∷ [])

-- a box's line, and after a device's what it sends, where that is something else
abbrev pub lines_of_kind : Kind → NameLists → (who : ℕ) → BoxPlan → List ℕ
lines_of_kind Device names who planned = device_line names who planned ++ send_line names who planned
lines_of_kind Feature names who planned = feature_line names who

-- these boxes, numbered from a number on
abbrev pub box_lines : NameLists → (who : ℕ) → List BoxPlan → List ℕ
box_lines names who [] = []
box_lines names who (planned ∷ boxes) =
    lines_of_kind planned.kind names who planned ++ box_lines names (who + 1) boxes

-- ---- channels

-- a channel with its first tunnel
abbrev pub chan_line : NameLists → (from to : ℕ) → Tunnel → List ℕ
chan_line names from to tunnel = line_of (
    codes "chan"
    ∷ medium_word tunnel.medium
    ∷ word_at names.boxes from
    ∷ word_at (slot_names names from) tunnel.from
    ∷ word_at names.boxes to
    ∷ word_at (slot_names names to) tunnel.to
    ∷ [])

-- one tunnel more
abbrev pub also_line : NameLists → (from to : ℕ) → Tunnel → List ℕ
also_line names from to tunnel = line_of (
    codes "also"
    ∷ medium_word tunnel.medium
    ∷ word_at (slot_names names from) tunnel.from
    ∷ word_at (slot_names names to) tunnel.to
    ∷ [])

abbrev pub tunnel_lines : NameLists → (from to : ℕ) → List Tunnel → List ℕ
tunnel_lines names from to [] = []
tunnel_lines names from to (tunnel ∷ tunnels) =
    chan_line names from to tunnel ++ flat_map (also_line names from to) tunnels

abbrev pub channel_lines : NameLists → ChannelState → List ℕ
channel_lines names ends = tunnel_lines names ends.from ends.to ends.tunnels

-- ---- programs

-- the goal of a slot; a link stands at the lesser of its two slots
abbrev pub goal_line : NameLists → (who local : ℕ) → Option SlotGoal → List ℕ
goal_line names who local None = []
goal_line names who local (Some (End goal)) =
    line_of (codes "goal" ∷ word_at (slot_names names who) local ∷ goal_word goal ∷ [])
goal_line names who local (Some (Link partner)) =
    if nat_lt local partner
    then line_of
    (codes "link" ∷ word_at (slot_names names who) local ∷ word_at (slot_names names who) partner ∷ [])
    else []

-- the goals of slots from a local number on
abbrev pub goal_lines : NameLists → (who local : ℕ) → List (Option SlotGoal) → List ℕ
goal_lines names who local [] = []
goal_lines names who local (goal ∷ goals) = goal_line names who local goal ++ goal_lines names who (local + 1) goals

abbrev pub guard_line : Guard → NameLists → (who : ℕ) → (target : List ℕ) → List ℕ
guard_line (SlotIs local state) names who target =
    line_of (codes "when" ∷ codes "is" ∷ word_at (slot_names names who) local ∷ state_word state ∷ target ∷ [])
guard_line (Told word) names who target =
    line_of (codes "when" ∷ codes "told" ∷ word_at names.told word ∷ target ∷ [])

abbrev pub when_line : NameLists → (who : ℕ) → (states : List (List ℕ)) → Rule → List ℕ
when_line names who states rule = guard_line rule.guard names who (word_at states rule.target)

-- a part of a program: the name of its state, its goals, and its transitions
abbrev pub part_lines : NameLists → (who : ℕ) → (states : List (List ℕ)) → (number : ℕ) → PartState → List ℕ
part_lines names who states number part =
    line_of (codes "state" ∷ word_at states number ∷ []) ++ goal_lines names who 0 part.goals
    ++ flat_map (when_line names who states) part.transitions

-- parts of the states from a number on
abbrev pub parts_lines : NameLists → (who : ℕ) → (states : List (List ℕ)) → (number : ℕ) → List PartState → List ℕ
parts_lines names who states number [] = []
parts_lines names who states number (part ∷ parts) =
    part_lines names who states number part ++ parts_lines names who states (number + 1) parts

abbrev pub prog_line : NameLists → BlockState → List ℕ
prog_line names block =
    codes "prog" ++ next_word (word_at names.boxes block.who) ++ flat_map next_word block.states ++ codes "\n"

abbrev pub program_lines : NameLists → BlockState → List ℕ
program_lines names block = prog_line names block ++ parts_lines names block.who block.states 0 block.parts

-- ---- a text

-- the text of a network: its codecs, boxes, channels and programs, and no command
abbrev pub net_text : NameLists → PlanState → List BlockState → List ℕ
net_text names plan blocks =
    media_line plan.boxes ++ flat_map codec_line names.codecs ++ box_lines names 0 plan.boxes
    ++ flat_map (channel_lines names) plan.channels
    ++ flat_map (program_lines names) blocks
    ++ codes "begin\n"
