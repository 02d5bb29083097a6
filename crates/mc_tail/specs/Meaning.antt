-- What a line after `grow` that breaks no rule declares. The words are those after the first.
use Rattle.std.specs.Prelude.{ℕ, Bool, true, false, List, [], ◌∷◌, ◌++◌, Option, Some, None, drop}
use Rattle.std.specs.List.{slice_get}
use Rattle.std.specs.Option.{option_map, unwrap_or}
use Rattle.mc_signal.specs.declared.Medium.{Medium}
use Rattle.mc_signal.specs.declared.Medium.TheVariants.{Audio}
use Rattle.mc_text.specs.Lines.{words}
use Rattle.mc_script.specs.Meaning.{command_by}
use Rattle.mc_script.specs.declared.command.Command.{Command}
use Rattle.mc_script.specs.declared.keyword.CommandWord.{CommandWord}
use Rattle.mc_model.specs.Worlds.{ChannelState}
use Rattle.mc_plan.specs.Plans.{last_channel}
use Rattle.mc_lines.specs.Joins.{after_commands, with_command}
use Rattle.mc_lines.specs.Meaning.{channel_after}
use Rattle.mc_lines.specs.Rules.{is_skipped}
use Rattle.mc_lines.specs.SoFar.{Declared}
use Rattle.mc_tail.specs.Rules.{tail_kind_of}
use Rattle.mc_tail.specs.SoFar.{TailState, channel_named}
use Rattle.mc_tail.specs.declared.item.Item.{Item}
use Rattle.mc_tail.specs.declared.item.Item.TheVariants as item
use Rattle.mc_tail.specs.declared.keyword.TailKeyword.{TailKeyword}
use Rattle.mc_tail.specs.declared.keyword.TailKeyword.TheVariants as tail

-- a command comes last
abbrev pub with_line : TailState → Command → TailState
with_line t command = record t {
  declared = with_command t.declared command;
  items = t.items ++ item.Line command ∷ [];
}

abbrev pub line_command : TailState → CommandWord → List (List ℕ) → Option TailState
line_command t kind words = option_map (with_line t) (command_by t.declared.names (Some kind) words)

-- the medium of a channel's first tunnel
abbrev pub first_medium : ChannelState → Medium
first_medium ends = unwrap_or (option_map (λ tunnel. tunnel.medium) (slice_get ends.tunnels 0)) Audio

-- a channel of one tunnel joins two boxes
abbrev pub join_of : ChannelState → Item
join_of ends = item.Join (first_medium ends) ends.from ends.to

-- what a channel more declares, which comes last
abbrev pub with_channel_joined : TailState → Declared → TailState
with_channel_joined t after = record t {
  declared = after_commands after;
  items = t.items ++ join_of (last_channel after.channels) ∷ [];
}

-- `join MEDIUM BOX SLOT BOX SLOT`, as `chan`
abbrev pub line_join : TailState → List (List ℕ) → Option TailState
line_join t words = option_map (with_channel_joined t) (channel_after t.declared words)

-- a channel is cut
abbrev pub with_channel_cut : TailState → ℕ → TailState
with_channel_cut t channel = record t { out = t.out ++ channel ∷ []; items = t.items ++ item.Cut channel ∷ [] }

-- `cut BOX SLOT`
abbrev pub line_cut : TailState → List (List ℕ) → Option TailState
line_cut t words = option_map (with_channel_cut t) (channel_named t.declared (slice_get words 0) (slice_get words 1))

abbrev pub tail_after : TailState → Option TailKeyword → List (List ℕ) → Option TailState
tail_after t (Some tail.Join) words = line_join t words
tail_after t (Some tail.Cut) words = line_cut t words
tail_after t (Some (tail.Command kind)) words = line_command t kind words
tail_after t other words = None

-- what is declared after a line of these words, which may be skipped
abbrev pub tail_words_after : Bool → TailState → List (List ℕ) → Option TailState
tail_words_after true t words = Some t
tail_words_after false t words = tail_after t (tail_kind_of words) (drop 1 words)

abbrev pub tail_entry_after : TailState → List (List ℕ) → Option TailState
tail_entry_after t words = tail_words_after (is_skipped words) t words

-- what is declared after a line, if it means anything
abbrev pub tail_line_after : TailState → List ℕ → Option TailState
tail_line_after t line = tail_entry_after t (words line)
