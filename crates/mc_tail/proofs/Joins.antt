-- A channel that joins is the last, and its item says what it is.
use Rattle.std.proofs.Common.{◌≡◌, ◌-◌, ℕ, List, [], ◌∷◌, ◌++◌, Some, length, length-append, ap, ◌∙◌, arith}
use Rattle.std.proofs.lemmas.List.{get_or_at}
use Rattle.std.specs.Option.{option_map}
use Rattle.mc_model.specs.Worlds.{ChannelState}
use Rattle.mc_plan.specs.Plans.{channel_between, last_channel, no_channel}
use Rattle.mc_lines.specs.BoxLines.{channel_seen}
use Rattle.mc_lines.specs.Joins.{join_seen}
use Rattle.mc_lines.specs.Meaning.{channel_after}
use Rattle.mc_lines.specs.SoFar.{Declared}
use Rattle.mc_lines.specs.declared.reader.channels.ChannelLine.{ChannelLine}
use Rattle.mc_tail.specs.Meaning.{join_of, line_join, with_channel_joined}
use Rattle.mc_tail.specs.SoFar.{TailState}
use Rattle.mc_tail.specs.declared.item.Item.{Item}
use Rattle.mc_tail.specs.declared.item.Item.TheVariants as item

last_is : (xs : List ChannelState) (x : ChannelState) → last_channel (xs ++ x ∷ []) ≡ x
last_is xs x = let all = length-append xs (x ∷ []) in get_or_at xs x [] no_channel (length (xs ++ x ∷ []) - 1) (omega (arith, all))

item_is : (d : Declared) (line : ChannelLine) → join_of (last_channel (channel_seen d line).channels) ≡ item.Join line.medium line.from line.to
item_is d line = ap join_of (last_is d.channels (channel_between d.channels line.from line.to (line.medium ∷ [])))

-- what is declared after a `join` line
pub joined_is : (t : TailState) (words : List (List ℕ)) (line : ChannelLine) → channel_after t.declared words ≡ Some (channel_seen t.declared line)
    → line_join t words ≡ Some (record t { declared = join_seen t.declared line; items = t.items ++ item.Join line.medium line.from line.to ∷ [] })
joined_is t words line is =
    ap (option_map (with_channel_joined t)) is
    ∙ ap (λ (i : Item). Some (record t { declared = join_seen t.declared line; items = t.items ++ i ∷ [] })) (item_is t.declared line)
