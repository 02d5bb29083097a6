-- Whatever a line declares, what may stand after the commands stays as it is.
use Rattle.std.proofs.Common.{◌≡◌, ℕ, ◌∷◌, ◌++◌, [], Bool, true, false, List, drop, if◌then◌else◌, map, Option, Some, None, refl, subst}
use Rattle.std.specs.List.{slice_get}
use Rattle.std.specs.Option.{option_and_then, option_map, unwrap_or}
use Rattle.mc_text.specs.Lines.{words}
use Rattle.mc_text.specs.NameLists.{NameLists}
use Rattle.mc_plan.specs.Plans.{last_channel}
use Rattle.mc_program_lines.specs.Programs.{◌>>=◌, BlockState, block_goal_after, block_link_after, block_when_after, new_block, with_new_part}
use Rattle.mc_script.specs.Meaning.{command_by}
use Rattle.mc_script.specs.Places.{box_named, spelt_value}
use Rattle.mc_script.specs.declared.keyword.CommandWord.{CommandWord}
use Rattle.mc_lines.specs.Meaning.{after_by, also_after, channel_after, codec_number, command_after, device_in, line_after, program_link_after, programmed_shape, unless_skipped, when_after, with_block, with_joined, with_new_box, with_new_codec, with_new_feature, with_send_line, with_widened, words_after}
use Rattle.mc_lines.specs.Rules.{is_program_link, is_skipped, kind_of, open_block, spelt_medium}
use Rattle.mc_lines.specs.SoFar.{Declared}
use Rattle.mc_lines.specs.declared.section.Keyword.{Keyword}
use Rattle.mc_lines.specs.declared.section.Keyword.TheVariants as keyword
use Rattle.mc_lines.specs.declared.section.Section.TheVariants as section
use Rattle.mc_lines.specs.declared.tail.Tail.{Tail}

-- what is declared, if anything is, has this tail
abbrev HasTail : Tail → Option Declared → Type 0
HasTail tail None = Unit {0}
HasTail tail (Some d) = d.tail ≡ tail

of_mapped : {A : Type 0} (tail : Tail) (f : A → Declared) (o : Option A) → ((x : A) → (f x).tail ≡ tail) → HasTail tail (option_map f o)
of_mapped tail f None each = tt
of_mapped tail f (Some x) each = each x

of_chained : {A : Type 0} (tail : Tail) (f : A → Option Declared) (o : Option A) → ((x : A) → HasTail tail (f x)) → HasTail tail (option_and_then f o)
of_chained tail f None each = tt
of_chained tail f (Some x) each = each x

of_then : {A : Type 0} (tail : Tail) (o : Option A) (f : A → Option Declared) → ((x : A) → HasTail tail (f x)) → HasTail tail (o >>= f)
of_then tail None f each = tt
of_then tail (Some x) f each = each x

channel_tail : (d : Declared) (words : List (List ℕ)) → HasTail d.tail (channel_after d words)
channel_tail d words =
    of_then d.tail (spelt_value spelt_medium (slice_get words 0)) _ (λ medium.
    of_then d.tail (box_named d.names (slice_get words 1)) _ (λ from.
    of_then d.tail (slice_get words 2) _ (λ slot.
    of_then d.tail (box_named d.names (slice_get words 3)) _ (λ to.
    of_then d.tail (slice_get words 4) (λ far_slot. Some (with_joined d medium from slot to far_slot)) (λ far_slot. refl)))))

also_tail : (d : Declared) (words : List (List ℕ)) → HasTail d.tail (also_after d words)
also_tail d words =
    of_then d.tail (spelt_value spelt_medium (slice_get words 0)) _ (λ medium.
    of_then d.tail (slice_get words 1) _ (λ slot.
    of_then d.tail (slice_get words 2) (λ far_slot. Some (with_widened d medium (last_channel d.channels).from slot (last_channel d.channels).to far_slot)) (λ far_slot. refl)))

command_tail : (d : Declared) (of_part : Bool) (kind : CommandWord) (words : List (List ℕ)) → HasTail d.tail (if of_part then program_link_after d words else command_after d kind words)
command_tail d true kind words = of_chained d.tail (λ block. option_map (with_block d) (block_link_after d.names block words)) (open_block d)
    (λ block. of_mapped d.tail (with_block d) (block_link_after d.names block words) (λ after. refl))
command_tail d false kind words = of_mapped d.tail (λ it. record d { section = section.Commands; commands = d.commands ++ it ∷ [] }) (command_by d.names (Some kind) words) (λ it. refl)

kind_tail : (d : Declared) (kind : Keyword) (words : List (List ℕ)) → HasTail d.tail (after_by d (Some kind) words)
kind_tail d keyword.Media words = tt
kind_tail d keyword.Codec words = of_mapped d.tail (with_new_codec d) (slice_get words 0) (λ name. refl)
kind_tail d keyword.Dev words = of_mapped d.tail (λ name. with_new_box d name (device_in d.names (drop 1 words))) (slice_get words 0) (λ name. refl)
kind_tail d keyword.Feat words = of_mapped d.tail (with_new_feature d) (slice_get words 0) (λ name. refl)
kind_tail d keyword.Send words = of_mapped d.tail (λ who. with_send_line d who (map (codec_number d.names) (drop 1 words))) (box_named d.names (slice_get words 0)) (λ who. refl)
kind_tail d keyword.Chan words = channel_tail d words
kind_tail d keyword.Also words = also_tail d words
kind_tail d keyword.Prog words =
    of_mapped d.tail (λ who. record d { section = section.Programs; shape = programmed_shape d.shape who; blocks = d.blocks ++ new_block who (drop 1 words) ∷ [] }) (box_named d.names (slice_get words 0)) (λ who. refl)
kind_tail d keyword.State words = of_mapped d.tail (λ block. with_block d (with_new_part d.names block)) (open_block d) (λ block. refl)
kind_tail d keyword.Goal words = of_chained d.tail (λ block. option_map (with_block d) (block_goal_after d.names block words)) (open_block d)
    (λ block. of_mapped d.tail (with_block d) (block_goal_after d.names block words) (λ after. refl))
kind_tail d keyword.When words = of_chained d.tail (λ block. when_after d block words) (open_block d)
    (λ block. of_mapped d.tail (λ (after : NameLists × BlockState). with_block (record d { names = after.0 }) after.1) (block_when_after d.names block words) (λ after. refl))
kind_tail d keyword.Begin words = refl
kind_tail d keyword.Journal words = refl
kind_tail d keyword.Grow words = refl
kind_tail d (keyword.Command kind) words = command_tail d (is_program_link d.section kind) kind words

by_kind : (d : Declared) (kind : Option Keyword) (words : List (List ℕ)) → HasTail d.tail (after_by d kind words)
by_kind d None words = tt
by_kind d (Some kind) words = kind_tail d kind words

by_words : (d : Declared) (ws : List (List ℕ)) (versioned : Bool) → HasTail d.tail (words_after versioned d ws)
by_words d ws false = refl
by_words d ws true = by_kind d (kind_of ws) (drop 1 ws)

by_skipped : (d : Declared) (ws : List (List ℕ)) (skipped : Bool) → HasTail d.tail (unless_skipped skipped d (words_after d.versioned d ws))
by_skipped d ws true = refl
by_skipped d ws false = by_words d ws d.versioned

-- what is declared after a line has the tail of what was declared before it, and so has that where the line means nothing
pub tail_stays : (tail : Tail) (d : Declared) (line : List ℕ) → d.tail ≡ tail → (unwrap_or (line_after d line) d).tail ≡ tail
tail_stays tail d line before = by (line_after d line) (subst (λ (t : Tail). HasTail t (line_after d line)) before (by_skipped d (words line) (is_skipped (words line))))
  where
    by : (o : Option Declared) → HasTail tail o → (unwrap_or o d).tail ≡ tail
    by None has = before
    by (Some after) has = has
