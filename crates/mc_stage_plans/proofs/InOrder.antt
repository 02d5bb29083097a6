-- The channels that lines declare lead from box to box, and the slots of each box are in order there.
use Rattle.std.proofs.Common.{◌≡◌, ◌≢◌, inl, inr, ℕ, zero, suc, ◌-◌, ◌<◌, ◌≤◌, ◌+◌, ◌==◌, Bool, true, false, not, if◌then◌else◌, List, [], ◌∷◌, ◌++◌, drop, flat_map, length, length-append, map, slice_index_or, slice_set, Option, Some, None, refl, sym, ap, ◌∙◌, subst, append_assoc, arith, nat_lt}
use Rattle.std.proofs.Math.ListN.{get_or}
use Rattle.std.proofs.lemmas.Bool.{cases_lt}
use Rattle.std.proofs.lemmas.List.{get_or-append-add}
use Rattle.std.proofs.lemmas.List.Concat.{flat_map-append}
use Rattle.std.proofs.Math.Seq.{set-append_seam}
use Rattle.std.proofs.lemmas.List.Elements.{All-get_or, All-nil, All-push, All-set}
use Rattle.std.specs.List.{All, list_any, slice_get}
use Rattle.std.specs.Option.{option_and_then, option_map, unwrap_or}
use Rattle.mc_signal.specs.declared.Medium.{Medium}
use Rattle.mc_text.specs.Lines.{words}
use Rattle.mc_text.specs.NameLists.{NameLists}
use Rattle.mc_model.specs.Worlds.{ChannelState, places_among, places_of, places_within}
use Rattle.mc_model.specs.declared.channel.Tunnel.{Tunnel}
use Rattle.mc_plan.proofs.Joined.{places_joined}
use Rattle.mc_plan.proofs.Orders.{channel_ordered, ordered_append}
use Rattle.mc_plan.specs.LaidOut.{AreInOrder}
use Rattle.mc_plan.specs.Plans.{channel_between, last_channel, next_tunnel, no_channel, slots_of, widened, with_one_more}
use Rattle.mc_program_lines.proofs.KeptRules.{kept_at, others_kept}
use Rattle.mc_program_lines.specs.Programs.{◌>>=◌, BlockState, block_goal_after, block_link_after, block_when_after, new_block, with_new_part}
use Rattle.mc_script.specs.Meaning.{command_by}
use Rattle.mc_script.specs.Places.{are_same, box_named, spelt_value}
use Rattle.mc_script.specs.Rules.{byte_rules, is_plain, least_broken}
use Rattle.mc_script.specs.declared.keyword.CommandWord.{CommandWord}
use Rattle.mc_script.specs.declared.rule.TheConstants.{SAME_BOX}
use Rattle.mc_lines.specs.Meaning.{after_by, also_after, channel_after, codec_number, command_after, device_in, line_after, program_link_after, programmed_shape, unless_skipped, when_after, with_block, with_joined, with_new_box, with_new_codec, with_new_feature, with_send_line, with_widened, words_after}
use Rattle.mc_lines.specs.Rules.{channel_rules, is_program_link, is_skipped, kind_of, line_fault, line_words_rules, open_block, passes_limit, rules_by, spelt_medium, text_limit, words_rules}
use Rattle.mc_lines.specs.SoFar.{Declared}
use Rattle.mc_lines.specs.declared.section.Keyword.{Keyword}
use Rattle.mc_lines.specs.declared.section.Keyword.TheVariants as keyword
use Rattle.mc_lines.specs.declared.section.Section.TheVariants as section
use Rattle.mc_lines.specs.declared.tail.Tail.{Tail}
use Rattle.mc_net.proofs.NamesKept.{IsApart}
use Rattle.mc_net.specs.Texts.{AreSound, Says, bytes_before, declared_by, text_lines}

-- channels lead from box to box, and the slots of each box are in order
pub record AreInPlace (channels : List ChannelState) : Type 0 where
  pub apart : All IsApart channels
  pub ordered : AreInOrder (places_among channels)

none_placed : AreInPlace []
none_placed = record { apart = All-nil IsApart; ordered = λ s inside. absurd (omega arith) }

-- ---- a channel more

pub channel_placed : (channels : List ChannelState) (from to : ℕ) (medium : Medium) → from ≢ to → AreInPlace channels → AreInPlace (channels ++ channel_between channels from to (medium ∷ []) ∷ [])
channel_placed channels from to medium apart placed =
    let ends : ChannelState = channel_between channels from to (medium ∷ []) in
    record {
      apart = All-push IsApart channels (channel_between channels from to (medium ∷ [])) placed.apart apart;
      ordered = subst AreInOrder (sym (places_joined channels ends))
          (ordered_append (places_among channels) (places_within ends) placed.ordered (channel_ordered ends (medium ∷ []) (slots_of channels from) (slots_of channels to) (slots_of channels) apart refl refl));
    }

-- ---- a tunnel more of the last channel

-- a list that has a last is those before it, and it
last_of : (xs : List ChannelState) → 0 < length xs → (before : List ChannelState) × (xs ≡ before ++ get_or xs (length xs - 1) no_channel ∷ [])
last_of [] some = absurd (omega arith)
last_of (y ∷ []) some = ([], refl)
last_of (y ∷ z ∷ ys) some =
    let rest = last_of (z ∷ ys) (omega arith) in
    let place : length (y ∷ z ∷ ys) - 1 ≡ suc (length (z ∷ ys) - 1) = omega arith in
    (y ∷ rest.0, rw place (ap (λ (l : List ChannelState). y ∷ l) rest.1))

-- the last becomes another
set_last : (before : List ChannelState) (x y : ChannelState) → slice_set (before ++ x ∷ []) (length (before ++ x ∷ []) - 1) y ≡ before ++ y ∷ []
set_last before x y =
    let place : length (before ++ x ∷ []) - 1 ≡ length before = omega (arith, length-append before (x ∷ [])) in
    rw place (set-append_seam before x [] y)

-- and it is found
get_last : (before : List ChannelState) (x : ChannelState) → get_or (before ++ x ∷ []) (length (before ++ x ∷ []) - 1) no_channel ≡ x
get_last before x =
    let place : length (before ++ x ∷ []) - 1 ≡ length before + 0 = omega (arith, length-append before (x ∷ [])) in
    rw place (get_or-append-add before (x ∷ []) 0 no_channel)

abbrev wider : List ChannelState → ChannelState → Medium → ChannelState
wider before ends medium = with_one_more (next_tunnel (before ++ ends ∷ []) ends medium) ends

widened_last : (before : List ChannelState) (ends : ChannelState) (medium : Medium) → widened (before ++ ends ∷ []) medium ≡ before ++ wider before ends medium ∷ []
widened_last before ends medium =
    let found : last_channel (before ++ ends ∷ []) ≡ ends = get_last before ends in
    rw found (set_last before ends (wider before ends medium))

-- its places come last, as those of one more channel with that tunnel alone
places_widened : (before : List ChannelState) (ends : ChannelState) (medium : Medium)
    → places_among (before ++ wider before ends medium ∷ [])
    ≡ places_among ((before ++ ends ∷ []) ++ channel_between (before ++ ends ∷ []) ends.from ends.to (medium ∷ []) ∷ [])
places_widened before ends medium =
    let all : List ChannelState = before ++ ends ∷ [] in
    let new : List Tunnel = next_tunnel all ends medium ∷ [] in
    places_joined before (wider before ends medium)
    ∙ ap (λ (l : List (ℕ × ℕ)). places_among before ++ l) (flat_map-append (places_of ends) ends.tunnels new)
    ∙ sym (append_assoc (places_among before) (places_within ends) (flat_map (places_of ends) new))
    ∙ ap (λ (l : List (ℕ × ℕ)). l ++ flat_map (places_of ends) new) (sym (places_joined before ends))
    ∙ sym (places_joined all (channel_between all ends.from ends.to (medium ∷ [])))

tunnel_placed : (channels : List ChannelState) (medium : Medium) → AreInPlace channels → AreInPlace (widened channels medium)
tunnel_placed channels medium placed = elim (cases_lt 0 (length channels)) [
  | inl some ↦
      let split = last_of channels some in
      let last = last_channel channels in
      let apart : IsApart (last_channel channels) = All-get_or IsApart channels (length channels - 1) no_channel (omega arith) placed.apart in
      record {
        apart = All-set IsApart channels (length channels - 1) (with_one_more (next_tunnel channels last medium) last) apart placed.apart;
        ordered = by channels (last_channel channels) split.0 split.1 (channel_placed channels last.from last.to medium apart placed).ordered;
      }
  | inr none ↦ nothing_there channels none placed
]
  where
    by : (all : List ChannelState) (ends : ChannelState) (before : List ChannelState) → all ≡ before ++ ends ∷ [] → AreInOrder (places_among (all ++ channel_between all ends.from ends.to (medium ∷ []) ∷ []))
        → AreInOrder (places_among (widened all medium))
    by all ends before is ordered =
        subst (λ (l : List ChannelState). AreInOrder (places_among (widened l medium))) (sym is)
        (subst (λ (l : List ChannelState). AreInOrder (places_among l)) (sym (widened_last before ends medium))
        (subst AreInOrder (sym (places_widened before ends medium)) (subst (λ (l : List ChannelState). AreInOrder (places_among (l ++ channel_between l ends.from ends.to (medium ∷ []) ∷ []))) is ordered)))

    nothing_there : (all : List ChannelState) → length all ≤ 0 → AreInPlace all → AreInPlace (widened all medium)
    nothing_there [] none placed = placed
    nothing_there (ends ∷ all) none placed = absurd (omega arith)

-- ---- lines

-- what is declared, if anything is, has channels in place
abbrev ArePlaced : Option Declared → Type 0
ArePlaced None = Unit {0}
ArePlaced (Some d) = AreInPlace d.channels

of_mapped : {A : Type 0} (f : A → Declared) (o : Option A) → ((x : A) → AreInPlace (f x).channels) → ArePlaced (option_map f o)
of_mapped f None each = tt
of_mapped f (Some x) each = each x

of_chained : {A : Type 0} (f : A → Option Declared) (o : Option A) → ((x : A) → ArePlaced (f x)) → ArePlaced (option_and_then f o)
of_chained f None each = tt
of_chained f (Some x) each = each x

of_then : {A : Type 0} (o : Option A) (f : A → Option Declared) → ((x : A) → o ≡ Some x → ArePlaced (f x)) → ArePlaced (o >>= f)
of_then None f each = tt
of_then (Some x) f each = each x refl

-- the boxes of a `chan` line are two
pub boxes_apart : (d : Declared) (words : List (List ℕ)) (from to : ℕ) → least_broken (channel_rules d words) ≡ None → box_named d.names (slice_get words 1) ≡ Some from → box_named d.names (slice_get words 3) ≡ Some to → from ≢ to
boxes_apart d words from to kept a b =
    let near = box_named d.names (slice_get words 1) in
    let far = box_named d.names (slice_get words 3) in
    let other : (from == to) ≡ false = rw (a, b) at (kept_at (channel_rules d words) 5 (SAME_BOX, are_same near far) kept refl) in
    λ same. absurd (grind arith)

channel_line : (d : Declared) (words : List (List ℕ)) → AreInPlace d.channels → least_broken (channel_rules d words) ≡ None → ArePlaced (channel_after d words)
channel_line d words placed kept =
    of_then (spelt_value spelt_medium (slice_get words 0)) _ (λ medium m.
    of_then (box_named d.names (slice_get words 1)) _ (λ from a.
    of_then (slice_get words 2) _ (λ slot s.
    of_then (box_named d.names (slice_get words 3)) _ (λ to b.
    of_then (slice_get words 4) (λ far_slot. Some (with_joined d medium from slot to far_slot)) (λ far_slot f.
    channel_placed d.channels from to medium (boxes_apart d words from to kept a b) placed)))))

also_line : (d : Declared) (words : List (List ℕ)) → AreInPlace d.channels → ArePlaced (also_after d words)
also_line d words placed =
    of_then (spelt_value spelt_medium (slice_get words 0)) _ (λ medium m.
    of_then (slice_get words 1) _ (λ slot s.
    of_then (slice_get words 2) (λ far_slot. Some (with_widened d medium (last_channel d.channels).from slot (last_channel d.channels).to far_slot)) (λ far_slot f. tunnel_placed d.channels medium placed)))

command_line : (d : Declared) (of_part : Bool) (kind : CommandWord) (words : List (List ℕ)) → AreInPlace d.channels → ArePlaced (if of_part then program_link_after d words else command_after d kind words)
command_line d true kind words placed =
    of_chained (λ block. option_map (with_block d) (block_link_after d.names block words)) (open_block d) (λ block. of_mapped (with_block d) (block_link_after d.names block words) (λ after. placed))
command_line d false kind words placed = of_mapped (λ it. record d { section = section.Commands; commands = d.commands ++ it ∷ [] }) (command_by d.names (Some kind) words) (λ it. placed)

kind_placed : (d : Declared) (kind : Keyword) (words : List (List ℕ)) → AreInPlace d.channels → least_broken (rules_by d (Some kind) words) ≡ None → ArePlaced (after_by d (Some kind) words)
kind_placed d keyword.Media words placed kept = tt
kind_placed d keyword.Codec words placed kept = of_mapped (with_new_codec d) (slice_get words 0) (λ name. placed)
kind_placed d keyword.Dev words placed kept = of_mapped (λ name. with_new_box d name (device_in d.names (drop 1 words))) (slice_get words 0) (λ name. placed)
kind_placed d keyword.Feat words placed kept = of_mapped (with_new_feature d) (slice_get words 0) (λ name. placed)
kind_placed d keyword.Send words placed kept = of_mapped (λ who. with_send_line d who (map (codec_number d.names) (drop 1 words))) (box_named d.names (slice_get words 0)) (λ who. placed)
kind_placed d keyword.Chan words placed kept = channel_line d words placed kept
kind_placed d keyword.Also words placed kept = also_line d words placed
kind_placed d keyword.Prog words placed kept =
    of_mapped (λ who. record d { section = section.Programs; shape = programmed_shape d.shape who; blocks = d.blocks ++ new_block who (drop 1 words) ∷ [] }) (box_named d.names (slice_get words 0)) (λ who. placed)
kind_placed d keyword.State words placed kept = of_mapped (λ block. with_block d (with_new_part d.names block)) (open_block d) (λ block. placed)
kind_placed d keyword.Goal words placed kept =
    of_chained (λ block. option_map (with_block d) (block_goal_after d.names block words)) (open_block d) (λ block. of_mapped (with_block d) (block_goal_after d.names block words) (λ after. placed))
kind_placed d keyword.When words placed kept =
    of_chained (λ block. when_after d block words) (open_block d)
    (λ block. of_mapped (λ (after : NameLists × BlockState). with_block (record d { names = after.0 }) after.1) (block_when_after d.names block words) (λ after. placed))
kind_placed d keyword.Begin words placed kept = placed
kind_placed d keyword.Journal words placed kept = placed
kind_placed d keyword.Grow words placed kept = placed
kind_placed d (keyword.Command kind) words placed kept = command_line d (is_program_link d.section kind) kind words placed

by_kind : (d : Declared) (kind : Option Keyword) (words : List (List ℕ)) → AreInPlace d.channels → least_broken (rules_by d kind words) ≡ None → ArePlaced (after_by d kind words)
by_kind d None words placed kept = tt
by_kind d (Some kind) words placed kept = kind_placed d kind words placed kept

by_words : (d : Declared) (ws : List (List ℕ)) (versioned : Bool) → AreInPlace d.channels → least_broken (words_rules versioned d ws) ≡ None → ArePlaced (words_after versioned d ws)
by_words d ws false placed kept = placed
by_words d ws true placed kept = by_kind d (kind_of ws) (drop 1 ws) placed kept

by_skipped : (d : Declared) (ws : List (List ℕ)) (skipped : Bool) → AreInPlace d.channels → least_broken (line_words_rules skipped d ws) ≡ None → ArePlaced (unless_skipped skipped d (words_after d.versioned d ws))
by_skipped d ws true placed kept = placed
by_skipped d ws false placed kept = by_words d ws d.versioned placed kept

words_kept : (total before : ℕ) (d : Declared) (line : List ℕ) → line_fault total before d line ≡ None → least_broken (line_words_rules (is_skipped (words line)) d (words line)) ≡ None
words_kept total before d line kept =
    let rest = line_words_rules (is_skipped (words line)) d (words line) in
    let strange = list_any (λ byte. not (is_plain byte)) line in
    others_kept 3 strange rest (others_kept 2 (nat_lt 256 (length line)) ((3, strange) ∷ rest) (others_kept 1 (passes_limit (text_limit d.tail) total before line) (byte_rules line ++ rest) kept))

line_placed : (total before : ℕ) (d : Declared) (line : List ℕ) → AreInPlace d.channels → line_fault total before d line ≡ None → AreInPlace (unwrap_or (line_after d line) d).channels
line_placed total before d line placed kept = by (line_after d line) (by_skipped d (words line) (is_skipped (words line)) placed (words_kept total before d line kept))
  where
    by : (o : Option Declared) → ArePlaced o → AreInPlace (unwrap_or o d).channels
    by None are = placed
    by (Some after) are = are

placed_by : (tail : Tail) (total : ℕ) (all : List (List ℕ)) (k : ℕ) → AreSound tail total all k → AreInPlace (declared_by tail all k).channels
placed_by tail total all zero sound = none_placed
placed_by tail total all (suc k) sound =
    line_placed total (bytes_before all k) (declared_by tail all k) (slice_index_or all k []) (placed_by tail total all k (λ j within. sound j (omega arith))) (sound k (omega arith))

-- the channels of a text that is in the grammar are in place
pub says_placed : (tail : Tail) (text : List ℕ) (d : Declared) → Says tail text d → AreInPlace d.channels
says_placed tail text d says = subst (λ (x : Declared). AreInPlace x.channels) (sym says.declared) (placed_by tail (length text) (text_lines tail text) (length (text_lines tail text)) says.sound)
