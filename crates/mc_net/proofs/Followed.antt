-- A journal may follow: a text says with the line `journal` and more after it what it says where nothing may stand there.
use Rattle.std.proofs.Common.{◌≡◌, ℕ, zero, suc, ◌+◌, ◌<◌, ◌≤◌, ◌&&◌, not, Bool, true, false, nat_lt, if◌then◌else◌, List, [], ◌∷◌, ◌++◌, codes, drop, length, min, slice_index_or, map, Option, Some, None, ◌⊎◌, inl, inr, refl, sym, ap, subst, ◌∙◌, append_assoc, arith, length-append}
use Rattle.std.proofs.Math.Nat.{min-eq_left}
use Rattle.std.proofs.Math.Seq.{get_or-append_seam}
use Rattle.std.proofs.lemmas.Bool.{cases_lt}
use Rattle.std.proofs.lemmas.List.{get_or_append_left}
use Rattle.std.proofs.lemmas.Slice.Eq.{bytes_eq-Decides}
use Rattle.std.specs.List.{onto_first, slice_get, slice_split}
use Rattle.std.specs.Option.{option_and_then, option_map, unwrap_or}
use Rattle.std.specs.Str.{bytes_eq}
use Rattle.mc_lines.proofs.FirstBroken.{all_before, all_behind, of_words}
use Rattle.mc_lines.specs.Meaning.{after_by, also_after, channel_after, codec_number, command_after, device_in, line_after, program_link_after, programmed_shape, unless_skipped, when_after, with_block, with_joined, with_new_box, with_new_codec, with_new_feature, with_send_line, with_widened, words_after}
use Rattle.mc_lines.specs.Rules.{end_fault, end_rules, ends_commands, grow_rules, has_growth, has_journal, is_journal, is_pending, is_program_link, is_skipped, journal_rules, kind_of, line_fault, line_words_rules, open_block, passes_limit, rules_by, spelt_medium, text_limit, words_rules}
use Rattle.mc_lines.specs.SoFar.{Declared}
use Rattle.mc_lines.specs.declared.section.Keyword.{Keyword}
use Rattle.mc_lines.specs.declared.section.Keyword.TheVariants as keyword
use Rattle.mc_lines.specs.declared.section.Section.TheVariants as section
use Rattle.mc_lines.specs.declared.tail.Tail.{Tail}
use Rattle.mc_lines.specs.declared.tail.Tail.TheVariants.{Nothing, Journal}
use Rattle.mc_net.proofs.FirstBytes.{all_bytes, extent, extent-append, same_declared, without_empty_last-cons}
use Rattle.mc_net.proofs.Reading.{has_tail}
use Rattle.mc_net.proofs.TextEnds.{unended_texts}
use Rattle.mc_net.specs.Followed.{JournalsMayFollow, ended, followed, journal_line, missing_end, up_to_journal}
use Rattle.mc_net.specs.Texts.{AreSound, Says, bytes_before, declared_after, declared_by, fault_at, text_end, text_lines, up_to}
use Rattle.mc_plan.specs.Plans.{last_channel}
use Rattle.mc_program_lines.proofs.KeptRules.{kept_at, others_kept}
use Rattle.mc_program_lines.specs.Programs.{◌>>=◌, BlockState, block_goal_after, block_link_after, block_when_after, new_block, with_new_part}
use Rattle.mc_script.specs.Meaning.{command_by}
use Rattle.mc_script.specs.Places.{box_named, spelt_value}
use Rattle.mc_script.specs.Rules.{byte_rules, least_broken}
use Rattle.mc_script.specs.declared.keyword.CommandWord.{CommandWord}
use Rattle.mc_script.specs.declared.rule.TheConstants.{NO_BEGIN, NO_VERSION_LINE, WRONG_WORD}
use Rattle.mc_text.proofs.Cuts.{first_line, some_pieces}
use Rattle.mc_text.specs.Lines.{is_line_end, lines, without_empty_last, words}
use Rattle.mc_text.specs.NameLists.{NameLists}

-- ---- lines of a text with more after it

-- a byte of the first line, in front of pieces
onto_piece : (byte : ℕ) (first : List ℕ) (others : List (List ℕ)) → without_empty_last ((byte ∷ first) ∷ others) ≡ onto_first byte (without_empty_last (first ∷ others))
onto_piece byte [] [] = without_empty_last-cons byte [] []
onto_piece byte (next ∷ first) [] = without_empty_last-cons byte (next ∷ first) [] ∙ sym (ap (onto_first byte) (without_empty_last-cons next first []))
onto_piece byte first (other ∷ others) = refl

-- pieces in front of others stay
first_stays : (piece : List ℕ) (some : List (List ℕ)) (first : List ℕ) (others : List (List ℕ)) → some ≡ first ∷ others → without_empty_last (piece ∷ some) ≡ piece ∷ without_empty_last some
first_stays piece some first others is = rw is refl

module _ (p : ℕ → Bool) where
  pieces_end : (byte : ℕ) (bytes : List ℕ) → p byte ≡ true → without_empty_last (slice_split p (byte ∷ bytes)) ≡ [] ∷ without_empty_last (slice_split p bytes)
  pieces_end byte bytes e = let pieces = some_pieces p bytes in rw (e, pieces.2) refl

  pieces_on : (byte : ℕ) (bytes : List ℕ) → p byte ≡ false → without_empty_last (slice_split p (byte ∷ bytes)) ≡ onto_first byte (without_empty_last (slice_split p bytes))
  pieces_on byte bytes e = let pieces = some_pieces p bytes in rw (e, pieces.2) (onto_piece byte pieces.0 pieces.1)

-- an end in front is an empty line more
lines_end : (byte : ℕ) (bytes : List ℕ) → is_line_end byte ≡ true → lines (byte ∷ bytes) ≡ [] ∷ lines bytes
lines_end byte bytes e = pieces_end is_line_end byte bytes e

-- any other byte goes onto the first line
lines_on : (byte : ℕ) (bytes : List ℕ) → is_line_end byte ≡ false → lines (byte ∷ bytes) ≡ onto_first byte (lines bytes)
lines_on byte bytes e = pieces_on is_line_end byte bytes e

-- a byte that goes onto the first of some lines leaves those after them
onto_append : (byte : ℕ) (some : List (List ℕ)) (first : List ℕ) (others more : List (List ℕ)) → some ≡ first ∷ others → onto_first byte (some ++ more) ≡ onto_first byte some ++ more
onto_append byte some first others more is = rw is refl

extent_onto : (byte : ℕ) (some : List (List ℕ)) (first : List ℕ) (others : List (List ℕ)) → some ≡ first ∷ others → extent (onto_first byte some) ≡ suc (extent some)
extent_onto byte some first others is = rw is (omega arith)

extent_end : (some : List (List ℕ)) → extent ([] ∷ some) ≡ suc (extent some)
extent_end some = omega arith

-- the end that a line of one byte lacks
abbrev end_by : Bool → List ℕ
end_by ends = if ends then [] else 10 ∷ []

-- the lines of a text that is ended stand before those of what is after it
ended_lines : (text more : List ℕ) → lines (ended text ++ more) ≡ lines text ++ lines more
ended_lines [] more = refl
ended_lines (byte ∷ []) more = by (is_line_end byte) refl
  where
    by : (ends : Bool) → is_line_end byte ≡ ends → lines (ended (byte ∷ []) ++ more) ≡ lines (byte ∷ []) ++ lines more
    by true e =
        let none : missing_end (byte ∷ []) ≡ [] = ap end_by e in
        ap (λ (end : List ℕ). lines (byte ∷ end ++ more)) none ∙ lines_end byte more e ∙ sym (ap (λ (l : List (List ℕ)). l ++ lines more) (lines_end byte [] e))
    by false e =
        let one : missing_end (byte ∷ []) ≡ 10 ∷ [] = ap end_by e in
        ap (λ (end : List ℕ). lines (byte ∷ end ++ more)) one ∙ lines_on byte (10 ∷ more) e ∙ ap (onto_first byte) (lines_end 10 more refl) ∙ sym (ap (λ (l : List (List ℕ)). l ++ lines more) (lines_on byte [] e))
ended_lines (byte ∷ next ∷ bytes) more = by (is_line_end byte) refl (ended_lines (next ∷ bytes) more)
  where
    by : (ends : Bool) → is_line_end byte ≡ ends → lines (ended (next ∷ bytes) ++ more) ≡ lines (next ∷ bytes) ++ lines more → lines (ended (byte ∷ next ∷ bytes) ++ more) ≡ lines (byte ∷ next ∷ bytes) ++ lines more
    by true e rest =
        lines_end byte (ended (next ∷ bytes) ++ more) e ∙ ap (λ (l : List (List ℕ)). [] ∷ l) rest ∙ sym (ap (λ (l : List (List ℕ)). l ++ lines more) (lines_end byte (next ∷ bytes) e))
    by false e rest =
        lines_on byte (ended (next ∷ bytes) ++ more) e
        ∙ ap (onto_first byte) rest
        ∙ onto_append byte (lines (next ∷ bytes)) _ _ (lines more) (first_line is_line_end (next ∷ bytes) (omega arith))
        ∙ sym (ap (λ (l : List (List ℕ)). l ++ lines more) (lines_on byte (next ∷ bytes) e))

-- and have all its bytes
ended_bytes : (text : List ℕ) → extent (lines text) ≡ length (ended text)
ended_bytes [] = refl
ended_bytes (byte ∷ []) = by (is_line_end byte) refl
  where
    by : (ends : Bool) → is_line_end byte ≡ ends → extent (lines (byte ∷ [])) ≡ length (ended (byte ∷ []))
    by true e =
        let none : missing_end (byte ∷ []) ≡ [] = ap end_by e in
        ap extent (lines_end byte [] e) ∙ sym (ap (λ (end : List ℕ). length (byte ∷ end)) none)
    by false e =
        let one : missing_end (byte ∷ []) ≡ 10 ∷ [] = ap end_by e in
        ap extent (lines_on byte [] e) ∙ sym (ap (λ (end : List ℕ). length (byte ∷ end)) one)
ended_bytes (byte ∷ next ∷ bytes) = by (is_line_end byte) refl (ended_bytes (next ∷ bytes))
  where
    by : (ends : Bool) → is_line_end byte ≡ ends → extent (lines (next ∷ bytes)) ≡ length (ended (next ∷ bytes)) → extent (lines (byte ∷ next ∷ bytes)) ≡ length (ended (byte ∷ next ∷ bytes))
    by true e rest = ap extent (lines_end byte (next ∷ bytes) e) ∙ extent_end (lines (next ∷ bytes)) ∙ ap suc rest
    by false e rest = ap extent (lines_on byte (next ∷ bytes) e) ∙ extent_onto byte (lines (next ∷ bytes)) _ _ (first_line is_line_end (next ∷ bytes) (omega arith)) ∙ ap suc rest

-- the line `journal` comes first
journal_lines : (journal : List ℕ) → lines (journal_line ++ journal) ≡ codes "journal" ∷ lines journal
journal_lines journal =
    let pieces = some_pieces is_line_end journal in
    let cut : slice_split is_line_end (journal_line ++ journal) ≡ codes "journal" ∷ slice_split is_line_end journal = refl in
    ap without_empty_last cut ∙ first_stays (codes "journal") (slice_split is_line_end journal) pieces.0 pieces.1 pieces.2

followed_lines : (text journal : List ℕ) → lines (followed text journal) ≡ lines text ++ codes "journal" ∷ lines journal
followed_lines text journal =
    ap lines (append_assoc (ended text) journal_line journal) ∙ ended_lines text (journal_line ++ journal) ∙ ap (λ (l : List (List ℕ)). lines text ++ l) (journal_lines journal)

-- ---- one line

-- the same is declared, and a journal may follow
abbrev under : Declared → Declared
under d = record d { tail = Journal }

of_mapped : {A : Type 0} (f g : A → Declared) (o : Option A) → ((x : A) → g x ≡ under (f x)) → option_map g o ≡ option_map under (option_map f o)
of_mapped f g None each = refl
of_mapped f g (Some x) each = ap Some (each x)

of_chained : {A : Type 0} (f g : A → Option Declared) (o : Option A) → ((x : A) → g x ≡ option_map under (f x)) → option_and_then g o ≡ option_map under (option_and_then f o)
of_chained f g None each = refl
of_chained f g (Some x) each = each x

of_then : {A : Type 0} (o : Option A) (f g : A → Option Declared) → ((x : A) → g x ≡ option_map under (f x)) → (o >>= g) ≡ option_map under (o >>= f)
of_then None f g each = refl
of_then (Some x) f g each = each x

module _ (d : Declared) (words : List (List ℕ)) where
  channel_same : channel_after (under d) words ≡ option_map under (channel_after d words)
  channel_same =
      of_then (spelt_value spelt_medium (slice_get words 0)) _ _ (λ medium.
      of_then (box_named d.names (slice_get words 1)) _ _ (λ from.
      of_then (slice_get words 2) _ _ (λ slot.
      of_then (box_named d.names (slice_get words 3)) _ _ (λ to.
      of_then (slice_get words 4) (λ far_slot. Some (with_joined d medium from slot to far_slot)) (λ far_slot. Some (with_joined (under d) medium from slot to far_slot)) (λ far_slot. refl)))))

  also_same : also_after (under d) words ≡ option_map under (also_after d words)
  also_same =
      of_then (spelt_value spelt_medium (slice_get words 0)) _ _ (λ medium.
      of_then (slice_get words 1) _ _ (λ slot.
      of_then (slice_get words 2) (λ far_slot. Some (with_widened d medium (last_channel d.channels).from slot (last_channel d.channels).to far_slot))
      (λ far_slot. Some (with_widened (under d) medium (last_channel d.channels).from slot (last_channel d.channels).to far_slot)) (λ far_slot. refl)))

  program_link_same : program_link_after (under d) words ≡ option_map under (program_link_after d words)
  program_link_same =
      of_chained (λ block. option_map (with_block d) (block_link_after d.names block words)) (λ block. option_map (with_block (under d)) (block_link_after d.names block words)) (open_block d)
      (λ block. of_mapped (with_block d) (with_block (under d)) (block_link_after d.names block words) (λ after. refl))

  command_same : (of_part : Bool) (kind : CommandWord)
      → (if of_part then program_link_after (under d) words else command_after (under d) kind words) ≡ option_map under (if of_part then program_link_after d words else command_after d kind words)
  command_same true kind = program_link_same
  command_same false kind = of_mapped (λ it. record d { section = section.Commands; commands = d.commands ++ it ∷ [] }) (λ it. record (under d) { section = section.Commands; commands = d.commands ++ it ∷ [] }) (command_by d.names (Some kind) words) (λ it. refl)

  kind_same : (kind : Keyword) → after_by (under d) (Some kind) words ≡ option_map under (after_by d (Some kind) words)
  kind_same keyword.Media = refl
  kind_same keyword.Codec = of_mapped (with_new_codec d) (with_new_codec (under d)) (slice_get words 0) (λ name. refl)
  kind_same keyword.Dev = of_mapped (λ name. with_new_box d name (device_in d.names (drop 1 words))) (λ name. with_new_box (under d) name (device_in d.names (drop 1 words))) (slice_get words 0) (λ name. refl)
  kind_same keyword.Feat = of_mapped (with_new_feature d) (with_new_feature (under d)) (slice_get words 0) (λ name. refl)
  kind_same keyword.Send = of_mapped (λ who. with_send_line d who (map (codec_number d.names) (drop 1 words))) (λ who. with_send_line (under d) who (map (codec_number d.names) (drop 1 words))) (box_named d.names (slice_get words 0)) (λ who. refl)
  kind_same keyword.Chan = channel_same
  kind_same keyword.Also = also_same
  kind_same keyword.Prog =
      of_mapped (λ who. record d { section = section.Programs; shape = programmed_shape d.shape who; blocks = d.blocks ++ new_block who (drop 1 words) ∷ [] })
      (λ who. record (under d) { section = section.Programs; shape = programmed_shape d.shape who; blocks = d.blocks ++ new_block who (drop 1 words) ∷ [] }) (box_named d.names (slice_get words 0)) (λ who. refl)
  kind_same keyword.State = of_mapped (λ block. with_block d (with_new_part d.names block)) (λ block. with_block (under d) (with_new_part d.names block)) (open_block d) (λ block. refl)
  kind_same keyword.Goal =
      of_chained (λ block. option_map (with_block d) (block_goal_after d.names block words)) (λ block. option_map (with_block (under d)) (block_goal_after d.names block words)) (open_block d)
      (λ block. of_mapped (with_block d) (with_block (under d)) (block_goal_after d.names block words) (λ after. refl))
  kind_same keyword.When =
      of_chained (λ block. when_after d block words) (λ block. when_after (under d) block words) (open_block d)
      (λ block. of_mapped (λ (after : NameLists × BlockState). with_block (record d { names = after.0 }) after.1) (λ (after : NameLists × BlockState). with_block (record (under d) { names = after.0 }) after.1) (block_when_after d.names block words) (λ after. refl))
  kind_same keyword.Begin = refl
  kind_same keyword.Journal = refl
  kind_same keyword.Grow = refl
  kind_same (keyword.Command kind) = command_same (is_program_link d.section kind) kind

  by_kind : (kind : Option Keyword) → after_by (under d) kind words ≡ option_map under (after_by d kind words)
  by_kind None = refl
  by_kind (Some kind) = kind_same kind

by_words : (d : Declared) (ws : List (List ℕ)) (versioned : Bool) → words_after versioned (under d) ws ≡ option_map under (words_after versioned d ws)
by_words d ws false = refl
by_words d ws true = by_kind d (drop 1 ws) (kind_of ws)

by_skipped : (d : Declared) (ws : List (List ℕ)) (skipped : Bool) → unless_skipped skipped (under d) (words_after d.versioned (under d) ws) ≡ option_map under (unless_skipped skipped d (words_after d.versioned d ws))
by_skipped d ws true = refl
by_skipped d ws false = by_words d ws d.versioned

-- a line declares the same
declared_same : (d : Declared) (line : List ℕ) → declared_after (under d) line ≡ under (declared_after d line)
declared_same d line = ap (λ (o : Option Declared). unwrap_or o (under d)) (by_skipped d (words line) (is_skipped (words line))) ∙ by (line_after d line)
  where
    by : (o : Option Declared) → unwrap_or (option_map under o) (under d) ≡ under (unwrap_or o d)
    by None = refl
    by (Some after) = refl

-- where no journal may follow, `journal` opens no line
no_journal : (begun : Bool) (tail : Tail) (words : List (List ℕ)) → tail ≡ Nothing → least_broken (journal_rules (begun && has_journal tail) words) ≡ None → ⊥
no_journal true tail words none kept = let clash : Some WRONG_WORD ≡ None = rw none at kept in cc
no_journal false tail words none kept = let clash : Some WRONG_WORD ≡ None = kept in cc

-- nor does `grow`
no_growth : (begun pending : Bool) (tail : Tail) (words : List (List ℕ)) → tail ≡ Nothing
    → least_broken (grow_rules (begun && has_growth tail) pending words) ≡ None → ⊥
no_growth true pending tail words none kept = let clash : Some WRONG_WORD ≡ None = rw none at kept in cc
no_growth false pending tail words none kept = let clash : Some WRONG_WORD ≡ None = kept in cc

-- a text within its limit has no line that passes it
no_passing : (total before : ℕ) (line : List ℕ) → total ≤ text_limit Journal → passes_limit (text_limit Journal) total before line ≡ false
no_passing total before line within = let short : nat_lt (text_limit Journal) total ≡ false = grind arith in rw short refl

module _ (d : Declared) (none : d.tail ≡ Nothing) where
  -- a line that keeps the rules keeps them where a journal may follow
  kept_kind : (kind : Option Keyword) (words : List (List ℕ)) → least_broken (rules_by d kind words) ≡ None → least_broken (rules_by (under d) kind words) ≡ None
  kept_kind None words kept = kept
  kept_kind (Some keyword.Media) words kept = kept
  kept_kind (Some keyword.Codec) words kept = kept
  kept_kind (Some keyword.Dev) words kept = kept
  kept_kind (Some keyword.Feat) words kept = kept
  kept_kind (Some keyword.Send) words kept = kept
  kept_kind (Some keyword.Chan) words kept = kept
  kept_kind (Some keyword.Also) words kept = kept
  kept_kind (Some keyword.Prog) words kept = kept
  kept_kind (Some keyword.State) words kept = kept
  kept_kind (Some keyword.Goal) words kept = kept
  kept_kind (Some keyword.When) words kept = kept
  kept_kind (Some keyword.Begin) words kept = kept
  kept_kind (Some keyword.Journal) words kept = absurd (no_journal d.begun d.tail words none kept)
  kept_kind (Some keyword.Grow) words kept = absurd (no_growth d.begun (is_pending d.commands) d.tail words none kept)
  kept_kind (Some (keyword.Command kind)) words kept = kept

  kept_words : (versioned : Bool) (ws : List (List ℕ)) → least_broken (words_rules versioned d ws) ≡ None → least_broken (words_rules versioned (under d) ws) ≡ None
  kept_words false ws kept = kept
  kept_words true ws kept = kept_kind (kind_of ws) (drop 1 ws) kept

  kept_entry : (skipped : Bool) (ws : List (List ℕ)) → least_broken (line_words_rules skipped d ws) ≡ None → least_broken (line_words_rules skipped (under d) ws) ≡ None
  kept_entry true ws kept = refl
  kept_entry false ws kept = kept_words d.versioned ws kept

  -- and isn't the line `journal`
  broken_by : (versioned : Bool) → least_broken (words_rules versioned d (codes "journal" ∷ [])) ≡ None → ⊥
  broken_by false kept = let clash : Some NO_VERSION_LINE ≡ None = kept in cc
  broken_by true kept = no_journal d.begun d.tail [] none kept

  is_other : (ws : List (List ℕ)) → least_broken (line_words_rules (is_skipped ws) d ws) ≡ None → is_journal ws ≡ false
  is_other [] kept = refl
  is_other (first ∷ []) kept = by (bytes_eq first (codes "journal")) refl
    where
      by : (same : Bool) → bytes_eq first (codes "journal") ≡ same → bytes_eq first (codes "journal") ≡ false
      by true e =
          let word : first ≡ codes "journal" = (bytes_eq-Decides first (codes "journal")).0 e in
          absurd (broken_by d.versioned (subst (λ (w : List ℕ). least_broken (line_words_rules (is_skipped (w ∷ [])) d (w ∷ [])) ≡ None) word kept))
      by false e = e
  is_other (first ∷ second ∷ others) kept = refl

  -- what a line without a fault keeps
  record IsKept (line : List ℕ) : Type 0 where
    bytes : least_broken (byte_rules line) ≡ None
    own : least_broken (line_words_rules (is_skipped (words line)) d (words line)) ≡ None

  kept_line : (total before : ℕ) (line : List ℕ) → line_fault total before d line ≡ None → IsKept line
  kept_line total before line kept =
      let own = line_words_rules (is_skipped (words line)) d (words line) in
      let rest : least_broken (byte_rules line ++ own) ≡ None = others_kept 1 (passes_limit (text_limit d.tail) total before line) (byte_rules line ++ own) kept in
      record { bytes = all_before (byte_rules line) own rest; own = all_behind (byte_rules line) own rest }

  -- a line without a fault has none where a journal may follow, within the limit
  still_sound : (total before other_total other_before : ℕ) (line : List ℕ) → other_total ≤ text_limit Journal → line_fault total before d line ≡ None → line_fault other_total other_before (under d) line ≡ None
  still_sound total before other_total other_before line within sound =
      let kept = kept_line total before line sound in
      of_words other_total other_before (under d) line (no_passing other_total other_before line within) kept.bytes ∙ kept_entry (is_skipped (words line)) (words line) kept.own

  still_goes : (total before : ℕ) (line : List ℕ) → line_fault total before d line ≡ None → ends_commands Journal line ≡ false
  still_goes total before line sound = is_other (words line) (kept_line total before line sound).own

-- ---- the line `journal`

-- what the end of a text asks
is_true : (b : Bool) → not b ≡ false → b ≡ true
is_true true is = refl
is_true false is = absurd cc

is_begun : (versioned begun : Bool) → versioned ≡ true → (versioned && not begun) ≡ false → begun ≡ true
is_begun true begun versioned is = is_true begun is
is_begun false begun versioned is = absurd cc

module _ (d : Declared) (whole : end_fault d ≡ None) where
  versioned : d.versioned ≡ true
  versioned = is_true d.versioned (kept_at (end_rules d) 2 (NO_VERSION_LINE, not d.versioned) whole refl)

  begun : d.begun ≡ true
  begun = is_begun d.versioned d.begun versioned (kept_at (end_rules d) 1 (NO_BEGIN, d.versioned && not d.begun) whole refl)

  -- it breaks no rule
  journal_sound : (total before : ℕ) → total ≤ text_limit Journal → line_fault total before (under d) (codes "journal") ≡ None
  journal_sound total before within =
      of_words total before (under d) (codes "journal") (no_passing total before (codes "journal") within) refl
      ∙ ap (λ (b : Bool). least_broken (words_rules b (under d) (codes "journal" ∷ []))) versioned
      ∙ ap (λ (b : Bool). least_broken (journal_rules (b && true) [])) begun

  -- and declares nothing
  journal_declares : declared_after (under d) (codes "journal") ≡ under d
  journal_declares = ap (λ (b : Bool). unwrap_or (words_after b (under d) (codes "journal" ∷ [])) (under d)) versioned

-- ---- whole texts

by_lines : (xs : List (List ℕ)) (k : ℕ) → declared_by Journal xs k ≡ under (declared_by Nothing xs k)
by_lines xs zero = refl
by_lines xs (suc k) =
    ap (λ (d : Declared). declared_after d (slice_index_or xs k [])) (by_lines xs k) ∙ declared_same (declared_by Nothing xs k) (slice_index_or xs k [])

-- of lines none of which passes a test, and one that does, no more are taken
stops_there : (test : List ℕ → Bool) (xs : List (List ℕ)) (last : List ℕ) (more : List (List ℕ)) → ((k : ℕ) → k < length xs → test (slice_index_or xs k []) ≡ false) → test last ≡ true
    → up_to test (xs ++ last ∷ more) ≡ xs ++ last ∷ []
stops_there test [] last more none stops = rw stops refl
stops_there test (x ∷ xs) last more none stops =
    let first : test x ≡ false = none 0 (omega arith) in
    rw first (ap (λ (l : List (List ℕ)). x ∷ l) (stops_there test xs last more (λ k below. none (suc k) (omega arith)) stops))

-- the lines of a text, and the line `journal`
abbrev all_of : List ℕ → List (List ℕ)
all_of text = lines text ++ codes "journal" ∷ []

-- what they declare without that one
abbrev last_of : List ℕ → Declared
last_of text = declared_by Nothing (lines text) (length (lines text))

module _ (text journal : List ℕ) (d : Declared) (says : Says Nothing text d) (within : length (followed text journal) ≤ text_limit Journal) where
  own_are : text_lines Nothing text ≡ lines text
  own_are = (unended_texts text).0

  sound : (k : ℕ) → k < length (lines text) → fault_at Nothing (length text) (lines text) k ≡ None
  sound k below =
      subst (λ (l : List (List ℕ)). fault_at Nothing (length text) l k ≡ None) own_are (says.sound k (subst (λ (l : List (List ℕ)). k < length l) (sym own_are) below))

  no_fault : end_fault (last_of text) ≡ None
  no_fault = subst (λ (l : List (List ℕ)). end_fault (declared_by Nothing l (length l)) ≡ None) own_are says.ended

  d_is : d ≡ last_of text
  d_is = says.declared ∙ ap (λ (l : List (List ℕ)). declared_by Nothing l (length l)) own_are

  goes : (k : ℕ) → k < length (lines text) → ends_commands Journal (slice_index_or (lines text) k []) ≡ false
  goes k below = still_goes (declared_by Nothing (lines text) k) (has_tail Nothing (lines text) k) (length text) (bytes_before (lines text) k) (slice_index_or (lines text) k []) (sound k below)

  lines_are : text_lines Journal (followed text journal) ≡ all_of text
  lines_are = ap (up_to (ends_commands Journal)) (followed_lines text journal) ∙ stops_there (ends_commands Journal) (lines text) (codes "journal") (lines journal) goes refl

  count : length (all_of text) ≡ suc (length (lines text))
  count = omega (arith, length-append (lines text) (codes "journal" ∷ []))

  line_is : (k : ℕ) → k < length (lines text) → slice_index_or (all_of text) k [] ≡ slice_index_or (lines text) k []
  line_is k below = get_or_append_left (lines text) (codes "journal" ∷ []) [] k below

  last_line : slice_index_or (all_of text) (length (lines text)) [] ≡ codes "journal"
  last_line = get_or-append_seam (lines text) (codes "journal") [] []

  declared_is : (k : ℕ) → k ≤ length (lines text) → declared_by Journal (all_of text) k ≡ under (declared_by Nothing (lines text) k)
  declared_is k most = same_declared Journal (all_of text) (lines text) (length (lines text)) line_is k most ∙ by_lines (lines text) k

  last_is : declared_by Journal (all_of text) (length (all_of text)) ≡ under (last_of text)
  last_is =
      ap (declared_by Journal (all_of text)) count
      ∙ ap (λ (l : List ℕ). declared_after (declared_by Journal (all_of text) (length (lines text))) l) last_line
      ∙ ap (λ (x : Declared). declared_after x (codes "journal")) (declared_is (length (lines text)) (omega arith))
      ∙ journal_declares (last_of text) no_fault

  still_by : (k : ℕ) → (k < length (lines text)) ⊎ (length (lines text) ≤ k) → k < length (all_of text) → fault_at Journal (length (followed text journal)) (all_of text) k ≡ None
  still_by k (inl less) below =
      ap (λ (l : List ℕ). line_fault (length (followed text journal)) (bytes_before (all_of text) k) (declared_by Journal (all_of text) k) l) (line_is k less)
      ∙ ap (λ (x : Declared). line_fault (length (followed text journal)) (bytes_before (all_of text) k) x (slice_index_or (lines text) k [])) (declared_is k (omega arith))
      ∙ still_sound (declared_by Nothing (lines text) k) (has_tail Nothing (lines text) k) (length text) (bytes_before (lines text) k) (length (followed text journal)) (bytes_before (all_of text) k) (slice_index_or (lines text) k []) within (sound k less)
  still_by k (inr most) below =
      let here : length (lines text) ≡ k = omega (arith, count) in
      subst (λ (i : ℕ). fault_at Journal (length (followed text journal)) (all_of text) i ≡ None) here
      (ap (λ (l : List ℕ). line_fault (length (followed text journal)) (bytes_before (all_of text) (length (lines text))) (declared_by Journal (all_of text) (length (lines text))) l) last_line
      ∙ ap (λ (x : Declared). line_fault (length (followed text journal)) (bytes_before (all_of text) (length (lines text))) x (codes "journal")) (declared_is (length (lines text)) (omega arith))
      ∙ journal_sound (last_of text) no_fault (length (followed text journal)) (bytes_before (all_of text) (length (lines text))) within)

  still : AreSound Journal (length (followed text journal)) (all_of text) (length (all_of text))
  still k below = still_by k (cases_lt k (length (lines text))) below

  still_says : Says Journal (followed text journal) (under d)
  still_says = record {
    sound = subst (λ (l : List (List ℕ)). AreSound Journal (length (followed text journal)) l (length l)) (sym lines_are) still;
    ended = subst (λ (l : List (List ℕ)). end_fault (declared_by Journal l (length l)) ≡ None) (sym lines_are) (ap end_fault last_is ∙ no_fault);
    declared = ap under d_is ∙ sym last_is ∙ ap (λ (l : List (List ℕ)). declared_by Journal l (length l)) (sym lines_are);
  }

  counted : bytes_before (all_of text) (length (all_of text)) ≡ length (up_to_journal text)
  counted =
      let bytes : bytes_before (all_of text) (length (all_of text)) ≡ extent (all_of text) = all_bytes (all_of text) in
      let parts : extent (all_of text) ≡ extent (lines text) + extent (codes "journal" ∷ []) = extent-append (lines text) (codes "journal" ∷ []) in
      let own : extent (lines text) ≡ length (ended text) = ended_bytes text in
      let one : extent (codes "journal" ∷ []) ≡ 8 = refl in
      let eight : length journal_line ≡ 8 = refl in
      let both : length (up_to_journal text) ≡ length (ended text) + length journal_line = length-append (ended text) journal_line in
      omega arith

  end_is : length (up_to_journal text) ≡ text_end Journal (followed text journal)
  end_is =
      let less : length (up_to_journal text) ≤ length (followed text journal) = omega (arith, length-append (up_to_journal text) journal) in
      sym (ap (λ (l : List (List ℕ)). min (bytes_before l (length l)) (length (followed text journal))) lines_are ∙ ap (λ (n : ℕ). min n (length (followed text journal))) counted ∙ min-eq_left less)

pub journals_may_follow : JournalsMayFollow
journals_may_follow text journal net declares within =
    let world = declares.world in
    record {
      declared = under declares.declared;
      says = still_says text journal declares.declared declares.says within;
      names = declares.names;
      shape = declares.shape;
      world = record { plan = world.plan; boxes = world.boxes; channels = world.channels; world = world.world };
      batches = declares.batches;
      rest = end_is text journal declares.declared declares.says within;
    }
