-- Which detail is told of which rule, by the kind of line.
use Rattle.std.proofs.Common.{◌≡◌, ◌==◌, ◌&&◌, ◌||◌, ◌+◌, ◌<◌, ◌≤◌, ℕ, Bool, true, false, not, List, [], ◌∷◌, Option, Some, None, drop, if◌then◌else◌, length, nat_lt, refl, arith, length-drop}
use Rattle.std.proofs.lemmas.Bool.{eqb-true}
use Rattle.std.specs.List.{list_any, slice_get}
use Rattle.std.specs.Option.{is_none, is_some, option_and_then, option_map}
use Rattle.mc_box.specs.BoxShapes.{BoxShapeState}
use Rattle.mc_text.specs.NameLists.{NameLists, place_of, slot_names}
use Rattle.mc_text.specs.Spelling.{is_spelt}
use Rattle.mc_script.specs.Places.{box_named, is_misspelt, is_no, lacks, lacks_slot}
use Rattle.mc_script.specs.Rules.{has_no_program, is_no_device, is_no_feature, least_broken, spelt_goal, spelt_switch}
use Rattle.mc_script.specs.declared.keyword.CommandWord.{CommandWord}
use Rattle.mc_script.specs.declared.keyword.CommandWord.TheVariants as command
use Rattle.mc_script.specs.declared.rule.TheConstants.{LIMIT_PASSED, MISSING_WORD, NO_SUCH_SLOT, NO_VERSION_LINE, UNDECLARED, WRONG_WORD}
use Rattle.mc_program_lines.specs.Programs.{BlockState, PartState, block_goal_rules, block_link_rules, block_when_rules, goal_rules, in_block, is_not_next, open_part_of, part_link_rules, spelt_state, waits_for, when_kind_rules}
use Rattle.mc_program_lines.specs.declared.part.WaitWord.{WaitWord}
use Rattle.mc_program_lines.specs.declared.part.WaitWord.TheVariants as waits
use Rattle.mc_lines.specs.DetailLaws.{Tells, TellsByRule, is_of_a_word}
use Rattle.mc_lines.specs.Details.{detail_of, first_misspelt, first_undeclared, has_version, no_slot_place, opening, passed_limit, target_place, undeclared_place, wrong_in_name, wrong_in_wait, wrong_word}
use Rattle.mc_lines.specs.Rules.{also_rules, words_rules, begin_rules, begins_digit, block_in, channel_rules, codec_rules, codec_words, command_line_rules, device_rules, feature_rules, is_late, is_program_link, is_skipped, is_version, journal_rules, kind_of, line_words_rules, lists_undeclared, open_block, program_link_rules, program_rules, rank, rules_by, send_line_rules, send_rules, shapes, spelt_medium, state_rules, has_growth, has_journal, grow_rules, is_pending}
use Rattle.mc_lines.specs.SoFar.{Declared}
use Rattle.mc_lines.specs.declared.detail.Detail.{Detail}
use Rattle.mc_lines.specs.declared.detail.Detail.TheVariants as detail
use Rattle.mc_lines.specs.declared.detail.Why.TheVariants as why
use Rattle.mc_lines.specs.declared.section.Keyword.{Keyword}
use Rattle.mc_lines.specs.declared.section.Keyword.TheVariants as keyword
use Rattle.mc_lines.specs.declared.section.Section.{Section}
use Rattle.mc_lines.specs.declared.section.Section.TheVariants as section
use Rattle.mc_lines.proofs.BrokenRules.{first_stands, is_broken, one_of, stands, the_first}

-- a word is told, which opens the line or is one of these, the words after the first
abbrev pub StandsAfter : List (List ℕ) → Detail → Type 0
StandsAfter words (detail.Word place why) = place ≤ length words
StandsAfter words other = ⊥

-- ---- where commands and parts stand

-- every command but `link` is one in the programs, too
abbrev is_link : CommandWord → Bool
is_link command.Link = true
is_link other = false

not_link : (s : Section) (kind : CommandWord) → is_link kind ≡ false → is_program_link s kind ≡ false
not_link section.Programs command.Link apart = absurd cc
not_link s kind apart = refl

-- where a line is no part's `link`, the rules of commands count
own_rules : (d : Declared) (kind : CommandWord) (words : List (List ℕ)) (number : ℕ) → is_program_link d.section kind ≡ false → least_broken (rules_by d (Some (keyword.Command kind)) words) ≡ Some number → least_broken (command_line_rules d kind words) ≡ Some number
own_rules d kind words number apart broken = rw apart at broken

-- a program is open only where no later section has begun
timely : (s : Section) (blocks : List BlockState) (block : BlockState) → block_in s blocks ≡ Some block → nat_lt 4 (rank s) ≡ false
timely section.Programs blocks block last = refl
timely s blocks block last = absurd cc

-- ---- words that aren't declared

-- the words of a `dev` line after the name are its codecs, and a version before them where there is one
counted : (words : List (List ℕ)) → (2 ≤ (if has_version words then 3 else 2)) × ((if has_version words then 3 else 2) + length (codec_words words) ≡ 2 + length words)
counted [] = (omega arith, refl)
counted (first ∷ others) = by (begins_digit first)
  where
    by : (digit : Bool) → (2 ≤ (if digit then 3 else 2)) × ((if digit then 3 else 2) + length (if digit then others else first ∷ others) ≡ 2 + length (first ∷ others))
    by true = (omega arith, omega arith)
    by false = (omega arith, refl)

-- a codec of a `dev` line
undeclared_dev : (d : Declared) (words : List (List ℕ)) → least_broken (device_rules d words) ≡ Some UNDECLARED → undeclared_place d (Some keyword.Dev) words ≤ length words
undeclared_dev d words broken =
    let is : list_any (λ word. is_none (place_of d.names.codecs word)) (codec_words (drop 1 words)) ≡ true = the_first _ (is_broken UNDECLARED (device_rules d words) broken) in
    let within : first_undeclared d.names (codec_words (drop 1 words)) < length (codec_words (drop 1 words)) = first_stands (λ word. is_none (place_of d.names.codecs word)) (codec_words (drop 1 words)) is in
    let all = counted (drop 1 words) in
    let left = length-drop 1 words in
    omega arith

-- the box of a `send` line, or a codec
undeclared_send : (d : Declared) (words : List (List ℕ)) → least_broken (send_rules d words) ≡ Some UNDECLARED → undeclared_place d (Some keyword.Send) words ≤ length words
undeclared_send d words broken = by (lacks d.names.boxes (slice_get words 0)) refl
  where
    by : (no_box : Bool) → lacks d.names.boxes (slice_get words 0) ≡ no_box → (if no_box then 1 else 2 + first_undeclared d.names (drop 1 words)) ≤ length words
    by true e = let h = stands (lacks d.names.boxes) refl words 0 e in omega arith
    by false e =
        let both : (lacks d.names.boxes (slice_get words 0) || lists_undeclared d.names (drop 1 words)) ≡ true = the_first _ (is_broken UNDECLARED (send_rules d words) broken) in
        let is : list_any (λ word. is_none (place_of d.names.codecs word)) (drop 1 words) ≡ true = one_of _ _ both e in
        let within : first_undeclared d.names (drop 1 words) < length (drop 1 words) = first_stands (λ word. is_none (place_of d.names.codecs word)) (drop 1 words) is in
        let left = length-drop 1 words in
        omega arith

-- a box of a `chan` line
undeclared_chan : (d : Declared) (words : List (List ℕ)) → least_broken (channel_rules d words) ≡ Some UNDECLARED → undeclared_place d (Some keyword.Chan) words ≤ length words
undeclared_chan d words broken = by (lacks d.names.boxes (slice_get words 1)) refl
  where
    by : (no_box : Bool) → lacks d.names.boxes (slice_get words 1) ≡ no_box → (if no_box then 2 else 4) ≤ length words
    by true e = let h = stands (lacks d.names.boxes) refl words 1 e in omega arith
    by false e =
        let both : (lacks d.names.boxes (slice_get words 1) || lacks d.names.boxes (slice_get words 3)) ≡ true = the_first _ (is_broken UNDECLARED (channel_rules d words) broken) in
        let h = stands (lacks d.names.boxes) refl words 3 (one_of _ _ both e) in
        omega arith

-- in a part `when` lines alone have such words
undeclared_wait : (names : NameLists) (who : ℕ) (states : List (List ℕ)) (part : PartState) (first : List ℕ) (others : List (List ℕ)) (awaited : Option WaitWord) → least_broken (when_kind_rules names who states part awaited others) ≡ Some UNDECLARED
    → target_place awaited ≤ length (first ∷ others)
undeclared_wait names who states part first others (Some waits.Is) broken =
    let h = stands (lacks states) refl others 2 (the_first _ (is_broken UNDECLARED (when_kind_rules names who states part (Some waits.Is) others) broken)) in
    omega arith
undeclared_wait names who states part first others (Some waits.Told) broken =
    let h = stands (lacks states) refl others 1 (the_first _ (is_broken UNDECLARED (when_kind_rules names who states part (Some waits.Told) others) broken)) in
    omega arith
undeclared_wait names who states part first others None broken = absurd (let is = is_broken UNDECLARED (when_kind_rules names who states part None others) broken in cc)

-- they are told by what the line waits for
undeclared_when : (names : NameLists) (block : Option BlockState) (words : List (List ℕ)) → least_broken (in_block (λ block. block_when_rules names block words) block) ≡ Some UNDECLARED
    → target_place (option_and_then waits_for (slice_get words 0)) ≤ length words
undeclared_when names None words broken = absurd (let is = is_broken UNDECLARED ((WRONG_WORD, true) ∷ []) broken in cc)
undeclared_when names (Some block) words broken = by (open_part_of block) refl words refl
  where
    by : (part : Option PartState) → open_part_of block ≡ part → (all : List (List ℕ)) → words ≡ all → target_place (option_and_then waits_for (slice_get all 0)) ≤ length all
    by None e all same = absurd (let is = is_broken UNDECLARED ((WRONG_WORD, true) ∷ []) (rw e at broken) in cc)
    by (Some part) e [] same = absurd (let is = is_broken UNDECLARED ((MISSING_WORD, true) ∷ []) (rw (same, e) at broken) in cc)
    by (Some part) e (first ∷ others) same = undeclared_wait names block.who block.states part first others (waits_for first) (rw (same, e) at broken)

-- `goal` in a part has none
none_in_goal : (names : NameLists) (block : Option BlockState) (words : List (List ℕ)) → least_broken (in_block (λ block. block_goal_rules names block words) block) ≡ Some UNDECLARED → ⊥
none_in_goal names None words broken = let is = is_broken UNDECLARED ((WRONG_WORD, true) ∷ []) broken in cc
none_in_goal names (Some block) words broken = by (open_part_of block) refl
  where
    by : (part : Option PartState) → open_part_of block ≡ part → ⊥
    by None e = let is = is_broken UNDECLARED ((WRONG_WORD, true) ∷ []) (rw e at broken) in cc
    by (Some part) e = let is = is_broken UNDECLARED (goal_rules names block.who part words) (rw e at broken) in cc

-- nor has `link`
none_in_link : (names : NameLists) (shape : List BoxShapeState) (block : Option BlockState) (words : List (List ℕ)) → least_broken (in_block (λ block. block_link_rules names shape block words) block) ≡ Some UNDECLARED → ⊥
none_in_link names shape None words broken = let is = is_broken UNDECLARED ((WRONG_WORD, true) ∷ []) broken in cc
none_in_link names shape (Some block) words broken = by (open_part_of block) refl
  where
    by : (part : Option PartState) → open_part_of block ≡ part → ⊥
    by None e = let is = is_broken UNDECLARED ((WRONG_WORD, true) ∷ []) (rw e at broken) in cc
    by (Some part) e = let is = is_broken UNDECLARED (part_link_rules names shape block.who part words) (rw e at broken) in cc

-- the box of a command stands first
undeclared_command : (d : Declared) (kind : CommandWord) (words : List (List ℕ)) → is_program_link d.section kind ≡ false → least_broken (command_line_rules d kind words) ≡ Some UNDECLARED
    → undeclared_place d (Some (keyword.Command kind)) words ≤ length words
undeclared_command d command.Set words apart broken = let h = stands (lacks d.names.boxes) refl words 0 (the_first _ (is_broken UNDECLARED (command_line_rules d command.Set words) broken)) in omega arith
undeclared_command d command.Link words apart broken = let h = stands (lacks d.names.boxes) refl words 0 (the_first _ (is_broken UNDECLARED (command_line_rules d command.Link words) broken)) in omega arith
undeclared_command d command.Hear words apart broken = let h = stands (lacks d.names.boxes) refl words 0 (the_first _ (is_broken UNDECLARED (command_line_rules d command.Hear words) broken)) in omega arith
undeclared_command d command.Talk words apart broken = let h = stands (lacks d.names.boxes) refl words 0 (the_first _ (is_broken UNDECLARED (command_line_rules d command.Talk words) broken)) in omega arith
undeclared_command d command.Settle words apart broken = absurd (let is = is_broken UNDECLARED (command_line_rules d command.Settle words) broken in cc)
undeclared_command d command.Tell words apart broken = by (lacks d.names.boxes (slice_get words 0)) refl
  where
    by : (no_box : Bool) → lacks d.names.boxes (slice_get words 0) ≡ no_box → (if no_box then 1 else 2) ≤ length words
    by true e = let h = stands (lacks d.names.boxes) refl words 0 e in omega arith
    by false e =
        let both : (lacks d.names.boxes (slice_get words 0) || lacks d.names.told (slice_get words 1)) ≡ true = the_first _ (is_broken UNDECLARED (command_line_rules d command.Tell words) broken) in
        let h = stands (lacks d.names.told) refl words 1 (one_of _ _ both e) in
        omega arith

-- the place of a word that isn't declared is one of the line
undeclared_kind : (d : Declared) (kind : Option Keyword) (words : List (List ℕ)) → least_broken (rules_by d kind words) ≡ Some UNDECLARED → undeclared_place d kind words ≤ length words
undeclared_kind d (Some keyword.Codec) words broken = absurd (let is = is_broken UNDECLARED (codec_rules d words) broken in cc)
undeclared_kind d (Some keyword.Dev) words broken = undeclared_dev d words broken
undeclared_kind d (Some keyword.Feat) words broken = absurd (let is = is_broken UNDECLARED (feature_rules d words) broken in cc)
undeclared_kind d (Some keyword.Send) words broken = by d.sends_apart broken
  where
    by : (apart : Bool) → least_broken (send_line_rules d apart words) ≡ Some UNDECLARED → undeclared_place d (Some keyword.Send) words ≤ length words
    by false broken = absurd (let is = is_broken UNDECLARED ((WRONG_WORD, true) ∷ []) broken in cc)
    by true broken = undeclared_send d words broken
undeclared_kind d (Some keyword.Chan) words broken = undeclared_chan d words broken
undeclared_kind d (Some keyword.Also) words broken = absurd (let is = is_broken UNDECLARED (also_rules d words) broken in cc)
undeclared_kind d (Some keyword.Prog) words broken = let h = stands (lacks d.names.boxes) refl words 0 (the_first _ (is_broken UNDECLARED (program_rules d words) broken)) in omega arith
undeclared_kind d (Some keyword.State) words broken = absurd (let is = is_broken UNDECLARED (state_rules d words) broken in cc)
undeclared_kind d (Some keyword.Goal) words broken = absurd (none_in_goal d.names (open_block d) words broken)
undeclared_kind d (Some keyword.When) words broken = undeclared_when d.names (open_block d) words broken
undeclared_kind d (Some keyword.Begin) words broken = absurd (let is = is_broken UNDECLARED (begin_rules d words) broken in cc)
undeclared_kind d (Some keyword.Journal) words broken = by (d.begun && has_journal d.tail) broken
  where
    by : (may : Bool) → least_broken (journal_rules may words) ≡ Some UNDECLARED → 1 ≤ length words
    by false broken = absurd (let is = is_broken UNDECLARED ((WRONG_WORD, true) ∷ []) broken in cc)
    by true broken = absurd (let is = is_broken UNDECLARED (journal_rules true words) broken in cc)
undeclared_kind d (Some keyword.Grow) words broken = by (d.begun && has_growth d.tail) broken
  where
    by : (may : Bool) → least_broken (grow_rules may (is_pending d.commands) words) ≡ Some UNDECLARED → 1 ≤ length words
    by false broken = absurd (let is = is_broken UNDECLARED ((WRONG_WORD, true) ∷ []) broken in cc)
    by true broken = absurd (let is = is_broken UNDECLARED (grow_rules true (is_pending d.commands) words) broken in cc)
undeclared_kind d (Some (keyword.Command kind)) words broken = by (is_program_link d.section kind) refl
  where
    by : (linked : Bool) → is_program_link d.section kind ≡ linked → undeclared_place d (Some (keyword.Command kind)) words ≤ length words
    by true e = absurd (none_in_link d.names (shapes d) (open_block d) words (rw e at broken))
    by false e = undeclared_command d kind words e (rw e at broken)
undeclared_kind d (Some keyword.Media) words broken = absurd (let is = is_broken UNDECLARED ((WRONG_WORD, true) ∷ []) broken in cc)
undeclared_kind d None words broken = absurd (let is = is_broken UNDECLARED ((WRONG_WORD, true) ∷ []) broken in cc)

-- ---- words that may not stand in their places

-- a name, which may come too late
wrong_name : (late : Bool) (words : List (List ℕ)) → (late || is_misspelt (slice_get words 0)) ≡ true → StandsAfter words (wrong_in_name late)
wrong_name true words is = omega arith
wrong_name false words is = let h = stands is_misspelt refl words 0 is in omega arith

-- the line of no device, where it may stand
wrong_send : (d : Declared) (apart late : Bool) (words : List (List ℕ)) → least_broken (send_line_rules d apart words) ≡ Some WRONG_WORD → is_late d section.Boxes ≡ late
    → StandsAfter words (if not apart || late then opening else detail.Word 1 why.NoDevice)
wrong_send d false late words broken e = omega arith
wrong_send d true true words broken e = omega arith
wrong_send d true false words broken e =
    let both : (is_late d section.Boxes || is_no_device d.shape (box_named d.names (slice_get words 0))) ≡ true = the_first _ (is_broken WRONG_WORD (send_rules d words) broken) in
    let h = stands (λ word. is_no_device d.shape (box_named d.names word)) refl words 0 (one_of _ _ both e) in
    omega arith

-- one of a line's words is no medium or is misspelt, or the line comes too late
wrong_slots : (words : List (List ℕ)) (from to : ℕ) (late near far : Bool) → (late || is_no spelt_medium (slice_get words 0) || (near && is_misspelt (slice_get words from)) || (far && is_misspelt (slice_get words to))) ≡ true
    → StandsAfter words (if late then opening else (if is_no spelt_medium (slice_get words 0) then detail.Word 1 why.Fixed else detail.Word (if is_misspelt (slice_get words from) then from + 1 else to + 1) why.Misspelt))
wrong_slots words from to true near far is = omega arith
wrong_slots words from to false near far is = by (is_no spelt_medium (slice_get words 0)) refl (is_misspelt (slice_get words from)) refl
  where
    by : (no_medium : Bool) → is_no spelt_medium (slice_get words 0) ≡ no_medium → (bad : Bool) → is_misspelt (slice_get words from) ≡ bad
        → StandsAfter words (if no_medium then detail.Word 1 why.Fixed else detail.Word (if bad then from + 1 else to + 1) why.Misspelt)
    by true e bad b = let h = stands (is_no spelt_medium) refl words 0 e in omega arith
    by false e true b = let h = stands is_misspelt refl words from b in omega arith
    by false e false b =
        let last : is_misspelt (slice_get words to) ≡ true = grind (arith, is, e, b) in
        let h = stands is_misspelt refl words to last in
        omega arith

-- the box or a state of a `prog` line
wrong_prog : (d : Declared) (words : List (List ℕ)) → least_broken (program_rules d words) ≡ Some WRONG_WORD → StandsAfter words (wrong_word d (Some keyword.Prog) words)
wrong_prog d words broken = by (is_late d section.Programs) (is_no_feature d.shape (box_named d.names (slice_get words 0))) refl (the_first _ (is_broken WRONG_WORD (program_rules d words) broken))
  where
    by : (late no_feature : Bool) → is_no_feature d.shape (box_named d.names (slice_get words 0)) ≡ no_feature → (late || no_feature || list_any (λ word. not (is_spelt word)) (drop 1 words)) ≡ true
        → StandsAfter words (if late then opening else (if no_feature then detail.Word 1 why.NoFeature else detail.Word (2 + first_misspelt (drop 1 words)) why.Misspelt))
    by true no_feature e is = omega arith
    by false true e is = let h = stands (λ word. is_no_feature d.shape (box_named d.names word)) refl words 0 e in omega arith
    by false false e is =
        let within : first_misspelt (drop 1 words) < length (drop 1 words) = first_stands (λ word. not (is_spelt word)) (drop 1 words) is in
        let left = length-drop 1 words in
        omega arith

-- the state of a `state` line
wrong_state : (d : Declared) (words : List (List ℕ)) → least_broken (state_rules d words) ≡ Some WRONG_WORD → StandsAfter words (wrong_word d (Some keyword.State) words)
wrong_state d words broken = by (open_block d) refl (the_first _ (is_broken WRONG_WORD (state_rules d words) broken))
  where
    by : (block : Option BlockState) → open_block d ≡ block → (is_late d section.Programs || is_not_next block (slice_get words 0)) ≡ true → StandsAfter words (if is_none block then opening else detail.Word 1 why.NotNext)
    by None e is = omega arith
    by (Some block) e is = let h = stands (is_not_next (Some block)) refl words 0 (one_of _ _ is (timely d.section d.blocks block e)) in omega arith

-- the goal of a `goal` line
wrong_goal : (names : NameLists) (block : Option BlockState) (words : List (List ℕ)) → least_broken (in_block (λ block. block_goal_rules names block words) block) ≡ Some WRONG_WORD
    → StandsAfter words (if is_none (option_and_then open_part_of block) then opening else detail.Word 2 why.Fixed)
wrong_goal names None words broken = omega arith
wrong_goal names (Some block) words broken = by (open_part_of block) refl
  where
    by : (part : Option PartState) → open_part_of block ≡ part → StandsAfter words (if is_none part then opening else detail.Word 2 why.Fixed)
    by None e = omega arith
    by (Some part) e = let h = stands (is_no spelt_goal) refl words 1 (the_first _ (is_broken WRONG_WORD (goal_rules names block.who part words) (rw e at broken))) in omega arith

-- a word of a `when` line, by what it waits for
wrong_wait : (names : NameLists) (who : ℕ) (states : List (List ℕ)) (part : PartState) (first : List ℕ) (others : List (List ℕ)) (awaited : Option WaitWord) → least_broken (when_kind_rules names who states part awaited others) ≡ Some WRONG_WORD
    → StandsAfter (first ∷ others) (wrong_in_wait awaited)
wrong_wait names who states part first others (Some waits.Is) broken =
    let h = stands (is_no spelt_state) refl others 1 (the_first _ (is_broken WRONG_WORD (when_kind_rules names who states part (Some waits.Is) others) broken)) in
    omega arith
wrong_wait names who states part first others (Some waits.Told) broken =
    let h = stands is_misspelt refl others 0 (the_first _ (is_broken WRONG_WORD (when_kind_rules names who states part (Some waits.Told) others) broken)) in
    omega arith
wrong_wait names who states part first others None broken = omega arith

-- and in a part that may be open
wrong_when : (names : NameLists) (block : Option BlockState) (words : List (List ℕ)) → least_broken (in_block (λ block. block_when_rules names block words) block) ≡ Some WRONG_WORD
    → StandsAfter words (if is_none (option_and_then open_part_of block) then opening else wrong_in_wait (option_and_then waits_for (slice_get words 0)))
wrong_when names None words broken = omega arith
wrong_when names (Some block) words broken = by (open_part_of block) refl words refl
  where
    by : (part : Option PartState) → open_part_of block ≡ part → (all : List (List ℕ)) → words ≡ all → StandsAfter all (if is_none part then opening else wrong_in_wait (option_and_then waits_for (slice_get all 0)))
    by None e all same = omega arith
    by (Some part) e [] same = absurd (let is = is_broken WRONG_WORD ((MISSING_WORD, true) ∷ []) (rw (same, e) at broken) in cc)
    by (Some part) e (first ∷ others) same = wrong_wait names block.who block.states part first others (waits_for first) (rw (same, e) at broken)

-- the device or the switch of a `hear` or `talk` line
wrong_media : (d : Declared) (words : List (List ℕ)) → (is_no_device d.shape (box_named d.names (slice_get words 0)) || is_no spelt_switch (slice_get words 2)) ≡ true
    → StandsAfter words (if is_no_device d.shape (box_named d.names (slice_get words 0)) then detail.Word 1 why.NoDevice else detail.Word 3 why.Fixed)
wrong_media d words is = by (is_no_device d.shape (box_named d.names (slice_get words 0))) refl
  where
    by : (no_device : Bool) → is_no_device d.shape (box_named d.names (slice_get words 0)) ≡ no_device → StandsAfter words (if no_device then detail.Word 1 why.NoDevice else detail.Word 3 why.Fixed)
    by true e = let h = stands (λ word. is_no_device d.shape (box_named d.names word)) refl words 0 e in omega arith
    by false e = let h = stands (is_no spelt_switch) refl words 2 (one_of _ _ is e) in omega arith

-- a word of a command
wrong_command : (d : Declared) (kind : CommandWord) (words : List (List ℕ)) → is_program_link d.section kind ≡ false → least_broken (command_line_rules d kind words) ≡ Some WRONG_WORD
    → StandsAfter words (wrong_word d (Some (keyword.Command kind)) words)
wrong_command d command.Set words apart broken = let h = stands (is_no spelt_goal) refl words 2 (the_first _ (is_broken WRONG_WORD (command_line_rules d command.Set words) broken)) in omega arith
wrong_command d command.Link words apart broken =
    let h = stands (λ word. is_no_feature d.shape (box_named d.names word)) refl words 0 (the_first _ (is_broken WRONG_WORD (command_line_rules d command.Link words) broken)) in
    rw apart (omega arith)
wrong_command d command.Hear words apart broken = wrong_media d words (the_first _ (is_broken WRONG_WORD (command_line_rules d command.Hear words) broken))
wrong_command d command.Talk words apart broken = wrong_media d words (the_first _ (is_broken WRONG_WORD (command_line_rules d command.Talk words) broken))
wrong_command d command.Tell words apart broken = let h = stands (λ word. has_no_program d.shape (box_named d.names word)) refl words 0 (the_first _ (is_broken WRONG_WORD (command_line_rules d command.Tell words) broken)) in omega arith
wrong_command d command.Settle words apart broken = omega arith

-- where `link` is a part's line, no line may begin with it
wrong_link : (d : Declared) (kind : CommandWord) (words : List (List ℕ)) → is_program_link d.section kind ≡ true → StandsAfter words (wrong_word d (Some (keyword.Command kind)) words)
wrong_link d command.Link words linked = rw linked (omega arith)
wrong_link d command.Set words linked = absurd (let apart = not_link d.section command.Set refl in cc)
wrong_link d command.Hear words linked = absurd (let apart = not_link d.section command.Hear refl in cc)
wrong_link d command.Talk words linked = absurd (let apart = not_link d.section command.Talk refl in cc)
wrong_link d command.Tell words linked = absurd (let apart = not_link d.section command.Tell refl in cc)
wrong_link d command.Settle words linked = omega arith

-- the word that may not stand in its place is one of the line
wrong_kind : (d : Declared) (kind : Option Keyword) (words : List (List ℕ)) → least_broken (rules_by d kind words) ≡ Some WRONG_WORD → StandsAfter words (wrong_word d kind words)
wrong_kind d (Some keyword.Codec) words broken = wrong_name (is_late d section.Codecs) words (the_first _ (is_broken WRONG_WORD (codec_rules d words) broken))
wrong_kind d (Some keyword.Dev) words broken = wrong_name (is_late d section.Boxes) words (the_first _ (is_broken WRONG_WORD (device_rules d words) broken))
wrong_kind d (Some keyword.Feat) words broken = wrong_name (is_late d section.Boxes) words (the_first _ (is_broken WRONG_WORD (feature_rules d words) broken))
wrong_kind d (Some keyword.Send) words broken = wrong_send d d.sends_apart (is_late d section.Boxes) words broken refl
wrong_kind d (Some keyword.Chan) words broken =
    wrong_slots words 2 4 (is_late d section.Channels) (is_some (box_named d.names (slice_get words 1))) (is_some (box_named d.names (slice_get words 3))) (the_first _ (is_broken WRONG_WORD (channel_rules d words) broken))
wrong_kind d (Some keyword.Also) words broken =
    wrong_slots words 1 2 (is_late d section.Channels || length d.channels == 0) true true (the_first _ (is_broken WRONG_WORD (also_rules d words) broken))
wrong_kind d (Some keyword.Prog) words broken = wrong_prog d words broken
wrong_kind d (Some keyword.State) words broken = wrong_state d words broken
wrong_kind d (Some keyword.Goal) words broken = wrong_goal d.names (open_block d) words broken
wrong_kind d (Some keyword.When) words broken = wrong_when d.names (open_block d) words broken
wrong_kind d (Some (keyword.Command kind)) words broken = by (is_program_link d.section kind) refl
  where
    by : (linked : Bool) → is_program_link d.section kind ≡ linked → StandsAfter words (wrong_word d (Some (keyword.Command kind)) words)
    by true e = wrong_link d kind words e
    by false e = wrong_command d kind words e (rw e at broken)
wrong_kind d other words broken = omega arith

-- ---- slots that a box hasn't

-- a word that names no slot stands there
no_slot_there : (names : NameLists) (who : Option ℕ) (words : List (List ℕ)) (i : ℕ) → lacks_slot names who (slice_get words i) ≡ true → i < length words
no_slot_there names None words i is = absurd cc
no_slot_there names (Some who) words i is = stands (lacks (slot_names names who)) refl words i is

-- the slot of a `goal` line
slot_of_goal : (names : NameLists) (block : Option BlockState) (words : List (List ℕ)) → least_broken (in_block (λ block. block_goal_rules names block words) block) ≡ Some NO_SUCH_SLOT → 1 ≤ length words
slot_of_goal names None words broken = absurd (let is = is_broken NO_SUCH_SLOT ((WRONG_WORD, true) ∷ []) broken in cc)
slot_of_goal names (Some block) words broken = by (open_part_of block) refl
  where
    by : (part : Option PartState) → open_part_of block ≡ part → 1 ≤ length words
    by None e = absurd (let is = is_broken NO_SUCH_SLOT ((WRONG_WORD, true) ∷ []) (rw e at broken) in cc)
    by (Some part) e = let h = stands (lacks (slot_names names block.who)) refl words 0 (the_first _ (is_broken NO_SUCH_SLOT (goal_rules names block.who part words) (rw e at broken))) in omega arith

-- the slot of a `when is` line
slot_of_wait : (names : NameLists) (who : ℕ) (states : List (List ℕ)) (part : PartState) (first : List ℕ) (others : List (List ℕ)) (awaited : Option WaitWord) → least_broken (when_kind_rules names who states part awaited others) ≡ Some NO_SUCH_SLOT
    → 2 ≤ length (first ∷ others)
slot_of_wait names who states part first others (Some waits.Is) broken =
    let h = stands (lacks (slot_names names who)) refl others 0 (the_first _ (is_broken NO_SUCH_SLOT (when_kind_rules names who states part (Some waits.Is) others) broken)) in
    omega arith
slot_of_wait names who states part first others (Some waits.Told) broken = absurd (let is = is_broken NO_SUCH_SLOT (when_kind_rules names who states part (Some waits.Told) others) broken in cc)
slot_of_wait names who states part first others None broken = absurd (let is = is_broken NO_SUCH_SLOT (when_kind_rules names who states part None others) broken in cc)

-- and in a part that may be open
slot_of_when : (names : NameLists) (block : Option BlockState) (words : List (List ℕ)) → least_broken (in_block (λ block. block_when_rules names block words) block) ≡ Some NO_SUCH_SLOT → 2 ≤ length words
slot_of_when names None words broken = absurd (let is = is_broken NO_SUCH_SLOT ((WRONG_WORD, true) ∷ []) broken in cc)
slot_of_when names (Some block) words broken = by (open_part_of block) refl words refl
  where
    by : (part : Option PartState) → open_part_of block ≡ part → (all : List (List ℕ)) → words ≡ all → 2 ≤ length all
    by None e all same = absurd (let is = is_broken NO_SUCH_SLOT ((WRONG_WORD, true) ∷ []) (rw e at broken) in cc)
    by (Some part) e [] same = absurd (let is = is_broken NO_SUCH_SLOT ((MISSING_WORD, true) ∷ []) (rw (same, e) at broken) in cc)
    by (Some part) e (first ∷ others) same = slot_of_wait names block.who block.states part first others (waits_for first) (rw (same, e) at broken)

-- of two words that may name no slot of a box, the first that names none stands there
one_of_slots : (names : NameLists) (who : Option ℕ) (words : List (List ℕ)) (i j : ℕ) → (lacks_slot names who (slice_get words i) || lacks_slot names who (slice_get words j)) ≡ true
    → (if lacks_slot names who (slice_get words i) then i + 1 else j + 1) ≤ length words
one_of_slots names who words i j is = by (lacks_slot names who (slice_get words i)) refl
  where
    by : (lacking : Bool) → lacks_slot names who (slice_get words i) ≡ lacking → (if lacking then i + 1 else j + 1) ≤ length words
    by true e = let h = no_slot_there names who words i e in omega arith
    by false e = let h = no_slot_there names who words j (one_of _ _ is e) in omega arith

-- a slot of a part's `link` line
slot_of_part_link : (names : NameLists) (shape : List BoxShapeState) (block : Option BlockState) (words : List (List ℕ)) → least_broken (in_block (λ block. block_link_rules names shape block words) block) ≡ Some NO_SUCH_SLOT
    → (if lacks_slot names (option_map (λ block. block.who) block) (slice_get words 0) then 1 else 2) ≤ length words
slot_of_part_link names shape None words broken = absurd (let is = is_broken NO_SUCH_SLOT ((WRONG_WORD, true) ∷ []) broken in cc)
slot_of_part_link names shape (Some block) words broken = by (open_part_of block) refl
  where
    by : (part : Option PartState) → open_part_of block ≡ part → (if lacks_slot names (Some block.who) (slice_get words 0) then 1 else 2) ≤ length words
    by None e = absurd (let is = is_broken NO_SUCH_SLOT ((WRONG_WORD, true) ∷ []) (rw e at broken) in cc)
    by (Some part) e = one_of_slots names (Some block.who) words 0 1 (the_first _ (is_broken NO_SUCH_SLOT (part_link_rules names shape block.who part words) (rw e at broken)))

-- a slot of a command
slot_of_command : (d : Declared) (kind : CommandWord) (words : List (List ℕ)) → is_program_link d.section kind ≡ false → least_broken (command_line_rules d kind words) ≡ Some NO_SUCH_SLOT
    → no_slot_place d (Some (keyword.Command kind)) words ≤ length words
slot_of_command d command.Set words apart broken =
    let h = no_slot_there d.names (box_named d.names (slice_get words 0)) words 1 (the_first _ (is_broken NO_SUCH_SLOT (command_line_rules d command.Set words) broken)) in omega arith
slot_of_command d command.Link words apart broken = rw apart (one_of_slots d.names (box_named d.names (slice_get words 0)) words 1 2 (the_first _ (is_broken NO_SUCH_SLOT (command_line_rules d command.Link words) broken)))
slot_of_command d command.Hear words apart broken =
    let h = no_slot_there d.names (box_named d.names (slice_get words 0)) words 1 (the_first _ (is_broken NO_SUCH_SLOT (command_line_rules d command.Hear words) broken)) in omega arith
slot_of_command d command.Talk words apart broken =
    let h = no_slot_there d.names (box_named d.names (slice_get words 0)) words 1 (the_first _ (is_broken NO_SUCH_SLOT (command_line_rules d command.Talk words) broken)) in omega arith
slot_of_command d command.Tell words apart broken = absurd (let is = is_broken NO_SUCH_SLOT (command_line_rules d command.Tell words) broken in cc)
slot_of_command d command.Settle words apart broken = absurd (let is = is_broken NO_SUCH_SLOT (command_line_rules d command.Settle words) broken in cc)

-- a slot of a `link` line in the programs
slot_of_link : (d : Declared) (kind : CommandWord) (words : List (List ℕ)) → is_program_link d.section kind ≡ true → least_broken (program_link_rules d words) ≡ Some NO_SUCH_SLOT
    → no_slot_place d (Some (keyword.Command kind)) words ≤ length words
slot_of_link d command.Link words linked broken = rw linked (slot_of_part_link d.names (shapes d) (open_block d) words broken)
slot_of_link d command.Set words linked broken = absurd (let apart = not_link d.section command.Set refl in cc)
slot_of_link d command.Hear words linked broken = absurd (let apart = not_link d.section command.Hear refl in cc)
slot_of_link d command.Talk words linked broken = absurd (let apart = not_link d.section command.Talk refl in cc)
slot_of_link d command.Tell words linked broken = absurd (let apart = not_link d.section command.Tell refl in cc)
slot_of_link d command.Settle words linked broken = absurd (let apart = not_link d.section command.Settle refl in cc)

-- the place of a slot that isn't there is one of the line
slot_kind : (d : Declared) (kind : Option Keyword) (words : List (List ℕ)) → least_broken (rules_by d kind words) ≡ Some NO_SUCH_SLOT → no_slot_place d kind words ≤ length words
slot_kind d (Some keyword.Codec) words broken = absurd (let is = is_broken NO_SUCH_SLOT (codec_rules d words) broken in cc)
slot_kind d (Some keyword.Dev) words broken = absurd (let is = is_broken NO_SUCH_SLOT (device_rules d words) broken in cc)
slot_kind d (Some keyword.Feat) words broken = absurd (let is = is_broken NO_SUCH_SLOT (feature_rules d words) broken in cc)
slot_kind d (Some keyword.Send) words broken = by d.sends_apart broken
  where
    by : (apart : Bool) → least_broken (send_line_rules d apart words) ≡ Some NO_SUCH_SLOT → 2 ≤ length words
    by false broken = absurd (let is = is_broken NO_SUCH_SLOT ((WRONG_WORD, true) ∷ []) broken in cc)
    by true broken = absurd (let is = is_broken NO_SUCH_SLOT (send_rules d words) broken in cc)
slot_kind d (Some keyword.Chan) words broken = absurd (let is = is_broken NO_SUCH_SLOT (channel_rules d words) broken in cc)
slot_kind d (Some keyword.Also) words broken = absurd (let is = is_broken NO_SUCH_SLOT (also_rules d words) broken in cc)
slot_kind d (Some keyword.Prog) words broken = absurd (let is = is_broken NO_SUCH_SLOT (program_rules d words) broken in cc)
slot_kind d (Some keyword.State) words broken = absurd (let is = is_broken NO_SUCH_SLOT (state_rules d words) broken in cc)
slot_kind d (Some keyword.Goal) words broken = slot_of_goal d.names (open_block d) words broken
slot_kind d (Some keyword.When) words broken = slot_of_when d.names (open_block d) words broken
slot_kind d (Some keyword.Begin) words broken = absurd (let is = is_broken NO_SUCH_SLOT (begin_rules d words) broken in cc)
slot_kind d (Some keyword.Journal) words broken = by (d.begun && has_journal d.tail) broken
  where
    by : (may : Bool) → least_broken (journal_rules may words) ≡ Some NO_SUCH_SLOT → 2 ≤ length words
    by false broken = absurd (let is = is_broken NO_SUCH_SLOT ((WRONG_WORD, true) ∷ []) broken in cc)
    by true broken = absurd (let is = is_broken NO_SUCH_SLOT (journal_rules true words) broken in cc)
slot_kind d (Some keyword.Grow) words broken = by (d.begun && has_growth d.tail) broken
  where
    by : (may : Bool) → least_broken (grow_rules may (is_pending d.commands) words) ≡ Some NO_SUCH_SLOT → 2 ≤ length words
    by false broken = absurd (let is = is_broken NO_SUCH_SLOT ((WRONG_WORD, true) ∷ []) broken in cc)
    by true broken = absurd (let is = is_broken NO_SUCH_SLOT (grow_rules true (is_pending d.commands) words) broken in cc)
slot_kind d (Some (keyword.Command kind)) words broken = by (is_program_link d.section kind) refl
  where
    by : (linked : Bool) → is_program_link d.section kind ≡ linked → no_slot_place d (Some (keyword.Command kind)) words ≤ length words
    by true e = slot_of_link d kind words e (rw e at broken)
    by false e = slot_of_command d kind words e (rw e at broken)
slot_kind d (Some keyword.Media) words broken = absurd (let is = is_broken NO_SUCH_SLOT ((WRONG_WORD, true) ∷ []) broken in cc)
slot_kind d None words broken = absurd (let is = is_broken NO_SUCH_SLOT ((WRONG_WORD, true) ∷ []) broken in cc)

-- ---- limits

-- a limit is told
abbrev IsLimit : Detail → Type 0
IsLimit (detail.Limit limit) = Unit {0}
IsLimit other = ⊥

-- a `goal` line passes no limit
no_limit_in_goal : (names : NameLists) (block : Option BlockState) (words : List (List ℕ)) → least_broken (in_block (λ block. block_goal_rules names block words) block) ≡ Some LIMIT_PASSED → ⊥
no_limit_in_goal names None words broken = let is = is_broken LIMIT_PASSED ((WRONG_WORD, true) ∷ []) broken in cc
no_limit_in_goal names (Some block) words broken = by (open_part_of block) refl
  where
    by : (part : Option PartState) → open_part_of block ≡ part → ⊥
    by None e = let is = is_broken LIMIT_PASSED ((WRONG_WORD, true) ∷ []) (rw e at broken) in cc
    by (Some part) e = let is = is_broken LIMIT_PASSED (goal_rules names block.who part words) (rw e at broken) in cc

-- the line passes one that is told
limit_kind : (d : Declared) (kind : Option Keyword) (words : List (List ℕ)) → least_broken (rules_by d kind words) ≡ Some LIMIT_PASSED → IsLimit (passed_limit d kind words)
limit_kind d (Some keyword.Codec) words broken = tt
limit_kind d (Some keyword.Dev) words broken = tt
limit_kind d (Some keyword.Feat) words broken = tt
limit_kind d (Some keyword.Send) words broken = tt
limit_kind d (Some keyword.Chan) words broken = tt
limit_kind d (Some keyword.Also) words broken = tt
limit_kind d (Some keyword.Prog) words broken = tt
limit_kind d (Some keyword.State) words broken = let is = is_broken LIMIT_PASSED (state_rules d words) broken in cc
limit_kind d (Some keyword.Goal) words broken = no_limit_in_goal d.names (open_block d) words broken
limit_kind d (Some keyword.When) words broken = tt
limit_kind d (Some keyword.Begin) words broken = let is = is_broken LIMIT_PASSED (begin_rules d words) broken in cc
limit_kind d (Some keyword.Journal) words broken = by (d.begun && has_journal d.tail) broken
  where
    by : (may : Bool) → least_broken (journal_rules may words) ≡ Some LIMIT_PASSED → ⊥
    by false broken = let is = is_broken LIMIT_PASSED ((WRONG_WORD, true) ∷ []) broken in cc
    by true broken = let is = is_broken LIMIT_PASSED (journal_rules true words) broken in cc
limit_kind d (Some keyword.Grow) words broken = by (d.begun && has_growth d.tail) broken
  where
    by : (may : Bool) → least_broken (grow_rules may (is_pending d.commands) words) ≡ Some LIMIT_PASSED → ⊥
    by false broken = let is = is_broken LIMIT_PASSED ((WRONG_WORD, true) ∷ []) broken in cc
    by true broken = let is = is_broken LIMIT_PASSED (grow_rules true (is_pending d.commands) words) broken in cc
limit_kind d (Some (keyword.Command kind)) words broken = tt
limit_kind d (Some keyword.Media) words broken = let is = is_broken LIMIT_PASSED ((WRONG_WORD, true) ∷ []) broken in cc
limit_kind d None words broken = let is = is_broken LIMIT_PASSED ((WRONG_WORD, true) ∷ []) broken in cc

-- ---- any line

-- what is told, in which the words after the first are counted with it
word_told : (limit : Bool) (first : List ℕ) (others : List (List ℕ)) (told : Detail) → StandsAfter others told → Tells true limit (first ∷ others) told
word_told limit first others (detail.Word place why) there = (refl, omega arith)
word_told limit first others (detail.Limit passed) there = absurd there
word_told limit first others detail.Nothing there = absurd there

-- a limit is told where one is to be
limit_told : (words : List (List ℕ)) (told : Detail) → IsLimit told → Tells false true words told
limit_told words (detail.Word place why) is = absurd is
limit_told words (detail.Limit passed) is = refl
limit_told words detail.Nothing is = absurd is

-- the tests of `detail_by`, one after the other
by_number : (d : Declared) (kind : Option Keyword) (first : List ℕ) (others : List (List ℕ)) (number : ℕ) (undeclared wrong no_slot limit : Bool)
    → (undeclared ≡ true → number ≡ UNDECLARED) → (wrong ≡ true → number ≡ WRONG_WORD) → (no_slot ≡ true → number ≡ NO_SUCH_SLOT) → (limit ≡ true → number ≡ LIMIT_PASSED)
    → least_broken (rules_by d kind others) ≡ Some number
    → Tells (undeclared || wrong || no_slot) limit (first ∷ others) (if undeclared then detail.Word (undeclared_place d kind others) why.Undeclared
    else (if wrong then wrong_word d kind others
    else (if no_slot then detail.Word (no_slot_place d kind others) why.NoSlot
    else (if limit then passed_limit d kind others
    else detail.Nothing))))
by_number d kind first others number true wrong no_slot limit a b c e broken = word_told limit first others (detail.Word (undeclared_place d kind others) why.Undeclared) (undeclared_kind d kind others (rw (← a refl) broken))
by_number d kind first others number false true no_slot limit a b c e broken = word_told limit first others (wrong_word d kind others) (wrong_kind d kind others (rw (← b refl) broken))
by_number d kind first others number false false true limit a b c e broken = word_told limit first others (detail.Word (no_slot_place d kind others) why.NoSlot) (slot_kind d kind others (rw (← c refl) broken))
by_number d kind first others number false false false true a b c e broken = limit_told (first ∷ others) (passed_limit d kind others) (limit_kind d kind others (rw (← e refl) broken))
by_number d kind first others number false false false false a b c e broken = refl

pub tells_by_rule : TellsByRule
tells_by_rule d [] number broken = absurd cc
tells_by_rule d (first ∷ others) number broken = by (is_skipped (first ∷ others)) broken
  where
    no_version : (wrong : Bool) → least_broken ((NO_VERSION_LINE, wrong) ∷ []) ≡ Some number → Tells (is_of_a_word number) (number == LIMIT_PASSED) (first ∷ others) (detail_of d (first ∷ others) number)
    no_version true broken = let is : NO_VERSION_LINE ≡ number = cc in rw (← is) refl
    no_version false broken = absurd cc

    by_version : (versioned : Bool) → least_broken (words_rules versioned d (first ∷ others)) ≡ Some number → Tells (is_of_a_word number) (number == LIMIT_PASSED) (first ∷ others) (detail_of d (first ∷ others) number)
    by_version false broken = no_version (not (is_version (first ∷ others))) broken
    by_version true broken =
        by_number d (kind_of (first ∷ others)) first others number (number == UNDECLARED) (number == WRONG_WORD) (number == NO_SUCH_SLOT) (number == LIMIT_PASSED)
        (eqb-true number UNDECLARED) (eqb-true number WRONG_WORD) (eqb-true number NO_SUCH_SLOT) (eqb-true number LIMIT_PASSED) broken

    by : (skipped : Bool) → least_broken (line_words_rules skipped d (first ∷ others)) ≡ Some number → Tells (is_of_a_word number) (number == LIMIT_PASSED) (first ∷ others) (detail_of d (first ∷ others) number)
    by true broken = absurd cc
    by false broken = by_version d.versioned broken
