-- A line that breaks no rule means something.
use Rattle.std.proofs.Common.{◌≡◌, ℕ, zero, suc, ◌≤◌, ◌||◌, Bool, true, false, if◌then◌else◌, List, [], ◌∷◌, ◌++◌, drop, slice_index_or, Option, Some, None, IsSome, is_none, refl, arith}
use Rattle.std.specs.List.{slice_get}
use Rattle.std.specs.Option.{option_and_then, option_map, unwrap_or}
use Rattle.mc_box.specs.BoxShapes.{BoxShapeState}
use Rattle.mc_box.specs.declared.event.Change.TheVariants.{End as NewEnd, Link as NewLink}
use Rattle.mc_box.specs.declared.event.Event.{Event}
use Rattle.mc_box.specs.declared.event.Event.TheVariants.{Set, Media, Tell}
use Rattle.mc_box.specs.declared.event.MediaChange.{MediaChange}
use Rattle.mc_box.specs.declared.event.MediaChange.TheVariants.{Hear, Talk}
use Rattle.mc_lines.proofs.FirstBroken.{all_before, all_behind}
use Rattle.mc_lines.specs.Meaning.{after_by, also_after, channel_after, command_after, device_in, line_after, program_after, program_link_after, send_after, state_after, unless_skipped, when_after, with_block, with_joined, with_new_box, with_new_codec, with_new_feature, with_widened, words_after}
use Rattle.mc_lines.specs.Rules.{also_rules, channel_rules, codec_rules, command_line_rules, device_rules, feature_rules, is_late, is_program_link, is_skipped, kind_of, line_words_rules, lists_undeclared, open_block, passes_limit, program_link_rules, program_rules, rules_by, send_line_rules, send_rules, spelt_medium, state_rules, text_limit, words_rules}
use Rattle.mc_lines.specs.SoFar.{Declared}
use Rattle.mc_lines.specs.declared.section.Keyword.{Keyword}
use Rattle.mc_lines.specs.declared.section.Keyword.TheVariants as keyword
use Rattle.mc_lines.specs.declared.section.Section.TheVariants as section
use Rattle.mc_net.specs.TextLaws.{EachLineDeclares, SoundLinesMean}
use Rattle.mc_net.specs.Texts.{bytes_before, declared_by}
use Rattle.mc_plan.specs.Plans.{last_channel}
use Rattle.mc_program_lines.proofs.KeptRules.{kept_at, others_kept}
use Rattle.mc_program_lines.specs.Programs.{◌>>=◌, BlockState, PartState, block_goal_after, block_goal_rules, block_link_after, block_link_rules, block_when_after, block_when_rules, goal_rules, in_block, in_part, is_not_next, is_transition, open_part_of, part_goal_after, part_link_after, part_link_rules, part_when_after, part_with_goal, spelt_state, told_after, told_place, waits_for, when_is_rules, when_kind_after, when_kind_rules, when_rules, when_told_rules, with_part, with_transition}
use Rattle.mc_program_lines.specs.declared.part.WaitWord.{WaitWord}
use Rattle.mc_program_lines.specs.declared.part.WaitWord.TheVariants as waits
use Rattle.mc_rule.specs.declared.Guard.TheVariants.{SlotIs, Told}
use Rattle.mc_rule.specs.declared.Rule.{Rule}
use Rattle.mc_script.specs.Meaning.{at_slot, command_by}
use Rattle.mc_script.specs.Places.{box_named, is_no, lacks, lacks_slot, slot_named, spelt_value}
use Rattle.mc_script.specs.Rules.{byte_rules, is_no_device, kind_rules, least_broken, link_rules, media_rules, set_rules, spelt_goal, spelt_switch, tell_rules}
use Rattle.mc_script.specs.declared.command.Command.TheVariants.{Stimulus}
use Rattle.mc_script.specs.declared.keyword.CommandWord.{CommandWord}
use Rattle.mc_script.specs.declared.keyword.CommandWord.TheVariants as command
use Rattle.mc_script.specs.declared.rule.TheConstants.{MISSING_WORD, NO_SUCH_SLOT, UNDECLARED, WRONG_WORD}
use Rattle.mc_slot.specs.declared.SlotGoal.TheVariants.{End, Link}
use Rattle.mc_text.specs.Lines.{words}
use Rattle.mc_text.specs.NameLists.{NameLists, place_of, slot_names, with_told_word}

-- ---- values that are there

-- what isn't missing is there
not_none : {A : Type 0} (o : Option A) → is_none o ≡ false → IsSome o
not_none None none = absurd cc
not_none (Some x) none = refl

-- what comes of a value that is there
some_mapped : {A B : Type 0} (f : A → B) (o : Option A) → IsSome o → IsSome (option_map f o)
some_mapped f None some = absurd cc
some_mapped f (Some x) some = refl

some_chained : {A B : Type 0} (f : A → Option B) (o : Option A) → IsSome o → ((x : A) → o ≡ Some x → IsSome (f x)) → IsSome (option_and_then f o)
some_chained f None some next = absurd cc
some_chained f (Some x) some next = next x refl

some_then : {A B : Type 0} (o : Option A) (f : A → Option B) → IsSome o → ((x : A) → IsSome (f x)) → IsSome (o >>= f)
some_then None f some next = absurd cc
some_then (Some x) f some next = next x

-- neither of two holds
or_parts : (a b : Bool) → (a || b) ≡ false → (a ≡ false) × (b ≡ false)
or_parts true b none = absurd cc
or_parts false b none = (refl, none)

-- ---- words

-- the rule on a missing word is kept
word_there : (rules : List (ℕ × Bool)) (k : ℕ) (word : Option (List ℕ)) → least_broken rules ≡ None → slice_get rules k ≡ Some (MISSING_WORD, is_none word) → IsSome word
word_there rules k word kept at = not_none word (kept_at rules k (MISSING_WORD, is_none word) kept at)

-- before a word stand others
earlier : (words : List (List ℕ)) (k j : ℕ) → j ≤ k → IsSome (slice_get words k) → IsSome (slice_get words j)
earlier [] k j within some = absurd cc
earlier (word ∷ words) k zero within some = refl
earlier (word ∷ words) zero (suc j) within some = absurd (omega arith)
earlier (word ∷ words) (suc k) (suc j) within some = earlier words k j (omega arith) some

-- a word that stands there and isn't lacking is a name
found_name : (names : List (List ℕ)) (word : Option (List ℕ)) → lacks names word ≡ false → IsSome word → IsSome (option_and_then (place_of names) word)
found_name names None known some = absurd cc
found_name names (Some word) known some = not_none (place_of names word) known

-- and one that isn't misspelt spells a value
spelt_there : {X : Type 0} (meaning : List ℕ → Option X) (word : Option (List ℕ)) → is_no meaning word ≡ false → IsSome word → IsSome (spelt_value meaning word)
spelt_there meaning None known some = absurd cc
spelt_there meaning (Some word) known some = not_none (meaning word) known

-- and so a slot of a box that is known
slot_there : (names : NameLists) (who : Option ℕ) (word : Option (List ℕ)) → IsSome who → lacks_slot names who word ≡ false → IsSome word → IsSome (slot_named names who word)
slot_there names None word box known some = absurd cc
slot_there names (Some who) word box known some = found_name (slot_names names who) word known some

-- ---- commands

-- `BOX SLOT`, and an event of it
at_slot_there : (names : NameLists) (words : List (List ℕ)) (event : ℕ → Option Event) → IsSome (box_named names (slice_get words 0)) → IsSome (slot_named names (box_named names (slice_get words 0)) (slice_get words 1))
    → ((local : ℕ) → IsSome (event local)) → IsSome (at_slot names words event)
at_slot_there names words event box slot events = by (box_named names (slice_get words 0)) box slot
  where
    by : (who : Option ℕ) → IsSome who → IsSome (slot_named names who (slice_get words 1))
        → IsSome (option_and_then (λ who. option_and_then (λ local. option_map (λ it. Stimulus (record { who = who; event = it })) (event local)) (slot_named names (Some who) (slice_get words 1))) who)
    by None box slot = absurd cc
    by (Some who) box slot =
        some_chained (λ local. option_map (λ it. Stimulus (record { who = who; event = it })) (event local)) (slot_named names (Some who) (slice_get words 1)) slot
        (λ local is. some_mapped (λ it. Stimulus (record { who = who; event = it })) (event local) (events local))

module _ (names : NameLists) (shape : List BoxShapeState) (words : List (List ℕ)) where
  set_there : least_broken (set_rules names words) ≡ None → IsSome (command_by names (Some command.Set) words)
  set_there kept =
      let rules = set_rules names words in
      let last : IsSome (slice_get words 2) = word_there rules 2 (slice_get words 2) kept refl in
      let box : IsSome (box_named names (slice_get words 0)) =
      found_name names.boxes (slice_get words 0) (kept_at rules 0 (UNDECLARED, lacks names.boxes (slice_get words 0)) kept refl) (earlier words 2 0 (omega arith) last) in
      let slot : IsSome (slot_named names (box_named names (slice_get words 0)) (slice_get words 1)) =
      slot_there names (box_named names (slice_get words 0)) (slice_get words 1) box
      (kept_at rules 4 (NO_SUCH_SLOT, lacks_slot names (box_named names (slice_get words 0)) (slice_get words 1)) kept refl) (earlier words 2 1 (omega arith) last) in
      let goal : IsSome (spelt_value spelt_goal (slice_get words 2)) = spelt_there spelt_goal (slice_get words 2) (kept_at rules 1 (WRONG_WORD, is_no spelt_goal (slice_get words 2)) kept refl) last in
      at_slot_there names words (λ local. option_map (λ goal. Set (NewEnd local goal)) (spelt_value spelt_goal (slice_get words 2))) box slot
      (λ local. some_mapped (λ goal. Set (NewEnd local goal)) (spelt_value spelt_goal (slice_get words 2)) goal)

  link_there : least_broken (link_rules names shape words) ≡ None → IsSome (command_by names (Some command.Link) words)
  link_there kept =
      let rules = link_rules names shape words in
      let who = box_named names (slice_get words 0) in
      let last : IsSome (slice_get words 2) = word_there rules 2 (slice_get words 2) kept refl in
      let box : IsSome who = found_name names.boxes (slice_get words 0) (kept_at rules 0 (UNDECLARED, lacks names.boxes (slice_get words 0)) kept refl) (earlier words 2 0 (omega arith) last) in
      let slots = or_parts (lacks_slot names who (slice_get words 1)) (lacks_slot names who (slice_get words 2))
      (kept_at rules 4 (NO_SUCH_SLOT, lacks_slot names who (slice_get words 1) || lacks_slot names who (slice_get words 2)) kept refl) in
      let near : IsSome (slot_named names who (slice_get words 1)) = slot_there names who (slice_get words 1) box slots.0 (earlier words 2 1 (omega arith) last) in
      let far : IsSome (slot_named names who (slice_get words 2)) = slot_there names who (slice_get words 2) box slots.1 last in
      at_slot_there names words (λ local. option_map (λ other. Set (NewLink local other)) (slot_named names (box_named names (slice_get words 0)) (slice_get words 2))) box near
      (λ local. some_mapped (λ other. Set (NewLink local other)) (slot_named names who (slice_get words 2)) far)

  media_there : (change : ℕ → Bool → MediaChange) → least_broken (media_rules names shape words) ≡ None → IsSome (at_slot names words (λ local. option_map (λ on. Media (change local on)) (spelt_value spelt_switch (slice_get words 2))))
  media_there change kept =
      let rules = media_rules names shape words in
      let who = box_named names (slice_get words 0) in
      let last : IsSome (slice_get words 2) = word_there rules 2 (slice_get words 2) kept refl in
      let box : IsSome who = found_name names.boxes (slice_get words 0) (kept_at rules 0 (UNDECLARED, lacks names.boxes (slice_get words 0)) kept refl) (earlier words 2 0 (omega arith) last) in
      let slot : IsSome (slot_named names who (slice_get words 1)) =
      slot_there names who (slice_get words 1) box (kept_at rules 4 (NO_SUCH_SLOT, lacks_slot names who (slice_get words 1)) kept refl) (earlier words 2 1 (omega arith) last) in
      let spelt = or_parts (is_no_device shape who) (is_no spelt_switch (slice_get words 2)) (kept_at rules 1 (WRONG_WORD, is_no_device shape who || is_no spelt_switch (slice_get words 2)) kept refl) in
      at_slot_there names words (λ local. option_map (λ on. Media (change local on)) (spelt_value spelt_switch (slice_get words 2))) box slot
      (λ local. some_mapped (λ on. Media (change local on)) (spelt_value spelt_switch (slice_get words 2)) (spelt_there spelt_switch (slice_get words 2) spelt.1 last))

  tell_there : least_broken (tell_rules names shape words) ≡ None → IsSome (command_by names (Some command.Tell) words)
  tell_there kept =
      let rules = tell_rules names shape words in
      let last : IsSome (slice_get words 1) = word_there rules 2 (slice_get words 1) kept refl in
      let known = or_parts (lacks names.boxes (slice_get words 0)) (lacks names.told (slice_get words 1))
      (kept_at rules 0 (UNDECLARED, lacks names.boxes (slice_get words 0) || lacks names.told (slice_get words 1)) kept refl) in
      some_chained (λ who. option_map (λ told. Stimulus (record { who = who; event = Tell told })) (spelt_value (place_of names.told) (slice_get words 1))) (box_named names (slice_get words 0))
      (found_name names.boxes (slice_get words 0) known.0 (earlier words 1 0 (omega arith) last))
      (λ who is. some_mapped (λ told. Stimulus (record { who = who; event = Tell told })) (spelt_value (place_of names.told) (slice_get words 1)) (found_name names.told (slice_get words 1) known.1 last))

  command_there : (kind : CommandWord) → least_broken (kind_rules names shape (Some kind) words) ≡ None → IsSome (command_by names (Some kind) words)
  command_there command.Set kept = set_there kept
  command_there command.Link kept = link_there kept
  command_there command.Hear kept = media_there (λ local on. Hear local on) kept
  command_there command.Talk kept = media_there (λ local on. Talk local on) kept
  command_there command.Tell kept = tell_there kept
  command_there command.Settle kept = refl

-- ---- lines of programs

-- where the rules of a program's line are kept, a program is open
in_block_there : {A : Type 0} (rules : BlockState → List (ℕ × Bool)) (f : BlockState → Option A) (block : Option BlockState) → least_broken (in_block rules block) ≡ None
    → ((it : BlockState) → least_broken (rules it) ≡ None → IsSome (f it)) → IsSome (option_and_then f block)
in_block_there rules f None kept next = absurd (let clash : Some WRONG_WORD ≡ None = kept in cc)
in_block_there rules f (Some it) kept next = next it kept

-- and so is a part
in_part_there : {A : Type 0} (rules : PartState → List (ℕ × Bool)) (f : PartState → Option A) (part : Option PartState) → least_broken (in_part rules part) ≡ None
    → ((it : PartState) → least_broken (rules it) ≡ None → IsSome (f it)) → IsSome (option_and_then f part)
in_part_there rules f None kept next = absurd (let clash : Some WRONG_WORD ≡ None = kept in cc)
in_part_there rules f (Some it) kept next = next it kept

module _ (names : NameLists) (who : ℕ) where
  goal_there : (part : PartState) (words : List (List ℕ)) → least_broken (goal_rules names who part words) ≡ None → IsSome (part_goal_after names who part words)
  goal_there part words kept =
      let rules = goal_rules names who part words in
      let last : IsSome (slice_get words 1) = word_there rules 1 (slice_get words 1) kept refl in
      let goal : IsSome (spelt_value spelt_goal (slice_get words 1)) = spelt_there spelt_goal (slice_get words 1) (kept_at rules 0 (WRONG_WORD, is_no spelt_goal (slice_get words 1)) kept refl) last in
      some_chained (λ local. option_map (λ goal. part_with_goal part local (End goal)) (spelt_value spelt_goal (slice_get words 1))) (slot_named names (Some who) (slice_get words 0))
      (found_name (slot_names names who) (slice_get words 0) (kept_at rules 4 (NO_SUCH_SLOT, lacks (slot_names names who) (slice_get words 0)) kept refl) (earlier words 1 0 (omega arith) last))
      (λ local is. some_mapped (λ goal. part_with_goal part local (End goal)) (spelt_value spelt_goal (slice_get words 1)) goal)

  part_link_there : (shape : List BoxShapeState) (part : PartState) (words : List (List ℕ)) → least_broken (part_link_rules names shape who part words) ≡ None → IsSome (part_link_after names who part words)
  part_link_there shape part words kept =
      let rules = part_link_rules names shape who part words in
      let last : IsSome (slice_get words 1) = word_there rules 0 (slice_get words 1) kept refl in
      let known = or_parts (lacks (slot_names names who) (slice_get words 0)) (lacks (slot_names names who) (slice_get words 1))
      (kept_at rules 3 (NO_SUCH_SLOT, lacks (slot_names names who) (slice_get words 0) || lacks (slot_names names who) (slice_get words 1)) kept refl) in
      some_chained (λ a. option_map (λ b. part_with_goal (part_with_goal part a (Link b)) b (Link a)) (slot_named names (Some who) (slice_get words 1))) (slot_named names (Some who) (slice_get words 0))
      (found_name (slot_names names who) (slice_get words 0) known.0 (earlier words 1 0 (omega arith) last))
      (λ a is. some_mapped (λ b. part_with_goal (part_with_goal part a (Link b)) b (Link a)) (slot_named names (Some who) (slice_get words 1)) (found_name (slot_names names who) (slice_get words 1) known.1 last))

  module _ (states : List (List ℕ)) (part : PartState) where
    when_is_there : (words : List (List ℕ)) → least_broken (when_is_rules names who states part words) ≡ None → IsSome (is_transition names who states words)
    when_is_there words kept =
        let rules = when_is_rules names who states part words in
        let last : IsSome (slice_get words 2) = word_there rules 2 (slice_get words 2) kept refl in
        let slot : IsSome (slot_named names (Some who) (slice_get words 0)) =
        found_name (slot_names names who) (slice_get words 0) (kept_at rules 4 (NO_SUCH_SLOT, lacks (slot_names names who) (slice_get words 0)) kept refl) (earlier words 2 0 (omega arith) last) in
        let state : IsSome (spelt_value spelt_state (slice_get words 1)) =
        spelt_there spelt_state (slice_get words 1) (kept_at rules 1 (WRONG_WORD, is_no spelt_state (slice_get words 1)) kept refl) (earlier words 2 1 (omega arith) last) in
        let target : IsSome (spelt_value (place_of states) (slice_get words 2)) = found_name states (slice_get words 2) (kept_at rules 0 (UNDECLARED, lacks states (slice_get words 2)) kept refl) last in
        some_then (slot_named names (Some who) (slice_get words 0)) _ slot (λ local.
        some_then (spelt_value spelt_state (slice_get words 1)) _ state (λ state.
        some_then (spelt_value (place_of states) (slice_get words 2)) (λ target. Some (record { guard = SlotIs local state; target = target })) target (λ target. refl)))

    when_told_there : (words : List (List ℕ)) → least_broken (when_told_rules names states part words) ≡ None → IsSome (told_after names states part words)
    when_told_there words kept =
        let rules = when_told_rules names states part words in
        let last : IsSome (slice_get words 1) = word_there rules 2 (slice_get words 1) kept refl in
        let target : IsSome (spelt_value (place_of states) (slice_get words 1)) = found_name states (slice_get words 1) (kept_at rules 0 (UNDECLARED, lacks states (slice_get words 1)) kept refl) last in
        some_then (slice_get words 0) _ (earlier words 1 0 (omega arith) last) (λ word.
        some_then (spelt_value (place_of states) (slice_get words 1)) (λ target. Some (with_told_word names word, with_transition part (record { guard = Told (told_place names word); target = target }))) target (λ target. refl))

    when_kind_there : (kind : Option WaitWord) (words : List (List ℕ)) → least_broken (when_kind_rules names who states part kind words) ≡ None → IsSome (when_kind_after names who states part kind words)
    when_kind_there None words kept = absurd (let clash : Some WRONG_WORD ≡ None = kept in cc)
    when_kind_there (Some waits.Is) words kept = some_mapped (λ (transition : Rule). (names, with_transition part transition)) (is_transition names who states words) (when_is_there words kept)
    when_kind_there (Some waits.Told) words kept = when_told_there words kept

    when_there : (words : List (List ℕ)) → least_broken (when_rules names who states part words) ≡ None → IsSome (part_when_after names who states part words)
    when_there [] kept = absurd (let clash : Some MISSING_WORD ≡ None = kept in cc)
    when_there (first ∷ others) kept = when_kind_there (waits_for first) others kept

-- ---- lines by their kind

module _ (d : Declared) (words : List (List ℕ)) where
  send_there : (apart : Bool) → least_broken (send_line_rules d apart words) ≡ None → IsSome (send_after d words)
  send_there false kept = absurd (let clash : Some WRONG_WORD ≡ None = kept in cc)
  send_there true kept =
      let rules = send_rules d words in
      let known = or_parts (lacks d.names.boxes (slice_get words 0)) (lists_undeclared d.names (drop 1 words))
      (kept_at rules 0 (UNDECLARED, lacks d.names.boxes (slice_get words 0) || lists_undeclared d.names (drop 1 words)) kept refl) in
      some_mapped _ (box_named d.names (slice_get words 0)) (found_name d.names.boxes (slice_get words 0) known.0 (word_there rules 2 (slice_get words 0) kept refl))

  channel_there : least_broken (channel_rules d words) ≡ None → IsSome (channel_after d words)
  channel_there kept =
      let rules = channel_rules d words in
      let last : IsSome (slice_get words 4) = word_there rules 2 (slice_get words 4) kept refl in
      let medium_word : IsSome (slice_get words 0) = earlier words 4 0 (omega arith) last in
      let box_word : IsSome (slice_get words 1) = earlier words 4 1 (omega arith) last in
      let slot_word : IsSome (slice_get words 2) = earlier words 4 2 (omega arith) last in
      let far_word : IsSome (slice_get words 3) = earlier words 4 3 (omega arith) last in
      let known = or_parts (lacks d.names.boxes (slice_get words 1)) (lacks d.names.boxes (slice_get words 3)) (kept_at rules 0 (UNDECLARED, _) kept refl) in
      let spelt : is_no spelt_medium (slice_get words 0) ≡ false = (or_parts _ _ (or_parts _ _ (or_parts _ _ (kept_at rules 1 (WRONG_WORD, _) kept refl)).0).0).1 in
      some_then (spelt_value spelt_medium (slice_get words 0)) _ (spelt_there spelt_medium (slice_get words 0) spelt medium_word) (λ medium.
      some_then (box_named d.names (slice_get words 1)) _ (found_name d.names.boxes (slice_get words 1) known.0 box_word) (λ from.
      some_then (slice_get words 2) _ slot_word (λ slot.
      some_then (box_named d.names (slice_get words 3)) _ (found_name d.names.boxes (slice_get words 3) known.1 far_word) (λ to.
      some_then (slice_get words 4) (λ far_slot. Some (with_joined d medium from slot to far_slot)) last (λ far_slot. refl)))))

  also_there : least_broken (also_rules d words) ≡ None → IsSome (also_after d words)
  also_there kept =
      let rules = also_rules d words in
      let last : IsSome (slice_get words 2) = word_there rules 1 (slice_get words 2) kept refl in
      let medium_word : IsSome (slice_get words 0) = earlier words 2 0 (omega arith) last in
      let slot_word : IsSome (slice_get words 1) = earlier words 2 1 (omega arith) last in
      let spelt : is_no spelt_medium (slice_get words 0) ≡ false = (or_parts _ _ (or_parts _ _ (or_parts _ _ (kept_at rules 0 (WRONG_WORD, _) kept refl)).0).0).1 in
      some_then (spelt_value spelt_medium (slice_get words 0)) _ (spelt_there spelt_medium (slice_get words 0) spelt medium_word) (λ medium.
      some_then (slice_get words 1) _ slot_word (λ slot.
      some_then (slice_get words 2) (λ far_slot. Some (with_widened d medium (last_channel d.channels).from slot (last_channel d.channels).to far_slot)) last (λ far_slot. refl)))

  program_there : least_broken (program_rules d words) ≡ None → IsSome (program_after d words)
  program_there kept =
      let rules = program_rules d words in
      let last : IsSome (slice_get words 1) = word_there rules 2 (slice_get words 1) kept refl in
      some_mapped _ (box_named d.names (slice_get words 0))
      (found_name d.names.boxes (slice_get words 0) (kept_at rules 0 (UNDECLARED, lacks d.names.boxes (slice_get words 0)) kept refl) (earlier words 1 0 (omega arith) last))

  -- the next state of a program is one of the program that is open
  next_there : (block : Option BlockState) (word : Option (List ℕ)) → is_not_next block word ≡ false → IsSome word → IsSome block
  next_there None None next some = absurd cc
  next_there None (Some word) next some = absurd cc
  next_there (Some block) word next some = refl

  state_there : least_broken (state_rules d words) ≡ None → IsSome (state_after d words)
  state_there kept =
      let rules = state_rules d words in
      let next = or_parts (is_late d section.Programs) (is_not_next (open_block d) (slice_get words 0)) (kept_at rules 0 (WRONG_WORD, is_late d section.Programs || is_not_next (open_block d) (slice_get words 0)) kept refl) in
      some_mapped _ (open_block d) (next_there (open_block d) (slice_get words 0) next.1 (word_there rules 1 (slice_get words 0) kept refl))

  goal_line_there : least_broken (rules_by d (Some keyword.Goal) words) ≡ None → IsSome (after_by d (Some keyword.Goal) words)
  goal_line_there kept =
      in_block_there (λ block. block_goal_rules d.names block words) (λ block. option_map (with_block d) (block_goal_after d.names block words)) (open_block d) kept
      (λ block own. some_mapped (with_block d) (block_goal_after d.names block words)
      (in_part_there (λ part. goal_rules d.names block.who part words) (λ part. option_map (with_part block) (part_goal_after d.names block.who part words)) (open_part_of block) own
      (λ part mine. some_mapped (with_part block) (part_goal_after d.names block.who part words) (goal_there d.names block.who part words mine))))

  link_line_there : least_broken (program_link_rules d words) ≡ None → IsSome (program_link_after d words)
  link_line_there kept =
      in_block_there (λ block. block_link_rules d.names d.shape block words) (λ block. option_map (with_block d) (block_link_after d.names block words)) (open_block d) kept
      (λ block own. some_mapped (with_block d) (block_link_after d.names block words)
      (in_part_there (λ part. part_link_rules d.names d.shape block.who part words) (λ part. option_map (with_part block) (part_link_after d.names block.who part words)) (open_part_of block) own
      (λ part mine. some_mapped (with_part block) (part_link_after d.names block.who part words) (part_link_there d.names block.who d.shape part words mine))))

  when_line_there : least_broken (rules_by d (Some keyword.When) words) ≡ None → IsSome (after_by d (Some keyword.When) words)
  when_line_there kept =
      in_block_there (λ block. block_when_rules d.names block words) (λ block. when_after d block words) (open_block d) kept
      (λ block own. some_mapped (λ (after : NameLists × BlockState). with_block (record d { names = after.0 }) after.1) (block_when_after d.names block words)
      (in_part_there (λ part. when_rules d.names block.who block.states part words) (λ part. option_map (λ (after : NameLists × PartState). (after.0, with_part block after.1)) (part_when_after d.names block.who block.states part words)) (open_part_of block) own
      (λ part mine. some_mapped (λ (after : NameLists × PartState). (after.0, with_part block after.1)) (part_when_after d.names block.who block.states part words) (when_there d.names block.who block.states part words mine))))

  command_line_there : (of_part : Bool) (kind : CommandWord) → least_broken (if of_part then program_link_rules d words else command_line_rules d kind words) ≡ None
      → IsSome (if of_part then program_link_after d words else command_after d kind words)
  command_line_there true kind kept = link_line_there kept
  command_line_there false kind kept =
      some_mapped _ (command_by d.names (Some kind) words) (command_there d.names d.shape words kind (all_before (kind_rules d.names d.shape (Some kind) words) _ kept))

  kind_there : (kind : Keyword) → least_broken (rules_by d (Some kind) words) ≡ None → IsSome (after_by d (Some kind) words)
  kind_there keyword.Media kept = absurd (let clash : Some WRONG_WORD ≡ None = kept in cc)
  kind_there keyword.Codec kept = some_mapped (with_new_codec d) (slice_get words 0) (word_there (codec_rules d words) 1 (slice_get words 0) kept refl)
  kind_there keyword.Dev kept = some_mapped (λ name. with_new_box d name (device_in d.names (drop 1 words))) (slice_get words 0) (word_there (device_rules d words) 2 (slice_get words 0) kept refl)
  kind_there keyword.Feat kept = some_mapped (with_new_feature d) (slice_get words 0) (word_there (feature_rules d words) 1 (slice_get words 0) kept refl)
  kind_there keyword.Send kept = send_there d.sends_apart kept
  kind_there keyword.Chan kept = channel_there kept
  kind_there keyword.Also kept = also_there kept
  kind_there keyword.Prog kept = program_there kept
  kind_there keyword.State kept = state_there kept
  kind_there keyword.Goal kept = goal_line_there kept
  kind_there keyword.When kept = when_line_there kept
  kind_there keyword.Begin kept = refl
  kind_there keyword.Journal kept = refl
  kind_there keyword.Grow kept = refl
  kind_there (keyword.Command kind) kept = command_line_there (is_program_link d.section kind) kind kept

-- ---- lines

module _ (d : Declared) where
  by_kind : (kind : Option Keyword) (others : List (List ℕ)) → least_broken (rules_by d kind others) ≡ None → IsSome (after_by d kind others)
  by_kind None others kept = absurd (let clash : Some WRONG_WORD ≡ None = kept in cc)
  by_kind (Some kind) others kept = kind_there d others kind kept

  by_words : (versioned : Bool) (ws : List (List ℕ)) → least_broken (words_rules versioned d ws) ≡ None → IsSome (words_after versioned d ws)
  by_words false ws kept = refl
  by_words true ws kept = by_kind (kind_of ws) (drop 1 ws) kept

  by_skipped : (skipped : Bool) (ws : List (List ℕ)) → least_broken (line_words_rules skipped d ws) ≡ None → IsSome (unless_skipped skipped d (words_after d.versioned d ws))
  by_skipped true ws kept = refl
  by_skipped false ws kept = by_words d.versioned ws kept

pub sound_lines_mean : SoundLinesMean
sound_lines_mean total before d line kept =
    let own = line_words_rules (is_skipped (words line)) d (words line) in
    by_skipped d (is_skipped (words line)) (words line)
    (all_behind (byte_rules line) own (others_kept 1 (passes_limit (text_limit d.tail) total before line) (byte_rules line ++ own) kept))

-- a value that is there is no other
is_there : {A : Type 0} (o : Option A) (other : A) → IsSome o → o ≡ Some (unwrap_or o other)
is_there None other some = absurd cc
is_there (Some x) other some = refl

pub each_line_declares : EachLineDeclares
each_line_declares tail total lines k sound =
    let d = declared_by tail lines k in
    let line = slice_index_or lines k [] in
    is_there (line_after d line) d (sound_lines_mean total (bytes_before lines k) d line sound)
