-- After each line that breaks no rule each box receives declared codecs, the shapes are those of the boxes, channels and programs, and programs fit. Commands come last, and each is that of a line that breaks no rule. There are no more of them than may be.
use Rattle.std.proofs.Common.{◌≡◌, ◌≢◌, ◌⊎◌, inl, inr, ℕ, zero, suc, ◌-◌, ◌<◌, ◌≤◌, ◌==◌, Bool, true, false, ◌&&◌, ◌||◌, not, nat_le, nat_lt, if◌then◌else◌, List, [], ◌∷◌, ◌++◌, length, drop, slice_index_or, Option, Some, None, refl, sym, ap, ◌∙◌, subst, slice_set, arith, length-append, map}
use Rattle.std.proofs.lemmas.Bool.{or_parts}
use Rattle.std.proofs.lemmas.List.{length-set}
use Rattle.std.proofs.lemmas.List.Elements.{All-get_or, All-nil, All-push, All-set, All-weaker}
use Rattle.std.proofs.lemmas.List.{map-append}
use Rattle.std.specs.List.{All, list_any, slice_get}
use Rattle.std.specs.Option.{is_some, option_and_then, option_map, unwrap_or}
use Rattle.mc_signal.specs.declared.Medium.{Medium}
use Rattle.mc_text.specs.Lines.{words}
use Rattle.mc_text.specs.NameLists.{AreNames, NameLists, no_names, slot_names, with_codec_name}
use Rattle.mc_box.specs.BoxShapes.{BoxShapeState, is_feature, shape_of}
use Rattle.mc_model.specs.Worlds.{ChannelState}
use Rattle.mc_plan.specs.Plans.{channel_between, last_channel, next_tunnel, no_channel, with_one_more}
use Rattle.mc_program_lines.specs.Programs.{BlockState, block_goal_after, block_goal_rules, block_link_after, block_link_rules, block_when_after, block_when_rules, has_program, in_block, new_block, new_part_rules, with_new_part}
use Rattle.mc_program_lines.specs.WordLists.{has_repeat}
use Rattle.mc_text.specs.Spelling.{is_spelt}
use Rattle.mc_script.specs.Meaning.{command_by}
use Rattle.mc_script.specs.Places.{Fits, are_same, box_named, has, is_misspelt, is_no, is_overlong, spelt_value}
use Rattle.mc_script.specs.Rules.{byte_rules, is_no_device, is_no_feature, is_plain, kind_rules, least_broken}
use Rattle.mc_script.specs.declared.command.Command.{Command}
use Rattle.mc_script.specs.declared.keyword.CommandWord.{CommandWord}
use Rattle.mc_script.specs.declared.rule.TheConstants.{GIVEN_TWICE, LIMIT_PASSED, NAME_TOO_LONG, SAME_BOX, UNDECLARED, UNFINISHED, WRONG_WORD}
use Rattle.mc_lines.specs.Meaning.{after_by, also_after, begin_after, channel_after, codec_after, codec_number, command_after, device_after, device_in, feature_after, declared_at, line_after, new_feature, program_after, program_link_after, send_after, state_after, when_after, with_block, programmed_shape, with_send_list, unless_skipped, with_joined, with_new_box, with_new_codec, with_new_feature, with_send_line, with_widened, words_after}
use Rattle.mc_lines.specs.Rules.{also_rules, begin_rules, program_rules, shapes, state_rules, channel_rules, codec_rules, codec_words, command_line_rules, device_rules, feature_rules, end_fault, end_rules, is_late, is_program_link, is_second, is_skipped, is_unfinished, kind_of, line_fault, line_words_rules, lists_undeclared, of_slots, open_block, passes_limit, program_link_rules, rank, rules_by, send_line_rules, send_rules, spelt_medium, text_limit, words_rules}
use Rattle.mc_lines.specs.SoFar.{Declared, DeclaredBox, nothing}
use Rattle.mc_net.specs.Texts.{AreSound, Says, bytes_before, declared_by, text_lines}
use Rattle.mc_lines.specs.declared.limit.TheConstants.{COMMAND_LIMIT}
use Rattle.mc_lines.specs.declared.tail.Tail.{Tail}
use Rattle.mc_lines.specs.declared.section.Keyword.{Keyword}
use Rattle.mc_lines.specs.declared.section.Keyword.TheVariants as keyword
use Rattle.mc_lines.specs.declared.section.Section.{Section}
use Rattle.mc_lines.specs.declared.section.Section.TheVariants as section
use Rattle.mc_net.proofs.Enabled.{IsOfLine}
use Rattle.mc_lines.proofs.FirstBroken.{all_before, all_behind, has_room}
use Rattle.mc_program_lines.proofs.KeptRules.{kept_at, others_kept}
use Rattle.mc_net.proofs.Unfinished.{none_open}
use Rattle.mc_lines.specs.Forms.{IsInForm, NamesEach}
use Rattle.mc_lines.proofs.Blocks.{fits_program}
use Rattle.mc_lines.proofs.Fitting.{in_form_with_box}
use Rattle.mc_lines.proofs.Joining.{in_form_with_channel, in_form_with_tunnel}
use Rattle.mc_program_lines.proofs.Blocks.{goal_lines_fit, link_lines_fit, new_parts_fit, new_programs_fit, when_lines_fit}
use Rattle.mc_program_lines.proofs.Found.{chained, mapped, named_within}
use Rattle.mc_program_lines.specs.BlockLaws.{FitsIn}
use Rattle.mc_net.proofs.Laid.{AllFinished, AreLaid, all_finished, has_owner, laid_behind, laid_more, laid_open, none_laid, open_is_last, owner_there, block_there, owners, same_owners}
use Rattle.mc_net.proofs.OpenBlocks.{TellsMore, goal_keeps_box, link_keeps_box, tells_none, when_names}
use Rattle.mc_net.proofs.Named.{HasCodecs, numbers_known}
use Rattle.mc_net.proofs.NamesKept.{AreCalled, IsApart, IsNew, box_named_too, kept_new, none_called, slots_named_too, when_told}
use Rattle.mc_lines.proofs.Sends.{still_all}
use Rattle.mc_net.proofs.Shaped.{AreShapes, box_shaped, channel_shaped, none_shaped, program_shaped, send_shaped, tunnel_shaped}

-- ---- what is kept

-- both boxes of a channel are among so many
pub record HasEnds (boxes : ℕ) (ends : ChannelState) : Type 0 where
  pub near : ends.from < boxes
  pub far : ends.to < boxes

-- boxes, slots and told words have names, each box has declared codecs, the shapes are those of boxes, channels and programs, programs are laid out as they should be, and commands come last, each that of a line with these names and shapes, and no more of them than may be
pub record RunsAll (place : Section) (names : NameLists) (shape : List BoxShapeState) (boxes : List DeclaredBox) (channels : List ChannelState) (blocks : List BlockState) (commands : List Command) : Type 0 where
  pub fits : Fits names shape
  pub named : NamesEach names boxes channels
  pub known : All (HasCodecs names) boxes
  pub counted : length boxes ≡ length names.boxes
  pub shaped : AreShapes shape boxes channels (owners blocks)
  pub laid : AreLaid shape place blocks
  pub joined : All (HasEnds (length boxes)) channels
  pub last : (commands ≡ []) ⊎ (place ≡ section.Commands)
  pub of_lines : All (IsOfLine names shape) commands
  pub few : length commands ≤ COMMAND_LIMIT
  pub called : AreCalled names channels

abbrev pub IsRunnable : Declared → Type 0
IsRunnable d = RunsAll d.section d.names d.shape d.boxes d.channels d.blocks d.commands

nothing_runs : (tail : Tail) → IsRunnable (nothing tail)
nothing_runs tail = record {
  fits = record { boxes = refl; slots = λ who below. refl };
  named = record { listed = refl; boxes = refl; slots = λ who. refl };
  laid = none_laid [] section.Version;
  known = All-nil (HasCodecs no_names);
  counted = refl;
  shaped = none_shaped;
  joined = All-nil (HasEnds 0);
  last = inl refl;
  of_lines = All-nil (IsOfLine no_names []);
  few = omega arith;
  called = none_called;
}

-- ---- lines before the commands

-- a line that isn't too late comes before all commands
none_yet : (d : Declared) (place : Section) → IsRunnable d → nat_lt (rank place) (rank section.Commands) ≡ true → is_late d place ≡ false → d.commands ≡ []
none_yet d place runs before kept = by runs.last
  where
    by : (d.commands ≡ []) ⊎ (d.section ≡ section.Commands) → d.commands ≡ []
    by (inl none) = none
    by (inr here) = absurd (let late : nat_lt (rank place) (rank section.Commands) ≡ false = rw here at kept in let clash : true ≡ false = sym before ∙ late in cc)

-- a line that isn't too late comes before all programs
no_programs_yet : (d : Declared) (place : Section) → IsRunnable d → nat_lt (rank place) (rank section.Programs) ≡ true → is_late d place ≡ false → d.blocks ≡ []
no_programs_yet d place runs before kept = by runs.laid.placed
  where
    by : (d.blocks ≡ []) ⊎ (rank section.Programs ≤ rank d.section) → d.blocks ≡ []
    by (inl none) = none
    by (inr behind) = absurd (let late : nat_lt (rank place) (rank d.section) ≡ true = grind arith in let clash : true ≡ false = sym late ∙ kept in cc)

-- so what is kept is kept without programs
abbrev RunsBare : Declared → Type 0
RunsBare d = RunsAll d.section d.names d.shape d.boxes d.channels [] d.commands

bare_runs : (d : Declared) → IsRunnable d → d.blocks ≡ [] → RunsBare d
bare_runs d runs bare = subst (λ (blocks : List BlockState). RunsAll d.section d.names d.shape d.boxes d.channels blocks d.commands) bare runs

-- and names fit
bare_form : (d : Declared) → IsRunnable d → IsInForm (record d { blocks = [] })
bare_form d runs = record { fits = runs.fits; named = runs.named; block = rw (none_open d.section) tt }

-- none is of any names and shapes
of_none : (names : NameLists) (shape : List BoxShapeState) (commands : List Command) → commands ≡ [] → All (IsOfLine names shape) commands
of_none names shape commands none = subst (λ (l : List Command). All (IsOfLine names shape) l) (sym none) (All-nil (IsOfLine names shape))

codec_runs : (d after : Declared) (words : List (List ℕ)) → IsRunnable d → least_broken (codec_rules d words) ≡ None → codec_after d words ≡ Some after → IsRunnable after
codec_runs d after words runs kept means =
    let m = mapped (with_new_codec d) (slice_get words 0) after means in
    let late = is_late d section.Codecs in
    let misspelt = is_misspelt (slice_get words 0) in
    let time = (or_parts late misspelt (kept_at (codec_rules d words) 0 (WRONG_WORD, late || misspelt) kept refl)).0 in
    let none = none_yet d section.Codecs runs refl time in
    let bare = no_programs_yet d section.Codecs runs refl time in
    let now : RunsBare d = bare_runs d runs bare in
    subst (λ (x : Declared). IsRunnable x) (sym m.2)
    (subst (λ (blocks : List BlockState). RunsAll section.Codecs (with_codec_name d.names m.0) d.shape d.boxes d.channels blocks d.commands) (sym bare) (record {
      fits = record { boxes = runs.fits.boxes; slots = runs.fits.slots };
      named = record { listed = runs.named.listed; boxes = runs.named.boxes; slots = runs.named.slots };
      laid = none_laid d.shape section.Codecs;
      known = All-weaker (HasCodecs d.names) (HasCodecs (with_codec_name d.names m.0)) (λ declared has. All-weaker (λ codec. codec < length d.names.codecs) (λ codec. codec < length (d.names.codecs ++ m.0 ∷ [])) (λ codec below. one_more m.0 codec below) declared.receives has) d.boxes runs.known;
      counted = runs.counted;
      shaped = now.shaped;
      joined = runs.joined;
      last = inl none;
      of_lines = of_none (with_codec_name d.names m.0) d.shape d.commands none;
      few = runs.few;
      called = record { have = record { of_boxes = runs.called.have.of_boxes; of_slots = runs.called.have.of_slots; of_told = runs.called.have.of_told }; apart = runs.called.apart };
    }))
  where
    one_more : (name : List ℕ) (codec : ℕ) → codec < length d.names.codecs → codec < length (d.names.codecs ++ name ∷ [])
    one_more name codec below = omega (arith, length-append d.names.codecs (name ∷ []))

-- both boxes are among more
further : (boxes : List DeclaredBox) (declared : DeclaredBox) (ends : ChannelState) → HasEnds (length boxes) ends → HasEnds (length (boxes ++ declared ∷ [])) ends
further boxes declared ends has = record {
  near = omega (arith, has.near, length-append boxes (declared ∷ []));
  far = omega (arith, has.far, length-append boxes (declared ∷ []));
}

-- a word that is there, of which the rules of its line ask that it is a new name
new_at : (names : List (List ℕ)) (word : Option (List ℕ)) (name : List ℕ) → word ≡ Some name → is_misspelt word ≡ false → is_overlong word ≡ false → has names word ≡ false → IsNew names name
new_at names word name is spelt short new =
    let here : is_misspelt (Some name) ≡ false = subst (λ (o : Option (List ℕ)). is_misspelt o ≡ false) is spelt in
    let within : is_overlong (Some name) ≡ false = subst (λ (o : Option (List ℕ)). is_overlong o ≡ false) is short in
    let other : has names (Some name) ≡ false = subst (λ (o : Option (List ℕ)). has names o ≡ false) is new in
    kept_new names name here within other

-- a box more
box_runs : (d : Declared) (name : List ℕ) (declared : DeclaredBox) → IsRunnable d → d.commands ≡ [] → d.blocks ≡ [] → HasCodecs d.names declared → IsNew d.names.boxes name → IsRunnable (with_new_box d name declared)
box_runs d name declared runs none bare has new =
    let boxed = with_new_box d name declared in
    let form = in_form_with_box (record d { blocks = [] }) name declared (bare_form d runs) in
    let now : RunsBare d = bare_runs d runs bare in
    subst (λ (blocks : List BlockState). RunsAll boxed.section boxed.names boxed.shape boxed.boxes boxed.channels blocks boxed.commands) (sym bare) (record {
      fits = form.fits;
      named = form.named;
      laid = none_laid boxed.shape section.Boxes;
      known = All-push (HasCodecs d.names) d.boxes declared runs.known has;
      counted = let same = runs.counted in omega (arith, length-append d.boxes (declared ∷ []), length-append d.names.boxes (name ∷ []));
      shaped = box_shaped d.shape d.boxes d.channels declared now.shaped;
      joined = All-weaker (HasEnds (length d.boxes)) (HasEnds (length (d.boxes ++ declared ∷ []))) (λ ends has. further d.boxes declared ends has) d.channels runs.joined;
      last = inl none;
      of_lines = of_none boxed.names boxed.shape d.commands none;
      few = runs.few;
      called = record { have = box_named_too d.names name runs.named.listed runs.called.have new; apart = runs.called.apart };
    })

device_runs : (d after : Declared) (words : List (List ℕ)) → IsRunnable d → least_broken (device_rules d words) ≡ None → device_after d words ≡ Some after → IsRunnable after
device_runs d after words runs kept means =
    let m = mapped (λ name. with_new_box d name (device_in d.names (drop 1 words))) (slice_get words 0) after means in
    let undeclared = lists_undeclared d.names (codec_words (drop 1 words)) in
    let late = is_late d section.Boxes in
    let misspelt = is_misspelt (slice_get words 0) in
    let first = or_parts late misspelt (kept_at (device_rules d words) 1 (WRONG_WORD, late || misspelt) kept refl) in
    let time = first.0 in
    let given = has d.names.boxes (slice_get words 0) in
    let twice = has_repeat (codec_words (drop 1 words)) in
    let new = (or_parts given twice (kept_at (device_rules d words) 4 (GIVEN_TWICE, given || twice) kept refl)).0 in
    let short = kept_at (device_rules d words) 6 (NAME_TOO_LONG, is_overlong (slice_get words 0)) kept refl in
    subst (λ (x : Declared). IsRunnable x) (sym m.2)
    (box_runs d m.0 (device_in d.names (drop 1 words)) runs (none_yet d section.Boxes runs refl time) (no_programs_yet d section.Boxes runs refl time) (numbers_known d.names (codec_words (drop 1 words)) (kept_at (device_rules d words) 0 (UNDECLARED, undeclared) kept refl))
    (new_at d.names.boxes (slice_get words 0) m.0 m.1 first.1 short new))

feature_runs : (d after : Declared) (words : List (List ℕ)) → IsRunnable d → least_broken (feature_rules d words) ≡ None → feature_after d words ≡ Some after → IsRunnable after
feature_runs d after words runs kept means =
    let m = mapped (with_new_feature d) (slice_get words 0) after means in
    let late = is_late d section.Boxes in
    let misspelt = is_misspelt (slice_get words 0) in
    let first = or_parts late misspelt (kept_at (feature_rules d words) 0 (WRONG_WORD, late || misspelt) kept refl) in
    let time = first.0 in
    let new = kept_at (feature_rules d words) 3 (GIVEN_TWICE, has d.names.boxes (slice_get words 0)) kept refl in
    let short = kept_at (feature_rules d words) 5 (NAME_TOO_LONG, is_overlong (slice_get words 0)) kept refl in
    subst (λ (x : Declared). IsRunnable x) (sym m.2)
    (box_runs d m.0 new_feature runs (none_yet d section.Boxes runs refl time) (no_programs_yet d section.Boxes runs refl time) (All-nil (λ codec. codec < length d.names.codecs)) (new_at d.names.boxes (slice_get words 0) m.0 m.1 first.1 short new))

-- a `send` line isn't late
send_in_time : (d : Declared) (apart : Bool) (words : List (List ℕ)) → least_broken (send_line_rules d apart words) ≡ None → is_late d section.Boxes ≡ false
send_in_time d false words kept = absurd (let clash : Some WRONG_WORD ≡ None = kept in cc)
send_in_time d true words kept =
    let late = is_late d section.Boxes in
    let no_device = is_no_device d.shape (box_named d.names (slice_get words 0)) in
    (or_parts late no_device (kept_at (send_rules d words) 1 (WRONG_WORD, late || no_device) kept refl)).0

send_runs : (d after : Declared) (words : List (List ℕ)) → IsRunnable d → least_broken (send_line_rules d d.sends_apart words) ≡ None → send_after d words ≡ Some after → IsRunnable after
send_runs d after words runs kept means =
    let sends : List ℕ = map (codec_number d.names) (drop 1 words) in
    let m = mapped (λ who. with_send_line d who (map (codec_number d.names) (drop 1 words))) (box_named d.names (slice_get words 0)) after means in
    let time = send_in_time d d.sends_apart words kept in
    let none = none_yet d section.Boxes runs refl time in
    let bare = no_programs_yet d section.Boxes runs refl time in
    let now : RunsBare d = bare_runs d runs bare in
    subst (λ (x : Declared). IsRunnable x) (sym m.2)
    (subst (λ (blocks : List BlockState). RunsAll section.Boxes d.names d.shape (with_send_list d.boxes m.0 sends) d.channels blocks d.commands) (sym bare) (record {
      fits = runs.fits;
      named = record { listed = runs.named.listed; boxes = length-set d.boxes m.0 (record (declared_at d.boxes m.0) { sends = sends }) ∙ runs.named.boxes; slots = runs.named.slots };
      laid = none_laid d.shape section.Boxes;
      known = still_all (HasCodecs d.names) (λ declared sends has. has) d.boxes m.0 sends runs.known;
      counted = length-set d.boxes m.0 (record (declared_at d.boxes m.0) { sends = sends }) ∙ runs.counted;
      shaped = send_shaped d.shape d.boxes d.channels m.0 sends now.shaped;
      joined = subst (λ (n : ℕ). All (HasEnds n) d.channels) (sym (length-set d.boxes m.0 (record (declared_at d.boxes m.0) { sends = sends }))) runs.joined;
      last = inl none;
      of_lines = runs.of_lines;
      few = runs.few;
      called = runs.called;
    }))

-- what a `chan` line joins
record Joins (d after : Declared) (words : List (List ℕ)) : Type 0 where
  medium : Medium
  from : ℕ
  slot : List ℕ
  to : ℕ
  far_slot : List ℕ
  near : box_named d.names (slice_get words 1) ≡ Some from
  far : box_named d.names (slice_get words 3) ≡ Some to
  near_slot : slice_get words 2 ≡ Some slot
  other_slot : slice_get words 4 ≡ Some far_slot
  is : after ≡ with_joined d medium from slot to far_slot

channel_joins : (d after : Declared) (words : List (List ℕ)) → channel_after d words ≡ Some after → Joins d after words
channel_joins d after words means = by (spelt_value spelt_medium (slice_get words 0)) refl (box_named d.names (slice_get words 1)) refl (slice_get words 2) refl (box_named d.names (slice_get words 3)) refl (slice_get words 4) refl
  where
    by : (medium : Option Medium) → spelt_value spelt_medium (slice_get words 0) ≡ medium → (from : Option ℕ) → box_named d.names (slice_get words 1) ≡ from → (slot : Option (List ℕ)) → slice_get words 2 ≡ slot
        → (to : Option ℕ) → box_named d.names (slice_get words 3) ≡ to → (far_slot : Option (List ℕ)) → slice_get words 4 ≡ far_slot → Joins d after words
    by None a from b slot c to e far_slot f = absurd (let none : None ≡ Some after = rw a at means in cc)
    by (Some medium) a None b slot c to e far_slot f = absurd (let none : None ≡ Some after = rw (a, b) at means in cc)
    by (Some medium) a (Some from) b None c to e far_slot f = absurd (let none : None ≡ Some after = rw (a, b, c) at means in cc)
    by (Some medium) a (Some from) b (Some slot) c None e far_slot f = absurd (let none : None ≡ Some after = rw (a, b, c, e) at means in cc)
    by (Some medium) a (Some from) b (Some slot) c (Some to) e None f = absurd (let none : None ≡ Some after = rw (a, b, c, e, f) at means in cc)
    by (Some medium) a (Some from) b (Some slot) c (Some to) e (Some far_slot) f =
        let some : Some (with_joined d medium from slot to far_slot) ≡ Some after = rw (a, b, c, e, f) at means in
        record { medium = medium; from = from; slot = slot; to = to; far_slot = far_slot; near = b; far = e; near_slot = c; other_slot = f; is = cc }

-- new names for a slot of each of two boxes
record SlotsAreNew (names : NameLists) (from : ℕ) (slot : List ℕ) (to : ℕ) (far_slot : List ℕ) : Type 0 where
  apart : from ≢ to
  near : IsNew (slot_names names from) slot
  far : IsNew (slot_names names to) far_slot

-- a channel more, and a slot of each of its boxes
joined_runs : (d : Declared) (medium : Medium) (from : ℕ) (slot : List ℕ) (to : ℕ) (far_slot : List ℕ) → IsRunnable d → d.commands ≡ [] → d.blocks ≡ [] → from < length d.names.boxes → to < length d.names.boxes
    → SlotsAreNew d.names from slot to far_slot → IsRunnable (with_joined d medium from slot to far_slot)
joined_runs d medium from slot to far_slot runs none bare near far new =
    let joined = with_joined d medium from slot to far_slot in
    let form = in_form_with_channel (record d { blocks = [] }) medium from slot to far_slot near far (bare_form d runs) in
    let now : RunsBare d = bare_runs d runs bare in
    let named = runs.counted in
    let shaped = runs.shaped.count in
    subst (λ (blocks : List BlockState). RunsAll joined.section joined.names joined.shape joined.boxes joined.channels blocks joined.commands) (sym bare) (record {
      fits = form.fits;
      named = form.named;
      laid = none_laid joined.shape section.Channels;
      known = runs.known;
      counted = runs.counted;
      shaped = channel_shaped d.shape d.boxes d.channels from to medium (omega arith) (omega arith) now.shaped;
      joined = All-push (HasEnds (length d.boxes)) d.channels (channel_between d.channels from to (medium ∷ [])) runs.joined (record { near = omega arith; far = omega arith });
      last = inl none;
      of_lines = of_none joined.names joined.shape d.commands none;
      few = runs.few;
      called = record {
        have = slots_named_too d.names from slot to far_slot runs.named.listed near far new.apart runs.called.have new.near new.far;
        apart = All-push IsApart d.channels (channel_between d.channels from to (medium ∷ [])) runs.called.apart new.apart;
      };
    })

first_of_four : (a b c e : Bool) → (a || b || c || e) ≡ false → a ≡ false
first_of_four a b c e none = grind arith

-- a `chan` line isn't late
channel_in_time : (d : Declared) (words : List (List ℕ)) → least_broken (channel_rules d words) ≡ None → is_late d section.Channels ≡ false
channel_in_time d words kept =
    let late = is_late d section.Channels in
    let unknown = is_no spelt_medium (slice_get words 0) in
    let near = is_some (box_named d.names (slice_get words 1)) && is_misspelt (slice_get words 2) in
    let far = is_some (box_named d.names (slice_get words 3)) && is_misspelt (slice_get words 4) in
    first_of_four late unknown near far (kept_at (channel_rules d words) 1 (WRONG_WORD, late || unknown || near || far) kept refl)

-- the slots of a `chan` line have new names, and its boxes are two
channel_news : (d : Declared) (words : List (List ℕ)) (from to : ℕ) (slot far_slot : List ℕ) → least_broken (channel_rules d words) ≡ None → box_named d.names (slice_get words 1) ≡ Some from → box_named d.names (slice_get words 3) ≡ Some to
    → slice_get words 2 ≡ Some slot → slice_get words 4 ≡ Some far_slot → SlotsAreNew d.names from slot to far_slot
channel_news d words from to slot far_slot kept a b c e =
    let near = box_named d.names (slice_get words 1) in
    let far = box_named d.names (slice_get words 3) in
    let one = slice_get words 2 in
    let two = slice_get words 4 in
    let words_kept : (is_late d section.Channels || is_no spelt_medium (slice_get words 0) || is_misspelt (Some slot) || is_misspelt (Some far_slot)) ≡ false =
    rw (a, b, c, e) at (kept_at (channel_rules d words) 1 (WRONG_WORD, is_late d section.Channels || is_no spelt_medium (slice_get words 0) || (is_some near && is_misspelt one) || (is_some far && is_misspelt two)) kept refl) in
    let given : (has (slot_names d.names from) (Some slot) || has (slot_names d.names to) (Some far_slot)) ≡ false =
    rw (a, b, c, e) at (kept_at (channel_rules d words) 4 (GIVEN_TWICE, of_slots d.names near (λ slots. has slots one) || of_slots d.names far (λ slots. has slots two)) kept refl) in
    let other : (from == to) ≡ false = rw (a, b) at (kept_at (channel_rules d words) 5 (SAME_BOX, are_same near far) kept refl) in
    let short : (is_overlong (Some slot) || is_overlong (Some far_slot)) ≡ false =
    rw (a, b, c, e) at (kept_at (channel_rules d words) 7 (NAME_TOO_LONG, (is_some near && is_overlong one) || (is_some far && is_overlong two)) kept refl) in
    let spelt = last_of_four (is_late d section.Channels) (is_no spelt_medium (slice_get words 0)) (is_misspelt (Some slot)) (is_misspelt (Some far_slot)) words_kept in
    let news = or_parts (has (slot_names d.names from) (Some slot)) (has (slot_names d.names to) (Some far_slot)) given in
    let shorts = or_parts (is_overlong (Some slot)) (is_overlong (Some far_slot)) short in
    record {
      apart = λ same. absurd (grind arith);
      near = kept_new (slot_names d.names from) slot spelt.0 shorts.0 news.0;
      far = kept_new (slot_names d.names to) far_slot spelt.1 shorts.1 news.1;
    }
  where
    last_of_four : (a b c e : Bool) → (a || b || c || e) ≡ false → (c ≡ false) × (e ≡ false)
    last_of_four a b c e none = (grind arith, grind arith)

channel_runs : (d after : Declared) (words : List (List ℕ)) → IsRunnable d → least_broken (channel_rules d words) ≡ None → channel_after d words ≡ Some after → IsRunnable after
channel_runs d after words runs kept means =
    let j = channel_joins d after words means in
    let time = channel_in_time d words kept in
    subst (λ (x : Declared). IsRunnable x) (sym j.is)
    (joined_runs d j.medium j.from j.slot j.to j.far_slot runs (none_yet d section.Channels runs refl time) (no_programs_yet d section.Channels runs refl time) (named_within d.names.boxes (slice_get words 1) j.from j.near) (named_within d.names.boxes (slice_get words 3) j.to j.far)
    (channel_news d words j.from j.to j.slot j.far_slot kept j.near j.far j.near_slot j.other_slot))

-- what an `also` line adds to the last channel
record Widens (d after : Declared) (words : List (List ℕ)) : Type 0 where
  medium : Medium
  slot : List ℕ
  far_slot : List ℕ
  near_slot : slice_get words 1 ≡ Some slot
  other_slot : slice_get words 2 ≡ Some far_slot
  is : after ≡ with_widened d medium (last_channel d.channels).from slot (last_channel d.channels).to far_slot

also_widens : (d after : Declared) (words : List (List ℕ)) → also_after d words ≡ Some after → Widens d after words
also_widens d after words means = by (spelt_value spelt_medium (slice_get words 0)) refl (slice_get words 1) refl (slice_get words 2) refl
  where
    by : (medium : Option Medium) → spelt_value spelt_medium (slice_get words 0) ≡ medium → (slot : Option (List ℕ)) → slice_get words 1 ≡ slot → (far_slot : Option (List ℕ)) → slice_get words 2 ≡ far_slot → Widens d after words
    by None a slot b far_slot c = absurd (let none : None ≡ Some after = rw a at means in cc)
    by (Some medium) a None b far_slot c = absurd (let none : None ≡ Some after = rw (a, b) at means in cc)
    by (Some medium) a (Some slot) b None c = absurd (let none : None ≡ Some after = rw (a, b, c) at means in cc)
    by (Some medium) a (Some slot) b (Some far_slot) c =
        let some : Some (with_widened d medium (last_channel d.channels).from slot (last_channel d.channels).to far_slot) ≡ Some after = rw (a, b, c) at means in
        record { medium = medium; slot = slot; far_slot = far_slot; near_slot = b; other_slot = c; is = cc }

first_two_of_five : (a b c e f : Bool) → (a || b || c || e || f) ≡ false → (a ≡ false) × (b ≡ false)
first_two_of_five a b c e f none = (grind arith, grind arith)

-- an `also` line isn't late, and there is a channel
also_in_time : (d : Declared) (words : List (List ℕ)) → least_broken (also_rules d words) ≡ None → (is_late d section.Channels ≡ false) × (0 < length d.channels)
also_in_time d words kept =
    let late = is_late d section.Channels in
    let none = length d.channels == 0 in
    let unknown = is_no spelt_medium (slice_get words 0) in
    let near = is_misspelt (slice_get words 1) in
    let far = is_misspelt (slice_get words 2) in
    let both = first_two_of_five late none unknown near far (kept_at (also_rules d words) 0 (WRONG_WORD, late || none || unknown || near || far) kept refl) in
    (both.0, let some : (length d.channels == 0) ≡ false = both.1 in grind arith)

-- a tunnel more, and a slot of each of its boxes
widened_runs : (d : Declared) (medium : Medium) (slot far_slot : List ℕ) → IsRunnable d → d.commands ≡ [] → d.blocks ≡ [] → 0 < length d.channels
    → IsNew (slot_names d.names (last_channel d.channels).from) slot → IsNew (slot_names d.names (last_channel d.channels).to) far_slot → IsRunnable (with_widened d medium (last_channel d.channels).from slot (last_channel d.channels).to far_slot)
widened_runs d medium slot far_slot runs none bare some new far_new =
    let last = last_channel d.channels in
    let now : RunsBare d = bare_runs d runs bare in
    let has : HasEnds (length d.boxes) (last_channel d.channels) = All-get_or (HasEnds (length d.boxes)) d.channels (length d.channels - 1) no_channel (omega arith) runs.joined in
    let near = has.near in
    let far = has.far in
    let apart : IsApart (last_channel d.channels) = All-get_or IsApart d.channels (length d.channels - 1) no_channel (omega arith) runs.called.apart in
    let shaped = runs.shaped.count in
    let wider = with_widened d medium (last_channel d.channels).from slot (last_channel d.channels).to far_slot in
    let counted = runs.counted in
    let form = in_form_with_tunnel (record d { blocks = [] }) medium slot far_slot (last_channel d.channels).from (last_channel d.channels).to some refl refl (omega arith) (omega arith) (bare_form d runs) in
    subst (λ (blocks : List BlockState). RunsAll wider.section wider.names wider.shape wider.boxes wider.channels blocks wider.commands) (sym bare) (record {
      fits = form.fits;
      named = form.named;
      laid = none_laid wider.shape section.Channels;
      known = runs.known;
      counted = runs.counted;
      shaped = tunnel_shaped d.shape d.boxes d.channels medium some (omega arith) (omega arith) now.shaped;
      joined = All-set (HasEnds (length d.boxes)) d.channels (length d.channels - 1) (with_one_more (next_tunnel d.channels last medium) last) (record { near = near; far = far }) runs.joined;
      last = inl none;
      of_lines = of_none wider.names wider.shape d.commands none;
      few = runs.few;
      called = record {
        have = slots_named_too d.names (last_channel d.channels).from slot (last_channel d.channels).to far_slot runs.named.listed (omega arith) (omega arith) apart runs.called.have new far_new;
        apart = All-set IsApart d.channels (length d.channels - 1) (with_one_more (next_tunnel d.channels last medium) last) apart runs.called.apart;
      };
    })

-- the slots of an `also` line have new names
also_news : (d : Declared) (words : List (List ℕ)) (slot far_slot : List ℕ) → least_broken (also_rules d words) ≡ None → slice_get words 1 ≡ Some slot → slice_get words 2 ≡ Some far_slot
    → IsNew (slot_names d.names (last_channel d.channels).from) slot × IsNew (slot_names d.names (last_channel d.channels).to) far_slot
also_news d words slot far_slot kept a b =
    let ends = last_channel d.channels in
    let near = is_misspelt (slice_get words 1) in
    let far = is_misspelt (slice_get words 2) in
    let given = has (slot_names d.names ends.from) (slice_get words 1) in
    let far_given = has (slot_names d.names ends.to) (slice_get words 2) in
    let long = is_overlong (slice_get words 1) in
    let far_long = is_overlong (slice_get words 2) in
    let spelt = last_of_five (is_late d section.Channels) (length d.channels == 0) (is_no spelt_medium (slice_get words 0)) near far
    (kept_at (also_rules d words) 0 (WRONG_WORD, is_late d section.Channels || length d.channels == 0 || is_no spelt_medium (slice_get words 0) || near || far) kept refl) in
    let news = or_parts given far_given (kept_at (also_rules d words) 3 (GIVEN_TWICE, given || far_given) kept refl) in
    let shorts = or_parts long far_long (kept_at (also_rules d words) 5 (NAME_TOO_LONG, long || far_long) kept refl) in
    (new_at (slot_names d.names ends.from) (slice_get words 1) slot a spelt.0 shorts.0 news.0, new_at (slot_names d.names ends.to) (slice_get words 2) far_slot b spelt.1 shorts.1 news.1)
  where
    last_of_five : (a b c e f : Bool) → (a || b || c || e || f) ≡ false → (e ≡ false) × (f ≡ false)
    last_of_five a b c e f none = (grind arith, grind arith)

also_runs : (d after : Declared) (words : List (List ℕ)) → IsRunnable d → least_broken (also_rules d words) ≡ None → also_after d words ≡ Some after → IsRunnable after
also_runs d after words runs kept means =
    let w = also_widens d after words means in
    let time = also_in_time d words kept in
    let new = also_news d words w.slot w.far_slot kept w.near_slot w.other_slot in
    subst (λ (x : Declared). IsRunnable x) (sym w.is) (widened_runs d w.medium w.slot w.far_slot runs (none_yet d section.Channels runs refl time.0) (no_programs_yet d section.Channels runs refl time.0) time.1 new.0 new.1)

-- ---- commands

-- one command more, where there is room
one_within : (commands : List Command) (it : Command) → nat_le COMMAND_LIMIT (length commands) ≡ false → length (commands ++ it ∷ []) ≤ COMMAND_LIMIT
one_within commands it room =
    let below : length commands < COMMAND_LIMIT = grind arith in
    omega (arith, length-append commands (it ∷ []))

-- where a command's line breaks no rule, no program is open that is unfinished
finished_before : (d : Declared) (kind : CommandWord) (words : List (List ℕ)) → least_broken (command_line_rules d kind words) ≡ None → is_unfinished d ≡ false
finished_before d kind words kept =
    let behind = (LIMIT_PASSED, nat_le COMMAND_LIMIT (length d.commands)) ∷ (UNFINISHED, is_unfinished d) ∷ [] in
    kept_at behind 1 (UNFINISHED, is_unfinished d) (all_behind (kind_rules d.names (shapes d) (Some kind) words) behind kept) refl

command_runs : (d after : Declared) (kind : CommandWord) (words : List (List ℕ)) → IsRunnable d → least_broken (command_line_rules d kind words) ≡ None → command_after d kind words ≡ Some after → IsRunnable after
command_runs d after kind words runs kept means =
    let behind = (LIMIT_PASSED, nat_le COMMAND_LIMIT (length d.commands)) ∷ (UNFINISHED, is_unfinished d) ∷ [] in
    let m = mapped (λ it. record d { section = section.Commands; commands = d.commands ++ it ∷ [] }) (command_by d.names (Some kind) words) after means in
    let finished = all_finished d.shape d.section d.blocks runs.laid (finished_before d kind words kept) in
    subst (λ (x : Declared). IsRunnable x) (sym m.2) (record {
      fits = runs.fits;
      named = runs.named;
      laid = laid_behind d.shape d.section section.Commands d.blocks runs.laid finished (omega arith);
      known = runs.known;
      counted = runs.counted;
      shaped = runs.shaped;
      joined = runs.joined;
      last = inr refl;
      of_lines = All-push (IsOfLine d.names d.shape) d.commands m.0 runs.of_lines
          (record { kind = kind; words = words; kept = all_before (kind_rules d.names d.shape (Some kind) words) behind kept; means = m.1 });
      few = one_within d.commands m.0 (has_room d kind words kept);
      called = runs.called;
    })

-- `begin`
begin_runs : (d : Declared) (words : List (List ℕ)) → IsRunnable d → least_broken (begin_rules d words) ≡ None → IsRunnable (begin_after d)
begin_runs d words runs kept =
    let finished = all_finished d.shape d.section d.blocks runs.laid (kept_at (begin_rules d words) 2 (UNFINISHED, is_unfinished d) kept refl) in
    record {
      fits = runs.fits;
      named = runs.named;
      laid = laid_behind d.shape d.section section.Commands d.blocks runs.laid finished (omega arith);
      known = runs.known;
      counted = runs.counted;
      shaped = runs.shaped;
      joined = runs.joined;
      last = inr refl;
      of_lines = runs.of_lines;
      few = runs.few;
      called = runs.called;
    }

-- ---- programs

not_not : (b : Bool) → not b ≡ false → b ≡ true
not_not true kept = refl
not_not false kept = absurd cc

-- the box of a `prog` line, which has no program yet, is a feature
no_owner : (d : Declared) (who : ℕ) → IsRunnable d → (shape_of d.shape who).programmed ≡ false → has_owner (owners d.blocks) who ≡ false
no_owner d who runs plain = sym (ap (λ (s : BoxShapeState). s.programmed) (runs.shaped.each who)) ∙ plain

program_runs : (d after : Declared) (words : List (List ℕ)) → IsRunnable d → least_broken (program_rules d words) ≡ None → program_after d words ≡ Some after → IsRunnable after
program_runs d after words runs kept means =
    let rules = program_rules d words in
    let box = box_named d.names (slice_get words 0) in
    let states = drop 1 words in
    let m = mapped (λ who. record d { section = section.Programs; shape = programmed_shape d.shape who; blocks = d.blocks ++ new_block who (drop 1 words) ∷ [] }) (box_named d.names (slice_get words 0)) after means in
    let late = is_late d section.Programs in
    let misspelt = list_any (λ word. not (is_spelt word)) states in
    let time = first_two_of_three late (is_no_feature d.shape box) misspelt (kept_at rules 1 (WRONG_WORD, late || is_no_feature d.shape box || misspelt) kept refl) in
    let feature = not_not (is_feature (shape_of d.shape m.0).kind) (at_box (λ o. is_no_feature d.shape o) box m.0 m.1 time.1) in
    let given = (or_parts (has_program d.shape box) (has_repeat states) (kept_at rules 3 (GIVEN_TWICE, has_program d.shape box || has_repeat states) kept refl)).0 in
    let plain : (shape_of d.shape m.0).programmed ≡ false = at_box (λ o. has_program d.shape o) box m.0 m.1 given in
    let finished = all_finished d.shape d.section d.blocks runs.laid (kept_at rules 5 (UNFINISHED, is_unfinished d) kept refl) in
    let named : m.0 < length d.names.boxes = named_within d.names.boxes (slice_get words 0) m.0 m.1 in
    let counted = runs.counted in
    let count = runs.shaped.count in
    let below : m.0 < length d.shape = omega arith in
    let none = none_yet d section.Programs runs refl time.0 in
    let more : owners (d.blocks ++ new_block m.0 (drop 1 words) ∷ []) ≡ owners d.blocks ++ m.0 ∷ [] = map-append (λ (block : BlockState). block.who) d.blocks (new_block m.0 (drop 1 words) ∷ []) in
    subst (λ (x : Declared). IsRunnable x) (sym m.2) (record {
      fits = fits_program d.names d.shape m.0 runs.fits;
      named = runs.named;
      laid = laid_more d.shape d.section d.blocks m.0 (drop 1 words) runs.laid finished below feature (no_owner d m.0 runs plain) (new_programs_fit d.names d.shape late (is_unfinished d) words m.0 kept);
      known = runs.known;
      counted = runs.counted;
      shaped = subst (λ (whos : List ℕ). AreShapes (programmed_shape d.shape m.0) d.boxes d.channels whos) (sym more) (program_shaped d.shape d.boxes d.channels (owners d.blocks) m.0 below runs.shaped);
      joined = runs.joined;
      last = inl none;
      of_lines = of_none d.names (programmed_shape d.shape m.0) d.commands none;
      few = runs.few;
      called = runs.called;
    })
  where
    first_two_of_three : (a b c : Bool) → (a || b || c) ≡ false → (a ≡ false) × (b ≡ false)
    first_two_of_three a b c none = (grind arith, grind arith)

    at_box : (test : Option ℕ → Bool) (box : Option ℕ) (who : ℕ) → box ≡ Some who → test box ≡ false → test (Some who) ≡ false
    at_box test box who is kept = subst (λ (o : Option ℕ). test o ≡ false) is kept

-- an open program becomes another of the same box, by a line in the section of programs
block_runs : (d : Declared) (names : NameLists) (block after : BlockState) → IsRunnable d → open_block d ≡ Some block → TellsMore d.names names → AreNames names.told → FitsIn d.shape after → after.who ≡ block.who → IsRunnable (with_block (record d { names = names }) after)
block_runs d names block after runs opened tells told fits same =
    let is = open_is_last d.section d.blocks block opened in
    let whos : owners (slice_set d.blocks (length d.blocks - 1) after) ≡ owners d.blocks = same_owners d.blocks (length d.blocks - 1) block after is.1 same in
    let none : d.commands ≡ [] = by is.0 runs.last in
    record {
      fits = record {
        boxes = runs.fits.boxes ∙ ap (λ (boxes : List (List ℕ)). length boxes) (sym tells.boxes);
        slots = λ who below. runs.fits.slots who (subst (λ (boxes : List (List ℕ)). who < length boxes) tells.boxes below) ∙ ap (λ (slots : List (List (List ℕ))). length (slice_index_or slots who [])) (sym tells.slots);
      };
      named = record {
        listed = ap (λ (slots : List (List (List ℕ))). length slots) tells.slots ∙ runs.named.listed ∙ ap (λ (boxes : List (List ℕ)). length boxes) (sym tells.boxes);
        boxes = runs.named.boxes ∙ ap (λ (boxes : List (List ℕ)). length boxes) (sym tells.boxes);
        slots = λ who. runs.named.slots who ∙ ap (λ (slots : List (List (List ℕ))). length (slice_index_or slots who [])) (sym tells.slots);
      };
      laid = laid_open d.shape d.section d.blocks block after runs.laid opened fits same;
      known = All-weaker (HasCodecs d.names) (HasCodecs names) (λ declared has. subst (λ (codecs : List (List ℕ)). All (λ codec. codec < length codecs) declared.receives) (sym tells.codecs) has) d.boxes runs.known;
      counted = runs.counted ∙ ap (λ (boxes : List (List ℕ)). length boxes) (sym tells.boxes);
      shaped = subst (λ (l : List ℕ). AreShapes d.shape d.boxes d.channels l) (sym whos) runs.shaped;
      joined = runs.joined;
      last = inl none;
      of_lines = of_none names d.shape d.commands none;
      few = runs.few;
      called = record {
        have = record {
          of_boxes = subst AreNames (sym tells.boxes) runs.called.have.of_boxes;
          of_slots = λ who below. subst (λ (slots : List (List (List ℕ))). AreNames (slice_index_or slots who [])) (sym tells.slots) (runs.called.have.of_slots who (subst (λ (boxes : List (List ℕ)). who < length boxes) tells.boxes below));
          of_told = told;
        };
        apart = runs.called.apart;
      };
    }
  where
    by : d.section ≡ section.Programs → (d.commands ≡ []) ⊎ (d.section ≡ section.Commands) → d.commands ≡ []
    by here (inl none) = none
    by here (inr there) = absurd (let clash : section.Programs ≡ section.Commands = sym here ∙ there in cc)

-- the open program is that of a box with a name, and fits
known_open : (d : Declared) (block : BlockState) → IsRunnable d → open_block d ≡ Some block → block.who < length d.names.boxes
known_open d block runs opened =
    let is = open_is_last d.section d.blocks block opened in
    let below : block.who < length d.shape = owner_there (λ who. who < length d.shape) d.blocks (length d.blocks - 1) block runs.laid.known is.1 in
    let counted = runs.counted in
    let count = runs.shaped.count in
    omega arith

fits_open : (d : Declared) (block : BlockState) → IsRunnable d → open_block d ≡ Some block → FitsIn d.shape block
fits_open d block runs opened = block_there (FitsIn d.shape) d.blocks (length d.blocks - 1) block runs.laid.fitting (open_is_last d.section d.blocks block opened).1

state_runs : (d after : Declared) (words : List (List ℕ)) → IsRunnable d → least_broken (state_rules d words) ≡ None → state_after d words ≡ Some after → IsRunnable after
state_runs d after words runs kept means =
    let m = mapped (λ block. with_block d (with_new_part d.names block)) (open_block d) after means in
    let late = is_late d section.Programs in
    let own : least_broken (new_part_rules late (Some m.0) words) ≡ None = subst (λ (o : Option BlockState). least_broken (new_part_rules (is_late d section.Programs) o words) ≡ None) m.1 kept in
    let fits = new_parts_fit d.names d.shape late m.0 words runs.fits (known_open d m.0 runs m.1) (fits_open d m.0 runs m.1) own in
    subst (λ (x : Declared). IsRunnable x) (sym m.2) (block_runs d d.names m.0 (with_new_part d.names m.0) runs m.1 (tells_none d.names) runs.called.have.of_told fits refl)

goal_runs : (d after : Declared) (words : List (List ℕ)) → IsRunnable d → least_broken (in_block (λ block. block_goal_rules d.names block words) (open_block d)) ≡ None
    → option_and_then (λ block. option_map (with_block d) (block_goal_after d.names block words)) (open_block d) ≡ Some after → IsRunnable after
goal_runs d after words runs kept means =
    let block = chained (λ block. option_map (with_block d) (block_goal_after d.names block words)) (open_block d) after means in
    let made = mapped (with_block d) (block_goal_after d.names block.0 words) after block.2 in
    let own : least_broken (block_goal_rules d.names block.0 words) ≡ None = subst (λ (o : Option BlockState). least_broken (in_block (λ block. block_goal_rules d.names block words) o) ≡ None) block.1 kept in
    let fits = goal_lines_fit d.names d.shape block.0 made.0 words runs.fits (known_open d block.0 runs block.1) (fits_open d block.0 runs block.1) own made.1 in
    subst (λ (x : Declared). IsRunnable x) (sym made.2) (block_runs d d.names block.0 made.0 runs block.1 (tells_none d.names) runs.called.have.of_told fits (goal_keeps_box d.names block.0 made.0 words made.1))

part_link_runs : (d after : Declared) (words : List (List ℕ)) → IsRunnable d → least_broken (program_link_rules d words) ≡ None → program_link_after d words ≡ Some after → IsRunnable after
part_link_runs d after words runs kept means =
    let block = chained (λ block. option_map (with_block d) (block_link_after d.names block words)) (open_block d) after means in
    let made = mapped (with_block d) (block_link_after d.names block.0 words) after block.2 in
    let own : least_broken (block_link_rules d.names d.shape block.0 words) ≡ None = subst (λ (o : Option BlockState). least_broken (in_block (λ block. block_link_rules d.names d.shape block words) o) ≡ None) block.1 kept in
    let fits = link_lines_fit d.names d.shape block.0 made.0 words runs.fits (known_open d block.0 runs block.1) (fits_open d block.0 runs block.1) own made.1 in
    subst (λ (x : Declared). IsRunnable x) (sym made.2) (block_runs d d.names block.0 made.0 runs block.1 (tells_none d.names) runs.called.have.of_told fits (link_keeps_box d.names block.0 made.0 words made.1))

when_runs : (d after : Declared) (words : List (List ℕ)) → IsRunnable d → least_broken (in_block (λ block. block_when_rules d.names block words) (open_block d)) ≡ None
    → option_and_then (λ block. when_after d block words) (open_block d) ≡ Some after → IsRunnable after
when_runs d after words runs kept means =
    let block = chained (λ block. when_after d block words) (open_block d) after means in
    let made = mapped (λ (after : NameLists × BlockState). with_block (record d { names = after.0 }) after.1) (block_when_after d.names block.0 words) after block.2 in
    let own : least_broken (block_when_rules d.names block.0 words) ≡ None = subst (λ (o : Option BlockState). least_broken (in_block (λ block. block_when_rules d.names block words) o) ≡ None) block.1 kept in
    let fits = when_lines_fit d.names d.shape block.0 made.0 words runs.fits (known_open d block.0 runs block.1) (fits_open d block.0 runs block.1) own made.1 in
    let told = when_names d.names block.0 made.0 words made.1 in
    subst (λ (x : Declared). IsRunnable x) (sym made.2) (block_runs d made.0.0 block.0 made.0.1 runs block.1 told.0 (when_told d.names block.0 made.0 words runs.called.have.of_told own made.1) fits told.1)

-- a line that a command's word opens: a part's line, or a command
word_runs : (d after : Declared) (of_part : Bool) (kind : CommandWord) (words : List (List ℕ)) → IsRunnable d → least_broken (if of_part then program_link_rules d words else command_line_rules d kind words) ≡ None
    → (if of_part then program_link_after d words else command_after d kind words) ≡ Some after → IsRunnable after
word_runs d after true kind words runs kept means = part_link_runs d after words runs kept means
word_runs d after false kind words runs kept means = command_runs d after kind words runs kept means

-- ---- each kind of line

kind_runs : (d after : Declared) (kind : Keyword) (words : List (List ℕ)) → IsRunnable d → least_broken (rules_by d (Some kind) words) ≡ None → after_by d (Some kind) words ≡ Some after → IsRunnable after
kind_runs d after keyword.Media words runs kept means = absurd cc
kind_runs d after keyword.Codec words runs kept means = codec_runs d after words runs kept means
kind_runs d after keyword.Dev words runs kept means = device_runs d after words runs kept means
kind_runs d after keyword.Feat words runs kept means = feature_runs d after words runs kept means
kind_runs d after keyword.Send words runs kept means = send_runs d after words runs kept means
kind_runs d after keyword.Chan words runs kept means = channel_runs d after words runs kept means
kind_runs d after keyword.Also words runs kept means = also_runs d after words runs kept means
kind_runs d after keyword.Prog words runs kept means = program_runs d after words runs kept means
kind_runs d after keyword.State words runs kept means = state_runs d after words runs kept means
kind_runs d after keyword.Goal words runs kept means = goal_runs d after words runs kept means
kind_runs d after keyword.When words runs kept means = when_runs d after words runs kept means
kind_runs d after keyword.Begin words runs kept means = let same : after ≡ begin_after d = cc in subst (λ (x : Declared). IsRunnable x) (sym same) (begin_runs d words runs kept)
kind_runs d after keyword.Journal words runs kept means = let same : after ≡ d = cc in subst (λ (x : Declared). IsRunnable x) (sym same) runs
kind_runs d after keyword.Grow words runs kept means = let same : after ≡ d = cc in subst (λ (x : Declared). IsRunnable x) (sym same) runs
kind_runs d after (keyword.Command kind) words runs kept means = word_runs d after (is_program_link d.section kind) kind words runs kept means

-- ---- whole lines and texts

by_kind : (d after : Declared) (kind : Option Keyword) (words : List (List ℕ)) → IsRunnable d → least_broken (rules_by d kind words) ≡ None → after_by d kind words ≡ Some after → IsRunnable after
by_kind d after None words runs kept means = absurd cc
by_kind d after (Some kind) words runs kept means = kind_runs d after kind words runs kept means

by_words : (d after : Declared) (ws : List (List ℕ)) (versioned : Bool) → IsRunnable d → least_broken (words_rules versioned d ws) ≡ None → words_after versioned d ws ≡ Some after → IsRunnable after
by_words d after ws false runs kept means = let same : after ≡ record d { versioned = true; sends_apart = is_second ws } = cc in subst (λ (x : Declared). IsRunnable x) (sym same) runs
by_words d after ws true runs kept means = by_kind d after (kind_of ws) (drop 1 ws) runs kept means

by_skipped : (d after : Declared) (ws : List (List ℕ)) (skipped : Bool) → IsRunnable d → least_broken (line_words_rules skipped d ws) ≡ None → unless_skipped skipped d (words_after d.versioned d ws) ≡ Some after → IsRunnable after
by_skipped d after ws true runs kept means = let same : after ≡ d = cc in subst (λ (x : Declared). IsRunnable x) (sym same) runs
by_skipped d after ws false runs kept means = by_words d after ws d.versioned runs kept means

words_kept : (total before : ℕ) (d : Declared) (line : List ℕ) → line_fault total before d line ≡ None → least_broken (line_words_rules (is_skipped (words line)) d (words line)) ≡ None
words_kept total before d line kept =
    let rest = line_words_rules (is_skipped (words line)) d (words line) in
    let strange = list_any (λ byte. not (is_plain byte)) line in
    others_kept 3 strange rest (others_kept 2 (nat_lt 256 (length line)) ((3, strange) ∷ rest) (others_kept 1 (passes_limit (text_limit d.tail) total before line) (byte_rules line ++ rest) kept))

line_runs : (total before : ℕ) (d after : Declared) (line : List ℕ) → IsRunnable d → line_fault total before d line ≡ None → line_after d line ≡ Some after → IsRunnable after
line_runs total before d after line runs kept means = by_skipped d after (words line) (is_skipped (words line)) runs (words_kept total before d line kept) means

runs_by : (tail : Tail) (total : ℕ) (all : List (List ℕ)) (k : ℕ) → AreSound tail total all k → IsRunnable (declared_by tail all k)
runs_by tail total all zero sound = nothing_runs tail
runs_by tail total all (suc k) sound = step (bytes_before all k) (declared_by tail all k) (slice_index_or all k []) (sound k (omega arith)) (runs_by tail total all k (λ j within. sound j (omega arith)))
  where
    step : (before : ℕ) (d : Declared) (line : List ℕ) → line_fault total before d line ≡ None → IsRunnable d → IsRunnable (unwrap_or (line_after d line) d)
    step before d line kept runs = by (line_after d line) refl
      where
        by : (o : Option Declared) → line_after d line ≡ o → IsRunnable (unwrap_or o d)
        by None e = runs
        by (Some after) e = line_runs total before d after line runs kept e

-- a text that is in the grammar
pub says_runnable : (tail : Tail) (text : List ℕ) (d : Declared) → Says tail text d → IsRunnable d
says_runnable tail text d says = subst (λ (x : Declared). IsRunnable x) (sym says.declared) (runs_by tail (length text) (text_lines tail text) (length (text_lines tail text)) says.sound)

-- whose programs are all finished
pub says_finished : (tail : Tail) (text : List ℕ) (d : Declared) → Says tail text d → AllFinished d.blocks
says_finished tail text d says =
    let runs : IsRunnable d = says_runnable tail text d says in
    let ended : end_fault d ≡ None = subst (λ (x : Declared). end_fault x ≡ None) (sym says.declared) says.ended in
    all_finished d.shape d.section d.blocks runs.laid (kept_at (end_rules d) 0 (UNFINISHED, is_unfinished d) ended refl)
