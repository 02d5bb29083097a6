-- The lines of commands of chains, each for a box at its place.
use Rattle.std.proofs.Common.{◌≡◌, ℕ, ◌+◌, ◌<◌, ◌≤◌, true, false, not, nat_lt, Option, Some, List, [], ◌∷◌, ◌++◌, codes, length, length-append, map, slice_index_or, refl, sym, ap, ◌∙◌, subst, append_assoc, append-nil, arith}
use Rattle.std.proofs.lemmas.List.{length-map, map-append}
use Rattle.std.specs.Option.{is_none, option_and_then, option_map}
use Rattle.mc_slot.specs.Moves.{is_same_medium}
use Rattle.mc_slot.specs.declared.Goal.{Goal}
use Rattle.mc_text.specs.NameLists.{place_of}
use Rattle.mc_box.specs.BoxShapes.{BoxShapeState, is_feature, no_shape, shape_of, slot_medium}
use Rattle.mc_box.specs.declared.event.Change.TheVariants.{End as NewEnd, Link as NewLink}
use Rattle.mc_box.specs.declared.event.Event.TheVariants.{Set}
use Rattle.mc_script.specs.Places.{are_same, lacks, lacks_slot, slot_named}
use Rattle.mc_script.specs.Rules.{differ_in_medium, is_no_feature, spelt_goal}
use Rattle.mc_script.specs.declared.command.Command.{Command}
use Rattle.mc_script.specs.declared.command.Command.TheVariants.{Stimulus, Settle}
use Rattle.mc_script.specs.declared.keyword.CommandWord.TheVariants as word
use Rattle.mc_lines.specs.Rules.{begin_rules, command_line_rules, is_unfinished, rank}
use Rattle.mc_lines.specs.SoFar.{Declared}
use Rattle.mc_lines.specs.declared.section.Section.{Section}
use Rattle.mc_lines.specs.declared.section.Section.TheVariants as section
use Rattle.mc_lines.specs.declared.tail.Tail.TheVariants.{Nothing}
use Rattle.mc_scene_laws.specs.ChainTexts.{eight_codecs, links_through}
use Rattle.mc_scene_laws.specs.Posts.{Post, channels_from, post_box, post_name, post_shape, post_slots}
use Rattle.mc_scene_laws.specs.SceneTexts.{sets_end}
use Rattle.mc_scene_laws.proofs.ChannelLines.{joined}
use Rattle.mc_scene_laws.proofs.Entering.{Enter, Enters}
use Rattle.mc_scene_laws.proofs.Kept.{is_below, none_broken, or_false}
use Rattle.mc_scene_laws.proofs.Ordered.{AreOrdered, post_is_found}
use Rattle.mc_scene_laws.proofs.Seams.{first_there}

-- the whole network of these boxes, with these commands
abbrev pub commanded : List Post → List Command → Declared
commanded all commands = record {
  tail = Nothing;
  section = section.Commands;
  versioned = true;
  sends_apart = false;
  begun = true;
  names = record { codecs = eight_codecs; boxes = map post_name all; slots = map post_slots all; told = [] };
  shape = map post_shape all;
  boxes = map post_box all;
  senders = [];
  channels = channels_from 0 all;
  blocks = [];
  commands = commands;
}

-- ---- `begin`

finished : (at : Section) (all : List Post) → is_unfinished (joined at all) ≡ false
finished section.Version all = refl
finished section.Codecs all = refl
finished section.Boxes all = refl
finished section.Channels all = refl
finished section.Programs all = refl
finished section.Begin all = refl
finished section.Commands all = refl

no_later : (n : ℕ) → nat_lt 3 n ≡ false → nat_lt 5 n ≡ false
no_later n early = grind arith

pub begin_enters : (at : Section) (all : List Post) → nat_lt (rank section.Channels) (rank at) ≡ false → Enters (joined at all) (codes "begin" ∷ []) (commanded all [])
begin_enters at all early = record {
  sound = none_broken (begin_rules (joined at all) []) (no_later (rank at) early, (refl, (finished at all, tt)));
  means = refl;
}

-- ---- lines and their commands

-- a line of these words adds this command
abbrev pub Spells : List Post → List (List ℕ) → Command → Type 0
Spells all some command = (commands : List Command) → length commands < 4096 → Enters (commanded all commands) some (commanded all (commands ++ command ∷ []))

abbrev pub SpellEach : List Post → List (List (List ℕ)) → List Command → Type 0
SpellEach all [] [] = Unit {0}
SpellEach all [] (command ∷ commands) = ⊥
SpellEach all (some ∷ lines) [] = ⊥
SpellEach all (some ∷ lines) (command ∷ commands) = Spells all some command × SpellEach all lines commands

pub spell-append : (all : List Post) (lines others : List (List (List ℕ))) (commands more : List Command) → SpellEach all lines commands → SpellEach all others more → SpellEach all (lines ++ others) (commands ++ more)
spell-append all [] others [] more one two = two
spell-append all [] others (command ∷ commands) more one two = absurd one
spell-append all (some ∷ lines) others [] more one two = absurd one
spell-append all (some ∷ lines) others (command ∷ commands) more one two = (one.0, spell-append all lines others commands more one.1 two)

-- such lines add all of these commands
pub spelt_enter : (all : List Post) (lines : List (List (List ℕ))) (commands before : List Command) → SpellEach all lines commands → length before + length commands ≤ 4096 → Enter (commanded all before) lines (commanded all (before ++ commands))
spelt_enter all [] [] before each few = ap (λ (l : List Command). commanded all l) (sym (append-nil before))
spelt_enter all [] (command ∷ commands) before each few = absurd each
spelt_enter all (some ∷ lines) [] before each few = absurd each
spelt_enter all (some ∷ lines) (command ∷ commands) before each few =
    let longer : length (before ++ command ∷ []) ≡ length before + 1 = omega (arith, length-append before (command ∷ [])) in
    let others = spelt_enter all lines commands (before ++ command ∷ []) each.1 (omega arith) in (
      commanded all (before ++ command ∷ []),
      each.0 before (omega arith),
      subst (λ (l : List Command). Enter (commanded all (before ++ command ∷ [])) lines (commanded all l)) (append_assoc before (command ∷ []) commands) others,
    )

pub settle_spelt : (all : List Post) → Spells all (codes "settle" ∷ []) Settle
settle_spelt all commands few = record {
  sound = none_broken (command_line_rules (commanded all commands) word.Settle []) (refl, (is_below (length commands) 4096 few, (refl, tt)));
  means = refl;
}

-- ---- a box at its place

module _ (all done : List Post) (post : Post) (rest : List Post) (is : all ≡ done ++ post ∷ rest) (ordered : AreOrdered 0 all) where
  found : place_of (map post_name all) (post_name post) ≡ Some (length done)
  found = ap (λ (posts : List Post). place_of (map post_name posts) (post_name post)) is ∙ post_is_found 0 done post rest (subst (λ (posts : List Post). AreOrdered 0 posts) is ordered)

  slots_there : slice_index_or (map post_slots all) (length done) [] ≡ post_slots post
  slots_there =
      ap (λ (posts : List Post). slice_index_or (map post_slots posts) (length done) []) is
      ∙ (ap (λ (l : List (List (List ℕ))). slice_index_or l (length done) []) (map-append post_slots done (post ∷ rest))
      ∙ first_there (map post_slots done) (map post_slots rest) (post_slots post) [] (length done) (sym (length-map done post_slots)))

  shape_there : shape_of (map post_shape all) (length done) ≡ post_shape post
  shape_there =
      ap (λ (posts : List Post). shape_of (map post_shape posts) (length done)) is
      ∙ (ap (λ (l : List BoxShapeState). shape_of l (length done)) (map-append post_shape done (post ∷ rest))
      ∙ first_there (map post_shape done) (map post_shape rest) (post_shape post) no_shape (length done) (sym (length-map done post_shape)))

  -- what a `set` line says, by the place of its box, by that box's slots, and by the goal
  abbrev set_by_box : List ℕ → Option ℕ → Option Command
  set_by_box goal place = option_and_then (λ who. option_and_then (λ local. option_map (λ it. Stimulus (record { who = who; event = it })) (option_map (λ goal. Set (NewEnd local goal)) (spelt_goal goal))) (place_of (slice_index_or (map post_slots all) who []) (codes "s"))) place

  abbrev set_by_slots : List ℕ → List (List ℕ) → Option Command
  set_by_slots goal slots = option_and_then (λ local. option_map (λ it. Stimulus (record { who = length done; event = it })) (option_map (λ goal. Set (NewEnd local goal)) (spelt_goal goal))) (place_of slots (codes "s"))

  abbrev set_by_goal : Option Goal → Option Command
  set_by_goal goal = option_map (λ it. Stimulus (record { who = length done; event = it })) (option_map (λ goal. Set (NewEnd 0 goal)) goal)

  -- the line of a goal of a device
  pub set_spelt : (word : List ℕ) (goal : Goal) → spelt_goal word ≡ Some goal → post_slots post ≡ codes "s" ∷ [] → Spells all (codes "set" ∷ post_name post ∷ codes "s" ∷ word ∷ []) (sets_end (length done) goal)
  set_spelt goal_word goal spelt one commands few = record {
    sound = none_broken (command_line_rules (commanded all commands) word.Set (post_name post ∷ codes "s" ∷ goal_word ∷ [])) (
      ap is_none found,
      (
        ap is_none spelt,
        (
          refl,
          (
            refl,
            (
              ap (λ (o : Option ℕ). lacks_slot (commanded all commands).names o (Some (codes "s"))) found ∙ ap (λ (slots : List (List ℕ)). lacks slots (Some (codes "s"))) (slots_there ∙ one),
              (is_below (length commands) 4096 few, (refl, tt)),
            ),
          ),
        ),
      ),
    );
    means = ap (λ (o : Option Command). option_map (λ it. commanded all (commands ++ it ∷ [])) o)
        (ap (set_by_box goal_word) found ∙ (ap (set_by_slots goal_word) (slots_there ∙ one) ∙ ap set_by_goal spelt));
  }

  abbrev link_by_box : Option ℕ → Option Command
  link_by_box place = option_and_then (λ who. option_and_then (λ local. option_map (λ it. Stimulus (record { who = who; event = it })) (option_map (λ other. Set (NewLink local other)) (slot_named (commanded all []).names place (Some (codes "e")))))
      (place_of (slice_index_or (map post_slots all) who []) (codes "w"))) place

  abbrev link_by_slots : List (List ℕ) → Option Command
  link_by_slots slots = option_and_then (λ local. option_map (λ it. Stimulus (record { who = length done; event = it })) (option_map (λ other. Set (NewLink local other)) (place_of slots (codes "e")))) (place_of slots (codes "w"))

  -- the line of the link of a feature
  pub link_spelt : post_slots post ≡ codes "w" ∷ codes "e" ∷ [] → is_feature (post_shape post).kind ≡ true → not (is_same_medium (slot_medium (post_shape post) 0) (slot_medium (post_shape post) 1)) ≡ false
      → Spells all (codes "link" ∷ post_name post ∷ codes "w" ∷ codes "e" ∷ []) (links_through (length done))
  link_spelt two feature media commands few = record {
    sound = none_broken (command_line_rules (commanded all commands) word.Link (post_name post ∷ codes "w" ∷ codes "e" ∷ [])) (
      ap is_none found,
      (
        ap (λ (o : Option ℕ). is_no_feature (map post_shape all) o) found ∙ (ap (λ (s : BoxShapeState). not (is_feature s.kind)) shape_there ∙ ap not feature),
        (
          refl,
          (
            refl,
            (
              or_false _ _
                  (ap (λ (o : Option ℕ). lacks_slot (commanded all commands).names o (Some (codes "w"))) found ∙ ap (λ (slots : List (List ℕ)). lacks slots (Some (codes "w"))) (slots_there ∙ two))
                  (ap (λ (o : Option ℕ). lacks_slot (commanded all commands).names o (Some (codes "e"))) found ∙ ap (λ (slots : List (List ℕ)). lacks slots (Some (codes "e"))) (slots_there ∙ two)),
              (
                ap (λ (o : Option ℕ). are_same (slot_named (commanded all commands).names o (Some (codes "w"))) (slot_named (commanded all commands).names o (Some (codes "e")))) found
                    ∙ ap (λ (slots : List (List ℕ)). are_same (place_of slots (codes "w")) (place_of slots (codes "e"))) (slots_there ∙ two),
                (
                  ap (λ (o : Option ℕ). differ_in_medium (map post_shape all) o (slot_named (commanded all commands).names o (Some (codes "w"))) (slot_named (commanded all commands).names o (Some (codes "e")))) found
                      ∙ (ap (λ (slots : List (List ℕ)). differ_in_medium (map post_shape all) (Some (length done)) (place_of slots (codes "w")) (place_of slots (codes "e"))) (slots_there ∙ two)
                      ∙ (ap (λ (s : BoxShapeState). not (is_same_medium (slot_medium s 0) (slot_medium s 1))) shape_there ∙ media)),
                  (is_below (length commands) 4096 few, (refl, tt)),
                ),
              ),
            ),
          ),
        ),
      ),
    );
    means = ap (λ (o : Option Command). option_map (λ it. commanded all (commands ++ it ∷ [])) o)
        (ap link_by_box found ∙ ap link_by_slots (slots_there ∙ two));
  }
