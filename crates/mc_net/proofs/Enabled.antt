-- A command whose line breaks no rule is enabled by the shape of its box, and what it is about has names.
use Rattle.std.proofs.Common.{◌≡◌, ℕ, ◌<◌, ◌==◌, ◌||◌, not, Bool, true, false, List, length, Option, Some, None, refl, arith}
use Rattle.std.proofs.lemmas.Bool.{or_parts}
use Rattle.std.specs.List.{slice_get}
use Rattle.std.specs.Option.{option_map}
use Rattle.mc_slot.specs.Moves.{is_same_medium}
use Rattle.mc_slot.specs.declared.Goal.{Goal}
use Rattle.mc_text.specs.NameLists.{NameLists, place_of, slot_names}
use Rattle.mc_box.specs.BoxShapes.{BoxShapeState, has_slot, is_device, is_enabled_by, is_feature, medium_at, shape_of}
use Rattle.mc_box.specs.declared.event.Change.TheVariants.{End as NewEnd, Link as NewLink}
use Rattle.mc_box.specs.declared.event.Event.{Event}
use Rattle.mc_box.specs.declared.event.Event.TheVariants.{Set, Media, Tell}
use Rattle.mc_box.specs.declared.event.MediaChange.TheVariants.{Hear, Talk}
use Rattle.mc_script.specs.Meaning.{at_slot, command_by}
use Rattle.mc_script.specs.Places.{Fits, are_same, box_named, is_no, slot_named, spelt_value}
use Rattle.mc_script.specs.Printed.{IsNamed, IsSlot}
use Rattle.mc_script.specs.Rules.{differ_in_medium, has_no_program, is_no_device, is_no_feature, kind_rules, least_broken, link_rules, media_rules, spelt_goal, spelt_switch, tell_rules}
use Rattle.mc_script.specs.declared.command.Command.{Command}
use Rattle.mc_script.specs.declared.command.Command.TheVariants.{Stimulus, Settle}
use Rattle.mc_script.specs.declared.keyword.CommandWord.{CommandWord}
use Rattle.mc_script.specs.declared.keyword.CommandWord.TheVariants as command
use Rattle.mc_script.specs.declared.rule.TheConstants.{SAME_SLOT, TWO_MEDIA, WRONG_WORD}
use Rattle.mc_program_lines.proofs.KeptRules.{kept_at}
use Rattle.mc_program_lines.proofs.Found.{named_within}

-- the command's box is there, and its shape enables the event
abbrev pub IsEnabled : NameLists → List BoxShapeState → Command → Type 0
IsEnabled names shape (Stimulus turn) = (turn.who < length names.boxes) × (is_enabled_by (shape_of shape turn.who) turn.event ≡ true)
IsEnabled names shape Settle = Unit {0}

-- the command is that of a line that breaks no rule
pub record IsOfLine (names : NameLists) (shape : List BoxShapeState) (it : Command) : Type 0 where
  pub kind : CommandWord
  pub words : List (List ℕ)
  pub kept : least_broken (kind_rules names shape (Some kind) words) ≡ None
  pub means : command_by names (Some kind) words ≡ Some it

-- the event of a box's slot that a line spells, by a value after them
record IsAt (X : Type 0) (names : NameLists) (words : List (List ℕ)) (value : Option X) (event : ℕ → X → Event) (it : Command) : Type 0 where
  who : ℕ
  local : ℕ
  spelt : X
  box : box_named names (slice_get words 0) ≡ Some who
  slot : slot_named names (Some who) (slice_get words 1) ≡ Some local
  third : value ≡ Some spelt
  is : it ≡ Stimulus (record { who = who; event = event local spelt })

at_slot_is : {X : Type 0} (names : NameLists) (words : List (List ℕ)) (value : Option X) (event : ℕ → X → Event) (it : Command) → at_slot names words (λ local. option_map (event local) value) ≡ Some it → IsAt X names words value event it
at_slot_is {X} names words value event it found = by (box_named names (slice_get words 0)) refl
  where
    by_value : (who : ℕ) → box_named names (slice_get words 0) ≡ Some who → (local : ℕ) → slot_named names (Some who) (slice_get words 1) ≡ Some local → (o : Option X) → value ≡ o → IsAt X names words value event it
    by_value who a local b None c = absurd (let none : None ≡ Some it = rw (a, b, c) at found in cc)
    by_value who a local b (Some spelt) c =
        let some : Some (Stimulus (record { who = who; event = event local spelt })) ≡ Some it = rw (a, b, c) at found in
        record { who = who; local = local; spelt = spelt; box = a; slot = b; third = c; is = cc }

    by_slot : (who : ℕ) → box_named names (slice_get words 0) ≡ Some who → (o : Option ℕ) → slot_named names (Some who) (slice_get words 1) ≡ o → IsAt X names words value event it
    by_slot who a None b = absurd (let none : None ≡ Some it = rw (a, b) at found in cc)
    by_slot who a (Some local) b = by_value who a local b value refl

    by : (o : Option ℕ) → box_named names (slice_get words 0) ≡ o → IsAt X names words value event it
    by None a = absurd (let none : None ≡ Some it = rw a at found in cc)
    by (Some who) a = by_slot who a (slot_named names (Some who) (slice_get words 1)) refl

-- a test that doesn't fail
not_not : (b : Bool) → not b ≡ false → b ≡ true
not_not true kept = refl
not_not false kept = absurd (cc)

module _ (names : NameLists) (shape : List BoxShapeState) (fits : Fits names shape) where
  -- a slot with a name is one of the box's shape
  slot_there : (who local : ℕ) → IsSlot names who local → has_slot (shape_of shape who) local ≡ true
  slot_there who local is =
      let same = fits.slots who is.0 in
      let known = is.1 in
      let there : local < length (shape_of shape who).media = omega arith in
      grind arith

  -- a slot that is found by its name is
  named_there : (words : List (List ℕ)) (k who local : ℕ) → box_named names (slice_get words 0) ≡ Some who → slot_named names (Some who) (slice_get words k) ≡ Some local → IsSlot names who local
  named_there words k who local box slot = (named_within names.boxes (slice_get words 0) who box, named_within (slot_names names who) (slice_get words k) local slot)

  set_enabled : (words : List (List ℕ)) (it : Command) → command_by names (Some command.Set) words ≡ Some it → IsEnabled names shape it
  set_enabled words it means =
      let at = at_slot_is names words (spelt_value spelt_goal (slice_get words 2)) (λ local (goal : Goal). Set (NewEnd local goal)) it means in
      let is = named_there words 1 at.who at.local at.box at.slot in
      rw at.is (is.0, slot_there at.who at.local is)

  -- the box of a line of `hear` or `talk` is a device
  is_a_device : (words : List (List ℕ)) (who : ℕ) → least_broken (media_rules names shape words) ≡ None → box_named names (slice_get words 0) ≡ Some who → is_device (shape_of shape who).kind ≡ true
  is_a_device words who kept box =
      let no_device = is_no_device shape (box_named names (slice_get words 0)) in
      let no_switch = is_no spelt_switch (slice_get words 2) in
      let kept_kind : is_no_device shape (box_named names (slice_get words 0)) ≡ false = (or_parts no_device no_switch (kept_at (media_rules names shape words) 1 (WRONG_WORD, no_device || no_switch) kept refl)).0 in
      not_not (is_device (shape_of shape who).kind) (rw box at kept_kind)

  hear_enabled : (words : List (List ℕ)) (it : Command) → least_broken (media_rules names shape words) ≡ None → command_by names (Some command.Hear) words ≡ Some it → IsEnabled names shape it
  hear_enabled words it kept means =
      let at = at_slot_is names words (spelt_value spelt_switch (slice_get words 2)) (λ local (on : Bool). Media (Hear local on)) it means in
      let is = named_there words 1 at.who at.local at.box at.slot in
      rw at.is (is.0, rw (is_a_device words at.who kept at.box, slot_there at.who at.local is) refl)

  talk_enabled : (words : List (List ℕ)) (it : Command) → least_broken (media_rules names shape words) ≡ None → command_by names (Some command.Talk) words ≡ Some it → IsEnabled names shape it
  talk_enabled words it kept means =
      let at = at_slot_is names words (spelt_value spelt_switch (slice_get words 2)) (λ local (on : Bool). Media (Talk local on)) it means in
      let is = named_there words 1 at.who at.local at.box at.slot in
      rw at.is (is.0, rw (is_a_device words at.who kept at.box, slot_there at.who at.local is) refl)

  -- the second slot of a link is one of the box
  far_slot : (words : List (List ℕ)) (who other : ℕ) → box_named names (slice_get words 0) ≡ Some who → slot_named names (box_named names (slice_get words 0)) (slice_get words 2) ≡ Some other → slot_named names (Some who) (slice_get words 2) ≡ Some other
  far_slot words who other box far = rw box at far

  -- a line that names two slots of a box links them
  linked_slots : (words : List (List ℕ)) (who local other : ℕ) → least_broken (link_rules names shape words) ≡ None → box_named names (slice_get words 0) ≡ Some who
      → slot_named names (Some who) (slice_get words 1) ≡ Some local → slot_named names (Some who) (slice_get words 2) ≡ Some other → IsEnabled names shape (Stimulus (record { who = who; event = Set (NewLink local other) }))
  linked_slots words who local other kept box slot far =
      let named = box_named names (slice_get words 0) in
      let first = slot_named names (box_named names (slice_get words 0)) (slice_get words 1) in
      let second = slot_named names (box_named names (slice_get words 0)) (slice_get words 2) in
      let near = named_there words 1 who local box slot in
      let there = named_there words 2 who other box far in
      let feature = not_not (is_feature (shape_of shape who).kind) (rw box at (kept_at (link_rules names shape words) 1 (WRONG_WORD, is_no_feature shape named) kept refl)) in
      let apart : (local == other) ≡ false = rw (box, slot, far) at (kept_at (link_rules names shape words) 5 (SAME_SLOT, are_same first second) kept refl) in
      let alike = not_not (is_same_medium (medium_at shape who local) (medium_at shape who other)) (rw (box, slot, far) at (kept_at (link_rules names shape words) 6 (TWO_MEDIA, differ_in_medium shape named first second) kept refl)) in
      (near.0, rw (feature, slot_there who local near, slot_there who other there, apart, alike) refl)

  link_enabled : (words : List (List ℕ)) (it : Command) → least_broken (link_rules names shape words) ≡ None → command_by names (Some command.Link) words ≡ Some it → IsEnabled names shape it
  link_enabled words it kept means =
      let at = at_slot_is names words (slot_named names (box_named names (slice_get words 0)) (slice_get words 2)) (λ local (other : ℕ). Set (NewLink local other)) it means in
      rw at.is (linked_slots words at.who at.local at.spelt kept at.box at.slot (far_slot words at.who at.spelt at.box at.third))

  tell_enabled : (words : List (List ℕ)) (it : Command) → least_broken (tell_rules names shape words) ≡ None → command_by names (Some command.Tell) words ≡ Some it → IsEnabled names shape it
  tell_enabled words it kept means = by (box_named names (slice_get words 0)) refl (spelt_value (place_of names.told) (slice_get words 1)) refl
    where
      by : (box : Option ℕ) → box_named names (slice_get words 0) ≡ box → (told : Option ℕ) → spelt_value (place_of names.told) (slice_get words 1) ≡ told → IsEnabled names shape it
      by None a told b = absurd (let none : None ≡ Some it = rw a at means in cc)
      by (Some who) a None b = absurd (let none : None ≡ Some it = rw (a, b) at means in cc)
      by (Some who) a (Some told) b =
          let some : Some (Stimulus (record { who = who; event = Tell told })) ≡ Some it = rw (a, b) at means in
          let is : it ≡ Stimulus (record { who = who; event = Tell told }) = cc in
          let no_program = has_no_program shape (box_named names (slice_get words 0)) in
          let programmed = not_not (shape_of shape who).programmed (rw a at (kept_at (tell_rules names shape words) 1 (WRONG_WORD, no_program) kept refl)) in
          rw is (named_within names.boxes (slice_get words 0) who a, programmed)

  by_kind : (kind : CommandWord) (words : List (List ℕ)) (it : Command) → least_broken (kind_rules names shape (Some kind) words) ≡ None → command_by names (Some kind) words ≡ Some it → IsEnabled names shape it
  by_kind command.Set words it kept means = set_enabled words it means
  by_kind command.Link words it kept means = link_enabled words it kept means
  by_kind command.Hear words it kept means = hear_enabled words it kept means
  by_kind command.Talk words it kept means = talk_enabled words it kept means
  by_kind command.Tell words it kept means = tell_enabled words it kept means
  by_kind command.Settle words it kept means = let is : it ≡ Settle = cc in rw is tt

  pub line_enabled : (it : Command) → IsOfLine names shape it → IsEnabled names shape it
  line_enabled it line = by_kind line.kind line.words it line.kept line.means

  -- ---- names

  tell_named : (words : List (List ℕ)) (it : Command) → command_by names (Some command.Tell) words ≡ Some it → IsNamed names it
  tell_named words it means = by (box_named names (slice_get words 0)) refl (spelt_value (place_of names.told) (slice_get words 1)) refl
    where
      by : (box : Option ℕ) → box_named names (slice_get words 0) ≡ box → (told : Option ℕ) → spelt_value (place_of names.told) (slice_get words 1) ≡ told → IsNamed names it
      by None a told b = absurd (let none : None ≡ Some it = rw a at means in cc)
      by (Some who) a None b = absurd (let none : None ≡ Some it = rw (a, b) at means in cc)
      by (Some who) a (Some told) b =
          let some : Some (Stimulus (record { who = who; event = Tell told })) ≡ Some it = rw (a, b) at means in
          let is : it ≡ Stimulus (record { who = who; event = Tell told }) = cc in
          rw is (named_within names.boxes (slice_get words 0) who a, named_within names.told (slice_get words 1) told b)

  named_by : (kind : CommandWord) (words : List (List ℕ)) (it : Command) → command_by names (Some kind) words ≡ Some it → IsNamed names it
  named_by command.Set words it means =
      let at = at_slot_is names words (spelt_value spelt_goal (slice_get words 2)) (λ local (goal : Goal). Set (NewEnd local goal)) it means in
      rw at.is (named_there words 1 at.who at.local at.box at.slot)
  named_by command.Link words it means =
      let at = at_slot_is names words (slot_named names (box_named names (slice_get words 0)) (slice_get words 2)) (λ local (other : ℕ). Set (NewLink local other)) it means in
      rw at.is (named_there words 1 at.who at.local at.box at.slot, named_there words 2 at.who at.spelt at.box (far_slot words at.who at.spelt at.box at.third))
  named_by command.Hear words it means =
      let at = at_slot_is names words (spelt_value spelt_switch (slice_get words 2)) (λ local (on : Bool). Media (Hear local on)) it means in
      rw at.is (named_there words 1 at.who at.local at.box at.slot)
  named_by command.Talk words it means =
      let at = at_slot_is names words (spelt_value spelt_switch (slice_get words 2)) (λ local (on : Bool). Media (Talk local on)) it means in
      rw at.is (named_there words 1 at.who at.local at.box at.slot)
  named_by command.Tell words it means = tell_named words it means
  named_by command.Settle words it means = let is : it ≡ Settle = cc in rw is tt

  -- its box, slots and word have names
  pub line_named : (it : Command) → IsOfLine names shape it → IsNamed names it
  line_named it line = named_by line.kind line.words it line.means
