-- A line of a program that breaks no rule keeps that the program fits the slots of its box.
use Rattle.std.proofs.Common.{◌≡◌, ◌≢◌, ℕ, zero, suc, ◌+◌, ◌-◌, ◌<◌, ◌≤◌, ◌==◌, ◌||◌, not, Bool, true, false, nat_le, nat_lt, List, [], ◌∷◌, ◌++◌, drop, length, Option, Some, None, slice_index_or, slice_set, refl, sym, ap, ◌∙◌, subst, arith, length-append}
use Rattle.std.specs.List.{slice_get}
use Rattle.std.specs.Option.{is_none, is_some, option_map}
use Rattle.std.proofs.lemmas.Bool.{or_parts}
use Rattle.std.proofs.lemmas.List.{get_or-set_other, length-replicate, length-set}
use Rattle.std.proofs.lemmas.List.Elements.{All-nil, All-push, All-set}
use Rattle.mc_signal.specs.declared.Medium.{Medium}
use Rattle.mc_signal.specs.declared.Medium.TheVariants.{Audio, Video}
use Rattle.mc_slot.specs.Moves.{is_same_medium}
use Rattle.mc_slot.specs.declared.Goal.{Goal}
use Rattle.mc_slot.specs.declared.SlotGoal.{SlotGoal}
use Rattle.mc_slot.specs.declared.SlotGoal.TheVariants.{End, Link}
use Rattle.mc_slot.specs.declared.State.{State}
use Rattle.mc_rule.specs.Programs.{NamesSlot}
use Rattle.mc_rule.specs.declared.Guard.TheVariants.{SlotIs, Told}
use Rattle.mc_rule.specs.declared.Rule.{Rule}
use Rattle.mc_text.specs.NameLists.{NameLists, place_of, slot_names, with_told_word}
use Rattle.mc_box.specs.BoxShapes.{BoxShapeState, medium_at, shape_of}
use Rattle.mc_script.specs.Places.{are_same, slot_named, spelt_value}
use Rattle.mc_script.specs.Rules.{differ_in_medium, least_broken, spelt_goal}
use Rattle.mc_script.specs.declared.rule.TheConstants.{GIVEN_TWICE, LIMIT_PASSED, MISSING_WORD, SAME_SLOT, TWO_MEDIA, UNFINISHED, WRONG_WORD}
use Rattle.mc_program_lines.specs.BlockLaws.{FitsIn, GoalLinesFit, LinkLinesFit, NewPartsFit, NewProgramsFit, WhenLinesFit}
use Rattle.mc_program_lines.specs.Finished.{FitsMedia, FitsPart}
use Rattle.mc_program_lines.specs.Programs.{BlockState, PartState, goal_rules, has_goal, has_no_room, in_part, is_not_next, is_other, is_transition, lacks_goal, new_part, new_part_rules, new_program_rules, open_part_of, part_goal_after, part_lacks_goal, part_link_after, part_link_rules, part_when_after, part_with_goal, spelt_state, told_after, told_place, waits_for, when_is_rules, when_kind_after, when_kind_rules, when_rules, when_told_rules, with_part, with_transition}
use Rattle.mc_program_lines.specs.declared.part.WaitWord.{WaitWord}
use Rattle.mc_program_lines.specs.declared.part.WaitWord.TheVariants as waits
use Rattle.mc_program_lines.specs.declared.limit.TheConstants.{STATE_LIMIT, TRANSITION_LIMIT}
use Rattle.mc_program_lines.proofs.Found.{chained, mapped, named_within}
use Rattle.mc_program_lines.proofs.KeptRules.{kept_at}
use Rattle.mc_program_lines.proofs.Pairs.{end_paired, link_paired}

-- ---- a new program

-- a second word leaves one after the first
one_behind : (words : List (List ℕ)) → is_none (slice_get words 1) ≡ false → 0 < length (drop 1 words)
one_behind [] there = absurd cc
one_behind (first ∷ []) there = absurd cc
one_behind (first ∷ second ∷ others) there = omega arith

at_most : (limit count : ℕ) → nat_lt limit count ≡ false → count ≤ limit
at_most limit count kept = grind arith

pub new_programs_fit : NewProgramsFit
new_programs_fit names shape late unfinished words who kept = record {
  some = one_behind words (kept_at (new_program_rules names shape late unfinished words) 2 (MISSING_WORD, is_none (slice_get words 1)) kept refl);
  few = at_most STATE_LIMIT (length (drop 1 words)) (kept_at (new_program_rules names shape late unfinished words) 4 (LIMIT_PASSED, nat_lt STATE_LIMIT (length (drop 1 words))) kept refl);
  begun = omega arith;
  each = All-nil (FitsPart (shape_of shape who).media (length (drop 1 words)));
  whole = λ k below. absurd (omega arith);
}

-- ---- a new part

-- what is read at a place is there
read_there : {A : Type 0} (xs : List A) (k : ℕ) (x d : A) → slice_get xs k ≡ Some x → (k < length xs) × (slice_index_or xs k d ≡ x)
read_there [] k x d there = absurd cc
read_there (y ∷ ys) zero x d there = (omega arith, cc)
read_there (y ∷ ys) (suc k) x d there = let rest = read_there ys k x d there in (omega (arith, rest.0), rest.1)

-- a word that is the next state is one of the states
next_there : (states : List (List ℕ)) (parts : ℕ) (word : List ℕ) → is_other (slice_get states parts) word ≡ false → parts < length states
next_there states parts word kept = by (slice_get states parts) refl
  where
    by : (o : Option (List ℕ)) → slice_get states parts ≡ o → parts < length states
    by None e = absurd (let clash : true ≡ false = rw e at kept in cc)
    by (Some next) e = (read_there states parts next [] e).0

-- so where a line names a state, there is a next one
a_state_left : (late : Bool) (block : BlockState) (word : Option (List ℕ)) → (late || is_not_next (Some block) word) ≡ false → is_none word ≡ false → length block.parts < length block.states
a_state_left late block None kept there = absurd cc
a_state_left late block (Some word) kept there = next_there block.states (length block.parts) word (or_parts late (is_other (slice_get block.states (length block.parts)) word) kept).1

no_goal_yet : (n k : ℕ) → slice_index_or (new_part n).goals k None ≡ None
no_goal_yet zero k = refl
no_goal_yet (suc n) zero = refl
no_goal_yet (suc n) (suc k) = no_goal_yet n k

new_part_fits : (media : List Medium) (slots states : ℕ) → length media ≡ slots → FitsPart media states (new_part slots)
new_part_fits media slots states same = record {
  goals = length-replicate slots None ∙ sym same;
  links = λ local goal is. absurd (let clash : None ≡ Some goal = sym (no_goal_yet slots local) ∙ is in cc);
  few = omega arith;
  targets = All-nil (λ rule. rule.target < states);
  guards = All-nil (λ rule. NamesSlot (length media) rule.guard);
}

-- the last of two or more is the last without the first
pub last_behind : (one two : PartState) (parts : List PartState) → slice_get (one ∷ two ∷ parts) (length (one ∷ two ∷ parts) - 1) ≡ slice_get (two ∷ parts) (length (two ∷ parts) - 1)
last_behind one two parts =
    let place : length (one ∷ two ∷ parts) - 1 ≡ suc (length (two ∷ parts) - 1) = omega arith in
    ap (λ (n : ℕ). slice_get (one ∷ two ∷ parts) n) place

-- the part that was open is whole, and so are those before it
whole_before : (parts : List PartState) (more : PartState) → ((k : ℕ) → k + 1 < length parts → lacks_goal (slice_index_or parts k (new_part 0)) ≡ false) → part_lacks_goal (slice_get parts (length parts - 1)) ≡ false
    → (k : ℕ) → k + 1 < length (parts ++ more ∷ []) → lacks_goal (slice_index_or (parts ++ more ∷ []) k (new_part 0)) ≡ false
whole_before [] more whole last k below = absurd (omega arith)
whole_before (one ∷ []) more whole last zero below = last
whole_before (one ∷ []) more whole last (suc k) below = absurd (omega arith)
whole_before (one ∷ two ∷ parts) more whole last zero below = whole 0 (omega arith)
whole_before (one ∷ two ∷ parts) more whole last (suc k) below = whole_before (two ∷ parts) more (λ j within. whole (suc j) (omega arith)) (subst (λ (o : Option PartState). part_lacks_goal o ≡ false) (last_behind one two parts) last) k (omega arith)

pub new_parts_fit : NewPartsFit
new_parts_fit names shape late block words fits known form kept =
    let media : List Medium = (shape_of shape block.who).media in
    let slots : ℕ = length (slot_names names block.who) in
    let rules = new_part_rules late (Some block) words in
    let left : length block.parts < length block.states = a_state_left late block (slice_get words 0) (kept_at rules 0 (WRONG_WORD, late || is_not_next (Some block) (slice_get words 0)) kept refl) (kept_at rules 1 (MISSING_WORD, is_none (slice_get words 0)) kept refl) in
    let whole = kept_at rules 3 (UNFINISHED, part_lacks_goal (open_part_of block)) kept refl in
    record {
      some = form.some;
      few = form.few;
      begun = omega (arith, length-append block.parts (new_part slots ∷ []));
      each = All-push (FitsPart (shape_of shape block.who).media (length block.states)) block.parts (new_part slots) form.each (new_part_fits media slots (length block.states) (fits.slots block.who known));
      whole = whole_before block.parts (new_part slots) form.whole whole;
    }

-- ---- another open part

-- the open part is one of the parts, and fits
opened_fits : (media : List Medium) (block : BlockState) (part : PartState) → FitsMedia media block → open_part_of block ≡ Some part → FitsPart media (length block.states) part
opened_fits media block part form opened =
    let there = read_there block.parts (length block.parts - 1) part (new_part 0) opened in
    subst (λ (p : PartState). FitsPart media (length block.states) p) there.1 (form.each (length block.parts - 1) (new_part 0) there.0)

-- it becomes another that fits
part_replaced : (media : List Medium) (block : BlockState) (part : PartState) → FitsMedia media block → FitsPart media (length block.states) part → FitsMedia media (with_part block part)
part_replaced media block part form fits = record {
  some = form.some;
  few = form.few;
  begun = let same = length-set block.parts (length block.parts - 1) part in let begun = form.begun in omega arith;
  each = All-set (FitsPart media (length block.states)) block.parts (length block.parts - 1) part fits form.each;
  whole = λ k below.
      let same : length (slice_set block.parts (length block.parts - 1) part) ≡ length block.parts = length-set block.parts (length block.parts - 1) part in
      let within : k + 1 < length block.parts = omega arith in
      let apart : k ≢ length block.parts - 1 = omega arith in
      subst (λ (p : PartState). lacks_goal p ≡ false) (sym (get_or-set_other block.parts (length block.parts - 1) k part (new_part 0) apart)) (form.whole k within);
}

-- ---- `goal`

free_at : (part : PartState) (local : ℕ) → is_some (slice_index_or part.goals local None) ≡ false → slice_index_or part.goals local None ≡ None
free_at part local kept = by (slice_index_or part.goals local None) refl
  where
    by : (o : Option SlotGoal) → slice_index_or part.goals local None ≡ o → slice_index_or part.goals local None ≡ None
    by None e = e
    by (Some goal) e = absurd (let clash : true ≡ false = rw e at kept in cc)

not_given : (part : PartState) (found : Option ℕ) (local : ℕ) → found ≡ Some local → has_goal part found ≡ false → is_some (slice_index_or part.goals local None) ≡ false
not_given part found local is kept = rw is at kept

part_goal_fits : (names : NameLists) (media : List Medium) (who states : ℕ) (part after : PartState) (words : List (List ℕ)) → length media ≡ length (slot_names names who) → FitsPart media states part
    → least_broken (goal_rules names who part words) ≡ None → part_goal_after names who part words ≡ Some after → FitsPart media states after
part_goal_fits names media who states part after words count form kept means =
    let slot = chained (λ local. option_map (λ goal. part_with_goal part local (End goal)) (spelt_value spelt_goal (slice_get words 1))) (slot_named names (Some who) (slice_get words 0)) after means in
    let goal = mapped (λ (goal : Goal). part_with_goal part slot.0 (End goal)) (spelt_value spelt_goal (slice_get words 1)) after slot.2 in
    let below : slot.0 < length (slot_names names who) = named_within (slot_names names who) (slice_get words 0) slot.0 slot.1 in
    let counted = form.goals in
    let within : slot.0 < length part.goals = omega arith in
    let given = not_given part (slot_named names (Some who) (slice_get words 0)) slot.0 slot.1 (kept_at (goal_rules names who part words) 3 (GIVEN_TWICE, has_goal part (slot_named names (Some who) (slice_get words 0))) kept refl) in
    subst (λ (p : PartState). FitsPart media states p) (sym goal.2) (record {
      goals = length-set part.goals slot.0 (Some (End goal.0)) ∙ form.goals;
      links = end_paired media part.goals slot.0 goal.0 form.links within (free_at part slot.0 given);
      few = form.few;
      targets = form.targets;
      guards = form.guards;
    })

pub goal_lines_fit : GoalLinesFit
goal_lines_fit names shape block after words fits known form kept means =
    let media : List Medium = (shape_of shape block.who).media in
    let last = chained (λ part. option_map (with_part block) (part_goal_after names block.who part words)) (open_part_of block) after means in
    let made = mapped (with_part block) (part_goal_after names block.who last.0 words) after last.2 in
    let own : least_broken (goal_rules names block.who last.0 words) ≡ None = subst (λ (o : Option PartState). least_broken (in_part (λ part. goal_rules names block.who part words) o) ≡ None) last.1 kept in
    subst (λ (b : BlockState). FitsIn shape b) (sym made.2)
    (part_replaced media block made.0 form (part_goal_fits names media block.who (length block.states) last.0 made.0 words (fits.slots block.who known) (opened_fits media block last.0 form last.1) own made.1))

-- ---- `link`

not_same : (a b : ℕ) → (a == b) ≡ false → a ≢ b
not_same a b kept = grind arith

same_medium : (a b : Medium) → not (is_same_medium a b) ≡ false → a ≡ b
same_medium Audio Audio kept = refl
same_medium Video Video kept = refl
same_medium Audio Video kept = absurd cc
same_medium Video Audio kept = absurd cc

not_one : (one two : Option ℕ) (a b : ℕ) → one ≡ Some a → two ≡ Some b → are_same one two ≡ false → (a == b) ≡ false
not_one one two a b near far kept = rw (near, far) at kept

not_two_media : (shape : List BoxShapeState) (who : ℕ) (one two : Option ℕ) (a b : ℕ) → one ≡ Some a → two ≡ Some b → differ_in_medium shape (Some who) one two ≡ false → not (is_same_medium (medium_at shape who a) (medium_at shape who b)) ≡ false
not_two_media shape who one two a b near far kept = rw (near, far) at kept

part_link_fits : (names : NameLists) (shape : List BoxShapeState) (who states : ℕ) (part after : PartState) (words : List (List ℕ)) → length (shape_of shape who).media ≡ length (slot_names names who) → FitsPart (shape_of shape who).media states part
    → least_broken (part_link_rules names shape who part words) ≡ None → part_link_after names who part words ≡ Some after → FitsPart (shape_of shape who).media states after
part_link_fits names shape who states part after words count form kept means =
    let media : List Medium = (shape_of shape who).media in
    let rules = part_link_rules names shape who part words in
    let one = slot_named names (Some who) (slice_get words 0) in
    let two = slot_named names (Some who) (slice_get words 1) in
    let near = chained (λ a. option_map (λ b. part_with_goal (part_with_goal part a (Link b)) b (Link a)) (slot_named names (Some who) (slice_get words 1))) (slot_named names (Some who) (slice_get words 0)) after means in
    let far = mapped (λ (b : ℕ). part_with_goal (part_with_goal part near.0 (Link b)) b (Link near.0)) (slot_named names (Some who) (slice_get words 1)) after near.2 in
    let counted = form.goals in
    let near_below : near.0 < length (slot_names names who) = named_within (slot_names names who) (slice_get words 0) near.0 near.1 in
    let far_below : far.0 < length (slot_names names who) = named_within (slot_names names who) (slice_get words 1) far.0 far.1 in
    let given = or_parts (has_goal part one) (has_goal part two) (kept_at rules 2 (GIVEN_TWICE, has_goal part one || has_goal part two) kept refl) in
    let near_given = not_given part one near.0 near.1 given.0 in
    let far_given = not_given part two far.0 far.1 given.1 in
    let apart = not_one one two near.0 far.0 near.1 far.1 (kept_at rules 4 (SAME_SLOT, are_same one two) kept refl) in
    let alike = not_two_media shape who one two near.0 far.0 near.1 far.1 (kept_at rules 5 (TWO_MEDIA, differ_in_medium shape (Some who) one two) kept refl) in
    subst (λ (p : PartState). FitsPart (shape_of shape who).media states p) (sym far.2) (record {
      goals = length-set (slice_set part.goals near.0 (Some (Link far.0))) far.0 (Some (Link near.0)) ∙ length-set part.goals near.0 (Some (Link far.0)) ∙ form.goals;
      links = link_paired media part.goals near.0 far.0 form.links (omega arith) (omega arith) (not_same near.0 far.0 apart) (free_at part near.0 near_given) (free_at part far.0 far_given)
          (same_medium (medium_at shape who near.0) (medium_at shape who far.0) alike);
      few = form.few;
      targets = form.targets;
      guards = form.guards;
    })

pub link_lines_fit : LinkLinesFit
link_lines_fit names shape block after words fits known form kept means =
    let media : List Medium = (shape_of shape block.who).media in
    let last = chained (λ part. option_map (with_part block) (part_link_after names block.who part words)) (open_part_of block) after means in
    let made = mapped (with_part block) (part_link_after names block.who last.0 words) after last.2 in
    let own : least_broken (part_link_rules names shape block.who last.0 words) ≡ None = subst (λ (o : Option PartState). least_broken (in_part (λ part. part_link_rules names shape block.who part words) o) ≡ None) last.1 kept in
    subst (λ (b : BlockState). FitsIn shape b) (sym made.2)
    (part_replaced media block made.0 form (part_link_fits names shape block.who (length block.states) last.0 made.0 words (fits.slots block.who known) (opened_fits media block last.0 form last.1) own made.1))

-- ---- `when`

room_left : (count : ℕ) → nat_le TRANSITION_LIMIT count ≡ false → count + 1 ≤ TRANSITION_LIMIT
room_left count kept = grind arith

-- a transition more
transition_fits : (media : List Medium) (states : ℕ) (part : PartState) (rule : Rule) → FitsPart media states part → nat_le TRANSITION_LIMIT (length part.transitions) ≡ false → rule.target < states → NamesSlot (length media) rule.guard
    → FitsPart media states (with_transition part rule)
transition_fits media states part rule form room target guard = record {
  goals = form.goals;
  links = form.links;
  few = let room = room_left (length part.transitions) room in omega (arith, length-append part.transitions (rule ∷ []));
  targets = All-push (λ rule. rule.target < states) part.transitions rule form.targets target;
  guards = All-push (λ rule. NamesSlot (length media) rule.guard) part.transitions rule form.guards guard;
}

-- what a `when is` line adds
record IsWhenIs (names : NameLists) (who : ℕ) (states words : List (List ℕ)) (rule : Rule) : Type 0 where
  local : ℕ
  in_state : State
  target : ℕ
  slot : slot_named names (Some who) (slice_get words 0) ≡ Some local
  leads : spelt_value (place_of states) (slice_get words 2) ≡ Some target
  is : rule ≡ record { guard = SlotIs local in_state; target = target }

when_is : (names : NameLists) (who : ℕ) (states words : List (List ℕ)) (rule : Rule) → is_transition names who states words ≡ Some rule → IsWhenIs names who states words rule
when_is names who states words rule means = by (slot_named names (Some who) (slice_get words 0)) refl (spelt_value spelt_state (slice_get words 1)) refl (spelt_value (place_of states) (slice_get words 2)) refl
  where
    by : (local : Option ℕ) → slot_named names (Some who) (slice_get words 0) ≡ local → (in_state : Option State) → spelt_value spelt_state (slice_get words 1) ≡ in_state → (target : Option ℕ) → spelt_value (place_of states) (slice_get words 2) ≡ target → IsWhenIs names who states words rule
    by None a in_state b target c = absurd (let none : None ≡ Some rule = rw a at means in cc)
    by (Some local) a None b target c = absurd (let none : None ≡ Some rule = rw (a, b) at means in cc)
    by (Some local) a (Some in_state) b None c = absurd (let none : None ≡ Some rule = rw (a, b, c) at means in cc)
    by (Some local) a (Some in_state) b (Some target) c =
        let some : Some (record { guard = SlotIs local in_state; target = target }) ≡ Some rule = rw (a, b, c) at means in
        record { local = local; in_state = in_state; target = target; slot = a; leads = c; is = cc }

when_is_fits : (names : NameLists) (media : List Medium) (who : ℕ) (states : List (List ℕ)) (part : PartState) (after : NameLists × PartState) (words : List (List ℕ)) → length media ≡ length (slot_names names who) → FitsPart media (length states) part
    → least_broken (when_is_rules names who states part words) ≡ None → option_map (λ transition. (names, with_transition part transition)) (is_transition names who states words) ≡ Some after → FitsPart media (length states) after.1
when_is_fits names media who states part after words count form kept means =
    let made = mapped (λ (transition : Rule). (names, with_transition part transition)) (is_transition names who states words) after means in
    let w = when_is names who states words made.0 made.1 in
    let room = kept_at (when_is_rules names who states part words) 5 (LIMIT_PASSED, nat_le TRANSITION_LIMIT (length part.transitions)) kept refl in
    let below : w.local < length (slot_names names who) = named_within (slot_names names who) (slice_get words 0) w.local w.slot in
    let inside : w.local < length media = omega arith in
    let target : w.target < length states = named_within states (slice_get words 2) w.target w.leads in
    subst (λ (p : NameLists × PartState). FitsPart media (length states) p.1) (sym made.2)
    (subst (λ (rule : Rule). FitsPart media (length states) (with_transition part rule)) (sym w.is) (transition_fits media (length states) part (record { guard = SlotIs w.local w.in_state; target = w.target }) form room target inside))

-- what a `when told` line adds
record IsWhenTold (names : NameLists) (states : List (List ℕ)) (part : PartState) (words : List (List ℕ)) (after : NameLists × PartState) : Type 0 where
  word : List ℕ
  target : ℕ
  leads : spelt_value (place_of states) (slice_get words 1) ≡ Some target
  is : after ≡ (with_told_word names word, with_transition part (record { guard = Told (told_place names word); target = target }))

when_told : (names : NameLists) (states : List (List ℕ)) (part : PartState) (words : List (List ℕ)) (after : NameLists × PartState) → told_after names states part words ≡ Some after → IsWhenTold names states part words after
when_told names states part words after means = by (slice_get words 0) refl (spelt_value (place_of states) (slice_get words 1)) refl
  where
    by : (word : Option (List ℕ)) → slice_get words 0 ≡ word → (target : Option ℕ) → spelt_value (place_of states) (slice_get words 1) ≡ target → IsWhenTold names states part words after
    by None a target b = absurd (let none : None ≡ Some after = rw a at means in cc)
    by (Some word) a None b = absurd (let none : None ≡ Some after = rw (a, b) at means in cc)
    by (Some word) a (Some target) b =
        let some : Some (with_told_word names word, with_transition part (record { guard = Told (told_place names word); target = target })) ≡ Some after = rw (a, b) at means in
        record { word = word; target = target; leads = b; is = cc }

when_told_fits : (names : NameLists) (media : List Medium) (states : List (List ℕ)) (part : PartState) (after : NameLists × PartState) (words : List (List ℕ)) → FitsPart media (length states) part
    → least_broken (when_told_rules names states part words) ≡ None → told_after names states part words ≡ Some after → FitsPart media (length states) after.1
when_told_fits names media states part after words form kept means =
    let w = when_told names states part words after means in
    let full = nat_le TRANSITION_LIMIT (length part.transitions) in
    let no_room = has_no_room names (slice_get words 0) in
    let room = (or_parts full no_room (kept_at (when_told_rules names states part words) 4 (LIMIT_PASSED, full || no_room) kept refl)).0 in
    let target : w.target < length states = named_within states (slice_get words 1) w.target w.leads in
    subst (λ (p : NameLists × PartState). FitsPart media (length states) p.1) (sym w.is)
    (transition_fits media (length states) part (record { guard = Told (told_place names w.word); target = w.target }) form room target tt)

kind_fits : (names : NameLists) (media : List Medium) (who : ℕ) (states : List (List ℕ)) (part : PartState) (kind : Option WaitWord) (after : NameLists × PartState) (words : List (List ℕ)) → length media ≡ length (slot_names names who) → FitsPart media (length states) part
    → least_broken (when_kind_rules names who states part kind words) ≡ None → when_kind_after names who states part kind words ≡ Some after → FitsPart media (length states) after.1
kind_fits names media who states part None after words count form kept means = absurd cc
kind_fits names media who states part (Some waits.Is) after words count form kept means = when_is_fits names media who states part after words count form kept means
kind_fits names media who states part (Some waits.Told) after words count form kept means = when_told_fits names media states part after words form kept means

part_when_fits : (names : NameLists) (media : List Medium) (who : ℕ) (states : List (List ℕ)) (part : PartState) (after : NameLists × PartState) (words : List (List ℕ)) → length media ≡ length (slot_names names who) → FitsPart media (length states) part
    → least_broken (when_rules names who states part words) ≡ None → part_when_after names who states part words ≡ Some after → FitsPart media (length states) after.1
part_when_fits names media who states part after [] count form kept means = absurd cc
part_when_fits names media who states part after (first ∷ others) count form kept means = kind_fits names media who states part (waits_for first) after others count form kept means

pub when_lines_fit : WhenLinesFit
when_lines_fit names shape block after words fits known form kept means =
    let media : List Medium = (shape_of shape block.who).media in
    let last = chained (λ part. option_map (λ after. (after.0, with_part block after.1)) (part_when_after names block.who block.states part words)) (open_part_of block) after means in
    let made = mapped (λ (after : NameLists × PartState). (after.0, with_part block after.1)) (part_when_after names block.who block.states last.0 words) after last.2 in
    let own : least_broken (when_rules names block.who block.states last.0 words) ≡ None = subst (λ (o : Option PartState). least_broken (in_part (λ part. when_rules names block.who block.states part words) o) ≡ None) last.1 kept in
    subst (λ (b : NameLists × BlockState). FitsIn shape b.1) (sym made.2)
    (part_replaced media block made.0.1 form (part_when_fits names media block.who block.states last.0 made.0 words (fits.slots block.who known) (opened_fits media block last.0 form last.1) own made.1))
