-- The programs of boxes, as their lines declare them. The words are those after the first.
use Rattle.std.specs.Prelude.{ℕ, ◌≡◌, ◌-◌, ◌<◌, ◌&&◌, ◌||◌, not, Bool, true, false, List, [], ◌∷◌, ◌++◌, Option, Some, None, codes, drop, if◌then◌else◌, length, nat_le, nat_lt, replicate, slice_index_or, slice_set, map, IsTrue, Vec}
use Rattle.std.specs.List.{list_any, slice_get}
use Rattle.std.specs.Option.{is_none, is_some, option_and_then, option_map, unwrap_or}
use Rattle.std.specs.Str.{bytes_eq}
use Rattle.std.specs.declared.alloc.Global.{Global}
use Rattle.mc_slot.specs.declared.SlotGoal.{SlotGoal}
use Rattle.mc_slot.specs.declared.SlotGoal.TheVariants.{End, Link}
use Rattle.mc_slot.specs.declared.State.{State}
use Rattle.mc_slot.specs.declared.State.TheVariants.{Closed, Opening, Opened, Flowing, Closing}
use Rattle.mc_text.specs.NameLists.{NameLists, place_of, slot_names, with_told_word}
use Rattle.mc_text.specs.Spelling.{is_name, is_spelt}
use Rattle.mc_text.specs.declared.limit.TheConstants.{TOLD_LIMIT}
use Rattle.mc_box.specs.BoxShapes.{BoxShapeState, shape_of}
use Rattle.mc_script.specs.Places.{are_same, box_named, is_misspelt, is_no, is_overlong, lacks, spelt_value, slot_named}
use Rattle.mc_script.specs.Rules.{differ_in_medium, spelt_goal, is_no_feature, least_broken}
use Rattle.mc_script.specs.declared.rule.TheConstants.{EXTRA_WORD, GIVEN_TWICE, LIMIT_PASSED, MISSING_WORD, NAME_TOO_LONG, NO_SUCH_SLOT, SAME_SLOT, TWO_MEDIA, UNDECLARED, UNFINISHED, WRONG_WORD}
use Rattle.mc_program_lines.specs.WordLists.{has_repeat}
use Rattle.mc_rule.specs.declared.Guard.TheVariants.{SlotIs, Told}
use Rattle.mc_rule.specs.declared.Rule.{Rule}
use Rattle.mc_program_lines.specs.declared.part.WaitWord.{WaitWord}
use Rattle.mc_program_lines.specs.declared.part.WaitWord.TheVariants as waits
use Rattle.mc_program_lines.specs.declared.limit.TheConstants.{STATE_LIMIT, TRANSITION_LIMIT}

infixl 10 ◌>>=◌
abbrev pub ◌>>=◌ : {A B : Type 0} → Option A → (A → Option B) → Option B
(Some x) >>= f = f x
None >>= f = None

-- ---- what the lines so far declare

-- words that are owned, as lists of bytes
abbrev pub words_of : List (Vec ℕ Global) → List (List ℕ)
words_of owned = map (λ word. word.items) owned

-- a state's part: the goals that it gave so far, by slot, and its transitions
pub record PartState : Type 0 where
  pub goals : List (Option SlotGoal)
  pub transitions : List Rule

-- a program: its box, the names of its states, and the parts of those that were begun, the last of them still open
pub record BlockState : Type 0 where
  pub who : ℕ
  pub states : List (List ℕ)
  pub parts : List PartState

-- the part that was begun last
abbrev pub open_part_of : BlockState → Option PartState
open_part_of block = slice_get block.parts (length block.parts - 1)

-- a part has a goal, or room for one, for each slot of its box
abbrev pub HasSlots : NameLists → ℕ → Option PartState → Type 0
HasSlots names who None = Unit {0}
HasSlots names who (Some part) = length part.goals ≡ length (slot_names names who)

-- the program's box is known, and the open part has that box's slots
pub record FitsBox (names : NameLists) (block : BlockState) : Type 0 where
  pub known : block.who < length names.boxes
  pub slots : HasSlots names block.who (open_part_of block)

-- ---- limits

-- ---- what isn't whole

-- some slot has no goal yet
abbrev pub lacks_goal : PartState → Bool
lacks_goal part = list_any is_none part.goals

-- a part is open in which some slot has no goal
abbrev pub part_lacks_goal : Option PartState → Bool
part_lacks_goal None = false
part_lacks_goal (Some part) = lacks_goal part

-- a program is open in which some slot of the last part has no goal, or some listed state has no part
abbrev pub is_unfinished_block : Option BlockState → Bool
is_unfinished_block None = false
is_unfinished_block (Some block) =
    part_lacks_goal (open_part_of block) || nat_lt (length block.parts) (length block.states)

-- ---- `prog` and `state`

-- the box is known, and has a program
abbrev pub has_program : List BoxShapeState → Option ℕ → Bool
has_program shape None = false
has_program shape (Some who) = (shape_of shape who).programmed

-- `prog BOX STATE STATE ..`, which may come too late, or where an earlier program is unfinished
abbrev pub new_program_rules : NameLists → List BoxShapeState → Bool → Bool → List (List ℕ) → List (ℕ × Bool)
new_program_rules names shape late unfinished words =
    let who = box_named names (slice_get words 0) in
    let states = drop 1 words in
    (UNDECLARED, lacks names.boxes (slice_get words 0))
    ∷ (WRONG_WORD, late || is_no_feature shape who || list_any (λ word. not (is_spelt word)) states)
    ∷ (MISSING_WORD, is_none (slice_get words 1))
    ∷ (GIVEN_TWICE, has_program shape who || has_repeat states)
    ∷ (LIMIT_PASSED, nat_lt STATE_LIMIT (length states))
    ∷ (UNFINISHED, unfinished)
    ∷ (NAME_TOO_LONG, list_any (λ word. is_overlong (Some word)) states)
    ∷ []

-- a program of a box without parts
abbrev pub new_block : ℕ → List (List ℕ) → BlockState
new_block who states = record { who = who; states = states; parts = [] }

-- there is no such word, or it is another one
abbrev pub is_other : Option (List ℕ) → List ℕ → Bool
is_other None word = true
is_other (Some next) word = not (bytes_eq next word)

-- the word stands there, and isn't the listed state that is next
abbrev pub is_not_next : Option BlockState → Option (List ℕ) → Bool
is_not_next block None = false
is_not_next None (Some word) = true
is_not_next (Some block) (Some word) = is_other (slice_get block.states (length block.parts)) word

-- `state NAME`, which may come too late, where a program may be open
abbrev pub new_part_rules : Bool → Option BlockState → List (List ℕ) → List (ℕ × Bool)
new_part_rules late block words =
    (WRONG_WORD, late || is_not_next block (slice_get words 0))
    ∷ (MISSING_WORD, is_none (slice_get words 0))
    ∷ (EXTRA_WORD, is_some (slice_get words 1))
    ∷ (UNFINISHED, part_lacks_goal (option_and_then open_part_of block))
    ∷ []

-- a part in which no slot has a goal yet
abbrev pub new_part : ℕ → PartState
new_part slots = record { goals = replicate slots None; transitions = [] }

-- a program with a new part, which is open
abbrev pub with_new_part : NameLists → BlockState → BlockState
with_new_part names block = record block { parts = block.parts ++ new_part (length (slot_names names block.who)) ∷ [] }

-- ---- the lines of a part

-- the slot is known, and an earlier line of the part gave it a goal
abbrev pub has_goal : PartState → Option ℕ → Bool
has_goal part None = false
has_goal part (Some local) = is_some (slice_index_or part.goals local None)

-- `goal SLOT GOAL`, in a part of a program of a box
abbrev pub goal_rules : NameLists → ℕ → PartState → List (List ℕ) → List (ℕ × Bool)
goal_rules names who part words =
    (WRONG_WORD, is_no spelt_goal (slice_get words 1))
    ∷ (MISSING_WORD, is_none (slice_get words 1))
    ∷ (EXTRA_WORD, is_some (slice_get words 2))
    ∷ (GIVEN_TWICE, has_goal part (slot_named names (Some who) (slice_get words 0)))
    ∷ (NO_SUCH_SLOT, lacks (slot_names names who) (slice_get words 0))
    ∷ []

-- `link SLOT SLOT`, in a part
abbrev pub part_link_rules : NameLists → List BoxShapeState → ℕ → PartState → List (List ℕ) → List (ℕ × Bool)
part_link_rules names shape who part words =
    let a = slot_named names (Some who) (slice_get words 0) in
    let b = slot_named names (Some who) (slice_get words 1) in
    (MISSING_WORD, is_none (slice_get words 1))
    ∷ (EXTRA_WORD, is_some (slice_get words 2))
    ∷ (GIVEN_TWICE, has_goal part a || has_goal part b)
    ∷ (
      NO_SUCH_SLOT,
      lacks (slot_names names who) (slice_get words 0)
          || lacks (slot_names names who) (slice_get words 1),
    )
    ∷ (SAME_SLOT, are_same a b)
    ∷ (TWO_MEDIA, differ_in_medium shape (Some who) a b)
    ∷ []

abbrev pub part_with_goal : PartState → ℕ → SlotGoal → PartState
part_with_goal part local goal = record part { goals = slice_set part.goals local (Some goal) }

-- the part after a `goal` line
abbrev pub part_goal_after : NameLists → ℕ → PartState → List (List ℕ) → Option PartState
part_goal_after names who part words =
    option_and_then (λ local. option_map (λ goal. part_with_goal part local (End goal))
    (spelt_value spelt_goal (slice_get words 1))) (slot_named names (Some who) (slice_get words 0))

-- the part after a `link` line, which gives both slots their goal
abbrev pub part_link_after : NameLists → ℕ → PartState → List (List ℕ) → Option PartState
part_link_after names who part words =
    option_and_then (λ a. option_map (λ b. part_with_goal (part_with_goal part a (Link b)) b (Link a))
    (slot_named names (Some who) (slice_get words 1))) (slot_named names (Some who) (slice_get words 0))

abbrev pub spelt_state : List ℕ → Option State
spelt_state word =
    if bytes_eq word (codes "closed") then Some Closed
    else (if bytes_eq word (codes "opening") then Some Opening
    else (if bytes_eq word (codes "opened") then Some Opened
    else (if bytes_eq word (codes "flowing") then Some Flowing
    else (if bytes_eq word (codes "closing") then Some Closing
    else None))))

-- `when is SLOT STATE TARGET`, in a part of a program with these states; the words are those after `is`
abbrev pub when_is_rules : NameLists → ℕ → List (List ℕ) → PartState → List (List ℕ) → List (ℕ × Bool)
when_is_rules names who states part words =
    (UNDECLARED, lacks states (slice_get words 2))
    ∷ (WRONG_WORD, is_no spelt_state (slice_get words 1))
    ∷ (MISSING_WORD, is_none (slice_get words 2))
    ∷ (EXTRA_WORD, is_some (slice_get words 3))
    ∷ (NO_SUCH_SLOT, lacks (slot_names names who) (slice_get words 0))
    ∷ (LIMIT_PASSED, nat_le TRANSITION_LIMIT (length part.transitions))
    ∷ []

-- the word is a new told word, and there is no room for it
abbrev pub has_no_room : NameLists → Option (List ℕ) → Bool
has_no_room names word = lacks names.told word && nat_le TOLD_LIMIT (length names.told)

-- `when told WORD TARGET`; the words are those after `told`
abbrev pub when_told_rules : NameLists → List (List ℕ) → PartState → List (List ℕ) → List (ℕ × Bool)
when_told_rules names states part words =
    (UNDECLARED, lacks states (slice_get words 1))
    ∷ (WRONG_WORD, is_misspelt (slice_get words 0))
    ∷ (MISSING_WORD, is_none (slice_get words 1))
    ∷ (EXTRA_WORD, is_some (slice_get words 2))
    ∷ (LIMIT_PASSED, nat_le TRANSITION_LIMIT (length part.transitions) || has_no_room names (slice_get words 0))
    ∷ (NAME_TOO_LONG, is_overlong (slice_get words 0))
    ∷ []

-- what a `when` line waits for
abbrev pub waits_for : List ℕ → Option WaitWord
waits_for word =
    if bytes_eq word (codes "is") then Some waits.Is
    else (if bytes_eq word (codes "told") then Some waits.Told else None)

abbrev pub when_kind_rules : NameLists → ℕ → List (List ℕ) → PartState → Option WaitWord → List (List ℕ)
    → List (ℕ × Bool)
when_kind_rules names who states part (Some waits.Is) words = when_is_rules names who states part words
when_kind_rules names who states part (Some waits.Told) words = when_told_rules names states part words
when_kind_rules names who states part None words = (WRONG_WORD, true) ∷ []

-- `when is ..` or `when told ..`; where the second word is neither, the others aren't asked anything
abbrev pub when_rules : NameLists → ℕ → List (List ℕ) → PartState → List (List ℕ) → List (ℕ × Bool)
when_rules names who states part [] = (MISSING_WORD, true) ∷ []
when_rules names who states part (first ∷ others) = when_kind_rules names who states part (waits_for first) others

abbrev pub with_transition : PartState → Rule → PartState
with_transition part transition = record part { transitions = part.transitions ++ transition ∷ [] }

-- the transition of `is SLOT STATE TARGET`
abbrev pub is_transition : NameLists → ℕ → List (List ℕ) → List (List ℕ) → Option Rule
is_transition names who states words = do
  local ← slot_named names (Some who) (slice_get words 0)
  state ← spelt_value spelt_state (slice_get words 1)
  target ← spelt_value (place_of states) (slice_get words 2)
  Some (record { guard = SlotIs local state; target = target })

-- the number that a told word has, or gets
abbrev pub told_place : NameLists → List ℕ → ℕ
told_place names word = unwrap_or (place_of names.told word) (length names.told)

-- a line `told WORD TARGET` that breaks no rule: its word, and the state that it names
pub record IsToldLine (names : NameLists) (states : List (List ℕ)) (part : PartState) (words : List (List ℕ))
    (word : List ℕ) (target : ℕ) : Type 0 where
  pub sound : least_broken (when_told_rules names states part words) ≡ None
  pub word_is : slice_get words 0 ≡ Some word
  pub target_is : spelt_value (place_of states) (slice_get words 1) ≡ Some target
  pub name : IsTrue (is_name word)
  pub room : has_no_room names (Some word) ≡ false

-- the names and the part after `told WORD TARGET`
abbrev pub told_after : NameLists → List (List ℕ) → PartState → List (List ℕ) → Option (NameLists × PartState)
told_after names states part words = do
  word ← slice_get words 0
  target ← spelt_value (place_of states) (slice_get words 1)
  Some (
    with_told_word names word,
    with_transition part
        (record { guard = Told (told_place names word); target = target }),
  )

abbrev pub when_kind_after : NameLists → ℕ → List (List ℕ) → PartState → Option WaitWord → List (List ℕ)
    → Option (NameLists × PartState)
when_kind_after names who states part (Some waits.Is) words =
    option_map (λ transition. (names, with_transition part transition)) (is_transition names who states words)
when_kind_after names who states part (Some waits.Told) words = told_after names states part words
when_kind_after names who states part None words = None

-- the names and the part after a `when` line
abbrev pub part_when_after : NameLists → ℕ → List (List ℕ) → PartState → List (List ℕ) → Option (NameLists × PartState)
part_when_after names who states part [] = None
part_when_after names who states part (first ∷ others) = when_kind_after names who states part (waits_for first) others

-- ---- the lines of a program's open part

-- the rules on a line of a part; where no part is open, the line breaks rule 5, and nothing else is asked of it
abbrev pub in_part : (PartState → List (ℕ × Bool)) → Option PartState → List (ℕ × Bool)
in_part rules None = (WRONG_WORD, true) ∷ []
in_part rules (Some part) = rules part

-- the rules on a line of a program; where none is open, the line breaks rule 5, and nothing else is asked of it
abbrev pub in_block : (BlockState → List (ℕ × Bool)) → Option BlockState → List (ℕ × Bool)
in_block rules None = (WRONG_WORD, true) ∷ []
in_block rules (Some block) = rules block

-- the open part of a program becomes another
abbrev pub with_part : BlockState → PartState → BlockState
with_part block part = record block { parts = slice_set block.parts (length block.parts - 1) part }

abbrev pub block_goal_rules : NameLists → BlockState → List (List ℕ) → List (ℕ × Bool)
block_goal_rules names block words = in_part (λ part. goal_rules names block.who part words) (open_part_of block)

abbrev pub block_goal_after : NameLists → BlockState → List (List ℕ) → Option BlockState
block_goal_after names block words =
    option_and_then (λ part. option_map (with_part block) (part_goal_after names block.who part words))
    (open_part_of block)

abbrev pub block_link_rules : NameLists → List BoxShapeState → BlockState → List (List ℕ) → List (ℕ × Bool)
block_link_rules names shape block words =
    in_part (λ part. part_link_rules names shape block.who part words) (open_part_of block)

abbrev pub block_link_after : NameLists → BlockState → List (List ℕ) → Option BlockState
block_link_after names block words =
    option_and_then (λ part. option_map (with_part block) (part_link_after names block.who part words))
    (open_part_of block)

abbrev pub block_when_rules : NameLists → BlockState → List (List ℕ) → List (ℕ × Bool)
block_when_rules names block words =
    in_part (λ part. when_rules names block.who block.states part words) (open_part_of block)

-- the names and the program after a `when` line
abbrev pub block_when_after : NameLists → BlockState → List (List ℕ) → Option (NameLists × BlockState)
block_when_after names block words =
    option_and_then (λ part. option_map (λ after. (after.0, with_part block after.1))
    (part_when_after names block.who block.states part words)) (open_part_of block)
