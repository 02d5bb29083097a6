-- A layout stays one when a box gets a program that breaks no rule.
use Rattle.std.proofs.Common.{Ok, ◌≤◌, append_assoc, ◌++◌, inl, inr, ◌≡◌, ℕ, zero, suc, ◌+◌, ◌<◌, ◌==◌, not, Bool, true, false, nat_le, List, [], ◌∷◌, length, map, slice_set, slice_index_or, Option, Some, None, refl, sym, ap, ◌∙◌, subst, arith}
use Rattle.std.specs.Prelude.{is_some}
use Rattle.std.specs.List.{list_any}
use Rattle.std.proofs.Math.ListN.{get_or}
use Rattle.std.proofs.lemmas.Bool.{cases_eq, or_parts}
use Rattle.std.proofs.lemmas.List.{append-nil, get_or-set_other, get_or-set_same, length-map, length-set}
use Rattle.mc_signal.specs.declared.Medium.{Medium}
use Rattle.mc_signal.specs.declared.Medium.TheVariants.{Audio, Video}
use Rattle.mc_slot.specs.Moves.{is_same_medium}
use Rattle.mc_slot.specs.declared.Goal.TheVariants.{Close as ToClose}
use Rattle.mc_slot.specs.declared.Slot.{Slot}
use Rattle.mc_slot.specs.declared.SlotGoal.{SlotGoal}
use Rattle.mc_slot.specs.declared.SlotGoal.TheVariants.{End, Link}
use Rattle.mc_rule.specs.Programs.{IsProgram, ProgStateState, no_state}
use Rattle.mc_box.specs.Boxes.{BoxState, FitsSlots, IsBox, IsNewBox, first_slot, goals_in, no_box, no_slot, set_up}
use Rattle.mc_box.specs.declared.limit.TheConstants.{SLOT_LIMIT}
use Rattle.mc_box.specs.declared.setup.Setup.{Setup}
use Rattle.mc_box.specs.declared.setup.SlotSetup.{SlotSetup}
use Rattle.mc_box.specs.BoxShapes.{box_shape, is_feature}
use Rattle.mc_box.specs.declared.event.Kind.{Kind}
use Rattle.mc_box.specs.declared.event.Kind.TheVariants.{Device, Feature}
use Rattle.mc_model.specs.Sound.{AreNew, IsNumbered, IsSound}
use Rattle.mc_model.specs.Worlds.{WorldState, box_at, place}
use Rattle.mc_plan.specs.Layouts.{box_fault, crosses, has_wrong_goals, links_two_media, media_of, medium_of, programmed, some_crosses, with_program, with_program_at}
use Rattle.mc_plan.specs.PlanLaws.{LayoutsStaySound, PlansGiveLayouts, ProgramsKeepLayouts}
use Rattle.mc_plan.specs.Refusals.{fault_if, unless_fault}
use Rattle.mc_plan.proofs.Numbered.{laid_out_is_new, laid_out_is_numbered}
use Rattle.mc_laws.proofs.NewWorlds.{first_is_sound}
use Rattle.mc_laws.proofs.StepKeeps.{run_keeps_sound}

-- ---- why no rule is broken

-- where there is no fault, the first rule is kept, and there is none of the others
pub none_broken : {F : Type 0} (broken : Bool) (fault : F) (others : Option F) → fault_if broken fault others ≡ None → (broken ≡ false) × (others ≡ None)
none_broken true fault others none = absurd cc
none_broken false fault others none = (refl, none)

not_not : (b : Bool) → not b ≡ false → b ≡ true
not_not true kept = refl
not_not false kept = absurd cc

a_feature : (kind : Kind) → is_feature kind ≡ true → kind ≡ Feature
a_feature Feature is = refl
a_feature Device is = absurd cc

same_medium : (a b : Medium) → is_same_medium a b ≡ true → a ≡ b
same_medium Audio Audio is = refl
same_medium Video Video is = refl
same_medium Audio Video is = absurd cc
same_medium Video Audio is = absurd cc

-- what holds of no state of a list doesn't hold of the one at a place
none_at : (test : ProgStateState → Bool) (states : List ProgStateState) (at : ℕ) → list_any test states ≡ false → at < length states → test (slice_index_or states at no_state) ≡ false
none_at test [] at none within = absurd (omega arith)
none_at test (one ∷ states) zero none within = (or_parts (test one) (list_any test states) none).0
none_at test (one ∷ states) (suc at) none within = none_at test states at (or_parts (test one) (list_any test states) none).1 (omega arith)

-- the medium of a slot, by the list of media
medium_at : (slots : List Slot) (local : ℕ) → (slice_index_or slots local no_slot).medium ≡ medium_of (map (λ (slot : Slot). slot.medium) slots) local
medium_at [] local = refl
medium_at (slot ∷ slots) zero = refl
medium_at (slot ∷ slots) (suc local) = medium_at slots local

-- no goal of these crosses, so a link among them doesn't
linked_alike : (media : List Medium) (first local partner : ℕ) (goals : List SlotGoal) → some_crosses media first goals ≡ false → slice_index_or goals local (End ToClose) ≡ Link partner
    → medium_of media partner ≡ medium_of media (first + local)
linked_alike media first local partner [] none is = absurd cc
linked_alike media first zero partner (goal ∷ goals) none is =
    let kept : crosses media first goal ≡ false = (or_parts (crosses media first goal) (some_crosses media (first + 1) goals) none).0 in
    let linked : crosses media first (Link partner) ≡ false = subst (λ (g : SlotGoal). crosses media first g ≡ false) is kept in
    let same : first ≡ first + zero = omega arith in
    subst (λ (n : ℕ). medium_of media partner ≡ medium_of media n) same (same_medium (medium_of media partner) (medium_of media first) (not_not (is_same_medium (medium_of media partner) (medium_of media first)) linked))
linked_alike media first (suc local) partner (goal ∷ goals) none is =
    let next : first + 1 + local ≡ first + suc local = omega arith in
    subst (λ (n : ℕ). medium_of media partner ≡ medium_of media n) next
    (linked_alike media (first + 1) local partner goals (or_parts (crosses media first goal) (some_crosses media (first + 1) goals) none).1 is)

-- a state that is there links slots of one medium
state_alike : (slots : List Slot) (states : List ProgStateState) (at local partner : ℕ) → list_any (links_two_media (map (λ (slot : Slot). slot.medium) slots)) states ≡ false → slice_index_or (goals_in states at) local (End ToClose) ≡ Link partner
    → (slice_index_or slots partner no_slot).medium ≡ (slice_index_or slots local no_slot).medium
state_alike slots [] at local partner none is = absurd cc
state_alike slots (one ∷ states) zero local partner none is =
    let media : List Medium = map (λ (slot : Slot). slot.medium) slots in
    let here = (or_parts (links_two_media (map (λ (slot : Slot). slot.medium) slots) one) (list_any (links_two_media (map (λ (slot : Slot). slot.medium) slots)) states) none).0 in
    let alike : medium_of (map (λ (slot : Slot). slot.medium) slots) partner ≡ medium_of (map (λ (slot : Slot). slot.medium) slots) (0 + local) = linked_alike media 0 local partner one.goals here is in
    let same : 0 + local ≡ local = omega arith in
    medium_at slots partner ∙ alike ∙ ap (λ (n : ℕ). medium_of (map (λ (slot : Slot). slot.medium) slots) n) same ∙ sym (medium_at slots local)
state_alike slots (one ∷ states) (suc at) local partner none is =
    state_alike slots states at local partner (or_parts (links_two_media (map (λ (slot : Slot). slot.medium) slots) one) (list_any (links_two_media (map (λ (slot : Slot). slot.medium) slots)) states) none).1 is

right_count : (slots : ℕ) (one : ProgStateState) → has_wrong_goals slots one ≡ false → length one.goals ≡ slots
right_count slots one kept =
    let same : (length one.goals == slots) ≡ true = not_not (length one.goals == slots) kept in
    grind arith

-- a program that breaks no rule fits the slots of its box
pub fault_free_fits : (box : BoxState) (states : List ProgStateState) → IsProgram states → box_fault box states ≡ None → FitsSlots box.kind box.slots states
fault_free_fits box states program none =
    let media : List Medium = (box_shape box).media in
    let wrong : Bool = list_any (has_wrong_goals (length box.slots)) states in
    let two : Bool = list_any (links_two_media (box_shape box).media) states in
    let kind = none_broken (not (is_feature box.kind)) _ _ none in
    let bare = none_broken (is_some box.program) _ _ kind.1 in
    let counted = none_broken (list_any (has_wrong_goals (length box.slots)) states) _ _ bare.1 in
    let alike = none_broken (list_any (links_two_media (box_shape box).media) states) _ _ counted.1 in
    record {
      feature = a_feature box.kind (not_not (is_feature box.kind) kind.0);
      program = program;
      goals = λ at within. right_count (length box.slots) (slice_index_or states at no_state) (none_at (has_wrong_goals (length box.slots)) states at counted.0 within);
      media = λ at local partner is. state_alike box.slots states at local partner alike.0 is;
    }

-- ---- the box that gets it, and the others

-- a box of the world is as it was, but for its program
pub record IsButFor (old new : BoxState) : Type 0 where
  pub program : Option (List ProgStateState)
  pub is : new ≡ record old { program = program }

pub boxes_stay : (first : WorldState) (who k : ℕ) (states : List ProgStateState) → IsButFor (box_at first k) (box_at (with_program first who states) k)
boxes_stay first who k states = go first.boxes who k
  where
    go : (boxes : List BoxState) (i j : ℕ) → IsButFor (slice_index_or boxes j no_box) (slice_index_or (slice_set boxes i (programmed (slice_index_or boxes i no_box) states)) j no_box)
    go [] i j = record { program = None; is = refl }
    go (box ∷ boxes) zero zero = record { program = Some states; is = refl }
    go (box ∷ boxes) zero (suc j) = record { program = (slice_index_or boxes j no_box).program; is = refl }
    go (box ∷ boxes) (suc i) zero = record { program = box.program; is = refl }
    go (box ∷ boxes) (suc i) (suc j) = go boxes i j

as_many : (first : WorldState) (who : ℕ) (states : List ProgStateState) → length (with_program first who states).boxes ≡ length first.boxes
as_many first who states = length-set first.boxes who (programmed (box_at first who) states)

-- a new box with a program that fits is new
new_still : (box : BoxState) (states : List ProgStateState) → IsNewBox box → FitsSlots box.kind box.slots states → IsNewBox (programmed box states)
new_still box states new fits = record {
  version = new.version;
  setups = new.setups;
  few = new.few;
  address = new.address;
  program = fits;
  is = ap (λ (b : BoxState). programmed b states) new.is;
}

-- all of them are
new_all : (first : WorldState) (who : ℕ) (states : List ProgStateState) → AreNew first.boxes → FitsSlots (box_at first who).kind (box_at first who).slots states → AreNew (with_program first who states).boxes
new_all first who states new fits k below =
    let within : k < length first.boxes = subst (λ (n : ℕ). k < n) (as_many first who states) below in
    elim (cases_eq who k) [
      | inl same ↦
          let here : k < length first.boxes → slice_index_or (slice_set first.boxes k (programmed (box_at first who) states)) k no_box ≡ programmed (box_at first who) states = λ inside. get_or-set_same first.boxes k (programmed (box_at first who) states) no_box inside in
          subst (λ (i : ℕ). IsNewBox (slice_index_or (slice_set first.boxes i (programmed (box_at first who) states)) k no_box)) (sym same)
          (subst (λ (b : BoxState). IsNewBox b) (sym (here within)) (new_still (box_at first who) states (new who (subst (λ (i : ℕ). i < length first.boxes) (sym same) within)) fits))
      | inr apart ↦ subst (λ (b : BoxState). IsNewBox b) (sym (get_or-set_other first.boxes who k (programmed (box_at first who) states) no_box (λ same. apart (sym same)))) (new k within)
    ]

whole_still : (old new : BoxState) → IsButFor old new → IsBox old → IsBox new
whole_still old new stays whole = rw stays.is (record { goals = whole.goals; media = whole.media })

-- and the world is numbered as it was
numbered_still : (first : WorldState) (who : ℕ) (states : List ProgStateState) → IsNumbered first → IsNumbered (with_program first who states)
numbered_still first who states numbered =
    let count = as_many first who states in
    let stays = λ (k : ℕ). (boxes_stay first who k states).is in
    record {
      boxes = λ k below. rw (stays k) (numbered.boxes k (subst (λ (n : ℕ). k < n) count below));
      whole = λ k below. whole_still (box_at first k) (box_at (with_program first who states) k) (boxes_stay first who k states) (numbered.whole k (subst (λ (n : ℕ). k < n) count below));
      lanes = numbered.lanes;
      placed = λ s inside. subst (λ (n : ℕ). (place first s).0 < n) (sym count) (numbered.placed s inside);
      slots = λ s inside. rw (stays (place first s).0) (numbered.slots s inside);
      once = λ s inside. numbered.once s inside;
      all = λ k local below inside. numbered.all k local (subst (λ (n : ℕ). k < n) count below) (rw (stays k) at inside);
      origins = λ s inside. rw (stays (place first s).0) (numbered.origins s inside);
      media = λ s inside. rw (stays (place first s).0) (numbered.media s inside);
      sides = λ s inside. rw (stays (place first s).0) (numbered.sides s inside);
    }

-- ---- the code

-- what a box is made of gets a program
pub setups_programmed : (setups : List Setup) (who : ℕ) (setup : Setup) (states : List ProgStateState) → who < length setups → setup ≡ slice_index_or setups who setup
    → map set_up (slice_set setups who (record setup { program = Some states })) ≡ with_program_at (map set_up setups) who states
setups_programmed [] who setup states within is = absurd (omega arith)
setups_programmed (one ∷ others) zero setup states within is = ap (λ (s : Setup). set_up (record s { program = Some states }) ∷ map set_up others) is
setups_programmed (one ∷ others) (suc who) setup states within is = ap (λ (boxes : List BoxState). set_up one ∷ boxes) (setups_programmed others who setup states (omega arith) is)

-- the medium of a slot that is there
pub medium_of_slot : (setups : List SlotSetup) (local : ℕ) (slot : SlotSetup) → local < length setups → slot ≡ slice_index_or setups local slot → slot.medium ≡ medium_of (media_of setups) local
medium_of_slot [] local slot within is = absurd (omega arith)
medium_of_slot (setup ∷ setups) zero slot within is = ap (λ (s : SlotSetup). s.medium) is
medium_of_slot (setup ∷ setups) (suc local) slot within is = medium_of_slot setups local slot (omega arith) is

-- the first of new boxes, and the others
pub first_new : (box : BoxState) (boxes : List BoxState) → AreNew (box ∷ boxes) → IsNewBox box
first_new box boxes new = new 0 (omega arith)

pub others_new : (box : BoxState) (boxes : List BoxState) → AreNew (box ∷ boxes) → AreNew boxes
others_new box boxes new who below = new (suc who) (omega arith)

-- the box that is made next is new
pub next_new : (rest left : List Setup) (setup : Setup) → rest ≡ setup ∷ left → AreNew (map set_up rest) → IsNewBox (set_up setup)
next_new rest left setup is new = first_new (set_up setup) (map set_up left) (subst (λ (l : List Setup). AreNew (map set_up l)) is new)

-- so it has few slots
pub few_slots : (setup : Setup) → IsNewBox (set_up setup) → length setup.slots.items ≤ SLOT_LIMIT
few_slots setup new =
    let slots : map first_slot setup.slots.items ≡ map first_slot new.setups = ap (λ (b : BoxState). b.slots) new.is in
    let as_many : length setup.slots.items ≡ length new.setups = sym (length-map setup.slots.items first_slot) ∙ (ap length slots ∙ length-map new.setups first_slot) in
    subst (λ (n : ℕ). n ≤ SLOT_LIMIT) (sym as_many) new.few

-- one box more is made
-- where none is left all are made
pub all_made : (made all : List BoxState) (rest : List Setup) → length rest ≡ 0 → made ++ map set_up rest ≡ all → made ≡ all
all_made made all [] none whole = sym (append-nil made) ∙ whole
all_made made all (setup ∷ rest) none whole = absurd (omega arith)

pub made_one : (rest left : List Setup) (setup : Setup) (made : BoxState) (boxes more all : List BoxState) → rest ≡ setup ∷ left → made ≡ set_up setup → more ≡ boxes ++ made ∷ []
    → boxes ++ map set_up rest ≡ all → AreNew (map set_up rest) → (more ++ map set_up left ≡ all) × AreNew (map set_up left)
made_one rest left setup made boxes more all is front pushed whole new =
    let seam : boxes ++ map set_up (setup ∷ left) ≡ all = ap (λ (l : List Setup). boxes ++ map set_up l) (sym is) ∙ whole in
    rw (pushed, front) (append_assoc boxes (set_up setup ∷ []) (map set_up left) ∙ seam, others_new (set_up setup) (map set_up left) (subst (λ (l : List Setup). AreNew (map set_up l)) is new))

-- where a rule would be broken the answer isn't that all is well
pub none_refused : {F : Type 0} (fault : Option F) (done : Unit {0}) → Ok done ≡ unless_fault fault → fault ≡ None
none_refused None done is = refl
none_refused (Some fault) done is = absurd cc

-- ---- the laws

pub plans_give_layouts : PlansGiveLayouts
plans_give_layouts plan laid = record {
  channels = record { few = omega (arith, laid.channels); tunnels = laid.tunnels };
  fresh = laid_out_is_new plan laid;
  numbered = laid_out_is_numbered plan laid;
  empty = refl;
}

pub programs_keep_layouts : ProgramsKeepLayouts
programs_keep_layouts first who states layout program none =
    let there = none_broken (nat_le (length first.boxes) who) _ _ none in
    let fits = fault_free_fits (box_at first who) states program there.1 in
    record {
      channels = layout.channels;
      fresh = new_all first who states layout.fresh fits;
      numbered = numbered_still first who states layout.numbered;
      empty = ap (λ (w : WorldState). with_program w who states) layout.empty;
    }

pub layouts_stay_sound : LayoutsStaySound
layouts_stay_sound first turns next layout goes =
    run_keeps_sound first next turns
    (subst (λ (w : WorldState). IsSound w) (sym layout.empty) (first_is_sound first.boxes first.channels layout.fresh (subst (λ (w : WorldState). IsNumbered w) layout.empty layout.numbered))) goes
