-- A box that gets one slot more stays sound.
use Rattle.std.proofs.Common.{◌≡◌, ◌≢◌, ◌+◌, ◌<◌, ◌≤◌, inl, inr, ℕ, zero, suc, Option, None, IfSome, List, [], ◌∷◌, ◌++◌, length, length-append, min, max, Ok, Err, Result, refl, ap, sym, ◌∙◌, subst, arith}
use Rattle.std.proofs.Math.ListN.{get_or}
use Rattle.std.proofs.lemmas.Bool.{cases_lt}
use Rattle.std.specs.Result.{OnErr, OnOk}
use Rattle.std.proofs.lemmas.List.{get_or_append_left}
use Rattle.mc_link.specs.LinkTurn.{IsLinkAtRest}
use Rattle.mc_rule.specs.Programs.{ProgStateState}
use Rattle.mc_slot.specs.EndTurn.{IsAtRest}
use Rattle.mc_slot.specs.Tunnel.{Kept}
use Rattle.mc_slot.specs.declared.Goal.{Goal}
use Rattle.mc_slot.specs.declared.Goal.TheVariants.{Close as ToClose}
use Rattle.mc_slot.specs.declared.Slot.{Slot}
use Rattle.mc_slot.specs.declared.SlotGoal.{SlotGoal}
use Rattle.mc_slot.specs.declared.SlotGoal.TheVariants.{End, Link}
use Rattle.mc_slot.specs.declared.State.TheVariants.{Closed}
use Rattle.mc_box.specs.BoxSound.{FitsProgram, IsLinked, IsSoundBox, RestsAt}
use Rattle.mc_box.specs.Boxes.{BoxState, FitsSlots, first_goal, first_media, first_slot, goal_at, media_at, no_media, no_slot, own, own_of, sender, sender_of, slot_at, with_new_slot}
use Rattle.mc_box.specs.declared.event.Kind.{Kind}
use Rattle.mc_box.specs.declared.event.Kind.TheVariants.{Device, Feature}
use Rattle.mc_box.specs.declared.limit.TheConstants.{SLOT_LIMIT}
use Rattle.mc_box.specs.declared.setup.SlotMedia.{SlotMedia}
use Rattle.mc_box.specs.declared.setup.SlotSetup.{SlotSetup}
use Rattle.mc_box.proofs.NewBoxes.{closed_goal_rests}

-- ---- lists with one more

-- what holds of each item, and of the new one, holds of each item then
each_added : {X : Type 0} (P : X → Type 0) (xs : List X) (x d : X) (i : ℕ) → ((k : ℕ) → P (get_or xs k d)) → P x → P (get_or (xs ++ x ∷ []) i d)
each_added P [] x d zero old new = new
each_added P [] x d (suc i) old new = old 0
each_added P (y ∷ ys) x d zero old new = old 0
each_added P (y ∷ ys) x d (suc i) old new = each_added P ys x d i (λ k. old (suc k)) new

-- an item that is what stands beyond the end changes none
added_default : {X : Type 0} (xs : List X) (d : X) (i : ℕ) → get_or (xs ++ d ∷ []) i d ≡ get_or xs i d
added_default [] d zero = refl
added_default [] d (suc i) = refl
added_default (y ∷ ys) d zero = refl
added_default (y ∷ ys) d (suc i) = added_default ys d i

-- the items from the old end on
added_late : {X : Type 0} (P : X → Type 0) (xs : List X) (x d : X) (i : ℕ) → length xs ≤ i → P x → P d → P (get_or (xs ++ x ∷ []) i d)
added_late P [] x d zero late new beyond = new
added_late P [] x d (suc i) late new beyond = beyond
added_late P (y ∷ ys) x d zero late new beyond = absurd (omega arith)
added_late P (y ∷ ys) x d (suc i) late new beyond = added_late P ys x d i (omega arith) new beyond

one_more : {X : Type 0} (xs : List X) (x : X) → length (xs ++ x ∷ []) ≡ length xs + 1
one_more xs x = length-append xs (x ∷ [])

-- ---- what a slot has then

-- no goal changes, since what stands beyond the goals is close
pub goal_added : (box : BoxState) (setup : SlotSetup) (local : ℕ) → goal_at (with_new_slot box setup) local ≡ goal_at box local
goal_added box setup local = added_default box.goals (End ToClose) local

pub slot_before : (box : BoxState) (setup : SlotSetup) (local : ℕ) → local < length box.slots → slot_at (with_new_slot box setup) local ≡ slot_at box local
slot_before box setup local below = get_or_append_left box.slots (first_slot setup ∷ []) no_slot local below

pub media_before : (box : BoxState) (setup : SlotSetup) (local : ℕ) → local < length box.media → media_at (with_new_slot box setup) local ≡ media_at box local
media_before box setup local below = get_or_append_left box.media (first_media box.first_version setup ∷ []) no_media local below

-- what a slot offers and sends is the box's, whatever other slots it has
own_by : (kind : Kind) (box : BoxState) (setup : SlotSetup) (media : SlotMedia) (local : ℕ) → own_of kind (with_new_slot box setup) media local ≡ own_of kind box media local
own_by Device box setup media local = refl
own_by Feature box setup media local = refl

sender_by : (kind : Kind) (box : BoxState) (setup : SlotSetup) (media : SlotMedia) (local : ℕ) → sender_of kind (with_new_slot box setup) media local ≡ sender_of kind box media local
sender_by Device box setup media local = refl
sender_by Feature box setup media local = refl

pub own_before : (box : BoxState) (setup : SlotSetup) (local : ℕ) → local < length box.media → own (with_new_slot box setup) local ≡ own box local
own_before box setup local below =
    own_by box.kind box setup (media_at (with_new_slot box setup) local) local ∙ ap (λ (media : SlotMedia). own_of box.kind box media local) (media_before box setup local below)

pub sender_before : (box : BoxState) (setup : SlotSetup) (local : ℕ) → local < length box.media → sender (with_new_slot box setup) local ≡ sender box local
sender_before box setup local below =
    sender_by box.kind box setup (media_at (with_new_slot box setup) local) local ∙ ap (λ (media : SlotMedia). sender_of box.kind box media local) (media_before box setup local below)

-- the new slot is closed
pub late_closed : (box : BoxState) (setup : SlotSetup) (local : ℕ) → length box.slots ≤ local → (slot_at (with_new_slot box setup) local).state ≡ Closed
late_closed box setup local late = added_late (λ (slot : Slot). slot.state ≡ Closed) box.slots (first_slot setup) no_slot local late refl refl

-- ---- what a box keeps

-- links are of slots that were there
linked_before : (box : BoxState) (local partner : ℕ) → IsSoundBox box → goal_at box local ≡ Link partner → local < length box.slots
linked_before box local partner sound is = (sound.wired.links partner local (sound.wired.links local partner is).back).inside

linked_added : (box : BoxState) (setup : SlotSetup) (local partner : ℕ) → IsSoundBox box → goal_at box local ≡ Link partner → IsLinked (with_new_slot box setup) local partner
linked_added box setup local partner sound is =
    let linked = sound.wired.links local partner is in
    let here = linked_before box local partner sound is in
    record {
      inside = omega (arith, one_more box.slots (first_slot setup), linked.inside);
      other = linked.other;
      back = goal_added box setup partner ∙ linked.back;
      feature = linked.feature;
      medium = ap (λ (slot : Slot). slot.medium) (slot_before box setup partner linked.inside) ∙ linked.medium ∙ sym (ap (λ (slot : Slot). slot.medium) (slot_before box setup local here));
    }

-- a goal of slots that were there is at rest where it was
rests_before : (goal : SlotGoal) (box : BoxState) (setup : SlotSetup) (local : ℕ) → IsSoundBox box → goal_at box local ≡ goal → local < length box.slots
    → RestsAt goal box local → RestsAt goal (with_new_slot box setup) local
rests_before (End goal) box setup local sound is here rests =
    let media : local < length box.media = omega (arith, sound.wired.whole.media, here) in
    rw (slot_before box setup local here, own_before box setup local media, sender_before box setup local media) rests
rests_before (Link partner) box setup local sound is here rests =
    let there = (sound.wired.links local partner is).inside in
    let low : min local partner < length box.slots = omega arith in
    let high : max local partner < length box.slots = omega arith in
    rw (slot_before box setup (min local partner) low, slot_before box setup (max local partner) high) rests

-- and so is close at a closed slot
rests_added : (box : BoxState) (setup : SlotSetup) (local : ℕ) → IsSoundBox box → RestsAt (goal_at (with_new_slot box setup) local) (with_new_slot box setup) local
rests_added box setup local sound = elim (cases_lt local (length box.slots)) [
  | inl here ↦ subst (λ (goal : SlotGoal). RestsAt goal (with_new_slot box setup) local) (sym (goal_added box setup local))
      (rests_before (goal_at box local) box setup local sound refl here (sound.rests local))
  | inr late ↦ closed_goal_rests (goal_at (with_new_slot box setup) local) (with_new_slot box setup) local
      (added_late (λ (goal : SlotGoal). goal ≡ End ToClose) box.goals (first_goal setup) (End ToClose) local (omega (arith, sound.wired.whole.goals, late)) refl refl)
      (late_closed box setup local late)
]

-- without a program there is nothing that has to fit the slots
fits_added : (kind : Kind) (slots news : List Slot) (program : Option (List ProgStateState)) (at told : Option ℕ) → program ≡ None → FitsProgram kind slots program at told → FitsProgram kind news program at told
fits_added kind slots news program at told none fits = record {
  states = subst (λ (p : Option (List ProgStateState)). IfSome p (FitsSlots kind news)) (sym none) tt;
  here = fits.here;
  word = fits.word;
}

-- with room for it a box stays sound
pub added_sound : (box : BoxState) (setup : SlotSetup) → IsSoundBox box → length box.slots < SLOT_LIMIT → box.program ≡ None → IsSoundBox (with_new_slot box setup)
added_sound box setup sound room none =
    let slots = one_more box.slots (first_slot setup) in
    record {
      wired = record {
        whole = record {
          goals = one_more box.goals (first_goal setup) ∙ ap (λ (n : ℕ). n + 1) sound.wired.whole.goals ∙ sym slots;
          media = one_more box.media (first_media box.first_version setup) ∙ ap (λ (n : ℕ). n + 1) sound.wired.whole.media ∙ sym slots;
        };
        few = omega (arith, slots, room);
        address = sound.wired.address;
        kept = λ local. each_added Kept box.slots (first_slot setup) no_slot local sound.wired.kept (refl, refl, refl, refl);
        links = λ local partner is. linked_added box setup local partner sound (sym (goal_added box setup local) ∙ is);
        program = fits_added box.kind box.slots (with_new_slot box setup).slots box.program box.at box.told none sound.wired.program;
      };
      rests = λ local. rests_added box setup local sound;
    }

-- and after a call that gave it one or, for want of memory, none
pub added_or_not : {A E : Type 0} (result : Result A E) (old new : BoxState) (setup : SlotSetup) → IsSoundBox old → length old.slots < SLOT_LIMIT → old.program ≡ None
    → OnOk result (new ≡ with_new_slot old setup) → OnErr result (new ≡ old) → IsSoundBox new
added_or_not (Ok done) old new setup sound room none added same = subst IsSoundBox (sym added) (added_sound old setup sound room none)
added_or_not (Err fault) old new setup sound room none added same = subst IsSoundBox (sym same) sound
