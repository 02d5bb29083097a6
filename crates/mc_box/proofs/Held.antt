-- What a goal's rest reads, and which slots a goal holds.
use Rattle.std.proofs.Common.{◌≡◌, ◌≢◌, ℕ, ◌<◌, ◌≤◌, Option, Some, None, List, [], ◌∷◌, ◌++◌, inl, inr, length, max, min, refl, ap, sym, ◌∙◌, subst, arith}
use Rattle.std.proofs.Math.ListN.{get_or, set, length-set}
use Rattle.std.proofs.lemmas.Bool.{cases_eq, cases_lt}
use Rattle.std.proofs.lemmas.List.{get_or-set_same, get_or-set_other}
use Rattle.mc_link.specs.LinkTurn.{IsLinkAtRest}
use Rattle.mc_signal.specs.declared.Descriptor.{Descriptor}
use Rattle.mc_signal.specs.declared.Sender.{Sender}
use Rattle.mc_slot.specs.EndTurn.{IsAtRest}
use Rattle.mc_slot.specs.Tunnel.{Kept}
use Rattle.mc_slot.specs.declared.Goal.{Goal}
use Rattle.mc_slot.specs.declared.Slot.{Slot}
use Rattle.mc_slot.specs.declared.SlotGoal.{SlotGoal}
use Rattle.mc_slot.specs.declared.SlotGoal.TheVariants.{End, Link}
use Rattle.mc_rule.specs.Programs.{ProgStateState}
use Rattle.mc_box.specs.BoxSound.{FitsProgram, IsWired, RestsAt}
use Rattle.mc_box.specs.Boxes.{BoxState, FitsSlots, no_slot, slot_at, goal_at, media_at, own, own_of, sender, sender_of, with_slot}
use Rattle.mc_box.specs.declared.event.Kind.{Kind}
use Rattle.mc_box.specs.declared.event.Kind.TheVariants.{Device, Feature}
use Rattle.mc_box.specs.declared.setup.SlotMedia.{SlotMedia}
use Rattle.mc_box.specs.declared.limit.TheConstants.{SLOT_LIMIT}

-- ---- numbers

-- what holds of two numbers holds of the lower one
pub at_min : (P : ℕ → Type 0) (a b : ℕ) → P a → P b → P (min a b)
at_min P a b one two = elim (cases_lt a b) [
  | inl less ↦ let is : a ≡ min a b = omega arith in subst P is one
  | inr more ↦ let is : b ≡ min a b = omega arith in subst P is two
]

-- and of the higher one
pub at_max : (P : ℕ → Type 0) (a b : ℕ) → P a → P b → P (max a b)
at_max P a b one two = elim (cases_lt a b) [
  | inl less ↦ let is : b ≡ max a b = omega arith in subst P is two
  | inr more ↦ let is : a ≡ max a b = omega arith in subst P is one
]

pub min_turned : (a b : ℕ) → min a b ≡ min b a
min_turned a b = omega arith

pub max_turned : (a b : ℕ) → max a b ≡ max b a
max_turned a b = omega arith

-- ---- a box with other slots

abbrev pub box_with : BoxState → List Slot → BoxState
box_with box slots = record box { slots = slots }

-- the own descriptor reads neither slots nor goals, and one slot's media alone
pub own_put : (kind : Kind) (box : BoxState) (slots : List Slot) (goals : List SlotGoal) (list : List SlotMedia) (media : SlotMedia) (local : ℕ)
    → own_of kind (record box { slots = slots; goals = goals; media = list }) media local ≡ own_of kind box media local
own_put Device box slots goals list media local = refl
own_put Feature box slots goals list media local = refl

-- nor does the sender
pub sender_put : (kind : Kind) (box : BoxState) (slots : List Slot) (goals : List SlotGoal) (list : List SlotMedia) (media : SlotMedia) (local : ℕ)
    → sender_of kind (record box { slots = slots; goals = goals; media = list }) media local ≡ sender_of kind box media local
sender_put Device box slots goals list media local = refl
sender_put Feature box slots goals list media local = refl

-- what holds of each slot, by its local number, still does where one is replaced by another of which it holds
pub put_all : (P : ℕ → Slot → Type 0) (slots : List Slot) (local : ℕ) (slot : Slot) → local < length slots → P local slot
    → ((k : ℕ) → P k (get_or slots k no_slot)) → (k : ℕ) → P k (get_or (set slots local slot) k no_slot)
put_all P slots local slot inside here there k = elim (cases_eq k local) [
  | inl is ↦
      subst (λ (j : ℕ). P j (get_or (set slots local slot) j no_slot)) (sym is)
      (subst (λ (s : Slot). P local s) (sym (get_or-set_same slots local slot no_slot inside)) here)
  | inr other ↦ subst (λ (s : Slot). P k s) (sym (get_or-set_other slots local k slot no_slot other)) (there k)
]

-- a program fits other slots, as many and of the same media
same_slots_fit : (states : List ProgStateState) (kind : Kind) (slots others : List Slot) → length others ≡ length slots
    → ((k : ℕ) → (get_or others k no_slot).medium ≡ (get_or slots k no_slot).medium) → FitsSlots kind slots states → FitsSlots kind others states
same_slots_fit states kind slots others size each fits = record {
  feature = fits.feature;
  program = fits.program;
  goals = λ at here. fits.goals at here ∙ sym size;
  media = λ at local partner is. each partner ∙ (fits.media at local partner is ∙ sym (each local));
}

fits_slots : (program : Option (List ProgStateState)) (kind : Kind) (slots others : List Slot) (at told : Option ℕ) → length others ≡ length slots
    → ((k : ℕ) → (get_or others k no_slot).medium ≡ (get_or slots k no_slot).medium) → FitsProgram kind slots program at told → FitsProgram kind others program at told
fits_slots None kind slots others at told size each fits = record { states = tt; here = fits.here; word = fits.word }
fits_slots (Some states) kind slots others at told size each fits =
    record { states = same_slots_fit states kind slots others size each fits.states; here = fits.here; word = fits.word }

-- slots of the same media that keep what their states allow leave a box wired
pub wired_slots : (box : BoxState) (slots : List Slot) → IsWired box → length slots ≡ length box.slots
    → ((k : ℕ) → Kept (get_or slots k no_slot) × ((get_or slots k no_slot).medium ≡ (slot_at box k).medium)) → IsWired (box_with box slots)
wired_slots box slots wired size each = record {
  whole = record { goals = wired.whole.goals ∙ sym size; media = wired.whole.media ∙ sym size };
  few = subst (λ (n : ℕ). n ≤ SLOT_LIMIT) (sym size) wired.few;
  address = wired.address;
  kept = λ k. (each k).0;
  links = λ local partner is. record {
    inside = subst (λ (n : ℕ). partner < n) (sym size) (wired.links local partner is).inside;
    other = (wired.links local partner is).other;
    back = (wired.links local partner is).back;
    feature = (wired.links local partner is).feature;
    medium = (each partner).1 ∙ ((wired.links local partner is).medium ∙ sym (each local).1);
  };
  program = fits_slots box.program box.kind box.slots slots box.at box.told size (λ k. (each k).1) wired.program;
}

-- one such slot
pub wired_slot : (box : BoxState) (local : ℕ) (slot : Slot) → IsWired box → local < length box.slots → Kept slot → slot.medium ≡ (slot_at box local).medium
    → IsWired (with_slot box local slot)
wired_slot box local slot wired inside kept medium =
    wired_slots box (set box.slots local slot) wired (length-set box.slots local slot)
    (put_all (λ (k : ℕ) (s : Slot). Kept s × (s.medium ≡ (slot_at box k).medium)) box.slots local slot inside (kept, medium) (λ k. (wired.kept k, refl)))

-- ---- what a goal's rest reads

-- one slot of two boxes is the same, with all that an end's turn reads
pub record SameSlot (new old : BoxState) (local : ℕ) : Type 0 where
  pub slot : slot_at new local ≡ slot_at old local
  pub mine : own new local ≡ own old local
  pub me : sender new local ≡ sender old local

-- a goal rests as before where its slot, and the slot that this is linked with, stay
pub rests_same : (goal : SlotGoal) (box new : BoxState) (local : ℕ) → SameSlot new box local
    → ((partner : ℕ) → goal ≡ Link partner → slot_at new partner ≡ slot_at box partner) → RestsAt goal box local → RestsAt goal new local
rests_same (End goal) box new local same partners rests =
    let slot : slot_at new local ≡ slot_at box local = same.slot in
    let mine : own new local ≡ own box local = same.mine in
    let me : sender new local ≡ sender box local = same.me in
    cc
rests_same (Link partner) box new local same partners rests =
    let low : slot_at new (min local partner) ≡ slot_at box (min local partner) =
    at_min (λ (k : ℕ). slot_at new k ≡ slot_at box k) local partner same.slot (partners partner refl) in
    let high : slot_at new (max local partner) ≡ slot_at box (max local partner) =
    at_max (λ (k : ℕ). slot_at new k ≡ slot_at box k) local partner same.slot (partners partner refl) in
    subst (λ (a : Slot). IsLinkAtRest a (slot_at new (max local partner))) (sym low)
    (subst (λ (b : Slot). IsLinkAtRest (slot_at box (min local partner)) b) (sym high) rests)

-- a link rests at either of its slots
pub rests_turned : (box : BoxState) (local partner : ℕ) → RestsAt (Link partner) box local → RestsAt (Link local) box partner
rests_turned box local partner rests =
    subst (λ (k : ℕ). IsLinkAtRest (slot_at box k) (slot_at box (max partner local))) (min_turned local partner)
    (subst (λ (k : ℕ). IsLinkAtRest (slot_at box (min local partner)) (slot_at box k)) (max_turned local partner) rests)

-- ---- the slots that a goal holds

-- an end holds one slot, a link two
abbrev pub held : SlotGoal → ℕ → List ℕ
held (End goal) local = local ∷ []
held (Link partner) local = local ∷ partner ∷ []

-- a number isn't in a list
abbrev pub Lacks : ℕ → List ℕ → Type 0
Lacks k [] = Unit {0}
Lacks k (local ∷ locals) = (k ≢ local) × Lacks k locals

pub lacks_first : (k : ℕ) (some more : List ℕ) → Lacks k (some ++ more) → Lacks k some
lacks_first k [] more lacks = tt
lacks_first k (local ∷ some) more lacks = (lacks.0, lacks_first k some more lacks.1)

pub lacks_more : (k : ℕ) (some more : List ℕ) → Lacks k (some ++ more) → Lacks k more
lacks_more k [] more lacks = lacks
lacks_more k (local ∷ some) more lacks = lacks_more k some more lacks.1

-- each goal is at rest, but perhaps those that hold these slots
abbrev pub RestsBut : BoxState → List ℕ → Type 0
RestsBut box todo = (k : ℕ) → Lacks k todo → RestsAt (goal_at box k) box k

same_link : (p q : ℕ) (goal : SlotGoal) → goal ≡ Link p → goal ≡ Link q → p ≡ q
same_link p q goal one two = cc

no_end : (p : ℕ) (end : Goal) (goal : SlotGoal) → goal ≡ End end → goal ≡ Link p → ⊥
no_end p end goal one two = cc

-- a slot that a goal doesn't hold is linked with none that it holds
pub held_apart : (goal : SlotGoal) (box : BoxState) (local k partner : ℕ) → IsWired box → goal_at box local ≡ goal → goal_at box k ≡ Link partner
    → Lacks k (held goal local) → Lacks partner (held goal local)
held_apart (End end) box local k partner wired is linked lacks =
    let back : goal_at box partner ≡ Link k = (wired.links k partner linked).back in
    (λ same. no_end k end (goal_at box local) is (ap (goal_at box) (sym same) ∙ back), tt)
held_apart (Link other) box local k partner wired is linked lacks =
    let back : goal_at box partner ≡ Link k = (wired.links k partner linked).back in
    let there : goal_at box other ≡ Link local = (wired.links local other is).back in (
      λ same. lacks.1.0 (same_link k other (goal_at box local) (ap (goal_at box) (sym same) ∙ back) is),
      (λ same. lacks.0 (same_link k local (goal_at box other) (ap (goal_at box) (sym same) ∙ back) there), tt),
    )

-- a goal that doesn't hold the slots that change rests as before
pub elsewhere_rests : (goal : SlotGoal) (box : BoxState) (slots : List Slot) (local k : ℕ) → IsWired box → goal_at box local ≡ goal
    → ((j : ℕ) → Lacks j (held goal local) → get_or slots j no_slot ≡ slot_at box j) → Lacks k (held goal local)
    → RestsAt (goal_at box k) box k → RestsAt (goal_at box k) (box_with box slots) k
elsewhere_rests goal box slots local k wired is same lacks rests =
    rests_same (goal_at box k) box (box_with box slots) k
    (record {
      slot = same k lacks;
      mine = own_put box.kind box slots box.goals box.media (media_at box k) k;
      me = sender_put box.kind box slots box.goals box.media (media_at box k) k;
    })
    (λ partner linked. same partner (held_apart goal box local k partner wired is linked lacks)) rests

-- an end rests where what it is made of rests
pub rests_there : (goal : Goal) (new : BoxState) (local : ℕ) (slot : Slot) (mine : Descriptor) (me : Sender)
    → slot_at new local ≡ slot → own new local ≡ mine → sender new local ≡ me → IsAtRest goal slot mine me → RestsAt (End goal) new local
rests_there goal new local slot mine me is own_is sender_is rests = cc

-- both slots of a link are there
pub high_inside : (box : BoxState) (local partner : ℕ) → IsWired box → local < length box.slots → goal_at box local ≡ Link partner → max local partner < length box.slots
high_inside box local partner wired inside is = at_max (λ (k : ℕ). k < length box.slots) local partner inside (wired.links local partner is).inside
