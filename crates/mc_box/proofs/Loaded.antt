-- What is looked at slot by slot is what a box keeps.
use Rattle.std.proofs.Common.{◌≡◌, ◌==◌, ℕ, ◌+◌, ◌<◌, ◌≤◌, Bool, true, false, MatchBool, Option, Some, None, List, [], ◌∷◌, map, inl, inr, length, max, min, refl, ap, sym, ◌∙◌, subst, zero, suc, arith}
use Rattle.std.proofs.Math.ListN.{get_or}
use Rattle.std.proofs.lemmas.Bool.{cases_eq, cases_lt, eqb-false, eqb-true}
use Rattle.std.proofs.lemmas.List.{get_or_past, length-map}
use Rattle.mc_signal.specs.declared.Descriptor.{Descriptor}
use Rattle.mc_signal.specs.declared.Sender.{Sender}
use Rattle.mc_signal.specs.declared.Signal.{Signal}
use Rattle.mc_slot.specs.Sending.{pair_of, sends_of}
use Rattle.mc_slot.specs.Tunnel.{Kept}
use Rattle.mc_slot.specs.declared.Goal.TheVariants.{Close as ToClose}
use Rattle.mc_slot.specs.declared.Slot.{Slot}
use Rattle.mc_slot.specs.declared.SlotGoal.{SlotGoal}
use Rattle.mc_slot.specs.declared.SlotGoal.TheVariants.{End, Link}
use Rattle.mc_slot.specs.declared.State.TheVariants.{Closed}
use Rattle.mc_slot.specs.declared.sends.Sends.{Sends}
use Rattle.mc_rule.specs.Programs.{IsProgram, ProgStateState}
use Rattle.mc_box.specs.BoxSound.{FitsProgram, IsLinked, IsSoundBox, IsWired, RestsAt}
use Rattle.mc_box.specs.Boxes.{BoxState, FitsSlots, goal_at, goals_in, no_slot, slot_at}
use Rattle.mc_box.specs.Loading.{AllRest, AreWired, FitGoals, FitsGoals, FitsNumbers, IsWiredAt, LinksAlike}
use Rattle.mc_box.specs.declared.event.Kind.{Kind}
use Rattle.mc_box.specs.declared.event.Kind.TheVariants.{Feature}
use Rattle.mc_box.proofs.Held.{at_max, at_min}
use Rattle.mc_box.proofs.NewBoxes.{closed_goal_rests}
use Rattle.mc_box.proofs.Taking.{sends_length}

-- ---- one more of those below a number

pub and_this : (P : ℕ → Type 0) (count : ℕ) → ((i : ℕ) → i < count → P i) → P count → (i : ℕ) → i < count + 1 → P i
and_this P count before this i low = elim (cases_eq i count) [
  | inl same ↦ subst P (sym same) this
  | inr apart ↦ before i (omega arith)
]

-- what stands at a place that is there is the same, whatever stands where nothing is
there_is : {X : Type 0} (xs : List X) (i : ℕ) (d e : X) → i < length xs → get_or xs i d ≡ get_or xs i e
there_is [] i d e inside = absurd (omega arith)
there_is (x ∷ xs) zero d e inside = refl
there_is (x ∷ xs) (suc i) d e inside = there_is xs i d e (omega arith)

-- the slot that was read is the one that is meant
pub slot_read : (slots : List Slot) (slot : Slot) (place i : ℕ) → place ≡ i → place < length slots → slot ≡ get_or slots place slot
    → slot ≡ get_or slots i no_slot
slot_read slots slot place i same inside is =
    is ∙ (there_is slots place slot no_slot inside ∙ ap (λ (k : ℕ). get_or slots k no_slot) same)

-- ---- past the last slot

no_goal : (goals : List SlotGoal) (local : ℕ) → length goals ≤ local → get_or goals local (End ToClose) ≡ End ToClose
no_goal goals local past = get_or_past goals local (End ToClose) past

nothing : (slots : List Slot) (local : ℕ) → length slots ≤ local → get_or slots local no_slot ≡ no_slot
nothing slots local past = get_or_past slots local no_slot past

-- ---- a box that fits together

kept_at : (box : BoxState) → AreWired box → (local : ℕ) → Kept (slot_at box local)
kept_at box wired local = elim (cases_lt local (length box.slots)) [
  | inl inside ↦ (wired local inside).kept
  | inr past ↦ subst (λ (s : Slot). Kept s) (sym (nothing box.slots local past)) (refl, refl, refl, refl)
]

links_at : (box : BoxState) → FitsNumbers box → AreWired box → (local partner : ℕ) → goal_at box local ≡ Link partner
    → IsLinked box local partner
links_at box fits wired local partner is = elim (cases_lt local (length box.slots)) [
  | inl inside ↦ (wired local inside).links partner is
  | inr past ↦
      let none : goal_at box local ≡ End ToClose = no_goal box.goals local (subst (λ (n : ℕ). n ≤ local) (sym fits.whole.goals) past) in
      absurd cc
]

pub all_wired : (box : BoxState) → FitsNumbers box → AreWired box
    → FitsProgram box.kind box.slots box.program box.at box.told → IsWired box
all_wired box fits wired program = record {
  whole = fits.whole;
  few = fits.few;
  address = fits.address;
  kept = λ local. kept_at box wired local;
  links = λ local partner is. links_at box fits wired local partner is;
  program = program;
}

pub wired_by : (box : BoxState) (fits_program : Bool) → FitsNumbers box → AreWired box
    → MatchBool fits_program (FitsProgram box.kind box.slots box.program box.at box.told)
    (FitsProgram box.kind box.slots box.program box.at box.told → ⊥)
    → MatchBool fits_program (IsWired box) (IsWired box → ⊥)
wired_by box true fits wired program = all_wired box fits wired program
wired_by box false fits wired unfit = λ whole. unfit whole.program

pub wired_numbers : (box : BoxState) → IsWired box → FitsNumbers box
wired_numbers box wired = record { whole = wired.whole; few = wired.few; address = wired.address }

pub wired_each : (box : BoxState) → IsWired box → AreWired box
wired_each box wired local inside = record { kept = wired.kept local; links = λ partner is. wired.links local partner is }

-- ---- a box whose goals are at rest

pub all_sound : (box : BoxState) → IsWired box → AllRest box → IsSoundBox box
all_sound box wired rest = record {
  wired = wired;
  rests = λ local. elim (cases_lt local (length box.slots)) [
    | inl inside ↦ rest local inside
    | inr past ↦ closed_goal_rests (goal_at box local) box local
        (no_goal box.goals local (subst (λ (n : ℕ). n ≤ local) (sym wired.whole.goals) past))
        (ap (λ (s : Slot). s.state) (nothing box.slots local past))
  ];
}

pub sound_each : (box : BoxState) → IsSoundBox box → AllRest box
sound_each box sound local inside = sound.rests local

pub sound_by : (box : BoxState) (rest : Bool) → IsWired box → MatchBool rest (AllRest box) (AllRest box → ⊥)
    → MatchBool rest (IsSoundBox box) (IsSoundBox box → ⊥)
sound_by box true wired rest = all_sound box wired rest
sound_by box false wired restless = λ sound. restless (sound_each box sound)

-- both slots of a link
pub record ArePair (low high : Slot) : Type 0 where
  pub medium : low.medium ≡ high.medium
  pub kept_low : Kept low
  pub kept_high : Kept high

pub pair_at : (box : BoxState) (local partner : ℕ) → IsWired box → goal_at box local ≡ Link partner
    → ArePair (slot_at box (min local partner)) (slot_at box (max local partner))
pair_at box local partner wired is =
    let same : (slot_at box partner).medium ≡ (slot_at box local).medium = (wired.links local partner is).medium in
    let low : (slot_at box (min local partner)).medium ≡ (slot_at box local).medium =
    at_min (λ (k : ℕ). (slot_at box k).medium ≡ (slot_at box local).medium) local partner refl same in
    let high : (slot_at box (max local partner)).medium ≡ (slot_at box local).medium =
    at_max (λ (k : ℕ). (slot_at box k).medium ≡ (slot_at box local).medium) local partner refl same in
    record { medium = low ∙ sym high; kept_low = wired.kept (min local partner); kept_high = wired.kept (max local partner) }

-- ---- the goals of a program's states

goals_past : (states : List ProgStateState) (at : ℕ) → length states ≤ at → goals_in states at ≡ []
goals_past [] at past = refl
goals_past (one ∷ states) zero past = absurd (omega arith)
goals_past (one ∷ states) (suc at) past = goals_past states at (omega arith)

by_link : (slots : List Slot) (local partner : ℕ) (goal : SlotGoal) → goal ≡ Link partner → LinksAlike slots local goal
    → (get_or slots partner no_slot).medium ≡ (get_or slots local no_slot).medium
by_link slots local partner goal is alike = subst (λ (g : SlotGoal). LinksAlike slots local g) is alike

media_in : (slots : List Slot) (goals : List SlotGoal) (local partner : ℕ)
    → ((k : ℕ) → k < length goals → LinksAlike slots k (get_or goals k (End ToClose)))
    → get_or goals local (End ToClose) ≡ Link partner
    → (get_or slots partner no_slot).medium ≡ (get_or slots local no_slot).medium
media_in slots goals local partner alike is = elim (cases_lt local (length goals)) [
  | inl inside ↦ by_link slots local partner (get_or goals local (End ToClose)) is (alike local inside)
  | inr past ↦ let none : get_or goals local (End ToClose) ≡ End ToClose = no_goal goals local past in absurd cc
]

media_at : (slots : List Slot) (states : List ProgStateState) (at local partner : ℕ) → FitGoals slots states
    → get_or (goals_in states at) local (End ToClose) ≡ Link partner
    → (get_or slots partner no_slot).medium ≡ (get_or slots local no_slot).medium
media_at slots states at local partner fit is = elim (cases_lt at (length states)) [
  | inl inside ↦ media_in slots (goals_in states at) local partner (fit at inside).alike is
  | inr past ↦
      let none : get_or (goals_in states at) local (End ToClose) ≡ End ToClose =
      ap (λ (l : List SlotGoal). get_or l local (End ToClose)) (goals_past states at past) in
      absurd cc
]

pub program_fits : (kind : Kind) (slots : List Slot) (states : List ProgStateState) → kind ≡ Feature → IsProgram states
    → FitGoals slots states → FitsSlots kind slots states
program_fits kind slots states feature program fit = record {
  feature = feature;
  program = program;
  goals = λ at inside. (fit at inside).count;
  media = λ at local partner is. media_at slots states at local partner fit is;
}

alike_by : (slots : List Slot) (local : ℕ) (goal : SlotGoal)
    → ((partner : ℕ) → goal ≡ Link partner → (get_or slots partner no_slot).medium ≡ (get_or slots local no_slot).medium)
    → LinksAlike slots local goal
alike_by slots local (End goal) media = tt
alike_by slots local (Link partner) media = media partner refl

pub goals_fit : (kind : Kind) (slots : List Slot) (states : List ProgStateState) → FitsSlots kind slots states
    → FitGoals slots states
goals_fit kind slots states fits at inside = record {
  count = fits.goals at inside;
  alike = λ local here. alike_by slots local (get_or (goals_in states at) local (End ToClose)) (λ partner is. fits.media at local partner is);
}

-- ---- what sends nothing

sent_none : {X : Type 0} (f : X → ℕ × Signal) (signals : List X) → length (map f signals) ≡ 0 → signals ≡ []
sent_none f [] none = refl
sent_none f (signal ∷ signals) none = absurd (omega arith)

sent_some : {X : Type 0} (f : X → ℕ × Signal) (signals : List X) (count : ℕ) → length (map f signals) ≡ count → (count ≡ 0 → ⊥)
    → signals ≡ [] → ⊥
sent_some f signals count is some none = some (sym is ∙ ap (λ (l : List _). length (map f l)) none)

is_zero_by : (n : ℕ) (b : Bool) → (n == 0) ≡ b → MatchBool b (n ≡ 0) (n ≡ 0 → ⊥)
is_zero_by n true is = eqb-true n 0 is
is_zero_by n false is = λ zero_is. eqb-false n 0 is zero_is

pub is_zero : (n : ℕ) → MatchBool (n == 0) (n ≡ 0) (n ≡ 0 → ⊥)
is_zero n = is_zero_by n (n == 0) refl

-- a turn sends nothing just where no signal is in what it sends
pub sends_none : {X : Type 0} (f : X → ℕ × Signal) (signals : List X) (sends : Sends) → sends.len ≤ length sends.at
    → sends_of sends ≡ map f signals → (b : Bool) → MatchBool b (sends.len ≡ 0) (sends.len ≡ 0 → ⊥)
    → MatchBool b (signals ≡ []) (signals ≡ [] → ⊥)
sends_none f signals sends fits is true none = sent_none f signals (sym (ap length is) ∙ (sends_length sends fits ∙ none))
sends_none f signals sends fits is false some = sent_some f signals sends.len (sym (ap length is) ∙ sends_length sends fits) some
