-- Noting what slots carry, one slot after another.
use Rattle.std.proofs.Common.{◌≡◌, ◌≢◌, ◌<◌, ◌≤◌, ◌+◌, inl, inr, ℕ, Option, Some, None, IfSome, List, length, get_or, set, refl, ap, sym, ◌∙◌, subst, arith}
use Rattle.std.proofs.Math.ListN.{length-set}
use Rattle.std.proofs.lemmas.Bool.{cases_eq, cases_lt}
use Rattle.std.proofs.lemmas.List.{get_or-set_same, get_or-set_other}
use Rattle.mc_model.specs.Sound.{IsSound}
use Rattle.mc_model.specs.Worlds.{WorldState, box_at, number, place, slot_count, slot_of}
use Rattle.mc_cause.specs.Carried.{noted}
use Rattle.mc_cause.specs.Notes.{NotesBox, NotesSlot}
use Rattle.mc_laws.proofs.Numbers.{number_is}

abbrev pub Carry : Type 0
Carry = List (Option ℕ)

-- ---- the slots of a box

-- the first slots of a box are noted, the others not yet
pub record NotedBelow (world : WorldState) (who origin i : ℕ) (old new : Carry) : Type 0 where
  pub long : length new ≡ length old
  pub own : (s : ℕ) → s < slot_count world → (place world s).0 ≡ who → (place world s).1 < i → NotesSlot world s origin old new
  pub rest : (s : ℕ) → s < slot_count world → (place world s).0 ≡ who → i ≤ (place world s).1 → get_or new s None ≡ get_or old s None
  pub others : (s : ℕ) → (place world s).0 ≢ who → get_or new s None ≡ get_or old s None

pub none_below : (world : WorldState) (who origin : ℕ) (old : Carry) → NotedBelow world who origin 0 old old
none_below world who origin old = record { long = refl; own = λ s inside is below. absurd (omega arith); rest = λ s inside is above. refl; others = λ s other. refl }

-- a number that the box has at this place
its_number : (world : WorldState) (who i s : ℕ) → IsSound world → s < slot_count world → (place world s).0 ≡ who → (place world s).1 ≡ i → number world who i ≡ Some s
its_number world who i s sound inside is at =
    ap (λ (w : ℕ). number world w i) (sym is) ∙ (ap (λ (l : ℕ). number world (place world s).0 l) (sym at) ∙ sound.numbered.once s inside)

-- no slot has it
pub more_none : (world : WorldState) (who origin i : ℕ) (old new : Carry) → IsSound world → number world who i ≡ None → NotedBelow world who origin i old new → NotedBelow world who origin (i + 1) old new
more_none world who origin i old new sound none below = record {
  long = below.long;
  own = λ s inside is at. elim (cases_lt (place world s).1 i) [
    | inl less ↦ below.own s inside is less
    | inr more ↦ absurd (let here : (place world s).1 ≡ i = omega arith in let found : number world who i ≡ Some s = its_number world who i s sound inside is here in cc)
  ];
  rest = λ s inside is above. below.rest s inside is (omega arith);
  others = below.others;
}

-- a slot has it, and is noted
pub more_some : (world : WorldState) (who origin i slot : ℕ) (old now new : Carry) → IsSound world → length old ≡ slot_count world → number world who i ≡ Some slot → NotedBelow world who origin i old now
    → new ≡ set now slot (noted (slot_of world slot).state (get_or now slot None) origin) → NotedBelow world who origin (i + 1) old new
more_some world who origin i slot old now new sound long found below is =
    let at = number_is world who i slot found in
    let there : slot < length now = subst (λ (n : ℕ). slot < n) (sym (below.long ∙ long)) at.0 in
    let same : get_or now slot None ≡ get_or old slot None = below.rest slot at.0 at.1 (let e : (place world slot).1 ≡ i = at.2 in omega arith) in
    let else_is : (s : ℕ) → s ≢ slot → get_or new s None ≡ get_or now s None =
    λ s apart. ap (λ (l : Carry). get_or l s None) is ∙ get_or-set_other now slot s (noted (slot_of world slot).state (get_or now slot None) origin) None apart in
    record {
      long = ap length is ∙ (length-set now slot (noted (slot_of world slot).state (get_or now slot None) origin) ∙ below.long);
      own = λ s inside box_is less. elim (cases_eq s slot) [
        | inl here ↦
            subst (λ (t : ℕ). NotesSlot world t origin old new) (sym here)
            (ap (λ (l : Carry). get_or l slot None) is
            ∙ (get_or-set_same now slot (noted (slot_of world slot).state (get_or now slot None) origin) None there ∙ ap (λ (o : Option ℕ). noted (slot_of world slot).state o origin) same))
        | inr apart ↦
            else_is s apart
            ∙ below.own s inside box_is
            (lower (place world s).1 i less (λ last. apart (let twice : Some s ≡ Some slot = sym (its_number world who i s sound inside box_is last) ∙ found in cc)))
      ];
      rest = λ s inside box_is above.
          else_is s (λ here. past i (place world s).1 above (ap (λ (t : ℕ). (place world t).1) here ∙ at.2))
          ∙ below.rest s inside box_is (omega arith);
      others = λ s other. else_is s (λ here. other (ap (λ (t : ℕ). (place world t).0) here ∙ at.1)) ∙ below.others s other;
    }
  where
    lower : (a i : ℕ) → a < i + 1 → (a ≡ i → ⊥) → a < i
    lower a i less apart = elim (cases_lt a i) [
      | inl below ↦ below
      | inr above ↦ absurd (apart (omega arith))
    ]

    past : (i a : ℕ) → i + 1 ≤ a → a ≡ i → ⊥
    past i a above is = omega arith

pub all_below : (world : WorldState) (who origin count : ℕ) (old new : Carry) → IsSound world → count ≡ length (box_at world who).slots → NotedBelow world who origin count old new → NotesBox world who origin old new
all_below world who origin count old new sound is below = record {
  long = below.long;
  own = λ s inside box_is.
      below.own s inside box_is (subst (λ (n : ℕ). (place world s).1 < n) (sym is) (subst (λ (w : ℕ). (place world s).1 < length (box_at world w).slots) box_is (sound.numbered.slots s inside)));
  others = below.others;
}

pub inside_if : (o : Option ℕ) (n p : ℕ) → o ≡ Some p → IfSome o (λ q. q < n) → p < n
inside_if None n p is inside = absurd (cc)
inside_if (Some q) n p is inside = let same : q ≡ p = cc in subst (λ (k : ℕ). k < n) same inside
