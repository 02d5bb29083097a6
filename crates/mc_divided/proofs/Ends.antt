-- How the runs of parts ended, one part after another.
use Rattle.std.proofs.Common.{◌≡◌, inl, inr, ◌<◌, ◌≤◌, ◌+◌, Bool, ℕ, Some, List, length, slice_get, slice_set, refl, ap, sym, ◌∙◌, subst, arith}
use Rattle.std.proofs.lemmas.Option.{slice_get_within}
use Rattle.mc_part.specs.Phases.{EachChanged, EachOf}
use Rattle.mc_part.specs.declared.part_run.PartRun.{PartRun}
use Rattle.mc_divided.specs.Phasing.{AreChosen, HasNothing, IsChosen, WakesUp}
use Rattle.mc_part.specs.declared.part.Part.{Part}
use Rattle.mc_divided.proofs.PartsBy.{run_there}
use Rattle.mc_divided.proofs.Lists.{get_other, one_of, same_or_not, set_here, set_length}

-- ---- the first so many

pub each_next : (P : PartRun → Type 0) (runs : List PartRun) (k : ℕ) (x : PartRun) → slice_get runs k ≡ Some x → P x → ((i : ℕ) (run : PartRun) → i < k → slice_get runs i ≡ Some run → P run)
    → (i : ℕ) (run : PartRun) → i < k + 1 → slice_get runs i ≡ Some run → P run
each_next P runs k x there holds so_far i run below at = elim (same_or_not i k) [
  | inl same ↦ subst P (one_of (slice_get runs i) x run (ap (λ (n : ℕ). slice_get runs n) same ∙ there) at) holds
  | inr off ↦ so_far i run (omega (arith, below, off)) at
]

pub each_all : (P : PartRun → Type 0) (runs : List PartRun) (k : ℕ) → length runs ≤ k → ((i : ℕ) (run : PartRun) → i < k → slice_get runs i ≡ Some run → P run) → EachOf P runs
each_all P runs k past so_far i run at = so_far i run (let below = slice_get_within runs i run at in omega (arith, below, past)) at

-- ---- the first so many are chosen

pub record ChosenSoFar (every : Bool) (k : ℕ) (old now : List PartRun) : Type 0 where
  pub count : length now ≡ length old
  pub done : (i : ℕ) (a b : PartRun) → i < k → slice_get old i ≡ Some a → slice_get now i ≡ Some b → IsChosen every a b
  pub rest : (i : ℕ) → k ≤ i → slice_get now i ≡ slice_get old i

-- and more of them wake up
wakes : (every : Bool) (a b c : PartRun) → IsChosen every a b → WakesUp b c → IsChosen every a c
wakes every a b c chosen woken = record {
  part = woken.part ∙ chosen.part;
  ended = woken.ended ∙ chosen.ended;
  known = woken.known ∙ chosen.known;
  idle = λ off. subst (λ (p : Part). HasNothing every p) (sym woken.part) (chosen.idle (woken.active off));
}

pub woken : (every : Bool) (old now next : List PartRun) → AreChosen every old now → EachChanged WakesUp now next → AreChosen every old next
woken every old now next chosen woke = record {
  count = woke.count ∙ chosen.count;
  each = λ i a c p q.
      let inside : i < length now = subst (λ (n : ℕ). i < n) (sym chosen.count) (slice_get_within old i a p) in
      let b = run_there now i inside in
      wakes every a b.0 c (chosen.each i a b.0 p b.1) (woke.each i b.0 c b.1 q);
}

-- one more is chosen
pub chosen_more : (every : Bool) (old now : List PartRun) (k : ℕ) (a x : PartRun) → slice_get now k ≡ Some a → IsChosen every a x
    → ChosenSoFar every k old now → ChosenSoFar every (k + 1) old (slice_set now k x)
chosen_more every old now k a x there chosen so_far = record {
  count = set_length now k x ∙ so_far.count;
  done = λ i b c below at_old at_new. elim (same_or_not i k) [
    | inl same ↦
        let b_is : a ≡ b = one_of (slice_get old i) a b (ap (λ (n : ℕ). slice_get old n) same ∙ sym (so_far.rest k (omega arith)) ∙ there) at_old in
        let c_is : x ≡ c = one_of (slice_get (slice_set now k x) i) x c (ap (λ (n : ℕ). slice_get (slice_set now k x) n) same ∙ set_here now k a x there) at_new in
        subst (λ (r : PartRun). IsChosen every r c) b_is (subst (λ (r : PartRun). IsChosen every a r) c_is chosen)
    | inr off ↦ so_far.done i b c (omega (arith, below, off)) at_old (sym (get_other now k i x off) ∙ at_new)
  ];
  rest = λ i above. get_other now k i x (λ same. omega (arith, above, same)) ∙ so_far.rest i (omega (arith, above));
}

-- and then all are
pub all_chosen : (every : Bool) (old now : List PartRun) (k : ℕ) → length now ≤ k → ChosenSoFar every k old now → AreChosen every old now
all_chosen every old now k past so_far = record {
  count = so_far.count;
  each = λ i a b p q. so_far.done i a b (let below = slice_get_within now i b q in omega (arith, below, past)) p q;
}
