-- The retries that are owed: they are retries and nothing else, and each is there once.
use Rattle.std.proofs.Common.{◌≡◌, ◌≢◌, ◌<◌, ◌==◌, ◌&&◌, inl, inr, if◌then◌else◌, nat_lt, ℕ, zero, suc, Bool, true, false, [], ◌∷◌, length, count_by, refl, ap, ◌∙◌, subst, arith}
use Rattle.std.proofs.lemmas.Bool.{cases_eq}
use Rattle.std.proofs.lemmas.Grind.{common_steps}
use Rattle.mc_box.specs.Boxes.{is_slot, box_owes}
use Rattle.mc_slot_laws.specs.Sums.{total}
use Rattle.mc_slot_laws.proofs.Sums.{total_none}
use Rattle.mc_model.specs.Settles.{is_retry_of, world_owes, takes_or_retries}
use Rattle.mc_model.specs.Worlds.{WorldState, box_at}
use Rattle.mc_laws.proofs.Numbers.{box_inside, slot_inside}
use Rattle.mc_seq.specs.ForEach.{for_each}
use Rattle.mc_seq.specs.Retries.{owed_retry, retries_by_box, retries_of, retry_turn}
use Rattle.mc_seq.proofs.ForEach.{each_count, each_pass}
use Rattle.mc_seq.proofs.Segments.{all_besides}

-- ---- retries and nothing else

-- of one slot
owed_by : (owes : Bool) (who local : ℕ) → all_besides (if owes then retry_turn who local ∷ [] else []) ≡ true
owed_by true who local = refl
owed_by false who local = refl

owed_besides : (world : WorldState) (who local : ℕ) → all_besides (owed_retry world who local) ≡ true
owed_besides world who local = owed_by (box_owes (box_at world who) local) who local

-- of the boxes below a number
pub boxes_besides : (world : WorldState) (n : ℕ) → all_besides (for_each (retries_of world) n) ≡ true
boxes_besides world n =
    each_pass (λ turn. takes_or_retries turn.event) (retries_of world) n
    (λ who. each_pass (λ turn. takes_or_retries turn.event) (owed_retry world who) (length (box_at world who).slots) (owed_besides world who))

-- ---- sums

-- one number alone has something
pub total_alone : (f : ℕ → ℕ) (n s : ℕ) → s < n → ((t : ℕ) → t < n → t ≢ s → f t ≡ 0) → total f n ≡ f s
total_alone f zero s inside others = absurd (omega arith)
total_alone f (suc n) s inside others = elim (cases_eq n s) [
  | inl same ↦
      let rest : total f n ≡ 0 = total_none f n (λ t below. others t (omega arith) (omega arith)) in
      let here : f n ≡ f s = ap f same in
      omega arith
  | inr apart ↦
      let here : f n ≡ 0 = others n (omega arith) apart in
      let rest : total f n ≡ f s = total_alone f n s (omega arith) (λ t below other. others t (omega arith) other) in
      omega arith
]

-- ---- the retry of one slot

-- the test of a slot with itself
pub same_test : (a b : ℕ) → (a == a && b == b) ≡ true
same_test a b = grind (arith, common_steps)

-- the test of another slot
pub other_test : (a b c d : ℕ) → (a ≡ b → c ≡ d → ⊥) → (a == b && c == d) ≡ false
other_test a b c d other = grind (arith, common_steps)

-- the retry of another slot doesn't count
else_by : (owes : Bool) (w l who local : ℕ) → is_retry_of who local (retry_turn w l) ≡ false → count_by (is_retry_of who local) (if owes then retry_turn w l ∷ [] else []) ≡ 0
else_by true w l who local is = rw is refl
else_by false w l who local is = refl

-- the Retry of a slot counts where it is owed
here_by : (owes : Bool) (w l who local : ℕ) → is_retry_of who local (retry_turn w l) ≡ true → count_by (is_retry_of who local) (if owes then retry_turn w l ∷ [] else []) ≡ (if owes then 1 else 0)
here_by true w l who local is = rw is refl
here_by false w l who local is = refl

-- that of another slot doesn't
owed_else : (world : WorldState) (w l who local : ℕ) → (w ≡ who → l ≡ local → ⊥) → count_by (is_retry_of who local) (owed_retry world w l) ≡ 0
owed_else world w l who local apart = else_by (box_owes (box_at world w) l) w l who local (other_test l local w who (λ at here. apart here at))

-- that of a slot itself counts where it is owed
owed_here : (world : WorldState) (who local : ℕ) → count_by (is_retry_of who local) (owed_retry world who local) ≡ (if box_owes (box_at world who) local then 1 else 0)
owed_here world who local = here_by (box_owes (box_at world who) local) who local who local (same_test local who)

-- ---- by box

-- in a box the Retry of each of its slots comes once
box_count : (world : WorldState) (w who local : ℕ) → count_by (is_retry_of who local) (retries_of world w) ≡ total (λ (l : ℕ). count_by (is_retry_of who local) (owed_retry world w l)) (length (box_at world w).slots)
box_count world w who local = each_count (is_retry_of who local) (owed_retry world w) (length (box_at world w).slots)

-- and that of no slot of another box
box_else : (world : WorldState) (w who local : ℕ) → w ≢ who → count_by (is_retry_of who local) (retries_of world w) ≡ 0
box_else world w who local apart =
    box_count world w who local ∙ total_none (λ (l : ℕ). count_by (is_retry_of who local) (owed_retry world w l)) (length (box_at world w).slots) (λ l below. owed_else world w l who local (λ here at. apart here))

-- a number that isn't below a limit by the test isn't below it
missing : (k n : ℕ) → nat_lt k n ≡ false → k < n → ⊥
missing k n off below = grind (arith, common_steps)

-- a slot of the box: its Retry comes as often as the slot is there and owes it
box_here : (there : Bool) (world : WorldState) (who local : ℕ) → is_slot (box_at world who) local ≡ there
    → count_by (is_retry_of who local) (retries_of world who) ≡ (if there && box_owes (box_at world who) local then 1 else 0)
box_here true world who local is =
    box_count world who who local
    ∙ (total_alone (λ (l : ℕ). count_by (is_retry_of who local) (owed_retry world who l)) (length (box_at world who).slots) local (slot_inside (box_at world who) local is) (λ l below apart. owed_else world who l who local (λ here at. apart at))
    ∙ owed_here world who local)
box_here false world who local is =
    box_count world who who local
    ∙ total_none (λ (l : ℕ). count_by (is_retry_of who local) (owed_retry world who l)) (length (box_at world who).slots)
    (λ l below. owed_else world who l who local (λ here at. missing local (length (box_at world who).slots) is (subst (λ (k : ℕ). k < length (box_at world who).slots) at below)))

-- a box that is there, or isn't
boxes_by : (there : Bool) (world : WorldState) (who local : ℕ) → nat_lt who (length world.boxes) ≡ there
    → count_by (is_retry_of who local) (retries_by_box world) ≡ (if there && is_slot (box_at world who) local && box_owes (box_at world who) local then 1 else 0)
boxes_by true world who local is =
    each_count (is_retry_of who local) (retries_of world) (length world.boxes)
    ∙ (total_alone (λ (w : ℕ). count_by (is_retry_of who local) (retries_of world w)) (length world.boxes) who (box_inside world who is) (λ w below apart. box_else world w who local apart)
    ∙ box_here (is_slot (box_at world who) local) world who local refl)
boxes_by false world who local is =
    each_count (is_retry_of who local) (retries_of world) (length world.boxes)
    ∙ total_none (λ (w : ℕ). count_by (is_retry_of who local) (retries_of world w)) (length world.boxes)
    (λ w below. box_else world w who local (λ here. missing who (length world.boxes) is (subst (λ (k : ℕ). k < length world.boxes) here below)))

-- each owed Retry is there once, and no other
pub once_by_box : (world : WorldState) (who local : ℕ) → count_by (is_retry_of who local) (retries_by_box world) ≡ (if world_owes world who local then 1 else 0)
once_by_box world who local = boxes_by (nat_lt who (length world.boxes)) world who local refl
