-- Turns of changed goals send at most twice as many signals as there are slots.
use Rattle.std.proofs.Common.{◌≡◌, ◌≢◌, ◌<◌, ◌≤◌, ◌+◌, ◌*◌, ℕ, Bool, true, false, not, if◌then◌else◌, inl, inr, zero, suc, List, [], ◌∷◌, length, nat_le, nat_lt, refl, ap, sym, ◌∙◌, subst, arith}
use Rattle.std.proofs.Math.ListN.{get_or}
use Rattle.std.proofs.lemmas.Bool.{cases_lt, and_parts, le-leb, lt-leb, lt-ltb, le-ltb}
use Rattle.mc_slot.specs.Same.{is_same_slot_goal}
use Rattle.mc_slot_laws.specs.Sums.{total}
use Rattle.mc_slot_laws.proofs.Sums.{total_grows, total_next, total_none, total_one, total_same}
use Rattle.mc_slot.specs.declared.Goal.TheVariants.{Close as ToClose}
use Rattle.mc_slot.specs.declared.SlotGoal.{SlotGoal}
use Rattle.mc_slot.specs.declared.SlotGoal.TheVariants.{End, Link}
use Rattle.mc_box.specs.BoxSound.{IsWired}
use Rattle.mc_box.specs.Boxes.{BoxState, goal_at}
use Rattle.mc_box.specs.Goals.{changed_from, changed_slots, has_turn, leads, most_signals}
use Rattle.mc_box.proofs.Folds.{most_of}

-- ---- sums

-- ---- what a slot's goal may send, where it has its turn there

abbrev pub cost : ℕ → SlotGoal → ℕ
cost local goal = if leads local goal then most_signals goal else 0

abbrev pub cost_at : List SlotGoal → ℕ → ℕ
cost_at goals local = cost local (get_or goals local (End ToClose))

cost_led : (led : Bool) (goal : SlotGoal) → led ≡ true → most_signals goal ≤ (if led then most_signals goal else 0)
cost_led true goal is = omega arith
cost_led false goal is = absurd (cc)

-- a goal that has its turn here leads here
pub turn_cost : (local : ℕ) (old new : SlotGoal) → has_turn local old new ≡ true → most_signals new ≤ cost local new
turn_cost local old new turns = cost_led (leads local new) new (and_parts (not (is_same_slot_goal old new)) (leads local new) turns).1

step_by : (turn : Bool) (goals : List SlotGoal) (local : ℕ) (locals : List ℕ) (here sum end : ℕ) → (turn ≡ true → most_signals (get_or goals local (End ToClose)) ≤ here)
    → most_of goals locals + (here + sum) ≤ end → most_of goals (if turn then local ∷ locals else locals) + sum ≤ end
step_by true goals local locals here sum end few rest = omega (arith, few refl)
step_by false goals local locals here sum end few rest = omega arith

-- the turns of changed goals send no more than all slots may
changed_cost : (olds news goals : List SlotGoal) (at : ℕ) → ((i j : ℕ) → j ≡ at + i → i < length news → get_or news i (End ToClose) ≡ get_or goals j (End ToClose))
    → most_of goals (changed_from at olds news) + total (cost_at goals) at ≤ total (cost_at goals) (at + length news)
changed_cost [] news goals at same = omega (arith, total_grows (cost_at goals) at (at + length news) (omega arith))
changed_cost (old ∷ olds) [] goals at same = omega (arith, total_grows (cost_at goals) at (at + 0) (omega arith))
changed_cost (old ∷ olds) (new ∷ news) goals at same =
    let here : new ≡ get_or goals at (End ToClose) = same 0 at (omega arith) (omega arith) in
    let rest : most_of goals (changed_from (at + 1) olds news) + total (cost_at goals) (at + 1) ≤ total (cost_at goals) (at + 1 + length news) =
    changed_cost olds news goals (at + 1) (λ i j is inside. same (suc i) j (omega arith) (omega arith)) in
    let end : at + 1 + length news ≡ at + suc (length news) = omega arith in
    step_by (has_turn at old new) goals at (changed_from (at + 1) olds news) (cost_at goals at) (total (cost_at goals) at) (total (cost_at goals) (at + suc (length news)))
    (λ turns. subst (λ (g : SlotGoal). most_signals g ≤ cost at g) here (turn_cost at old new turns))
    (subst (λ (n : ℕ). most_of goals (changed_from (at + 1) olds news) + (cost_at goals at + total (cost_at goals) at) ≤ total (cost_at goals) n) end
    (subst (λ (n : ℕ). most_of goals (changed_from (at + 1) olds news) + n ≤ total (cost_at goals) (at + 1 + length news)) (total_next (cost_at goals) at) rest))

-- ---- mutual links

-- 1 for a slot that is linked with a slot of this number or a higher one
abbrev beyond : ℕ → SlotGoal → ℕ
beyond k (End goal) = 0
beyond k (Link partner) = if nat_le k partner then 1 else 0

abbrev beyond_at : List SlotGoal → ℕ → ℕ → ℕ
beyond_at goals k local = beyond k (get_or goals local (End ToClose))

beyond_yes : (k partner : ℕ) → k ≤ partner → beyond k (Link partner) ≡ 1
beyond_yes k partner within = let test : nat_le k partner ≡ true = le-leb k partner within in rw test refl

beyond_not : (k partner : ℕ) → partner < k → beyond k (Link partner) ≡ 0
beyond_not k partner below = let test : nat_le k partner ≡ false = lt-leb k partner below in rw test refl

-- one number more matters only for a slot that is linked with just this one
beyond_same : (goal : SlotGoal) (k : ℕ) → (goal ≡ Link k → ⊥) → beyond (suc k) goal ≡ beyond k goal
beyond_same (End goal) k other = refl
beyond_same (Link partner) k other = elim (cases_lt partner k) [
  | inl below ↦ beyond_not (suc k) partner (omega arith) ∙ sym (beyond_not k partner below)
  | inr above ↦
      let apart : partner ≢ k = λ same. other (ap Link same) in
      beyond_yes (suc k) partner (omega arith) ∙ sym (beyond_yes k partner above)
]

-- links are mutual, and of two slots
record AreMutual (goals : List SlotGoal) : Type 0 where
  inside : (local partner : ℕ) → get_or goals local (End ToClose) ≡ Link partner → partner < length goals
  other : (local partner : ℕ) → get_or goals local (End ToClose) ≡ Link partner → partner ≢ local
  back : (local partner : ℕ) → get_or goals local (End ToClose) ≡ Link partner → get_or goals partner (End ToClose) ≡ Link local

same_link : (p q : ℕ) (goal : SlotGoal) → goal ≡ Link p → goal ≡ Link q → p ≡ q
same_link p q goal one two = cc

cost_low : (k partner : ℕ) → k < partner → cost k (Link partner) ≡ 4
cost_low k partner below = let test : nat_lt k partner ≡ true = lt-ltb k partner below in rw test refl

cost_high : (k partner : ℕ) → partner < k → cost k (Link partner) ≡ 0
cost_high k partner above = let test : nat_lt k partner ≡ false = le-ltb k partner (omega arith) in rw test refl

-- no slot below is linked with one that is an end, or linked with a slot above
none_back : (goals : List SlotGoal) (k t : ℕ) (goal : SlotGoal) → AreMutual goals → get_or goals k (End ToClose) ≡ goal → (goal ≡ Link t → ⊥) → get_or goals t (End ToClose) ≡ Link k → ⊥
none_back goals k t goal joint is other linked = other (sym is ∙ joint.back t k linked)

-- one slot more: it pays for itself, and a lower slot of a link for both
next_by : (goal : SlotGoal) (goals : List SlotGoal) (k : ℕ) → AreMutual goals → get_or goals k (End ToClose) ≡ goal
    → total (cost_at goals) k ≤ 2 * k + 2 * total (beyond_at goals k) k
    → cost k goal + total (cost_at goals) k ≤ 2 * suc k + 2 * (beyond (suc k) goal + total (beyond_at goals (suc k)) k)
next_by (End end) goals k joint is rest =
    let same : total (beyond_at goals (suc k)) k ≡ total (beyond_at goals k) k =
    total_same (beyond_at goals (suc k)) (beyond_at goals k) k
    (λ t below. beyond_same (get_or goals t (End ToClose)) k (none_back goals k t (End end) joint is (λ same. cc))) in
    omega (arith, same)
next_by (Link partner) goals k joint is rest = elim (cases_lt k partner) [
  | inl below ↦
      let same : total (beyond_at goals (suc k)) k ≡ total (beyond_at goals k) k =
      total_same (beyond_at goals (suc k)) (beyond_at goals k) k
      (λ t within. beyond_same (get_or goals t (End ToClose)) k
      (none_back goals k t (Link partner) joint is (λ same. let equal : partner ≡ t = same_link partner t (Link partner) refl same in absurd (omega arith)))) in
      let paid : cost k (Link partner) ≡ 4 = cost_low k partner below in
      let more : beyond (suc k) (Link partner) ≡ 1 = beyond_yes (suc k) partner (omega arith) in
      omega (arith, same, paid, more)
  | inr above ↦
      let apart : partner ≢ k = joint.other k partner is in
      let under : partner < k = omega arith in
      let back : get_or goals partner (End ToClose) ≡ Link k = joint.back k partner is in
      let change : total (beyond_at goals (suc k)) k + beyond_at goals k partner ≡ total (beyond_at goals k) k + beyond_at goals (suc k) partner =
      total_one (beyond_at goals (suc k)) (beyond_at goals k) k partner under
      (λ t below away. beyond_same (get_or goals t (End ToClose)) k
      (none_back goals k t (Link partner) joint is (λ same. away (sym (same_link partner t (Link partner) refl same))))) in
      let was : beyond_at goals k partner ≡ 1 = ap (beyond k) back ∙ beyond_yes k k (omega arith) in
      let now : beyond_at goals (suc k) partner ≡ 0 = ap (beyond (suc k)) back ∙ beyond_not (suc k) k (omega arith) in
      let paid : cost k (Link partner) ≡ 0 = cost_high k partner under in
      let more : beyond (suc k) (Link partner) ≡ 0 = beyond_not (suc k) partner (omega arith) in
      omega (arith, change, was, now, paid, more)
]

cost_twice : (goals : List SlotGoal) (k : ℕ) → AreMutual goals → total (cost_at goals) k ≤ 2 * k + 2 * total (beyond_at goals k) k
cost_twice goals zero joint = omega arith
cost_twice goals (suc k) joint = next_by (get_or goals k (End ToClose)) goals k joint refl (cost_twice goals k joint)

none_beyond : (goal : SlotGoal) (n : ℕ) → ((partner : ℕ) → goal ≡ Link partner → partner < n) → beyond n goal ≡ 0
none_beyond (End goal) n inside = refl
none_beyond (Link partner) n inside = beyond_not n partner (inside partner refl)

-- so all slots may send twice as many as they are
pub wired_cost : (box : BoxState) → IsWired box → total (cost_at box.goals) (length box.slots) ≤ 2 * length box.slots
wired_cost box wired =
    let joint : AreMutual box.goals = record {
      inside = λ local partner is. subst (λ (n : ℕ). partner < n) (sym wired.whole.goals) (wired.links local partner is).inside;
      other = λ local partner is. (wired.links local partner is).other;
      back = λ local partner is. (wired.links local partner is).back;
    } in
    let none : total (beyond_at box.goals (length box.slots)) (length box.slots) ≡ 0 =
    total_none (beyond_at box.goals (length box.slots)) (length box.slots)
    (λ t below. none_beyond (goal_at box t) (length box.slots) (λ partner is. (wired.links t partner is).inside)) in
    omega (arith, none, cost_twice box.goals (length box.slots) joint)

-- and so the turns of changed goals send no more
pub changed_twice : (box : BoxState) (olds : List SlotGoal) → IsWired box → most_of box.goals (changed_slots olds box.goals) ≤ 2 * length box.slots
changed_twice box olds wired =
    let most_signals : most_of box.goals (changed_from 0 olds box.goals) + 0 ≤ total (cost_at box.goals) (0 + length box.goals) =
    changed_cost olds box.goals box.goals 0 (λ i j is inside. let same : i ≡ j = omega arith in ap (λ (n : ℕ). get_or box.goals n (End ToClose)) same) in
    let size : 0 + length box.goals ≡ length box.slots = omega (arith, wired.whole.goals) in
    let within : most_of box.goals (changed_from 0 olds box.goals) + 0 ≤ total (cost_at box.goals) (length box.slots) =
    subst (λ (n : ℕ). most_of box.goals (changed_from 0 olds box.goals) + 0 ≤ total (cost_at box.goals) n) size most_signals in
    omega (arith, within, wired_cost box wired)
