-- A loop over slots that gives goals which have changed their turns.
use Rattle.std.proofs.Common.{◌≡◌, ℕ, ◌+◌, ◌*◌, ◌<◌, ◌≤◌, Bool, true, false, if◌then◌else◌, Option, Some, None, List, [], ◌∷◌, ◌++◌, drop, length, zero, suc, refl, ap, sym, ◌∙◌, subst, arith, append_assoc, length-append}
use Rattle.std.specs.Option.{option_and_then, option_map}
use Rattle.std.proofs.Math.ListN.{get_or}
use Rattle.std.proofs.lemmas.List.{drop_more}
use Rattle.mc_slot_laws.specs.Sums.{total}
use Rattle.mc_slot_laws.proofs.Sums.{total_grows, total_next}
use Rattle.mc_signal.specs.declared.Signal.{Signal}
use Rattle.mc_slot.specs.declared.Goal.TheVariants.{Close as ToClose}
use Rattle.mc_slot.specs.declared.SlotGoal.{SlotGoal}
use Rattle.mc_slot.specs.declared.SlotGoal.TheVariants.{End}
use Rattle.mc_box.specs.BoxEvents.{BoxStep, sends_first, goal_step, goal_steps}
use Rattle.mc_box.specs.BoxSound.{IsWired}
use Rattle.mc_box.specs.Boxes.{BoxState, goal_at}
use Rattle.mc_box.specs.Goals.{changed_from, changed_slots, has_turn, most_signals}
use Rattle.mc_box.proofs.GoalTurns.{turned}
use Rattle.mc_box.proofs.Sums.{cost_at, turn_cost, wired_cost}
use Rattle.mc_slot.specs.declared.Cause.TheVariants.{Push}

-- the goals of the slots before i have had their turns; the rest is as from the start
pub record Turning (start now : BoxState) (olds : List SlotGoal) (i : ℕ) (before items : List (ℕ × Signal)) : Type 0 where
  pub wired : IsWired now
  pub goals : now.goals ≡ start.goals
  pub count : length now.slots ≡ length start.slots
  pub sent : List (ℕ × Signal)
  pub is : items ≡ before ++ sent
  pub few : length sent ≤ total (cost_at start.goals) i
  pub rest : option_map (sends_first sent) (goal_steps now (changed_from i (drop i olds) (drop i start.goals))) ≡ goal_steps start (changed_slots olds start.goals)

-- ---- what was sent before

followed_both : (sent more : List (ℕ × Signal)) (o : Option BoxStep) → option_map (sends_first sent) (option_map (sends_first more) o) ≡ option_map (sends_first (sent ++ more)) o
followed_both sent more None = refl
followed_both sent more (Some step) = ap (λ (l : List (ℕ × Signal)). Some (record step { sent = l })) (sym (append_assoc sent more step.sent))

-- ---- the loop

-- the next of the changed goals
next_changed : (olds news : List SlotGoal) (i : ℕ) → i < length olds → i < length news
    → changed_from i (drop i olds) (drop i news)
    ≡ (if has_turn i (get_or olds i (End ToClose)) (get_or news i (End ToClose)) then i ∷ changed_from (i + 1) (drop (i + 1) olds) (drop (i + 1) news) else changed_from (i + 1) (drop (i + 1) olds) (drop (i + 1) news))
next_changed olds news i inside also = rw (drop_more olds i (End ToClose) inside, drop_more news i (End ToClose) also) refl

pub skip_by : (turn : Bool) (i : ℕ) (locals : List ℕ) → turn ≡ false → (if turn then i ∷ locals else locals) ≡ locals
skip_by true i locals is = absurd (cc)
skip_by false i locals is = refl

turn_by : (turn : Bool) (i : ℕ) (locals : List ℕ) → turn ≡ true → (if turn then i ∷ locals else locals) ≡ i ∷ locals
turn_by true i locals is = refl
turn_by false i locals is = absurd (cc)

-- a goal that has no turn
pub turning_skip : (start now : BoxState) (olds : List SlotGoal) (i : ℕ) (before items : List (ℕ × Signal)) → i < length olds → length olds ≡ length start.slots → IsWired start
    → has_turn i (get_or olds i (End ToClose)) (goal_at now i) ≡ false → Turning start now olds i before items → Turning start now olds (i + 1) before items
turning_skip start now olds i before items inside size wired turns so_far =
    let also : i < length start.goals = omega (arith, size, wired.whole.goals) in
    let none : has_turn i (get_or olds i (End ToClose)) (get_or start.goals i (End ToClose)) ≡ false =
    subst (λ (l : List SlotGoal). has_turn i (get_or olds i (End ToClose)) (get_or l i (End ToClose)) ≡ false) so_far.goals turns in
    let same : changed_from i (drop i olds) (drop i start.goals) ≡ changed_from (i + 1) (drop (i + 1) olds) (drop (i + 1) start.goals) =
    next_changed olds start.goals i inside also
    ∙ skip_by (has_turn i (get_or olds i (End ToClose)) (get_or start.goals i (End ToClose))) i (changed_from (i + 1) (drop (i + 1) olds) (drop (i + 1) start.goals)) none in
    record {
      wired = so_far.wired;
      goals = so_far.goals;
      count = so_far.count;
      sent = so_far.sent;
      is = so_far.is;
      few = omega (arith, so_far.few, total_grows (cost_at start.goals) i (i + 1) (omega arith));
      rest = ap (λ (l : List ℕ). option_map (sends_first so_far.sent) (goal_steps now l)) (sym same) ∙ so_far.rest;
    }

-- one that has: what is sent, and the box after it
pub turning_turn : (start now next : BoxState) (olds : List SlotGoal) (i : ℕ) (before items more : List (ℕ × Signal)) → i < length olds → length olds ≡ length start.slots → IsWired start
    → has_turn i (get_or olds i (End ToClose)) (goal_at now i) ≡ true → goal_step now i Push ≡ Some record { sent = more; after = next }
    → Turning start now olds i before items → Turning start next olds (i + 1) before (items ++ more)
turning_turn start now next olds i before items more inside size wired turns goes so_far =
    let also : i < length start.goals = omega (arith, size, wired.whole.goals) in
    let here : i < length now.slots = omega (arith, size, so_far.count) in
    let yes : has_turn i (get_or olds i (End ToClose)) (get_or start.goals i (End ToClose)) ≡ true =
    subst (λ (l : List SlotGoal). has_turn i (get_or olds i (End ToClose)) (get_or l i (End ToClose)) ≡ true) so_far.goals turns in
    let same : changed_from i (drop i olds) (drop i start.goals) ≡ i ∷ changed_from (i + 1) (drop (i + 1) olds) (drop (i + 1) start.goals) =
    next_changed olds start.goals i inside also
    ∙ turn_by (has_turn i (get_or olds i (End ToClose)) (get_or start.goals i (End ToClose))) i (changed_from (i + 1) (drop (i + 1) olds) (drop (i + 1) start.goals)) yes in
    let made = turned now i Push (record { sent = more; after = next }) so_far.wired here goes in
    let paid : most_signals (get_or start.goals i (End ToClose)) ≤ cost_at start.goals i = turn_cost i (get_or olds i (End ToClose)) (get_or start.goals i (End ToClose)) yes in
    let few : length more ≤ most_signals (get_or start.goals i (End ToClose)) = subst (λ (l : List SlotGoal). length more ≤ most_signals (get_or l i (End ToClose))) so_far.goals made.few in
    let turn : goal_steps now (i ∷ changed_from (i + 1) (drop (i + 1) olds) (drop (i + 1) start.goals)) ≡ option_map (sends_first more) (goal_steps next (changed_from (i + 1) (drop (i + 1) olds) (drop (i + 1) start.goals))) =
    ap (λ (o : Option BoxStep). option_and_then (λ (step : BoxStep). option_map (sends_first step.sent) (goal_steps step.after (changed_from (i + 1) (drop (i + 1) olds) (drop (i + 1) start.goals)))) o) goes in
    record {
      wired = subst (λ (b : BoxState). IsWired b) (sym made.is) made.wired;
      goals = ap (λ (b : BoxState). b.goals) made.is ∙ so_far.goals;
      count = ap (λ (b : BoxState). length b.slots) made.is ∙ (made.size ∙ so_far.count);
      sent = so_far.sent ++ more;
      is = ap (λ (l : List (ℕ × Signal)). l ++ more) so_far.is ∙ append_assoc before so_far.sent more;
      few = omega (arith, length-append so_far.sent more, so_far.few, few, paid, total_next (cost_at start.goals) i);
      rest = sym (followed_both so_far.sent more (goal_steps next (changed_from (i + 1) (drop (i + 1) olds) (drop (i + 1) start.goals))))
          ∙ (ap (λ (o : Option BoxStep). option_map (sends_first so_far.sent) o) (sym turn)
          ∙ (ap (λ (l : List ℕ). option_map (sends_first so_far.sent) (goal_steps now l)) (sym same) ∙ so_far.rest));
    }

-- there is room for the next turn
pub turning_fits : (start now : BoxState) (olds : List SlotGoal) (i len spare first : ℕ) (before items : List (ℕ × Signal)) → i < length olds → length olds ≡ length start.slots → IsWired start
    → has_turn i (get_or olds i (End ToClose)) (goal_at now i) ≡ true → len ≤ most_signals (goal_at now i)
    → 2 * length start.slots ≤ first → spare + length items ≡ first + length before
    → Turning start now olds i before items → len ≤ spare
turning_fits start now olds i len spare first before items inside size wired turns few space room so_far =
    let goal_is : goal_at now i ≡ get_or start.goals i (End ToClose) = ap (λ (l : List SlotGoal). get_or l i (End ToClose)) so_far.goals in
    let paid : most_signals (goal_at now i) ≤ cost_at now.goals i = turn_cost i (get_or olds i (End ToClose)) (goal_at now i) turns in
    let paid_there : most_signals (goal_at now i) ≤ cost_at start.goals i = subst (λ (l : List SlotGoal). most_signals (goal_at now i) ≤ cost_at l i) so_far.goals paid in
    let long : length items ≡ length before + length so_far.sent = ap (λ (l : List (ℕ × Signal)). length l) so_far.is ∙ length-append before so_far.sent in
    let next : total (cost_at start.goals) (i + 1) ≡ cost_at start.goals i + total (cost_at start.goals) i = total_next (cost_at start.goals) i in
    let within : total (cost_at start.goals) (i + 1) ≤ total (cost_at start.goals) (length start.slots) = total_grows (cost_at start.goals) (i + 1) (length start.slots) (omega (arith, size)) in
    omega (arith, paid_there, long, next, within, few, so_far.few, wired_cost start wired)

-- ---- what the loop reads

-- a value that is there is no default
read_any : (xs : List SlotGoal) (i : ℕ) (d e : SlotGoal) → i < length xs → get_or xs i d ≡ get_or xs i e
read_any [] i d e inside = absurd (omega arith)
read_any (x ∷ xs) zero d e inside = refl
read_any (x ∷ xs) (suc i) d e inside = read_any xs i d e (omega arith)

-- the test of the loop is the definition's
pub turn_read : (olds goals : List SlotGoal) (i : ℕ) (d new : SlotGoal) (result answer : Bool) → i < length olds → i < length goals → new ≡ get_or goals i new
    → result ≡ has_turn i (get_or olds i d) new → result ≡ answer → has_turn i (get_or olds i (End ToClose)) (get_or goals i (End ToClose)) ≡ answer
turn_read olds goals i d new result answer inside also new_is is answered =
    let old_read : get_or olds i (End ToClose) ≡ get_or olds i d = read_any olds i (End ToClose) d inside in
    let new_read : get_or goals i (End ToClose) ≡ new = read_any goals i (End ToClose) new also ∙ sym new_is in
    ap (λ (o : SlotGoal). has_turn i o (get_or goals i (End ToClose))) old_read
    ∙ (ap (λ (n : SlotGoal). has_turn i (get_or olds i d) n) new_read ∙ (sym is ∙ answered))

-- each slot has its goal all along
pub turning_goals : (start now : BoxState) (olds : List SlotGoal) (i : ℕ) (before items : List (ℕ × Signal)) → length olds ≡ length start.slots → IsWired start
    → Turning start now olds i before items → length now.goals ≡ length olds
turning_goals start now olds i before items size wired so_far = omega (arith, size, so_far.wired.whole.goals, so_far.count)
