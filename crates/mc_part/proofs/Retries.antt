-- Retries of a part, slot by slot.
use Rattle.std.proofs.Common.{◌≡◌, ◌≢◌, ◌==◌, ◌&&◌, Bool, true, false, if◌then◌else◌, nat_lt, ◌<◌, ◌≤◌, ◌+◌, ℕ, List, [], ◌∷◌, ◌++◌, length, Option, Some, None, Result, Ok, Err, OnOk, OnErr, refl, ap, sym, ◌∙◌, subst, arith, add-zero, zero-add}
use Rattle.std.proofs.lemmas.Bool.{and_parts, eq-eqb, eqb-true, lt-ltb}
use Rattle.std.proofs.lemmas.Grind.{common_steps}
use Rattle.std.proofs.lemmas.List.{get_or-set_other, length-set}
use Rattle.mc_signal.specs.declared.Signal.{Signal}
use Rattle.mc_slot.specs.declared.Cause.TheVariants.{Push}
use Rattle.mc_slot.specs.declared.Slot.{Slot}
use Rattle.mc_slot.specs.declared.SlotGoal.{SlotGoal}
use Rattle.mc_slot.specs.declared.SlotGoal.TheVariants.{End, Link}
use Rattle.mc_box.specs.BoxEvents.{BoxStep, box_event, goal_step_by, is_enabled}
use Rattle.mc_box.specs.Boxes.{BoxState, box_owes, goal_at, is_slot, no_slot, slot_at, slot_owes, with_slot}
use Rattle.mc_box.specs.declared.event.Event.{Event}
use Rattle.mc_box.specs.declared.event.Event.TheVariants.{Retry}
use Rattle.mc_box.proofs.Events.{event_goes}
use Rattle.mc_box.proofs.GoalTurns.{end_form}
use Rattle.mc_port.specs.Entries.{AreMade, Entry, signal_in}
use Rattle.mc_model.specs.Settles.{world_owes}
use Rattle.mc_model.specs.Worlds.{box_at}
use Rattle.mc_world.specs.Waiting.{bit}
use Rattle.mc_merge.specs.Logs.{own_log}
use Rattle.mc_part.specs.Parts.{IsWithin, Runs, TurnsOnce, no_retries}
use Rattle.mc_part.specs.Retries.{HasRetried, below_box, below_slot, box_only, owed_in, owes, slot_only}
use Rattle.mc_part.specs.Running.{RunsSome, owed_of}
use Rattle.mc_part.specs.declared.part.Part.{Part}
use Rattle.std.specs.declared.alloc.AllocError.{AllocError}
use Rattle.mc_part.proofs.Ran.{failed, retry_run, runs_as, runs_none, runs_sum}
use Rattle.mc_part.proofs.Uses.{once_at}

-- ---- what is owed

owed_by : (here slot owed : Bool) → here ≡ true → (here && slot && owed) ≡ (slot && owed)
owed_by true slot owed is = refl
owed_by false slot owed is = absurd (cc)

owed_there : (a : Part) (who local : ℕ) → who < length a.engine.boxes → world_owes a.engine who local ≡ owes a who local
owed_there a who local inside = owed_by (nat_lt who (length a.engine.boxes)) (is_slot (box_at a.engine who) local) (box_owes (box_at a.engine who) local) (lt-ltb who (length a.engine.boxes) inside)

-- ---- one slot

no_owed : (test owed : Bool) → (test ≡ true → owed ≡ false) → 0 ≡ bit (test && owed)
no_owed true owed none = ap bit (sym (none refl))
no_owed false owed none = refl

one_owed : (test owed : Bool) → (test ≡ true → owed ≡ true) → bit test ≡ bit (test && owed)
one_owed true owed is = ap bit (sym (is refl))
one_owed false owed is = refl

-- whether it is owed at the one slot for which the test is true
owed_at : (a : Part) (who local at slot : ℕ) (owed : Bool) → who < length a.engine.boxes → owes a who local ≡ owed → slot_only who local at slot ≡ true → world_owes a.engine at slot ≡ owed
owed_at a who local at slot owed inside is test =
    let parts = and_parts (at == who) (slot == local) test in
    let box : at ≡ who = eqb-true at who parts.0 in
    let same : slot ≡ local = eqb-true slot local parts.1 in
    ap (λ (n : ℕ). world_owes a.engine n slot) box ∙ (ap (λ (n : ℕ). world_owes a.engine who n) same ∙ (owed_there a who local inside ∙ is))

pub none_retried : (a : Part) (who local : ℕ) → IsWithin a → who < length a.engine.boxes → owes a who local ≡ false → HasRetried (slot_only who local) a a
none_retried a who local within inside none =
    runs_as a a no_retries (owed_in (slot_only who local) a) (λ at slot. no_owed (slot_only who local at slot) (world_owes a.engine at slot) (owed_at a who local at slot false inside none)) (runs_none a within)

pub slot_retried : (a b : Part) (who local : ℕ) → IsWithin a → who < length a.engine.boxes → owes a who local ≡ true → TurnsOnce a b who (Retry local) → HasRetried (slot_only who local) a b
slot_retried a b who local within inside is once =
    runs_as a b (once_at who local) (owed_in (slot_only who local) a) (λ at slot. one_owed (slot_only who local at slot) (world_owes a.engine at slot) (owed_at a who local at slot true inside is)) (retry_run a b who local within once)

pub some_of : (a b : Part) (retries : ℕ → ℕ → ℕ) → Runs a b retries → RunsSome a b
some_of a b retries runs = record { retries = retries; runs = runs }

-- ---- what other slots owe

put_owes : (box : BoxState) (slot other : ℕ) (after : Slot) → other ≢ slot → is_enabled (with_slot box slot after) (Retry other) ≡ is_enabled box (Retry other)
put_owes box slot other after off = rw (length-set box.slots slot after, get_or-set_other box.slots slot other after no_slot off) refl

owes_by : (goal : SlotGoal) (box : BoxState) (slot other : ℕ) (step : BoxStep) → other ≢ slot → slot_owes goal (slot_at box slot) ≡ true → goal_step_by goal box slot Push ≡ Some step
    → is_enabled step.after (Retry other) ≡ is_enabled box (Retry other)
owes_by (Link partner) box slot other step off owed goes = absurd (cc)
owes_by (End goal) box slot other step off owed goes =
    let form = end_form box slot goal Push step goes in
    subst (λ (s : BoxStep). is_enabled s.after (Retry other) ≡ is_enabled box (Retry other)) form.is (put_owes box slot other form.last off)

-- a retry of one slot leaves what another owes
retry_owes : (box : BoxState) (slot other : ℕ) (signal : Option Signal) (step : BoxStep) → other ≢ slot → box_event box (Retry slot) signal ≡ Some step → is_enabled step.after (Retry other) ≡ is_enabled box (Retry other)
retry_owes box slot other (Some signal) step off goes = absurd (cc)
retry_owes box slot other None step off goes =
    let one = event_goes (Retry slot) box step goes in
    let here = and_parts (is_slot box slot) (box_owes box slot) one.0 in
    owes_by (goal_at box slot) box slot other step off here.1 one.1

own_one : (test : Bool) (entry : Entry) → test ≡ true → (if test then entry ∷ [] else []) ++ [] ≡ entry ∷ []
own_one true entry is = refl
own_one false entry is = absurd (cc)

-- ---- the slots of a box

slot_more : (same below here below_more owed_a owed_b : Bool) → (same ≡ true → here ≡ true → owed_b ≡ owed_a) → below_more ≡ (if below then true else here) → (below ≡ true → here ≡ false)
    → bit ((same && below) && owed_a) + bit ((same && here) && owed_b) ≡ bit ((same && below_more) && owed_a)
slot_more false below here below_more owed_a owed_b stays is apart = refl
slot_more true true true below_more owed_a owed_b stays is apart = absurd (let no : true ≡ false = apart refl in cc)
slot_more true true false below_more owed_a owed_b stays is apart = rw is (add-zero (bit owed_a))
slot_more true false true below_more owed_a owed_b stays is apart = rw (is, stays refl refl) (zero-add (bit owed_a))
slot_more true false false below_more owed_a owed_b stays is apart = rw is refl

lt_more : (n k : ℕ) → nat_lt n (k + 1) ≡ (if nat_lt n k then true else (n == k))
lt_more n k = grind (arith, common_steps)

lt_apart : (n k : ℕ) → nat_lt n k ≡ true → (n == k) ≡ false
lt_apart n k is = grind (arith, common_steps)

pub box_more : (a b c : Part) (who k : ℕ) → length b.engine.boxes ≡ length a.engine.boxes → who < length a.engine.boxes → owes b who k ≡ owes a who k → HasRetried (below_slot who k) a b → HasRetried (slot_only who k) b c
    → HasRetried (below_slot who (k + 1)) a c
box_more a b c who k count inside same one two =
    runs_as a c (λ at slot. owed_in (below_slot who k) a at slot + owed_in (slot_only who k) b at slot) (owed_in (below_slot who (k + 1)) a)
    (λ at slot. slot_more (at == who) (nat_lt slot k) (slot == k) (nat_lt slot (k + 1)) (world_owes a.engine at slot) (world_owes b.engine at slot) (stays at slot) (lt_more slot k) (lt_apart slot k))
    (runs_sum a b c (owed_in (below_slot who k) a) (owed_in (slot_only who k) b) one two)
  where
    stays : (at slot : ℕ) → (at == who) ≡ true → (slot == k) ≡ true → world_owes b.engine at slot ≡ world_owes a.engine at slot
    stays at slot is_box is_slot =
        let box : at ≡ who = eqb-true at who is_box in
        let here : slot ≡ k = eqb-true slot k is_slot in
        ap (λ (n : ℕ). world_owes b.engine n slot) box ∙ (ap (λ (n : ℕ). world_owes b.engine who n) here
        ∙ (owed_there b who k (subst (λ (n : ℕ). who < n) (sym count) inside) ∙ (same ∙ sym (ap (λ (n : ℕ). world_owes a.engine n slot) box ∙ (ap (λ (n : ℕ). world_owes a.engine who n) here ∙ owed_there a who k inside)))))

-- with all slots below the last it is the box
lt_further : (n m k : ℕ) → nat_lt n m ≡ true → m ≤ k → nat_lt n k ≡ true
lt_further n m k is most = grind (arith, common_steps)

whole : (same below owed : Bool) → (same ≡ true → owed ≡ true → below ≡ true) → bit ((same && below) && owed) ≡ bit (same && owed)
whole false below owed is = refl
whole true true owed is = refl
whole true false true is = absurd (let no : false ≡ true = is refl refl in cc)
whole true false false is = refl

owed_slot : (here slot owed : Bool) → (here && slot && owed) ≡ true → slot ≡ true
owed_slot true true owed is = refl
owed_slot true false owed is = absurd (cc)
owed_slot false slot owed is = absurd (cc)

pub box_retried : (a b : Part) (who k : ℕ) → length (box_at a.engine who).slots ≤ k → HasRetried (below_slot who k) a b → HasRetried (box_only who) a b
box_retried a b who k past runs =
    runs_as a b (owed_in (below_slot who k) a) (owed_in (box_only who) a) (λ at slot. whole (at == who) (nat_lt slot k) (world_owes a.engine at slot) (inside at slot)) runs
  where
    inside : (at slot : ℕ) → (at == who) ≡ true → world_owes a.engine at slot ≡ true → nat_lt slot k ≡ true
    inside at slot is_box owed =
        let box : at ≡ who = eqb-true at who is_box in
        let is : nat_lt slot (length (box_at a.engine at).slots) ≡ true = owed_slot (nat_lt at (length a.engine.boxes)) (is_slot (box_at a.engine at) slot) (box_owes (box_at a.engine at) slot) owed in
        let long : length (box_at a.engine at).slots ≤ k = subst (λ (n : ℕ). length (box_at a.engine n).slots ≤ k) (sym box) past in
        lt_further slot (length (box_at a.engine at).slots) k is long

-- ---- all boxes

none_and : (same below owed : Bool) → below ≡ false → 0 ≡ bit ((same && below) && owed)
none_and true below owed is = rw is refl
none_and false below owed is = refl

not_below : (n : ℕ) → nat_lt n 0 ≡ false
not_below n = grind (arith, common_steps)

pub boxes_more : (a b c : Part) (k : ℕ) → length b.engine.boxes ≡ length a.engine.boxes → box_at b.engine k ≡ box_at a.engine k → HasRetried (below_box k) a b → HasRetried (box_only k) b c → HasRetried (below_box (k + 1)) a c
boxes_more a b c k count same one two =
    runs_as a c (λ at slot. owed_in (below_box k) a at slot + owed_in (box_only k) b at slot) (owed_in (below_box (k + 1)) a)
    (λ at slot. slot_more true (nat_lt at k) (at == k) (nat_lt at (k + 1)) (world_owes a.engine at slot) (world_owes b.engine at slot) (λ is here. stays at slot here) (lt_more at k) (lt_apart at k))
    (runs_sum a b c (owed_in (below_box k) a) (owed_in (box_only k) b) one two)
  where
    stays : (at slot : ℕ) → (at == k) ≡ true → world_owes b.engine at slot ≡ world_owes a.engine at slot
    stays at slot here =
        let is : at ≡ k = eqb-true at k here in
        let box : box_at b.engine at ≡ box_at a.engine at = ap (λ (n : ℕ). box_at b.engine n) is ∙ (same ∙ ap (λ (n : ℕ). box_at a.engine n) (sym is)) in
        ap (λ (n : ℕ). nat_lt at n && is_slot (box_at b.engine at) slot && box_owes (box_at b.engine at) slot) count
        ∙ ap (λ (x : BoxState). nat_lt at (length a.engine.boxes) && is_slot x slot && box_owes x slot) box

all_boxes : (below here slot rest : Bool) → below ≡ here → bit (below && (here && slot && rest)) ≡ bit (here && slot && rest)
all_boxes true true slot rest is = refl
all_boxes true false slot rest is = refl
all_boxes false true slot rest is = absurd (cc)
all_boxes false false slot rest is = refl

pub none_below : (a : Part) → IsWithin a → HasRetried (below_box 0) a a
none_below a within = runs_as a a no_retries (owed_in (below_box 0) a) (λ at slot. none_and true (nat_lt at 0) (world_owes a.engine at slot) (not_below at)) (runs_none a within)

pub no_slots_below : (a : Part) (who : ℕ) → IsWithin a → HasRetried (below_slot who 0) a a
no_slots_below a who within = runs_as a a no_retries (owed_in (below_slot who 0) a) (λ at slot. none_and (at == who) (nat_lt slot 0) (world_owes a.engine at slot) (not_below slot)) (runs_none a within)

-- ---- whatever was made

pub made_some : (a b : Part) (who local : ℕ) (result : Result (Unit {0}) AllocError) → IsWithin a → who < length a.engine.boxes → owes a who local ≡ true → OnOk result (TurnsOnce a b who (Retry local))
    → OnErr result (b ≡ record a { log = b.log }) → OnErr result (b.log.items ≡ a.log.items) → RunsSome a b
made_some a b who local (Ok done) within inside is once same log = some_of a b (owed_in (slot_only who local) a) (slot_retried a b who local within inside is once)
made_some a b who local (Err e) within inside is once same log = some_of a b no_retries (failed a b within same log)

pub some_on : (a b c : Part) (retries : ℕ → ℕ → ℕ) → Runs a b retries → RunsSome b c → RunsSome a c
some_on a b c retries one two = record { retries = λ at local. retries at local + two.retries at local; runs = runs_sum a b c retries two.retries one two.runs }
