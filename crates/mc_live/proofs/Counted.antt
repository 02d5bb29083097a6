-- How many signals boxes that ran freely have sent and taken.
use Rattle.std.proofs.Common.{◌≡◌, ℕ, suc, ◌+◌, ◌==◌, ◌&&◌, ◌<◌, cond, nat_lt, Bool, true, false, if◌then◌else◌, All, IsSome, Option, Some, None, List, [], ◌∷◌, count_by, length, map, slice_get, slice_index_or, refl, sym, ◌∙◌, ap, subst, arith}
use Rattle.std.specs.List.{AllByRecursion, list_all, sum_by}
use Rattle.std.proofs.lemmas.Bool.{and_from, and_parts, eq-eqb, ne_eqb}
use Rattle.std.proofs.lemmas.Grind.{common_steps}
use Rattle.std.proofs.lemmas.List.Sums.{sum_by-cons}
use Rattle.mc_signal.specs.declared.Signal.{Signal}
use Rattle.mc_box.proofs.EventActs.{event_acts, take_acts}
use Rattle.mc_box.proofs.Events.{event_keeps_sound}
use Rattle.mc_box.proofs.FromSlots.{event_sends_from_slots}
use Rattle.mc_box.proofs.Options.{then_some}
use Rattle.mc_box.specs.BoxEvents.{BoxStep, box_event}
use Rattle.mc_box.specs.BoxSound.{IsSoundBox}
use Rattle.mc_box.specs.Boxes.{BoxState}
use Rattle.mc_box.specs.declared.event.Event.{Event}
use Rattle.mc_box.specs.declared.event.Event.TheVariants.{Take, Set, Media, Tell, Retry, Shift}
use Rattle.mc_box.specs.declared.event.Turn.{Turn}
use Rattle.mc_laws.proofs.ShapesKept.{step_keeps_shape}
use Rattle.mc_laws.proofs.StepKeeps.{step_keeps_sound}
use Rattle.mc_laws.proofs.Sums.{total_front, total_plus, total_zero}
use Rattle.mc_live.proofs.Counts.{only_at}
use Rattle.mc_live.specs.Counts.{HaveNumbers}
use Rattle.mc_merge.specs.Claims.{IsClaimed}
use Rattle.mc_merge.specs.LaneLogs.{claimed_of}
use Rattle.mc_model.specs.Sound.{IsNumbered, IsSound}
use Rattle.mc_model.specs.Steps.{run, step, step_by}
use Rattle.mc_model.specs.Worlds.{WorldState, box_at, number}
use Rattle.mc_port.specs.Entries.{AreMade, Claimed, Entry, entries_of, signal_in}
use Rattle.mc_slot_laws.proofs.Sums.{total_same}
use Rattle.mc_slot_laws.specs.Sums.{total}

-- ---- sums over a list

-- the sum over the places of a list is that over its elements
pub sum_total : {X : Type 0} (f : X → ℕ) (xs : List X) (g : ℕ → ℕ) → ((k : ℕ) (x : X) → slice_get xs k ≡ Some x → g k ≡ f x) → total g (length xs) ≡ sum_by f xs
sum_total f [] g same = refl
sum_total f (x ∷ xs) g same =
    let rest : total (λ (t : ℕ). g (suc t)) (length xs) ≡ sum_by f xs = sum_total f xs (λ (t : ℕ). g (suc t)) (λ k y at. same (suc k) y at) in
    let first : g 0 ≡ f x = same 0 x refl in
    omega (arith, rest, first, total_front g (length xs), sum_by-cons f x xs)

-- the lengths of the lists of a list
pub lengths_total : {X : Type 0} (xs : List (List X)) → total (λ (k : ℕ). length (slice_index_or xs k [])) (length xs) ≡ sum_by length xs
lengths_total [] = refl
lengths_total (x ∷ xs) =
    let rest : total (λ (k : ℕ). length (slice_index_or xs k [])) (length xs) ≡ sum_by length xs = lengths_total xs in
    omega (arith, rest, total_front (λ (k : ℕ). length (slice_index_or (x ∷ xs) k [])) (length xs), sum_by-cons length x xs)

-- the lengths stay where each element keeps its own
pub lengths_mapped : {X Y : Type 0} (f : List X → List Y) → ((x : List X) → length (f x) ≡ length x) → (xs : List (List X)) → sum_by length (map f xs) ≡ sum_by length xs
lengths_mapped f same [] = refl
lengths_mapped f same (x ∷ xs) =
    let rest = lengths_mapped f same xs in
    let first = same x in
    omega (arith, rest, first, sum_by-cons length (f x) (map f xs), sum_by-cons length x xs)

-- ---- each turn is of one box

-- the boxes of these turns are among so many
abbrev pub are_below : ℕ → List Turn → Bool
are_below count turns = list_all (λ turn. nat_lt turn.who count) turns

step_below : (below : Bool) (made : Option WorldState) (next : WorldState) → (if below then made else None) ≡ Some next → below ≡ true
step_below true made next is = refl
step_below false made next is = absurd cc

-- so it is with the turns of a run
pub run_below : (turns : List Turn) (world last : WorldState) → IsSound world → run world turns ≡ Some last → are_below (length world.boxes) turns ≡ true
run_below [] world last sound goes = refl
run_below (turn ∷ turns) world last sound goes =
    let one = then_some (λ (w : WorldState). run w turns) (step world turn) last goes in
    let shape = step_keeps_shape world one.0 turn sound one.1 in
    let later = run_below turns one.0 last (step_keeps_sound world one.0 turn sound one.1) one.2 in
    and_from (nat_lt turn.who (length world.boxes)) (are_below (length world.boxes) turns)
    (step_below (nat_lt turn.who (length world.boxes)) (step_by world turn.who turn.event) one.0 one.1) (subst (λ (n : ℕ). are_below n turns ≡ true) shape.boxes later)

below_is : (a b : ℕ) → nat_lt a b ≡ true → a < b
below_is a b is = grind (arith, common_steps)

count_front : (p : Turn → Bool) (turn : Turn) (turns : List Turn) → count_by p (turn ∷ turns) ≡ cond (p turn) 1 0 + count_by p turns
count_front p turn turns = sum_by-cons (λ (t : Turn). cond (p t) 1 0) turn turns

and_true : (b : Bool) → (b && true) ≡ b
and_true true = refl
and_true false = refl

and_false : (b : Bool) → (b && false) ≡ false
and_false true = refl
and_false false = refl

-- a turn counts for its box alone
turn_once : (here : Bool) (who count : ℕ) → who < count → total (λ (w : ℕ). cond (here && who == w) 1 0) count ≡ cond here 1 0
turn_once here who count below =
    only_at (λ (w : ℕ). cond (here && who == w) 1 0) count who below (λ w inside apart. ap (λ (b : Bool). cond (here && b) 1 0) (ne_eqb who w (λ same. apart (sym same))) ∙ ap (λ (b : Bool). cond b 1 0) (and_false here))
    ∙ (ap (λ (b : Bool). cond (here && b) 1 0) (eq-eqb who who refl) ∙ ap (λ (b : Bool). cond b 1 0) (and_true here))

-- so a count is the sum of the counts box by box
pub count_total : (p : Turn → Bool) (turns : List Turn) (count : ℕ) → are_below count turns ≡ true → total (λ (who : ℕ). count_by (λ (turn : Turn). p turn && turn.who == who) turns) count ≡ count_by p turns
count_total p [] count below = total_zero count
count_total p (turn ∷ turns) count below =
    let parts = and_parts (nat_lt turn.who count) (are_below count turns) below in
    let rest = count_total p turns count parts.1 in
    let first = turn_once (p turn) turn.who count (below_is turn.who count parts.0) in
    let sum = total_plus (λ (who : ℕ). cond (p turn && turn.who == who) 1 0) (λ (who : ℕ). count_by (λ (t : Turn). p t && t.who == who) turns) count in
    let same : total (λ (who : ℕ). count_by (λ (t : Turn). p t && t.who == who) (turn ∷ turns)) count ≡ total (λ (who : ℕ). cond (p turn && turn.who == who) 1 0 + count_by (λ (t : Turn). p t && t.who == who) turns) count =
    total_same (λ (who : ℕ). count_by (λ (t : Turn). p t && t.who == who) (turn ∷ turns)) (λ (who : ℕ). cond (p turn && turn.who == who) 1 0 + count_by (λ (t : Turn). p t && t.who == who) turns) count
    (λ who inside. count_front (λ (t : Turn). p t && t.who == who) turn turns) in
    omega (arith, rest, first, sum, same, count_front p turn turns)

-- ---- each signal is of a slot that has a number

slot_number : (world : WorldState) (who local : ℕ) → IsNumbered world → who < length world.boxes → local < length (box_at world who).slots → IsSome (number world who local)
slot_number world who local numbered there inside =
    let it = numbered.all who local there inside in
    some_is (number world who local) it.0 (subst (λ (p : ℕ × ℕ). number world p.0 p.1 ≡ Some it.0) it.2 (numbered.once it.0 it.1))
  where
    some_is : (found : Option ℕ) (s : ℕ) → found ≡ Some s → IsSome found
    some_is (Some t) s is = refl
    some_is None s is = absurd cc

-- ---- an event leaves the count of slots

take_slots : (box : BoxState) (local : ℕ) (signal : Signal) (step : BoxStep) → IsSoundBox box → box_event box (Take local) (Some signal) ≡ Some step → length step.after.slots ≡ length box.slots
take_slots box local signal step sound goes =
    let to : ℕ → List Signal = λ k. if k == local then signal ∷ [] else [] in
    let left : ℕ → List Signal = λ k. [] in
    let first : to local ≡ signal ∷ left local = grind (arith, common_steps) in
    (take_acts box local signal step to left sound goes first (λ k inside other. grind (arith, common_steps))).make.alike.slots

act_slots : (box : BoxState) (event : Event) (step : BoxStep) → IsSoundBox box → box_event box event None ≡ Some step → length step.after.slots ≡ length box.slots
act_slots box event step sound goes =
    let none : ℕ → List Signal = λ k. [] in
    (event_acts box event step none none sound goes (λ k inside. refl)).make.alike.slots

event_slots : (box : BoxState) (event : Event) (signal : Option Signal) (step : BoxStep) → IsSoundBox box → box_event box event signal ≡ Some step → length step.after.slots ≡ length box.slots
event_slots box event None step sound goes = act_slots box event step sound goes
event_slots box (Take local) (Some signal) step sound goes = take_slots box local signal step sound goes
event_slots box (Set change) (Some signal) step sound goes = absurd (cc)
event_slots box (Media change) (Some signal) step sound goes = absurd (cc)
event_slots box (Tell word) (Some signal) step sound goes = absurd (cc)
event_slots box (Retry local) (Some signal) step sound goes = absurd (cc)
event_slots box Shift (Some signal) step sound goes = absurd (cc)

-- ---- so all that is sent has a number

by_recursion : {X : Type 0} (P : X → Type 0) (xs : List X) → All P xs → AllByRecursion P xs
by_recursion P [] all = tt
by_recursion P (x ∷ xs) all = (all 0 x (omega arith), by_recursion P xs (λ k d inside. all (suc k) d (omega arith)))

sendings_numbered : (world : WorldState) (who slots : ℕ) (sent : List (ℕ × Signal)) → IsNumbered world → who < length world.boxes → slots ≡ length (box_at world who).slots → All (λ (sending : ℕ × Signal). sending.0 < slots) sent
    → AllByRecursion (λ sending. IsSome (number world who sending.0)) sent
sendings_numbered world who slots sent numbered there long below =
    by_recursion (λ (sending : ℕ × Signal). IsSome (number world who sending.0)) sent (λ k d inside. slot_number world who (slice_index_or sent k d).0 numbered there (subst (λ (n : ℕ). (slice_index_or sent k d).0 < n) long (below k d inside)))

entries_numbered : (world : WorldState) (who : ℕ) (entries : List Entry) (box last : BoxState) → IsNumbered world → who < length world.boxes → IsSoundBox box → length box.slots ≡ length (box_at world who).slots → AreMade box entries last
    → AllByRecursion (λ entry. AllByRecursion (λ sending. IsSome (number world who sending.0)) entry.sent) entries
entries_numbered world who [] box last numbered there sound long made = tt
entries_numbered world who (entry ∷ entries) box last numbered there sound long made =
    let same : length entry.after.slots ≡ length box.slots = event_slots box entry.event (signal_in entry.taken) (record { sent = entry.sent; after = entry.after }) sound made.0 in (
      sendings_numbered world who (length box.slots) entry.sent numbered there long (event_sends_from_slots box entry.event (signal_in entry.taken) _ sound made.0),
      entries_numbered world who entries entry.after last numbered there (event_keeps_sound box entry.event (signal_in entry.taken) _ sound made.0) (same ∙ long) made.1,
    )

-- so it is in each log of a sound world
pub have_numbers : (world : WorldState) (logs : List (List Claimed)) (boxes : List BoxState) (rests : List (List _)) → IsClaimed world logs boxes rests → IsSound world → HaveNumbers world logs
have_numbers world logs boxes rests claimed sound = λ who there. entries_numbered world who (entries_of (claimed_of logs who)) (box_at world who) _ sound.numbered there (sound.boxes who there) refl (claimed.made who there)
