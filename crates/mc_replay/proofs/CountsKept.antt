-- How many slots owe a retry, and how many boxes have an enabled Shift: how many there can be, and what a step changes.
use Rattle.std.proofs.Common.{◌≡◌, ◌≢◌, ◌<◌, ◌≤◌, ◌+◌, ◌-◌, ◌*◌, ◌^◌, ◌==◌, ◌||◌, nat_lt, not, ℕ, zero, suc, Bool, true, false, List, [], ◌∷◌, length, refl, ap, sym, ◌∙◌, arith, add-one, Some}
use Rattle.std.proofs.lemmas.Grind.{common_steps}
use Rattle.std.specs.List.{list_any}
use Rattle.std.proofs.Math.ListN.{get_or}
use Rattle.mc_box.specs.BoxEvents.{is_enabled}
use Rattle.mc_box.specs.Boxes.{BoxState, box_owes, no_box}
use Rattle.mc_box.specs.declared.event.Event.TheVariants.{Shift}
use Rattle.mc_box.specs.declared.event.Turn.{Turn}
use Rattle.mc_box.proofs.Options.{if_some}
use Rattle.mc_model.specs.Settles.{can_shift}
use Rattle.mc_model.specs.Sound.{IsSound}
use Rattle.mc_model.specs.Steps.{step, step_by}
use Rattle.mc_model.specs.Worlds.{WorldState, box_at}
use Rattle.mc_laws.proofs.Numbers.{box_inside}
use Rattle.mc_laws.proofs.StepActs.{step_acts}
use Rattle.mc_laws.proofs.Sums.{total_front, total_has}
use Rattle.mc_slot_laws.specs.Sums.{total}
use Rattle.mc_slot_laws.proofs.Sums.{total_one}
use Rattle.mc_world.specs.Waiting.{bit}
use Rattle.mc_replay.specs.Counts.{AreCounted, AreOfBox, owed_count, owed_in, ready_count, ready_in}
use Rattle.mc_replay.specs.declared.counts.Counts.{Counts}

-- ---- how many there can be

pub bit_small : (b : Bool) → bit b ≤ 1
bit_small true = omega arith
bit_small false = omega arith

-- values of at most c below a limit
pub total_small : (f : ℕ → ℕ) (c k : ℕ) → ((t : ℕ) → t < k → f t ≤ c) → total f k ≤ c * k
total_small f c zero small = omega arith
total_small f c (suc k) small = omega (arith, small k (omega arith), total_small f c k (λ t below. small t (omega arith)))

-- a box owes at most as many retries as it has slots
pub owed_slots : (box : BoxState) → owed_in box ≤ length box.slots
owed_slots box =
    let most : total (λ (local : ℕ). bit (box_owes box local)) (length box.slots) ≤ 1 * length box.slots
    = total_small (λ (local : ℕ). bit (box_owes box local)) 1 (length box.slots) (λ local below. bit_small (box_owes box local)) in
    omega (arith, most)

pub owed_few : (world : WorldState) (who : ℕ) → IsSound world → who < length world.boxes → owed_in (box_at world who) ≤ 64
owed_few world who sound inside =
    let few : length (box_at world who).slots ≤ 64 = (sound.boxes who inside).wired.few in
    omega (arith, few, owed_slots (box_at world who))

-- the boxes of a sound world have numbers that fit
pub boxes_by : (k : ℕ) (world : WorldState) → IsSound world → length world.boxes ≡ k → k < 2 ^ 32
boxes_by zero world sound is = omega arith
boxes_by (suc k) world sound is =
    let inside : k < length world.boxes = omega (arith, is) in
    let number : (box_at world k).number ≡ k = sound.numbered.boxes k inside in
    let address : (box_at world k).number + 1 < 2 ^ 32 = (sound.boxes k inside).wired.address in
    omega (arith, number, address)

pub boxes_few : (world : WorldState) → IsSound world → length world.boxes < 2 ^ 32
boxes_few world sound = boxes_by (length world.boxes) world sound refl

-- so both counts fit
pub record AreFew (world : WorldState) : Type 0 where
  owed : owed_count world ≤ 2 ^ 38
  ready : ready_count world ≤ 2 ^ 32

pub counts_few : (world : WorldState) → IsSound world → AreFew world
counts_few world sound =
    let boxes = boxes_few world sound in
    let owed : total (λ (who : ℕ). owed_in (box_at world who)) (length world.boxes) ≤ 64 * length world.boxes
    = total_small (λ (who : ℕ). owed_in (box_at world who)) 64 (length world.boxes) (λ who below. owed_few world who sound below) in
    let ready : total (λ (who : ℕ). ready_in (box_at world who)) (length world.boxes) ≤ 1 * length world.boxes
    = total_small (λ (who : ℕ). ready_in (box_at world who)) 1 (length world.boxes) (λ who below. bit_small (is_enabled (box_at world who) Shift)) in
    record { owed = omega (arith, boxes, owed); ready = omega (arith, boxes, ready) }

-- those of one box, whether it is there or not
pub of_box_few : (world : WorldState) (who : ℕ) (counts : Counts) → IsSound world → who < length world.boxes → AreOfBox (box_at world who) counts → (counts.owed ≤ 64) × (counts.ready ≤ 1)
of_box_few world who counts sound inside of =
    (rw of.owed (owed_few world who sound inside), rw of.ready (bit_small (is_enabled (box_at world who) Shift)))

-- those of one box are within those of the world
pub of_box_within : (world : WorldState) (who : ℕ) (all counts : Counts) → who < length world.boxes → AreCounted world all → AreOfBox (box_at world who) counts → (counts.owed ≤ all.owed) × (counts.ready ≤ all.ready)
of_box_within world who all counts inside counted of = (
  rw (of.owed, counted.owed) (total_has (λ (w : ℕ). owed_in (box_at world w)) (length world.boxes) who inside),
  rw (of.ready, counted.ready) (total_has (λ (w : ℕ). ready_in (box_at world w)) (length world.boxes) who inside),
)

-- ---- a step

-- the box of a turn that goes is there
pub turn_inside : (world next : WorldState) (turn : Turn) → step world turn ≡ Some next → turn.who < length world.boxes
turn_inside world next turn goes =
    box_inside world turn.who (if_some (nat_lt turn.who (length world.boxes)) (step_by world turn.who turn.event) next goes).0

-- one value alone changes
pub changed : (f g : ℕ → ℕ) (k s all less more result : ℕ) → s < k → ((t : ℕ) → t < k → t ≢ s → f t ≡ g t) → all ≡ total g k → less ≡ g s → more ≡ f s → result ≡ all - less + more → result ≡ total f k
changed f g k s all less more result inside same all_is less_is more_is is =
    let one : total f k + g s ≡ total g k + f s = total_one f g k s inside same in
    let within : g s ≤ total g k = total_has g k s inside in
    omega (arith, one, within, all_is, less_is, more_is, is)

-- the counts after a step, where those of its box are counted anew
pub step_counts : (world next : WorldState) (turn : Turn) (all less more result : Counts) → IsSound world → step world turn ≡ Some next → AreCounted world all → AreOfBox (box_at world turn.who) less → AreOfBox (box_at next turn.who) more
    → result.owed ≡ all.owed - less.owed + more.owed → result.ready ≡ all.ready - less.ready + more.ready → AreCounted next result
step_counts world next turn all less more result sound goes counted was is owed ready =
    let acts = step_acts world next turn sound goes in
    let inside = turn_inside world next turn goes in
    record {
      owed = changed (λ (w : ℕ). owed_in (box_at next w)) (λ (w : ℕ). owed_in (box_at world w)) (length world.boxes) turn.who all.owed less.owed more.owed result.owed inside
          (λ t below apart. ap owed_in (acts.boxes t apart)) counted.owed was.owed is.owed owed
          ∙ ap (total (λ (w : ℕ). owed_in (box_at next w))) (sym acts.count);
      ready = changed (λ (w : ℕ). ready_in (box_at next w)) (λ (w : ℕ). ready_in (box_at world w)) (length world.boxes) turn.who all.ready less.ready more.ready result.ready inside
          (λ t below apart. ap ready_in (acts.boxes t apart)) counted.ready was.ready is.ready ready
          ∙ ap (total (λ (w : ℕ). ready_in (box_at next w))) (sym acts.count);
    }

-- ---- no box has an enabled Shift

-- of a sum with a first value
pub none_by : (b more : Bool) (rest all : ℕ) → all ≡ bit b + rest → (rest == 0) ≡ not more → (all == 0) ≡ not (b || more)
none_by true more rest all is none = grind (arith, common_steps)
none_by false more rest all is none = ap (λ (n : ℕ). n == 0) (let same : all ≡ rest = omega (arith, is) in same) ∙ none

pub none_ready : (boxes : List BoxState) → (total (λ (who : ℕ). ready_in (get_or boxes who no_box)) (length boxes) == 0) ≡ not (list_any (λ (box : BoxState). is_enabled box Shift) boxes)
none_ready [] = refl
none_ready (box ∷ boxes) =
    none_by (is_enabled box Shift) (list_any (λ (one : BoxState). is_enabled one Shift) boxes) (total (λ (who : ℕ). ready_in (get_or boxes who no_box)) (length boxes))
    (total (λ (who : ℕ). ready_in (get_or (box ∷ boxes) who no_box)) (length (box ∷ boxes))) (total_front (λ (who : ℕ). ready_in (get_or (box ∷ boxes) who no_box)) (length boxes)) (none_ready boxes)

pub ready_rests : (world : WorldState) (counts : Counts) → AreCounted world counts → (counts.ready == 0) ≡ not (can_shift world)
ready_rests world counts counted = ap (λ (n : ℕ). n == 0) counted.ready ∙ none_ready world.boxes

-- ---- loops

-- one value more
pub total_more : (f : ℕ → ℕ) (k sum more : ℕ) → sum ≡ total f k → more ≡ f k → sum + more ≡ total f (k + 1)
total_more f k sum more is one = rw (add-one, is, one) (omega arith)

-- the counts of a world and of a box of the next one fit
pub step_fits : (world next : WorldState) (turn : Turn) (all more : Counts) → IsSound world → IsSound next → step world turn ≡ Some next → AreCounted world all → AreOfBox (box_at next turn.who) more
    → (all.owed + more.owed < 2 ^ 64) × (all.ready + more.ready < 2 ^ 64)
step_fits world next turn all more sound later goes counted of =
    let few = counts_few world sound in
    let inside : turn.who < length next.boxes = rw (step_acts world next turn sound goes).count (turn_inside world next turn goes) in
    let box = of_box_few next turn.who more later inside of in
    let owed : all.owed ≤ 2 ^ 38 = rw counted.owed few.owed in
    let ready : all.ready ≤ 2 ^ 32 = rw counted.ready few.ready in
    (omega (arith, owed, box.0), omega (arith, ready, box.1))

-- the boxes below a number are counted
pub record CountedTo (world : WorldState) (counts : Counts) (who : ℕ) : Type 0 where
  pub owed : counts.owed ≡ total (λ (w : ℕ). owed_in (box_at world w)) who
  pub ready : counts.ready ≡ total (λ (w : ℕ). ready_in (box_at world w)) who
  pub owed_few : counts.owed ≤ 64 * who
  pub ready_few : counts.ready ≤ who

-- and one box more
pub counted_more : (world : WorldState) (who : ℕ) (all more : Counts) → IsSound world → who < length world.boxes → CountedTo world all who → AreOfBox (box_at world who) more
    → CountedTo world (record { owed = all.owed + more.owed; ready = all.ready + more.ready }) (who + 1)
counted_more world who all more sound inside counted of =
    let few = of_box_few world who more sound inside of in
    record {
      owed = total_more (λ (w : ℕ). owed_in (box_at world w)) who all.owed more.owed counted.owed of.owed;
      ready = total_more (λ (w : ℕ). ready_in (box_at world w)) who all.ready more.ready counted.ready of.ready;
      owed_few = omega (arith, counted.owed_few, few.0);
      ready_few = omega (arith, counted.ready_few, few.1);
    }

pub counted_fits : (world : WorldState) (who : ℕ) (all more : Counts) → IsSound world → who < length world.boxes → CountedTo world all who → AreOfBox (box_at world who) more → all.owed + more.owed < 2 ^ 64
counted_fits world who all more sound inside counted of =
    let few = of_box_few world who more sound inside of in
    let boxes = boxes_few world sound in
    omega (arith, counted.owed_few, few.0, boxes, inside)
