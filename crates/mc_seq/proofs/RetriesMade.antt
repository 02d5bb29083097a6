-- Retries one after another: each leaves what the other slots owe.
use Rattle.std.proofs.Common.{◌≡◌, ◌≢◌, ◌≤◌, ◌+◌, if◌then◌else◌, ℕ, Bool, true, false, List, [], ◌∷◌, length, Some, None, add-one, ap, sym, ◌∙◌, subst, arith}
use Rattle.mc_slot.specs.declared.Slot.{Slot}
use Rattle.mc_slot.specs.declared.SlotGoal.{SlotGoal}
use Rattle.mc_box.specs.Boxes.{goal_at, slot_owes, box_owes, slot_at}
use Rattle.mc_box.specs.declared.event.Event.TheVariants.{Retry}
use Rattle.mc_box.specs.declared.event.Turn.{Turn}
use Rattle.mc_model.specs.Shapes.{HasShape}
use Rattle.mc_model.specs.Sound.{IsSound}
use Rattle.mc_model.specs.Steps.{run, step}
use Rattle.mc_model.specs.Worlds.{WorldState, box_at, place}
use Rattle.mc_world.specs.declared.settled.Settled.{Settled}
use Rattle.mc_laws.proofs.ShapesKept.{run_keeps_shape, shape_both}
use Rattle.mc_box.proofs.Options.{then_some}
use Rattle.mc_laws.proofs.StepKeeps.{run_keeps_sound}
use Rattle.mc_laws.proofs.TakeParts.{RetryHappened, part_stays, retry_goals_stay, retry_is}
use Rattle.mc_seq.specs.ForEach.{for_each}
use Rattle.mc_seq.specs.Retries.{OthersOwe, owed_retry, retries_of, retry_turn}
use Rattle.mc_seq.specs.Turns.{MadeAll}
use Rattle.mc_seq.proofs.ForEach.{each_same}
use Rattle.mc_seq.proofs.Making.{made_more}

-- ---- one retry

-- each other slot owes what it owed
form_owes : (world next : WorldState) (s w l : ℕ) → (w ≡ (place world s).0 → l ≢ (place world s).1) → RetryHappened world next s → box_owes (box_at next w) l ≡ box_owes (box_at world w) l
form_owes world next s w l apart retried =
    let goal : goal_at (box_at next w) l ≡ goal_at (box_at world w) l = retry_goals_stay world next s retried w l in
    let slot : slot_at (box_at next w) l ≡ slot_at (box_at world w) l =
    part_stays world next (place world s).0 w l (Retry (place world s).1) None world.lanes retried.happened (λ here. retried.did.turned.others l (apart here)) in
    ap (λ (g : SlotGoal). slot_owes g (slot_at (box_at next w) l)) goal ∙ ap (λ (a : Slot). slot_owes (goal_at (box_at world w) l) a) slot

-- after a Retry, or none, other slots owe what they owed
retries_by : (owes : Bool) (world next : WorldState) (who local w l : ℕ) → IsSound world → (w ≡ who → l ≢ local)
    → run world (if owes then retry_turn who local ∷ [] else []) ≡ Some next → box_owes (box_at next w) l ≡ box_owes (box_at world w) l
retries_by true world next who local w l sound apart goes =
    let one = then_some (λ (x : WorldState). run x []) (step world (retry_turn who local)) next goes in
    let same : Some one.0 ≡ Some next = one.2 in
    let made = retry_is world next who local sound (one.1 ∙ same) in
    form_owes world next made.0 w l
    (λ here at. apart (here ∙ ap (λ (p : ℕ × ℕ). p.0) made.1) (at ∙ ap (λ (p : ℕ × ℕ). p.1) made.1)) made.2
retries_by false world next who local w l sound apart goes =
    let same : world ≡ next = cc in
    ap (λ (x : WorldState). box_owes (box_at x w) l) (sym same)

-- the retry of a slot, if it owes one, leaves what each other slot owes
retry_else : (world next : WorldState) (who local w l : ℕ) → IsSound world → (w ≡ who → l ≢ local) → run world (owed_retry world who local) ≡ Some next → box_owes (box_at next w) l ≡ box_owes (box_at world w) l
retry_else world next who local w l sound apart goes = retries_by (box_owes (box_at world who) local) world next who local w l sound apart goes

-- what a slot owes decides whether its Retry is made
owed_same : (now start : WorldState) (who local : ℕ) → box_owes (box_at now who) local ≡ box_owes (box_at start who) local → owed_retry now who local ≡ owed_retry start who local
owed_same now start who local same = ap (λ (b : Bool). if b then retry_turn who local ∷ [] else []) same

-- ---- one after another

-- what a function gives for each number so far was made
pub record MadeEach (start now : Settled) (f : ℕ → List Turn) (number : ℕ) : Type 0 where
  pub sound : IsSound now.world
  pub shape : HasShape now.world start.world
  pub made : MadeAll start now (for_each f number)

-- and what it gives for one number more
each_more : (start now next : Settled) (f : ℕ → List Turn) (number : ℕ) (turns : List Turn) → MadeEach start now f number → turns ≡ f number → MadeAll now next turns → MadeEach start next f (number + 1)
each_more start now next f number turns so_far is more = record {
  sound = run_keeps_sound now.world next.world turns so_far.sound more.ran;
  shape = shape_both next.world now.world start.world (run_keeps_shape now.world next.world turns so_far.sound more.ran) so_far.shape;
  made = rw add-one (made_more start now next (for_each f number) (f number) so_far.made (subst (MadeAll now next) is more));
}

-- ---- the slots of a box

-- the slots of a box below a number have made their retries, and the others owe what they owed
pub record BoxRetried (start now : Settled) (who number : ℕ) : Type 0 where
  pub so_far : MadeEach start now (owed_retry start.world who) number
  pub others : (w l : ℕ) → (w ≡ who → number ≤ l) → box_owes (box_at now.world w) l ≡ box_owes (box_at start.world w) l

-- one more slot of a box has had its turn
pub box_more : (start now next : Settled) (who number : ℕ) → BoxRetried start now who number → MadeAll now next (owed_retry now.world who number) → BoxRetried start next who (number + 1)
box_more start now next who number retried more = record {
  so_far = each_more start now next (owed_retry start.world who) number (owed_retry now.world who number) retried.so_far
      (owed_same now.world start.world who number (retried.others who number (λ here. omega arith))) more;
  others = λ w l past.
      retry_else now.world next.world who number w l retried.so_far.sound (λ here at. let high : number + 1 ≤ l = past here in let is : l ≡ number = at in omega arith) more.ran
      ∙ retried.others w l (λ here. let high : number + 1 ≤ l = past here in omega arith);
}

-- ---- all boxes

-- the boxes below a number have made their retries, and the others owe what they owed
pub record BoxesRetried (start now : Settled) (number : ℕ) : Type 0 where
  pub so_far : MadeEach start now (retries_of start.world) number
  pub others : (w l : ℕ) → number ≤ w → box_owes (box_at now.world w) l ≡ box_owes (box_at start.world w) l

-- boxes of one shape that owe the same have the same Retries
box_same : (now start : WorldState) (who : ℕ) → HasShape now start → ((l : ℕ) → box_owes (box_at now who) l ≡ box_owes (box_at start who) l) → retries_of now who ≡ retries_of start who
box_same now start who shape same =
    each_same (owed_retry now who) (owed_retry start who) (length (box_at now who).slots) (λ l. owed_same now start who l (same l))
    ∙ ap (for_each (owed_retry start who)) (shape.alike who).slots

-- one more box has had its turns
pub boxes_more : (start now next : Settled) (number : ℕ) → BoxesRetried start now number → MadeAll now next (retries_of now.world number) → OthersOwe now.world next.world number → BoxesRetried start next (number + 1)
boxes_more start now next number retried more others = record {
  so_far = each_more start now next (retries_of start.world) number (retries_of now.world number) retried.so_far
      (box_same now.world start.world number retried.so_far.shape (λ l. retried.others number l (omega arith))) more;
  others = λ w l past.
      let apart : w ≢ number = omega arith in
      let low : number ≤ w = omega arith in
      others w l apart ∙ retried.others w l low;
}
