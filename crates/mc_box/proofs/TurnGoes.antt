-- Each goal of a wired box may have its turn: its slots may send all that the turn is to send.
use Rattle.std.proofs.Common.{◌≡◌, ◌&&◌, ℕ, Bool, true, false, Option, Some, None, List, [], ◌∷◌, ◌++◌, IsSome, length, max, min, refl, ap, sym, ◌∙◌, subst, arith}
use Rattle.mc_link.specs.LinkLaws.{other_side}
use Rattle.mc_link.specs.LinkTurn.{can_close, selector_due, pass_selector, lean, link_turn, descriptor_due, sent_by_first, sent_by_second, closed_side}
use Rattle.mc_link.specs.declared.Side.{Side}
use Rattle.mc_link.specs.declared.Side.TheVariants.{First, Second}
use Rattle.mc_link.proofs.LinkRests.{passes}
use Rattle.mc_link.proofs.Mirror.{link_mirror}
use Rattle.mc_link.proofs.Parts.{both, live_both, live_got}
use Rattle.mc_link.proofs.Sides.{first_of_four, sent_both}
use Rattle.mc_signal.specs.declared.Descriptor.{Descriptor}
use Rattle.mc_signal.specs.declared.Selector.{Selector}
use Rattle.mc_signal.specs.declared.Sender.{Sender}
use Rattle.mc_signal.specs.declared.Signal.{Signal}
use Rattle.mc_signal.specs.declared.Signal.TheVariants.{Close}
use Rattle.mc_slot.specs.EndTurn.{end_turn, is_push}
use Rattle.mc_slot.specs.Moves.{is_live, slot_send_all}
use Rattle.mc_slot.specs.Tunnel.{Kept}
use Rattle.mc_slot.specs.declared.Cause.{Cause}
use Rattle.mc_slot.specs.declared.Cause.TheVariants.{Push}
use Rattle.mc_slot.specs.declared.Goal.{Goal}
use Rattle.mc_slot.specs.declared.Slot.{Slot}
use Rattle.mc_slot.specs.declared.SlotGoal.{SlotGoal}
use Rattle.mc_slot.specs.declared.SlotGoal.TheVariants.{End, Link}
use Rattle.mc_slot.specs.declared.State.{State}
use Rattle.mc_slot.specs.declared.State.TheVariants.{Closed, Opening, Opened, Flowing, Closing}
use Rattle.mc_box.specs.BoxEvents.{BoxStep, end_step, goal_step, pair_step, side_of, goal_step_by, goal_steps}
use Rattle.mc_box.specs.BoxSound.{IsWired}
use Rattle.mc_box.specs.Boxes.{BoxState, slot_at, goal_at, own, sender}
use Rattle.mc_box.proofs.Folds.{AreInside}
use Rattle.mc_box.proofs.GoalTurns.{turned}

-- ---- options that are there

pub some_of : {A : Type 0} (o : Option A) → IsSome o → (x : A) × (o ≡ Some x)
some_of None some = absurd (cc)
some_of (Some x) some = (x, refl)

pub some_is : {A : Type 0} (o : Option A) (x : A) → o ≡ Some x → IsSome o
some_is o x is = rw is refl

-- ---- an end

goes_closed : (goal : Goal) (slot : Slot) (pushed : Bool) (mine : Descriptor) (me : Sender) → slot.state ≡ Closed → IsSome (slot_send_all slot (end_turn goal slot pushed mine me))
goes_closed goal slot pushed mine me is = grind arith

goes_opening : (goal : Goal) (slot : Slot) (pushed : Bool) (mine : Descriptor) (me : Sender) → slot.state ≡ Opening → IsSome (slot_send_all slot (end_turn goal slot pushed mine me))
goes_opening goal slot pushed mine me is = grind arith

goes_opened : (goal : Goal) (slot : Slot) (pushed : Bool) (mine : Descriptor) (me : Sender) → slot.state ≡ Opened → Kept slot → IsSome (slot_send_all slot (end_turn goal slot pushed mine me))
goes_opened goal slot pushed mine me is kept = grind arith

goes_flowing : (goal : Goal) (slot : Slot) (pushed : Bool) (mine : Descriptor) (me : Sender) → slot.state ≡ Flowing → Kept slot → IsSome (slot_send_all slot (end_turn goal slot pushed mine me))
goes_flowing goal slot pushed mine me is kept = grind arith

goes_closing : (goal : Goal) (slot : Slot) (pushed : Bool) (mine : Descriptor) (me : Sender) → slot.state ≡ Closing → IsSome (slot_send_all slot (end_turn goal slot pushed mine me))
goes_closing goal slot pushed mine me is = grind arith

due_goes_in : (state : State) (goal : Goal) (slot : Slot) (pushed : Bool) (mine : Descriptor) (me : Sender) → slot.state ≡ state → Kept slot → IsSome (slot_send_all slot (end_turn goal slot pushed mine me))
due_goes_in Closed goal slot pushed mine me is kept = goes_closed goal slot pushed mine me is
due_goes_in Opening goal slot pushed mine me is kept = goes_opening goal slot pushed mine me is
due_goes_in Opened goal slot pushed mine me is kept = goes_opened goal slot pushed mine me is kept
due_goes_in Flowing goal slot pushed mine me is kept = goes_flowing goal slot pushed mine me is kept
due_goes_in Closing goal slot pushed mine me is kept = goes_closing goal slot pushed mine me is

-- a slot that keeps what its state allows may send what is due
pub due_goes : (goal : Goal) (slot : Slot) (pushed : Bool) (mine : Descriptor) (me : Sender) → Kept slot → IsSome (slot_send_all slot (end_turn goal slot pushed mine me))
due_goes goal slot pushed mine me kept = due_goes_in slot.state goal slot pushed mine me refl kept

-- ---- a link

-- a live slot may pass on a descriptor
passes_goes : (d : Descriptor) (slot other : Slot) → is_live slot.state ≡ true → other.got ≡ Some d → IsSome (slot_send_all slot (descriptor_due slot other))
passes_goes d slot other live had = grind arith

-- and a flowing one a selector
chooses_goes : (heard : Option Selector) (got : Option Descriptor) (last : Option Selector) (slot : Slot) → slot.state ≡ Flowing → IsSome (slot_send_all slot (pass_selector heard got last))
chooses_goes heard got last slot flows = grind arith

-- the first of two live slots
live_goes : (a b : Slot) → Kept b → is_live a.state ≡ true → is_live b.state ≡ true → IsSome (slot_send_all a (sent_by_first (lean a b)))
live_goes a b kept a_live b_live =
    let had = live_got b b.got refl kept b_live in
    let next = some_of (slot_send_all a (descriptor_due a b)) (passes_goes had.0 a b a_live had.1) in
    let passed = passes had.0 a b next.0 a_live had.1 next.1 in
    let last = some_of (slot_send_all next.0 (selector_due a b)) (chooses_goes b.sel_in a.got a.sel_out next.0 passed.flows) in
    let parts : sent_by_first (lean a b) ≡ descriptor_due a b ++ selector_due a b =
    ap sent_by_first (live_both a b a_live b_live) ∙ first_of_four (descriptor_due a b) (descriptor_due b a) (selector_due a b) (selector_due b a) in
    some_is (slot_send_all a (sent_by_first (lean a b))) last.0
    (ap (slot_send_all a) parts ∙ sent_both a next.0 last.0 (descriptor_due a b) (selector_due a b) next.1 last.1)

-- and of two that aren't both live
calm_goes : (a b : Slot) → is_live a.state && is_live b.state ≡ false → IsSome (slot_send_all a (sent_by_first (lean a b)))
calm_goes a b calm = grind arith

lean_goes_by : (live : Bool) (a b : Slot) → Kept b → is_live a.state && is_live b.state ≡ live → IsSome (slot_send_all a (sent_by_first (lean a b)))
lean_goes_by true a b kept is = let live = both (is_live a.state) (is_live b.state) is in live_goes a b kept live.0 live.1
lean_goes_by false a b kept is = calm_goes a b is

lean_goes : (a b : Slot) → Kept b → IsSome (slot_send_all a (sent_by_first (lean a b)))
lean_goes a b kept = lean_goes_by (is_live a.state && is_live b.state) a b kept refl

-- a slot that can close may be told to
closes_goes : (slot : Slot) → can_close slot.state ≡ true → IsSome (slot_send_all slot (Close ∷ []))
closes_goes slot can = grind arith

far_by : (can : Bool) (a b : Slot) → Kept b → can_close b.state ≡ can → IsSome (slot_send_all a (sent_by_first (link_turn a b (Some First))))
far_by true a b kept is = rw is refl
far_by false a b kept is = rw is (lean_goes a b kept)

near_by : (can : Bool) (a b : Slot) → Kept b → can_close a.state ≡ can → IsSome (slot_send_all a (sent_by_first (link_turn a b (Some Second))))
near_by true a b kept is = rw is (closes_goes a is)
near_by false a b kept is = rw is (lean_goes a b kept)

-- the first slot of a link may send its part, whichever of them a close has closed
pub first_goes : (closed : Option Side) (a b : Slot) → Kept b → IsSome (slot_send_all a (sent_by_first (link_turn a b closed)))
first_goes None a b kept = lean_goes a b kept
first_goes (Some First) a b kept = far_by (can_close b.state) a b kept refl
first_goes (Some Second) a b kept = near_by (can_close a.state) a b kept refl

-- and so may the second
pub second_goes : (closed : Option Side) (a b : Slot) → Kept a → IsSome (slot_send_all b (sent_by_second (link_turn a b closed)))
second_goes closed a b kept =
    subst (λ (l : List Signal). IsSome (slot_send_all b l)) (link_mirror a b closed).0 (first_goes (other_side closed) b a kept)

-- ---- a turn

end_made : (box : BoxState) (local : ℕ) (goal : Goal) (cause : Cause) (last : Slot)
    → slot_send_all (slot_at box local) (end_turn goal (slot_at box local) (is_push cause) (own box local) (sender box local)) ≡ Some last → IsSome (end_step goal box local cause)
end_made box local goal cause last goes = rw goes refl

pair_made : (box : BoxState) (low high : ℕ) (closed : Option Side) (first second : Slot)
    → slot_send_all (slot_at box low) (sent_by_first (link_turn (slot_at box low) (slot_at box high) closed)) ≡ Some first
    → slot_send_all (slot_at box high) (sent_by_second (link_turn (slot_at box low) (slot_at box high) closed)) ≡ Some second → IsSome (pair_step box low high closed)
pair_made box low high closed first second one two = rw (one, two) refl

turn_by_goes : (goal : SlotGoal) (box : BoxState) (local : ℕ) (cause : Cause) → IsWired box → IsSome (goal_step_by goal box local cause)
turn_by_goes (End goal) box local cause wired =
    let last = some_of (slot_send_all (slot_at box local) (end_turn goal (slot_at box local) (is_push cause) (own box local) (sender box local)))
    (due_goes goal (slot_at box local) (is_push cause) (own box local) (sender box local) (wired.kept local)) in
    end_made box local goal cause last.0 last.1
turn_by_goes (Link partner) box local cause wired =
    let low = slot_at box (min local partner) in
    let high = slot_at box (max local partner) in
    let side = closed_side cause (side_of local partner) in
    let first = some_of (slot_send_all low (sent_by_first (link_turn low high side))) (first_goes side low high (wired.kept (max local partner))) in
    let second = some_of (slot_send_all high (sent_by_second (link_turn low high side))) (second_goes side low high (wired.kept (min local partner))) in
    pair_made box (min local partner) (max local partner) side first.0 second.0 first.1 second.1

-- each goal's turn can happen
pub turn_goes : (box : BoxState) (local : ℕ) (cause : Cause) → IsWired box → IsSome (goal_step box local cause)
turn_goes box local cause wired = turn_by_goes (goal_at box local) box local cause wired

-- ---- turns one after another

turns_made : (box : BoxState) (local : ℕ) (locals : List ℕ) (turn more : BoxStep) → goal_step box local Push ≡ Some turn → goal_steps turn.after locals ≡ Some more
    → IsSome (goal_steps box (local ∷ locals))
turns_made box local locals turn more one two = rw (one, two) refl

pub turns_go : (locals : List ℕ) (box : BoxState) → IsWired box → AreInside (length box.slots) locals → IsSome (goal_steps box locals)
turns_go [] box wired inside = refl
turns_go (local ∷ locals) box wired inside =
    let turn = some_of (goal_step box local Push) (turn_goes box local Push wired) in
    let made = turned box local Push turn.0 wired inside.0 turn.1 in
    let size : length turn.0.after.slots ≡ length box.slots = ap (λ (b : BoxState). length b.slots) made.is ∙ made.size in
    let more = some_of (goal_steps turn.0.after locals)
    (turns_go locals turn.0.after (subst (λ (b : BoxState). IsWired b) (sym made.is) made.wired) (subst (λ (n : ℕ). AreInside n locals) (sym size) inside.1)) in
    turns_made box local locals turn.0 more.0 turn.1 more.1
