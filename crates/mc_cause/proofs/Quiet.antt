-- Turns that send no close: what a box sends in an event that takes no close, and that doesn't close of its own accord.
use Rattle.std.proofs.Common.{◌≡◌, ◌+◌, ◌++◌, if◌then◌else◌, ℕ, Bool, true, false, Option, Some, None, List, [], ◌∷◌, map, refl, sym, subst, arith}
use Rattle.std.specs.Option.{option_eq}
use Rattle.mc_link.specs.LinkTurn.{descriptor_due, flow, from_side, lean_in, link_turn, open_with, pass_descriptor, pass_selector, selector_due, sent_by_first, sent_by_second, with_number}
use Rattle.mc_link.specs.declared.Side.{Side}
use Rattle.mc_link.specs.declared.Side.TheVariants.{First, Second}
use Rattle.mc_signal.specs.Choice.{answers, choose}
use Rattle.mc_signal.specs.Same.{is_same_descriptor, is_same_selector}
use Rattle.mc_signal.specs.declared.Descriptor.{Descriptor}
use Rattle.mc_signal.specs.declared.Selector.{Selector}
use Rattle.mc_signal.specs.declared.Sender.{Sender}
use Rattle.mc_signal.specs.declared.Signal.{Signal}
use Rattle.mc_signal.specs.declared.Signal.TheVariants.{Open, Describe, Select}
use Rattle.mc_slot.specs.EndTurn.{describe_newer, select_newer, end_turn, end_turn_in, live_turn, select_again, select_first}
use Rattle.mc_slot.specs.Outlook.{close_of, closes}
use Rattle.mc_slot.specs.Sending.{pair_of}
use Rattle.mc_slot.specs.declared.Goal.{Goal}
use Rattle.mc_slot.specs.declared.Goal.TheVariants.{Open as ToOpen, Close as ToClose, Hold as ToHold}
use Rattle.mc_slot.specs.declared.Slot.{Slot}
use Rattle.mc_slot.specs.declared.SlotGoal.TheVariants.{End}
use Rattle.mc_slot.specs.declared.State.{State}
use Rattle.mc_slot.specs.declared.State.TheVariants.{Closed, Opening, Opened, Flowing, Closing}
use Rattle.mc_slot_laws.proofs.Walks.{closes-append}
use Rattle.mc_cause.specs.CauseLaws.{is_close_goal}

-- ---- lists of signals

-- no close is among these
abbrev pub NoClose : List Signal → Type 0
NoClose signals = closes signals ≡ 0

-- nor among what two linked slots send
abbrev pub NoneOfBoth : List (Side × Signal) → Type 0
NoneOfBoth [] = Unit {0}
NoneOfBoth (one ∷ rest) = (close_of one.1 ≡ 0) × NoneOfBoth rest

-- nor among what a box sends
abbrev pub NoneSent : List (ℕ × Signal) → Type 0
NoneSent [] = Unit {0}
NoneSent (one ∷ rest) = (close_of one.1 ≡ 0) × NoneSent rest

pub none_both : (first second : List (Side × Signal)) → NoneOfBoth first → NoneOfBoth second → NoneOfBoth (first ++ second)
none_both [] second one two = two
none_both (signal ∷ first) second one two = (one.0, none_both first second one.1 two)

pub none_append : (first second : List (ℕ × Signal)) → NoneSent first → NoneSent second → NoneSent (first ++ second)
none_append [] second one two = two
none_append (signal ∷ first) second one two = (one.0, none_append first second one.1 two)

-- a side's signals
side_none : (side : Side) (signals : List Signal) → NoClose signals → NoneOfBoth (from_side side signals)
side_none side [] none = tt
side_none side (signal ∷ signals) none =
    let sum : close_of signal + closes signals ≡ 0 = none in
    let first : close_of signal ≡ 0 = omega arith in
    let rest : closes signals ≡ 0 = omega arith in
    (first, side_none side signals rest)

pub end_sent : (local : ℕ) (signals : List Signal) → NoClose signals → NoneSent (map (pair_of local) signals)
end_sent local [] none = tt
end_sent local (signal ∷ signals) none =
    let sum : close_of signal + closes signals ≡ 0 = none in
    let first : close_of signal ≡ 0 = omega arith in
    let rest : closes signals ≡ 0 = omega arith in
    (first, end_sent local signals rest)

pub pair_sent : (low high : ℕ) (both : List (Side × Signal)) → NoneOfBoth both → NoneSent (map (with_number low high) both)
pair_sent low high [] none = tt
pair_sent low high ((First, signal) ∷ rest) none = (none.0, pair_sent low high rest none.1)
pair_sent low high ((Second, signal) ∷ rest) none = (none.0, pair_sent low high rest none.1)

pub first_none : (both : List (Side × Signal)) → NoneOfBoth both → NoClose (sent_by_first both)
first_none [] none = refl
first_none ((First, signal) ∷ rest) none = let one : close_of signal ≡ 0 = none.0 in let more : closes (sent_by_first rest) ≡ 0 = first_none rest none.1 in omega arith
first_none ((Second, signal) ∷ rest) none = first_none rest none.1

pub second_none : (both : List (Side × Signal)) → NoneOfBoth both → NoClose (sent_by_second both)
second_none [] none = refl
second_none ((Second, signal) ∷ rest) none = let one : close_of signal ≡ 0 = none.0 in let more : closes (sent_by_second rest) ≡ 0 = second_none rest none.1 in omega arith
second_none ((First, signal) ∷ rest) none = second_none rest none.1

-- ---- an end that isn't to close

by_test : (test : Bool) (signals : List Signal) → NoClose signals → NoClose (if test then [] else signals)
by_test true signals none = refl
by_test false signals none = none

first_select : (got : Option Descriptor) (me : Sender) → NoClose (select_first got me)
first_select None me = refl
first_select (Some got) me = refl

again_select : (got : Option Descriptor) (last : Option Selector) (me : Sender) → NoClose (select_again got last me)
again_select None last me = refl
again_select (Some got) last me = by_test (option_eq is_same_selector last (Some (choose got me))) (Select (choose got me) ∷ []) refl

live_none : (state : State) (slot : Slot) (mine : Descriptor) (me : Sender) → NoClose (live_turn state slot mine me)
live_none Opened slot mine me = let rest : closes (select_first slot.got me) ≡ 0 = first_select slot.got me in omega arith
live_none Flowing slot mine me =
    let both : closes (describe_newer slot.sent mine ++ select_again slot.got slot.sel_out me) ≡ closes (describe_newer slot.sent mine) + closes (select_again slot.got slot.sel_out me) =
    closes-append (describe_newer slot.sent mine) (select_again slot.got slot.sel_out me) in
    let one : closes (describe_newer slot.sent mine) ≡ 0 = by_test (option_eq is_same_descriptor slot.sent (Some mine)) (Describe mine ∷ []) refl in
    let two : closes (select_again slot.got slot.sel_out me) ≡ 0 = again_select slot.got slot.sel_out me in
    omega arith
live_none Closed slot mine me = refl
live_none Opening slot mine me = refl
live_none Closing slot mine me = refl

open_none : (pushed : Bool) (slot : Slot) (mine : Descriptor) → NoClose (if pushed then Open slot.medium mine ∷ [] else [])
open_none true slot mine = refl
open_none false slot mine = refl

end_none_in : (goal : Goal) (state : State) (slot : Slot) (pushed : Bool) (mine : Descriptor) (me : Sender) → is_close_goal (End goal) ≡ false → NoClose (end_turn_in goal state slot pushed mine me)
end_none_in ToClose state slot pushed mine me other = absurd (cc)
end_none_in ToOpen Closed slot pushed mine me other = open_none pushed slot mine
end_none_in ToOpen Opening slot pushed mine me other = live_none Opening slot mine me
end_none_in ToOpen Opened slot pushed mine me other = live_none Opened slot mine me
end_none_in ToOpen Flowing slot pushed mine me other = live_none Flowing slot mine me
end_none_in ToOpen Closing slot pushed mine me other = live_none Closing slot mine me
end_none_in ToHold state slot pushed mine me other = live_none state slot mine me

pub end_none : (goal : Goal) (slot : Slot) (pushed : Bool) (mine : Descriptor) (me : Sender) → is_close_goal (End goal) ≡ false → NoClose (end_turn goal slot pushed mine me)
end_none goal slot pushed mine me other = end_none_in goal slot.state slot pushed mine me other

-- an end under close that rests has nothing to close, whatever its media are
close_rests : (state : State) (slot : Slot) (mine own : Descriptor) (me sender : Sender) (pushed : Bool) → end_turn_in ToClose state slot false mine me ≡ [] → NoClose (end_turn_in ToClose state slot pushed own sender)
close_rests Closed slot mine own me sender pushed rests = refl
close_rests Closing slot mine own me sender pushed rests = refl
close_rests Opening slot mine own me sender pushed rests = absurd (cc)
close_rests Opened slot mine own me sender pushed rests = absurd (cc)
close_rests Flowing slot mine own me sender pushed rests = absurd (cc)

pub resting_none : (goal : Goal) (slot : Slot) (mine own : Descriptor) (me sender : Sender) (pushed : Bool) → end_turn goal slot false mine me ≡ [] → NoClose (end_turn goal slot pushed own sender)
resting_none ToClose slot mine own me sender pushed rests = close_rests slot.state slot mine own me sender pushed rests
resting_none ToOpen slot mine own me sender pushed rests = end_none ToOpen slot pushed own sender refl
resting_none ToHold slot mine own me sender pushed rests = end_none ToHold slot pushed own sender refl

-- ---- a link that passes no close on

open_with_none : (slot : Slot) (got : Option Descriptor) → NoClose (open_with slot got)
open_with_none slot None = refl
open_with_none slot (Some got) = refl

descriptor_none : (state : State) (last got : Option Descriptor) → NoClose (pass_descriptor state last got)
descriptor_none Opened last (Some got) = refl
descriptor_none Flowing last (Some got) = by_test (option_eq is_same_descriptor last (Some got)) (Describe got ∷ []) refl
descriptor_none state last got = refl

passed_by : (test : Bool) (signals : List Signal) → NoClose signals → NoClose (if test then signals else [])
passed_by true signals none = none
passed_by false signals none = refl

selector_none : (heard : Option Selector) (got : Option Descriptor) (last : Option Selector) → NoClose (pass_selector heard got last)
selector_none (Some heard) (Some got) last = passed_by (answers heard got) (select_newer last heard) (by_test (option_eq is_same_selector last (Some heard)) (Select heard ∷ []) refl)
selector_none (Some heard) None last = refl
selector_none None got last = refl

flow_none : (a b : Slot) → NoneOfBoth (flow a b)
flow_none a b =
    none_both (from_side First (descriptor_due a b)) (from_side Second (descriptor_due b a) ++ (from_side First (selector_due a b) ++ from_side Second (selector_due b a)))
    (side_none First (descriptor_due a b) (descriptor_none a.state a.sent b.got))
    (none_both (from_side Second (descriptor_due b a)) (from_side First (selector_due a b) ++ from_side Second (selector_due b a))
    (side_none Second (descriptor_due b a) (descriptor_none b.state b.sent a.got))
    (none_both (from_side First (selector_due a b)) (from_side Second (selector_due b a))
    (side_none First (selector_due a b) (selector_none b.sel_in a.got a.sel_out))
    (side_none Second (selector_due b a) (selector_none a.sel_in b.got b.sel_out))))

lean_none : (first second : State) (a b : Slot) → NoneOfBoth (lean_in first second a b)
lean_none Closed Opened a b = side_none First (open_with a b.got) (open_with_none a b.got)
lean_none Closed Flowing a b = side_none First (open_with a b.got) (open_with_none a b.got)
lean_none Opened Closed a b = side_none Second (open_with b a.got) (open_with_none b a.got)
lean_none Flowing Closed a b = side_none Second (open_with b a.got) (open_with_none b a.got)
lean_none Opened Opened a b = flow_none a b
lean_none Opened Flowing a b = flow_none a b
lean_none Flowing Opened a b = flow_none a b
lean_none Flowing Flowing a b = flow_none a b
lean_none first second a b = tt

pub link_none : (a b : Slot) (closed : Option Side) → closed ≡ None → NoneOfBoth (link_turn a b closed)
link_none a b closed is = subst (λ (o : Option Side). NoneOfBoth (link_turn a b o)) (sym is) (lean_none a.state b.state a b)
