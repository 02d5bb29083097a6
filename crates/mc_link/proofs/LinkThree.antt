-- Where the first slot of a link at rest takes a signal, at most three signals follow.
use Rattle.std.proofs.Common.{◌≡◌, ◌≤◌, ◌+◌, ◌&&◌, ◌⊎◌, Option, Some, None, Bool, true, false, List, [], inl, inr, length, refl, ap, sym, subst, ◌∙◌, arith}
use Rattle.std.proofs.lemmas.List.{length-append}
use Rattle.mc_signal.specs.declared.Signal.{Signal}
use Rattle.mc_signal.specs.declared.Signal.TheVariants.{Open, Oack, Close, Closeack, Describe, Select}
use Rattle.mc_slot.specs.Moves.{answer_signals, is_live, slot_take}
use Rattle.mc_slot.specs.Tunnel.{Kept}
use Rattle.mc_slot.specs.declared.Slot.{Slot}
use Rattle.mc_link.specs.LinkLaws.{LinkSendsThree}
use Rattle.mc_link.specs.LinkTurn.{selector_due, lean, link_turn, descriptor_due, sent_by_first, sent_by_second, closed_side}
use Rattle.mc_link.specs.declared.Side.{Side}
use Rattle.mc_link.specs.declared.Side.TheVariants.{First}
use Rattle.mc_link.proofs.Mirror.{sides_length}
use Rattle.mc_link.proofs.Parts.{both, live_both, quiet}
use Rattle.mc_link.proofs.Sides.{first_of_four, second_of_four}
use Rattle.mc_slot.specs.EndTurn.{cause_of}

-- an answer is one signal at most
answers_one : (answer : Option Signal) → length (answer_signals answer) ≤ 1
answers_one answer = grind (arith)

-- a slot passes on one descriptor at most
pub passes_one : (a b : Slot) → length (descriptor_due a b) ≤ 1
passes_one a b = grind (arith)

-- and one selector at most
pub chooses_one : (a b : Slot) → length (selector_due a b) ≤ 1
chooses_one a b = grind (arith)

-- two live slots send four parts
live_length : (a b : Slot) → is_live a.state ≡ true → is_live b.state ≡ true
    → length (lean a b) ≡ (length (descriptor_due a b) + length (selector_due a b)) + (length (descriptor_due b a) + length (selector_due b a))
live_length a b a_live b_live =
    let same = live_both a b a_live b_live in
    let first = ap (λ (l : List (Side × Signal)). sent_by_first l) same ∙ first_of_four (descriptor_due a b) (descriptor_due b a) (selector_due a b) (selector_due b a) in
    let second = ap (λ (l : List (Side × Signal)). sent_by_second l) same ∙ second_of_four (descriptor_due a b) (descriptor_due b a) (selector_due a b) (selector_due b a) in
    let first_length : length (sent_by_first (lean a b)) ≡ length (descriptor_due a b) + length (selector_due a b) =
    ap (λ (l : List Signal). length l) first ∙ length-append (descriptor_due a b) (selector_due a b) in
    let second_length : length (sent_by_second (lean a b)) ≡ length (descriptor_due b a) + length (selector_due b a) =
    ap (λ (l : List Signal). length l) second ∙ length-append (descriptor_due b a) (selector_due b a) in
    omega (arith, first_length, second_length, sides_length (lean a b))

-- a slot that is live after a taking answers nothing, and no close made it closed
pub unanswered : (a after : Slot) (signal : Signal) (answer : Option Signal) → slot_take a signal ≡ Some record { answer = answer; after = after } → is_live after.state ≡ true
    → (answer ≡ None) × (closed_side (cause_of signal after.state) First ≡ None)
unanswered a after signal answer goes live = grind (arith)

-- where a slot has got no selector, none is passed on
pub unheard : (b after : Slot) → after.sel_in ≡ None → selector_due b after ≡ []
unheard b after none = rw none refl

-- of the two selectors one isn't passed on anew
one_stays : (signal : Signal) (a b after : Slot) (answer : Option Signal) → Kept a → lean a b ≡ [] → is_live b.state ≡ true → is_live after.state ≡ true
    → slot_take a signal ≡ Some record { answer = answer; after = after } → (selector_due after b ≡ []) ⊎ (selector_due b after ≡ [])
one_stays (Open medium d) a b after answer kept rest b_live live goes = inr (unheard b after (grind (arith)))
one_stays (Oack d) a b after answer kept rest b_live live goes = inr (unheard b after (grind (arith)))
one_stays Close a b after answer kept rest b_live live goes = absurd (grind (arith))
one_stays Closeack a b after answer kept rest b_live live goes = absurd (grind (arith))
one_stays (Describe d) a b after answer kept rest b_live live goes =
    let was_live : is_live a.state ≡ true = grind (arith) in
    let same : after.sel_in ≡ a.sel_in = grind (arith) in
    inr (rw same (quiet a b was_live b_live rest).second_chooses)
one_stays (Select s) a b after answer kept rest b_live live goes =
    let was_live : is_live a.state ≡ true = grind (arith) in
    let same_got : after.got ≡ a.got = grind (arith) in
    let same_out : after.sel_out ≡ a.sel_out = grind (arith) in
    inl (rw (same_got, same_out) (quiet a b was_live b_live rest).first_chooses)

-- so at most three of the four parts are sent
three_parts : (a b : Slot) → is_live a.state ≡ true → is_live b.state ≡ true → (selector_due a b ≡ []) ⊎ (selector_due b a ≡ []) → length (lean a b) ≤ 3
three_parts a b a_live b_live (inl none) =
    let empty : length (selector_due a b) ≡ 0 = ap (λ (l : List Signal). length l) none in
    omega (arith, empty, live_length a b a_live b_live, passes_one a b, passes_one b a, chooses_one b a)
three_parts a b a_live b_live (inr none) =
    let empty : length (selector_due b a) ≡ 0 = ap (λ (l : List Signal). length l) none in
    omega (arith, empty, live_length a b a_live b_live, passes_one a b, passes_one b a, chooses_one a b)

-- where one of the two isn't live, one signal at most is sent
pub calm_one : (closed : Option Side) (a b : Slot) → is_live a.state && is_live b.state ≡ false → length (link_turn a b closed) ≤ 1
calm_one closed a b calm = grind (arith)

-- how many signals follow
abbrev Three : Option Side → Slot → Slot → Option Signal → Type 0
Three closed after b answer = length (answer_signals answer) + length (link_turn after b closed) ≤ 3

-- by whether both are live after the taking
three_by : (live : Bool) (a b after : Slot) (signal : Signal) (answer : Option Signal) → is_live after.state && is_live b.state ≡ live
    → Kept a → lean a b ≡ [] → slot_take a signal ≡ Some record { answer = answer; after = after } → Three (closed_side (cause_of signal after.state) First) after b answer
three_by false a b after signal answer is kept rest goes =
    omega (arith, answers_one answer, calm_one (closed_side (cause_of signal after.state) First) after b is)
three_by true a b after signal answer is kept rest goes =
    let live = both (is_live after.state) (is_live b.state) is in
    let silent = unanswered a after signal answer goes live.0 in
    let few : length (lean after b) ≤ 3 = three_parts after b live.0 live.1 (one_stays signal a b after answer kept rest live.1 live.0 goes) in
    let plain : Three None after b None = omega (arith, few) in
    subst (λ (o : Option Signal). Three (closed_side (cause_of signal after.state) First) after b o) (sym silent.0)
    (subst (λ (closed : Option Side). Three closed after b None) (sym silent.1) plain)

-- whatever the other slot is
pub link_sends_three : LinkSendsThree
link_sends_three a b after signal answer kept rest goes = three_by (is_live after.state && is_live b.state) a b after signal answer refl kept rest goes
