-- What the first slot of a link takes away outweighs what the link sends.
use Rattle.std.proofs.Common.{◌≡◌, ◌≤◌, ◌+◌, ◌*◌, ◌&&◌, ◌⊎◌, Option, Some, None, Bool, true, false, List, [], ◌++◌, inl, inr, refl, sym, subst, arith}
use Rattle.mc_signal.specs.declared.Descriptor.{Descriptor}
use Rattle.mc_signal.specs.declared.Medium.{Medium}
use Rattle.mc_signal.specs.declared.Selector.{Selector}
use Rattle.mc_signal.specs.declared.Signal.{Signal}
use Rattle.mc_signal.specs.declared.Signal.TheVariants.{Open, Oack, Close, Closeack, Describe, Select}
use Rattle.mc_slot.specs.Moves.{answer_signals, is_live, enter_opened, slot_send_all, slot_take}
use Rattle.mc_slot.specs.Tunnel.{Kept}
use Rattle.mc_slot.specs.declared.Slot.{Slot}
use Rattle.mc_slot.specs.declared.State.{State}
use Rattle.mc_slot.specs.declared.State.TheVariants.{Closed, Opening, Opened, Flowing, Closing}
use Rattle.mc_slot_laws.proofs.Steps.{took_kept}
use Rattle.mc_slot_laws.proofs.Weighing.{weigh_one, weigh_times, weigh_list}
use Rattle.mc_link.specs.LinkTurn.{selector_due, lean, link_turn, descriptor_due, sent_by_first, sent_by_second, closed_side}
use Rattle.mc_link.specs.LinkWeights.{stored_link, LinkPays}
use Rattle.mc_link.specs.declared.Side.{Side}
use Rattle.mc_link.specs.declared.Side.TheVariants.{First}
use Rattle.mc_link.proofs.LinkRests.{flowed}
use Rattle.mc_link.proofs.LinkThree.{unanswered, unheard}
use Rattle.mc_link.proofs.Parts.{both, quiet}
use Rattle.mc_link.proofs.Weights.{Rates, weigh_at, total_at, weighed, flowing_passes, opened_passes, chooses_select, Payment, rates_of, own_rates, payment}
use Rattle.mc_slot.specs.EndTurn.{cause_of}

-- the first slot of a link at rest takes a signal, and the link has its turn
pub record Turned (a b middle a_last b_last : Slot) (signal : Signal) (answer : Option Signal) : Type 0 where
  pub a_kept : Kept a
  pub b_kept : Kept b
  pub rest : lean a b ≡ []
  pub goes : slot_take a signal ≡ Some record { answer = answer; after = middle }
  pub a_sends : slot_send_all middle (sent_by_first (link_turn middle b (closed_side (cause_of signal middle.state) First))) ≡ Some a_last
  pub b_sends : slot_send_all b (sent_by_second (link_turn middle b (closed_side (cause_of signal middle.state) First))) ≡ Some b_last

-- the weights before and after, for a slot that a close may have closed
abbrev EnoughBy : Option Side → (one near far : Rates) (a b middle a_last b_last : Slot) → Signal → Option Signal → Type 0
EnoughBy closed one near far a b middle a_last b_last signal answer =
    1 + total_at near (answer_signals answer ++ sent_by_first (link_turn middle b closed)) + total_at far (sent_by_second (link_turn middle b closed))
    + (near.asking * stored_link a_last.state b_last.state + far.asking * stored_link b_last.state a_last.state)
    ≤ weigh_at far signal + weigh_at one signal + (near.asking * stored_link a.state b.state + far.asking * stored_link b.state a.state)

-- and with the slot that the signal closed
abbrev Enough : (one near far : Rates) (a b middle a_last b_last : Slot) → Signal → Option Signal → Type 0
Enough one near far a b middle a_last b_last signal answer = EnoughBy (closed_side (cause_of signal middle.state) First) one near far a b middle a_last b_last signal answer

-- an open is dropped, or it opens a closed or an opening slot
opens : (a middle : Slot) (medium : Medium) (d : Descriptor) (answer : Option Signal) → slot_take a (Open medium d) ≡ Some record { answer = answer; after = middle }
    → (answer ≡ None) × ((middle ≡ a) ⊎ ((middle ≡ enter_opened a d) × ((a.state ≡ Closed) ⊎ (a.state ≡ Opening))))
opens a middle medium d answer goes = grind (arith)

-- where it is dropped nothing is sent
dropped : (one near far : Rates) (a b a_last b_last : Slot) (medium : Medium) (d : Descriptor) → Payment one near far → lean a b ≡ []
    → slot_send_all a (sent_by_first (lean a b)) ≡ Some a_last → slot_send_all b (sent_by_second (lean a b)) ≡ Some b_last
    → Enough one near far a b a a_last b_last (Open medium d) None
dropped one near far a b a_last b_last medium d pays rest a_sends b_sends =
    let a_stays : Some a ≡ Some a_last = rw rest at a_sends in
    let b_stays : Some b ≡ Some b_last = rw rest at b_sends in
    let a_same : a_last ≡ a = cc in
    let b_same : b_last ≡ b = cc in
    rw (a_same, b_same, rest) (omega (arith, pays))

-- the slot is opened, beside one that isn't live: by the other's state
entered_calm : (second : State) (one near far : Rates) (a b a_last b_last : Slot) (medium : Medium) (d : Descriptor)
    → b.state ≡ second → Payment one near far → is_live b.state ≡ false → (a.state ≡ Closed) ⊎ (a.state ≡ Opening)
    → slot_send_all (enter_opened a d) (sent_by_first (lean (enter_opened a d) b)) ≡ Some a_last → slot_send_all b (sent_by_second (lean (enter_opened a d) b)) ≡ Some b_last
    → Enough one near far a b (enter_opened a d) a_last b_last (Open medium d) None
entered_calm Closed one near far a b a_last b_last medium d is pays calm was a_sends b_sends = grind (arith)
entered_calm Opening one near far a b a_last b_last medium d is pays calm was a_sends b_sends = grind (arith)
entered_calm Opened one near far a b a_last b_last medium d is pays calm was a_sends b_sends = absurd (cc)
entered_calm Flowing one near far a b a_last b_last medium d is pays calm was a_sends b_sends = absurd (cc)
entered_calm Closing one near far a b a_last b_last medium d is pays calm was a_sends b_sends = grind (arith)

-- an oack, beside a slot that isn't live: nothing is sent but an open
oack_calm : (one near far : Rates) (a b middle a_last b_last : Slot) (d : Descriptor) (answer : Option Signal)
    → Payment one near far → is_live middle.state && is_live b.state ≡ false → Turned a b middle a_last b_last (Oack d) answer
    → Enough one near far a b middle a_last b_last (Oack d) answer
oack_calm one near far a b middle a_last b_last d answer pays calm turned = grind (arith)

-- a close is answered, and passed on to the other slot
close_calm : (one near far : Rates) (a b middle a_last b_last : Slot) (answer : Option Signal)
    → Payment one near far → Turned a b middle a_last b_last Close answer
    → Enough one near far a b middle a_last b_last Close answer
close_calm one near far a b middle a_last b_last answer pays turned = grind (arith)

-- a closeack makes the slot closed, and it sends the open that was stored, if one was
closeack_calm : (one near far : Rates) (a b middle a_last b_last : Slot) (answer : Option Signal)
    → Payment one near far → Turned a b middle a_last b_last Closeack answer
    → Enough one near far a b middle a_last b_last Closeack answer
closeack_calm one near far a b middle a_last b_last answer pays turned = grind (arith)

-- a describe, beside a slot that isn't live: nothing is sent
describe_calm : (one near far : Rates) (a b middle a_last b_last : Slot) (d : Descriptor) (answer : Option Signal)
    → Payment one near far → is_live middle.state && is_live b.state ≡ false → Turned a b middle a_last b_last (Describe d) answer
    → Enough one near far a b middle a_last b_last (Describe d) answer
describe_calm one near far a b middle a_last b_last d answer pays calm turned = grind (arith)

-- nor for a select
select_calm : (one near far : Rates) (a b middle a_last b_last : Slot) (s : Selector) (answer : Option Signal)
    → Payment one near far → is_live middle.state && is_live b.state ≡ false → Turned a b middle a_last b_last (Select s) answer
    → Enough one near far a b middle a_last b_last (Select s) answer
select_calm one near far a b middle a_last b_last s answer pays calm turned = grind (arith)

-- where both are live after the taking, the four parts are what counts
flow_pays : (one near far : Rates) (a b middle a_last b_last : Slot) (signal : Signal)
    → Kept middle → Kept b → is_live middle.state ≡ true → is_live b.state ≡ true
    → slot_send_all middle (sent_by_first (lean middle b)) ≡ Some a_last → slot_send_all b (sent_by_second (lean middle b)) ≡ Some b_last
    → 1 + (total_at near (descriptor_due middle b) + total_at near (selector_due middle b)) + (total_at far (descriptor_due b middle) + total_at far (selector_due b middle))
    ≤ weigh_at far signal + weigh_at one signal
    → EnoughBy None one near far a b middle a_last b_last signal None
flow_pays one near far a b middle a_last b_last signal m_kept b_kept m_live b_live a_sends b_sends enough =
    let flows = flowed middle b a_last b_last m_kept b_kept m_live b_live a_sends b_sends in
    let parts = weighed middle b m_live b_live in
    let none_near : near.asking * stored_link a_last.state b_last.state ≡ 0 = rw flows.first (omega arith) in
    let none_far : far.asking * stored_link b_last.state a_last.state ≡ 0 = rw flows.second (omega arith) in
    omega (arith, enough, none_near, none_far, parts.first near, parts.second far)

-- nothing weighs nothing
weighs_none : (rates : Rates) (signals : List Signal) → signals ≡ [] → total_at rates signals ≡ 0
weighs_none rates signals none = rw none refl

-- the slot is opened, beside a live one: by the other's state
entered_live : (second : State) (one near far : Rates) (a b a_last b_last : Slot) (medium : Medium) (d : Descriptor)
    → b.state ≡ second → Payment one near far → is_live b.state ≡ true → Kept b
    → slot_send_all (enter_opened a d) (sent_by_first (lean (enter_opened a d) b)) ≡ Some a_last → slot_send_all b (sent_by_second (lean (enter_opened a d) b)) ≡ Some b_last
    → Enough one near far a b (enter_opened a d) a_last b_last (Open medium d) None
entered_live Closed one near far a b a_last b_last medium d is pays live kept a_sends b_sends = absurd (cc)
entered_live Opening one near far a b a_last b_last medium d is pays live kept a_sends b_sends = absurd (cc)
entered_live Closing one near far a b a_last b_last medium d is pays live kept a_sends b_sends = absurd (cc)
entered_live Opened one near far a b a_last b_last medium d is pays live kept a_sends b_sends =
    let none = weighs_none near (selector_due (enter_opened a d) b) (unheard (enter_opened a d) b (grind (arith))) in
    flow_pays one near far a b (enter_opened a d) a_last b_last (Open medium d) (refl, refl, refl, refl) kept refl live a_sends b_sends
    (omega (arith, pays, opened_passes near (enter_opened a d) b refl, opened_passes far b (enter_opened a d) is, none))
entered_live Flowing one near far a b a_last b_last medium d is pays live kept a_sends b_sends =
    flow_pays one near far a b (enter_opened a d) a_last b_last (Open medium d) (refl, refl, refl, refl) kept refl live a_sends b_sends
    (omega (arith, pays, opened_passes near (enter_opened a d) b refl, chooses_select near (enter_opened a d) b, flowing_passes far b (enter_opened a d) is))

-- by whether the other is live
entered : (live : Bool) (one near far : Rates) (a b a_last b_last : Slot) (medium : Medium) (d : Descriptor)
    → is_live b.state ≡ live → Payment one near far → Kept b → (a.state ≡ Closed) ⊎ (a.state ≡ Opening)
    → slot_send_all (enter_opened a d) (sent_by_first (lean (enter_opened a d) b)) ≡ Some a_last → slot_send_all b (sent_by_second (lean (enter_opened a d) b)) ≡ Some b_last
    → Enough one near far a b (enter_opened a d) a_last b_last (Open medium d) None
entered true one near far a b a_last b_last medium d is pays kept was a_sends b_sends = entered_live b.state one near far a b a_last b_last medium d refl pays is kept a_sends b_sends
entered false one near far a b a_last b_last medium d is pays kept was a_sends b_sends = entered_calm b.state one near far a b a_last b_last medium d refl pays is was a_sends b_sends

-- by what the open did
open_by : (one near far : Rates) (a b middle a_last b_last : Slot) (medium : Medium) (d : Descriptor)
    → Payment one near far → Kept b → lean a b ≡ []
    → (middle ≡ a) ⊎ ((middle ≡ enter_opened a d) × ((a.state ≡ Closed) ⊎ (a.state ≡ Opening)))
    → slot_send_all middle (sent_by_first (lean middle b)) ≡ Some a_last → slot_send_all b (sent_by_second (lean middle b)) ≡ Some b_last
    → Enough one near far a b middle a_last b_last (Open medium d) None
open_by one near far a b middle a_last b_last medium d pays kept rest (inl same) =
    subst (λ (t : Slot). slot_send_all t (sent_by_first (lean t b)) ≡ Some a_last → slot_send_all b (sent_by_second (lean t b)) ≡ Some b_last
    → Enough one near far a b t a_last b_last (Open medium d) None) (sym same)
    (dropped one near far a b a_last b_last medium d pays rest)
open_by one near far a b middle a_last b_last medium d pays kept rest (inr into) =
    subst (λ (t : Slot). slot_send_all t (sent_by_first (lean t b)) ≡ Some a_last → slot_send_all b (sent_by_second (lean t b)) ≡ Some b_last
    → Enough one near far a b t a_last b_last (Open medium d) None) (sym into.0)
    (entered (is_live b.state) one near far a b a_last b_last medium d refl pays kept into.1)

-- an open, whatever it did
open_pays : (one near far : Rates) (a b middle a_last b_last : Slot) (medium : Medium) (d : Descriptor) (answer : Option Signal)
    → Payment one near far → Turned a b middle a_last b_last (Open medium d) answer → Enough one near far a b middle a_last b_last (Open medium d) answer
open_pays one near far a b middle a_last b_last medium d answer pays turned =
    let opened = opens a middle medium d answer turned.goes in
    subst (λ (o : Option Signal). Enough one near far a b middle a_last b_last (Open medium d) o) (sym opened.0)
    (open_by one near far a b middle a_last b_last medium d pays turned.b_kept turned.rest opened.1 turned.a_sends turned.b_sends)

-- an oack makes the slot flow: by the state of the other, which is live
oack_flows : (second : State) (one near far : Rates) (a b middle a_last b_last : Slot) (d : Descriptor)
    → b.state ≡ second → Payment one near far → is_live middle.state ≡ true → is_live b.state ≡ true → Turned a b middle a_last b_last (Oack d) None
    → Enough one near far a b middle a_last b_last (Oack d) None
oack_flows Closed one near far a b middle a_last b_last d is pays m_live b_live turned = absurd (cc)
oack_flows Opening one near far a b middle a_last b_last d is pays m_live b_live turned = absurd (cc)
oack_flows Closing one near far a b middle a_last b_last d is pays m_live b_live turned = absurd (cc)
oack_flows Opened one near far a b middle a_last b_last d is pays m_live b_live turned =
    let goes : slot_take a (Oack d) ≡ Some record { answer = None; after = middle } = turned.goes in
    let a_kept : Kept a = turned.a_kept in
    let b_kept : Kept b = turned.b_kept in
    let flows : middle.state ≡ Flowing = grind (arith) in
    let near_none = weighs_none near (selector_due middle b) (unheard middle b (grind (arith))) in
    let far_none = weighs_none far (selector_due b middle) (unheard b middle (grind (arith))) in
    flow_pays one near far a b middle a_last b_last (Oack d) (took_kept a (Oack d) _ goes a_kept) b_kept m_live b_live turned.a_sends turned.b_sends
    (omega (arith, pays, flowing_passes near middle b flows, opened_passes far b middle is, near_none, far_none))
oack_flows Flowing one near far a b middle a_last b_last d is pays m_live b_live turned =
    let goes : slot_take a (Oack d) ≡ Some record { answer = None; after = middle } = turned.goes in
    let a_kept : Kept a = turned.a_kept in
    let b_kept : Kept b = turned.b_kept in
    let flows : middle.state ≡ Flowing = grind (arith) in
    let far_none = weighs_none far (selector_due b middle) (unheard b middle (grind (arith))) in
    flow_pays one near far a b middle a_last b_last (Oack d) (took_kept a (Oack d) _ goes a_kept) b_kept m_live b_live turned.a_sends turned.b_sends
    (omega (arith, pays, flowing_passes near middle b flows, chooses_select near middle b, flowing_passes far b middle is, far_none))

-- a live slot that passes nothing on to a live one has answered it
has_answered : (a b : Slot) → Kept a → is_live a.state ≡ true → is_live b.state ≡ true → descriptor_due b a ≡ [] → b.state ≡ Flowing
has_answered a b kept a_live b_live none = grind (arith)

-- a describe is passed on as a describe at most, and the other's selector anew at most
describe_flows : (one near far : Rates) (a b middle a_last b_last : Slot) (d : Descriptor)
    → Payment one near far → is_live middle.state ≡ true → is_live b.state ≡ true → Turned a b middle a_last b_last (Describe d) None
    → Enough one near far a b middle a_last b_last (Describe d) None
describe_flows one near far a b middle a_last b_last d pays m_live b_live turned =
    let goes : slot_take a (Describe d) ≡ Some record { answer = None; after = middle } = turned.goes in
    let a_kept : Kept a = turned.a_kept in
    let a_flows : a.state ≡ Flowing = grind (arith) in
    let a_live : is_live a.state ≡ true = rw a_flows refl in
    let still = quiet a b a_live b_live turned.rest in
    let b_flows : b.state ≡ Flowing = has_answered a b a_kept a_live b_live still.second_passes in
    let state : middle.state ≡ a.state = grind (arith) in
    let sent : middle.sent ≡ a.sent = grind (arith) in
    let sel_in : middle.sel_in ≡ a.sel_in = grind (arith) in
    let near_none = weighs_none near (descriptor_due middle b) (rw (state, sent) still.first_passes) in
    let far_none = weighs_none far (selector_due b middle) (rw sel_in still.second_chooses) in
    flow_pays one near far a b middle a_last b_last (Describe d) (took_kept a (Describe d) _ goes a_kept) turned.b_kept m_live b_live turned.a_sends turned.b_sends
    (omega (arith, pays, chooses_select near middle b, flowing_passes far b middle b_flows, near_none, far_none))

-- a select is passed on as a select at most
select_flows : (one near far : Rates) (a b middle a_last b_last : Slot) (s : Selector)
    → Payment one near far → is_live middle.state ≡ true → is_live b.state ≡ true → Turned a b middle a_last b_last (Select s) None
    → Enough one near far a b middle a_last b_last (Select s) None
select_flows one near far a b middle a_last b_last s pays m_live b_live turned =
    let goes : slot_take a (Select s) ≡ Some record { answer = None; after = middle } = turned.goes in
    let a_kept : Kept a = turned.a_kept in
    let a_flows : a.state ≡ Flowing = grind (arith) in
    let a_live : is_live a.state ≡ true = rw a_flows refl in
    let still = quiet a b a_live b_live turned.rest in
    let state : middle.state ≡ a.state = grind (arith) in
    let sent : middle.sent ≡ a.sent = grind (arith) in
    let got : middle.got ≡ a.got = grind (arith) in
    let sel_out : middle.sel_out ≡ a.sel_out = grind (arith) in
    let near_passes = weighs_none near (descriptor_due middle b) (rw (state, sent) still.first_passes) in
    let near_chooses = weighs_none near (selector_due middle b) (rw (got, sel_out) still.first_chooses) in
    let far_passes = weighs_none far (descriptor_due b middle) (rw got still.second_passes) in
    flow_pays one near far a b middle a_last b_last (Select s) (took_kept a (Select s) _ goes a_kept) turned.b_kept m_live b_live turned.a_sends turned.b_sends
    (omega (arith, pays, near_passes, near_chooses, far_passes, chooses_select far b middle))

-- both live after the taking: by the signal
flows_pay : (signal : Signal) (one near far : Rates) (a b middle a_last b_last : Slot)
    → Payment one near far → is_live middle.state ≡ true → is_live b.state ≡ true → Turned a b middle a_last b_last signal None
    → Enough one near far a b middle a_last b_last signal None
flows_pay (Open medium d) one near far a b middle a_last b_last pays m_live b_live turned = open_pays one near far a b middle a_last b_last medium d None pays turned
flows_pay (Oack d) one near far a b middle a_last b_last pays m_live b_live turned = oack_flows b.state one near far a b middle a_last b_last d refl pays m_live b_live turned
flows_pay Close one near far a b middle a_last b_last pays m_live b_live turned = close_calm one near far a b middle a_last b_last None pays turned
flows_pay Closeack one near far a b middle a_last b_last pays m_live b_live turned = closeack_calm one near far a b middle a_last b_last None pays turned
flows_pay (Describe d) one near far a b middle a_last b_last pays m_live b_live turned = describe_flows one near far a b middle a_last b_last d pays m_live b_live turned
flows_pay (Select s) one near far a b middle a_last b_last pays m_live b_live turned = select_flows one near far a b middle a_last b_last s pays m_live b_live turned

-- one of the two not live after it: by the signal
calm_pays : (signal : Signal) (one near far : Rates) (a b middle a_last b_last : Slot) (answer : Option Signal)
    → Payment one near far → is_live middle.state && is_live b.state ≡ false → Turned a b middle a_last b_last signal answer
    → Enough one near far a b middle a_last b_last signal answer
calm_pays (Open medium d) one near far a b middle a_last b_last answer pays calm turned = open_pays one near far a b middle a_last b_last medium d answer pays turned
calm_pays (Oack d) one near far a b middle a_last b_last answer pays calm turned = oack_calm one near far a b middle a_last b_last d answer pays calm turned
calm_pays Close one near far a b middle a_last b_last answer pays calm turned = close_calm one near far a b middle a_last b_last answer pays turned
calm_pays Closeack one near far a b middle a_last b_last answer pays calm turned = closeack_calm one near far a b middle a_last b_last answer pays turned
calm_pays (Describe d) one near far a b middle a_last b_last answer pays calm turned = describe_calm one near far a b middle a_last b_last d answer pays calm turned
calm_pays (Select s) one near far a b middle a_last b_last answer pays calm turned = select_calm one near far a b middle a_last b_last s answer pays calm turned

-- by whether both are live after the taking
pays_by : (live : Bool) (one near far : Rates) (a b middle a_last b_last : Slot) (signal : Signal) (answer : Option Signal)
    → is_live middle.state && is_live b.state ≡ live → Payment one near far → Turned a b middle a_last b_last signal answer
    → Enough one near far a b middle a_last b_last signal answer
pays_by false one near far a b middle a_last b_last signal answer is pays turned = calm_pays signal one near far a b middle a_last b_last answer pays is turned
pays_by true one near far a b middle a_last b_last signal answer is pays turned =
    let live = both (is_live middle.state) (is_live b.state) is in
    let silent = unanswered a middle signal answer turned.goes live.0 in
    subst (λ (o : Option Signal). Turned a b middle a_last b_last signal o → Enough one near far a b middle a_last b_last signal o) (sym silent.0)
    (flows_pay signal one near far a b middle a_last b_last pays live.0 live.1) turned

-- with the products of n, x and y put in
pub link_pays : LinkPays
link_pays a b middle a_last b_last signal answer n x y a_kept b_kept rest goes a_sends b_sends x_some y_some less =
    let turned : Turned a b middle a_last b_last signal answer =
    record { a_kept = a_kept; b_kept = b_kept; rest = rest; goes = goes; a_sends = a_sends; b_sends = b_sends } in
    let linear = pays_by (is_live middle.state && is_live b.state) (own_rates n) (rates_of n y) (rates_of n x) a b middle a_last b_last signal answer refl (payment n x y x_some y_some less) turned in
    let due = link_turn middle b (closed_side (cause_of signal middle.state) First) in
    omega (arith, linear, weigh_one n signal, weigh_times n x signal, weigh_list n y (answer_signals answer ++ sent_by_first due), weigh_list n x (sent_by_second due))
