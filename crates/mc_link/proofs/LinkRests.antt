-- The turn of a link, made twice, sends nothing the second time.
use Rattle.std.proofs.Common.{◌≡◌, ◌&&◌, Option, Some, None, Bool, true, false, if◌then◌else◌, List, [], ◌∷◌, ◌++◌, refl, ap, subst, ◌∙◌, arith}
use Rattle.std.specs.Option.{option_eq}
use Rattle.mc_signal.specs.Same.{is_same_descriptor, is_same_selector}
use Rattle.mc_signal.specs.declared.Descriptor.{Descriptor}
use Rattle.mc_signal.specs.declared.Selector.{Selector}
use Rattle.mc_signal.specs.declared.Signal.{Signal}
use Rattle.mc_signal.specs.declared.Signal.TheVariants.{Close}
use Rattle.mc_signal.proofs.Equal.{descriptor_refl, selector_refl}
use Rattle.mc_slot.specs.Moves.{is_live, slot_send_all}
use Rattle.mc_slot.specs.Tunnel.{Kept}
use Rattle.mc_slot.specs.declared.Slot.{Slot}
use Rattle.mc_slot.specs.declared.State.TheVariants.{Flowing}
use Rattle.mc_link.specs.LinkLaws.{LinkRestsAfterTurn}
use Rattle.mc_link.specs.LinkTurn.{can_close, selector_due, pass_selector, flow, lean, descriptor_due, pass_descriptor, sent_by_first, sent_by_second}
use Rattle.mc_link.specs.declared.Side.TheVariants.{First, Second}
use Rattle.mc_link.proofs.Parts.{both, live_both, live_got, split, empty_four}
use Rattle.mc_link.proofs.Sides.{first_of_four, second_of_four}
use Rattle.mc_signal.specs.Choice.{answers}

-- a slot that has passed on the other's descriptor
pub record Passed (slot other next : Slot) : Type 0 where
  pub flows : next.state ≡ Flowing
  pub got : next.got ≡ slot.got
  pub sel_in : next.sel_in ≡ slot.sel_in
  pub sel_out : next.sel_out ≡ slot.sel_out
  pub quiet : pass_descriptor next.state next.sent other.got ≡ []

-- by whether that is what it sent last
passes_by : (same : Bool) (d : Descriptor) (slot other next : Slot) → is_live slot.state ≡ true → other.got ≡ Some d → option_eq is_same_descriptor slot.sent (Some d) ≡ same
    → slot_send_all slot (descriptor_due slot other) ≡ Some next → Passed slot other next
passes_by true d slot other next live had is goes =
    record { flows = grind (arith); got = grind (arith); sel_in = grind (arith); sel_out = grind (arith); quiet = grind (arith, descriptor_refl) }
passes_by false d slot other next live had is goes =
    record { flows = grind (arith); got = grind (arith); sel_in = grind (arith); sel_out = grind (arith); quiet = grind (arith, descriptor_refl) }

-- a live slot passes the other's descriptor on
pub passes : (d : Descriptor) (slot other next : Slot) → is_live slot.state ≡ true → other.got ≡ Some d
    → slot_send_all slot (descriptor_due slot other) ≡ Some next → Passed slot other next
passes d slot other next live had goes = passes_by (option_eq is_same_descriptor slot.sent (Some d)) d slot other next live had refl goes

-- a slot that has passed on the other's selector
pub record Chose (slot : Slot) (heard : Option Selector) (next : Slot) : Type 0 where
  pub flows : next.state ≡ Flowing
  pub got : next.got ≡ slot.got
  pub sel_in : next.sel_in ≡ slot.sel_in
  pub sent : next.sent ≡ slot.sent
  pub quiet : pass_selector heard next.got next.sel_out ≡ []

-- by whether it answers what the slot got, and whether it is what it sent last
chooses_by : (fits same : Bool) (s : Selector) (d : Descriptor) (slot next : Slot) → slot.state ≡ Flowing → slot.got ≡ Some d
    → answers s d ≡ fits → option_eq is_same_selector slot.sel_out (Some s) ≡ same
    → slot_send_all slot (pass_selector (Some s) slot.got slot.sel_out) ≡ Some next → Chose slot (Some s) next
chooses_by true true s d slot next is had fit last goes =
    record { flows = grind (arith); got = grind (arith); sel_in = grind (arith); sent = grind (arith); quiet = grind (arith, selector_refl) }
chooses_by true false s d slot next is had fit last goes =
    record { flows = grind (arith); got = grind (arith); sel_in = grind (arith); sent = grind (arith); quiet = grind (arith, selector_refl) }
chooses_by false same s d slot next is had fit last goes =
    record { flows = grind (arith); got = grind (arith); sel_in = grind (arith); sent = grind (arith); quiet = grind (arith, selector_refl) }

-- a flowing slot passes the other's selector on, if there is one
pub chooses : (heard : Option Selector) (d : Descriptor) (slot next : Slot) → slot.state ≡ Flowing → slot.got ≡ Some d
    → slot_send_all slot (pass_selector heard slot.got slot.sel_out) ≡ Some next → Chose slot heard next
chooses None d slot next is had goes = record { flows = grind (arith); got = grind (arith); sel_in = grind (arith); sent = grind (arith); quiet = refl }
chooses (Some s) d slot next is had goes = chooses_by (answers s d) (option_eq is_same_selector slot.sel_out (Some s)) s d slot next is had refl refl goes

-- two slots that have passed all on are at rest
rest_after : (d f : Descriptor) (a b a_next b_next a_last b_last : Slot) → a.got ≡ Some d → b.got ≡ Some f
    → Passed a b a_next → Passed b a b_next → Chose a_next b.sel_in a_last → Chose b_next a.sel_in b_last → lean a_last b_last ≡ []
rest_after d f a b a_next b_next a_last b_last a_had b_had a_passed b_passed a_chose b_chose =
    let one : pass_descriptor a_next.state a_next.sent b.got ≡ [] = a_passed.quiet in
    let two : pass_descriptor b_next.state b_next.sent a.got ≡ [] = b_passed.quiet in
    let three : pass_selector b.sel_in a_last.got a_last.sel_out ≡ [] = a_chose.quiet in
    let four : pass_selector a.sel_in b_last.got b_last.sel_out ≡ [] = b_chose.quiet in
    let first_passes : descriptor_due a_last b_last ≡ [] = grind (arith) in
    let second_passes : descriptor_due b_last a_last ≡ [] = grind (arith) in
    let first_chooses : selector_due a_last b_last ≡ [] = grind (arith) in
    let second_chooses : selector_due b_last a_last ≡ [] = grind (arith) in
    let flows : lean a_last b_last ≡ flow a_last b_last = rw (a_chose.flows, b_chose.flows) refl in
    flows ∙ empty_four (descriptor_due a_last b_last) (descriptor_due b_last a_last) (selector_due a_last b_last) (selector_due b_last a_last) first_passes second_passes first_chooses second_chooses

-- which selector a slot passes on, once the descriptors are passed on
passed_choosing : (slot other next : Slot) → Passed slot other next → selector_due slot other ≡ pass_selector other.sel_in next.got next.sel_out
passed_choosing slot other next passed = rw (passed.got, passed.sel_out) refl

-- what two live slots come to
pub record Flowed (a_last b_last : Slot) : Type 0 where
  pub first : a_last.state ≡ Flowing
  pub second : b_last.state ≡ Flowing
  pub rests : lean a_last b_last ≡ []

-- by the slots between
flowed_by : (d f : Descriptor) (a b a_next b_next a_last b_last : Slot) → is_live a.state ≡ true → is_live b.state ≡ true → a.got ≡ Some d → b.got ≡ Some f
    → slot_send_all a (descriptor_due a b) ≡ Some a_next → slot_send_all a_next (selector_due a b) ≡ Some a_last
    → slot_send_all b (descriptor_due b a) ≡ Some b_next → slot_send_all b_next (selector_due b a) ≡ Some b_last
    → Flowed a_last b_last
flowed_by d f a b a_next b_next a_last b_last a_live b_live a_had b_had a_one a_two b_one b_two =
    let a_passed = passes f a b a_next a_live b_had a_one in
    let b_passed = passes d b a b_next b_live a_had b_one in
    let a_sends : slot_send_all a_next (pass_selector b.sel_in a_next.got a_next.sel_out) ≡ Some a_last =
    subst (λ (l : List Signal). slot_send_all a_next l ≡ Some a_last) (passed_choosing a b a_next a_passed) a_two in
    let b_sends : slot_send_all b_next (pass_selector a.sel_in b_next.got b_next.sel_out) ≡ Some b_last =
    subst (λ (l : List Signal). slot_send_all b_next l ≡ Some b_last) (passed_choosing b a b_next b_passed) b_two in
    let a_chose = chooses b.sel_in d a_next a_last a_passed.flows (a_passed.got ∙ a_had) a_sends in
    let b_chose = chooses a.sel_in f b_next b_last b_passed.flows (b_passed.got ∙ b_had) b_sends in
    record { first = a_chose.flows; second = b_chose.flows; rests = rest_after d f a b a_next b_next a_last b_last a_had b_had a_passed b_passed a_chose b_chose }

-- two live slots, after what they send
pub flowed : (a b a_last b_last : Slot) → Kept a → Kept b → is_live a.state ≡ true → is_live b.state ≡ true
    → slot_send_all a (sent_by_first (lean a b)) ≡ Some a_last → slot_send_all b (sent_by_second (lean a b)) ≡ Some b_last → Flowed a_last b_last
flowed a b a_last b_last a_kept b_kept a_live b_live a_goes b_goes =
    let a_got = live_got a a.got refl a_kept a_live in
    let b_got = live_got b b.got refl b_kept b_live in
    let same = live_both a b a_live b_live in
    let a_own : sent_by_first (lean a b) ≡ descriptor_due a b ++ selector_due a b =
    ap sent_by_first same ∙ first_of_four (descriptor_due a b) (descriptor_due b a) (selector_due a b) (selector_due b a) in
    let b_own : sent_by_second (lean a b) ≡ descriptor_due b a ++ selector_due b a =
    ap sent_by_second same ∙ second_of_four (descriptor_due a b) (descriptor_due b a) (selector_due a b) (selector_due b a) in
    let a_split = split a (descriptor_due a b) (selector_due a b) a_last (subst (λ (l : List Signal). slot_send_all a l ≡ Some a_last) a_own a_goes) in
    let b_split = split b (descriptor_due b a) (selector_due b a) b_last (subst (λ (l : List Signal). slot_send_all b l ≡ Some b_last) b_own b_goes) in
    flowed_by a_got.0 b_got.0 a b a_split.middle b_split.middle a_last b_last a_live b_live a_got.1 b_got.1 a_split.one a_split.two b_split.one b_split.two

-- where one of them isn't live, an open at most is sent
calm_rests : (a b a_last b_last : Slot) → Kept a → Kept b → is_live a.state && is_live b.state ≡ false
    → slot_send_all a (sent_by_first (lean a b)) ≡ Some a_last → slot_send_all b (sent_by_second (lean a b)) ≡ Some b_last → lean a_last b_last ≡ []
calm_rests a b a_last b_last a_kept b_kept calm a_goes b_goes = grind (arith)

-- by whether both are live
rests_by : (live : Bool) (a b a_last b_last : Slot) → is_live a.state && is_live b.state ≡ live → Kept a → Kept b
    → slot_send_all a (sent_by_first (lean a b)) ≡ Some a_last → slot_send_all b (sent_by_second (lean a b)) ≡ Some b_last → lean a_last b_last ≡ []
rests_by false a b a_last b_last is a_kept b_kept a_goes b_goes = calm_rests a b a_last b_last a_kept b_kept is a_goes b_goes
rests_by true a b a_last b_last is a_kept b_kept a_goes b_goes =
    let live = both (is_live a.state) (is_live b.state) is in
    (flowed a b a_last b_last a_kept b_kept live.0 live.1 a_goes b_goes).rests

-- a turn without a close
lean_rests : (a b a_last b_last : Slot) → Kept a → Kept b
    → slot_send_all a (sent_by_first (lean a b)) ≡ Some a_last → slot_send_all b (sent_by_second (lean a b)) ≡ Some b_last → lean a_last b_last ≡ []
lean_rests a b a_last b_last a_kept b_kept a_goes b_goes = rests_by (is_live a.state && is_live b.state) a b a_last b_last refl a_kept b_kept a_goes b_goes

-- a close of the first slot that is passed on, or can't be
first_closes : (closes : Bool) (a b a_last b_last : Slot) → can_close b.state ≡ closes → Kept a → Kept b
    → slot_send_all a (sent_by_first (if closes then (Second, Close) ∷ [] else lean a b)) ≡ Some a_last
    → slot_send_all b (sent_by_second (if closes then (Second, Close) ∷ [] else lean a b)) ≡ Some b_last → lean a_last b_last ≡ []
first_closes false a b a_last b_last is a_kept b_kept a_goes b_goes = lean_rests a b a_last b_last a_kept b_kept a_goes b_goes
first_closes true a b a_last b_last is a_kept b_kept a_goes b_goes = grind (arith)

-- and of the second slot
second_closes : (closes : Bool) (a b a_last b_last : Slot) → can_close a.state ≡ closes → Kept a → Kept b
    → slot_send_all a (sent_by_first (if closes then (First, Close) ∷ [] else lean a b)) ≡ Some a_last
    → slot_send_all b (sent_by_second (if closes then (First, Close) ∷ [] else lean a b)) ≡ Some b_last → lean a_last b_last ≡ []
second_closes false a b a_last b_last is a_kept b_kept a_goes b_goes = lean_rests a b a_last b_last a_kept b_kept a_goes b_goes
second_closes true a b a_last b_last is a_kept b_kept a_goes b_goes = grind (arith)

-- by the slot that is closed
pub link_rests : LinkRestsAfterTurn
link_rests a b a_last b_last None a_kept b_kept a_goes b_goes = lean_rests a b a_last b_last a_kept b_kept a_goes b_goes
link_rests a b a_last b_last (Some First) a_kept b_kept a_goes b_goes = first_closes (can_close b.state) a b a_last b_last refl a_kept b_kept a_goes b_goes
link_rests a b a_last b_last (Some Second) a_kept b_kept a_goes b_goes = second_closes (can_close a.state) a b a_last b_last refl a_kept b_kept a_goes b_goes
