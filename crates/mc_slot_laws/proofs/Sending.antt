-- A sending keeps a tunnel sound.
use Rattle.std.proofs.Common.{◌≡◌, ◌≢◌, ℕ, ◌+◌, ◌≤◌, Option, Some, None, Bool, true, false, not, List, [], ◌∷◌, ◌++◌, refl, ap, subst, append_assoc, zero, suc, arith}
use Rattle.std.specs.Option.{option_and_then}
use Rattle.mc_signal.specs.declared.Descriptor.{Descriptor}
use Rattle.mc_signal.specs.declared.Medium.{Medium}
use Rattle.mc_signal.specs.declared.Selector.{Selector}
use Rattle.mc_signal.specs.declared.Signal.{Signal}
use Rattle.mc_signal.specs.declared.Signal.TheVariants.{Open, Oack, Close, Closeack, Describe, Select}
use Rattle.mc_slot.specs.Moves.{clear, fits_medium, with_state, enter_opened, slot_send, slot_send_all}
use Rattle.mc_slot.specs.Outlook.{ack_of, acks, close_of, closes, outlook, waits}
use Rattle.mc_slot.specs.Tunnel.{Agree, Kept, Meet, TunnelSound}
use Rattle.mc_slot.specs.declared.Slot.{Slot}
use Rattle.mc_slot.specs.declared.State.TheVariants.{Closed, Opened, Flowing, Closing}
use Rattle.std.proofs.lemmas.List.{append-nil}
use Rattle.mc_slot_laws.proofs.Steps.{resent}
use Rattle.mc_slot_laws.proofs.Walks.{outlook-append, closes-append, acks-append, out_closing, out_was_closing, out_kept, out_medium, out_side}
use Rattle.mc_slot_laws.proofs.Taking.{met, meet_of, waiting, at_most_one}
use Rattle.mc_slot_laws.proofs.Alike.{out_alike, sent_alike, out_flowing, IsActive, out_active, out_opened, Opens, nothing, one, out_closed}

-- what each sending does to the slot alone
record SentOne (a : Slot) (signal : Signal) (after : Slot) : Type 0 where
  count : close_of signal + waits a.state ≡ waits after.state
  no_ack : ack_of signal ≡ 0
  medium : after.medium ≡ a.medium
  side : after.initiator ≡ a.initiator
  kept : Kept a → Kept after
  fits : fits_medium a signal ≡ true
  calm : waits a.state ≡ 0

-- whatever is sent
sent_one : (a : Slot) (signal : Signal) (after : Slot) → slot_send a signal ≡ Some after → SentOne a signal after
sent_one a signal after goes = record {
  count = grind (arith);
  no_ack = grind (arith);
  medium = grind (arith);
  side = grind (arith);
  kept = grind (arith);
  fits = grind (arith);
  calm = grind (arith);
}

-- a closing slot waits for one closeack
closing_waits : (b : Slot) → b.state ≡ Closing → waits b.state ≡ 1
closing_waits b is = grind (arith)

-- a closing slot drops, or answers, whatever is no closeack
drops : (b : Slot) (signal : Signal) → b.state ≡ Closing → fits_medium b signal ≡ true → ack_of signal ≡ 0 → outlook b (signal ∷ []) ≡ Some b
drops b (Open m d) is fits none = grind (arith)
drops b (Oack d) is fits none = grind (arith)
drops b Close is fits none = grind (arith)
drops b Closeack is fits none = grind (arith)
drops b (Describe d) is fits none = grind (arith)
drops b (Select s) is fits none = grind (arith)

-- a signal fits each slot of the same medium
fits_both : (a b : Slot) (signal : Signal) → a.medium ≡ b.medium → fits_medium a signal ≡ true → fits_medium b signal ≡ true
fits_both a b signal same fits = grind (arith)

-- a close that is under way to the sender
closing_agrees : (x b : Slot) → Agree x b → b.state ≡ Closing → (c : Slot) → c.state ≡ Closing → Agree c b
closing_agrees x b agree is c closing = grind (arith)

-- a close is sent by an active slot, which is then closing and keeps what it kept
close_moves : (a after : Slot) → slot_send a Close ≡ Some after → (after ≡ with_state a Closing) × IsActive a.state
close_moves a after goes = (grind (arith), grind (arith))

-- the new outlook of the sender, with a close under way to it
with_close : (signal : Signal) (a after b x : Slot) (to_a : List Signal) → slot_send a signal ≡ Some after → outlook a to_a ≡ Some x → 1 ≤ closes to_a → acks to_a ≡ 0
    → Agree x b → b.state ≡ Closing → (z : Slot) × (outlook after to_a ≡ Some z) × Agree z b
with_close Close a after b x to_a goes out some none agree is =
    let moves = close_moves a after goes in
    let stays : outlook (with_state a Closing) to_a ≡ Some (with_state a Closing) = out_closing to_a (with_state a Closing) a x out refl refl none in
    (after, rw moves.0 stays, closing_agrees x b agree is after (rw moves.0 refl))
with_close (Open m d) a after b x to_a goes out some none agree is = (x, out_alike to_a a after x out (sent_alike a after (Open m d) goes refl) some, agree)
with_close (Oack d) a after b x to_a goes out some none agree is = (x, out_alike to_a a after x out (sent_alike a after (Oack d) goes refl) some, agree)
with_close Closeack a after b x to_a goes out some none agree is = (x, out_alike to_a a after x out (sent_alike a after Closeack goes refl) some, agree)
with_close (Describe d) a after b x to_a goes out some none agree is = (x, out_alike to_a a after x out (sent_alike a after (Describe d) goes refl) some, agree)
with_close (Select s) a after b x to_a goes out some none agree is = (x, out_alike to_a a after x out (sent_alike a after (Select s) goes refl) some, agree)

-- both new outlooks, with no close under way to the sender
pub record Both (after : Slot) (to_a : List Signal) (y : Slot) (signal : Signal) : Type 0 where
  pub one : Slot
  pub two : Slot
  pub one_is : outlook after to_a ≡ Some one
  pub two_is : outlook y (signal ∷ []) ≡ Some two
  pub agree : Agree one two

-- what is known of the two outlooks
pub record Known (a x y : Slot) (to_a : List Signal) : Type 0 where
  pub out : outlook a to_a ≡ Some x
  pub none : closes to_a ≡ 0
  pub agree : Agree x y
  pub medium : a.medium ≡ y.medium
  pub sides : a.initiator ≡ not y.initiator
  pub kept : Kept a
  pub other : Kept y
  pub awake : y.state ≢ Closing

-- a close: the sender stays closing, and the other slot will be closed
send_close : (a after x y : Slot) (to_a : List Signal) → slot_send a Close ≡ Some after → acks to_a ≡ 0 → Known a x y to_a → Both after to_a y Close
send_close a after x y to_a goes none known =
    let moves = close_moves a after goes in
    let stays : outlook (with_state a Closing) to_a ≡ Some (with_state a Closing) = out_closing to_a (with_state a Closing) a x known.out refl refl none in
    let active : IsActive x.state = out_active to_a a x known.out moves.1 known.none in
    let agree = known.agree in
    record { one = with_state a Closing; two = clear y Closed; one_is = rw moves.0 stays; two_is = grind (arith); agree = tt }

-- an oack: nothing is under way to the sender, and both will flow
send_oack : (d : Descriptor) (a after x y : Slot) (to_a : List Signal) → slot_send a (Oack d) ≡ Some after → Known a x y to_a → Both after to_a y (Oack d)
send_oack d a after x y to_a goes known =
    let opened : a.state ≡ Opened = grind (arith) in
    let empty : to_a ≡ [] = out_opened to_a a x known.out opened known.none in
    let same : x ≡ a = cc (known.out, ap (outlook a) empty) in
    let agree : Agree a y = subst (λ (z : Slot). Agree z y) same known.agree in
    record { one = after; two = record (with_state y Flowing) { got = Some d }; one_is = rw empty refl; two_is = grind (arith); agree = grind (arith) }

-- a describe: the other slot will have got it
send_describe : (d : Descriptor) (a after x y : Slot) (to_a : List Signal) → slot_send a (Describe d) ≡ Some after → Known a x y to_a → Both after to_a y (Describe d)
send_describe d a after x y to_a goes known =
    let flows : a.state ≡ Flowing = grind (arith) in
    let new : after ≡ resent a (Some d) a.sel_out = grind (arith) in
    let on = out_flowing to_a a x (Some d) a.sel_out known.out flows known.none in
    record { one = resent x (Some d) a.sel_out; two = record y { got = Some d }; one_is = rw new on.other; two_is = grind (arith); agree = grind (arith) }

-- a select: the other slot will have it as its incoming choice
send_select : (s : Selector) (a after x y : Slot) (to_a : List Signal) → slot_send a (Select s) ≡ Some after → Known a x y to_a → Both after to_a y (Select s)
send_select s a after x y to_a goes known =
    let flows : a.state ≡ Flowing = grind (arith) in
    let new : after ≡ resent a a.sent (Some s) = grind (arith) in
    let on = out_flowing to_a a x a.sent (Some s) known.out flows known.none in
    record { one = resent x a.sent (Some s); two = record y { sel_in = Some s }; one_is = rw new on.other; two_is = grind (arith); agree = grind (arith) }

-- an open while nothing is under way to the sender
open_alone : (m : Medium) (d : Descriptor) (a after x y : Slot) → slot_send a (Open m d) ≡ Some after → Known a x y [] → Both after [] y (Open m d)
open_alone m d a after x y goes known =
    let same : x ≡ a = cc (known.out) in
    let agree : Agree a y = subst (λ (z : Slot). Agree z y) same known.agree in
    let awake = known.awake in
    let closed : y.state ≡ Closed = grind (arith) in
    record { one = after; two = enter_opened y d; one_is = refl; two_is = grind (arith); agree = grind (arith) }

-- two opens cross
open_first : (m n : Medium) (d f : Descriptor) (a after x y : Slot) → slot_send a (Open m d) ≡ Some after → a.initiator ≡ true → Known a x y (Open n f ∷ []) → Both after (Open n f ∷ []) y (Open m d)
open_first m n d f a after x y goes first known =
    let same : x ≡ enter_opened a f = grind (arith) in
    let agree : Agree (enter_opened a f) y = subst (λ (z : Slot). Agree z y) same known.agree in
    record { one = after; two = enter_opened y d; one_is = grind (arith); two_is = grind (arith); agree = grind (arith) }

-- and where the sender is on the other side, its own open is dropped
open_second : (m n : Medium) (d f : Descriptor) (a after x y : Slot) → slot_send a (Open m d) ≡ Some after → a.initiator ≡ false → Known a x y (Open n f ∷ []) → Both after (Open n f ∷ []) y (Open m d)
open_second m n d f a after x y goes first known =
    let same : x ≡ enter_opened a f = grind (arith) in
    let agree : Agree (enter_opened a f) y = subst (λ (z : Slot). Agree z y) same known.agree in
    record { one = enter_opened a f; two = y; one_is = grind (arith); two_is = grind (arith); agree = agree }

-- by the side of the sender
open_crosses : (side : Bool) (m n : Medium) (d f : Descriptor) (a after x y : Slot) → a.initiator ≡ side → slot_send a (Open m d) ≡ Some after → Known a x y (Open n f ∷ []) → Both after (Open n f ∷ []) y (Open m d)
open_crosses true m n d f a after x y is goes known = open_first m n d f a after x y goes is known
open_crosses false m n d f a after x y is goes known = open_second m n d f a after x y goes is known

-- by what is under way to the sender
open_by : (to_a : List Signal) → Opens to_a → (m : Medium) (d : Descriptor) (a after x y : Slot) → slot_send a (Open m d) ≡ Some after → Known a x y to_a → Both after to_a y (Open m d)
open_by _ nothing m d a after x y goes known = open_alone m d a after x y goes known
open_by _ (one n f) m d a after x y goes known = open_crosses a.initiator m n d f a after x y refl goes known

-- an open
send_open : (m : Medium) (d : Descriptor) (a after x y : Slot) (to_a : List Signal) → slot_send a (Open m d) ≡ Some after → Known a x y to_a → Both after to_a y (Open m d)
send_open m d a after x y to_a goes known =
    let closed : a.state ≡ Closed = grind (arith) in
    open_by to_a (out_closed to_a a x known.out closed known.none) m d a after x y goes known

-- each signal, where no close is under way to the sender
without_close : (signal : Signal) (a after x y : Slot) (to_a : List Signal) → slot_send a signal ≡ Some after → acks to_a ≡ 0 → Known a x y to_a → Both after to_a y signal
without_close (Open m d) a after x y to_a goes none known = send_open m d a after x y to_a goes known
without_close (Oack d) a after x y to_a goes none known = send_oack d a after x y to_a goes known
without_close Close a after x y to_a goes none known = send_close a after x y to_a goes none known
without_close Closeack a after x y to_a goes none known = absurd (grind (arith))
without_close (Describe d) a after x y to_a goes none known = send_describe d a after x y to_a goes known
without_close (Select s) a after x y to_a goes none known = send_select s a after x y to_a goes known

-- how the parts of a sending come together
meets_by : (signal : Signal) (a : Slot) (to_a : List Signal) (b : Slot) (to_b : List Signal) (after x y : Slot) (coming : ℕ)
    → TunnelSound a to_a b to_b → slot_send a signal ≡ Some after → outlook a to_a ≡ Some x → outlook b to_b ≡ Some y → Agree x y → closes to_a ≡ coming
    → Meet (outlook after to_a) (outlook b (to_b ++ signal ∷ []))
meets_by signal a to_a b to_b after x y zero s goes ox oy agree count =
    let single = sent_one a signal after goes in
    let quiet : acks to_a ≡ 0 = omega (arith, s.first_waits, single.calm) in
    let ym = out_medium to_b b y oy in
    let ys = out_side to_b b y oy in
    let awake : y.state ≢ Closing = λ is. absurd (omega (arith, s.second_waits, (out_was_closing to_b b y oy is).1, closing_waits b (out_was_closing to_b b y oy is).0)) in
    let known : Known a x y to_a = record {
      out = ox;
      none = count;
      agree = agree;
      medium = cc (s.medium, ym);
      sides = cc (s.sides, ys);
      kept = s.first_kept;
      other = out_kept to_b b y oy s.second_kept;
      awake = awake;
    } in
    let both = without_close signal a after x y to_a goes quiet known in
    let longer : outlook b (to_b ++ signal ∷ []) ≡ Some both.two = rw (outlook-append b to_b (signal ∷ []), oy) both.two_is in
    meet_of _ _ both.one both.two both.one_is longer both.agree
meets_by signal a to_a b to_b after x y (suc more) s goes ox oy agree count =
    let single = sent_one a signal after goes in
    let quiet : acks to_a ≡ 0 = omega (arith, s.first_waits, single.calm) in
    let bounded = at_most_one b in
    let closing : b.state ≡ Closing = waiting b (omega (arith, s.second_waits, count)) in
    let no_acks : acks to_b ≡ 0 = omega (arith, s.second_waits, count) in
    let stays : outlook b to_b ≡ Some b = out_closing to_b b b y oy closing refl no_acks in
    let same : y ≡ b = cc (stays, oy) in
    let agree_b : Agree x b = subst (λ (z : Slot). Agree x z) same agree in
    let z = with_close signal a after b x to_a goes ox (omega (arith, count)) quiet agree_b closing in
    let dropped : outlook b (signal ∷ []) ≡ Some b = drops b signal closing (fits_both a b signal s.medium single.fits) single.no_ack in
    let longer : outlook b (to_b ++ signal ∷ []) ≡ Some b = rw (outlook-append b to_b (signal ∷ []), stays) dropped in
    meet_of _ _ z.0 b z.1 longer z.2

-- one sending keeps a tunnel sound
pub send_keeps : (a : Slot) (signal : Signal) (to_a : List Signal) (b : Slot) (to_b : List Signal) (after : Slot)
    → TunnelSound a to_a b to_b → slot_send a signal ≡ Some after → TunnelSound after to_a b (to_b ++ signal ∷ [])
send_keeps a signal to_a b to_b after s goes =
    let single = sent_one a signal after goes in
    let both = met _ _ s.meet in
    record {
      medium = cc (single.medium, s.medium);
      sides = cc (single.side, s.sides);
      meet = meets_by signal a to_a b to_b after both.first both.second (closes to_a) s goes both.first_is both.second_is both.agree refl;
      first_waits = omega (arith, s.first_waits, single.count, closes-append to_b (signal ∷ []));
      second_waits = omega (arith, s.second_waits, single.no_ack, acks-append to_b (signal ∷ []));
      first_kept = single.kept s.first_kept;
      second_kept = s.second_kept;
    }

-- the first of several sendings, and the others
sends_by : (signal : Signal) (signals : List Signal) (o : Option Slot) (a : Slot) (after : Slot) → slot_send a signal ≡ o
    → option_and_then (λ (next : Slot). slot_send_all next signals) o ≡ Some after → (next : Slot) × (slot_send a signal ≡ Some next) × (slot_send_all next signals ≡ Some after)
sends_by signal signals None a after is goes = absurd (cc)
sends_by signal signals (Some next) a after is goes = (next, is, goes)

-- several sendings keep a tunnel sound
pub sends_keep : (signals : List Signal) (a : Slot) (to_a : List Signal) (b : Slot) (to_b : List Signal) (after : Slot)
    → TunnelSound a to_a b to_b → slot_send_all a signals ≡ Some after → TunnelSound after to_a b (to_b ++ signals)
sends_keep [] a to_a b to_b after s goes =
    let same : a ≡ after = cc in
    subst (λ (x : Slot). TunnelSound x to_a b (to_b ++ [])) same (rw append-nil s)
sends_keep (signal ∷ signals) a to_a b to_b after s goes =
    let n = sends_by signal signals (slot_send a signal) a after refl goes in
    let further = sends_keep signals n.0 to_a b (to_b ++ signal ∷ []) after (send_keeps a signal to_a b to_b n.0 s n.1) n.2 in
    subst (λ (l : List Signal). TunnelSound after to_a b l) (append_assoc to_b (signal ∷ []) signals) further
