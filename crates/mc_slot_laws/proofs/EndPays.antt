-- What an end takes away outweighs what it sends.
use Rattle.std.proofs.Common.{◌≡◌, ◌≤◌, ◌+◌, ◌*◌, ℕ, Option, Some, false, [], ◌++◌, arith}
use Rattle.mc_signal.specs.declared.Descriptor.{Descriptor}
use Rattle.mc_signal.specs.declared.Medium.{Medium}
use Rattle.mc_signal.specs.declared.Selector.{Selector}
use Rattle.mc_signal.specs.declared.Sender.{Sender}
use Rattle.mc_signal.specs.declared.Signal.{Signal}
use Rattle.mc_signal.specs.declared.Signal.TheVariants.{Open, Oack, Close, Closeack, Describe, Select}
use Rattle.mc_slot.specs.EndTurn.{end_turn, cause_of, is_push}
use Rattle.mc_slot.specs.Moves.{answer_signals, slot_send_all, slot_take}
use Rattle.mc_slot.specs.Tunnel.{Kept}
use Rattle.mc_slot.specs.declared.Goal.{Goal}
use Rattle.mc_slot.specs.declared.Slot.{Slot}
use Rattle.mc_slot_laws.specs.Weights.{stored_end, EndPays}
use Rattle.mc_slot_laws.proofs.Weighing.{weigh, weigh_all, weigh_one, weigh_list, Pays, pays}

-- the weights before and after
abbrev pub Enough : Goal → Slot → Slot → Slot → Descriptor → Sender → Signal → Option Signal → (n b c y yn yb yc : ℕ) → Type 0
Enough goal slot after last own me signal answer n b c y yn yb yc =
    1 + weigh_all y yn yb yc (answer_signals answer ++ end_turn goal after (is_push (cause_of signal after.state)) own me) + yc * stored_end goal last.state
    ≤ weigh 1 n b c signal + yc * stored_end goal slot.state

-- a select: the end sends nothing for it
pub select_pays : (goal : Goal) (slot after last : Slot) (own : Descriptor) (me : Sender) (s : Selector) (answer : Option Signal) (n b c y yn yb yc : ℕ)
    → Pays n b c y yn yb yc → Kept slot → end_turn goal slot false own me ≡ [] → slot_take slot (Select s) ≡ Some record { answer = answer; after = after }
    → slot_send_all after (end_turn goal after false own me) ≡ Some last → Enough goal slot after last own me (Select s) answer n b c y yn yb yc
select_pays goal slot after last own me s answer n b c y yn yb yc paid kept rest goes sends = grind (arith)

-- a closeack: the end opens, where it stored that
closeack_pays : (goal : Goal) (slot after last : Slot) (own : Descriptor) (me : Sender) (answer : Option Signal) (n b c y yn yb yc : ℕ)
    → Pays n b c y yn yb yc → Kept slot → end_turn goal slot false own me ≡ [] → slot_take slot Closeack ≡ Some record { answer = answer; after = after }
    → slot_send_all after (end_turn goal after (is_push (cause_of Closeack after.state)) own me) ≡ Some last → Enough goal slot after last own me Closeack answer n b c y yn yb yc
closeack_pays goal slot after last own me answer n b c y yn yb yc paid kept rest goes sends = grind (arith)

-- a close: it is answered, and the end is closed or stays closing
close_pays : (goal : Goal) (slot after last : Slot) (own : Descriptor) (me : Sender) (answer : Option Signal) (n b c y yn yb yc : ℕ)
    → Pays n b c y yn yb yc → Kept slot → end_turn goal slot false own me ≡ [] → slot_take slot Close ≡ Some record { answer = answer; after = after }
    → slot_send_all after (end_turn goal after (is_push (cause_of Close after.state)) own me) ≡ Some last → Enough goal slot after last own me Close answer n b c y yn yb yc
close_pays goal slot after last own me answer n b c y yn yb yc paid kept rest goes sends = grind (arith)

-- an open: the end answers it, closes, or drops it
open_pays : (goal : Goal) (slot after last : Slot) (own : Descriptor) (me : Sender) (medium : Medium) (d : Descriptor) (answer : Option Signal) (n b c y yn yb yc : ℕ)
    → Pays n b c y yn yb yc → Kept slot → end_turn goal slot false own me ≡ [] → slot_take slot (Open medium d) ≡ Some record { answer = answer; after = after }
    → slot_send_all after (end_turn goal after false own me) ≡ Some last → Enough goal slot after last own me (Open medium d) answer n b c y yn yb yc
open_pays goal slot after last own me medium d answer n b c y yn yb yc paid kept rest goes sends = grind (arith)

-- an oack: the end sends a select, or stays closing
oack_pays : (goal : Goal) (slot after last : Slot) (own : Descriptor) (me : Sender) (d : Descriptor) (answer : Option Signal) (n b c y yn yb yc : ℕ)
    → Pays n b c y yn yb yc → Kept slot → end_turn goal slot false own me ≡ [] → slot_take slot (Oack d) ≡ Some record { answer = answer; after = after }
    → slot_send_all after (end_turn goal after false own me) ≡ Some last → Enough goal slot after last own me (Oack d) answer n b c y yn yb yc
oack_pays goal slot after last own me d answer n b c y yn yb yc paid kept rest goes sends = grind (arith)

-- a describe: the end sends a select, or stays closing
describe_pays : (goal : Goal) (slot after last : Slot) (own : Descriptor) (me : Sender) (d : Descriptor) (answer : Option Signal) (n b c y yn yb yc : ℕ)
    → Pays n b c y yn yb yc → Kept slot → end_turn goal slot false own me ≡ [] → slot_take slot (Describe d) ≡ Some record { answer = answer; after = after }
    → slot_send_all after (end_turn goal after false own me) ≡ Some last → Enough goal slot after last own me (Describe d) answer n b c y yn yb yc
describe_pays goal slot after last own me d answer n b c y yn yb yc paid kept rest goes sends = grind (arith)

-- by the signal
by_signal : (signal : Signal) (goal : Goal) (slot after last : Slot) (own : Descriptor) (me : Sender) (answer : Option Signal) (n b c y yn yb yc : ℕ)
    → Pays n b c y yn yb yc → Kept slot → end_turn goal slot false own me ≡ [] → slot_take slot signal ≡ Some record { answer = answer; after = after }
    → slot_send_all after (end_turn goal after (is_push (cause_of signal after.state)) own me) ≡ Some last → Enough goal slot after last own me signal answer n b c y yn yb yc
by_signal (Open medium d) goal slot after last own me answer n b c y yn yb yc paid kept rest goes sends = open_pays goal slot after last own me medium d answer n b c y yn yb yc paid kept rest goes sends
by_signal (Oack d) goal slot after last own me answer n b c y yn yb yc paid kept rest goes sends = oack_pays goal slot after last own me d answer n b c y yn yb yc paid kept rest goes sends
by_signal Close goal slot after last own me answer n b c y yn yb yc paid kept rest goes sends = close_pays goal slot after last own me answer n b c y yn yb yc paid kept rest goes sends
by_signal Closeack goal slot after last own me answer n b c y yn yb yc paid kept rest goes sends = closeack_pays goal slot after last own me answer n b c y yn yb yc paid kept rest goes sends
by_signal (Describe d) goal slot after last own me answer n b c y yn yb yc paid kept rest goes sends = describe_pays goal slot after last own me d answer n b c y yn yb yc paid kept rest goes sends
by_signal (Select s) goal slot after last own me answer n b c y yn yb yc paid kept rest goes sends = select_pays goal slot after last own me s answer n b c y yn yb yc paid kept rest goes sends

-- with the products of n and y put in
pub end_pays : EndPays
end_pays goal slot after last own me signal answer n y kept rest goes sends some less =
    let linear = by_signal signal goal slot after last own me answer n (n * n) (n * (n * n)) y (y * n) (y * (n * n)) (y * (n * (n * n))) (pays n y some less) kept rest goes sends in
    omega (arith, linear, weigh_one n signal, weigh_list n y (answer_signals answer ++ end_turn goal after (is_push (cause_of signal after.state)) own me))
