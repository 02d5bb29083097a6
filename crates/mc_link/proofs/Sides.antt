-- What is sent over a link, by its two sides.
use Rattle.std.proofs.Common.{◌≡◌, ◌+◌, ℕ, Option, Some, None, List, [], ◌∷◌, ◌++◌, length, map, refl, ap, ◌∙◌, arith}
use Rattle.std.proofs.lemmas.List.{append-nil, length-append, length-map}
use Rattle.std.specs.Option.{option_and_then}
use Rattle.mc_signal.specs.declared.Signal.{Signal}
use Rattle.mc_slot.specs.Moves.{slot_send, slot_send_all}
use Rattle.mc_slot.specs.Sending.{pair_of}
use Rattle.mc_slot.specs.declared.Slot.{Slot}
use Rattle.mc_link.specs.LinkTurn.{from_side, sent_by_first, sent_by_second, with_number}
use Rattle.mc_link.specs.declared.Side.{Side}
use Rattle.mc_link.specs.declared.Side.TheVariants.{First, Second}

-- the first slot sends what is its own, and then its part of the rest
first_of_first : (signals : List Signal) (rest : List (Side × Signal)) → sent_by_first (from_side First signals ++ rest) ≡ signals ++ sent_by_first rest
first_of_first [] rest = refl
first_of_first (signal ∷ signals) rest = ap (λ (l : List Signal). signal ∷ l) (first_of_first signals rest)

-- it sends nothing of what is the second slot's
first_of_second : (signals : List Signal) (rest : List (Side × Signal)) → sent_by_first (from_side Second signals ++ rest) ≡ sent_by_first rest
first_of_second [] rest = refl
first_of_second (signal ∷ signals) rest = first_of_second signals rest

-- the second slot sends nothing of what is the first slot's
second_of_first : (signals : List Signal) (rest : List (Side × Signal)) → sent_by_second (from_side First signals ++ rest) ≡ sent_by_second rest
second_of_first [] rest = refl
second_of_first (signal ∷ signals) rest = second_of_first signals rest

-- it sends what is its own, and then its part of the rest
second_of_second : (signals : List Signal) (rest : List (Side × Signal)) → sent_by_second (from_side Second signals ++ rest) ≡ signals ++ sent_by_second rest
second_of_second [] rest = refl
second_of_second (signal ∷ signals) rest = ap (λ (l : List Signal). signal ∷ l) (second_of_second signals rest)

-- the first slot sends nothing of what is the second slot's alone
first_of_second_alone : (signals : List Signal) → sent_by_first (from_side Second signals) ≡ []
first_of_second_alone [] = refl
first_of_second_alone (signal ∷ signals) = first_of_second_alone signals

-- and the second slot sends all of it
second_of_second_alone : (signals : List Signal) → sent_by_second (from_side Second signals) ≡ signals
second_of_second_alone [] = refl
second_of_second_alone (signal ∷ signals) = ap (λ (l : List Signal). signal ∷ l) (second_of_second_alone signals)

-- of four lists in turn, the first and the third are the first slot's
pub first_of_four : (p q r t : List Signal) → sent_by_first (from_side First p ++ (from_side Second q ++ (from_side First r ++ from_side Second t))) ≡ p ++ r
first_of_four p q r t =
    rw (first_of_first p (from_side Second q ++ (from_side First r ++ from_side Second t)), first_of_second q (from_side First r ++ from_side Second t), first_of_first r (from_side Second t), first_of_second_alone t, append-nil r) refl

-- and the second and the fourth are the second slot's
pub second_of_four : (p q r t : List Signal) → sent_by_second (from_side First p ++ (from_side Second q ++ (from_side First r ++ from_side Second t))) ≡ q ++ t
second_of_four p q r t =
    rw (second_of_first p (from_side Second q ++ (from_side First r ++ from_side Second t)), second_of_second q (from_side First r ++ from_side Second t), second_of_first r (from_side Second t), second_of_second_alone t) refl

-- what the first slot sends has its local number
pub numbered_first : (an bn : ℕ) (signals : List Signal) → map (with_number an bn) (from_side First signals) ≡ map (pair_of an) signals
numbered_first an bn [] = refl
numbered_first an bn (signal ∷ signals) = ap (λ (rest : List (ℕ × Signal)). (an, signal) ∷ rest) (numbered_first an bn signals)

-- and what the second slot sends has that one's
pub numbered_second : (an bn : ℕ) (signals : List Signal) → map (with_number an bn) (from_side Second signals) ≡ map (pair_of bn) signals
numbered_second an bn [] = refl
numbered_second an bn (signal ∷ signals) = ap (λ (rest : List (ℕ × Signal)). (bn, signal) ∷ rest) (numbered_second an bn signals)

-- one sending, and then two lists in order
further_by : (first second : List Signal) (o : Option Slot)
    → ((next : Slot) → slot_send_all next (first ++ second) ≡ option_and_then (λ (middle : Slot). slot_send_all middle second) (slot_send_all next first))
    → option_and_then (λ (next : Slot). slot_send_all next (first ++ second)) o
    ≡ option_and_then (λ (middle : Slot). slot_send_all middle second) (option_and_then (λ (next : Slot). slot_send_all next first) o)
further_by first second None further = refl
further_by first second (Some next) further = further next

-- sending two lists is sending one, and then the other
pub sent_all-append : (slot : Slot) (first second : List Signal)
    → slot_send_all slot (first ++ second) ≡ option_and_then (λ (middle : Slot). slot_send_all middle second) (slot_send_all slot first)
sent_all-append slot [] second = refl
sent_all-append slot (signal ∷ signals) second = further_by signals second (slot_send slot signal) (λ next. sent_all-append next signals second)

-- a slot that sends one list and then another
pub sent_both : (slot middle last : Slot) (first second : List Signal) → slot_send_all slot first ≡ Some middle → slot_send_all middle second ≡ Some last
    → slot_send_all slot (first ++ second) ≡ Some last
sent_both slot middle last first second one two =
    sent_all-append slot first second ∙ (ap (λ (o : Option Slot). option_and_then (λ (next : Slot). slot_send_all next second) o) one ∙ two)

-- four lists in turn are as many signals as they are together
pub four_length : (p q r t : List Signal)
    → length (from_side First p ++ (from_side Second q ++ (from_side First r ++ from_side Second t))) ≡ length p + length q + length r + length t
four_length p q r t = grind (arith, length-append, length-map)
