-- What taking a whole list does to a slot.
use Rattle.std.proofs.Common.{◌≡◌, ◌+◌, Option, Some, None, List, [], ◌∷◌, ◌++◌, refl, subst, arith}
use Rattle.std.specs.Option.{option_and_then}
use Rattle.mc_signal.specs.declared.Signal.{Signal}
use Rattle.mc_slot.specs.Moves.{slot_take, Took}
use Rattle.mc_slot.specs.Outlook.{acks, closes, outlook}
use Rattle.mc_slot.specs.Tunnel.{Kept}
use Rattle.mc_slot.specs.declared.Slot.{Slot}
use Rattle.mc_slot.specs.declared.State.TheVariants.{Closing}
use Rattle.mc_slot_laws.proofs.Steps.{took_medium, took_side, took_kept, took_closing, took_was_closing}

-- the first taking, and the rest
pub record Walked (a : Slot) (signal : Signal) (signals : List Signal) (out : Slot) : Type 0 where
  pub took : Took
  pub first : slot_take a signal ≡ Some took
  pub rest : outlook took.after signals ≡ Some out

-- by what the first taking gives
walked_by : (o : Option Took) (a : Slot) (signal : Signal) (signals : List Signal) (out : Slot) → slot_take a signal ≡ o
    → option_and_then (λ (took : Took). outlook took.after signals) o ≡ Some out → Walked a signal signals out
walked_by None a signal signals out is goes = absurd (cc)
walked_by (Some took) a signal signals out is goes = record { took = took; first = is; rest = goes }

-- a walk over a list that is not empty begins with a taking
pub walked : (a : Slot) (signal : Signal) (signals : List Signal) (out : Slot) → outlook a (signal ∷ signals) ≡ Some out → Walked a signal signals out
walked a signal signals out goes = walked_by (slot_take a signal) a signal signals out refl goes

-- one step of taking two lists in order
further_by : (first second : List Signal) (o : Option Took)
    → ((next : Slot) → outlook next (first ++ second) ≡ option_and_then (λ (slot : Slot). outlook slot second) (outlook next first))
    → option_and_then (λ (took : Took). outlook took.after (first ++ second)) o
    ≡ option_and_then (λ (slot : Slot). outlook slot second) (option_and_then (λ (took : Took). outlook took.after first) o)
further_by first second None further = refl
further_by first second (Some took) further = further took.after

-- taking one list and then another
pub outlook-append : (a : Slot) (first second : List Signal)
    → outlook a (first ++ second) ≡ option_and_then (λ (slot : Slot). outlook slot second) (outlook a first)
outlook-append a [] second = refl
outlook-append a (signal ∷ signals) second = further_by signals second (slot_take a signal) (λ next. outlook-append next signals second)

-- closes add up
pub closes-append : (first second : List Signal) → closes (first ++ second) ≡ closes first + closes second
closes-append [] second = omega arith
closes-append (signal ∷ signals) second = omega (arith, closes-append signals second)

-- closeacks add up
pub acks-append : (first second : List Signal) → acks (first ++ second) ≡ acks first + acks second
acks-append [] second = omega arith
acks-append (signal ∷ signals) second = omega (arith, acks-append signals second)

-- taking a list keeps the medium
pub out_medium : (signals : List Signal) (a out : Slot) → outlook a signals ≡ Some out → out.medium ≡ a.medium
out_medium [] a out goes = cc
out_medium (signal ∷ signals) a out goes = let walk = walked a signal signals out goes in
    cc (out_medium signals walk.took.after out walk.rest, took_medium a signal walk.took walk.first)

-- taking a list keeps the side
pub out_side : (signals : List Signal) (a out : Slot) → outlook a signals ≡ Some out → out.initiator ≡ a.initiator
out_side [] a out goes = cc
out_side (signal ∷ signals) a out goes = let walk = walked a signal signals out goes in
    cc (out_side signals walk.took.after out walk.rest, took_side a signal walk.took walk.first)

-- taking a list keeps what each state allows
pub out_kept : (signals : List Signal) (a out : Slot) → outlook a signals ≡ Some out → Kept a → Kept out
out_kept [] a out goes k = subst (λ (s : Slot). Kept s) (cc) k
out_kept (signal ∷ signals) a out goes k = let walk = walked a signal signals out goes in out_kept signals walk.took.after out walk.rest (took_kept a signal walk.took walk.first k)

-- a closing slot stays as it is, whatever another slot of its medium takes, until a closeack
pub out_closing : (signals : List Signal) (c a out : Slot) → outlook a signals ≡ Some out → c.state ≡ Closing → c.medium ≡ a.medium → acks signals ≡ 0
    → outlook c signals ≡ Some c
out_closing [] c a out goes is same none = refl
out_closing (signal ∷ signals) c a out goes is same none =
    let walk = walked a signal signals out goes in
    let one = took_closing c a signal walk.took walk.first is same (omega arith) in
    let on : walk.took.after.medium ≡ a.medium = took_medium a signal walk.took walk.first in
    let rest : outlook c signals ≡ Some c = out_closing signals c walk.took.after out walk.rest is (cc) (omega arith) in
    rw one.1 rest

-- whoever is closing in the end was closing all the time
pub out_was_closing : (signals : List Signal) (a out : Slot) → outlook a signals ≡ Some out → out.state ≡ Closing → (a.state ≡ Closing) × (acks signals ≡ 0)
out_was_closing [] a out goes is = (cc, refl)
out_was_closing (signal ∷ signals) a out goes is =
    let walk = walked a signal signals out goes in
    let later = out_was_closing signals walk.took.after out walk.rest is in
    let now = took_was_closing a signal walk.took walk.first later.0 in
    (now.0, omega (arith, later.1, now.1))
