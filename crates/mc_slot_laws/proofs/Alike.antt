-- A slot before and after a sending takes the same, as far as a sound tunnel needs it.
use Rattle.std.proofs.Common.{◌≡◌, ◌≤◌, Option, Some, None, List, [], ◌∷◌, IsSome, refl, subst, sym, arith}
use Rattle.mc_signal.specs.declared.Descriptor.{Descriptor}
use Rattle.mc_signal.specs.declared.Medium.{Medium}
use Rattle.mc_signal.specs.declared.Selector.{Selector}
use Rattle.mc_signal.specs.declared.Signal.{Signal}
use Rattle.mc_signal.specs.declared.Signal.TheVariants.{Open, Oack, Close, Closeack, Describe, Select}
use Rattle.mc_slot.specs.Moves.{slot_send, slot_take, Took}
use Rattle.mc_slot.specs.Outlook.{close_of, closes, outlook}
use Rattle.mc_slot.specs.declared.Slot.{Slot}
use Rattle.mc_slot.specs.declared.State.{State}
use Rattle.mc_slot.specs.declared.State.TheVariants.{Closed, Opening, Opened, Flowing}
use Rattle.mc_slot_laws.proofs.Steps.{resent, took_flowing, took_resent}
use Rattle.mc_slot_laws.proofs.Walks.{walked}

-- the pairs of states that are alike
abbrev AlikeIn : State → State → Type 0
AlikeIn Closed Opening = Unit {0}
AlikeIn Opened Opening = Unit {0}
AlikeIn Opened Opened = Unit {0}
AlikeIn Opened Flowing = Unit {0}
AlikeIn Flowing Flowing = Unit {0}
AlikeIn first second = ⊥

-- the second is the first after a sending, or after that and takings
pub record Alike (a b : Slot) : Type 0 where
  pub medium : a.medium ≡ b.medium
  pub side : a.initiator ≡ b.initiator
  pub states : AlikeIn a.state b.state

-- a close brings alike slots to one and the same slot
alike_close : (a b : Slot) (took : Took) → slot_take a Close ≡ Some took → Alike a b → slot_take b Close ≡ Some took
alike_close a b took goes alike = grind (arith)

-- what the first of two alike slots takes, the second takes too
alike_takes : (a b : Slot) (signal : Signal) (took : Took) → slot_take a signal ≡ Some took → Alike a b → close_of signal ≡ 0 → IsSome (slot_take b signal)
alike_takes a b signal took goes alike none = grind (arith)

-- and after that they are alike again
alike_after : (a b : Slot) (signal : Signal) (took other_took : Took) → slot_take a signal ≡ Some took → Alike a b → close_of signal ≡ 0 → slot_take b signal ≡ Some other_took → Alike took.after other_took.after
alike_after a b signal took other_took goes alike none f = record { medium = grind (arith); side = grind (arith); states = grind (arith) }

-- what is there can be named
some_of : (o : Option Took) → IsSome o → (took : Took) × (o ≡ Some took)
some_of None i = absurd (cc)
some_of (Some took) i = (took, refl)

-- with a close on the way, both come to the same slot
pub out_alike : (signals : List Signal) (a b out : Slot) → outlook a signals ≡ Some out → Alike a b → 1 ≤ closes signals → outlook b signals ≡ Some out
out_alike [] a b out goes alike some = absurd (omega arith)
out_alike (Close ∷ signals) a b out goes alike some = let walk = walked a Close signals out goes in rw (alike_close a b walk.took walk.first alike) walk.rest
out_alike (Open m d ∷ signals) a b out goes alike some =
    let walk = walked a (Open m d) signals out goes in
    let other_took = some_of (slot_take b (Open m d)) (alike_takes a b (Open m d) walk.took walk.first alike refl) in
    rw other_took.1 (out_alike signals walk.took.after other_took.0.after out walk.rest (alike_after a b (Open m d) walk.took other_took.0 walk.first alike refl other_took.1) (omega arith))
out_alike (Oack d ∷ signals) a b out goes alike some =
    let walk = walked a (Oack d) signals out goes in
    let other_took = some_of (slot_take b (Oack d)) (alike_takes a b (Oack d) walk.took walk.first alike refl) in
    rw other_took.1 (out_alike signals walk.took.after other_took.0.after out walk.rest (alike_after a b (Oack d) walk.took other_took.0 walk.first alike refl other_took.1) (omega arith))
out_alike (Closeack ∷ signals) a b out goes alike some =
    let walk = walked a Closeack signals out goes in
    let other_took = some_of (slot_take b Closeack) (alike_takes a b Closeack walk.took walk.first alike refl) in
    rw other_took.1 (out_alike signals walk.took.after other_took.0.after out walk.rest (alike_after a b Closeack walk.took other_took.0 walk.first alike refl other_took.1) (omega arith))
out_alike (Describe d ∷ signals) a b out goes alike some =
    let walk = walked a (Describe d) signals out goes in
    let other_took = some_of (slot_take b (Describe d)) (alike_takes a b (Describe d) walk.took walk.first alike refl) in
    rw other_took.1 (out_alike signals walk.took.after other_took.0.after out walk.rest (alike_after a b (Describe d) walk.took other_took.0 walk.first alike refl other_took.1) (omega arith))
out_alike (Select s ∷ signals) a b out goes alike some =
    let walk = walked a (Select s) signals out goes in
    let other_took = some_of (slot_take b (Select s)) (alike_takes a b (Select s) walk.took walk.first alike refl) in
    rw other_took.1 (out_alike signals walk.took.after other_took.0.after out walk.rest (alike_after a b (Select s) walk.took other_took.0 walk.first alike refl other_took.1) (omega arith))

-- a sending that is no close makes an alike slot
pub sent_alike : (a b : Slot) (signal : Signal) → slot_send a signal ≡ Some b → close_of signal ≡ 0 → Alike a b
sent_alike a b signal goes none = record { medium = grind (arith); side = grind (arith); states = grind (arith) }

-- without a close, a flowing slot flows on and never reads what it sent
pub record FlowsOn (a : Slot) (signals : List Signal) (out : Slot) (d : Option Descriptor) (s : Option Selector) : Type 0 where
  pub flows : out.state ≡ Flowing
  pub sent : out.sent ≡ a.sent
  pub chosen : out.sel_out ≡ a.sel_out
  pub other : outlook (resent a d s) signals ≡ Some (resent out d s)

-- taking a list without a close keeps a slot flowing, whatever it sent
pub out_flowing : (signals : List Signal) (a out : Slot) (d : Option Descriptor) (s : Option Selector) → outlook a signals ≡ Some out → a.state ≡ Flowing → closes signals ≡ 0
    → FlowsOn a signals out d s
out_flowing [] a out d s goes is none = let same : a ≡ out = cc in
    subst (λ (x : Slot). FlowsOn a [] x d s) same (record { flows = is; sent = refl; chosen = refl; other = refl })
out_flowing (signal ∷ signals) a out d s goes is none =
    let walk = walked a signal signals out goes in
    let one = took_flowing a signal walk.took walk.first is (omega arith) in
    let further = out_flowing signals walk.took.after out d s walk.rest one.0 (omega arith) in
    let changed = took_resent a signal walk.took d s walk.first is (omega arith) in
    record { flows = further.flows; sent = cc (further.sent, one.1); chosen = cc (further.chosen, one.2); other = rw changed further.other }

-- opening, opened or flowing
abbrev pub IsActive : State → Type 0
IsActive Opening = Unit {0}
IsActive Opened = Unit {0}
IsActive Flowing = Unit {0}
IsActive state = ⊥

-- a slot that is active stays so where it takes no close
took_active : (a : Slot) (signal : Signal) (took : Took) → slot_take a signal ≡ Some took → IsActive a.state → close_of signal ≡ 0 → IsActive took.after.state
took_active a signal took goes is none = grind (arith)

-- and so over a list without a close
pub out_active : (signals : List Signal) (a out : Slot) → outlook a signals ≡ Some out → IsActive a.state → closes signals ≡ 0 → IsActive out.state
out_active [] a out goes is none = let same : a ≡ out = cc in subst (λ (x : Slot). IsActive x.state) same is
out_active (signal ∷ signals) a out goes is none =
    let walk = walked a signal signals out goes in
    out_active signals walk.took.after out walk.rest (took_active a signal walk.took walk.first is (omega arith)) (omega arith)

-- an opened slot takes only a close
opened_takes : (a : Slot) (signal : Signal) (took : Took) → slot_take a signal ≡ Some took → a.state ≡ Opened → close_of signal ≡ 1
opened_takes a signal took goes is = grind (arith)

-- to an opened slot nothing but a close is under way
pub out_opened : (signals : List Signal) (a out : Slot) → outlook a signals ≡ Some out → a.state ≡ Opened → closes signals ≡ 0 → signals ≡ []
out_opened [] a out goes is none = refl
out_opened (signal ∷ signals) a out goes is none = let walk = walked a signal signals out goes in absurd (omega (arith, opened_takes a signal walk.took walk.first is))

-- a closed slot takes only an open
pub data Opens : List Signal → Type 0 where
  nothing : Opens []
  one : (m : Medium) (d : Descriptor) → Opens (Open m d ∷ [])

-- a closed slot becomes opened by what it takes
closed_takes : (a : Slot) (signal : Signal) (took : Took) → slot_take a signal ≡ Some took → a.state ≡ Closed → took.after.state ≡ Opened
closed_takes a signal took goes is = grind (arith)

-- and that is an open
closed_opens : (a : Slot) (signal : Signal) (took : Took) → slot_take a signal ≡ Some took → a.state ≡ Closed → Opens (signal ∷ [])
closed_opens a (Open m d) took goes is = one m d
closed_opens a (Oack d) took goes is = absurd (grind (arith))
closed_opens a Close took goes is = absurd (grind (arith))
closed_opens a Closeack took goes is = absurd (grind (arith))
closed_opens a (Describe d) took goes is = absurd (grind (arith))
closed_opens a (Select s) took goes is = absurd (grind (arith))

-- to a closed slot nothing is under way, or one open
pub out_closed : (signals : List Signal) (a out : Slot) → outlook a signals ≡ Some out → a.state ≡ Closed → closes signals ≡ 0 → Opens signals
out_closed [] a out goes is none = nothing
out_closed (signal ∷ signals) a out goes is none =
    let walk = walked a signal signals out goes in
    let rest : signals ≡ [] = out_opened signals walk.took.after out walk.rest (closed_takes a signal walk.took walk.first is) (omega arith) in
    subst (λ (l : List Signal). Opens (signal ∷ l)) (sym rest) (closed_opens a signal walk.took walk.first is)
