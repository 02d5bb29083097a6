-- Between two closed slots nothing is under way.
use Rattle.std.proofs.Common.{◌≡◌, Some, List, [], refl, subst, arith}
use Rattle.mc_signal.specs.declared.Descriptor.{Descriptor}
use Rattle.mc_signal.specs.declared.Medium.{Medium}
use Rattle.mc_signal.specs.declared.Signal.{Signal}
use Rattle.mc_signal.specs.declared.Signal.TheVariants.{Open}
use Rattle.mc_slot.specs.Moves.{slot_take, Took}
use Rattle.mc_slot.specs.Outlook.{closes, outlook, waits}
use Rattle.mc_slot.specs.Tunnel.{Agree, TunnelSound}
use Rattle.mc_slot.specs.declared.Slot.{Slot}
use Rattle.mc_slot.specs.declared.State.TheVariants.{Closed, Opened}
use Rattle.mc_slot_laws.proofs.Alike.{Opens, nothing, one, out_closed}
use Rattle.mc_slot_laws.proofs.Taking.{met}
use Rattle.mc_slot_laws.proofs.Walks.{walked}

-- what is under way to a closed slot, if it is no close: nothing, or an open by which it will be opened
data Coming (out : Slot) : List Signal → Type 0 where
  none : out.state ≡ Closed → Coming out []
  opening : {signals : List Signal} → out.state ≡ Opened → Coming out signals

open_opens : (a : Slot) (medium : Medium) (descriptor : Descriptor) (took : Took) → slot_take a (Open medium descriptor) ≡ Some took → a.state ≡ Closed
    → took.after.state ≡ Opened
open_opens a medium descriptor took goes is = grind (arith)

coming_by : (signals : List Signal) (a out : Slot) → Opens signals → outlook a signals ≡ Some out → a.state ≡ Closed → Coming out signals
coming_by signals a out nothing goes is = let same : a ≡ out = cc in none (subst (λ (x : Slot). x.state ≡ Closed) same is)
coming_by signals a out (one medium descriptor) goes is =
    let walk = walked a (Open medium descriptor) [] out goes in
    let same : walk.took.after ≡ out = let last = walk.rest in cc in
    opening (subst (λ (x : Slot). x.state ≡ Opened) same (open_opens a medium descriptor walk.took walk.first is))

coming : (signals : List Signal) (a out : Slot) → outlook a signals ≡ Some out → a.state ≡ Closed → closes signals ≡ 0 → Coming out signals
coming signals a out goes is no_close = coming_by signals a out (out_closed signals a out goes is no_close) goes is

opened_closed : (x y : Slot) → Agree x y → x.state ≡ Opened → y.state ≡ Closed → ⊥
opened_closed x y agree first second = absurd (grind (arith))

opened_both : (x y : Slot) → Agree x y → x.state ≡ Opened → y.state ≡ Opened → ⊥
opened_both x y agree first second = absurd (grind (arith))

-- two slots of which one will be opened don't agree unless the other is opening
none_comes : (to_a to_b : List Signal) (x y : Slot) → Agree x y → Coming x to_a → Coming y to_b → to_a ≡ []
none_comes to_a to_b x y agree (none first) second = refl
none_comes to_a to_b x y agree (opening first) (none second) = absurd (opened_closed x y agree first second)
none_comes to_a to_b x y agree (opening first) (opening second) = absurd (opened_both x y agree first second)

closed_waits : (slot : Slot) → slot.state ≡ Closed → waits slot.state ≡ 0
closed_waits slot is = grind (arith)

pub closed_nothing : (a : Slot) (to_a : List Signal) (b : Slot) (to_b : List Signal) → TunnelSound a to_a b to_b → a.state ≡ Closed → b.state ≡ Closed → to_a ≡ []
closed_nothing a to_a b to_b sound first second =
    let both = met (outlook a to_a) (outlook b to_b) sound.meet in
    let idle_a = closed_waits a first in
    let idle_b = closed_waits b second in
    none_comes to_a to_b both.first both.second both.agree
    (coming to_a a both.first both.first_is first (omega (arith, sound.second_waits, idle_b)))
    (coming to_b b both.second both.second_is second (omega (arith, sound.first_waits, idle_a)))
