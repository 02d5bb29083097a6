-- Below each stamp above 1 stands another, so none is above the number of turns.
use Rattle.std.proofs.Common.{◌≡◌, inl, inr, ℕ, zero, suc, ◌+◌, ◌<◌, [], subst, arith}
use Rattle.std.specs.List.{Contains}
use Rattle.std.proofs.lemmas.Bool.{cases_lt}
use Rattle.std.proofs.lemmas.List.Elements.{Contains-append_cases, Contains-append_left, Contains-append_right}
use Rattle.mc_order.proofs.StampCounts.{stamps_fit}
use Rattle.mc_merge.specs.Clocks.{AreClocked, IsHeardStamp, IsMadeStamp, PartStampsFit, own_stamps, stamps_below}
use Rattle.mc_merge.specs.Together.{Ran}

pub none_there : (x : ℕ) → Contains [] x → ⊥
none_there x has =
    let below : has.0 < 0 = has.1 in
    omega arith

pub to_all : (count : ℕ) (parts : ℕ → Ran) (part stamp : ℕ) → part < count → Contains (own_stamps (parts part).log) stamp → Contains (stamps_below count parts) stamp
to_all zero parts part stamp inside has = absurd (omega arith)
to_all (suc count) parts part stamp inside has = elim (cases_lt part count) [
  | inl lower ↦ Contains-append_left (stamps_below count parts) (own_stamps (parts count).log) stamp (to_all count parts part stamp lower has)
  | inr last ↦
      let same : part ≡ count = omega arith in
      Contains-append_right (stamps_below count parts) (own_stamps (parts count).log) stamp (subst (λ (p : ℕ). Contains (own_stamps (parts p).log) stamp) same has)
]

abbrev FromOne : ℕ → (ℕ → Ran) → ℕ → Type 0
FromOne count parts stamp = (part : ℕ) × (part < count) × Contains (own_stamps (parts part).log) stamp

from_all : (count : ℕ) (parts : ℕ → Ran) (stamp : ℕ) → Contains (stamps_below count parts) stamp → FromOne count parts stamp
from_all zero parts stamp has = absurd (none_there stamp has)
from_all (suc count) parts stamp has = elim (Contains-append_cases (stamps_below count parts) (own_stamps (parts count).log) stamp has) [
  | inl lower ↦
      let rest = from_all count parts stamp lower in
      let below : rest.0 < count = rest.1 in
      (rest.0, omega arith, rest.2)
  | inr last ↦ (count, omega arith, last)
]

-- a stamp that a part made, and that is not the 0 from which it began
made_there : (count : ℕ) (parts : ℕ → Ran) (part k : ℕ) → AreClocked count parts → part < count → IsMadeStamp (parts part).old (parts part).log (k + 1) → Contains (stamps_below count parts) (k + 1)
made_there count parts part k are inside made = elim made [
  | inl first ↦
      let zero_is : (parts part).old.stamp ≡ 0 = are.stamp part inside in
      absurd (omega arith)
  | inr has ↦ to_all count parts part (k + 1) inside has
]

heard_there : (count : ℕ) (parts : ℕ → Ran) (part k : ℕ) → AreClocked count parts → part < count → IsHeardStamp (parts part).old (parts part).gave (k + 1) → Contains (stamps_below count parts) (k + 1)
heard_there count parts part k are inside heard = elim heard [
  | inl first ↦
      let zero_is : (parts part).old.heard ≡ 0 = are.heard part inside in
      absurd (omega arith)
  | inr has ↦
      let ring = are.rings part has.0 (k + 1) inside has.1 in
      made_there count parts ring.0 k are ring.1 ((are.clocked ring.0 ring.1).puts ring.2.0 (k + 1) ring.2.1)
]

gapless : (count : ℕ) (parts : ℕ → Ran) → AreClocked count parts → (k : ℕ) → Contains (stamps_below count parts) (k + 2) → Contains (stamps_below count parts) (k + 1)
gapless count parts are k has =
    let one = from_all count parts (k + 2) has in
    let same : k + 2 ≡ (k + 1) + 1 = omega arith in
    elim ((are.clocked one.0 one.1).turns (k + 1) (subst (λ (n : ℕ). Contains (own_stamps (parts one.0).log) n) same one.2)) [
      | inl made ↦ made_there count parts one.0 k are one.1 made
      | inr heard ↦ heard_there count parts one.0 k are one.1 heard
    ]

pub part_stamps_fit : PartStampsFit
part_stamps_fit count parts are = stamps_fit (stamps_below count parts) (gapless count parts are)
