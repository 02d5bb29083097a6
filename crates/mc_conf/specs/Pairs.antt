-- Who hears whom in a conference, as a relation on the paths, and its laws.
use Rattle.std.specs.Prelude.{◌≡◌, ◌≢◌, ◌⊎◌, ◌<◌, ◌↔◌, ℕ, IsSome, List, [], ◌∷◌, Contains, Some, map}
use Rattle.std.specs.List.{AllByRecursion}
use Rattle.mc_view.specs.declared.PathView.{PathView}
use Rattle.mc_conf.specs.Legs.{IsLeg, legs_in}
use Rattle.mc_conf.specs.Mixes.{first_codec, mixes}
use Rattle.mc_conf.specs.declared.mixing.Mix.{Mix}
use Rattle.mc_conf.specs.declared.party.Leg.{Leg}

-- two legs, by their parties, and the codec in which the one hears the other
pub record Pair : Type 0 where
  pub hearer : Leg
  pub heard : Leg
  pub codec : ℕ

-- the one hears the other: they are two parties of one medium, the one wants media, the first of its own codecs best,
-- and the other can send some
pub record Hears (pair : Pair) : Type 0 where
  pub apart : pair.hearer.party.slot ≢ pair.heard.party.slot
  pub medium : pair.hearer.medium ≡ pair.heard.medium
  pub codec : first_codec pair.hearer.party.own.codecs ≡ Some pair.codec
  pub sends : IsSome (first_codec pair.heard.party.sends)

-- one of the paths is this leg of the box
abbrev pub HasLeg : List PathView → ℕ → Leg → Type 0
HasLeg views who leg = (view : PathView) × Contains views view × IsLeg who view leg

-- a pair of legs of the box of which the one party hears the other
pub record IsMix (views : List PathView) (who : ℕ) (pair : Pair) : Type 0 where
  pub hearer : HasLeg views who pair.hearer
  pub heard : HasLeg views who pair.heard
  pub hears : Hears pair

-- by the hearer's slot number, and then by that of the heard
abbrev pub IsBefore : Pair → Pair → Type 0
IsBefore one other = (one.hearer.party.slot < other.hearer.party.slot)
    ⊎ ((one.hearer.party.slot ≡ other.hearer.party.slot) × (one.heard.party.slot < other.heard.party.slot))

-- each is before all later ones
abbrev pub Rise : List Pair → Type 0
Rise [] = Unit {0}
Rise (pair ∷ pairs) = AllByRecursion (IsBefore pair) pairs × Rise pairs

-- no slot is the party of two of these legs
abbrev pub PartiesDiffer : List Leg → Type 0
PartiesDiffer [] = Unit {0}
PartiesDiffer (leg ∷ legs) = AllByRecursion (λ other. leg.party.slot ≢ other.party.slot) legs × PartiesDiffer legs

-- a pair by the boxes and the local slots of its parties
abbrev pub shown : Pair → Mix
shown pair = record {
  hearer = (pair.hearer.party.who, pair.hearer.party.local);
  heard = (pair.heard.party.who, pair.heard.party.local);
  codec = pair.codec;
}

-- these are all pairs of a box, each once, and no other
pub record AreAllPairs (views : List PathView) (who : ℕ) (found : List Mix) : Type 0 where
  pub pairs : List Pair
  pub found_is : found ≡ map shown pairs
  pub each : (pair : Pair) → Contains pairs pair ↔ IsMix views who pair
  pub rise : Rise pairs

-- ---- laws

abbrev pub MixesAreAllPairs : Type 0
MixesAreAllPairs =
    (views : List PathView) (who : ℕ) → PartiesDiffer (legs_in views who) → AreAllPairs views who (mixes views who)

-- two lists of paths have the same legs of a box
abbrev pub HaveSameLegs : (one other : List PathView) → ℕ → Type 0
HaveSameLegs one other who = (leg : Leg) → HasLeg one who leg ↔ HasLeg other who leg

abbrev pub OthersChangeNothing : Type 0
OthersChangeNothing =
    (one other : List PathView) (who : ℕ) → PartiesDiffer (legs_in one who) → PartiesDiffer (legs_in other who)
    → HaveSameLegs one other who → mixes one who ≡ mixes other who
