-- The legs of a conference box.
use Rattle.std.specs.Prelude.{◌≡◌, ◌≢◌, ◌⊎◌, ◌==◌, ℕ, Bool, true, false, if◌then◌else◌, count_by, is_some, nat_le, List, [], ◌∷◌, Option, Some, None}
use Rattle.std.specs.List.{filter_map}
use Rattle.std.specs.Option.{option_and_then}
use Rattle.mc_signal.specs.declared.Medium.{Medium}
use Rattle.mc_view.specs.declared.EndView.{EndView}
use Rattle.mc_view.specs.declared.PathView.{PathView}
use Rattle.mc_conf.specs.declared.party.Leg.{Leg}

-- ---- one leg

-- an end and the other one of a path
abbrev pub AreEnds : PathView → (near far : EndView) → Type 0
AreEnds view near far = ((near ≡ view.low) × (far ≡ view.high)) ⊎ ((near ≡ view.high) × (far ≡ view.low))

-- a path is a leg of a box: it flows, exactly one of its ends is on the box, and the other one, its party, is a
-- device's
pub record IsLeg (who : ℕ) (view : PathView) (leg : Leg) : Type 0 where
  pub near : EndView
  pub ends : AreEnds view near leg.party
  pub flows : view.flowing ≡ true
  pub here : near.who ≡ who
  pub away : leg.party.who ≢ who
  pub device : leg.party.device ≡ true
  pub medium : leg.medium ≡ view.medium

-- the same as a value: the leg to an end, if it is a device's
abbrev pub leg_to : Medium → EndView → Option Leg
leg_to medium party = if party.device then Some (record { party = party; medium = medium }) else None

-- the end that isn't on the box, by whether the lower one is, and whether the higher one is
abbrev pub far_end : (low high : Bool) → PathView → Option EndView
far_end true false view = Some view.high
far_end false true view = Some view.low
far_end low high view = None

-- the leg that a path is, if it is one
abbrev pub leg_of : ℕ → PathView → Option Leg
leg_of who view =
    if view.flowing
    then option_and_then (leg_to view.medium) (far_end (view.low.who == who) (view.high.who == who) view)
    else None

-- ---- all legs

-- in the order of the paths
abbrev pub legs_in : List PathView → ℕ → List Leg
legs_in views who = filter_map (leg_of who) views

-- how many there are
abbrev pub legs : List PathView → ℕ → ℕ
legs views who = count_by (λ view. is_some (leg_of who view)) views

-- a leg in its place among others
abbrev pub inserted : Leg → List Leg → List Leg
inserted leg [] = leg ∷ []
inserted leg (first ∷ rest) =
    if nat_le leg.party.slot first.party.slot then leg ∷ first ∷ rest else first ∷ inserted leg rest

-- legs by the numbers of their parties' slots
abbrev pub in_order : List Leg → List Leg
in_order [] = []
in_order (leg ∷ legs) = inserted leg (in_order legs)
