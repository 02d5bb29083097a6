-- Rings stay where channels join.
use Rattle.std.proofs.Common.{◌≡◌, ◌<◌, ℕ, zero, suc, false, Option, Some, None, List, [], ◌∷◌, refl, ap, sym, ◌∙◌, subst, arith}
use Rattle.std.specs.List.{slice_get}
use Rattle.mc_signal.specs.declared.Medium.{Medium}
use Rattle.mc_growth.specs.Growths.{Cut, GrownState, Growth, Join, grown_by, grown_by_all}
use Rattle.mc_growth.specs.Joins.{MayJoin, joined}
use Rattle.mc_growth.proofs.Joined.{count_joined}
use Rattle.mc_growth.proofs.JoinedPartners.{next_before}
use Rattle.mc_laws.proofs.Partners.{next_is}
use Rattle.mc_laws.proofs.Reaches.{comes_to_end}
use Rattle.mc_laws.proofs.RingWalks.{rings_meet_no_end}
use Rattle.mc_model.specs.Paths.{has_ring, next_slot, walk}
use Rattle.mc_model.specs.Rings.{IsOnRing}
use Rattle.mc_model.specs.Sound.{IsSound}
use Rattle.mc_model.specs.Worlds.{WorldState, slot_count}
use Rattle.mc_stages.specs.Plans.{MayAskAll}
use Rattle.mc_stages.proofs.Grows.{sound_one}

-- a walk from a slot that was there stays
walk_same : (most : ℕ) (world : WorldState) (medium : Medium) (from to : ℕ) (o : Option ℕ) → IsSound world → MayJoin world from to → ((s : ℕ) → o ≡ Some s → s < slot_count world)
    → walk (joined world medium from to) o most ≡ walk world o most
walk_same most world medium from to None sound may there = refl
walk_same zero world medium from to (Some s) sound may there = refl
walk_same (suc most) world medium from to (Some s) sound may there =
    let inside = there s refl in
    ap (λ (l : List ℕ). s ∷ l)
    (ap (λ (o : Option ℕ). walk (joined world medium from to) o most) (next_before world medium from to s sound may inside)
    ∙ walk_same most world medium from to (next_slot world s) sound may (λ t is. (next_is world s t sound inside is).inside))

is_there : (world : WorldState) (s t : ℕ) → s < slot_count world → Some s ≡ Some t → t < slot_count world
is_there world s t inside is = let same : s ≡ t = cc in subst (λ (n : ℕ). n < slot_count world) same inside

-- a slot is there, and on a ring
record StandsOnRing (world : WorldState) (s : ℕ) : Type 0 where
  inside : s < slot_count world
  ring : IsOnRing world s

join_still : (world : WorldState) (medium : Medium) (from to s : ℕ) → IsSound world → MayJoin world from to → StandsOnRing world s → StandsOnRing (joined world medium from to) s
join_still world medium from to s sound may stands = record {
  inside = let inside = stands.inside in omega (arith, inside, count_joined world medium from to);
  ring = record {
    count = stands.ring.count;
    some = stands.ring.some;
    back = ap (λ (l : List ℕ). slice_get l stands.ring.count) (walk_same (suc stands.ring.count) world medium from to (Some s) sound may (λ t is. is_there world s t stands.inside is)) ∙ stands.ring.back;
  };
}

one_still : (growth : Growth) (network : GrownState) (s : ℕ) → IsSound network.world → MayAskAll network (growth ∷ []) → StandsOnRing network.world s → StandsOnRing (grown_by network growth).world s
one_still (Join medium from to) network s sound may stands = join_still network.world medium from to s sound may.0 stands
one_still (Cut channel) network s sound may stands = stands

all_still : (growths : List Growth) (network : GrownState) (s : ℕ) → IsSound network.world → MayAskAll network growths → StandsOnRing network.world s → StandsOnRing (grown_by_all network growths).world s
all_still [] network s sound may stands = stands
all_still (growth ∷ growths) network s sound may stands =
    all_still growths (grown_by network growth) s (sound_one growth network sound may.0) may.1 (one_still growth network s sound (may.0, tt) stands)

-- without a ring no slot stands on one
pub none_on : (world : WorldState) (s : ℕ) → IsSound world → has_ring world ≡ false → s < slot_count world → IsOnRing world s → ⊥
none_on world s sound free inside ring =
    let end = comes_to_end world s free inside in
    let none = (rings_meet_no_end world s sound inside).1 ring in
    let clash : Some end.0 ≡ None = sym end.1 ∙ none in
    cc

-- so where there is none after joins and cuts, there was none before them
pub none_before : (growths : List Growth) (network : GrownState) (s : ℕ) → IsSound network.world → MayAskAll network growths → IsSound (grown_by_all network growths).world
    → has_ring (grown_by_all network growths).world ≡ false → s < slot_count network.world → IsOnRing network.world s → ⊥
none_before growths network s sound may strong free inside ring =
    let stands = all_still growths network s sound may (record { inside = inside; ring = ring }) in
    none_on (grown_by_all network growths).world s strong free stands.inside stands.ring
