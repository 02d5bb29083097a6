-- A box's slots have at its channel ends the tunnels that the lanes there have for it.
use Rattle.std.proofs.Common.{◌≡◌, ◌⊎◌, inl, inr, ℕ, ◌+◌, ◌*◌, ◌%◌, ◌<◌, ◌≤◌, ◌==◌, Bool, if◌then◌else◌, List, Option, Some, None, length, slice_get, refl, ap, sym, ◌∙◌, subst, arith, eq-eqb, ne_eqb}
use Rattle.std.proofs.lemmas.Bool.{cases_eq, cases_lt}
use Rattle.std.proofs.lemmas.Grind.{common_steps}
use Rattle.std.proofs.lemmas.Option.{slice_get_past}
use Rattle.std.specs.Option.{option_map}
use Rattle.mc_laws.proofs.LanesKept.{far_tunnel}
use Rattle.mc_laws.proofs.Numbers.{far_back, number_is, some_same}
use Rattle.mc_team.specs.Layouts.{AreEnds, IsPlacedAt, at_end, ends_of_lane, of_box}
use Rattle.mc_team.specs.declared.layout.LaneEnds.{LaneEnds}
use Rattle.mc_port.specs.Tunnels.{tunnel_if_at, tunnels_at}
use Rattle.mc_merge.specs.Lanes.{into_box, lane_place, out_of_box, tunnel_at}
use Rattle.mc_model.specs.Sound.{IsNumbered}
use Rattle.mc_model.specs.Worlds.{TunnelPlace, WorldState, box_at, far, lane_of, number, place, slot_count, tunnel_of}

-- ---- the place of a slot

-- a slot of the box with this local number, and its place
pub record HasSlot (world : WorldState) (ends : List (List ℕ)) (places : List (List (ℕ × ℕ))) (who local : ℕ) : Type 0 where
  pub s : ℕ
  pub number : number world who local ≡ Some s
  pub end : ℕ
  pub at : at_end places who local ≡ Some (end, (tunnel_of world s).within)
  pub lane : at_end ends who end ≡ Some (lane_of world s)

-- or there is none
pub record HasNone (world : WorldState) (places : List (List (ℕ × ℕ))) (who local : ℕ) : Type 0 where
  pub number : number world who local ≡ None
  pub at : at_end places who local ≡ None

-- one or the other
abbrev pub MayHaveSlot : WorldState → List (List ℕ) → List (List (ℕ × ℕ)) → ℕ → ℕ → Type 0
MayHaveSlot world ends places who local = HasSlot world ends places who local ⊎ HasNone world places who local

-- each slot is placed
abbrev pub ArePlaced : WorldState → List (List ℕ) → List (List (ℕ × ℕ)) → Type 0
ArePlaced world ends places = (s : ℕ) → s < slot_count world → IsPlacedAt world.boxes world.channels ends places s

-- a local number below the count has its slot
slot_there : (world : WorldState) (ends : List (List ℕ)) (places : List (List (ℕ × ℕ))) (who local : ℕ) → IsNumbered world → ArePlaced world ends places → who < length world.boxes → local < length (box_at world who).slots
    → HasSlot world ends places who local
slot_there world ends places who local numbered placed there inside =
    let it = numbered.all who local there inside in
    let one = placed it.0 it.1 in
    record {
      s = it.0;
      number = subst (λ (p : ℕ × ℕ). number world p.0 p.1 ≡ Some it.0) it.2 (numbered.once it.0 it.1);
      end = one.end;
      at = subst (λ (p : ℕ × ℕ). at_end places p.0 p.1 ≡ Some (one.end, (tunnel_of world it.0).within)) it.2 one.at;
      lane = subst (λ (p : ℕ × ℕ). at_end ends p.0 one.end ≡ Some (lane_of world it.0)) it.2 one.lane;
    }

-- one that isn't below it has none
none_by : (found : Option ℕ) (world : WorldState) (who local : ℕ) → number world who local ≡ found → IsNumbered world → length (box_at world who).slots ≤ local → number world who local ≡ None
none_by None world who local is numbered past = is
none_by (Some s) world who local is numbered past =
    let at = number_is world who local s is in
    let inside : local < length (box_at world who).slots =
    subst (λ (w : ℕ). local < length (box_at world w).slots) at.1 (subst (λ (l : ℕ). l < length (box_at world (place world s).0).slots) at.2 (numbered.slots s at.0)) in
    absurd (omega arith)

-- so each has it or not
pub may_have_slot : (world : WorldState) (ends : List (List ℕ)) (places : List (List (ℕ × ℕ))) (who local : ℕ) → IsNumbered world → ArePlaced world ends places → who < length world.boxes
    → length (of_box places who) ≡ length (box_at world who).slots → MayHaveSlot world ends places who local
may_have_slot world ends places who local numbered placed there long = elim (cases_lt local (length (box_at world who).slots)) [
  | inl inside ↦ inl (slot_there world ends places who local numbered placed there inside)
  | inr past ↦ inr (record { number = none_by (number world who local) world who local refl numbered past; at = slice_get_past (of_box places who) local (omega arith) })
]

-- ---- its tunnels

-- tests that hold together are the same
same_test : (a b c d : ℕ) → (a ≡ b → c ≡ d) → (c ≡ d → a ≡ b) → (a == b) ≡ (c == d)
same_test a b c d to back = elim (cases_eq a b) [
  | inl same ↦ eq-eqb a b same ∙ sym (eq-eqb c d (to same))
  | inr off ↦ ne_eqb a b off ∙ sym (ne_eqb c d (λ same. off (back same)))
]

-- the tunnel of each slot
pub tunnels_same : (world : WorldState) (ends : List (List ℕ)) (places : List (List (ℕ × ℕ))) (who local : ℕ) → MayHaveSlot world ends places who local
    → option_map (λ (place : ℕ × ℕ). place.1) (slice_get (of_box places who) local) ≡ tunnel_at world who local
tunnels_same world ends places who local (inl has) = ap (λ (o : Option (ℕ × ℕ)). option_map (λ (place : ℕ × ℕ). place.1) o) has.at ∙ sym (ap (λ (o : Option ℕ). option_map (λ (s : ℕ). (tunnel_of world s).within) o) has.number)
tunnels_same world ends places who local (inr none) = ap (λ (o : Option (ℕ × ℕ)). option_map (λ (place : ℕ × ℕ). place.1) o) none.at ∙ sym (ap (λ (o : Option ℕ). option_map (λ (s : ℕ). (tunnel_of world s).within) o) none.number)

-- at the end to which a lane leads
pub tunnels_into : (world : WorldState) (lanes : List LaneEnds) (ends : List (List ℕ)) (places : List (List (ℕ × ℕ))) (lane local : ℕ) → AreEnds lanes ends → lane < length lanes
    → MayHaveSlot world ends places (ends_of_lane lanes lane).to local
    → tunnels_at (of_box places (ends_of_lane lanes lane).to) (ends_of_lane lanes lane).to_end local ≡ into_box world (ends_of_lane lanes lane).to lane local
tunnels_into world lanes ends places lane local are below (inl has) =
    let to : ℕ = (ends_of_lane lanes lane).to in
    let to_end : ℕ = (ends_of_lane lanes lane).to_end in
    let test : (has.end == (ends_of_lane lanes lane).to_end) ≡ (lane_of world has.s == lane) =
    same_test has.end to_end (lane_of world has.s) lane
    (λ same. some_same (lane_of world has.s) lane (sym (subst (λ (e : ℕ). at_end ends to e ≡ Some (lane_of world has.s)) same has.lane) ∙ are.taking lane below))
    (λ same. sym (are.taker to has.end (lane_of world has.s) has.lane).1 ∙ ap (λ (l : ℕ). (ends_of_lane lanes l).to_end) same) in
    ap (λ (o : Option (ℕ × ℕ)). tunnel_if_at to_end o) has.at
    ∙ (ap (λ (t : Bool). if t then Some (tunnel_of world has.s).within else None) test
    ∙ sym (ap (λ (o : Option ℕ). tunnel_if_at lane (option_map (λ (s : ℕ). lane_place world s) o)) has.number))
tunnels_into world lanes ends places lane local are below (inr none) =
    ap (λ (o : Option (ℕ × ℕ)). tunnel_if_at (ends_of_lane lanes lane).to_end o) none.at ∙ sym (ap (λ (o : Option ℕ). tunnel_if_at lane (option_map (λ (s : ℕ). lane_place world s) o)) none.number)

-- the far slot's number, by its channel
far_sum : (channel s : ℕ) → 2 * channel + far s % 2 ≡ far (2 * channel + s % 2)
far_sum channel s = grind (arith, common_steps)

-- the lane that leads to the far slot
far_lane : (world : WorldState) (s : ℕ) → lane_of world (far s) ≡ far (lane_of world s)
far_lane world s = ap (λ (t : TunnelPlace). 2 * t.channel + far s % 2) (far_tunnel world s) ∙ far_sum (tunnel_of world s).channel s

-- and at the one from which it leads
pub tunnels_out : (world : WorldState) (lanes : List LaneEnds) (ends : List (List ℕ)) (places : List (List (ℕ × ℕ))) (lane local : ℕ) → AreEnds lanes ends → lane < length lanes
    → MayHaveSlot world ends places (ends_of_lane lanes lane).from local
    → tunnels_at (of_box places (ends_of_lane lanes lane).from) (ends_of_lane lanes lane).from_end local ≡ out_of_box world (ends_of_lane lanes lane).from lane local
tunnels_out world lanes ends places lane local are below (inl has) =
    let from : ℕ = (ends_of_lane lanes lane).from in
    let from_end : ℕ = (ends_of_lane lanes lane).from_end in
    let away : lane_of world (far has.s) ≡ far (lane_of world has.s) = far_lane world has.s in
    let test : (has.end == (ends_of_lane lanes lane).from_end) ≡ (lane_of world (far has.s) == lane) =
    same_test has.end from_end (lane_of world (far has.s)) lane
    (λ same. away ∙ (ap far (some_same (lane_of world has.s) (far lane) (sym (subst (λ (e : ℕ). at_end ends from e ≡ Some (lane_of world has.s)) same has.lane) ∙ are.giving lane below)) ∙ far_back lane))
    (λ same. sym (are.giver from has.end (lane_of world has.s) has.lane).1 ∙ ap (λ (l : ℕ). (ends_of_lane lanes l).from_end) (sym away ∙ same)) in
    ap (λ (o : Option (ℕ × ℕ)). tunnel_if_at from_end o) has.at
    ∙ (ap (λ (t : Bool). if t then Some (tunnel_of world has.s).within else None) test
    ∙ (ap (λ (t : TunnelPlace). if lane_of world (far has.s) == lane then Some t.within else None) (sym (far_tunnel world has.s))
    ∙ sym (ap (λ (o : Option ℕ). tunnel_if_at lane (option_map (λ (s : ℕ). lane_place world (far s)) o)) has.number)))
tunnels_out world lanes ends places lane local are below (inr none) =
    ap (λ (o : Option (ℕ × ℕ)). tunnel_if_at (ends_of_lane lanes lane).from_end o) none.at ∙ sym (ap (λ (o : Option ℕ). tunnel_if_at lane (option_map (λ (s : ℕ). lane_place world (far s)) o)) none.number)
