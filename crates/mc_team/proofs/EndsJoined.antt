-- The channel ends of the boxes, where a channel more joins two of them.
use Rattle.std.proofs.Common.{◌≡◌, ◌<◌, ◌+◌, ◌*◌, ◌⊎◌, inl, inr, ℕ, Some, List, [], ◌∷◌, ◌++◌, length, ap, sym, ◌∙◌, subst, arith}
use Rattle.std.proofs.lemmas.Bool.{cases_eq, cases_lt}
use Rattle.std.proofs.lemmas.Grind.{common_steps}
use Rattle.std.proofs.lemmas.List.{get_or_append_left, get_or_push, length_push}
use Rattle.mc_team.specs.Layouts.{AreEnds, at_end, ends_of_lane, no_lane_ends, of_box}
use Rattle.mc_team.specs.declared.layout.LaneEnds.{LaneEnds}
use Rattle.mc_team.proofs.TeamAdded.{boxes_added, entry_added, entry_stays, old_or_added, with_added}
use Rattle.mc_model.specs.Worlds.{far}

-- ---- two lanes more

-- lanes of a channel more: the first leads to its initiator
abbrev pub with_lanes : List LaneEnds → LaneEnds → LaneEnds → List LaneEnds
with_lanes lanes first second = lanes ++ first ∷ [] ++ second ∷ []

pub lanes_more : (lanes : List LaneEnds) (first second : LaneEnds) → length (with_lanes lanes first second) ≡ length lanes + 2
lanes_more lanes first second = omega (arith, length_push (lanes ++ first ∷ []) second, length_push lanes first)

pub lane_before : (lanes : List LaneEnds) (first second : LaneEnds) (lane : ℕ) → lane < length lanes → ends_of_lane (with_lanes lanes first second) lane ≡ ends_of_lane lanes lane
lane_before lanes first second lane below =
    get_or_append_left (lanes ++ first ∷ []) (second ∷ []) no_lane_ends lane (omega (arith, length_push lanes first))
    ∙ get_or_append_left lanes (first ∷ []) no_lane_ends lane below

pub lane_first : (lanes : List LaneEnds) (first second : LaneEnds) (lane : ℕ) → length lanes ≡ lane → ends_of_lane (with_lanes lanes first second) lane ≡ first
lane_first lanes first second lane is =
    get_or_append_left (lanes ++ first ∷ []) (second ∷ []) no_lane_ends lane (omega (arith, length_push lanes first))
    ∙ get_or_push lanes first no_lane_ends lane is

pub lane_second : (lanes : List LaneEnds) (first second : LaneEnds) (lane : ℕ) → length lanes + 1 ≡ lane → ends_of_lane (with_lanes lanes first second) lane ≡ second
lane_second lanes first second lane is = get_or_push (lanes ++ first ∷ []) second no_lane_ends lane (length_push lanes first ∙ is)

-- ---- the far lane

pub far_first : (n : ℕ) → far (2 * n) ≡ 2 * n + 1
far_first n = grind (arith, common_steps)

pub far_second : (n : ℕ) → far (2 * n + 1) ≡ 2 * n
far_second n = grind (arith, common_steps)

pub far_below : (lane n : ℕ) → lane < 2 * n → far lane < 2 * n
far_below lane n below = grind (arith, common_steps)

-- a lane is an old one, or one of the two
pub record IsOneOf (lane n : ℕ) : Type 0 where
  pub is : (lane < 2 * n) ⊎ ((lane ≡ 2 * n) ⊎ (lane ≡ 2 * n + 1))

pub one_of : (lane n count : ℕ) → count ≡ 2 * n + 2 → lane < count → IsOneOf lane n
one_of lane n count is below = elim (cases_lt lane (2 * n)) [
  | inl old ↦ record { is = inl old }
  | inr new ↦ elim (cases_eq lane (2 * n)) [
    | inl first ↦ record { is = inr (inl first) }
    | inr second ↦ record { is = inr (inr (omega arith)) }
  ]
]

-- ---- the ends of a channel

-- the two ends of its lanes, and where they are
pub record AreJoined (lanes : List LaneEnds) (ends : List (List ℕ)) (n from to from_end to_end : ℕ) : Type 0 where
  pub count : length lanes ≡ 2 * n
  pub from_there : from < length ends
  pub to_there : to < length ends
  pub from_is : from_end ≡ length (of_box ends from)
  pub to_is : to_end ≡ length (of_box (with_added ends from (2 * n)) to)

abbrev pub to_initiator : ℕ → ℕ → ℕ → ℕ → LaneEnds
to_initiator from to from_end to_end = record { from = to; from_end = to_end; to = from; to_end = from_end }

abbrev pub to_other : ℕ → ℕ → ℕ → ℕ → LaneEnds
to_other from to from_end to_end = record { from = from; from_end = from_end; to = to; to_end = to_end }

abbrev pub joined_lanes : List LaneEnds → ℕ → ℕ → ℕ → ℕ → List LaneEnds
joined_lanes lanes from to from_end to_end = with_lanes lanes (to_initiator from to from_end to_end) (to_other from to from_end to_end)

abbrev pub joined_ends : List (List ℕ) → ℕ → ℕ → ℕ → List (List ℕ)
joined_ends ends n from to = with_added (with_added ends from (2 * n)) to (2 * n + 1)

-- the second box is still there
pub to_still : (lanes : List LaneEnds) (ends : List (List ℕ)) (n from to from_end to_end : ℕ) → AreJoined lanes ends n from to from_end to_end → to < length (with_added ends from (2 * n))
to_still lanes ends n from to from_end to_end joined = omega (arith, joined.to_there, boxes_added ends from (2 * n))

-- an end that was there is still there
pub end_stays : (lanes : List LaneEnds) (ends : List (List ℕ)) (n from to from_end to_end who end lane : ℕ) → AreJoined lanes ends n from to from_end to_end → at_end ends who end ≡ Some lane → at_end (joined_ends ends n from to) who end ≡ Some lane
end_stays lanes ends n from to from_end to_end who end lane joined is =
    entry_stays (with_added ends from (2 * n)) to (2 * n + 1) who end lane (to_still lanes ends n from to from_end to_end joined)
    (entry_stays ends from (2 * n) who end lane joined.from_there is)

pub from_end_read : (lanes : List LaneEnds) (ends : List (List ℕ)) (n from to from_end to_end : ℕ) → AreJoined lanes ends n from to from_end to_end → at_end (joined_ends ends n from to) from from_end ≡ Some (2 * n)
from_end_read lanes ends n from to from_end to_end joined =
    entry_stays (with_added ends from (2 * n)) to (2 * n + 1) from from_end (2 * n) (to_still lanes ends n from to from_end to_end joined)
    (entry_added ends from (2 * n) from_end joined.from_there joined.from_is)

pub to_end_read : (lanes : List LaneEnds) (ends : List (List ℕ)) (n from to from_end to_end : ℕ) → AreJoined lanes ends n from to from_end to_end → at_end (joined_ends ends n from to) to to_end ≡ Some (2 * n + 1)
to_end_read lanes ends n from to from_end to_end joined =
    entry_added (with_added ends from (2 * n)) to (2 * n + 1) to_end (to_still lanes ends n from to from_end to_end joined) joined.to_is

-- ---- each lane has its ends

-- the end of a lane, where that is read
record IsRead (ends : List (List ℕ)) (at : LaneEnds) (lane : ℕ) : Type 0 where
  taking : at_end ends at.to at.to_end ≡ Some lane
  giving : at_end ends at.from at.from_end ≡ Some (far lane)

each_lane : (lanes : List LaneEnds) (ends : List (List ℕ)) (n from to from_end to_end lane : ℕ) → AreJoined lanes ends n from to from_end to_end → AreEnds lanes ends
    → IsOneOf lane n → IsRead (joined_ends ends n from to) (ends_of_lane (joined_lanes lanes from to from_end to_end) lane) lane
each_lane lanes ends n from to from_end to_end lane joined old which =
    let first : LaneEnds = to_initiator from to from_end to_end in
    let second : LaneEnds = to_other from to from_end to_end in
    let all : List (List ℕ) = joined_ends ends n from to in
    elim which.is [
      | inl below ↦
          let inside : lane < length lanes = omega (arith, joined.count) in
          subst (λ (e : LaneEnds). IsRead all e lane) (sym (lane_before lanes first second lane inside))
          (record {
            taking = end_stays lanes ends n from to from_end to_end _ _ lane joined (old.taking lane inside);
            giving = end_stays lanes ends n from to from_end to_end _ _ (far lane) joined (old.giving lane inside);
          })
      | inr new ↦ elim new [
        | inl is ↦
            subst (λ (l : ℕ). IsRead all (ends_of_lane (with_lanes lanes first second) l) l) (sym is)
            (subst (λ (e : LaneEnds). IsRead all e (2 * n)) (sym (lane_first lanes first second (2 * n) joined.count))
            (record {
              taking = from_end_read lanes ends n from to from_end to_end joined;
              giving = to_end_read lanes ends n from to from_end to_end joined ∙ ap (λ (l : ℕ). Some l) (sym (far_first n));
            }))
        | inr is ↦
            subst (λ (l : ℕ). IsRead all (ends_of_lane (with_lanes lanes first second) l) l) (sym is)
            (subst (λ (e : LaneEnds). IsRead all e (2 * n + 1)) (sym (lane_second lanes first second (2 * n + 1) (ap (λ (l : ℕ). l + 1) joined.count)))
            (record {
              taking = to_end_read lanes ends n from to from_end to_end joined;
              giving = from_end_read lanes ends n from to from_end to_end joined ∙ ap (λ (l : ℕ). Some l) (sym (far_second n));
            }))
      ]
    ]

-- ---- each end is that of a lane

record IsOfLane (lanes : List LaneEnds) (who end lane : ℕ) : Type 0 where
  there : lane < length lanes
  taker : ((ends_of_lane lanes lane).to ≡ who) × ((ends_of_lane lanes lane).to_end ≡ end)
  giver : ((ends_of_lane lanes (far lane)).from ≡ who) × ((ends_of_lane lanes (far lane)).from_end ≡ end)

old_end : (lanes : List LaneEnds) (ends : List (List ℕ)) (first second : LaneEnds) (n who end lane : ℕ) → length lanes ≡ 2 * n → AreEnds lanes ends → at_end ends who end ≡ Some lane → IsOfLane (with_lanes lanes first second) who end lane
old_end lanes ends first second n who end lane count old is =
    let inside : lane < length lanes = old.there who end lane is in
    let far_inside : far lane < length lanes = subst (λ (l : ℕ). far lane < l) (sym count) (far_below lane n (subst (λ (l : ℕ). lane < l) count inside)) in
    let here : ends_of_lane (with_lanes lanes first second) lane ≡ ends_of_lane lanes lane = lane_before lanes first second lane inside in
    let there : ends_of_lane (with_lanes lanes first second) (far lane) ≡ ends_of_lane lanes (far lane) = lane_before lanes first second (far lane) far_inside in
    let taker = old.taker who end lane is in
    let giver = old.giver who end lane is in
    record {
      there = omega (arith, inside, lanes_more lanes first second);
      taker = (ap (λ (e : LaneEnds). e.to) here ∙ taker.0, ap (λ (e : LaneEnds). e.to_end) here ∙ taker.1);
      giver = (ap (λ (e : LaneEnds). e.from) there ∙ giver.0, ap (λ (e : LaneEnds). e.from_end) there ∙ giver.1);
    }

-- the end of one of the new lanes, whose far lane is the other
new_end : (lanes : List LaneEnds) (at away : LaneEnds) (who end lane other : ℕ) → lane < length lanes → far lane ≡ other → ends_of_lane lanes lane ≡ at → ends_of_lane lanes other ≡ away
    → at.to ≡ who → at.to_end ≡ end → away.from ≡ who → away.from_end ≡ end → IsOfLane lanes who end lane
new_end lanes at away who end lane other inside is at_is away_is to to_end from from_end =
    let there : ends_of_lane lanes (far lane) ≡ away = ap (λ (l : ℕ). ends_of_lane lanes l) is ∙ away_is in
    record {
      there = inside;
      taker = (ap (λ (e : LaneEnds). e.to) at_is ∙ to, ap (λ (e : LaneEnds). e.to_end) at_is ∙ to_end);
      giver = (ap (λ (e : LaneEnds). e.from) there ∙ from, ap (λ (e : LaneEnds). e.from_end) there ∙ from_end);
    }

each_end : (lanes : List LaneEnds) (ends : List (List ℕ)) (n from to from_end to_end who end lane : ℕ) → AreJoined lanes ends n from to from_end to_end → AreEnds lanes ends
    → at_end (joined_ends ends n from to) who end ≡ Some lane → IsOfLane (joined_lanes lanes from to from_end to_end) who end lane
each_end lanes ends n from to from_end to_end who end lane joined old is =
    let first : LaneEnds = to_initiator from to from_end to_end in
    let second : LaneEnds = to_other from to from_end to_end in
    let all : List LaneEnds = with_lanes lanes first second in
    let first_is : ends_of_lane (with_lanes lanes first second) (2 * n) ≡ first = lane_first lanes first second (2 * n) joined.count in
    let second_is : ends_of_lane (with_lanes lanes first second) (2 * n + 1) ≡ second = lane_second lanes first second (2 * n + 1) (ap (λ (l : ℕ). l + 1) joined.count) in
    let count : length (with_lanes lanes first second) ≡ 2 * n + 2 = lanes_more lanes first second ∙ ap (λ (l : ℕ). l + 2) joined.count in
    elim (old_or_added (with_added ends from (2 * n)) to (2 * n + 1) who end lane (to_still lanes ends n from to from_end to_end joined) is) [
      | inl before ↦ elim (old_or_added ends from (2 * n) who end lane joined.from_there before) [
        | inl there ↦ old_end lanes ends first second n who end lane joined.count old there
        | inr new ↦
            subst (λ (l : ℕ). IsOfLane all who end l) new.value
            (new_end all first second who end (2 * n) (2 * n + 1) (omega (arith, count)) (far_first n) first_is second_is
            (sym new.box) (joined.from_is ∙ sym new.last) (sym new.box) (joined.from_is ∙ sym new.last))
      ]
      | inr new ↦
          subst (λ (l : ℕ). IsOfLane all who end l) new.value
          (new_end all second first who end (2 * n + 1) (2 * n) (omega (arith, count)) (far_second n) second_is first_is
          (sym new.box) (joined.to_is ∙ sym new.last) (sym new.box) (joined.to_is ∙ sym new.last))
    ]

-- so they are the ends of all lanes, again
pub ends_joined : (lanes : List LaneEnds) (ends : List (List ℕ)) (n from to from_end to_end : ℕ) → AreJoined lanes ends n from to from_end to_end → AreEnds lanes ends
    → AreEnds (joined_lanes lanes from to from_end to_end) (joined_ends ends n from to)
ends_joined lanes ends n from to from_end to_end joined old =
    let first : LaneEnds = to_initiator from to from_end to_end in
    let second : LaneEnds = to_other from to from_end to_end in
    let count : length (with_lanes lanes first second) ≡ 2 * n + 2 = lanes_more lanes first second ∙ ap (λ (l : ℕ). l + 2) joined.count in
    let read : (lane : ℕ) → lane < length (with_lanes lanes first second) → IsRead (joined_ends ends n from to) (ends_of_lane (with_lanes lanes first second) lane) lane =
    λ lane below. each_lane lanes ends n from to from_end to_end lane joined old (one_of lane n (length (with_lanes lanes first second)) count below) in
    let of_lane : (who end lane : ℕ) → at_end (joined_ends ends n from to) who end ≡ Some lane → IsOfLane (with_lanes lanes first second) who end lane =
    λ who end lane is. each_end lanes ends n from to from_end to_end who end lane joined old is in
    record {
      taking = λ lane below. (read lane below).taking;
      giving = λ lane below. (read lane below).giving;
      there = λ who end lane is. (of_lane who end lane is).there;
      taker = λ who end lane is. (of_lane who end lane is).taker;
      giver = λ who end lane is. (of_lane who end lane is).giver;
    }
