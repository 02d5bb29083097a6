-- What is under way on each lane after turns of all boxes.
use Rattle.std.proofs.Common.{◌≡◌, ℕ, ◌+◌, ◌*◌, ◌/◌, ◌%◌, ◌<◌, ◌==◌, Bool, true, false, if◌then◌else◌, List, [], ◌∷◌, ◌++◌, Some, length, map, slice_get, refl, ap, sym, ◌∙◌, arith}
use Rattle.std.proofs.lemmas.Grind.{common_steps}
use Rattle.std.proofs.lemmas.List.{map-append}
use Rattle.std.proofs.lemmas.Option.{slice_get-get_or}
use Rattle.mc_team.specs.Layouts.{JoinsBoxes, ends_of_lane}
use Rattle.mc_team.specs.declared.layout.LaneEnds.{LaneEnds}
use Rattle.mc_merge.specs.LaneLogs.{without_stamps}
use Rattle.mc_merge.specs.Lanes.{absent_channel, lane_channel, leads_from, leads_to}
use Rattle.mc_model.specs.Worlds.{ChannelState, WorldState}
use Rattle.mc_port.specs.Ends.{without_stamp}
use Rattle.mc_port.specs.declared.stamped.Stamped.{Stamped}
use Rattle.mc_team.specs.declared.member.Member.{Member}
use Rattle.mc_signal.specs.declared.Tagged.{Tagged}
use Rattle.mc_port.specs.Entries.{Claimed}
use Rattle.mc_team.specs.Ends.{giving_end, taking_end}
use Rattle.mc_team.specs.Turns.{MadeTurns}
use Rattle.mc_worker.specs.Carrying.{left_between, under_way_between}
use Rattle.mc_worker.specs.Ends.{InEnd, OutEnd, unclaimed}

-- ---- the boxes at a lane's ends

-- the lanes' ends are those of the channels
abbrev pub AreJoined : WorldState → List LaneEnds → Type 0
AreJoined world lanes = (k : ℕ) (channel : ChannelState) → slice_get world.channels k ≡ Some channel → JoinsBoxes channel (ends_of_lane lanes (2 * k)) (ends_of_lane lanes (2 * k + 1))

-- a channel's first lane has an even number
even_lane : (lane : ℕ) → (lane % 2 == 0) ≡ true → 2 * (lane / 2) ≡ lane
even_lane lane is = grind (arith, common_steps)

-- and its second an odd one
odd_lane : (lane : ℕ) → (lane % 2 == 0) ≡ false → 2 * (lane / 2) + 1 ≡ lane
odd_lane lane is = grind (arith, common_steps)

-- a lane leads to the box at its end, by which lane of its channel it is
leads_by : (first : Bool) (world : WorldState) (lanes : List LaneEnds) (lane : ℕ) → (lane % 2 == 0) ≡ first → JoinsBoxes (lane_channel world lane) (ends_of_lane lanes (2 * (lane / 2))) (ends_of_lane lanes (2 * (lane / 2) + 1))
    → (leads_to world lane ≡ (ends_of_lane lanes lane).to) × (leads_from world lane ≡ (ends_of_lane lanes lane).from)
leads_by true world lanes lane is joins =
    let at : ChannelState = lane_channel world lane in
    let same : 2 * (lane / 2) ≡ lane = even_lane lane is in (
      ap (λ (t : Bool). if t then at.from else at.to) is ∙ (sym joins.to ∙ ap (λ (l : ℕ). (ends_of_lane lanes l).to) same),
      ap (λ (t : Bool). if t then at.to else at.from) is ∙ (sym joins.from ∙ ap (λ (l : ℕ). (ends_of_lane lanes l).from) same),
    )
leads_by false world lanes lane is joins =
    let at : ChannelState = lane_channel world lane in
    let same : 2 * (lane / 2) + 1 ≡ lane = odd_lane lane is in (
      ap (λ (t : Bool). if t then at.from else at.to) is ∙ (sym joins.far_to ∙ ap (λ (l : ℕ). (ends_of_lane lanes l).to) same),
      ap (λ (t : Bool). if t then at.to else at.from) is ∙ (sym joins.far_from ∙ ap (λ (l : ℕ). (ends_of_lane lanes l).from) same),
    )

-- a lane of the world leads from and to the boxes that the layout has at its ends
pub leads_where : (world : WorldState) (lanes : List LaneEnds) (lane : ℕ) → length lanes ≡ 2 * length world.channels → AreJoined world lanes → lane < length lanes
    → (leads_to world lane ≡ (ends_of_lane lanes lane).to) × (leads_from world lane ≡ (ends_of_lane lanes lane).from)
leads_where world lanes lane count joined below =
    leads_by (lane % 2 == 0) world lanes lane refl (joined (lane / 2) (lane_channel world lane) (slice_get-get_or world.channels (lane / 2) absent_channel (omega arith)))

-- ---- what is left on a lane

-- what waits in the inbox, what the ring has left, and what had no place there
abbrev pub rest_between : OutEnd → InEnd → List Stamped
rest_between giving taking = map unclaimed taking.inbox ++ (left_between giving taking ++ giving.outbox)

-- an item of the inbox loses nothing with its stamp
unclaimed_back : (items : List Tagged) → without_stamps (map unclaimed items) ≡ items
unclaimed_back [] = refl
unclaimed_back (item ∷ items) = ap (λ (l : List Tagged). item ∷ l) (unclaimed_back items)

-- without stamps it is what is under way
pub rest_under_way : (giving : OutEnd) (taking : InEnd) → without_stamps (rest_between giving taking) ≡ under_way_between giving taking
rest_under_way giving taking =
    let left : List Stamped = left_between giving taking in
    map-append without_stamp (map unclaimed taking.inbox) (left ++ giving.outbox)
    ∙ (ap (λ (l : List Tagged). l ++ map without_stamp (left ++ giving.outbox)) (unclaimed_back taking.inbox)
    ∙ ap (λ (l : List Tagged). taking.inbox ++ l) (map-append without_stamp left giving.outbox))

-- what the ring was given was taken or is left; all that is under way is in the inbox after the carrying
pub record IsLeft (ran new : List Member) (ends : LaneEnds) : Type 0 where
  pub order : (taking_end ran ends).got ++ left_between (giving_end ran ends) (taking_end ran ends) ≡ (giving_end ran ends).given
  pub inbox : (taking_end new ends).inbox ≡ under_way_between (giving_end ran ends) (taking_end ran ends)

-- so it is on each lane
pub all_left : {Known : ℕ → Member → Member → List Claimed → Type 0} {lanes : List LaneEnds} {old ran new : List Member} → MadeTurns Known lanes old ran new → (lane : ℕ) → lane < length lanes → IsLeft ran new (ends_of_lane lanes lane)
all_left m lane below = let brought = m.carried.carried lane below in record { order = brought.order; inbox = brought.inbox }
