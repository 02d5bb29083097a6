-- After a phase the network is divided as before, and the next one may begin.
use Rattle.std.proofs.Common.{◌≡◌, inl, inr, ◌<◌, ◌+◌, ◌*◌, Bool, ℕ, Some, List, [], length, slice_get, refl, ap, sym, ◌∙◌, subst}
use Rattle.std.proofs.lemmas.Bool.{cases_lt}
use Rattle.std.proofs.lemmas.List.{length-map}
use Rattle.std.proofs.lemmas.List.Elements.{recursion_from_All}
use Rattle.std.proofs.lemmas.Option.{slice_get_within}
use Rattle.mc_box.specs.Boxes.{no_box}
use Rattle.mc_box.specs.declared.event.Turn.{Turn}
use Rattle.mc_model.specs.Sound.{IsSound}
use Rattle.mc_port.specs.Ends.{given, received}
use Rattle.mc_merge.specs.Account.{PartState}
use Rattle.mc_merge.specs.Phases.{stands_for}
use Rattle.mc_merge.specs.Together.{Ran}
use Rattle.mc_merge.specs.Turns.{no_items}
use Rattle.mc_merge.specs.Weaving.{numbers_of}
use Rattle.mc_merge.specs.Wholes.{AreHomes, numbers_in}
use Rattle.mc_merge.specs.declared.log.PartLog.{PartLog}
use Rattle.mc_part.specs.Divisions.{home_at, members, part_numbers}
use Rattle.mc_part.proofs.Filling.{none_past_parts}
use Rattle.mc_part.proofs.Members.{divisions_are_homes}
use Rattle.mc_part.specs.Networks.{AreCarried, AreParts, HaveHomes, HaveRun, given_on, received_on, world_by}
use Rattle.mc_part.specs.Parts.{state_of}
use Rattle.mc_part.specs.declared.part.Part.{Part}
use Rattle.mc_part.specs.declared.part_run.PartRun.{PartRun}
use Rattle.mc_part.specs.declared.port.Port.{Port}
use Rattle.mc_part.proofs.Networks.{parts_go_on, parts_keep_sound}
use Rattle.mc_divided.specs.Networks.{AreJoined, IsDividedNetwork, IsJoined, base_of, channels_of, crossings_of, network_layout, no_tables}
use Rattle.mc_divided.specs.Phasing.{CarriesOver, HaveMerged}
use Rattle.mc_divided.specs.declared.network.Crossing.{Crossing}
use Rattle.mc_divided.specs.declared.network.DividedNetwork.{DividedNetwork}
use Rattle.mc_divided.proofs.Drained.{AreDrained, HaveWays, IsLike, are_carried, drained_closed, ways_after}
use Rattle.mc_divided.proofs.Lists.{one_of}
use Rattle.mc_divided.proofs.PartsBy.{by_parts, part_is, part_past, parts_by, run_there, states_are}
use Rattle.mc_divided.proofs.Phased.{HasNone, RanAt, Went, emptied_of, joined_of, laid_of, ran_at, ways_of, went_run}
use Rattle.mc_divided.proofs.Ways.{AreLaid, IsAcross, IsWay, across_before, across_of, given_is, received_is}

-- all of a phase
pub record Phased (n : DividedNetwork) (retries every : Bool) (budget : ℕ) (chosen gone carried closed : List PartRun) (logs_2 : List PartLog) (before after : List Turn) : Type 0 where
  pub went : Went n retries every budget chosen gone
  pub over : CarriesOver n.crossings.items gone carried
  pub merged : HaveMerged carried closed n.logs.items logs_2 before after

-- ---- the parts before it

-- a ring that crosses is even
lane_even : (n : DividedNetwork) (none : Part) (divided : IsDividedNetwork n) (from to sender taker lane : ℕ) (one two : PartRun) → IsWay (network_layout n) (parts_by none n.runs.items) lane from to sender taker → slice_get n.runs.items from ≡ Some one → slice_get n.runs.items to ≡ Some two → AreJoined one.part two.part sender taker
    → received_on (network_layout n) (parts_by none n.runs.items) lane ≡ given_on (network_layout n) (parts_by none n.runs.items) lane
lane_even n none divided from to sender taker lane one two way there there_2 joined =
    let parts : ℕ → Part = parts_by none n.runs.items in
    let out : way.out ≡ joined.out = one_of (slice_get one.part.ports.items sender) way.out joined.out (ap (λ (p : Part). slice_get p.ports.items sender) (sym (part_is none n.runs.items from one there)) ∙ way.sends) joined.sends in
    let into : way.into ≡ joined.into = one_of (slice_get two.part.ports.items taker) way.into joined.into (ap (λ (p : Part). slice_get p.ports.items taker) (sym (part_is none n.runs.items to two there_2)) ∙ way.takes) joined.takes in
    received_is (network_layout n) parts lane from to sender taker way
    ∙ (ap (λ (p : Port). received p.from) into ∙ (joined.even ∙ (ap (λ (p : Port). given p.to) (sym out) ∙ sym (given_is (network_layout n) parts lane from to sender taker way))))

pub parts_of : (n : DividedNetwork) (none : Part) → IsDividedNetwork n → AreParts (base_of n) (network_layout n) (parts_by none n.runs.items)
parts_of n none divided =
    let all : AreLaid (base_of n) n.assigned.items none n.runs.items = laid_of n none divided in
    let ways : HaveWays (base_of n) n.assigned.items (parts_by none n.runs.items) = ways_of n none divided in
    record {
      laid = all.laid;
      empty = emptied_of n none divided;
      even = λ lane leads.
          let across : IsAcross (base_of n) n.assigned.items lane = across_of (base_of n) n.assigned.items none n.runs.items lane all leads in
          let x : Crossing = across.crossing in
          let joined : IsJoined n.runs.items x = joined_of n divided across.i x (ap (λ (l : List Crossing). slice_get l across.i) divided.crossings ∙ across.there) in
          elim across.is [
            | inl is ↦
                subst (λ (k : ℕ). received_on (network_layout n) (parts_by none n.runs.items) k ≡ given_on (network_layout n) (parts_by none n.runs.items) k) (sym is)
                (lane_even n none divided x.from x.to x.from_port x.to_port (2 * across.route.c + 1) joined.from joined.to (ways.there across.i x across.there across.route) joined.from_there joined.to_there joined.there)
            | inr is ↦
                subst (λ (k : ℕ). received_on (network_layout n) (parts_by none n.runs.items) k ≡ given_on (network_layout n) (parts_by none n.runs.items) k) (sym is)
                (lane_even n none divided x.to x.from x.to_port x.from_port (2 * across.route.c + 0) joined.to joined.from (ways.back across.i x across.there across.route) joined.to_there joined.from_there joined.back)
          ];
    }

-- ---- what was carried over

pub drained : (n : DividedNetwork) (retries every : Bool) (budget : ℕ) (chosen gone carried closed : List PartRun) (logs_2 : List PartLog) (before after : List Turn) → Phased n retries every budget chosen gone carried closed logs_2 before after → AreDrained (crossings_of n.assigned.items (channels_of n)) gone closed
drained n retries every budget chosen gone carried closed logs_2 before after p = subst (λ (l : List Crossing). AreDrained l gone closed) p.went.divided.crossings (drained_closed n.crossings.items gone carried closed p.over p.merged.closed)

-- of each part from before the phase to after it
pub record ClosedAt (gone closed : List PartRun) (n : DividedNetwork) (retries every : Bool) (budget : ℕ) (chosen : List PartRun) (i : ℕ) (a : PartRun) : Type 0 where
  pub ran : RanAt n retries every budget chosen gone i a
  pub d : PartRun
  pub d_there : slice_get closed i ≡ Some d
  pub like : IsLike ran.c.part d.part

pub closed_at : (n : DividedNetwork) (retries every : Bool) (budget : ℕ) (chosen gone carried closed : List PartRun) (logs_2 : List PartLog) (before after : List Turn) → Phased n retries every budget chosen gone carried closed logs_2 before after → (i : ℕ) (a : PartRun) → slice_get n.runs.items i ≡ Some a → ClosedAt gone closed n retries every budget chosen i a
closed_at n retries every budget chosen gone carried closed logs_2 before after p i x there =
    let ran : RanAt n retries every budget chosen gone i x = ran_at n retries every budget chosen gone p.went i x there in
    let all = drained n retries every budget chosen gone carried closed logs_2 before after p in
    let d = run_there closed i (subst (λ (k : ℕ). i < k) (sym all.count) (slice_get_within gone i ran.c ran.c_there)) in
    record { ran = ran; d = d.0; d_there = d.1; like = all.like i ran.c d.0 ran.c_there d.1 }

pub closed_count : (n : DividedNetwork) (retries every : Bool) (budget : ℕ) (chosen gone carried closed : List PartRun) (logs_2 : List PartLog) (before after : List Turn) → Phased n retries every budget chosen gone carried closed logs_2 before after → length closed ≡ length n.runs.items
closed_count n retries every budget chosen gone carried closed logs_2 before after p = (drained n retries every budget chosen gone carried closed logs_2 before after p).count ∙ (p.went.went.count ∙ p.went.chose.count)

-- and from any part after it back
pub opened_at : (n : DividedNetwork) (retries every : Bool) (budget : ℕ) (chosen gone carried closed : List PartRun) (logs_2 : List PartLog) (before after : List Turn) → Phased n retries every budget chosen gone carried closed logs_2 before after → (i : ℕ) (d : PartRun) → slice_get closed i ≡ Some d → (a : PartRun) × (slice_get n.runs.items i ≡ Some a)
opened_at n retries every budget chosen gone carried closed logs_2 before after p i d there = run_there n.runs.items i (subst (λ (k : ℕ). i < k) (closed_count n retries every budget chosen gone carried closed logs_2 before after p) (slice_get_within closed i d there))

pub carried_over : (n : DividedNetwork) (retries every : Bool) (budget : ℕ) (chosen gone carried closed : List PartRun) (logs_2 : List PartLog) (before after : List Turn) (none : HasNone n) → Phased n retries every budget chosen gone carried closed logs_2 before after → AreCarried (base_of n) (network_layout n) (parts_by none.none gone) (parts_by none.none closed)
carried_over n retries every budget chosen gone carried closed logs_2 before after none p =
    let runs : HaveRun retries (parts_by none.none n.runs.items) (parts_by none.none gone) = went_run n retries every budget chosen gone none p.went in
    let all : AreLaid (base_of n) n.assigned.items none.none n.runs.items = laid_of n none.none p.went.divided in
    let ways : HaveWays (base_of n) n.assigned.items (parts_by none.none gone) =
    ways_after (base_of n) n.assigned.items (parts_by none.none n.runs.items) (parts_by none.none gone) (ways_of n none.none p.went.divided) (λ part. (runs part).run.rings) (λ part. (runs part).run.sides) in
    let like : (part : ℕ) → IsLike (parts_by none.none gone part) (parts_by none.none closed part) = λ part. like_all none.none gone closed (drained n retries every budget chosen gone carried closed logs_2 before after p) part in
    let ways_2 : HaveWays (base_of n) n.assigned.items (parts_by none.none closed) =
    ways_after (base_of n) n.assigned.items (parts_by none.none gone) (parts_by none.none closed) ways (λ part. (like part).rings_are) (λ part. (like part).sides_are) in
    are_carried (base_of n) n.assigned.items none.none gone closed all.laid.each_lane (drained n retries every budget chosen gone carried closed logs_2 before after p) ways ways_2
    (λ lane leads. across_of (base_of n) n.assigned.items none.none n.runs.items lane all (across_before (base_of n) (network_layout n) retries (parts_by none.none n.runs.items) (parts_by none.none gone) runs lane leads))
  where
    like_all : (none : Part) (old new : List PartRun) → AreDrained (crossings_of n.assigned.items (channels_of n)) old new → (part : ℕ) → IsLike (parts_by none old part) (parts_by none new part)
    like_all none old new all part = by_parts IsLike none old new all.count all.like (record { boxes = refl; channels = refl; lane_count = refl; sides_are = refl; rings_are = refl }) part

-- ---- the parts after it

pub goes_on : (n : DividedNetwork) (retries every : Bool) (budget : ℕ) (chosen gone carried closed : List PartRun) (logs_2 : List PartLog) (before after : List Turn) (none : HasNone n) → Phased n retries every budget chosen gone carried closed logs_2 before after → AreParts (base_of n) (network_layout n) (parts_by none.none closed)
goes_on n retries every budget chosen gone carried closed logs_2 before after none p =
    parts_go_on retries (base_of n) (network_layout n) (parts_by none.none n.runs.items) (parts_by none.none gone) (parts_by none.none closed) (parts_of n none.none p.went.divided) (went_run n retries every budget chosen gone none p.went) (carried_over n retries every budget chosen gone carried closed logs_2 before after none p)

-- each box of the network has a number in a part
pub count_in : (n : DividedNetwork) (none : Part) → IsDividedNetwork n → (part : ℕ) → length (parts_by none n.runs.items part).engine.boxes ≡ length (members n.assigned.items part)
count_in n none divided part = elim (cases_lt part (length n.runs.items)) [
  | inl inside ↦ ap (λ (states : ℕ → PartState). length (states part).boxes) (sym (states_are none n.runs.items)) ∙ divided.boxes part inside
  | inr outside ↦
      ap (λ (p : Part). length p.engine.boxes) (part_past none n.runs.items part outside)
      ∙ ap (λ (l : List ℕ). length l) (sym (none_past_parts n.assigned.items (channels_of n) (length n.runs.items) part (recursion_from_All (λ (q : ℕ). q < length n.runs.items) n.assigned.items divided.assigned) divided.some outside).0)
]

-- a part that hasn't run
abbrev still : PartState → Ran
still state = record { tables = no_tables; old = state; new = state; log = []; gave = no_items; put = no_items }

box_total : (n : DividedNetwork) → length (base_of n).boxes ≡ length n.assigned.items
box_total n = length-map n.assigned.items (λ (part : ℕ). no_box)

pub homes_in : (n : DividedNetwork) (none : Part) → IsDividedNetwork n → HaveHomes (network_layout n) (numbers_of n.logs.items) (parts_by none n.runs.items) (length (base_of n).boxes)
homes_in n none divided =
    let homes : AreHomes (home_at n.assigned.items) (λ part. still (state_of (parts_by none n.runs.items part))) (numbers_in (part_numbers n.assigned.items (length n.runs.items))) (length n.assigned.items) =
    divisions_are_homes n.assigned.items (length n.runs.items) (λ part. still (state_of (parts_by none n.runs.items part))) (recursion_from_All (λ (q : ℕ). q < length n.runs.items) n.assigned.items divided.assigned) (count_in n none divided) (λ part. tt) in
    subst (λ (numbers : List (List ℕ)). HaveHomes (network_layout n) numbers (parts_by none n.runs.items) (length (base_of n).boxes)) (sym divided.logs)
    (subst (λ (k : ℕ). HaveHomes (network_layout n) (part_numbers n.assigned.items (length n.runs.items)) (parts_by none n.runs.items) k) (sym (box_total n)) (record {
      back = homes.back;
      there = homes.there;
      inside = homes.inside;
    }))

pub keeps_sound : (n : DividedNetwork) (retries every : Bool) (budget : ℕ) (chosen gone carried closed : List PartRun) (logs_2 : List PartLog) (before after : List Turn) (none : HasNone n) → Phased n retries every budget chosen gone carried closed logs_2 before after → IsSound (world_by (base_of n) (network_layout n) (parts_by none.none closed))
keeps_sound n retries every budget chosen gone carried closed logs_2 before after none p =
    parts_keep_sound retries (base_of n) (network_layout n) (parts_by none.none n.runs.items) (parts_by none.none gone) (parts_by none.none closed) (numbers_of n.logs.items) (parts_of n none.none p.went.divided) (went_run n retries every budget chosen gone none p.went)
    (carried_over n retries every budget chosen gone carried closed logs_2 before after none p) (homes_in n none.none p.went.divided)
    (subst (λ (states : ℕ → PartState). IsSound (stands_for (base_of n) (network_layout n) states)) (states_are none.none n.runs.items) p.went.divided.sound)
