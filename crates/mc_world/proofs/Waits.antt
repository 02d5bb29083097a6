-- What a world's flags and counts say of its fronts.
use Rattle.std.proofs.Common.{◌≡◌, ◌<◌, ◌≤◌, inl, inr, ℕ, Bool, false, List, [], Option, Some, None, length, get_or, map, position, Vec, Global, refl, ap, sym, ◌∙◌, subst, arith}
use Rattle.std.specs.List.{slice_get}
use Rattle.std.specs.Option.{is_some, option_and_then}
use Rattle.std.proofs.Math.ListN.{replicate, get_or-eq_default}
use Rattle.std.proofs.lemmas.Bool.{cases_lt}
use Rattle.std.proofs.lemmas.List.{get_or-replicate, length-map, length-replicate}
use Rattle.std.proofs.lemmas.Option.{slice_get_within}
use Rattle.mc_signal.specs.declared.Tagged.{Tagged}
use Rattle.mc_box.specs.Boxes.{BoxState, no_box}
use Rattle.mc_box.specs.declared.limit.TheConstants.{SLOT_LIMIT}
use Rattle.mc_slot_laws.proofs.Sums.{total_same}
use Rattle.mc_laws.proofs.Numbers.{number_is}
use Rattle.mc_model.specs.Worlds.{WorldState, all_tunnels, box_at, front, front_for, is_place, number, place, tunnel_of}
use Rattle.mc_world.specs.Lanes.{lane_by, numbers_of, tunnel_by}
use Rattle.mc_world.specs.Tables.{HasTables, IsTopologyOf, channel_of, world_state}
use Rattle.mc_world.specs.Waiting.{AreFlagged, CountsTakes, IsWaiting, bit, flag_count, flag_of, take_waits, waiting_count, waits_by}
use Rattle.mc_world.specs.declared.network.World.TheInside.{Inside}
use Rattle.mc_world.specs.declared.topology.Topology.{Topology}
use Rattle.mc_world.specs.declared.waiting.Waiting.{Waiting}
use Rattle.mc_world.proofs.FlagCounts.{count_small}
use Rattle.mc_world.proofs.SlotNumbers.{by_origin}
use Rattle.mc_world.proofs.TopologyLanes.{few_numbers, lane_same, tables_numbers, tunnel_same}

-- ---- fronts

-- by the tables it is the front of the world
pub waits_same : (world : WorldState) (topology : Topology) (s : ℕ) → topology.tunnels.items ≡ map channel_of (all_tunnels world) → waits_by topology world.lanes s ≡ is_some (front world s)
waits_same world topology s is =
    ap (λ (w : ℕ). is_some (front_for w (get_or world.lanes (lane_by topology s) []))) (tunnel_same world topology s is)
    ∙ ap (λ (k : ℕ). is_some (front_for (tunnel_of world s).within (get_or world.lanes k []))) (lane_same world topology s is)

abbrev no_signals : List Tagged
no_signals = []

pub no_lane : (n k : ℕ) → get_or (replicate n no_signals) k no_signals ≡ no_signals
no_lane n k = elim (cases_lt k n) [
  | inl below ↦ get_or-replicate n k no_signals no_signals below
  | inr above ↦ get_or-eq_default (replicate n no_signals) no_signals (omega (arith, above, length-replicate n no_signals))
]

-- with nothing under way no flag is set
pub none_flagged : (topology : Topology) (lanes : List (List Tagged)) (flags : List Bool) (n : ℕ) → lanes ≡ replicate n [] → flags ≡ replicate (length topology.places.items) false → AreFlagged topology lanes flags
none_flagged topology lanes flags n none clear s below =
    ap (λ (l : List Bool). get_or l s false) clear
    ∙ (get_or-replicate (length topology.places.items) s false false below
    ∙ sym (ap (λ (l : List (List Tagged)). waits_by topology l s) none ∙ ap (λ (l : List Tagged). is_some (front_for (tunnel_by topology s) l)) (no_lane n (lane_by topology s))))

-- ---- counts

flag_by : (world : WorldState) (flags : List Bool) (o : Option ℕ) → ((s : ℕ) → o ≡ Some s → get_or flags s false ≡ is_some (front world s)) → flag_of flags o ≡ is_some (option_and_then (front world) o)
flag_by world flags None each = refl
flag_by world flags (Some s) each = each s refl

-- a box's slot has a flag where a signal waits for it
pub flag_is : (world : WorldState) (topology : Topology) (waiting : Waiting) (homes who local : ℕ) → IsTopologyOf topology world.channels homes → IsWaiting topology world.lanes waiting
    → flag_of waiting.flags.items (slice_get (numbers_of topology who) local) ≡ take_waits world who local
flag_is world topology waiting homes who local is waits =
    ap (flag_of waiting.flags.items) (is.found who local ∙ ap (position (is_place (who, local))) is.places)
    ∙ flag_by world waiting.flags.items (number world who local)
    (λ s at. waits.flagged s (subst (λ (l : List (ℕ × ℕ)). s < length l) (sym is.places) (number_is world who local s at).0) ∙ waits_same world topology s is.tunnels)

-- a box has as many numbers as slots, and so has one that isn't there
pub numbers_there : (inside : Inside) (who : ℕ) → HasTables inside → who < length inside.boxes.items → length (numbers_of inside.topology who) ≡ length (box_at (world_state inside) who).slots
numbers_there inside who has here =
    let world : WorldState = world_state inside in
    let slots : ℕ = length (box_at (world_state inside) who).slots in
    let found : (local : ℕ) → slice_get (numbers_of inside.topology who) local ≡ number (world_state inside) who local = λ local. has.topology.found who local ∙ ap (position (is_place (who, local))) has.topology.places in
    let most : length (numbers_of inside.topology who) ≤ length (box_at (world_state inside) who).slots =
    few_numbers world (numbers_of inside.topology who) who slots found
    (λ local s is.
    let at = number_is world who local s is in
    let low : (place world s).1 < length (box_at world who).slots = subst (λ (n : ℕ). (place world s).1 < length (box_at world n).slots) at.1 (has.sound.numbered.slots s at.0) in
    subst (λ (n : ℕ). n < length (box_at world who).slots) at.2 low) in
    elim (cases_lt (length (numbers_of inside.topology who)) (length (box_at (world_state inside) who).slots)) [
      | inl fewer ↦
          let one = slice_get_within (numbers_of inside.topology who) (length (numbers_of inside.topology who)) _ (found (length (numbers_of inside.topology who)) ∙ by_origin world who (length (numbers_of inside.topology who)) has.sound.numbered here fewer) in
          absurd (omega arith)
      | inr all ↦ omega arith
    ]

numbers_long : (inside : Inside) (who : ℕ) → HasTables inside → length (numbers_of inside.topology who) ≡ length (box_at (world_state inside) who).slots
numbers_long inside who has = elim (cases_lt who (length inside.boxes.items)) [
  | inl here ↦ numbers_there inside who has here
  | inr outside ↦
      ap length (get_or-eq_default (map (λ (numbers : Vec ℕ Global). numbers.items) inside.topology.numbers.items) [] (omega (arith, outside, has.topology.homes, length-map inside.topology.numbers.items (λ (numbers : Vec ℕ Global). numbers.items))))
      ∙ sym (ap (λ (box : BoxState). length box.slots) (get_or-eq_default inside.boxes.items no_box outside))
]

-- flags are counted where signals wait
pub counts_same : (inside : Inside) (who count : ℕ) → HasTables inside → flag_count inside.topology inside.waiting.flags.items who count ≡ waiting_count (world_state inside) who count
counts_same inside who count has =
    total_same (λ local. bit (flag_of inside.waiting.flags.items (slice_get (numbers_of inside.topology who) local))) (λ local. bit (take_waits (world_state inside) who local)) count
    (λ local below. ap bit (flag_is (world_state inside) inside.topology inside.waiting (length inside.boxes.items) who local has.topology has.waiting))

-- and so over all of a box
pub box_count : (inside : Inside) (who : ℕ) → HasTables inside
    → flag_count inside.topology inside.waiting.flags.items who (length (numbers_of inside.topology who)) ≡ waiting_count (world_state inside) who (length (box_at (world_state inside) who).slots)
box_count inside who has = counts_same inside who (length (numbers_of inside.topology who)) has ∙ ap (waiting_count (world_state inside) who) (numbers_long inside who has)

-- a count is no more than a box has slots
counts_few : (inside : Inside) (who : ℕ) → HasTables inside → get_or inside.waiting.takes who 0 ≤ SLOT_LIMIT
counts_few inside who has = elim (cases_lt who (length inside.topology.numbers.items)) [
  | inl here ↦
      omega (
        arith,
        has.waiting.counted.each who here,
        count_small inside.topology inside.waiting.flags.items who (length (numbers_of inside.topology who)),
        (tables_numbers inside has).few who,
      )
  | inr outside ↦
      let none : get_or inside.waiting.takes who 0 ≡ 0 = get_or-eq_default inside.waiting.takes 0 (omega (arith, outside, has.waiting.counted.takes)) in
      omega arith
]

-- the counts are those of the world
pub takes_counted : (inside : Inside) → HasTables inside → CountsTakes (world_state inside) inside.waiting.takes
takes_counted inside has = record {
  long = has.waiting.counted.takes ∙ has.topology.homes;
  each = λ who here. has.waiting.counted.each who (omega (arith, here, has.topology.homes)) ∙ box_count inside who has;
  few = λ who. counts_few inside who has;
}

-- ---- the k-th of a box

-- it is among the flags
pub kth_inside : (inside : Inside) (world : WorldState) (who k : ℕ) → HasTables inside → world_state inside ≡ world → k < waiting_count world who (length (box_at world who).slots)
    → k < flag_count inside.topology inside.waiting.flags.items who (length (numbers_of inside.topology who))
kth_inside inside world who k has view below =
    rw (box_count inside who has) (subst (λ (w : WorldState). k < waiting_count w who (length (box_at w who).slots)) (sym view) below)

-- and as many signals wait before it as there are flags
pub kth_before : (inside : Inside) (world : WorldState) (who local k : ℕ) → HasTables inside → world_state inside ≡ world → flag_count inside.topology inside.waiting.flags.items who local ≡ k → waiting_count world who local ≡ k
kth_before inside world who local k has view before = subst (λ (w : WorldState). waiting_count w who local ≡ k) view (sym (counts_same inside who local has) ∙ before)

-- at a slot of the box
pub kth_there : (inside : Inside) (world : WorldState) (who local : ℕ) → HasTables inside → world_state inside ≡ world → local < length (numbers_of inside.topology who) → local < length (box_at world who).slots
kth_there inside world who local has view there = subst (λ (w : WorldState). local < length (box_at w who).slots) view (subst (λ (n : ℕ). local < n) (numbers_long inside who has) there)
