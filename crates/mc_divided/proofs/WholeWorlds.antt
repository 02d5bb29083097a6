-- The world that the parts of a network stand for, as it is put together.
use Rattle.std.proofs.Common.{◌≡◌, ◌<◌, ◌+◌, ◌-◌, ◌*◌, ◌/◌, ◌%◌, All, ℕ, zero, suc, List, [], ◌∷◌, inl, inr, length, map, get_or, refl, ap, ap₂, sym, ◌∙◌, subst, arith, length-append}
use Rattle.std.specs.declared.alloc.Global.{Global}
use Rattle.std.specs.declared.vec.Vec.{Vec}
use Rattle.std.proofs.Math.ListN.{get_or-append}
use Rattle.std.proofs.lemmas.Bool.{cases_lt}
use Rattle.std.proofs.lemmas.List.{get_or-append_right, length-map, length-replicate}
use Rattle.std.proofs.lemmas.List.FromFn.{fill_by_all}
use Rattle.mc_box.specs.Boxes.{BoxState, no_box}
use Rattle.mc_part.specs.Divisions.{boxes_in, members, part_of, place_in}
use Rattle.mc_part.specs.DividedParts.{AreShared, HasBoxes, HasShares}
use Rattle.mc_part.proofs.Layouts.{to_there}
use Rattle.mc_part.proofs.Leads.{channels_have_boxes}
use Rattle.mc_part.proofs.Members.{IsMember, member_here}
use Rattle.mc_part.proofs.Shares.{shares_are_boxes}
use Rattle.mc_lane.specs.Queue.{Queue}
use Rattle.mc_merge.specs.Lanes.{leads_to}
use Rattle.mc_model.specs.Worlds.{ChannelState, WorldState, box_at}
use Rattle.mc_divided.specs.Networks.{IsDividedNetwork, base_of, channels_of, network_layout, no_part, states_among, world_in}
use Rattle.mc_divided.specs.Whole.{boxes_among, end_part, lane_by, lanes_among, lanes_by, lanes_of, lanes_upto}
use Rattle.mc_divided.specs.declared.network.DividedNetwork.{DividedNetwork}
use Rattle.mc_divided.proofs.NetworkBoxes.{box_count, box_there}
use Rattle.mc_part.specs.Parts.{state_of}
use Rattle.mc_part.specs.declared.part_run.PartRun.{PartRun}
use Rattle.mc_signal.specs.declared.Tagged.{Tagged}
use Rattle.mc_merge.specs.Account.{PartState, part_box, part_lane}
use Rattle.mc_merge.specs.Phases.{lane_in}

-- ---- lists

-- a field of what is read
map_field : {A B C : Type 0} (h : A → B) (g : B → C) (xs : List A) (k : ℕ) (d : B)
    → get_or (map (λ (x : A). g (h x)) xs) k (g d) ≡ g (get_or (map h xs) k d)
map_field h g [] k d = refl
map_field h g (x ∷ xs) zero d = refl
map_field h g (x ∷ xs) (suc k) d = map_field h g xs k d

-- a list by its elements
by_elements : {A B : Type 0} (f : B → A) (xs : List A) (ys : List B) (d : A) (e : B) → length xs ≡ length ys
    → ((k : ℕ) → k < length ys → get_or xs k d ≡ f (get_or ys k e)) → xs ≡ map f ys
by_elements f [] [] d e same each = refl
by_elements f [] (y ∷ ys) d e same each = absurd (omega arith)
by_elements f (x ∷ xs) [] d e same each = absurd (omega arith)
by_elements {A} f (x ∷ xs) (y ∷ ys) d e same each =
    ap₂ (λ (z : A) (zs : List A). z ∷ zs) (each 0 (omega arith))
    (by_elements f xs ys d e (omega arith) (λ k below. each (suc k) (omega arith)))

-- ---- boxes

-- what the part has that is read
pub boxes_read : (runs : List PartRun) (part : ℕ)
    → get_or (boxes_among runs) part [] ≡ (states_among runs part).boxes
boxes_read runs part =
    map_field (λ (run : PartRun). state_of run.part) (λ (state : PartState). state.boxes) runs part no_part

pub lanes_read : (runs : List PartRun) (part : ℕ)
    → get_or (lanes_among runs) part [] ≡ (states_among runs part).lanes
lanes_read runs part =
    map_field (λ (run : PartRun). state_of run.part) (λ (state : PartState). state.lanes) runs part no_part

-- the boxes of a part are those of the network
part_boxes : (network : DividedNetwork) (part : ℕ) → IsDividedNetwork network → part < length network.runs.items
    → (states_among network.runs.items part).boxes ≡ boxes_in (world_in network) network.assigned.items part
part_boxes network part divided below =
    by_elements (box_at (world_in network)) (states_among network.runs.items part).boxes
    (members network.assigned.items part) no_box 0 (divided.boxes part below)
    (λ k inside.
    let member : IsMember network.assigned.items part k (get_or (members network.assigned.items part) k 0) =
    member_here network.assigned.items part k inside in
    sym (box_there network (get_or (members network.assigned.items part) k 0) member.inside
    ∙ ap (λ (home : ℕ × ℕ). part_box (states_among network.runs.items home.0) home.1) member.home))

no_start : (k : ℕ) → 0 + k ≡ k
no_start k = omega arith

-- so the parts have the shares of them
pub boxes_are_shared : (network : DividedNetwork) → IsDividedNetwork network
    → AreShared (world_in network).boxes network.assigned.items (boxes_among network.runs.items)
boxes_are_shared network divided =
    let long : length (boxes_among network.runs.items) ≡ length network.runs.items =
    length-map network.runs.items (λ (run : PartRun). run.part.engine.boxes) in
    record {
      each = box_count network;
      shares = fill_by_all (boxes_in (world_in network) network.assigned.items) (boxes_among network.runs.items)
          (length (boxes_among network.runs.items)) [] refl
          (λ part below. boxes_read network.runs.items part
          ∙ part_boxes network part divided (omega (arith, below, long)))
          ∙ sym (shares_are_boxes (world_in network) network.assigned.items
          (length (boxes_among network.runs.items)) (sym (box_count network))).0;
    }

pub boxes_have_shares : (network : DividedNetwork) (lists : List (List BoxState)) → IsDividedNetwork network
    → lists ≡ boxes_among network.runs.items → HasShares network.assigned.items lists
boxes_have_shares network lists divided is =
    subst (λ (l : List (List BoxState)). HasShares network.assigned.items l) (sym is)
    (record { things = (world_in network).boxes; shared = boxes_are_shared network divided })

-- ---- lanes

-- two for each channel
lane_count : (assigned : List ℕ) (channels : List ChannelState) (lanes : List (List (List Tagged))) (n : ℕ)
    → length (lanes_upto assigned channels lanes n) ≡ 2 * n
lane_count assigned channels lanes zero = refl
lane_count assigned channels lanes (suc n) =
    let before = lane_count assigned channels lanes n in
    omega (
      arith,
      length-append (lanes_upto assigned channels lanes n)
          (lane_by assigned channels lanes n 0 ∷ (lane_by assigned channels lanes n 1 ∷ [])),
      before,
    )

-- those of the last channel, or of one before
lane_found : (assigned : List ℕ) (channels : List ChannelState) (lanes : List (List (List Tagged)))
    (n c side : ℕ) → c < n → side < 2
    → get_or (lanes_upto assigned channels lanes n) (2 * c + side) [] ≡ lane_by assigned channels lanes c side
lane_found assigned channels lanes zero c side below low = absurd (omega arith)
lane_found assigned channels lanes (suc n) c side below low = elim (cases_lt c n) [
  | inl before ↦
      get_or-append (lanes_upto assigned channels lanes n)
      (lane_by assigned channels lanes n 0 ∷ (lane_by assigned channels lanes n 1 ∷ [])) [] (2 * c + side)
      (omega (arith, lane_count assigned channels lanes n))
      ∙ lane_found assigned channels lanes n c side before low
  | inr last ↦
      let same : c ≡ n = omega arith in
      let rest : (2 * c + side) - 2 * n ≡ side = omega arith in
      get_or-append_right (lanes_upto assigned channels lanes n)
      (lane_by assigned channels lanes n 0 ∷ (lane_by assigned channels lanes n 1 ∷ [])) (2 * n) (2 * c + side) []
      (lane_count assigned channels lanes n) (omega arith)
      ∙ (ap (λ (i : ℕ). get_or (lane_by assigned channels lanes n 0 ∷ (lane_by assigned channels lanes n 1 ∷ [])) i [])
      rest
      ∙ (of_two side low ∙ ap (λ (m : ℕ). lane_by assigned channels lanes m side) (sym same)))
]
  where
    of_two : (s : ℕ) → s < 2
        → get_or (lane_by assigned channels lanes n 0 ∷ (lane_by assigned channels lanes n 1 ∷ [])) s []
        ≡ lane_by assigned channels lanes n s
    of_two zero low = refl
    of_two (suc zero) low = refl
    of_two (suc (suc s)) low = absurd (omega arith)

sides : (c side : ℕ) → side < 2 → ((2 * c + side) % 2 ≡ side) × ((2 * c + side) / 2 ≡ c)
sides c side low = (omega arith, omega arith)

-- a lane of the network is that of the part that takes from it
lane_is : (network : DividedNetwork) (c side : ℕ) → side < 2
    → lane_in (network_layout network) (states_among network.runs.items) (2 * c + side)
    ≡ lane_by network.assigned.items (channels_of network) (lanes_among network.runs.items) c side
lane_is network c side low =
    let assigned = network.assigned.items in
    let channels = channels_of network in
    let to : part_of assigned (leads_to (base_of network) (2 * c + side)) ≡ end_part assigned channels c side =
    ap (part_of assigned) (to_there channels c side low) in
    ap (λ (part : ℕ). part_lane (states_among network.runs.items part)
    (2 * place_in assigned channels part ((2 * c + side) / 2) + (2 * c + side) % 2)) to
    ∙ (ap₂ (λ (half rest : ℕ). part_lane (states_among network.runs.items (end_part assigned channels c side))
    (2 * place_in assigned channels (end_part assigned channels c side) half + rest)) (sides c side low).1
    (sides c side low).0
    ∙ ap (λ (l : List (List Tagged)).
    get_or l (2 * place_in assigned channels (end_part assigned channels c side) c + side) [])
    (sym (lanes_read network.runs.items (end_part assigned channels c side))))

halves : (lane : ℕ) → (2 * (lane / 2) + lane % 2 ≡ lane) × (lane % 2 < 2)
halves lane = (omega arith, omega arith)

pub lanes_are : (network : DividedNetwork)
    → lanes_by network.assigned.items (channels_of network) (lanes_among network.runs.items)
    ≡ (world_in network).lanes
lanes_are network =
    let assigned = network.assigned.items in
    let channels = channels_of network in
    let lanes = lanes_among network.runs.items in
    let long : length (base_of network).lanes ≡ 2 * length channels =
    length-replicate {A = List Tagged} (2 * length channels) [] in
    fill_by_all (lane_in (network_layout network) (states_among network.runs.items)) (lanes_by assigned channels lanes)
    (length (base_of network).lanes) [] (lane_count assigned channels lanes (length channels) ∙ sym long)
    (λ lane below.
    let half = halves lane in
    let inside : lane / 2 < length channels = omega (arith, below, long, half.0, half.1) in
    ap (λ (l : ℕ). get_or (lanes_by assigned channels lanes) l []) (sym half.0)
    ∙ (lane_found assigned channels lanes (length channels) (lane / 2) (lane % 2) inside half.1
    ∙ (sym (lane_is network (lane / 2) (lane % 2) half.1)
    ∙ ap (λ (l : ℕ). lane_in (network_layout network) (states_among network.runs.items) l) half.0)))

-- ---- what the calls ask

-- each channel joins two boxes
pub joins_there : (network : DividedNetwork) → IsDividedNetwork network
    → All (HasBoxes (length network.assigned.items)) (channels_of network)
joins_there network divided =
    subst (λ (n : ℕ). All (HasBoxes n) (channels_of network)) (box_count network)
    (channels_have_boxes (world_in network) divided.sound.numbered divided.frame.0)

-- and each box is in a part whose lanes are there
pub parts_there : (network : DividedNetwork) (taken : List (Vec (Queue Tagged) Global)) → IsDividedNetwork network
    → lanes_of taken ≡ lanes_among network.runs.items
    → All (λ (part : ℕ). part < length taken) network.assigned.items
parts_there network taken divided is =
    let long : length taken ≡ length network.runs.items =
    sym (length-map taken (λ (lanes : Vec (Queue Tagged) Global). signals_in lanes))
    ∙ (ap (λ (l : List (List (List Tagged))). length l) is
    ∙ length-map network.runs.items (λ (run : PartRun). run.part.engine.lanes)) in
    λ who d below. subst (λ (n : ℕ). get_or network.assigned.items who d < n) (sym long) (divided.assigned who d below)
  where
    signals_in : Vec (Queue Tagged) Global → List (List Tagged)
    signals_in lanes = map (λ (lane : Queue Tagged). lane.items) lanes.items

-- each box is in a part, also of boxes that were taken
pub shares_there : (network : DividedNetwork) (lists : List (List BoxState)) (count : ℕ) → IsDividedNetwork network
    → lists ≡ boxes_among network.runs.items → length lists ≡ count
    → All (λ (part : ℕ). part < count) network.assigned.items
shares_there network lists count divided is long =
    let same : count ≡ length network.runs.items =
    sym long
    ∙ (ap (λ (l : List (List BoxState)). length l) is
    ∙ length-map network.runs.items (λ (run : PartRun). run.part.engine.boxes)) in
    λ who d below. subst (λ (n : ℕ). get_or network.assigned.items who d < n) (sym same) (divided.assigned who d below)

-- the world, by its boxes and lanes
pub whole_is : (network : DividedNetwork) (boxes : List BoxState) (lanes : List (List Tagged))
    → boxes ≡ (world_in network).boxes → lanes ≡ (world_in network).lanes
    → record { boxes = boxes; channels = channels_of network; lanes = lanes } ≡ world_in network
whole_is network boxes lanes one two =
    ap₂ (λ (b : List BoxState) (l : List (List Tagged)).
    of_world b l) one two
  where
    of_world : List BoxState → List (List Tagged) → WorldState
    of_world b l = record { boxes = b; channels = channels_of network; lanes = l }

-- and those that were put together are its lanes
pub lanes_whole : (network : DividedNetwork) (assigned : List ℕ) (channels : List ChannelState)
    (taken : List (List (List Tagged))) (lanes : List (List Tagged)) → assigned ≡ network.assigned.items
    → channels ≡ channels_of network → taken ≡ lanes_among network.runs.items
    → lanes ≡ lanes_by assigned channels taken → lanes ≡ (world_in network).lanes
lanes_whole network assigned channels taken lanes one two three is =
    is
    ∙ (ap (λ (a : List ℕ). lanes_by a channels taken) one
    ∙ (ap₂ (λ (c : List ChannelState) (t : List (List (List Tagged))). lanes_by network.assigned.items c t) two three
    ∙ lanes_are network))

-- and so are the boxes
pub boxes_whole : (network : DividedNetwork) (assigned : List ℕ) (lists : List (List BoxState)) (boxes : List BoxState)
    → IsDividedNetwork network → assigned ≡ network.assigned.items → lists ≡ boxes_among network.runs.items
    → ((all : List BoxState) → AreShared all assigned lists → boxes ≡ all) → boxes ≡ (world_in network).boxes
boxes_whole network assigned lists boxes divided one two gathered =
    gathered (world_in network).boxes
    (subst (λ (a : List ℕ). AreShared (world_in network).boxes a lists) (sym one)
    (subst (λ (l : List (List BoxState)). AreShared (world_in network).boxes network.assigned.items l) (sym two)
    (boxes_are_shared network divided)))
