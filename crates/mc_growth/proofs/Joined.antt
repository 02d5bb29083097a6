-- What a world is after a channel has joined it: what was there stays, and the two new slots are closed.
use Rattle.std.proofs.Common.{◌≡◌, ◌≢◌, ◌<◌, ◌≤◌, ◌+◌, ◌*◌, ◌/◌, ◌%◌, inl, inr, ℕ, List, [], ◌∷◌, ◌++◌, length, length-set, refl, ap, sym, ◌∙◌, subst, arith}
use Rattle.std.proofs.Math.ListN.{get_or, set}
use Rattle.std.proofs.lemmas.Bool.{cases_eq, cases_lt}
use Rattle.std.proofs.lemmas.List.{get_or_append_left, get_or-set_same, get_or-set_other}
use Rattle.std.proofs.lemmas.List.Concat.{flat_map-append}
use Rattle.mc_signal.specs.declared.Medium.{Medium}
use Rattle.mc_box.specs.Boxes.{BoxState, first_slot, goal_at, media_at, no_box, slot_at, with_new_slot}
use Rattle.mc_box.specs.BoxSound.{IsSoundBox}
use Rattle.mc_box.specs.declared.setup.SlotSetup.{SlotSetup}
use Rattle.mc_box.proofs.AddedSlots.{added_sound, goal_added, media_before, slot_before}
use Rattle.mc_model.specs.Sound.{IsNumbered}
use Rattle.mc_model.specs.Worlds.{TunnelPlace, WorldState, box_at, all_tunnels, for_tunnel, goal_of, lane_of, list_to, no_tunnel, place, places, places_within, slot_count, slot_of, tunnel_of}
use Rattle.mc_laws.proofs.TunnelPlaces.{two_each}
use Rattle.mc_growth.specs.Joins.{HasRoom, MayJoin, away_slot, joined, joining, near_slot}
use Rattle.mc_growth.proofs.Lists.{defaults_added, first_added, length_one, length_two, one_added, second_added, tunnels_append}

-- ---- the numbers of slots

-- the two places that come last
pub places_joined : (world : WorldState) (medium : Medium) (from to : ℕ)
    → places (joined world medium from to) ≡ places world ++ (from, length (box_at world from).slots) ∷ (to, length (box_at world to).slots) ∷ []
places_joined world medium from to = flat_map-append places_within world.channels (joining world medium from to ∷ [])

pub count_joined : (world : WorldState) (medium : Medium) (from to : ℕ) → slot_count (joined world medium from to) ≡ slot_count world + 2
count_joined world medium from to =
    ap (λ (l : List (ℕ × ℕ)). length l) (places_joined world medium from to) ∙ length_two (places world) (from, length (box_at world from).slots) (to, length (box_at world to).slots)

-- a slot that was there has its place
pub place_before : (world : WorldState) (medium : Medium) (from to s : ℕ) → s < slot_count world → place (joined world medium from to) s ≡ place world s
place_before world medium from to s below =
    ap (λ (l : List (ℕ × ℕ)). get_or l s (0, 0)) (places_joined world medium from to)
    ∙ get_or_append_left (places world) ((from, length (box_at world from).slots) ∷ (to, length (box_at world to).slots) ∷ []) (0, 0) s below

-- the initiator's new slot comes first
pub place_near : (world : WorldState) (medium : Medium) (from to : ℕ) → place (joined world medium from to) (slot_count world) ≡ (from, length (box_at world from).slots)
place_near world medium from to =
    ap (λ (l : List (ℕ × ℕ)). get_or l (slot_count world) (0, 0)) (places_joined world medium from to)
    ∙ first_added (places world) (from, length (box_at world from).slots) (to, length (box_at world to).slots) (0, 0) (slot_count world) refl

pub place_away : (world : WorldState) (medium : Medium) (from to : ℕ) → place (joined world medium from to) (slot_count world + 1) ≡ (to, length (box_at world to).slots)
place_away world medium from to =
    ap (λ (l : List (ℕ × ℕ)). get_or l (slot_count world + 1) (0, 0)) (places_joined world medium from to)
    ∙ second_added (places world) (from, length (box_at world from).slots) (to, length (box_at world to).slots) (0, 0) (slot_count world + 1) refl

-- a slot was there, or is one of the two
pub data SlotKind (n : ℕ) : ℕ → Type 0 where
  before : {s : ℕ} → s < n → SlotKind n s
  near : {s : ℕ} → s ≡ n → SlotKind n s
  away : {s : ℕ} → s ≡ n + 1 → SlotKind n s

pub slot_kind : (n s : ℕ) → s < n + 2 → SlotKind n s
slot_kind n s inside = elim (cases_lt s n) [
  | inl below ↦ before below
  | inr above ↦ elim (cases_eq s n) [
    | inl same ↦ near same
    | inr other ↦ away (omega (arith, inside, above, other))
  ]
]

pub kind_of : (world : WorldState) (medium : Medium) (from to s : ℕ) → s < slot_count (joined world medium from to) → SlotKind (slot_count world) s
kind_of world medium from to s inside = slot_kind (slot_count world) s (subst (λ (n : ℕ). s < n) (count_joined world medium from to) inside)

-- ---- tunnels

new_tunnel : WorldState → Medium → TunnelPlace
new_tunnel world medium = record { channel = length world.channels; within = 0; medium = medium }

pub tunnels_joined : (world : WorldState) (medium : Medium) (from to : ℕ)
    → all_tunnels (joined world medium from to) ≡ all_tunnels world ++ record { channel = length world.channels; within = 0; medium = medium } ∷ []
tunnels_joined world medium from to = tunnels_append world.channels (joining world medium from to ∷ []) 0 (length world.channels) (omega arith)

half_below : (s n : ℕ) → s < 2 * n → s / 2 < n
half_below s n below = omega arith

half_even : (n : ℕ) → 2 * n / 2 ≡ n
half_even n = omega arith

half_odd : (n : ℕ) → (2 * n + 1) / 2 ≡ n
half_odd n = omega arith

pub tunnel_before : (world : WorldState) (medium : Medium) (from to s : ℕ) → s < slot_count world → tunnel_of (joined world medium from to) s ≡ tunnel_of world s
tunnel_before world medium from to s below =
    ap (λ (l : List TunnelPlace). get_or l (s / 2) no_tunnel) (tunnels_joined world medium from to)
    ∙ get_or_append_left (all_tunnels world) (record { channel = length world.channels; within = 0; medium = medium } ∷ []) no_tunnel (s / 2)
    (half_below s (length (all_tunnels world)) (subst (λ (n : ℕ). s < n) (two_each world.channels 0) below))

tunnel_late : (world : WorldState) (medium : Medium) (from to s : ℕ) → s / 2 ≡ length (all_tunnels world)
    → tunnel_of (joined world medium from to) s ≡ record { channel = length world.channels; within = 0; medium = medium }
tunnel_late world medium from to s half =
    ap (λ (l : List TunnelPlace). get_or l (s / 2) no_tunnel) (tunnels_joined world medium from to)
    ∙ one_added (all_tunnels world) (record { channel = length world.channels; within = 0; medium = medium }) no_tunnel (s / 2) half

pub tunnel_near : (world : WorldState) (medium : Medium) (from to : ℕ)
    → tunnel_of (joined world medium from to) (slot_count world) ≡ record { channel = length world.channels; within = 0; medium = medium }
tunnel_near world medium from to =
    tunnel_late world medium from to (slot_count world) (ap (λ (n : ℕ). n / 2) (two_each world.channels 0) ∙ half_even (length (all_tunnels world)))

pub tunnel_away : (world : WorldState) (medium : Medium) (from to : ℕ)
    → tunnel_of (joined world medium from to) (slot_count world + 1) ≡ record { channel = length world.channels; within = 0; medium = medium }
tunnel_away world medium from to =
    tunnel_late world medium from to (slot_count world + 1) (ap (λ (n : ℕ). (n + 1) / 2) (two_each world.channels 0) ∙ half_odd (length (all_tunnels world)))

-- the number of slots is even
pub count_even : (world : WorldState) → slot_count world % 2 ≡ 0
count_even world = ap (λ (n : ℕ). n % 2) (two_each world.channels 0) ∙ even_twice (length (all_tunnels world))
  where
    even_twice : (n : ℕ) → 2 * n % 2 ≡ 0
    even_twice n = omega arith

-- ---- boxes

-- a box stays, or gets one slot for which it has room
pub data GrowsTo (old : BoxState) : BoxState → Type 0 where
  stays : {new : BoxState} → new ≡ old → GrowsTo old new
  grows : {new : BoxState} (setup : SlotSetup) → HasRoom old → new ≡ with_new_slot old setup → GrowsTo old new

pub box_near : (world : WorldState) (medium : Medium) (from to : ℕ) → MayJoin world from to → box_at (joined world medium from to) from ≡ with_new_slot (box_at world from) (near_slot world medium)
box_near world medium from to may =
    let first = set world.boxes from (with_new_slot (box_at world from) (near_slot world medium)) in
    get_or-set_other first to from (with_new_slot (box_at world to) (away_slot world medium)) no_box may.apart
    ∙ get_or-set_same world.boxes from (with_new_slot (box_at world from) (near_slot world medium)) no_box may.near

pub box_away : (world : WorldState) (medium : Medium) (from to : ℕ) → MayJoin world from to → box_at (joined world medium from to) to ≡ with_new_slot (box_at world to) (away_slot world medium)
box_away world medium from to may =
    let first = set world.boxes from (with_new_slot (box_at world from) (near_slot world medium)) in
    get_or-set_same first to (with_new_slot (box_at world to) (away_slot world medium)) no_box
    (subst (λ (n : ℕ). to < n) (sym (length-set world.boxes from (with_new_slot (box_at world from) (near_slot world medium)))) may.away)

pub box_else : (world : WorldState) (medium : Medium) (from to who : ℕ) → who ≢ from → who ≢ to → box_at (joined world medium from to) who ≡ box_at world who
box_else world medium from to who one two =
    let first = set world.boxes from (with_new_slot (box_at world from) (near_slot world medium)) in
    get_or-set_other first to who (with_new_slot (box_at world to) (away_slot world medium)) no_box two
    ∙ get_or-set_other world.boxes from who (with_new_slot (box_at world from) (near_slot world medium)) no_box one

pub box_grows : (world : WorldState) (medium : Medium) (from to who : ℕ) → MayJoin world from to → GrowsTo (box_at world who) (box_at (joined world medium from to) who)
box_grows world medium from to who may = elim (cases_eq who from) [
  | inl same ↦ subst (λ (w : ℕ). GrowsTo (box_at world w) (box_at (joined world medium from to) w)) (sym same) (grows (near_slot world medium) may.near_room (box_near world medium from to may))
  | inr other ↦ elim (cases_eq who to) [
    | inl same ↦ subst (λ (w : ℕ). GrowsTo (box_at world w) (box_at (joined world medium from to) w)) (sym same) (grows (away_slot world medium) may.away_room (box_away world medium from to may))
    | inr neither ↦ stays (box_else world medium from to who other neither)
  ]
]

pub length_boxes : (world : WorldState) (medium : Medium) (from to : ℕ) → length (joined world medium from to).boxes ≡ length world.boxes
length_boxes world medium from to =
    length-set (set world.boxes from (with_new_slot (box_at world from) (near_slot world medium))) to (with_new_slot (box_at world to) (away_slot world medium))
    ∙ length-set world.boxes from (with_new_slot (box_at world from) (near_slot world medium))

-- what a box has at a local number stays, where it has it
record SameAt (old new : BoxState) (local : ℕ) : Type 0 where
  slot : slot_at new local ≡ slot_at old local
  goal : goal_at new local ≡ goal_at old local
  media : media_at new local ≡ media_at old local

same_at : (old new : BoxState) (local : ℕ) → GrowsTo old new → local < length old.slots → local < length old.media → SameAt old new local
same_at old new local (stays is) below within = record {
  slot = ap (λ (box : BoxState). slot_at box local) is;
  goal = ap (λ (box : BoxState). goal_at box local) is;
  media = ap (λ (box : BoxState). media_at box local) is;
}
same_at old new local (grows setup room is) below within = record {
  slot = ap (λ (box : BoxState). slot_at box local) is ∙ slot_before old setup local below;
  goal = ap (λ (box : BoxState). goal_at box local) is ∙ goal_added old setup local;
  media = ap (λ (box : BoxState). media_at box local) is ∙ media_before old setup local within;
}

-- a box has as many slots, or one more
slots_grow : (old new : BoxState) → GrowsTo old new → length old.slots ≤ length new.slots
slots_grow old new (stays is) = let same = ap (λ (box : BoxState). length box.slots) is in omega (arith, same)
slots_grow old new (grows setup room is) = let more = ap (λ (box : BoxState). length box.slots) is ∙ length_one old.slots (first_slot setup) in omega (arith, more)

pub slots_more : (world : WorldState) (medium : Medium) (from to who : ℕ) → MayJoin world from to → length (box_at world who).slots ≤ length (box_at (joined world medium from to) who).slots
slots_more world medium from to who may = slots_grow (box_at world who) (box_at (joined world medium from to) who) (box_grows world medium from to who may)

pub number_same : (old new : BoxState) → GrowsTo old new → new.number ≡ old.number
number_same old new (stays is) = ap (λ (box : BoxState). box.number) is
number_same old new (grows setup room is) = ap (λ (box : BoxState). box.number) is

pub program_same : (old new : BoxState) → GrowsTo old new → new.program ≡ old.program
program_same old new (stays is) = ap (λ (box : BoxState). box.program) is
program_same old new (grows setup room is) = ap (λ (box : BoxState). box.program) is

pub grown_sound : (old new : BoxState) → GrowsTo old new → IsSoundBox old → IsSoundBox new
grown_sound old new (stays is) sound = subst IsSoundBox (sym is) sound
grown_sound old new (grows setup has is) sound = subst IsSoundBox (sym is) (added_sound old setup sound has.room has.unprogrammed)

-- ---- slots that were there

-- what a slot that was there has
pub record SameSlot (world next : WorldState) (s : ℕ) : Type 0 where
  pub at : place next s ≡ place world s
  pub tunnel : tunnel_of next s ≡ tunnel_of world s
  pub slot : slot_of next s ≡ slot_of world s
  pub goal : goal_of next s ≡ goal_of world s
  pub media : media_at (box_at next (place world s).0) (place world s).1 ≡ media_at (box_at world (place world s).0) (place world s).1
  pub list : list_to next s ≡ list_to world s

-- lanes stay, and the two new ones are empty
pub lane_same : (world : WorldState) (medium : Medium) (from to lane : ℕ) → get_or (joined world medium from to).lanes lane [] ≡ get_or world.lanes lane []
lane_same world medium from to lane = defaults_added world.lanes [] lane

pub same_slot : (world : WorldState) (medium : Medium) (from to s : ℕ) → IsNumbered world → MayJoin world from to → s < slot_count world → SameSlot world (joined world medium from to) s
same_slot world medium from to s numbered may below =
    let next = joined world medium from to in
    let who : ℕ = (place world s).0 in
    let local : ℕ = (place world s).1 in
    let at = place_before world medium from to s below in
    let inside : local < length (box_at world who).slots = numbered.slots s below in
    let media : local < length (box_at world who).media = subst (λ (n : ℕ). local < n) (sym (numbered.whole who (numbered.placed s below)).media) inside in
    let same : SameAt (box_at world who) (box_at next who) local = same_at (box_at world who) (box_at next who) local (box_grows world medium from to who may) inside media in
    let tunnel = tunnel_before world medium from to s below in
    record {
      at = at;
      tunnel = tunnel;
      slot = ap (λ (p : ℕ × ℕ). slot_at (box_at next p.0) p.1) at ∙ same.slot;
      goal = ap (λ (p : ℕ × ℕ). goal_at (box_at next p.0) p.1) at ∙ same.goal;
      media = same.media;
      list = ap (λ (t : TunnelPlace). for_tunnel t.within (get_or next.lanes (2 * t.channel + s % 2) [])) tunnel
          ∙ ap (for_tunnel (tunnel_of world s).within) (lane_same world medium from to (lane_of world s));
    }
