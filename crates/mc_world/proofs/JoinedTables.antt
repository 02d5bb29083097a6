-- The tables of a world that a channel has joined.
use Rattle.std.proofs.Common.{◌≡◌, ◌≢◌, ◌<◌, ◌≤◌, ◌+◌, ◌*◌, ◌/◌, ◌%◌, ◌^◌, ◌++◌, inl, inr, ℕ, zero, suc, Bool, true, false, add-one, Option, Some, None, List, [], ◌∷◌, length, map, position, get_or, Vec, Global, refl, ap, sym, ◌∙◌, subst, arith}
use Rattle.std.specs.List.{slice_get}
use Rattle.std.specs.Option.{is_some}
use Rattle.std.proofs.Math.ListN.{get_or-map, set}
use Rattle.std.proofs.lemmas.Bool.{cases_eq}
use Rattle.std.proofs.lemmas.List.{get_or_append_left, get_or_past, get_or-set_other, length-map, map-append, map-set}
use Rattle.std.proofs.lemmas.List.Elements.{All-append, All-cons, All-nil}
use Rattle.mc_lane.specs.Queue.{Queue}
use Rattle.mc_signal.specs.declared.Medium.{Medium}
use Rattle.mc_signal.specs.declared.Signal.{Signal}
use Rattle.mc_signal.specs.declared.Tagged.{Tagged}
use Rattle.mc_slot_laws.specs.Sums.{total}
use Rattle.mc_slot_laws.proofs.Sums.{total_same}
use Rattle.mc_box.specs.Boxes.{BoxState, first_media, no_box, with_new_slot}
use Rattle.mc_box.specs.declared.setup.SlotMedia.{SlotMedia}
use Rattle.mc_box.specs.declared.setup.SlotSetup.{SlotSetup}
use Rattle.mc_model.specs.Rings.{IsLeastOnRing}
use Rattle.mc_model.specs.Sound.{IsSound}
use Rattle.mc_model.specs.Worlds.{AreChannels, ChannelState, HasTunnels, WorldState, box_at, front_for, is_place, number, places_among, slot_count, tunnels_from}
use Rattle.mc_laws.proofs.TunnelPlaces.{two_each}
use Rattle.mc_growth.specs.Joins.{MayJoin, away_slot, joined, joined_boxes, joining, near_slot}
use Rattle.mc_growth.proofs.Joined.{SlotKind, before, away, length_boxes, near, box_away, box_else, box_near, places_joined, slot_kind, tunnels_joined}
use Rattle.mc_growth.proofs.JoinedPartners.{join_makes_no_ring}
use Rattle.mc_growth.proofs.JoinedSound.{join_keeps_sound}
use Rattle.mc_growth.proofs.Lists.{defaults_added, length_one, length_two, one_added}
use Rattle.mc_world.specs.Lanes.{lane_by, number_lists, numbers_of, origins, signals_of, tunnel_by, with_number}
use Rattle.mc_world.specs.Tables.{HasTables, channel_of, world_state}
use Rattle.mc_world.specs.Waiting.{bit, flag_of, waits_by}
use Rattle.mc_world.specs.declared.network.World.TheInside.{Inside}
use Rattle.mc_world.specs.declared.topology.Topology.{Topology}
use Rattle.mc_world.proofs.SlotNumbers.{found_by, origins_found}
use Rattle.mc_world.proofs.Tables.{box_read}
use Rattle.mc_world.proofs.TunnelTables.{few_slots}

-- ---- lists

-- a box's numbers, with one more
pub number_added : (lists : List (Vec ℕ Global)) (who number : ℕ) (was new : Vec ℕ Global) → who < length lists → was ≡ get_or lists who was → new.items ≡ was.items ++ number ∷ []
    → number_lists (set lists who new) ≡ with_number (number_lists lists) who number
number_added lists who number was new inside is more =
    let found : get_or (number_lists lists) who [] ≡ was.items = found_at lists who was inside ∙ ap (λ (list : Vec ℕ Global). list.items) (sym is) in
    map-set (λ (list : Vec ℕ Global). list.items) lists who new ∙ ap (set (number_lists lists) who) (more ∙ ap (λ (l : List ℕ). l ++ number ∷ []) (sym found))
  where
    found_at : (lists : List (Vec ℕ Global)) (who : ℕ) (d : Vec ℕ Global) → who < length lists → get_or (number_lists lists) who [] ≡ (get_or lists who d).items
    found_at [] who d inside = absurd (omega arith)
    found_at (list ∷ lists) zero d inside = refl
    found_at (list ∷ lists) (suc who) d inside = found_at lists who d (omega arith)

-- lists are the same where each of their entries is
same_list : (xs ys : List ℕ) → ((i : ℕ) → slice_get xs i ≡ slice_get ys i) → xs ≡ ys
same_list [] [] each = refl
same_list [] (y ∷ ys) each = let clash = each 0 in absurd (cc)
same_list (x ∷ xs) [] each = let clash = each 0 in absurd (cc)
same_list (x ∷ xs) (y ∷ ys) each =
    let one : x ≡ y = some_of x y (each 0) in
    ap (λ (z : ℕ). z ∷ xs) one ∙ ap (λ (l : List ℕ). y ∷ l) (same_list xs ys (λ i. each (suc i)))
  where
    some_of : (x y : ℕ) → Some x ≡ Some y → x ≡ y
    some_of x y is = cc

same_lists : (xs ys : List (List ℕ)) → length xs ≡ length ys → ((i : ℕ) → get_or xs i [] ≡ get_or ys i []) → xs ≡ ys
same_lists [] [] size each = refl
same_lists [] (y ∷ ys) size each = absurd (omega (arith, size))
same_lists (x ∷ xs) [] size each = absurd (omega (arith, size))
same_lists (x ∷ xs) (y ∷ ys) size each =
    ap (λ (z : List ℕ). z ∷ xs) (each 0) ∙ ap (λ (l : List (List ℕ)). y ∷ l) (same_lists xs ys (omega (arith, size)) (λ i. each (suc i)))

slice_before : {X : Type 0} (xs : List X) (x : X) (i : ℕ) → i < length xs → slice_get (xs ++ x ∷ []) i ≡ slice_get xs i
slice_before [] x i below = absurd (omega arith)
slice_before (y ∷ ys) x zero below = refl
slice_before (y ∷ ys) x (suc i) below = slice_before ys x i (omega arith)

slice_last : {X : Type 0} (xs : List X) (x : X) → slice_get (xs ++ x ∷ []) (length xs) ≡ Some x
slice_last [] x = refl
slice_last (y ∷ ys) x = slice_last ys x

-- ---- numbers

-- the numbers that a world keeps are the origins of its slots
numbers_are : (inside : Inside) → HasTables inside → number_lists inside.topology.numbers.items ≡ map origins inside.boxes.items
numbers_are inside has =
    same_lists (number_lists inside.topology.numbers.items) (map origins inside.boxes.items)
    (length-map inside.topology.numbers.items (λ (list : Vec ℕ Global). list.items) ∙ (has.topology.homes ∙ sym (length-map inside.boxes.items origins)))
    (λ who. home who ∙ sym (get_or-map origins inside.boxes.items who no_box))
  where
    home : (who : ℕ) → numbers_of inside.topology who ≡ origins (box_at (world_state inside) who)
    home who = same_list (numbers_of inside.topology who) (origins (box_at (world_state inside) who)) (λ local.
        has.topology.found who local ∙ (ap (position (is_place (who, local))) has.topology.places ∙ sym (origins_found (world_state inside) who local has.sound.numbered)))

origins_more : (box : BoxState) (setup : SlotSetup) → origins (with_new_slot box setup) ≡ origins box ++ setup.origin ∷ []
origins_more box setup = map-append (λ (media : SlotMedia). media.origin) box.media (first_media box.first_version setup ∷ [])

-- and so are those of the joined world
numbers_joined : (boxes : List BoxState) (one two : SlotSetup) (from to : ℕ) → from ≢ to
    → with_number (with_number (map origins boxes) from one.origin) to two.origin
    ≡ map origins (set (set boxes from (with_new_slot (get_or boxes from no_box) one)) to (with_new_slot (get_or boxes to no_box) two))
numbers_joined boxes one two from to apart =
    let first = with_new_slot (get_or boxes from no_box) one in
    let second = with_new_slot (get_or boxes to no_box) two in
    let near : get_or (map origins boxes) from [] ++ one.origin ∷ [] ≡ origins first =
    ap (λ (l : List ℕ). l ++ one.origin ∷ []) (get_or-map origins boxes from no_box) ∙ sym (origins_more (get_or boxes from no_box) one) in
    let there : get_or (set (map origins boxes) from (origins first)) to [] ++ two.origin ∷ [] ≡ origins second =
    ap (λ (l : List ℕ). l ++ two.origin ∷ []) (get_or-set_other (map origins boxes) from to (origins first) [] (λ same. apart (sym same)) ∙ get_or-map origins boxes to no_box)
    ∙ sym (origins_more (get_or boxes to no_box) two) in
    ap (λ (l : List ℕ). with_number (set (map origins boxes) from l) to two.origin) near
    ∙ (ap (λ (l : List ℕ). set (set (map origins boxes) from (origins first)) to l) there
    ∙ sym (map-set origins (set boxes from first) to second ∙ ap (λ (l : List (List ℕ)). set l to (origins second)) (map-set origins boxes from first)))

-- ---- counts of flags

-- a box has the numbers that it had, or one more, which is beyond the flags
data NumbersGrow (n : ℕ) (old : List ℕ) : List ℕ → Type 0 where
  same : {new : List ℕ} → new ≡ old → NumbersGrow n old new
  more : {new : List ℕ} (number : ℕ) → n ≤ number → new ≡ old ++ number ∷ [] → NumbersGrow n old new

abbrev counted : List Bool → List ℕ → ℕ → ℕ
counted flags numbers count = total (λ local. bit (flag_of flags (slice_get numbers local))) count

count_grows : (flags : List Bool) (old new : List ℕ) → NumbersGrow (length flags) old new → counted flags new (length new) ≡ counted flags old (length old)
count_grows flags old new (same is) = ap (λ (l : List ℕ). counted flags l (length l)) is
count_grows flags old new (more number late is) =
    let last : bit (flag_of flags (slice_get (old ++ number ∷ []) (length old))) ≡ 0 =
    ap (λ (o : Option ℕ). bit (flag_of flags o)) (slice_last old number) ∙ ap bit (get_or_past flags number false late) in
    let rest : counted flags (old ++ number ∷ []) (length old) ≡ counted flags old (length old) =
    total_same (λ local. bit (flag_of flags (slice_get (old ++ number ∷ []) local))) (λ local. bit (flag_of flags (slice_get old local))) (length old)
    (λ local below. ap (λ (o : Option ℕ). bit (flag_of flags o)) (slice_before old number local below)) in
    let long : counted flags (old ++ number ∷ []) (length old + 1) ≡ counted flags old (length old) = rw add-one (omega (arith, last, rest)) in
    ap (λ (l : List ℕ). counted flags l (length l)) is ∙ (ap (counted flags (old ++ number ∷ [])) (length_one old number) ∙ long)

-- two flags that aren't set change no flag
flag_more : (flags : List Bool) (o : Option ℕ) → flag_of (flags ++ false ∷ false ∷ []) o ≡ flag_of flags o
flag_more flags None = refl
flag_more flags (Some s) = defaults_added flags false s

counted_more : (flags : List Bool) (numbers : List ℕ) (count : ℕ) → counted (flags ++ false ∷ false ∷ []) numbers count ≡ counted flags numbers count
counted_more flags numbers count =
    total_same (λ local. bit (flag_of (flags ++ false ∷ false ∷ []) (slice_get numbers local))) (λ local. bit (flag_of flags (slice_get numbers local))) count
    (λ local below. ap bit (flag_more flags (slice_get numbers local)))

-- ---- what is changed

-- what a join makes of the parts of a world
pub record MakesJoin (old new : Inside) (medium : Medium) (from to : ℕ) : Type 0 where
  pub boxes : new.boxes.items ≡ joined_boxes (world_state old) medium from to
  pub channels : new.channels.items ≡ old.channels.items ++ joining (world_state old) medium from to ∷ []
  pub lanes : signals_of new.lanes.items ≡ signals_of old.lanes.items ++ [] ∷ [] ∷ []
  pub places : new.topology.places.items ≡ old.topology.places.items ++ (from, length (box_at (world_state old) from).slots) ∷ (to, length (box_at (world_state old) to).slots) ∷ []
  pub tunnels : new.topology.tunnels.items ≡ old.topology.tunnels.items ++ (length old.channels.items, 0) ∷ []
  pub numbers : number_lists new.topology.numbers.items
      ≡ with_number (with_number (number_lists old.topology.numbers.items) from (length old.topology.places.items)) to (length old.topology.places.items + 1)
  pub homes : length new.topology.numbers.items ≡ length old.topology.numbers.items
  pub flags : new.waiting.flags.items ≡ old.waiting.flags.items ++ false ∷ false ∷ []
  pub takes : new.waiting.takes ≡ old.waiting.takes
  pub scratch : new.scratch ≡ old.scratch
  pub ringless : new.ringless ≡ old.ringless

-- there are numbers for two slots more
pub fits_two : (inside : Inside) (from to : ℕ) → HasTables inside → MayJoin (world_state inside) from to → length inside.topology.places.items + 2 ≤ 2 ^ 32
fits_two inside from to has may =
    let few = few_slots inside.channels.items has.channels.tunnels in
    let long = ap (λ (l : List (ℕ × ℕ)). length l) has.topology.places in
    let room = may.few in
    omega (arith, few, long, room)

-- the world that they make
state_is : (old new : Inside) (medium : Medium) (from to : ℕ) → MakesJoin old new medium from to → world_state new ≡ joined (world_state old) medium from to
state_is old new medium from to makes = rw (makes.boxes, makes.channels, makes.lanes) refl

channels_more : (channels : List ChannelState) (ends : ChannelState) → AreChannels channels → length channels < 2 ^ 28 → HasTunnels ends → AreChannels (channels ++ ends ∷ [])
channels_more channels ends are few has = record {
  few = omega (arith, few, length_one channels ends);
  tunnels = All-append HasTunnels channels (ends ∷ []) are.tunnels (All-cons HasTunnels ends [] has (All-nil HasTunnels));
}

-- ---- the numbers of a box

grow_numbers : (old : WorldState) (medium : Medium) (from to who n : ℕ) → MayJoin old from to → n ≤ slot_count old
    → NumbersGrow n (origins (box_at old who)) (origins (box_at (joined old medium from to) who))
grow_numbers old medium from to who n may few = elim (cases_eq who from) [
  | inl is ↦
      subst (λ (w : ℕ). NumbersGrow n (origins (box_at old w)) (origins (box_at (joined old medium from to) w))) (sym is)
      (more (slot_count old) few (ap origins (box_near old medium from to may) ∙ origins_more (box_at old from) (near_slot old medium)))
  | inr one ↦ elim (cases_eq who to) [
    | inl is ↦
        subst (λ (w : ℕ). NumbersGrow n (origins (box_at old w)) (origins (box_at (joined old medium from to) w))) (sym is)
        (more (slot_count old + 1) (omega (arith, few)) (ap origins (box_away old medium from to may) ∙ origins_more (box_at old to) (away_slot old medium)))
    | inr two ↦ same (ap origins (box_else old medium from to who one two))
  ]
]

-- ---- what waits

lane_late : (lanes : List (List Tagged)) (lane : ℕ) → length lanes ≤ lane → get_or (lanes ++ [] ∷ [] ∷ []) lane [] ≡ []
lane_late lanes lane late = defaults_added lanes [] lane ∙ get_or_past lanes lane [] late

half_below : (s n : ℕ) → s < 2 * n → s / 2 < n
half_below s n below = omega arith

half_late : (s n : ℕ) → 2 * n ≤ s → s < 2 * n + 2 → s / 2 ≡ n
half_late s n late below = omega arith

abbrev waits_with : (tunnel : ℕ × ℕ) (lanes : List (List Tagged)) (s : ℕ) → Bool
waits_with tunnel lanes s = is_some (front_for tunnel.1 (get_or lanes (2 * tunnel.0 + s % 2) []))

-- a slot that was there
waits_before : (old new : Topology) (lanes : List (List Tagged)) (channel s : ℕ) → new.tunnels.items ≡ old.tunnels.items ++ (channel, 0) ∷ [] → s < 2 * length old.tunnels.items
    → waits_by new (lanes ++ [] ∷ [] ∷ []) s ≡ waits_by old lanes s
waits_before old new lanes channel s tunnels below =
    let tunnel : get_or new.tunnels.items (s / 2) (0, 0) ≡ get_or old.tunnels.items (s / 2) (0, 0) =
    ap (λ (l : List (ℕ × ℕ)). get_or l (s / 2) (0, 0)) tunnels ∙ get_or_append_left old.tunnels.items ((channel, 0) ∷ []) (0, 0) (s / 2) (half_below s (length old.tunnels.items) below) in
    ap (λ (t : ℕ × ℕ). waits_with t (lanes ++ [] ∷ [] ∷ []) s) tunnel
    ∙ ap (λ (l : List Tagged). is_some (front_for (tunnel_by old s) l)) (defaults_added lanes [] (lane_by old s))

-- a new slot
waits_late : (old new : Topology) (lanes : List (List Tagged)) (channel s : ℕ) → new.tunnels.items ≡ old.tunnels.items ++ (channel, 0) ∷ [] → 2 * length old.tunnels.items ≤ s → s < 2 * length old.tunnels.items + 2
    → length lanes ≡ 2 * channel → waits_by new (lanes ++ [] ∷ [] ∷ []) s ≡ false
waits_late old new lanes channel s tunnels late below size =
    let tunnel : get_or new.tunnels.items (s / 2) (0, 0) ≡ (channel, 0) =
    ap (λ (l : List (ℕ × ℕ)). get_or l (s / 2) (0, 0)) tunnels ∙ one_added old.tunnels.items (channel, 0) (0, 0) (s / 2) (half_late s (length old.tunnels.items) late below) in
    ap (λ (t : ℕ × ℕ). waits_with t (lanes ++ [] ∷ [] ∷ []) s) tunnel
    ∙ ap (λ (l : List Tagged). is_some (front_for 0 l)) (lane_late lanes (2 * channel + s % 2) (omega (arith, size)))

twice_tunnels : (inside : Inside) → HasTables inside → length inside.topology.places.items ≡ 2 * length inside.topology.tunnels.items
twice_tunnels inside has =
    let one = ap (λ (l : List (ℕ × ℕ)). length l) has.topology.places in
    let two = ap (λ (l : List (ℕ × ℕ)). length l) has.topology.tunnels ∙ length-map (tunnels_from 0 inside.channels.items) channel_of in
    omega (arith, one, two, two_each inside.channels.items 0)

lanes_twice : (inside : Inside) → HasTables inside → length (signals_of inside.lanes.items) ≡ 2 * length inside.channels.items
lanes_twice inside has = length-map inside.lanes.items (λ (lane : Queue Tagged). lane.items) ∙ has.lanes

-- ---- flags and counts

-- the numbers of one box
numbers_home : (inside : Inside) (who : ℕ) → number_lists inside.topology.numbers.items ≡ map origins inside.boxes.items → numbers_of inside.topology who ≡ origins (box_at (world_state inside) who)
numbers_home inside who are = ap (λ (l : List (List ℕ)). get_or l who []) are ∙ get_or-map origins inside.boxes.items who no_box

counts_stay : (old new : Inside) (medium : Medium) (from to who : ℕ) → HasTables old → MayJoin (world_state old) from to → MakesJoin old new medium from to
    → number_lists new.topology.numbers.items ≡ map origins new.boxes.items → world_state new ≡ joined (world_state old) medium from to
    → counted new.waiting.flags.items (numbers_of new.topology who) (length (numbers_of new.topology who)) ≡ counted old.waiting.flags.items (numbers_of old.topology who) (length (numbers_of old.topology who))
counts_stay old new medium from to who has may makes numbers state =
    let flags = old.waiting.flags.items in
    let after : numbers_of new.topology who ≡ origins (box_at (joined (world_state old) medium from to) who) = numbers_home new who numbers ∙ ap (λ (w : WorldState). origins (box_at w who)) state in
    let before : numbers_of old.topology who ≡ origins (box_at (world_state old) who) = numbers_home old who (numbers_are old has) in
    let count : length old.waiting.flags.items ≡ slot_count (world_state old) = has.waiting.counted.flags ∙ ap (λ (l : List (ℕ × ℕ)). length l) has.topology.places in
    ap (λ (l : List Bool). counted l (numbers_of new.topology who) (length (numbers_of new.topology who))) makes.flags
    ∙ (counted_more flags (numbers_of new.topology who) (length (numbers_of new.topology who))
    ∙ (ap (λ (l : List ℕ). counted flags l (length l)) after
    ∙ (count_grows flags (origins (box_at (world_state old) who)) (origins (box_at (joined (world_state old) medium from to) who)) (grow_numbers (world_state old) medium from to who (length flags) may (omega (arith, count)))
    ∙ ap (λ (l : List ℕ). counted flags l (length l)) (sym before))))

flagged_by : (old new : Inside) (medium : Medium) (from to s : ℕ) → HasTables old → MakesJoin old new medium from to → SlotKind (length old.topology.places.items) s
    → get_or old.waiting.flags.items s false ≡ waits_by new.topology (signals_of old.lanes.items ++ [] ∷ [] ∷ []) s
flagged_by old new medium from to s has makes (before below) =
    has.waiting.flagged s below ∙ sym (waits_before old.topology new.topology (signals_of old.lanes.items) (length old.channels.items) s makes.tunnels (let slots = twice_tunnels old has in omega (arith, below, slots)))
flagged_by old new medium from to s has makes (near is) =
    let slots = twice_tunnels old has in
    get_or_past old.waiting.flags.items s false (omega (arith, is, has.waiting.counted.flags))
    ∙ sym (waits_late old.topology new.topology (signals_of old.lanes.items) (length old.channels.items) s makes.tunnels (omega (arith, is, slots)) (omega (arith, is, slots)) (lanes_twice old has))
flagged_by old new medium from to s has makes (away is) =
    let slots = twice_tunnels old has in
    get_or_past old.waiting.flags.items s false (omega (arith, is, has.waiting.counted.flags))
    ∙ sym (waits_late old.topology new.topology (signals_of old.lanes.items) (length old.channels.items) s makes.tunnels (omega (arith, is, slots)) (omega (arith, is, slots)) (lanes_twice old has))

-- ---- all of it

pub joined_tables : (old new : Inside) (medium : Medium) (from to : ℕ) → HasTables old → MayJoin (world_state old) from to → MakesJoin old new medium from to → HasTables new
joined_tables old new medium from to has may makes =
    let world : WorldState = world_state old in
    let state : world_state new ≡ joined (world_state old) medium from to = state_is old new medium from to makes in
    let sound : IsSound (world_state new) = subst IsSound (sym state) (join_keeps_sound world medium from to has.sound may) in
    let places : new.topology.places.items ≡ places_among new.channels.items =
    makes.places
    ∙ (ap (λ (l : List (ℕ × ℕ)). l ++ (from, length (box_at (world_state old) from).slots) ∷ (to, length (box_at (world_state old) to).slots) ∷ []) has.topology.places
    ∙ (sym (places_joined world medium from to) ∙ ap places_among (sym makes.channels))) in
    let count : length old.topology.places.items ≡ slot_count (world_state old) = ap (λ (l : List (ℕ × ℕ)). length l) has.topology.places in
    let numbers : number_lists new.topology.numbers.items ≡ map origins new.boxes.items =
    makes.numbers
    ∙ (ap (λ (l : List (List ℕ)). with_number (with_number l from (length old.topology.places.items)) to (length old.topology.places.items + 1)) (numbers_are old has)
    ∙ (ap (λ (n : ℕ). with_number (with_number (map origins old.boxes.items) from n) to (n + 1)) count
    ∙ (numbers_joined old.boxes.items (near_slot world medium) (away_slot world medium) from to may.apart ∙ ap (map origins) (sym makes.boxes)))) in
    let tunnels : length old.topology.tunnels.items ≡ length (tunnels_from 0 old.channels.items) =
    ap (λ (l : List (ℕ × ℕ)). length l) has.topology.tunnels ∙ length-map (tunnels_from 0 old.channels.items) channel_of in
    let twice = two_each old.channels.items 0 in
    let size = length_two old.topology.places.items (from, length (box_at (world_state old) from).slots) (to, length (box_at (world_state old) to).slots) in
    let longer = ap (λ (l : List (ℕ × ℕ)). length l) makes.places in
    let flags_longer = ap (λ (l : List Bool). length l) makes.flags ∙ length_two old.waiting.flags.items false false in
    let lanes_longer : length new.lanes.items ≡ length old.lanes.items + 2 =
    sym (length-map new.lanes.items (λ (lane : Queue Tagged). lane.items))
    ∙ (ap (λ (l : List (List Tagged)). length l) makes.lanes ∙ (length_two (signals_of old.lanes.items) [] [] ∙ ap (λ (n : ℕ). n + 2) (length-map old.lanes.items (λ (lane : Queue Tagged). lane.items)))) in
    let channels_longer = ap (λ (l : List ChannelState). length l) makes.channels ∙ length_one old.channels.items (joining world medium from to) in
    let fit = fits_two old from to has may in
    let one_of : HasTunnels (joining world medium from to) = record { some = omega arith; few = omega arith } in
    record {
      channels = subst AreChannels (sym makes.channels) (channels_more old.channels.items (joining world medium from to) has.channels may.few one_of);
      topology = record {
        places = places;
        tunnels = makes.tunnels
            ∙ (ap (λ (l : List (ℕ × ℕ)). l ++ (length old.channels.items, 0) ∷ []) has.topology.tunnels
            ∙ (sym (map-append channel_of (tunnels_from 0 old.channels.items) (record { channel = length old.channels.items; within = 0; medium = medium } ∷ []))
            ∙ (ap (map channel_of) (sym (tunnels_joined world medium from to)) ∙ ap (λ (l : List ChannelState). map channel_of (tunnels_from 0 l)) (sym makes.channels))));
        found = λ who local. found_by (world_state new) new.topology who local sound.numbered numbers ∙ ap (position (is_place (who, local))) (sym places);
        few = omega (arith, fit, longer, size);
        homes = makes.homes ∙ (has.topology.homes ∙ sym (ap (λ (w : WorldState). length w.boxes) state ∙ length_boxes world medium from to));
      };
      lanes = omega (arith, lanes_longer, channels_longer, has.lanes);
      waiting = record {
        counted = record {
          flags = omega (arith, flags_longer, longer, size, has.waiting.counted.flags);
          takes = ap (λ (l : List ℕ). length l) makes.takes ∙ (has.waiting.counted.takes ∙ sym makes.homes);
          each = λ who here.
              ap (λ (l : List ℕ). get_or l who 0) makes.takes
              ∙ (has.waiting.counted.each who (omega (arith, here, makes.homes))
              ∙ sym (counts_stay old new medium from to who has may makes numbers state));
        };
        flagged = λ s below.
            ap (λ (l : List Bool). get_or l s false) makes.flags
            ∙ (defaults_added old.waiting.flags.items false s
            ∙ (flagged_by old new medium from to s has makes (slot_kind (length old.topology.places.items) s (omega (arith, below, longer, size)))
            ∙ ap (λ (l : List (List Tagged)). waits_by new.topology l s) (sym makes.lanes)));
      };
      scratch = ap (λ (sends : Queue (ℕ × Signal)). sends.items) makes.scratch ∙ has.scratch;
      sound = sound;
      ringless = λ remembered. subst (λ (w : WorldState). IsLeastOnRing w None) (sym state)
          (join_makes_no_ring world medium from to has.sound may (has.ringless (sym makes.ringless ∙ remembered)));
    }

-- ---- as the parts are computed

pub boxes_by : (boxes : List BoxState) (medium : Medium) (from to m n : ℕ) → m ≡ n
    → set (set boxes from (with_new_slot (get_or boxes from no_box) (record { origin = m; medium = medium; initiator = true; address = None }))) to (with_new_slot (get_or boxes to no_box) (record { origin = m + 1; medium = medium; initiator = false; address = None }))
    ≡ set (set boxes from (with_new_slot (get_or boxes from no_box) (record { origin = n; medium = medium; initiator = true; address = None }))) to (with_new_slot (get_or boxes to no_box) (record { origin = n + 1; medium = medium; initiator = false; address = None }))
boxes_by boxes medium from to m n is = rw is refl

pub channels_by : (channels : List ChannelState) (channel : ChannelState) (medium : Medium) (from to near away a b : ℕ)
    → channel ≡ record { from = from; to = to; tunnels = record { medium = medium; from = near; to = away } ∷ [] } → near ≡ a → away ≡ b
    → channels ++ channel ∷ [] ≡ channels ++ record { from = from; to = to; tunnels = record { medium = medium; from = a; to = b } ∷ [] } ∷ []
channels_by channels channel medium from to m n a b is one two = rw (is, one, two) refl

pub places_by : (places : List (ℕ × ℕ)) (from to near away a b : ℕ) → near ≡ a → away ≡ b → places ++ (from, near) ∷ (to, away) ∷ [] ≡ places ++ (from, a) ∷ (to, b) ∷ []
places_by places from to m n a b one two = rw (one, two) refl

-- how many slots a box has, as it is read
pub slots_read : (inside : Inside) (who count : ℕ) (read : BoxState) → who < length inside.boxes.items → read ≡ get_or inside.boxes.items who read → count ≡ length read.slots
    → count ≡ length (box_at (world_state inside) who).slots
slots_read inside who count read here is counts = counts ∙ ap (λ (box : BoxState). length box.slots) (box_read inside (world_state inside) who read refl here is)
