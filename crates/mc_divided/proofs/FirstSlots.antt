-- The numbers of slots, from that of the first slot of their channel.
use Rattle.std.proofs.Common.{◌≡◌, ◌<◌, ◌≤◌, ◌+◌, ◌-◌, ◌*◌, ◌/◌, ◌%◌, ◌^◌, ◌==◌, ◌&&◌, All, Bool, true, ℕ, zero, suc, Some, List, [], ◌∷◌, ◌++◌, length, length-append, length-take-le, get_or, map, min, take, nat_lt, lt-ltb, eq-eqb, refl, ap, ap₂, sym, ◌∙◌, subst, arith}
use Rattle.std.proofs.lemmas.List.{get_or-append-add, get_or_append_left, take_more}
use Rattle.std.proofs.lemmas.List.FromFn.{map-range_with_len_more}
use Rattle.std.proofs.lemmas.Option.{none-some, same_Some}
use Rattle.std.specs.List.{range_with_len, slice_get}
use Rattle.mc_laws.proofs.TunnelPlaces.{two_each, within_slots}
use Rattle.mc_model.specs.Worlds.{AreChannels, ChannelState, HasTunnels, TunnelPlace, WorldState, no_tunnel, places_among, places_within, tunnels_from, tunnels_within}
use Rattle.mc_model.specs.declared.channel.Tunnel.{Tunnel}
use Rattle.mc_divided.specs.Laying.{LeadsTo, first_slot}
use Rattle.mc_world.specs.Pumping.{is_slot_at}

next : (k : ℕ) → suc k ≡ k + 1
next k = omega arith

no_start : (k : ℕ) → 0 + k ≡ k
no_start k = omega arith

-- ---- the first slot of the next channel

places_join : (xs ys : List ChannelState) → length (places_among (xs ++ ys)) ≡ length (places_among xs) + length (places_among ys)
places_join [] ys = omega arith
places_join (x ∷ xs) ys =
    let rest = places_join xs ys in
    omega (arith, length-append (places_within x) (places_among (xs ++ ys)), length-append (places_within x) (places_among xs), rest)

pub first_more : (channels : List ChannelState) (i : ℕ) (d : ChannelState) → i < length channels → first_slot channels (i + 1) ≡ first_slot channels i + 2 * length (get_or channels i d).tunnels
first_more channels i d below =
    let one : length (places_among (get_or channels i d ∷ [])) ≡ 2 * length (get_or channels i d).tunnels =
    (let sum = length-append (places_within (get_or channels i d)) [] in
    let two = within_slots (get_or channels i d) (get_or channels i d).tunnels in
    omega (arith, sum, two)) in
    ap (λ (l : List ChannelState). length (places_among l)) (take_more channels i d below)
    ∙ (places_join (take i channels) (get_or channels i d ∷ [])
    ∙ ap (λ (n : ℕ). first_slot channels i + n) one)

few_slots : (channels : List ChannelState) → All HasTunnels channels → length (places_among channels) ≤ 16 * length channels
few_slots [] few = omega arith
few_slots (ends ∷ channels) few =
    let rest : length (places_among channels) ≤ 16 * length channels = few_slots channels (λ k d below. few (suc k) d (omega arith)) in
    let here : length ends.tunnels ≤ 8 = (few 0 ends (omega arith)).few in
    omega (arith, within_slots ends ends.tunnels, length-append (places_within ends) (places_among channels))

take_all_are : (channels : List ChannelState) (i : ℕ) → All HasTunnels channels → All HasTunnels (take i channels)
take_all_are channels zero are = λ k d below. absurd (omega arith)
take_all_are [] (suc i) are = λ k d below. absurd (omega arith)
take_all_are (x ∷ channels) (suc i) are = all_by x (take i channels) (are 0 x (omega arith)) (take_all_are channels i (λ k d below. are (suc k) d (omega arith))) where
  all_by : (x : ChannelState) (xs : List ChannelState) → HasTunnels x → All HasTunnels xs → All HasTunnels (x ∷ xs)
  all_by x xs one rest zero d below = one
  all_by x xs one rest (suc k) d below = rest k d (omega arith)

-- is within the limits
pub first_few : (channels : List ChannelState) (i : ℕ) → All HasTunnels channels → i ≤ length channels → first_slot channels i ≤ 16 * i
first_few channels i are below =
    let slots : length (places_among (take i channels)) ≤ 16 * length (take i channels) = few_slots (take i channels) (take_all_are channels i are) in
    let short : length (take i channels) ≡ i = length-take-le i channels below in
    omega arith

-- the table of them
pub firsts_added : (channels : List ChannelState) (i slots : ℕ) (before after : List ℕ) → slots ≡ first_slot channels i → before ≡ map (first_slot channels) (range_with_len 0 i) → after ≡ before ++ slots ∷ []
    → after ≡ map (first_slot channels) (range_with_len 0 (i + 1))
firsts_added channels i slots before after is so_far added =
    added ∙ (ap₂ (λ (l : List ℕ) (n : ℕ). l ++ n ∷ []) so_far is ∙ sym (map-range_with_len_more (first_slot channels) 0 i i (no_start i)))

-- ---- a slot

record IsTunnelOf (tunnel : TunnelPlace) (channel within : ℕ) : Type 0 where
  channel_is : tunnel.channel ≡ channel
  within_is : tunnel.within ≡ within

as_many : (tunnels : List Tunnel) (channel within : ℕ) → length (tunnels_within channel within tunnels) ≡ length tunnels
as_many [] channel within = refl
as_many (tunnel ∷ tunnels) channel within = ap suc (as_many tunnels channel (within + 1))

of_channel : (tunnels : List Tunnel) (channel within i : ℕ) → i < length tunnels → IsTunnelOf (get_or (tunnels_within channel within tunnels) i no_tunnel) channel (within + i)
of_channel [] channel within i below = absurd (omega arith)
of_channel (tunnel ∷ tunnels) channel within zero below = record { channel_is = refl; within_is = omega arith }
of_channel (tunnel ∷ tunnels) channel within (suc i) below =
    let later = of_channel tunnels channel (within + 1) i (omega arith) in
    record { channel_is = later.channel_is; within_is = omega (arith, later.within_is) }

record StandsThere (channels : List ChannelState) (first c t j : ℕ) : Type 0 where
  inside : j < length (tunnels_from first channels)
  is : IsTunnelOf (get_or (tunnels_from first channels) j no_tunnel) (first + c) t

less_sum : (a n m k : ℕ) → a < n → k ≡ n + m → a < k
less_sum a n m k below is = omega arith

more_sum : (a n m k : ℕ) → a < m → k ≡ n + m → n + a < k
more_sum a n m k below is = omega arith

stands_there : (channels : List ChannelState) (first c t j : ℕ) (channel : ChannelState) → slice_get channels c ≡ Some channel → t < length channel.tunnels
    → j ≡ length (tunnels_from first (take c channels)) + t → StandsThere channels first c t j
stands_there [] first c t j channel at below is = absurd (none-some channel at)
stands_there (ends ∷ channels) first zero t j channel at below is =
    let here : t < length ends.tunnels = subst (λ (e : ChannelState). t < length e.tunnels) (sym (same_Some ends channel at)) below in
    let short : t < length (tunnels_within first 0 ends.tunnels) = subst (λ (n : ℕ). t < n) (sym (as_many ends.tunnels first 0)) here in
    let same : t ≡ j = omega arith in
    let one : IsTunnelOf (get_or (tunnels_within first 0 ends.tunnels) t no_tunnel) first (0 + t) = of_channel ends.tunnels first 0 t here in
    let found : get_or (tunnels_from first (ends ∷ channels)) t no_tunnel ≡ get_or (tunnels_within first 0 ends.tunnels) t no_tunnel =
    get_or_append_left (tunnels_within first 0 ends.tunnels) (tunnels_from (first + 1) channels) no_tunnel t short in
    subst (λ (n : ℕ). StandsThere (ends ∷ channels) first 0 t n) same (record {
      inside = less_sum t (length (tunnels_within first 0 ends.tunnels)) (length (tunnels_from (first + 1) channels)) (length (tunnels_from first (ends ∷ channels))) short
          (length-append (tunnels_within first 0 ends.tunnels) (tunnels_from (first + 1) channels));
      is = record {
        channel_is = ap (λ (p : TunnelPlace). p.channel) found ∙ (one.channel_is ∙ omega arith);
        within_is = ap (λ (p : TunnelPlace). p.within) found ∙ (one.within_is ∙ no_start t);
      };
    })
stands_there (ends ∷ channels) first (suc c) t j channel at below is =
    let i : ℕ = length (tunnels_from (first + 1) (take c channels)) + t in
    let rest : StandsThere channels (first + 1) c t i = stands_there channels (first + 1) c t i channel at below refl in
    let sum : length (tunnels_within first 0 ends.tunnels) + (length (tunnels_from (first + 1) (take c channels)) + t) ≡ j =
    (let both = length-append (tunnels_within first 0 ends.tunnels) (tunnels_from (first + 1) (take c channels)) in omega (arith, both, is)) in
    let found : get_or (tunnels_from first (ends ∷ channels)) (length (tunnels_within first 0 ends.tunnels) + i) no_tunnel ≡ get_or (tunnels_from (first + 1) channels) i no_tunnel =
    get_or-append-add (tunnels_within first 0 ends.tunnels) (tunnels_from (first + 1) channels) i no_tunnel in
    let one_on : (first + 1) + c ≡ first + suc c = omega arith in
    subst (λ (n : ℕ). StandsThere (ends ∷ channels) first (suc c) t n) sum (record {
      inside = more_sum i (length (tunnels_within first 0 ends.tunnels)) (length (tunnels_from (first + 1) channels)) (length (tunnels_from first (ends ∷ channels))) rest.inside
          (length-append (tunnels_within first 0 ends.tunnels) (tunnels_from (first + 1) channels));
      is = record {
        channel_is = ap (λ (p : TunnelPlace). p.channel) found ∙ (rest.is.channel_is ∙ one_on);
        within_is = ap (λ (p : TunnelPlace). p.within) found ∙ rest.is.within_is;
      };
    })

-- the slot of a tunnel of a channel on a side
pub record IsSlotOf (channels : List ChannelState) (c t side s : ℕ) : Type 0 where
  pub inside : s < length (places_among channels)
  pub side_is : s % 2 ≡ side
  pub channel : (get_or (tunnels_from 0 channels) (s / 2) no_tunnel).channel ≡ c
  pub within : (get_or (tunnels_from 0 channels) (s / 2) no_tunnel).within ≡ t

halves : (n m t side : ℕ) → side < 2 → n ≡ 2 * m → ((n + (2 * t + side)) / 2 ≡ m + t) × ((n + (2 * t + side)) % 2 ≡ side)
halves n m t side low is = (omega arith, omega arith)

twice_less : (n m t k side total : ℕ) → side < 2 → n ≡ 2 * m → m + t < k → total ≡ 2 * k → n + (2 * t + side) < total
twice_less n m t k side total low is below all = omega arith

pub slot_there : (channels : List ChannelState) (c t side : ℕ) (channel : ChannelState) → side < 2 → slice_get channels c ≡ Some channel → t < length channel.tunnels
    → IsSlotOf channels c t side (first_slot channels c + (2 * t + side))
slot_there channels c t side channel low at below =
    let m : ℕ = length (tunnels_from 0 (take c channels)) in
    let there : StandsThere channels 0 c t (m + t) = stands_there channels 0 c t (m + t) channel at below refl in
    let twice : length (places_among (take c channels)) ≡ 2 * length (tunnels_from 0 (take c channels)) = two_each (take c channels) 0 in
    let parts = halves (first_slot channels c) m t side low twice in
    record {
      inside = twice_less (first_slot channels c) m t (length (tunnels_from 0 channels)) side (length (places_among channels)) low twice there.inside (two_each channels 0);
      side_is = parts.1;
      channel = ap (λ (n : ℕ). (get_or (tunnels_from 0 channels) n no_tunnel).channel) parts.0 ∙ (there.is.channel_is ∙ no_start c);
      within = ap (λ (n : ℕ). (get_or (tunnels_from 0 channels) n no_tunnel).within) parts.0 ∙ there.is.within_is;
    }

-- ---- lanes lead to slots

all_three : (a b c : Bool) → a ≡ true → b ≡ true → c ≡ true → (a && (b && c)) ≡ true
all_three a b c one two three = ap₂ (λ (x y : Bool). x && y) one (ap₂ (λ (x y : Bool). x && y) two three)

pub leads_there : (tables : WorldState) (c t side s : ℕ) → IsSlotOf tables.channels c t side s → is_slot_at tables (2 * c + side) t s ≡ true
leads_there tables c t side s slot =
    let lane : 2 * (get_or (tunnels_from 0 tables.channels) (s / 2) no_tunnel).channel + s % 2 ≡ 2 * c + side = ap₂ (λ (a b : ℕ). 2 * a + b) slot.channel slot.side_is in
    all_three (nat_lt s (length (places_among tables.channels))) ((2 * (get_or (tunnels_from 0 tables.channels) (s / 2) no_tunnel).channel + s % 2) == (2 * c + side))
    ((get_or (tunnels_from 0 tables.channels) (s / 2) no_tunnel).within == t)
    (lt-ltb s (length (places_among tables.channels)) slot.inside)
    (eq-eqb (2 * (get_or (tunnels_from 0 tables.channels) (s / 2) no_tunnel).channel + s % 2) (2 * c + side) lane)
    (eq-eqb (get_or (tunnels_from 0 tables.channels) (s / 2) no_tunnel).within t slot.within)

after_is : (f t side total : ℕ) → f + (2 * t + side) < total → total ≤ 2 ^ 32 → f + (2 * t + side) ≡ min (f + side + 2 * t) (2 ^ 32 - 1)
after_is f t side total below few = omega arith

all_fit : (slots count : ℕ) → slots ≤ 16 * count → count ≤ 2 ^ 28 → slots ≤ 2 ^ 32
all_fit slots count slots_few few = omega arith

pub leads_to_slots : (tables : WorldState) (c side first : ℕ) (channel : ChannelState) → AreChannels tables.channels → side < 2 → slice_get tables.channels c ≡ Some channel
    → first ≡ first_slot tables.channels c + side → LeadsTo tables (2 * c + side) (length channel.tunnels) first
leads_to_slots tables c side first channel are low at is tunnel below =
    let slot : IsSlotOf tables.channels c tunnel side (first_slot tables.channels c + (2 * tunnel + side)) = slot_there tables.channels c tunnel side channel low at below in
    let total : length (places_among tables.channels) ≤ 2 ^ 32 = all_fit (length (places_among tables.channels)) (length tables.channels) (few_slots tables.channels are.tunnels) are.few in
    subst (λ (s : ℕ). is_slot_at tables (2 * c + side) tunnel s ≡ true)
    (after_is (first_slot tables.channels c) tunnel side (length (places_among tables.channels)) slot.inside total ∙ ap (λ (n : ℕ). min (n + 2 * tunnel) (2 ^ 32 - 1)) (sym is))
    (leads_there tables c tunnel side (first_slot tables.channels c + (2 * tunnel + side)) slot)
