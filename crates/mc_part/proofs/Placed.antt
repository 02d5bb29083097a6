-- The channels of a part, and which channels of the world they are.
use Rattle.std.proofs.Common.{◌≡◌, ◌<◌, ◌+◌, ◌==◌, ◌&&◌, ◌⊎◌, inl, inr, not, if◌then◌else◌, Bool, true, false, cond, filter, ℕ, zero, suc, Some, List, [], ◌∷◌, ◌++◌, length, get_or, refl, ap, sym, ◌∙◌, subst, arith, true≢false, eq-eqb}
use Rattle.std.proofs.lemmas.Option.{get_or_from_slice_get, none-some, same_Some, slice_get-get_or, slice_get_within}
use Rattle.std.specs.List.{slice_get}
use Rattle.mc_merge.specs.Lanes.{absent_channel}
use Rattle.mc_model.specs.Worlds.{ChannelState}
use Rattle.mc_model.specs.declared.channel.Tunnel.{Tunnel}
use Rattle.mc_part.specs.Divisions.{channel_in, channels_from, channels_in, is_crossing, home_at, is_inner, is_part, members, part_of, place_in, rank, touching, tunnel_in, tunnels_in}
use Rattle.mc_part.proofs.Ranks.{Found, rank_apart, rank_back, rank_found}
use Rattle.mc_part.proofs.Slots.{end_on, slot_on}

-- ---- two lists

pub front_at : {A : Type 0} (xs ys : List A) (k : ℕ) (x : A) → slice_get xs k ≡ Some x → slice_get (xs ++ ys) k ≡ Some x
front_at [] ys k x is = absurd (none-some x is)
front_at (y ∷ xs) ys zero x is = is
front_at (y ∷ xs) ys (suc k) x is = front_at xs ys k x is

one_down : (n j k : ℕ) → suc k ≡ suc n + j → k ≡ n + j
one_down n j k sum = omega arith

rest_at : {A : Type 0} (xs ys : List A) (j k : ℕ) (x : A) → k ≡ length xs + j → slice_get ys j ≡ Some x → slice_get (xs ++ ys) k ≡ Some x
rest_at [] ys j k x sum is = (let same : j ≡ k = omega arith in subst (λ (n : ℕ). slice_get ys n ≡ Some x) same is)
rest_at (y ∷ xs) ys j zero x sum is = absurd (omega arith)
rest_at (y ∷ xs) ys j (suc k) x sum is = rest_at xs ys j k x (one_down (length xs) j k sum) is

record InRest {A : Type 0} (xs ys : List A) (k : ℕ) (x : A) : Type 0 where
  j : ℕ
  sum : k ≡ length xs + j
  is : slice_get ys j ≡ Some x

in_either : {A : Type 0} (xs ys : List A) (k : ℕ) (x : A) → slice_get (xs ++ ys) k ≡ Some x → (slice_get xs k ≡ Some x) ⊎ InRest xs ys k x
in_either [] ys k x is = inr (record { j = k; sum = omega arith; is = is })
in_either (y ∷ xs) ys zero x is = inl is
in_either (y ∷ xs) ys (suc k) x is = elim (in_either xs ys k x is) [
  | inl front ↦ inl front
  | inr rest ↦ inr (record { j = rest.j; sum = (let sum : k ≡ length xs + rest.j = rest.sum in omega arith); is = rest.is })
]

-- ---- tunnels

next_is : (n t : ℕ) → (n + 1) + t ≡ n + suc t
next_is n t = omega arith

none_more : (n : ℕ) → n ≡ n + 0
none_more n = omega arith

tunnel_found : (f g : Bool) (tunnels : List Tunnel) (within t : ℕ) (tunnel : Tunnel) → slice_get tunnels t ≡ Some tunnel → slice_get (tunnels_in f g within tunnels) t ≡ Some (tunnel_in f g (within + t) tunnel)
tunnel_found f g [] within t tunnel is = absurd (none-some tunnel is)
tunnel_found f g (first ∷ tunnels) within zero tunnel is =
    ap (λ (e : Tunnel). Some (tunnel_in f g within e)) (same_Some first tunnel is) ∙ ap (λ (n : ℕ). Some (tunnel_in f g n tunnel)) (none_more within)
tunnel_found f g (first ∷ tunnels) within (suc t) tunnel is =
    tunnel_found f g tunnels (within + 1) t tunnel is ∙ ap (λ (n : ℕ). Some (tunnel_in f g n tunnel)) (next_is within t)

pub tunnel_count : (f g : Bool) (tunnels : List Tunnel) (within : ℕ) → length (tunnels_in f g within tunnels) ≡ length tunnels
tunnel_count f g [] within = refl
tunnel_count f g (first ∷ tunnels) within = ap suc (tunnel_count f g tunnels (within + 1))

-- ---- the channels that touch a part

-- a channel has a box in the part
abbrev pub Touches : List ℕ → ℕ → ChannelState → Type 0
Touches assigned part channel = (is_crossing assigned part channel ≡ true) ⊎ (is_inner assigned part channel ≡ true)

touch_by : (a b : Bool) → (a ≡ true) ⊎ (b ≡ true) → ((if a then not b else b) ≡ true) ⊎ ((a && b) ≡ true)
touch_by true true one = inr refl
touch_by true false one = inl refl
touch_by false true one = inl refl
touch_by false false (inl one) = absurd (true≢false (sym one))
touch_by false false (inr one) = absurd (true≢false (sym one))

not_both : (a b : Bool) → (a && b) ≡ true → (if a then not b else b) ≡ false
not_both true true is = refl
not_both true false is = absurd (true≢false (sym is))
not_both false true is = absurd (true≢false (sym is))
not_both false false is = absurd (true≢false (sym is))

place_by : (b : Bool) (x y : ℕ) → (b ≡ true → cond b x y ≡ x) × (b ≡ false → cond b x y ≡ y)
place_by true x y = (λ is. refl, λ is. absurd (true≢false is))
place_by false x y = (λ is. absurd (true≢false (sym is)), λ is. refl)

-- where it stands among them, by whether it crosses
pub place_of_crossing : (assigned : List ℕ) (channels : List ChannelState) (part c : ℕ) (channel : ChannelState) → slice_get channels c ≡ Some channel → is_crossing assigned part channel ≡ true
    → place_in assigned channels part c ≡ rank (is_crossing assigned part) c channels
place_of_crossing assigned channels part c channel at is =
    (place_by (is_crossing assigned part (get_or channels c absent_channel)) (rank (is_crossing assigned part) c channels)
    (length (filter (is_crossing assigned part) channels) + rank (is_inner assigned part) c channels)).0
    (ap (is_crossing assigned part) (get_or_from_slice_get channels c channel absent_channel at) ∙ is)

place_of_inner : (assigned : List ℕ) (channels : List ChannelState) (part c : ℕ) (channel : ChannelState) → slice_get channels c ≡ Some channel → is_inner assigned part channel ≡ true
    → place_in assigned channels part c ≡ length (filter (is_crossing assigned part) channels) + rank (is_inner assigned part) c channels
place_of_inner assigned channels part c channel at is =
    (place_by (is_crossing assigned part (get_or channels c absent_channel)) (rank (is_crossing assigned part) c channels)
    (length (filter (is_crossing assigned part) channels) + rank (is_inner assigned part) c channels)).1
    (ap (is_crossing assigned part) (get_or_from_slice_get channels c channel absent_channel at)
    ∙ not_both (is_part part (part_of assigned channel.from)) (is_part part (part_of assigned channel.to)) is)

pub place_found : (assigned : List ℕ) (channels : List ChannelState) (part c : ℕ) (channel : ChannelState) → slice_get channels c ≡ Some channel → Touches assigned part channel
    → slice_get (touching assigned channels part) (place_in assigned channels part c) ≡ Some channel
place_found assigned channels part c channel at (inl crossing) =
    ap (λ (k : ℕ). slice_get (touching assigned channels part) k) (place_of_crossing assigned channels part c channel at crossing)
    ∙ front_at (filter (is_crossing assigned part) channels) (filter (is_inner assigned part) channels) (rank (is_crossing assigned part) c channels) channel
    (rank_found (is_crossing assigned part) channels c channel at crossing)
place_found assigned channels part c channel at (inr inner) =
    rest_at (filter (is_crossing assigned part) channels) (filter (is_inner assigned part) channels) (rank (is_inner assigned part) c channels) (place_in assigned channels part c) channel
    (place_of_inner assigned channels part c channel at inner) (rank_found (is_inner assigned part) channels c channel at inner)

-- each of them is a channel of the world
pub record IsTouching (assigned : List ℕ) (channels : List ChannelState) (part k : ℕ) (channel : ChannelState) : Type 0 where
  pub c : ℕ
  pub at : slice_get channels c ≡ Some channel
  pub touches : Touches assigned part channel
  pub place_is : place_in assigned channels part c ≡ k

pub touching_back : (assigned : List ℕ) (channels : List ChannelState) (part k : ℕ) (channel : ChannelState) → slice_get (touching assigned channels part) k ≡ Some channel → IsTouching assigned channels part k channel
touching_back assigned channels part k channel is = elim (in_either (filter (is_crossing assigned part) channels) (filter (is_inner assigned part) channels) k channel is) [
  | inl front ↦
      let found : Found (is_crossing assigned part) channels k channel = rank_back (is_crossing assigned part) channels k channel front in
      record {
        c = found.at;
        at = found.is;
        touches = inl found.passes;
        place_is = place_of_crossing assigned channels part found.at channel found.is found.passes ∙ found.rank_is;
      }
  | inr rest ↦
      let found : Found (is_inner assigned part) channels rest.j channel = rank_back (is_inner assigned part) channels rest.j channel rest.is in
      record {
        c = found.at;
        at = found.is;
        touches = inr found.passes;
        place_is = place_of_inner assigned channels part found.at channel found.is found.passes
            ∙ (ap (λ (n : ℕ). length (filter (is_crossing assigned part) channels) + n) found.rank_is ∙ sym rest.sum);
      }
]

pub crossing_below : (assigned : List ℕ) (channels : List ChannelState) (part c : ℕ) (channel : ChannelState) → slice_get channels c ≡ Some channel → is_crossing assigned part channel ≡ true
    → rank (is_crossing assigned part) c channels < length (filter (is_crossing assigned part) channels)
crossing_below assigned channels part c channel at is =
    slice_get_within (filter (is_crossing assigned part) channels) (rank (is_crossing assigned part) c channels) channel (rank_found (is_crossing assigned part) channels c channel at is)

apart_sums : (k n m : ℕ) → k < n → k ≡ n + m → n < n
apart_sums k n m below is = absurd (omega arith)

same_sums : (n a b : ℕ) → n + a ≡ n + b → a ≡ b
same_sums n a b same = omega arith

-- two of them have different places
pub place_apart : (assigned : List ℕ) (channels : List ChannelState) (part c d : ℕ) (channel other : ChannelState) → slice_get channels c ≡ Some channel → slice_get channels d ≡ Some other
    → Touches assigned part channel → Touches assigned part other → place_in assigned channels part c ≡ place_in assigned channels part d → c ≡ d
place_apart assigned channels part c d channel other one two (inl first) (inl second) same =
    rank_apart (is_crossing assigned part) channels c d channel other one two first second
    (sym (place_of_crossing assigned channels part c channel one first) ∙ (same ∙ place_of_crossing assigned channels part d other two second))
place_apart assigned channels part c d channel other one two (inl first) (inr second) same =
    let below = crossing_below assigned channels part c channel one first in
    let sum = sym (place_of_crossing assigned channels part c channel one first) ∙ (same ∙ place_of_inner assigned channels part d other two second) in
    absurd (omega (arith, apart_sums (rank (is_crossing assigned part) c channels) (length (filter (is_crossing assigned part) channels)) (rank (is_inner assigned part) d channels) below sum))
place_apart assigned channels part c d channel other one two (inr first) (inl second) same =
    let below = crossing_below assigned channels part d other two second in
    let sum = sym (place_of_crossing assigned channels part d other two second) ∙ (sym same ∙ place_of_inner assigned channels part c channel one first) in
    absurd (omega (arith, apart_sums (rank (is_crossing assigned part) d channels) (length (filter (is_crossing assigned part) channels)) (rank (is_inner assigned part) c channels) below sum))
place_apart assigned channels part c d channel other one two (inr first) (inr second) same =
    rank_apart (is_inner assigned part) channels c d channel other one two first second
    (same_sums (length (filter (is_crossing assigned part) channels)) (rank (is_inner assigned part) c channels) (rank (is_inner assigned part) d channels)
    (sym (place_of_inner assigned channels part c channel one first) ∙ (same ∙ place_of_inner assigned channels part d other two second)))

-- ---- as the part has them

channel_found : (assigned : List ℕ) (part : ℕ) (channels : List ChannelState) (holder k : ℕ) (channel : ChannelState) → slice_get channels k ≡ Some channel
    → slice_get (channels_from assigned part holder channels) k ≡ Some (channel_in assigned part (holder + k) channel)
channel_found assigned part [] holder k channel is = absurd (none-some channel is)
channel_found assigned part (first ∷ channels) holder zero channel is =
    ap (λ (e : ChannelState). Some (channel_in assigned part holder e)) (same_Some first channel is) ∙ ap (λ (n : ℕ). Some (channel_in assigned part n channel)) (none_more holder)
channel_found assigned part (first ∷ channels) holder (suc k) channel is =
    channel_found assigned part channels (holder + 1) k channel is ∙ ap (λ (n : ℕ). Some (channel_in assigned part n channel)) (next_is holder k)

pub channel_count : (assigned : List ℕ) (part : ℕ) (channels : List ChannelState) (holder : ℕ) → length (channels_from assigned part holder channels) ≡ length channels
channel_count assigned part [] holder = refl
channel_count assigned part (first ∷ channels) holder = ap suc (channel_count assigned part channels (holder + 1))

-- a channel that touches the part
pub placed_at : (assigned : List ℕ) (channels : List ChannelState) (part c : ℕ) (channel : ChannelState) → slice_get channels c ≡ Some channel → Touches assigned part channel
    → slice_get (channels_in assigned channels part) (place_in assigned channels part c) ≡ Some (channel_in assigned part (length (members assigned part) + place_in assigned channels part c) channel)
placed_at assigned channels part c channel at touches =
    channel_found assigned part (touching assigned channels part) (length (members assigned part)) (place_in assigned channels part c) channel (place_found assigned channels part c channel at touches)

-- and each channel of the part
pub record IsPlaced (assigned : List ℕ) (channels : List ChannelState) (part k : ℕ) (here : ChannelState) : Type 0 where
  pub channel : ChannelState
  pub touching_is : slice_get (touching assigned channels part) k ≡ Some channel
  pub of : IsTouching assigned channels part k channel
  pub is : here ≡ channel_in assigned part (length (members assigned part) + k) channel

pub placed_back : (assigned : List ℕ) (channels : List ChannelState) (part k : ℕ) (here : ChannelState) → slice_get (channels_in assigned channels part) k ≡ Some here → IsPlaced assigned channels part k here
placed_back assigned channels part k here is =
    let all : List ChannelState = touching assigned channels part in
    let below : k < length all = subst (λ (n : ℕ). k < n) (channel_count assigned part (touching assigned channels part) (length (members assigned part)))
    (slice_get_within (channels_in assigned channels part) k here is) in
    let there : slice_get all k ≡ Some (get_or all k absent_channel) = slice_get-get_or all k absent_channel below in
    record {
      channel = get_or all k absent_channel;
      touching_is = there;
      of = touching_back assigned channels part k (get_or all k absent_channel) there;
      is = same_Some here (channel_in assigned part (length (members assigned part) + k) (get_or all k absent_channel))
          (sym is ∙ channel_found assigned part all (length (members assigned part)) k (get_or all k absent_channel) there);
    }

-- ---- their ends

is_here : (assigned : List ℕ) (part holder : ℕ) (channel : ChannelState) (b : Bool)
    → (if b then (channel_in assigned part holder channel).from else (channel_in assigned part holder channel).to)
    ≡ (if is_part part (part_of assigned (if b then channel.from else channel.to)) then (home_at assigned (if b then channel.from else channel.to)).1 else holder)
is_here assigned part holder channel true = refl
is_here assigned part holder channel false = refl

slot_by : (assigned : List ℕ) (part within : ℕ) (channel : ChannelState) (tunnel : Tunnel) (b : Bool)
    → (if b then (tunnel_in (is_part part (part_of assigned channel.from)) (is_part part (part_of assigned channel.to)) within tunnel).from
    else (tunnel_in (is_part part (part_of assigned channel.from)) (is_part part (part_of assigned channel.to)) within tunnel).to)
    ≡ (if is_part part (part_of assigned (if b then channel.from else channel.to)) then (if b then tunnel.from else tunnel.to) else within)
slot_by assigned part within channel tunnel true = refl
slot_by assigned part within channel tunnel false = refl

-- the box at an end of a channel of the part
pub end_in : (assigned : List ℕ) (part holder : ℕ) (channel : ChannelState) (side : ℕ)
    → end_on side (channel_in assigned part holder channel) ≡ (if is_part part (part_of assigned (end_on side channel)) then (home_at assigned (end_on side channel)).1 else holder)
end_in assigned part holder channel side = is_here assigned part holder channel (side == 0)

-- a tunnel of it
pub record HasTunnel (assigned : List ℕ) (part holder : ℕ) (channel : ChannelState) (t side local : ℕ) : Type 0 where
  pub tunnel : Tunnel
  pub has : slice_get (channel_in assigned part holder channel).tunnels t ≡ Some tunnel
  pub is : slot_on side tunnel ≡ (if is_part part (part_of assigned (end_on side channel)) then local else t)

no_less : (t : ℕ) → 0 + t ≡ t
no_less t = omega arith

pub has_tunnel : (assigned : List ℕ) (part holder : ℕ) (channel : ChannelState) (t side : ℕ) (tunnel : Tunnel) → slice_get channel.tunnels t ≡ Some tunnel
    → HasTunnel assigned part holder channel t side (slot_on side tunnel)
has_tunnel assigned part holder channel t side tunnel has = record {
  tunnel = tunnel_in (is_part part (part_of assigned channel.from)) (is_part part (part_of assigned channel.to)) t tunnel;
  has = tunnel_found (is_part part (part_of assigned channel.from)) (is_part part (part_of assigned channel.to)) channel.tunnels 0 t tunnel has
      ∙ ap (λ (n : ℕ). Some (tunnel_in (is_part part (part_of assigned channel.from)) (is_part part (part_of assigned channel.to)) n tunnel)) (no_less t);
  is = slot_by assigned part t channel tunnel (side == 0);
}

-- a channel of which one end is in the part touches it
pub touch_on : (assigned : List ℕ) (part side : ℕ) (channel : ChannelState) → part_of assigned (end_on side channel) ≡ part → Touches assigned part channel
touch_on assigned part side channel is = touch_side assigned part channel (side == 0) (eq-eqb (part_of assigned (end_on side channel)) part is) where
  touch_side : (assigned : List ℕ) (part : ℕ) (channel : ChannelState) (b : Bool) → is_part part (part_of assigned (if b then channel.from else channel.to)) ≡ true → Touches assigned part channel
  touch_side assigned part channel true is = touch_by (is_part part (part_of assigned channel.from)) (is_part part (part_of assigned channel.to)) (inl is)
  touch_side assigned part channel false is = touch_by (is_part part (part_of assigned channel.from)) (is_part part (part_of assigned channel.to)) (inr is)
