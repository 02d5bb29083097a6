-- The channels of a part beside those of the network, and the slots that their lanes lead to.
use Rattle.std.proofs.Common.{◌≡◌, ◌<◌, ◌≤◌, ◌+◌, ◌-◌, ◌*◌, ◌^◌, ℕ, Some, List, length, get_or, replicate, [], ap, sym, ◌∙◌, subst, arith}
use Rattle.std.proofs.lemmas.List.{length-replicate}
use Rattle.std.proofs.lemmas.List.FromFn.{get_or-map-range_with_len, length-map-range_with_len}
use Rattle.std.proofs.lemmas.Option.{get_or_from_slice_get, slice_get-get_or, slice_get_within}
use Rattle.std.specs.List.{slice_get}
use Rattle.mc_part.specs.Divisions.{channels_in, is_part, part_of, place_in}
use Rattle.mc_part.proofs.Leads.{are_channels}
use Rattle.mc_part.proofs.Placed.{IsPlaced, Touches, placed_back, tunnel_count}
use Rattle.mc_merge.specs.Lanes.{absent_channel}
use Rattle.mc_model.specs.Worlds.{AreChannels, ChannelState, WorldState, channel_number_limit}
use Rattle.mc_signal.specs.declared.Tagged.{Tagged}
use Rattle.mc_divided.specs.Laying.{LeadsTo, channel_numbers, first_slot, first_slots}
use Rattle.mc_divided.proofs.ChannelNumbers.{number_there, numbers_count}
use Rattle.mc_divided.proofs.FirstSlots.{first_few, leads_to_slots}

-- the channel at a place of a part is one of the network
pub record IsAtPlace (assigned : List ℕ) (channels : List ChannelState) (part k : ℕ) : Type 0 where
  pub c : ℕ
  pub channel : ChannelState
  pub here : ChannelState
  pub at : slice_get channels c ≡ Some channel
  pub touches : Touches assigned part channel
  pub place_is : place_in assigned channels part c ≡ k
  pub there : slice_get (channels_in assigned channels part) k ≡ Some here
  pub number : slice_get (channel_numbers assigned channels part) k ≡ Some c
  pub count : length here.tunnels ≡ length channel.tunnels

pub at_place : (assigned : List ℕ) (channels : List ChannelState) (part k : ℕ) → k < length (channels_in assigned channels part) → IsAtPlace assigned channels part k
at_place assigned channels part k below =
    let here : ChannelState = get_or (channels_in assigned channels part) k absent_channel in
    let there : slice_get (channels_in assigned channels part) k ≡ Some here = slice_get-get_or (channels_in assigned channels part) k absent_channel below in
    let placed : IsPlaced assigned channels part k here = placed_back assigned channels part k here there in
    record {
      c = placed.of.c;
      channel = placed.channel;
      here = here;
      at = placed.of.at;
      touches = placed.of.touches;
      place_is = placed.of.place_is;
      there = there;
      number = ap (λ (n : ℕ). slice_get (channel_numbers assigned channels part) n) (sym placed.of.place_is) ∙ number_there assigned channels part placed.of.c placed.channel placed.of.at placed.of.touches;
      count = ap (λ (e : ChannelState). length e.tunnels) placed.is
          ∙ tunnel_count (is_part part (part_of assigned placed.channel.from)) (is_part part (part_of assigned placed.channel.to)) placed.channel.tunnels 0;
    }

-- ---- a channel of a part that is to be filled

-- a lane with nothing under way
abbrev no_signals : List Tagged
no_signals = []

pub record IsNext (channels : List ChannelState) (tables : WorldState) (place c first : ℕ) : Type 0 where
  pub there : c < length channels
  pub inside : place < length tables.channels
  pub few : place ≤ channel_number_limit
  pub fits : first < 2 ^ 32 - 1
  pub leads : LeadsTo tables (2 * place) (length (get_or channels c absent_channel).tunnels) first
  pub leads_next : LeadsTo tables (2 * place + 1) (length (get_or channels c absent_channel).tunnels) (first + 1)

no_start : (k : ℕ) → 0 + k ≡ k
no_start k = omega arith

no_more : (n : ℕ) → (n ≡ n + 0) × (n + 0 ≡ n)
no_more n = (omega arith, omega arith)

first_fits : (first place n : ℕ) → first ≤ 16 * place → place < n → n ≤ 2 ^ 28 → first < 2 ^ 32 - 1
first_fits first place n few below all = omega arith

below_limit : (place n : ℕ) → place < n → n ≤ 2 ^ 28 → place ≤ 2 ^ 28
below_limit place n below few = omega arith

pub is_next : (assigned : List ℕ) (channels : List ChannelState) (part : ℕ) (numbers firsts : List ℕ) (tables : WorldState) (place c first : ℕ) → AreChannels channels
    → tables.channels ≡ channels_in assigned channels part → numbers ≡ channel_numbers assigned channels part → firsts ≡ first_slots (channels_in assigned channels part) → place < length numbers
    → c ≡ get_or numbers place c → first ≡ get_or firsts place 0 → IsNext channels tables place c first
is_next assigned channels part numbers firsts tables place c first are own numbers_are firsts_are below read read_first =
    let ds : List ChannelState = channels_in assigned channels part in
    let low : place < length (channels_in assigned channels part) = subst (λ (n : ℕ). place < n) (ap length numbers_are ∙ numbers_count assigned channels part) below in
    let one : IsAtPlace assigned channels part place = at_place assigned channels part place low in
    let c_is : one.c ≡ c = sym (read ∙ (ap (λ (l : List ℕ). get_or l place c) numbers_are ∙ get_or_from_slice_get (channel_numbers assigned channels part) place one.c c one.number)) in
    let first_is : first ≡ first_slot ds place =
    read_first ∙ (ap (λ (l : List ℕ). get_or l place 0) firsts_are ∙ get_or-map-range_with_len (first_slot ds) 0 (length ds) place place 0 low (no_start place)) in
    let ds_are : AreChannels ds = are_channels assigned channels part are in
    let few : first_slot ds place ≤ 16 * place = first_few ds place ds_are.tunnels (omega (arith, low)) in
    let tables_are : AreChannels tables.channels = subst AreChannels (sym own) ds_are in
    let there : slice_get tables.channels place ≡ Some one.here = ap (λ (l : List ChannelState). slice_get l place) own ∙ one.there in
    let count : length one.here.tunnels ≡ length (get_or channels c absent_channel).tunnels =
    one.count ∙ (ap (λ (e : ChannelState). length e.tunnels) (sym (get_or_from_slice_get channels one.c one.channel absent_channel one.at)) ∙ ap (λ (n : ℕ). length (get_or channels n absent_channel).tunnels) c_is) in
    let first_there : first ≡ first_slot tables.channels place = first_is ∙ ap (λ (l : List ChannelState). first_slot l place) (sym own) in
    let lead : (side : ℕ) → side < 2 → LeadsTo tables (2 * place + side) (length (get_or channels c absent_channel).tunnels) (first + side) =
    (λ (side : ℕ) (side_low : side < 2). subst (λ (n : ℕ). LeadsTo tables (2 * place + side) n (first + side)) count
    (leads_to_slots tables place side (first + side) one.here tables_are side_low there (ap (λ (n : ℕ). n + side) first_there))) in
    record {
      there = subst (λ (n : ℕ). n < length channels) c_is (slice_get_within channels one.c one.channel one.at);
      inside = subst (λ (l : List ChannelState). place < length l) (sym own) low;
      few = below_limit place (length ds) low ds_are.few;
      fits = subst (λ (n : ℕ). n < 2 ^ 32 - 1) (sym first_is) (first_fits (first_slot ds place) place (length ds) few low ds_are.few);
      leads = subst (λ (n : ℕ). LeadsTo tables n (length (get_or channels c absent_channel).tunnels) first) (no_more (2 * place)).1
          (subst (λ (n : ℕ). LeadsTo tables (2 * place + 0) (length (get_or channels c absent_channel).tunnels) n) (no_more first).1 (lead 0 (omega arith)));
      leads_next = lead 1 (omega arith);
    }

-- its two lanes are there
pub lanes_inside : (channels : List ChannelState) (place total : ℕ) (lanes : List (List Tagged)) → place < length channels → lanes ≡ replicate (2 * length channels) [] → total ≡ length lanes → 2 * place + 1 < total
lanes_inside channels place total lanes below empty same =
    let long : length lanes ≡ 2 * length channels = ap length empty ∙ length-replicate (2 * length channels) no_signals in
    omega arith

-- there are as many first slots as channels
pub firsts_count : (assigned : List ℕ) (channels : List ChannelState) (part : ℕ) (numbers firsts : List ℕ) → numbers ≡ channel_numbers assigned channels part → firsts ≡ first_slots (channels_in assigned channels part)
    → length firsts ≡ length numbers
firsts_count assigned channels part numbers firsts numbers_are firsts_are =
    ap length firsts_are ∙ (length-map-range_with_len (first_slot (channels_in assigned channels part)) 0 (length (channels_in assigned channels part))
    ∙ (sym (numbers_count assigned channels part) ∙ ap length (sym numbers_are)))
