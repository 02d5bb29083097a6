-- The boxes, channels and lanes of a sound world.
use Rattle.std.proofs.Common.{◌≡◌, ◌<◌, ◌+◌, ◌*◌, ◌/◌, ◌%◌, ℕ, List, [], ◌∷◌, length, get_or, ap, sym, ◌∙◌, subst, arith}
use Rattle.std.proofs.lemmas.List.{length-replicate}
use Rattle.std.proofs.lemmas.Option.{get_or_from_slice_get, slice_get_within}
use Rattle.mc_box.specs.Boxes.{BoxState}
use Rattle.mc_part.proofs.Slots.{Standing, standing}
use Rattle.mc_merge.specs.Lanes.{absent_channel}
use Rattle.mc_model.specs.Served.{AllServed, IsFor}
use Rattle.mc_model.specs.Sound.{IsNumbered, IsSound}
use Rattle.mc_model.specs.Worlds.{AreChannels, ChannelState, first_world, no_tunnel, tunnels_from}
use Rattle.mc_divided.specs.Laying.{AreWhole}
use Rattle.mc_divided.proofs.LaidOut.{world_of}
use Rattle.mc_part.specs.Carrying.{AreFor}
use Rattle.mc_signal.specs.declared.Tagged.{Tagged}

-- a lane with nothing under way
abbrev no_signals : List Tagged
no_signals = []

first_numbered : (boxes : List BoxState) (channels : List ChannelState) (lanes : List (List Tagged)) → IsNumbered (world_of boxes channels lanes) → IsNumbered (first_world boxes channels)
first_numbered boxes channels lanes numbered = record {
  boxes = numbered.boxes;
  whole = numbered.whole;
  lanes = length-replicate (2 * length channels) no_signals;
  placed = numbered.placed;
  slots = numbered.slots;
  once = numbered.once;
  all = numbered.all;
  origins = numbered.origins;
  media = numbered.media;
  sides = numbered.sides;
}

-- ---- each signal is for a tunnel of its channel

same_channel : (a b p q : ℕ) → p < 2 → q < 2 → 2 * a + p ≡ 2 * b + q → a ≡ b
same_channel a b p q one two same = omega arith

side_low : (s : ℕ) → s % 2 < 2
side_low s = omega arith

no_less : (c : ℕ) → 0 + c ≡ c
no_less c = omega arith

for_tunnel : (boxes : List BoxState) (channels : List ChannelState) (lanes : List (List Tagged)) (c side s : ℕ) (tagged : Tagged) → side < 2 → IsFor (world_of boxes channels lanes) (2 * c + side) tagged s
    → tagged.tunnel < length (get_or channels c absent_channel).tunnels
for_tunnel boxes channels lanes c side s tagged low for =
    let found : Standing channels 0 s = standing channels 0 s for.inside in
    let c_is : found.c ≡ c =
    sym (found.stands.channel_is ∙ no_less found.c) ∙ same_channel (get_or (tunnels_from 0 channels) (s / 2) no_tunnel).channel c (s % 2) side (side_low s) low for.leads in
    let t_is : found.t ≡ tagged.tunnel = sym found.stands.within_is ∙ for.within in
    let channel : get_or channels c absent_channel ≡ found.stands.channel =
    ap (λ (n : ℕ). get_or channels n absent_channel) (sym c_is) ∙ get_or_from_slice_get channels found.c found.stands.channel absent_channel found.stands.at in
    subst (λ (n : ℕ). n < length (get_or channels c absent_channel).tunnels) t_is
    (subst (λ (e : ChannelState). found.t < length e.tunnels) (sym channel) (slice_get_within found.stands.channel.tunnels found.t found.stands.tunnel found.stands.has))

all_for : (boxes : List BoxState) (channels : List ChannelState) (lanes : List (List Tagged)) (c side : ℕ) (signals : List Tagged) → side < 2 → AllServed (world_of boxes channels lanes) (2 * c + side) signals
    → AreFor (length (get_or channels c absent_channel).tunnels) signals
all_for boxes channels lanes c side [] low served = tt
all_for boxes channels lanes c side (tagged ∷ signals) low served =
    (for_tunnel boxes channels lanes c side served.0.0 tagged low served.0.1, all_for boxes channels lanes c side signals low served.1)

pub are_whole : (boxes : List BoxState) (channels : List ChannelState) (lanes : List (List Tagged)) → AreChannels channels → IsSound (world_of boxes channels lanes) → AreWhole boxes channels lanes
are_whole boxes channels lanes are sound = record {
  channels_are = are;
  numbered = first_numbered boxes channels lanes sound.numbered;
  slots = λ who below. (sound.boxes who below).wired.few;
  fit = λ c side below low. all_for boxes channels lanes c side (get_or lanes (2 * c + side) []) low (sound.served (2 * c + side));
}
