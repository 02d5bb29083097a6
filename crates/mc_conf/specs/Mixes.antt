-- Who hears whom in a conference, and with which codec.
use Rattle.std.specs.Prelude.{◌==◌, ◌&&◌, ℕ, not, if◌then◌else◌, is_some, List, Option, None, slice_get}
use Rattle.std.specs.List.{filter_map, flat_map}
use Rattle.std.specs.Option.{option_map}
use Rattle.mc_signal.specs.Choice.{codecs_of}
use Rattle.mc_signal.specs.declared.codec_list.CodecList.{CodecList}
use Rattle.mc_slot.specs.Moves.{is_same_medium}
use Rattle.mc_view.specs.declared.PathView.{PathView}
use Rattle.mc_conf.specs.Legs.{in_order, legs_in}
use Rattle.mc_conf.specs.declared.mixing.Mix.{Mix}
use Rattle.mc_conf.specs.declared.party.Leg.{Leg}

-- the first codec of a list, if there is one
abbrev pub first_codec : CodecList → Option ℕ
first_codec list = slice_get (codecs_of list) 0

-- the codec in which a party hears another, if it does: of two legs of one medium, where the other can send a codec,
-- the first one of its own
abbrev pub heard_codec : (hearer heard : Leg) → Option ℕ
heard_codec hearer heard =
    if not (hearer.party.slot == heard.party.slot) && is_same_medium hearer.medium heard.medium
    && is_some (first_codec heard.party.sends)
    then first_codec hearer.party.own.codecs
    else None

-- by the boxes and the local slots of the two
abbrev pub mix_of : (hearer heard : Leg) → Option Mix
mix_of hearer heard =
    option_map (λ codec. record {
      hearer = (hearer.party.who, hearer.party.local);
      heard = (heard.party.who, heard.party.local);
      codec = codec;
    }) (heard_codec hearer heard)

-- all pairs of these, by the one that hears, and then by the one that is heard
abbrev pub mixes_of : List Leg → List Mix
mixes_of legs = flat_map (λ hearer. filter_map (mix_of hearer) legs) legs

-- all pairs of the legs of a box, both in rising slot number
abbrev pub mixes : List PathView → ℕ → List Mix
mixes views who = mixes_of (in_order (legs_in views who))
