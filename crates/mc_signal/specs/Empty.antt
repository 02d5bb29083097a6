-- The list without codecs, as a value that definitions can name.
use Rattle.std.specs.Prelude.{ℕ, ◌≤◌, List, replicate, refl}
use Rattle.std.proofs.Common.{arith}
use Rattle.std.proofs.lemmas.Grind.{common_steps}
use Rattle.mc_signal.specs.Codecs.{AreCodecs, AreDistinct, HasPlaces, IsBlankFrom}
use Rattle.mc_signal.specs.declared.codec_list.CodecList.{CodecList}

-- eight entries that aren't used
abbrev pub no_entries : List ℕ
no_entries = replicate 8 0

pub none_places : HasPlaces no_entries
none_places = refl

pub none_short : 0 ≤ 8
none_short = omega arith

pub none_known : AreCodecs 0 no_entries
none_known k below = grind arith

pub none_distinct : AreDistinct 0 no_entries
none_distinct j k less below = grind arith

pub none_blank : IsBlankFrom 0 no_entries
none_blank k above = grind (arith, common_steps)

abbrev pub no_codecs : CodecList
no_codecs =
    record {
      len = 0;
      at = no_entries;
      places = none_places;
      short = none_short;
      known = none_known;
      distinct =
          none_distinct;
      blank = none_blank;
    }
