use Rattle.std.proofs.Common.{◌≡◌, ◌++◌, true, length, map}
use Rattle.mc_signal.specs.Choice.{codecs_of}
use Rattle.mc_lines.specs.Meaning.{codec_number}
use Rattle.mc_lines.proofs.CodecLists.{can_list}
use Rattle.mc_lines.proofs.codec_words.listed.Given as goal

abbrev pub invariant-loop-word : goal.invariant-loop-word
invariant-loop-word l = record {
  listed : codecs_of l.list ++ map (codec_number l.names) l.words ≡ map (codec_number l.names) l.initial.words;
  possible : can_list l.names (codecs_of l.list) l.words ≡ true;
}

abbrev pub decreases-loop-word : goal.decreases-loop-word
decreases-loop-word l = length l.words
