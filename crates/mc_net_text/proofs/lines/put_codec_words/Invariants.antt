use Rattle.std.proofs.Common.{◌≡◌, ◌++◌, take}
use Rattle.mc_net_text.specs.Lines.{codec_words}
use Rattle.mc_net_text.proofs.lines.put_codec_words.Given as goal

-- the words so far
abbrev pub invariant-loop-codec : goal.invariant-loop-codec
invariant-loop-codec l = l.out.items ≡ l.fn.out.items ++ codec_words l.names (take l.codec-index l.codecs)
