use Rattle.std.proofs.Common.{◌≡◌, ◌++◌, take, flat_map}
use Rattle.mc_net_text.specs.Lines.{codec_line}
use Rattle.mc_net_text.proofs.lines.put_codecs.Given as goal

-- the lines so far
abbrev pub invariant-loop-codec : goal.invariant-loop-codec
invariant-loop-codec l = l.out.items ≡ l.fn.out.items ++ flat_map codec_line (take l.codec l.names.codecs)
