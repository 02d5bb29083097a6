use Rattle.std.proofs.Common.{◌≡◌, ◌++◌, flat_map, take, Some}
use Rattle.mc_table.specs.Words.{codec_word}
use Rattle.mc_ladder.specs.Words.{spaced}
use Rattle.mc_ladder.proofs.signal.put_codecs.Given as goal

-- the codecs so far are appended
abbrev pub invariant-loop-codec : goal.invariant-loop-codec
invariant-loop-codec l = l.out.items ≡ l.initial.out.items ++ flat_map (λ codec. spaced (codec_word l.names (Some codec))) (take l.codec-index l.listed)
