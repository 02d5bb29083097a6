use Rattle.std.proofs.Common.{◌≡◌, take}
use Rattle.mc_signal.specs.Choice.{codecs_of}
use Rattle.mc_signal.specs.declared.codec_list.CodecList.{CodecList}
use Rattle.mc_entry.proofs.reading.codec_list.Given as goal

-- the codecs before are in the list
abbrev pub invariant-loop-i : goal.invariant-loop-i
invariant-loop-i l = (list : CodecList) → list.len ≡ l.fn.len → list.at ≡ l.fn.at → codecs_of l.found ≡ take l.i l.fn.at
