use Rattle.std.proofs.Common.{◌≡◌, flat_map}
use Rattle.std.specs.List.{range_with_len}
use Rattle.mc_call.specs.Printed.{feature_word}
use Rattle.mc_call.proofs.reasons.feature_words.Given as goal

-- the features among the boxes so far
abbrev pub invariant-loop-who : goal.invariant-loop-who
invariant-loop-who l = l.words.items ≡ flat_map (feature_word l.names l.world) (range_with_len 0 l.who)
