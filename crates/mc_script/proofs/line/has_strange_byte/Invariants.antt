use Rattle.std.proofs.Common.{◌≡◌, not, take}
use Rattle.std.specs.List.{list_any}
use Rattle.mc_script.specs.Rules.{is_plain}
use Rattle.mc_script.proofs.line.has_strange_byte.Given as goal

abbrev pub invariant-loop-byte : goal.invariant-loop-byte
invariant-loop-byte l = l.strange ≡ list_any (λ byte. not (is_plain byte)) (take l.byte-index l.line)
