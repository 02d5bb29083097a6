use Rattle.std.proofs.Common.{◌≡◌, drop, map}
use Rattle.mc_explain.specs.Hints.{said_of}
use Rattle.mc_explain.proofs.hints.said_of.Given as goal

-- what is said is that of the words that are left
abbrev pub invariant-loop-keyword : goal.invariant-loop-keyword
invariant-loop-keyword l = said_of (map (λ entry. (entry.0.now, entry.1.now)) (drop l.keyword-index l.entries)) l.word ≡ said_of (map (λ entry. (entry.0.now, entry.1.now)) l.entries) l.word
