use Rattle.std.proofs.Common.{◌≡◌, drop, map}
use Rattle.mc_explain.specs.Sentences.{sentence_in}
use Rattle.mc_explain.proofs.sentences.sentence_in.Given as goal

-- the sentence is that of the rules that are left
abbrev pub invariant-loop-rule : goal.invariant-loop-rule
invariant-loop-rule l = sentence_in (map (λ rule. (rule.0, rule.1.now)) (drop l.rule-index l.rules)) l.number ≡ sentence_in (map (λ rule. (rule.0, rule.1.now)) l.rules) l.number
