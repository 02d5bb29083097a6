use Rattle.std.proofs.Common.{◌≡◌, ◌∷◌, ◌++◌, take, flat_map}
use Rattle.mc_table.proofs.line.put_line.Given as goal

-- the words so far, each after a space, stand after the first
abbrev pub invariant-loop-word : goal.invariant-loop-word
invariant-loop-word l = l.out.items ≡ (l.fn.out.items ++ l.first) ++ flat_map (λ word. 32 ∷ word.now) (take l.word-index l.others)
