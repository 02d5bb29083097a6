use Rattle.std.proofs.Common.{◌≡◌, ◌∷◌, true, false, subst, arith}
use Rattle.std.proofs.lemmas.Grind.{common_steps}
use Rattle.mc_lines.specs.Rules.{is_skipped}
use Rattle.mc_lines.specs.SoFar.{Declared}
use Rattle.mc_lines.proofs.Entries.{after_any, fault_any, first_and_others}
use Rattle.mc_lines.proofs.reader.Reader.read_entry.Goals as goal

pub returns-then-self-clause-declared : goal.returns-then-self-clause-declared
returns-then-self-clause-declared c =
    let words : c.args.words ≡ c.in-Some.first.now ∷ c.next_word.new.self = rw c.next_word.ensures.rest (first_and_others c.args.words c.in-Some.first.now (grind (arith, common_steps))) in
    let kept : is_skipped c.args.words ≡ false = grind (arith, common_steps) in
    let versioned : c.args.self.now.versioned ≡ true = subst (λ (d : Declared). d.versioned ≡ true) c.self.view_is (grind (arith, common_steps)) in
    rw (fault_any c.args.self.now c.args.words kept versioned, after_any c.args.self.now c.args.words kept versioned, words) c.read_words.ensures.declared
