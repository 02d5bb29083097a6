use Rattle.std.proofs.Common.{◌≡◌, false, None, arith}
use Rattle.std.proofs.lemmas.Grind.{common_steps}
use Rattle.mc_script.specs.Rules.{byte_rules, least_broken}
use Rattle.mc_lines.specs.Rules.{passes_limit, text_limit}
use Rattle.mc_lines.specs.declared.tail.Tail.TheVariants.{Grow}
use Rattle.mc_tail.proofs.Lines.{of_words}
use Rattle.mc_tail.proofs.reader.TailReader.read_line.Goals as goal

pub returns-clause-declared : goal.returns-clause-declared
returns-clause-declared c =
    let plain : least_broken (byte_rules c.args.line.now) ≡ None = grind (arith, common_steps) in
    let short : passes_limit (text_limit Grow) c.args.total c.args.before c.args.line.now ≡ false = grind (arith, common_steps) in
    rw (of_words c.args.total c.args.before c.args.self.now c.args.line.now short plain, ← c.new.ensures) c.read_entry.ensures.declared
