use Rattle.std.proofs.Common.{not, refl}
use Rattle.std.proofs.lemmas.List.Folds.{list_any_more}
use Rattle.mc_script.specs.Rules.{is_plain}
use Rattle.mc_script.proofs.line.has_strange_byte.Goals as goal

pub loop-byte-preserved : goal.loop-byte-preserved
loop-byte-preserved c =
    rw (list_any_more (λ byte. not (is_plain byte)) c.args.line.now c.loop-byte.byte-index 0 c.loop-byte-test.true, c.loop-byte.invariant, c.is_plain.ensures) refl
