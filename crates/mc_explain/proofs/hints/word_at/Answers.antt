use Rattle.std.proofs.Common.{◌∙◌, ap, drop}
use Rattle.std.proofs.lemmas.List.{drop-drop}
use Rattle.mc_text.specs.Lines.{words}
use Rattle.mc_explain.proofs.hints.word_at.Goals as goal

pub loop-preserved : goal.loop-preserved
loop-preserved c = c.next_word.ensures.rest ∙ ap (drop 1) c.loop.invariant ∙ drop-drop 1 c.loop.counter (words c.args.line.now)
