use Rattle.std.proofs.Common.{[], ap, sym, List, ℕ, ◌++◌, ◌∙◌}
use Rattle.mc_scene.proofs.Numbered.{each_more}
use Rattle.mc_call.specs.Printed.{feature_word}
use Rattle.mc_call.proofs.reasons.feature_words.Goals as goal

pub loop-who-preserved : goal.loop-who-preserved
loop-who-preserved c =
    let word = feature_word c.args.names.now c.args.world.now in
    c.in_ok-put_feature.ensures
    ∙ (ap (λ (words : List ℕ). words ++ feature_word c.args.names.now c.args.world.now c.loop-who.who) c.loop-who.invariant ∙ sym (each_more word [] c.loop-who.who))
