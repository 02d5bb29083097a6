use Rattle.std.proofs.Common.{◌≡◌, codes, rules}
use Rattle.mc_words.proofs.OneMode.{no_box, no_scene, no_state}
use Rattle.mc_words.proofs.words.mode_of_pair.Goals as goal

pub returns-in_err-state-clause-none : goal.returns-in_err-state-clause-none
returns-in_err-state-clause-none c =
    let is : c.args.first.now ≡ codes "one" = search rules in
    rw c.from_residual.ensures (no_state c.args.first.now c.args.second.now c.args.journal is c.in_err-state.ensures.none)

pub returns-in_err-scene-clause-none : goal.returns-in_err-scene-clause-none
returns-in_err-scene-clause-none c =
    let is : c.args.first.now ≡ codes "scene" = search rules in
    rw c.from_residual-in_err-scene.ensures (no_scene c.args.first.now c.args.second.now c.args.journal is c.in_err-scene.ensures.none)

pub returns-in_err-name-clause-none : goal.returns-in_err-name-clause-none
returns-in_err-name-clause-none c =
    let is : c.args.first.now ≡ codes "conf" = search rules in
    rw c.from_residual-in_err-name.ensures (no_box c.args.first.now c.args.second.now c.args.journal is c.in_err-name.ensures.none)
