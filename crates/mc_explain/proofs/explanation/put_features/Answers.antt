use Rattle.std.proofs.Common.{◌≡◌, arith, true}
use Rattle.std.proofs.lemmas.Grind.{common_steps}
use Rattle.mc_explain.proofs.Features.{features_are}
use Rattle.mc_explain.proofs.explanation.put_features.Goals as goal
use Rattle.mc_text.specs.Lines.{has_bytes}

pub returns-in_ok-push : goal.returns-in_ok-push
returns-in_ok-push c =
    let some : has_bytes c.args.features.now ≡ true = grind (arith, common_steps) in
    rw (c.in_ok-push.ensures.items, c.in_ok-extend_from_slice-3.ensures.items, c.in_ok-extend_from_slice-2.ensures.items)
    (features_are c.args.out.now.items c.args.features.now some)
