use Rattle.mc_explain.proofs.Features.{no_box_is}
use Rattle.mc_explain.proofs.explanation.put_no_box.Goals as goal

pub returns : goal.returns
returns c =
    rw (c.in_ok-push.ensures.items, c.in_ok-put_features.ensures, c.in_ok-extend_from_slice-2.ensures.items, c.in_ok-extend_from_slice.ensures.items)
    (no_box_is c.args.out.now.items c.args.place.now c.args.features.now)
