use Rattle.std.proofs.Common.{length, refl}
use Rattle.mc_team.proofs.Whole.{none_joined}
use Rattle.mc_team.proofs.layout.bare.Goals as goal

pub returns : goal.returns
returns c = none_joined c.args.boxes.now _ (length c.args.boxes.now) refl c.new.ensures.items c.in_ok-empty_lists.ensures c.in_ok-bare_places.ensures c.in_ok-empty_lists-2.ensures c.in_ok-empty_lists-3.ensures
