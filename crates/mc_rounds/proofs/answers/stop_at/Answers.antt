use Rattle.std.proofs.Common.{length, refl}
use Rattle.mc_divided.specs.Networks.{channels_of}
use Rattle.mc_rounds.proofs.answers.stop_at.Goals as goal

pub returns : goal.returns
returns c = record {
  at_is = refl;
  place_is = c.place-place.ensures (channels_of c.args.network.now) (length c.args.network.now.assigned.items)
      c.requires.frame;
  turns_are = refl;
}
