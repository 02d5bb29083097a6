use Rattle.std.proofs.Common.{◌∙◌, ℕ, List, length, ap, refl, arith}
use Rattle.std.proofs.Math.ListN.{set}
use Rattle.std.proofs.lemmas.List.{set-set}
use Rattle.mc_seq.specs.Commands.{commands_left}
use Rattle.mc_seq.specs.Spare.{others_of}
use Rattle.mc_seq.proofs.SetCounts.{set_long}
use Rattle.mc_seq.proofs.shifting.recount.Goals as goal

pub raise_to-requires : goal.raise_to-requires
raise_to-requires c = record { inside = omega (arith, c.requires.there, c.requires.long); small = c.other_count-count.ensures.small }

pub lower_to-requires : goal.lower_to-requires
lower_to-requires c =
    let long = set_long c.args.shifts.now.others c.raise_to.new.counts c.args.who _ c.raise_to.ensures.set in
    record { inside = omega (arith, c.requires.there, c.requires.long, long); high = c.raise_to.ensures.high }

pub returns : goal.returns
returns c = record {
  spare = refl;
  others = c.lower_to.ensures
      ∙ (ap (λ (l : List ℕ). set l c.args.who c.other_count-count.result) c.raise_to.ensures.set
      ∙ (set-set c.args.shifts.now.others c.args.who _ c.other_count-count.result
      ∙ ap (λ (n : ℕ). set c.args.shifts.now.others c.args.who n)
      (c.other_count-count.ensures.count ∙ ap (λ (l : List ℕ). length (others_of c.args.world.now (commands_left c.args.left.now) l c.args.who)) c.deref.ensures.value)));
}
