use Rattle.std.proofs.Common.{arith, length, refl}
use Rattle.std.proofs.lemmas.Option.{slice_get_read}
use Rattle.mc_team.proofs.RoundMade.{refused_all, refused_more}
use Rattle.mc_team.proofs.round.none_refused.Goals as goal

pub loop-member-preserved : goal.loop-member-preserved
loop-member-preserved c =
    refused_more c.args.members.now c.loop-member.member-index c.member-item.result (slice_get_read c.args.members.now (length c.args.members.now) c.loop-member.member-index c.member-item.result refl (omega arith) c.member-item.is)
    c.loop-member.invariant c.in_ok-refusal.ensures

pub returns : goal.returns
returns c = refused_all c.args.members.now c.loop-member.member-index (omega arith) c.loop-member.invariant
