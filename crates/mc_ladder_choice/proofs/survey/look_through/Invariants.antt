use Rattle.mc_ladder_choice.proofs.Surveyed.{IsSurveyed}
use Rattle.mc_ladder_choice.proofs.survey.look_through.Given as goal

abbrev pub invariant-loop-line : goal.invariant-loop-line
invariant-loop-line l = IsSurveyed l.choice l.initial.world l.journal l.world l.whys l.count l.line-index l.drawn l.boxes.items l.closings.items
