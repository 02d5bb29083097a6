use Rattle.std.proofs.Common.{◌∙◌, ap}
use Rattle.std.proofs.lemmas.Result.{IfOk-weaker}
use Rattle.mc_ladder_choice.specs.Surveys.{survey_of}
use Rattle.mc_lines.specs.declared.tail.Tail.TheVariants.{Journal}
use Rattle.mc_model.specs.Worlds.{WorldState}
use Rattle.mc_net.proofs.OneNet.{one_net}
use Rattle.mc_top.proofs.NoneClose.{none_closes}
use Rattle.mc_ladder_top.proofs.drawing.choose_in_text.Goals as goal

pub choose_by_net-requires-clause-none : goal.choose_by_net-requires-clause-none
choose_by_net-requires-clause-none c = none_closes c.in_ok-net.ensures.declares.declared c.in_ok-net.net.world c.in_ok-net.ensures.declares.world

pub returns-clause-found : goal.returns-clause-found
returns-clause-found c = IfOk-weaker c.choose_by_net.result _ _
    (λ chosen is other declares. is ∙ ap (λ (world : WorldState). survey_of chosen.choice world c.args.journal.now)
    (one_net Journal c.args.text.now c.in_ok-net.net other c.in_ok-net.ensures.declares declares).world)
    c.choose_by_net.ensures.found
