use Rattle.std.proofs.Common.{◌∙◌, List, ap, ℕ}
use Rattle.std.proofs.lemmas.Result.{IfOk-weaker}
use Rattle.mc_ladder_choice.specs.Choices.{ChoiceState}
use Rattle.mc_ladder_top.specs.Drawn.{framed, ladder_bytes}
use Rattle.mc_top.proofs.NoneClose.{none_closes}
use Rattle.mc_ladder_top.proofs.drawing.draw_journal.Goals as goal

pub draw_net-requires-clause-none : goal.draw_net-requires-clause-none
draw_net-requires-clause-none c = none_closes c.in_ok-net.ensures.declares.declared c.in_ok-net.net.world c.in_ok-net.ensures.declares.world

pub returns : goal.returns
returns c = IfOk-weaker c.framed.result _ _
    (λ drawn is. record {
      net = c.in_ok-net.net;
      blocks = c.in_ok-blocks.blocks.items;
      declares = c.in_ok-net.ensures.declares;
      gives = c.in_ok-blocks.ensures;
      drawn = (rw c.deref-2.ensures.value at is c.in_ok-net.net c.in_ok-net.ensures.declares)
          ∙ ap (λ (ladder : List ℕ). framed c.args.request.now.picture c.in_ok-net.net.names c.in_ok-blocks.blocks.items c.in_ok-net.net.world c.args.journal.now ladder)
          ((rw c.deref.ensures.value at c.in_ok-ladder.ensures) ∙ ap (λ (choice : ChoiceState). ladder_bytes c.args.request.now.picture c.in_ok-net.net.names c.in_ok-blocks.blocks.items c.in_ok-net.net.world choice c.args.journal.now)
          (c.in_ok-chosen.ensures.choice c.in_ok-net.net c.in_ok-net.ensures.declares));
    })
    c.framed.ensures
