use Rattle.std.proofs.Common.{◌∙◌, ap, sym}
use Rattle.std.proofs.lemmas.Result.{IfOk-weaker}
use Rattle.mc_lines.specs.declared.tail.Tail.TheVariants.{Journal}
use Rattle.mc_model.specs.Worlds.{WorldState}
use Rattle.mc_net.proofs.OneNet.{one_net}
use Rattle.mc_text.specs.NameLists.{NameLists}
use Rattle.mc_ladder_top.specs.Drawn.{framed}
use Rattle.mc_ladder_top.specs.declared.picture.Picture.{Picture}
use Rattle.mc_ladder_top.specs.declared.picture.Picture.TheVariants.{Page}
use Rattle.mc_ladder_top.proofs.drawing.framed.Goals as goal

pub returns-in_ok-net-in-Page : goal.returns-in_ok-net-in-Page
returns-in_ok-net-in-Page c = IfOk-weaker c.page_by_net.result _ _
    (λ page is other declares.
    let same = one_net Journal c.args.text.now c.in_ok-net-in-Page.net other c.in_ok-net-in-Page.ensures.declares declares in
    (rw c.deref.ensures.value at is)
    ∙ (ap (λ (names : NameLists). framed Page names c.args.blocks.now c.in_ok-net-in-Page.net.world c.args.journal.now c.args.ladder.items) same.names
    ∙ (ap (λ (world : WorldState). framed Page other.names c.args.blocks.now world c.args.journal.now c.args.ladder.items) same.world
    ∙ ap (λ (picture : Picture). framed picture other.names c.args.blocks.now other.world c.args.journal.now c.args.ladder.items) (sym c.in-Page.is))))
    c.page_by_net.ensures
