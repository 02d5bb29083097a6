use Rattle.std.proofs.Common.{◌≡◌, List, Vec, Global, subst}
use Rattle.std.proofs.lemmas.Result.{IfOk-weaker}
use Rattle.mc_desk.specs.Desks.{IsTakerOf}
use Rattle.mc_desk.specs.declared.desk.Desk.{Desk}
use Rattle.mc_desk.specs.declared.request.Request.{Request}
use Rattle.mc_desks.proofs.EachLeft.{are_rests}
use Rattle.mc_desks.proofs.Lists.{zip_long}
use Rattle.mc_desks.specs.Finished.{AreByDesk, AreHistories, AreRests}
use Rattle.mc_desks.specs.Passes.{lists_of}
use Rattle.mc_lane.specs.Queue.{Queue}
use Rattle.mc_desks.proofs.finishing.finish_desks.Goals as goal

pub returns : goal.returns
returns g c =
    let takers = c.args.takers.items in
    let passes = lists_of c.args.passes.items in
    let columns = lists_of c.in_ok-columns.columns.items in
    let turned : AreByDesk c.args.desks.items passes columns = subst (λ (l : List Desk). AreByDesk l passes columns) c.deref.ensures.value c.in_ok-columns.ensures in
    IfOk-weaker c.finish_each.result (λ (rests : Vec (Queue Request) Global). AreHistories takers columns rests.items) (λ (rests : Vec (Queue Request) Global). AreRests takers passes rests.items)
    (λ rests are. are_rests c.args.desks.items takers passes columns rests.items (zip_long IsTakerOf c.args.desks.items takers c.requires.their_takers) turned are) c.finish_each.ensures
