use Rattle.std.proofs.Common.{rules, ◌≡◌, ◌∷◌, ◌++◌, [], List, sym, subst}
use Rattle.mc_desk.proofs.Callers.{still_taker, taker_after}
use Rattle.mc_desk.specs.Desks.{taken_by}
use Rattle.mc_desk.specs.declared.request.Request.{Request}
use Rattle.mc_live.proofs.Stepping.{known_more}
use Rattle.mc_live.specs.Courses.{IsOn}
use Rattle.mc_live.proofs.collecting.collect.Goals as goal

pub returns-in-None-clause-on : goal.returns-in-None-clause-on
returns-in-None-clause-on g c a sent took on =
    let stays : taken_by c.next.new.taker ≡ taken_by c.loop.taker = search rules in
    subst (λ (l : List Request). IsOn a c.loop.worker l sent took c.loop.course) (sym stays) (c.loop.invariant.on a sent took on)

pub take_in-requires : goal.take_in-requires
take_in-requires g c =
    let begun = c.requires.on in
    (begun.0, taken_by c.loop.taker, begun.1, begun.2, c.loop.invariant.on begun.0 begun.1 begun.2 begun.3)

pub loop-preserved : goal.loop-preserved
loop-preserved g c =
    let old = c.loop.taker in
    let new = c.next.new.taker in
    let request = c.in-Some.request in
    let more : taken_by new ≡ taken_by old ++ request ∷ [] = search rules in
    record {
      taker = still_taker c.args.desk.now old new c.next.ensures.same c.loop.invariant.taker;
      same = taker_after c.args.taker.now old new c.loop.invariant.same c.next.ensures.same;
      known = known_more c.args.desk.now old new request more (search rules) c.loop.invariant.known;
      on = λ a sent took on.
          subst (λ (l : List Request). IsOn a c.take_in.new.worker l sent took c.take_in.new.course) (sym more)
          (c.take_in.ensures.on a (taken_by old) sent took (c.loop.invariant.on a sent took on));
    }
