use Rattle.std.proofs.Common.{ap, refl, ne_eqb, ◌∙◌, ◌+◌, ◌==◌, arith}
use Rattle.mc_desk.specs.declared.log.Log.{Log}
use Rattle.mc_desk.specs.Histories.{with_made}
use Rattle.mc_desk.proofs.Dealing.{dealt_more}
use Rattle.mc_desk.proofs.Gathering.{taking_with}
use Rattle.mc_desk.proofs.desk.Desk.deal.Goals as goal

pub next_pass-pass-requires-clause-taker : goal.next_pass-pass-requires-clause-taker
next_pass-pass-requires-clause-taker c = taking_with _ _ _ c.loop-number.invariant.taker

pub next_pass-pass-requires-clause-more : goal.next_pass-pass-requires-clause-more
next_pass-pass-requires-clause-more c =
    ap (λ (l : Log). l.complete) c.loop-number.invariant.taker
    ∙ ne_eqb c.loop-number.number c.args.self.now.operators (λ same. let low = c.loop-number-test.true in absurd (omega arith))

pub loop-number-preserved : goal.loop-number-preserved
loop-number-preserved c =
    let same = c.next_pass-pass.ensures.queue in
    record {
      queue = same.0;
      taker = c.next_pass-pass.ensures.taker ∙ ap (λ (l : Log). with_made l (c.loop-number.number + 1 == c.args.self.now.operators)) c.loop-number.invariant.taker;
      dealt = dealt_more c.args.self.now c.loop-number.number _ _ _ c.in_ok-push.ensures.items (record {
        queue = same.1.0;
        number = c.loop-number-test.true;
        last = ap (λ (l : Log). l.last) c.next_pass-pass.ensures.operator;
      }) refl
          (ap (λ (l : Log). l.accepted) c.next_pass-pass.ensures.operator) c.loop-number.invariant.dealt;
    }
