use Rattle.std.proofs.Common.{rules, ◌≡◌, ◌+◌, List, length, sym, ◌∙◌, ap, subst, arith}
use Rattle.std.specs.declared.alloc.Global.{Global}
use Rattle.std.specs.declared.vec.Vec.{Vec}
use Rattle.std.proofs.lemmas.List.{length-map, with_items_is}
use Rattle.mc_desk.proofs.Gathering.{count_is}
use Rattle.mc_desk.specs.declared.desk.Desk.{Desk}
use Rattle.mc_desk.specs.declared.desk.Operator.{Operator}
use Rattle.mc_desks.proofs.DesksSoFar.{laid_more}
use Rattle.mc_desks.proofs.Lists.{more_long}
use Rattle.mc_desks.specs.Passes.{lists_of, with_each}
use Rattle.mc_desks.proofs.laying.lay_desks.Goals as goal

pub deal-requires : goal.deal-requires
deal-requires c =
    let made = c.in_ok-desk.ensures in
    count_is c.in_ok-desk.desk c.in_ok-desk.row.items made.operators
    ∙ (made.counts.0 ∙ (sym c.loop-done.invariant.laid.pass_count ∙ (length-map c.loop-done.passes.items (λ (v : Vec Operator Global). v.items) ∙ ap (λ (l : List (Vec Operator Global)). length l) (sym c.deref_mut.ensures.value))))

pub loop-done-preserved : goal.loop-done-preserved
loop-done-preserved c =
    let made = c.in_ok-desk.ensures in
    let so_far = c.loop-done.invariant.laid in
    let same : length c.deref_mut.result.now ≡ length c.loop-done.passes.items = ap (λ (l : List (Vec Operator Global)). length l) c.deref_mut.ensures.value in
    let kept : length c.deal.new.lists ≡ length c.deref_mut.result.now = search rules in
    record {
      count = ap (λ (l : List Desk). length l) c.in_ok-push.ensures.items ∙ (more_long c.loop-done.desks.items c.in_ok-desk.desk ∙ ap (λ n. n + 1) c.loop-done.invariant.count);
      laid = laid_more c.args.operators c.args.room c.loop-done.desks.items c.push.new.self.items c.loop-done.takers.items c.push-in-loop-done.new.self.items (lists_of c.loop-done.passes.items) _ c.in_ok-desk.desk c.in_ok-desk.row.items c.in_ok-desk.taker
          so_far (sym made.counts.0) made.counts.1 made.operators made.accepted made.taker made.taken (count_is c.in_ok-desk.desk c.in_ok-desk.row.items made.operators ∙ (made.counts.0 ∙ sym so_far.pass_count))
          c.in_ok-push.ensures.items c.in_ok-push-2.ensures.items
          (ap lists_of (with_items_is c.loop-done.passes c.deal.new.lists (kept ∙ (same ∙ sym c.loop-done.passes.ok.0))) ∙ (c.in_ok-deal.ensures ∙ ap (λ (l : List (Vec Operator Global)). with_each (lists_of l) c.in_ok-desk.row.items) c.deref_mut.ensures.value));
    }
