use Rattle.std.proofs.Common.{rules, ◌≡◌, List, [], length, replicate, sym, ◌∙◌, ap, subst, arith}
use Rattle.std.specs.List.{AllByRecursion}
use Rattle.std.specs.declared.alloc.Global.{Global}
use Rattle.std.specs.declared.vec.Vec.{Vec}
use Rattle.std.proofs.lemmas.List.{length-map, nil_from_length, with_items_is}
use Rattle.mc_desk.specs.Desks.{operator_count}
use Rattle.mc_desk.specs.declared.desk.Desk.{Desk}
use Rattle.mc_desk.specs.declared.desk.Operator.{Operator}
use Rattle.mc_desks.proofs.Columns.{AreTurned, row_long, turned_all, turned_more, turned_none}
use Rattle.mc_desks.specs.Passes.{lists_of, with_each}
use Rattle.mc_desks.proofs.finishing.by_desk.Goals as goal

pub loop-row-init : goal.loop-row-init
loop-row-init c =
    let all : c.into_iter-row-iterator.result.rest.items ≡ c.args.passes.items = search rules in
    let bare : lists_of c.in_ok-columns.columns.items ≡ replicate (length c.args.desks.now) [] = c.in_ok-columns.ensures in
    subst (λ (l : List (Vec Operator Global)). AreTurned c.args.desks.now (lists_of c.args.passes.items) (lists_of l) (lists_of c.in_ok-columns.columns.items)) (sym all) (turned_none c.args.desks.now (lists_of c.args.passes.items) (lists_of c.in_ok-columns.columns.items) bare)

pub deal-requires : goal.deal-requires
deal-requires c =
    row_long c.args.desks.now (lists_of c.args.passes.items) (lists_of c.loop-row.row-iterator.rest.items) (lists_of c.next.new.self.rest.items) (lists_of c.loop-row.columns.items) c.in-Some.row.items c.loop-row.invariant (ap lists_of c.in-Some.ensures.steps.0) c.requires.passes
    ∙ (length-map c.loop-row.columns.items (λ (v : Vec Operator Global). v.items) ∙ ap (λ (l : List (Vec Operator Global)). length l) (sym c.deref_mut.ensures.value))

pub loop-row-preserved : goal.loop-row-preserved
loop-row-preserved c =
    let same : length c.deref_mut.result.now ≡ length c.loop-row.columns.items = ap (λ (l : List (Vec Operator Global)). length l) c.deref_mut.ensures.value in
    let kept : length c.deal.new.lists ≡ length c.deref_mut.result.now = search rules in
    turned_more c.args.desks.now (lists_of c.args.passes.items) (lists_of c.loop-row.row-iterator.rest.items) (lists_of c.next.new.self.rest.items) (lists_of c.loop-row.columns.items) _ c.in-Some.row.items c.loop-row.invariant (ap lists_of c.in-Some.ensures.steps.0) c.requires.passes
    (ap lists_of (with_items_is c.loop-row.columns c.deal.new.lists (kept ∙ (same ∙ sym c.loop-row.columns.ok.0))) ∙ (c.in_ok-deal.ensures ∙ ap (λ (l : List (Vec Operator Global)). with_each (lists_of l) c.in-Some.row.items) c.deref_mut.ensures.value))

pub returns : goal.returns
returns c =
    let none : c.loop-row.row-iterator.rest.items ≡ [] = nil_from_length _ (omega (arith, c.in-None.ensures.steps.0, c.loop-row.row-iterator.rest.ok.0)) in
    turned_all c.args.desks.now (lists_of c.args.passes.items) (lists_of c.loop-row.row-iterator.rest.items) (lists_of c.loop-row.columns.items) c.loop-row.invariant (ap lists_of none)
    (subst (λ n. AllByRecursion (λ (desk : Desk). n ≡ operator_count desk) c.args.desks.now) (sym (length-map c.args.passes.items (λ (v : Vec Operator Global). v.items))) c.requires.operators)
