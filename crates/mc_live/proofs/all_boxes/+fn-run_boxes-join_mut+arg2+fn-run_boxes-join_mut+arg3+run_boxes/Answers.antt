use Rattle.std.proofs.Common.{rules, ◌≡◌, ◌++◌, List, length, refl, sym, ◌∙◌, subst, arith}
use Rattle.std.specs.List.{AllByRecursion}
use Rattle.mc_desk.specs.Desks.{operator_count}
use Rattle.mc_desk.specs.declared.desk.Desk.{Desk}
use Rattle.mc_flight.specs.declared.flight.Flight.{Flight}
use Rattle.mc_live.proofs.Halving.{all_first, all_head, all_last, none_alone, one_alone, three_joined, zip_first, zip_head, zip_last, zip_long}
use Rattle.mc_live.specs.BoxRuns.{AreNewRuns, HasRunFreely, HaveRunFreely, IsNewRun}
use Rattle.mc_live.specs.declared.box_run.BoxRun.{BoxRun}
use Rattle.mc_live.proofs.all_boxes.+fn-run_boxes-join_mut+arg2+fn-run_boxes-join_mut+arg3+run_boxes.Goals as goal

-- a box is about to run
abbrev new : Flight → Desk → BoxRun → Type 0
new flight desk run = IsNewRun desk flight run

-- each part is, where all are
abbrev both_new : (flight : Flight) (desks front back : List Desk) (runs first last : List BoxRun) → desks ≡ front ++ back → runs ≡ first ++ last → AreNewRuns flight desks runs → AreNewRuns flight (front ++ back) (first ++ last)
both_new flight desks front back runs first last is are all = subst (λ (l : List BoxRun). AreNewRuns flight (front ++ back) l) are (subst (λ (l : List Desk). AreNewRuns flight l runs) is all)

pub returns-then-is_empty : goal.returns-then-is_empty
returns-then-is_empty g t c =
    let none : length c.args.runs.now ≡ 0 = search rules in
    none_alone (new c.args.flight.now) HasRunFreely c.args.desks.now c.args.runs.now c.requires.new none

pub run_box-requires-clause-operators : goal.run_box-requires-clause-operators
run_box-requires-clause-operators g t c =
    let one : length c.args.runs.now ≡ 1 = search rules in
    all_head (λ (desk : Desk). c.args.operators ≡ operator_count desk) (new c.args.flight.now) c.args.desks.now c.args.runs.now c.index-desks-0.result c.index-desks-0.is c.requires.new one c.requires.operators

pub run_box-requires-clause-new : goal.run_box-requires-clause-new
run_box-requires-clause-new g t c =
    let one : length c.args.runs.now ≡ 1 = search rules in
    zip_head (new c.args.flight.now) c.args.desks.now c.args.runs.now c.index-desks-0.result c.index-runs-0.result c.index-desks-0.is c.requires.new one

pub returns-then-runs-eq1 : goal.returns-then-runs-eq1
returns-then-runs-eq1 g t c =
    let one : length c.args.runs.now ≡ 1 = search rules in
    one_alone (new c.args.flight.now) HasRunFreely c.args.desks.now c.args.runs.now c.index-desks-0.result c.index-runs-0.result c.run_box.new.run c.index-desks-0.is c.requires.new one c.run_box.ensures

pub split_at-requires : goal.split_at-requires
split_at-requires g t c =
    let long = zip_long (new c.args.flight.now) c.args.desks.now c.args.runs.now c.requires.new in
    omega (arith, long)

pub join_mut-requires-after_bounds : goal.join_mut-requires-after_bounds
join_mut-requires-after_bounds g t c κs within =
    let q = c.split_at in
    let p = c.split_at_mut-front in
    let parts : c.args.desks.now ≡ q.result.0.now ++ q.result.1.now = q.ensures.by_index.0 in
    let same : length q.result.0.now ≡ length p.result.0.now = q.ensures.front_len ∙ sym p.ensures.front_len in
    let all : AreNewRuns c.args.flight.now (q.result.0.now ++ q.result.1.now) (p.result.0.now ++ p.result.1.now) =
    both_new c.args.flight.now c.args.desks.now q.result.0.now q.result.1.now c.args.runs.now p.result.0.now p.result.1.now parts p.ensures.value c.requires.new in
    let known : AllByRecursion (λ (desk : Desk). c.args.operators ≡ operator_count desk) (q.result.0.now ++ q.result.1.now) =
    subst (λ (l : List Desk). AllByRecursion (λ (desk : Desk). c.args.operators ≡ operator_count desk) l) parts c.requires.operators in
    let first : AreNewRuns c.args.flight.now q.result.0.now p.result.0.now = zip_first (new c.args.flight.now) q.result.0.now q.result.1.now p.result.0.now p.result.1.now same all in
    let last : AreNewRuns c.args.flight.now q.result.1.now p.result.1.now = zip_last (new c.args.flight.now) q.result.0.now q.result.1.now p.result.0.now p.result.1.now same all in
    let front : AllByRecursion (λ (desk : Desk). c.args.operators ≡ operator_count desk) q.result.0.now = all_first (λ (desk : Desk). c.args.operators ≡ operator_count desk) q.result.0.now q.result.1.now known in
    let back : AllByRecursion (λ (desk : Desk). c.args.operators ≡ operator_count desk) q.result.1.now = all_last (λ (desk : Desk). c.args.operators ≡ operator_count desk) q.result.0.now q.result.1.now known in
    search rules

pub returns : goal.returns
returns g t c =
    let q = c.split_at in
    let p = c.split_at_mut-front in
    let front : HaveRunFreely q.result.0.now p.result.0.now c.front-1.given.0 = search rules in
    let back : HaveRunFreely q.result.1.now p.result.1.now c.back-1.given.0 = search rules in
    three_joined HasRunFreely c.args.desks.now q.result.0.now q.result.1.now c.args.runs.now p.result.0.now p.result.1.now _ c.front-1.given.0 c.back-1.given.0 q.ensures.by_index.0 p.ensures.value refl front back
