use Rattle.std.proofs.Common.{rules, ◌≡◌, ◌++◌, ◌<◌, All, List, Vec, Global, length, slice_index_or, refl, sym, ◌∙◌, subst, arith}
use Rattle.mc_box.specs.declared.event.Turn.{Turn}
use Rattle.mc_desk.specs.declared.desk.Desk.{Desk}
use Rattle.mc_desk.specs.declared.limit.TheConstants.{REQUEST_LIMIT}
use Rattle.mc_live.proofs.Halving.{none_alone, one_alone, three_joined, zip_first, zip_head, zip_last, zip_long}
use Rattle.mc_live.specs.Askers.{AreNewAskers, CanBeAsked, HasAsked, HaveAsked, IsNewAsker}
use Rattle.mc_live.specs.declared.asker.Asker.{Asker}
use Rattle.mc_live.proofs.all_askers.+fn-run_askers-join_mut+arg2+fn-run_askers-join_mut+arg3+run_askers.Goals as goal

-- an operator is about to ask for a hand, and then it has
abbrev new : List Desk → Vec Turn Global → Asker → Type 0
new desks hand asker = CanBeAsked desks hand × IsNewAsker desks asker

abbrev asked : Vec Turn Global → Asker → Asker → Type 0
asked hand old now = HasAsked hand.items old now

-- each part is, where all are
abbrev both_new : (desks : List Desk) (hands front back : List (Vec Turn Global)) (askers first last : List Asker) → hands ≡ front ++ back → askers ≡ first ++ last → AreNewAskers desks hands askers → AreNewAskers desks (front ++ back) (first ++ last)
both_new desks hands front back askers first last is are all = subst (λ (l : List Asker). AreNewAskers desks (front ++ back) l) are (subst (λ (l : List (Vec Turn Global)). AreNewAskers desks l askers) is all)

pub returns-then-is_empty : goal.returns-then-is_empty
returns-then-is_empty g t c =
    let none : length c.args.askers.now ≡ 0 = search rules in
    none_alone (new c.args.desks.now) asked c.args.hands.now c.args.askers.now c.requires none

pub ask_all-requires-clause-new : goal.ask_all-requires-clause-new
ask_all-requires-clause-new g t c =
    let one : length c.args.askers.now ≡ 1 = search rules in
    (zip_head (new c.args.desks.now) c.args.hands.now c.args.askers.now c.index-hands-0.result c.index-askers-0.result c.index-hands-0.is c.requires one).1

pub ask_all-requires-clause-boxes : goal.ask_all-requires-clause-boxes
ask_all-requires-clause-boxes g t c =
    let one : length c.args.askers.now ≡ 1 = search rules in
    subst (λ (l : List Turn). All (λ (turn : Turn). turn.who < length c.args.desks.now) l) (sym c.deref.ensures.value)
    (zip_head (new c.args.desks.now) c.args.hands.now c.args.askers.now c.index-hands-0.result c.index-askers-0.result c.index-hands-0.is c.requires one).0.boxes

pub ask_all-requires-clause-few : goal.ask_all-requires-clause-few
ask_all-requires-clause-few g t c =
    let one : length c.args.askers.now ≡ 1 = search rules in
    subst (λ (l : List Turn). length l < REQUEST_LIMIT) (sym c.deref.ensures.value)
    (zip_head (new c.args.desks.now) c.args.hands.now c.args.askers.now c.index-hands-0.result c.index-askers-0.result c.index-hands-0.is c.requires one).0.few

pub returns-then-askers-eq1 : goal.returns-then-askers-eq1
returns-then-askers-eq1 g t c =
    let one : length c.args.askers.now ≡ 1 = search rules in
    one_alone (new c.args.desks.now) asked c.args.hands.now c.args.askers.now c.index-hands-0.result c.index-askers-0.result c.ask_all.new.asker c.index-hands-0.is c.requires one
    (subst (λ (l : List Turn). HasAsked l (slice_index_or c.args.askers.now 0 c.index-askers-0.result) c.ask_all.new.asker) c.deref.ensures.value c.ask_all.ensures)

pub split_at-requires : goal.split_at-requires
split_at-requires g t c =
    let long = zip_long (new c.args.desks.now) c.args.hands.now c.args.askers.now c.requires in
    omega (arith, long)

pub join_mut-requires-after_bounds : goal.join_mut-requires-after_bounds
join_mut-requires-after_bounds g t c κs within =
    let q = c.split_at in
    let p = c.split_at_mut-front in
    let parts : c.args.hands.now ≡ q.result.0.now ++ q.result.1.now = q.ensures.by_index.0 in
    let same : length q.result.0.now ≡ length p.result.0.now = q.ensures.front_len ∙ sym p.ensures.front_len in
    let all : AreNewAskers c.args.desks.now (q.result.0.now ++ q.result.1.now) (p.result.0.now ++ p.result.1.now) =
    both_new c.args.desks.now c.args.hands.now q.result.0.now q.result.1.now c.args.askers.now p.result.0.now p.result.1.now parts p.ensures.value c.requires in
    let first : AreNewAskers c.args.desks.now q.result.0.now p.result.0.now = zip_first (new c.args.desks.now) q.result.0.now q.result.1.now p.result.0.now p.result.1.now same all in
    let last : AreNewAskers c.args.desks.now q.result.1.now p.result.1.now = zip_last (new c.args.desks.now) q.result.0.now q.result.1.now p.result.0.now p.result.1.now same all in
    search rules

pub returns : goal.returns
returns g t c =
    let q = c.split_at in
    let p = c.split_at_mut-front in
    let front : HaveAsked q.result.0.now p.result.0.now c.front-1.given.0 = search rules in
    let back : HaveAsked q.result.1.now p.result.1.now c.back-1.given.0 = search rules in
    three_joined asked c.args.hands.now q.result.0.now q.result.1.now c.args.askers.now p.result.0.now p.result.1.now _ c.front-1.given.0 c.back-1.given.0 q.ensures.by_index.0 p.ensures.value refl front back
