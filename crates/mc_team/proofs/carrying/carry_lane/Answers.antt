use Rattle.std.proofs.Common.{◌≡◌, ◌<◌, ◌++◌, ℕ, List, Some, length, slice_get, slice_index_or, sym, ◌∙◌, ap, subst, arith}
use Rattle.mc_team.specs.declared.member.Member.{Member}
use Rattle.mc_team.proofs.Lists.{at_index, first_behind, in_front}
use Rattle.mc_team.proofs.Pairs.{answer_back, answer_forward, answer_within, giver_there}
use Rattle.mc_team.proofs.carrying.carry_lane.Goals as goal

-- the elements of two halves
of_front : (members front back : List Member) (i : ℕ) (d : Member) → members ≡ front ++ back → i < length front → slice_get members i ≡ Some (slice_index_or front i d)
of_front members front back i d whole within = ap (λ (l : List Member). slice_get l i) whole ∙ in_front front back i d within

of_back : (members front back : List Member) (i : ℕ) (d : Member) → members ≡ front ++ back → length front ≡ i → 0 < length back → slice_get members i ≡ Some (slice_index_or back 0 d)
of_back members front back i d whole len some = ap (λ (l : List Member). slice_get l i) whole ∙ (ap (λ (n : ℕ). slice_get (front ++ back) n) (sym len) ∙ first_behind front back d some)

-- ---- within one box

pub carry_back-requires-clause-ready : goal.carry_back-requires-clause-ready
carry_back-requires-clause-ready c = c.requires.ready c.args.ends.to _ (at_index c.args.members.now c.args.ends.to c.index-members-to.result c.requires.tied.taker)

pub carry_back-requires-clause-end : goal.carry_back-requires-clause-end
carry_back-requires-clause-end c =
    giver_there c.args.members.now c.args.ends _ c.requires.tied
    (subst (λ (n : ℕ). slice_get c.args.members.now n ≡ Some (slice_index_or c.args.members.now c.args.ends.to c.index-members-to.result)) (sym c.if-from-to.true) (at_index c.args.members.now c.args.ends.to c.index-members-to.result c.requires.tied.taker))

pub returns-then-from-to : goal.returns-then-from-to
returns-then-from-to c =
    answer_within c.carry_back.result c.args.members.now c.args.ends _ c.carry_back.new.member c.if-from-to.true c.requires.ready (at_index c.args.members.now c.args.ends.to c.index-members-to.result c.requires.tied.taker)
    c.carry_back.ensures

-- ---- the giving box first

pub carry_to-requires-clause-ready_from : goal.carry_to-requires-clause-ready_from
carry_to-requires-clause-ready_from c =
    let s = c.split_at_mut-front in
    c.requires.ready c.args.ends.from _ (of_front c.args.members.now s.result.0.now s.result.1.now c.args.ends.from c.index-front-from.result s.ensures.value (omega arith))

pub carry_to-requires-clause-ready_to : goal.carry_to-requires-clause-ready_to
carry_to-requires-clause-ready_to c =
    let s = c.split_at_mut-front in
    c.requires.ready c.args.ends.to _ (of_back c.args.members.now s.result.0.now s.result.1.now c.args.ends.to c.index-back-0.result s.ensures.value s.ensures.front_len (omega arith))

pub carry_to-requires-clause-end : goal.carry_to-requires-clause-end
carry_to-requires-clause-end c =
    let s = c.split_at_mut-front in
    giver_there c.args.members.now c.args.ends _ c.requires.tied (of_front c.args.members.now s.result.0.now s.result.1.now c.args.ends.from c.index-front-from.result s.ensures.value (omega arith))

pub returns-then-from-to-2 : goal.returns-then-from-to-2
returns-then-from-to-2 c =
    let s = c.split_at_mut-front in
    answer_forward c.carry_to.result c.args.members.now s.result.0.now s.result.1.now c.args.ends _ _ c.carry_to.new.from c.carry_to.new.to c.if-from-to.false c.requires.ready s.ensures.value s.ensures.front_len (omega arith) (omega arith)
    (of_front c.args.members.now s.result.0.now s.result.1.now c.args.ends.from c.index-front-from.result s.ensures.value (omega arith))
    (of_back c.args.members.now s.result.0.now s.result.1.now c.args.ends.to c.index-back-0.result s.ensures.value s.ensures.front_len (omega arith))
    c.carry_to.ensures

-- ---- the taking box first

pub carry_to-requires-2-clause-ready_from : goal.carry_to-requires-2-clause-ready_from
carry_to-requires-2-clause-ready_from c =
    let s = c.split_at_mut-front-2 in
    c.requires.ready c.args.ends.from _ (of_back c.args.members.now s.result.0.now s.result.1.now c.args.ends.from c.index-back-0-2.result s.ensures.value s.ensures.front_len (omega arith))

pub carry_to-requires-2-clause-ready_to : goal.carry_to-requires-2-clause-ready_to
carry_to-requires-2-clause-ready_to c =
    let s = c.split_at_mut-front-2 in
    c.requires.ready c.args.ends.to _ (of_front c.args.members.now s.result.0.now s.result.1.now c.args.ends.to c.index-front-to.result s.ensures.value (omega arith))

pub carry_to-requires-2-clause-end : goal.carry_to-requires-2-clause-end
carry_to-requires-2-clause-end c =
    let s = c.split_at_mut-front-2 in
    giver_there c.args.members.now c.args.ends _ c.requires.tied (of_back c.args.members.now s.result.0.now s.result.1.now c.args.ends.from c.index-back-0-2.result s.ensures.value s.ensures.front_len (omega arith))

pub returns : goal.returns
returns c =
    let s = c.split_at_mut-front-2 in
    answer_back c.carry_to-2.result c.args.members.now s.result.0.now s.result.1.now c.args.ends _ _ c.carry_to-2.new.from c.carry_to-2.new.to c.if-from-to.false c.requires.ready s.ensures.value s.ensures.front_len (omega arith) (omega arith)
    (of_back c.args.members.now s.result.0.now s.result.1.now c.args.ends.from c.index-back-0-2.result s.ensures.value s.ensures.front_len (omega arith))
    (of_front c.args.members.now s.result.0.now s.result.1.now c.args.ends.to c.index-front-to.result s.ensures.value (omega arith))
    c.carry_to-2.ensures
