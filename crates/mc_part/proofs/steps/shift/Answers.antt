use Rattle.std.proofs.Common.{◌≡◌, ◌<◌, ◌+◌, ◌∙◌, ℕ, List, Vec, Global, length, set, refl, ap, sym, subst, arith}
use Rattle.std.specs.Vec.{with_item}
use Rattle.std.proofs.lemmas.List.{get_or_read, length-set}
use Rattle.mc_box.specs.declared.event.Event.TheVariants.{Shift}
use Rattle.mc_part.specs.Parts.{no_retries, shifts_of}
use Rattle.mc_part.specs.declared.part.Part.{Part}
use Rattle.mc_part.proofs.Calm.{goes_none, goes_once, goes_still}
use Rattle.mc_part.proofs.Ran.{failed, none_within, once_longer, once_within, shift_run}
use Rattle.mc_part.proofs.steps.shift.Goals as goal

pub returns-then-len-budget-clause-goes : goal.returns-then-len-budget-clause-goes
returns-then-len-budget-clause-goes g c = goes_none c.args.budget c.args.part.now c.requires.within

pub returns-in_err-act-clause-goes : goal.returns-in_err-act-clause-goes
returns-in_err-act-clause-goes g c =
    let a = c.args.part.now in
    let b = c.act.new.part in
    goes_still c.args.budget a b (failed a b c.requires.within c.in_err-act.ensures.same c.in_err-act.ensures.log) (none_within a b c.requires.within c.in_err-act.ensures.same c.in_err-act.ensures.log) c.in_err-act.ensures.log

pub returns-clause-goes : goal.returns-clause-goes
returns-clause-goes g c =
    let a : Part = c.args.part.now in
    let b : Part = c.act.new.part in
    let who : ℕ = c.args.who in
    let once = c.in_ok-act.ensures.made in
    let shifts : Vec ℕ Global = with_item b.shifts who (c.index_mut.result.now + 1) in
    let same : b.shifts ≡ a.shifts = ap (λ (p : Part). p.shifts) once.kept in
    let inside : who < length b.shifts.items = subst (λ (v : Vec ℕ Global). who < length v.items) (sym same) (subst (λ (n : ℕ). who < n) (sym c.requires.within.counts) c.requires.here) in
    let value : c.index_mut.result.now ≡ shifts_of a who = get_or_read b.shifts.items who c.index_mut.result.now inside c.index_mut.ensures.value 0 ∙ ap (λ (p : Part). shifts_of p who) once.kept in
    let counted : shifts.items ≡ set a.shifts.items who (shifts_of a who + 1) = ap (λ (n : ℕ). set b.shifts.items who (n + 1)) value ∙ ap (λ (v : Vec ℕ Global). set v.items who (shifts_of a who + 1)) same in
    let runs = shift_run a b who shifts c.requires.within counted c.requires.fewer once in
    let fewer : length a.log.items < c.args.budget = omega (arith, c.if-len-budget.false, c.len.ensures) in
    goes_once c.args.budget a (record b { shifts = shifts }) runs
    (once_within a b (record b { shifts = shifts }) who Shift no_retries c.requires.within once refl refl refl (ap (λ (l : List ℕ). length l) counted ∙ length-set a.shifts.items who (shifts_of a who + 1)) runs) fewer
    (once_longer a b who Shift once)
