use Rattle.std.proofs.Common.{◌≡◌, ◌<◌, ◌-◌, ◌∙◌, rules, ℕ, length, get_or, take, Some, ap, sym, subst}
use Rattle.std.specs.Vec.{vec_len}
use Rattle.mc_part.proofs.Gathering.{list_shorter}
use Rattle.mc_part.proofs.Shares.{read_list}
use Rattle.mc_part.proofs.sharing.take_last.Goals as goal

pub returns : goal.returns
returns g c =
    let old = c.index_mut.result.now in
    let long : vec_len old ≡ length old.items = search rules in
    let read = read_list c.args.lists.now.items c.args.part old c.requires.part c.index_mut.ensures.value in
    let some : 0 < vec_len old =
    subst (λ (n : ℕ). 0 < n) (ap length read ∙ sym long) c.requires.some in
    list_shorter c.args.lists.now.items c.args.part old c.pop.new.self c.in-Some.thing c.requires.part
    c.index_mut.ensures.value
    (λ d. same_some (sym c.in-Some.is ∙ c.pop.ensures.value d some)
    ∙ ap (λ (n : ℕ). get_or old.items (n - 1) d) long)
    (c.pop.ensures.rest ∙ ap (λ (n : ℕ). take (n - 1) old.items) long)
  where
    same_some : {A : Type 0} {x y : A} → Some x ≡ Some y → x ≡ y
    same_some {A} {x} {y} is = cc
