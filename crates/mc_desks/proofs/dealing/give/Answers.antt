use Rattle.std.proofs.Common.{◌≡◌, ◌∙◌, ◌∷◌, [], ◌++◌, List, ap, slice_set, sym}
use Rattle.std.proofs.lemmas.List.{map-set}
use Rattle.std.specs.declared.alloc.Global.{Global}
use Rattle.std.specs.declared.vec.Vec.{Vec}
use Rattle.mc_desk.specs.declared.desk.Operator.{Operator}
use Rattle.mc_desks.proofs.Lists.{read_items}
use Rattle.mc_desks.specs.Passes.{lists_of}
use Rattle.mc_desks.proofs.dealing.give.Goals as goal

pub returns : goal.returns
returns c =
    map-set (λ (v : Vec Operator Global). v.items) c.args.lists.now c.args.at c.push.new.self
    ∙ ap (λ (l : List Operator). slice_set (lists_of c.args.lists.now) c.args.at l)
    (c.in_ok-push.ensures.items ∙ ap (λ (l : List Operator). l ++ c.args.pass ∷ []) (sym (read_items c.args.lists.now c.args.at c.index-lists-at.result c.requires)))
