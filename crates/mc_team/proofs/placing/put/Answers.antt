use Rattle.std.proofs.Common.{◌<◌, ℕ, List, length, ap, sym, ◌∙◌, arith}
use Rattle.std.proofs.Math.ListN.{set}
use Rattle.std.proofs.lemmas.List.{length-map}
use Rattle.std.specs.declared.alloc.Global.{Global}
use Rattle.std.specs.declared.vec.Vec.{Vec}
use Rattle.mc_team.specs.Layouts.{inner_lists}
use Rattle.mc_team.proofs.Pushed.{list_replaced, read_box}
use Rattle.mc_team.proofs.placing.put.Goals as goal

pub returns : goal.returns
returns c =
    let lists = c.args.places.now.items in
    let list = c.index_mut.result.now in
    let here : c.args.who < length c.args.places.now.items = omega (arith, c.requires.here, length-map lists (λ (v : Vec (ℕ × ℕ) Global). v.items)) in
    list_replaced lists c.args.who _
    ∙ ap (λ (l : List (ℕ × ℕ)). set (inner_lists lists) c.args.who (set l c.args.local c.args.place)) (sym (read_box lists c.args.who list here c.index_mut.ensures.value))
