use Rattle.std.proofs.Common.{List, set, ap, ◌∙◌, rules}
use Rattle.std.proofs.lemmas.List.{map-set}
use Rattle.std.specs.declared.alloc.Global.{Global}
use Rattle.std.specs.declared.vec.Vec.{Vec}
use Rattle.mc_part.specs.DividedParts.{inner_lists}
use Rattle.mc_part.specs.declared.port.Port.{Port}
use Rattle.mc_divided.proofs.engines.take_ports.Goals as goal

pub returns-clause-left : goal.returns-clause-left
returns-clause-left c =
    map-set (λ (v : Vec Port Global). v.items) c.args.ports.now.items c.args.part c.replace.new.dest
    ∙ ap (λ (l : List Port). set (inner_lists c.args.ports.now.items) c.args.part l) (search rules)
