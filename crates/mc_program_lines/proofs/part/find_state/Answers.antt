use Rattle.std.proofs.Common.{rules, ℕ}
use Rattle.std.specs.Prelude.{Vec}
use Rattle.std.specs.Str.{bytes_eq}
use Rattle.std.specs.declared.alloc.Global.{Global}
use Rattle.mc_text.proofs.Places.{position-map}
use Rattle.mc_program_lines.proofs.part.find_state.Goals as goal

pub returns : goal.returns
returns c = rw (position-map (λ (state : Vec ℕ Global). state.items) (bytes_eq c.args.word.now) c.args.states.now) (search rules)
