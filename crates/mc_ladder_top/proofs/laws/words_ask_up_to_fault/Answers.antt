use Rattle.std.proofs.Common.{refl}
use Rattle.clap.specs.Faults.{defaults_fault, walk_fault}
use Rattle.clap.specs.Walk.{walked}
use Rattle.mc_ladder_top.proofs.laws.words_ask_up_to_fault.Goals as goal

pub returns : goal.returns
unfolding defaults_fault walk_fault walked
returns c = record { one = (refl, refl); twice = (refl, refl); html = (refl, refl); value = λ is. cc }
