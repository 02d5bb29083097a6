use Rattle.std.proofs.Common.{refl}
use Rattle.clap.specs.Faults.{defaults_fault, walk_fault}
use Rattle.clap.specs.Walk.{walked}
use Rattle.mc_ladder_top.proofs.laws.words_ask_for_settles.Goals as goal

pub returns : goal.returns
unfolding defaults_fault walk_fault walked
returns c = record { some = (refl, refl); one = (refl, refl); html = (refl, refl); none = (refl, refl); order = (refl, refl); number = (refl, refl); again = (refl, refl) }
