use Rattle.std.proofs.Common.{refl}
use Rattle.clap.specs.Faults.{defaults_fault, walk_fault}
use Rattle.clap.specs.Walk.{walked}
use Rattle.mc_ladder_top.proofs.laws.words_ask_for_pictures.Goals as goal

pub returns : goal.returns
unfolding defaults_fault walk_fault walked
returns c = record { none = (refl, refl); ascii = (refl, refl); twice = (refl, refl); svg = (refl, refl); html = (refl, refl); both = (refl, refl); html_svg = (refl, refl); html_ascii = (refl, refl); help = λ is. cc; other = λ is. cc }
