use Rattle.std.proofs.Common.{◌∙◌, sym}
use Rattle.std.proofs.lemmas.List.Quantifiers.{position-Some}
use Rattle.mc_ladder_top.specs.Words.{is_dash}
use Rattle.mc_ladder_top.proofs.words.span_of.Goals as goal

pub span_around-requires : goal.span_around-requires
span_around-requires c = (position-Some is_dash c.args.word.now c.in-Some.dash 0 (sym c.dash_in.ensures ∙ c.in-Some.is)).0
