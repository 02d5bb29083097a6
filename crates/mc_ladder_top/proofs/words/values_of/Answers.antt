use Rattle.std.proofs.Common.{◌∙◌, ap, map}
use Rattle.std.proofs.lemmas.Result.{IfOk-weaker}
use Rattle.clap.specs.Words.{found_of}
use Rattle.mc_ladder_top.proofs.Taking.{values_met, values_not_met}
use Rattle.mc_ladder_top.proofs.words.values_of.Goals as goal

pub returns-in-Some : goal.returns-in-Some
returns-in-Some c =
    let met = values_met (found_of c.args.matches.now) c.args.name.now c.get_strs.result c.in-Some.values c.get_strs.ensures c.in-Some.is in
    IfOk-weaker c.from_slice.result _ _ (λ values h. ap (map (λ value. value.now)) h ∙ met) c.from_slice.ensures.items

pub returns-in-None : goal.returns-in-None
returns-in-None c =
    ap (map (λ value. value.now)) c.new.ensures.items
    ∙ values_not_met (found_of c.args.matches.now) c.args.name.now c.get_strs.result c.get_strs.ensures c.in-None.is
