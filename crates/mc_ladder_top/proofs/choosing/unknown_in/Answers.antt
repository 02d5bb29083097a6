use Rattle.std.proofs.Common.{◌∙◌, ap, sym}
use Rattle.std.specs.Prelude.{is_some}
use Rattle.mc_ladder_top.proofs.Asked.{is_known, known_more}
use Rattle.mc_ladder_top.proofs.choosing.unknown_in.Goals as goal

pub loop-name-preserved : goal.loop-name-preserved
loop-name-preserved c =
    known_more c.args.names.now c.args.wanted.now c.loop-name.name-index _ _ c.loop-name-test.true
    (is_known _ c.is_none.result (sym (ap is_some c.box_named.ensures) ∙ c.is_none.ensures) c.if-is_none.false) c.loop-name.invariant
