use Rattle.std.proofs.Common.{◌∙◌, ◌++◌, ◌∷◌, [], ℕ, ap, arith}
use Rattle.mc_ladder.specs.Columns.{column_of}
use Rattle.mc_ladder.proofs.Mapped.{mapped_more}
use Rattle.mc_ladder.proofs.path.stops_of.Goals as goal

pub loop-who-preserved : goal.loop-who-preserved
loop-who-preserved c =
    mapped_more (column_of c.args.columns.now) c.args.boxes.now c.loop-who.stops.items c.push.new.self.items _ c.loop-who.who-index _ (omega (arith, c.loop-who-test.true))
    (c.in_ok-push.ensures.items ∙ ap (λ (k : ℕ). c.loop-who.stops.items ++ k ∷ []) c.column_of.ensures) c.loop-who.invariant
