use Rattle.std.proofs.Common.{◌≡◌, ◌∙◌, ◌<◌, ap, sym, Some, slice_get, arith}
use Rattle.std.proofs.Math.ListN.{length-set}
use Rattle.std.proofs.lemmas.Option.{slice_get-get_or}
use Rattle.std.proofs.lemmas.Grind.{common_steps}
use Rattle.mc_worker.proofs.EndSteps.{past_end}
use Rattle.mc_worker.proofs.Tables.{filled}
use Rattle.mc_worker.proofs.places.table_of.Goals as goal

pub loop-slot-preserved : goal.loop-slot-preserved
loop-slot-preserved c =
    let here : slice_get c.args.list.now.items c.loop-slot.slot ≡ Some c.index.result.now =
    slice_get-get_or c.args.list.now.items c.loop-slot.slot c.index.result.now (omega arith) ∙ ap Some (sym c.index.ensures) in
    record {
      long = length-set c.loop-slot.table _ _ ∙ c.loop-slot.invariant.long;
      filled = filled c.args.list.now.items c.loop-slot.table c.loop-slot.slot c.index.result.now c.requires here c.loop-slot.invariant.long c.loop-slot.invariant.filled;
    }

pub returns : goal.returns
returns c slot place at =
    let inside = past_end c.args.list.now.items slot place at in
    let below : slot < c.loop-slot.slot = grind (arith, common_steps) in
    c.loop-slot.invariant.filled slot place below at
