-- What a network allows it allows after each settle, as it was tested.
use Rattle.std.proofs.Common.{◌≡◌, true, List, [], ◌∷◌, slice_index_or}
use Rattle.std.proofs.lemmas.List.Elements.{All-cons, All-nil}
use Rattle.std.specs.List.{list_all}
use Rattle.mc_box.specs.declared.event.Turn.{Turn}
use Rattle.mc_laws.proofs.ShapesKept.{run_keeps_shape}
use Rattle.mc_laws.proofs.StepKeeps.{run_keeps_sound}
use Rattle.mc_laws.proofs.CommandsGo.{both_true}
use Rattle.mc_model.specs.Settles.{IsSettled}
use Rattle.mc_model.specs.Shapes.{AreAllowed, is_allowed}
use Rattle.mc_model.specs.Sound.{IsSound}
use Rattle.mc_model.specs.Worlds.{WorldState}
use Rattle.mc_script.specs.Batches.{batch_turns}
use Rattle.mc_script.specs.declared.command.Batch.{Batch}
use Rattle.mc_seq.proofs.AllowedCommands.{all_kept}
use Rattle.many_calls.specs.Allowed.{AllowsAll, allows_all}

pub allows_after : (world last : WorldState) (batch turns : List Turn) (batches : List Batch) → IsSound world → IsSettled world batch turns last → AllowsAll world batches
    → AllowsAll last batches
allows_after world last batch turns batches sound settled allows = λ k none within.
    all_kept (batch_turns (slice_index_or batches k none)) world last sound (run_keeps_sound world last turns sound settled.runs)
    (run_keeps_shape world last turns sound settled.runs) (allows k none within)

pub allows_tested : (world : WorldState) (batches : List Batch) → allows_all world batches ≡ true → AllowsAll world batches
allows_tested world [] tested = All-nil (λ (batch : Batch). AreAllowed world (batch_turns batch))
allows_tested world (batch ∷ batches) tested =
    let both = both_true (list_all (is_allowed world) (batch_turns batch)) (allows_all world batches) tested in
    All-cons (λ (b : Batch). AreAllowed world (batch_turns b)) batch batches both.0 (allows_tested world batches both.1)
