-- Batches that a network allows.
use Rattle.std.specs.Prelude.{Bool, List}
use Rattle.std.specs.List.{All, list_all}
use Rattle.mc_model.specs.Shapes.{AreAllowed, is_allowed}
use Rattle.mc_model.specs.Worlds.{WorldState}
use Rattle.mc_script.specs.Batches.{batch_turns}
use Rattle.mc_script.specs.declared.command.Batch.{Batch}

-- a world allows each command of these batches
abbrev pub AllowsAll : WorldState → List Batch → Type 0
AllowsAll world batches = All (λ batch. AreAllowed world (batch_turns batch)) batches

-- it is tested that it does
abbrev pub allows_all : WorldState → List Batch → Bool
allows_all world batches = list_all (λ batch. list_all (is_allowed world) (batch_turns batch)) batches
