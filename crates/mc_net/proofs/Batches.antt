-- Batches of the commands that are left, and how many there are.
use Rattle.std.proofs.Common.{◌≡◌, ◌≤◌, List, [], ◌∷◌, ◌++◌, length, refl, arith}
use Rattle.mc_box.specs.declared.event.Turn.{Turn}
use Rattle.mc_script.specs.declared.command.Command.{Command}
use Rattle.mc_script.specs.declared.command.Command.TheVariants.{Stimulus, Settle}
use Rattle.mc_net.specs.Nets.{batches_of, before_next}

-- turns before those of the next batch, where there is one
abbrev pub all_before_next : List Turn → List (List Turn) → List (List Turn)
all_before_next turns [] = []
all_before_next turns (batch ∷ batches) = (turns ++ batch) ∷ batches

-- ---- how many

as_many_before : (turn : Turn) (batches : List (List Turn)) → length (before_next turn batches) ≡ length batches
as_many_before turn [] = refl
as_many_before turn (batch ∷ batches) = refl

-- no more than commands
pub few_batches : (commands : List Command) → length (batches_of commands) ≤ length commands
few_batches [] = omega arith
few_batches (Stimulus turn ∷ commands) = omega (arith, as_many_before turn (batches_of commands), few_batches commands)
few_batches (Settle ∷ commands) = omega (arith, few_batches commands)
