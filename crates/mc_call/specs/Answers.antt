-- What each way through a call promises.
use Rattle.std.specs.Prelude.{◌≡◌, ◌⊎◌, ◌==◌, ℕ, List, []}
use Rattle.std.specs.declared.option.Option.{Option}
use Rattle.mc_call.specs.Calls.{Delivers, GivesUp}
use Rattle.mc_call.specs.Reasons.{Explains, Told}
use Rattle.mc_call.specs.declared.done.Done.{Done}
use Rattle.mc_call.specs.declared.status.TheConstants.{NO_MEMORY, WRITE_FAULT}
use Rattle.mc_io.specs.Faults.{faults_after}

-- One of the statuses was due. It stands, or a write failed: the sink counts one more fault exactly then. What is told
-- explains the status that stands, and a fault in these words
pub record Answers (IsDue : ℕ → Type 0) (Tells : Told → Type 0) (old new : Option (List ℕ)) (before now : ℕ)
    (done : Done) : Type 0 where
  pub dues : IsDue done.due
  pub status : (done.status ≡ done.due) ⊎ (done.status ≡ WRITE_FAULT)
  pub fault : now ≡ faults_after before (done.status == WRITE_FAULT)
  pub reason : Explains Tells done.reason done.status old new done.journal.items

-- one line was delivered with this status, or memory was wanting; no journal is kept
pub record Refuses (due : ℕ) (line : List ℕ) (old new : Option (List ℕ)) (done : Done) : Type 0 where
  pub delivered : done.due ≡ due → Delivers done.status due old new line
  pub gave_up : done.due ≡ NO_MEMORY → GivesUp old new done
  pub no_journal : done.journal.items ≡ []

-- this status was due, or memory was wanting
abbrev pub IsDueOrMemory : ℕ → ℕ → Type 0
IsDueOrMemory status due = (due ≡ status) ⊎ (due ≡ NO_MEMORY)

-- this is what is told of a fault
abbrev pub IsToldAs : Told → Told → Type 0
IsToldAs given told = told ≡ given

-- no fault is told
abbrev pub TellsNothing : Told → Type 0
TellsNothing told = ⊥
