-- What a call answers that delivered something, or gave up.
use Rattle.std.proofs.Common.{◌≡◌, ◌⊎◌, ◌==◌, ◌∙◌, inl, inr, ℕ, List, refl, subst, sym}
use Rattle.std.specs.declared.option.Option.{Option}
use Rattle.mc_call.specs.Answers.{Answers, TellsNothing}
use Rattle.mc_call.specs.Calls.{Delivers}
use Rattle.mc_call.specs.Reasons.{EndsFor, Explains, ExplainsDue, Told}
use Rattle.mc_call.specs.declared.done.Done.{Done}
use Rattle.mc_call.proofs.Explaining.{explains_delivered, explains_weaker, told_nothing}
use Rattle.mc_explain.specs.declared.reason.Reason.{Reason}
use Rattle.mc_io.specs.Faults.{faults_after}
use Rattle.mc_script.specs.declared.command.JournalLine.{JournalLine}

-- which of the two statuses stands
status_by : (given : Reason) (due : ℕ) (done : Done) → EndsFor given due done → done.due ≡ due → (done.status ≡ done.due) ⊎ (done.status ≡ 5)
status_by given due done (inl (is, told)) due_is = inl (is ∙ sym due_is)
status_by given due done (inr (is, told)) due_is = inr is

-- what was due was delivered, with a reason that explains it
pub answers_delivered : (IsDue : ℕ → Type 0) (Tells : Told → Type 0) (given : Reason) (due : ℕ) (output : List ℕ) (old new : Option (List ℕ)) (before now : ℕ) (done : Done)
    → IsDue done.due → ExplainsDue Tells given due output done.journal.items → Delivers done.status due old new output → done.due ≡ due → EndsFor given due done
    → now ≡ faults_after before (done.status == 5) → Answers IsDue Tells old new before now done
answers_delivered IsDue Tells given due output old new before now done is_due explains delivers due_is ends counted = record {
  dues = is_due;
  status = status_by given due done ends due_is;
  fault = counted;
  reason = explains_delivered Tells given due output old new done explains delivers ends;
}

-- the same by more statuses, and by less that is said of a fault
pub answers_weaker : (IsDue MayBeDue : ℕ → Type 0) (P Q : Told → Type 0) (old new : Option (List ℕ)) (before now : ℕ) (done : Done)
    → (IsDue done.due → MayBeDue done.due) → ((fault : Told) → P fault → Q fault) → Answers IsDue P old new before now done → Answers MayBeDue Q old new before now done
answers_weaker IsDue MayBeDue P Q old new before now done more weaker answers = record {
  dues = more answers.dues;
  status = answers.status;
  fault = answers.fault;
  reason = explains_weaker P Q weaker done.reason done.status old new done.journal.items answers.reason;
}

-- what a script printed was delivered, with a reason that explains how it stopped
pub answers_ran : (IsDue : ℕ → Type 0) (Tells : Told → Type 0) (given : Reason) (due : ℕ) (output : List ℕ) (journal : List JournalLine) (old new : Option (List ℕ)) (before now : ℕ) (done : Done)
    → IsDue done.due → ExplainsDue TellsNothing given due output journal → done.due ≡ due → done.journal.items ≡ journal → Delivers done.status done.due old new output → EndsFor given done.due done
    → now ≡ faults_after before (done.status == 5) → Answers IsDue Tells old new before now done
answers_ran IsDue Tells given due output journal old new before now done is_due explains due_is kept delivers ends counted =
    answers_delivered IsDue Tells given done.due output old new before now done is_due
    (λ from to appends. explains_weaker TellsNothing Tells (told_nothing Tells) given done.due from to done.journal.items
    (subst (λ (n : ℕ). Explains TellsNothing given n from to done.journal.items) (sym due_is)
    (subst (λ (lines : List JournalLine). Explains TellsNothing given due from to lines) (sym kept) (explains from to appends))))
    delivers refl ends counted
