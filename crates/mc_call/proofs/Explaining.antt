-- What is told of how a call ended, where it was to deliver something.
use Rattle.std.proofs.Common.{◌≡◌, inl, inr, ℕ, List, Bool, true, false, if◌then◌else◌, Option, Some, None, ap, refl, subst, sym, ◌∙◌}
use Rattle.std.specs.Io.KnownBytes.{Appends}
use Rattle.mc_call.specs.Answers.{IsToldAs, TellsNothing}
use Rattle.mc_call.specs.Calls.{Delivers, IsTextOf}
use Rattle.mc_call.specs.Printed.{fault_line, journal_fault_line, no_box_line}
use Rattle.mc_call.specs.Reasons.{EndsFor, Explains, ExplainsDue, IsFaultOf, IsFaultOfTold, IsJournalFaultOf, IsNoBox, IsTextFaultOf, Told, of_box, of_journal, of_text}
use Rattle.mc_call.specs.declared.done.Done.{Done}
use Rattle.mc_call.specs.declared.status.TheConstants.{FAULTY_TEXT, JOURNAL_FAULT, NO_BOX, USAGE}
use Rattle.mc_explain.specs.Reasons.{IsFaultOfJournal, IsTextFault, line_at}
use Rattle.mc_explain.specs.declared.reason.Reason.{Reason}
use Rattle.mc_explain.specs.declared.reason.Reason.TheVariants as reason
use Rattle.mc_lines.specs.declared.detail.Detail.{Detail}
use Rattle.mc_lines.specs.declared.tail.Tail.{Tail}
use Rattle.mc_net.proofs.FirstBytes.{faults_of_the_first_bytes, nets_of_the_first_bytes}
use Rattle.mc_net.specs.Nets.{DeclaresNet}
use Rattle.mc_net.specs.TextLaws.{first_bytes}
use Rattle.mc_script.specs.declared.command.JournalLine.{JournalLine}

-- where what is due was written whole it is explained as it was to be, and else by the failed write
pub explains_delivered : (Tells : Told → Type 0) (given : Reason) (due : ℕ) (output : List ℕ) (old new : Option (List ℕ)) (done : Done)
    → ExplainsDue Tells given due output done.journal.items → Delivers done.status due old new output → EndsFor given due done
    → Explains Tells done.reason done.status old new done.journal.items
explains_delivered Tells given due output old new done explains delivers (inl (is, told)) =
    subst (λ (r : Reason). Explains Tells r done.status old new done.journal.items) (sym told)
    (subst (λ (status : ℕ). Explains Tells given status old new done.journal.items) (sym is) (explains old new (delivers.whole is)))
explains_delivered Tells given due output old new done explains delivers (inr (is, told)) =
    subst (λ (r : Reason). Explains Tells r done.status old new done.journal.items) (sym told) is

-- the same by less that is said of a fault
pub explains_weaker : (P Q : Told → Type 0) → ((fault : Told) → P fault → Q fault)
    → (told : Reason) (status : ℕ) (old new : Option (List ℕ)) (journal : List JournalLine) → Explains P told status old new journal → Explains Q told status old new journal
explains_weaker P Q weaker reason.Worked status old new journal is = is
explains_weaker P Q weaker reason.Help status old new journal is = is
explains_weaker P Q weaker reason.Usage status old new journal is = is
explains_weaker P Q weaker (reason.FaultyText number line text detail) status old new journal (is, printed, tells) = (is, printed, weaker (of_text number line text.items detail) tells)
explains_weaker P Q weaker (reason.VersionEnd place settle) status old new journal is = is
explains_weaker P Q weaker (reason.Ring place settle) status old new journal is = is
explains_weaker P Q weaker (reason.Restless place settle) status old new journal is = is
explains_weaker P Q weaker (reason.ChannelInUse place settle) status old new journal is = is
explains_weaker P Q weaker (reason.FaultyJournal number turn line text) status old new journal (is, printed, tells) = (is, printed, weaker (of_journal line text.items) tells)
explains_weaker P Q weaker (reason.NoBox place features) status old new journal (is, printed, tells) = (is, printed, weaker (of_box features.items) tells)
explains_weaker P Q weaker reason.NoMemory status old new journal is = is
explains_weaker P Q weaker reason.ReadFault status old new journal is = is
explains_weaker P Q weaker reason.WriteFault status old new journal is = is

-- ---- refusals

-- the fault of a text is told by its line, and by what else is known of it
pub explains_line : (text : List ℕ) (number line : ℕ) (detail : Detail) (told : Reason) (output : List ℕ) (journal : List JournalLine)
    → IsTextFault number line detail text told → output ≡ fault_line number line
    → ExplainsDue (IsToldAs (of_text number line (line_at line text) detail)) told FAULTY_TEXT output journal
explains_line text number line detail told output journal (shown, is, bytes) printed = λ old new appends.
    subst (λ (r : Reason). Explains (IsToldAs (of_text number line (line_at line text) detail)) r FAULTY_TEXT old new journal) (sym is)
    (refl, subst (Appends old new) printed appends, ap (λ (b : List ℕ). of_text number line b detail) bytes)

-- that of a journal by its line of the text
pub explains_journal : (text : List ℕ) (number turn line : ℕ) (told : Reason) (output : List ℕ) (journal : List JournalLine)
    → IsFaultOfJournal number turn line text told → output ≡ journal_fault_line number turn
    → ExplainsDue (IsToldAs (of_journal line (line_at line text))) told JOURNAL_FAULT output journal
explains_journal text number turn line told output journal (shown, is, bytes) printed = λ old new appends.
    subst (λ (r : Reason). Explains (IsToldAs (of_journal line (line_at line text))) r JOURNAL_FAULT old new journal) (sym is)
    (refl, subst (Appends old new) printed appends, ap (λ (b : List ℕ). of_journal line b) bytes)

-- that no box has a name, with the features that there are
pub explains_name : (name features : List ℕ) (told : Reason) (output : List ℕ) (journal : List JournalLine)
    → IsNoBox name features told → output ≡ no_box_line name → ExplainsDue (IsToldAs (of_box features)) told NO_BOX output journal
explains_name name features told output journal (place, words, is, named, are) printed = λ old new appends.
    subst (λ (r : Reason). Explains (IsToldAs (of_box features)) r NO_BOX old new journal) (sym is)
    (refl, subst (Appends old new) (printed ∙ ap no_box_line (sym named)) appends, ap of_box are)

-- what holds of what is told
pub told_as : (P : Told → Type 0) (given : Told) → P given → (fault : Told) → IsToldAs given fault → P fault
told_as P given holds fault is = subst P (sym is) holds

-- where nothing is told
pub told_nothing : (P : Told → Type 0) (fault : Told) → TellsNothing fault → P fault
told_nothing P fault none = absurd none

-- ---- what was read of what a source has left

-- the fault of what was read is that of what was left
pub told_of : (tail : Tail) (told : Option (List ℕ)) (text : List ℕ) → IsTextOf tail told text → (fault : Told) → IsFaultOf tail text fault → IsFaultOfTold tail told fault
told_of tail None text read (of_text number line shown detail) is = tt
told_of tail None text read (of_journal line shown) is = tt
told_of tail None text read (of_box features) is = tt
told_of tail (Some all) text read (of_text number line shown detail) is =
    let here : IsTextFaultOf tail (first_bytes tail all) number line shown detail = subst (λ (t : List ℕ). IsTextFaultOf tail t number line shown detail) read is in
    (faults_of_the_first_bytes tail all number line here.0, here)
told_of tail (Some all) text read (of_journal line shown) is = subst (λ (t : List ℕ). IsJournalFaultOf tail t line shown) read is
told_of tail (Some all) text read (of_box features) (net, declares, are) =
    (net, nets_of_the_first_bytes tail all net (subst (λ (t : List ℕ). DeclaresNet tail t net) read declares), are)

-- ---- words that are no command

-- they are told the commands, with a complaint or without it
pub told_usage : (Tells : Told → Type 0) (help : Bool) (old new : Option (List ℕ)) (journal : List JournalLine) → Explains Tells (if help then reason.Help else reason.Usage) USAGE old new journal
told_usage Tells true old new journal = refl
told_usage Tells false old new journal = refl
