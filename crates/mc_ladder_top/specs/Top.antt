-- What the top call promises.
use Rattle.std.specs.Prelude.{◌≡◌, ◌≢◌, ◌⊎◌, ℕ, Bool, List, [], ◌++◌, IfSome, IsTrue, None, Some, Vec, false, ◌==◌}
use Rattle.std.specs.declared.alloc.Global.{Global}
use Rattle.std.specs.declared.option.Option.{Option}
use Rattle.mc_explain.specs.declared.reason.Reason.TheVariants.{FaultyJournal}
use Rattle.mc_ladder_top.specs.Drawn.{drawn_bytes}
use Rattle.mc_ladder_top.specs.Faulty.{AreLinesBeforeFault, fault_note}
use Rattle.mc_ladder_top.specs.Requests.{Requested, unknown_in}
use Rattle.mc_lines.specs.declared.tail.Tail.TheVariants.{Journal}
use Rattle.mc_net.specs.Nets.{DeclaresBlocks}
use Rattle.mc_net.specs.declared.net.Net.{Net}
use Rattle.mc_program_lines.specs.Programs.{BlockState}
use Rattle.mc_script.specs.declared.command.JournalLine.{JournalLine}
use Rattle.mc_call.specs.Behind.{HasJournalFault}
use Rattle.mc_call.specs.Calls.{Delivers, ToldDeclares}
use Rattle.mc_call.specs.Printed.{no_box_line}
use Rattle.mc_call.specs.Reasons.{EndsFor, Explains, IsFaultOfTold, Told, of_journal}
use Rattle.mc_call.specs.declared.done.Done.{Done}
use Rattle.mc_call.specs.declared.status.TheConstants.{WORKED, FAULTY_TEXT, USAGE, NO_MEMORY, READ_FAULT, WRITE_FAULT, JOURNAL_FAULT, NO_BOX}
use Rattle.mc_io.specs.Faults.{faults_after}
use Rattle.mc_top.specs.Top.{EndsAs, Settles, ToldJournal}
use Rattle.mc_words.specs.declared.words.Mode.{Mode}
use Rattle.mc_words.specs.declared.words.Mode.TheVariants.{Check}

-- the mode of `mediactl` whose answers are this program's where it draws nothing
abbrev pub checking : Mode
checking = Check false

-- the status may be due for a text that was read
abbrev pub IsDueForText : ℕ → Type 0
IsDueForText due = (due ≡ WORKED) ⊎ (due ≡ FAULTY_TEXT) ⊎ (due ≡ NO_MEMORY) ⊎ (due ≡ JOURNAL_FAULT) ⊎ (due ≡ NO_BOX)

-- the status may be due where the words are a command line of the program
abbrev pub IsDueForDrawing : ℕ → Type 0
IsDueForDrawing due = IsDueForText due ⊎ (due ≡ READ_FAULT)

-- the status may be due: each may but that of a fault in writing
abbrev pub IsDue : ℕ → Type 0
IsDue due = IsDueForDrawing due ⊎ (due ≡ USAGE)

-- what is told of a text declares these blocks of programs
abbrev pub ToldBlocks : Option (List ℕ) → List BlockState → Type 0
ToldBlocks told blocks = IfSome told (λ text. DeclaresBlocks Journal text blocks)

-- the journal after a text is good, and what is asked for of its ladder was delivered: that of the names, the blocks of
-- programs and the first world that the text declares, and of the turns and settles that stand in the journal. The
-- boxes that are asked for are there
pub record Drew (request : Requested) (told old new : Option (List ℕ)) (status : ℕ) (journal : List JournalLine)
    : Type 0 where
  pub net : Net
  pub blocks : List BlockState
  pub declared : ToldDeclares Journal told net
  pub programs : ToldBlocks told blocks
  pub known : unknown_in net.names request.names ≡ None
  pub told_journal : ToldJournal Journal told net journal
  pub settles : Settles net None journal
  pub delivered : Delivers status WORKED old new (drawn_bytes request net.names blocks net.world journal)

-- the first of the names that are asked for that no box of the text has, and the one line that says so was delivered
pub record RefusesName (request : Requested) (told old new : Option (List ℕ)) (status : ℕ) (journal : List JournalLine)
    : Type 0 where
  pub net : Net
  pub name : List ℕ
  pub declared : ToldDeclares Journal told net
  pub unknown : unknown_in net.names request.names ≡ Some name
  pub delivered : Delivers status NO_BOX old new (no_box_line name)
  pub no_journal : journal ≡ []

-- the journal has a fault, and a ladder of what stands before it is asked for
abbrev pub DrawsUpToFault : (up_to_fault : Bool) → (due : ℕ) → Type 0
DrawsUpToFault up_to_fault due = IsTrue up_to_fault × (due ≡ JOURNAL_FAULT)

-- the journal after a text has this fault first, and what is asked for of the ladder of exactly the lines before it was
-- delivered, and then what is said of the fault. The boxes that are asked for are there. A person is told this very
-- fault, with the line of the text on which it stands, unless a write failed
pub record DrewUpToFault (request : Requested) (told old new : Option (List ℕ)) (done : Done) : Type 0 where
  pub net : Net
  pub blocks : List BlockState
  pub number : ℕ
  pub turn : ℕ
  pub before : List JournalLine
  pub declared : ToldDeclares Journal told net
  pub programs : ToldBlocks told blocks
  pub known : unknown_in net.names request.names ≡ None
  pub fault : IfSome told (λ text. HasJournalFault text net number turn)
  pub lines : IfSome told (λ text. AreLinesBeforeFault text net before)
  pub delivered : Delivers done.status JOURNAL_FAULT old new
      (drawn_bytes request net.names blocks net.world before ++ fault_note request.picture number turn)
  pub line : ℕ
  pub shown : Vec ℕ Global
  pub tells : IsFaultOfTold Journal told (of_journal line shown.items)
  pub explained : EndsFor (FaultyJournal number turn line shown) JOURNAL_FAULT done
  pub no_journal : done.journal.items ≡ []

-- one of the statuses was due. It stands, or a write failed: the sink counts one more fault exactly then. What is told
-- explains the status that stands, but for a ladder up to a fault, of which `EndsDrawing` says it
pub record AnswersDrawing (up_to_fault : Bool) (IsDue : ℕ → Type 0) (Tells : Told → Type 0)
    (old new : Option (List ℕ)) (before now : ℕ) (done : Done) : Type 0 where
  pub dues : IsDue done.due
  pub status : (done.status ≡ done.due) ⊎ (done.status ≡ WRITE_FAULT)
  pub fault : now ≡ faults_after before (done.status == WRITE_FAULT)
  pub reason : (DrawsUpToFault up_to_fault done.due → ⊥)
      → Explains Tells done.reason done.status old new done.journal.items

-- a ladder was drawn, or one up to a fault where that is asked for, or no box has a name that is asked for, or the call
-- ended as the check of the same text does
pub record EndsDrawing (request : Requested) (told old new : Option (List ℕ)) (done : Done) : Type 0 where
  pub drew : done.due ≡ WORKED → Drew request told old new done.status done.journal.items
  pub no_box : done.due ≡ NO_BOX → RefusesName request told old new done.status done.journal.items
  pub up_to_fault : DrawsUpToFault request.up_to_fault done.due → DrewUpToFault request told old new done
  pub refused : done.due ≢ WORKED → done.due ≢ NO_BOX → (DrawsUpToFault request.up_to_fault done.due → ⊥)
      → EndsAs checking told old new done
