-- Calls that end alike: what the words and the text alone decide, memory and counted faults aside.
use Rattle.std.specs.Prelude.{◌≡◌, ℕ, Bool, List, IsTrue, Option, Some}
use Rattle.mc_scene.specs.Generated.{generated}
use Rattle.mc_top.specs.Modes.{IsWithinLimits}
use Rattle.mc_call.specs.Statuses.{judges_text}
use Rattle.mc_call.specs.Calls.{Delivers}
use Rattle.mc_top.specs.Top.{EndsAs}
use Rattle.mc_call.specs.declared.status.TheConstants.{WORKED, JOURNAL_FAULT}
use Rattle.mc_call.specs.declared.done.Done.{Done}
use Rattle.mc_words.specs.declared.words.Mode.{Mode}
use Rattle.mc_words.specs.declared.words.Mode.TheVariants.{Check, Gen, One}

-- a call in this mode worked on this text, and neither memory nor reading failed it
pub record Judges (mode : Mode) (text : List ℕ) (old new : Option (List ℕ)) (done : Done) : Type 0 where
  pub ends : EndsAs mode (Some text) old new done
  pub judged : IsTrue (judges_text done.due)

-- two calls were due to end with one status, and to print one output, which each delivered where it writes
pub record PrintAlike (old new from to : Option (List ℕ)) (done other : Done) : Type 0 where
  pub due : done.due ≡ other.due
  pub output : List ℕ
  pub delivered : Delivers done.status done.due old new output
  pub also : Delivers other.status other.due from to output

-- and they kept one journal
pub record EndAlike (old new from to : Option (List ℕ)) (done other : Done) : Type 0 where
  pub prints : PrintAlike old new from to done other
  pub journal : done.journal.items ≡ other.journal.items

-- any two calls in this mode end alike on one text that both judged
abbrev pub AlwaysEndsAlike : Mode → Type 0
AlwaysEndsAlike mode =
    (text : List ℕ) (old new from to : Option (List ℕ)) (done other : Done) → Judges mode text old new done
    → Judges mode text from to other → EndAlike old new from to done other

-- so do those of `one`, by its words and the text: also where boxes have programs, and paths are hold against hold
abbrev pub OneEndsAlike : Type 0
OneEndsAlike = (state : ℕ) (asked : Bool) → AlwaysEndsAlike (One state asked)

-- and those of `check` and of `why`, by the text
abbrev pub CheckEndsAlike : Type 0
CheckEndsAlike = (why : Bool) → AlwaysEndsAlike (Check why)

-- a text whose journal is good for one call of `check` or `why` is refused by none
abbrev pub GoodIsNotRefused : Type 0
GoodIsNotRefused =
    (why also : Bool) (text : List ℕ) (old new from to : Option (List ℕ)) (done other : Done)
    → EndsAs (Check why) (Some text) old new done → EndsAs (Check also) (Some text) from to other
    → done.due ≡ WORKED → other.due ≡ JOURNAL_FAULT → ⊥

-- what two calls of `gen` print is decided by its words, whichever journals they keep
abbrev pub GenPrintsAlike : Type 0
GenPrintsAlike =
    (number size : ℕ) (old new from to : Option (List ℕ)) (done other : Done) → IsWithinLimits (Gen number size)
    → Judges (Gen number size) (generated number size) old new done
    → Judges (Gen number size) (generated number size) from to other → PrintAlike old new from to done other
