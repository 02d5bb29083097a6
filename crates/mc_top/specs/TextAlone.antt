-- Where the text alone decides what is printed.
use Rattle.std.specs.Prelude.{◌≡◌, ℕ, List, map, IsFalse, None, Some}
use Rattle.std.specs.declared.option.Option.{Option}
use Rattle.mc_model.specs.Sound.{IsSound}
use Rattle.mc_model.specs.Unprogrammed.{HasNoPrograms}
use Rattle.mc_net.specs.Nets.{DeclaresNet, batch_turns}
use Rattle.mc_lines.specs.declared.tail.Tail.{Tail}
use Rattle.mc_net.specs.declared.net.Net.{Net}
use Rattle.mc_settings.specs.Batches.{LeavesDecided}
use Rattle.mc_script.specs.declared.command.JournalLine.{JournalLine}
use Rattle.mc_replay.specs.Journals.{IsJournal}
use Rattle.mc_top.specs.Modes.{output_of, report_of, tail_of, tells_why}
use Rattle.mc_top.specs.Printed.{script_text}
use Rattle.mc_top.specs.Top.{Worked}
use Rattle.mc_top.specs.declared.report.Report.{Report}
use Rattle.mc_top.specs.declared.report.Report.TheVariants.{Conference}
use Rattle.mc_text.specs.NameLists.{NameLists}
use Rattle.mc_words.specs.Commands.{prints_journal}
use Rattle.mc_words.specs.declared.words.Mode.{Mode}

-- the journal settles all batches of a network that the text declares, whichever interleaving of the boxes it is
pub record SettlesText (tail : Tail) (text : List ℕ) (net : Net) (journal : List JournalLine) : Type 0 where
  pub declares : DeclaresNet tail text net
  pub sound : IsSound net.world
  pub settles : IsJournal net.world (map batch_turns net.batches.items) journal

-- a report has no conference
abbrev pub HasNoConference : Report → Type 0
HasNoConference (Conference who) = ⊥
HasNoConference report = Unit {0}

-- two runs of one text report the same, settle by settle, if no box has a program and no batch leaves a path of hold
-- against hold
abbrev pub TextAloneDecides : Type 0
TextAloneDecides =
    (report : Report) (tail : Tail) (text : List ℕ) (net other : Net) (first second : List JournalLine)
    → HasNoConference report → SettlesText tail text net first → SettlesText tail text other second
    → HasNoPrograms net.world → LeavesDecided net.world (map batch_turns net.batches.items)
    → script_text report net.names net.world None first ≡ script_text report other.names other.world None second

-- so two calls that did their work on one text print the same, under the same premises, in whichever modes that read it
-- in the same way and report the same of it, where neither prints its journal or tells why paths closed
abbrev pub CallsPrintSame : Type 0
CallsPrintSame =
    (text : List ℕ) (first second : List JournalLine) (mode instead : Mode) (old new from to : Option (List ℕ))
    (status end : ℕ)
    → tail_of mode ≡ tail_of instead → ((names : NameLists) → report_of mode names ≡ report_of instead names)
    → ((names : NameLists) → HasNoConference (report_of mode names)) → IsFalse (prints_journal mode)
    → IsFalse (prints_journal instead)
    → IsFalse (tells_why mode) → IsFalse (tells_why instead)
    → (one : Worked mode (Some text) old new status first) (two : Worked instead (Some text) from to end second)
    → HasNoPrograms one.net.world → LeavesDecided one.net.world (map batch_turns one.net.batches.items)
    → output_of mode one.net first ≡ output_of instead two.net second
