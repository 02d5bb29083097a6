-- What the top call promises.
use Rattle.std.specs.Prelude.{◌≡◌, ◌⊎◌, ℕ, List, [], map, IfSome, IsFalse, IsTrue, None, Some}
use Rattle.std.specs.declared.option.Option.{Option}
use Rattle.std.specs.Io.KnownBytes.{Keeps}
use Rattle.mc_model.specs.Sound.{IsSound}
use Rattle.mc_net.specs.Nets.{batch_turns}
use Rattle.mc_lines.specs.declared.tail.Tail.{Tail}
use Rattle.mc_lines.specs.declared.tail.Tail.TheVariants.{Nothing, Journal, Grow}
use Rattle.mc_net.specs.declared.net.Net.{Net}
use Rattle.mc_replay.specs.Journals.{HoldsAtSettles, IsJournal}
use Rattle.mc_replay.specs.Segments.{EachKeepsShiftLimit}
use Rattle.mc_call.specs.Behind.{HasJournal, HasJournalFault}
use Rattle.mc_call.specs.Calls.{Delivers, IsTextOf, ReadsWhole, ToldDeclares, ToldFault}
use Rattle.mc_top.specs.Drawn.{FollowsDraws, IsDrawnJournal}
use Rattle.mc_script_end.specs.Journals.{IsStoppedJournal, ShowsCause}
use Rattle.mc_top.specs.Modes.{checks, draws_from, has_box, output_of, reads, tail_of}
use Rattle.mc_call.specs.Printed.{fault_line, journal_fault_line, no_box_line}
use Rattle.mc_settle_text.specs.Stops.{stop_line}
use Rattle.mc_call.specs.Statuses.{keeps_journal, stop_status}
use Rattle.mc_scene.specs.Generated.{generated}
use Rattle.mc_scene.specs.Scenes.{scene_text}
use Rattle.mc_script.specs.declared.command.JournalLine.{JournalLine}
use Rattle.mc_call.specs.declared.status.TheConstants.{WORKED, FAULTY_TEXT, NO_MEMORY, READ_FAULT, RESTLESS, RING, JOURNAL_FAULT, NO_BOX}
use Rattle.mc_seq.specs.declared.stopping.SettleStop.{SettleStop}
use Rattle.mc_call.specs.declared.done.Done.{Done}
use Rattle.mc_words.specs.declared.words.Mode.{Mode}
use Rattle.mc_words.specs.declared.words.Mode.TheVariants.{Check, Conf, Gen, One, Run, Scene}
use Rattle.mc_words.specs.Commands.{name_for}

-- this text was read so, if the mode reads
abbrev pub ReadsFor : Mode → (old new : Option (List ℕ)) → List ℕ → Type 0
ReadsFor mode old new text = IsTrue (reads mode) → ReadsWhole (tail_of mode) old new text

-- this is the text that a mode works on, or its first bytes, where it is told; that of a mode that doesn't read is its
-- own
abbrev pub IsTextFor : Mode → (left : Option (List ℕ)) → List ℕ → Type 0
IsTextFor (Run journal) left text = IsTextOf Nothing left text
IsTextFor (One state journal) left text = IsTextOf Nothing left text
IsTextFor (Check why) left text = IsTextOf Journal left text
IsTextFor (Gen number size) left text = text ≡ generated number size
IsTextFor (Scene scene) left text = text ≡ scene_text scene
IsTextFor (Conf name) left text = IsTextOf Nothing left text

-- The journal is one settled segment for each settle, in order, all of them one run from the network's first world: the
-- interleaving of the boxes. At each settle the two end slots of every path are in the state that the path table gives,
-- and where it flows each has the other's newest descriptor and the choice for its own. Which interleaving it is the
-- draws decide, from their first state on, where there are draws: in a sound world there is no other such journal
pub record Settles (net : Net) (draws : Option ℕ) (journal : List JournalLine) : Type 0 where
  pub sound : IsSound net.world
  pub settled : IsJournal net.world (map batch_turns net.batches.items) journal
  pub holds : HoldsAtSettles net.world journal
  pub drawn : IfSome draws (λ state. IsDrawnJournal None state net.world (map batch_turns net.batches.items) journal)

-- where a journal stands after the commands, it is the one that is told, and no line of it is bad
abbrev pub ToldJournal : Tail → Option (List ℕ) → Net → List JournalLine → Type 0
ToldJournal Nothing told net journal = Unit {0}
ToldJournal Journal told net journal = IfSome told (λ text. HasJournal text net journal)
ToldJournal Grow told net journal = Unit {0}

-- A mode did its work: it settled the network that the text declares, or checked the journal after it, and delivered
-- what it prints for the worlds that replaying the journal gives.
--
-- The headline, for every network, script and interleaving of the boxes: each path line that is printed after a settle
-- is the table's answer for its two end goals, closed where an end closes, flowing where one opens and none closes,
-- either of the two for hold against hold; and a flowing line's media are those of the two ends' newest descriptors. In
-- no segment of the journal that a run makes does a box make more Shifts than the limit; one that is checked may have
-- more
pub record Worked (mode : Mode) (told old new : Option (List ℕ)) (status : ℕ)
    (journal : List JournalLine) : Type 0 where
  pub net : Net
  pub declared : ToldDeclares (tail_of mode) told net
  pub box : IsTrue (has_box mode net.names net.world)
  pub told_journal : ToldJournal (tail_of mode) told net journal
  pub settles : Settles net (draws_from mode) journal
  pub shift_limit : IsFalse (checks mode) → EachKeepsShiftLimit journal
  pub delivered : Delivers status WORKED old new (output_of mode net journal)

-- a mode refused the text, and delivered the one line that names its first fault
pub record Refused (mode : Mode) (told old new : Option (List ℕ)) (status : ℕ)
    (journal : List JournalLine) : Type 0 where
  pub number : ℕ
  pub line : ℕ
  pub fault : ToldFault (tail_of mode) told number line
  pub delivered : Delivers status FAULTY_TEXT old new (fault_line number line)
  pub no_journal : journal ≡ []

-- the journal after the commands has a fault, and the one line that names its first one was delivered. A journal that
-- is good has none
pub record RefusesCheck (told old new : Option (List ℕ)) (status : ℕ) (journal : List JournalLine) : Type 0 where
  pub net : Net
  pub number : ℕ
  pub turn : ℕ
  pub declared : ToldDeclares Journal told net
  pub fault : IfSome told (λ text. HasJournalFault text net number turn)
  pub delivered : Delivers status JOURNAL_FAULT old new (journal_fault_line number turn)
  pub no_journal : journal ≡ []

-- the network that the text declares has no feature of the name that a mode is about, and the one line that says so was
-- delivered. Nothing was settled
pub record RefusesBox (mode : Mode) (told old new : Option (List ℕ)) (status : ℕ)
    (journal : List JournalLine) : Type 0 where
  pub net : Net
  pub declared : ToldDeclares (tail_of mode) told net
  pub none : IsFalse (has_box mode net.names net.world)
  pub delivered : Delivers status NO_BOX old new (no_box_line (name_for mode))
  pub no_journal : journal ≡ []

-- The script of the network that the text declares stopped, and the one line that says where was delivered. The journal
-- is the settled segments before, and the turns up to the stop: replayed, they lead to a world that shows the cause.
-- Where the mode draws, the draws decide which turns these are. In no segment, nor up to the stop, does a box make more
-- Shifts than the limit
pub record StopsScript (mode : Mode) (told old new : Option (List ℕ)) (status due : ℕ)
    (journal : List JournalLine) : Type 0 where
  pub net : Net
  pub stop : SettleStop
  pub runs : IsFalse (checks mode)
  pub declared : ToldDeclares (tail_of mode) told net
  pub box : IsTrue (has_box mode net.names net.world)
  pub due_is : due ≡ stop_status stop
  pub sound : IsSound net.world
  pub settled : IsStoppedJournal stop net.world (map batch_turns net.batches.items) journal
  pub shift_limit : EachKeepsShiftLimit journal
  pub drawn : FollowsDraws (draws_from mode) (Some stop) net.world (map batch_turns net.batches.items) journal
  pub shows : ShowsCause (Some stop) net.world (map batch_turns net.batches.items)
  pub delivered : Delivers status due old new (stop_line net.names net.world stop)

-- what a mode printed and kept, for the text that it was told
pub record Ends (mode : Mode) (told old new : Option (List ℕ)) (status due : ℕ)
    (journal : List JournalLine) : Type 0 where
  pub worked : due ≡ WORKED → Worked mode told old new status journal
  pub refused : due ≡ FAULTY_TEXT
      → Refused mode told old new status journal ⊎ StopsScript mode told old new status due journal
  pub at_stop : (due ≡ RESTLESS) ⊎ (due ≡ RING) → StopsScript mode told old new status due journal
  pub check_refused : due ≡ JOURNAL_FAULT → IsTrue (checks mode) × RefusesCheck told old new status journal
  pub no_box : due ≡ NO_BOX → RefusesBox mode told old new status journal
  pub gave_up : (due ≡ NO_MEMORY) ⊎ (due ≡ READ_FAULT) → (status ≡ due) × Keeps old new
  pub no_journal : IsFalse (keeps_journal due) → journal ≡ []

-- it is what the call ended with
abbrev pub EndsAs : Mode → (told old new : Option (List ℕ)) → Done → Type 0
EndsAs mode told old new done = Ends mode told old new done.status done.due done.journal.items
