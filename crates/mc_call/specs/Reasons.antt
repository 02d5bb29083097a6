-- What a person is to be told of how a call ended.
use Rattle.std.specs.Prelude.{◌≡◌, ◌⊎◌, ℕ, ◌+◌, List, Vec, [], ◌∷◌, codes, IfSome, None, Option, Some, String, if◌then◌else◌, map, string_bytes}
use Rattle.std.specs.declared.alloc.Global.{Global}
use Rattle.std.specs.Io.KnownBytes.{Appends}
use Rattle.mc_explain.specs.Reasons.{line_at}
use Rattle.mc_explain.specs.declared.reason.Reason.{Reason}
use Rattle.mc_explain.specs.declared.reason.Reason.TheVariants as reason
use Rattle.mc_lines.specs.declared.detail.Detail.{Detail}
use Rattle.mc_lines.specs.declared.tail.Tail.{Tail}
use Rattle.mc_lines.specs.declared.tail.Tail.TheVariants.{Nothing, Journal, Grow}
use Rattle.mc_net.specs.Details.{fault_detail}
use Rattle.mc_net.specs.Nets.{DeclaresNet}
use Rattle.mc_net.specs.TextLaws.{first_bytes}
use Rattle.mc_net.specs.Texts.{IsFault}
use Rattle.mc_net.specs.declared.net.Net.{Net}
use Rattle.mc_replay.specs.Points.{marks_in}
use Rattle.mc_script.specs.declared.command.JournalLine.{JournalLine}
use Rattle.mc_table.specs.Words.{line_of}
use Rattle.mc_call.specs.Behind.{IsLineOfFault}
use Rattle.mc_call.specs.Printed.{fault_line, feature_words, journal_fault_line, no_box_line}
use Rattle.mc_settle_text.specs.Stops.{stop_word}
use Rattle.mc_call.specs.declared.status.TheConstants.{WORKED, FAULTY_TEXT, VERSION_END, USAGE, NO_MEMORY, READ_FAULT, RESTLESS, RING, WRITE_FAULT, JOURNAL_FAULT, NO_BOX, CHANNEL_IN_USE}
use Rattle.mc_seq.specs.declared.stopping.SettleStop.{SettleStop}
use Rattle.mc_call.specs.declared.done.Done.{Done}
use Rattle.mc_words.specs.Help.{asks_for_help}

-- ---- faults

-- what is told of a fault beside its number: of a text's the line, its bytes, and what else is known; of a journal's
-- the line of the text and its bytes; and where no feature has a name, which ones there are
pub data Told : Type 0 where
  of_text : (number line : ℕ) (shown : List ℕ) (detail : Detail) → Told
  of_journal : (line : ℕ) (shown : List ℕ) → Told
  of_box : (features : List ℕ) → Told

-- the text has the fault of this number on this line, these bytes are the line's, as far as a line may have some, and
-- this is what else is known of the fault
abbrev pub IsTextFaultOf : Tail → (text : List ℕ) → (number line : ℕ) → (shown : List ℕ) → Detail → Type 0
IsTextFaultOf tail text number line shown detail =
    IsFault tail text number line × (shown ≡ line_at line text) × (detail ≡ fault_detail tail text number line)

-- the journal's first fault is on this line of the text, with these bytes, by a network that the text declares; it is
-- none where no journal may follow
abbrev pub IsJournalFaultOf : Tail → (text : List ℕ) → (line : ℕ) → (shown : List ℕ) → Type 0
IsJournalFaultOf Nothing text line shown = ⊥
IsJournalFaultOf Grow text line shown = ⊥
IsJournalFaultOf Journal text line shown =
    (net : Net) × DeclaresNet Journal text net × IsLineOfFault text net line × (shown ≡ line_at line text)

-- these are the features of a network that the text declares
abbrev pub AreFeaturesOf : Tail → (text : List ℕ) → (features : List ℕ) → Type 0
AreFeaturesOf tail text features =
    (net : Net) × DeclaresNet tail text net × (features ≡ feature_words net.names net.world)

-- what is told is the fault of a text, or of its journal, or its features
abbrev pub IsFaultOf : Tail → (text : List ℕ) → Told → Type 0
IsFaultOf tail text (of_text number line shown detail) = IsTextFaultOf tail text number line shown detail
IsFaultOf tail text (of_journal line shown) = IsJournalFaultOf tail text line shown
IsFaultOf tail text (of_box features) = AreFeaturesOf tail text features

-- so it is of what is told of a text, of which only the first bytes are read; a fault of the text is one of the whole,
-- too
abbrev pub IsFaultOfTold : Tail → (told : Option (List ℕ)) → Told → Type 0
IsFaultOfTold tail told (of_text number line shown detail) =
    IfSome told (λ text. IsFault tail text number line
    × IsTextFaultOf tail (first_bytes tail text) number line shown detail)
IsFaultOfTold tail told (of_journal line shown) =
    IfSome told (λ text. IsJournalFaultOf tail (first_bytes tail text) line shown)
IsFaultOfTold tail told (of_box features) = IfSome told (λ text. AreFeaturesOf tail text features)

-- ---- reasons

-- the line that was printed has the word for why a script stopped, and then its slot or its box; and the settle has the
-- number after those whose marks are in the journal
abbrev pub TellsStop : (word place : List ℕ) → (settle : ℕ) → (old new : Option (List ℕ)) → List JournalLine → Type 0
TellsStop word place settle old new journal =
    Appends old new (line_of (word ∷ place ∷ [])) × (settle ≡ marks_in journal + 1)

-- a status has a reason of its own. That of a fault has the numbers that were printed and tells the fault; that of a
-- stop has the slot or the box that was printed
abbrev pub Explains : (Tells : Told → Type 0) → Reason → (status : ℕ) → (old new : Option (List ℕ)) → List JournalLine
    → Type 0
Explains Tells reason.Worked status old new journal = status ≡ WORKED
Explains Tells reason.Help status old new journal = status ≡ USAGE
Explains Tells reason.Usage status old new journal = status ≡ USAGE
Explains Tells (reason.FaultyText number line text detail) status old new journal =
    (status ≡ FAULTY_TEXT) × Appends old new (fault_line number line) × Tells (of_text number line text.items detail)
Explains Tells (reason.VersionEnd place settle) status old new journal =
    (status ≡ VERSION_END) × TellsStop (codes "version") place.items settle old new journal
Explains Tells (reason.Ring place settle) status old new journal =
    (status ≡ RING) × TellsStop (codes "ring") place.items settle old new journal
Explains Tells (reason.Restless place settle) status old new journal =
    (status ≡ RESTLESS) × TellsStop (codes "restless") place.items settle old new journal
Explains Tells (reason.ChannelInUse place settle) status old new journal =
    (status ≡ CHANNEL_IN_USE) × TellsStop (codes "cut") place.items settle old new journal
Explains Tells (reason.FaultyJournal number turn line text) status old new journal =
    (status ≡ JOURNAL_FAULT) × Appends old new (journal_fault_line number turn) × Tells (of_journal line text.items)
Explains Tells (reason.NoBox place features) status old new journal =
    (status ≡ NO_BOX) × Appends old new (no_box_line place.items) × Tells (of_box features.items)
Explains Tells reason.NoMemory status old new journal = status ≡ NO_MEMORY
Explains Tells reason.ReadFault status old new journal = status ≡ READ_FAULT
Explains Tells reason.WriteFault status old new journal = status ≡ WRITE_FAULT

-- it explains the status that is due, where this was written whole
abbrev pub ExplainsDue : (Tells : Told → Type 0) → Reason → (due : ℕ) → (output : List ℕ) → List JournalLine → Type 0
ExplainsDue Tells told due output journal =
    (old new : Option (List ℕ)) → Appends old new output → Explains Tells told due old new journal

-- a call that was to end so, for a reason, does, or a write failed
abbrev pub EndsFor : Reason → (due : ℕ) → Done → Type 0
EndsFor given due done =
    ((done.status ≡ due) × (done.reason ≡ given)) ⊎ ((done.status ≡ WRITE_FAULT) × (done.reason ≡ reason.WriteFault))

-- words that ask for help are told the commands alone, and others that they are no command
abbrev pub usage_reason : List (String Global) → Reason
usage_reason words = if asks_for_help (map string_bytes words) then reason.Help else reason.Usage

-- ---- stops

-- a line has two words, of which this is the first
abbrev pub HasPlace : (word line : List ℕ) → Type 0
HasPlace word line = (place : List ℕ) × (line ≡ line_of (word ∷ place ∷ []))

-- what was printed for a stop has its word and a place
abbrev pub PrintsStop : Option SettleStop → (output : List ℕ) → Type 0
PrintsStop None output = Unit {0}
PrintsStop (Some stop) output = HasPlace (stop_word stop) output

-- ---- boxes

-- the reason is that no feature has this name, with the words of those that there are
abbrev pub IsNoBox : (place features : List ℕ) → Reason → Type 0
IsNoBox place features told =
    (name : Vec ℕ Global) × (words : Vec ℕ Global) × (told ≡ reason.NoBox name words) × (name.items ≡ place)
    × (words.items ≡ features)
