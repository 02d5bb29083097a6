-- What is printed at the settles of a journal, and for a faulty text or journal.
use Rattle.std.specs.Prelude.{ℕ, ◌+◌, Bool, true, false, List, [], ◌∷◌, ◌++◌, codes, map, Option, Some, None}
use Rattle.std.specs.List.{flat_map}
use Rattle.mc_box.specs.declared.event.Turn.{Turn}
use Rattle.mc_cause.specs.Causes.{why}
use Rattle.mc_conf.specs.Printed.{print_conf}
use Rattle.mc_slot.specs.declared.State.{State}
use Rattle.mc_slot.specs.declared.State.TheVariants.{Flowing}
use Rattle.mc_model.specs.PathTable.{path_state}
use Rattle.mc_model.specs.Paths.{PathEnds, paths}
use Rattle.mc_model.specs.Worlds.{WorldState}
use Rattle.mc_path.specs.Views.{view_of}
use Rattle.mc_settle_text.specs.Paths.{settle_text}
use Rattle.mc_settle_text.specs.Stops.{stop_line}
use Rattle.mc_settle_text.specs.Words.{place_word}
use Rattle.mc_text.specs.NameLists.{NameLists}
use Rattle.mc_table.specs.Whys.{why_word}
use Rattle.mc_table.specs.Words.{line_of}
use Rattle.mc_replay.specs.Journals.{next_world}
use Rattle.mc_script.specs.declared.command.JournalLine.{JournalLine}
use Rattle.mc_script.specs.declared.command.JournalLine.TheVariants.{Turn as Made, Settled}
use Rattle.mc_top.specs.Summaries.{heading_text, summary_text}
use Rattle.mc_top.specs.declared.report.Report.{Report}
use Rattle.mc_top.specs.declared.report.Report.TheVariants.{Conference, Paths, Summary}
use Rattle.mc_seq.specs.declared.stopping.SettleStop.{SettleStop}
use Rattle.mc_script_end.specs.Printed.{at_settles, journal_text, with_journal}

-- ---- journals

-- the settles of a journal, each in one line
abbrev pub summaries_text : ℕ → WorldState → List JournalLine → List ℕ
summaries_text number world journal = at_settles summary_text number world journal

-- ---- why paths closed

-- why a slot is closed after some turns of a world: the number of the turn from which its last close came, or that it
-- never became closed
abbrev pub why_line : NameLists → WorldState → List Turn → WorldState → ℕ → List ℕ
why_line names first turns world s =
    line_of (codes "why" ∷ place_word names world s ∷ why_word (why first turns s) ∷ [])

-- both ends of a path, where it doesn't flow
abbrev pub why_lines : State → NameLists → WorldState → List Turn → WorldState → PathEnds → List ℕ
why_lines Flowing names first turns world path = []
why_lines state names first turns world path =
    why_line names first turns world path.low ++ why_line names first turns world path.high

-- the ends of all closed paths, in their order
abbrev pub whys_text : NameLists → WorldState → List Turn → WorldState → List ℕ
whys_text names first turns world =
    flat_map (λ path. why_lines (path_state world path) names first turns world path) (paths world)

-- the settles that replaying a journal from a world gives, each with its paths, and then why those closed that are
-- closed: by the turns of the whole journal, of which these were made in a first world
abbrev pub told_text : NameLists → ℕ → WorldState → List Turn → WorldState → List JournalLine → List ℕ
told_text names number first turns world [] = []
told_text names number first turns world (Made turn ∷ journal) =
    told_text names number first (turns ++ turn ∷ []) (next_world world turn) journal
told_text names number first turns world (Settled ∷ journal) =
    (settle_text names number world ++ whys_text names first turns world)
    ++ told_text names (number + 1) first turns world journal

-- what is printed for a journal that is checked, with why paths closed or without it
abbrev pub checked_text : (why : Bool) → NameLists → WorldState → List JournalLine → List ℕ
checked_text false names world journal = journal_text names 1 world journal
checked_text true names world journal = told_text names 1 world [] world journal

-- whom a mixer at a box would let each party hear at a settle, after its paths
abbrev pub conference_text : NameLists → (who : ℕ) → ℕ → WorldState → List ℕ
conference_text names who number world =
    settle_text names number world ++ print_conf names who (map (view_of world) (paths world))

-- the settles of a journal, each with its paths and a conference
abbrev pub conferences_text : NameLists → (who : ℕ) → ℕ → WorldState → List JournalLine → List ℕ
conferences_text names who number world journal = at_settles (conference_text names who) number world journal

-- ---- what a run reports

-- at a settle
abbrev pub report_text : Report → NameLists → ℕ → WorldState → List ℕ
report_text Paths names = settle_text names
report_text (Summary number size) names = summary_text
report_text (Conference who) names = conference_text names who

-- in front of the first, of the first world
abbrev pub opening_text : Report → WorldState → List ℕ
opening_text Paths world = []
opening_text (Summary number size) world = heading_text number size world
opening_text (Conference who) world = []

-- what is printed for a journal from a world: what is reported at its settles, or for a stop that line alone
abbrev pub script_text : Report → NameLists → WorldState → Option SettleStop → List JournalLine → List ℕ
script_text report names world None journal =
    opening_text report world ++ at_settles (report_text report names) 1 world journal
script_text report names world (Some stop) journal = stop_line names world stop

-- all that is printed for a script
abbrev pub run_text : Report → (asked : Bool) → NameLists → WorldState → Option SettleStop → List JournalLine → List ℕ
run_text report asked names world stop journal =
    with_journal asked stop names journal (script_text report names world stop journal)
