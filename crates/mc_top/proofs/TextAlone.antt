-- Runs of one text report the same, where goals decide all paths.
use Rattle.std.proofs.Common.{◌≡◌, ◌+◌, ◌++◌, ℕ, true, false, List, [], ◌∷◌, Option, None, Some, map, ap, sym, ◌∙◌, refl, subst, append_assoc}
use Rattle.mc_box.specs.declared.event.Turn.{Turn}
use Rattle.mc_laws.proofs.NoPrograms.{still_none}
use Rattle.mc_laws.proofs.ShapesKept.{run_keeps_shape}
use Rattle.mc_laws.proofs.StepKeeps.{run_keeps_sound}
use Rattle.mc_model.specs.Sound.{IsSound}
use Rattle.mc_model.specs.Steps.{run}
use Rattle.mc_model.specs.Unprogrammed.{HasNoPrograms}
use Rattle.mc_model.specs.Worlds.{WorldState}
use Rattle.mc_net.specs.Nets.{DeclaresNet, batch_turns}
use Rattle.mc_lines.specs.declared.tail.Tail.{Tail}
use Rattle.mc_net.specs.declared.net.Net.{Net}
use Rattle.mc_settings.proofs.AlikeWorlds.{alike_self}
use Rattle.mc_settings.proofs.BatchesLeft.{decided_is_left, decided_stays, settled_used, settles_are_alike}
use Rattle.mc_settings.specs.Alike.{AreAlike}
use Rattle.mc_settings.specs.Batches.{AreDecided, LeavesDecided}
use Rattle.mc_script.specs.declared.command.JournalLine.{JournalLine}
use Rattle.mc_script.specs.declared.command.JournalLine.TheVariants.{Turn as Made, Settled}
use Rattle.mc_text.specs.NameLists.{NameLists}
use Rattle.mc_replay.specs.Journals.{IsJournal, lines_for}
use Rattle.mc_top.specs.Modes.{output_of, report_of, tail_of, tells_why}
use Rattle.mc_script_end.specs.Printed.{at_settles, journal_text}
use Rattle.mc_top.specs.Printed.{opening_text, report_text, script_text}
use Rattle.mc_settle_text.specs.Paths.{settle_text}
use Rattle.mc_top.specs.TextAlone.{CallsPrintSame, HasNoConference, SettlesText, TextAloneDecides}
use Rattle.mc_top.specs.Top.{Worked}
use Rattle.mc_top.specs.declared.report.Report.{Report}
use Rattle.mc_top.specs.declared.report.Report.TheVariants.{Conference, Paths, Summary}
use Rattle.mc_words.specs.Commands.{prints_journal}
use Rattle.mc_words.specs.declared.words.Mode.{Mode}
use Rattle.mc_words.specs.declared.words.Mode.TheVariants.{Check, Conf, Gen, One, Run, Scene}
use Rattle.mc_script_end.proofs.Running.{printed_after}
use Rattle.mc_top.proofs.SeenAlike.{alike_seen, settle_same}
use Rattle.mc_top.proofs.SeenNets.{Seen, declared_same, seen}
use Rattle.mc_top.proofs.SummedAlike.{summary_same}

-- ---- journals

-- a settled segment reports its settle, and then what follows
segment_reported : (print : ℕ → WorldState → List ℕ) (number : ℕ) (world last : WorldState) (turns : List Turn) (journal rest : List JournalLine) → run world turns ≡ Some last → journal ≡ lines_for turns ++ rest
    → at_settles print number world journal ≡ print number last ++ at_settles print (number + 1) last rest
segment_reported print number world last turns journal rest goes is =
    ap (λ (lines : List JournalLine). at_settles print number world lines) (is ∙ append_assoc (map Made turns) (Settled ∷ []) rest) ∙ printed_after turns print number world last (Settled ∷ rest) goes

pub segment_text : (names : NameLists) (number : ℕ) (world last : WorldState) (turns : List Turn) (journal rest : List JournalLine) → run world turns ≡ Some last → journal ≡ lines_for turns ++ rest
    → journal_text names number world journal ≡ settle_text names number last ++ journal_text names (number + 1) last rest
segment_text names number world last turns journal rest goes is = segment_reported (settle_text names) number world last turns journal rest goes is

-- what is reported of a settle is the same for worlds that are alike, where goals decide their paths
abbrev PrintsAlike : (ℕ → WorldState → List ℕ) → Type 0
PrintsAlike print = (number : ℕ) (world other : WorldState) → AreAlike world other → AreDecided world → print number world ≡ print number other

-- from worlds that are alike
journals_same : (batches : List (List Turn)) (print : ℕ → WorldState → List ℕ) (number : ℕ) (world other : WorldState) (first second : List JournalLine) → PrintsAlike print → IsSound world → IsSound other → HasNoPrograms world → HasNoPrograms other
    → AreAlike world other → LeavesDecided world batches → IsJournal world batches first → IsJournal other batches second → at_settles print number world first ≡ at_settles print number other second
journals_same [] print number world other first second same sound other_sound none other_none alike decided one two =
    ap (λ (lines : List JournalLine). at_settles print number world lines) one ∙ sym (ap (λ (lines : List JournalLine). at_settles print number other lines) two)
journals_same (batch ∷ batches) print number world other first second same sound other_sound none other_none alike decided (turns, last, rest, is, settled, later) (others, end, more, are, ended, behind) =
    let lasts : AreAlike last end = settles_are_alike world other last end batch turns others sound other_sound none alike settled ended in
    segment_reported print number world last turns first rest settled.runs is
    ∙ (ap (λ (text : List ℕ). text ++ at_settles print (number + 1) last rest)
    (same number last end lasts (decided_is_left world last batch turns batches sound none decided (settled_used world last batch turns settled)))
    ∙ (ap (λ (text : List ℕ). print number end ++ text)
    (journals_same batches print (number + 1) last end rest more same (run_keeps_sound world last turns sound settled.runs) (run_keeps_sound other end others other_sound ended.runs)
    (still_none last world (run_keeps_shape world last turns sound settled.runs) none) (still_none end other (run_keeps_shape other end others other_sound ended.runs) other_none) lasts
    (decided_stays world last batch turns batches sound none decided settled) later behind)
    ∙ sym (segment_reported print number other end others second more ended.runs are)))

-- so is whatever a run reports
reports_alike : (report : Report) (names : NameLists) → HasNoConference report → PrintsAlike (report_text report names)
reports_alike Paths names none number world other alike decided = settle_same names number world other (alike_seen world other alike) decided
reports_alike (Summary first size) names none number world other alike decided = summary_same number world other alike decided
reports_alike (Conference who) names none number world other alike decided = absurd none

-- ---- texts

pub text_alone_decides : TextAloneDecides
text_alone_decides report tail text net other first second plain one two none decided =
    let same : seen net ≡ seen other = declared_same tail text net other one.declares two.declares in
    let settles : IsJournal net.world (map batch_turns net.batches.items) second = subst (λ (n : Seen). IsJournal n.world n.batches second) (sym same) two.settles in
    ap (λ (text : List ℕ). opening_text report net.world ++ text)
    (journals_same (map batch_turns net.batches.items) (report_text report net.names) 1 net.world net.world first second (reports_alike report net.names plain) one.sound one.sound none none (alike_self net.world) decided one.settles settles)
    ∙ ap (λ (n : Seen). script_text report n.names n.world None second) same

-- what a mode prints that doesn't print its journal
output_is : (mode : Mode) (net : Net) (journal : List JournalLine) → prints_journal mode ≡ false → tells_why mode ≡ false → output_of mode net journal ≡ script_text (report_of mode net.names) net.names net.world None journal
output_is (Run true) net journal none other = absurd cc
output_is (Run false) net journal none other = refl
output_is (One state true) net journal none other = absurd cc
output_is (One state false) net journal none other = refl
output_is (Check true) net journal none other = absurd cc
output_is (Check false) net journal none other = refl
output_is (Gen number size) net journal none other = refl
output_is (Scene scene) net journal none other = refl
output_is (Conf name) net journal none other = refl

-- a mode that did its work settled the text
settles_text : (text : List ℕ) (mode : Mode) (old new : Option (List ℕ)) (status : ℕ) (journal : List JournalLine) → (worked : Worked mode (Some text) old new status journal)
    → SettlesText (tail_of mode) text worked.net journal
settles_text text mode old new status journal worked = record { declares = worked.declared; sound = worked.settles.sound; settles = worked.settles.settled }

-- two networks of one text have the same names
names_same : (text : List ℕ) (mode instead : Mode) (net other : Net) → tail_of mode ≡ tail_of instead → DeclaresNet (tail_of mode) text net → DeclaresNet (tail_of instead) text other → net.names ≡ other.names
names_same text mode instead net other same one two =
    ap (λ (n : Seen). n.names) (declared_same (tail_of mode) text net other one (subst (λ (t : Tail). DeclaresNet t text other) (sym same) two))

pub calls_print_same : CallsPrintSame
calls_print_same text first second mode instead old new from to status end same reports paths plain also silent quiet one two none decided =
    output_is mode one.net first plain silent
    ∙ (text_alone_decides (report_of mode one.net.names) (tail_of mode) text one.net two.net first second (paths one.net.names) (settles_text text mode old new status first one)
    (subst (λ (t : Tail). SettlesText t text two.net second) (sym same) (settles_text text instead from to end second two)) none decided
    ∙ (ap (λ (names : NameLists). script_text (report_of mode names) two.net.names two.net.world None second) (names_same text mode instead one.net two.net same one.declared two.declared)
    ∙ (ap (λ (report : Report). script_text report two.net.names two.net.world None second) (reports two.net.names) ∙ sym (output_is instead two.net second also quiet))))
