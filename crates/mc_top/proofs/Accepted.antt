-- `check` accepts what a run printed as its journal, after the text of the run.
use Rattle.std.proofs.Common.{◌≡◌, ◌≤◌, ℕ, true, false, List, drop, length, map, Option, Some, refl, ap, sym, ◌∙◌, subst, append_assoc, arith}
use Rattle.std.proofs.Math.Seq.{drop-append_seam}
use Rattle.mc_box.specs.BoxShapes.{BoxShapeState}
use Rattle.mc_box.specs.declared.event.Turn.{Turn}
use Rattle.mc_journal.specs.Printed.{print_journal}
use Rattle.mc_lines.specs.Rules.{text_limit}
use Rattle.mc_lines.specs.declared.tail.Tail.TheVariants.{Nothing, Journal}
use Rattle.mc_model.specs.Sound.{IsSound}
use Rattle.mc_model.specs.Worlds.{WorldState}
use Rattle.mc_net.proofs.Followed.{journals_may_follow}
use Rattle.mc_net.proofs.OneNet.{one_net}
use Rattle.mc_net.specs.Followed.{ended, followed, journal_line, up_to_journal}
use Rattle.mc_net.specs.Nets.{DeclaresNet, batch_turns}
use Rattle.mc_net.specs.TextLaws.{IsSameNet}
use Rattle.mc_net.specs.declared.net.Net.{Net}
use Rattle.mc_replay.specs.Journals.{IsJournal}
use Rattle.mc_script.specs.declared.command.JournalLine.{JournalLine}
use Rattle.mc_text.specs.NameLists.{NameLists}
use Rattle.mc_top.specs.Accepted.{IsAccepted, PrintedJournalsAreAccepted, with_printed}
use Rattle.mc_call.specs.Behind.{HasGoodJournal, HasJournal, has_bad_tail, is_too_long, tail_lines}
use Rattle.mc_script_end.specs.Printed.{journal_text}
use Rattle.mc_top.specs.TextAlone.{SettlesText}
use Rattle.mc_top.specs.Top.{Worked}
use Rattle.mc_top.proofs.GoodJournals.{printed_journals_are_good, printed_lines}
use Rattle.mc_top.proofs.Told.{good_has_none}
use Rattle.mc_words.specs.declared.words.Mode.TheVariants.{Check, Conf, Gen, One, Run, Scene}

-- ---- the same network

-- has the same lines of a journal after a text
same_lines : (text : List ℕ) (net other : Net) → IsSameNet net other → tail_lines net.names net.shape text net.rest ≡ tail_lines other.names other.shape text other.rest
same_lines text net other same =
    ap (λ (names : NameLists). tail_lines names net.shape text net.rest) same.names
    ∙ ap (λ (shape : List BoxShapeState). tail_lines other.names shape text net.rest) same.shape
    ∙ ap (λ (rest : ℕ). tail_lines other.names other.shape text rest) same.rest

-- and the journal is as good
same_good : (text : List ℕ) (net other : Net) → IsSameNet net other → HasGoodJournal text net → HasGoodJournal text other
same_good text net other same good = record {
  settles =
      subst (λ (world : WorldState). IsJournal world (map batch_turns other.batches.items) (tail_lines other.names other.shape text other.rest)) same.world
      (subst (λ (batches : List (List Turn)). IsJournal net.world batches (tail_lines other.names other.shape text other.rest)) same.batches
      (subst (λ (lines : List JournalLine). IsJournal net.world (map batch_turns net.batches.items) lines) (same_lines text net other same) good.settles));
  whole =
      sym (ap (λ (names : NameLists). has_bad_tail names net.shape text net.rest) same.names
      ∙ ap (λ (shape : List BoxShapeState). has_bad_tail other.names shape text net.rest) same.shape
      ∙ ap (λ (rest : ℕ). has_bad_tail other.names other.shape text rest) same.rest)
      ∙ good.whole;
}

-- the lines that were found
lines_found : (text : List ℕ) (net : Net) (kept : List JournalLine) → HasJournal text net kept → kept ≡ tail_lines net.names net.shape text net.rest
lines_found text net kept has = has.lines

-- it prints the same
same_text : (net other : Net) (lines journal : List JournalLine) → IsSameNet net other → lines ≡ journal → journal_text other.names 1 other.world lines ≡ journal_text net.names 1 net.world journal
same_text net other lines journal same are =
    ap (λ (names : NameLists). journal_text names 1 other.world lines) (sym same.names)
    ∙ ap (λ (world : WorldState). journal_text net.names 1 world lines) (sym same.world)
    ∙ ap (λ (list : List JournalLine). journal_text net.names 1 net.world list) are

-- ---- a good journal

-- `check` accepts a text with a good journal, of which these are the lines
accepts : (text : List ℕ) (net : Net) (journal : List JournalLine) → DeclaresNet Journal text net → HasGoodJournal text net → tail_lines net.names net.shape text net.rest ≡ journal
    → IsAccepted text journal (journal_text net.names 1 net.world journal)
accepts text net journal declares good lines = record {
  can = record { net = net; declares = declares; good = good };
  never_refused = λ old new status kept refused. good_has_none text refused.net refused.number refused.turn (all_good refused.net refused.declared) refused.fault;
  found = kept_is;
  prints = λ old new status kept check. same_text net check.net kept journal (one_net Journal text net check.net declares check.declared) (kept_is old new status kept check);
}
  where
    all_good : (other : Net) → DeclaresNet Journal text other → HasGoodJournal text other
    all_good other declared = same_good text net other (one_net Journal text net other declares declared) good

    kept_is : (old new : Option (List ℕ)) (status : ℕ) (kept : List JournalLine) → Worked (Check false) (Some text) old new status kept → kept ≡ journal
    kept_is old new status kept check = lines_found text check.net kept check.told_journal ∙ sym (same_lines text net check.net (one_net Journal text net check.net declares check.declared)) ∙ lines

-- ---- a printed journal

-- the network of a text with its journal, which begins after the line `journal`
abbrev next_net : List ℕ → Net → Net
next_net text net = record net { rest = length (up_to_journal text) }

module _ (text : List ℕ) (net : Net) (journal : List JournalLine) (declares : DeclaresNet Nothing text net) (sound : IsSound net.world) (settles : IsJournal net.world (map batch_turns net.batches.items) journal) where
  accepted_there : is_too_long (followed text (print_journal net.names journal)) ≡ false → IsAccepted (followed text (print_journal net.names journal)) journal (journal_text net.names 1 net.world journal)
  accepted_there short =
      let whole = followed text (print_journal net.names journal) in
      let within : length (followed text (print_journal net.names journal)) ≤ text_limit Journal = grind (arith, short) in
      let next = journals_may_follow text (print_journal net.names journal) net declares within in
      let one : SettlesText Journal (followed text (print_journal net.names journal)) (next_net text net) journal = record { declares = next; sound = sound; settles = settles } in
      let behind : drop (next_net text net).rest (followed text (print_journal net.names journal)) ≡ print_journal net.names journal = drop-append_seam (up_to_journal text) (print_journal net.names journal) in
      accepts whole (next_net text net) journal next (printed_journals_are_good whole (next_net text net) journal one short behind).0 (printed_lines whole (next_net text net) journal one short behind)

  -- the text and what is printed from the line `journal` on
  followed_is : followed text (print_journal net.names journal) ≡ with_printed text net.names journal
  followed_is = append_assoc (ended text) journal_line (print_journal net.names journal)

  accepted : is_too_long (with_printed text net.names journal) ≡ false → IsAccepted (with_printed text net.names journal) journal (journal_text net.names 1 net.world journal)
  accepted short =
      subst (λ (whole : List ℕ). IsAccepted whole journal (journal_text net.names 1 net.world journal)) followed_is
      (accepted_there (subst (λ (whole : List ℕ). is_too_long whole ≡ false) (sym followed_is) short))

pub printed_journals_are_accepted : PrintedJournalsAreAccepted
printed_journals_are_accepted (Run true) text old new status journal asked run short = record {
  settles = journal_text run.net.names 1 run.net.world journal;
  printed = refl;
  accepted = accepted text run.net journal run.declared run.settles.sound run.settles.settled short;
}
printed_journals_are_accepted (Run false) text old new status journal asked run short = absurd cc
printed_journals_are_accepted (One state true) text old new status journal asked run short = record {
  settles = journal_text run.net.names 1 run.net.world journal;
  printed = refl;
  accepted = accepted text run.net journal run.declared run.settles.sound run.settles.settled short;
}
printed_journals_are_accepted (One state false) text old new status journal asked run short = absurd cc
printed_journals_are_accepted (Check why) text old new status journal asked run short = absurd cc
printed_journals_are_accepted (Gen number size) text old new status journal asked run short = absurd cc
printed_journals_are_accepted (Scene scene) text old new status journal asked run short = absurd cc
printed_journals_are_accepted (Conf name) text old new status journal asked run short = absurd cc
