-- What is printed as the journal of a run is good, after the commands of a text of the same network.
use Rattle.std.proofs.Common.{◌≡◌, ◌||◌, ◌∙◌, ℕ, Bool, false, List, ap, drop, map, subst, sym}
use Rattle.mc_journal.specs.Printed.{print_journal}
use Rattle.mc_journal.specs.Readings.{has_bad_line, journal_lines}
use Rattle.mc_lines.specs.declared.tail.Tail.TheVariants.{Journal}
use Rattle.mc_net.specs.Nets.{batch_turns}
use Rattle.mc_net.specs.declared.net.Net.{Net}
use Rattle.mc_replay.specs.Journals.{IsJournal}
use Rattle.mc_script.specs.declared.command.JournalLine.{JournalLine}
use Rattle.mc_call.specs.Behind.{HasGoodJournal, has_bad_tail, is_too_long, journal_bytes, tail_lines}
use Rattle.mc_top.specs.JournalLaws.{PrintedJournalsAreGood}
use Rattle.mc_top.specs.TextAlone.{SettlesText}
use Rattle.mc_call.proofs.BytesBehind.{all_behind}
use Rattle.mc_top.proofs.NamedJournals.{runs_are_read_back}
use Rattle.mc_top.proofs.Told.{good_has_none}

-- the lines after the commands are those that were printed
printed_bytes : (text : List ℕ) (net : Net) (journal : List JournalLine) → is_too_long text ≡ false → drop net.rest text ≡ print_journal net.names journal → journal_bytes text net.rest ≡ print_journal net.names journal
printed_bytes text net journal short printed = all_behind text net.rest short ∙ printed

pub printed_lines : (text : List ℕ) (net : Net) (journal : List JournalLine) → SettlesText Journal text net journal → is_too_long text ≡ false → drop net.rest text ≡ print_journal net.names journal
    → tail_lines net.names net.shape text net.rest ≡ journal
printed_lines text net journal one short printed =
    ap (λ (text : List ℕ). journal_lines net.names net.shape text) (printed_bytes text net journal short printed) ∙ (runs_are_read_back Journal text net journal one).0

printed_is_good : (text : List ℕ) (net : Net) (journal : List JournalLine) → SettlesText Journal text net journal → is_too_long text ≡ false → drop net.rest text ≡ print_journal net.names journal → HasGoodJournal text net
printed_is_good text net journal one short printed =
    let again = runs_are_read_back Journal text net journal one in
    let bytes = printed_bytes text net journal short printed in
    let whole : has_bad_tail net.names net.shape text net.rest ≡ false =
    ap (λ (long : Bool). has_bad_line net.names net.shape (journal_bytes text net.rest) || long) short
    ∙ ap (λ (bad : Bool). bad || false) (ap (λ (text : List ℕ). has_bad_line net.names net.shape text) bytes ∙ again.1) in
    record {
      settles = subst (λ (list : List JournalLine). IsJournal net.world (map batch_turns net.batches.items) list) (sym (printed_lines text net journal one short printed)) one.settles;
      whole = whole;
    }

pub printed_journals_are_good : PrintedJournalsAreGood
printed_journals_are_good text net journal one short printed =
    let good = printed_is_good text net journal one short printed in
    (good, λ number turn fault. good_has_none text net number turn good fault)
