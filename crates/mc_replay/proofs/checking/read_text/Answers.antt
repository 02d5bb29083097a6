use Rattle.std.proofs.Common.{◌≤◌, ℕ, List, ap, length, map, subst, sym, arith, Err}
use Rattle.std.proofs.lemmas.List.{length-map}
use Rattle.std.proofs.lemmas.Result.{err_from_is_err_and}
use Rattle.mc_script.specs.Batches.{batch_turns}
use Rattle.mc_script.specs.declared.command.JournalLine.{JournalLine}
use Rattle.mc_replay.specs.Faults.{RefusesLines}
use Rattle.mc_replay.specs.Replays.{EndsJournal, HasReplayed, views_of}
use Rattle.mc_replay.specs.Told.{HasTold}
use Rattle.mc_replay.proofs.ToldLines.{all_told}
use Rattle.mc_replay.proofs.Reading.{all_shown, is_journal, one_each, read_count, refused_at_end}
use Rattle.mc_replay.proofs.checking.read_text.Goals as goal

pub returns-in_err-read_lines-clause-refused : goal.returns-in_err-read_lines-clause-refused
returns-in_err-read_lines-clause-refused g c =
    let fault = err_from_is_err_and c.from_residual.result c.from_residual.ensures.1 in
    rw (fault.1, fault.2)
    (subst (λ (lines : List JournalLine). RefusesLines c.args.replay.now.segment.world (map batch_turns c.args.batches.now) lines c.args.text.now.bad c.in_err-read_lines.field-0.0) c.deref.ensures.value
    (c.in_err-read_lines.ensures.refused c.args.text.now.bad))

-- as many lines were read as are counted
pub end-requires : goal.end-requires
end-requires g c =
    let read = read_count (g.V.Viewer.shows c.args.viewer.now) c.args.replay.now.segment.world (map batch_turns c.args.batches.now) _ c.read_lines.new.replay (views_of c.read_lines.new.views.items) c.in_ok-read_lines.ensures.read in
    omega (arith, read, ap length c.deref.ensures.value, c.requires.few)

pub returns-in_err-end-clause-refused : goal.returns-in_err-end-clause-refused
returns-in_err-end-clause-refused g c =
    let fault = err_from_is_err_and c.from_residual-in_err-end.result c.from_residual-in_err-end.ensures.1 in
    rw (fault.1, fault.2)
    (refused_at_end (g.V.Viewer.shows c.args.viewer.now) c.args.replay.now.segment.world (map batch_turns c.args.batches.now) c.args.text.now.lines.items c.read_lines.new.replay (views_of c.read_lines.new.views.items)
    c.in_err-end.field-0.0 c.args.text.now.bad
    (subst (λ (lines : List JournalLine). HasReplayed (g.V.Viewer.shows c.args.viewer.now) c.args.replay.now.segment.world (map batch_turns c.args.batches.now) lines c.read_lines.new.replay (views_of c.read_lines.new.views.items)) c.deref.ensures.value c.in_ok-read_lines.ensures.read)
    (subst (λ (n : ℕ). EndsJournal n c.read_lines.new.replay c.args.text.now.bad (Err c.in_err-end.field-0.0)) (sym (length-map c.args.batches.now batch_turns)) c.in_err-end.ensures))

pub returns-clause-journal : goal.returns-clause-journal
returns-clause-journal g c =
    is_journal (g.V.Viewer.shows c.args.viewer.now) c.args.replay.now.segment.world (map batch_turns c.args.batches.now) c.args.text.now.lines.items c.read_lines.new.replay (views_of c.read_lines.new.views.items)
    (subst (λ (n : ℕ). n ≤ c.read_lines.new.replay.settled) (sym (length-map c.args.batches.now batch_turns)) c.in_ok-end.ensures.1)
    (subst (λ (lines : List JournalLine). HasReplayed (g.V.Viewer.shows c.args.viewer.now) c.args.replay.now.segment.world (map batch_turns c.args.batches.now) lines c.read_lines.new.replay (views_of c.read_lines.new.views.items)) c.deref.ensures.value c.in_ok-read_lines.ensures.read)

pub returns-clause-shown : goal.returns-clause-shown
returns-clause-shown g c =
    all_shown (g.V.Viewer.shows c.args.viewer.now) c.args.replay.now.segment.world (map batch_turns c.args.batches.now) c.args.text.now.lines.items c.read_lines.new.replay (views_of c.read_lines.new.views.items)
    (subst (λ (lines : List JournalLine). HasReplayed (g.V.Viewer.shows c.args.viewer.now) c.args.replay.now.segment.world (map batch_turns c.args.batches.now) lines c.read_lines.new.replay (views_of c.read_lines.new.views.items)) c.deref.ensures.value c.in_ok-read_lines.ensures.read)

pub returns-clause-count : goal.returns-clause-count
returns-clause-count g c =
    one_each (g.V.Viewer.shows c.args.viewer.now) c.args.replay.now.segment.world c.args.batches.now c.args.text.now.lines.items c.read_lines.new.views.items (returns-clause-journal g c) (returns-clause-shown g c)

pub returns-clause-told : goal.returns-clause-told
returns-clause-told g c = λ told.
    all_told c.args.replay.now.segment.world c.read_lines.new.replay.segment.world c.args.text.now.lines.items c.read_lines.new.telling
    (subst (λ (lines : List JournalLine). HasTold c.args.replay.now.segment.world lines c.read_lines.new.replay.segment.world c.read_lines.new.telling) c.deref.ensures.value (c.in_ok-read_lines.ensures.told told))
