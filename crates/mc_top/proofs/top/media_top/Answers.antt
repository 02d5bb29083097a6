use Rattle.mc_top.specs.Modes.{IsFaultByWords, IsWithinLimits, IsWorkable, reads, tail_of, text_for}
use Rattle.mc_call.specs.Reasons.{IsFaultOfTold}
use Rattle.mc_call.proofs.Explaining.{explains_weaker, told_nothing}
use Rattle.mc_top.proofs.Explaining.{told_by_words}
use Rattle.std.proofs.Common.{◌∙◌, ap, IsFalse, IsTrue, rules, subst}
use Rattle.mc_io.specs.Bytes.{ConsumesAtMost}
use Rattle.mc_lines.specs.Rules.{read_limit}
use Rattle.mc_top.specs.Top.{Ends}
use Rattle.mc_call.specs.Calls.{HasReadWhole}
use Rattle.mc_top.proofs.GrownCompletes.{completes_grown}
use Rattle.mc_top.specs.Growing.{IsGrowingFaultOfTold}
use Rattle.mc_call.specs.Answers.{TellsNothing}
use Rattle.mc_top.proofs.GrownEnds.{no_usage}
use Rattle.mc_top.specs.Asked.{AskFor}
use Rattle.mc_top.specs.declared.top.Asked.TheVariants.{Grow}
use Rattle.mc_top.proofs.OwnTexts.{false_unless, scene_stated, within_limits, works_on}
use Rattle.mc_top.proofs.Told.{completes}
use Rattle.mc_call.proofs.Told.{not_failed}
use Rattle.mc_top.proofs.top.media_top.Goals as goal
use Rattle.mc_words.proofs.OneMode.{asks_for_one, growing_no_mode}
use Rattle.mc_words.specs.declared.words.Mode.{Mode}
use Rattle.mc_words.specs.declared.words.Mode.TheVariants.{Scene}

pub run_mode-requires : goal.run_mode-requires
run_mode-requires g c =
    let within : IsWithinLimits c.in-Work.mode = within_limits c.args.words.items c.in-Work.mode (rw (c.deref.ensures.value, c.in-Work.is) at c.in-Ok.ensures) in
    search rules

pub returns-in-Work-clause-ends : goal.returns-in-Work-clause-ends
returns-in-Work-clause-ends g c = λ mode is.
    subst (λ (m : Mode). Ends m (text_for m (g.S.Source.left c.args.source.now)) (g.K.Sink.written c.args.sink.now) (g.K.Sink.written c.run_mode.new.sink) c.run_mode.result.status c.run_mode.result.due c.run_mode.result.journal.items) (asks_for_one c.args.words.items c.in-Work.mode mode (rw (c.deref.ensures.value, c.in-Work.is) at c.in-Ok.ensures) is)
    c.run_mode.ensures.ends

pub returns-in-Work-clause-ends_grown : goal.returns-in-Work-clause-ends_grown
returns-in-Work-clause-ends_grown g c = λ grows. absurd (growing_no_mode c.args.words.items c.in-Work.mode grows (rw (c.deref.ensures.value, c.in-Work.is) at c.in-Ok.ensures))

pub returns-in-Grow-clause-complete_grown : goal.returns-in-Grow-clause-complete_grown
returns-in-Grow-clause-complete_grown g c = λ text grows told can no_read no_write.
    completes_grown (g.S.Source.left c.args.source.now) (g.K.Sink.written c.args.sink.now) (g.K.Sink.written c.grow.new.sink) text c.grow.result.status c.grow.result.due c.grow.result.journal.items
    c.grow.ensures.answers.status c.grow.ensures.ends told can
    (not_failed _ _ _ _ c.grow.ensures.read_fault no_read) (not_failed _ _ _ _ c.grow.ensures.answers.fault no_write)

pub returns-in-Grow-clause-usage : goal.returns-in-Grow-clause-usage
returns-in-Grow-clause-usage g c = λ usage. absurd (no_usage c.grow.result.due c.grow.ensures.ends.dues usage)

pub returns-in-Grow-clause-usage_grown : goal.returns-in-Grow-clause-usage_grown
returns-in-Grow-clause-usage_grown g c = λ usage. absurd (no_usage c.grow.result.due c.grow.ensures.ends.dues usage)

pub returns-in-Grow-clause-usage_output : goal.returns-in-Grow-clause-usage_output
returns-in-Grow-clause-usage_output g c = λ usage. absurd (no_usage c.grow.result.due c.grow.ensures.ends.dues usage)

pub returns-in-Grow-clause-usage_reason : goal.returns-in-Grow-clause-usage_reason
returns-in-Grow-clause-usage_reason g c = λ usage. absurd (no_usage c.grow.result.due c.grow.ensures.ends.dues usage)

pub returns-in-Grow-clause-no_journal : goal.returns-in-Grow-clause-no_journal
returns-in-Grow-clause-no_journal g c = c.grow.ensures.ends.no_journal

pub returns-in-Grow-clause-reason : goal.returns-in-Grow-clause-reason
returns-in-Grow-clause-reason g c =
    let asked : AskFor c.args.words.items Grow = rw (c.deref.ensures.value, c.in-Grow.is) at c.in-Ok.ensures in
    explains_weaker (IsGrowingFaultOfTold (g.S.Source.left c.args.source.now)) (IsFaultByWords c.args.words.items (g.S.Source.left c.args.source.now)) (λ fault told mode asks. absurd (asked.1 mode asks))
    c.grow.result.reason c.grow.result.status (g.K.Sink.written c.args.sink.now) (g.K.Sink.written c.grow.new.sink) c.grow.result.journal.items c.grow.ensures.answers.reason

pub returns-clause-reason : goal.returns-clause-reason
returns-clause-reason g c =
    explains_weaker TellsNothing (IsFaultByWords c.args.words.items (g.S.Source.left c.args.source.now)) (told_nothing _)
    c.refuse_words.result.reason c.refuse_words.result.status (g.K.Sink.written c.args.sink.now) (g.K.Sink.written c.refuse_words.new.sink) c.refuse_words.result.journal.items c.refuse_words.ensures.answers.reason

pub returns-in-Work-clause-complete_grown : goal.returns-in-Work-clause-complete_grown
returns-in-Work-clause-complete_grown g c = λ text grows. absurd (growing_no_mode c.args.words.items c.in-Work.mode grows (rw (c.deref.ensures.value, c.in-Work.is) at c.in-Ok.ensures))

pub returns-in-Work-clause-read_whole_grown : goal.returns-in-Work-clause-read_whole_grown
returns-in-Work-clause-read_whole_grown g c = λ grows. absurd (growing_no_mode c.args.words.items c.in-Work.mode grows (rw (c.deref.ensures.value, c.in-Work.is) at c.in-Ok.ensures))

pub returns-in-Work-clause-at_most_grown : goal.returns-in-Work-clause-at_most_grown
returns-in-Work-clause-at_most_grown g c = λ grows. absurd (growing_no_mode c.args.words.items c.in-Work.mode grows (rw (c.deref.ensures.value, c.in-Work.is) at c.in-Ok.ensures))

pub returns-in-Work-clause-reason_grown : goal.returns-in-Work-clause-reason_grown
returns-in-Work-clause-reason_grown g c = λ grows. absurd (growing_no_mode c.args.words.items c.in-Work.mode grows (rw (c.deref.ensures.value, c.in-Work.is) at c.in-Ok.ensures))

pub returns-in-Work-clause-no_command : goal.returns-in-Work-clause-no_command
returns-in-Work-clause-no_command g c = λ none. absurd (none c.in-Work.mode (rw (c.deref.ensures.value, c.in-Work.is) at c.in-Ok.ensures))

pub returns-in-Work-clause-unread : goal.returns-in-Work-clause-unread
returns-in-Work-clause-unread g c = λ none no_growing. c.run_mode.ensures.unread (false_unless (reads c.in-Work.mode) (λ reading. none (c.in-Work.mode, (rw (c.deref.ensures.value, c.in-Work.is) at c.in-Ok.ensures), reading)))

pub returns-in-Work-clause-complete : goal.returns-in-Work-clause-complete
returns-in-Work-clause-complete g c = λ mode text is told works no_read no_write.
    let here = ap (λ (m : Mode). text_for m (g.S.Source.left c.args.source.now)) (asks_for_one c.args.words.items c.in-Work.mode mode (rw (c.deref.ensures.value, c.in-Work.is) at c.in-Ok.ensures) is) ∙ told in
    completes c.in-Work.mode (text_for c.in-Work.mode (g.S.Source.left c.args.source.now)) (g.K.Sink.written c.args.sink.now) (g.K.Sink.written c.run_mode.new.sink) text c.run_mode.result.status c.run_mode.result.due c.run_mode.result.journal.items
    c.run_mode.ensures.answers.dues c.run_mode.ensures.answers.status c.run_mode.ensures.ends here
    (works_on c.in-Work.mode (g.S.Source.left c.args.source.now) text (within_limits c.args.words.items c.in-Work.mode (rw (c.deref.ensures.value, c.in-Work.is) at c.in-Ok.ensures)) here (subst (λ (m : Mode). IsWorkable m text) (asks_for_one c.args.words.items mode c.in-Work.mode is (rw (c.deref.ensures.value, c.in-Work.is) at c.in-Ok.ensures)) works))
    (not_failed _ _ _ _ c.run_mode.ensures.read_fault no_read) (not_failed _ _ _ _ c.run_mode.ensures.answers.fault no_write)

pub returns-in-Work-clause-made : goal.returns-in-Work-clause-made
returns-in-Work-clause-made g c = λ mode is none. c.run_mode.ensures.made (subst (λ (m : Mode). IsFalse (reads m)) (asks_for_one c.args.words.items mode c.in-Work.mode is (rw (c.deref.ensures.value, c.in-Work.is) at c.in-Ok.ensures)) none)

pub returns-in-Work-clause-stated : goal.returns-in-Work-clause-stated
returns-in-Work-clause-stated g c = λ scene is zero.
    scene_stated scene (g.K.Sink.written c.args.sink.now) (g.K.Sink.written c.run_mode.new.sink) c.run_mode.result.status c.run_mode.result.due c.run_mode.result.journal.items
    (subst (λ (m : Mode). Ends m (text_for m (g.S.Source.left c.args.source.now)) (g.K.Sink.written c.args.sink.now) (g.K.Sink.written c.run_mode.new.sink) c.run_mode.result.status c.run_mode.result.due c.run_mode.result.journal.items)
    (asks_for_one c.args.words.items c.in-Work.mode (Scene scene) (rw (c.deref.ensures.value, c.in-Work.is) at c.in-Ok.ensures) is) c.run_mode.ensures.ends) zero

pub returns-in-Work-clause-read_whole : goal.returns-in-Work-clause-read_whole
returns-in-Work-clause-read_whole g c = λ mode is reading judged.
    subst (λ (m : Mode). HasReadWhole (tail_of m) (g.S.Source.left c.args.source.now) (g.S.Source.left c.run_mode.new.source)) (asks_for_one c.args.words.items c.in-Work.mode mode (rw (c.deref.ensures.value, c.in-Work.is) at c.in-Ok.ensures) is)
    (c.run_mode.ensures.read_whole (subst (λ (m : Mode). IsTrue (reads m)) (asks_for_one c.args.words.items mode c.in-Work.mode is (rw (c.deref.ensures.value, c.in-Work.is) at c.in-Ok.ensures)) reading) judged)

pub returns-in-Work-clause-at_most : goal.returns-in-Work-clause-at_most
returns-in-Work-clause-at_most g c = λ mode is.
    subst (λ (m : Mode). ConsumesAtMost (g.S.Source.left c.args.source.now) (g.S.Source.left c.run_mode.new.source) (read_limit (tail_of m))) (asks_for_one c.args.words.items c.in-Work.mode mode (rw (c.deref.ensures.value, c.in-Work.is) at c.in-Ok.ensures) is)
    c.run_mode.ensures.at_most

pub returns-in-Work-clause-reason : goal.returns-in-Work-clause-reason
returns-in-Work-clause-reason g c =
    explains_weaker (IsFaultOfTold (tail_of c.in-Work.mode) (text_for c.in-Work.mode (g.S.Source.left c.args.source.now))) (IsFaultByWords c.args.words.items (g.S.Source.left c.args.source.now))
    (told_by_words c.args.words.items (g.S.Source.left c.args.source.now) c.in-Work.mode (rw (c.deref.ensures.value, c.in-Work.is) at c.in-Ok.ensures))
    c.run_mode.result.reason c.run_mode.result.status (g.K.Sink.written c.args.sink.now) (g.K.Sink.written c.run_mode.new.sink) c.run_mode.result.journal.items c.run_mode.ensures.answers.reason
