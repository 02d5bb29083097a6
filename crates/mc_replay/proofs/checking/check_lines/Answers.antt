use Rattle.std.proofs.Common.{map, subst, sym}
use Rattle.std.specs.Result.{IfErr, IfOk}
use Rattle.mc_model.specs.Worlds.{WorldState}
use Rattle.mc_script.specs.Batches.{batch_turns}
use Rattle.mc_replay.specs.Faults.{RefusesLines}
use Rattle.mc_replay.specs.Journals.{AreShown, IsJournal}
use Rattle.mc_replay.specs.Replays.{views_of}
use Rattle.mc_replay.proofs.Reading.{begun_there}
use Rattle.mc_replay.proofs.checking.check_lines.Goals as goal

pub returns-clause-journal : goal.returns-clause-journal
returns-clause-journal g c =
    subst (λ (w : WorldState). IfOk c.read_text-checked.result (λ checked. IsJournal w (map batch_turns c.args.batches.now) c.args.text.now.lines.items))
    (sym (begun_there c.args.world (map batch_turns c.args.batches.now) c.in_ok-replay.replay c.in_ok-replay.ensures)) c.read_text-checked.ensures.journal

pub returns-clause-shown : goal.returns-clause-shown
returns-clause-shown g c =
    subst (λ (w : WorldState). IfOk c.read_text-checked.result (λ checked. AreShown (g.V.Viewer.shows c.args.viewer.now) w c.args.text.now.lines.items (views_of checked.views.items)))
    (sym (begun_there c.args.world (map batch_turns c.args.batches.now) c.in_ok-replay.replay c.in_ok-replay.ensures)) c.read_text-checked.ensures.shown

pub returns-clause-refused : goal.returns-clause-refused
returns-clause-refused g c =
    subst (λ (w : WorldState). IfErr c.read_text-checked.result (RefusesLines w (map batch_turns c.args.batches.now) c.args.text.now.lines.items c.args.text.now.bad))
    (sym (begun_there c.args.world (map batch_turns c.args.batches.now) c.in_ok-replay.replay c.in_ok-replay.ensures)) c.read_text-checked.ensures.refused
