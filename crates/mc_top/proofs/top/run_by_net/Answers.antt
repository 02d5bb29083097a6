use Rattle.std.proofs.Common.{subst, sym}
use Rattle.mc_top.proofs.Ending.{named_box}
use Rattle.mc_script_end.proofs.NamedJournals.{ran_named}
use Rattle.mc_top.proofs.Stopping.{limited_whole}
use Rattle.mc_top.specs.Modes.{tail_of}
use Rattle.mc_top.specs.Shown.{HasNamedBox}
use Rattle.mc_top.proofs.top.run_by_net.Goals as goal

pub run_script-requires-clause-who : goal.run_script-requires-clause-who
run_script-requires-clause-who g c = λ lifetimes live. subst (HasNamedBox c.args.net.names) (sym c.report_of-report.ensures) (named_box c.args.mode c.args.net.names c.args.net.world c.requires.who)

pub returns-clause-shift_limit : goal.returns-clause-shift_limit
returns-clause-shift_limit g c = limited_whole c.with_journal.result c.in_ok-run.run' c.with_journal.ensures.journal c.in_ok-run.ensures.shift_limit

pub with_journal-requires : goal.with_journal-requires
with_journal-requires g c = λ none.
    ran_named c.in_ok-run.run'.stop (tail_of c.args.mode) c.args.text.now c.args.net c.in_ok-run.run'.journal.items c.requires.declares c.keeps.ensures.sound (rw c.deref.ensures.value at c.in_ok-run.ensures.ran) none
