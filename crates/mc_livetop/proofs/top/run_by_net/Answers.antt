use Rattle.mc_livetop.proofs.Named.{batches_short, live_named}
use Rattle.mc_livetop.proofs.top.run_by_net.Goals as goal

pub run_live-requires-clause-commands : goal.run_live-requires-clause-commands
run_live-requires-clause-commands g c = λ lifetimes live. rw c.deref.ensures.value (batches_short c.args.text.now c.args.net c.requires.declares)

pub with_journal-requires : goal.with_journal-requires
with_journal-requires g c = λ none.
    live_named c.in_ok-run.run'.stop c.args.command.operators c.args.text.now c.args.net c.in_ok-run.run'.journal.items c.requires.declares c.keeps.ensures.sound (rw c.deref.ensures.value at c.in_ok-run.ensures.ran) none
