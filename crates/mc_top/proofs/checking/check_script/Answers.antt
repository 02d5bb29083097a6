use Rattle.std.proofs.Common.{map, arith}
use Rattle.std.proofs.lemmas.List.{length-map}
use Rattle.mc_net.specs.Nets.{batch_turns}
use Rattle.mc_replay.specs.Replays.{views_of}
use Rattle.mc_top.specs.Shown.{ShowsPaths}
use Rattle.mc_top.proofs.ShownSettles.{journal_printable, shown_few}
use Rattle.mc_top.proofs.checking.check_script.Goals as goal

pub print_settles-requires-clause-named : goal.print_settles-requires-clause-named
print_settles-requires-clause-named c =
    rw c.deref.ensures.value
    (journal_printable (map batch_turns c.args.batches.now) c.args.names.now 1 c.args.world c.args.journal.now.lines.items (views_of c.in_ok-checked.checked.views.items) c.keeps.ensures.sound c.requires.named c.in_ok-checked.ensures.journal c.in_ok-checked.ensures.shown).named

pub print_settles-requires-clause-few : goal.print_settles-requires-clause-few
print_settles-requires-clause-few c =
    let few = shown_few ShowsPaths c.args.world c.args.journal.now.lines.items (views_of c.in_ok-checked.checked.views.items) c.in_ok-checked.ensures.shown in
    rw c.deref.ensures.value (omega (arith, few, c.requires.few, length-map c.in_ok-checked.checked.views.items (λ views. views.items)))

pub returns-clause-output : goal.returns-clause-output
returns-clause-output c =
    rw (c.in_ok-print_settles.ensures, c.deref.ensures.value)
    (journal_printable (map batch_turns c.args.batches.now) c.args.names.now 1 c.args.world c.args.journal.now.lines.items (views_of c.in_ok-checked.checked.views.items) c.keeps.ensures.sound c.requires.named c.in_ok-checked.ensures.journal c.in_ok-checked.ensures.shown).text
