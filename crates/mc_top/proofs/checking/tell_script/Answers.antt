use Rattle.std.proofs.Common.{◌∙◌, [], List, Option, Vec, ap, length, map, refl, sym, arith, ℕ}
use Rattle.std.specs.declared.alloc.Global.{Global}
use Rattle.std.proofs.lemmas.List.{length-map}
use Rattle.mc_net.specs.Nets.{batch_turns}
use Rattle.mc_replay.specs.Replays.{views_of}
use Rattle.mc_replay.specs.Told.{whys_of}
use Rattle.mc_top.specs.Shown.{ShowsPaths, printed_text}
use Rattle.mc_top.proofs.ShownSettles.{journal_printable, shown_few}
use Rattle.mc_top.proofs.ToldSettles.{as_many, told_printable}
use Rattle.mc_view.specs.declared.PathView.{PathView}
use Rattle.mc_top.proofs.checking.tell_script.Goals as goal

pub print_told-requires-clause-named : goal.print_told-requires-clause-named
print_told-requires-clause-named c =
    rw c.deref.ensures.value
    (journal_printable (map batch_turns c.args.batches.now) c.args.names.now 1 c.args.world c.args.journal.now.lines.items (views_of c.in_ok-told.told.views.items) c.keeps.ensures.sound c.requires.named c.in_ok-told.ensures.journal c.in_ok-told.ensures.shown).named

pub print_told-requires-clause-few : goal.print_told-requires-clause-few
print_told-requires-clause-few c =
    let few = shown_few ShowsPaths c.args.world c.args.journal.now.lines.items (views_of c.in_ok-told.told.views.items) c.in_ok-told.ensures.shown in
    rw c.deref.ensures.value (omega (arith, few, c.requires.few, length-map c.in_ok-told.told.views.items (λ views. views.items)))

pub print_told-requires-clause-each : goal.print_told-requires-clause-each
print_told-requires-clause-each c =
    ap (λ (l : List (Vec (Option ℕ) Global)). length l) c.deref-2.ensures.value
    ∙ (sym (length-map c.in_ok-told.told.whys.items (λ (whys : Vec (Option ℕ) Global). whys.items))
    ∙ (as_many ShowsPaths c.args.world [] c.args.world c.args.journal.now.lines.items (views_of c.in_ok-told.told.views.items) (whys_of c.in_ok-told.told.whys.items) c.in_ok-told.ensures.shown c.in_ok-told.ensures.told
    ∙ (length-map c.in_ok-told.told.views.items (λ (views : Vec PathView Global). views.items) ∙ sym (ap (λ (l : List (Vec PathView Global)). length l) c.deref.ensures.value))))

pub returns-clause-output : goal.returns-clause-output
returns-clause-output c =
    c.in_ok-print_told.ensures
    ∙ (ap (λ (l : List (Vec PathView Global)). printed_text c.args.names.now 1 (views_of l) (whys_of c.deref-2.result.now)) c.deref.ensures.value
    ∙ (ap (λ (l : List (Vec (Option ℕ) Global)). printed_text c.args.names.now 1 (views_of c.in_ok-told.told.views.items) (whys_of l)) c.deref-2.ensures.value
    ∙ told_printable (map batch_turns c.args.batches.now) c.args.names.now 1 c.args.world [] c.args.world c.args.journal.now.lines.items (views_of c.in_ok-told.told.views.items) (whys_of c.in_ok-told.told.whys.items)
    c.keeps.ensures.sound c.requires.named refl c.in_ok-told.ensures.journal c.in_ok-told.ensures.shown c.in_ok-told.ensures.told))
