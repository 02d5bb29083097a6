use Rattle.std.proofs.Common.{◌≡◌, ◌++◌, ◌∙◌, All, IsTrue, List, OnOk, ap, subst, sym, ℕ}
use Rattle.mc_model.specs.Settles.{is_quiet}
use Rattle.mc_model.specs.Worlds.{WorldState}
use Rattle.mc_table.specs.Shown.{IsNamedView, print_settle}
use Rattle.mc_view.specs.declared.PathView.{PathView}
use Rattle.mc_grown_script.proofs.Viewing.{shown_named, shown_text}
use Rattle.mc_grown_script.proofs.printing.put_network.Goals as goal

pub put_settle-requires : goal.put_settle-requires
put_settle-requires c =
    subst (λ (list : List PathView). All (IsNamedView c.args.names.now) list) (sym c.deref.ensures.value)
    (shown_named c.args.names.now c.args.network.now c.world-world.result.now c.in_ok-paths.field-0.items c.present-views.result.items c.world-world.ensures
    c.in_ok-paths.ensures.views c.present-views.ensures c.keeps.ensures.sound
    (c.in_ok-paths.ensures.quiet (subst (λ (w : WorldState). IsTrue (is_quiet w)) (sym c.world-world.ensures) c.requires.quiet)) c.requires.named)

pub returns : goal.returns
returns c =
    subst (λ (text : List ℕ). OnOk c.put_settle.result (c.put_settle.new.out.items ≡ c.args.out.now.items ++ text))
    (ap (λ (list : List PathView). print_settle c.args.names.now c.args.number list) c.deref.ensures.value
    ∙ shown_text c.args.names.now c.args.number c.args.network.now c.world-world.result.now c.in_ok-paths.field-0.items c.present-views.result.items c.world-world.ensures
    c.in_ok-paths.ensures.views c.present-views.ensures c.requires.holds)
    c.put_settle.ensures
