use Rattle.std.proofs.Common.{◌≡◌, ap, sym, ◌∙◌, subst}
use Rattle.mc_text.specs.NameLists.{NameLists, with_box_name}
use Rattle.mc_lines.specs.BoxLines.{box_seen}
use Rattle.mc_lines.specs.Forms.{IsInForm}
use Rattle.mc_lines.specs.Meaning.{with_planned}
use Rattle.mc_lines.specs.SoFar.{Declared}
use Rattle.mc_lines.specs.declared.section.Section.TheVariants as section
use Rattle.mc_lines.proofs.Fitting.{in_form_with_box}
use Rattle.mc_lines.proofs.reader.Reader.add_box.Goals as goal

pub returns-clause-in_form : goal.returns-clause-in_form
returns-clause-in_form c =
    let named : c.add_box.new.self ≡ with_box_name c.args.self.now.names c.args.name.now = c.in_ok-add_box.ensures.added ∙ ap (λ (d : Declared). with_box_name d.names c.args.name.now) c.self.view_is in
    let planned = c.in_ok-plan_box.ensures
    ∙ ap (λ (d : Declared). with_planned (record d { names = c.add_box.new.self }) (box_seen c.args.planned)) c.self.view_is
    ∙ ap (λ (names : NameLists). with_planned (record c.args.self.now { names = names }) (box_seen c.args.planned)) named in
    subst (λ (d : Declared). IsInForm (record d { section = section.Boxes })) (sym (c.self-2.view_is ∙ planned))
    (in_form_with_box c.args.self.now c.args.name.now (box_seen c.args.planned) c.requires.in_form)
