use Rattle.std.proofs.Common.{◌≡◌, List, None, map, sym, subst}
use Rattle.mc_rule.specs.Programs.{IsProgram, ProgStateState}
use Rattle.mc_box.specs.Boxes.{BoxState, set_up}
use Rattle.mc_model.specs.Worlds.{WorldState, first_world}
use Rattle.mc_plan.specs.Layouts.{IsLayout, program_fault}
use Rattle.mc_plan.proofs.Layouts.{none_refused, programs_keep_layouts}
use Rattle.mc_plan.proofs.layout.Layout.program.Goals as goal

pub invariant_of-self : goal.invariant_of-self
invariant_of-self c =
    let none : program_fault c.args.self.now c.args.who c.args.program ≡ None = none_refused _ c.in_ok-may_program.field-0 c.in_ok-may_program.ensures in
    let here : program_fault (first_world (map set_up c.self.inside.setups.items) c.self.inside.channels.items) c.args.who c.args.program ≡ None =
    subst (λ (w : WorldState). program_fault w c.args.who c.args.program ≡ None) (sym c.self.view_is) none in
    let fits : IsProgram c.args.program = subst (λ (l : List ProgStateState). IsProgram l) c.program.view_is c.program.invariant in
    subst (λ (l : List BoxState). IsLayout (first_world l c.self.inside.channels.items)) (sym c.set_program.ensures)
    (programs_keep_layouts (first_world (map set_up c.self.inside.setups.items) c.self.inside.channels.items) c.args.who c.args.program c.self.invariant fits here)
