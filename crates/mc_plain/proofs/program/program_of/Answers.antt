use Rattle.std.proofs.Common.{◌≢◌, length, List, map, rules, subst, sym, ◌∙◌}
use Rattle.mc_rule.specs.Programs.{IsProgram, ProgStateState}
use Rattle.mc_box.specs.Boxes.{first_slot, FitsSlots}
use Rattle.mc_plain.specs.Asked.{kind_of, setup_of}
use Rattle.mc_plain.proofs.ProgramFits.{some_program}
use Rattle.mc_plain.proofs.program.program_of.Goals as goal

pub new-requires : goal.new-requires
new-requires c =
    let some : length c.args.states.now ≢ 0 = search rules in
    subst (λ (states : List ProgStateState). IsProgram states) (sym c.in_ok-states.ensures) (some_program c.args.kind c.args.slots.now c.args.states.now some c.requires.says).program

pub returns-clause-fits : goal.returns-clause-fits
returns-clause-fits c =
    let some : length c.args.states.now ≢ 0 = search rules in
    subst (λ (states : List ProgStateState). FitsSlots (kind_of c.args.kind) (map first_slot (map setup_of c.args.slots.now)) states) (sym (c.new.ensures ∙ c.in_ok-states.ensures))
    (some_program c.args.kind c.args.slots.now c.args.states.now some c.requires.says)
