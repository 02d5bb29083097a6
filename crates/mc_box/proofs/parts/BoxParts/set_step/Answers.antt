use Rattle.std.proofs.Common.{◌≡◌, List, length, ap, sym, ◌∙◌, subst}
use Rattle.std.proofs.lemmas.List.{with_items_is}
use Rattle.mc_slot.specs.declared.SlotGoal.{SlotGoal}
use Rattle.mc_box.specs.BoxSound.{box_state, IsWired}
use Rattle.mc_box.specs.Boxes.{with_goals}
use Rattle.mc_box.specs.Goals.{change_goals}
use Rattle.mc_box.proofs.Changes.{change_wired, length_goals_from}
use Rattle.mc_box.proofs.parts.BoxParts.set_step.Goals as goal

pub changed_steps-requires-clause-wired : goal.changed_steps-requires-clause-wired
changed_steps-requires-clause-wired c =
    let changed : c.change_goals.new.goals ≡ change_goals c.args.self.now.goals.items c.args.change =
    c.change_goals.ensures ∙ ap (λ (l : List SlotGoal). change_goals l c.args.change) c.deref_mut.ensures.value in
    let size : length c.change_goals.new.goals ≡ c.args.self.now.goals.len =
    ap length changed ∙ (length_goals_from c.args.change 0 c.args.self.now.goals.items ∙ sym c.args.self.now.goals.ok.0) in
    subst (λ (l : List SlotGoal). IsWired (with_goals (box_state c.args.self.now) l)) (sym (with_items_is c.args.self.now.goals c.change_goals.new.goals size ∙ changed))
    (change_wired (box_state c.args.self.now) c.args.change c.requires.sound.wired c.requires.enabled)
