use Rattle.std.proofs.Common.{List, Option, ap, ℕ, ◌∙◌}
use Rattle.mc_signal.specs.declared.codec_list.CodecList.{CodecList}
use Rattle.mc_slot.specs.declared.Slot.{Slot}
use Rattle.mc_slot.specs.declared.SlotGoal.{SlotGoal}
use Rattle.mc_rule.specs.Programs.{ProgStateState}
use Rattle.mc_box.specs.Boxes.{BoxState}
use Rattle.mc_box.specs.declared.event.Kind.{Kind}
use Rattle.mc_box.specs.declared.setup.SlotMedia.{SlotMedia}
use Rattle.mc_snapshot.specs.Boxes.{progress_wire, slots_wire}
use Rattle.mc_snapshot.specs.Forms.{list_wire, option_wire, states_in}
use Rattle.mc_snapshot.specs.Rules.{state_wire}
use Rattle.mc_snapshot.specs.Slots.{goal_wire, media_wire}
use Rattle.mc_snapshot.proofs.boxes.BoxFieldsGet.get.Goals as goal

-- the box of its parts
abbrev box_of : Kind × (ℕ × (CodecList × (CodecList × ℕ))) → List Slot → List SlotGoal → List SlotMedia → Option (List ProgStateState)
    → Option ℕ × Option ℕ → BoxState
box_of head slots goals media program progress = record {
  kind = head.0;
  number = head.1.0;
  receives = head.1.1.0;
  sends = head.1.1.1.0;
  first_version = head.1.1.1.1;
  slots = slots;
  goals = goals;
  media = media;
  program = program;
  at = progress.0;
  told = progress.1;
}

pub returns-clause-reads : goal.returns-clause-reads
returns-clause-reads c box more fits form =
    let last = option_wire (list_wire state_wire) box.program (progress_wire box more) in
    let head = c.in_ok-kind.ensures.reads (box.kind, (box.number, (box.receives, (box.sends, box.first_version)))) (slots_wire box last)
    (tt, (fits.number, (tt, (tt, fits.first_version)))) form in
    let slots = c.in_ok-slots.ensures.reads box.slots (list_wire goal_wire box.goals (list_wire media_wire box.media last)) fits.slots head.1 in
    let goals = c.in_ok-goals.ensures.reads box.goals (list_wire media_wire box.media last) fits.goals slots.1 in
    let media = c.in_ok-media.ensures.reads box.media last fits.media goals.1 in
    let program = c.in_ok-states.ensures.reads box.program (progress_wire box more) fits.program media.1 in
    let progress = c.in_ok-at.ensures.reads (box.at, box.told) more (fits.at, fits.told) program.1 in
    let h : Kind × (ℕ × (CodecList × (CodecList × ℕ))) = (box.kind, (box.number, (box.receives, (box.sends, box.first_version)))) in (
      ap (λ (x : Kind × (ℕ × (CodecList × (CodecList × ℕ)))). box_of x c.in_ok-slots.slots.items c.in_ok-goals.goals.items c.in_ok-media.media.items (states_in c.in_ok-states.states) (c.in_ok-at.at, c.in_ok-at.told)) head.0
          ∙ (ap (λ (x : List Slot). box_of h x c.in_ok-goals.goals.items c.in_ok-media.media.items (states_in c.in_ok-states.states) (c.in_ok-at.at, c.in_ok-at.told)) slots.0
          ∙ (ap (λ (x : List SlotGoal). box_of h box.slots x c.in_ok-media.media.items (states_in c.in_ok-states.states) (c.in_ok-at.at, c.in_ok-at.told)) goals.0
          ∙ (ap (λ (x : List SlotMedia). box_of h box.slots box.goals x (states_in c.in_ok-states.states) (c.in_ok-at.at, c.in_ok-at.told)) media.0
          ∙ (ap (λ (x : Option (List ProgStateState)). box_of h box.slots box.goals box.media x (c.in_ok-at.at, c.in_ok-at.told)) program.0
          ∙ ap (λ (x : Option ℕ × Option ℕ). box_of h box.slots box.goals box.media box.program x) progress.0)))),
      progress.1,
    )
