use Rattle.std.proofs.Common.{◌≡◌, ◌+◌, ℕ, List, Option, length, get_or, ap, subst, sym, ◌∙◌, arith}
use Rattle.std.proofs.lemmas.List.{get_or_default}
use Rattle.mc_box.specs.Boxes.{BoxState, no_box}
use Rattle.mc_model.specs.Worlds.{box_at}
use Rattle.mc_cause.proofs.Noting.{NotedBelow, all_below, more_none, more_some}
use Rattle.mc_cause.proofs.notes.note_box.Goals as goal
use Rattle.mc_cause.proofs.notes.note_box.Goals.{in-Some, in-None}

pub loop-local-preserved : goal.loop-local-preserved
loop-local-preserved c = elim c.match-number.branch [
  | in-Some w ↦
      more_some c.args.world.now c.args.who c.args.origin c.loop-local.local w.in-Some.slot c.args.origins.now c.loop-local.origins c.match-number.origins c.keeps.ensures.sound c.requires.long
      (sym c.number.ensures ∙ w.in-Some.is) c.loop-local.invariant (w.origins-is ∙ w.note_slot.ensures)
  | in-None w ↦
      subst (λ (l : List (Option ℕ)). NotedBelow c.args.world.now c.args.who c.args.origin (c.loop-local.local + 1) c.args.origins.now l) (sym w.origins-is)
      (more_none c.args.world.now c.args.who c.args.origin c.loop-local.local c.args.origins.now c.loop-local.origins c.keeps.ensures.sound (sym c.number.ensures ∙ w.in-None.is) c.loop-local.invariant)
]

pub returns : goal.returns
returns c =
    let box_is : c.index-boxes-who.result ≡ box_at c.args.world.now c.args.who =
    c.index-boxes-who.is
    ∙ (ap (λ (l : List BoxState). get_or l c.args.who c.index-boxes-who.result) c.boxes.ensures ∙ get_or_default c.args.world.now.boxes c.args.who c.index-boxes-who.result no_box c.requires.here) in
    let count : length c.slots-count.result.now ≡ length (box_at c.args.world.now c.args.who).slots = ap length (c.slots-count.ensures.slots ∙ ap (λ (b : BoxState). b.slots) box_is) in
    let at : c.loop-local.local ≡ length (box_at c.args.world.now c.args.who).slots = omega (arith, c.loop-local.auto.local-end, c.loop-local-test.false, count) in
    all_below c.args.world.now c.args.who c.args.origin c.loop-local.local c.args.origins.now c.loop-local.origins c.keeps.ensures.sound at c.loop-local.invariant
