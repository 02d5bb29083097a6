-- Worlds without links: each goal is an end's, and stays so while no link is set.
use Rattle.std.proofs.Common.{◌≡◌, ◌||◌, ℕ, Bool, true, false, Some, List, [], ◌∷◌, inl, inr, refl, sym, subst}
use Rattle.std.specs.List.{list_any}
use Rattle.std.proofs.lemmas.Bool.{cases_eq}
use Rattle.mc_box.specs.Boxes.{BoxState}
use Rattle.mc_box.specs.LinkFree.{is_linking}
use Rattle.mc_box.specs.LinkFree.{IsUnlinked}
use Rattle.mc_box.specs.declared.event.Event.{Event}
use Rattle.mc_box.specs.declared.event.Turn.{Turn}
use Rattle.mc_model.specs.LinkFree.{HasNoLinks, IsLinkFree, LinkNone, RunKeepsLinkFree}
use Rattle.mc_model.specs.Steps.{run, step}
use Rattle.mc_model.specs.Worlds.{WorldState, box_at}
use Rattle.mc_box.proofs.LinkFree.{event_keeps_link_free}
use Rattle.mc_laws.proofs.StepActs.{Turned, step_turns}
use Rattle.mc_box.proofs.Options.{then_some}
use Rattle.mc_laws.proofs.StepKeeps.{step_keeps_sound}

-- ---- steps and runs

-- the box that acted is still without links, and the others stay
free_after : (world next : WorldState) (who box : ℕ) (event : Event) → HasNoLinks world → is_linking event ≡ false → Turned world next who event → IsUnlinked (box_at next box)
free_after world next who box event free none turned = elim (cases_eq box who) [
  | inl is ↦
      subst (λ (b : ℕ). IsUnlinked (box_at next b)) (sym is)
      (subst (λ (b : BoxState). IsUnlinked b) (sym turned.after) (event_keeps_link_free (box_at world who) event turned.signal turned.step (free who) none turned.goes))
  | inr away ↦ subst (λ (b : BoxState). IsUnlinked b) (sym (turned.stepped.boxes box away)) (free box)
]

pub step_keeps_link_free : (world next : WorldState) (turn : Turn) → IsLinkFree world → is_linking turn.event ≡ false → step world turn ≡ Some next → IsLinkFree next
step_keeps_link_free world next turn free none goes = record {
  sound = step_keeps_sound world next turn free.sound goes;
  free = λ box. free_after world next turn.who box turn.event free.free none (step_turns world next turn free.sound goes);
}

neither : (a b : Bool) → (a || b) ≡ false → (a ≡ false) × (b ≡ false)
neither true b is = absurd (cc)
neither false b is = (refl, is)

run_by : (turns : List Turn) (world next : WorldState) → IsLinkFree world → LinkNone turns → run world turns ≡ Some next → IsLinkFree next
run_by [] world next free none goes = let same : world ≡ next = cc in subst (λ (w : WorldState). IsLinkFree w) same free
run_by (turn ∷ turns) world next free none goes =
    let parts = neither (is_linking turn.event) (list_any (λ (turn : Turn). is_linking turn.event) turns) none in
    let one = then_some (λ (w : WorldState). run w turns) (step world turn) next goes in
    run_by turns one.0 next (step_keeps_link_free world one.0 turn free parts.0 one.1) parts.1 one.2

pub run_keeps_link_free : RunKeepsLinkFree
run_keeps_link_free world next turns free none goes = run_by turns world next free none goes
