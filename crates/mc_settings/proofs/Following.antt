-- A run leaves a world as its commands make it, but for what signals change.
use Rattle.std.proofs.Common.{◌≡◌, ◌==◌, ◌||◌, ◌<◌, ◌≤◌, ℕ, Bool, true, false, inl, inr, List, [], ◌∷◌, length, Some, refl, ap, sym, ◌∙◌, subst, arith}
use Rattle.std.specs.List.{list_any}
use Rattle.std.proofs.Math.ListN.{get_or-eq_default}
use Rattle.std.proofs.lemmas.Bool.{cases_eq, cases_lt, eq-eqb, ne_eqb}
use Rattle.mc_signal.specs.declared.Tagged.{Tagged}
use Rattle.mc_slot.specs.declared.Slot.{Slot}
use Rattle.mc_box.specs.BoxEvents.{is_shift}
use Rattle.mc_box.specs.Boxes.{BoxState, no_box, no_slot, slot_at}
use Rattle.mc_box.specs.declared.event.Turn.{Turn}
use Rattle.mc_box.proofs.Options.{then_some}
use Rattle.mc_model.specs.Settles.{commands_of}
use Rattle.mc_model.specs.Shapes.{HasShape}
use Rattle.mc_model.specs.Sound.{IsSound}
use Rattle.mc_model.specs.Steps.{run, step}
use Rattle.mc_model.specs.Unprogrammed.{ShiftNone}
use Rattle.mc_model.specs.Worlds.{ChannelState, WorldState, box_at, slot_count, slot_of}
use Rattle.mc_laws.proofs.Reaches.{with_boxes}
use Rattle.mc_laws.proofs.ShapesKept.{run_keeps_shape, shape_both}
use Rattle.mc_laws.proofs.StepActs.{Turned, step_turns}
use Rattle.mc_laws.proofs.StepKeeps.{run_keeps_sound, step_keeps_sound}
use Rattle.mc_settings.specs.SettingLaws.{RunsFollowCommands}
use Rattle.mc_settings.specs.Settings.{commanded, set_by, set_by_all, settings_of}
use Rattle.mc_settings.proofs.AlikeWorlds.{shape_back, slot_stays}
use Rattle.mc_settings.proofs.BoxSettings.{event_sets}
use Rattle.mc_settings.proofs.CommandedWorlds.{more_commands, set_if, settings_are, shape_stays}

-- ---- settings

neither : (a b : Bool) → (a || b) ≡ false → (a ≡ false) × (b ≡ false)
neither true b is = absurd (cc)
neither false b is = (refl, is)

-- a turn that isn't a Shift sets what its event says, at its box alone
turn_sets : (world next : WorldState) (turn : Turn) (who : ℕ) → is_shift turn.event ≡ false → Turned world next turn.who turn.event
    → settings_of (box_at next who) ≡ set_if (turn.who == who) turn.event (settings_of (box_at world who))
turn_sets world next turn who unshifted turned = elim (cases_eq who turn.who) [
  | inl same ↦
      let test : (turn.who == who) ≡ true = eq-eqb turn.who who (sym same) in
      ap (λ (w : ℕ). settings_of (box_at next w)) same
      ∙ (ap settings_of turned.after
      ∙ (event_sets (box_at world turn.who) turn.event turned.signal turned.step unshifted turned.goes
      ∙ (ap (λ (w : ℕ). set_by turn.event (settings_of (box_at world w))) (sym same)
      ∙ ap (λ (b : Bool). set_if b turn.event (settings_of (box_at world who))) (sym test))))
  | inr other ↦
      let test : (turn.who == who) ≡ false = ne_eqb turn.who who (λ same. other (sym same)) in
      ap settings_of (turned.stepped.boxes who other) ∙ ap (λ (b : Bool). set_if b turn.event (settings_of (box_at world who))) (sym test)
]

run_sets : (turns : List Turn) (world last : WorldState) (who : ℕ) → IsSound world → ShiftNone turns → run world turns ≡ Some last
    → settings_of (box_at last who) ≡ set_by_all (commands_of who turns) (settings_of (box_at world who))
run_sets [] world last who sound none goes = let same : world ≡ last = cc in ap (λ (w : WorldState). settings_of (box_at w who)) (sym same)
run_sets (turn ∷ turns) world last who sound none goes =
    let parts = neither (is_shift turn.event) (list_any (λ (turn : Turn). is_shift turn.event) turns) none in
    let one = then_some (λ (w : WorldState). run w turns) (step world turn) last goes in
    run_sets turns one.0 last who (step_keeps_sound world one.0 turn sound one.1) parts.1 one.2
    ∙ (ap (set_by_all (commands_of who turns)) (turn_sets world one.0 turn who parts.0 (step_turns world one.0 turn sound one.1))
    ∙ sym (more_commands who turn turns (settings_of (box_at world who))))

-- ---- media and sides

-- slots of one medium, on one side
pub record IsSameSort (slot other : Slot) : Type 0 where
  pub medium : slot.medium ≡ other.medium
  pub side : slot.initiator ≡ other.initiator

same_sort : (slot other : Slot) → slot ≡ other → IsSameSort slot other
same_sort slot other same = record { medium = ap (λ (s : Slot). s.medium) same; side = ap (λ (s : Slot). s.initiator) same }

-- tunnels say both
sort_there : (world : WorldState) (boxes : List BoxState) (lanes : List (List Tagged)) (s : ℕ) → IsSound (with_boxes world boxes lanes) → IsSound world → s < slot_count world
    → IsSameSort (slot_of (with_boxes world boxes lanes) s) (slot_of world s)
sort_there world boxes lanes s one two inside = record {
  medium = one.numbered.media s inside ∙ sym (two.numbered.media s inside);
  side = one.numbered.sides s inside ∙ sym (two.numbered.sides s inside);
}

sort_by : (world : WorldState) (boxes : List BoxState) (lanes : List (List Tagged)) (who local : ℕ) → IsSound (with_boxes world boxes lanes) → IsSound world → HasShape (with_boxes world boxes lanes) world
    → IsSameSort (slot_at (box_at (with_boxes world boxes lanes) who) local) (slot_at (box_at world who) local)
sort_by world boxes lanes who local one two shape =
    let new : WorldState = with_boxes world boxes lanes in
    elim (cases_lt who (length world.boxes)) [
      | inl here ↦ elim (cases_lt local (length (box_at world who).slots)) [
        | inl within ↦
            let found = two.numbered.all who local here within in
            subst (λ (p : ℕ × ℕ). IsSameSort (slot_at (box_at new p.0) p.1) (slot_at (box_at world p.0) p.1)) found.2 (sort_there world boxes lanes found.0 one two found.1)
        | inr past ↦
            let away : length (box_at new who).slots ≤ local = omega (arith, (shape.alike who).slots) in
            same_sort (slot_at (box_at new who) local) (slot_at (box_at world who) local)
            (get_or-eq_default (box_at new who).slots no_slot away ∙ sym (get_or-eq_default (box_at world who).slots no_slot past))
      ]
      | inr past ↦
          let away : length new.boxes ≤ who = omega (arith, shape.boxes) in
          same_sort (slot_at (box_at new who) local) (slot_at (box_at world who) local)
          (ap (λ (b : BoxState). slot_at b local) (get_or-eq_default new.boxes no_box away ∙ sym (get_or-eq_default world.boxes no_box past)))
    ]

-- sound worlds of one shape have slots of the same media and sides
same_sorts : (new world : WorldState) (who local : ℕ) → IsSound new → IsSound world → HasShape new world
    → IsSameSort (slot_at (box_at new who) local) (slot_at (box_at world who) local)
same_sorts new world who local one two shape =
    let is : new ≡ with_boxes world new.boxes new.lanes = ap (λ (c : List ChannelState). record new { channels = c }) shape.channels in
    subst (λ (w : WorldState). IsSameSort (slot_at (box_at w who) local) (slot_at (box_at world who) local)) (sym is)
    (sort_by world new.boxes new.lanes who local (subst (λ (w : WorldState). IsSound w) is one) two (subst (λ (w : WorldState). HasShape w world) is shape))

-- ---- a run

pub runs_follow_commands : RunsFollowCommands
runs_follow_commands world last turns sound none goes =
    let shape = run_keeps_shape world last turns sound goes in
    let end = run_keeps_sound world last turns sound goes in
    record {
      shape = shape_both last world (commanded world turns) shape (shape_back (commanded world turns) world (shape_stays world turns));
      settings = λ who. run_sets turns world last who sound none goes ∙ sym (settings_are world turns who);
      media = λ who local. (same_sorts last world who local end sound shape).medium ∙ ap (λ (slot : Slot). slot.medium) (sym (slot_stays world turns who local));
      sides = λ who local. (same_sorts last world who local end sound shape).side ∙ ap (λ (slot : Slot). slot.initiator) (sym (slot_stays world turns who local));
    }
