-- A run counts the versions of slots up by its Hears.
use Rattle.std.proofs.Common.{◌≡◌, ◌≢◌, ◌==◌, ◌&&◌, ◌+◌, ◌<◌, ℕ, nat_lt, Bool, true, false, if◌then◌else◌, inl, inr, List, [], ◌∷◌, length, Some, refl, ap, sym, ◌∙◌, arith}
use Rattle.std.proofs.lemmas.Bool.{cases_eq, eq-eqb, ne_eqb}
use Rattle.mc_box.specs.Boxes.{BoxState, media_at}
use Rattle.mc_box.specs.declared.event.Turn.{Turn}
use Rattle.mc_box.proofs.Options.{if_some, then_some}
use Rattle.mc_model.specs.Sound.{IsSound}
use Rattle.mc_model.specs.Steps.{run, step, step_by}
use Rattle.mc_model.specs.Worlds.{WorldState, box_at, version_at}
use Rattle.mc_laws.proofs.Numbers.{box_inside}
use Rattle.mc_laws.proofs.StepActs.{Turned, step_turns}
use Rattle.mc_laws.proofs.StepKeeps.{step_keeps_sound}
use Rattle.mc_laws.specs.Versions.{VersionsCountHears}
use Rattle.mc_model.specs.Settles.{hears_of, is_hear_at}
use Rattle.mc_laws.proofs.BoxVersions.{added, event_versions}
use Rattle.mc_laws.proofs.HearCounts.{counted, hears_cons}

both_tests : (b : Bool) → (b && true) ≡ b
both_tests true = refl
both_tests false = refl

no_test : (b : Bool) → (b && false) ≡ false
no_test true = refl
no_test false = refl

-- what the turn of a box adds there
counted_here : (who local : ℕ) (turn : Turn) → who ≡ turn.who → counted who local turn ≡ added local turn.event
counted_here who local turn same =
    let test : (turn.who == who) ≡ true = eq-eqb turn.who who (sym same) in
    ap (λ (b : Bool). if is_hear_at local turn.event && b then 1 else 0) test ∙ ap (λ (b : Bool). if b then 1 else 0) (both_tests (is_hear_at local turn.event))

-- and elsewhere
counted_else : (who local : ℕ) (turn : Turn) → who ≢ turn.who → counted who local turn ≡ 0
counted_else who local turn other =
    let test : (turn.who == who) ≡ false = ne_eqb turn.who who (λ same. other (sym same)) in
    ap (λ (b : Bool). if is_hear_at local turn.event && b then 1 else 0) test ∙ ap (λ (b : Bool). if b then 1 else 0) (no_test (is_hear_at local turn.event))

turn_counts : (world next : WorldState) (turn : Turn) (who local : ℕ) → IsSound world → turn.who < length world.boxes → Turned world next turn.who turn.event
    → version_at next who local ≡ version_at world who local + counted who local turn
turn_counts world next turn who local sound here turned = elim (cases_eq who turn.who) [
  | inl same ↦
      let adds = event_versions (box_at world turn.who) turn.event turned.signal turned.step local (sound.numbered.whole turn.who here) turned.goes in
      let after : version_at next turn.who local ≡ (media_at turned.step.after local).version = ap (λ (b : BoxState). (media_at b local).version) turned.after in
      let new : version_at next who local ≡ version_at next turn.who local = ap (λ (w : ℕ). version_at next w local) same in
      let old : version_at world turn.who local ≡ version_at world who local = ap (λ (w : ℕ). version_at world w local) (sym same) in
      let one = counted_here who local turn same in
      omega arith
  | inr other ↦
      let stays : version_at next who local ≡ version_at world who local = ap (λ (b : BoxState). (media_at b local).version) (turned.stepped.boxes who other) in
      let none = counted_else who local turn other in
      omega arith
]

step_counts : (world next : WorldState) (turn : Turn) (who local : ℕ) → IsSound world → step world turn ≡ Some next
    → version_at next who local ≡ version_at world who local + counted who local turn
step_counts world next turn who local sound goes =
    let one = if_some (nat_lt turn.who (length world.boxes)) (step_by world turn.who turn.event) next goes in
    turn_counts world next turn who local sound (box_inside world turn.who one.0) (step_turns world next turn sound goes)

run_counts : (turns : List Turn) (world last : WorldState) (who local : ℕ) → IsSound world → run world turns ≡ Some last
    → version_at last who local ≡ version_at world who local + hears_of who local turns
run_counts [] world last who local sound goes =
    let same : world ≡ last = cc in
    let is : version_at last who local ≡ version_at world who local = ap (λ (w : WorldState). version_at w who local) (sym same) in
    omega arith
run_counts (turn ∷ turns) world last who local sound goes =
    let one = then_some (λ (w : WorldState). run w turns) (step world turn) last goes in
    let first = step_counts world one.0 turn who local sound one.1 in
    let rest = run_counts turns one.0 last who local (step_keeps_sound world one.0 turn sound one.1) one.2 in
    let all = hears_cons who local turn turns in
    omega arith

pub versions_count_hears : VersionsCountHears
versions_count_hears world last turns sound goes who local = run_counts turns world last who local sound goes
