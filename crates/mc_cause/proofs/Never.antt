-- There is no cause exactly where a slot never became closed.
use Rattle.std.proofs.Common.{◌≡◌, ◌<◌, ◌+◌, inl, inr, if◌then◌else◌, ℕ, Bool, true, false, Option, Some, None, List, [], ◌∷◌, refl, ap, sym, ◌∙◌, subst, arith}
use Rattle.mc_slot.specs.Outlook.{waits}
use Rattle.mc_box.specs.declared.event.Turn.{Turn}
use Rattle.mc_model.specs.Sound.{IsSound}
use Rattle.mc_model.specs.Steps.{run, step}
use Rattle.mc_model.specs.Worlds.{WorldState, slot_count, slot_of}
use Rattle.mc_cause.specs.Causes.{Known, becomes_closed, cause, known_after, known_from, next_world, none_known, takes_close, taking, where_close}
use Rattle.mc_cause.specs.CauseLaws.{NoneWhereNever, times_closed}
use Rattle.mc_cause.proofs.Known.{AreCounted, more_counted, next_is, none_counted, same_count}
use Rattle.mc_cause.proofs.Telling.{last_some}
use Rattle.mc_cause.proofs.Tells.{closed_by}
use Rattle.mc_box.proofs.Options.{then_some}
use Rattle.mc_laws.proofs.StepKeeps.{step_keeps_sound}

-- a slot that becomes closed has a cause
cause_some : (closing : Option ℕ) (world next : WorldState) (turn : Turn) (known : Known) (s : ℕ) → takes_close world turn ≡ closing → IsSound world → step world turn ≡ Some next → AreCounted world known → s < slot_count world
    → becomes_closed world turn s ≡ true → (y : ℕ) × (cause known closing s ≡ Some y)
cause_some (Some t) world next turn known s is sound goes counted inside closed = (_, refl)
cause_some None world next turn known s is sound goes counted inside closed =
    let by = closed_by world next turn s sound goes inside closed in
    elim by.1 [
      | inl close ↦
          let some : takes_close world turn ≡ Some s = ap (λ o. where_close o (taking world turn)) close ∙ by.0 in
          absurd (let both : None ≡ Some s = sym is ∙ some in cc)
      | inr waited ↦ let one : waits (slot_of world s).state ≡ 1 = waited.1 in last_some (known.origins s) ((counted s inside).waited (omega arith))
    ]

-- one turn
one_none : (test : Bool) (new old : Option ℕ) (rest : ℕ) → (test ≡ true → (y : ℕ) × (new ≡ Some y)) → (if test then new else old) ≡ None → rest ≡ 0 → (old ≡ None) × ((if test then 1 else 0) + rest ≡ 0)
one_none true new old rest some none zero_rest = absurd (let is = some refl in let both : Some is.0 ≡ None = sym is.1 ∙ none in cc)
one_none false new old rest some none zero_rest = (none, omega arith)

none_one : (test : Bool) (new old : Option ℕ) (rest : ℕ) → old ≡ None → (if test then 1 else 0) + rest ≡ 0 → ((if test then new else old) ≡ None) × (rest ≡ 0)
none_one true new old rest none sum = absurd (omega arith)
none_one false new old rest none sum = (none, omega arith)

-- all turns
never_by : (turns : List Turn) (world last : WorldState) (known : Known) (s : ℕ) → IsSound world → AreCounted world known → run world turns ≡ Some last → s < slot_count world
    → (known_from known world turns).why s ≡ None → (known.why s ≡ None) × (times_closed world turns s ≡ 0)
never_by [] world last known s sound counted goes inside none = (none, refl)
never_by (turn ∷ turns) world last known s sound counted goes inside none =
    let one = then_some (λ (next : WorldState). run next turns) (step world turn) last goes in
    let next : next_world world turn ≡ one.0 = next_is world one.0 turn one.1 in
    let rest = never_by turns (next_world world turn) last (known_after known world turn) s (subst IsSound (sym next) (step_keeps_sound world one.0 turn sound one.1))
    (subst (λ (w : WorldState). AreCounted w (known_after known world turn)) (sym next) (more_counted world one.0 turn known sound one.1 counted)) (ap (λ (w : WorldState). run w turns) next ∙ one.2)
    (subst (λ (w : WorldState). s < slot_count w) (sym next) (subst (λ (n : ℕ). s < n) (sym (same_count world one.0 turn sound one.1)) inside)) none in
    one_none (becomes_closed world turn s) (cause known (takes_close world turn) s) (known.why s) (times_closed (next_world world turn) turns s)
    (λ closed. cause_some (takes_close world turn) world one.0 turn known s refl sound one.1 counted inside closed) rest.0 rest.1

by_never : (turns : List Turn) (world : WorldState) (known : Known) (s : ℕ) → known.why s ≡ None → times_closed world turns s ≡ 0 → (known_from known world turns).why s ≡ None
by_never [] world known s none times = none
by_never (turn ∷ turns) world known s none times =
    let one = none_one (becomes_closed world turn s) (cause known (takes_close world turn) s) (known.why s) (times_closed (next_world world turn) turns s) none times in
    by_never turns (next_world world turn) (known_after known world turn) s one.0 one.1

pub none_where_never : NoneWhereNever
none_where_never world last turns s sound none goes inside = (
  λ nothing. (never_by turns world last none_known s sound (none_counted world sound none) goes inside nothing).1,
  λ times. by_never turns world none_known s refl times,
)
