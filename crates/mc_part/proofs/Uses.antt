-- What one turn of a part uses up of its commands, and counts.
use Rattle.std.proofs.Common.{◌≡◌, ◌≢◌, ◌==◌, ◌&&◌, IsTrue, Bool, true, false, if◌then◌else◌, ℕ, ◌+◌, ◌<◌, ◌≤◌, List, [], ◌∷◌, ◌++◌, drop, length, get_or, slice_get, Some, Vec, Global, refl, ap, sym, ◌∙◌, subst, arith}
use Rattle.std.proofs.Math.ListN.{set}
use Rattle.std.proofs.lemmas.Bool.{eq-eqb, ne_eqb}
use Rattle.std.proofs.lemmas.Grind.{common_steps}
use Rattle.std.proofs.lemmas.List.{drop_more, get_or-set_other, get_or-set_same}
use Rattle.std.proofs.lemmas.Option.{get_or_from_slice_get, slice_get_within}
use Rattle.mc_box.specs.BoxEvents.{is_command}
use Rattle.mc_box.specs.declared.event.Event.{Event}
use Rattle.mc_box.specs.declared.event.Event.TheVariants.{Take, Set, Media, Tell, Retry, Shift}
use Rattle.mc_box.specs.declared.event.Turn.{Turn}
use Rattle.mc_box.specs.declared.limit.TheConstants.{SHIFT_LIMIT}
use Rattle.mc_merge.specs.Logs.{Own}
use Rattle.mc_merge.specs.Uses.{AreOwnUses, Uses, UsesMore, UsesOne, retry_count}
use Rattle.mc_merge.proofs.Usage.{uses_begin, uses_go_on}
use Rattle.mc_part.specs.Parts.{IsWithin, events_for, no_retries, shifts_of, stimuli_of, uses_of}
use Rattle.mc_part.specs.Running.{NextIsFirst}
use Rattle.mc_part.specs.declared.part.Part.{Part}

-- ---- the first command that is left

first_left : (commands : List Turn) (used : ℕ) (turn : Turn) → slice_get commands used ≡ Some turn → drop used commands ≡ turn ∷ drop (used + 1) commands
first_left commands used turn there =
    drop_more commands used turn (slice_get_within commands used turn there) ∙ ap (λ (t : Turn). t ∷ drop (used + 1) commands) (get_or_from_slice_get commands used turn turn there)

kept_if : (test : Bool) (event : Event) → test ≡ true → (if test then event ∷ [] else []) ≡ event ∷ []
kept_if true event is = refl
kept_if false event is = absurd (cc)

none_if : (test : Bool) (event : Event) → test ≡ false → (if test then event ∷ [] else []) ≡ []
none_if true event is = absurd (cc)
none_if false event is = refl

own_event : (turn : Turn) (turns : List Turn) (who : ℕ) → who ≡ turn.who → events_for who (turn ∷ turns) ≡ turn.event ∷ events_for who turns
own_event turn turns who same = ap (λ (l : List Event). l ++ events_for who turns) (kept_if (turn.who == who) turn.event (eq-eqb turn.who who (sym same)))

other_event : (turn : Turn) (turns : List Turn) (who : ℕ) → who ≢ turn.who → events_for who (turn ∷ turns) ≡ events_for who turns
other_event turn turns who apart = ap (λ (l : List Event). l ++ events_for who turns) (none_if (turn.who == who) turn.event (ne_eqb turn.who who (λ is. apart (sym is))))

-- ---- one entry

once_uses : (own : Own) (before after : Uses) → ((at : ℕ) → before.shifts at ≤ SHIFT_LIMIT) → ((at local : ℕ) → before.retries at local ≡ 0) → UsesMore own before after
    → AreOwnUses (own ∷ []) before after
once_uses own before after few none more = uses_go_on [] own before before after (uses_begin before few none) more

is_use : (event : Event) (stimuli stimuli_2 : List Event) (n n_2 : ℕ) → IsTrue (is_command event) → stimuli ≡ event ∷ stimuli_2 → n_2 ≡ n → UsesOne event stimuli stimuli_2 n n_2
is_use (Take local) stimuli stimuli_2 n n_2 is one two = absurd (cc)
is_use (Retry local) stimuli stimuli_2 n n_2 is one two = absurd (cc)
is_use Shift stimuli stimuli_2 n n_2 is one two = absurd (cc)
is_use (Set change) stimuli stimuli_2 n n_2 is one two = (one, two)
is_use (Media change) stimuli stimuli_2 n n_2 is one two = (one, two)
is_use (Tell word) stimuli stimuli_2 n n_2 is one two = (one, two)

no_retry : (event : Event) (local : ℕ) → IsTrue (is_command event) → 0 ≡ 0 + retry_count event local
no_retry (Take slot) local is = refl
no_retry (Retry slot) local is = absurd (cc)
no_retry Shift local is = refl
no_retry (Set change) local is = refl
no_retry (Media change) local is = refl
no_retry (Tell word) local is = refl

-- ---- a command

pub command_uses : (a b : Part) (own : Own) (turn : Turn) → IsWithin a → slice_get a.commands.items a.used ≡ Some turn → IsTrue (is_command turn.event) → own.who ≡ turn.who → own.entry.event ≡ turn.event
    → b.used ≡ a.used + 1 → b.commands ≡ a.commands → b.shifts ≡ a.shifts → AreOwnUses (own ∷ []) (uses_of a no_retries) (uses_of b no_retries)
command_uses a b own turn within there is who event used commands shifts =
    let left : drop a.used a.commands.items ≡ turn ∷ drop (a.used + 1) a.commands.items = first_left a.commands.items a.used turn there in
    let after : (at : ℕ) → stimuli_of b at ≡ events_for at (drop (a.used + 1) a.commands.items) =
    λ at. ap (λ (n : ℕ). events_for at (drop n b.commands.items)) used ∙ ap (λ (v : Vec Turn Global). events_for at (drop (a.used + 1) v.items)) commands in
    let same : (at : ℕ) → shifts_of b at ≡ shifts_of a at = λ at. ap (λ (v : Vec ℕ Global). get_or v.items at 0) shifts in
    let command : IsTrue (is_command own.entry.event) = subst (λ (e : Event). IsTrue (is_command e)) (sym event) is in
    once_uses own (uses_of a no_retries) (uses_of b no_retries) within.shifts (λ at local. refl) (record {
      one = is_use own.entry.event (stimuli_of a own.who) (stimuli_of b own.who) (shifts_of a own.who) (shifts_of b own.who) command
          (ap (λ (l : List Turn). events_for own.who l) left
          ∙ (own_event turn (drop (a.used + 1) a.commands.items) own.who who
          ∙ (ap (λ (e : Event). e ∷ events_for own.who (drop (a.used + 1) a.commands.items)) (sym event) ∙ ap (λ (l : List Event). own.entry.event ∷ l) (sym (after own.who)))))
          (same own.who);
      few = subst (λ (n : ℕ). n ≤ SHIFT_LIMIT) (sym (same own.who)) (within.shifts own.who);
      retries = λ local. no_retry own.entry.event local command;
      stimuli_stay = λ other apart. after other
          ∙ sym (ap (λ (l : List Turn). events_for other l) left ∙ other_event turn (drop (a.used + 1) a.commands.items) other (λ is. apart (is ∙ sym who)));
      shifts_stay = λ other apart. same other;
      retries_stay = λ other local apart. refl;
    })

-- ---- a Take

-- all commands and counts as they were
pub record IsIdle (a b : Part) : Type 0 where
  pub used : b.used ≡ a.used
  pub commands : b.commands ≡ a.commands
  pub shifts : b.shifts ≡ a.shifts

idle_stimuli : (a b : Part) (at : ℕ) → IsIdle a b → stimuli_of b at ≡ stimuli_of a at
idle_stimuli a b at idle = ap (λ (n : ℕ). events_for at (drop n b.commands.items)) idle.used ∙ ap (λ (v : Vec Turn Global). events_for at (drop a.used v.items)) idle.commands

idle_shifts : (a b : Part) (at : ℕ) → IsIdle a b → shifts_of b at ≡ shifts_of a at
idle_shifts a b at idle = ap (λ (v : Vec ℕ Global). get_or v.items at 0) idle.shifts

pub take_uses : (a b : Part) (own : Own) (local : ℕ) → IsWithin a → own.entry.event ≡ Take local → IsIdle a b → AreOwnUses (own ∷ []) (uses_of a no_retries) (uses_of b no_retries)
take_uses a b own local within event idle = once_uses own (uses_of a no_retries) (uses_of b no_retries) within.shifts (λ at local. refl) (record {
  one = subst (λ (e : Event). UsesOne e (stimuli_of a own.who) (stimuli_of b own.who) (shifts_of a own.who) (shifts_of b own.who)) (sym event)
      (sym (idle_stimuli a b own.who idle), idle_shifts a b own.who idle);
  few = subst (λ (n : ℕ). n ≤ SHIFT_LIMIT) (sym (idle_shifts a b own.who idle)) (within.shifts own.who);
  retries = λ slot. ap (λ (e : Event). 0 + retry_count e slot) (sym event);
  stimuli_stay = λ other apart. idle_stimuli a b other idle;
  shifts_stay = λ other apart. idle_shifts a b other idle;
  retries_stay = λ other slot apart. refl;
})

-- ---- a Shift

pub shift_uses : (a b : Part) (own : Own) (who : ℕ) → IsWithin a → own.who ≡ who → own.entry.event ≡ Shift → b.used ≡ a.used → b.commands ≡ a.commands → b.shifts.items ≡ set a.shifts.items who (shifts_of a who + 1)
    → who < length a.shifts.items → shifts_of a who < SHIFT_LIMIT → AreOwnUses (own ∷ []) (uses_of a no_retries) (uses_of b no_retries)
shift_uses a b own who within is event used commands shifts inside fewer =
    let stays : (at : ℕ) → stimuli_of b at ≡ stimuli_of a at =
    λ at. ap (λ (n : ℕ). events_for at (drop n b.commands.items)) used ∙ ap (λ (v : Vec Turn Global). events_for at (drop a.used v.items)) commands in
    let more : shifts_of b own.who ≡ shifts_of a own.who + 1 =
    ap (λ (n : ℕ). shifts_of b n) is ∙ (ap (λ (l : List ℕ). get_or l who 0) shifts ∙ (get_or-set_same a.shifts.items who (shifts_of a who + 1) 0 inside ∙ ap (λ (n : ℕ). shifts_of a n + 1) (sym is))) in
    let fewer_own : shifts_of a own.who < SHIFT_LIMIT = subst (λ (n : ℕ). shifts_of a n < SHIFT_LIMIT) (sym is) fewer in
    once_uses own (uses_of a no_retries) (uses_of b no_retries) within.shifts (λ at local. refl) (record {
      one = subst (λ (e : Event). UsesOne e (stimuli_of a own.who) (stimuli_of b own.who) (shifts_of a own.who) (shifts_of b own.who)) (sym event) (sym (stays own.who), more);
      few = omega (arith, more, fewer_own);
      retries = λ slot. ap (λ (e : Event). 0 + retry_count e slot) (sym event);
      stimuli_stay = λ other apart. stays other;
      shifts_stay = λ other apart. ap (λ (l : List ℕ). get_or l other 0) shifts ∙ get_or-set_other a.shifts.items who other (shifts_of a who + 1) 0 (λ same. apart (same ∙ sym is));
      retries_stay = λ other slot apart. refl;
    })

-- ---- a retry

-- one retry of this slot
abbrev pub once_at : ℕ → ℕ → ℕ → ℕ → ℕ
once_at who local at slot = if at == who && slot == local then 1 else 0

here_once : (who local at slot : ℕ) → at ≡ who → once_at who local at slot ≡ 0 + retry_count (Retry local) slot
here_once who local at slot same = grind (arith, common_steps)

away_once : (who local at slot : ℕ) → at ≢ who → once_at who local at slot ≡ 0
away_once who local at slot apart = grind (arith, common_steps)

pub retry_uses : (a b : Part) (own : Own) (who local : ℕ) → IsWithin a → own.who ≡ who → own.entry.event ≡ Retry local → IsIdle a b → AreOwnUses (own ∷ []) (uses_of a no_retries) (uses_of b (once_at who local))
retry_uses a b own who local within is event idle = once_uses own (uses_of a no_retries) (uses_of b (once_at who local)) within.shifts (λ at slot. refl) (record {
  one = subst (λ (e : Event). UsesOne e (stimuli_of a own.who) (stimuli_of b own.who) (shifts_of a own.who) (shifts_of b own.who)) (sym event)
      (sym (idle_stimuli a b own.who idle), idle_shifts a b own.who idle);
  few = subst (λ (n : ℕ). n ≤ SHIFT_LIMIT) (sym (idle_shifts a b own.who idle)) (within.shifts own.who);
  retries = λ slot. here_once who local own.who slot is ∙ ap (λ (e : Event). 0 + retry_count e slot) (sym event);
  stimuli_stay = λ other apart. idle_stimuli a b other idle;
  shifts_stay = λ other apart. idle_shifts a b other idle;
  retries_stay = λ other slot apart. away_once who local other slot (λ same. apart (same ∙ sym is));
})

-- ---- the next command

pub next_is_first : NextIsFirst
next_is_first part turn next = (
  events_for turn.who (drop (part.used + 1) part.commands.items),
  ap (λ (l : List Turn). events_for turn.who l) (first_left part.commands.items part.used turn next) ∙ own_event turn (drop (part.used + 1) part.commands.items) turn.who refl,
)

pub first_is : (a : Part) (turn : Turn) → slice_get a.commands.items a.used ≡ Some turn → stimuli_of a turn.who ≡ turn.event ∷ events_for turn.who (drop (a.used + 1) a.commands.items)
first_is a turn next = ap (λ (l : List Turn). events_for turn.who l) (first_left a.commands.items a.used turn next) ∙ own_event turn (drop (a.used + 1) a.commands.items) turn.who refl
