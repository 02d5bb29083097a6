-- How many Hears turns have, and their commands.
use Rattle.std.proofs.Common.{◌≡◌, ◌==◌, ◌&&◌, ◌+◌, ◌≤◌, cond, if◌then◌else◌, ℕ, zero, suc, Bool, true, false, List, [], ◌∷◌, take, slice_get, Some, refl, ap, sym, ◌∙◌, arith}
use Rattle.std.proofs.lemmas.List.Sums.{sum_by-cons}
use Rattle.mc_box.specs.BoxEvents.{is_command}
use Rattle.mc_box.specs.declared.event.Event.{Event}
use Rattle.mc_box.specs.declared.event.Event.TheVariants.{Take, Set, Media, Tell, Retry, Shift}
use Rattle.mc_box.specs.declared.event.Turn.{Turn}
use Rattle.mc_model.specs.Settles.{commands_of, hears_of, is_hear_at, is_hear_of}
use Rattle.mc_laws.specs.Versions.{SettlesCountHears}

-- a turn counts, or doesn't
abbrev pub counted : ℕ → ℕ → Turn → ℕ
counted who local turn = if is_hear_of who local turn then 1 else 0

-- one turn more
pub hears_cons : (who local : ℕ) (turn : Turn) (turns : List Turn) → hears_of who local (turn ∷ turns) ≡ counted who local turn + hears_of who local turns
hears_cons who local turn turns = sum_by-cons (λ (t : Turn). cond (is_hear_of who local t) 1 0) turn turns

-- a Hear is a command
hear_commands : (event : Event) (local : ℕ) → is_command event ≡ false → is_hear_at local event ≡ false
hear_commands (Take slot) local is = refl
hear_commands (Set change) local is = absurd cc
hear_commands (Media change) local is = absurd cc
hear_commands (Tell word) local is = absurd cc
hear_commands (Retry slot) local is = refl
hear_commands Shift local is = refl

-- one that both tests pass
abbrev one_if : Bool → Bool → ℕ
one_if hears mine = if hears && mine then 1 else 0

of_other : (hears mine : Bool) → mine ≡ false → one_if hears mine ≡ 0
of_other true mine is = rw is refl
of_other false mine is = refl

of_none : (hears mine : Bool) → hears ≡ false → one_if hears mine ≡ 0
of_none hears mine is = rw is refl

kept_by : (command mine : Bool) (who local : ℕ) (turn : Turn) (rest : List Turn) → is_command turn.event ≡ command → (turn.who == who) ≡ mine
    → hears_of who local (if command && mine then turn ∷ rest else rest) ≡ counted who local turn + hears_of who local rest
kept_by true true who local turn rest is same = hears_cons who local turn rest
kept_by true false who local turn rest is same =
    let none : counted who local turn ≡ 0 = of_other (is_hear_at local turn.event) (turn.who == who) same in omega arith
kept_by false mine who local turn rest is same =
    let none : counted who local turn ≡ 0 = of_none (is_hear_at local turn.event) (turn.who == who) (hear_commands turn.event local is) in omega arith

-- the commands of its box have the Hears of a slot
pub commands_hear : (turns : List Turn) (who local : ℕ) → hears_of who local (commands_of who turns) ≡ hears_of who local turns
commands_hear [] who local = refl
commands_hear (turn ∷ turns) who local =
    kept_by (is_command turn.event) (turn.who == who) who local turn (commands_of who turns) refl refl
    ∙ (ap (λ (n : ℕ). counted who local turn + n) (commands_hear turns who local) ∙ sym (hears_cons who local turn turns))

-- so a settled segment has those of its batch
pub settles_count_hears : SettlesCountHears
settles_count_hears world last batch turns settled who local =
    sym (commands_hear turns who local) ∙ (ap (hears_of who local) (settled.commands who) ∙ commands_hear batch who local)

-- the first turns, and one Hear after them, are among all
pub hears_first : (turns : List Turn) (n who local : ℕ) (turn : Turn) → slice_get turns n ≡ Some turn → is_hear_of who local turn ≡ true
    → hears_of who local (take n turns) + 1 ≤ hears_of who local turns
hears_first [] n who local turn is hears = absurd cc
hears_first (first ∷ turns) zero who local turn is hears =
    let same : first ≡ turn = cc in
    let one : counted who local first ≡ 1 = rw (same, hears) refl in
    let all = hears_cons who local first turns in
    omega arith
hears_first (first ∷ turns) (suc n) who local turn is hears =
    let rest = hears_first turns n who local turn is hears in
    let all = hears_cons who local first turns in
    let some = hears_cons who local first (take n turns) in
    omega arith
