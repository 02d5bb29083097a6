-- Which turns phases make, once all commands are used up.
use Rattle.std.proofs.Common.{◌≡◌, ◌+◌, ◌++◌, ◌&&◌, ◌||◌, ◌==◌, cond, if◌then◌else◌, ℕ, Bool, true, false, List, [], ◌∷◌, count_by, refl, ap, sym, ◌∙◌, arith}
use Rattle.std.specs.List.{list_all}
use Rattle.std.proofs.lemmas.List.Folds.{list_all-append}
use Rattle.std.proofs.lemmas.List.Sums.{sum_by-cons}
use Rattle.std.proofs.lemmas.Bool.{and_from, and_parts, eq-eqb}
use Rattle.mc_box.specs.BoxEvents.{is_command, is_shift, is_take}
use Rattle.mc_box.specs.declared.event.Event.{Event}
use Rattle.mc_box.specs.declared.event.Event.TheVariants.{Take, Set, Media, Tell, Retry, Shift}
use Rattle.mc_box.specs.declared.event.Turn.{Turn}
use Rattle.mc_model.specs.Settles.{commands_of, is_retry_of, takes_or_retries}
use Rattle.mc_rounds.specs.Playing.{all_take, some_shift}

-- no turn of these is a command
abbrev pub NoCommands : List Turn → Type 0
NoCommands turns = (who : ℕ) → commands_of who turns ≡ []

-- nor a retry
abbrev pub NoRetries : List Turn → Type 0
NoRetries turns = (who local : ℕ) → count_by (is_retry_of who local) turns ≡ 0

-- ---- the first turn, and the others

-- a list of which nothing passes has a first that fails
none_kept : (command : Bool) (turn : Turn) (turns : List Turn)
    → (if command && true then turn ∷ turns else turns) ≡ [] → command ≡ false
none_kept true turn turns is = absurd cc
none_kept false turn turns is = refl

-- and the others fail too
rest_kept : (command mine : Bool) (turn : Turn) (turns : List Turn)
    → (if command && mine then turn ∷ turns else turns) ≡ [] → turns ≡ []
rest_kept true true turn turns is = absurd cc
rest_kept true false turn turns is = is
rest_kept false mine turn turns is = is

-- the first turn is no command
first_none : (turn : Turn) (turns : List Turn) → NoCommands (turn ∷ turns) → is_command turn.event ≡ false
first_none turn turns none =
    let others : List Turn = commands_of turn.who turns in
    let mine : (if is_command turn.event && true then turn ∷ others else others) ≡ [] =
    ap (λ (b : Bool). if is_command turn.event && b then turn ∷ others else others)
    (sym (eq-eqb turn.who turn.who refl))
    ∙ none turn.who in
    none_kept (is_command turn.event) turn others mine

-- nor is any other
rest_none : (turn : Turn) (turns : List Turn) → NoCommands (turn ∷ turns) → NoCommands turns
rest_none turn turns none who =
    rest_kept (is_command turn.event) (turn.who == who) turn (commands_of who turns) (none who)

-- a count that is none has a first that doesn't count
zero_first : (b : Bool) (n m : ℕ) → n ≡ cond b 1 0 + m → n ≡ 0 → (b ≡ false) × (m ≡ 0)
zero_first true n m sum none = absurd (omega (arith, sum, none))
zero_first false n m sum none = (refl, omega (arith, sum, none))

-- so neither the first turn is a retry, nor any other
unretried_parts : (turn : Turn) (turns : List Turn) (who local : ℕ) → NoRetries (turn ∷ turns)
    → (is_retry_of who local turn ≡ false) × (count_by (is_retry_of who local) turns ≡ 0)
unretried_parts turn turns who local none =
    let all : ℕ = count_by (is_retry_of who local) (turn ∷ turns) in
    let others : ℕ = count_by (is_retry_of who local) turns in
    zero_first (is_retry_of who local turn) all others
    (sum_by-cons (λ (t : Turn). cond (is_retry_of who local t) 1 0) turn turns) (none who local)

-- of two tests neither holds
pub either_false : (a b : Bool) → (a || b) ≡ false → (a ≡ false) × (b ≡ false)
either_false true b is = absurd cc
either_false false b is = (refl, is)

-- ---- Takes alone

-- a turn that is none of the others is a Take
take_alone : (who : ℕ) (event : Event) → is_command event ≡ false
    → ((local : ℕ) → is_retry_of who local (record { who = who; event = event }) ≡ false)
    → is_shift event ≡ false → is_take event ≡ true
take_alone who (Take local) command retry off = refl
take_alone who (Set change) command retry off = absurd cc
take_alone who (Media change) command retry off = absurd cc
take_alone who (Tell word) command retry off = absurd cc
take_alone who (Retry local) command retry off =
    absurd (let not = retry local in
    let on : (local == local && who == who) ≡ true = rw (eq-eqb local local refl, eq-eqb who who refl) refl in
    cc)
take_alone who Shift command retry off = absurd cc

-- so turns without commands, retries and Shifts are all Takes
pub takes_alone : (turns : List Turn) → NoCommands turns → NoRetries turns → some_shift turns ≡ false
    → all_take turns ≡ true
takes_alone [] none unretried off = refl
takes_alone (turn ∷ turns) none unretried off =
    let unshifted = either_false (is_shift turn.event) (some_shift turns) off in
    and_from (is_take turn.event) (all_take turns)
    (take_alone turn.who turn.event (first_none turn turns none)
    (λ local. (unretried_parts turn turns turn.who local unretried).0) unshifted.0)
    (takes_alone turns (rest_none turn turns none) (λ who local. (unretried_parts turn turns who local unretried).1)
    unshifted.1)

-- Takes after Takes
pub both_take : (one two : List Turn) → all_take one ≡ true → all_take two ≡ true → all_take (one ++ two) ≡ true
both_take one two p q =
    list_all-append (λ (turn : Turn). is_take turn.event) one two ∙ and_from (all_take one) (all_take two) p q

-- a Shift somewhere in the second list
pub shift_after : (one two : List Turn) → some_shift two ≡ true → some_shift (one ++ two) ≡ true
shift_after [] two some = some
shift_after (turn ∷ one) two some = or_true (is_shift turn.event) (some_shift (one ++ two)) (shift_after one two some)
  where
    or_true : (a b : Bool) → b ≡ true → (a || b) ≡ true
    or_true true b is = refl
    or_true false b is = is

-- ---- Takes and retries

-- a turn that is neither a command nor a Shift
take_or_retry : (event : Event) → is_command event ≡ false → is_shift event ≡ false → takes_or_retries event ≡ true
take_or_retry (Take local) command shift = refl
take_or_retry (Set change) command shift = absurd cc
take_or_retry (Media change) command shift = absurd cc
take_or_retry (Tell word) command shift = absurd cc
take_or_retry (Retry local) command shift = refl
take_or_retry Shift command shift = absurd cc

-- so all of them are
pub takes_and_retries : (turns : List Turn) → NoCommands turns → some_shift turns ≡ false
    → list_all (λ turn. takes_or_retries turn.event) turns ≡ true
takes_and_retries [] none off = refl
takes_and_retries (turn ∷ turns) none off =
    let unshifted = either_false (is_shift turn.event) (some_shift turns) off in
    and_from (takes_or_retries turn.event) (list_all (λ turn. takes_or_retries turn.event) turns)
    (take_or_retry turn.event (first_none turn turns none) unshifted.0)
    (takes_and_retries turns (rest_none turn turns none) unshifted.1)

-- a Take is one
take_besides : (event : Event) → is_take event ≡ true → takes_or_retries event ≡ true
take_besides (Take local) is = refl
take_besides (Set change) is = absurd cc
take_besides (Media change) is = absurd cc
take_besides (Tell word) is = absurd cc
take_besides (Retry local) is = absurd cc
take_besides Shift is = absurd cc

-- all of them
pub takes_besides : (turns : List Turn) → all_take turns ≡ true
    → list_all (λ turn. takes_or_retries turn.event) turns ≡ true
takes_besides [] all = refl
takes_besides (turn ∷ turns) all =
    let parts = and_parts (is_take turn.event) (all_take turns) all in
    and_from (takes_or_retries turn.event) (list_all (λ turn. takes_or_retries turn.event) turns)
    (take_besides turn.event parts.0) (takes_besides turns parts.1)

-- a Take is no retry
turn_unretried : (event : Event) (by who local : ℕ) → is_take event ≡ true
    → is_retry_of who local (record { who = by; event = event }) ≡ false
turn_unretried (Take slot) by who local is = refl
turn_unretried (Set change) by who local is = absurd cc
turn_unretried (Media change) by who local is = absurd cc
turn_unretried (Tell word) by who local is = absurd cc
turn_unretried (Retry slot) by who local is = absurd cc
turn_unretried Shift by who local is = absurd cc

-- a turn that doesn't count, before none that do
none_counted : (b : Bool) (n m : ℕ) → n ≡ cond b 1 0 + m → b ≡ false → m ≡ 0 → n ≡ 0
none_counted true n m sum off none = absurd cc
none_counted false n m sum off none = omega arith

-- so no Take of these is one
pub takes_unretried : (turns : List Turn) → all_take turns ≡ true → NoRetries turns
takes_unretried [] all who local = refl
takes_unretried (turn ∷ turns) all who local =
    let parts = and_parts (is_take turn.event) (all_take turns) all in
    none_counted (is_retry_of who local turn) (count_by (is_retry_of who local) (turn ∷ turns))
    (count_by (is_retry_of who local) turns)
    (sum_by-cons (λ (t : Turn). cond (is_retry_of who local t) 1 0) turn turns)
    (turn_unretried turn.event turn.who who local parts.0) (takes_unretried turns parts.1 who local)
