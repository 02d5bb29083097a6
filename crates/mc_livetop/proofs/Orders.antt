-- What holds of the commands of a batch holds of those of its orders.
use Rattle.std.proofs.Common.{◌≡◌, ◌==◌, ◌&&◌, ◌<◌, ◌+◌, ◌%◌, cond, ℕ, Bool, true, false, All, List, [], ◌∷◌, arith, length, refl, subst, sym, ◌∙◌}
use Rattle.std.specs.List.{AllByRecursion}
use Rattle.std.proofs.lemmas.Bool.{and_parts, eq-eqb}
use Rattle.std.proofs.lemmas.List.Elements.{All-cons, All-from_recursion, All-head, All-nil, All-tail, recursion_from_All}
use Rattle.mc_box.specs.BoxEvents.{is_command}
use Rattle.mc_box.specs.declared.event.Turn.{Turn}
use Rattle.mc_live_settle.proofs.Dealt.{hand_there, hands_count}
use Rattle.mc_live_settle.specs.Orders.{AreInterleaved, AreOrdersOf, IsOrderOf, hand_from, hand_of, hands_for, owned_by}
use Rattle.mc_model.specs.Settles.{commands_of}
use Rattle.mc_seq.proofs.Segments.{both_there}

-- it holds of a turn, if this is a command
abbrev pub OfCommand : (Turn → Type 0) → Turn → Type 0
OfCommand P turn = is_command turn.event ≡ true → P turn

-- ---- one more, or none

kept_if : (P : Turn → Type 0) (here : Bool) (turn : Turn) (turns : List Turn) → (here ≡ true → P turn) → AllByRecursion P turns → AllByRecursion P (cond here (turn ∷ turns) turns)
kept_if P true turn turns one all = (one refl, all)
kept_if P false turn turns one all = all

first_of : (P : Turn → Type 0) (here : Bool) (turn : Turn) (turns : List Turn) → here ≡ true → AllByRecursion P (cond here (turn ∷ turns) turns) → P turn
first_of P true turn turns is all = all.0
first_of P false turn turns is all = absurd (cc)

others_of : (P : Turn → Type 0) (here : Bool) (turn : Turn) (turns : List Turn) → AllByRecursion P (cond here (turn ∷ turns) turns) → AllByRecursion P turns
others_of P true turn turns all = all.1
others_of P false turn turns all = all

-- ---- hands

-- what holds of all turns holds of those in a hand
hand_holds : (P : Turn → Type 0) (operators operator place : ℕ) (batch : List Turn) → AllByRecursion P batch → AllByRecursion P (hand_from operators operator place batch)
hand_holds P operators operator place [] all = tt
hand_holds P operators operator place (turn ∷ batch) all =
    kept_if P (place % operators == operator) turn (hand_from operators operator (place + 1) batch) (λ here. all.0) (hand_holds P operators operator (place + 1) batch all.1)

-- ---- commands by box

commands_hold : (P : Turn → Type 0) (who : ℕ) (turns : List Turn) → AllByRecursion (OfCommand P) turns → AllByRecursion P (commands_of who turns)
commands_hold P who [] all = tt
commands_hold P who (turn ∷ turns) all =
    kept_if P (is_command turn.event && turn.who == who) turn (commands_of who turns) (λ here. all.0 (and_parts (is_command turn.event) (turn.who == who) here).0) (commands_hold P who turns all.1)

all_commands : (P : Turn → Type 0) (turns : List Turn) → ((who : ℕ) → AllByRecursion P (commands_of who turns)) → AllByRecursion (OfCommand P) turns
all_commands P [] each = tt
all_commands P (turn ∷ turns) each = (
  λ command.
      first_of P (is_command turn.event && turn.who == turn.who) turn (commands_of turn.who turns)
      (both_there (is_command turn.event) (turn.who == turn.who) command (eq-eqb turn.who turn.who refl)) (each turn.who),
  all_commands P turns (λ who. others_of P (is_command turn.event && turn.who == who) turn (commands_of who turns) (each who)),
)

-- ---- lists in one another's midst

-- what holds of the entries of each owner holds of all
owned_hold : (P : Turn → Type 0) (count : ℕ) (owners : List ℕ) (whole : List Turn) → length owners ≡ length whole → AllByRecursion (λ (owner : ℕ). owner < count) owners
    → ((owner : ℕ) → owner < count → AllByRecursion P (owned_by owner owners whole)) → AllByRecursion P whole
owned_hold P count [] [] same known each = tt
owned_hold P count [] (turn ∷ whole) same known each = absurd (omega (arith, same))
owned_hold P count (other ∷ owners) [] same known each = tt
owned_hold P count (other ∷ owners) (turn ∷ whole) same known each = (
  first_of P (other == other) turn (owned_by other owners whole) (eq-eqb other other refl) (each other known.0),
  owned_hold P count owners whole (omega (arith, same)) known.1 (λ owner low. others_of P (other == owner) turn (owned_by owner owners whole) (each owner low)),
)

-- ---- orders

of_box : (P : Turn → Type 0) (operators : ℕ) (batch order : List Turn) → IsOrderOf operators batch order → AllByRecursion (OfCommand P) batch → (who : ℕ) → AllByRecursion P (commands_of who order)
of_box P operators batch order is all who =
    let are : AreInterleaved (hands_for who operators batch) (commands_of who order) = is.each who in
    owned_hold P (length (hands_for who operators batch)) are.owners (commands_of who order) are.count are.known (λ owner low.
    let there = hand_there who operators batch owner (subst (λ (n : ℕ). owner < n) (hands_count who operators batch) low) in
    subst (λ (turns : List Turn). AllByRecursion P turns) (sym (are.each owner low ∙ there))
    (commands_hold P who (hand_of operators batch owner) (hand_holds (OfCommand P) operators owner 0 batch all)))

pub order_holds : (P : Turn → Type 0) (operators : ℕ) (batch order : List Turn) → IsOrderOf operators batch order → All (OfCommand P) batch → All (OfCommand P) order
order_holds P operators batch order is all =
    All-from_recursion (OfCommand P) order
    (all_commands P order (of_box P operators batch order is (recursion_from_All (OfCommand P) batch all)))

-- so of those of all batches
pub orders_hold : (P : Turn → Type 0) (operators : ℕ) (batches orders : List (List Turn)) → AreOrdersOf operators batches orders → All (All (OfCommand P)) batches → All (All (OfCommand P)) orders
orders_hold P operators [] [] are all = All-nil (All (OfCommand P))
orders_hold P operators [] (order ∷ orders) are all = absurd are
orders_hold P operators (batch ∷ batches) [] are all = absurd are
orders_hold P operators (batch ∷ batches) (order ∷ orders) are all =
    All-cons (All (OfCommand P)) order orders (order_holds P operators batch order are.0 (All-head (All (OfCommand P)) batch batches all))
    (orders_hold P operators batches orders are.1 (All-tail (All (OfCommand P)) batch batches all))
