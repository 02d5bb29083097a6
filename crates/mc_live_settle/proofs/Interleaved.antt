-- What boxes took of operators, each of whom asked for its hand, comes in an order of the hands.
use Rattle.std.proofs.Common.{◌≡◌, ◌<◌, ◌==◌, ◌&&◌, cond, ℕ, zero, suc, Bool, true, false, List, [], ◌∷◌, ◌++◌, length, map, filter_map, get_or, Option, None, Some, refl, sym, ap, ◌∙◌, subst, arith}
use Rattle.std.specs.List.{AllByRecursion, list_all}
use Rattle.std.proofs.lemmas.Bool.{and_parts, eq-eqb, eqb-true}
use Rattle.std.proofs.lemmas.List.{append-nil, get_or-map, length-map}
use Rattle.mc_box.specs.BoxEvents.{is_command, turn_of}
use Rattle.mc_box.specs.declared.event.Event.{Event}
use Rattle.mc_box.specs.declared.event.Turn.{Turn}
use Rattle.mc_desk.specs.Histories.{requests_of}
use Rattle.mc_desk.specs.declared.request.Request.{Request}
use Rattle.mc_laws.proofs.CommandsGo.{allowed_parts}
use Rattle.mc_live.specs.Askers.{asks_for, turns_for}
use Rattle.mc_live.specs.Ends.{AreAsksFor, hand_at}
use Rattle.mc_live.specs.Requests.{events_asked}
use Rattle.mc_live_settle.specs.Orders.{AreInterleaved, owned_by}
use Rattle.mc_model.specs.Settles.{commands_of}
use Rattle.mc_model.specs.Shapes.{AreAllowed, is_allowed}
use Rattle.mc_model.specs.Worlds.{WorldState}

-- ---- the operators of events

abbrev owner_if : Option Event → ℕ → List ℕ → List ℕ
owner_if None operator owners = owners
owner_if (Some event) operator owners = operator ∷ owners

-- of each event that was asked for, who asked
abbrev owners_of : List Request → List ℕ
owners_of [] = []
owners_of (request ∷ requests) = owner_if request.event request.operator (owners_of requests)

abbrev event_if : Option Event → List Event → List Event
event_if None events = events
event_if (Some event) events = event ∷ events

events_first : (request : Request) (requests : List Request) → events_asked (request ∷ requests) ≡ event_if request.event (events_asked requests)
events_first request requests = by_event request.event request requests refl where
  by_event : (event : Option Event) (request : Request) (requests : List Request) → request.event ≡ event → events_asked (request ∷ requests) ≡ event_if event (events_asked requests)
  by_event None request requests is = rw is refl
  by_event (Some event) request requests is = rw is refl

-- there is one for each
count_if : (event : Option Event) (operator : ℕ) (owners : List ℕ) (events : List Event) → length owners ≡ length events → length (owner_if event operator owners) ≡ length (event_if event events)
count_if None operator owners events same = same
count_if (Some event) operator owners events same = omega (arith, same)

owners_count : (requests : List Request) → length (owners_of requests) ≡ length (events_asked requests)
owners_count [] = refl
owners_count (request ∷ requests) =
    count_if request.event request.operator (owners_of requests) (events_asked requests) (owners_count requests)
    ∙ ap (λ (l : List Event). length l) (sym (events_first request requests))

-- and each is known
known_if : (event : Option Event) (n operator : ℕ) (owners : List ℕ) → operator < n → AllByRecursion (λ (owner : ℕ). owner < n) owners → AllByRecursion (λ (owner : ℕ). owner < n) (owner_if event operator owners)
known_if None n operator owners low all = all
known_if (Some event) n operator owners low all = (low, all)

owners_known : (n : ℕ) (requests : List Request) → AllByRecursion (λ (request : Request). request.operator < n) requests → AllByRecursion (λ (owner : ℕ). owner < n) (owners_of requests)
owners_known n [] known = tt
owners_known n (request ∷ requests) known = known_if request.event n request.operator (owners_of requests) known.0 (owners_known n requests known.1)

-- ---- the events of one operator

-- those that it owns are those that it asked for
owned_if : (event : Option Event) (who owner operator : ℕ) (owners : List ℕ) (events : List Event) (here : Bool) → (operator == owner) ≡ here
    → owned_by owner (owner_if event operator owners) (map (turn_of who) (event_if event events)) ≡ map (turn_of who) (event_if (cond here event None) []) ++ owned_by owner owners (map (turn_of who) events)
owned_if None who owner operator owners events true is = refl
owned_if None who owner operator owners events false is = refl
owned_if (Some event) who owner operator owners events true is = rw is refl
owned_if (Some event) who owner operator owners events false is = rw is refl

asked_if : (here : Bool) (event : Option Event) (who : ℕ) (request : Request) (requests : List Request) → request.event ≡ event
    → map (turn_of who) (events_asked (cond here (request ∷ requests) requests)) ≡ map (turn_of who) (event_if (cond here event None) []) ++ map (turn_of who) (events_asked requests)
asked_if true None who request requests is = rw is refl
asked_if true (Some event) who request requests is = rw is refl
asked_if false event who request requests is = refl

owned_asked : (who owner : ℕ) (requests : List Request) → owned_by owner (owners_of requests) (map (turn_of who) (events_asked requests)) ≡ map (turn_of who) (events_asked (requests_of owner requests))
owned_asked who owner [] = refl
owned_asked who owner (request ∷ requests) =
    let event = request.event in
    let here = request.operator == owner in
    ap (λ (l : List Event). owned_by owner (owners_of (request ∷ requests)) (map (turn_of who) l)) (events_first request requests)
    ∙ (owned_if event who owner request.operator (owners_of requests) (events_asked requests) here refl
    ∙ (ap (λ (l : List Turn). map (turn_of who) (event_if (cond here event None) []) ++ l) (owned_asked who owner requests)
    ∙ sym (asked_if here event who request (requests_of owner requests) refl)))

-- ---- what an operator asked for

abbrev events_in : List (Option Event) → List Event
events_in [] = []
events_in (event ∷ events) = event_if event (events_in events)

asked_in : (requests : List Request) → events_asked requests ≡ events_in (map (λ (request : Request). request.event) requests)
asked_in [] = refl
asked_in (request ∷ requests) = events_first request requests ∙ ap (event_if request.event) (asked_in requests)

-- the turns of a hand for a box, asked for and read back
again_if : (here : Bool) (who : ℕ) (turn : Turn) (turns : List Turn) → (turn.who == who) ≡ here → map (turn_of who) (events_in (map (λ (t : Turn). Some t.event) turns ++ None ∷ [])) ≡ turns
    → map (turn_of who) (events_in (map (λ (t : Turn). Some t.event) (cond here (turn ∷ turns) turns) ++ None ∷ [])) ≡ cond here (turn ∷ turns) turns
again_if true who turn turns is rest =
    let same : turn_of who turn.event ≡ turn = ap (λ (n : ℕ). record { who = n; event = turn.event }) (sym (eqb-true turn.who who is)) in
    ap (λ (t : Turn). t ∷ map (turn_of who) (events_in (map (λ (t : Turn). Some t.event) turns ++ None ∷ []))) same ∙ ap (λ (l : List Turn). turn ∷ l) rest
again_if false who turn turns is rest = rest

read_back : (who : ℕ) (hand : List Turn) → map (turn_of who) (events_in (asks_for who hand ++ None ∷ [])) ≡ turns_for who hand
read_back who [] = refl
read_back who (turn ∷ hand) = again_if (turn.who == who) who turn (turns_for who hand) refl (read_back who hand)

-- which are its commands, where all turns are
commands_if : (command here : Bool) (turn : Turn) (one two : List Turn) → command ≡ true → one ≡ two → cond here (turn ∷ one) one ≡ cond (command && here) (turn ∷ two) two
commands_if true here turn one two is same = ap (λ (l : List Turn). cond here (turn ∷ l) l) same
commands_if false here turn one two is same = absurd (cc)

all_commands : (world : WorldState) (who : ℕ) (hand : List Turn) → AreAllowed world hand → turns_for who hand ≡ commands_of who hand
all_commands world who [] allowed = refl
all_commands world who (turn ∷ hand) allowed =
    let parts = and_parts (is_allowed world turn) (list_all (is_allowed world) hand) allowed in
    commands_if (is_command turn.event) (turn.who == who) turn (turns_for who hand) (commands_of who hand) (allowed_parts world turn parts.0).command (all_commands world who hand parts.1)

-- of an operator a box has the commands of its hand
owned_hand : (world : WorldState) (who owner : ℕ) (hand : List Turn) (requests : List Request) → AreAllowed world hand → AreAsksFor who hand (requests_of owner requests)
    → owned_by owner (owners_of requests) (map (turn_of who) (events_asked requests)) ≡ commands_of who hand
owned_hand world who owner hand requests allowed asked =
    owned_asked who owner requests
    ∙ (ap (map (turn_of who)) (asked_in (requests_of owner requests))
    ∙ (ap (λ (l : List (Option Event)). map (turn_of who) (events_in l)) asked
    ∙ (read_back who hand ∙ all_commands world who hand allowed)))

-- ---- all operators

pub all_there : {X : Type 0} (P : X → Type 0) (xs : List X) (k : ℕ) (d : X) → k < length xs → AllByRecursion P xs → P (get_or xs k d)
all_there P [] k d low all = absurd (omega (arith, low))
all_there P (x ∷ xs) zero d low all = all.0
all_there P (x ∷ xs) (suc k) d low all = all_there P xs k d (omega (arith, low)) all.1

-- what a box took comes in an order of the hands' commands for it
pub interleaved : (world : WorldState) (who : ℕ) (hands : List (List Turn)) (requests : List Request) → AllByRecursion (AreAllowed world) hands → AllByRecursion (λ (request : Request). request.operator < length hands) requests
    → ((operator : ℕ) → operator < length hands → AreAsksFor who (hand_at hands operator) (requests_of operator requests))
    → AreInterleaved (map (commands_of who) hands) (map (turn_of who) (events_asked requests))
interleaved world who hands requests allowed known asked = record {
  owners = owners_of requests;
  count = owners_count requests ∙ sym (length-map (events_asked requests) (turn_of who));
  known = owners_known (length (map (commands_of who) hands)) requests (subst (λ (n : ℕ). AllByRecursion (λ (request : Request). request.operator < n) requests) (sym (length-map hands (commands_of who))) known);
  each = λ owner within.
      let low : owner < length hands = subst (λ (n : ℕ). owner < n) (length-map hands (commands_of who)) within in
      owned_hand world who owner (hand_at hands owner) requests (all_there (AreAllowed world) hands owner [] low allowed) (asked owner low)
      ∙ sym (get_or-map (commands_of who) hands owner [] [] low);
}

-- of a box that none has asked
pub interleaved_none : (lists : List (List Turn)) → ((k : ℕ) → k < length lists → get_or lists k [] ≡ []) → AreInterleaved lists []
interleaved_none lists none = record { owners = []; count = refl; known = tt; each = λ owner low. sym (none owner low) }
