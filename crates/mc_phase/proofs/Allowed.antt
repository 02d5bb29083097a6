-- What boxes were asked, they can make.
use Rattle.std.proofs.Common.{◌≡◌, ℕ, ◌<◌, ◌==◌, Bool, true, false, IsTrue, cond, List, [], ◌∷◌, ◌++◌, length, map, nat_lt, Option, None, Some, refl, sym, subst}
use Rattle.std.specs.List.{AllByRecursion, list_all}
use Rattle.std.proofs.lemmas.Bool.{and_parts, eq-eqb, eqb-true}
use Rattle.mc_box.specs.BoxShapes.{BoxShapeState, box_shape, is_enabled_by}
use Rattle.mc_box.specs.declared.event.Event.{Event}
use Rattle.mc_box.specs.declared.event.Turn.{Turn}
use Rattle.mc_desk.specs.Histories.{requests_of}
use Rattle.mc_desk.specs.declared.request.Request.{Request}
use Rattle.mc_live.specs.Askers.{asks_for, turns_for}
use Rattle.mc_live.specs.Ends.{AreAsksFor, hand_at}
use Rattle.mc_live.specs.Requests.{events_asked}
use Rattle.mc_model.specs.Shapes.{AreAllowed, is_allowed}
use Rattle.mc_model.specs.Worlds.{WorldState, box_at}

-- ---- one hand

-- what is asked, where it is an event, is good
abbrev IfEvent : (Event → Type 0) → Option Event → Type 0
IfEvent Good None = Unit {0}
IfEvent Good (Some event) = Good event

-- an event that the shape of a box enables
abbrev pub FitsShape : BoxShapeState → Event → Type 0
FitsShape shape event = IsTrue (is_enabled_by shape event)

turn_good : (here : Bool) (shape : BoxShapeState) (turn : Turn) (rest : List Turn) → (here ≡ true → FitsShape shape turn.event) → AllByRecursion (IfEvent (FitsShape shape)) (map (λ (t : Turn). Some t.event) rest) → AllByRecursion (IfEvent (FitsShape shape)) (map (λ (t : Turn). Some t.event) (cond here (turn ∷ rest) rest))
turn_good true shape turn rest good all = (good refl, all)
turn_good false shape turn rest good all = all

asks_good : (world : WorldState) (who : ℕ) (hand : List Turn) → AreAllowed world hand → AllByRecursion (IfEvent (FitsShape (box_shape (box_at world who)))) (asks_for who hand)
asks_good world who [] allowed = tt
asks_good world who (turn ∷ hand) allowed =
    let parts = and_parts (is_allowed world turn) (list_all (is_allowed world) hand) allowed in
    let own = and_parts (nat_lt turn.who (length world.boxes)) (is_enabled_by (box_shape (box_at world turn.who)) turn.event) parts.0 in
    turn_good (turn.who == who) (box_shape (box_at world who)) turn (turns_for who hand)
    (λ here. subst (λ (n : ℕ). FitsShape (box_shape (box_at world n)) turn.event) (eqb-true turn.who who here) own.1) (asks_good world who hand parts.1)

end_good : (Good : Event → Type 0) (asks : List (Option Event)) → AllByRecursion (IfEvent Good) asks → AllByRecursion (IfEvent Good) (asks ++ None ∷ [])
end_good Good [] all = (tt, tt)
end_good Good (ask ∷ asks) all = (all.0, end_good Good asks all.1)

-- ---- all operators

good_at : (Good : Event → Type 0) (here : Bool) (request : Request) (rest : List Request) → AllByRecursion (λ (r : Request). IfEvent Good r.event) (cond here (request ∷ rest) rest) → AllByRecursion (λ (r : Request). IfEvent Good r.event) rest
good_at Good true request rest all = all.1
good_at Good false request rest all = all

good_first : (Good : Event → Type 0) (here : Bool) (request : Request) (rest : List Request) → here ≡ true → AllByRecursion (λ (r : Request). IfEvent Good r.event) (cond here (request ∷ rest) rest) → IfEvent Good request.event
good_first Good true request rest same all = all.0
good_first Good false request rest same all = absurd (cc)

-- what is good of each operator is good of all
good_all : (Good : Event → Type 0) (n : ℕ) (taken : List Request) → AllByRecursion (λ (r : Request). r.operator < n) taken → ((operator : ℕ) → operator < n → AllByRecursion (λ (r : Request). IfEvent Good r.event) (requests_of operator taken))
    → AllByRecursion (λ (r : Request). IfEvent Good r.event) taken
good_all Good n [] known each = tt
good_all Good n (request ∷ taken) known each = (
  good_first Good (request.operator == request.operator) request (requests_of request.operator taken) (eq-eqb request.operator request.operator refl) (each request.operator known.0),
  good_all Good n taken known.1 (λ operator low. good_at Good (request.operator == operator) request (requests_of operator taken) (each operator low)),
)

events_good : (Good : Event → Type 0) (event : Option Event) (request : Request) (taken : List Request) → request.event ≡ event → IfEvent Good event → AllByRecursion Good (events_asked taken) → AllByRecursion Good (events_asked (request ∷ taken))
events_good Good None request taken is good rest = rw is rest
events_good Good (Some event) request taken is good rest = rw is (good, rest)

asked_good : (Good : Event → Type 0) (taken : List Request) → AllByRecursion (λ (r : Request). IfEvent Good r.event) taken → AllByRecursion Good (events_asked taken)
asked_good Good [] all = tt
asked_good Good (request ∷ taken) all = events_good Good request.event request taken refl all.0 (asked_good Good taken all.1)

unmapped : (Good : Event → Type 0) (requests : List Request) → AllByRecursion (IfEvent Good) (map (λ (r : Request). r.event) requests) → AllByRecursion (λ (r : Request). IfEvent Good r.event) requests
unmapped Good [] all = tt
unmapped Good (request ∷ requests) all = (all.0, unmapped Good requests all.1)

-- what a box took is what it can make, where the hands are such
pub took_allowed : (world : WorldState) (hands : List (List Turn)) (who : ℕ) (taken : List Request) → ((operator : ℕ) → operator < length hands → AreAllowed world (hand_at hands operator)) → AllByRecursion (λ (r : Request). r.operator < length hands) taken
    → ((operator : ℕ) → operator < length hands → AreAsksFor who (hand_at hands operator) (requests_of operator taken)) → AllByRecursion (FitsShape (box_shape (box_at world who))) (events_asked taken)
took_allowed world hands who taken allowed known asked =
    let Good : Event → Type 0 = FitsShape (box_shape (box_at world who)) in
    asked_good Good taken (good_all Good (length hands) taken known (λ operator low.
    unmapped Good (requests_of operator taken) (subst (AllByRecursion (IfEvent Good)) (sym (asked operator low)) (end_good Good (asks_for who (hand_at hands operator)) (asks_good world who (hand_at hands operator) (allowed operator low))))))
