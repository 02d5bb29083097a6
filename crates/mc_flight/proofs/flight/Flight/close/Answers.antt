use Rattle.std.proofs.Common.{◌≡◌, ℕ, ◌+◌, ◌∷◌, ◌++◌, [], ◌∙◌, ap, sym, subst, List, refl, arith}
use mathlib.Core.Option.{some-injective}
use lib.ListN.{get_elem?}
use Rattle.std.specs.List.{All, sum_by}
use Rattle.std.specs.Slots.{slots_items}
use Rattle.std.proofs.lemmas.List.{nil_from_length}
use Rattle.std.proofs.lemmas.List.Elements.{All-cons, All-head, All-tail}
use Rattle.std.proofs.lemmas.List.Sums.{sum_by_push}
use Rattle.mc_flight.specs.Seats.{IsSeatOf, part_count, sent_count, taken_count}
use Rattle.mc_flight.specs.declared.flight.FlightSeat.{FlightSeat}
use Rattle.mc_flight.proofs.Parts.{all_parts}
use Rattle.mc_flight.proofs.Tallying.{ends}
use Rattle.mc_flight.proofs.flight.Flight.close.Goals as goal

front : (P : FlightSeat → Type 0) (xs ys : List FlightSeat) → All P (xs ++ ys) → All P xs
front P [] ys all = λ k d low. absurd (omega arith)
front P (x ∷ xs) ys all = All-cons P x xs (All-head P x (xs ++ ys) all) (front P xs ys (All-tail P x (xs ++ ys) all))

-- the last one and the others are all
whole : (f : FlightSeat → ℕ) (seats rest : List FlightSeat) (it : FlightSeat) (last all : ℕ) → seats ≡ rest ++ it ∷ [] → f it ≡ last → all ≡ last + sum_by f rest → all ≡ sum_by f seats
whole f seats rest it last all is same sum = (let a = ap (λ (l : List FlightSeat). sum_by f l) is ∙ sum_by_push f rest it in omega arith)

pub unreachable-requires : goal.unreachable-requires
unreachable-requires c =
    let none : c.args.seats.items ≡ [] = nil_from_length _ (omega (arith, c.in_default.ensures.cases.0, c.args.seats.ok.0)) in
    let parts = sym (ap (λ (l : List FlightSeat). sum_by part_count l) none) ∙ all_parts c.args.self c.args.seats.items c.args.self.some_seats c.args.self.few_seats c.requires in
    absurd (omega arith)

pub join_all-all-requires-clause-of : goal.join_all-all-requires-clause-of
join_all-all-requires-clause-of c =
    front (IsSeatOf c.args.self) c.pop.new.self.items (c.in-Some.field-0 ∷ []) (subst (λ (l : List FlightSeat). All (IsSeatOf c.args.self) l) c.in-Some.ensures.items c.requires.of)

-- both words are what the one seat counted
words : (c : goal.After-free) → slots_items c.close_with-closed.result.words ≡ c.join_all-all.result.me.0.sent ∷ c.join_all-all.result.me.0.taken ∷ []
words c =
    let parts = whole part_count _ _ c.in-Some.field-0 _ _ c.in-Some.ensures.items refl c.join_all-all.ensures.parts
    ∙ all_parts c.args.self c.args.seats.items c.args.self.some_seats c.args.self.few_seats c.requires in
    ends _ _ _ _ c.join_all-all.ensures.lives parts c.close_with-closed.ensures.values.2

pub returns-clause-sent : goal.returns-clause-sent
returns-clause-sent c =
    some-injective _ _ (sym c.word-sent.ensures ∙ ap (λ (l : List ℕ). get_elem? l 0) (words c))
    ∙ whole sent_count _ _ c.in-Some.field-0 _ _ c.in-Some.ensures.items refl c.join_all-all.ensures.sent

pub returns-clause-taken : goal.returns-clause-taken
returns-clause-taken c =
    some-injective _ _ (sym c.word-taken.ensures ∙ ap (λ (l : List ℕ). get_elem? l 1) (words c))
    ∙ whole taken_count _ _ c.in-Some.field-0 _ _ c.in-Some.ensures.items refl c.join_all-all.ensures.taken
