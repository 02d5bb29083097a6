-- A box that has taken as many ends as there are operators has taken all that it was asked.
use Rattle.std.proofs.Common.{◌≡◌, ℕ, zero, suc, ◌+◌, ◌==◌, ◌<◌, ◌≤◌, Bool, true, false, cond, List, [], ◌∷◌, ◌++◌, length, map, Option, None, Some, inl, inr, refl, sym, ◌∙◌, ap, subst, arith}
use Rattle.std.specs.List.{AllByRecursion}
use Rattle.std.proofs.lemmas.Bool.{cases_lt, eq-eqb, ne_eqb}
use Rattle.std.proofs.lemmas.List.{append-nil, map-append}
use Rattle.std.proofs.lemmas.List.Elements.{filter-append}
use Rattle.std.proofs.lemmas.List.Sums.{sum_by-append}
use Rattle.mc_box.specs.declared.event.Event.{Event}
use Rattle.mc_box.specs.declared.event.Turn.{Turn}
use Rattle.mc_desk.specs.Histories.{requests_of}
use Rattle.mc_desk.specs.declared.request.Request.{Request}
use Rattle.mc_laws.proofs.Sums.{total_plus, total_zero}
use Rattle.mc_live.specs.Askers.{asks_for, turns_for}
use Rattle.mc_live.specs.Ends.{AreAsksFor, EndsAreAll, hand_at}
use Rattle.mc_live.specs.Requests.{end_in, ends_asked}
use Rattle.mc_slot_laws.proofs.Sums.{total_one, total_same}
use Rattle.mc_slot_laws.specs.Sums.{total}

-- ---- ends of requests

ends_both : (xs ys : List Request) → ends_asked (xs ++ ys) ≡ ends_asked xs + ends_asked ys
ends_both xs ys = sum_by-append (λ (r : Request). end_in r.event) xs ys

ends_first : (request : Request) (requests : List Request) → ends_asked (request ∷ requests) ≡ end_in request.event + ends_asked requests
ends_first request requests =
    let one : ends_asked (request ∷ []) ≡ 0 + end_in request.event = refl in
    let both : ends_asked (request ∷ requests) ≡ ends_asked (request ∷ []) + ends_asked requests = ends_both (request ∷ []) requests in
    omega (arith, one, both)

-- the same of what was asked alone
abbrev ends_in : List (Option Event) → ℕ
ends_in [] = 0
ends_in (event ∷ events) = end_in event + ends_in events

abbrev events_in : List Request → List (Option Event)
events_in requests = map (λ (r : Request). r.event) requests

ends_seen : (requests : List Request) → ends_asked requests ≡ ends_in (events_in requests)
ends_seen [] = refl
ends_seen (request ∷ requests) = let first = ends_first request requests in let rest = ends_seen requests in omega (arith, first, rest)

ends_joined : (xs ys : List (Option Event)) → ends_in (xs ++ ys) ≡ ends_in xs + ends_in ys
ends_joined [] ys = omega arith
ends_joined (x ∷ xs) ys = let rest = ends_joined xs ys in omega (arith, rest)

none_asked : (turns : List Turn) → ends_in (map (λ (t : Turn). Some t.event) turns) ≡ 0
none_asked [] = refl
none_asked (turn ∷ turns) = let rest = none_asked turns in omega (arith, rest)

-- ---- ends by operators

abbrev weight_if : Bool → ℕ → ℕ
weight_if true end = end
weight_if false end = 0

ends_if : (here : Bool) (request : Request) (requests : List Request) → ends_asked (cond here (request ∷ requests) requests) ≡ weight_if here (end_in request.event) + ends_asked requests
ends_if true request requests = ends_first request requests
ends_if false request requests = omega arith

one_place : (n k end : ℕ) → k < n → total (λ (o : ℕ). weight_if (k == o) end) n ≡ end
one_place n k end below =
    let one = total_one (λ (o : ℕ). weight_if (k == o) end) (λ (o : ℕ). 0) n k below (λ o inside apart. ap (λ (t : Bool). weight_if t end) (ne_eqb k o (λ same. apart (sym same)))) in
    let here : weight_if (k == k) end ≡ end = ap (λ (t : Bool). weight_if t end) (eq-eqb k k refl) in
    let none = total_zero n in
    omega (arith, one, here, none)

-- the ends are those of the operators
by_all : (n : ℕ) (taken : List Request) → AllByRecursion (λ (request : Request). request.operator < n) taken → total (λ (o : ℕ). ends_asked (requests_of o taken)) n ≡ ends_asked taken
by_all n [] all = total_zero n
by_all n (request ∷ taken) all =
    let parts : total (λ (o : ℕ). ends_asked (requests_of o (request ∷ taken))) n ≡ total (λ (o : ℕ). weight_if (request.operator == o) (end_in request.event) + ends_asked (requests_of o taken)) n =
    total_same (λ (o : ℕ). ends_asked (requests_of o (request ∷ taken))) (λ (o : ℕ). weight_if (request.operator == o) (end_in request.event) + ends_asked (requests_of o taken)) n
    (λ o below. ends_if (request.operator == o) request (requests_of o taken)) in
    let sum = total_plus (λ (o : ℕ). weight_if (request.operator == o) (end_in request.event)) (λ (o : ℕ). ends_asked (requests_of o taken)) n in
    let first = one_place n request.operator (end_in request.event) all.0 in
    let rest = by_all n taken all.1 in
    let whole = ends_first request taken in
    omega (arith, parts, sum, first, rest, whole)

-- ---- each has one

at_most : (f : ℕ → ℕ) (n : ℕ) → ((o : ℕ) → o < n → f o ≤ 1) → total f n ≤ n
at_most f zero few = omega arith
at_most f (suc n) few =
    let rest = at_most f n (λ o below. few o (omega arith)) in
    let one = few n (omega arith) in
    omega (arith, rest, one)

each_one : (f : ℕ → ℕ) (n o : ℕ) → ((k : ℕ) → k < n → f k ≤ 1) → n ≤ total f n → o < n → 1 ≤ f o
each_one f zero o few all below = absurd (omega arith)
each_one f (suc n) o few all below =
    let one = few n (omega arith) in
    let most = at_most f n (λ k inside. few k (omega arith)) in
    elim (cases_lt o n) [
      | inl inside ↦ each_one f n o (λ k inside. few k (omega arith)) (omega (arith, one, all)) inside
      | inr past ↦
          let last : o ≡ n = omega arith in
          subst (λ (k : ℕ). 1 ≤ f k) (sym last) (omega (arith, most, all))
    ]

-- ---- what stands after an end

nothing_after : (xs ys : List (Option Event)) → xs ++ ys ≡ [] → ys ≡ []
nothing_after [] ys is = is
nothing_after (x ∷ xs) ys is = absurd (cc)

-- where the first part has an end, nothing is left
none_left : (xs ys front : List (Option Event)) → xs ++ ys ≡ front ++ None ∷ [] → ends_in front ≡ 0 → 1 ≤ ends_in xs → ys ≡ []
none_left [] ys front is none some = absurd (omega arith)
none_left (x ∷ xs) ys [] is none some = nothing_after xs ys (cc)
none_left (x ∷ xs) ys (f ∷ front) is none some =
    let same : x ≡ f = cc in
    let rest : xs ++ ys ≡ front ++ None ∷ [] = cc in
    let first : end_in x ≡ end_in f = ap end_in same in
    none_left xs ys front rest (omega arith) (omega (arith, first))

no_requests : (requests : List Request) → events_in requests ≡ [] → requests ≡ []
no_requests [] none = refl
no_requests (request ∷ requests) none = absurd (cc)

-- what an operator asks has one end
one_end : (who : ℕ) (hand : List Turn) (requests : List Request) → AreAsksFor who hand requests → ends_asked requests ≡ 1
one_end who hand requests are =
    let last : ends_in (None ∷ []) ≡ 1 = omega arith in
    let all : ends_in (events_in requests) ≡ ends_in (asks_for who hand) + ends_in (None ∷ []) = ap ends_in are ∙ ends_joined (asks_for who hand) (None ∷ []) in
    let none = none_asked (turns_for who hand) in
    let seen = ends_seen requests in
    omega (arith, all, none, seen, last)

-- ---- the law

-- nothing of an operator is left
none_of : (who : ℕ) (hand : List Turn) (taken rest all : List Request) → taken ++ rest ≡ all → AreAsksFor who hand all → 1 ≤ ends_asked taken → rest ≡ []
none_of who hand taken rest all parts are some =
    let both : events_in taken ++ events_in rest ≡ asks_for who hand ++ None ∷ [] = sym (map-append (λ (r : Request). r.event) taken rest) ∙ (ap events_in parts ∙ are) in
    let seen = ends_seen taken in
    no_requests rest (none_left (events_in taken) (events_in rest) (asks_for who hand) both (none_asked (turns_for who hand)) (omega (arith, seen, some)))

-- nobody's request is in the list
first_of : (request : Request) (requests : List Request) → requests_of request.operator (request ∷ requests) ≡ request ∷ requests_of request.operator requests
first_of request requests = ap (λ (t : Bool). cond t (request ∷ requests_of request.operator requests) (requests_of request.operator requests)) (eq-eqb request.operator request.operator refl)

no_one : (requests : List Request) → ((o : ℕ) → requests_of o requests ≡ []) → requests ≡ []
no_one [] none = refl
no_one (request ∷ requests) none = let is = first_of request requests in let empty = none request.operator in absurd (cc)

append_none : (xs ys : List Request) → xs ++ ys ≡ [] → ys ≡ []
append_none [] ys is = is
append_none (x ∷ xs) ys is = absurd (cc)

pub ends_are_all : EndsAreAll
ends_are_all who hands taken rest accepted history asked strangers inside many =
    let parts : (o : ℕ) → requests_of o taken ++ requests_of o rest ≡ accepted o = λ o. sym (filter-append (λ (r : Request). r.operator == o) taken rest) ∙ history o in
    let few : (o : ℕ) → o < length hands → ends_asked (requests_of o taken) ≤ 1 = λ o below.
    let whole : ends_asked (requests_of o taken) + ends_asked (requests_of o rest) ≡ ends_asked (accepted o) = sym (ends_both (requests_of o taken) (requests_of o rest)) ∙ ap ends_asked (parts o) in
    let one = one_end who (hand_at hands o) (accepted o) (asked o below) in
    omega (arith, whole, one) in
    let sum = by_all (length hands) taken inside in
    let own : (o : ℕ) → o < length hands → 1 ≤ ends_asked (requests_of o taken) = λ o below. each_one (λ (k : ℕ). ends_asked (requests_of k taken)) (length hands) o few (omega (arith, sum, many)) below in
    let none : (o : ℕ) → o < length hands → requests_of o rest ≡ [] = λ o below. none_of who (hand_at hands o) (requests_of o taken) (requests_of o rest) (accepted o) (parts o) (asked o below) (own o below) in (
      no_one rest (λ o. elim (cases_lt o (length hands)) [
        | inl below ↦ none o below
        | inr past ↦ append_none (requests_of o taken) (requests_of o rest) (parts o ∙ strangers o past)
      ]),
      λ o below.
          let all : requests_of o taken ≡ accepted o = sym (append-nil (requests_of o taken)) ∙ (ap (λ (l : List Request). requests_of o taken ++ l) (sym (none o below)) ∙ parts o) in
          subst (AreAsksFor who (hand_at hands o)) (sym all) (asked o below),
    )
