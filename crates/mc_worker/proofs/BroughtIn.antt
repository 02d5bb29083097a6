-- What is under way between two ends, and the carrying of it.
use Rattle.std.proofs.Common.{◌≡◌, ℕ, zero, suc, ◌<◌, List, [], ◌∷◌, ◌++◌, Some, refl, sym, ◌∙◌, ap, drop, length, map, slice_get, slice_index_or, append_assoc, arith}
use Rattle.std.proofs.lemmas.List.{append-nil, append_cancel_left, drop_all, map-append}
use Rattle.mc_port.specs.Ends.{IsPair, in_ring, out_ring, without_stamp}
use Rattle.mc_port.specs.declared.ends.InPort.{InPort}
use Rattle.mc_port.specs.declared.ends.OutPort.{OutPort}
use Rattle.mc_port.specs.declared.stamped.Stamped.{Stamped}
use Rattle.mc_signal.specs.declared.Tagged.{Tagged}
use Rattle.mc_worker.specs.Carrying.{CarryingKeepsOrder, IsBroughtIn, left_between, under_way_between}
use Rattle.mc_worker.specs.Ends.{InEnd, OutEnd, unclaimed}

-- what was left in the ring is in the inbox: the same is under way
pub ring_moved : (inbox more : List Tagged) (got given given_1 left box box_1 : List Stamped) → given_1 ≡ given → got ≡ given → more ≡ inbox ++ map without_stamp left → box_1 ≡ box
    → more ++ (map without_stamp (drop (length got) given_1) ++ map without_stamp box_1) ≡ inbox ++ (map without_stamp left ++ map without_stamp box)
ring_moved inbox more got given given_1 left box box_1 same all moved waits =
    let none : drop (length got) given_1 ≡ [] = drop_all (length got) given_1 (omega (arith, ap length (same ∙ sym all))) in
    ap (λ (l : List Stamped). more ++ (map without_stamp l ++ map without_stamp box_1)) none
    ∙ (ap (λ (l : List Stamped). more ++ map without_stamp l) waits
    ∙ (ap (λ (l : List Tagged). l ++ map without_stamp box) moved ∙ append_assoc inbox (map without_stamp left) (map without_stamp box)))

-- and so it is where all was brought in
pub none_lost : (out out_after : OutEnd) (taking taking_after : InEnd) → IsBroughtIn out out_after taking taking_after
    → under_way_between out_after taking_after ≡ under_way_between out taking
none_lost out out_after taking taking_after brought =
    let none : left_between out_after taking_after ≡ [] = drop_all (length taking_after.got) out_after.given (omega (arith, ap length (brought.given ∙ sym brought.got))) in
    ap (λ (l : List Stamped). taking_after.inbox ++ (map without_stamp l ++ map without_stamp out_after.outbox)) none
    ∙ (ap (λ (l : List Stamped). taking_after.inbox ++ map without_stamp l) brought.outbox ∙ (append-nil taking_after.inbox ∙ brought.inbox))

-- ---- the two ends of a ring in lists of ends

at_of : {X Y : Type 0} (f : X → Y) (xs : List X) (i : ℕ) (x : X) → i < length xs → x ≡ slice_index_or xs i x → slice_get (map f xs) i ≡ Some (f x)
at_of f [] i x h e = absurd (omega arith)
at_of f (y ∷ ys) zero x h e = ap (λ z. Some (f z)) (sym e)
at_of f (y ∷ ys) (suc i) x h e = at_of f ys i x (omega arith) e

-- ends of one ring by the lists of names are a pair
pub ring_pair : (outs : List OutPort) (ins : List InPort) (i j : ℕ) (from : OutPort) (to : InPort) → i < length outs → j < length ins → from ≡ slice_index_or outs i from → to ≡ slice_index_or ins j to
    → slice_get (map out_ring outs) i ≡ slice_get (map in_ring ins) j → IsPair from to
ring_pair outs ins i j from to h k e f same =
    let both : Some (out_ring from) ≡ Some (in_ring to) = sym (at_of out_ring outs i from h e) ∙ (same ∙ at_of in_ring ins j to k f) in
    cc

-- ---- the law

plain : (items : List Tagged) → map without_stamp (map unclaimed items) ≡ items
plain [] = refl
plain (tagged ∷ items) = ap (λ (l : List Tagged). tagged ∷ l) (plain items)

pub carrying_keeps_order : CarryingKeepsOrder
carrying_keeps_order out out_before out_after taking taking_before taking_after sent taken o i from none brought =
    let left = left_between out_before taking_before in
    -- what the ring gave in the round, and what was left in it then
    let ring : i.gave ++ left ≡ o.put =
    append_cancel_left taking.got (i.gave ++ left) o.put
    (sym (append_assoc taking.got i.gave left) ∙ (ap (λ (l : List Stamped). l ++ left) (sym i.ring) ∙ (brought.order ∙ (o.ring ∙ ap (λ (l : List Stamped). l ++ o.put) (sym from))))) in
    let box : out_before.outbox ≡ o.kept = o.outbox ∙ ap (λ (l : List Stamped). l ++ o.kept) none in
    let all : i.gave ++ (left ++ out_before.outbox) ≡ sent =
    sym (append_assoc i.gave left out_before.outbox) ∙ (ap (λ (l : List Stamped). l ++ out_before.outbox) ring ∙ (ap (λ (l : List Stamped). o.put ++ l) box ∙ sym o.order)) in
    let before : map without_stamp taken ++ taking_before.inbox ≡ taking.inbox ++ map without_stamp i.gave =
    sym (map-append without_stamp taken (map unclaimed taking_before.inbox) ∙ ap (λ (l : List Tagged). map without_stamp taken ++ l) (plain taking_before.inbox))
    ∙ (ap (map without_stamp) i.order ∙ (map-append without_stamp (map unclaimed taking.inbox) i.gave ∙ ap (λ (l : List Tagged). l ++ map without_stamp i.gave) (plain taking.inbox))) in
    let rest : map without_stamp left ++ map without_stamp out_before.outbox ≡ map without_stamp (left ++ out_before.outbox) = sym (map-append without_stamp left out_before.outbox) in
    ap (λ (l : List Tagged). map without_stamp taken ++ l) (brought.inbox ∙ ap (λ (l : List Tagged). taking_before.inbox ++ l) rest)
    ∙ (sym (append_assoc (map without_stamp taken) taking_before.inbox (map without_stamp (left ++ out_before.outbox)))
    ∙ (ap (λ (l : List Tagged). l ++ map without_stamp (left ++ out_before.outbox)) before
    ∙ (append_assoc taking.inbox (map without_stamp i.gave) (map without_stamp (left ++ out_before.outbox))
    ∙ ap (λ (l : List Tagged). taking.inbox ++ l) (sym (map-append without_stamp i.gave (left ++ out_before.outbox)) ∙ ap (map without_stamp) all))))
