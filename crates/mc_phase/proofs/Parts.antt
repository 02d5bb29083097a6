-- Boxes that ran freely, taken apart one by one.
use Rattle.std.proofs.Common.{◌≡◌, ℕ, List, [], ◌∷◌, ◌++◌, map, refl, sym, ◌∙◌, ap, append_assoc, arith}
use Rattle.std.specs.List.{AllByRecursion, sum_by}
use Rattle.std.specs.declared.alloc.Global.{Global}
use Rattle.std.specs.declared.vec.Vec.{Vec}
use Rattle.std.proofs.lemmas.List.{append-nil, map_push}
use Rattle.std.proofs.lemmas.List.Sums.{sum_by-append, sum_by-cons}
use Rattle.mc_flight.specs.Seats.{IsUnused, sent_count, taken_count}
use Rattle.mc_desk.specs.declared.desk.Operator.{Operator}
use Rattle.mc_desk.specs.declared.desk.Taker.{Taker}
use Rattle.mc_desk.specs.declared.request.Request.{Request}
use Rattle.mc_desks.specs.Passes.{lists_of}
use Rattle.mc_flight.specs.declared.flight.FlightSeat.{FlightSeat}
use Rattle.mc_live.specs.Phases.{member_of}
use Rattle.mc_live.specs.declared.asker.Asker.{Asker}
use Rattle.mc_live.specs.declared.box_run.BoxRun.{BoxRun}
use Rattle.mc_phase.specs.Asked.{request_lists}
use Rattle.mc_phase.specs.Prepared.{all_taken, passes_of, seats_of, takers_of}
use Rattle.mc_team.specs.declared.member.Member.{Member}

-- one more at the end of a list is one less among those that are left
pub moved : {A : Type 0} (so_far more rest next all : List A) (x : A) → so_far ++ rest ≡ all → rest ≡ x ∷ next → more ≡ so_far ++ x ∷ [] → more ++ next ≡ all
moved so_far more rest next all x is first grown =
    ap (λ l. l ++ next) grown ∙ (append_assoc so_far (x ∷ []) next ∙ (ap (λ l. so_far ++ l) (sym first) ∙ is))

pub none_left : {A : Type 0} (so_far rest all : List A) → so_far ++ rest ≡ all → rest ≡ [] → so_far ≡ all
none_left so_far rest all is none = sym (append-nil so_far) ∙ (ap (λ l. so_far ++ l) (sym none) ∙ is)

-- what was taken of these boxes, and what is still in the others
pub record AreTaking (all : List BoxRun) (seats : List FlightSeat) (rest : List BoxRun) (members : List Member) (takers : List Taker) (taken : List (List Request)) (all_seats : List FlightSeat) : Type 0 where
  pub are_members : members ++ map member_of rest ≡ map member_of all
  pub are_takers : takers ++ takers_of rest ≡ takers_of all
  pub are_taken : taken ++ all_taken rest ≡ all_taken all
  pub are_seats : all_seats ++ seats_of rest ≡ seats ++ seats_of all

pub taking_none : (all : List BoxRun) (seats : List FlightSeat) → AreTaking all seats all [] [] [] seats
taking_none all seats = record { are_members = refl; are_takers = refl; are_taken = refl; are_seats = refl }

pub taking_more : (all : List BoxRun) (seats : List FlightSeat) (rest next : List BoxRun) (members more_members : List Member) (takers more_takers : List Taker) (taken more_taken : List (List Request)) (all_seats more_seats : List FlightSeat) (run : BoxRun)
    → AreTaking all seats rest members takers taken all_seats → rest ≡ run ∷ next → more_members ≡ members ++ member_of run ∷ [] → more_takers ≡ takers ++ run.taker ∷ [] → more_taken ≡ taken ++ run.course.taken.items ∷ []
    → more_seats ≡ all_seats ++ run.seat ∷ [] → AreTaking all seats next more_members more_takers more_taken more_seats
taking_more all seats rest next members more_members takers more_takers taken more_taken all_seats more_seats run was first one two three four = record {
  are_members = moved members more_members (map member_of rest) (map member_of next) (map member_of all) (member_of run) was.are_members (ap (map member_of) first) one;
  are_takers = moved takers more_takers (takers_of rest) (takers_of next) (takers_of all) run.taker was.are_takers (ap takers_of first) two;
  are_taken = moved taken more_taken (all_taken rest) (all_taken next) (all_taken all) run.course.taken.items was.are_taken (ap all_taken first) three;
  are_seats = moved all_seats more_seats (seats_of rest) (seats_of next) (seats ++ seats_of all) run.seat was.are_seats (ap seats_of first) four;
}

-- a list of requests more
pub requests_more : (taken more : List (Vec Request Global)) (one : Vec Request Global) → more ≡ taken ++ one ∷ [] → request_lists more ≡ request_lists taken ++ one.items ∷ []
requests_more taken more one is = ap request_lists is ∙ map_push (λ (v : Vec Request Global). v.items) taken one

-- the passes of one operator more
pub passes_more : (passes more : List (Vec Operator Global)) (rest next all : List Asker) (asker : Asker) → lists_of passes ++ passes_of rest ≡ passes_of all → rest ≡ asker ∷ next → more ≡ passes ++ asker.passes ∷ [] → lists_of more ++ passes_of next ≡ passes_of all
passes_more passes more rest next all asker is first grown =
    moved (lists_of passes) (lists_of more) (passes_of rest) (passes_of next) (passes_of all) asker.passes.items is (ap passes_of first) (ap lists_of grown ∙ map_push (λ (v : Vec Operator Global). v.items) passes asker.passes)

-- ---- seats

none_by : (count : FlightSeat → ℕ) (seats : List FlightSeat) → AllByRecursion (λ (seat : FlightSeat). count seat ≡ 0) seats → sum_by count seats ≡ 0
none_by count [] all = refl
none_by count (seat ∷ seats) all =
    let first = sum_by-cons count seat seats in
    let rest = none_by count seats all.1 in
    let own = all.0 in
    omega (arith, first, rest, own)

unused_by : (count : FlightSeat → ℕ) (seats : List FlightSeat) → ((seat : FlightSeat) → IsUnused seat → count seat ≡ 0) → AllByRecursion IsUnused seats → AllByRecursion (λ (seat : FlightSeat). count seat ≡ 0) seats
unused_by count [] none all = tt
unused_by count (seat ∷ seats) none all = (none seat all.0, unused_by count seats none all.1)

-- nothing was counted with unused seats
pub none_sent : (seats : List FlightSeat) → AllByRecursion IsUnused seats → sum_by sent_count seats ≡ 0
none_sent seats all = none_by sent_count seats (unused_by sent_count seats (λ seat unused. unused.sent) all)

pub none_took : (seats : List FlightSeat) → AllByRecursion IsUnused seats → sum_by taken_count seats ≡ 0
none_took seats all = none_by taken_count seats (unused_by taken_count seats (λ seat unused. unused.taken) all)

-- so all was counted with the others
pub sum_after : (count : FlightSeat → ℕ) (spare others all : List FlightSeat) → all ≡ spare ++ others → sum_by count spare ≡ 0 → sum_by count all ≡ sum_by count others
sum_after count spare others all is none =
    let both = sum_by-append count spare others in
    ap (λ (l : List FlightSeat). sum_by count l) is ∙ omega (arith, both, none)
