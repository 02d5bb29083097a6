-- After all boxes have run, desks and counter can be closed.
use Rattle.std.proofs.Common.{◌≡◌, ℕ, zero, suc, ◌≤◌, IsPermutation, List, [], ◌∷◌, ◌++◌, length, map, slice_get, Some, refl, sym, ◌∙◌, ap, subst, arith}
use Rattle.std.specs.List.{AllByRecursion, AllZip, range_with_len}
use Rattle.std.specs.declared.alloc.Global.{Global}
use Rattle.std.specs.declared.vec.Vec.{Vec}
use Rattle.std.proofs.lemmas.List.{length-map, map-append}
use Rattle.std.proofs.lemmas.List.Elements.{All-from_recursion, recursion_from_All}
use Rattle.std.proofs.lemmas.Option.{slice_get_within}
use Rattle.mc_box.specs.declared.event.Turn.{Turn}
use Rattle.mc_desk.proofs.Callers.{still_taker}
use Rattle.mc_desk.specs.Desks.{IsTakerOf, operator_count, room_of}
use Rattle.mc_desk.specs.declared.desk.Desk.{Desk}
use Rattle.mc_desk.specs.declared.desk.Operator.{Operator}
use Rattle.mc_desks.proofs.Lists.{there_is, zip_at, zip_from}
use Rattle.mc_desks.specs.Finished.{CanFinish}
use Rattle.mc_desks.specs.Laid.{HaveOperators, HaveRoom}
use Rattle.mc_desks.specs.Passes.{ArePassesOf, IsPassOf}
use Rattle.mc_flight.proofs.Seating.{still_of}
use Rattle.mc_flight.specs.Seats.{AreAllSeats, IsSeatOf, IsUnused, number_of, seat_count}
use Rattle.mc_flight.specs.declared.flight.Flight.{Flight}
use Rattle.mc_flight.specs.declared.flight.FlightSeat.{FlightSeat}
use Rattle.mc_live.proofs.Asks.{passes_stay}
use Rattle.mc_live.proofs.Freed.{three_at, three_count, zip_count}
use Rattle.mc_live.specs.Askers.{HasAsked, HaveAsked}
use Rattle.mc_live.specs.BoxRuns.{AreNewRuns, HasRunFreely, HaveRunFreely, IsNewRun}
use Rattle.mc_live.specs.declared.asker.Asker.{Asker}
use Rattle.mc_live.specs.declared.box_run.BoxRun.{BoxRun}
use Rattle.mc_live.specs.declared.limit.TheConstants.{ROOM}
use Rattle.mc_phase.specs.Prepared.{AreAskersOf, CanClose, IsPrepared, passes_of, seats_of, takers_of}
use Rattle.mc_phase.specs.Ran.{HaveAllRun}
use Rattle.mc_phase.specs.declared.preparing.PhaseParts.{PhaseParts}
use Rattle.mc_team.specs.declared.member.Member.{Member}

-- ---- lists

pub all_weaker : {A : Type 0} (P Q : A → Type 0) (xs : List A) → ((x : A) → P x → Q x) → AllByRecursion P xs → AllByRecursion Q xs
all_weaker P Q [] f all = tt
all_weaker P Q (x ∷ xs) f all = (f x all.0, all_weaker P Q xs f all.1)

-- what was made of an element stands where the element does
pub made_at : {A B : Type 0} (f : A → B) (xs : List A) (k : ℕ) (y : B) → slice_get (map f xs) k ≡ Some y → (x : A) × (slice_get xs k ≡ Some x) × (f x ≡ y)
made_at f [] k y at = absurd (cc)
made_at f (x ∷ xs) zero y at = let same : f x ≡ y = cc in (x, refl, same)
made_at f (x ∷ xs) (suc k) y at = made_at f xs k y at

-- ---- takers

-- the hand of an operator
abbrev asks_its : Vec Turn Global → Asker → Asker → Type 0
asks_its hand old new = HasAsked hand.items old new

takers_back : (flight : Flight) (desks : List Desk) (began ran : List BoxRun) → AreNewRuns flight desks began → HaveRunFreely desks began ran → AllZip IsTakerOf desks (takers_of ran)
takers_back flight desks began ran new runs =
    let first = zip_count (λ (desk : Desk) (run : BoxRun). IsNewRun desk flight run) desks began new in
    let last = three_count HasRunFreely desks began ran runs in
    zip_from IsTakerOf desks (takers_of ran) (length-map ran (λ (run : BoxRun). run.taker) ∙ (last ∙ first)) (λ k desk taker p q.
    let own = made_at (λ (run : BoxRun). run.taker) ran k taker q in
    let old = there_is began k (let within = slice_get_within desks k desk p in omega (arith, within, first)) in
    let is = zip_at (λ (d : Desk) (run : BoxRun). IsNewRun d flight run) desks began k desk old.0 new p old.1 in
    let three = three_at HasRunFreely desks began ran k old.0 own.0 runs old.1 own.1 in
    subst (IsTakerOf desk) own.2 (still_taker desk old.0.taker own.0.taker three.1.taker is.taker))

-- ---- operators

passes_back : (desks : List Desk) (hands : List (Vec Turn Global)) (old new : List Asker) (operators : ℕ) → AreAskersOf desks operators old → HaveAsked hands old new → (operator : ℕ) (list : List Operator) → slice_get (passes_of new) operator ≡ Some list → ArePassesOf desks operator list
passes_back desks hands old new operators are asked operator list at =
    let own = made_at (λ (a : Asker). a.passes.items) new operator list at in
    let long = three_count asks_its hands old new asked in
    let was = there_is old operator (let within = slice_get_within new operator own.0 own.1 in omega (arith, within, long)) in
    let is = are.each operator was.0 was.1 in
    let three = three_at asks_its hands old new operator was.0 own.0 asked was.1 own.1 in
    let has = passes_stay desks was.0 own.0 three.1.same is.new.passes in
    subst (AllZip (IsPassOf operator) desks) own.2
    (zip_from (IsPassOf operator) desks own.0.passes.items has.count (λ k desk pass p q. record {
      of = has.each k desk pass p q;
      number = has.numbers k pass q ∙ (three.1.same.number ∙ is.number);
    }))

-- ---- seats

seats_back : (flight : Flight) (desks : List Desk) (began ran : List BoxRun) → HaveRunFreely desks began ran → AllByRecursion (IsSeatOf flight) (seats_of began) → AllByRecursion (IsSeatOf flight) (seats_of ran) × (map number_of (seats_of ran) ≡ map number_of (seats_of began))
seats_back flight [] [] [] runs of = (tt, refl)
seats_back flight (desk ∷ desks) (one ∷ began) (other ∷ ran) runs of =
    let rest = seats_back flight desks began ran runs.1 of.1 in
    let number = runs.0.seat.number in
    ((still_of flight one.seat other.seat runs.0.seat of.0, rest.0), ap (λ (n : ℕ). n ∷ map number_of (seats_of ran)) number ∙ ap (λ (l : List ℕ). number_of one.seat ∷ l) rest.1)
seats_back flight [] [] (other ∷ ran) runs of = absurd runs
seats_back flight [] (one ∷ began) ran runs of = absurd runs
seats_back flight (desk ∷ desks) [] ran runs of = absurd runs
seats_back flight (desk ∷ desks) (one ∷ began) [] runs of = absurd runs

pub all_both : {A : Type 0} (P : A → Type 0) (xs ys : List A) → AllByRecursion P (xs ++ ys) → AllByRecursion P xs × AllByRecursion P ys
all_both P [] ys all = (tt, all)
all_both P (x ∷ xs) ys all = let rest = all_both P xs ys all.1 in ((all.0, rest.0), rest.1)

all_joined : {A : Type 0} (P : A → Type 0) (xs ys : List A) → AllByRecursion P xs → AllByRecursion P ys → AllByRecursion P (xs ++ ys)
all_joined P [] ys all more = more
all_joined P (x ∷ xs) ys all more = (all.0, all_joined P xs ys all.1 more)

all_seats_back : (flight : Flight) (desks : List Desk) (spare : List FlightSeat) (began ran : List BoxRun) → HaveRunFreely desks began ran → AreAllSeats flight (spare ++ seats_of began) → AreAllSeats flight (spare ++ seats_of ran)
all_seats_back flight desks spare began ran runs are =
    let parts = all_both (IsSeatOf flight) spare (seats_of began) (recursion_from_All (IsSeatOf flight) (spare ++ seats_of began) are.of) in
    let back = seats_back flight desks began ran runs parts.1 in
    let numbers : map number_of (spare ++ seats_of began) ≡ map number_of (spare ++ seats_of ran) =
    map-append number_of spare (seats_of began) ∙ (ap (λ (l : List ℕ). map number_of spare ++ l) (sym back.1) ∙ sym (map-append number_of spare (seats_of ran))) in
    record {
      of = All-from_recursion (IsSeatOf flight) (spare ++ seats_of ran) (all_joined (IsSeatOf flight) spare (seats_of ran) parts.0 back.0);
      each_once = subst (λ (l : List ℕ). IsPermutation l (range_with_len 0 (seat_count flight))) numbers are.each_once;
    }

-- ---- all

same_count : (operators count : ℕ) (desks : List Desk) → count ≡ operators → HaveOperators operators desks → AllByRecursion (λ (desk : Desk). count ≡ operator_count desk) desks
same_count operators count desks same have = subst (λ (n : ℕ). HaveOperators n desks) (sym same) have

few_places : (desks : List Desk) → HaveRoom ROOM desks → AllByRecursion (λ (desk : Desk). room_of desk ≤ ROOM) desks
few_places desks have = all_weaker (λ (desk : Desk). room_of desk ≡ ROOM) (λ (desk : Desk). room_of desk ≤ ROOM) desks (λ desk is. omega (arith, is)) have

can_by : (operators : ℕ) (members : List Member) (hands : List (Vec Turn Global)) (old : PhaseParts) (askers : List Asker) (ran : List BoxRun) → IsPrepared operators members old → HaveAsked hands old.askers.items askers → HaveRunFreely old.desks.items old.runs.items ran
    → CanFinish ROOM old.desks.items (takers_of ran) (passes_of askers) × AreAllSeats old.flight (old.spare.items ++ seats_of ran)
can_by operators members hands old askers ran is asked runs = (
  record {
    counts = same_count operators (length (passes_of askers)) old.desks.items (length-map askers (λ (a : Asker). a.passes.items) ∙ (three_count asks_its hands old.askers.items askers asked ∙ is.are_askers.count)) is.counts;
    places = few_places old.desks.items is.places;
    their_takers = takers_back old.flight old.desks.items old.runs.items ran is.begin runs;
    their_passes = passes_back old.desks.items hands old.askers.items askers operators is.are_askers asked;
  },
  all_seats_back old.flight old.desks.items old.spare.items old.runs.items ran runs is.seats,
)

pub can_close : (operators : ℕ) (members : List Member) (hands : List (Vec Turn Global)) (old new : PhaseParts) → IsPrepared operators members old → HaveAllRun hands old new → CanClose new
can_close operators members hands old new is ran =
    let can = can_by operators members hands old new.askers.items new.runs.items is ran.asked ran.ran in
    record {
      desks = subst (λ (d : Vec Desk Global). CanFinish ROOM d.items (takers_of new.runs.items) (passes_of new.askers.items)) (sym ran.desks) can.0;
      seats = subst (λ (f : Flight). AreAllSeats f (new.spare.items ++ seats_of new.runs.items)) (sym ran.flight) (subst (λ (s : Vec FlightSeat Global). AreAllSeats old.flight (s.items ++ seats_of new.runs.items)) (sym ran.spare) can.1);
      unused = subst (λ (s : Vec FlightSeat Global). AllByRecursion IsUnused s.items) (sym ran.spare) is.unused;
    }
