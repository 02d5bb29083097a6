-- Boxes that are set free one by one.
use Rattle.std.proofs.Common.{◌≡◌, ◌≤◌, IsPermutation, List, [], ◌∷◌, ◌++◌, length, refl, sym, ◌∙◌, ap, subst, append_assoc, arith}
use Rattle.std.specs.List.{AllByRecursion, AllZip}
use Rattle.std.proofs.lemmas.List.{append-nil, map_push}
use Rattle.std.proofs.lemmas.List.Sorted.{IsPermutation-append_right, IsPermutation-refl, IsPermutation-sym, IsPermutation-to_front, IsPermutation-trans}
use Rattle.mc_desk.specs.Desks.{IsTakerOf, taken_by}
use Rattle.mc_desk.specs.declared.desk.Desk.{Desk}
use Rattle.mc_desk.specs.declared.desk.Taker.{Taker}
use Rattle.mc_desks.proofs.Lists.{more_long, zip_long}
use Rattle.mc_desks.specs.Laid.{IsNewTaker}
use Rattle.mc_flight.specs.Seats.{IsSeatOf, IsUnused}
use Rattle.mc_flight.specs.declared.flight.Flight.{Flight}
use Rattle.mc_flight.specs.declared.flight.FlightSeat.{FlightSeat}
use Rattle.mc_live.specs.BoxRuns.{AreNewRuns, IsNewRun}
use Rattle.mc_live.specs.Phases.{AreSetFree}
use Rattle.mc_live.specs.declared.box_run.BoxRun.{BoxRun}
use Rattle.mc_phase.proofs.Sets.{all_but_last}
use Rattle.mc_phase.specs.Prepared.{CanBeFree, IsFreed, IsNewSeat, seats_of}
use Rattle.mc_team.specs.declared.member.Member.{Member}

-- these members are still to be set free, with these takers and some of these seats
pub record IsFreeing (flight : Flight) (all : List Member) (all_desks : List Desk) (all_seats : List FlightSeat) (members : List Member) (takers : List Taker) (seats : List FlightSeat) (runs : List BoxRun) : Type 0 where
  pub desks : List Desk
  pub can_free : AllByRecursion CanBeFree members
  pub count : length members ≡ length desks
  pub are_takers : AllZip IsNewTaker desks takers
  pub new_seats : AllByRecursion (IsNewSeat flight) seats
  pub enough : length members ≤ length seats
  pub set : (more : List BoxRun) → AreSetFree members more → AreSetFree all (runs ++ more)
  pub begin : (more : List BoxRun) → AreNewRuns flight desks more → AreNewRuns flight all_desks (runs ++ more)
  pub same_seats : IsPermutation all_seats (seats ++ seats_of runs)

pub freeing_none : (flight : Flight) (members : List Member) (desks : List Desk) (takers : List Taker) (seats : List FlightSeat) → AllByRecursion CanBeFree members → length members ≡ length desks → AllZip IsNewTaker desks takers → AllByRecursion (IsNewSeat flight) seats
    → length members ≤ length seats → IsFreeing flight members desks seats members takers seats []
freeing_none flight members desks takers seats can count takes good enough = record {
  desks = desks;
  can_free = can;
  count = count;
  are_takers = takes;
  new_seats = good;
  enough = enough;
  set = λ more all. all;
  begin = λ more all. all;
  same_seats = subst (IsPermutation seats) (sym (append-nil seats)) (IsPermutation-refl seats);
}

-- a box that is set free is about to run
new_run : (flight : Flight) (desk : Desk) (member : Member) (taker : Taker) (seat : FlightSeat) (run : BoxRun) → IsNewTaker desk taker → IsNewSeat flight seat → IsFreed member taker seat run → IsNewRun desk flight run
new_run flight desk member taker seat run takes sits freed = record {
  ready = freed.ready;
  stamp = freed.stamp;
  begins = freed.begins;
  taker = subst (IsTakerOf desk) (sym freed.its_taker) takes.is;
  none_taken = ap taken_by freed.its_taker ∙ takes.none;
  seat = subst (IsSeatOf flight) (sym freed.its_seat) sits.of;
  unused = subst IsUnused (sym freed.its_seat) sits.unused;
}

-- a seat goes to a box
seat_moved : (all less seats : List FlightSeat) (seat : FlightSeat) (runs longer : List BoxRun) (run : BoxRun) → seats ≡ less ++ seat ∷ [] → longer ≡ runs ++ run ∷ [] → run.seat ≡ seat → IsPermutation all (seats ++ seats_of runs) → IsPermutation all (less ++ seats_of longer)
seat_moved all less seats seat runs longer run is grown its was =
    let own = seats_of runs in
    let first : seats ++ own ≡ less ++ (seat ∷ own) = ap (λ (l : List FlightSeat). l ++ own) is ∙ append_assoc less (seat ∷ []) own in
    let last : own ++ seat ∷ [] ≡ seats_of longer =
    ap (λ (s : FlightSeat). own ++ s ∷ []) (sym its) ∙ (sym (map_push (λ (r : BoxRun). r.seat) runs run) ∙ ap seats_of (sym grown)) in
    let moved : IsPermutation (seat ∷ own) (own ++ seat ∷ []) = IsPermutation-sym (own ++ seat ∷ []) (seat ∷ own) (IsPermutation-to_front own seat) in
    let whole : IsPermutation (less ++ (seat ∷ own)) (less ++ (own ++ seat ∷ [])) = IsPermutation-append_right less (seat ∷ own) (own ++ seat ∷ []) moved in
    subst (λ (l : List FlightSeat). IsPermutation all (less ++ l)) last
    (IsPermutation-trans all (less ++ (seat ∷ own)) (less ++ (own ++ seat ∷ [])) (subst (IsPermutation all) first was) whole)

-- what is known of the next box's taker and seat, and what is known after it
more_by : (flight : Flight) (all : List Member) (all_desks desks : List Desk) (all_seats : List FlightSeat) (members next : List Member) (takers next_takers : List Taker) (seats less : List FlightSeat) (runs longer : List BoxRun) (member : Member) (taker : Taker) (seat : FlightSeat) (run : BoxRun)
    → IsFreeing flight all all_desks all_seats members takers seats runs
    → AllByRecursion CanBeFree members → length members ≡ length desks → AllZip IsNewTaker desks takers → AllByRecursion (IsNewSeat flight) seats → length members ≤ length seats
    → ((more : List BoxRun) → AreSetFree members more → AreSetFree all (runs ++ more)) → ((more : List BoxRun) → AreNewRuns flight desks more → AreNewRuns flight all_desks (runs ++ more)) → IsPermutation all_seats (seats ++ seats_of runs)
    → members ≡ member ∷ next → takers ≡ taker ∷ next_takers → seats ≡ less ++ seat ∷ [] → longer ≡ runs ++ run ∷ [] → IsFreed member taker seat run
    → IsFreeing flight all all_desks all_seats next next_takers less longer
more_by flight all all_desks [] all_seats members next takers next_takers seats less runs longer member taker seat run f can count takes good enough set begin same m t s grown freed =
    let one : length members ≡ length (member ∷ next) = ap (λ (l : List Member). length l) m in
    absurd (omega (arith, one, count))
more_by flight all all_desks (desk ∷ desks) all_seats members next takers next_takers seats less runs longer member taker seat run f can count takes good enough set begin same m t s grown freed =
    let one : length members ≡ length (member ∷ next) = ap (λ (l : List Member). length l) m in
    let two : length seats ≡ length (less ++ seat ∷ []) = ap (λ (l : List FlightSeat). length l) s in
    let three = more_long less seat in
    let first : AllZip IsNewTaker (desk ∷ desks) (taker ∷ next_takers) = subst (AllZip IsNewTaker (desk ∷ desks)) t takes in
    let sits : AllByRecursion (IsNewSeat flight) less × IsNewSeat flight seat = all_but_last (IsNewSeat flight) less seat (subst (AllByRecursion (IsNewSeat flight)) s good) in
    let joined : (more : List BoxRun) → runs ++ (run ∷ more) ≡ longer ++ more = λ more. sym (append_assoc runs (run ∷ []) more) ∙ ap (λ (l : List BoxRun). l ++ more) (sym grown) in
    let free : AllByRecursion CanBeFree (member ∷ next) = subst (AllByRecursion CanBeFree) m can in
    record {
      desks = desks;
      can_free = free.1;
      count = omega (arith, one, count);
      are_takers = first.1;
      new_seats = sits.0;
      enough = omega (arith, one, two, three, enough);
      set = λ more are. subst (AreSetFree all) (joined more) (set (run ∷ more) (subst (λ (l : List Member). AreSetFree l (run ∷ more)) (sym m) (freed.set, are)));
      begin = λ more are. subst (AreNewRuns flight all_desks) (joined more) (begin (run ∷ more) (new_run flight desk member taker seat run first.0 sits.1 freed, are));
      same_seats = seat_moved all_seats less seats seat runs longer run s grown freed.its_seat same;
    }

pub freeing_more : (flight : Flight) (all : List Member) (all_desks : List Desk) (all_seats : List FlightSeat) (members next : List Member) (takers next_takers : List Taker) (seats less : List FlightSeat) (runs longer : List BoxRun) (member : Member) (taker : Taker) (seat : FlightSeat) (run : BoxRun)
    → IsFreeing flight all all_desks all_seats members takers seats runs → members ≡ member ∷ next → takers ≡ taker ∷ next_takers → seats ≡ less ++ seat ∷ [] → longer ≡ runs ++ run ∷ [] → IsFreed member taker seat run
    → IsFreeing flight all all_desks all_seats next next_takers less longer
freeing_more flight all all_desks all_seats members next takers next_takers seats less runs longer member taker seat run f m t s grown freed =
    more_by flight all all_desks f.desks all_seats members next takers next_takers seats less runs longer member taker seat run f f.can_free f.count f.are_takers f.new_seats f.enough f.set f.begin f.same_seats m t s grown freed

-- the next box may be set free
pub next_can : (flight : Flight) (all : List Member) (all_desks : List Desk) (all_seats : List FlightSeat) (members next : List Member) (takers : List Taker) (seats : List FlightSeat) (runs : List BoxRun) (member : Member)
    → IsFreeing flight all all_desks all_seats members takers seats runs → members ≡ member ∷ next → CanBeFree member
next_can flight all all_desks all_seats members next takers seats runs member f m = (subst (AllByRecursion CanBeFree) m f.can_free).0

-- there is a taker for it, and a seat
pub next_taker : (flight : Flight) (all : List Member) (all_desks : List Desk) (all_seats : List FlightSeat) (members next : List Member) (takers : List Taker) (seats : List FlightSeat) (runs : List BoxRun) (member : Member)
    → IsFreeing flight all all_desks all_seats members takers seats runs → members ≡ member ∷ next → length takers ≡ 0 → ⊥
next_taker flight all all_desks all_seats members next takers seats runs member f m none =
    let one : length members ≡ length (member ∷ next) = ap (λ (l : List Member). length l) m in
    let two = zip_long IsNewTaker f.desks takers f.are_takers in
    let three = f.count in
    omega (arith, one, two, three, none)

pub next_seat : (flight : Flight) (all : List Member) (all_desks : List Desk) (all_seats : List FlightSeat) (members next : List Member) (takers : List Taker) (seats : List FlightSeat) (runs : List BoxRun) (member : Member)
    → IsFreeing flight all all_desks all_seats members takers seats runs → members ≡ member ∷ next → length seats ≡ 0 → ⊥
next_seat flight all all_desks all_seats members next takers seats runs member f m none =
    let one : length members ≡ length (member ∷ next) = ap (λ (l : List Member). length l) m in
    let two = f.enough in
    omega (arith, one, two, none)

-- ---- all

nothing : (desks : List Desk) → length desks ≡ 0 → desks ≡ []
nothing [] none = refl
nothing (desk ∷ desks) none = absurd (omega (arith, none))

pub all_set : (flight : Flight) (all : List Member) (all_desks : List Desk) (all_seats : List FlightSeat) (members : List Member) (takers : List Taker) (seats : List FlightSeat) (runs : List BoxRun)
    → IsFreeing flight all all_desks all_seats members takers seats runs → members ≡ [] → AreSetFree all runs
all_set flight all all_desks all_seats members takers seats runs f none = subst (AreSetFree all) (append-nil runs) (f.set [] (subst (λ (l : List Member). AreSetFree l []) (sym none) tt))

pub all_begin : (flight : Flight) (all : List Member) (all_desks : List Desk) (all_seats : List FlightSeat) (members : List Member) (takers : List Taker) (seats : List FlightSeat) (runs : List BoxRun)
    → IsFreeing flight all all_desks all_seats members takers seats runs → members ≡ [] → AreNewRuns flight all_desks runs
all_begin flight all all_desks all_seats members takers seats runs f none =
    let one : length members ≡ 0 = ap (λ (l : List Member). length l) none in
    let two = f.count in
    subst (AreNewRuns flight all_desks) (append-nil runs) (f.begin [] (subst (λ (l : List Desk). AreNewRuns flight l []) (sym (nothing f.desks (omega (arith, one, two)))) tt))
