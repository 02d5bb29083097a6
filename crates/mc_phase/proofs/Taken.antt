-- What boxes took that ran freely.
use Rattle.std.proofs.Common.{◌≡◌, ◌⊎◌, inl, inr, ℕ, zero, suc, ◌<◌, ◌≤◌, false, List, [], ◌∷◌, ◌++◌, length, map, slice_get, slice_index_or, Some, refl, sym, ◌∙◌, ap, subst, arith}
use Rattle.std.specs.List.{AllByRecursion}
use Rattle.std.specs.Option.{option_map}
use Rattle.std.specs.declared.alloc.Global.{Global}
use Rattle.std.specs.declared.vec.Vec.{Vec}
use Rattle.std.proofs.lemmas.Bool.{cases_lt}
use Rattle.std.proofs.lemmas.List.{get_or_past, length-map}
use Rattle.std.proofs.lemmas.Option.{get_or_from_slice_get, slice_get-map, slice_get_within}
use Rattle.mc_box.specs.declared.event.Turn.{Turn}
use Rattle.mc_desk.specs.Desks.{accepted_at, operator_count, taken_by}
use Rattle.mc_desk.specs.Histories.{requests_of}
use Rattle.mc_desk.specs.declared.desk.Desk.{Desk}
use Rattle.mc_desk.specs.declared.desk.Operator.{Operator}
use Rattle.mc_desk.specs.declared.request.Request.{Request}
use Rattle.mc_desks.proofs.Lists.{of_all, there_is}
use Rattle.mc_desks.specs.Finished.{AreRests, accepted_there}
use Rattle.mc_lane.specs.Queue.{Queue}
use Rattle.mc_live.proofs.Ends.{ends_are_all}
use Rattle.mc_live.proofs.Freed.{all_at, three_count, zip_count}
use Rattle.mc_live.specs.Askers.{HasAsked, HaveAsked}
use Rattle.mc_live.specs.Beside.{AllThree}
use Rattle.mc_live.specs.BoxRuns.{HasRunFreely, HaveRunFreely, IsNewRun}
use Rattle.mc_live.specs.Courses.{is_refused}
use Rattle.mc_live.specs.Ends.{AreAsksFor, hand_at}
use Rattle.mc_live.specs.Phases.{NoneRefused}
use Rattle.mc_live.specs.Requests.{ends_asked}
use Rattle.mc_live.specs.declared.asker.Asker.{Asker}
use Rattle.mc_live.specs.declared.box_run.BoxRun.{BoxRun}
use Rattle.mc_phase.proofs.Closing.{all_weaker}
use Rattle.mc_phase.specs.Asked.{AreTakenFrom, hand_lists, taken_at}
use Rattle.mc_phase.specs.Prepared.{AreAskersOf, IsPrepared, all_taken, passes_of, takers_of}
use Rattle.mc_phase.specs.declared.preparing.PhaseParts.{PhaseParts}
use Rattle.mc_team.specs.declared.member.Member.{Member}

-- ---- one box

-- what a box took that had memory, and as many ends as were counted
pub record HasTaken (desk : Desk) (run : BoxRun) : Type 0 where
  pub same : taken_by run.taker ≡ run.course.taken.items
  pub ended : operator_count desk ≤ ends_asked (taken_by run.taker)

taken_of : (desk : Desk) (began run : BoxRun) → HasRunFreely desk began run → is_refused run.course.pace ≡ false → HasTaken desk run
taken_of desk began run ran calm = elim ran.on.come [
  | inl refused ↦ cc
  | inr both ↦ record {
    same = both.1;
    ended = subst (λ (n : ℕ). operator_count desk ≤ n) (both.0.ended_is ∙ ap ends_asked (sym both.1)) ran.ended;
  }
]

-- ---- the operators

abbrev asks_its : Vec Turn Global → Asker → Asker → Type 0
asks_its hand old new = HasAsked hand.items old new

found : {A B : Type 0} (f : A → B) (xs : List A) (k : ℕ) (x : A) (d : B) → slice_get xs k ≡ Some x → slice_index_or (map f xs) k d ≡ f x
found f xs k x d at = get_or_from_slice_get (map f xs) k (f x) d (slice_get-map f xs k ∙ ap (option_map f) at)

-- the hand of the operator of a place
hand_of : (hands : List (Vec Turn Global)) (old new : List Asker) (operator : ℕ) (a b : Asker) → HaveAsked hands old new → slice_get old operator ≡ Some a → slice_get new operator ≡ Some b → HasAsked (hand_at (hand_lists hands) operator) a b
hand_of [] [] [] operator a b asked p q = absurd (cc)
hand_of (hand ∷ hands) (x ∷ old) (y ∷ new) zero a b asked p q =
    let one : x ≡ a = cc in
    let two : y ≡ b = cc in
    subst (λ (s : Asker). HasAsked hand.items a s) two (subst (λ (s : Asker). HasAsked hand.items s y) one asked.0)
hand_of (hand ∷ hands) (x ∷ old) (y ∷ new) (suc operator) a b asked p q = hand_of hands old new operator a b asked.1 p q
hand_of [] [] (y ∷ new) operator a b asked p q = absurd asked
hand_of [] (x ∷ old) new operator a b asked p q = absurd asked
hand_of (hand ∷ hands) [] new operator a b asked p q = absurd asked
hand_of (hand ∷ hands) (x ∷ old) [] operator a b asked p q = absurd asked

-- what was accepted from an operator at a desk
asks_at : (desks : List Desk) (hands : List (Vec Turn Global)) (old new : List Asker) (operators who operator : ℕ) → AreAskersOf desks operators old → HaveAsked hands old new → who < length desks → operator < length old
    → AreAsksFor who (hand_at (hand_lists hands) operator) (accepted_there (passes_of new) who operator)
asks_at desks hands old new operators who operator are asked within low =
    let long = three_count asks_its hands old new asked in
    let a = there_is old operator low in
    let b = there_is new operator (omega (arith, low, long)) in
    let has = hand_of hands old new operator a.0 b.0 asked a.1 b.1 in
    let count = (are.each operator a.0 a.1).new.passes.count in
    subst (λ (l : List Operator). AreAsksFor who (hand_at (hand_lists hands) operator) (accepted_at l who)) (sym (found (λ (s : Asker). s.passes.items) new operator b.0 [] b.1)) (has.asked who (omega (arith, within, count)))

none_past : (new : List Asker) (who operator : ℕ) → length new ≤ operator → accepted_there (passes_of new) who operator ≡ []
none_past new who operator past =
    let long = length-map new (λ (s : Asker). s.passes.items) in
    ap (λ (l : List Operator). accepted_at l who) (get_or_past (passes_of new) operator [] (omega (arith, past, long)))

-- ---- all boxes

-- what stands at a place of the first list, where something stands there in the others
three_place : {X Y Z : Type 0} (R : X → Y → Z → Type 0) (xs : List X) (ys : List Y) (zs : List Z) (k : ℕ) (y : Y) (z : Z) → AllThree R xs ys zs → slice_get ys k ≡ Some y → slice_get zs k ≡ Some z → (x : X) × (slice_get xs k ≡ Some x) × R x y z
three_place R [] [] [] k y z all p q = absurd (cc)
three_place R (x ∷ xs) (v ∷ ys) (w ∷ zs) zero y z all p q =
    let one : v ≡ y = cc in
    let two : w ≡ z = cc in
    (x, refl, subst (λ s. R x y s) two (subst (λ s. R x s w) one all.0))
three_place R (x ∷ xs) (v ∷ ys) (w ∷ zs) (suc k) y z all p q = three_place R xs ys zs k y z all.1 p q
three_place R [] [] (w ∷ zs) k y z all p q = absurd all
three_place R [] (v ∷ ys) zs k y z all p q = absurd all
three_place R (x ∷ xs) [] zs k y z all p q = absurd all
three_place R (x ∷ xs) (v ∷ ys) [] k y z all p q = absurd all

-- what a box took of each operator, where the operators have asked and what is left on its desk is known
took_all : (desks : List Desk) (hands : List (Vec Turn Global)) (old new : List Asker) (operators who : ℕ) (desk : Desk) (run : BoxRun) (rest : List Request) → AreAskersOf desks operators old → HaveAsked hands old new → length hands ≡ operators
    → who < length desks → HasTaken desk run → operators ≡ operator_count desk → AllByRecursion (λ (r : Request). r.operator < operator_count desk) (taken_by run.taker)
    → ((operator : ℕ) → requests_of operator (taken_by run.taker ++ rest) ≡ accepted_there (passes_of new) who operator)
    → (operator : ℕ) → operator < length (hand_lists hands) → AreAsksFor who (hand_at (hand_lists hands) operator) (requests_of operator (taken_by run.taker))
took_all desks hands old new operators who desk run rest are asked count within has counts known history =
    let long = three_count asks_its hands old new asked in
    let many = length-map hands (λ (hand : Vec Turn Global). hand.items) in
    let of = are.count in
    let ended = has.ended in
    (ends_are_all who (hand_lists hands) (taken_by run.taker) rest (accepted_there (passes_of new) who) history
    (λ operator low. asks_at desks hands old new operators who operator are asked within (omega (arith, low, many, count, of)))
    (λ operator past. none_past new who operator (omega (arith, past, many, count, of, long)))
    (all_weaker (λ (r : Request). r.operator < operator_count desk) (λ (r : Request). r.operator < length (hand_lists hands)) (taken_by run.taker) (λ r low. omega (arith, low, many, count, counts)) known)
    (omega (arith, ended, many, count, counts))).1

-- what is known of the box of a place
pub record IsTakenAt (hands : List (List Turn)) (who : ℕ) (run : BoxRun) : Type 0 where
  pub same : taken_by run.taker ≡ run.course.taken.items
  pub known : AllByRecursion (λ (r : Request). r.operator < length hands) (taken_by run.taker)
  pub asked : (operator : ℕ) → operator < length hands → AreAsksFor who (hand_at hands operator) (requests_of operator (taken_by run.taker))

pub taken_here : (operators : ℕ) (members : List Member) (hands : List (Vec Turn Global)) (old : PhaseParts) (askers : List Asker) (ran : List BoxRun) (rests : List (Queue Request)) → IsPrepared operators members old → length hands ≡ operators
    → HaveAsked hands old.askers.items askers → HaveRunFreely old.desks.items old.runs.items ran → NoneRefused ran → AreRests (takers_of ran) (passes_of askers) rests
    → (who : ℕ) (run : BoxRun) → slice_get ran who ≡ Some run → IsTakenAt (hand_lists hands) who run
taken_here operators members hands old askers ran rests is count asked runs calm left who run at =
    let desks = old.desks.items in
    let within = slice_get_within ran who run at in
    let last = three_count HasRunFreely desks old.runs.items ran runs in
    let first = zip_count (λ (desk : Desk) (own : BoxRun). IsNewRun desk old.flight own) desks old.runs.items is.begin in
    let began = there_is old.runs.items who (omega (arith, within, last)) in
    let there = three_place HasRunFreely desks old.runs.items ran who began.0 run runs began.1 at in
    let desk : Desk = there.0 in
    let counts : operators ≡ operator_count desk = of_all (λ (d : Desk). operators ≡ operator_count d) desks who desk is.counts there.1 in
    let has = taken_of desk began.0 run there.2 (all_at (λ (own : BoxRun). is_refused own.course.pace ≡ false) ran who run calm at) in
    let many = length-map hands (λ (hand : Vec Turn Global). hand.items) in
    let takers = length-map ran (λ (own : BoxRun). own.taker) in
    let rest = there_is rests who (let long = left.count in omega (arith, within, long, takers)) in
    let taker : slice_get (takers_of ran) who ≡ Some run.taker = slice_get-map (λ (own : BoxRun). own.taker) ran who ∙ ap (option_map (λ (own : BoxRun). own.taker)) at in
    record {
      same = has.same;
      known = all_weaker (λ (r : Request). r.operator < operator_count desk) (λ (r : Request). r.operator < length (hand_lists hands)) (taken_by run.taker) (λ r low. omega (arith, low, many, count, counts)) there.2.known;
      asked = took_all desks hands old.askers.items askers operators who desk run rest.0.items is.are_askers asked count (omega (arith, within, last, first)) has counts there.2.known (left.each who run.taker rest.0 taker rest.1);
    }

taken_by_place : (hands : List (List Turn)) (ran : List BoxRun) (who : ℕ) → ((k : ℕ) (run : BoxRun) → slice_get ran k ≡ Some run → IsTakenAt hands k run) → (who < length ran) ⊎ (length ran ≤ who) → AllByRecursion (λ (r : Request). r.operator < length hands) (taken_at (all_taken ran) who)
taken_by_place hands ran who each (inl within) =
    let run = there_is ran who within in
    let is = each who run.0 run.1 in
    subst (AllByRecursion (λ (r : Request). r.operator < length hands)) (is.same ∙ sym (found (λ (own : BoxRun). own.course.taken.items) ran who run.0 [] run.1)) is.known
taken_by_place hands ran who each (inr past) =
    let long = length-map ran (λ (own : BoxRun). own.course.taken.items) in
    subst (AllByRecursion (λ (r : Request). r.operator < length hands)) (sym (get_or_past (all_taken ran) who [] (omega (arith, past, long)))) tt

pub taken_from : (hands : List (List Turn)) (ran : List BoxRun) → ((who : ℕ) (run : BoxRun) → slice_get ran who ≡ Some run → IsTakenAt hands who run) → AreTakenFrom hands (length ran) (all_taken ran)
taken_from hands ran each = record {
  count = length-map ran (λ (own : BoxRun). own.course.taken.items);
  known = λ who. taken_by_place hands ran who each (cases_lt who (length ran));
  asked = λ who operator within low.
      let run = there_is ran who within in
      let is = each who run.0 run.1 in
      subst (λ (l : List Request). AreAsksFor who (hand_at hands operator) (requests_of operator l)) (is.same ∙ sym (found (λ (own : BoxRun). own.course.taken.items) ran who run.0 [] run.1)) (is.asked operator low);
}
