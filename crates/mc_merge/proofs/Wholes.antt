-- The merged logs of parts are those of the world's boxes.
use Rattle.std.proofs.Common.{◌+◌, ◌≡◌, ◌==◌, ◌&&◌, if◌then◌else◌, Bool, true, false, ℕ, ◌<◌, ◌≤◌, List, [], ◌∷◌, ◌++◌, length, map, ◌⊎◌, inl, inr, refl, ap, sym, ◌∙◌, subst, arith}
use Rattle.std.specs.List.{AllByRecursion}
use Rattle.std.proofs.lemmas.Bool.{eq-eqb, eqb-true}
use Rattle.std.proofs.lemmas.List.{get_or_past}
use Rattle.mc_signal.specs.declared.Tagged.{Tagged}
use Rattle.mc_box.specs.Boxes.{BoxState}
use Rattle.mc_box.specs.declared.event.Turn.{Turn}
use Rattle.mc_port.specs.Entries.{Entry}
use Rattle.mc_merge.specs.LaneLogs.{log_of}
use Rattle.mc_model.specs.Settles.{of_kind}
use Rattle.mc_model.specs.Steps.{run}
use Rattle.mc_model.specs.Worlds.{WorldState}
use Rattle.mc_merge.specs.Logs.{Own, own_log}
use Rattle.mc_merge.specs.Order.{IsMerged, NeverFall, time_of, turns_of}
use Rattle.mc_merge.specs.Together.{ArePartsOf, Homes, Ran}
use Rattle.mc_merge.proofs.Order.{runs_in_order}
use Rattle.mc_merge.proofs.OwnOrder.{own_in_order}
use Rattle.mc_merge.proofs.Together.{parts_are_logged}
use Rattle.mc_merge.specs.Weaving.{AreWoven, Climb, of_part, times_by, turn_in}
use Rattle.mc_merge.specs.Wholes.{AreHomes, AreKept, MergedInOrder, MergedIsRun, Numbers, WovenIsMerged, box_clock, entry_times, numbered, numbers_in}
use Rattle.mc_merge.specs.declared.log.Made.{Made}
use Rattle.mc_merge.proofs.Climbing.{all_of_parts}
use Rattle.mc_merge.proofs.Lifting.{lifted, made_item}

-- ---- a box of the world and its place

both_ways : (x a b : Bool) → (x ≡ true → (a ≡ true) × (b ≡ true)) → (a ≡ true → b ≡ true → x ≡ true) → x ≡ (a && b)
both_ways true true true to from = refl
both_ways true true false to from = let is = to refl in absurd (cc)
both_ways true false b to from = let is = to refl in absurd (cc)
both_ways false true true to from = from refl refl
both_ways false true false to from = refl
both_ways false false b to from = refl

-- an entry is of the box just where it is of the box's place
same_test : (homes : Homes) (parts : ℕ → Ran) (number : Numbers) (count who part at : ℕ) → AreHomes homes parts number count → who < count → at < length (parts part).old.boxes
    → (number part at == who) ≡ ((part == (homes who).0) && (at == (homes who).1))
same_test homes parts number count who part at are inside here =
    both_ways (number part at == who) (part == (homes who).0) (at == (homes who).1)
    (λ is.
    let place : (part, at) ≡ homes who = sym (are.there part at here) ∙ ap homes (eqb-true (number part at) who is) in
    (eq-eqb part (homes who).0 (ap (λ (h : ℕ × ℕ). h.0) place), eq-eqb at (homes who).1 (ap (λ (h : ℕ × ℕ). h.1) place)))
    (λ one two. eq-eqb (number part at) who
    (ap (λ (n : ℕ). number n at) (eqb-true part (homes who).0 one) ∙ (ap (λ (n : ℕ). number (homes who).0 n) (eqb-true at (homes who).1 two) ∙ are.back who inside)))

one_more : (in_part is_who : Bool) (own : Own) (at : ℕ) (left : List Entry) (right : List Own) → is_who ≡ (in_part && (own.who == at)) → left ≡ own_log at right
    → (if is_who then own.entry ∷ [] else []) ++ left ≡ own_log at ((if in_part then own ∷ [] else []) ++ right)
one_more true is_who own at left right is same = ap (λ (t : Bool). (if t then own.entry ∷ [] else []) ++ left) is ∙ ap (λ (l : List Entry). (if own.who == at then own.entry ∷ [] else []) ++ l) same
one_more false is_who own at left right is same = ap (λ (t : Bool). (if t then own.entry ∷ [] else []) ++ left) is ∙ same

own_there : (woven : List (ℕ × Own)) (homes : Homes) (parts : ℕ → Ran) (number : Numbers) (count who : ℕ) → AreHomes homes parts number count → who < count
    → AllByRecursion (λ (item : ℕ × Own). item.1.who < length (parts item.0).old.boxes) woven → own_log who (map (numbered number) woven) ≡ own_log (homes who).1 (of_part (homes who).0 woven)
own_there [] homes parts number count who are inside known = refl
own_there (item ∷ woven) homes parts number count who are inside known =
    one_more (item.0 == (homes who).0) (number item.0 item.1.who == who) item.1 (homes who).1 (own_log who (map (numbered number) woven)) (of_part (homes who).0 woven)
    (same_test homes parts number count who item.0 item.1.who are inside known.0) (own_there woven homes parts number count who are inside known.1)

-- ---- no others

all_here : (woven : List (ℕ × Own)) (homes : Homes) (parts : ℕ → Ran) (number : Numbers) (count : ℕ) → AreHomes homes parts number count
    → AllByRecursion (λ (item : ℕ × Own). item.1.who < length (parts item.0).old.boxes) woven → AllByRecursion (λ (own : Own). own.who < count) (map (numbered number) woven)
all_here [] homes parts number count are known = tt
all_here (item ∷ woven) homes parts number count are known = (are.inside item.0 item.1.who known.0, all_here woven homes parts number count are known.1)

not_here : (test : Bool) (entry : Entry) (entries : List Entry) → (test ≡ true → ⊥) → (if test then entry ∷ [] else []) ++ entries ≡ entries
not_here true entry entries apart = absurd (apart refl)
not_here false entry entries apart = refl

past : (whole : List Own) (who count : ℕ) → count ≤ who → AllByRecursion (λ (own : Own). own.who < count) whole → own_log who whole ≡ []
past [] who count outside here = refl
past (own ∷ whole) who count outside here =
    not_here (own.who == who) own.entry (own_log who whole)
    (λ is. let same : own.who ≡ who = eqb-true own.who who is in let below : own.who < count = here.0 in omega arith)
    ∙ past whole who count outside here.1

-- ---- stamps

-- an entry of a box that is there has its part's clock
same_time : (homes : Homes) (parts : ℕ → Ran) (number : Numbers) (clock : ℕ → ℕ) (count : ℕ) (item : ℕ × Own) → AreHomes homes parts number count → item.1.who < length (parts item.0).old.boxes
    → time_of (box_clock homes clock) (numbered number item) ≡ clock item.0 + item.1.entry.stamp
same_time homes parts number clock count item are known =
    ap (λ (home : ℕ × ℕ). clock home.0 + item.1.entry.stamp) (are.there item.0 item.1.who known)

falls_later : (woven : List (ℕ × Own)) (homes : Homes) (parts : ℕ → Ran) (number : Numbers) (clock : ℕ → ℕ) (count time : ℕ) → AreHomes homes parts number count
    → AllByRecursion (λ (item : ℕ × Own). item.1.who < length (parts item.0).old.boxes) woven → AllByRecursion (λ (later : ℕ). time ≤ later) (entry_times clock woven)
    → AllByRecursion (λ (later : Own). time ≤ time_of (box_clock homes clock) later) (map (numbered number) woven)
falls_later [] homes parts number clock count time are known all = tt
falls_later (item ∷ woven) homes parts number clock count time are known all = (
  subst (λ (n : ℕ). time ≤ n) (sym (same_time homes parts number clock count item are known.0)) all.0,
  falls_later woven homes parts number clock count time are known.1 all.1,
)

never_fall : (woven : List (ℕ × Own)) (homes : Homes) (parts : ℕ → Ran) (number : Numbers) (clock : ℕ → ℕ) (count : ℕ) → AreHomes homes parts number count
    → AllByRecursion (λ (item : ℕ × Own). item.1.who < length (parts item.0).old.boxes) woven → Climb (entry_times clock woven) → NeverFall (box_clock homes clock) (map (numbered number) woven)
never_fall [] homes parts number clock count are known climb = tt
never_fall (item ∷ woven) homes parts number clock count are known climb = (
  subst (λ (n : ℕ). AllByRecursion (λ (later : Own). n ≤ time_of (box_clock homes clock) later) (map (numbered number) woven)) (sym (same_time homes parts number clock count item are known.0))
      (falls_later woven homes parts number clock count (clock item.0 + item.1.entry.stamp) are known.1 climb.0),
  never_fall woven homes parts number clock count are known.1 climb.1,
)

-- ---- all of it

within : (who count : ℕ) → (who < count) ⊎ (count ≤ who)
within who count = grind arith

pub woven_is_merged : WovenIsMerged
woven_is_merged homes parts number clock logs woven are logs_are each climb =
    let known : AllByRecursion (λ (item : ℕ × Own). item.1.who < length (parts item.0).old.boxes) woven =
    all_of_parts (λ part own. own.who < length (parts part).old.boxes) woven
    (λ part. subst (λ (l : List Own). AllByRecursion (λ (own : Own). own.who < length (parts part).old.boxes) l) (sym (each part)) (are.known part)) in
    let here : AllByRecursion (λ (own : Own). own.who < length logs) (map (numbered number) woven) = all_here woven homes parts number (length logs) are known in
    record {
      each = λ who. elim (within who (length logs)) [
        | inl inside ↦ own_there woven homes parts number (length logs) who are inside known ∙ (ap (own_log (homes who).1) (each (homes who).0) ∙ sym (logs_are who inside))
        | inr outside ↦ past (map (numbered number) woven) who (length logs) outside here ∙ sym (get_or_past logs who [] outside)
      ];
      here = here;
      order = never_fall woven homes parts number clock (length logs) are known climb;
    }

-- ---- as they are kept

times_kept : (clock : ℕ → ℕ) (items : List (ℕ × Own)) → times_by clock (map made_item items) ≡ entry_times clock items
times_kept clock [] = refl
times_kept clock (item ∷ items) = ap (λ (l : List ℕ). (clock item.0 + item.1.entry.stamp) ∷ l) (times_kept clock items)

turns_kept : (items : List (ℕ × Own)) (numbers : List (List ℕ)) → map (turn_in numbers) (map made_item items) ≡ turns_of (map (numbered (numbers_in numbers)) items)
turns_kept [] numbers = refl
turns_kept (item ∷ items) numbers = ap (λ (l : List Turn). turn_in numbers (made_item item) ∷ l) (turns_kept items numbers)

record Wholes (clock : ℕ → ℕ) (logs : List (List Entry)) (numbers : List (List ℕ)) (woven : List (ℕ × Made)) : Type 0 where
  whole : List Own
  merged : IsMerged clock logs whole
  turns : map (turn_in numbers) woven ≡ turns_of whole

wholes : (homes : Homes) (parts : ℕ → Ran) (numbers : List (List ℕ)) (clock : ℕ → ℕ) (logs : List (List Entry)) (made : List (List Made)) (woven : List (ℕ × Made))
    → AreHomes homes parts (numbers_in numbers) (length logs) → ((who : ℕ) → log_of logs who ≡ own_log (homes who).1 (parts (homes who).0).log) → AreKept parts made → AreWoven clock made woven → Wholes (box_clock homes clock) logs numbers woven
wholes homes parts numbers clock logs made woven are logs_are kept weave =
    let lift = lifted woven (λ part. (parts part).log) (λ part. weave.each part ∙ sym (kept part)) in
    record {
      whole = map (numbered (numbers_in numbers)) lift.items;
      merged = woven_is_merged homes parts (numbers_in numbers) clock logs lift.items are (λ who inside. logs_are who) lift.each
          (subst Climb (sym (ap (times_by clock) lift.same) ∙ times_kept clock lift.items) weave.order);
      turns = sym (ap (map (turn_in numbers)) lift.same) ∙ turns_kept lift.items numbers;
    }

wholes_of : (world : WorldState) (homes : Homes) (parts : ℕ → Ran) (numbers : List (List ℕ)) (clock : ℕ → ℕ) (logs : List (List Entry)) (boxes : List BoxState) (rests : List (List Tagged)) (made : List (List Made)) (woven : List (ℕ × Made))
    → ArePartsOf world homes parts logs boxes rests → AreHomes homes parts (numbers_in numbers) (length world.boxes) → AreKept parts made → AreWoven clock made woven → Wholes (box_clock homes clock) logs numbers woven
wholes_of world homes parts numbers clock logs boxes rests made woven are homes_are kept weave =
    wholes homes parts numbers clock logs made woven (subst (λ (n : ℕ). AreHomes homes parts (numbers_in numbers) n) (sym are.log_count) homes_are) are.logs_are kept weave

pub merged_is_run : MergedIsRun
merged_is_run world homes parts numbers clock logs boxes rests made woven are homes_are kept weave share =
    let is = wholes_of world homes parts numbers clock logs boxes rests made woven are homes_are kept weave in
    ap (run world) is.turns ∙ runs_in_order (box_clock homes clock) world logs is.whole boxes rests (parts_are_logged world homes parts logs boxes rests are) share is.merged

pub merged_in_order : MergedInOrder
merged_in_order world homes parts numbers clock logs boxes rests made woven who kind are homes_are kept weave =
    let is = wholes_of world homes parts numbers clock logs boxes rests made woven are homes_are kept weave in
    ap (of_kind kind who) is.turns ∙ own_in_order (box_clock homes clock) logs is.whole who kind is.merged
