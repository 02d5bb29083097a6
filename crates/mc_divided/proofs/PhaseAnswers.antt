-- What the calls of a phase ask for.
use Rattle.std.proofs.Common.{◌≡◌, inl, inr, ◌<◌, ◌≤◌, ◌^◌, ◌++◌, Bool, ℕ, IsTrue, List, [], length, map, refl, ap, sym, ◌∙◌, subst, arith}
use Rattle.std.proofs.lemmas.Bool.{cases_lt}
use Rattle.std.proofs.lemmas.List.{length-map}
use Rattle.std.proofs.lemmas.List.FromFn.{get_or-map-range_with_len, length-map-range_with_len}
use Rattle.mc_merge.specs.Logs.{Own}
use Rattle.mc_merge.specs.Together.{Ran}
use Rattle.mc_merge.specs.Weaving.{AreClimbing, IsKnown, entry_count, log_at, numbers_at, numbers_of}
use Rattle.mc_merge.specs.Wholes.{made_of}
use Rattle.mc_merge.specs.declared.log.Made.{Made}
use Rattle.mc_merge.specs.declared.log.PartLog.{PartLog}
use Rattle.mc_merge.proofs.Fitting.{kept_logs_fit}
use Rattle.mc_part.specs.Divisions.{members}
use Rattle.mc_part.specs.Networks.{HaveRun}
use Rattle.mc_part.specs.Parts.{state_of, tables_of}
use Rattle.mc_part.specs.Phases.{EachOf, HaveGone}
use Rattle.mc_part.specs.declared.limit.TheConstants.{STAMP_LIMIT}
use Rattle.mc_part.specs.declared.part.Part.{Part}
use Rattle.mc_part.specs.declared.part_run.PartRun.{PartRun}
use Rattle.mc_divided.specs.Networks.{IsDividedNetwork, turn_budget}
use Rattle.mc_divided.specs.Phasing.{AreChosen, AreOf, CarriesOver, HasMemory, IsCarryable, logs_in}
use Rattle.mc_divided.specs.declared.network.Crossing.{Crossing}
use Rattle.mc_divided.specs.declared.network.DividedNetwork.{DividedNetwork}
use Rattle.mc_divided.proofs.Closed.{count_in}
use Rattle.mc_divided.proofs.PartsBy.{by_map, by_part, empty_part, part_in, part_past, parts_by}
use Rattle.mc_divided.proofs.Phased.{HasNone, Went, logs_few, none_of, same_logs, went_run}

-- the lists that calls have are those before and after
pub went_of : (n : DividedNetwork) (retries every : Bool) (budget : ℕ) (chosen gone counted before_choose before_run after_run : List PartRun) → IsDividedNetwork n → (IsTrue retries → IsTrue every) → counted ≡ n.runs.items → budget ≤ turn_budget (length counted)
    → before_choose ≡ n.runs.items → AreChosen every before_choose chosen → before_run ≡ chosen → HaveGone retries budget before_run gone → after_run ≡ gone → EachOf (λ (run : PartRun). HasMemory run.ended) after_run
    → Went n retries every budget chosen gone
went_of n retries every budget chosen gone counted before_choose before_run after_run divided asked counted_is few one chose two went three memory = record {
  divided = divided;
  asked = asked;
  few = subst (λ (l : List PartRun). budget ≤ turn_budget (length l)) counted_is few;
  chose = subst (λ (l : List PartRun). AreChosen every l chosen) one chose;
  went = subst (λ (l : List PartRun). HaveGone retries budget l gone) two went;
  memory = subst (λ (l : List PartRun). EachOf (λ (run : PartRun). HasMemory run.ended) l) three memory;
}

pub carryable_of : (crossings crossings_2 : List Crossing) (runs runs_2 : List PartRun) → crossings_2 ≡ crossings → runs_2 ≡ runs → EachOf (IsCarryable runs) crossings → EachOf (IsCarryable runs_2) crossings_2
carryable_of crossings crossings_2 runs runs_2 one two each =
    subst (λ (l : List Crossing). EachOf (IsCarryable runs_2) l) (sym one) (subst (λ (l : List PartRun). EachOf (IsCarryable l) crossings) (sym two) each)

pub over_of : (crossings crossings_2 : List Crossing) (runs runs_2 carried : List PartRun) → crossings_2 ≡ crossings → runs_2 ≡ runs → CarriesOver crossings_2 runs_2 carried → CarriesOver crossings runs carried
over_of crossings crossings_2 runs runs_2 carried one two over =
    subst (λ (l : List Crossing). CarriesOver l runs carried) one (subst (λ (l : List PartRun). CarriesOver crossings_2 l carried) two over)

-- ---- logs

pub logs_count : (n : DividedNetwork) → IsDividedNetwork n → length n.logs.items ≡ length n.runs.items
logs_count n divided =
    sym (length-map n.logs.items (λ (log : PartLog). log.numbers.items)) ∙ (ap (λ (l : List (List ℕ)). length l) divided.logs ∙ length-map-range_with_len (members n.assigned.items) 0 (length n.runs.items))

pub logs_count_as : (calm : Bool) (crossings : List Crossing) (every : Bool) (runs chosen : List PartRun) (logs : List PartLog) → AreOf calm crossings runs logs → AreChosen every runs chosen → length logs ≡ length chosen
logs_count_as calm crossings every runs chosen logs o chose =
    ap (λ (l : List PartLog). length l) (sym o.logs_are) ∙ (logs_count o.network o.divided ∙ (ap (λ (l : List PartRun). length l) o.runs_are ∙ sym chose.count))

pub logs_even : (calm : Bool) (crossings : List Crossing) (retries every : Bool) (budget : ℕ) (runs chosen gone : List PartRun) (logs : List PartLog) → AreOf calm crossings runs logs → AreChosen every runs chosen → HaveGone retries budget chosen gone
    → length logs ≡ length gone
logs_even calm crossings retries every budget runs chosen gone logs o chose went = logs_count_as calm crossings every runs chosen logs o chose ∙ sym went.count

pub logs_each : (n : DividedNetwork) (retries every : Bool) (budget : ℕ) (chosen gone carried : List PartRun) → Went n retries every budget chosen gone → CarriesOver n.crossings.items gone carried → length n.logs.items ≡ length carried
logs_each n retries every budget chosen gone carried w over = logs_count n w.divided ∙ sym (over.same.count ∙ (w.went.count ∙ w.chose.count))

pub logs_short : (n : DividedNetwork) (retries every : Bool) (budget : ℕ) (chosen gone carried : List PartRun) → Went n retries every budget chosen gone → CarriesOver n.crossings.items gone carried → entry_count (logs_in carried) < 2 ^ 32
logs_short n retries every budget chosen gone carried w over =
    let few : entry_count (logs_in gone) ≤ STAMP_LIMIT = logs_few n retries every budget chosen gone w in
    subst (λ (l : List (List Made)). entry_count l < 2 ^ 32) (sym (same_logs gone carried over.same)) (omega (arith, few))

numbers_enough : (n : DividedNetwork) (none : Part) → IsDividedNetwork n → (part : ℕ) → length (parts_by none n.runs.items part).engine.boxes ≤ length (numbers_at (numbers_of n.logs.items) part)
numbers_enough n none divided part = elim (cases_lt part (length n.runs.items)) [
  | inl inside ↦
      let numbers : numbers_at (numbers_of n.logs.items) part ≡ members n.assigned.items part =
      ap (λ (l : List (List ℕ)). numbers_at l part) divided.logs ∙ get_or-map-range_with_len (members n.assigned.items) 0 (length n.runs.items) part part [] inside (omega arith) in
      let long : length (parts_by none n.runs.items part).engine.boxes ≡ length (numbers_at (numbers_of n.logs.items) part) = count_in n none divided part ∙ ap (λ (l : List ℕ). length l) (sym numbers) in
      omega (arith, long)
  | inr outside ↦
      let long : length (parts_by none n.runs.items part).engine.boxes ≡ 0 = ap (λ (p : Part). length p.engine.boxes) (part_past none n.runs.items part outside) in
      omega (arith, long)
]

kept_made : (log : List Own) (before after made : List Made) → before ≡ [] → after ≡ before ++ map made_of log → made ≡ after → map made_of log ≡ made
kept_made log before after made none longer is = sym (is ∙ (longer ∙ ap (λ (l : List Made). l ++ map made_of log) none))

pub logs_fit : (n : DividedNetwork) (retries every : Bool) (budget : ℕ) (chosen gone carried : List PartRun) → Went n retries every budget chosen gone → CarriesOver n.crossings.items gone carried
    → AreClimbing (logs_in carried) × ((part : ℕ) → IsKnown (numbers_at (numbers_of n.logs.items) part) (log_at (logs_in carried) part))
logs_fit n retries every budget chosen gone carried w over =
    let none : HasNone n = none_of n w.divided in
    let old : ℕ → Part = parts_by none.none n.runs.items in
    let new : ℕ → Part = parts_by none.none gone in
    let runs : HaveRun retries old new = went_run n retries every budget chosen gone none w in
    let ran : ℕ → Ran = λ part. record { tables = tables_of (old part); old = state_of (old part); new = state_of (new part); log = (runs part).run.log; gave = (runs part).gave; put = (runs part).put } in
    let empty : (part : ℕ) → (old part).log.items ≡ [] = by_part (λ (q : Part). q.log.items ≡ []) none.none n.runs.items (λ i run there. (w.divided.idle i run there).log) refl in
    kept_logs_fit ran (logs_in carried) (numbers_of n.logs.items)
    (λ part. kept_made (runs part).run.log (old part).log.items (new part).log.items (log_at (logs_in carried) part) (empty part) (runs part).run.logged
    (ap (λ (l : List (List Made)). log_at l part) (same_logs gone carried over.same) ∙ by_map part_in (λ (q : Part). q.log.items) gone part (empty_part none.none)))
    (λ part. (runs part).run.spanned.work)
    (λ part. (runs part).run.spanned.known)
    (numbers_enough n none.none w.divided)

pub few_as : (l m : List PartRun) → m ≡ l → entry_count (logs_in l) < 2 ^ 32 → entry_count (logs_in m) < 2 ^ 32
few_as l m is few = subst (λ (r : List PartRun). entry_count (logs_in r) < 2 ^ 32) (sym is) few

pub known_as : (l m : List PartRun) (logs logs_2 : List PartLog) → m ≡ l → logs_2 ≡ logs → ((part : ℕ) → IsKnown (numbers_at (numbers_of logs) part) (log_at (logs_in l) part)) → (part : ℕ) → IsKnown (numbers_at (numbers_of logs_2) part) (log_at (logs_in m) part)
known_as l m logs logs_2 is is_2 known part =
    subst (λ (r : List PartRun). IsKnown (numbers_at (numbers_of logs_2) part) (log_at (logs_in r) part)) (sym is)
    (subst (λ (g : List PartLog). IsKnown (numbers_at (numbers_of g) part) (log_at (logs_in l) part)) (sym is_2) (known part))

pub climb_as : (l m : List PartRun) → m ≡ l → AreClimbing (logs_in l) → AreClimbing (logs_in m)
climb_as l m is climb = subst (λ (r : List PartRun). AreClimbing (logs_in r)) (sym is) climb
