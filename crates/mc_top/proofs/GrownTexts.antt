-- What was read of a text whose network grows, and what was left of it: the first bytes of what stands after its line
-- `grow` have the fault of the whole.
use Rattle.std.proofs.Common.{◌≡◌, ◌⊎◌, inl, inr, ℕ, zero, suc, ◌+◌, ◌-◌, ◌<◌, ◌≤◌, ◌&&◌, Bool, true, nat_le, nat_lt, min, lt-ltb, List, [], ◌∷◌, ◌++◌, length, take, drop, slice_index_or, Option, Some, None, refl, sym, ap, ap₂, subst, ◌∙◌, arith, length-append, length-drop}
use Rattle.std.proofs.lemmas.Bool.{cases_lt}
use Rattle.std.proofs.lemmas.List.{drop-take, get_or_append_left, get_or_at, take_all}
use Rattle.mc_lines.specs.Rules.{is_skipped, text_limit}
use Rattle.mc_lines.specs.SoFar.{Declared}
use Rattle.mc_lines.specs.declared.tail.Tail.TheVariants.{Grow}
use Rattle.mc_net.proofs.Faults.{not_both, same_value}
use Rattle.mc_net.proofs.FirstBytes.{
  AreSameBelow,
  IsPassed,
  all_are_large,
  all_bytes,
  bytes_before-append,
  cut_there,
  does_pass,
  extent,
  faults_of_the_first_bytes,
  first_are_large,
  long_end_is,
  says_of_the_first_bytes,
  passed_at,
  same_bytes,
  says_nothing,
}
use Rattle.mc_net.specs.TextLaws.{first_bytes}
use Rattle.mc_net.specs.Texts.{Says, bytes_before, declared_by, text_end, text_lines}
use Rattle.mc_net.specs.declared.net.Net.{Net}
use Rattle.mc_stage_plans.specs.PlanLaws.{ArePlanned}
use Rattle.mc_stages.specs.declared.plan.StagePlan.{StagePlan}
use Rattle.mc_script.specs.Rules.{byte_rules, least_broken}
use Rattle.mc_tail.specs.Rules.{tail_line_fault, tail_words_rules}
use Rattle.mc_tail.specs.SoFar.{TailState}
use Rattle.mc_tail.specs.Tails.{DeclaresTail, IsTailFault, at_tail_line, bytes_before_tail, head, head_count, tail_by, tail_fault_at, tail_lines, tail_state_after}
use Rattle.mc_tail.specs.declared.tail.TailText.{TailText}
use Rattle.mc_text.specs.Lines.{is_line_end, lines, words}
use Rattle.mc_top.specs.Growing.{IsGrowingFault, ToldGrowingFault, ToldPlans}
use Rattle.mc_call.specs.Calls.{IsTextOf}

-- ---- rules past the limit

-- the other rules on a line
abbrev others_of : TailState → List ℕ → List (ℕ × Bool)
others_of t line = byte_rules line ++ tail_words_rules (is_skipped (words line)) t (words line)

-- before the lines after `grow` this is declared
abbrev begun : Declared → TailState
begun d = record { declared = d; out = []; items = [] }

-- so far the limit is reached, and passed
reaches : (end rest limit before : ℕ) → end + rest ≡ limit → before ≤ rest → end + before ≤ limit
reaches end rest limit before total below = omega arith

passes : (end rest limit before some all : ℕ) → end + rest ≡ limit → rest ≤ before + some → some ≤ all → limit ≤ end + before + all
passes end rest limit before some all total reached more = omega arith

-- past the limit it doesn't matter how long a text is
beyond : (total other before : ℕ) (t : TailState) (line : List ℕ) → text_limit Grow < total → text_limit Grow < other
    → tail_line_fault total before t line ≡ tail_line_fault other before t line
beyond total other before t line one two =
    let first : nat_lt (text_limit Grow) total ≡ true = lt-ltb _ _ one in
    let second : nat_lt (text_limit Grow) other ≡ true = lt-ltb _ _ two in
    ap (λ (b : Bool). least_broken ((1, b && nat_le before (text_limit Grow) && nat_le (text_limit Grow) (before + length line)) ∷ others_of t line)) (first ∙ sym second)

-- a line that passes it has that fault
passing : (total before : ℕ) (t : TailState) (line : List ℕ) → text_limit Grow < total → before ≤ text_limit Grow → text_limit Grow ≤ before + length line
    → tail_line_fault total before t line ≡ Some 1
passing total before t line large reached passed =
    ap (λ (b : Bool). least_broken ((1, b) ∷ others_of t line)) (does_pass (text_limit Grow) total before line large reached passed)

-- ---- lines after `grow`

-- what the lines after `grow` of two texts declare is the same as long as they are, and those before it
same_tail_by : (short long : List ℕ) (n : ℕ) → head short ≡ head long → ((k : ℕ) → k < n → slice_index_or (tail_lines short) k [] ≡ slice_index_or (tail_lines long) k [])
    → (k : ℕ) → k ≤ n → tail_by short k ≡ tail_by long k
same_tail_by short long n heads same zero within = ap begun heads
same_tail_by short long n heads same (suc k) within = ap₂ tail_state_after (same_tail_by short long n heads same k (omega arith)) (same k (omega arith))

-- the lines up to `grow` of both are the same, and so is where they end; after them the same lines stand up to the one
-- with the byte that passes the limit
record AreCutAfter (short long : List ℕ) : Type 0 where
  small : text_limit Grow < length short
  large : text_limit Grow < length long
  same : text_lines Grow short ≡ text_lines Grow long
  ends : text_end Grow short ≡ text_end Grow long
  rest : ℕ
  total : text_end Grow short + rest ≡ text_limit Grow
  at : IsPassed rest (tail_lines short) (tail_lines long)

module _ (short long : List ℕ) (cut : AreCutAfter short long) where
  heads : head short ≡ head long
  heads = ap (λ (all : List (List ℕ)). declared_by Grow all (length all)) cut.same

  same_lines : (k : ℕ) → k < length cut.at.before → slice_index_or (tail_lines short) k [] ≡ slice_index_or (tail_lines long) k []
  same_lines k earlier =
      ap (λ (all : List (List ℕ)). slice_index_or all k []) cut.at.short_is
      ∙ get_or_append_left cut.at.before (cut.at.line ∷ cut.at.after) [] k earlier
      ∙ sym (get_or_append_left cut.at.before ((cut.at.line ++ cut.at.more) ∷ cut.at.others) [] k earlier)
      ∙ sym (ap (λ (all : List (List ℕ)). slice_index_or all k []) cut.at.long_is)

  same_before : (k : ℕ) → k ≤ length cut.at.before → bytes_before_tail short k ≡ bytes_before_tail long k
  same_before k within =
      ap₂ (λ (e b : ℕ). e + b) cut.ends (same_bytes (tail_lines short) (tail_lines long) (length cut.at.before) same_lines k within)

  same_fault : (k : ℕ) → k < length cut.at.before → tail_fault_at short k ≡ tail_fault_at long k
  same_fault k earlier =
      beyond (length short) (length long) (bytes_before_tail short k) (tail_by short k) (slice_index_or (tail_lines short) k []) cut.small cut.large
      ∙ ap (λ (b : ℕ). tail_line_fault (length long) b (tail_by short k) (slice_index_or (tail_lines short) k [])) (same_before k (omega arith))
      ∙ ap (λ (t : TailState). tail_line_fault (length long) (bytes_before_tail long k) t (slice_index_or (tail_lines short) k [])) (same_tail_by short long (length cut.at.before) heads same_lines k (omega arith))
      ∙ ap (λ (line : List ℕ). tail_line_fault (length long) (bytes_before_tail long k) (tail_by long k) line) (same_lines k earlier)

  -- the line that passes the limit in the short text, and in the long one
  short_fault : tail_fault_at short (length cut.at.before) ≡ Some 1
  short_fault =
      let counted : bytes_before (tail_lines short) (length cut.at.before) ≡ extent cut.at.before =
      ap (λ (all : List (List ℕ)). bytes_before all (length cut.at.before)) cut.at.short_is ∙ bytes_before-append cut.at.before (cut.at.line ∷ cut.at.after) in
      let here : slice_index_or (tail_lines short) (length cut.at.before) [] ≡ cut.at.line =
      ap (λ (all : List (List ℕ)). slice_index_or all (length cut.at.before) []) cut.at.short_is ∙ get_or_at cut.at.before cut.at.line cut.at.after [] (length cut.at.before) refl in
      ap₂ (λ (b : ℕ) (line : List ℕ). tail_line_fault (length short) (text_end Grow short + b) (tail_by short (length cut.at.before)) line) counted here
      ∙ passing (length short) (text_end Grow short + extent cut.at.before) (tail_by short (length cut.at.before)) cut.at.line cut.small
      (reaches (text_end Grow short) cut.rest (text_limit Grow) (extent cut.at.before) cut.total cut.at.reached)
      (passes (text_end Grow short) cut.rest (text_limit Grow) (extent cut.at.before) (length cut.at.line) (length cut.at.line) cut.total cut.at.passed (omega arith))

  long_fault : tail_fault_at long (length cut.at.before) ≡ Some 1
  long_fault =
      let counted : bytes_before (tail_lines long) (length cut.at.before) ≡ extent cut.at.before =
      ap (λ (all : List (List ℕ)). bytes_before all (length cut.at.before)) cut.at.long_is ∙ bytes_before-append cut.at.before ((cut.at.line ++ cut.at.more) ∷ cut.at.others) in
      let here : slice_index_or (tail_lines long) (length cut.at.before) [] ≡ cut.at.line ++ cut.at.more =
      ap (λ (all : List (List ℕ)). slice_index_or all (length cut.at.before) []) cut.at.long_is ∙ get_or_at cut.at.before (cut.at.line ++ cut.at.more) cut.at.others [] (length cut.at.before) refl in
      let start : text_end Grow long + cut.rest ≡ text_limit Grow = ap (λ (e : ℕ). e + cut.rest) (sym cut.ends) ∙ cut.total in
      ap₂ (λ (b : ℕ) (line : List ℕ). tail_line_fault (length long) (text_end Grow long + b) (tail_by long (length cut.at.before)) line) counted here
      ∙ passing (length long) (text_end Grow long + extent cut.at.before) (tail_by long (length cut.at.before)) (cut.at.line ++ cut.at.more) cut.large
      (reaches (text_end Grow long) cut.rest (text_limit Grow) (extent cut.at.before) start cut.at.reached)
      (passes (text_end Grow long) cut.rest (text_limit Grow) (extent cut.at.before) (length cut.at.line) (length (cut.at.line ++ cut.at.more)) start cut.at.passed (omega (arith, length-append cut.at.line cut.at.more)))

  short_within : length cut.at.before < length (tail_lines short)
  short_within =
      let all : length (tail_lines short) ≡ length (cut.at.before ++ cut.at.line ∷ cut.at.after) = ap (λ (lines : List (List ℕ)). length lines) cut.at.short_is in
      omega (arith, length-append cut.at.before (cut.at.line ∷ cut.at.after))

  long_within : length cut.at.before < length (tail_lines long)
  long_within =
      let all : length (tail_lines long) ≡ length (cut.at.before ++ (cut.at.line ++ cut.at.more) ∷ cut.at.others) = ap (λ (lines : List (List ℕ)). length lines) cut.at.long_is in
      omega (arith, length-append cut.at.before ((cut.at.line ++ cut.at.more) ∷ cut.at.others))

  counts : head_count short ≡ head_count long
  counts = ap (λ (all : List (List ℕ)). length all) cut.same

  -- a fault of the long text at a line
  at_line_of : (number k : ℕ) → k ≤ length cut.at.before → ((i : ℕ) → i < k → tail_fault_at short i ≡ None) → tail_fault_at long k ≡ Some number
      → IsTailFault long number (head_count short + k + 1)
  at_line_of number k least sound broken =
      let inside = long_within in
      subst (λ (count : ℕ). IsTailFault long number (count + k + 1)) (sym counts)
      (at_tail_line k (omega arith) (λ i below. sym (same_fault i (omega arith)) ∙ sound i below) broken)

  -- the fault of the short text is that of the long one
  tail_fault_all : (number line : ℕ) → IsTailFault short number line → IsTailFault long number line
  tail_fault_all number line (at_tail_line k within sound broken) = by (cases_lt k (length cut.at.before)) (cases_lt (length cut.at.before) k)
    where
      by : (k < length cut.at.before) ⊎ (length cut.at.before ≤ k) → (length cut.at.before < k) ⊎ (k ≤ length cut.at.before) → IsTailFault long number (head_count short + k + 1)
      by (inl earlier) right = at_line_of number k (omega arith) sound (sym (same_fault k earlier) ∙ broken)
      by (inr most) (inl later) = absurd (not_both (tail_fault_at short (length cut.at.before)) 1 (sound (length cut.at.before) later) short_fault)
      by (inr most) (inr least) =
          let here : length cut.at.before ≡ k = omega arith in
          let first : tail_fault_at short k ≡ Some 1 = subst (λ (i : ℕ). tail_fault_at short i ≡ Some 1) here short_fault in
          let number_is : 1 ≡ number = same_value (tail_fault_at short k) 1 number first broken in
          at_line_of number k least sound (subst (λ (i : ℕ). tail_fault_at long i ≡ Some number) here (long_fault ∙ ap (λ (n : ℕ). Some n) number_is))

  -- and it says nothing
  tail_says_nothing : (tail : TailText) → DeclaresTail short tail → ⊥
  tail_says_nothing tail declares = not_both (tail_fault_at short (length cut.at.before)) 1 (declares.says.sound (length cut.at.before) short_within) short_fault

-- ---- first bytes

least : (counted extent all limit : ℕ) → counted ≡ extent → extent ≤ limit → min counted all ≤ limit
least counted extent all limit same below = omega arith

up_again : (end limit : ℕ) → end ≤ limit → end + (limit - end) ≡ limit
up_again end limit below = omega arith

-- what stands after an end among the first bytes, and what stands after it in all
cut_tail : (all : List ℕ) (end rest limit : ℕ) → end + rest ≡ limit → limit + 1 < length all → IsPassed rest (lines (drop end (take (limit + 1) all))) (lines (drop end all))
cut_tail all end rest limit total large =
    let left : rest < length (drop end all) = omega (arith, length-drop end all) in
    let count : limit + 1 ≡ end + (rest + 1) = omega arith in
    let read : drop end (take (limit + 1) all) ≡ take (rest + 1) (drop end all) = ap (λ (n : ℕ). drop end (take n all)) count ∙ drop-take end (rest + 1) all in
    subst (λ (bytes : List ℕ). IsPassed rest (lines bytes) (lines (drop end all))) (sym read) (passed_at is_line_end rest (drop end all) left)

module _ (all : List ℕ) (large : text_limit Grow + 1 < length all) (d : Declared) (says : Says Grow (first_bytes Grow all) d) where
  same_below : AreSameBelow (text_limit Grow) (text_lines Grow (first_bytes Grow all)) (text_lines Grow all)
  same_below = by (cut_there Grow all large)
    where
      by : AreSameBelow (text_limit Grow) (text_lines Grow (first_bytes Grow all)) (text_lines Grow all) ⊎ IsPassed (text_limit Grow) (text_lines Grow (first_bytes Grow all)) (text_lines Grow all)
          → AreSameBelow (text_limit Grow) (text_lines Grow (first_bytes Grow all)) (text_lines Grow all)
      by (inl at) = at
      by (inr at) = absurd (says_nothing Grow (first_bytes Grow all) all (first_are_large Grow all large) (all_are_large Grow all large) at d says)

  -- where the lines up to `grow` end
  end_of : text_end Grow (first_bytes Grow all) ≤ text_limit Grow
  end_of =
      let below : extent (text_lines Grow (first_bytes Grow all)) ≤ text_limit Grow = same_below.below in
      let counted : bytes_before (text_lines Grow (first_bytes Grow all)) (length (text_lines Grow (first_bytes Grow all))) ≡ extent (text_lines Grow (first_bytes Grow all)) = all_bytes (text_lines Grow (first_bytes Grow all)) in
      least (bytes_before (text_lines Grow (first_bytes Grow all)) (length (text_lines Grow (first_bytes Grow all)))) (extent (text_lines Grow (first_bytes Grow all))) (length (first_bytes Grow all)) (text_limit Grow) counted below

  ends_are : text_end Grow (first_bytes Grow all) ≡ text_end Grow all
  ends_are = long_end_is Grow (first_bytes Grow all) all (first_are_large Grow all large) (all_are_large Grow all large) same_below.same same_below.below

  cut_after : AreCutAfter (first_bytes Grow all) all
  cut_after =
      let total : text_end Grow (first_bytes Grow all) + (text_limit Grow - text_end Grow (first_bytes Grow all)) ≡ text_limit Grow = up_again (text_end Grow (first_bytes Grow all)) (text_limit Grow) end_of in
      record {
        small = first_are_large Grow all large;
        large = all_are_large Grow all large;
        same = same_below.same;
        ends = ends_are;
        rest = text_limit Grow - text_end Grow (first_bytes Grow all);
        total = total;
        at = subst (λ (end : ℕ). IsPassed (text_limit Grow - text_end Grow (first_bytes Grow all)) (tail_lines (first_bytes Grow all)) (lines (drop end all))) ends_are
            (cut_tail all (text_end Grow (first_bytes Grow all)) (text_limit Grow - text_end Grow (first_bytes Grow all)) (text_limit Grow) total large);
      }

-- what the first bytes plan, the whole text plans
planned_all : (all : List ℕ) (net : Net) (tail : TailText) (plans : List StagePlan) → ArePlanned (first_bytes Grow all) net tail plans → ArePlanned all net tail plans
planned_all all net tail plans planned = by (cases_lt (text_limit Grow + 1) (length all))
  where
    by : (text_limit Grow + 1 < length all) ⊎ (length all ≤ text_limit Grow + 1) → ArePlanned all net tail plans
    by (inl large) = absurd (tail_says_nothing (first_bytes Grow all) all (cut_after all large planned.declares.declared planned.declares.says) tail planned.grows)
    by (inr few) = subst (λ (bytes : List ℕ). ArePlanned bytes net tail plans) (take_all (text_limit Grow + 1) all few) planned

-- and the fault of the first bytes is that of the whole text
fault_all : (all : List ℕ) (number line : ℕ) → IsGrowingFault (first_bytes Grow all) number line → IsGrowingFault all number line
fault_all all number line (inl fault) = inl (faults_of_the_first_bytes Grow all number line fault)
fault_all all number line (inr (has, fault)) = by (cases_lt (text_limit Grow + 1) (length all))
  where
    by : (text_limit Grow + 1 < length all) ⊎ (length all ≤ text_limit Grow + 1) → IsGrowingFault all number line
    by (inl large) = inr (
      (has.0, says_of_the_first_bytes Grow all has.0 has.1),
      tail_fault_all (first_bytes Grow all) all (cut_after all large has.0 has.1) number line fault,
    )
    by (inr few) = subst (λ (bytes : List ℕ). IsGrowingFault bytes number line) (take_all (text_limit Grow + 1) all few) (inr (has, fault))

pub planned_told : (told : Option (List ℕ)) (text : List ℕ) (net : Net) (tail : TailText) (plans : List StagePlan) → IsTextOf Grow told text → ArePlanned text net tail plans → ToldPlans told net tail plans
planned_told None text net tail plans read planned = tt
planned_told (Some all) text net tail plans read planned = planned_all all net tail plans (subst (λ (t : List ℕ). ArePlanned t net tail plans) read planned)

pub fault_told : (told : Option (List ℕ)) (text : List ℕ) (number line : ℕ) → IsTextOf Grow told text → IsGrowingFault text number line → ToldGrowingFault told number line
fault_told None text number line read fault = tt
fault_told (Some all) text number line read fault = fault_all all number line (subst (λ (t : List ℕ). IsGrowingFault t number line) read fault)
