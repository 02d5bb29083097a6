-- Logs are given away, merged and taken back.
use Rattle.std.proofs.Common.{◌≡◌, inl, inr, ◌<◌, ◌≤◌, ◌+◌, ◌++◌, ℕ, zero, suc, Some, List, [], ◌∷◌, length, map, slice_get, slice_set, refl, ap, ap₂, sym, ◌∙◌, subst, arith}
use Rattle.std.proofs.lemmas.Bool.{cases_lt}
use Rattle.std.proofs.lemmas.List.{length-map}
use Rattle.std.proofs.lemmas.Option.{slice_get_within}
use Rattle.mc_box.specs.declared.event.Turn.{Turn}
use Rattle.mc_merge.specs.Weaving.{AddsMerged, AreKnown, AreWoven, AreWritten, IsKnown, IsWritten, clock_at, clocks_of, log_at, logs_of, numbers_at, numbers_of, turn_in, turns_at, turns_of}
use Rattle.mc_merge.specs.declared.log.Made.{Made}
use Rattle.mc_merge.specs.declared.log.PartLog.{PartLog}
use Rattle.mc_part.specs.declared.part_run.PartRun.{PartRun}
use Rattle.mc_divided.specs.Phasing.{HaveMerged, IsClosed, logs_in}
use Rattle.mc_divided.specs.Swapping.{HavePairs, closed_run, swapped_log, swapped_run}
use Rattle.mc_divided.proofs.Lists.{get_other, one_of, same_or_not, set_here, set_length}

-- ---- the loop

pub record PairsSoFar (f : PartRun → PartLog → PartRun) (g : PartRun → PartLog → PartLog) (k : ℕ) (old now : List PartRun) (logs logs_2 : List PartLog) : Type 0 where
  pub count : length now ≡ length old
  pub count_logs : length logs_2 ≡ length logs
  pub run : (i : ℕ) (a : PartRun) (l : PartLog) → i < k → slice_get old i ≡ Some a → slice_get logs i ≡ Some l → slice_get now i ≡ Some (f a l)
  pub log : (i : ℕ) (a : PartRun) (l : PartLog) → i < k → slice_get old i ≡ Some a → slice_get logs i ≡ Some l → slice_get logs_2 i ≡ Some (g a l)
  pub rest : (i : ℕ) → k ≤ i → slice_get now i ≡ slice_get old i
  pub rest_logs : (i : ℕ) → k ≤ i → slice_get logs_2 i ≡ slice_get logs i

pub all_pairs : (f : PartRun → PartLog → PartRun) (g : PartRun → PartLog → PartLog) (k : ℕ) (old now : List PartRun) (logs logs_2 : List PartLog) → length old ≤ k → PairsSoFar f g k old now logs logs_2 → HavePairs f g old now logs logs_2
all_pairs f g k old now logs logs_2 past so_far = record {
  count = so_far.count;
  count_logs = so_far.count_logs;
  run = λ i a l p q. so_far.run i a l (let below = slice_get_within old i a p in omega (arith, below, past)) p q;
  log = λ i a l p q. so_far.log i a l (let below = slice_get_within old i a p in omega (arith, below, past)) p q;
}

-- ---- lists by their elements

-- what is read of two lists side by side
pub maps_same : {A B C : Type 0} (f : A → C) (g : B → C) (xs : List A) (ys : List B) → length xs ≡ length ys → ((i : ℕ) (x : A) (y : B) → slice_get xs i ≡ Some x → slice_get ys i ≡ Some y → f x ≡ g y) → map f xs ≡ map g ys
maps_same f g [] [] count same = refl
maps_same f g [] (y ∷ ys) count same = absurd (omega (arith, count))
maps_same f g (x ∷ xs) [] count same = absurd (omega (arith, count))
maps_same f g (x ∷ xs) (y ∷ ys) count same = ap₂ (λ h t. h ∷ t) (same 0 x y refl refl) (maps_same f g xs ys (omega (arith, count)) (λ i a b p q. same (suc i) a b p q))

-- ---- what swapped logs are

pub at_place : {A : Type 0} (xs : List A) (i : ℕ) → i < length xs → (x : A) × (slice_get xs i ≡ Some x)
at_place [] i inside = absurd (omega (arith, inside))
at_place (x ∷ xs) zero inside = (x, refl)
at_place (x ∷ xs) (suc i) inside = at_place xs i (omega (arith, inside))

-- the log at a place is the one that was swapped there
log_is : (f : PartRun → PartLog → PartRun) (old new : List PartRun) (logs logs_2 : List PartLog) (i : ℕ) (a : PartRun) (l m : PartLog) → HavePairs f swapped_log old new logs logs_2 → slice_get old i ≡ Some a → slice_get logs i ≡ Some l → slice_get logs_2 i ≡ Some m
    → m ≡ swapped_log a l
log_is f old new logs logs_2 i a l m pairs p q r = one_of (slice_get logs_2 i) m (swapped_log a l) r (pairs.log i a l p q)

pub logs_swapped : (f : PartRun → PartLog → PartRun) (old new : List PartRun) (logs logs_2 : List PartLog) → HavePairs f swapped_log old new logs logs_2 → length logs ≡ length old → logs_of logs_2 ≡ logs_in old
logs_swapped f old new logs logs_2 pairs each =
    maps_same (λ (log : PartLog). log.made.items) (λ (run : PartRun). run.part.log.items) logs_2 old (pairs.count_logs ∙ each)
    (λ i m a r p.
    let l = at_place logs i (subst (λ (n : ℕ). i < n) (sym each) (slice_get_within old i a p)) in
    ap (λ (log : PartLog). log.made.items) (log_is f old new logs logs_2 i a l.0 m pairs p l.1 r))

pub clocks_swapped : (f : PartRun → PartLog → PartRun) (old new : List PartRun) (logs logs_2 : List PartLog) → HavePairs f swapped_log old new logs logs_2 → length logs ≡ length old → clocks_of logs_2 ≡ clocks_of logs
clocks_swapped f old new logs logs_2 pairs each =
    maps_same (λ (log : PartLog). log.clock) (λ (log : PartLog). log.clock) logs_2 logs pairs.count_logs
    (λ i m l r q.
    let a = at_place old i (subst (λ (n : ℕ). i < n) each (slice_get_within logs i l q)) in
    ap (λ (log : PartLog). log.clock) (log_is f old new logs logs_2 i a.0 l m pairs a.1 q r))

pub numbers_swapped : (f : PartRun → PartLog → PartRun) (old new : List PartRun) (logs logs_2 : List PartLog) → HavePairs f swapped_log old new logs logs_2 → length logs ≡ length old → numbers_of logs_2 ≡ numbers_of logs
numbers_swapped f old new logs logs_2 pairs each =
    maps_same (λ (log : PartLog). log.numbers.items) (λ (log : PartLog). log.numbers.items) logs_2 logs pairs.count_logs
    (λ i m l r q.
    let a = at_place old i (subst (λ (n : ℕ). i < n) each (slice_get_within logs i l q)) in
    ap (λ (log : PartLog). log.numbers.items) (log_is f old new logs logs_2 i a.0 l m pairs a.1 q r))

pub turns_swapped : (f : PartRun → PartLog → PartRun) (old new : List PartRun) (logs logs_2 : List PartLog) → HavePairs f swapped_log old new logs logs_2 → length logs ≡ length old → turns_of logs_2 ≡ turns_of logs
turns_swapped f old new logs logs_2 pairs each =
    maps_same (λ (log : PartLog). log.turns.items) (λ (log : PartLog). log.turns.items) logs_2 logs pairs.count_logs
    (λ i m l r q.
    let a = at_place old i (subst (λ (n : ℕ). i < n) each (slice_get_within logs i l q)) in
    ap (λ (log : PartLog). log.turns.items) (log_is f old new logs logs_2 i a.0 l m pairs a.1 q r))

-- ---- the log at a place

made_at : (logs : List PartLog) (i : ℕ) (l : PartLog) → slice_get logs i ≡ Some l → log_at (logs_of logs) i ≡ l.made.items
made_at [] i l there = absurd (cc)
made_at (x ∷ xs) zero l there = let same : x ≡ l = cc in ap (λ (log : PartLog). log.made.items) same
made_at (x ∷ xs) (suc i) l there = made_at xs i l there

made_past : (logs : List PartLog) (i : ℕ) → length logs ≤ i → log_at (logs_of logs) i ≡ []
made_past [] i past = refl
made_past (x ∷ xs) zero past = absurd (omega (arith, past))
made_past (x ∷ xs) (suc i) past = made_past xs i (omega (arith, past))

pub numbers_count : (logs logs_2 : List PartLog) → numbers_of logs_2 ≡ numbers_of logs → length logs_2 ≡ length logs
numbers_count logs logs_2 same = sym (length-map logs_2 (λ (log : PartLog). log.numbers.items)) ∙ (ap length same ∙ length-map logs (λ (log : PartLog). log.numbers.items))

-- what the calls come to
pub have_merged : (old mid new : List PartRun) (logs logs_2 logs_3 logs_4 : List PartLog) (before after : List Turn) → length logs ≡ length old → ((part : ℕ) → log_at (logs_of logs) part ≡ []) → HavePairs swapped_run swapped_log old mid logs logs_2
    → AddsMerged logs_2 before after → ((part : ℕ) → log_at (logs_of logs_3) part ≡ []) → numbers_of logs_3 ≡ numbers_of logs_2 → clocks_of logs_3 ≡ clocks_of logs_2 → HavePairs closed_run swapped_log mid new logs_3 logs_4
    → HaveMerged old new logs logs_4 before after
have_merged old mid new logs logs_2 logs_3 logs_4 before after each none one merged empty numbers clocks two =
    let each_2 : length logs_3 ≡ length mid = numbers_count logs_2 logs_3 numbers ∙ (one.count_logs ∙ (each ∙ sym one.count)) in
    let numbers_2 : numbers_of logs_2 ≡ numbers_of logs = numbers_swapped swapped_run old mid logs logs_2 one each in
    let clocks_2 : clocks_of logs_2 ≡ clocks_of logs = clocks_swapped swapped_run old mid logs logs_2 one each in
    record {
      woven = merged.woven;
      are = subst (λ (l : List (List Made)). AreWoven (clock_at (clocks_of logs)) l merged.woven) (logs_swapped swapped_run old mid logs logs_2 one each)
          (subst (λ (l : List ℕ). AreWoven (clock_at l) (logs_of logs_2) merged.woven) clocks_2 merged.are);
      added = merged.added ∙ ap (λ (l : List (List ℕ)). before ++ map (turn_in l) merged.woven) numbers_2;
      closed = record {
        count = two.count ∙ one.count;
        each = λ i a b p q.
            let l = at_place logs i (subst (λ (n : ℕ). i < n) (sym each) (slice_get_within old i a p)) in
            let p_2 = one.run i a l.0 p l.1 in
            let m = at_place logs_3 i (subst (λ (n : ℕ). i < n) (sym each_2) (slice_get_within mid i (swapped_run a l.0) p_2)) in
            let is : b ≡ closed_run (swapped_run a l.0) m.0 = one_of (slice_get new i) b (closed_run (swapped_run a l.0) m.0) q (two.run i (swapped_run a l.0) m.0 p_2 m.1) in
            subst (λ (r : PartRun). IsClosed a r) (sym is) (record { log = sym (made_at logs_3 i m.0 m.1) ∙ empty i; kept = refl });
      };
      numbers = numbers_swapped closed_run mid new logs_3 logs_4 two each_2 ∙ (numbers ∙ numbers_2);
      clocks = clocks_swapped closed_run mid new logs_3 logs_4 two each_2 ∙ (clocks ∙ clocks_2);
      empty = λ part. elim (cases_lt part (length logs)) [
        | inl inside ↦
            let l = at_place logs part inside in
            let a = at_place old part (subst (λ (n : ℕ). part < n) each inside) in
            let p_2 = one.run part a.0 l.0 a.1 l.1 in
            ap (λ (lists : List (List Made)). log_at lists part) (logs_swapped closed_run mid new logs_3 logs_4 two each_2)
            ∙ (run_log mid part (swapped_run a.0 l.0) p_2 ∙ (sym (made_at logs part l.0 l.1) ∙ none part))
        | inr outside ↦ made_past logs_4 part (subst (λ (n : ℕ). n ≤ part) (sym (two.count_logs ∙ (each_2 ∙ (one.count ∙ sym each)))) outside)
      ];
    }
  where
    run_log : (runs : List PartRun) (i : ℕ) (a : PartRun) → slice_get runs i ≡ Some a → log_at (logs_in runs) i ≡ a.part.log.items
    run_log [] i a there = absurd (cc)
    run_log (x ∷ xs) zero a there = let same : x ≡ a = cc in ap (λ (run : PartRun). run.part.log.items) same
    run_log (x ∷ xs) (suc i) a there = run_log xs i a there

-- what the merge asks for
pub known_swapped : (old mid : List PartRun) (logs logs_2 : List PartLog) → length logs ≡ length old → HavePairs swapped_run swapped_log old mid logs logs_2
    → ((part : ℕ) → IsKnown (numbers_at (numbers_of logs) part) (log_at (logs_in old) part)) → AreKnown logs_2
known_swapped old mid logs logs_2 each pairs known part =
    subst (λ (l : List (List ℕ)). IsKnown (numbers_at l part) (log_at (logs_of logs_2) part)) (sym (numbers_swapped swapped_run old mid logs logs_2 pairs each))
    (subst (λ (l : List (List Made)). IsKnown (numbers_at (numbers_of logs) part) (log_at l part)) (sym (logs_swapped swapped_run old mid logs logs_2 pairs each)) (known part))

pub written_swapped : (old mid : List PartRun) (logs logs_2 : List PartLog) → length logs ≡ length old → HavePairs swapped_run swapped_log old mid logs logs_2
    → ((part : ℕ) → IsWritten (numbers_at (numbers_of logs) part) (log_at (logs_in old) part) (turns_at (turns_of logs) part)) → AreWritten logs_2
written_swapped old mid logs logs_2 each pairs written part =
    subst (λ (l : List (List ℕ)). IsWritten (numbers_at l part) (log_at (logs_of logs_2) part) (turns_at (turns_of logs_2) part)) (sym (numbers_swapped swapped_run old mid logs logs_2 pairs each))
    (subst (λ (l : List (List Made)). IsWritten (numbers_at (numbers_of logs) part) (log_at l part) (turns_at (turns_of logs_2) part)) (sym (logs_swapped swapped_run old mid logs logs_2 pairs each))
    (subst (λ (l : List (List Turn)). IsWritten (numbers_at (numbers_of logs) part) (log_at (logs_in old) part) (turns_at l part)) (sym (turns_swapped swapped_run old mid logs logs_2 pairs each)) (written part)))
