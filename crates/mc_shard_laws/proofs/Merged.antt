-- The merge of journals is a run.
use Rattle.std.proofs.Common.{◌≡◌, ◌≢◌, inl, inr, ◌==◌, if◌then◌else◌, nat_lt, Bool, true, false, ℕ, zero, suc, ◌<◌, ◌≤◌, List, [], ◌∷◌, ◌++◌, length, refl, ap, sym, ◌∙◌, subst, arith}
use Rattle.std.specs.List.{AllByRecursion}
use Rattle.std.proofs.Math.ListN.{get_or-eq_default}
use Rattle.std.proofs.lemmas.Bool.{cases_eq, cases_lt}
use Rattle.std.proofs.lemmas.Grind.{common_steps}
use Rattle.mc_port.specs.Entries.{Entry}
use Rattle.mc_merge.specs.Logs.{AreRising, Own, own_log}
use Rattle.mc_merge.specs.Order.{IsMerged, NeverFall, time_of}
use Rattle.mc_merge.specs.Together.{Homes}
use Rattle.std.proofs.lemmas.List.{append-nil}
use Rattle.mc_merge.proofs.Logs.{above_low, own_append}
use Rattle.mc_shard_laws.specs.Merged.{AreNamed, IsNamed, MergedRun, entries_in, merge, merged_journals, named, put_in}
use Rattle.mc_shard_laws.specs.Together.{Journalled, one_clock, state_of}
use Rattle.mc_shard_laws.proofs.Entries.{journal_rises, own_away, own_here}
use Rattle.mc_shard_laws.proofs.Together.{shards_run}

-- no stamp is below one before it
abbrev InOrder : List Own → Type 0
InOrder [] = Unit {0}
InOrder (own ∷ rest) = AllByRecursion (λ (later : Own). own.entry.stamp ≤ later.entry.stamp) rest × InOrder rest

later_by_clock : (own : Own) (rest : List Own) → AllByRecursion (λ (later : Own). own.entry.stamp ≤ later.entry.stamp) rest
    → AllByRecursion (λ (later : Own). time_of one_clock own ≤ time_of one_clock later) rest
later_by_clock own [] all = tt
later_by_clock own (later ∷ rest) all =
    let most : own.entry.stamp ≤ later.entry.stamp = all.0 in
    (omega arith, later_by_clock own rest all.1)

-- so no time is below one before it
by_clock : (whole : List Own) → InOrder whole → NeverFall one_clock whole
by_clock [] order = tt
by_clock (own ∷ rest) order = (later_by_clock own rest order.0, by_clock rest order.1)

-- ---- one entry put in

chosen_all : (test : Bool) (P : Own → Type 0) (a b : List Own) → AllByRecursion P a → AllByRecursion P b → AllByRecursion P (if test then a else b)
chosen_all true P a b all all_2 = all
chosen_all false P a b all all_2 = all_2

put_all : (P : Own → Type 0) (own : Own) (zs : List Own) → P own → AllByRecursion P zs → AllByRecursion P (put_in own zs)
put_all P own [] here all = (here, tt)
put_all P own (first ∷ rest) here all =
    chosen_all (nat_lt first.entry.stamp own.entry.stamp) P (first ∷ put_in own rest) (own ∷ first ∷ rest) (all.0, put_all P own rest here all.1) (here, all)

put_before : (own first : Own) (rest : List Own) → first.entry.stamp < own.entry.stamp → put_in own (first ∷ rest) ≡ first ∷ put_in own rest
put_before own first rest below =
    let is : nat_lt first.entry.stamp own.entry.stamp ≡ true = grind (arith, common_steps) in
    ap (λ (b : Bool). if b then first ∷ put_in own rest else own ∷ first ∷ rest) is

put_here : (own first : Own) (rest : List Own) → own.entry.stamp ≤ first.entry.stamp → put_in own (first ∷ rest) ≡ own ∷ first ∷ rest
put_here own first rest most =
    let is : nat_lt first.entry.stamp own.entry.stamp ≡ false = grind (arith, common_steps) in
    ap (λ (b : Bool). if b then first ∷ put_in own rest else own ∷ first ∷ rest) is

later_too : (low high : ℕ) (rest : List Own) → low ≤ high → AllByRecursion (λ (later : Own). high ≤ later.entry.stamp) rest → AllByRecursion (λ (later : Own). low ≤ later.entry.stamp) rest
later_too low high [] most all = tt
later_too low high (first ∷ rest) most all =
    let here : high ≤ first.entry.stamp = all.0 in
    let low_here : low ≤ first.entry.stamp = omega arith in
    (low_here, later_too low high rest most all.1)

put_never : (own : Own) (zs : List Own) → InOrder zs → InOrder (put_in own zs)
put_never own [] never = (tt, tt)
put_never own (first ∷ rest) never = elim (cases_lt first.entry.stamp own.entry.stamp) [
  | inl below ↦
      let most : first.entry.stamp ≤ own.entry.stamp = omega arith in
      subst (λ (l : List Own). InOrder l) (sym (put_before own first rest below))
      (put_all (λ (later : Own). first.entry.stamp ≤ later.entry.stamp) own rest most never.0, put_never own rest never.1)
  | inr most ↦
      subst (λ (l : List Own). InOrder l) (sym (put_here own first rest most))
      ((most, later_too own.entry.stamp first.entry.stamp rest most never.0), never)
]

-- no later one of its box has a lower stamp
abbrev IsFirst : Own → Own → Type 0
IsFirst own other = other.who ≡ own.who → own.entry.stamp ≤ other.entry.stamp

swapped : (who : ℕ) (own first : Own) (rest : List Own) → first.who ≢ own.who → own_log who (first ∷ own ∷ rest) ≡ own_log who (own ∷ first ∷ rest)
swapped who own first rest apart = elim (cases_eq own.who who) [
  | inl same ↦
      let away : first.who ≢ who = λ e. apart (e ∙ sym same) in
      own_away first (own ∷ rest) who away ∙ (own_here own rest who same ∙ (ap (λ (l : List Entry). own.entry ∷ l) (sym (own_away first rest who away)) ∙ sym (own_here own (first ∷ rest) who same)))
  | inr away ↦ elim (cases_eq first.who who) [
    | inl same ↦
        own_here first (own ∷ rest) who same ∙ (ap (λ (l : List Entry). first.entry ∷ l) (own_away own rest who away) ∙ (sym (own_here first rest who same) ∙ sym (own_away own (first ∷ rest) who away)))
    | inr away_2 ↦
        own_away first (own ∷ rest) who away_2 ∙ (own_away own rest who away ∙ (sym (own_away first rest who away_2) ∙ sym (own_away own (first ∷ rest) who away)))
  ]
]

more_log : (who : ℕ) (first : Own) (a b : List Own) → own_log who a ≡ own_log who b → own_log who (first ∷ a) ≡ own_log who (first ∷ b)
more_log who first a b same = ap (λ (l : List Entry). (if first.who == who then first.entry ∷ [] else []) ++ l) same

put_log : (who : ℕ) (own : Own) (zs : List Own) → AllByRecursion (IsFirst own) zs → own_log who (put_in own zs) ≡ own_log who (own ∷ zs)
put_log who own [] all = refl
put_log who own (first ∷ rest) all = elim (cases_lt first.entry.stamp own.entry.stamp) [
  | inl below ↦
      let apart : first.who ≢ own.who = λ same.
      let most : own.entry.stamp ≤ first.entry.stamp = all.0 same in
      omega arith in
      ap (λ (l : List Own). own_log who l) (put_before own first rest below)
      ∙ (more_log who first (put_in own rest) (own ∷ rest) (put_log who own rest all.1) ∙ swapped who own first rest apart)
  | inr most ↦ ap (λ (l : List Own). own_log who l) (put_here own first rest most)
]

-- ---- two lists

merge_all : (P : Own → Type 0) (xs ys : List Own) → AllByRecursion P xs → AllByRecursion P ys → AllByRecursion P (merge xs ys)
merge_all P [] ys all all_2 = all_2
merge_all P (x ∷ xs) ys all all_2 = put_all P x (merge xs ys) all.0 (merge_all P xs ys all.1 all_2)

merge_never : (xs ys : List Own) → InOrder ys → InOrder (merge xs ys)
merge_never [] ys never = never
merge_never (x ∷ xs) ys never = put_never x (merge xs ys) (merge_never xs ys never)

first_of_rest : (x : Own) (xs : List Own) → AllByRecursion (λ (later : Own). x.entry.stamp ≤ later.entry.stamp) xs → AllByRecursion (IsFirst x) xs
first_of_rest x [] all = tt
first_of_rest x (y ∷ xs) all = (λ same. all.0, first_of_rest x xs all.1)

first_of_others : (homes : Homes) (k : ℕ) (x : Own) (ys : List Own) → (homes x.who).0 ≡ k → AllByRecursion (λ (y : Own). (homes y.who).0 < k) ys → AllByRecursion (IsFirst x) ys
first_of_others homes k x [] home all = tt
first_of_others homes k x (y ∷ ys) home all = (
  λ same.
      let below : (homes y.who).0 < k = all.0 in
      let there : (homes y.who).0 ≡ k = ap (λ (w : ℕ). (homes w).0) same ∙ home in
      absurd (omega arith),
  first_of_others homes k x ys home all.1,
)

merge_log : (who k : ℕ) (homes : Homes) (xs ys : List Own) → InOrder xs → AllByRecursion (λ (x : Own). (homes x.who).0 ≡ k) xs → AllByRecursion (λ (y : Own). (homes y.who).0 < k) ys
    → own_log who (merge xs ys) ≡ own_log who (xs ++ ys)
merge_log who k homes [] ys never mine others = refl
merge_log who k homes (x ∷ xs) ys never mine others =
    put_log who x (merge xs ys) (merge_all (IsFirst x) xs ys (first_of_rest x xs never.0) (first_of_others homes k x ys mine.0 others))
    ∙ more_log who x (merge xs ys) (xs ++ ys) (merge_log who k homes xs ys never.1 mine.1 others)

-- ---- the entries of one shard

lifted : (names : ℕ → ℕ) (stamp : ℕ) (log : List Own) → AllByRecursion (λ (later : Own). stamp < later.entry.stamp) log → AllByRecursion (λ (later : Own). stamp ≤ later.entry.stamp) (named names log)
lifted names stamp [] all = tt
lifted names stamp (later ∷ log) all =
    let above : stamp < later.entry.stamp = all.0 in
    let most : stamp ≤ later.entry.stamp = omega arith in
    (most, lifted names stamp log all.1)

named_never : (names : ℕ → ℕ) (log : List Own) (low last : ℕ) → AreRising low log last → InOrder (named names log)
named_never names [] low last rising = tt
named_never names (own ∷ log) low last rising = (lifted names own.entry.stamp log (above_low log own.entry.stamp last rising.1), named_never names log own.entry.stamp last rising.1)

named_homes : (boxes k : ℕ) (names : ℕ → ℕ) (homes : Homes) (log : List Own) → AllByRecursion (IsNamed boxes names homes k) log → AllByRecursion (λ (x : Own). (homes x.who).0 ≡ k) (named names log)
named_homes boxes k names homes [] all = tt
named_homes boxes k names homes (own ∷ log) all = (ap (λ (h : ℕ × ℕ). h.0) all.0.1, named_homes boxes k names homes log all.1)

named_inside : (boxes k : ℕ) (names : ℕ → ℕ) (homes : Homes) (log : List Own) → AllByRecursion (IsNamed boxes names homes k) log → AllByRecursion (λ (x : Own). x.who < boxes) (named names log)
named_inside boxes k names homes [] all = tt
named_inside boxes k names homes (own ∷ log) all = (all.0.0, named_inside boxes k names homes log all.1)

named_log : (boxes k who : ℕ) (names : ℕ → ℕ) (homes : Homes) (log : List Own) → AllByRecursion (IsNamed boxes names homes k) log → names (homes who).1 ≡ who
    → own_log who (named names log) ≡ own_log (homes who).1 log
named_log boxes k who names homes [] all back = refl
named_log boxes k who names homes (own ∷ log) all back =
    let rest : own_log who (named names log) ≡ own_log (homes who).1 log = named_log boxes k who names homes log all.1 back in
    let other : Own = record { who = names own.who; entry = own.entry } in
    elim (cases_eq (names own.who) who) [
      | inl same ↦
          let here : own.who ≡ (homes who).1 = ap (λ (h : ℕ × ℕ). h.1) (sym all.0.1) ∙ ap (λ (w : ℕ). (homes w).1) same in
          own_here other (named names log) who same ∙ (ap (λ (l : List Entry). own.entry ∷ l) rest ∙ sym (own_here own log (homes who).1 here))
      | inr away ↦
          own_away other (named names log) who away ∙ (rest ∙ sym (own_away own log (homes who).1 (λ e. away (ap names e ∙ back))))
    ]

named_none : (boxes k who : ℕ) (names : ℕ → ℕ) (homes : Homes) (log : List Own) → AllByRecursion (IsNamed boxes names homes k) log → (homes who).0 ≢ k → own_log who (named names log) ≡ []
named_none boxes k who names homes [] all apart = refl
named_none boxes k who names homes (own ∷ log) all apart =
    own_away (record { who = names own.who; entry = own.entry }) (named names log) who (λ same. apart (ap (λ (w : ℕ). (homes w).0) (sym same) ∙ ap (λ (h : ℕ × ℕ). h.0) all.0.1))
    ∙ named_none boxes k who names homes log all.1 apart

-- ---- all shards

raise_one : (homes : Homes) (k : ℕ) (xs : List Own) → AllByRecursion (λ (x : Own). (homes x.who).0 ≡ k) xs → AllByRecursion (λ (x : Own). (homes x.who).0 < suc k) xs
raise_one homes k [] all = tt
raise_one homes k (x ∷ xs) all =
    let is : (homes x.who).0 ≡ k = all.0 in
    let below : (homes x.who).0 < suc k = omega arith in
    (below, raise_one homes k xs all.1)

raise_all : (homes : Homes) (k : ℕ) (xs : List Own) → AllByRecursion (λ (x : Own). (homes x.who).0 < k) xs → AllByRecursion (λ (x : Own). (homes x.who).0 < suc k) xs
raise_all homes k [] all = tt
raise_all homes k (x ∷ xs) all =
    let is : (homes x.who).0 < k = all.0 in
    let below : (homes x.who).0 < suc k = omega arith in
    (below, raise_all homes k xs all.1)

record SoFar (boxes k : ℕ) (names : ℕ → ℕ → ℕ) (homes : Homes) (shards : ℕ → Journalled) : Type 0 where
  inside : AllByRecursion (λ (x : Own). x.who < boxes) (merged_journals k names shards)
  below : AllByRecursion (λ (x : Own). (homes x.who).0 < k) (merged_journals k names shards)
  never : InOrder (merged_journals k names shards)
  here : (who : ℕ) → who < boxes → (homes who).0 < k → own_log who (merged_journals k names shards) ≡ own_log (homes who).1 (entries_in (shards (homes who).0))
  none : (who : ℕ) → who < boxes → k ≤ (homes who).0 → own_log who (merged_journals k names shards) ≡ []

so_far : (k boxes count : ℕ) (names : ℕ → ℕ → ℕ) (homes : Homes) (shards : ℕ → Journalled) → AreNamed boxes count names homes shards → k ≤ count → SoFar boxes k names homes shards
so_far zero boxes count names homes shards are most = record {
  inside = tt;
  below = tt;
  never = tt;
  here = λ who within under. absurd (omega arith);
  none = λ who within over. refl;
}
so_far (suc k) boxes count names homes shards are most =
    let less : k ≤ count = omega arith in
    let under : k < count = omega arith in
    let before = so_far k boxes count names homes shards are less in
    let shard = shards k in
    let log = entries_in shard in
    let mine = are.named_so k under in
    let whose = named_homes boxes k (names k) homes log mine in
    let parted : (who : ℕ) → own_log who (merge (named (names k) log) (merged_journals k names shards)) ≡ own_log who (named (names k) log) ++ own_log who (merged_journals k names shards) = λ who.
    merge_log who k homes (named (names k) log) (merged_journals k names shards)
    (named_never (names k) log shard.first.stamp (state_of shard).stamp (journal_rises shard.journal shard.places shard.first (are.journals k under))) whose before.below
    ∙ own_append who (named (names k) log) (merged_journals k names shards) in
    record {
      inside = merge_all (λ (x : Own). x.who < boxes) (named (names k) log) (merged_journals k names shards) (named_inside boxes k (names k) homes log mine) before.inside;
      below = merge_all (λ (x : Own). (homes x.who).0 < suc k) (named (names k) log) (merged_journals k names shards) (raise_one homes k (named (names k) log) whose) (raise_all homes k (merged_journals k names shards) before.below);
      never = merge_never (named (names k) log) (merged_journals k names shards) before.never;
      here = λ who within up. elim (cases_eq (homes who).0 k) [
        | inl same ↦
            let over : k ≤ (homes who).0 = omega arith in
            let back : names k (homes who).1 ≡ who = ap (λ (s : ℕ). names s (homes who).1) (sym same) ∙ are.back who within in
            parted who
            ∙ (ap (λ (l : List Entry). own_log who (named (names k) log) ++ l) (before.none who within over)
            ∙ (append-nil (own_log who (named (names k) log))
            ∙ (named_log boxes k who (names k) homes log mine back ∙ ap (λ (s : ℕ). own_log (homes who).1 (entries_in (shards s))) (sym same))))
        | inr away ↦
            let lower : (homes who).0 < k = omega arith in
            parted who
            ∙ (ap (λ (l : List Entry). l ++ own_log who (merged_journals k names shards)) (named_none boxes k who (names k) homes log mine away) ∙ before.here who within lower)
      ];
      none = λ who within over.
          let away : (homes who).0 ≢ k = λ same. omega arith in
          let over_k : k ≤ (homes who).0 = omega arith in
          parted who
          ∙ (ap (λ (l : List Entry). l ++ own_log who (merged_journals k names shards)) (named_none boxes k who (names k) homes log mine away) ∙ before.none who within over_k);
    }

past_all : (boxes who : ℕ) (whole : List Own) → boxes ≤ who → AllByRecursion (λ (x : Own). x.who < boxes) whole → own_log who whole ≡ []
past_all boxes who [] over all = refl
past_all boxes who (x ∷ whole) over all =
    let inside : x.who < boxes = all.0 in
    own_away x whole who (λ same. absurd (omega arith)) ∙ past_all boxes who whole over all.1

pub merged_run : MergedRun
merged_run world homes shards logs boxes rests count names are named_are =
    let most : count ≤ count = omega arith in
    let all = so_far count (length world.boxes) count names homes shards named_are most in
    let is : IsMerged one_clock logs (merged_journals count names shards) = record {
      each = λ who. elim (cases_lt who (length world.boxes)) [
        | inl inside ↦ all.here who inside (named_are.home who inside) ∙ sym (are.logs_are who)
        | inr over ↦
            let over_logs : length logs ≤ who = subst (λ (n : ℕ). n ≤ who) (sym are.log_count) over in
            past_all (length world.boxes) who (merged_journals count names shards) over all.inside ∙ sym (get_or-eq_default logs [] over_logs)
      ];
      here = subst (λ (n : ℕ). AllByRecursion (λ (x : Own). x.who < n) (merged_journals count names shards)) (sym are.log_count) all.inside;
      order = by_clock (merged_journals count names shards) all.never;
    } in
    shards_run world homes shards logs boxes rests (merged_journals count names shards) are is
