-- A phase of a network: its parts ran, what crosses was carried over, and the logs are one list.
use Rattle.std.proofs.Common.{◌≡◌, inl, ◌<◌, ◌≤◌, ◌*◌, ◌/◌, ◌^◌, max, Bool, true, false, ℕ, zero, suc, IsTrue, Some, List, [], ◌∷◌, length, get_or, slice_get, refl, ap, sym, ◌∙◌, subst, arith}
use Rattle.std.proofs.lemmas.Grind.{common_steps}
use Rattle.std.proofs.lemmas.List.{length-map}
use Rattle.std.proofs.lemmas.List.Sums.{sum_by-le}
use Rattle.std.proofs.lemmas.Option.{get_or_from_slice_get, slice_get_within}
use Rattle.mc_box.specs.declared.limit.TheConstants.{SHIFT_LIMIT, SLOT_LIMIT}
use Rattle.mc_model.specs.Worlds.{WorldState}
use Rattle.mc_merge.specs.Account.{PartState}
use Rattle.mc_merge.specs.Phases.{AreEmptied, IsLayout}
use Rattle.mc_merge.specs.Weaving.{entry_count}
use Rattle.mc_merge.specs.declared.log.Made.{Made}
use Rattle.mc_part.specs.Networks.{HaveRun, states_of, tables_at}
use Rattle.mc_part.specs.Parts.{Runs, shifts_of}
use Rattle.mc_part.specs.Phases.{EachChanged, EachOf, HasEnded, HasGone, HaveGone, IsReady}
use Rattle.mc_part.specs.Running.{HasRoom, owed_of}
use Rattle.mc_part.specs.declared.limit.TheConstants.{STAMP_LIMIT}
use Rattle.mc_part.specs.declared.part.Part.{Part}
use Rattle.mc_part.specs.declared.part_run.PartRun.{PartRun}
use Rattle.mc_divided.specs.Networks.{IsDividedNetwork, IsIdle, IsJoined, base_of, channels_of, crossings_of, network_layout, tables_among, turn_budget}
use Rattle.mc_divided.specs.Phasing.{AreApart, AreChosen, HasMemory, IsCarryable, IsChosen, IsSameRun, logs_in}
use Rattle.mc_divided.specs.declared.network.Crossing.{Crossing}
use Rattle.mc_divided.specs.declared.network.DividedNetwork.{DividedNetwork}
use Rattle.mc_divided.proofs.Carryable.{carryable}
use Rattle.mc_divided.proofs.Crossings.{IsRoute, are_apart, route_of}
use Rattle.mc_divided.proofs.Lists.{one_of}
use Rattle.mc_divided.proofs.PartsBy.{have_run, parts_by, ran_one, run_there, states_are, tables_are}
use Rattle.mc_divided.proofs.Drained.{HaveWays}
use Rattle.mc_divided.proofs.Ways.{AreLaid, way_back, way_there}

-- ---- what a network keeps, by its parts

-- a part that stands for those past the last
pub record HasNone (n : DividedNetwork) : Type 0 where
  pub none : Part
  pub few : (who : ℕ) → shifts_of none who ≤ SHIFT_LIMIT

pub none_of : (n : DividedNetwork) → IsDividedNetwork n → HasNone n
none_of n divided =
    let first = run_there n.runs.items 0 divided.some in
    record { none = first.0.part; few = (divided.idle 0 first.0 first.1).within.shifts }

pub laid_of : (n : DividedNetwork) (none : Part) → IsDividedNetwork n → AreLaid (base_of n) n.assigned.items none n.runs.items
laid_of n none divided = record {
  laid = subst (λ (tables : ℕ → WorldState). IsLayout (base_of n) (network_layout n) tables (states_of (parts_by none n.runs.items))) (tables_are none n.runs.items)
      (subst (λ (states : ℕ → PartState). IsLayout (base_of n) (network_layout n) (tables_among n.runs.items) states) (states_are none n.runs.items) divided.laid);
  away = λ i run there. (divided.idle i run there).away;
}

pub emptied_of : (n : DividedNetwork) (none : Part) → IsDividedNetwork n → AreEmptied (base_of n) (network_layout n) (tables_at (parts_by none n.runs.items)) (states_of (parts_by none n.runs.items))
emptied_of n none divided =
    subst (λ (tables : ℕ → WorldState). AreEmptied (base_of n) (network_layout n) tables (states_of (parts_by none n.runs.items))) (tables_are none n.runs.items)
    (subst (λ (states : ℕ → PartState). AreEmptied (base_of n) (network_layout n) (tables_among n.runs.items) states) (states_are none n.runs.items) divided.empty)

pub joined_of : (n : DividedNetwork) → IsDividedNetwork n → (i : ℕ) (crossing : Crossing) → slice_get n.crossings.items i ≡ Some crossing → IsJoined n.runs.items crossing
joined_of n divided i crossing there = subst (λ (x : Crossing). IsJoined n.runs.items x) (get_or_from_slice_get n.crossings.items i crossing crossing there) (divided.joined i crossing (slice_get_within n.crossings.items i crossing there))

crossing_there : (n : DividedNetwork) → IsDividedNetwork n → (i : ℕ) (crossing : Crossing) → slice_get (crossings_of n.assigned.items (channels_of n)) i ≡ Some crossing → slice_get n.crossings.items i ≡ Some crossing
crossing_there n divided i crossing there = ap (λ (l : List Crossing). slice_get l i) divided.crossings ∙ there

pub ways_of : (n : DividedNetwork) (none : Part) → IsDividedNetwork n → HaveWays (base_of n) n.assigned.items (parts_by none n.runs.items)
ways_of n none divided = record {
  there = λ i crossing at route. way_there (base_of n) n.assigned.items none n.runs.items crossing route (laid_of n none divided) (joined_of n divided i crossing (crossing_there n divided i crossing at));
  back = λ i crossing at route. way_back (base_of n) n.assigned.items none n.runs.items crossing route (laid_of n none divided) (joined_of n divided i crossing (crossing_there n divided i crossing at));
}

pub apart_of : (n : DividedNetwork) → IsDividedNetwork n → AreApart n.crossings.items
apart_of n divided = subst (λ (l : List Crossing). AreApart l) (sym divided.crossings) (are_apart (base_of n) n.assigned.items)

pub route_in : (n : DividedNetwork) → IsDividedNetwork n → (i : ℕ) (crossing : Crossing) → slice_get n.crossings.items i ≡ Some crossing → IsRoute (base_of n) n.assigned.items crossing
route_in n divided i crossing there = route_of (base_of n) n.assigned.items i crossing (ap (λ (l : List Crossing). slice_get l i) (sym divided.crossings) ∙ there)

-- ---- what its parts need to run

few_boxes : (boxes count : ℕ) → SLOT_LIMIT * boxes ≤ STAMP_LIMIT / count → boxes < 2 ^ 32
few_boxes boxes count room = let most : STAMP_LIMIT / count ≤ STAMP_LIMIT = div_most STAMP_LIMIT count in omega (arith, room, most)
  where
    div_most : (n d : ℕ) → n / d ≤ n
    div_most n d = grind (arith, common_steps)

room_for : (retries : Bool) (budget full : ℕ) (part : Part) → part.log.items ≡ [] → SLOT_LIMIT * length part.engine.boxes ≤ full → (IsTrue retries → budget ≡ full) → HasRoom retries budget part
room_for retries budget full part none room is asked =
    let long : length part.log.items ≡ 0 = ap (λ (l : List Made). length l) none in
    let same : budget ≡ full = is asked in
    omega (arith, long, room, same)

pub ready : (n : DividedNetwork) (retries every : Bool) (budget : ℕ) (chosen : List PartRun) → IsDividedNetwork n → (IsTrue retries → IsTrue every) → (every ≡ false → n.calm ≡ true) → (IsTrue retries → budget ≡ turn_budget (length n.runs.items))
    → AreChosen every n.runs.items chosen → EachOf (IsReady retries every budget) chosen
ready n retries every budget chosen divided asked calm full chose i run there =
    let inside : i < length n.runs.items = subst (λ (k : ℕ). i < k) chose.count (slice_get_within chosen i run there) in
    let old = run_there n.runs.items i inside in
    let is : run.part ≡ old.0.part = (chose.each i old.0 run old.1 there).part in
    let idle : IsIdle (turn_budget (length n.runs.items)) old.0 = divided.idle i old.0 old.1 in
    subst (λ (p : Part). IsReady retries every budget (record run { part = p })) (sym is) (record {
      away = idle.away;
      within = idle.within;
      asked = asked;
      calm = λ off who below. inl (divided.calm (calm off) i old.0 old.1 who below);
      few = few_boxes (length old.0.part.engine.boxes) (length n.runs.items) idle.room;
      room = room_for retries budget (turn_budget (length n.runs.items)) old.0.part idle.log idle.room full;
    })

-- ---- after they ran

pub record Went (n : DividedNetwork) (retries every : Bool) (budget : ℕ) (chosen gone : List PartRun) : Type 0 where
  pub divided : IsDividedNetwork n
  pub asked : IsTrue retries → IsTrue every
  pub few : budget ≤ turn_budget (length n.runs.items)
  pub chose : AreChosen every n.runs.items chosen
  pub went : HaveGone retries budget chosen gone
  pub memory : EachOf (λ (run : PartRun). HasMemory run.ended) gone

pub went_run : (n : DividedNetwork) (retries every : Bool) (budget : ℕ) (chosen gone : List PartRun) (none : HasNone n) → Went n retries every budget chosen gone → HaveRun retries (parts_by none.none n.runs.items) (parts_by none.none gone)
went_run n retries every budget chosen gone none w =
    have_run retries every budget none.none n.runs.items chosen gone w.asked none.few (λ i run there. (w.divided.idle i run there).within) w.chose w.went w.memory

-- of each run before the run that was chosen, and the one afterwards
pub record RanAt (n : DividedNetwork) (retries every : Bool) (budget : ℕ) (chosen gone : List PartRun) (i : ℕ) (a : PartRun) : Type 0 where
  pub b : PartRun
  pub c : PartRun
  pub b_there : slice_get chosen i ≡ Some b
  pub c_there : slice_get gone i ≡ Some c
  pub chose : IsChosen every a b
  pub went : HasGone retries budget b c
  pub memory : HasMemory c.ended
  pub runs : Runs a.part c.part (owed_of retries a.part)

pub ran_at : (n : DividedNetwork) (retries every : Bool) (budget : ℕ) (chosen gone : List PartRun) → Went n retries every budget chosen gone → (i : ℕ) (a : PartRun) → slice_get n.runs.items i ≡ Some a → RanAt n retries every budget chosen gone i a
ran_at n retries every budget chosen gone w i a there =
    let inside : i < length n.runs.items = slice_get_within n.runs.items i a there in
    let b = run_there chosen i (subst (λ (k : ℕ). i < k) (sym w.chose.count) inside) in
    let c = run_there gone i (subst (λ (k : ℕ). i < k) (sym (w.went.count ∙ w.chose.count)) inside) in
    record {
      b = b.0;
      c = c.0;
      b_there = b.1;
      c_there = c.1;
      chose = w.chose.each i a b.0 there b.1;
      went = w.went.each i b.0 c.0 b.1 c.1;
      memory = w.memory i c.0 c.1;
      runs = ran_one retries every budget a b.0 c.0 w.asked (w.divided.idle i a there).within (w.chose.each i a b.0 there b.1) (w.went.each i b.0 c.0 b.1 c.1) (w.memory i c.0 c.1) b.0.active refl;
    }

pub all_carryable : (n : DividedNetwork) (retries every : Bool) (budget : ℕ) (chosen gone : List PartRun) → Went n retries every budget chosen gone → EachOf (IsCarryable gone) n.crossings.items
all_carryable n retries every budget chosen gone w i crossing there =
    let none = none_of n w.divided in
    carryable (base_of n) n.assigned.items none.none n.runs.items gone (owed_of retries) crossing (route_in n w.divided i crossing there) (laid_of n none.none w.divided) (emptied_of n none.none w.divided) (joined_of n w.divided i crossing there)
    (λ k a at. let ran = ran_at n retries every budget chosen gone w k a at in (ran.c, (ran.c_there, ran.runs)))

-- ---- their logs

pub same_logs : (old new : List PartRun) → EachChanged IsSameRun old new → logs_in new ≡ logs_in old
same_logs [] [] same = refl
same_logs [] (y ∷ ys) same = absurd (let count = same.count in omega (arith, count))
same_logs (x ∷ xs) [] same = absurd (let count = same.count in omega (arith, count))
same_logs (x ∷ xs) (y ∷ ys) same =
    ap (λ (l : List Made). l ∷ logs_in ys) (ap (λ (p : Part). p.log.items) (same.each 0 x y refl refl).part.kept)
    ∙ ap (λ (l : List (List Made)). x.part.log.items ∷ l) (same_logs xs ys (record { count = less (length ys) (length xs) same.count; each = λ i a b p q. same.each (suc i) a b p q }))
  where
    less : (n m : ℕ) → suc n ≡ suc m → n ≡ m
    less n m is = omega (arith, is)

max_least : (b m : ℕ) → m ≡ 0 → max b m ≡ b
max_least b m none = grind (arith, common_steps)

-- no log has more turns than the budget
pub log_few : (n : DividedNetwork) (retries every : Bool) (budget : ℕ) (chosen gone : List PartRun) → Went n retries every budget chosen gone → (i : ℕ) (a : PartRun) (there : slice_get n.runs.items i ≡ Some a) → (c : PartRun) → slice_get gone i ≡ Some c
    → length c.part.log.items ≤ budget
log_few n retries every budget chosen gone w i a there c q =
    let ran = ran_at n retries every budget chosen gone w i a there in
    let idle = w.divided.idle i a there in
    let same : ran.c ≡ c = one_of (slice_get gone i) ran.c c ran.c_there q in
    subst (λ (r : PartRun). length r.part.log.items ≤ budget) same (by_active ran.b.active refl ran.chose ran.went idle.log)
  where
    by_active : {b d : PartRun} (active : Bool) → b.active ≡ active → IsChosen every a b → HasGone retries budget b d → a.part.log.items ≡ [] → length d.part.log.items ≤ budget
    by_active {b} {d} true is chose went none =
        let ended : HasEnded retries budget b d = went.ended is in
        let long : length b.part.log.items ≡ 0 = ap (λ (p : Part). length p.log.items) chose.part ∙ ap (λ (l : List Made). length l) none in
        subst (λ (k : ℕ). length d.part.log.items ≤ k) (max_least budget (length b.part.log.items) long) ended.few
    by_active {b} {d} false is chose went none =
        let long : length d.part.log.items ≡ 0 = ap (λ (r : PartRun). length r.part.log.items) (went.idle is) ∙ (ap (λ (p : Part). length p.log.items) chose.part ∙ ap (λ (l : List Made). length l) none) in
        omega (arith, long)

log_in : (runs : List PartRun) (i : ℕ) (d : List Made) → i < length (logs_in runs) → (run : PartRun) × ((slice_get runs i ≡ Some run) × (get_or (logs_in runs) i d ≡ run.part.log.items))
log_in [] i d inside = absurd (omega (arith, inside))
log_in (x ∷ xs) zero d inside = (x, (refl, refl))
log_in (x ∷ xs) (suc i) d inside = log_in xs i d (omega (arith, inside))

pub times_div : (k b n : ℕ) → k ≡ n → b ≤ STAMP_LIMIT / n → k * b ≤ STAMP_LIMIT
times_div k b n same few = let div : n * (STAMP_LIMIT / n) ≤ STAMP_LIMIT = div_times STAMP_LIMIT n in let more : n * b ≤ n * (STAMP_LIMIT / n) = times_le n b (STAMP_LIMIT / n) few in subst (λ (m : ℕ). m * b ≤ STAMP_LIMIT) (sym same) (omega (arith, div, more))
  where
    div_times : (m d : ℕ) → d * (m / d) ≤ m
    div_times m d = grind (arith, common_steps)

    times_le : (d x y : ℕ) → x ≤ y → d * x ≤ d * y
    times_le d x y le = grind (arith, common_steps)

pub logs_few : (n : DividedNetwork) (retries every : Bool) (budget : ℕ) (chosen gone : List PartRun) → Went n retries every budget chosen gone → entry_count (logs_in gone) ≤ STAMP_LIMIT
logs_few n retries every budget chosen gone w =
    let all : entry_count (logs_in gone) ≤ length (logs_in gone) * budget = sum_by-le (λ (log : List Made). length log) budget (logs_in gone) (λ k d inside.
    let run = log_in gone k d inside in
    let old = run_there n.runs.items k (subst (λ (m : ℕ). k < m) (w.went.count ∙ w.chose.count) (slice_get_within gone k run.0 run.1.0)) in
    subst (λ (l : List Made). length l ≤ budget) (sym run.1.1) (log_few n retries every budget chosen gone w k old.0 old.1 run.0 run.1.0)) in
    let count : length (logs_in gone) ≡ length n.runs.items = length-map gone (λ (run : PartRun). run.part.log.items) ∙ (w.went.count ∙ w.chose.count) in
    let most = times_div (length (logs_in gone)) budget (length n.runs.items) count w.few in
    omega (arith, all, most)
