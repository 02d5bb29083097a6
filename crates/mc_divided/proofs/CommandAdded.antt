-- A box of a network in parts gets a command more.
use Rattle.std.proofs.Common.{◌≡◌, ◌≢◌, ◌<◌, ◌≤◌, ◌++◌, ◌&&◌, ◌==◌, inl, inr, ◌⊎◌, if◌then◌else◌, Bool, true, false, ℕ, IsTrue, Some, Result, Ok, Err, OnOk, OnErr, List, [], ◌∷◌, drop, length, get_or, slice_get, nat_lt, append-nil, refl, ap, ap₂, sym, ◌∙◌, subst, arith, eq-eqb, ne_eqb, true≢false, Vec, Global}
use Rattle.std.specs.List.{AllByRecursion, slice_set}
use Rattle.std.specs.declared.alloc.AllocError.{AllocError}
use Rattle.std.proofs.Math.Path.{fun_ext}
use Rattle.std.proofs.lemmas.Bool.{cases_lt, lt-ltb, ltb-true}
use Rattle.std.proofs.lemmas.List.{append_assoc, get_or_default}
use Rattle.std.proofs.lemmas.Option.{get_or_from_slice_get, slice_get-get_or, slice_get_within}
use Rattle.mc_box.specs.BoxEvents.{is_command, is_enabled}
use Rattle.mc_box.specs.BoxShapes.{box_shape, is_enabled_by}
use Rattle.mc_box.specs.Boxes.{BoxState}
use Rattle.mc_box.specs.declared.event.Event.{Event}
use Rattle.mc_box.specs.declared.event.Event.TheVariants.{Shift}
use Rattle.mc_box.specs.declared.event.Turn.{Turn}
use Rattle.mc_box.specs.declared.limit.TheConstants.{SHIFT_LIMIT}
use Rattle.mc_box.proofs.ShapeEnables.{shape_enables}
use Rattle.mc_part.specs.Divisions.{home_at, members, part_of}
use Rattle.mc_part.proofs.Members.{home_apart, home_inside, home_outside}
use Rattle.mc_model.specs.Shapes.{is_allowed}
use Rattle.mc_model.specs.Worlds.{WorldState, box_at}
use Rattle.mc_part.specs.Parts.{IsWithin, events_for, shifts_of, state_of, stimuli_of}
use Rattle.mc_merge.specs.Account.{PartState}
use Rattle.mc_part.specs.Phases.{IsKnown}
use Rattle.mc_part.specs.Running.{AreCalm}
use Rattle.mc_part.specs.declared.part.Part.{Part}
use Rattle.mc_part.specs.declared.part_run.PartRun.{PartRun}
use Rattle.mc_divided.specs.Commanding.{AddsAt, AreRecommanded, HasAdded, IsRecommanded, command_at}
use Rattle.mc_divided.specs.Networks.{IsDividedNetwork, IsIdle, network_state, states_among, turn_budget, world_in}
use Rattle.mc_divided.specs.States.{NetworkState, with_command}
use Rattle.mc_divided.specs.declared.network.DividedNetwork.{DividedNetwork}
use Rattle.mc_divided.proofs.Lists.{get_other, on_ok, one_of, same_or_not, set_here, set_length}
use Rattle.mc_divided.proofs.NetworkBoxes.{base_count, box_count, state_there}
use Rattle.mc_divided.proofs.Progressed.{box_is, home_of, shifts_at, stimuli_at}
use Rattle.mc_divided.proofs.Recommanded.{divided_same, world_same}
use Rattle.mc_divided.proofs.StillKnown.{still_known}

-- ---- lists

-- what holds of two lists holds of them in one
all_both : {A : Type 0} (P : A → Type 0) (xs ys : List A) → AllByRecursion P xs → AllByRecursion P ys
    → AllByRecursion P (xs ++ ys)
all_both P [] ys one two = two
all_both P (x ∷ xs) ys one two = (one.0, all_both P xs ys one.1 two)

-- the events of two lists are those of both
events_both : (who : ℕ) (xs ys : List Turn) → events_for who (xs ++ ys) ≡ events_for who xs ++ events_for who ys
events_both who [] ys = refl
events_both who (turn ∷ xs) ys =
    ap (λ (l : List Event). (if turn.who == who then turn.event ∷ [] else []) ++ l) (events_both who xs ys)
    ∙ sym (append_assoc (if turn.who == who then turn.event ∷ [] else []) (events_for who xs) (events_for who ys))

-- ---- one part

recommanded : (a b : Part) (more : List Turn) → HasAdded a b more → IsRecommanded a b
recommanded a b more added = record {
  engine = ap (λ (p : Part). p.engine) added.kept;
  ports = ap (λ (p : Part). p.ports) added.kept;
  log = ap (λ (p : Part). p.log) added.kept;
  stamp = ap (λ (p : Part). p.stamp) added.kept;
  heard = ap (λ (p : Part). p.heard) added.kept;
}

shifts_same : (a b : Part) (more : List Turn) → HasAdded a b more → (who : ℕ) → shifts_of b who ≡ shifts_of a who
shifts_same a b more added who = ap (λ (p : Part). shifts_of p who) added.kept

stimuli_more : (a b : Part) (more : List Turn) → HasAdded a b more → (at : ℕ)
    → stimuli_of b at ≡ stimuli_of a at ++ events_for at more
stimuli_more a b more added at =
    ap (events_for at) added.left ∙ events_both at (drop a.used a.commands.items) more

calm_same : (a b : Part) (more : List Turn) → HasAdded a b more → AreCalm a → AreCalm b
calm_same a b more added calm who inside =
    let engine : b.engine ≡ a.engine = ap (λ (p : Part). p.engine) added.kept in
    elim (calm who (subst (λ (w : WorldState). who < length w.boxes) engine inside)) [
      | inl none ↦ inl (ap (λ (w : WorldState). is_enabled (box_at w who) Shift) engine ∙ none)
      | inr most ↦ inr (subst (λ (n : ℕ). SHIFT_LIMIT ≤ n) (sym (shifts_same a b more added who)) most)
    ]

-- ---- all parts

-- one part has more commands
recommands : (old new : List PartRun) (p : ℕ) (more : List Turn) → AddsAt old new p more → AreRecommanded old new
recommands old new p more adds = record {
  count = ap (λ (l : List PartRun). length l) adds.after_is ∙ set_length old p adds.b;
  each = λ i a b was is. elim (same_or_not i p) [
    | inl same ↦
        let one : a ≡ adds.a = one_of (slice_get old p) a adds.a (ap (slice_get old) (sym same) ∙ was) adds.there in
        let two : b ≡ adds.b = one_of (slice_get new p) b adds.b (ap (slice_get new) (sym same) ∙ is)
        (ap (λ (l : List PartRun). slice_get l p) adds.after_is ∙ set_here old p adds.a adds.b adds.there) in
        subst (λ (x : PartRun). IsRecommanded x.part b.part) (sym one)
        (subst (λ (y : PartRun). IsRecommanded adds.a.part y.part) (sym two)
        (recommanded adds.a.part adds.b.part more adds.added))
    | inr other ↦
        let same : b ≡ a = one_of (slice_get old i) b a
        (sym (ap (λ (l : List PartRun). slice_get l i) adds.after_is ∙ get_other old p i adds.b other) ∙ is) was in
        subst (λ (y : PartRun). IsRecommanded a.part y.part) (sym same)
        (record { engine = refl; ports = refl; log = refl; stamp = refl; heard = refl })
  ];
}

-- what a part of the new list is
pub data IsEither (old : List PartRun) (p i : ℕ) (a b c : PartRun) : Type 0 where
  is_added : i ≡ p → c ≡ b → IsEither old p i a b c
  is_other : i ≢ p → slice_get old i ≡ Some c → IsEither old p i a b c

either : (old new : List PartRun) (p : ℕ) (more : List Turn) (adds : AddsAt old new p more) (i : ℕ) (c : PartRun)
    → slice_get new i ≡ Some c → IsEither old p i adds.a adds.b c
either old new p more adds i c is = elim (same_or_not i p) [
  | inl same ↦
      is_added same (one_of (slice_get new p) c adds.b (ap (slice_get new) (sym same) ∙ is)
      (ap (λ (l : List PartRun). slice_get l p) adds.after_is ∙ set_here old p adds.a adds.b adds.there))
  | inr apart ↦
      is_other apart (sym (ap (λ (l : List PartRun). slice_get l i) adds.after_is ∙ get_other old p i adds.b apart) ∙ is)
]

-- the network is divided as before
pub added_divided : (n : DividedNetwork) (runs : Vec PartRun Global) (p : ℕ) (more : List Turn) → IsDividedNetwork n
    → (adds : AddsAt n.runs.items runs.items p more)
    → AllByRecursion (λ (turn : Turn). IsTrue (is_allowed adds.a.part.engine turn)) more
    → IsDividedNetwork (record n { runs = runs })
added_divided n runs p more divided adds allowed =
    let idle : IsIdle (turn_budget (length n.runs.items)) adds.a = divided.idle p adds.a adds.there in
    let engine : adds.b.part.engine ≡ adds.a.part.engine = ap (λ (q : Part). q.engine) adds.added.kept in
    divided_same n runs n.calm divided (recommands n.runs.items runs.items p more adds) (record {
      within = λ i c there. elim (either n.runs.items runs.items p more adds i c there) [
        | is_added same is ↦ subst (λ (x : PartRun). IsWithin x.part) (sym is) (adds.added.within idle.within)
        | is_other apart was ↦ (divided.idle i c was).within
      ];
      allowed = λ i c there. elim (either n.runs.items runs.items p more adds i c there) [
        | is_added same is ↦
            subst (λ (x : PartRun). AllByRecursion (λ (turn : Turn). IsTrue (is_allowed x.part.engine turn))
            (drop x.part.used x.part.commands.items)) (sym is)
            (subst (λ (w : WorldState). AllByRecursion (λ (turn : Turn). IsTrue (is_allowed w turn))
            (drop adds.b.part.used adds.b.part.commands.items)) (sym engine)
            (subst (λ (l : List Turn). AllByRecursion (λ (turn : Turn). IsTrue (is_allowed adds.a.part.engine turn)) l)
            (sym adds.added.left)
            (all_both (λ (turn : Turn). IsTrue (is_allowed adds.a.part.engine turn))
            (drop adds.a.part.used adds.a.part.commands.items) more idle.allowed allowed)))
        | is_other apart was ↦ (divided.idle i c was).allowed
      ];
      calm_is = λ on i c there. elim (either n.runs.items runs.items p more adds i c there) [
        | is_added same is ↦
            subst (λ (x : PartRun). AreCalm x.part) (sym is)
            (calm_same adds.a.part adds.b.part more adds.added (divided.calm on p adds.a adds.there))
        | is_other apart was ↦ divided.calm on i c was
      ];
      known = λ i c there. elim (either n.runs.items runs.items p more adds i c there) [
        | is_added same is ↦ subst (λ (x : PartRun). IsKnown x) (sym is) (still_known adds.a adds.b
            (ap (λ (q : Part). q.engine.boxes) adds.added.kept) (ap (λ (q : Part). q.shifts) adds.added.kept)
            (ap (λ (r : PartRun). r.known) adds.run) idle.known)
        | is_other apart was ↦ (divided.idle i c was).known
      ];
    })

-- ---- commands by box

-- a command that the network allows is one, and its part allows it
pub record IsCommandAt (n : DividedNetwork) (turn : Turn) (a : PartRun) : Type 0 where
  pub inside : turn.who < length n.assigned.items
  pub command : IsTrue (is_command turn.event)
  pub allowed : IsTrue (is_allowed a.part.engine (command_at n.assigned.items turn))

both_true : (a b : Bool) → IsTrue (a && b) → IsTrue a × IsTrue b
both_true true true is = (refl, refl)
both_true true false is = absurd (true≢false (sym is))
both_true false b is = absurd (true≢false (sym is))

both_are : (a b : Bool) → IsTrue a → IsTrue b → IsTrue (a && b)
both_are a b one two = ap₂ (λ (x y : Bool). x && y) one two

-- a box has its number in its part
inside_part : (n : DividedNetwork) (who : ℕ) (a : PartRun) → IsDividedNetwork n → who < length n.assigned.items
    → slice_get n.runs.items (home_at n.assigned.items who).0 ≡ Some a
    → (home_at n.assigned.items who).1 < length a.part.engine.boxes
inside_part n who a divided inside there =
    let p : ℕ = (home_at n.assigned.items who).0 in
    let below : p < length n.runs.items = slice_get_within n.runs.items p a there in
    let state : states_among n.runs.items p ≡ state_of a.part =
    state_there n.runs.items p a below (sym (get_or_from_slice_get n.runs.items p a a there)) in
    let count : length a.part.engine.boxes ≡ length (members n.assigned.items p) =
    ap (λ (x : PartState). length x.boxes) (sym state) ∙ divided.boxes p below in
    let last : (home_at n.assigned.items who).1 < length (members n.assigned.items p) =
    home_inside n.assigned.items who inside in
    omega arith

pub command_is : (n : DividedNetwork) (turn : Turn) (a : PartRun) → IsDividedNetwork n
    → IsTrue (is_allowed (world_in n) turn)
    → slice_get n.runs.items (home_at n.assigned.items turn.who).0 ≡ Some a → IsCommandAt n turn a
command_is n turn a divided allowed there =
    let parts = both_true (nat_lt turn.who (length (world_in n).boxes))
    (is_enabled_by (box_shape (box_at (world_in n) turn.who)) turn.event) allowed in
    let in_world : turn.who < length (world_in n).boxes = ltb-true turn.who (length (world_in n).boxes) parts.0 in
    let inside : turn.who < length n.assigned.items = omega (arith, in_world, box_count n) in
    let box : box_at (world_in n) turn.who ≡ box_at a.part.engine (home_at n.assigned.items turn.who).1 =
    box_is n turn.who (home_at n.assigned.items turn.who).0 (home_at n.assigned.items turn.who).1 a divided
    (record { home = refl; there = there }) (omega (arith, inside, base_count n)) in
    let here : (home_at n.assigned.items turn.who).1 < length a.part.engine.boxes =
    inside_part n turn.who a divided inside there in
    record {
      inside = inside;
      command = (both_true (is_command turn.event) (is_enabled (box_at (world_in n) turn.who) turn.event)
          (sym (shape_enables (box_at (world_in n) turn.who) turn.event) ∙ parts.1)).0;
      allowed = both_are (nat_lt (home_at n.assigned.items turn.who).1 (length a.part.engine.boxes))
          (is_enabled_by (box_shape (box_at a.part.engine (home_at n.assigned.items turn.who).1)) turn.event)
          (lt-ltb (home_at n.assigned.items turn.who).1 (length a.part.engine.boxes) here)
          (ap (λ (one : BoxState). is_enabled_by (box_shape one) turn.event) (sym box) ∙ parts.1);
    }

-- ---- the state

-- where a box stands that isn't this one
pub apart_homes : (assigned : List ℕ) (who other : ℕ) → who < length assigned → who ≢ other
    → home_at assigned other ≡ home_at assigned who → ⊥
apart_homes assigned who other inside apart same = elim (cases_lt other (length assigned)) [
  | inl there ↦ apart (sym (home_apart assigned other who there inside same))
  | inr past ↦
      let last : (home_at assigned who).1 < length (members assigned (part_of assigned who)) =
      home_inside assigned who inside in
      let outside : length (members assigned (part_of assigned other)) ≡ (home_at assigned other).1 =
      home_outside assigned other past in
      let part : part_of assigned other ≡ part_of assigned who = ap (λ (home : ℕ × ℕ). home.0) same in
      let number : (home_at assigned other).1 ≡ (home_at assigned who).1 = ap (λ (home : ℕ × ℕ). home.1) same in
      let count : length (members assigned (part_of assigned who)) ≡ (home_at assigned other).1 =
      ap (λ (p : ℕ). length (members assigned p)) (sym part) ∙ outside in
      absurd (omega arith)
]

-- of the commands that are new the box gets its own
own_more : (test : Bool) (event : Event) → test ≡ true
    → (if test then event ∷ [] else []) ++ [] ≡ (if true then event ∷ [] else [])
own_more test event is = ap (λ (b : Bool). (if b then event ∷ [] else []) ++ []) is

no_more : (test : Bool) (event : Event) → test ≡ false → (if test then event ∷ [] else []) ++ [] ≡ []
no_more test event is = ap (λ (b : Bool). (if b then event ∷ [] else []) ++ []) is

-- the commands of each box, where one gets more
stimuli_by : (n : DividedNetwork) (runs : Vec PartRun Global) (turn : Turn) (who : ℕ) → IsDividedNetwork n
    → IsDividedNetwork (record n { runs = runs }) → turn.who < length n.assigned.items
    → AddsAt n.runs.items runs.items (home_at n.assigned.items turn.who).0 (command_at n.assigned.items turn ∷ [])
    → (network_state (record n { runs = runs })).stimuli who
    ≡ (network_state n).stimuli who ++ (if turn.who == who then turn.event ∷ [] else [])
stimuli_by n runs turn who divided new inside adds =
    let m : DividedNetwork = record n { runs = runs } in
    let assigned = n.assigned.items in
    let old = home_of n divided who in
    let home = home_of m new who in
    let p : ℕ = (home_at assigned turn.who).0 in
    let more : List Turn = command_at assigned turn ∷ [] in
    let was : (network_state n).stimuli who ≡ stimuli_of old.0.part (home_at assigned who).1 =
    stimuli_at n who (home_at assigned who).0 (home_at assigned who).1 old.0 divided old.1 in
    let is : (network_state m).stimuli who ≡ stimuli_of home.0.part (home_at assigned who).1 =
    stimuli_at m who (home_at assigned who).0 (home_at assigned who).1 home.0 new home.1 in
    elim (either n.runs.items runs.items p more adds (home_at assigned who).0 home.0 home.1.there) [
      | is_added same c_is ↦
          let old_is : old.0 ≡ adds.a = one_of (slice_get n.runs.items p) old.0 adds.a
          (ap (slice_get n.runs.items) (sym same) ∙ old.1.there) adds.there in
          let grown : stimuli_of home.0.part (home_at assigned who).1
          ≡ stimuli_of adds.a.part (home_at assigned who).1 ++ events_for (home_at assigned who).1 more =
          ap (λ (x : PartRun). stimuli_of x.part (home_at assigned who).1) c_is
          ∙ stimuli_more adds.a.part adds.b.part more adds.added (home_at assigned who).1 in
          is
          ∙ (grown
          ∙ ap₂ (λ (l end : List Event). l ++ end)
          (ap (λ (x : PartRun). stimuli_of x.part (home_at assigned who).1) (sym old_is) ∙ sym was)
          (elim (same_or_not turn.who who) [
            | inl one ↦
                own_more ((home_at assigned turn.who).1 == (home_at assigned who).1) turn.event
                (eq-eqb (home_at assigned turn.who).1 (home_at assigned who).1
                (ap (λ (w : ℕ). (home_at assigned w).1) one))
                ∙ sym (ap (λ (b : Bool). if b then turn.event ∷ [] else []) (eq-eqb turn.who who one))
            | inr apart ↦
                no_more ((home_at assigned turn.who).1 == (home_at assigned who).1) turn.event
                (ne_eqb (home_at assigned turn.who).1 (home_at assigned who).1
                (λ number. apart_homes assigned turn.who who inside apart
                (ap₂ (λ (a b : ℕ). (a, b)) same (sym number))))
                ∙ sym (ap (λ (b : Bool). if b then turn.event ∷ [] else []) (ne_eqb turn.who who apart))
          ]))
      | is_other apart kept ↦
          let same : home.0 ≡ old.0 =
          one_of (slice_get n.runs.items (home_at assigned who).0) home.0 old.0 kept old.1.there in
          let not_here : turn.who ≢ who = λ one. apart (ap (λ (w : ℕ). (home_at assigned w).0) (sym one)) in
          is
          ∙ (ap (λ (x : PartRun). stimuli_of x.part (home_at assigned who).1) same
          ∙ (sym was
          ∙ (sym (append-nil ((network_state n).stimuli who))
          ∙ ap (λ (l : List Event). (network_state n).stimuli who ++ l)
          (sym (ap (λ (b : Bool). if b then turn.event ∷ [] else []) (ne_eqb turn.who who not_here))))))
    ]

-- and where none does
stimuli_kept : (n : DividedNetwork) (runs : Vec PartRun Global) (p who : ℕ) → IsDividedNetwork n
    → IsDividedNetwork (record n { runs = runs }) → AddsAt n.runs.items runs.items p []
    → (network_state (record n { runs = runs })).stimuli who ≡ (network_state n).stimuli who
stimuli_kept n runs p who divided new adds =
    let m : DividedNetwork = record n { runs = runs } in
    let assigned = n.assigned.items in
    let old = home_of n divided who in
    let home = home_of m new who in
    let was : (network_state n).stimuli who ≡ stimuli_of old.0.part (home_at assigned who).1 =
    stimuli_at n who (home_at assigned who).0 (home_at assigned who).1 old.0 divided old.1 in
    let is : (network_state m).stimuli who ≡ stimuli_of home.0.part (home_at assigned who).1 =
    stimuli_at m who (home_at assigned who).0 (home_at assigned who).1 home.0 new home.1 in
    elim (either n.runs.items runs.items p [] adds (home_at assigned who).0 home.0 home.1.there) [
      | is_added same c_is ↦
          let old_is : old.0 ≡ adds.a = one_of (slice_get n.runs.items p) old.0 adds.a
          (ap (slice_get n.runs.items) (sym same) ∙ old.1.there) adds.there in
          is
          ∙ (ap (λ (x : PartRun). stimuli_of x.part (home_at assigned who).1) c_is
          ∙ (stimuli_more adds.a.part adds.b.part [] adds.added (home_at assigned who).1
          ∙ (append-nil (stimuli_of adds.a.part (home_at assigned who).1)
          ∙ (ap (λ (x : PartRun). stimuli_of x.part (home_at assigned who).1) (sym old_is) ∙ sym was))))
      | is_other apart kept ↦
          let same : home.0 ≡ old.0 =
          one_of (slice_get n.runs.items (home_at assigned who).0) home.0 old.0 kept old.1.there in
          is ∙ (ap (λ (x : PartRun). stimuli_of x.part (home_at assigned who).1) same ∙ sym was)
    ]

-- Shifts stay in any case
shifts_kept : (n : DividedNetwork) (runs : Vec PartRun Global) (p who : ℕ) (more : List Turn) → IsDividedNetwork n
    → IsDividedNetwork (record n { runs = runs }) → AddsAt n.runs.items runs.items p more
    → (network_state (record n { runs = runs })).shifts who ≡ (network_state n).shifts who
shifts_kept n runs p who more divided new adds =
    let m : DividedNetwork = record n { runs = runs } in
    let assigned = n.assigned.items in
    let old = home_of n divided who in
    let home = home_of m new who in
    let was : (network_state n).shifts who ≡ shifts_of old.0.part (home_at assigned who).1 =
    shifts_at n who (home_at assigned who).0 (home_at assigned who).1 old.0 divided old.1 in
    let is : (network_state m).shifts who ≡ shifts_of home.0.part (home_at assigned who).1 =
    shifts_at m who (home_at assigned who).0 (home_at assigned who).1 home.0 new home.1 in
    elim (either n.runs.items runs.items p more adds (home_at assigned who).0 home.0 home.1.there) [
      | is_added same c_is ↦
          let old_is : old.0 ≡ adds.a = one_of (slice_get n.runs.items p) old.0 adds.a
          (ap (slice_get n.runs.items) (sym same) ∙ old.1.there) adds.there in
          is
          ∙ (ap (λ (x : PartRun). shifts_of x.part (home_at assigned who).1) c_is
          ∙ (shifts_same adds.a.part adds.b.part more adds.added (home_at assigned who).1
          ∙ (ap (λ (x : PartRun). shifts_of x.part (home_at assigned who).1) (sym old_is) ∙ sym was)))
      | is_other apart kept ↦
          let same : home.0 ≡ old.0 =
          one_of (slice_get n.runs.items (home_at assigned who).0) home.0 old.0 kept old.1.there in
          is ∙ (ap (λ (x : PartRun). shifts_of x.part (home_at assigned who).1) same ∙ sym was)
    ]

state_is : (a b : NetworkState) → a.world ≡ b.world → a.stimuli ≡ b.stimuli → a.shifts ≡ b.shifts → a ≡ b
state_is a b world stimuli shifts =
    ap (λ (w : WorldState). record { world = w; stimuli = a.stimuli; shifts = a.shifts }) world
    ∙ (ap (λ (f : ℕ → List Event). record { world = b.world; stimuli = f; shifts = a.shifts }) stimuli
    ∙ ap (λ (f : ℕ → ℕ). record { world = b.world; stimuli = b.stimuli; shifts = f }) shifts)

-- with a command more
pub added_state : (n : DividedNetwork) (runs : Vec PartRun Global) (turn : Turn) → IsDividedNetwork n
    → IsDividedNetwork (record n { runs = runs }) → turn.who < length n.assigned.items
    → AddsAt n.runs.items runs.items (home_at n.assigned.items turn.who).0 (command_at n.assigned.items turn ∷ [])
    → network_state (record n { runs = runs }) ≡ with_command (network_state n) turn
added_state n runs turn divided new inside adds =
    let p : ℕ = (home_at n.assigned.items turn.who).0 in
    let more : List Turn = command_at n.assigned.items turn ∷ [] in
    state_is (network_state (record n { runs = runs })) (with_command (network_state n) turn)
    (world_same n runs n.calm (recommands n.runs.items runs.items p more adds))
    (fun_ext (λ who. stimuli_by n runs turn who divided new inside adds))
    (fun_ext (λ who. shifts_kept n runs p who more divided new adds))

-- or as it was
pub kept_state : (n : DividedNetwork) (runs : Vec PartRun Global) (p : ℕ) → IsDividedNetwork n
    → IsDividedNetwork (record n { runs = runs }) → AddsAt n.runs.items runs.items p []
    → network_state (record n { runs = runs }) ≡ network_state n
kept_state n runs p divided new adds =
    state_is (network_state (record n { runs = runs })) (network_state n)
    (world_same n runs n.calm (recommands n.runs.items runs.items p [] adds))
    (fun_ext (λ who. stimuli_kept n runs p who divided new adds))
    (fun_ext (λ who. shifts_kept n runs p who [] divided new adds))

-- ---- what the calls ask and answer

on_err : {X E : Type 0} {A B : Type 0} (r : Result X E) → (A → B) → OnErr r A → OnErr r B
on_err (Ok x) f h = h
on_err (Err e) f h = f h

by_result : {X E : Type 0} {A B : Type 0} (r : Result X E) → OnOk r A → OnErr r B → A ⊎ B
by_result (Ok x) one two = inl one
by_result (Err e) one two = inr two

-- one part of a list is changed
pub adds_at : (old : List PartRun) (part : ℕ) (a b : PartRun) (more : List Turn) → part < length old
    → a ≡ get_or old part a → b ≡ record a { part = b.part } → HasAdded a.part b.part more
    → AddsAt old (slice_set old part b) part more
adds_at old part a b more inside read run added = record {
  a = a;
  b = b;
  there = slice_get-get_or old part a inside ∙ ap (λ (x : PartRun). Some x) (sym read);
  run = run;
  added = added;
  after_is = refl;
}

pub adds_ok : {E : Type 0} (r : Result (Unit {0}) E) (old : List PartRun) (part : ℕ) (a b : PartRun) (more : List Turn)
    → part < length old → a ≡ get_or old part a → b ≡ record a { part = b.part }
    → OnOk r (HasAdded a.part b.part more) → OnOk r (AddsAt old (slice_set old part b) part more)
adds_ok r old part a b more inside read run added = on_ok r (λ one. adds_at old part a b more inside read run one) added

pub adds_err : {E : Type 0} (r : Result (Unit {0}) E) (old : List PartRun) (part : ℕ) (a b : PartRun) (more : List Turn)
    → part < length old → a ≡ get_or old part a → b ≡ record a { part = b.part }
    → OnErr r (HasAdded a.part b.part more) → OnErr r (AddsAt old (slice_set old part b) part more)
adds_err r old part a b more inside read run added =
    on_err r (λ one. adds_at old part a b more inside read run one) added

-- a command that is allowed is for a box that is there
pub allowed_inside : (n : DividedNetwork) (turn : Turn) → IsTrue (is_allowed (world_in n) turn)
    → turn.who < length n.assigned.items
allowed_inside n turn allowed =
    let parts = both_true (nat_lt turn.who (length (world_in n).boxes))
    (is_enabled_by (box_shape (box_at (world_in n) turn.who)) turn.event) allowed in
    let in_world : turn.who < length (world_in n).boxes = ltb-true turn.who (length (world_in n).boxes) parts.0 in
    omega (arith, in_world, box_count n)

-- its part and its number there, as they are read
pub record IsPlaceRead (n : DividedNetwork) (who part number : ℕ) : Type 0 where
  pub part_is : part ≡ (home_at n.assigned.items who).0
  pub number_is : number ≡ (home_at n.assigned.items who).1
  pub there : part < length n.runs.items

pub place_read : (n : DividedNetwork) (who part number : ℕ) → IsDividedNetwork n → who < length n.assigned.items
    → part ≡ get_or n.assigned.items who part → number ≡ get_or n.numbers.items who number
    → IsPlaceRead n who part number
place_read n who part number divided inside part_read number_read =
    let part_is : part ≡ part_of n.assigned.items who =
    part_read ∙ get_or_default n.assigned.items who part 0 inside in
    let below : who < length n.numbers.items = omega (arith, divided.numbers.count, inside) in
    record {
      part_is = part_is;
      number_is = number_read
          ∙ (get_or_default n.numbers.items who number 0 below ∙ divided.numbers.each who inside);
      there = subst (λ (p : ℕ). p < length n.runs.items) (sym part_is) (divided.assigned who 0 inside);
    }

adds_by : (n : DividedNetwork) (new : List PartRun) (turn : Turn) (part number : ℕ)
    → IsPlaceRead n turn.who part number
    → AddsAt n.runs.items new part (record { who = number; event = turn.event } ∷ [])
    → AddsAt n.runs.items new (home_at n.assigned.items turn.who).0 (command_at n.assigned.items turn ∷ [])
adds_by n new turn part number read adds =
    subst (λ (p : ℕ). AddsAt n.runs.items new p (command_at n.assigned.items turn ∷ [])) read.part_is
    (subst (λ (w : ℕ). AddsAt n.runs.items new part (record { who = w; event = turn.event } ∷ [])) read.number_is adds)

-- the command that is added is one
pub is_command_of : (n : DividedNetwork) (turn : Turn) → IsTrue (is_allowed (world_in n) turn)
    → IsTrue (is_command turn.event)
is_command_of n turn allowed =
    let parts = both_true (nat_lt turn.who (length (world_in n).boxes))
    (is_enabled_by (box_shape (box_at (world_in n) turn.who)) turn.event) allowed in
    (both_true (is_command turn.event) (is_enabled (box_at (world_in n) turn.who) turn.event)
    (sym (shape_enables (box_at (world_in n) turn.who) turn.event) ∙ parts.1)).0

-- whatever is answered the network is divided
pub divided_after : (n : DividedNetwork) (runs : Vec PartRun Global) (turn : Turn) (part number : ℕ)
    (r : Result (Unit {0}) AllocError) → IsDividedNetwork n → IsTrue (is_allowed (world_in n) turn)
    → IsPlaceRead n turn.who part number
    → OnOk r (AddsAt n.runs.items runs.items part (record { who = number; event = turn.event } ∷ []))
    → OnErr r (AddsAt n.runs.items runs.items part []) → IsDividedNetwork (record n { runs = runs })
divided_after n runs turn part number r divided allowed read ok err = elim (by_result r ok err) [
  | inl adds ↦
      let by = adds_by n runs.items turn part number read adds in
      added_divided n runs (home_at n.assigned.items turn.who).0 (command_at n.assigned.items turn ∷ []) divided by
      ((command_is n turn by.a divided allowed by.there).allowed, tt)
  | inr adds ↦ added_divided n runs part [] divided adds tt
]

pub added_after : (n : DividedNetwork) (runs : Vec PartRun Global) (turn : Turn) (part number : ℕ)
    (r : Result (Unit {0}) AllocError) → IsDividedNetwork n → IsDividedNetwork (record n { runs = runs })
    → IsTrue (is_allowed (world_in n) turn) → IsPlaceRead n turn.who part number
    → OnOk r (AddsAt n.runs.items runs.items part (record { who = number; event = turn.event } ∷ []))
    → OnOk r (network_state (record n { runs = runs }) ≡ with_command (network_state n) turn)
added_after n runs turn part number r divided new allowed read ok =
    on_ok r (λ adds. added_state n runs turn divided new (allowed_inside n turn allowed)
    (adds_by n runs.items turn part number read adds)) ok

pub kept_after : (n : DividedNetwork) (runs : Vec PartRun Global) (part : ℕ) (r : Result (Unit {0}) AllocError)
    → IsDividedNetwork n → IsDividedNetwork (record n { runs = runs }) → OnErr r (AddsAt n.runs.items runs.items part [])
    → OnErr r (network_state (record n { runs = runs }) ≡ network_state n)
kept_after n runs part r divided new err = on_err r (λ adds. kept_state n runs part divided new adds) err
