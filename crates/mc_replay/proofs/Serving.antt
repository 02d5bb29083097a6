-- A moment is the last rest of a segment exactly where no slot was retried twice after it, and as many retries came as slots owed one then.
use Rattle.std.proofs.Common.{◌≡◌, ◌≤◌, ◌<◌, ◌+◌, ◌++◌, ◌==◌, ◌&&◌, inl, inr, cond, if◌then◌else◌, ℕ, zero, suc, Bool, true, false, List, [], ◌∷◌, IsTrue, Some, length, count_by, refl, ap, sym, ◌∙◌, subst, arith}
use Rattle.std.proofs.lemmas.Bool.{cases_eq, cases_lt}
use Rattle.std.proofs.lemmas.Grind.{common_steps}
use Rattle.std.proofs.lemmas.List.Folds.{list_all-append}
use Rattle.std.proofs.lemmas.List.Sums.{sum_by-cons}
use Rattle.mc_box.specs.Boxes.{box_owes, is_slot}
use Rattle.mc_box.specs.declared.event.Event.{Event}
use Rattle.mc_box.specs.declared.event.Event.TheVariants.{Take, Set, Media, Tell, Retry, Shift}
use Rattle.mc_box.specs.declared.event.Turn.{Turn}
use Rattle.mc_box.proofs.Options.{then_some}
use Rattle.mc_laws.proofs.CommandsGo.{both_true}
use Rattle.mc_laws.proofs.ShapesKept.{same_shape, shape_both, step_keeps_shape}
use Rattle.mc_laws.proofs.StepGoes.{below_test}
use Rattle.mc_laws.proofs.StepKeeps.{step_keeps_sound}
use Rattle.mc_laws.proofs.Sums.{total_le, total_plus}
use Rattle.mc_model.specs.Settles.{is_quiet, is_retry_at, is_retry_of, takes_or_retries, world_owes}
use Rattle.mc_model.specs.Shapes.{HasShape}
use Rattle.mc_model.specs.Sound.{IsSound}
use Rattle.mc_model.specs.Steps.{run, step}
use Rattle.mc_model.specs.Worlds.{WorldState, box_at}
use Rattle.mc_path_laws.specs.PathLaws.{OwedSinceQuiet}
use Rattle.mc_seq.proofs.Retries.{total_alone}
use Rattle.mc_seq.proofs.Segments.{all_besides, both_there}
use Rattle.mc_slot_laws.specs.Sums.{total}
use Rattle.mc_slot_laws.proofs.Sums.{total_none, total_same}
use Rattle.mc_world.specs.Waiting.{bit}
use Rattle.mc_replay.specs.Counts.{owed_count}
use Rattle.mc_box.specs.BoxEvents.{is_retry}
use Rattle.mc_replay.specs.Moments.{AreRetriedOnce, retry_count}
use Rattle.mc_replay.proofs.Prefixes.{run_more}
use Rattle.mc_replay.proofs.RetriesKept.{is_of, not_of, owes_there, retry_owes}

-- ---- a sum over all slots of a world

abbrev pub over : WorldState → (ℕ → ℕ → ℕ) → ℕ
over world f = total (λ who. total (f who) (length (box_at world who).slots)) (length world.boxes)

-- equal values have equal sums
pub over_same : (world : WorldState) (f g : ℕ → ℕ → ℕ) → ((who local : ℕ) → who < length world.boxes → local < length (box_at world who).slots → f who local ≡ g who local) → over world f ≡ over world g
over_same world f g same =
    total_same (λ (who : ℕ). total (f who) (length (box_at world who).slots)) (λ (who : ℕ). total (g who) (length (box_at world who).slots)) (length world.boxes)
    (λ who below. total_same (f who) (g who) (length (box_at world who).slots) (λ local within. same who local below within))

pub over_plus : (world : WorldState) (f g : ℕ → ℕ → ℕ) → over world (λ who local. f who local + g who local) ≡ over world f + over world g
over_plus world f g =
    total_same (λ (who : ℕ). total (λ (local : ℕ). f who local + g who local) (length (box_at world who).slots))
    (λ (who : ℕ). total (f who) (length (box_at world who).slots) + total (g who) (length (box_at world who).slots)) (length world.boxes)
    (λ who below. total_plus (f who) (g who) (length (box_at world who).slots))
    ∙ total_plus (λ (who : ℕ). total (f who) (length (box_at world who).slots)) (λ (who : ℕ). total (g who) (length (box_at world who).slots)) (length world.boxes)

pub over_none : (world : WorldState) (f : ℕ → ℕ → ℕ) → ((who local : ℕ) → f who local ≡ 0) → over world f ≡ 0
over_none world f none =
    total_none (λ (who : ℕ). total (f who) (length (box_at world who).slots)) (length world.boxes)
    (λ who below. total_none (f who) (length (box_at world who).slots) (λ local within. none who local))

-- one slot alone has a value
pub over_alone : (world : WorldState) (f : ℕ → ℕ → ℕ) (w l : ℕ) → w < length world.boxes → l < length (box_at world w).slots → ((who local : ℕ) → (who ≡ w → local ≡ l → ⊥) → f who local ≡ 0) → over world f ≡ f w l
over_alone world f w l here inside none =
    total_alone (λ (who : ℕ). total (f who) (length (box_at world who).slots)) (length world.boxes) w here
    (λ who below apart. total_none (f who) (length (box_at world who).slots) (λ local within. none who local (λ same at. apart same)))
    ∙ total_alone (f w) (length (box_at world w).slots) l inside (λ local within apart. none w local (λ same at. apart at))

-- where no value is greater than another, and the sums are equal, all are
pub equal_parts : (a b x y : ℕ) → a ≤ x → b ≤ y → a + b ≡ x + y → (a ≡ x) × (b ≡ y)
equal_parts a b x y one two both = (omega (arith, one, two, both), omega (arith, one, two, both))

pub total_equal : (f g : ℕ → ℕ) (k t : ℕ) → ((s : ℕ) → s < k → f s ≤ g s) → total f k ≡ total g k → t < k → f t ≡ g t
total_equal f g zero t each same inside = absurd (omega (arith, inside))
total_equal f g (suc k) t each same inside =
    let parts = equal_parts (f k) (total f k) (g k) (total g k) (each k (omega arith)) (total_le f g k (λ s below. each s (omega (arith, below)))) same in
    elim (cases_eq t k) [
      | inl at ↦ ap f at ∙ (parts.0 ∙ sym (ap g at))
      | inr apart ↦ total_equal f g k t (λ s below. each s (omega (arith, below))) parts.1 (omega (arith, inside, apart))
    ]

pub over_equal : (world : WorldState) (f g : ℕ → ℕ → ℕ) (w l : ℕ) → ((who local : ℕ) → f who local ≤ g who local) → over world f ≡ over world g → w < length world.boxes → l < length (box_at world w).slots → f w l ≡ g w l
over_equal world f g w l each same here inside =
    total_equal (f w) (g w) (length (box_at world w).slots) l (λ local within. each w local)
    (total_equal (λ (who : ℕ). total (f who) (length (box_at world who).slots)) (λ (who : ℕ). total (g who) (length (box_at world who).slots)) (length world.boxes) w
    (λ who below. total_le (f who) (g who) (length (box_at world who).slots) (λ local within. each who local)) same here)
    inside

-- ---- all retries of a run are of slots that are there

-- of a turn that is no retry
pub none_counted : (world : WorldState) (turn : Turn) → is_retry turn.event ≡ false → over world (λ who local. cond (is_retry_of who local turn) 1 0) ≡ cond (is_retry turn.event) 1 0
none_counted world turn none =
    over_none world (λ who local. cond (is_retry_of who local turn) 1 0) (λ who local. ap (λ (b : Bool). cond b 1 0) (not_of turn who local none)) ∙ ap (λ (b : Bool). cond b 1 0) (sym none)

-- of a turn
pub turn_counted : (event : Event) (world : WorldState) (turn : Turn) → turn.event ≡ event → ((local : ℕ) → turn.event ≡ Retry local → (turn.who < length world.boxes) × (local < length (box_at world turn.who).slots))
    → over world (λ who local. cond (is_retry_of who local turn) 1 0) ≡ cond (is_retry turn.event) 1 0
turn_counted (Retry l) world turn is there =
    let at = there l is in
    over_alone world (λ who local. cond (is_retry_of who local turn) 1 0) turn.who l at.0 at.1
    (λ who local apart. ap (λ (b : Bool). cond b 1 0) (is_of turn l who local is ∙ other_test l local turn.who who (λ one two. apart (sym two) (sym one))))
    ∙ (ap (λ (b : Bool). cond b 1 0) (is_of turn l turn.who l is ∙ own_test l turn.who) ∙ ap (λ (e : Event). cond (is_retry e) 1 0) (sym is))
  where
    other_test : (a b c d : ℕ) → (a ≡ b → c ≡ d → ⊥) → (a == b && c == d) ≡ false
    other_test a b c d apart = grind (arith, common_steps)

    own_test : (a b : ℕ) → (a == a && b == b) ≡ true
    own_test a b = grind (arith, common_steps)
turn_counted (Take l) world turn is there = none_counted world turn (ap is_retry is)
turn_counted (Set change) world turn is there = none_counted world turn (ap is_retry is)
turn_counted (Media change) world turn is there = none_counted world turn (ap is_retry is)
turn_counted (Tell word) world turn is there = none_counted world turn (ap is_retry is)
turn_counted Shift world turn is there = none_counted world turn (ap is_retry is)

-- of a run
pub run_counted : (turns : List Turn) (world now last : WorldState) → HasShape now world → IsSound now → run now turns ≡ Some last → over world (λ who local. count_by (is_retry_of who local) turns) ≡ retry_count turns
run_counted [] world now last shape sound goes = over_none world (λ who local. 0) (λ who local. refl)
run_counted (turn ∷ turns) world now last shape sound goes =
    let first = then_some (λ (next : WorldState). run next turns) (step now turn) last goes in
    let shape_next = shape_both first.0 now world (step_keeps_shape now first.0 turn sound first.1) shape in
    let rest = run_counted turns world first.0 last shape_next (step_keeps_sound now first.0 turn sound first.1) first.2 in
    let own : over world (λ who local. cond (is_retry_of who local turn) 1 0) ≡ cond (is_retry turn.event) 1 0 = turn_counted turn.event world turn refl (λ local is.
    let at = owes_there now turn.who local (retry_owes now first.0 turn local first.1 is) in
    (subst (λ (n : ℕ). turn.who < n) shape.boxes at.box, subst (λ (n : ℕ). local < n) (shape.alike turn.who).slots at.slot)) in
    over_same world (λ who local. count_by (is_retry_of who local) (turn ∷ turns)) (λ who local. cond (is_retry_of who local turn) 1 0 + count_by (is_retry_of who local) turns)
    (λ who local below within. sum_by-cons (λ (t : Turn). cond (is_retry_of who local t) 1 0) turn turns)
    ∙ (over_plus world (λ who local. cond (is_retry_of who local turn) 1 0) (λ who local. count_by (is_retry_of who local) turns)
    ∙ let both : over world (λ who local. cond (is_retry_of who local turn) 1 0) + over world (λ who local. count_by (is_retry_of who local) turns) ≡ cond (is_retry turn.event) 1 0 + retry_count turns = omega (arith, own, rest) in
    both ∙ sym (sum_by-cons (λ (t : Turn). cond (is_retry t.event) 1 0) turn turns))

-- ---- what is owed

-- of a slot that is there, what a world owes is what its box owes
pub owes_here : (world : WorldState) (who local : ℕ) → who < length world.boxes → local < length (box_at world who).slots → world_owes world who local ≡ box_owes (box_at world who) local
owes_here world who local here inside =
    ap (λ (b : Bool). b && is_slot (box_at world who) local && box_owes (box_at world who) local) (below_test who (length world.boxes) here)
    ∙ ap (λ (b : Bool). b && box_owes (box_at world who) local) (below_test local (length (box_at world who).slots) inside)

pub owed_counted : (world : WorldState) → over world (λ who local. bit (world_owes world who local)) ≡ owed_count world
owed_counted world =
    over_same world (λ who local. bit (world_owes world who local)) (λ who local. bit (box_owes (box_at world who) local)) (λ who local below within. ap bit (owes_here world who local below within))

-- ---- retries are owed at the moment

-- the retry of a slot, as it is written
pub retry_at : (event : Event) (local : ℕ) → is_retry_at local event ≡ true → event ≡ Retry local
retry_at (Take l) local is = absurd (cc)
retry_at (Set change) local is = absurd (cc)
retry_at (Media change) local is = absurd (cc)
retry_at (Tell word) local is = absurd (cc)
retry_at Shift local is = absurd (cc)
retry_at (Retry l) local is = ap (λ (k : ℕ). Retry k) (same_by l local is)
  where
    same_by : (a b : ℕ) → (a == b) ≡ true → a ≡ b
    same_by a b is = grind (arith, common_steps)

pub retry_is : (turn : Turn) (who local : ℕ) → is_retry_of who local turn ≡ true → (turn.who ≡ who) × (turn.event ≡ Retry local)
retry_is turn who local is =
    let both = both_true (is_retry_at local turn.event) (turn.who == who) is in
    (same_by turn.who who both.1, retry_at turn.event local both.0)
  where
    same_by : (a b : ℕ) → (a == b) ≡ true → a ≡ b
    same_by a b is = grind (arith, common_steps)

-- the slot of the next turn, or of a later one
pub owed_by : (b : Bool) → OwedSinceQuiet → (past behind : List Turn) (world now next : WorldState) (turn : Turn) (who local : ℕ) → is_retry_of who local turn ≡ b → IsSound world → IsTrue (is_quiet world) → run world past ≡ Some now → all_besides past ≡ true
    → step now turn ≡ Some next → 1 ≤ count_by (is_retry_of who local) (turn ∷ behind) → (1 ≤ count_by (is_retry_of who local) behind → IsTrue (world_owes world who local)) → IsTrue (world_owes world who local)
owed_by true law past behind world now next turn who local is sound quiet goes besides steps some later =
    let at = retry_is turn who local is in
    let owes : IsTrue (world_owes now who local) = subst (λ (w : ℕ). IsTrue (world_owes now w local)) at.0 (retry_owes now next turn local steps at.1) in
    law world now past sound quiet besides goes who local owes
owed_by false law past behind world now next turn who local is sound quiet goes besides steps some later =
    let counted = sum_by-cons (λ (t : Turn). cond (is_retry_of who local t) 1 0) turn behind in
    let zero : ◌≡◌ {A = ℕ} (cond (is_retry_of who local turn) 1 0) 0 = ap (λ (b : Bool). cond b 1 0) is in
    later (omega (arith, some, counted, zero))

-- the slot of each retry that comes after a moment owed it then
pub owed_then : OwedSinceQuiet → (behind past : List Turn) (world now last : WorldState) (who local : ℕ) → IsSound world → IsTrue (is_quiet world) → run world past ≡ Some now → all_besides past ≡ true
    → run now behind ≡ Some last → all_besides behind ≡ true → 1 ≤ count_by (is_retry_of who local) behind → IsTrue (world_owes world who local)
owed_then law [] past world now last who local sound quiet goes besides on all some = absurd (omega (arith, some))
owed_then law (turn ∷ behind) past world now last who local sound quiet goes besides on all some =
    let first = then_some (λ (next : WorldState). run next behind) (step now turn) last on in
    let parts = both_true (takes_or_retries turn.event) (all_besides behind) all in
    owed_by (is_retry_of who local turn) law past behind world now first.0 turn who local refl sound quiet goes besides first.1 some
    (λ more. owed_then law behind (past ++ turn ∷ []) world first.0 last who local sound quiet (run_more world now first.0 past turn goes first.1)
    (list_all-append (λ (t : Turn). takes_or_retries t.event) past (turn ∷ []) ∙ both_there (all_besides past) (all_besides (turn ∷ [])) besides (both_there (takes_or_retries turn.event) true parts.0 refl))
    first.2 parts.1 more)

-- ---- both ways

-- what is asked of the retries after a moment
abbrev pub Retrieds : WorldState → List Turn → Type 0
Retrieds world behind = (who local : ℕ) → count_by (is_retry_of who local) behind ≡ (if world_owes world who local then 1 else 0)

pub counts_most : (owes : Bool) (n : ℕ) → n ≤ 1 → (1 ≤ n → owes ≡ true) → n ≤ bit owes
counts_most true n few owed = few
counts_most false n few owed = elim (cases_lt n 1) [
  | inl none ↦ omega (arith, none)
  | inr some ↦ absurd (let never = owed (omega (arith, some)) in cc)
]

-- a slot that owed a retry, or didn't
pub retried_by : (owes : Bool) (world : WorldState) (behind : List Turn) (who local : ℕ) → world_owes world who local ≡ owes → ((w l : ℕ) → count_by (is_retry_of w l) behind ≤ bit (world_owes world w l))
    → over world (λ w l. count_by (is_retry_of w l) behind) ≡ over world (λ w l. bit (world_owes world w l)) → count_by (is_retry_of who local) behind ≡ (if owes then 1 else 0)
retried_by true world behind who local is most sums =
    let at = owes_there world who local is in
    over_equal world (λ w l. count_by (is_retry_of w l) behind) (λ w l. bit (world_owes world w l)) who local most sums at.box at.slot ∙ ap bit is
retried_by false world behind who local is most sums =
    let few = most who local in
    let zero : bit (world_owes world who local) ≡ 0 = ap bit is in
    omega (arith, few, zero)

pub serves_retried : OwedSinceQuiet → (world last : WorldState) (behind : List Turn) → IsSound world → IsTrue (is_quiet world) → run world behind ≡ Some last → all_besides behind ≡ true → AreRetriedOnce behind → retry_count behind ≡ owed_count world
    → Retrieds world behind
serves_retried law world last behind sound quiet goes besides once same who local =
    retried_by (world_owes world who local) world behind who local refl
    (λ w l. counts_most (world_owes world w l) (count_by (is_retry_of w l) behind) (once w l) (λ some. owed_then law behind [] world world last w l sound quiet refl refl goes besides some))
    (run_counted behind world world last (same_shape world) sound goes ∙ (same ∙ sym (owed_counted world)))

pub once_by : (owes : Bool) (n : ℕ) → n ≡ (if owes then 1 else 0) → n ≤ 1
once_by true n is = omega (arith, is)
once_by false n is = omega (arith, is)

pub bit_is : (owes : Bool) → (if owes then 1 else 0) ≡ bit owes
bit_is owes = refl

pub retried_serves : (world last : WorldState) (behind : List Turn) → IsSound world → run world behind ≡ Some last → Retrieds world behind → AreRetriedOnce behind × (retry_count behind ≡ owed_count world)
retried_serves world last behind sound goes retried = (
  λ who local. once_by (world_owes world who local) (count_by (is_retry_of who local) behind) (retried who local),
  sym (run_counted behind world world last (same_shape world) sound goes)
      ∙ (over_same world (λ w l. count_by (is_retry_of w l) behind) (λ w l. bit (world_owes world w l)) (λ who local below within. retried who local ∙ bit_is (world_owes world who local)) ∙ owed_counted world),
)
