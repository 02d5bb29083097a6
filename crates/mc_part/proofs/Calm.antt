-- Which boxes can shift, while a part goes on.
use Rattle.std.proofs.Common.{◌≡◌, ◌≢◌, ◌⊎◌, inl, inr, ◌==◌, if◌then◌else◌, Bool, true, false, IsTrue, IsFalse, ◌<◌, ◌≤◌, ◌+◌, ℕ, max, count_by, add-zero, List, [], ◌∷◌, ◌++◌, drop, length, map, get_or, slice_get, Some, OnOk, Result, Ok, Err, refl, ap, sym, ◌∙◌, subst, arith, Vec, Global}
use Rattle.std.proofs.lemmas.Bool.{cases_eq, eqb-true}
use Rattle.std.proofs.lemmas.Grind.{common_steps}
use Rattle.std.proofs.lemmas.List.{append_cancel_left, append-nil, drop_all, length-append}
use Rattle.std.proofs.lemmas.Option.{slice_get-get_or, slice_get_within}
use Rattle.mc_box.specs.BoxEvents.{is_enabled, is_shift}
use Rattle.mc_box.specs.Boxes.{BoxState}
use Rattle.mc_box.specs.declared.event.Event.{Event}
use Rattle.mc_box.specs.declared.event.Event.TheVariants.{Shift}
use Rattle.mc_box.specs.declared.event.Turn.{Turn}
use Rattle.mc_box.specs.declared.limit.TheConstants.{SHIFT_LIMIT}
use Rattle.mc_port.specs.Entries.{AreMade, Entry}
use Rattle.mc_model.specs.Worlds.{box_at}
use Rattle.mc_merge.specs.Logs.{Own, own_log}
use Rattle.mc_merge.specs.Wholes.{made_of}
use Rattle.mc_merge.specs.declared.log.Made.{Made}
use Rattle.mc_part.specs.Parts.{IsWithin, Runs, TurnsOnce, no_retries, shifts_of, stimuli_of, events_for}
use Rattle.mc_part.specs.Running.{AreCalm, AreCalmFrom, ChangesOnly, Goes, HasBegun, HasTried, IsCalm, NothingWaits, IsCommanded, NoneLeft, next_command}
use Rattle.mc_part.specs.declared.part.Part.{Part}
use Rattle.mc_part.proofs.Ran.{runs_none, runs_on}

-- ---- going on

pub goes_none : (budget : ℕ) (a : Part) → IsWithin a → Goes budget a a
goes_none budget a within = record { runs = runs_none a within; within = within; few = grind (arith, common_steps) }

few_on : (budget m n k : ℕ) → n ≤ max budget m → k ≤ max budget n → k ≤ max budget m
few_on budget m n k one two = grind (arith, common_steps)

pub goes_on : (budget : ℕ) (a b c : Part) → Goes budget a b → Goes budget b c → Goes budget a c
goes_on budget a b c one two = record {
  runs = runs_on a b c one.runs two.runs;
  within = two.within;
  few = few_on budget (length a.log.items) (length b.log.items) (length c.log.items) one.few two.few;
}

same_few : (budget m n : ℕ) → n ≡ m → n ≤ max budget m
same_few budget m n same = grind (arith, common_steps)

more_few : (budget m n : ℕ) → m < budget → n ≡ m + 1 → n ≤ max budget m
more_few budget m n fewer more = grind (arith, common_steps)

pub goes_still : (budget : ℕ) (a b : Part) → Runs a b no_retries → IsWithin b → b.log.items ≡ a.log.items → Goes budget a b
goes_still budget a b runs within log = record { runs = runs; within = within; few = same_few budget (length a.log.items) (length b.log.items) (ap (λ (l : List Made). length l) log) }

pub goes_once : (budget : ℕ) (a b : Part) → Runs a b no_retries → IsWithin b → length a.log.items < budget → length b.log.items ≡ length a.log.items + 1 → Goes budget a b
goes_once budget a b runs within fewer more = record { runs = runs; within = within; few = more_few budget (length a.log.items) (length b.log.items) fewer more }

-- ---- what changes

pub only_none : (a : Part) (who : ℕ) → ChangesOnly a a who
only_none a who = record { boxes = λ other apart. refl; shifts = λ other apart. refl }

pub only_on : (a b c : Part) (who : ℕ) → ChangesOnly a b who → ChangesOnly b c who → ChangesOnly a c who
only_on a b c who one two = record { boxes = λ other apart. two.boxes other apart ∙ one.boxes other apart; shifts = λ other apart. two.shifts other apart ∙ one.shifts other apart }

pub only_failed : (a b : Part) (who : ℕ) → b ≡ record a { log = b.log } → ChangesOnly a b who
only_failed a b who kept = subst (λ (p : Part). ChangesOnly a p who) (sym kept) (record { boxes = λ other apart. refl; shifts = λ other apart. refl })

none_log : (test : Bool) (entry : Entry) → (test ≡ true → ⊥) → (if test then entry ∷ [] else []) ++ [] ≡ []
none_log true entry apart = absurd (apart refl)
none_log false entry apart = refl

by_none : (entries : List Entry) (box box_2 : BoxState) → entries ≡ [] → AreMade box entries box_2 → box ≡ box_2
by_none [] box box_2 none made = made
by_none (entry ∷ entries) box box_2 none made = absurd (cc)

other_box : (a b : Part) (who : ℕ) (event : Event) (other : ℕ) → TurnsOnce a b who event → other ≢ who → box_at b.engine other ≡ box_at a.engine other
other_box a b who event other turn apart =
    sym (by_none (own_log other (turn.own ∷ [])) (box_at a.engine other) (box_at b.engine other) (none_log (turn.own.who == other) turn.own.entry (λ is. apart (sym (eqb-true turn.own.who other is) ∙ turn.box))) (turn.work.made other))

pub only_once : (a b : Part) (who : ℕ) (event : Event) (shifts : Vec ℕ Global) → TurnsOnce a b who event → ((other : ℕ) → other ≢ who → get_or shifts.items other 0 ≡ shifts_of a other) → ChangesOnly a (record b { shifts = shifts }) who
only_once a b who event shifts turn same = record { boxes = λ other apart. other_box a b who event other turn apart; shifts = same }

pub only_turn : (a b : Part) (who : ℕ) (event : Event) → TurnsOnce a b who event → ChangesOnly a b who
only_turn a b who event turn = only_once a b who event b.shifts turn (λ other apart. ap (λ (p : Part). shifts_of p other) turn.kept)

pub only_command : (a b : Part) (made turn : Turn) (used : ℕ) → slice_get a.commands.items a.used ≡ Some made → slice_get a.commands.items a.used ≡ Some turn → TurnsOnce a b made.who made.event
    → ChangesOnly a (record b { used = used }) turn.who
only_command a b made turn used there next once =
    let same : made ≡ turn = cc in
    let only = only_turn a b made.who made.event once in
    subst (λ (t : Turn). ChangesOnly a (record b { used = used }) t.who) same (record { boxes = only.boxes; shifts = only.shifts })

-- ---- where only so much changes

pub calm_as : (a b : Part) (who : ℕ) → box_at b.engine who ≡ box_at a.engine who → shifts_of b who ≡ shifts_of a who → IsCalm a who → IsCalm b who
calm_as a b who box shifts (inl is) = inl (ap (λ (x : BoxState). is_enabled x Shift) box ∙ is)
calm_as a b who box shifts (inr most) = inr (subst (λ (n : ℕ). SHIFT_LIMIT ≤ n) (sym shifts) most)

-- all boxes but one stay as they were, and that one is calm
pub calm_on : (a b : Part) (who : ℕ) → ChangesOnly a b who → length b.engine.boxes ≡ length a.engine.boxes → AreCalm a → (who < length b.engine.boxes → IsCalm b who) → AreCalm b
calm_on a b who only count calm here other inside = elim (cases_eq other who) [
  | inl same ↦ subst (λ (n : ℕ). IsCalm b n) (sym same) (here (subst (λ (n : ℕ). n < length b.engine.boxes) same inside))
  | inr apart ↦ calm_as a b other (only.boxes other apart) (only.shifts other apart) (calm other (subst (λ (n : ℕ). other < n) count inside))
]

commanded_as : (a b : Part) (first who : ℕ) → b.commands ≡ a.commands → IsCommanded first a.commands.items who → IsCommanded first b.commands.items who
commanded_as a b first who commands is = subst (λ (v : Vec Turn Global). IsCommanded first v.items who) (sym commands) is

pub calm_but : (a b : Part) (who first : ℕ) → ChangesOnly a b who → length b.engine.boxes ≡ length a.engine.boxes → b.commands ≡ a.commands → AreCalmFrom first a
    → (who < length b.engine.boxes → IsCalm b who ⊎ IsCommanded first b.commands.items who) → AreCalmFrom first b
calm_but a b who first only count commands calm here other inside = elim (cases_eq other who) [
  | inl same ↦ subst (λ (n : ℕ). IsCalm b n ⊎ IsCommanded first b.commands.items n) (sym same) (here (subst (λ (n : ℕ). n < length b.engine.boxes) same inside))
  | inr apart ↦ elim (calm other (subst (λ (n : ℕ). other < n) count inside)) [
    | inl was ↦ inl (calm_as a b other (only.boxes other apart) (only.shifts other apart) was)
    | inr is ↦ inr (commanded_as a b first other commands is)
  ]
]

-- where a box with a command makes it
pub commanded : (commands : List Turn) (k : ℕ) (turn : Turn) → slice_get commands k ≡ Some turn → IsCommanded 0 commands turn.who
commanded commands k turn there = record { at = k; turn = turn; from = omega arith; there = there; is = refl }

pub boxes_on : (budget : ℕ) (a b : Part) → Goes budget a b → length b.engine.boxes ≡ length a.engine.boxes
boxes_on budget a b goes = goes.runs.run.spanned.work.box_count

pub command_calm : (budget : ℕ) (a b : Part) → Goes budget a b → a.used < length a.commands.items → ((turn : Turn) → next_command a ≡ Some turn → ChangesOnly a b turn.who) → AreCalmFrom 0 a → AreCalmFrom 0 b
command_calm budget a b goes some only calm =
    let turn : Turn = get_or a.commands.items a.used (record { who = 0; event = Shift }) in
    let next : next_command a ≡ Some turn = slice_get-get_or a.commands.items a.used (record { who = 0; event = Shift }) some in
    calm_but a b turn.who 0 (only turn next) (boxes_on budget a b goes) goes.runs.run.commands calm
    (λ inside. inr (commanded_as a b 0 turn.who goes.runs.run.commands (commanded a.commands.items a.used turn next)))

-- a box takes, and is calm then
pub take_calm : (budget : ℕ) (a b c : Part) (who : ℕ) → Goes budget a b → Goes budget b c → ChangesOnly a b who → ChangesOnly b c who → AreCalm a → (who < length b.engine.boxes → IsCalm c who) → AreCalm c
take_calm budget a b c who one two only only_2 calm here =
    calm_on a c who (only_on a b c who only only_2) (boxes_on budget b c two ∙ boxes_on budget a b one) calm (λ inside. here (subst (λ (n : ℕ). who < n) (boxes_on budget b c two) inside))

pub ok_then : {T E : Type 0} {P Q : Type 0} (result : Result T E) → (P → Q) → OnOk result P → OnOk result Q
ok_then (Ok done) f p = f p
ok_then (Err e) f p = tt

-- where the box of a command is calm, those of the later ones are left
past_one : (commands : List Turn) (k who : ℕ) (turn : Turn) → slice_get commands k ≡ Some turn → turn.who ≢ who → IsCommanded k commands who → IsCommanded (k + 1) commands who
past_one commands k who turn there apart is = elim (cases_eq is.at k) [
  | inl same ↦
      let one : slice_get commands k ≡ Some is.turn = subst (λ (n : ℕ). slice_get commands n ≡ Some is.turn) same is.there in
      let two : turn ≡ is.turn = cc in
      absurd (apart (ap (λ (t : Turn). t.who) two ∙ is.is))
  | inr other ↦ record { at = is.at; turn = is.turn; from = let low : k ≤ is.at = is.from in omega (arith, other); there = is.there; is = is.is }
]

pub calm_next : (a b : Part) (k : ℕ) (turn : Turn) → slice_get a.commands.items k ≡ Some turn → ChangesOnly a b turn.who → length b.engine.boxes ≡ length a.engine.boxes → b.commands ≡ a.commands → AreCalmFrom k a
    → (turn.who < length b.engine.boxes → IsCalm b turn.who) → AreCalmFrom (k + 1) b
calm_next a b k turn there only count commands calm here other inside = elim (cases_eq other turn.who) [
  | inl same ↦ inl (subst (λ (n : ℕ). IsCalm b n) (sym same) (here (subst (λ (n : ℕ). n < length b.engine.boxes) same inside)))
  | inr apart ↦ elim (calm other (subst (λ (n : ℕ). other < n) count inside)) [
    | inl was ↦ inl (calm_as a b other (only.boxes other apart) (only.shifts other apart) was)
    | inr is ↦ inr (commanded_as a b (k + 1) other commands (past_one a.commands.items k other turn there (λ same. apart (sym same)) is))
  ]
]

-- and with none left all are
pub calm_all : (a : Part) (k : ℕ) → length a.commands.items ≤ k → AreCalmFrom k a → AreCalm a
calm_all a k past calm who inside = elim (calm who inside) [
  | inl was ↦ was
  | inr is ↦ absurd (let below = slice_get_within a.commands.items is.at is.turn is.there in let low : k ≤ is.at = is.from in omega (arith, below, past))
]

-- ---- where no turn was made

no_entries : (log : List Own) (items items_2 : List Made) → items_2 ≡ items ++ map made_of log → items_2 ≡ items → log ≡ []
no_entries [] items items_2 is same = refl
no_entries (own ∷ log) items items_2 is same =
    let none : map made_of (own ∷ log) ≡ [] = append_cancel_left items (map made_of (own ∷ log)) [] (sym is ∙ (same ∙ sym (append-nil items))) in
    absurd (cc)

no_own : (log : List Own) (who : ℕ) → log ≡ [] → own_log who log ≡ []
no_own log who none = ap (λ (l : List Own). own_log who l) none

count_none : (n m : ℕ) (entries : List Entry) → entries ≡ [] → m ≡ n + count_by (λ (entry : Entry). is_shift entry.event) entries → m ≡ n
count_none n m [] is counted = counted ∙ add-zero n
count_none n m (entry ∷ entries) is counted = absurd (cc)

-- a box that made no turn stays as it is
pub stays_at : (a b : Part) (retries : ℕ → ℕ → ℕ) (runs : Runs a b retries) (who : ℕ) → own_log who runs.run.log ≡ [] → (box_at b.engine who ≡ box_at a.engine who) × (shifts_of b who ≡ shifts_of a who)
stays_at a b retries runs who none = (
  sym (by_none (own_log who runs.run.log) (box_at a.engine who) (box_at b.engine who) none (runs.run.spanned.work.made who)),
  count_none (shifts_of a who) (shifts_of b who) (own_log who runs.run.log) none (runs.run.uses who).shifts_are,
)

pub stays_idle : (a b : Part) (retries : ℕ → ℕ → ℕ) (runs : Runs a b retries) → runs.run.log ≡ [] → (who : ℕ) → (box_at b.engine who ≡ box_at a.engine who) × (shifts_of b who ≡ shifts_of a who)
stays_idle a b retries runs same who = stays_at a b retries runs who (no_own runs.run.log who same)

pub still_calm : (a b : Part) → Runs a b no_retries → b.log.items ≡ a.log.items → AreCalm a → AreCalm b
still_calm a b runs same calm who inside =
    let is = stays_idle a b no_retries runs (no_entries runs.run.log a.log.items b.log.items runs.run.logged same) who in
    calm_as a b who is.0 is.1 (calm who (subst (λ (n : ℕ). who < n) runs.run.spanned.work.box_count inside))

-- ---- commands that are left

none_first : (xs ys : List Event) → xs ++ ys ≡ [] → ys ≡ []
none_first [] ys is = is
none_first (x ∷ xs) ys is = absurd (cc)

pub none_left : (a b : Part) (retries : ℕ → ℕ → ℕ) → Runs a b retries → NoneLeft a → NoneLeft b
none_left a b retries runs none who = none_first _ (stimuli_of b who) ((runs.run.uses who).commands ∙ none who)

pub begun_on : (a b : Part) → Runs a b no_retries → HasBegun a → AreCalm b → HasBegun b
begun_on a b runs begun calm = record { left = none_left a b no_retries runs begun.left; calm = calm }

-- a log grows
grown : (log : List Own) (items items_2 : List Made) → items_2 ≡ items ++ map made_of log → length items ≤ length items_2
grown log items items_2 is =
    let long : length items_2 ≡ length items + length (map made_of log) = ap (λ (l : List Made). length l) is ∙ length-append items (map made_of log) in
    omega (arith, long)

pub runs_grow : (a b : Part) (retries : ℕ → ℕ → ℕ) → Runs a b retries → length a.log.items ≤ length b.log.items
runs_grow a b retries runs = grown runs.run.log a.log.items b.log.items runs.run.logged

-- commands are used up
nothing_after : (turns : List Turn) (n who : ℕ) → length turns ≤ n → events_for who (drop n turns) ≡ []
nothing_after turns n who past = ap (λ (l : List Turn). events_for who l) (drop_all n turns past)

pub all_used : (a : Part) → length a.commands.items ≤ a.used → NoneLeft a
all_used a past who = nothing_after a.commands.items a.used who past

-- ---- all boxes, one after another

pub every_next : (budget : ℕ) (a b : Part) (k : ℕ) → Goes budget a b → ChangesOnly a b k → ((who : ℕ) → who < k → who < length a.engine.boxes → IsCalm a who) → (k < length a.engine.boxes → IsCalm b k)
    → (who : ℕ) → who < k + 1 → who < length b.engine.boxes → IsCalm b who
every_next budget a b k goes only calm here who below inside = elim (cases_eq who k) [
  | inl same ↦ subst (λ (n : ℕ). IsCalm b n) (sym same) (here (subst (λ (n : ℕ). n < length a.engine.boxes) same (subst (λ (n : ℕ). who < n) (boxes_on budget a b goes) inside)))
  | inr apart ↦ calm_as a b who (only.boxes who apart) (only.shifts who apart) (calm who (omega (arith, apart, below)) (subst (λ (n : ℕ). who < n) (boxes_on budget a b goes) inside))
]

-- ---- what a part does after it has begun

pub begun_from : (budget : ℕ) (a b : Part) → Goes budget a b → NoneLeft a → AreCalm b → HasBegun b
begun_from budget a b goes left calm = record { left = none_left a b no_retries goes.runs left; calm = calm }

-- something was made, or nothing waits
pub tried_on : (budget : ℕ) (a b c : Part) → Goes budget a b → HasTried b c → HasTried a c
tried_on budget a b c goes (inl none) = inl none
tried_on budget a b c goes (inr more) = inr (let grows : length a.log.items ≤ length b.log.items = runs_grow a b no_retries goes.runs in omega (arith, more, grows))

pub tried_by : (rests : Bool) (budget : ℕ) (a b c : Part) → Goes budget a b → (IsTrue rests → NothingWaits c) → (IsFalse rests → length b.log.items < length c.log.items) → HasTried a c
tried_by true budget a b c goes waits made = inl (waits refl)
tried_by false budget a b c goes waits made = tried_on budget a b c goes (inr (made refl))

-- one look: what crosses, and then a batch
pub looked : (budget : ℕ) (a b c : Part) → Runs a b no_retries → IsWithin b → b.log.items ≡ a.log.items → Goes budget b c → Goes budget a c
looked budget a b c runs within log goes = goes_on budget a b c (goes_still budget a b runs within log) goes
