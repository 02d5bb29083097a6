-- Each candidate is the next command of its box, a Take of a signal that waits, or a Shift; and where there is none, the batch is used up and nothing is under way.
use Rattle.std.proofs.Common.{◌≡◌, ◌<◌, ◌==◌, ◌&&◌, ◌++◌, ◌⊎◌, inl, inr, cond, if◌then◌else◌, nat_lt, ℕ, Bool, true, false, List, [], ◌∷◌, All, length, slice_get, Option, Some, None, IsTrue, IsSome, refl, ap, sym, ◌∙◌, subst, arith}
use Rattle.std.specs.Prelude.{slice_index_or}
use Rattle.std.specs.List.{find, list_all}
use Rattle.std.specs.Option.{is_some, option_and_then, option_to_list}
use Rattle.std.proofs.lemmas.Bool.{and_parts}
use Rattle.std.proofs.lemmas.Grind.{common_steps}
use Rattle.std.proofs.lemmas.List.Elements.{All-append}
use Rattle.std.proofs.lemmas.Option.{slice_get_within, get_or_from_slice_get}
use Rattle.mc_signal.specs.declared.Signal.{Signal}
use Rattle.mc_box.specs.BoxEvents.{is_enabled}
use Rattle.mc_box.specs.declared.event.Event.TheVariants.{Shift, Take}
use Rattle.mc_box.specs.declared.event.Turn.{Turn}
use Rattle.mc_laws.proofs.CommandsGo.{allowed_parts, enabled_goes}
use Rattle.mc_model.specs.Shapes.{is_allowed, AreAllowed}
use Rattle.mc_model.specs.Settles.{is_quiet}
use Rattle.mc_model.specs.Sound.{IsSound}
use Rattle.mc_model.specs.Steps.{step}
use Rattle.mc_model.specs.Worlds.{WorldState, box_at, front, number, place, slot_count}
use Rattle.mc_laws.proofs.Numbers.{box_inside, number_is}
use Rattle.mc_box.proofs.Options.{then_some}
use Rattle.mc_laws.proofs.StepGoes.{below_test, front_step_goes, some_of}
use Rattle.mc_seq.specs.Schedule.{ScheduleState, candidates, drawn_turn, drawn_place, commands_only, all_candidates, next_of, candidates_of, may_shift, shift_of, shift_turn, take_turn, waiting_take, takes_of}
use Rattle.mc_world.specs.Waiting.{take_waits}
use Rattle.mc_seq.proofs.ForEach.{append_none, each_all, each_none, none_all, one_all}
use Rattle.mc_seq.proofs.Fronts.{none_quiet}

-- ---- what is listed

-- a Take of a signal that waits
pub record IsTake (world : WorldState) (turn : Turn) : Type 0 where
  pub local : ℕ
  pub event : turn.event ≡ Take local
  pub waiting : take_waits world turn.who local ≡ true

-- the Shift of a box that may make one
pub record IsShift (world : WorldState) (shifts : List ℕ) (turn : Turn) : Type 0 where
  pub event : turn.event ≡ Shift
  pub inside : turn.who < length world.boxes
  pub may : may_shift world shifts turn.who ≡ true

-- one of the two
abbrev pub IsTakeOrShift : WorldState → (shifts : List ℕ) → Turn → Type 0
IsTakeOrShift world shifts turn = IsTake world turn ⊎ IsShift world shifts turn

-- what a listed turn is: the next command of its box, or, where not only commands are listed, a Take that waits or a Shift
abbrev pub IsListed : WorldState → List Turn → (shifts : List ℕ) → Bool → Turn → Type 0
IsListed world left shifts only_commands turn = (next_of turn.who left ≡ Some turn) ⊎ ((only_commands ≡ false) × IsTakeOrShift world shifts turn)

-- what is found passes the test
found_by : (b : Bool) (p : Turn → Bool) (t x : Turn) (later : Option Turn) → p t ≡ b → cond b (Some t) later ≡ Some x → (later ≡ Some x → p x ≡ true) → p x ≡ true
found_by true p t x later is found rest = let same : t ≡ x = cc in subst (λ (y : Turn). p y ≡ true) same is
found_by false p t x later is found rest = rest found

-- what is found passes the test
pub found_passes : (p : Turn → Bool) (xs : List Turn) (x : Turn) → find p xs ≡ Some x → p x ≡ true
found_passes p [] x found = absurd (cc)
found_passes p (t ∷ xs) x found = found_by (p t) p t x (find p xs) refl found (found_passes p xs x)

-- numbers that pass the test are equal
same_number : (a b : ℕ) → (a == b) ≡ true → a ≡ b
same_number a b is = grind (arith, common_steps)

-- the next command of a box is that box's
pub next_who : (who : ℕ) (left : List Turn) (turn : Turn) → next_of who left ≡ Some turn → turn.who ≡ who
next_who who left turn found = same_number turn.who who (found_passes (λ (t : Turn). t.who == who) left turn found)

-- what holds of the value of an option holds of its list
option_all : (P : Turn → Type 0) (o : Option Turn) → ((x : Turn) → o ≡ Some x → P x) → All P (option_to_list o)
option_all P None all = none_all P
option_all P (Some x) all = one_all P x (all x refl)

-- the Take of a slot is listed where its signal waits
where_by : (there : Bool) (world : WorldState) (left : List Turn) (shifts : List ℕ) (who local : ℕ) → take_waits world who local ≡ there → All (IsListed world left shifts false) (if there then take_turn who local ∷ [] else [])
where_by true world left shifts who local is = one_all (IsListed world left shifts false) (take_turn who local) (inr (refl, inl (record { local = local; event = refl; waiting = is })))
where_by false world left shifts who local is = none_all (IsListed world left shifts false)

-- and the Shift of a box where it may make one
shift_by : (may : Bool) (world : WorldState) (left : List Turn) (shifts : List ℕ) (who : ℕ) → who < length world.boxes → may_shift world shifts who ≡ may → All (IsListed world left shifts false) (if may then shift_turn who ∷ [] else [])
shift_by true world left shifts who inside is = one_all (IsListed world left shifts false) (shift_turn who) (inr (refl, inr (record { event = refl; inside = inside; may = is })))
shift_by false world left shifts who inside is = none_all (IsListed world left shifts false)

-- so are the Takes and the Shift of a box
takes_by : (only_commands : Bool) (world : WorldState) (left : List Turn) (shifts : List ℕ) (who : ℕ) → who < length world.boxes → All (IsListed world left shifts only_commands) (if only_commands then [] else takes_of world who ++ shift_of world shifts who)
takes_by true world left shifts who inside = none_all (IsListed world left shifts true)
takes_by false world left shifts who inside =
    All-append (IsListed world left shifts false) (takes_of world who) (shift_of world shifts who)
    (each_all (IsListed world left shifts false) (waiting_take world who) (length (box_at world who).slots) (λ local below. where_by (take_waits world who local) world left shifts who local refl))
    (shift_by (may_shift world shifts who) world left shifts who inside refl)

-- each candidate of a box is listed
box_listed : (world : WorldState) (left : List Turn) (shifts : List ℕ) (only_commands : Bool) (who : ℕ) → who < length world.boxes → All (IsListed world left shifts only_commands) (candidates_of world left shifts only_commands who)
box_listed world left shifts only_commands who inside =
    All-append (IsListed world left shifts only_commands) (option_to_list (next_of who left)) (if only_commands then [] else takes_of world who ++ shift_of world shifts who)
    (option_all (IsListed world left shifts only_commands) (next_of who left) (λ turn is. inl (ap (λ (w : ℕ). next_of w left) (next_who who left turn is) ∙ is)))
    (takes_by only_commands world left shifts who inside)

-- and so is each candidate of all boxes
pub all_listed : (world : WorldState) (left : List Turn) (shifts : List ℕ) (only_commands : Bool) → All (IsListed world left shifts only_commands) (all_candidates world left shifts only_commands)
all_listed world left shifts only_commands = each_all (IsListed world left shifts only_commands) (candidates_of world left shifts only_commands) (length world.boxes) (λ who below. box_listed world left shifts only_commands who below)

-- what holds of all holds of the one at a place
got_all : (P : Turn → Type 0) (xs : List Turn) (k : ℕ) (x : Turn) → All P xs → slice_get xs k ≡ Some x → P x
got_all P xs k x all got = subst P (get_or_from_slice_get xs k x x got) (all k x (slice_get_within xs k x got))

-- so is the one that is drawn
pub drawn_listed : (now : ScheduleState) (turn : Turn) → drawn_turn now ≡ Some turn → IsListed now.world now.left now.shifts (commands_only now.left now.since) turn
drawn_listed now turn is =
    got_all (IsListed now.world now.left now.shifts (commands_only now.left now.since)) (candidates now) (drawn_place now.draws (length (candidates now))) turn
    (all_listed now.world now.left now.shifts (commands_only now.left now.since)) is

-- ---- a Take goes

-- a waiting Take can happen: by the slot's number
take_by : (world : WorldState) (who local s : ℕ) (signal : Signal) → IsSound world → number world who local ≡ Some s → front world s ≡ Some signal → IsSome (step world (take_turn who local))
take_by world who local s signal sound numbered fronts =
    let at = number_is world who local s numbered in
    let goes = front_step_goes world s signal sound at.0 fronts in
    subst (λ (l : ℕ). IsSome (step world (take_turn who l))) at.2
    (subst (λ (w : ℕ). IsSome (step world (take_turn w (place world s).1))) at.1 goes)

-- by its box and local number
pub wait_goes : (world : WorldState) (who local : ℕ) → IsSound world → take_waits world who local ≡ true → IsSome (step world (take_turn who local))
wait_goes world who local sound waiting =
    let signal = some_of (option_and_then (front world) (number world who local)) waiting in
    let parts = then_some (front world) (number world who local) signal.0 signal.1 in
    take_by world who local parts.0 signal.0 sound parts.1 parts.2

-- a Take, as it is written
pub take_same : (turn : Turn) (local : ℕ) → turn.event ≡ Take local → take_turn turn.who local ≡ turn
take_same turn local is = ap (λ e. let t : Turn = record { who = turn.who; event = e } in t) (sym is)

-- and as a turn
pub take_goes : (world : WorldState) (turn : Turn) → IsSound world → IsTake world turn → IsSome (step world turn)
take_goes world turn sound take = subst (λ (t : Turn). IsSome (step world t)) (take_same turn take.local take.event) (wait_goes world turn.who take.local sound take.waiting)

-- a Shift, as it is written
pub shift_same : (turn : Turn) → turn.event ≡ Shift → shift_turn turn.who ≡ turn
shift_same turn is = ap (λ e. let t : Turn = record { who = turn.who; event = e } in t) (sym is)

-- can happen, too
pub shift_goes : (world : WorldState) (shifts : List ℕ) (turn : Turn) → IsSound world → IsShift world shifts turn → IsSome (step world turn)
shift_goes world shifts turn sound shift =
    subst (λ (t : Turn). IsSome (step world t)) (shift_same turn shift.event)
    (enabled_goes world turn.who Shift sound (below_test turn.who (length world.boxes) shift.inside)
    (and_parts (nat_lt 0 (slice_index_or shifts turn.who 0)) (is_enabled (box_at world turn.who) Shift) shift.may).1 refl refl)

-- ---- nothing is listed

-- a number passes its own test
self_test : (a : ℕ) → (a == a) ≡ true
self_test a = grind (arith, common_steps)

-- a box's first command is listed
first_by : (b : Bool) (t : Turn) (later : Option Turn) → b ≡ true → option_to_list (cond b (Some t) later) ≡ [] → ⊥
first_by true t later is none = cc
first_by false t later is none = cc

-- each command that is left is listed with its box
pub none_left : (world : WorldState) (left : List Turn) (shifts : List ℕ) (only_commands : Bool) → AreAllowed world left → all_candidates world left shifts only_commands ≡ [] → left ≡ []
none_left world [] shifts only_commands allowed none = refl
none_left world (turn ∷ left) shifts only_commands allowed none =
    let parts = and_parts (is_allowed world turn) (list_all (is_allowed world) left) allowed in
    let inside = box_inside world turn.who (allowed_parts world turn parts.0).below in
    let box = each_none (candidates_of world (turn ∷ left) shifts only_commands) (length world.boxes) turn.who none inside in
    let next = (append_none (option_to_list (next_of turn.who (turn ∷ left))) (if only_commands then [] else takes_of world turn.who ++ shift_of world shifts turn.who) box).0 in
    absurd (first_by (turn.who == turn.who) turn (find (λ t. t.who == turn.who) left) (self_test turn.who) next)

-- where no Take is listed none waits
unlisted_by : (there : Bool) (who local : ℕ) → (if there then take_turn who local ∷ [] else []) ≡ [] → there ≡ false
unlisted_by true who local none = absurd (cc)
unlisted_by false who local none = refl

-- an option that is no value is none
no_front : (o : Option Signal) → is_some o ≡ false → o ≡ None
no_front None is = refl
no_front (Some x) is = absurd (cc)

-- where the batch is used up, and nothing is listed, no box has a Take or may make a Shift
none_of : (world : WorldState) (shifts : List ℕ) → all_candidates world [] shifts false ≡ [] → (who : ℕ) → who < length world.boxes → (takes_of world who ≡ []) × (shift_of world shifts who ≡ [])
none_of world shifts none who inside = append_none (takes_of world who) (shift_of world shifts who) (each_none (candidates_of world [] shifts false) (length world.boxes) who none inside)

-- so no slot can take its front
none_waits : (world : WorldState) (shifts : List ℕ) → IsSound world → all_candidates world [] shifts false ≡ [] → (s : ℕ) → s < slot_count world → front world s ≡ None
none_waits world shifts sound none s inside =
    let who : ℕ = (place world s).0 in
    let local : ℕ = (place world s).1 in
    let takes : takes_of world who ≡ [] = (none_of world shifts none who (sound.numbered.placed s inside)).0 in
    let take : waiting_take world who local ≡ [] = each_none (waiting_take world who) (length (box_at world who).slots) local takes (sound.numbered.slots s inside) in
    let waiting : take_waits world who local ≡ false = unlisted_by (take_waits world who local) who local take in
    no_front (front world s) (ap (λ (o : Option ℕ). is_some (option_and_then (front world) o)) (sym (sound.numbered.once s inside)) ∙ waiting)

-- where nothing is listed nothing is under way
pub listed_quiet : (world : WorldState) (shifts : List ℕ) → IsSound world → all_candidates world [] shifts false ≡ [] → IsTrue (is_quiet world)
listed_quiet world shifts sound none = none_quiet world sound (none_waits world shifts sound none)

-- and a box that has an enabled transition has made all its Shifts
spent_by : (spare enabled : Bool) (who : ℕ) → (if spare && enabled then shift_turn who ∷ [] else []) ≡ [] → enabled ≡ true → spare ≡ false
spent_by true true who none is = absurd (cc)
spent_by false enabled who none is = refl
spent_by true false who none is = absurd (cc)

not_below : (n : ℕ) → nat_lt 0 n ≡ false → n ≡ 0
not_below n is = grind (arith, common_steps)

pub listed_spent : (world : WorldState) (shifts : List ℕ) (who : ℕ) → all_candidates world [] shifts false ≡ [] → who < length world.boxes → is_enabled (box_at world who) Shift ≡ true → slice_index_or shifts who 0 ≡ 0
listed_spent world shifts who none inside can =
    not_below (slice_index_or shifts who 0)
    (spent_by (nat_lt 0 (slice_index_or shifts who 0)) (is_enabled (box_at world who) Shift) who (none_of world shifts none who inside).1 can)
