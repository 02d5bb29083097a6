-- The commands that are left, box by box.
use Rattle.std.proofs.Common.{◌≡◌, ◌≢◌, ℕ, zero, suc, ◌+◌, ◌<◌, ◌≤◌, ◌&&◌, ◌==◌, Bool, true, false, cond, List, [], ◌∷◌, ◌++◌, drop, length, map, nat_lt, slice_get, slice_index_or, take, Some, refl, sym, ◌∙◌, ap, append_assoc, arith}
use Rattle.std.specs.List.{AllByRecursion, list_all}
use Rattle.std.proofs.lemmas.Bool.{and_from, and_parts as and_split, eq-eqb, lt-ltb, ne_eqb}
use Rattle.std.proofs.lemmas.List.{append-nil, map_push, take_more}
use Rattle.std.proofs.lemmas.List.Elements.{filter-append}
use Rattle.std.proofs.lemmas.Option.{get_or_from_slice_get}
use Rattle.mc_box.specs.BoxEvents.{is_command, turn_of}
use Rattle.mc_box.specs.BoxShapes.{BoxShapeState, box_shape, is_enabled_by}
use Rattle.mc_box.specs.declared.event.Event.{Event}
use Rattle.mc_box.specs.declared.event.Event.TheVariants.{Take, Set, Media, Tell, Retry, Shift}
use Rattle.mc_box.specs.declared.event.Turn.{Turn}
use Rattle.mc_model.specs.Settles.{commands_of}
use Rattle.mc_model.specs.Shapes.{AreAllowed, is_allowed}
use Rattle.mc_model.specs.Worlds.{WorldState, box_at}
use Rattle.mc_phase.proofs.Allowed.{FitsShape}
use Rattle.mc_phase.specs.Left.{turns_from}

-- ---- one box

-- what a shape enables is a command
fits_command : (shape : BoxShapeState) (event : Event) → FitsShape shape event → is_command event ≡ true
fits_command shape (Take local) fits = absurd (cc)
fits_command shape (Set change) fits = refl
fits_command shape (Media change) fits = refl
fits_command shape (Tell word) fits = refl
fits_command shape (Retry local) fits = absurd (cc)
fits_command shape Shift fits = absurd (cc)

own_kept : (here : Bool) (turn : Turn) (rest all : List Turn) → here ≡ true → rest ≡ all → cond here (turn ∷ rest) rest ≡ turn ∷ all
own_kept true turn rest all own is = ap (λ (l : List Turn). turn ∷ l) is
own_kept false turn rest all own is = absurd (cc)

other_dropped : (here : Bool) (turn : Turn) (rest : List Turn) → here ≡ false → rest ≡ [] → cond here (turn ∷ rest) rest ≡ []
other_dropped true turn rest off is = absurd (cc)
other_dropped false turn rest off is = is

own_commands : (shape : BoxShapeState) (who : ℕ) (events : List Event) → AllByRecursion (FitsShape shape) events → commands_of who (map (turn_of who) events) ≡ map (turn_of who) events
own_commands shape who [] fits = refl
own_commands shape who (event ∷ events) fits =
    own_kept (is_command event && who == who) (turn_of who event) (commands_of who (map (turn_of who) events)) (map (turn_of who) events) (and_from (is_command event) (who == who) (fits_command shape event fits.0) (eq-eqb who who refl)) (own_commands shape who events fits.1)

and_no : (x y : Bool) → y ≡ false → (x && y) ≡ false
and_no true y off = off
and_no false y off = refl

other_commands : (who other : ℕ) (events : List Event) → other ≢ who → commands_of who (map (turn_of other) events) ≡ []
other_commands who other [] off = refl
other_commands who other (event ∷ events) off =
    other_dropped (is_command event && other == who) (turn_of other event) (commands_of who (map (turn_of other) events)) (and_no (is_command event) (other == who) (ne_eqb other who off)) (other_commands who other events off)

-- ---- all boxes

both_parts : (who : ℕ) (xs ys : List Turn) → commands_of who (xs ++ ys) ≡ commands_of who xs ++ commands_of who ys
both_parts who xs ys = filter-append (λ (turn : Turn). is_command turn.event && turn.who == who) xs ys

-- none of a box before the first
pub none_before : (from who : ℕ) (lists : List (List Event)) → who < from → commands_of who (turns_from from lists) ≡ []
none_before from who [] below = refl
none_before from who (events ∷ lists) below =
    both_parts who (map (turn_of from) events) (turns_from (from + 1) lists)
    ∙ (ap (λ (l : List Turn). l ++ commands_of who (turns_from (from + 1) lists)) (other_commands who from events (λ same. omega (arith, same, below))) ∙ none_before (from + 1) who lists (omega (arith, below)))

-- of each the shape of the box enables what is left to it
abbrev pub FitAll : (ℕ → BoxShapeState) → ℕ → List (List Event) → Type 0
FitAll shapes from [] = Unit {0}
FitAll shapes from (events ∷ lists) = AllByRecursion (FitsShape (shapes from)) events × FitAll shapes (from + 1) lists

pub left_of : (shapes : ℕ → BoxShapeState) (from k who : ℕ) (lists : List (List Event)) → FitAll shapes from lists → who ≡ from + k → commands_of who (turns_from from lists) ≡ map (turn_of who) (slice_index_or lists k [])
left_of shapes from k who [] fit is = refl
left_of shapes from zero who (events ∷ lists) fit is =
    let here : from ≡ who = omega (arith, is) in
    both_parts who (map (turn_of from) events) (turns_from (from + 1) lists)
    ∙ (ap (λ (l : List Turn). commands_of who (map (turn_of from) events) ++ l) (none_before (from + 1) who lists (omega (arith, is)))
    ∙ (append-nil (commands_of who (map (turn_of from) events))
    ∙ (ap (λ (n : ℕ). commands_of who (map (turn_of n) events)) here ∙ own_commands (shapes from) who events fit.0)))
left_of shapes from (suc k) who (events ∷ lists) fit is =
    both_parts who (map (turn_of from) events) (turns_from (from + 1) lists)
    ∙ (ap (λ (l : List Turn). l ++ commands_of who (turns_from (from + 1) lists)) (other_commands who from events (λ same. omega (arith, same, is))) ∙ left_of shapes (from + 1) k who lists fit.1 (omega (arith, is)))

-- and a world of such boxes allows it
all_of : (test : Turn → Bool) (xs ys : List Turn) → list_all test xs ≡ true → list_all test ys ≡ true → list_all test (xs ++ ys) ≡ true
all_of test [] ys one two = two
all_of test (x ∷ xs) ys one two = let parts = and_split (test x) (list_all test xs) one in and_from (test x) (list_all test (xs ++ ys)) parts.0 (all_of test xs ys parts.1 two)

allowed_here : (world : WorldState) (who : ℕ) (events : List Event) → who < length world.boxes → AllByRecursion (FitsShape (box_shape (box_at world who))) events → list_all (is_allowed world) (map (turn_of who) events) ≡ true
allowed_here world who [] within fits = refl
allowed_here world who (event ∷ events) within fits =
    and_from (is_allowed world (turn_of who event)) (list_all (is_allowed world) (map (turn_of who) events))
    (and_from (nat_lt who (length world.boxes)) (is_enabled_by (box_shape (box_at world who)) event) (lt-ltb who (length world.boxes) within) fits.0) (allowed_here world who events within fits.1)

pub left_allowed : (world : WorldState) (from : ℕ) (lists : List (List Event)) → from + length lists ≤ length world.boxes → FitAll (λ (n : ℕ). box_shape (box_at world n)) from lists → AreAllowed world (turns_from from lists)
left_allowed world from [] few fit = refl
left_allowed world from (events ∷ lists) few fit =
    all_of (is_allowed world) (map (turn_of from) events) (turns_from (from + 1) lists) (allowed_here world from events (omega (arith, few)) fit.0) (left_allowed world (from + 1) lists (omega (arith, few)) fit.1)

-- ---- one by one

-- the first of those from a place on
pub drop_at : {A : Type 0} (xs : List A) (k : ℕ) (x : A) → slice_get xs k ≡ Some x → drop k xs ≡ x ∷ drop (k + 1) xs
drop_at [] k x at = absurd (cc)
drop_at (y ∷ xs) zero x at = let same : y ≡ x = cc in ap (λ z. z ∷ xs) same
drop_at (y ∷ xs) (suc k) x at = let e : suc (k + 1) ≡ suc k + 1 = omega arith in drop_at xs k x at ∙ ap (λ (n : ℕ). x ∷ drop n (y ∷ xs)) e

-- the turns of one box more
pub left_more : (from : ℕ) (so_far more : List Turn) (events : List Event) (rest next : List (List Event)) (all : List Turn) → so_far ++ turns_from from rest ≡ all → rest ≡ events ∷ next → more ≡ so_far ++ map (turn_of from) events → more ++ turns_from (from + 1) next ≡ all
left_more from so_far more events rest next all is first grown =
    ap (λ (l : List Turn). l ++ turns_from (from + 1) next) grown ∙ (append_assoc so_far (map (turn_of from) events) (turns_from (from + 1) next) ∙ (ap (λ (l : List (List Event)). so_far ++ turns_from from l) (sym first) ∙ is))

-- one turn more
pub turn_more : (who : ℕ) (old now more : List Turn) (events : List Event) (at : ℕ) (event : Event) → now ≡ old ++ map (turn_of who) (take at events) → at < length events → slice_get events at ≡ Some event → more ≡ now ++ turn_of who event ∷ [] → more ≡ old ++ map (turn_of who) (take (at + 1) events)
turn_more who old now more events at event is below there grown =
    grown ∙ (ap (λ (l : List Turn). l ++ turn_of who event ∷ []) is
    ∙ (append_assoc old (map (turn_of who) (take at events)) (turn_of who event ∷ [])
    ∙ ap (λ (l : List Turn). old ++ l) (sym (map_push (turn_of who) (take at events) event)
    ∙ ap (λ (l : List Event). map (turn_of who) l) (sym (take_more events at event below ∙ ap (λ (e : Event). take at events ++ e ∷ []) (get_or_from_slice_get events at event event there))))))
