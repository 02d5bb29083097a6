-- Nothing is under way where no signal waits that a slot can take.
use Rattle.std.proofs.Common.{◌≡◌, ◌<◌, ◌≤◌, ◌+◌, ◌==◌, ℕ, zero, suc, Bool, true, false, Option, Some, None, List, [], ◌∷◌, length, sum, refl, ap, sym, ◌∙◌, arith}
use Rattle.std.specs.List.{list_all}
use Rattle.std.specs.Option.{is_some, option_and_then}
use Rattle.std.proofs.Math.ListN.{get_or}
use Rattle.std.proofs.lemmas.Grind.{common_steps}
use Rattle.mc_signal.specs.declared.Signal.{Signal}
use Rattle.mc_signal.specs.declared.Tagged.{Tagged}
use Rattle.mc_laws.proofs.Sums.{total_has}
use Rattle.mc_model.specs.Settles.{is_empty, is_quiet}
use Rattle.mc_model.specs.Sound.{IsSound}
use Rattle.mc_model.specs.Worlds.{WorldState, box_at, front, front_for, lane_of, number, place, slot_count, tunnel_of}
use Rattle.mc_seq.proofs.Fronts.{none_quiet}
use Rattle.mc_slot_laws.proofs.Sums.{total_none}
use Rattle.mc_world.specs.Waiting.{CountsTakes, bit, take_waits, waiting_count}

-- ---- a sum that is 0

pub sum_first : (x : ℕ) (xs : List ℕ) → sum (x ∷ xs) ≡ x + sum xs
sum_first x xs = grind (arith, common_steps)

pub sum_zero : (xs : List ℕ) (t : ℕ) → sum xs ≡ 0 → get_or xs t 0 ≡ 0
sum_zero [] t none = refl
sum_zero (x ∷ xs) zero none = omega (arith, sum_first x xs, none)
sum_zero (x ∷ xs) (suc t) none = sum_zero xs t (omega (arith, sum_first x xs, none))

pub zero_sum : (xs : List ℕ) → ((t : ℕ) → t < length xs → get_or xs t 0 ≡ 0) → sum xs ≡ 0
zero_sum [] none = refl
zero_sum (x ∷ xs) none = omega (arith, sum_first x xs, none 0 (omega arith), zero_sum xs (λ t below. none (suc t) (omega arith)))

-- ---- where no signal waits

pub bit_none : (b : Bool) → bit b ≡ 0 → b ≡ false
bit_none true is = absurd (omega (arith, is))
bit_none false is = refl

pub no_value : (o : Option Signal) → is_some o ≡ false → o ≡ None
no_value None is = refl
no_value (Some x) is = absurd (cc)

pub front_none : (world : WorldState) (counts : List ℕ) (s : ℕ) → IsSound world → CountsTakes world counts → sum counts ≡ 0 → s < slot_count world → front world s ≡ None
front_none world counts s sound takes none inside =
    let who : ℕ = (place world s).0 in
    let local : ℕ = (place world s).1 in
    let count : waiting_count world who (length (box_at world who).slots) ≡ 0 = sym (takes.each who (sound.numbered.placed s inside)) ∙ sum_zero counts who none in
    let has : bit (take_waits world who local) ≤ waiting_count world who (length (box_at world who).slots)
    = total_has (λ (l : ℕ). bit (take_waits world who l)) (length (box_at world who).slots) local (sound.numbered.slots s inside) in
    let not_waiting : take_waits world who local ≡ false = bit_none (take_waits world who local) (omega (arith, count, has)) in
    no_value (front world s) (ap (λ (o : Option ℕ). is_some (option_and_then (front world) o)) (sym (sound.numbered.once s inside)) ∙ not_waiting)

-- ---- where nothing is under way

pub empty_is : (lane : List Tagged) → is_empty lane ≡ true → lane ≡ []
empty_is [] is = refl
empty_is (tagged ∷ rest) is = absurd (cc)

pub lane_none : (lanes : List (List Tagged)) (lane : ℕ) → list_all is_empty lanes ≡ true → get_or lanes lane [] ≡ []
lane_none [] lane all = refl
lane_none (first ∷ lanes) zero all = empty_is first (grind (arith, common_steps))
lane_none (first ∷ lanes) (suc lane) all = lane_none lanes lane (grind (arith, common_steps))

pub quiet_front : (world : WorldState) (s : ℕ) → is_quiet world ≡ true → front world s ≡ None
quiet_front world s quiet = ap (front_for (tunnel_of world s).within) (lane_none world.lanes (lane_of world s) quiet)

pub waits_by : (o : Option ℕ) (world : WorldState) → is_quiet world ≡ true → is_some (option_and_then (front world) o) ≡ false
waits_by None world quiet = refl
waits_by (Some s) world quiet = ap is_some (quiet_front world s quiet)

pub quiet_none : (world : WorldState) (counts : List ℕ) → CountsTakes world counts → is_quiet world ≡ true → sum counts ≡ 0
quiet_none world counts takes quiet =
    zero_sum counts (λ who below.
    let inside : who < length world.boxes = omega (arith, takes.long, below) in
    takes.each who inside
    ∙ total_none (λ (local : ℕ). bit (take_waits world who local)) (length (box_at world who).slots) (λ local within. ap bit (waits_by (number world who local) world quiet)))

-- ---- both

pub same_test : (n : ℕ) (b : Bool) → (n ≡ 0 → b ≡ true) → (b ≡ true → n ≡ 0) → (n == 0) ≡ b
same_test zero true forth back = refl
same_test zero false forth back = sym (forth refl)
same_test (suc n) true forth back = absurd (let none = back refl in omega (arith, none))
same_test (suc n) false forth back = grind (arith, common_steps)

pub takes_quiet : (world : WorldState) (counts : List ℕ) → IsSound world → CountsTakes world counts → (sum counts == 0) ≡ is_quiet world
takes_quiet world counts sound takes =
    same_test (sum counts) (is_quiet world) (λ none. none_quiet world sound (λ s inside. front_none world counts s sound takes none inside)) (λ quiet. quiet_none world counts takes quiet)
