-- What is noted of a turn is what the definition says.
use Rattle.std.proofs.Common.{◌≡◌, ◌≤◌, ◌+◌, ◌++◌, ℕ, zero, suc, Option, Some, None, List, [], ◌∷◌, length, get_or, refl, ap, sym, ◌∙◌, arith}
use Rattle.std.specs.List.{last_or}
use Rattle.std.specs.Prelude.{replicate}
use Rattle.mc_slot.specs.Outlook.{waits}
use Rattle.mc_slot.specs.declared.State.{State}
use Rattle.mc_slot.specs.declared.State.TheVariants.{Closed, Opening, Opened, Flowing, Closing}
use Rattle.mc_cause.specs.Carried.{carried_in, noted}

-- ---- the last of a list

last_all : (n x : ℕ) → last_or (Some x) (replicate n x) ≡ Some x
last_all zero x = refl
last_all (suc n) x = last_all n x

last_append : (xs ys : List ℕ) (o : Option ℕ) → last_or o (xs ++ ys) ≡ last_or (last_or o xs) ys
last_append [] ys o = refl
last_append (x ∷ xs) ys o = last_append xs ys (Some x)

last_from : (xs : List ℕ) (x : ℕ) → (y : ℕ) × (last_or (Some x) xs ≡ Some y)
last_from [] x = (x, refl)
last_from (y ∷ xs) x = last_from xs y

pub last_some : (xs : List ℕ) → 1 ≤ length xs → (y : ℕ) × (last_or None xs ≡ Some y)
last_some [] some = absurd (omega arith)
last_some (x ∷ xs) some = last_from xs x

pub last_at : (xs : List ℕ) (o : Option ℕ) (k : ℕ) → k + 1 ≡ length xs → last_or o xs ≡ Some (get_or xs k 0)
last_at [] o k is = absurd (omega arith)
last_at (x ∷ []) o zero is = refl
last_at (x ∷ []) o (suc k) is = absurd (omega arith)
last_at (x ∷ y ∷ xs) o zero is = absurd (omega arith)
last_at (x ∷ y ∷ xs) o (suc k) is = last_at (y ∷ xs) (Some x) k (omega arith)

-- ---- what one slot carries

pub carried_none : (state : State) (o : Option ℕ) → waits state ≡ 0 → carried_in state o ≡ None
carried_none Closed o is = refl
carried_none Opening o is = refl
carried_none Opened o is = refl
carried_none Flowing o is = refl
carried_none Closing o is = absurd (omega arith)

pub carried_some : (state : State) (o : Option ℕ) → 1 ≤ waits state → carried_in state o ≡ o
carried_some Closing o some = refl
carried_some Closed o some = absurd (omega arith)
carried_some Opening o some = absurd (omega arith)
carried_some Opened o some = absurd (omega arith)
carried_some Flowing o some = absurd (omega arith)

-- where none is sent, it is what it was
waited_still : (state : State) (origins : List ℕ) (number : ℕ) (old new : Option ℕ) → 1 ≤ waits state → (1 ≤ waits state → 1 ≤ length origins) → old ≡ carried_in state (last_or None origins)
    → new ≡ noted Closing old number → new ≡ last_or None origins
waited_still state origins number old new here some was is =
    let last = last_some origins (some here) in
    let old_is : old ≡ Some last.0 = was ∙ (carried_some state (last_or None origins) here ∙ last.1) in
    is ∙ (ap (λ (o : Option ℕ). noted Closing o number) old_is ∙ sym last.1)

-- a slot of which something is noted: where it sends a close, that is of this number
pub slot_noted : (new_state state : State) (m number from : ℕ) (origins : List ℕ) (old new : Option ℕ) → m + waits state ≡ waits new_state → (1 ≤ m → number ≡ from)
    → (1 ≤ waits state → 1 ≤ length origins) → old ≡ carried_in state (last_or None origins) → new ≡ noted new_state old number
    → new ≡ carried_in new_state (last_or None (origins ++ replicate m from))
slot_noted Closing state zero number from origins old new counts same some was is =
    let waited : 1 ≤ waits state = omega arith in
    waited_still state origins number old new waited some was is ∙ sym (last_append origins [] None)
slot_noted Closing state (suc m) number from origins old new counts same some was is =
    let none : waits state ≡ 0 = omega arith in
    let is_from : number ≡ from = same (omega arith) in
    is
    ∙ (ap (λ (o : Option ℕ). noted Closing o number) (was ∙ carried_none state (last_or None origins) none)
    ∙ (ap Some is_from ∙ (sym (last_all m from) ∙ sym (last_append origins (replicate (suc m) from) None))))
slot_noted Closed state m number from origins old new counts same some was is = is
slot_noted Opening state m number from origins old new counts same some was is = is
slot_noted Opened state m number from origins old new counts same some was is = is
slot_noted Flowing state m number from origins old new counts same some was is = is

carried_alike : (new_state state : State) (o : Option ℕ) → waits state ≡ waits new_state → carried_in state o ≡ carried_in new_state o
carried_alike Closing state o same = carried_some state o (omega arith)
carried_alike Closed state o same = carried_none state o same
carried_alike Opening state o same = carried_none state o same
carried_alike Opened state o same = carried_none state o same
carried_alike Flowing state o same = carried_none state o same

-- a slot that neither sends a close nor takes its closeack
pub slot_untouched : (new_state state : State) (m ack origin : ℕ) (origins : List ℕ) (old new : Option ℕ) → m ≡ 0 → ack ≡ 0 → m + waits state ≡ ack + waits new_state
    → old ≡ carried_in state (last_or None origins) → new ≡ old → new ≡ carried_in new_state (last_or None (origins ++ replicate m origin))
slot_untouched new_state state m ack origin origins old new none no_ack counts was is =
    let same : waits state ≡ waits new_state = omega arith in
    is ∙ (was ∙ (carried_alike new_state state (last_or None origins) same
    ∙ ap (carried_in new_state) (sym (ap (λ (n : ℕ). last_or None (origins ++ replicate n origin)) none ∙ last_append origins [] None))))
