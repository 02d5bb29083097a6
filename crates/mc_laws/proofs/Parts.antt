-- Of what a box sends, by whichever of its slots, the part of each slot.
use Rattle.std.proofs.Common.{◌≡◌, ◌≢◌, ◌==◌, ◌++◌, if◌then◌else◌, inl, inr, ℕ, Bool, true, false, List, [], ◌∷◌, refl, sym, ◌∙◌, arith}
use Rattle.std.proofs.lemmas.Bool.{cases_eq}
use Rattle.std.proofs.lemmas.Grind.{common_steps}
use Rattle.mc_signal.specs.declared.Signal.{Signal}
use Rattle.mc_box.specs.Acting.{sent_by}

-- ---- by the slot's local number

next_own : (local : ℕ) (sending : ℕ × Signal) (rest : List (ℕ × Signal)) → sending.0 ≡ local → sent_by local (sending ∷ rest) ≡ sending.1 ∷ sent_by local rest
next_own local sending rest is = grind (arith, common_steps)

next_other : (local : ℕ) (sending : ℕ × Signal) (rest : List (ℕ × Signal)) → sending.0 ≢ local → sent_by local (sending ∷ rest) ≡ sent_by local rest
next_other local sending rest other = grind (arith, common_steps)

-- ---- by its box and local number

-- what the slot of a box and a local number sends, of what box `who` sends
abbrev pub part_of : ℕ → ℕ × ℕ → List (ℕ × Signal) → List Signal
part_of who place sendings = if place.0 == who then sent_by place.1 sendings else []

pub part_own : (who : ℕ) (place : ℕ × ℕ) (sendings : List (ℕ × Signal)) → place.0 ≡ who → part_of who place sendings ≡ sent_by place.1 sendings
part_own who place sendings is = grind (arith, common_steps)

pub part_other : (who : ℕ) (place : ℕ × ℕ) (sendings : List (ℕ × Signal)) → place.0 ≢ who → part_of who place sendings ≡ []
part_other who place sendings other = grind (arith, common_steps)

pub part_none : (who : ℕ) (place : ℕ × ℕ) → part_of who place [] ≡ []
part_none who place = elim (cases_eq place.0 who) [
  | inl is ↦ part_own who place [] is
  | inr other ↦ part_other who place [] other
]

-- a sending of the slot
pub part_here : (who : ℕ) (place : ℕ × ℕ) (sending : ℕ × Signal) → place.0 ≡ who → place.1 ≡ sending.0 → part_of who place (sending ∷ []) ≡ sending.1 ∷ []
part_here who place sending is local = part_own who place (sending ∷ []) is ∙ next_own place.1 sending [] (sym local)

-- and of another
pub part_else : (who : ℕ) (place : ℕ × ℕ) (sending : ℕ × Signal) → (place.0 ≡ who → place.1 ≢ sending.0) → part_of who place (sending ∷ []) ≡ []
part_else who place sending apart = elim (cases_eq place.0 who) [
  | inl is ↦ part_own who place (sending ∷ []) is ∙ next_other place.1 sending [] (λ same. apart is (sym same))
  | inr other ↦ part_other who place (sending ∷ []) other
]

more_by : (here : Bool) (signal : Signal) (rest : List Signal) → (if here then signal ∷ rest else rest) ≡ (if here then signal ∷ [] else []) ++ rest
more_by true signal rest = refl
more_by false signal rest = refl

-- a sending, and those after it
pub part_more : (who : ℕ) (place : ℕ × ℕ) (sending : ℕ × Signal) (rest : List (ℕ × Signal)) → part_of who place (sending ∷ rest) ≡ part_of who place (sending ∷ []) ++ part_of who place rest
part_more who place sending rest = elim (cases_eq place.0 who) [
  | inl is ↦ rw (part_own who place (sending ∷ rest) is, part_own who place (sending ∷ []) is, part_own who place rest is) (more_by (sending.0 == place.1) sending.1 (sent_by place.1 rest))
  | inr other ↦ rw (part_other who place (sending ∷ rest) other, part_other who place (sending ∷ []) other, part_other who place rest other) refl
]
