-- Lists whose elements at one place belong together.
use Rattle.std.specs.Prelude.{List, [], ◌∷◌}

-- R holds of the elements at each place, and the three lists are as long
abbrev pub AllThree : {A B C : Type 0} → (A → B → C → Type 0) → List A → List B → List C → Type 0
AllThree R [] [] [] = Unit {0}
AllThree R (x ∷ xs) (y ∷ ys) (z ∷ zs) = R x y z × AllThree R xs ys zs
AllThree R xs ys zs = ⊥
