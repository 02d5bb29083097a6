-- The line that tells which features there are, put together.
use Rattle.std.proofs.Common.{◌≡◌, ◌++◌, ◌∷◌, ◌∙◌, [], ℕ, Bool, List, true, ap, append_assoc, append-nil, codes, flat_map, if◌then◌else◌, refl, sym}
use Rattle.mc_explain.specs.Explained.{features_told, no_box}
use Rattle.mc_explain.specs.Quotes.{told_line}
use Rattle.mc_text.specs.Lines.{has_bytes}

joined : (out head names : List ℕ) → ((out ++ head) ++ names) ++ 46 ∷ [] ≡ out ++ (head ++ names ++ 46 ∷ [])
joined out head names = simp append_assoc refl

pub features_are : (out names : List ℕ) → has_bytes names ≡ true → ((out ++ codes ". Its features are:") ++ names) ++ 46 ∷ [] ≡ out ++ features_told names
features_are out names some =
    joined out (codes ". Its features are:") names
    ∙ ap (λ (b : Bool). out ++ (if b then codes ". Its features are:" ++ names ++ codes "." else codes ", nor any other.")) (sym some)

told : (out head sentence place names : List ℕ) → (((out ++ (head ++ sentence)) ++ place) ++ names) ++ 10 ∷ [] ≡ out ++ ((head ++ (sentence ++ place ++ names) ++ 10 ∷ []) ++ [])
told out head sentence place names = simp (append_assoc, append-nil) refl

pub no_box_is : (out place names : List ℕ)
    → (((out ++ codes "mediactl: the text declares no feature ") ++ place) ++ features_told names) ++ 10 ∷ [] ≡ out ++ flat_map told_line (no_box place names ∷ [])
no_box_is out place names = told out (codes "mediactl: ") (codes "the text declares no feature ") place (features_told names)
