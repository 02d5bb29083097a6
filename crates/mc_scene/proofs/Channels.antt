-- The line of a channel: its end on the left, and then the one on the right.
use Rattle.std.proofs.Common.{◌≡◌, ℕ, List, [], ◌∷◌, ◌++◌, codes, refl, append_assoc}
use Rattle.mc_scene.specs.Lines.{words_line}

to_feature : (before near slot number letter : List ℕ)
    → (before ++ (codes "chan audio " ++ near ++ codes " " ++ slot ++ codes " ")) ++ (codes "f" ++ (number ++ (letter ++ codes " w\n")))
    ≡ before ++ words_line (codes "chan" ∷ codes "audio" ∷ near ∷ slot ∷ (codes "f" ++ number ++ letter) ∷ codes "w" ∷ [])
to_feature before near slot number letter = simp append_assoc refl

to_right : (before near slot number : List ℕ)
    → (before ++ (codes "chan audio " ++ near ++ codes " " ++ slot ++ codes " ")) ++ (codes "r" ++ (number ++ codes " s\n"))
    ≡ before ++ words_line (codes "chan" ∷ codes "audio" ∷ near ∷ slot ∷ (codes "r" ++ number) ∷ codes "s" ∷ [])
to_right before near slot number = simp append_assoc refl

-- the same of texts that come one after another
pub next_to_feature : (before near slot number letter printed start after : List ℕ) → printed ≡ letter
    → start ≡ before ++ (codes "chan audio " ++ near ++ codes " " ++ slot ++ codes " ")
    → after ≡ start ++ (codes "f" ++ (number ++ (printed ++ codes " w\n")))
    → after ≡ before ++ words_line (codes "chan" ∷ codes "audio" ∷ near ∷ slot ∷ (codes "f" ++ number ++ letter) ∷ codes "w" ∷ [])
next_to_feature before near slot number letter printed start after prints begins goes = rw (goes, begins, prints) (to_feature before near slot number letter)

pub next_to_right : (before near slot number start after : List ℕ)
    → start ≡ before ++ (codes "chan audio " ++ near ++ codes " " ++ slot ++ codes " ")
    → after ≡ start ++ (codes "r" ++ (number ++ codes " s\n"))
    → after ≡ before ++ words_line (codes "chan" ∷ codes "audio" ∷ near ∷ slot ∷ (codes "r" ++ number) ∷ codes "s" ∷ [])
next_to_right before near slot number start after begins goes = rw (goes, begins) (to_right before near slot number)
