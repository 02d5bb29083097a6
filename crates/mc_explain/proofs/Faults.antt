-- The lines of a fault and of a stop, put together.
use Rattle.std.proofs.Common.{◌≡◌, ℕ, true, List, [], ◌∷◌, ◌++◌, ◌∙◌, ap, append_assoc, codes, decimal, flat_map, refl, sym}
use Rattle.std.proofs.lemmas.List.{append-nil}
use Rattle.mc_explain.specs.Explained.{line_fault, stop, text_fault, turn_fault}
use Rattle.mc_explain.specs.Hints.{at_most, first_word, form_hint, form_of, wants_form}
use Rattle.mc_explain.specs.Quotes.{told_line}
use Rattle.mc_explain.specs.Sentences.{journal_rule, text_rule}

-- the rule of a text, with its sentence as it was found
pub text_fault_is : (number line : ℕ) (rule bytes : List ℕ) → rule ≡ text_rule number
    → bytes ≡ codes "line " ++ (decimal line ++ (codes " of the text breaks rule " ++ (decimal number ++ (codes ": " ++ (rule ++ (codes ".")))))) → bytes ≡ text_fault number line
text_fault_is number line rule bytes says is =
    is ∙ together (decimal number) (decimal line) rule ∙ ap (λ (r : List ℕ). codes "line " ++ decimal line ++ codes " of the text breaks rule " ++ decimal number ++ codes ": " ++ r ++ codes ".") says
  where
    together : (n m rule : List ℕ) → codes "line " ++ (m ++ (codes " of the text breaks rule " ++ (n ++ (codes ": " ++ (rule ++ (codes ".")))))) ≡ codes "line " ++ m ++ codes " of the text breaks rule " ++ n ++ codes ": " ++ rule ++ codes "."
    together n m rule = simp append_assoc refl

-- that of a turn
pub turn_fault_is : (number turn line : ℕ) (rule bytes : List ℕ) → rule ≡ journal_rule number
    → bytes ≡ codes "line " ++ (decimal line ++ (codes " of the text, turn " ++ (decimal turn ++ (codes " of its journal, breaks rule " ++ (decimal number ++ (codes ": " ++ (rule ++ (codes ".")))))))) → bytes ≡ turn_fault number turn line
turn_fault_is number turn line rule bytes says is =
    is ∙ together (decimal number) (decimal turn) (decimal line) rule
    ∙ ap (λ (r : List ℕ). codes "line " ++ decimal line ++ codes " of the text, turn " ++ decimal turn ++ codes " of its journal, breaks rule " ++ decimal number ++ codes ": " ++ r ++ codes ".") says
  where
    together : (n m l rule : List ℕ) → codes "line " ++ (l ++ (codes " of the text, turn " ++ (m ++ (codes " of its journal, breaks rule " ++ (n ++ (codes ": " ++ (rule ++ (codes ".")))))))) ≡ codes "line " ++ l ++ codes " of the text, turn " ++ m ++ codes " of its journal, breaks rule " ++ n ++ codes ": " ++ rule ++ codes "."
    together n m l rule = simp append_assoc refl

-- that of another line
pub line_fault_is : (number turns line : ℕ) (rule bytes : List ℕ) → rule ≡ journal_rule number
    → bytes ≡ codes "line " ++ (decimal line ++ (codes " of the text, with " ++ (decimal turns ++ (codes " turns of its journal made, breaks rule " ++ (decimal number ++ (codes ": " ++ (rule ++ (codes ".")))))))) → bytes ≡ line_fault number turns line
line_fault_is number turns line rule bytes says is =
    is ∙ together (decimal number) (decimal turns) (decimal line) rule
    ∙ ap (λ (r : List ℕ). codes "line " ++ decimal line ++ codes " of the text, with " ++ decimal turns ++ codes " turns of its journal made, breaks rule " ++ decimal number ++ codes ": " ++ r ++ codes ".") says
  where
    together : (n m l rule : List ℕ) → codes "line " ++ (l ++ (codes " of the text, with " ++ (m ++ (codes " turns of its journal made, breaks rule " ++ (n ++ (codes ": " ++ (rule ++ (codes ".")))))))) ≡ codes "line " ++ l ++ codes " of the text, with " ++ m ++ codes " turns of its journal made, breaks rule " ++ n ++ codes ": " ++ rule ++ codes "."
    together n m l rule = simp append_assoc refl

-- where a script stopped, and why, as one line
pub told_stop : (settle : ℕ) (out place why head one two three four all : List ℕ) → head ≡ codes "mediactl: settle " ++ decimal settle ++ codes " of the script stopped at "
    → one ≡ out ++ head → two ≡ one ++ place → three ≡ two ++ codes ": " → four ≡ three ++ why → all ≡ four ++ 10 ∷ []
    → all ≡ out ++ flat_map told_line (stop settle place why ∷ [])
told_stop settle out place why head one two three four all h a b c d e =
    e ∙ ap (λ l. l ++ 10 ∷ []) (d ∙ ap (λ l. l ++ why) (c ∙ ap (λ l. l ++ codes ": ") (b ∙ ap (λ l. l ++ place) (a ∙ ap (λ l. out ++ l) h)))) ∙ together out (decimal settle) place why
    ∙ ap (λ l. out ++ l) (sym (append-nil (told_line (stop settle place why))))
  where
    together : (out number place why : List ℕ)
        → ((((out ++ (codes "mediactl: settle " ++ number ++ codes " of the script stopped at ")) ++ place) ++ codes ": ") ++ why) ++ 10 ∷ []
        ≡ out ++ told_line (codes "settle " ++ number ++ codes " of the script stopped at " ++ place ++ codes ": " ++ why)
    together out number place why = simp append_assoc refl

-- how many parts a whole may have, as a sentence
pub most_is : (most : ℕ) (whole parts sentence : List ℕ) → sentence ≡ codes "the limit: " ++ (whole ++ (codes " has at most " ++ (decimal most ++ (codes " " ++ parts))))
    → sentence ≡ codes "the limit: " ++ at_most whole most parts
most_is most whole parts sentence is = is ∙ together (decimal most) whole parts
  where
    together : (n whole parts : List ℕ) → codes "the limit: " ++ (whole ++ (codes " has at most " ++ (n ++ (codes " " ++ parts)))) ≡ codes "the limit: " ++ (whole ++ codes " has at most " ++ n ++ codes " " ++ parts)
    together n whole parts = simp append_assoc refl

-- the form of a line, where it helps with the rule
pub form_told : (number : ℕ) (line form sentence out new : List ℕ) → wants_form number ≡ true → form ≡ form_of (first_word line) → sentence ≡ codes "such a line: " ++ form
    → new ≡ out ++ told_line sentence → new ≡ out ++ flat_map told_line (form_hint number line)
form_told number line form sentence out new wants says is told = rw wants
    (told ∙ ap (λ (s : List ℕ). out ++ told_line s) (is ∙ ap (λ (f : List ℕ). codes "such a line: " ++ f) says)
    ∙ ap (λ (l : List ℕ). out ++ l) (sym (append-nil (told_line (codes "such a line: " ++ form_of (first_word line))))))
