-- What several calls append, one after the other.
use Rattle.std.proofs.Common.{◌≡◌, ◌∙◌, ◌++◌, ℕ, List, ap, append_assoc}

pub two : (out one end a b : List ℕ) → one ≡ out ++ a → end ≡ one ++ b → end ≡ out ++ (a ++ b)
two out one end a b is last = last ∙ (ap (λ (l : List ℕ). l ++ b) is ∙ append_assoc out a b)

pub three : (out one next end a b c : List ℕ) → one ≡ out ++ a → next ≡ one ++ b → end ≡ next ++ c → end ≡ out ++ (a ++ b ++ c)
three out one next end a b c is more last = two out next end (a ++ b) c (two out one next a b is more) last

pub four : (out one next then end a b c d : List ℕ) → one ≡ out ++ a → next ≡ one ++ b → then ≡ next ++ c → end ≡ then ++ d → end ≡ out ++ (a ++ b ++ c ++ d)
four out one next then end a b c d is more others last = two out then end (a ++ b ++ c) d (three out one next then a b c is more others) last

pub five : (out one next then after end a b c d e : List ℕ) → one ≡ out ++ a → next ≡ one ++ b → then ≡ next ++ c → after ≡ then ++ d → end ≡ after ++ e
    → end ≡ out ++ (a ++ b ++ c ++ d ++ e)
five out one next then after end a b c d e is more others rest last = two out after end (a ++ b ++ c ++ d) e (four out one next then after a b c d is more others rest) last

-- a page from its head on
pub whole : (head ladder middle told tail one two three four all : List ℕ) → one ≡ head → two ≡ one ++ ladder → three ≡ two ++ middle → four ≡ three ++ told → all ≡ four ++ tail
    → all ≡ head ++ ladder ++ middle ++ told ++ tail
whole head ladder middle told tail one two three four all is more others rest last =
    last ∙ ap (λ (l : List ℕ). l ++ tail) (rest ∙ ap (λ (l : List ℕ). l ++ told) (others ∙ ap (λ (l : List ℕ). l ++ middle) (more ∙ ap (λ (l : List ℕ). l ++ ladder) is)))
