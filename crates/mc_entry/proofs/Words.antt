-- A number is read from the bytes in which it was written.
use Rattle.std.proofs.Common.{◌≡◌, ℕ, ◌<◌, ◌^◌, List, [], ◌∷◌, ◌++◌, length, refl, ap, ◌∙◌, arith}
use Rattle.std.specs.Int.{from_le_bytes, to_le_bytes, w16, w32, w64}
use Rattle.std.proofs.lemmas.Nat.{from_le_bytes-to_le_bytes_2, from_le_bytes-to_le_bytes_4, from_le_bytes-to_le_bytes_8}
use Rattle.mc_entry.specs.Wire.{word2, word4, word8}

abbrev ReadsByte : List ℕ → List ℕ → ℕ → Type 0
ReadsByte old new found = (n : ℕ) (more : List ℕ) → old ≡ n ∷ more → (found ≡ n) × (new ≡ more)

two : (old x y : List ℕ) (a b p q : ℕ) (more : List ℕ) → ReadsByte old x a → ReadsByte x y b → old ≡ p ∷ q ∷ more
    → (a ∷ b ∷ [] ≡ p ∷ q ∷ []) × (y ≡ more)
two old x y a b p q more first second is =
    let one = first p (q ∷ more) is in
    let next = second q more one.1 in
    (ap (λ (n : ℕ). n ∷ b ∷ []) one.0 ∙ ap (λ (n : ℕ). p ∷ n ∷ []) next.0, next.1)

pub word2_read : (n : ℕ) (more old x y : List ℕ) (a b found : ℕ) → n < 2 ^ 16 → ReadsByte old x a → ReadsByte x y b
    → found ≡ from_le_bytes w16 (a ∷ b ∷ []) → old ≡ word2 n more → (found ≡ n) × (y ≡ more)
unfolding word2
word2_read n more old x y a b found fits first second is form =
    let all = two old x y a b _ _ more first second form in
    (is ∙ (ap (λ (l : List ℕ). from_le_bytes w16 l) all.0 ∙ from_le_bytes-to_le_bytes_2 n fits), all.1)

four : (old x y z w : List ℕ) (a b c d p q r s : ℕ) (more : List ℕ) → ReadsByte old x a → ReadsByte x y b
    → ReadsByte y z c → ReadsByte z w d → old ≡ p ∷ q ∷ r ∷ s ∷ more
    → (a ∷ b ∷ c ∷ d ∷ [] ≡ p ∷ q ∷ r ∷ s ∷ []) × (w ≡ more)
four old x y z w a b c d p q r s more first second third fourth is =
    let one = first p (q ∷ r ∷ s ∷ more) is in
    let next = second q (r ∷ s ∷ more) one.1 in
    let rest = two y z w c d r s more third fourth next.1 in
    (ap (λ (n : ℕ). n ∷ b ∷ c ∷ d ∷ []) one.0 ∙ (ap (λ (n : ℕ). p ∷ n ∷ c ∷ d ∷ []) next.0 ∙ ap (λ (l : List ℕ). p ∷ q ∷ l) rest.0), rest.1)

pub word4_read : (n : ℕ) (more old x y z w : List ℕ) (a b c d found : ℕ) → n < 2 ^ 32 → ReadsByte old x a
    → ReadsByte x y b → ReadsByte y z c → ReadsByte z w d → found ≡ from_le_bytes w32 (a ∷ b ∷ c ∷ d ∷ [])
    → old ≡ word4 n more → (found ≡ n) × (w ≡ more)
unfolding word4
word4_read n more old x y z w a b c d found fits first second third fourth is form =
    let all = four old x y z w a b c d _ _ _ _ more first second third fourth form in
    (is ∙ (ap (λ (l : List ℕ). from_le_bytes w32 l) all.0 ∙ from_le_bytes-to_le_bytes_4 n fits), all.1)

-- eight bytes are read one by one
pub eight_read : (bytes more s0 s1 s2 s3 s4 s5 s6 s7 s8 : List ℕ) (a b c d e f g h : ℕ) → length bytes ≡ 8
    → ReadsByte s0 s1 a → ReadsByte s1 s2 b → ReadsByte s2 s3 c → ReadsByte s3 s4 d
    → ReadsByte s4 s5 e → ReadsByte s5 s6 f → ReadsByte s6 s7 g → ReadsByte s7 s8 h
    → s0 ≡ bytes ++ more → (a ∷ b ∷ c ∷ d ∷ e ∷ f ∷ g ∷ h ∷ [] ≡ bytes) × (s8 ≡ more)
eight_read (p ∷ q ∷ r ∷ s ∷ t ∷ u ∷ v ∷ w ∷ []) more s0 s1 s2 s3 s4 s5 s6 s7 s8 a b c d e f g h long one two_ three four_ five six seven eight is =
    let first = four s0 s1 s2 s3 s4 a b c d p q r s (t ∷ u ∷ v ∷ w ∷ more) one two_ three four_ is in
    let second = four s4 s5 s6 s7 s8 e f g h t u v w more five six seven eight first.1 in
    (ap (λ (l : List ℕ). l ++ (e ∷ f ∷ g ∷ h ∷ [])) first.0 ∙ ap (λ (l : List ℕ). p ∷ q ∷ r ∷ s ∷ l) second.0, second.1)
eight_read (p ∷ q ∷ r ∷ s ∷ t ∷ u ∷ v ∷ w ∷ x ∷ l) more s0 s1 s2 s3 s4 s5 s6 s7 s8 a b c d e f g h long one two_ three four_ five six seven eight is = absurd (omega arith)
eight_read [] more s0 s1 s2 s3 s4 s5 s6 s7 s8 a b c d e f g h long one two_ three four_ five six seven eight is = absurd (omega arith)
eight_read (p ∷ []) more s0 s1 s2 s3 s4 s5 s6 s7 s8 a b c d e f g h long one two_ three four_ five six seven eight is = absurd (omega arith)
eight_read (p ∷ q ∷ []) more s0 s1 s2 s3 s4 s5 s6 s7 s8 a b c d e f g h long one two_ three four_ five six seven eight is = absurd (omega arith)
eight_read (p ∷ q ∷ r ∷ []) more s0 s1 s2 s3 s4 s5 s6 s7 s8 a b c d e f g h long one two_ three four_ five six seven eight is = absurd (omega arith)
eight_read (p ∷ q ∷ r ∷ s ∷ []) more s0 s1 s2 s3 s4 s5 s6 s7 s8 a b c d e f g h long one two_ three four_ five six seven eight is = absurd (omega arith)
eight_read (p ∷ q ∷ r ∷ s ∷ t ∷ []) more s0 s1 s2 s3 s4 s5 s6 s7 s8 a b c d e f g h long one two_ three four_ five six seven eight is = absurd (omega arith)
eight_read (p ∷ q ∷ r ∷ s ∷ t ∷ u ∷ []) more s0 s1 s2 s3 s4 s5 s6 s7 s8 a b c d e f g h long one two_ three four_ five six seven eight is = absurd (omega arith)
eight_read (p ∷ q ∷ r ∷ s ∷ t ∷ u ∷ v ∷ []) more s0 s1 s2 s3 s4 s5 s6 s7 s8 a b c d e f g h long one two_ three four_ five six seven eight is = absurd (omega arith)

pub word8_read : (n : ℕ) (more old new bytes : List ℕ) (found : ℕ) → n < 2 ^ 64
    → ((eight rest : List ℕ) → length eight ≡ 8 → old ≡ eight ++ rest → (bytes ≡ eight) × (new ≡ rest))
    → found ≡ from_le_bytes w64 bytes → old ≡ word8 n more → (found ≡ n) × (new ≡ more)
unfolding word8
word8_read n more old new bytes found fits reads is form =
    let all = reads (to_le_bytes w64 n) more refl form in
    (is ∙ (ap (λ (l : List ℕ). from_le_bytes w64 l) all.0 ∙ from_le_bytes-to_le_bytes_8 n fits), all.1)
