-- Bytes that begin with a form.
use Rattle.std.proofs.Common.{◌≡◌, ◌==◌, ◌+◌, ◌≤◌, ℕ, Bool, true, false, List, [], ◌++◌, length, take, drop, ap, sym, ◌∙◌, arith}
use Rattle.std.proofs.lemmas.Bool.Decides.{Decides-eqb}
use Rattle.std.proofs.lemmas.List.{length-append}
use Rattle.std.proofs.lemmas.Slice.Eq.{starts_is}
use Rattle.std.specs.Cmp.Lexicographic.{pointwise}
use Rattle.mc_entry.specs.Wire.{Writes}

-- bytes that begin with what was written are the form and more
pub form_is : (bytes form start prefix : List ℕ) (wire : List ℕ → List ℕ) (result : Bool) (n : ℕ) → start ≡ [] → prefix ≡ form
    → Writes start form wire → result ≡ pointwise (λ (x : ℕ) (y : ℕ). x == y) prefix (take (length prefix) bytes) → n ≡ length form → result ≡ true
    → bytes ≡ wire (drop n bytes)
form_is bytes form start prefix wire result n empty is writes tested long begins =
    (starts_is Decides-eqb bytes prefix result tested).0 begins
    ∙ (ap (λ (l : List ℕ). l ++ drop (length l) bytes) is ∙ (writes (drop (length form) bytes)
    ∙ (ap (λ (l : List ℕ). l ++ wire (drop (length form) bytes)) empty ∙ ap (λ (k : ℕ). wire (drop k bytes)) (sym long))))

pub form_within : (bytes form prefix : List ℕ) (result : Bool) (n : ℕ) → prefix ≡ form
    → result ≡ pointwise (λ (x : ℕ) (y : ℕ). x == y) prefix (take (length prefix) bytes) → n ≡ length form → result ≡ true → n ≤ length bytes
form_within bytes form prefix result n is tested long begins =
    let whole : length bytes ≡ length prefix + length (drop (length prefix) bytes) =
    ap (λ (l : List ℕ). length l) ((starts_is Decides-eqb bytes prefix result tested).0 begins) ∙ length-append prefix (drop (length prefix) bytes) in
    let same : length prefix ≡ length form = ap (λ (l : List ℕ). length l) is in
    omega (arith, whole, same, long)

-- and others don't
pub form_not : (bytes form start prefix : List ℕ) (wire : List ℕ → List ℕ) (result : Bool) (more : List ℕ) → start ≡ [] → prefix ≡ form
    → Writes start form wire → result ≡ pointwise (λ (x : ℕ) (y : ℕ). x == y) prefix (take (length prefix) bytes) → result ≡ false
    → bytes ≡ wire more → ⊥
form_not bytes form start prefix wire result more empty is writes tested differs form_is_ =
    let begins : result ≡ true = (starts_is Decides-eqb bytes prefix result tested).1 more
    (form_is_ ∙ (ap (λ (l : List ℕ). l ++ wire more) (sym empty) ∙ (sym (writes more) ∙ ap (λ (l : List ℕ). l ++ more) (sym is)))) in
    absurd (cc)
