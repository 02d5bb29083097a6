-- Lists are made again value by value.
use Rattle.std.proofs.Common.{◌≡◌, ℕ, zero, suc, ◌+◌, ◌<◌, ◌≤◌, ◌^◌, List, [], ◌∷◌, ◌++◌, length, take, drop, ap, sym, subst, ◌∙◌, arith}
use Rattle.std.proofs.lemmas.List.{length-append}
use Rattle.std.specs.List.{AllByRecursion}
use Rattle.mc_entry.specs.Reading.{Reads}
use Rattle.mc_entry.specs.Wire.{word8}
use Rattle.mc_snapshot.specs.Forms.{FitsList, each_wire, list_wire}
use Rattle.mc_snapshot.specs.Lengths.{IsLong}

-- ---- one value more

one_read : {T : Type 0} (Fits : T → Type 0) (wire : T → List ℕ → List ℕ) (list : List T) (more old new : List ℕ) (i : ℕ) (found : T)
    → i < length list → AllByRecursion Fits list → Reads Fits wire old new found → old ≡ each_wire wire (drop i list) more
    → (take i list ++ found ∷ [] ≡ take (suc i) list) × (new ≡ each_wire wire (drop (suc i) list) more)
one_read {T} Fits wire [] more old new i found inside fits reads form = absurd (omega arith)
one_read {T} Fits wire (x ∷ list) more old new zero found inside fits reads form =
    let both = reads x (each_wire wire list more) fits.0 form in
    (ap (λ (y : T). y ∷ []) both.0, both.1)
one_read {T} Fits wire (x ∷ list) more old new (suc i) found inside fits reads form =
    let both = one_read Fits wire list more old new i found (omega arith) fits.1 reads form in
    (ap (λ (l : List T). x ∷ l) both.0, both.1)

pub read_more : {T : Type 0} (Fits : T → Type 0) (wire : T → List ℕ → List ℕ) (list before next : List T) (more old new : List ℕ)
    (i : ℕ) (found : T) → i < length list → AllByRecursion Fits list → Reads Fits wire old new found
    → next ≡ before ++ found ∷ [] → (before ≡ take i list) × (old ≡ each_wire wire (drop i list) more)
    → (next ≡ take (i + 1) list) × (new ≡ each_wire wire (drop (i + 1) list) more)
read_more {T} Fits wire list before next more old new i found inside fits reads is so_far =
    let both = one_read Fits wire list more old new i found inside fits reads so_far.1 in
    let next_is : suc i ≡ i + 1 = omega arith in (
      is ∙ (ap (λ (l : List T). l ++ found ∷ []) so_far.0 ∙ (both.0 ∙ ap (λ (n : ℕ). take n list) next_is)),
      both.1 ∙ ap (λ (n : ℕ). each_wire wire (drop n list) more) next_is,
    )

fits_last : {T : Type 0} (Fits : T → Type 0) (list : List T) (one : T) → AllByRecursion Fits list → Fits one
    → AllByRecursion Fits (list ++ one ∷ [])
fits_last {T} Fits [] one fits last = (last, tt)
fits_last {T} Fits (x ∷ list) one fits last = (fits.0, fits_last Fits list one fits.1 last)

pub fits_more : {T : Type 0} (Fits : T → Type 0) (before next : List T) (one : T) → AllByRecursion Fits before → Fits one
    → next ≡ before ++ one ∷ [] → AllByRecursion Fits next
fits_more {T} Fits before next one fits last is = subst (λ (l : List T). AllByRecursion Fits l) (sym is) (fits_last Fits before one fits last)

pub one_longer : {T : Type 0} (before next : List T) (one : T) (count : ℕ) → length before ≡ count → next ≡ before ++ one ∷ []
    → length next ≡ count + 1
one_longer {T} before next one count long is =
    ap (λ (l : List T). length l) is ∙ (length-append before (one ∷ []) ∙ ap (λ (n : ℕ). n + 1) long)

-- ---- lengths

-- there are no more values than bytes
each_long : {T : Type 0} (wire : T → List ℕ → List ℕ) → IsLong wire → (list : List T) (more : List ℕ)
    → length list + length more ≤ length (each_wire wire list more)
each_long {T} wire long [] more = omega arith
each_long {T} wire long (one ∷ rest) more =
    let inner : length rest + length more ≤ length (each_wire wire rest more) = each_long wire long rest more in
    let outer : length (each_wire wire rest more) < length (wire one (each_wire wire rest more)) = long one (each_wire wire rest more) in
    omega (arith, inner, outer)

-- so a number of values above that of bytes begins no form
pub too_long : {T : Type 0} (Fits : T → Type 0) (wire : T → List ℕ → List ℕ) (list : List T) (more old new : List ℕ) (count : ℕ)
    → IsLong wire → Reads (λ n. n < 2 ^ 64) word8 old new count → length new < count → FitsList Fits list
    → old ≡ list_wire wire list more → ⊥
too_long {T} Fits wire list more old new count long reads short fits form =
    let both = reads (length list) (each_wire wire list more) fits.0 form in
    let bytes : length new ≡ length (each_wire wire list more) = ap (λ (l : List ℕ). length l) both.1 in
    let least : length list + length more ≤ length (each_wire wire list more) = each_long wire long list more in
    omega (arith, both.0, bytes, least, short)
