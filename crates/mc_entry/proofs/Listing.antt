-- Lists are made again element by element.
use Rattle.std.proofs.Common.{◌≡◌, ◌≢◌, ℕ, zero, suc, ◌+◌, ◌-◌, ◌<◌, ◌≤◌, List, [], ◌∷◌, ◌++◌, length, take, drop, replicate, false, refl, ap, sym, subst, ◌∙◌, arith}
use Rattle.std.proofs.lemmas.Grind.{common_steps}
use Rattle.std.proofs.lemmas.List.{get_or-take, length-take-le, take_all}
use Rattle.std.specs.List.{AllByRecursion, slice_index}
use Rattle.mc_signal.specs.Choice.{codecs_of, has_codec}
use Rattle.mc_signal.specs.Codecs.{AreCodecs, AreDistinct}
use Rattle.mc_signal.specs.declared.codec_list.CodecList.{CodecList}
use Rattle.mc_signal.proofs.Equal.{codecs_tell_list}
use Rattle.mc_shard.specs.declared.entry.AtEnd.{AtEnd}
use Rattle.mc_entry.specs.Reading.{Reads}
use Rattle.mc_entry.specs.Wire.{FitsAt, all_wire, at_wire, zeros}

-- ---- bytes that say nothing

drop_zeros : (count : ℕ) (more : List ℕ) → drop count (replicate count 0 ++ more) ≡ more
drop_zeros zero more = refl
drop_zeros (suc count) more = drop_zeros count more

long_zeros : (count : ℕ) (more : List ℕ) → length (replicate count 0 ++ more) ≡ count + length more
long_zeros zero more = omega arith
long_zeros (suc count) more = let rest = long_zeros count more in omega (arith, rest)

-- after so many of them comes what is more
pub zeros_read : (count skipped : ℕ) (old more : List ℕ) → (count ≤ length old → skipped ≡ count) → old ≡ zeros count more
    → take (length old - skipped) (drop skipped old) ≡ more
unfolding zeros
zeros_read count skipped old more is form =
    let long : length old ≡ count + length more = ap (λ (l : List ℕ). length l) form ∙ long_zeros count more in
    let all : skipped ≡ count = is (omega (arith, long)) in
    let rest : drop skipped old ≡ more = ap (λ (n : ℕ). drop n old) all ∙ (ap (λ (l : List ℕ). drop count l) form ∙ drop_zeros count more) in
    ap (λ (l : List ℕ). take (length old - skipped) l) rest ∙ take_all (length old - skipped) more (omega (arith, long, all))

-- ---- codecs

-- a codec that is at no place isn't found
lacks : (xs : List ℕ) (codec : ℕ) → ((k : ℕ) → k < length xs → slice_index xs k ≢ codec) → has_codec xs codec ≡ false
lacks [] codec apart = refl
lacks (x ∷ xs) codec apart =
    let first : x ≢ codec = apart zero (omega arith) in
    let rest : has_codec xs codec ≡ false = lacks xs codec (λ k l. apart (suc k) (omega (arith, l))) in
    grind (arith, common_steps, first, rest)

next_taken : (xs : List ℕ) (i : ℕ) → i < length xs → take (suc i) xs ≡ take i xs ++ slice_index xs i ∷ []
next_taken [] i inside = absurd (omega arith)
next_taken (x ∷ xs) zero inside = refl
next_taken (x ∷ xs) (suc i) inside = ap (λ (l : List ℕ). x ∷ l) (next_taken xs i (omega arith))

one_codec : (len i x : ℕ) (at found next : List ℕ) → AreCodecs len at → AreDistinct len at → length at ≡ 8 → len ≤ 8
    → i < len → x ≡ slice_index at i → found ≡ take i at
    → (x < 64 → has_codec found x ≡ false → length found < 8 → next ≡ found ++ x ∷ []) → next ≡ take (i + 1) at
one_codec len i x at found next known distinct places short inside is so_far adds =
    let long : length (take i at) ≡ i = length-take-le i at (omega arith) in
    let small : x < 64 = subst (λ (n : ℕ). n < 64) (sym is) (known i inside) in
    let new : has_codec (take i at) x ≡ false = lacks (take i at) x
    (λ k l e. distinct k i (omega (arith, l, long)) inside (sym (get_or-take i at k 0 (omega (arith, l, long))) ∙ (e ∙ is))) in
    let found_new : has_codec found x ≡ false = subst (λ (l : List ℕ). has_codec l x ≡ false) (sym so_far) new in
    let few : length found < 8 = subst (λ (l : List ℕ). length l < 8) (sym so_far) (omega (arith, long)) in
    let next_is : suc i ≡ i + 1 = omega arith in
    adds small found_new few ∙ (ap (λ (l : List ℕ). l ++ x ∷ []) so_far ∙ (ap (λ (n : ℕ). take i at ++ n ∷ []) is
    ∙ (sym (next_taken at i (omega arith)) ∙ ap (λ (n : ℕ). take n at) next_is)))

-- one more codec of a list
pub codec_more : (list : CodecList) (len i x : ℕ) (at found next : List ℕ) → list.len ≡ len → list.at ≡ at
    → i < len → x ≡ slice_index at i → found ≡ take i at
    → (x < 64 → has_codec found x ≡ false → length found < 8 → next ≡ found ++ x ∷ []) → next ≡ take (i + 1) at
codec_more list len i x at found next len_is at_is =
    one_codec len i x at found next
    (subst (λ (l : List ℕ). AreCodecs len l) at_is (subst (λ (n : ℕ). AreCodecs n list.at) len_is list.known))
    (subst (λ (l : List ℕ). AreDistinct len l) at_is (subst (λ (n : ℕ). AreDistinct n list.at) len_is list.distinct))
    (subst (λ (l : List ℕ). length l ≡ 8) at_is list.places)
    (subst (λ (n : ℕ). n ≤ 8) len_is list.short)

-- with all its codecs, it's the list
pub list_again : (list found : CodecList) (len i : ℕ) (at : List ℕ) → list.len ≡ len → list.at ≡ at → i ≡ len → codecs_of found ≡ take i at
    → found ≡ list
list_again list found len i at len_is at_is all is =
    codecs_tell_list found list (is ∙ (ap (λ (n : ℕ). take n at) (all ∙ sym len_is) ∙ ap (λ (l : List ℕ). take list.len l) (sym at_is)))

-- ---- signals that were sent

-- one more of them
one_sent : (items : List AtEnd) (more old new : List ℕ) (i : ℕ) (found : AtEnd) → i < length items → AllByRecursion FitsAt items
    → Reads FitsAt at_wire old new found → old ≡ all_wire (drop i items) more
    → (take i items ++ found ∷ [] ≡ take (suc i) items) × (new ≡ all_wire (drop (suc i) items) more)
one_sent [] more old new i found inside fits reads form = absurd (omega arith)
one_sent (x ∷ items) more old new zero found inside fits reads form =
    let both = reads x (all_wire items more) fits.0 form in
    (ap (λ (y : AtEnd). y ∷ []) both.0, both.1)
one_sent (x ∷ items) more old new (suc i) found inside fits reads form =
    let both = one_sent items more old new i found (omega arith) fits.1 reads form in
    (ap (λ (l : List AtEnd). x ∷ l) both.0, both.1)

pub sent_more : (items sent next : List AtEnd) (more old new : List ℕ) (i : ℕ) (found : AtEnd) → i < length items
    → AllByRecursion FitsAt items → Reads FitsAt at_wire old new found → next ≡ sent ++ found ∷ []
    → (sent ≡ take i items) × (old ≡ all_wire (drop i items) more)
    → (next ≡ take (i + 1) items) × (new ≡ all_wire (drop (i + 1) items) more)
sent_more items sent next more old new i found inside fits reads is so_far =
    let both = one_sent items more old new i found inside fits reads so_far.1 in
    let next_is : suc i ≡ i + 1 = omega arith in (
      is ∙ (ap (λ (l : List AtEnd). l ++ found ∷ []) so_far.0 ∙ (both.0 ∙ ap (λ (n : ℕ). take n items) next_is)),
      both.1 ∙ ap (λ (n : ℕ). all_wire (drop n items) more) next_is,
    )

pub fits_more : (sent : List AtEnd) (one : AtEnd) → AllByRecursion FitsAt sent → FitsAt one → AllByRecursion FitsAt (sent ++ one ∷ [])
fits_more [] one fits last = (last, tt)
fits_more (x ∷ sent) one fits last = (fits.0, fits_more sent one fits.1 last)
