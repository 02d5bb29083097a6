-- Codecs that are numbered below 64 and all different can be listed.
use Rattle.std.proofs.Common.{◌≡◌, ◌≢◌, ◌+◌, ◌<◌, ◌≤◌, ◌∙◌, ℕ, zero, suc, List, [], ◌∷◌, ◌++◌, true, false, arith, length, take, refl, sym, subst}
use Rattle.std.proofs.lemmas.Bool.{le-leb, lt-ltb}
use Rattle.std.proofs.lemmas.Grind.{common_steps}
use Rattle.std.proofs.lemmas.List.{append_assoc, get_or-take, get_or_append_left, length-append, length-take-le}
use Rattle.std.proofs.Math.Seq.{get_or-append_seam}
use Rattle.std.specs.List.{slice_index}
use Rattle.mc_signal.specs.Choice.{has_codec}
use Rattle.mc_signal.specs.Codecs.{AreCodecs, AreDistinct}
use Rattle.mc_plain.specs.Numbers.{can_add, can_list, is_list, is_signal, IsDescribed, IsStored}
use Rattle.mc_plain.specs.declared.signals.PlainList.{PlainList}
use Rattle.mc_plain.specs.declared.signals.PlainSignal.{PlainSignal}

-- a codec that is at no place isn't found
lacks : (xs : List ℕ) (codec : ℕ) → ((k : ℕ) → k < length xs → slice_index xs k ≢ codec) → has_codec xs codec ≡ false
lacks [] codec apart = refl
lacks (x ∷ xs) codec apart =
    let first : x ≢ codec = apart zero (omega arith) in
    let rest : has_codec xs codec ≡ false = lacks xs codec (λ k l. apart (suc k) (omega (arith, l))) in
    grind (arith, common_steps, first, rest)

can_one : (listed : List ℕ) (codec : ℕ) → codec < 64 → has_codec listed codec ≡ false → length listed < 8 → can_add listed codec ≡ true
can_one listed codec small new room = rw new (rw (lt-ltb codec 64 small) (lt-ltb (length listed) 8 room))

-- what is true of each codec, and of each two
record AreFine (codecs : List ℕ) : Type 0 where
  codec : AreCodecs (length codecs) codecs
  apart : AreDistinct (length codecs) codecs
  short : length codecs ≤ 8

fine_all : (listed rest : List ℕ) → AreFine (listed ++ rest) → can_list listed rest ≡ true
fine_all listed [] fine = refl
fine_all listed (codec ∷ rest) fine =
    let whole : List ℕ = listed ++ codec ∷ rest in
    let long : length whole ≡ length listed + suc (length rest) = length-append listed (codec ∷ rest) in
    let here : slice_index whole (length listed) ≡ codec = get_or-append_seam listed codec rest 0 in
    let small : codec < 64 = subst (λ (x : ℕ). x < 64) here (fine.codec (length listed) (omega (arith, long))) in
    let new : has_codec listed codec ≡ false = lacks listed codec (λ k l same.
    fine.apart k (length listed) l (omega (arith, long)) (get_or_append_left listed (codec ∷ rest) 0 k l ∙ same ∙ sym here)) in
    let again : listed ++ codec ∷ [] ++ rest ≡ whole = append_assoc listed (codec ∷ []) rest in
    let first : can_add listed codec ≡ true = can_one listed codec small new (omega (arith, long, fine.short)) in
    let others : can_list (listed ++ codec ∷ []) rest ≡ true = fine_all (listed ++ codec ∷ []) rest (subst AreFine (sym again) fine) in
    rw first others

pub fine_list : (count : ℕ) (at : List ℕ) → count ≤ 8 → length at ≡ 8 → AreCodecs count at → AreDistinct count at → can_list [] (take count at) ≡ true
fine_list count at few places codecs distinct =
    let long : length (take count at) ≡ count = length-take-le count at (omega (arith, few, places)) in
    let same : (k : ℕ) → k < count → slice_index (take count at) k ≡ slice_index at k = λ k l. get_or-take count at k 0 l in
    fine_all [] (take count at) (record {
      codec = λ k l. subst (λ (x : ℕ). x < 64) (sym (same k (omega (arith, l, long)))) (codecs k (omega (arith, l, long)));
      apart = λ j k b l e. distinct j k b (omega (arith, l, long)) (sym (same j (omega (arith, b, l, long))) ∙ e ∙ same k (omega (arith, l, long)));
      short = omega (arith, long, few);
    })

-- a list as it is stored is one
pub stored_list : (plain : PlainList) → plain.count ≤ 8 → length plain.at ≡ 8 → IsStored plain.count plain.at → is_list plain ≡ true
stored_list plain few places stored = rw (le-leb plain.count 8 few) (fine_list plain.count plain.at few places stored.0 stored.1)

-- and numbers with it say a signal
pub stored_signal : (plain : PlainSignal) → IsDescribed plain → is_list plain.codecs ≡ true → is_signal plain ≡ true
stored_signal plain described listed = grind (arith, common_steps, described, listed)
