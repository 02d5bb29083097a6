-- The value of the digits of a numeral.
use Rattle.std.proofs.Common.{◌≡◌, ℕ, ◌-◌, ◌^◌, ◌<◌, ◌≤◌, true, List, [], ◌∷◌, zero, suc, length, take, arith, slice_index}
use Rattle.std.proofs.lemmas.Grind.{common_steps}
use Rattle.std.specs.List.{list_all}
use Rattle.std.specs.Char.{digit_value}
use Rattle.std.specs.Str.Parse.{digits_value, AllDigits}
use Rattle.std.proofs.lemmas.Int.Digits.{digits_value-lt}
use Rattle.std.proofs.Math.Nat.{pow-le-pow_right}
use Rattle.mc_text.specs.Spelling.{is_digit, is_numeral}

-- a byte that is a digit stands for itself less 48
digit_value_is : (byte : ℕ) → is_digit byte ≡ true → (48 ≤ byte) × (digit_value byte ≡ byte - 48) × (byte - 48 < 10)
digit_value_is byte digit = grind (arith, common_steps)

-- bytes that pass the test for digits are std's digits
AllDigits-list_all : (bytes : List ℕ) → list_all is_digit bytes ≡ true → AllDigits 10 bytes
AllDigits-list_all [] all = tt
AllDigits-list_all (byte ∷ bytes) all = (let h = digit_value_is byte (grind arith) in omega (arith, h), AllDigits-list_all bytes (grind arith))

-- the first few of digits are digits
AllDigits-take : (n : ℕ) (bytes : List ℕ) → AllDigits 10 bytes → AllDigits 10 (take n bytes)
AllDigits-take zero bytes all = tt
AllDigits-take (suc n) [] all = tt
AllDigits-take (suc n) (byte ∷ bytes) all = (all.0, AllDigits-take n bytes all.1)

-- a numeral has digits alone, and at most ten
numeral_digits : (word : List ℕ) → is_numeral word ≡ true → AllDigits 10 word × (length word ≤ 10)
numeral_digits [] numeral = absurd cc
numeral_digits (first ∷ others) numeral = (AllDigits-list_all (first ∷ others) (grind arith), grind arith)

-- at most ten digits spell less than the eleventh power
pow_le : (n : ℕ) → n ≤ 10 → 10 ^ n ≤ 10000000000
pow_le n small = let h = pow-le-pow_right {n = 10} (omega arith) small in h

-- what the first few digits of a numeral spell is small
pub digits_small : (word : List ℕ) (i : ℕ) → is_numeral word ≡ true → digits_value 10 (take i word) < 10000000000
digits_small word i numeral =
    let d = numeral_digits word numeral in
    let lt = digits_value-lt 10 (take i word) (AllDigits-take i word d.0) in
    let top = pow_le (length (take i word)) (grind (arith, common_steps)) in
    omega arith

-- each of bytes that all pass passes
is_digit-at : (word : List ℕ) (i : ℕ) → i < length word → list_all is_digit word ≡ true → is_digit (slice_index word i) ≡ true
is_digit-at word i within all = grind (arith, common_steps)

-- each byte of a numeral is a digit, and stands for itself less 48
pub numeral_digit : (word : List ℕ) (i : ℕ) → i < length word → is_numeral word ≡ true → (48 ≤ slice_index word i) × (digit_value (slice_index word i) ≡ slice_index word i - 48) × (slice_index word i - 48 < 10)
numeral_digit [] i within numeral = absurd cc
numeral_digit (first ∷ others) i within numeral = digit_value_is _ (is_digit-at (first ∷ others) i within (grind arith))
