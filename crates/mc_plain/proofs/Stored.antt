-- Codecs that are compared as bits of a number.
use Rattle.std.proofs.Common.{◌≡◌, ◌≢◌, ◌+◌, ◌*◌, ◌/◌, ◌%◌, ◌<◌, ◌≤◌, ◌∙◌, ℕ, zero, suc, Bool, true, false, List, [], ◌∷◌, arith, ap, bit_and, bit_or, bit_xor, length, refl, sym, subst, take}
use Rattle.mc_signal.specs.Codecs.{AreCodecs, AreDistinct, IsBlankFrom}
use Rattle.mc_plain.specs.Numbers.{Tells}
use Prim.Native.Nat.{◌^◌}
use mathlib.Core.Logic.{◌⊎◌, inl, inr}
use Rattle.std.specs.Prelude.{nat_eq, nat_lt, if◌then◌else◌, ◌&&◌}
use Rattle.std.specs.List.{slice_index}
use Rattle.std.specs.Int.{bit_at, from_le_bytes, to_le_bytes, w64}
use Rattle.std.specs.Int.Count.{ones, ones-ones}
use Rattle.std.specs.Int.Bits.{or_zero_r, xor_zero_r}
use Rattle.std.proofs.lemmas.Bool.{le-ltb, lt-ltb}
use Rattle.std.proofs.lemmas.Grind.{common_steps}
use Rattle.std.proofs.lemmas.List.{get_or-take, get_or_past, length-take-le}
use Rattle.std.proofs.Math.ListN.{get_or}
use Rattle.std.proofs.lemmas.Nat.{and_le_r, and_mask, and_mod, and_shr, le_bytes_8, one_shl, ones_cat, or_block, pow_pos, xor_block}
use Rattle.std.proofs.lemmas.Nat.Bits.{and_high, bit_at_or, bit_at_set_same, bit_at_xor, bit_at-lt, bit_at-pow_other, bit_at-pow_same}
use Rattle.std.proofs.Math.Nat.{div-add-mod, div-one, eq-or-lt_of_le, le-max_left, mod-lt, mul_comm, zero-div}

-- the lowest bit, set once more
low_by : (b t : ℕ) → t < 2 → ones (bit_or (b * 2 + t) 1) + t ≡ ones (b * 2 + t) + 1
low_by b zero h =
    let block : bit_or (b * 2 + 0) 1 ≡ b * 2 + 1 = or_block 1 b 0 0 1 (omega arith) (omega arith) ∙ ap (λ (x : ℕ). x * 2 + 1) (or_zero_r b) in
    omega (arith, ap ones block, ones_cat 1 b 1 (omega arith), ones_cat 1 b 0 (omega arith), ones-ones 1, ones-ones 0)
low_by b (suc zero) h =
    let block : bit_or (b * 2 + 1) 1 ≡ b * 2 + 1 = or_block 1 b 0 1 1 (omega arith) (omega arith) ∙ ap (λ (x : ℕ). x * 2 + 1) (or_zero_r b) in
    omega (arith, ap ones block)
low_by b (suc (suc t)) h = absurd (omega (arith, h))

low_set : (a : ℕ) → ones (bit_or a 1) + a % 2 ≡ ones a + 1
low_set a =
    let whole : a / 2 * 2 + a % 2 ≡ a = ap (λ (x : ℕ). x + a % 2) (mul_comm (a / 2) 2) ∙ div-add-mod a 2 in
    subst (λ (x : ℕ). ones (bit_or x 1) + a % 2 ≡ ones x + 1) whole (low_by (a / 2) (a % 2) (mod-lt a (omega arith)))

-- a bit, set once more
ones_set : (s m : ℕ) → ones (bit_or s (2 ^ m)) + bit_at s m ≡ ones s + 1
ones_set s m =
    let p = 2 ^ m in
    let a = s / p in
    let r = s % p in
    let small : r < p = mod-lt s (pow_pos m) in
    let whole : s ≡ a * p + r = sym (ap (λ (x : ℕ). x + r) (mul_comm a p) ∙ div-add-mod s p) in
    let one : p ≡ 1 * p + 0 = omega arith in
    let set : bit_or s p ≡ bit_or a 1 * p + r = ap (λ (x : ℕ). bit_or x p) whole ∙ ap (λ (x : ℕ). bit_or (a * p + r) x) one ∙ or_block m a 1 r 0 small (pow_pos m) ∙ ap (λ (x : ℕ). bit_or a 1 * p + x) (or_zero_r r) in
    omega (arith, ap ones set, ones_cat m (bit_or a 1) r small, ap ones whole, ones_cat m a r small, low_set a)

-- the lowest bit, turned
low_turn_by : (b t : ℕ) → t < 2 → ones (bit_xor (b * 2 + t) 1) + 2 * t ≡ ones (b * 2 + t) + 1
low_turn_by b zero h =
    let block : bit_xor (b * 2 + 0) 1 ≡ b * 2 + 1 = xor_block 1 b 0 0 1 (omega arith) (omega arith) ∙ ap (λ (x : ℕ). x * 2 + 1) (xor_zero_r b) in
    omega (arith, ap ones block, ones_cat 1 b 1 (omega arith), ones_cat 1 b 0 (omega arith), ones-ones 1, ones-ones 0)
low_turn_by b (suc zero) h =
    let block : bit_xor (b * 2 + 1) 1 ≡ b * 2 + 0 = xor_block 1 b 0 1 1 (omega arith) (omega arith) ∙ ap (λ (x : ℕ). x * 2 + 0) (xor_zero_r b) in
    omega (arith, ap ones block, ones_cat 1 b 1 (omega arith), ones_cat 1 b 0 (omega arith), ones-ones 1, ones-ones 0)
low_turn_by b (suc (suc t)) h = absurd (omega (arith, h))

low_turn : (a : ℕ) → ones (bit_xor a 1) + 2 * (a % 2) ≡ ones a + 1
low_turn a =
    let whole : a / 2 * 2 + a % 2 ≡ a = ap (λ (x : ℕ). x + a % 2) (mul_comm (a / 2) 2) ∙ div-add-mod a 2 in
    subst (λ (x : ℕ). ones (bit_xor x 1) + 2 * (a % 2) ≡ ones x + 1) whole (low_turn_by (a / 2) (a % 2) (mod-lt a (omega arith)))

-- a bit, turned
ones_turn : (s m : ℕ) → ones (bit_xor s (2 ^ m)) + 2 * bit_at s m ≡ ones s + 1
ones_turn s m =
    let p = 2 ^ m in
    let a = s / p in
    let r = s % p in
    let small : r < p = mod-lt s (pow_pos m) in
    let whole : s ≡ a * p + r = sym (ap (λ (x : ℕ). x + r) (mul_comm a p) ∙ div-add-mod s p) in
    let one : p ≡ 1 * p + 0 = omega arith in
    let turn : bit_xor s p ≡ bit_xor a 1 * p + r = ap (λ (x : ℕ). bit_xor x p) whole ∙ ap (λ (x : ℕ). bit_xor (a * p + r) x) one ∙ xor_block m a 1 r 0 small (pow_pos m) ∙ ap (λ (x : ℕ). bit_xor a 1 * p + x) (xor_zero_r r) in
    omega (arith, ap ones turn, ones_cat m (bit_xor a 1) r small, ap ones whole, ones_cat m a r small, low_turn a)

kept : (a b i : ℕ) → bit_at a i ≡ 1 → bit_at (bit_or a b) i ≡ 1
kept a b i e = omega (arith, e, bit_at_or a b i, le-max_left (bit_at a i) (bit_at b i), bit_at-lt (bit_or a b) i)

-- the bit of a codec
abbrev pub mark : ℕ → ℕ
mark codec = bit_and codec 63

-- what is known of the first codecs, seen as the bits of a number
pub record Compared (at : List ℕ) (i seen : ℕ) : Type 0 where
  pub few : ones seen ≤ i
  pub marked : ones seen ≡ i → (k : ℕ) → k < i → bit_at seen (mark (slice_index at k)) ≡ 1
  pub apart : ones seen ≡ i → (j k : ℕ) → j < k → k < i → slice_index at j ≢ slice_index at k

pub none_compared : (at : List ℕ) → Compared at 0 0
none_compared at = record {
  few = omega (arith, ones-ones 0);
  marked = λ e k l. absurd (omega (arith, l));
  apart = λ e j k b l. absurd (omega (arith, l));
}

module _ (at : List ℕ) (i seen : ℕ) (was : Compared at i seen) where
  abbrev m : ℕ
  m = mark (slice_index at i)

  abbrev bit : ℕ
  bit = 1 * 2 ^ m % 18446744073709551616

  small : m < 64
  small = let most : m ≤ 63 = and_le_r (slice_index at i) 63 in omega (arith, most)

  set : ones (bit_or seen bit) + bit_at seen m ≡ ones seen + 1
  set = ap (λ (x : ℕ). ones (bit_or seen x) + bit_at seen m) (one_shl m 64 small) ∙ ones_set seen m

  marked : ones seen ≡ i → (k : ℕ) → (k ≡ i) ⊎ (k < i) → bit_at (bit_or seen bit) (mark (slice_index at k)) ≡ 1
  marked full k (inl e) = subst (λ (x : ℕ). bit_at (bit_or seen bit) (mark (slice_index at x)) ≡ 1) (sym e) (bit_at_set_same w64 seen m small)
  marked full k (inr l) = kept seen bit (mark (slice_index at k)) (was.marked full k l)

  apart : ones seen ≡ i → bit_at seen m ≡ 0 → (j k : ℕ) → j < k → (k ≡ i) ⊎ (k < i) → slice_index at j ≢ slice_index at k
  apart full clear j k b (inl e) = λ same.
      let there : bit_at seen (mark (slice_index at j)) ≡ 1 = was.marked full j (omega (arith, b, e)) in
      let here : slice_index at j ≡ slice_index at i = same ∙ ap (slice_index at) e in
      let both : bit_at seen (mark (slice_index at j)) ≡ bit_at seen m = ap (λ (x : ℕ). bit_at seen (mark x)) here in
      omega (arith, there, both, clear)
  apart full clear j k b (inr l) = was.apart full j k b l

  pub one_more : Compared at (i + 1) (bit_or seen bit)
  one_more = record {
    few = omega (arith, set, was.few);
    marked = λ e k l. marked (omega (arith, e, set, was.few)) k (eq-or-lt_of_le (omega (arith, l)));
    apart = λ e j k b l. apart (omega (arith, e, set, was.few)) (omega (arith, e, set, was.few)) j k b (eq-or-lt_of_le (omega (arith, l)));
  }

  turn : ones (bit_xor seen (2 ^ m)) + 2 * bit_at seen m ≡ ones seen + 1
  turn = ones_turn seen m

  turned : ones seen ≡ i → bit_at seen m ≡ 0 → (k : ℕ) → (k ≡ i) ⊎ (k < i) → bit_at (bit_xor seen (2 ^ m)) (mark (slice_index at k)) ≡ 1
  turned full clear k (inl e) =
      let here : bit_at (bit_xor seen (2 ^ m)) m ≡ 1 = omega (arith, bit_at_xor seen (2 ^ m) m, bit_at-pow_same m, clear) in
      subst (λ (x : ℕ). bit_at (bit_xor seen (2 ^ m)) (mark (slice_index at x)) ≡ 1) (sym e) here
  turned full clear k (inr l) =
      let n = mark (slice_index at k) in
      let there : bit_at seen n ≡ 1 = was.marked full k l in
      let other : n ≢ m = λ same. let both : bit_at seen n ≡ bit_at seen m = ap (bit_at seen) same in omega (arith, there, both, clear) in
      omega (arith, bit_at_xor seen (2 ^ m) n, bit_at-pow_other m n other, there)

  by_power : Compared at (i + 1) (bit_xor seen (2 ^ m))
  by_power =
      let low : bit_at seen m < 2 = bit_at-lt seen m in
      record {
        few = omega (arith, turn, was.few);
        marked = λ e k l. turned (omega (arith, e, turn, was.few, low)) (omega (arith, e, turn, was.few, low)) k (eq-or-lt_of_le (omega (arith, l)));
        apart = λ e j k b l. apart (omega (arith, e, turn, was.few, low)) (omega (arith, e, turn, was.few, low)) j k b (eq-or-lt_of_le (omega (arith, l)));
      }

  pub one_turned : Compared at (i + 1) (bit_xor seen bit)
  one_turned = subst (λ (x : ℕ). Compared at (i + 1) (bit_xor seen x)) (sym (one_shl m 64 small)) by_power

abbrev bit_of : ℕ → ℕ
bit_of codec = 1 * 2 ^ mark codec % 18446744073709551616

-- two at a time
pub two_more : (at : List ℕ) (i seen : ℕ) → Compared at (2 * i) seen
    → Compared at (2 * (i + 1)) (bit_xor (bit_or seen (bit_of (slice_index at (2 * i)))) (bit_of (slice_index at (2 * i + 1))))
two_more at i seen was =
    let on : 2 * i + 1 + 1 ≡ 2 * (i + 1) = omega arith in
    let first : ℕ = bit_or seen (bit_of (slice_index at (2 * i))) in
    let both : ℕ = bit_xor first (bit_of (slice_index at (2 * i + 1))) in
    subst (λ (n : ℕ). Compared at n both) on (one_turned at (2 * i + 1) first (one_more at (2 * i) seen was))

-- so it is of every number below one
abbrev every : (ℕ → Bool) → ℕ → Bool
every p zero = true
every p (suc n) = p n && every p n

last_or : (p : ℕ → Bool) (n i : ℕ) → p n ≡ true → (i < n → p i ≡ true) → (i ≡ n) ⊎ (i < n) → p i ≡ true
last_or p n i last others (inl e) = ap p e ∙ last
last_or p n i last others (inr before) = others before

both : (a b : Bool) → a && b ≡ true → (a ≡ true) × (b ≡ true)
both true true e = (refl, refl)
both true false e = absurd (cc)
both false b e = absurd (cc)

of_every : (p : ℕ → Bool) (n : ℕ) → every p n ≡ true → (i : ℕ) → i < n → p i ≡ true
of_every p zero all i l = absurd (omega (arith, l))
of_every p (suc n) all i l =
    let parts = both (p n) (every p n) all in
    last_or p n i parts.0 (of_every p n parts.1 i) (eq-or-lt_of_le (omega (arith, l)))

same_number : (a b : ℕ) → nat_eq a b ≡ true → a ≡ b
same_number a b e = grind (arith, common_steps, e)

-- the bits that are 0 of each byte, where so many are codecs
abbrev pub outside : List ℕ
outside = 0xffffffffffffffff ∷ 0xffffffffffffffc0 ∷ 0xffffffffffffc0c0 ∷ 0xffffffffffc0c0c0 ∷ 0xffffffffc0c0c0c0 ∷ 0xffffffc0c0c0c0c0 ∷ 0xffffc0c0c0c0c0c0 ∷ 0xffc0c0c0c0c0c0c0 ∷ 0xc0c0c0c0c0c0c0c0 ∷ []

abbrev outside_byte : (count k : ℕ) → ℕ
outside_byte count k = slice_index outside count / 2 ^ (8 * k) % 256

abbrev expected : (count k : ℕ) → ℕ
expected count k = if nat_lt k count then 192 else 255

as_expected : (count k : ℕ) → count < 9 → k < 8 → outside_byte count k ≡ expected count k
as_expected count k c l =
    same_number _ _ (of_every (λ (j : ℕ). nat_eq (outside_byte count j) (expected count j)) 8
    (of_every (λ (n : ℕ). every (λ (j : ℕ). nat_eq (outside_byte n j) (expected n j)) 8) 9 refl count c) k l)

before_or_not : (k n : ℕ) → (k < n) ⊎ (n ≤ k)
before_or_not k zero = inr (omega arith)
before_or_not zero (suc n) = inl (omega arith)
before_or_not (suc k) (suc n) = on (before_or_not k n)
  where
    on : (k < n) ⊎ (n ≤ k) → (suc k < suc n) ⊎ (suc n ≤ suc k)
    on (inl l) = inl (omega (arith, l))
    on (inr l) = inr (omega (arith, l))

-- where none of those bits is set in the number that eight bytes make, they are codecs and 0
module _ (at : List ℕ) (count word : ℕ) (places : length at ≡ 8) (bytes : (k : ℕ) → get_or at k 0 < 256) (few : count ≤ 8)
    (is : word ≡ from_le_bytes w64 at) (clear : bit_and word (slice_index outside count) ≡ 0) where
  own : (k : ℕ) → k < 8 → slice_index at k ≡ word / 2 ^ (8 * k) % 256
  own k l = ap (λ (xs : List ℕ). slice_index xs k) (sym (le_bytes_8 at word places bytes is)) ∙ by k l
    where
      by : (k : ℕ) → k < 8 → slice_index (to_le_bytes w64 word) k ≡ word / 2 ^ (8 * k) % 256
      by zero l = ap (λ (x : ℕ). x % 256) (sym (div-one word))
      by (suc zero) l = refl
      by (suc (suc zero)) l = refl
      by (suc (suc (suc zero))) l = refl
      by (suc (suc (suc (suc zero)))) l = refl
      by (suc (suc (suc (suc (suc zero))))) l = refl
      by (suc (suc (suc (suc (suc (suc zero)))))) l = refl
      by (suc (suc (suc (suc (suc (suc (suc zero))))))) l = refl
      by (suc (suc (suc (suc (suc (suc (suc (suc k)))))))) l = absurd (omega (arith, l))

  none : (k : ℕ) → k < 8 → bit_and (slice_index at k) (outside_byte count k) ≡ 0
  none k l =
      let p = 8 * k in
      let m = slice_index outside count in
      ap (λ (x : ℕ). bit_and x (m / 2 ^ p % 256)) (own k l) ∙ sym (and_mod (word / 2 ^ p) (m / 2 ^ p) 8)
      ∙ ap (λ (x : ℕ). x % 256) (sym (and_shr word m p) ∙ ap (λ (x : ℕ). x / 2 ^ p) clear ∙ zero-div (2 ^ p))

  codec : (k : ℕ) → k < 8 → k < count → slice_index at k < 64
  codec k l used =
      let same : outside_byte count k ≡ 192 = as_expected count k (omega (arith, few)) l ∙ rw (lt-ltb k count used) refl in
      let low : bit_and (slice_index at k) 192 ≡ 0 = ap (bit_and (slice_index at k)) (sym same) ∙ none k l in
      let high : bit_and (slice_index at k) 192 ≡ (slice_index at k / 64 % 4) * 64 = and_high (slice_index at k) 2 6 in
      let byte : slice_index at k < 256 = bytes k in
      omega (arith, low, high, byte)

  after : (k : ℕ) → (k < 8) ⊎ (8 ≤ k) → count ≤ k → slice_index at k ≡ 0
  after k (inr past) unused = get_or_past at k 0 (omega (arith, places, past))
  after k (inl l) unused =
      let same : outside_byte count k ≡ 255 = as_expected count k (omega (arith, few)) l ∙ rw (le-ltb k count unused) refl in
      let low : bit_and (slice_index at k) 255 ≡ 0 = ap (bit_and (slice_index at k)) (sym same) ∙ none k l in
      let all : bit_and (slice_index at k) 255 ≡ slice_index at k % 256 = and_mask (slice_index at k) 8 in
      let byte : slice_index at k < 256 = bytes k in
      omega (arith, low, all, byte)

  pub fits : AreCodecs count at × IsBlankFrom count at
  fits = ((λ k l. codec k (omega (arith, l, few)) l), (λ k l. after k (before_or_not k 8) l))

-- what is told of the first codecs of eight
pub told : (count : ℕ) (at : List ℕ) (marks : ℕ) → count ≤ 8 → length at ≡ 8 → Tells (take count at) marks → ones marks ≡ count → AreDistinct count at
told count at marks few places tells full = λ j k b l same.
    let long : length (take count at) ≡ count = length-take-le count at (omega (arith, few, places)) in
    tells (full ∙ sym long) j k b (omega (arith, l, long)) (get_or-take count at j 0 (omega (arith, b, l)) ∙ same ∙ sym (get_or-take count at k 0 l))
