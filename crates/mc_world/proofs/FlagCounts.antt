-- The counts of flags, where one flag changes.
use Rattle.std.proofs.Common.{◌≡◌, ◌≢◌, ◌<◌, ◌≤◌, ◌+◌, inl, inr, ℕ, Bool, true, false, zero, suc, List, [], ◌∷◌, Option, Some, None, length, map, get_or, Vec, Global, refl, ap, sym, ◌∙◌, subst, add-one, arith}
use Rattle.std.specs.List.{slice_get}
use Rattle.std.proofs.Math.ListN.{replicate, set, get_or-eq_default}
use Rattle.std.proofs.lemmas.Bool.{cases_eq, cases_lt}
use Rattle.std.proofs.lemmas.List.{get_or-replicate, get_or-set_other, get_or-set_same, get_or_read, length-map, length-replicate, length-set}
use Rattle.std.proofs.lemmas.Option.{slice_get-get_or, slice_get_within}
use Rattle.mc_slot_laws.specs.Sums.{total}
use Rattle.mc_box.specs.declared.limit.TheConstants.{SLOT_LIMIT}
use Rattle.mc_slot_laws.proofs.Sums.{total_none, total_one, total_same}
use Rattle.mc_world.specs.Lanes.{HasNumbers, numbers_of}
use Rattle.mc_world.specs.Waiting.{AreFlagsCounted, bit, flag_count, flag_of}
use Rattle.mc_world.specs.declared.topology.Topology.{Topology}
use Rattle.mc_world.specs.declared.waiting.Waiting.{Waiting}
use Rattle.mc_laws.proofs.Numbers.{found_at}

-- ---- one flag

-- the place of a slot
abbrev place_by : Topology → ℕ → ℕ × ℕ
place_by topology s = get_or topology.places.items s (0, 0)

-- a slot is found at its place
pub number_at : (topology : Topology) (s : ℕ) → HasNumbers topology → s < length topology.places.items → slice_get (numbers_of topology (place_by topology s).0) (place_by topology s).1 ≡ Some s
number_at topology s numbers below = numbers.found (place_by topology s).0 (place_by topology s).1 ∙ numbers.once s below

-- and at no other
place_is : (topology : Topology) (who local s : ℕ) → HasNumbers topology → slice_get (numbers_of topology who) local ≡ Some s → ((place_by topology s).0 ≡ who) × ((place_by topology s).1 ≡ local)
place_is topology who local s numbers is = let found = found_at topology.places.items who local s (sym (numbers.found who local) ∙ is) in (found.1, found.2)

-- a box's slot, as it is read from the numbers of the box
number_read : (topology : Topology) (who local : ℕ) (numbers : List ℕ) → numbers ≡ numbers_of topology who → local < length numbers → slice_get (numbers_of topology who) local ≡ Some (get_or numbers local 0)
number_read topology who local numbers are below = ap (λ (l : List ℕ). slice_get l local) (sym are) ∙ slice_get-get_or numbers local 0 below

-- is there
pub number_there : (topology : Topology) (who local : ℕ) (numbers : List ℕ) → HasNumbers topology → numbers ≡ numbers_of topology who → local < length numbers → get_or numbers local 0 < length topology.places.items
number_there topology who local numbers has are below =
    (found_at topology.places.items who local (get_or numbers local 0) (sym (has.found who local) ∙ number_read topology who local numbers are below)).0

-- the flag of another slot
flag_other : (flags : List Bool) (s : ℕ) (b : Bool) (o : Option ℕ) → (o ≡ Some s → ⊥) → flag_of (set flags s b) o ≡ flag_of flags o
flag_other flags s b None apart = refl
flag_other flags s b (Some t) apart = get_or-set_other flags s t b false (λ same. apart (ap Some same))

-- ---- how many there are

bit_small : (b : Bool) → bit b ≤ 1
bit_small true = omega arith
bit_small false = omega arith

total_bits : (f : ℕ → ℕ) (k : ℕ) → ((t : ℕ) → f t ≤ 1) → total f k ≤ k
total_bits f zero small = omega arith
total_bits f (suc k) small = omega (arith, small k, total_bits f k small)

-- no more than there are slots
pub count_small : (topology : Topology) (flags : List Bool) (who count : ℕ) → flag_count topology flags who count ≤ count
count_small topology flags who count = total_bits (λ local. bit (flag_of flags (slice_get (numbers_of topology who) local))) count (λ local. bit_small (flag_of flags (slice_get (numbers_of topology who) local)))

default_flag : (flags : List Bool) (s : ℕ) (d : Bool) → s < length flags → get_or flags s false ≡ get_or flags s d
default_flag [] s d inside = absurd (omega arith)
default_flag (flag ∷ flags) zero d inside = refl
default_flag (flag ∷ flags) (suc s) d inside = default_flag flags s d (omega arith)

-- of one slot more
pub count_more : (topology : Topology) (flags : List Bool) (who local : ℕ) (numbers : List ℕ) (read d : Bool) → numbers ≡ numbers_of topology who → local < length numbers → get_or numbers local 0 < length flags
    → read ≡ get_or flags (get_or numbers local 0) d → flag_count topology flags who (local + 1) ≡ bit read + flag_count topology flags who local
count_more topology flags who local numbers read d are below inside is =
    let flag : flag_of flags (slice_get (numbers_of topology who) local) ≡ read = ap (flag_of flags) (number_read topology who local numbers are below) ∙ (default_flag flags (get_or numbers local 0) d inside ∙ sym is) in
    rw add-one (ap (λ (b : Bool). bit b + flag_count topology flags who local) flag)

-- of the box of a slot that changes
pub count_own : (topology : Topology) (flags : List Bool) (s : ℕ) (b : Bool) → HasNumbers topology → s < length topology.places.items → s < length flags
    → flag_count topology (set flags s b) (place_by topology s).0 (length (numbers_of topology (place_by topology s).0)) + bit (get_or flags s false)
    ≡ flag_count topology flags (place_by topology s).0 (length (numbers_of topology (place_by topology s).0)) + bit b
count_own topology flags s b numbers below here =
    let who : ℕ = (place_by topology s).0 in
    let own : ℕ = (place_by topology s).1 in
    let at : slice_get (numbers_of topology who) own ≡ Some s = number_at topology s numbers below in
    let new : ℕ → ℕ = λ local. bit (flag_of (set flags s b) (slice_get (numbers_of topology who) local)) in
    let old : ℕ → ℕ = λ local. bit (flag_of flags (slice_get (numbers_of topology who) local)) in
    let sum : total new (length (numbers_of topology who)) + old own ≡ total old (length (numbers_of topology who)) + new own =
    total_one new old (length (numbers_of topology who)) own (slice_get_within (numbers_of topology who) own s at)
    (λ local inside apart. ap bit (flag_other flags s b (slice_get (numbers_of topology who) local) (λ is. apart (sym (place_is topology who local s numbers is).1)))) in
    let before : old own ≡ bit (get_or flags s false) = ap (λ (o : Option ℕ). bit (flag_of flags o)) at in
    let after : new own ≡ bit b = ap (λ (o : Option ℕ). bit (flag_of (set flags s b) o)) at ∙ ap bit (get_or-set_same flags s b false here) in
    subst (λ (n : ℕ). total new (length (numbers_of topology who)) + n ≡ total old (length (numbers_of topology who)) + bit b) before
    (subst (λ (n : ℕ). total new (length (numbers_of topology who)) + old own ≡ total old (length (numbers_of topology who)) + n) after sum)

-- and of another box
count_other : (topology : Topology) (flags : List Bool) (s : ℕ) (b : Bool) (who count : ℕ) → HasNumbers topology → who ≢ (place_by topology s).0
    → flag_count topology (set flags s b) who count ≡ flag_count topology flags who count
count_other topology flags s b who count numbers apart =
    total_same (λ local. bit (flag_of (set flags s b) (slice_get (numbers_of topology who) local))) (λ local. bit (flag_of flags (slice_get (numbers_of topology who) local))) count
    (λ local inside. ap bit (flag_other flags s b (slice_get (numbers_of topology who) local) (λ is. apart (sym (place_is topology who local s numbers is).0))))

-- ---- the tables

-- the box of a slot has its numbers
pub home_there : (topology : Topology) (s : ℕ) → HasNumbers topology → s < length topology.places.items → (place_by topology s).0 < length topology.numbers.items
home_there topology s numbers below = elim (cases_lt (place_by topology s).0 (length topology.numbers.items)) [
  | inl here ↦ here
  | inr outside ↦
      let some : (place_by topology s).1 < length (numbers_of topology (place_by topology s).0) = slice_get_within (numbers_of topology (place_by topology s).0) (place_by topology s).1 s (number_at topology s numbers below) in
      let none : length (numbers_of topology (place_by topology s).0) ≡ 0 = ap length (get_or-eq_default (map (λ (numbers : Vec ℕ Global). numbers.items) topology.numbers.items) [] (omega (arith, outside, length-map topology.numbers.items (λ (numbers : Vec ℕ Global). numbers.items)))) in
      absurd (omega arith)
]

-- a flag changes, and with it the count of its box
pub counted_set : (topology : Topology) (old new : Waiting) (s count : ℕ) (b : Bool) → HasNumbers topology → AreFlagsCounted topology old → s < length topology.places.items
    → new.flags.items ≡ set old.flags.items s b → new.takes ≡ set old.takes (place_by topology s).0 count
    → count + bit (get_or old.flags.items s false) ≡ get_or old.takes (place_by topology s).0 0 + bit b → AreFlagsCounted topology new
counted_set topology old new s count b numbers counted below flags takes sum =
    let who : ℕ = (place_by topology s).0 in
    let home : (place_by topology s).0 < length topology.numbers.items = home_there topology s numbers below in
    record {
      flags = ap length flags ∙ (length-set old.flags.items s b ∙ counted.flags);
      takes = ap length takes ∙ (length-set old.takes who count ∙ counted.takes);
      each = λ other inside.
          subst (λ (l : List ℕ). get_or l other 0 ≡ flag_count topology new.flags.items other (length (numbers_of topology other))) (sym takes)
          (subst (λ (l : List Bool). get_or (set old.takes who count) other 0 ≡ flag_count topology l other (length (numbers_of topology other))) (sym flags)
          (elim (cases_eq other who) [
            | inl is ↦
                subst (λ (n : ℕ). get_or (set old.takes who count) n 0 ≡ flag_count topology (set old.flags.items s b) n (length (numbers_of topology n))) (sym is)
                (get_or-set_same old.takes who count 0 (omega (arith, home, counted.takes))
                ∙ omega (arith, sum, counted.each who home, count_own topology old.flags.items s b numbers below (omega (arith, below, counted.flags))))
            | inr apart ↦ get_or-set_other old.takes who other count 0 apart ∙ (counted.each other inside ∙ sym (count_other topology old.flags.items s b other (length (numbers_of topology other)) numbers apart))
          ]));
    }

-- a flag goes over to another slot of the box, and each box has as many as before
own_passed : (topology : Topology) (flags : List Bool) (s t : ℕ) → HasNumbers topology → s < length topology.places.items → t < length topology.places.items → length flags ≡ length topology.places.items
    → (place_by topology s).0 ≡ (place_by topology t).0 → get_or flags s false ≡ true → get_or (set flags s false) t false ≡ false
    → flag_count topology (set (set flags s false) t true) (place_by topology t).0 (length (numbers_of topology (place_by topology t).0))
    ≡ flag_count topology flags (place_by topology t).0 (length (numbers_of topology (place_by topology t).0))
own_passed topology flags s t numbers below there long home is none =
    let mid : List Bool = set flags s false in
    let count : List Bool → ℕ = λ bits. flag_count topology bits (place_by topology t).0 (length (numbers_of topology (place_by topology t).0)) in
    let less : count (set flags s false) + bit (get_or flags s false) ≡ count flags + 0 =
    subst (λ (who : ℕ). flag_count topology (set flags s false) who (length (numbers_of topology who)) + bit (get_or flags s false) ≡ flag_count topology flags who (length (numbers_of topology who)) + 0) home
    (count_own topology flags s false numbers below (omega (arith, below, long))) in
    let more : count (set (set flags s false) t true) + bit (get_or (set flags s false) t false) ≡ count (set flags s false) + 1 =
    count_own topology (set flags s false) t true numbers there (omega (arith, there, long, length-set flags s false)) in
    omega (arith, less, more, ap bit is, ap bit none)

pub counted_passed : (topology : Topology) (old new : Waiting) (s t : ℕ) → HasNumbers topology → AreFlagsCounted topology old → s < length topology.places.items → t < length topology.places.items
    → (place_by topology s).0 ≡ (place_by topology t).0 → get_or old.flags.items s false ≡ true → get_or (set old.flags.items s false) t false ≡ false
    → new.flags.items ≡ set (set old.flags.items s false) t true → new.takes ≡ old.takes → AreFlagsCounted topology new
counted_passed topology old new s t numbers counted below there home is none flags takes = record {
  flags = ap length flags ∙ (length-set (set old.flags.items s false) t true ∙ (length-set old.flags.items s false ∙ counted.flags));
  takes = ap length takes ∙ counted.takes;
  each = λ who inside.
      subst (λ (l : List ℕ). get_or l who 0 ≡ flag_count topology new.flags.items who (length (numbers_of topology who))) (sym takes)
      (subst (λ (l : List Bool). get_or old.takes who 0 ≡ flag_count topology l who (length (numbers_of topology who))) (sym flags)
      (counted.each who inside
      ∙ sym (elim (cases_eq who (place_by topology t).0) [
        | inl own ↦
            subst (λ (n : ℕ). flag_count topology (set (set old.flags.items s false) t true) n (length (numbers_of topology n)) ≡ flag_count topology old.flags.items n (length (numbers_of topology n))) (sym own)
            (own_passed topology old.flags.items s t numbers below there counted.flags home is none)
        | inr apart ↦
            count_other topology (set old.flags.items s false) t true who (length (numbers_of topology who)) numbers apart
            ∙ count_other topology old.flags.items s false who (length (numbers_of topology who)) numbers (λ own. apart (own ∙ home))
      ])));
}

-- ---- what code reads and writes

-- the place of a slot
pub record HasPlace (topology : Topology) (waiting : Waiting) (s : ℕ) (place : ℕ × ℕ) : Type 0 where
  pub numbers : HasNumbers topology
  pub counted : AreFlagsCounted topology waiting
  pub below : s < length topology.places.items
  pub place_is : place ≡ get_or topology.places.items s place

place_read : (topology : Topology) (waiting : Waiting) (s : ℕ) (place : ℕ × ℕ) → HasPlace topology waiting s place → place ≡ place_by topology s
place_read topology waiting s place read = get_or_read topology.places.items s place read.below read.place_is (0, 0)

-- its box has a count
pub home_read : (topology : Topology) (waiting : Waiting) (s : ℕ) (place : ℕ × ℕ) → HasPlace topology waiting s place → place.0 < length waiting.takes
home_read topology waiting s place read =
    subst (λ (p : ℕ × ℕ). p.0 < length waiting.takes) (sym (place_read topology waiting s place read)) (omega (arith, home_there topology s read.numbers read.below, read.counted.takes))

-- one more slot has a flag, so before there were fewer than slots
pub one_more_fits : (topology : Topology) (waiting : Waiting) (s : ℕ) (place : ℕ × ℕ) → HasPlace topology waiting s place → get_or waiting.flags.items s false ≡ false → get_or waiting.takes place.0 0 < SLOT_LIMIT
one_more_fits topology waiting s place read unset =
    let who : ℕ = (place_by topology s).0 in
    let before : get_or waiting.takes who 0 ≡ flag_count topology waiting.flags.items who (length (numbers_of topology who)) = read.counted.each who (home_there topology s read.numbers read.below) in
    let none : bit (get_or waiting.flags.items s false) ≡ 0 = ap bit unset in
    omega (
      arith,
      ap (λ (p : ℕ × ℕ). get_or waiting.takes p.0 0) (place_read topology waiting s place read),
      before,
      none,
      count_own topology waiting.flags.items s true read.numbers read.below (omega (arith, read.below, read.counted.flags)),
      count_small topology (set waiting.flags.items s true) who (length (numbers_of topology who)),
      read.numbers.few who,
    )

-- a slot has a flag, so there is one
pub one_there : (topology : Topology) (waiting : Waiting) (s : ℕ) (place : ℕ × ℕ) → HasPlace topology waiting s place → get_or waiting.flags.items s false ≡ true → 0 < get_or waiting.takes place.0 0
one_there topology waiting s place read is =
    let who : ℕ = (place_by topology s).0 in
    let before : get_or waiting.takes who 0 ≡ flag_count topology waiting.flags.items who (length (numbers_of topology who)) = read.counted.each who (home_there topology s read.numbers read.below) in
    let one : bit (get_or waiting.flags.items s false) ≡ 1 = ap bit is in
    omega (
      arith,
      ap (λ (p : ℕ × ℕ). get_or waiting.takes p.0 0) (place_read topology waiting s place read),
      before,
      one,
      count_own topology waiting.flags.items s false read.numbers read.below (omega (arith, read.below, read.counted.flags)),
    )

-- what is written is counted
pub counted_by : (topology : Topology) (old new : Waiting) (s : ℕ) (place : ℕ × ℕ) (made : ℕ) (b : Bool) → HasPlace topology old s place → new.flags.items ≡ set old.flags.items s b
    → new.takes ≡ set old.takes place.0 made → made + bit (get_or old.flags.items s false) ≡ get_or old.takes place.0 0 + bit b → AreFlagsCounted topology new
counted_by topology old new s place made b read flags takes sum =
    counted_set topology old new s made b read.numbers read.counted read.below flags (takes ∙ ap (λ (p : ℕ × ℕ). set old.takes p.0 made) (place_read topology old s place read))
    (sum ∙ ap (λ (p : ℕ × ℕ). get_or old.takes p.0 0 + bit b) (place_read topology old s place read))

-- with no flag all counts are zero
no_flags : (n : ℕ) (o : Option ℕ) → flag_of (replicate n false) o ≡ false
no_flags n None = refl
no_flags n (Some s) = elim (cases_lt s n) [
  | inl below ↦ get_or-replicate n s false false below
  | inr above ↦ get_or-eq_default (replicate n false) false (omega (arith, above, length-replicate n false))
]

pub counted_new : (topology : Topology) (waiting : Waiting) → waiting.flags.items ≡ replicate (length topology.places.items) false → waiting.takes ≡ replicate (length topology.numbers.items) 0 → AreFlagsCounted topology waiting
counted_new topology waiting flags takes = record {
  flags = ap length flags ∙ length-replicate (length topology.places.items) false;
  takes = ap length takes ∙ length-replicate (length topology.numbers.items) 0;
  each = λ who below.
      ap (λ (l : List ℕ). get_or l who 0) takes
      ∙ (get_or-replicate (length topology.numbers.items) who 0 0 below
      ∙ sym (subst (λ (l : List Bool). flag_count topology l who (length (numbers_of topology who)) ≡ 0) (sym flags)
      (total_none _ (length (numbers_of topology who)) (λ local inside. ap bit (no_flags (length topology.places.items) (slice_get (numbers_of topology who) local))))));
}
