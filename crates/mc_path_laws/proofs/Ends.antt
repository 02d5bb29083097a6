-- Each end of a sound world is an end of exactly one path: that of the lower of the end and the one that its walk comes to.
use Rattle.std.proofs.Common.{◌≡◌, ◌≢◌, ◌<◌, ◌≤◌, ◌+◌, ◌==◌, ◌||◌, inl, inr, cond, ℕ, Bool, true, false, nat_lt, Option, Some, None, IsTrue, List, [], ◌∷◌, length, count_by, zero-add, refl, ap, sym, ◌∙◌, subst, arith}
use Rattle.std.specs.List.{cons_option, enumerate_from, filter_map}
use Rattle.std.specs.Option.{option_and_then}
use Rattle.std.proofs.lemmas.Bool.{cases_eq, cases_lt}
use Rattle.std.proofs.lemmas.Grind.{common_steps}
use Rattle.std.proofs.lemmas.List.Sums.{sum_by-cons}
use Rattle.mc_box.proofs.Options.{if_some, then_some}
use Rattle.mc_slot.specs.EndTurn.{is_end_goal}
use Rattle.mc_model.specs.Paths.{PathEnds, from_low, other_end, path_from, paths}
use Rattle.mc_model.specs.Sound.{IsSound}
use Rattle.mc_model.specs.Worlds.{WorldState, goal_of, all_tunnels, places, slot_count}
use Rattle.mc_laws.proofs.RingWalks.{end_is_met, met_is_other}
use Rattle.mc_path_laws.specs.PathLaws.{EachEndOnce, is_end_of}
use Rattle.mc_path_laws.proofs.Returns.{end_back, walk_back}
use Rattle.mc_laws.proofs.Numbers.{some_same}

-- ---- counting

-- what there is for these slots, from a number on
abbrev pub listed : (ℕ → Option PathEnds) → ℕ → List (ℕ × ℕ) → List PathEnds
listed f first slots = filter_map (λ entry. f entry.0) (enumerate_from first slots)

-- one that passes counts 1
count_in : (p : PathEnds → Bool) (path : PathEnds) (rest : List PathEnds) → p path ≡ true → count_by p (path ∷ rest) ≡ 1 + count_by p rest
count_in p path rest is = sum_by-cons (λ (x : PathEnds). cond (p x) 1 0) path rest ∙ ap (λ (b : Bool). cond b 1 0 + count_by p rest) is

-- and one that doesn't counts nothing
count_out : (p : PathEnds → Bool) (path : PathEnds) (rest : List PathEnds) → p path ≡ false → count_by p (path ∷ rest) ≡ count_by p rest
count_out p path rest is = sum_by-cons (λ (x : PathEnds). cond (p x) 1 0) path rest ∙ (ap (λ (b : Bool). cond b 1 0 + count_by p rest) is ∙ zero-add (count_by p rest))

-- nor does a slot with no path that passes
count_past : (p : PathEnds → Bool) (found : Option PathEnds) (rest : List PathEnds) → ((path : PathEnds) → found ≡ Some path → p path ≡ false) → count_by p (cons_option found rest) ≡ count_by p rest
count_past p None rest none = refl
count_past p (Some path) rest none = count_out p path rest (none path refl)

-- none where no slot has one that passes
pub count_none : (p : PathEnds → Bool) (f : ℕ → Option PathEnds) (slots : List (ℕ × ℕ)) (first count : ℕ) → first + length slots ≡ count
    → ((i : ℕ) → first ≤ i → i < count → (path : PathEnds) → f i ≡ Some path → p path ≡ false) → count_by p (listed f first slots) ≡ 0
count_none p f [] first count whole none = refl
count_none p f (slot ∷ slots) first count whole none =
    count_past p (f first) (listed f (first + 1) slots) (none first (omega arith) (omega arith))
    ∙ count_none p f slots (first + 1) count (omega arith) (λ i above below. none i (omega arith) below)

-- one where exactly one slot has one that passes
count_one : (p : PathEnds → Bool) (f : ℕ → Option PathEnds) (slots : List (ℕ × ℕ)) (first count m : ℕ) (path : PathEnds) → first + length slots ≡ count → first ≤ m → m < count
    → f m ≡ Some path → p path ≡ true → ((i : ℕ) → i < count → i ≢ m → (other : PathEnds) → f i ≡ Some other → p other ≡ false) → count_by p (listed f first slots) ≡ 1
count_one p f [] first count m path whole above below here passes others = absurd (omega arith)
count_one p f (slot ∷ slots) first count m path whole above below here passes others = elim (cases_eq first m) [
  | inl same ↦
      let rest : count_by p (listed f (first + 1) slots) ≡ 0 =
      count_none p f slots (first + 1) count (omega arith) (λ i after inside. others i inside (λ is. absurd (omega arith))) in
      let found : f first ≡ Some path = ap f same ∙ here in
      let all : count_by p (listed f first (slot ∷ slots)) ≡ 1 + count_by p (listed f (first + 1) slots) =
      ap (λ (o : Option PathEnds). count_by p (cons_option o (listed f (first + 1) slots))) found ∙ count_in p path (listed f (first + 1) slots) passes in
      omega (arith, rest, all)
  | inr apart ↦
      count_past p (f first) (listed f (first + 1) slots) (others first (omega arith) apart)
      ∙ count_one p f slots (first + 1) count m path (omega arith) (omega arith) below here passes others
]

-- ---- the paths of an end

-- a path of which a slot is the lower end
pub record PathParts (world : WorldState) (s : ℕ) (path : PathEnds) : Type 0 where
  pub aims : is_end_goal (goal_of world s) ≡ true
  pub leads : other_end world s ≡ Some path.high
  pub low_is : path.low ≡ s
  pub below : s < path.high

lower : (s t : ℕ) → nat_lt s t ≡ true → s < t
lower s t is = grind (arith, common_steps)

pub parts_of : (world : WorldState) (s : ℕ) (path : PathEnds) → path_from world s ≡ Some path → PathParts world s path
parts_of world s path is =
    let begins = if_some (is_end_goal (goal_of world s)) (option_and_then (from_low s) (other_end world s)) path is in
    let leads = then_some (from_low s) (other_end world s) path begins.1 in
    let ordered = if_some (nat_lt s leads.0) (Some (record { low = s; high = leads.0 })) path leads.2 in
    let same : record { low = s; high = leads.0 } ≡ path = cc in
    subst (λ (p : PathEnds). PathParts world s p) same (record { aims = begins.0; leads = leads.1; low_is = refl; below = lower s leads.0 ordered.0 })

path_by : (b : Bool) (o : Option ℕ) (s t : ℕ) → b ≡ true → o ≡ Some t → nat_lt s t ≡ true → cond b (option_and_then (from_low s) o) None ≡ Some (record { low = s; high = t })
path_by b o s t aims walk test = rw (aims, walk, test) refl

-- the path from an end to a higher one
path_is : (world : WorldState) (s t : ℕ) → IsTrue (is_end_goal (goal_of world s)) → other_end world s ≡ Some t → s < t → path_from world s ≡ Some (record { low = s; high = t })
path_is world s t aims walk below =
    let test : nat_lt s t ≡ true = grind (arith, common_steps) in
    path_by (is_end_goal (goal_of world s)) (other_end world s) s t aims walk test

-- an end of a path, by its two numbers
pub low_ends : (a b s : ℕ) → a ≡ s → (a == s || b == s) ≡ true
low_ends a b s is = grind (arith, common_steps)

pub high_ends : (a b s : ℕ) → b ≡ s → (a == s || b == s) ≡ true
high_ends a b s is = grind (arith, common_steps)

never_ends : (a b s : ℕ) → a ≢ s → b ≢ s → (a == s || b == s) ≡ false
never_ends a b s one two = grind (arith, common_steps)

-- what the path of another slot has to do with an end s, whose walk comes to t: it comes to s from t alone
record OtherPath (s t i : ℕ) (path : PathEnds) : Type 0 where
  low_is : path.low ≡ i
  below : i < path.high
  from : i ≡ s → path.high ≡ t
  to : path.high ≡ s → i ≡ t

other_path : (world : WorldState) (s t i : ℕ) (path : PathEnds) → IsSound world → i < slot_count world → other_end world s ≡ Some t → path_from world i ≡ Some path → OtherPath s t i path
other_path world s t i path sound inside walk is =
    let parts = parts_of world i path is in
    record {
      low_is = parts.low_is;
      below = parts.below;
      from = λ same. some_same path.high t (sym parts.leads ∙ (ap (other_end world) same ∙ walk));
      to = λ same. some_same i t (sym (end_back world i path.high sound inside parts.aims parts.leads) ∙ (ap (other_end world) same ∙ walk));
    }

-- no other path has the lower of the two ends
not_low : (s t i : ℕ) (path : PathEnds) → s < t → i ≢ s → OtherPath s t i path → is_end_of s path ≡ false
not_low s t i path below apart other =
    never_ends path.low path.high s (λ same. absurd (omega (arith, other.low_is))) (λ same. let is : i ≡ t = other.to same in absurd (omega (arith, other.below)))

-- nor the higher
not_high : (s t i : ℕ) (path : PathEnds) → t < s → i ≢ t → OtherPath s t i path → is_end_of s path ≡ false
not_high s t i path below apart other =
    never_ends path.low path.high s (λ same. let is : path.high ≡ t = other.from (omega (arith, other.low_is)) in absurd (omega (arith, other.low_is, other.below)))
    (λ same. absurd (apart (other.to same)))

-- an end is an end of exactly one path: that of the lower of the two ends, itself and the one that its walk comes to
pub end_once : (world : WorldState) (s t : ℕ) → IsSound world → s < slot_count world → IsTrue (is_end_goal (goal_of world s)) → other_end world s ≡ Some t → s ≢ t
    → count_by (is_end_of s) (paths world) ≡ 1
end_once world s t sound inside aims walk apart = elim (cases_lt s t) [
  | inl below ↦
      count_one (is_end_of s) (path_from world) (places world) 0 (slot_count world) s (record { low = s; high = t }) (omega arith) (omega arith) inside
      (path_is world s t aims walk below) (low_ends s t s refl)
      (λ i within other path is. not_low s t i path below other (other_path world s t i path sound within walk is))
  | inr above ↦
      let more = walk_back (length (all_tunnels world)) world s t sound inside walk in
      let below : t < s = omega arith in
      count_one (is_end_of s) (path_from world) (places world) 0 (slot_count world) t (record { low = t; high = s }) (omega arith) (omega arith) more.inside
      (path_is world t s more.aims (end_back world s t sound inside aims walk) below) (high_ends t s s refl)
      (λ i within other path is. not_high s t i path below other (other_path world s t i path sound within walk is))
]

-- and its walk comes to another end
pub each_end_once : EachEndOnce
each_end_once world s sound inside aims =
    let met = end_is_met world s sound inside aims in
    end_once world s met.0 sound inside aims met.1 (met_is_other world s met.0 sound inside met.1)
