-- Chains of tunnels and links: one that is as long as there are tunnels comes back to where it began.
use Rattle.std.proofs.Common.{◌≡◌, ◌≢◌, ◌<◌, ◌≤◌, ◌+◌, ◌-◌, ◌*◌, ◌/◌, ◌⊎◌, inl, inr, ℕ, zero, suc, Option, Some, length, refl, ap, sym, ◌∙◌, subst, arith}
use Rattle.std.specs.Option.{option_and_then, unwrap_or}
use Rattle.std.proofs.lemmas.Bool.{cases_eq, cases_lt}
use Rattle.std.proofs.lemmas.Grind.{common_steps}
use Rattle.mc_box.proofs.Options.{then_some}
use Rattle.mc_model.specs.Paths.{next_slot, partner_of, slot_after}
use Rattle.mc_model.specs.Rings.{IsOnRing, WalksNeverReturn}
use Rattle.mc_model.specs.Sound.{IsSound}
use Rattle.mc_model.specs.Worlds.{WorldState, far, all_tunnels, slot_count}
use Rattle.mc_laws.proofs.TunnelPlaces.{two_each}
use Rattle.mc_laws.proofs.Numbers.{far_back, far_other, half_in, some_same}
use Rattle.mc_laws.proofs.Partners.{IsNext, next_is}
use Rattle.mc_laws.proofs.Repeats.{Repeated, repeated}
use Rattle.mc_laws.proofs.Walks.{after_more}

-- ---- over plain slots

-- slots each of which is the mate of the far slot of the one before it, so many of them
pub record IsChain (mate : ℕ → Option ℕ) (x : ℕ → ℕ) (most : ℕ) : Type 0 where
  pub on : (k : ℕ) → k < most → mate (far (x k)) ≡ Some (x (suc k))
  pub back : (k : ℕ) → k < most → mate (x (suc k)) ≡ Some (far (x k))
  pub other : (k : ℕ) → k < most → x (suc k) ≢ far (x k)

one_mate : (o : Option ℕ) (a b : ℕ) → o ≡ Some a → o ≡ Some b → a ≡ b
one_mate o a b one two = some_same a b (sym one ∙ two)

-- where two slots of a chain are the same, so are those before them
alike_before : (mate : ℕ → Option ℕ) (x : ℕ → ℕ) (most i j : ℕ) → IsChain mate x most → i < most → j < most → x (suc i) ≡ x (suc j) → x i ≡ x j
alike_before mate x most i j chain one two same =
    let fars : far (x i) ≡ far (x j) = one_mate (mate (x (suc j))) (far (x i)) (far (x j)) (subst (λ (s : ℕ). mate s ≡ Some (far (x i))) same (chain.back i one)) (chain.back j two) in
    sym (far_back (x i)) ∙ (ap far fars ∙ far_back (x j))

-- and so the first slot is met again
first_again : (mate : ℕ → Option ℕ) (x : ℕ → ℕ) (most i apart : ℕ) → IsChain mate x most → i + apart ≤ most → x i ≡ x (i + apart) → x 0 ≡ x apart
first_again mate x most zero apart chain within same = subst (λ (k : ℕ). x 0 ≡ x k) (omega arith) same
first_again mate x most (suc i) apart chain within same =
    let sum : suc i + apart ≡ suc (i + apart) = omega arith in
    first_again mate x most i apart chain (omega (arith, within))
    (alike_before mate x most i (i + apart) chain (omega (arith, within)) (omega (arith, within)) (subst (λ (k : ℕ). x (suc i) ≡ x k) sum same))

-- a chain goes over no tunnel both ways: from both of its slots it would come to a slot that is linked with itself
never_back : (mate : ℕ → Option ℕ) (x : ℕ → ℕ) (most i apart : ℕ) → IsChain mate x most → i + apart ≤ most → x i ≢ far (x (i + apart))
never_back mate x most i zero chain within same = let here : i + 0 ≡ i = omega arith in far_other (x i) (sym (subst (λ (k : ℕ). x i ≡ far (x k)) here same))
never_back mate x most i (suc zero) chain within same =
    let one : i + suc zero ≡ suc i = omega arith in
    chain.other i (omega (arith, within)) (sym (far_back (x (suc i))) ∙ ap far (sym (subst (λ (k : ℕ). x i ≡ far (x k)) one same)))
never_back mate x most i (suc (suc apart)) chain within same =
    let two : i + suc (suc apart) ≡ suc (i + suc apart) = omega arith in
    let before : mate (x (suc (i + suc apart))) ≡ Some (far (x (i + suc apart))) = chain.back (i + suc apart) (omega (arith, within)) in
    let turned : far (x i) ≡ x (suc (i + suc apart)) = ap far (subst (λ (k : ℕ). x i ≡ far (x k)) two same) ∙ far_back (x (suc (i + suc apart))) in
    let on : mate (x (suc (i + suc apart))) ≡ Some (x (suc i)) = subst (λ (s : ℕ). mate s ≡ Some (x (suc i))) turned (chain.on i (omega (arith, within))) in
    let meets : x (suc i) ≡ far (x (i + suc apart)) = one_mate (mate (x (suc (i + suc apart)))) (x (suc i)) (far (x (i + suc apart))) on before in
    let sum : i + suc apart ≡ suc i + apart = omega arith in
    never_back mate x most (suc i) apart chain (omega (arith, within)) (subst (λ (k : ℕ). x (suc i) ≡ far (x k)) sum meets)

-- a chain that comes back has a first time at which it does
pub record ComesBackFirst (x : ℕ → ℕ) (most : ℕ) : Type 0 where
  pub count : ℕ
  pub some : 0 < count
  pub within : count ≤ most
  pub back : x count ≡ x 0
  pub not_before : (k : ℕ) → 0 < k → k < count → x k ≢ x 0

-- one slot more isn't the first one
none_till : (x : ℕ → ℕ) (done : ℕ) → ((k : ℕ) → 0 < k → k < suc done → x k ≢ x 0) → x (suc done) ≢ x 0 → (k : ℕ) → 0 < k → k < suc (suc done) → x k ≢ x 0
none_till x done none other k some below = elim (cases_lt k (suc done)) [
  | inl before ↦ none k some before
  | inr there ↦ subst (λ (n : ℕ). x n ≢ x 0) (omega (arith, below, there)) other
]

here_first : (x : ℕ → ℕ) (left done : ℕ) → ((k : ℕ) → 0 < k → k < suc done → x k ≢ x 0) → x (suc done) ≡ x 0 → ComesBackFirst x (suc done + left)
here_first x left done none same = record { count = suc done; some = omega arith; within = omega arith; back = same; not_before = none }

-- it is looked for from the second slot on
pub back_first : (x : ℕ → ℕ) (left done : ℕ) → ((k : ℕ) → 0 < k → k < suc done → x k ≢ x 0) → x (suc done + left) ≡ x 0 → ComesBackFirst x (suc done + left)
back_first x zero done none back =
    let last : suc done + 0 ≡ suc done = omega arith in
    here_first x 0 done none (subst (λ (n : ℕ). x n ≡ x 0) last back)
back_first x (suc left) done none back = elim (cases_eq (x (suc done)) (x 0)) [
  | inl same ↦ here_first x (suc left) done none same
  | inr other ↦
      let sum : suc done + suc left ≡ suc (suc done) + left = omega arith in
      subst (ComesBackFirst x) (sym sum) (back_first x left (suc done) (none_till x done none other) (subst (λ (n : ℕ). x n ≡ x 0) sum back))
]

-- up to then it goes over no tunnel twice, whichever way
pub never_twice : (mate : ℕ → Option ℕ) (x : ℕ → ℕ) (most : ℕ) → IsChain mate x most → (first : ComesBackFirst x most) (j k : ℕ) → j < k → k < first.count → (x j ≢ x k) × (x j ≢ far (x k))
never_twice mate x most chain first j k less below =
    let sum : j + (k - j) ≡ k = omega (arith, less) in
    let within : j + (k - j) ≤ most = omega (arith, less, below, first.within) in (
      λ same. first.not_before (k - j) (omega (arith, less)) (omega (arith, less, below)) (sym (first_again mate x most j (k - j) chain within (subst (λ (n : ℕ). x j ≡ x n) (sym sum) same))),
      λ same. never_back mate x most j (k - j) chain within (subst (λ (n : ℕ). x j ≡ far (x n)) (sym sum) same),
    )

-- slots of one tunnel
one_tunnel : (s t : ℕ) → s / 2 ≡ t / 2 → (s ≡ t) ⊎ (s ≡ far t)
one_tunnel s t same = grind (arith, common_steps)

-- a chain over as many tunnels as there are comes back to its first slot
pub comes_back : (mate : ℕ → Option ℕ) (x : ℕ → ℕ) (most : ℕ) → IsChain mate x most → ((k : ℕ) → k ≤ most → x k / 2 < most) → (apart : ℕ) × (0 < apart) × (apart ≤ most) × (x apart ≡ x 0)
comes_back mate x most chain below =
    let twice : Repeated (λ k. x k / 2) most = repeated most (λ k. x k / 2) below in
    let apart : ℕ = twice.second - twice.first in
    let sum : twice.first + (twice.second - twice.first) ≡ twice.second = omega (arith, twice.apart) in
    let within : twice.first + (twice.second - twice.first) ≤ most = omega (arith, twice.apart, twice.within) in
    elim (one_tunnel (x twice.first) (x twice.second) twice.same) [
      | inl same ↦ (
        apart,
        omega (arith, twice.apart),
        omega (arith, within),
        sym (first_again mate x most twice.first apart chain within (subst (λ (k : ℕ). x twice.first ≡ x k) (sym sum) same)),
      )
      | inr back ↦ absurd (never_back mate x most twice.first apart chain within (subst (λ (k : ℕ). x twice.first ≡ far (x k)) (sym sum) back))
    ]

-- ---- in a world

-- the slots that are so many tunnels and links on from a slot, and as many further on
pub after_sum : (world : WorldState) (a b s t : ℕ) → slot_after world a s ≡ Some t → slot_after world (a + b) s ≡ slot_after world b t
after_sum world a zero s t is = let none : a + 0 ≡ a = omega arith in ap (λ (n : ℕ). slot_after world n s) none ∙ is
after_sum world a (suc b) s t is =
    let one : a + suc b ≡ suc (a + b) = omega arith in
    ap (λ (n : ℕ). slot_after world n s) one
    ∙ (after_more world (a + b) s ∙ (ap (λ (o : Option ℕ). option_and_then (next_slot world) o) (after_sum world a b s t is) ∙ sym (after_more world b t)))

-- a chain passes slots on its way
pub after_parts : (world : WorldState) (a b s t : ℕ) → slot_after world (a + b) s ≡ Some t → (between : ℕ) × (slot_after world a s ≡ Some between) × (slot_after world b between ≡ Some t)
after_parts world a zero s t is = let none : a + 0 ≡ a = omega arith in (t, subst (λ (n : ℕ). slot_after world n s ≡ Some t) none is, refl)
after_parts world a (suc b) s t is =
    let one : a + suc b ≡ suc (a + b) = omega arith in
    let last = then_some (next_slot world) (slot_after world (a + b) s) t (sym (after_more world (a + b) s) ∙ subst (λ (n : ℕ). slot_after world n s ≡ Some t) one is) in
    let rest = after_parts world a b s last.0 last.1 in
    (rest.0, rest.1, after_more world b rest.0 ∙ (ap (λ (o : Option ℕ). option_and_then (next_slot world) o) rest.2 ∙ last.2))

-- all of them are there
pub after_inside : (world : WorldState) (count s t : ℕ) → IsSound world → s < slot_count world → slot_after world count s ≡ Some t → t < slot_count world
after_inside world zero s t sound inside is = subst (λ (n : ℕ). n < slot_count world) (some_same s t is) inside
after_inside world (suc count) s t sound inside is =
    let last = then_some (next_slot world) (slot_after world count s) t (sym (after_more world count s) ∙ is) in
    (next_is world last.0 t sound (after_inside world count s last.0 sound inside last.1) last.2).inside

-- the slots of a chain, by how far they are
abbrev pub slots_from : WorldState → ℕ → ℕ → ℕ
slots_from world s k = unwrap_or (slot_after world k s) 0

-- each of the slots up to the last is there
pub passes : (world : WorldState) (most k s t : ℕ) → slot_after world most s ≡ Some t → k ≤ most → slot_after world k s ≡ Some (slots_from world s k)
passes world most k s t is within =
    let sum : k + (most - k) ≡ most = omega (arith, within) in
    let between = after_parts world k (most - k) s t (subst (λ (n : ℕ). slot_after world n s ≡ Some t) (sym sum) is) in
    between.1 ∙ ap Some (sym (ap (λ (o : Option ℕ). unwrap_or o 0) between.1))

-- the slot one further is next to it
goes_next : (world : WorldState) (k s a b : ℕ) → slot_after world k s ≡ Some a → slot_after world (suc k) s ≡ Some b → next_slot world a ≡ Some b
goes_next world k s a b here there = sym (ap (λ (o : Option ℕ). option_and_then (next_slot world) o) here) ∙ (sym (after_more world k s) ∙ there)

-- they are a chain
pub chain_from : (world : WorldState) (most s t : ℕ) → IsSound world → s < slot_count world → slot_after world most s ≡ Some t → IsChain (partner_of world) (slots_from world s) most
chain_from world most s t sound inside is =
    let next_to : (k : ℕ) → k < most → next_slot world (slots_from world s k) ≡ Some (slots_from world s (suc k)) =
    λ k below. goes_next world k s (slots_from world s k) (slots_from world s (suc k)) (passes world most k s t is (omega (arith, below))) (passes world most (suc k) s t is (omega (arith, below))) in
    let are_next : (k : ℕ) → k < most → IsNext world (slots_from world s k) (slots_from world s (suc k)) =
    λ k below. next_is world (slots_from world s k) (slots_from world s (suc k)) sound
    (after_inside world k s (slots_from world s k) sound inside (passes world most k s t is (omega (arith, below)))) (next_to k below) in
    record {
      on = next_to;
      back = λ k below. (are_next k below).back;
      other = λ k below. (are_next k below).other;
    }

-- where a chain goes over as many tunnels as there are, its slot stands on a ring
pub ring_by : (world : WorldState) (s t : ℕ) → IsSound world → s < slot_count world → slot_after world (length (all_tunnels world)) s ≡ Some t → IsOnRing world s
ring_by world s t sound inside is =
    let two : slot_count world ≡ 2 * length (all_tunnels world) = two_each world.channels 0 in
    let below : (k : ℕ) → k ≤ length (all_tunnels world) → slots_from world s k / 2 < length (all_tunnels world) =
    λ k within. half_in (slots_from world s k) (length (all_tunnels world))
    (subst (λ (n : ℕ). slots_from world s k < n) two (after_inside world k s (slots_from world s k) sound inside (passes world (length (all_tunnels world)) k s t is within))) in
    let again = comes_back (partner_of world) (slots_from world s) (length (all_tunnels world)) (chain_from world (length (all_tunnels world)) s t sound inside is) below in
    record {
      count = again.0;
      some = again.1;
      back = passes world (length (all_tunnels world)) again.0 s t is again.2 ∙ ap Some again.3;
    }

-- a chain comes to no far slot of its first one
pub no_way_back : (world : WorldState) (count s t : ℕ) → IsSound world → s < slot_count world → slot_after world count s ≡ Some t → s ≢ far t
no_way_back world count s t sound inside is same =
    let sum : 0 + count ≡ count = omega arith in
    let last : slots_from world s count ≡ t = ap (λ (o : Option ℕ). unwrap_or o 0) is in
    never_back (partner_of world) (slots_from world s) count 0 count (chain_from world count s t sound inside is) (omega arith)
    (same ∙ ap far (sym last ∙ ap (slots_from world s) (sym sum)))

-- nor does a walk come to the far slot of one from which it went on
turns_none : (world : WorldState) (s count more t u : ℕ) → IsSound world → s < slot_count world → slot_after world count s ≡ Some t → slot_after world (count + more) s ≡ Some u → t ≢ far u
turns_none world s count more t u sound inside is later =
    no_way_back world more t u sound (after_inside world count s t sound inside is) (sym (after_sum world count more s t is) ∙ later)

pub walks_never_return : WalksNeverReturn
walks_never_return world s count other t u sound inside first second = elim (cases_lt count other) [
  | inl below ↦
      let sum : count + (other - count) ≡ other = omega (arith, below) in
      turns_none world s count (other - count) t u sound inside first (ap (λ (n : ℕ). slot_after world n s) sum ∙ second)
  | inr above ↦
      let sum : other + (count - other) ≡ count = omega (arith, above) in
      λ same. turns_none world s other (count - other) u t sound inside second (ap (λ (n : ℕ). slot_after world n s) sum ∙ first) (sym (far_back u) ∙ ap far (sym same))
]
