-- What the parts of a link's turn weigh.
use Rattle.std.proofs.Common.{◌≡◌, ◌≤◌, ◌<◌, ◌+◌, ◌*◌, ℕ, true, List, [], ◌∷◌, ◌++◌, refl, ap, ◌∙◌, arith}
use Rattle.std.proofs.Math.Nat.{mul-le-mul_left}
use Rattle.mc_signal.specs.declared.Signal.{Signal}
use Rattle.mc_slot.specs.Moves.{is_live}
use Rattle.mc_slot.specs.declared.Slot.{Slot}
use Rattle.mc_slot.specs.declared.State.TheVariants.{Opened, Flowing}
use Rattle.mc_slot_laws.proofs.Weighing.{weigh, weigh_all, pays}
use Rattle.mc_link.specs.LinkTurn.{selector_due, lean, descriptor_due, sent_by_first, sent_by_second}
use Rattle.mc_link.specs.declared.Side.{Side}
use Rattle.mc_link.proofs.Parts.{live_both}
use Rattle.mc_link.proofs.Sides.{first_of_four, second_of_four}

-- the weight of a select and of a closeack, of a describe and of a close, of an oack, and of an open
pub record Rates : Type 0 where
  pub select : ℕ
  pub describe : ℕ
  pub oack : ℕ
  pub asking : ℕ

-- a signal's weight
abbrev pub weigh_at : Rates → Signal → ℕ
weigh_at rates signal = weigh rates.select rates.describe rates.oack rates.asking signal

-- the weight of a list
abbrev pub total_at : Rates → List Signal → ℕ
total_at rates signals = weigh_all rates.select rates.describe rates.oack rates.asking signals

-- two lists together
total-append : (rates : Rates) (first second : List Signal) → total_at rates (first ++ second) ≡ total_at rates first + total_at rates second
total-append rates [] second = omega arith
total-append rates (signal ∷ signals) second = omega (arith, total-append rates signals second)

-- what each of two live slots sends weighs what its two parts weigh
pub record Weighed (a b : Slot) : Type 0 where
  pub first : (rates : Rates) → total_at rates (sent_by_first (lean a b)) ≡ total_at rates (descriptor_due a b) + total_at rates (selector_due a b)
  pub second : (rates : Rates) → total_at rates (sent_by_second (lean a b)) ≡ total_at rates (descriptor_due b a) + total_at rates (selector_due b a)

-- by the four parts
pub weighed : (a b : Slot) → is_live a.state ≡ true → is_live b.state ≡ true → Weighed a b
weighed a b a_live b_live =
    let same = live_both a b a_live b_live in
    let first = ap (λ (l : List (Side × Signal)). sent_by_first l) same ∙ first_of_four (descriptor_due a b) (descriptor_due b a) (selector_due a b) (selector_due b a) in
    let second = ap (λ (l : List (Side × Signal)). sent_by_second l) same ∙ second_of_four (descriptor_due a b) (descriptor_due b a) (selector_due a b) (selector_due b a) in
    record {
      first = λ rates. ap (total_at rates) first ∙ total-append rates (descriptor_due a b) (selector_due a b);
      second = λ rates. ap (total_at rates) second ∙ total-append rates (descriptor_due b a) (selector_due b a);
    }

-- a flowing slot passes on a describe at most
pub flowing_passes : (rates : Rates) (a b : Slot) → a.state ≡ Flowing → total_at rates (descriptor_due a b) ≤ rates.describe
flowing_passes rates a b is = grind (arith)

-- an opened slot passes on an oack at most
pub opened_passes : (rates : Rates) (a b : Slot) → a.state ≡ Opened → total_at rates (descriptor_due a b) ≤ rates.oack
opened_passes rates a b is = grind (arith)

-- and each slot passes on a select at most
pub chooses_select : (rates : Rates) (a b : Slot) → total_at rates (selector_due a b) ≤ rates.select
chooses_select rates a b = grind (arith)

-- what a signal pays for: one is the rates of its own tunnel, near those of the first slot's side, and far those of the second's
pub record Payment (one near far : Rates) : Type 0 where
  pub unit : one.select ≡ 1
  pub select : near.select + 1 ≤ one.describe
  pub describe : near.describe + near.select + 1 ≤ one.oack
  pub oack : near.oack + near.select + 1 ≤ one.asking
  pub near_some : 1 ≤ near.select
  pub near_describe : near.select ≤ near.describe
  pub near_oack : near.describe ≤ near.oack
  pub near_asking : near.oack ≤ near.asking
  pub far_some : 1 ≤ far.select
  pub far_describe : far.select ≤ far.describe
  pub far_oack : far.describe ≤ far.oack
  pub far_asking : far.oack ≤ far.asking

-- what each kind of signal weighs over some tunnels, by powers of n
abbrev pub rates_of : ℕ → ℕ → Rates
rates_of n tunnels = record { select = tunnels; describe = tunnels * n; oack = tunnels * (n * n); asking = tunnels * (n * (n * n)) }

-- the rates of one tunnel
abbrev pub own_rates : ℕ → Rates
own_rates n = record { select = 1; describe = n; oack = n * n; asking = n * (n * n) }

-- over more tunnels each rate is at most the next
rising : (n x : ℕ) → 1 ≤ n → (x ≤ x * n) × (x * n ≤ x * (n * n)) × (x * (n * n) ≤ x * (n * (n * n)))
rising n x some =
    let square : n ≤ n * n = grind (arith) in
    let one : x * 1 ≤ x * n = mul-le-mul_left x some in
    let two : x * n ≤ x * (n * n) = mul-le-mul_left x square in
    let cube : n * n ≤ n * (n * n) = mul-le-mul_left n square in
    let three : x * (n * n) ≤ x * (n * (n * n)) = mul-le-mul_left x cube in
    (omega arith, two, three)

-- where fewer than n tunnels lie on the first slot's side, each signal pays
pub payment : (n x y : ℕ) → 1 ≤ x → 1 ≤ y → y < n → Payment (own_rates n) (rates_of n y) (rates_of n x)
payment n x y x_some y_some less =
    let near = pays n y y_some less in
    let far = rising n x (omega arith) in
    record {
      unit = refl;
      select = near.select;
      describe = near.describe;
      oack = near.oack;
      near_some = near.least;
      near_describe = near.one;
      near_oack = near.two;
      near_asking = near.three;
      far_some = x_some;
      far_describe = far.0;
      far_oack = far.1;
      far_asking = far.2;
    }
