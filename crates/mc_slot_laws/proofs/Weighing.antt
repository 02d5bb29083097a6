-- Weights as plain numbers, so that what is left to prove is linear.
use Rattle.std.proofs.Common.{◌≡◌, ◌≤◌, ◌<◌, ◌+◌, ◌*◌, ℕ, List, [], ◌∷◌, refl, arith}
use Rattle.mc_signal.specs.declared.Signal.{Signal}
use Rattle.mc_signal.specs.declared.Signal.TheVariants.{Open, Oack, Close, Closeack, Describe, Select}
use Rattle.std.proofs.Math.Nat.{mul-le-mul_left}
use Rattle.mc_slot_laws.specs.Weights.{weight, weights}

-- a signal's weight, by the weight of a select, of a describe, of an oack and of an open
abbrev pub weigh : ℕ → ℕ → ℕ → ℕ → Signal → ℕ
weigh u v w z (Open medium d) = z
weigh u v w z (Oack d) = w
weigh u v w z (Describe d) = v
weigh u v w z Close = v
weigh u v w z (Select s) = u
weigh u v w z Closeack = u

-- the weight of a list
abbrev pub weigh_all : ℕ → ℕ → ℕ → ℕ → List Signal → ℕ
weigh_all u v w z [] = 0
weigh_all u v w z (signal ∷ signals) = weigh u v w z signal + weigh_all u v w z signals

-- the weights of one tunnel
pub weigh_one : (n : ℕ) (signal : Signal) → weight n signal ≡ weigh 1 n (n * n) (n * (n * n)) signal
weigh_one n (Open medium d) = refl
weigh_one n (Oack d) = refl
weigh_one n (Describe d) = refl
weigh_one n Close = refl
weigh_one n (Select s) = refl
weigh_one n Closeack = refl

-- and of y tunnels, as plain numbers
pub weigh_times : (n y : ℕ) (signal : Signal) → y * weight n signal ≡ weigh y (y * n) (y * (n * n)) (y * (n * (n * n))) signal
weigh_times n y (Open medium d) = refl
weigh_times n y (Oack d) = refl
weigh_times n y (Describe d) = refl
weigh_times n y Close = refl
weigh_times n y (Select s) = omega arith
weigh_times n y Closeack = omega arith

-- and so for a list
pub weigh_list : (n y : ℕ) (signals : List Signal) → y * weights n signals ≡ weigh_all y (y * n) (y * (n * n)) (y * (n * (n * n))) signals
weigh_list n y [] = omega arith
weigh_list n y (signal ∷ signals) = omega (arith, weigh_times n y signal, weigh_list n y signals)

-- b and c are the next powers of n, and yn, yb and yc are these y times: what the four kinds of signals pay for
pub record Pays (n b c y yn yb yc : ℕ) : Type 0 where
  pub select : y + 1 ≤ n
  pub describe : yn + y + 1 ≤ b
  pub oack : yb + y + 1 ≤ c
  pub least : 1 ≤ y
  pub one : y ≤ yn
  pub two : yn ≤ yb
  pub three : yb ≤ yc

-- the powers of n pay for y of the next lower power
pub pays : (n y : ℕ) → 1 ≤ y → y < n → Pays n (n * n) (n * (n * n)) y (y * n) (y * (n * n)) (y * (n * (n * n)))
pays n y some less =
    let square : (y + 1) * n ≤ n * n = grind (arith) in
    let cube : (y + 1) * (n * n) ≤ n * (n * n) = grind (arith) in
    let n_square : n ≤ n * n = grind (arith) in
    let one : y * 1 ≤ y * n = mul-le-mul_left y (omega arith) in
    let two : y * n ≤ y * (n * n) = mul-le-mul_left y n_square in
    let square_cube : n * n ≤ n * (n * n) = mul-le-mul_left n n_square in
    let three : y * (n * n) ≤ y * (n * (n * n)) = mul-le-mul_left y square_cube in
    record { select = omega arith; describe = omega arith; oack = omega arith; least = some; one = omega arith; two = two; three = three }
