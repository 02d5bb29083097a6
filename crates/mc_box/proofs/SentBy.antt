-- What one slot sends, of all that is sent.
use Rattle.std.proofs.Common.{◌≡◌, ◌≢◌, ◌==◌, ℕ, Bool, true, false, if◌then◌else◌, List, [], ◌∷◌, ◌++◌, map, refl, ap, sym}
use Rattle.std.proofs.lemmas.Bool.{eq-eqb, ne_eqb}
use Rattle.mc_link.specs.LinkTurn.{with_number, sent_by_first, sent_by_second}
use Rattle.mc_link.specs.declared.Side.{Side}
use Rattle.mc_link.specs.declared.Side.TheVariants.{First, Second}
use Rattle.mc_signal.specs.declared.Signal.{Signal}
use Rattle.mc_slot.specs.Sending.{pair_of}
use Rattle.mc_box.specs.Acting.{sent_by}

append_by : (here : Bool) (signal : Signal) (one whole more : List Signal) → whole ≡ one ++ more
    → (if here then signal ∷ whole else whole) ≡ (if here then signal ∷ one else one) ++ more
append_by true signal one whole more is = ap (λ (l : List Signal). signal ∷ l) is
append_by false signal one whole more is = is

-- of two lists it sends its part of the one, and then of the other
pub sent_by-append : (local : ℕ) (some more : List (ℕ × Signal)) → sent_by local (some ++ more) ≡ sent_by local some ++ sent_by local more
sent_by-append local [] more = refl
sent_by-append local (sending ∷ rest) more =
    append_by (sending.0 == local) sending.1 (sent_by local rest) (sent_by local (rest ++ more)) (sent_by local more) (sent_by-append local rest more)

here_by : (here : Bool) (signal : Signal) (rest signals : List Signal) → here ≡ true → rest ≡ signals → (if here then signal ∷ rest else rest) ≡ signal ∷ signals
here_by true signal rest signals is same = ap (λ (l : List Signal). signal ∷ l) same
here_by false signal rest signals is same = absurd (cc)

else_by : (here : Bool) (signal : Signal) (rest signals : List Signal) → here ≡ false → rest ≡ signals → (if here then signal ∷ rest else rest) ≡ signals
else_by true signal rest signals is same = absurd (cc)
else_by false signal rest signals is same = same

-- all that has its number
pub sent_by_own : (local : ℕ) (signals : List Signal) → sent_by local (map (pair_of local) signals) ≡ signals
sent_by_own local [] = refl
sent_by_own local (signal ∷ signals) =
    here_by (local == local) signal (sent_by local (map (pair_of local) signals)) signals (eq-eqb local local refl) (sent_by_own local signals)

-- and nothing that has another's
pub sent_by_other : (k local : ℕ) (signals : List Signal) → k ≢ local → sent_by k (map (pair_of local) signals) ≡ []
sent_by_other k local [] other = refl
sent_by_other k local (signal ∷ signals) other =
    else_by (local == k) signal (sent_by k (map (pair_of local) signals)) [] (ne_eqb local k (λ same. other (sym same))) (sent_by_other k local signals other)

-- of what a link sends, the first slot's part
pub sent_by_low : (low high : ℕ) (l : List (Side × Signal)) → low ≢ high → sent_by low (map (with_number low high) l) ≡ sent_by_first l
sent_by_low low high [] other = refl
sent_by_low low high ((First, signal) ∷ l) other =
    here_by (low == low) signal (sent_by low (map (with_number low high) l)) (sent_by_first l) (eq-eqb low low refl) (sent_by_low low high l other)
sent_by_low low high ((Second, signal) ∷ l) other =
    else_by (high == low) signal (sent_by low (map (with_number low high) l)) (sent_by_first l) (ne_eqb high low (λ same. other (sym same))) (sent_by_low low high l other)

-- the second slot's
pub sent_by_high : (low high : ℕ) (l : List (Side × Signal)) → low ≢ high → sent_by high (map (with_number low high) l) ≡ sent_by_second l
sent_by_high low high [] other = refl
sent_by_high low high ((First, signal) ∷ l) other =
    else_by (low == high) signal (sent_by high (map (with_number low high) l)) (sent_by_second l) (ne_eqb low high other) (sent_by_high low high l other)
sent_by_high low high ((Second, signal) ∷ l) other =
    here_by (high == high) signal (sent_by high (map (with_number low high) l)) (sent_by_second l) (eq-eqb high high refl) (sent_by_high low high l other)

-- and any other slot's
pub sent_by_neither : (k low high : ℕ) (l : List (Side × Signal)) → k ≢ low → k ≢ high → sent_by k (map (with_number low high) l) ≡ []
sent_by_neither k low high [] below above = refl
sent_by_neither k low high ((First, signal) ∷ l) below above =
    else_by (low == k) signal (sent_by k (map (with_number low high) l)) [] (ne_eqb low k (λ same. below (sym same))) (sent_by_neither k low high l below above)
sent_by_neither k low high ((Second, signal) ∷ l) below above =
    else_by (high == k) signal (sent_by k (map (with_number low high) l)) [] (ne_eqb high k (λ same. above (sym same))) (sent_by_neither k low high l below above)
