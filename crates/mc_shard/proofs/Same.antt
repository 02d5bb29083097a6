-- `==` on signals at ends is equality.
use Rattle.std.proofs.Common.{◌≡◌, ◌<◌, ℕ, suc, List, [], ◌∷◌, length, Some, Bool, true, refl, ap, ◌∙◌, arith}
use Rattle.std.specs.List.{slice_get}
use Rattle.std.proofs.lemmas.Grind.{common_steps}
use Rattle.mc_signal.specs.Same.{is_same_descriptor}
use Rattle.mc_signal.specs.declared.Descriptor.{Descriptor}
use Rattle.mc_signal.specs.declared.Medium.{Medium}
use Rattle.mc_signal.specs.declared.Medium.TheVariants.{Audio, Video}
use Rattle.mc_signal.specs.declared.Selector.{Selector}
use Rattle.mc_signal.specs.declared.Signal.{Signal}
use Rattle.mc_signal.specs.declared.Signal.TheVariants.{Open, Oack, Close, Closeack, Describe, Select}
use Rattle.mc_signal.specs.contracts.SignalPartialEq.TheImpl as signal
use Rattle.mc_signal.proofs.Equal.{descriptor_eq, selector_eq}
use Rattle.mc_shard.specs.Same.{is_same_at}
use Rattle.mc_shard.specs.declared.entry.AtEnd.{AtEnd}

abbrev is_same_signal : Signal → Signal → Bool
is_same_signal = (signal.ghosts).eq

opened : (m n : Medium) (d e : Descriptor) → is_same_signal (Open m d) (Open n e) ≡ true → Open m d ≡ Open n e
opened Audio Audio d e same =
    let is : is_same_descriptor d e ≡ true = grind (arith, common_steps) in
    ap (λ (x : Descriptor). Open Audio x) (descriptor_eq d e is)
opened Audio Video d e same = absurd (cc)
opened Video Audio d e same = absurd (cc)
opened Video Video d e same =
    let is : is_same_descriptor d e ≡ true = grind (arith, common_steps) in
    ap (λ (x : Descriptor). Open Video x) (descriptor_eq d e is)

signal_eq : (a b : Signal) → is_same_signal a b ≡ true → a ≡ b
signal_eq (Open m d) (Open n e) same = opened m n d e same
signal_eq (Open m d) (Oack e) same = absurd (cc)
signal_eq (Open m d) Close same = absurd (cc)
signal_eq (Open m d) Closeack same = absurd (cc)
signal_eq (Open m d) (Describe e) same = absurd (cc)
signal_eq (Open m d) (Select e) same = absurd (cc)
signal_eq (Oack d) (Open n e) same = absurd (cc)
signal_eq (Oack d) (Oack e) same = ap (λ (x : Descriptor). Oack x) (descriptor_eq d e same)
signal_eq (Oack d) Close same = absurd (cc)
signal_eq (Oack d) Closeack same = absurd (cc)
signal_eq (Oack d) (Describe e) same = absurd (cc)
signal_eq (Oack d) (Select e) same = absurd (cc)
signal_eq Close (Open n e) same = absurd (cc)
signal_eq Close (Oack e) same = absurd (cc)
signal_eq Close Close same = refl
signal_eq Close Closeack same = absurd (cc)
signal_eq Close (Describe e) same = absurd (cc)
signal_eq Close (Select e) same = absurd (cc)
signal_eq Closeack (Open n e) same = absurd (cc)
signal_eq Closeack (Oack e) same = absurd (cc)
signal_eq Closeack Close same = absurd (cc)
signal_eq Closeack Closeack same = refl
signal_eq Closeack (Describe e) same = absurd (cc)
signal_eq Closeack (Select e) same = absurd (cc)
signal_eq (Describe d) (Open n e) same = absurd (cc)
signal_eq (Describe d) (Oack e) same = absurd (cc)
signal_eq (Describe d) Close same = absurd (cc)
signal_eq (Describe d) Closeack same = absurd (cc)
signal_eq (Describe d) (Describe e) same = ap (λ (x : Descriptor). Describe x) (descriptor_eq d e same)
signal_eq (Describe d) (Select e) same = absurd (cc)
signal_eq (Select d) (Open n e) same = absurd (cc)
signal_eq (Select d) (Oack e) same = absurd (cc)
signal_eq (Select d) Close same = absurd (cc)
signal_eq (Select d) Closeack same = absurd (cc)
signal_eq (Select d) (Describe e) same = absurd (cc)
signal_eq (Select d) (Select e) same = ap (λ (x : Selector). Select x) (selector_eq d e same)

pub at_eq : (a b : AtEnd) → is_same_at a b ≡ true → a ≡ b
at_eq a b same =
    let end : a.end ≡ b.end = grind (arith, common_steps) in
    let number : a.item.number ≡ b.item.number = grind (arith, common_steps) in
    let stamp : a.item.stamp ≡ b.item.stamp = grind (arith, common_steps) in
    let digest : a.item.digest ≡ b.item.digest = grind (arith, common_steps) in
    let tunnel : a.item.tunnel ≡ b.item.tunnel = grind (arith, common_steps) in
    let is : is_same_signal a.item.signal b.item.signal ≡ true = grind (arith, common_steps) in
    let signal : a.item.signal ≡ b.item.signal = signal_eq a.item.signal b.item.signal is in
    let fields : (a.end, a.item.number, a.item.stamp, a.item.digest, a.item.tunnel, a.item.signal) ≡ (b.end, b.item.number, b.item.stamp, b.item.digest, b.item.tunnel, b.item.signal) = cc in
    ap (λ (t : ℕ × ℕ × ℕ × ℕ × ℕ × Signal). record { end = t.0; item = record { number = t.1; stamp = t.2; digest = t.3; tunnel = t.4; signal = t.5 } }) fields

-- lists with the same at each place
pub same_by_get : (xs ys : List AtEnd) → length xs ≡ length ys → ((k : ℕ) → k < length xs → slice_get xs k ≡ slice_get ys k) → xs ≡ ys
same_by_get [] [] long same = refl
same_by_get [] (y ∷ ys) long same = absurd (omega arith)
same_by_get (x ∷ xs) [] long same = absurd (omega arith)
same_by_get (x ∷ xs) (y ∷ ys) long same =
    let first : Some x ≡ Some y = same 0 (omega arith) in
    let here : x ≡ y = cc in
    let longs : length xs ≡ length ys = omega arith in
    let rest : xs ≡ ys = same_by_get xs ys longs (λ k inside. same (suc k) (omega arith)) in
    ap (λ (z : AtEnd). z ∷ xs) here ∙ ap (λ (l : List AtEnd). y ∷ l) rest
