-- One count of a list that is set anew.
use Rattle.std.proofs.Common.{◌≡◌, ◌<◌, ℕ, List, length, ap, sym, ◌∙◌, arith}
use Rattle.std.proofs.Math.ListN.{get_or, set}
use Rattle.std.proofs.lemmas.List.{get_or-set_same, length-set, set-set}

-- it is as long
pub set_long : (start now : List ℕ) (who count : ℕ) → now ≡ set start who count → length now ≡ length start
set_long start now who count is = ap length is ∙ length-set start who count

-- set twice, it has the second count
pub set_again : (start now next : List ℕ) (who count : ℕ) → who < length start → now ≡ set start who (get_or now who 0) → next ≡ set now who count → (next ≡ set start who (get_or next who 0)) × (get_or next who 0 ≡ count)
set_again start now next who count inside one is =
    let there : who < length now = (let long = set_long start now who (get_or now who 0) one in omega arith) in
    let at : get_or next who 0 ≡ count = ap (λ (l : List ℕ). get_or l who 0) is ∙ get_or-set_same now who count 0 there in (
      is ∙ (ap (λ (l : List ℕ). set l who count) one ∙ (set-set start who (get_or now who 0) count ∙ ap (λ (n : ℕ). set start who n) (sym at))),
      at,
    )
