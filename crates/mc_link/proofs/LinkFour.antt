-- The turn of a link is at most four signals.
use Rattle.std.proofs.Common.{◌≡◌, ◌+◌, ◌≤◌, ◌&&◌, Bool, true, false, if◌then◌else◌, Option, Some, None, List, length, refl, ap, ◌∙◌, arith}
use Rattle.mc_signal.specs.declared.Signal.{Signal}
use Rattle.mc_slot.specs.Moves.{is_live}
use Rattle.mc_slot.specs.declared.Slot.{Slot}
use Rattle.mc_link.specs.LinkTurn.{can_close, descriptor_due, lean, link_turn, selector_due}
use Rattle.mc_link.specs.declared.Side.{Side}
use Rattle.mc_link.specs.declared.Side.TheVariants.{First, Second}
use Rattle.mc_link.proofs.LinkThree.{calm_one, chooses_one, passes_one}
use Rattle.mc_link.proofs.Parts.{both, live_both}
use Rattle.mc_link.proofs.Sides.{four_length}

lean_by : (live : Bool) (a b : Slot) → is_live a.state && is_live b.state ≡ live → length (lean a b) ≤ 4
lean_by false a b is = omega (arith, calm_one None a b is)
lean_by true a b is =
    let live = both (is_live a.state) (is_live b.state) is in
    let same : length (lean a b) ≡ length (descriptor_due a b) + length (descriptor_due b a) + length (selector_due a b) + length (selector_due b a) =
    ap (λ (l : List (Side × Signal)). length l) (live_both a b live.0 live.1) ∙ four_length (descriptor_due a b) (descriptor_due b a) (selector_due a b) (selector_due b a) in
    omega (arith, same, passes_one a b, passes_one b a, chooses_one a b, chooses_one b a)

lean_four : (a b : Slot) → length (lean a b) ≤ 4
lean_four a b = lean_by (is_live a.state && is_live b.state) a b refl

one_or : (close : Bool) (one more : List (Side × Signal)) → length one ≤ 4 → length more ≤ 4 → length (if close then one else more) ≤ 4
one_or true one more first second = first
one_or false one more first second = second

pub link_four : (closed : Option Side) (a b : Slot) → length (link_turn a b closed) ≤ 4
link_four None a b = lean_four a b
link_four (Some First) a b = one_or (can_close b.state) _ _ (omega arith) (lean_four a b)
link_four (Some Second) a b = one_or (can_close a.state) _ _ (omega arith) (lean_four a b)
