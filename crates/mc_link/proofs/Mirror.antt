-- A link, seen from its second slot.
use Rattle.std.proofs.Common.{◌≡◌, ◌+◌, ◌&&◌, Option, Some, None, Bool, true, false, if◌then◌else◌, List, [], ◌∷◌, ◌++◌, length, refl, ap, sym, ◌∙◌, arith}
use Rattle.std.proofs.lemmas.List.{nil_from_length}
use Rattle.mc_signal.specs.declared.Signal.{Signal}
use Rattle.mc_signal.specs.declared.Signal.TheVariants.{Close}
use Rattle.mc_slot.specs.Moves.{is_live}
use Rattle.mc_slot.specs.declared.Cause.{Cause}
use Rattle.mc_slot.specs.declared.Cause.TheVariants.{Other, Close as ByClose, Push}
use Rattle.mc_slot.specs.declared.Slot.{Slot}
use Rattle.mc_link.specs.LinkLaws.{other_side, LinkMirror}
use Rattle.mc_link.specs.LinkTurn.{IsLinkAtRest, can_close, selector_due, lean, link_turn, descriptor_due, sent_by_first, sent_by_second, closed_side}
use Rattle.mc_link.specs.declared.Side.{Side}
use Rattle.mc_link.specs.declared.Side.TheVariants.{First, Second}
use Rattle.mc_link.proofs.Parts.{both, live_both}
use Rattle.mc_link.proofs.Sides.{first_of_four, second_of_four}

-- what is sent is what the one and what the other sends
pub sides_length : (l : List (Side × Signal)) → length l ≡ length (sent_by_first l) + length (sent_by_second l)
sides_length [] = refl
sides_length ((First, signal) ∷ rest) = omega (arith, sides_length rest)
sides_length ((Second, signal) ∷ rest) = omega (arith, sides_length rest)

-- where one of the two isn't live, an open at most is sent
calm_mirror : (a b : Slot) → is_live a.state && is_live b.state ≡ false → sent_by_first (lean b a) ≡ sent_by_second (lean a b)
calm_mirror a b calm = grind (arith)

-- by whether both are live
mirror_by : (live : Bool) (a b : Slot) → is_live a.state && is_live b.state ≡ live → sent_by_first (lean b a) ≡ sent_by_second (lean a b)
mirror_by false a b is = calm_mirror a b is
mirror_by true a b is =
    let live = both (is_live a.state) (is_live b.state) is in
    let turned : sent_by_first (lean b a) ≡ descriptor_due b a ++ selector_due b a =
    ap sent_by_first (live_both b a live.1 live.0) ∙ first_of_four (descriptor_due b a) (descriptor_due a b) (selector_due b a) (selector_due a b) in
    let straight : sent_by_second (lean a b) ≡ descriptor_due b a ++ selector_due b a =
    ap sent_by_second (live_both a b live.0 live.1) ∙ second_of_four (descriptor_due a b) (descriptor_due b a) (selector_due a b) (selector_due b a) in
    turned ∙ sym straight

-- what a slot sends by the states, as the first and as the second
lean_mirror : (a b : Slot) → sent_by_first (lean b a) ≡ sent_by_second (lean a b)
lean_mirror a b = mirror_by (is_live a.state && is_live b.state) a b refl

-- each side sends the same
abbrev SidesMirror : List (Side × Signal) → List (Side × Signal) → Type 0
SidesMirror turned straight = (sent_by_first turned ≡ sent_by_second straight) × (sent_by_second turned ≡ sent_by_first straight)

-- a close of the first slot
first_closes : (closes : Bool) (a b : Slot)
    → SidesMirror (if closes then (First, Close) ∷ [] else lean b a) (if closes then (Second, Close) ∷ [] else lean a b)
first_closes true a b = (refl, refl)
first_closes false a b = (lean_mirror a b, sym (lean_mirror b a))

-- a close of the second slot
second_closes : (closes : Bool) (a b : Slot)
    → SidesMirror (if closes then (Second, Close) ∷ [] else lean b a) (if closes then (First, Close) ∷ [] else lean a b)
second_closes true a b = (refl, refl)
second_closes false a b = (lean_mirror a b, sym (lean_mirror b a))

-- by the slot that is closed
sides_mirror : (closed : Option Side) (a b : Slot) → SidesMirror (link_turn b a (other_side closed)) (link_turn a b closed)
sides_mirror None a b = (lean_mirror a b, sym (lean_mirror b a))
sides_mirror (Some First) a b = first_closes (can_close b.state) a b
sides_mirror (Some Second) a b = second_closes (can_close a.state) a b

-- two links whose sides send the same send as much
length_mirror : (turned straight : List (Side × Signal)) → SidesMirror turned straight → length turned ≡ length straight
length_mirror turned straight same =
    let first : length (sent_by_first turned) ≡ length (sent_by_second straight) = ap (λ (l : List Signal). length l) same.0 in
    let second : length (sent_by_second turned) ≡ length (sent_by_first straight) = ap (λ (l : List Signal). length l) same.1 in
    omega (arith, first, second, sides_length turned, sides_length straight)

-- both sides, and the length
pub link_mirror : LinkMirror
link_mirror a b closed =
    let same = sides_mirror closed a b in
    (same.0, same.1, length_mirror (link_turn b a (other_side closed)) (link_turn a b closed) same)

-- so a link at rest rests whichever slot is called the first
pub mirror_rests : (a b : Slot) → IsLinkAtRest a b → IsLinkAtRest b a
mirror_rests a b rest =
    let same : length (link_turn b a None) ≡ length (link_turn a b None) = (link_mirror a b None).2 in
    nil_from_length (link_turn b a None) (same ∙ ap (λ (l : List (Side × Signal)). length l) rest)

-- a side that is named by a taken close, seen from the other side
pub side_turned : (cause : Cause) → closed_side cause Second ≡ other_side (closed_side cause First)
side_turned Other = refl
side_turned ByClose = refl
side_turned Push = refl
