-- Two slots of one list, each changed in its own part of the list.
use Rattle.std.proofs.Common.{◌≡◌, ℕ, ◌+◌, ◌<◌, ◌++◌, Option, Some, List, [], ◌∷◌, drop, length, map, take, zero, suc, refl, ap, sym, ◌∙◌, subst, arith}
use Rattle.std.proofs.Math.ListN.{get_or, set}
use Rattle.std.proofs.lemmas.List.{get_or-drop, get_or-take, get_or_read}
use Rattle.mc_link.specs.LinkTurn.{link_turn, sent_by_first, sent_by_second, with_number}
use Rattle.mc_link.specs.declared.Side.{Side}
use Rattle.mc_signal.specs.declared.Signal.{Signal}
use Rattle.mc_slot.specs.Moves.{slot_send_all}
use Rattle.mc_slot.specs.declared.Slot.{Slot}
use Rattle.mc_box.specs.BoxEvents.{Appends, pair_step}
use Rattle.mc_box.specs.Boxes.{BoxState, no_slot, slot_at}
use Rattle.mc_box.proofs.Held.{box_with}

-- the first of the rest is the one at the seam
set_seam : (xs : List Slot) (at : ℕ) (x : Slot) → at < length xs → take at xs ++ set (drop at xs) 0 x ≡ set xs at x
set_seam [] at x inside = absurd (omega arith)
set_seam (y ∷ xs) zero x inside = refl
set_seam (y ∷ xs) (suc at) x inside = ap (λ (l : List Slot). y ∷ l) (set_seam xs at x (omega arith))

-- one is changed before the seam and one at it
pub set_both : (xs : List Slot) (low high : ℕ) (first second : Slot) → low < high → high < length xs
    → set (take high xs) low first ++ set (drop high xs) 0 second ≡ set (set xs low first) high second
set_both [] low high first second order inside = absurd (omega arith)
set_both (x ∷ xs) low zero first second order inside = absurd (omega arith)
set_both (x ∷ xs) zero (suc high) first second order inside = ap (λ (l : List Slot). first ∷ l) (set_seam xs high second (omega arith))
set_both (x ∷ xs) (suc low) (suc high) first second order inside = ap (λ (l : List Slot). x ∷ l) (set_both xs low high first second (omega arith) (omega arith))

-- what is read before the seam
pub read_before : (xs lower : List Slot) (low high : ℕ) (read : Slot) → low < high → high < length xs → lower ≡ take high xs → read ≡ get_or lower low read
    → get_or lower low read ≡ get_or xs low no_slot
read_before xs lower low high read order inside is there =
    sym there
    ∙ get_or_read xs low read (omega arith) (there ∙ (ap (λ (l : List Slot). get_or l low read) is ∙ get_or-take high xs low read order)) no_slot

-- and at it
pub read_seam : (xs rest : List Slot) (at : ℕ) (read : Slot) → at < length xs → rest ≡ drop at xs → read ≡ get_or rest 0 read → get_or rest 0 read ≡ get_or xs at no_slot
read_seam xs rest at read inside is there =
    let same : at + 0 ≡ at = omega arith in
    let behind : get_or (drop at xs) 0 read ≡ get_or xs at read = subst (λ (k : ℕ). get_or (drop at xs) 0 read ≡ get_or xs k read) same (get_or-drop at xs 0 read) in
    sym there ∙ get_or_read xs at read inside (there ∙ (ap (λ (l : List Slot). get_or l 0 read) is ∙ behind)) no_slot

-- a link's turn, of two slots as they were read and then stand in the box
pub pair_made : (box : BoxState) (low high : ℕ) (closed : Option Side) (a b first second : Slot) (after : List Slot) (before items : List (ℕ × Signal))
    → a ≡ slot_at box low → b ≡ slot_at box high → after ≡ set (set box.slots low first) high second
    → slot_send_all a (sent_by_first (link_turn a b closed)) ≡ Some first → slot_send_all b (sent_by_second (link_turn a b closed)) ≡ Some second
    → items ≡ before ++ map (with_number low high) (link_turn a b closed)
    → Appends (pair_step box low high closed) (box_with box after) before items
pair_made box low high closed a b first second after before items a_is b_is after_is first_goes second_goes sends =
    let one : slot_send_all (slot_at box low) (sent_by_first (link_turn (slot_at box low) (slot_at box high) closed)) ≡ Some first =
    subst (λ (t : Slot). slot_send_all (slot_at box low) (sent_by_first (link_turn (slot_at box low) t closed)) ≡ Some first) b_is
    (subst (λ (s : Slot). slot_send_all s (sent_by_first (link_turn s b closed)) ≡ Some first) a_is first_goes) in
    let two : slot_send_all (slot_at box high) (sent_by_second (link_turn (slot_at box low) (slot_at box high) closed)) ≡ Some second =
    subst (λ (t : Slot). slot_send_all t (sent_by_second (link_turn (slot_at box low) t closed)) ≡ Some second) b_is
    (subst (λ (s : Slot). slot_send_all b (sent_by_second (link_turn s b closed)) ≡ Some second) a_is second_goes) in
    record {
      sent = map (with_number low high) (link_turn (slot_at box low) (slot_at box high) closed);
      goes = rw (one, two, after_is) refl;
      appended = subst (λ (t : Slot). items ≡ before ++ map (with_number low high) (link_turn (slot_at box low) t closed)) b_is
          (subst (λ (s : Slot). items ≡ before ++ map (with_number low high) (link_turn s b closed)) a_is sends);
    }
