-- The turn of a goal: what it leaves as it was, what comes to rest, and how much it sends.
use Rattle.std.proofs.Common.{◌≡◌, ◌≢◌, ℕ, ◌<◌, ◌≤◌, Bool, Option, Some, List, [], ◌∷◌, ◌++◌, map, inl, inr, length, max, min, refl, ap, sym, ◌∙◌, subst, arith}
use Rattle.std.specs.Option.{option_map}
use Rattle.std.proofs.Math.ListN.{get_or, set, length-set}
use Rattle.std.proofs.lemmas.Bool.{cases_eq}
use Rattle.std.proofs.lemmas.List.{get_or-set_same, get_or-set_other, length-map}
use Rattle.mc_link.specs.LinkTurn.{link_turn, with_number, sent_by_first, sent_by_second, IsLinkAtRest, closed_side}
use Rattle.mc_link.specs.declared.Side.{Side}
use Rattle.mc_goal.proofs.Few.{due_two}
use Rattle.mc_link.proofs.LinkFour.{link_four}
use Rattle.mc_link.proofs.LinkRests.{link_rests}
use Rattle.mc_signal.specs.declared.Signal.{Signal}
use Rattle.mc_slot.specs.EndTurn.{end_turn, is_push}
use Rattle.mc_slot.specs.Moves.{slot_send, slot_send_all}
use Rattle.mc_slot.specs.Sending.{pair_of}
use Rattle.mc_slot.specs.Tunnel.{Kept}
use Rattle.mc_slot.specs.declared.Cause.{Cause}
use Rattle.mc_slot.specs.declared.Goal.{Goal}
use Rattle.mc_slot.specs.declared.Slot.{Slot}
use Rattle.mc_slot.specs.declared.SlotGoal.{SlotGoal}
use Rattle.mc_slot.specs.declared.SlotGoal.TheVariants.{End, Link}
use Rattle.mc_slot_laws.proofs.EndRests.{rests_kept}
use Rattle.mc_box.specs.BoxEvents.{BoxStep, end_step, goal_step, pair_step, side_of, goal_step_by, turn_length_by}
use Rattle.mc_box.specs.BoxSound.{IsWired, RestsAt}
use Rattle.mc_box.specs.Goals.{most_signals}
use Rattle.mc_box.specs.Boxes.{BoxState, no_slot, slot_at, goal_at, media_at, own, sender, with_slot}
use Rattle.mc_box.proofs.Held.{at_max, at_min, elsewhere_rests, held, Lacks, own_put, put_all, RestsBut, rests_there, rests_turned, sender_put, wired_slot, wired_slots, box_with}
use Rattle.mc_box.proofs.Options.{map_some, then_some}

-- ---- what sending leaves

sent_medium : (slot : Slot) (signal : Signal) (after : Slot) → slot_send slot signal ≡ Some after → after.medium ≡ slot.medium
sent_medium slot signal after goes = grind arith

sent_kept : (slot : Slot) (signal : Signal) (after : Slot) → slot_send slot signal ≡ Some after → Kept slot → Kept after
sent_kept slot signal after goes kept = grind arith

-- a slot keeps its medium, whatever it sends
pub all_medium : (signals : List Signal) (slot after : Slot) → slot_send_all slot signals ≡ Some after → after.medium ≡ slot.medium
all_medium [] slot after goes = let same : slot ≡ after = cc in ap (λ (s : Slot). s.medium) (sym same)
all_medium (signal ∷ signals) slot after goes =
    let one = then_some (λ (next : Slot). slot_send_all next signals) (slot_send slot signal) after goes in
    all_medium signals one.0 after one.2 ∙ sent_medium slot signal one.0 one.1

-- and keeps what its state allows
pub all_kept : (signals : List Signal) (slot after : Slot) → slot_send_all slot signals ≡ Some after → Kept slot → Kept after
all_kept [] slot after goes kept = let same : slot ≡ after = cc in subst (λ (s : Slot). Kept s) same kept
all_kept (signal ∷ signals) slot after goes kept =
    let one = then_some (λ (next : Slot). slot_send_all next signals) (slot_send slot signal) after goes in
    all_kept signals one.0 after one.2 (sent_kept slot signal one.0 one.1 kept)

-- ---- how much a turn sends

-- at most an end's two signals, or a link's four
pub turn_most : (goal : SlotGoal) (box : BoxState) (local : ℕ) (cause : Cause) → turn_length_by goal box local cause ≤ most_signals goal
turn_most (End goal) box local cause = due_two goal (slot_at box local) (is_push cause) (own box local) (sender box local)
turn_most (Link partner) box local cause = link_four (closed_side cause (side_of local partner)) (slot_at box (min local partner)) (slot_at box (max local partner))

pub most_four : (goal : SlotGoal) → most_signals goal ≤ 4
most_four (End goal) = omega arith
most_four (Link partner) = omega arith

-- ---- the form of a turn

pub record EndForm (box : BoxState) (local : ℕ) (goal : Goal) (pushed : Bool) (step : BoxStep) : Type 0 where
  pub last : Slot
  pub goes : slot_send_all (slot_at box local) (end_turn goal (slot_at box local) pushed (own box local) (sender box local)) ≡ Some last
  pub is : record { sent = map (pair_of local) (end_turn goal (slot_at box local) pushed (own box local) (sender box local)); after = with_slot box local last } ≡ step

pub end_form : (box : BoxState) (local : ℕ) (goal : Goal) (cause : Cause) (step : BoxStep) → end_step goal box local cause ≡ Some step → EndForm box local goal (is_push cause) step
end_form box local goal cause step goes =
    let one = map_some (λ (after : Slot). record { sent = map (pair_of local) (end_turn goal (slot_at box local) (is_push cause) (own box local) (sender box local)); after = with_slot box local after })
    (slot_send_all (slot_at box local) (end_turn goal (slot_at box local) (is_push cause) (own box local) (sender box local))) step goes in
    record { last = one.0; goes = one.1; is = one.2 }

pub record PairForm (box : BoxState) (low high : ℕ) (closed : Option Side) (step : BoxStep) : Type 0 where
  pub first : Slot
  pub second : Slot
  pub first_goes : slot_send_all (slot_at box low) (sent_by_first (link_turn (slot_at box low) (slot_at box high) closed)) ≡ Some first
  pub second_goes : slot_send_all (slot_at box high) (sent_by_second (link_turn (slot_at box low) (slot_at box high) closed)) ≡ Some second
  pub is : record { sent = map (with_number low high) (link_turn (slot_at box low) (slot_at box high) closed); after = with_slot (with_slot box low first) high second } ≡ step

pub pair_form : (box : BoxState) (low high : ℕ) (closed : Option Side) (step : BoxStep) → pair_step box low high closed ≡ Some step → PairForm box low high closed step
pair_form box low high closed step goes =
    let one = then_some (λ (first : Slot). option_map (λ (second : Slot). record {
      sent = map (with_number low high) (link_turn (slot_at box low) (slot_at box high) closed);
      after = with_slot (with_slot box low first) high second;
    }) (slot_send_all (slot_at box high) (sent_by_second (link_turn (slot_at box low) (slot_at box high) closed))))
    (slot_send_all (slot_at box low) (sent_by_first (link_turn (slot_at box low) (slot_at box high) closed))) step goes in
    let two = map_some (λ (second : Slot). record {
      sent = map (with_number low high) (link_turn (slot_at box low) (slot_at box high) closed);
      after = with_slot (with_slot box low one.0) high second;
    }) (slot_send_all (slot_at box high) (sent_by_second (link_turn (slot_at box low) (slot_at box high) closed))) step one.2 in
    record { first = one.0; second = two.0; first_goes = one.1; second_goes = two.1; is = two.2 }

-- what a turn sends is as long as it should be
pub turn_is : (goal : SlotGoal) (box : BoxState) (local : ℕ) (cause : Cause) (step : BoxStep) → goal_step_by goal box local cause ≡ Some step
    → length step.sent ≡ turn_length_by goal box local cause
turn_is (End goal) box local cause step goes =
    let form = end_form box local goal cause step goes in
    subst (λ (s : BoxStep). length s.sent ≡ turn_length_by (End goal) box local cause) form.is
    (length-map (end_turn goal (slot_at box local) (is_push cause) (own box local) (sender box local)) (pair_of local))
turn_is (Link partner) box local cause step goes =
    let form = pair_form box (min local partner) (max local partner) (closed_side cause (side_of local partner)) step goes in
    subst (λ (s : BoxStep). length s.sent ≡ turn_length_by (Link partner) box local cause) form.is
    (length-map (link_turn (slot_at box (min local partner)) (slot_at box (max local partner)) (closed_side cause (side_of local partner))) (with_number (min local partner) (max local partner)))

-- ---- what a turn comes to

-- the slots that the goal holds come to rest, and all else stays as it was
pub record Turned (goal : SlotGoal) (box : BoxState) (local : ℕ) (step : BoxStep) : Type 0 where
  pub slots : List Slot
  pub is : step.after ≡ box_with box slots
  pub size : length slots ≡ length box.slots
  pub wired : IsWired (box_with box slots)
  pub rests : (todo : List ℕ) → RestsBut box (held goal local ++ todo) → RestsBut (box_with box slots) todo
  pub few : length step.sent ≤ most_signals goal

-- an end, when it has sent
end_slot_rests : (box : BoxState) (local k : ℕ) (goal : Goal) (pushed : Bool) (last : Slot) (todo : List ℕ) → IsWired box → local < length box.slots → goal_at box local ≡ End goal
    → slot_send_all (slot_at box local) (end_turn goal (slot_at box local) pushed (own box local) (sender box local)) ≡ Some last
    → RestsBut box (local ∷ todo) → Lacks k todo → RestsAt (goal_at box k) (with_slot box local last) k
end_slot_rests box local k goal pushed last todo wired inside is goes but lacks = elim (cases_eq k local) [
  | inl same ↦
      subst (λ (j : ℕ). RestsAt (goal_at box j) (with_slot box local last) j) (sym same)
      (subst (λ (g : SlotGoal). RestsAt g (with_slot box local last) local) (sym is)
      (rests_there goal (with_slot box local last) local last (own box local) (sender box local) (get_or-set_same box.slots local last no_slot inside)
      (own_put box.kind box (set box.slots local last) box.goals box.media (media_at box local) local)
      (sender_put box.kind box (set box.slots local last) box.goals box.media (media_at box local) local)
      (rests_kept (slot_at box local).state goal (slot_at box local) last pushed (own box local) (sender box local) refl (wired.kept local) goes)))
  | inr other ↦
      elsewhere_rests (End goal) box (set box.slots local last) local k wired is
      (λ j apart. get_or-set_other box.slots local j last no_slot apart.0) (other, tt) (but k (other, lacks))
]

end_turned : (box : BoxState) (local : ℕ) (goal : Goal) (cause : Cause) (step : BoxStep) → IsWired box → local < length box.slots → goal_at box local ≡ End goal
    → end_step goal box local cause ≡ Some step → Turned (End goal) box local step
end_turned box local goal cause step wired inside is goes =
    let form = end_form box local goal cause step goes in
    record {
      slots = set box.slots local form.last;
      is = ap (λ (s : BoxStep). s.after) (sym form.is);
      size = length-set box.slots local form.last;
      wired = wired_slot box local form.last wired inside
          (all_kept (end_turn goal (slot_at box local) (is_push cause) (own box local) (sender box local)) (slot_at box local) form.last form.goes (wired.kept local))
          (all_medium (end_turn goal (slot_at box local) (is_push cause) (own box local) (sender box local)) (slot_at box local) form.last form.goes);
      rests = λ todo but k lacks. end_slot_rests box local k goal (is_push cause) form.last todo wired inside is form.goes but lacks;
      few = subst (λ (s : BoxStep). length s.sent ≤ 2) form.is
          (omega (
            arith,
            length-map (end_turn goal (slot_at box local) (is_push cause) (own box local) (sender box local)) (pair_of local),
            due_two goal (slot_at box local) (is_push cause) (own box local) (sender box local),
          ));
    }

-- two slots are replaced, the lower one first
pub pair_low : (slots : List Slot) (low high : ℕ) (first second : Slot) → low < high → low < length slots → get_or (set (set slots low first) high second) low no_slot ≡ first
pair_low slots low high first second order inside =
    let apart : low ≢ high = omega arith in
    get_or-set_other (set slots low first) high low second no_slot apart ∙ get_or-set_same slots low first no_slot inside

pub pair_high : (slots : List Slot) (low high : ℕ) (first second : Slot) → high < length slots → get_or (set (set slots low first) high second) high no_slot ≡ second
pair_high slots low high first second inside =
    get_or-set_same (set slots low first) high second no_slot (subst (λ (n : ℕ). high < n) (sym (length-set slots low first)) inside)

pub pair_else : (slots : List Slot) (low high k : ℕ) (first second : Slot) → k ≢ low → k ≢ high → get_or (set (set slots low first) high second) k no_slot ≡ get_or slots k no_slot
pair_else slots low high k first second below above =
    get_or-set_other (set slots low first) high k second no_slot above ∙ get_or-set_other slots low k first no_slot below

-- a link, when both have sent
pair_rests : (box : BoxState) (low high : ℕ) (closed : Option Side) (first second : Slot) → IsWired box → low < high → high < length box.slots
    → slot_send_all (slot_at box low) (sent_by_first (link_turn (slot_at box low) (slot_at box high) closed)) ≡ Some first
    → slot_send_all (slot_at box high) (sent_by_second (link_turn (slot_at box low) (slot_at box high) closed)) ≡ Some second
    → IsLinkAtRest (get_or (set (set box.slots low first) high second) low no_slot) (get_or (set (set box.slots low first) high second) high no_slot)
pair_rests box low high closed first second wired order inside one two =
    subst (λ (a : Slot). IsLinkAtRest a (get_or (set (set box.slots low first) high second) high no_slot)) (sym (pair_low box.slots low high first second order (omega arith)))
    (subst (λ (b : Slot). IsLinkAtRest first b) (sym (pair_high box.slots low high first second inside))
    (link_rests (slot_at box low) (slot_at box high) first second closed (wired.kept low) (wired.kept high) one two))

link_slot_rests : (box : BoxState) (local partner k : ℕ) (slots : List Slot) (todo : List ℕ) → IsWired box → goal_at box local ≡ Link partner
    → ((j : ℕ) → Lacks j (local ∷ partner ∷ []) → get_or slots j no_slot ≡ slot_at box j)
    → RestsAt (Link partner) (box_with box slots) local
    → RestsBut box (local ∷ partner ∷ todo) → Lacks k todo → RestsAt (goal_at box k) (box_with box slots) k
link_slot_rests box local partner k slots todo wired is same rest but lacks = elim (cases_eq k local) [
  | inl here ↦
      subst (λ (j : ℕ). RestsAt (goal_at box j) (box_with box slots) j) (sym here)
      (subst (λ (g : SlotGoal). RestsAt g (box_with box slots) local) (sym is) rest)
  | inr apart ↦ elim (cases_eq k partner) [
    | inl there ↦
        subst (λ (j : ℕ). RestsAt (goal_at box j) (box_with box slots) j) (sym there)
        (subst (λ (g : SlotGoal). RestsAt g (box_with box slots) partner) (sym (wired.links local partner is).back)
        (rests_turned (box_with box slots) local partner rest))
    | inr beyond ↦
        elsewhere_rests (Link partner) box slots local k wired is same (apart, (beyond, tt)) (but k (apart, (beyond, lacks)))
  ]
]

pair_turned : (box : BoxState) (local partner low high : ℕ) (closed : Option Side) (step : BoxStep) → IsWired box → goal_at box local ≡ Link partner
    → low ≡ min local partner → high ≡ max local partner → low < high → high < length box.slots
    → pair_step box low high closed ≡ Some step → Turned (Link partner) box local step
pair_turned box local partner low high closed step wired is low_is high_is order inside goes =
    let form = pair_form box low high closed step goes in
    let low_inside : low < length box.slots = omega arith in
    let kept_low = all_kept (sent_by_first (link_turn (slot_at box low) (slot_at box high) closed)) (slot_at box low) form.first form.first_goes (wired.kept low) in
    let kept_high = all_kept (sent_by_second (link_turn (slot_at box low) (slot_at box high) closed)) (slot_at box high) form.second form.second_goes (wired.kept high) in
    let medium_low = all_medium (sent_by_first (link_turn (slot_at box low) (slot_at box high) closed)) (slot_at box low) form.first form.first_goes in
    let medium_high = all_medium (sent_by_second (link_turn (slot_at box low) (slot_at box high) closed)) (slot_at box high) form.second form.second_goes in
    let size : length (set (set box.slots low form.first) high form.second) ≡ length box.slots =
    length-set (set box.slots low form.first) high form.second ∙ length-set box.slots low form.first in
    let rest : RestsAt (Link partner) (box_with box (set (set box.slots low form.first) high form.second)) local =
    subst (λ (i : ℕ). IsLinkAtRest (get_or (set (set box.slots low form.first) high form.second) i no_slot) (get_or (set (set box.slots low form.first) high form.second) (max local partner) no_slot)) low_is
    (subst (λ (j : ℕ). IsLinkAtRest (get_or (set (set box.slots low form.first) high form.second) low no_slot) (get_or (set (set box.slots low form.first) high form.second) j no_slot)) high_is
    (pair_rests box low high closed form.first form.second wired order inside form.first_goes form.second_goes)) in
    record {
      slots = set (set box.slots low form.first) high form.second;
      is = ap (λ (s : BoxStep). s.after) (sym form.is);
      size = size;
      wired = wired_slots box (set (set box.slots low form.first) high form.second) wired size
          (put_all (λ (k : ℕ) (s : Slot). Kept s × (s.medium ≡ (slot_at box k).medium)) (set box.slots low form.first) high form.second
          (subst (λ (n : ℕ). high < n) (sym (length-set box.slots low form.first)) inside) (kept_high, medium_high)
          (put_all (λ (k : ℕ) (s : Slot). Kept s × (s.medium ≡ (slot_at box k).medium)) box.slots low form.first low_inside (kept_low, medium_low) (λ k. (wired.kept k, refl))));
      rests = λ todo but k lacks. link_slot_rests box local partner k (set (set box.slots low form.first) high form.second) todo wired is
          (λ j apart. pair_else box.slots low high j form.first form.second
          (subst (λ (i : ℕ). j ≢ i) (sym low_is) (at_min (λ (i : ℕ). j ≢ i) local partner apart.0 apart.1.0))
          (subst (λ (i : ℕ). j ≢ i) (sym high_is) (at_max (λ (i : ℕ). j ≢ i) local partner apart.0 apart.1.0)))
          rest but lacks;
      few = subst (λ (s : BoxStep). length s.sent ≤ 4) form.is
          (omega (arith, length-map (link_turn (slot_at box low) (slot_at box high) closed) (with_number low high), link_four closed (slot_at box low) (slot_at box high)));
    }

turned_by : (goal : SlotGoal) (box : BoxState) (local : ℕ) (cause : Cause) (step : BoxStep) → IsWired box → local < length box.slots → goal_at box local ≡ goal
    → goal_step_by goal box local cause ≡ Some step → Turned goal box local step
turned_by (End goal) box local cause step wired inside is goes = end_turned box local goal cause step wired inside is goes
turned_by (Link partner) box local cause step wired inside is goes =
    let there : partner < length box.slots = (wired.links local partner is).inside in
    let other : partner ≢ local = (wired.links local partner is).other in
    pair_turned box local partner (min local partner) (max local partner) (closed_side cause (side_of local partner)) step wired is refl refl
    (omega arith) (at_max (λ (k : ℕ). k < length box.slots) local partner inside there) goes

-- whatever goal it is
pub turned : (box : BoxState) (local : ℕ) (cause : Cause) (step : BoxStep) → IsWired box → local < length box.slots
    → goal_step box local cause ≡ Some step → Turned (goal_at box local) box local step
turned box local cause step wired inside goes = turned_by (goal_at box local) box local cause step wired inside refl goes
