-- What each slot does in the turns of goals: it sends its part of all that is sent.
use Rattle.std.proofs.Common.{◌≡◌, ◌≢◌, ℕ, ◌<◌, Some, List, [], ◌∷◌, ◌++◌, map, inl, inr, length, max, min, refl, ap, sym, ◌∙◌, subst, arith}
use Rattle.std.specs.Option.{option_map}
use Rattle.std.proofs.Math.ListN.{get_or, set}
use Rattle.std.proofs.lemmas.Bool.{cases_eq}
use Rattle.std.proofs.lemmas.List.{get_or-set_same, get_or-set_other}
use Rattle.mc_link.specs.LinkTurn.{link_turn, with_number, sent_by_first, sent_by_second, closed_side}
use Rattle.mc_link.specs.declared.Side.{Side}
use Rattle.mc_link.proofs.Sides.{sent_both}
use Rattle.mc_signal.specs.declared.Signal.{Signal}
use Rattle.mc_slot.specs.EndTurn.{end_turn, is_push}
use Rattle.mc_slot.specs.Moves.{slot_send_all}
use Rattle.mc_slot.specs.Sending.{pair_of}
use Rattle.mc_slot.specs.declared.Cause.{Cause}
use Rattle.mc_slot.specs.declared.Cause.TheVariants.{Push}
use Rattle.mc_slot.specs.declared.Slot.{Slot}
use Rattle.mc_slot.specs.declared.SlotGoal.{SlotGoal}
use Rattle.mc_slot.specs.declared.SlotGoal.TheVariants.{End, Link}
use Rattle.mc_box.specs.Acting.{sent_by, IsSameMake}
use Rattle.mc_box.specs.BoxEvents.{BoxStep, sends_first, goal_step, side_of, goal_step_by, goal_steps}
use Rattle.mc_box.specs.BoxSound.{IsWired}
use Rattle.mc_box.specs.Boxes.{BoxState, no_slot, slot_at, goal_at, own, sender, with_slot}
use Rattle.mc_box.proofs.Folds.{AreInside}
use Rattle.mc_box.proofs.GoalTurns.{end_form, pair_form, pair_else, pair_high, pair_low, turned}
use Rattle.mc_box.proofs.Held.{at_max, box_with}
use Rattle.mc_box.proofs.Options.{map_some, then_some}
use Rattle.mc_box.proofs.SentBy.{sent_by-append, sent_by_own, sent_by_other, sent_by_low, sent_by_high, sent_by_neither}

-- ---- boxes of one make

pub make_same : (box : BoxState) → IsSameMake box box
make_same box = record { alike = record { kind = refl; number = refl; receives = refl; sends = refl; first_version = refl; slots = refl; program = refl }; goals = refl; media = refl; origins = λ local. refl }

pub make_more : (first second third : BoxState) → IsSameMake second first → IsSameMake third second → IsSameMake third first
make_more first second third one two = record {
  alike = record {
    kind = two.alike.kind ∙ one.alike.kind;
    number = two.alike.number ∙ one.alike.number;
    receives = two.alike.receives ∙ one.alike.receives;
    sends = two.alike.sends ∙ one.alike.sends;
    first_version = two.alike.first_version ∙ one.alike.first_version;
    slots = two.alike.slots ∙ one.alike.slots;
    program = two.alike.program ∙ one.alike.program;
  };
  goals = two.goals ∙ one.goals;
  media = two.media ∙ one.media;
  origins = λ local. two.origins local ∙ one.origins local;
}

-- other slots make no other make
pub make_slots : (box : BoxState) (slots : List Slot) → length slots ≡ length box.slots → IsSameMake (box_with box slots) box
make_slots box slots size =
    record { alike = record { kind = refl; number = refl; receives = refl; sends = refl; first_version = refl; slots = size; program = refl }; goals = refl; media = refl; origins = λ local. refl }

-- ---- what each slot sends

-- each slot sends its part, one signal after another
abbrev pub SendsEach : BoxState → List (ℕ × Signal) → BoxState → Type 0
SendsEach box sent after = (k : ℕ) → k < length box.slots → slot_send_all (slot_at box k) (sent_by k sent) ≡ Some (slot_at after k)

-- a slot that has no part stays
sends_none : (slot after : Slot) (signals : List Signal) → signals ≡ [] → after ≡ slot → slot_send_all slot signals ≡ Some after
sends_none slot after signals none same = rw (none, same) refl

-- the part of a slot, and what it becomes
sends_part : (slot last after : Slot) (end_turn signals : List Signal) → signals ≡ end_turn → after ≡ last → slot_send_all slot end_turn ≡ Some last → slot_send_all slot signals ≡ Some after
sends_part slot last after end_turn signals is same goes = rw (is, same) goes

-- nothing is sent
pub none_each : (box : BoxState) → SendsEach box [] box
none_each box k inside = refl

-- one sending after another
pub more_each : (first second third : BoxState) (some more : List (ℕ × Signal)) → length second.slots ≡ length first.slots
    → SendsEach first some second → SendsEach second more third → SendsEach first (some ++ more) third
more_each first second third some more size one two k inside =
    ap (slot_send_all (slot_at first k)) (sent_by-append k some more)
    ∙ sent_both (slot_at first k) (slot_at second k) (slot_at third k) (sent_by k some) (sent_by k more) (one k inside)
    (two k (subst (λ (n : ℕ). k < n) (sym size) inside))

-- ---- one turn

end_each : (box : BoxState) (local : ℕ) (last : Slot) (signals : List Signal) → local < length box.slots → slot_send_all (slot_at box local) signals ≡ Some last
    → SendsEach box (map (pair_of local) signals) (with_slot box local last)
end_each box local last signals here goes k inside = elim (cases_eq k local) [
  | inl same ↦
      subst (λ (j : ℕ). slot_send_all (slot_at box j) (sent_by j (map (pair_of local) signals)) ≡ Some (slot_at (with_slot box local last) j)) (sym same)
      (sends_part (slot_at box local) last (slot_at (with_slot box local last) local) signals (sent_by local (map (pair_of local) signals))
      (sent_by_own local signals) (get_or-set_same box.slots local last no_slot here) goes)
  | inr other ↦
      sends_none (slot_at box k) (slot_at (with_slot box local last) k) (sent_by k (map (pair_of local) signals))
      (sent_by_other k local signals other) (get_or-set_other box.slots local k last no_slot other)
]

pair_each : (box : BoxState) (low high : ℕ) (first second : Slot) (l : List (Side × Signal)) → low < high → high < length box.slots
    → slot_send_all (slot_at box low) (sent_by_first l) ≡ Some first → slot_send_all (slot_at box high) (sent_by_second l) ≡ Some second
    → SendsEach box (map (with_number low high) l) (with_slot (with_slot box low first) high second)
pair_each box low high first second l order here one two k inside =
    let apart : low ≢ high = omega arith in
    elim (cases_eq k low) [
      | inl same ↦
          subst (λ (j : ℕ). slot_send_all (slot_at box j) (sent_by j (map (with_number low high) l)) ≡ Some (get_or (set (set box.slots low first) high second) j no_slot)) (sym same)
          (sends_part (slot_at box low) first (get_or (set (set box.slots low first) high second) low no_slot) (sent_by_first l) (sent_by low (map (with_number low high) l))
          (sent_by_low low high l apart) (pair_low box.slots low high first second order (omega arith)) one)
      | inr below ↦ elim (cases_eq k high) [
        | inl same ↦
            subst (λ (j : ℕ). slot_send_all (slot_at box j) (sent_by j (map (with_number low high) l)) ≡ Some (get_or (set (set box.slots low first) high second) j no_slot)) (sym same)
            (sends_part (slot_at box high) second (get_or (set (set box.slots low first) high second) high no_slot) (sent_by_second l) (sent_by high (map (with_number low high) l))
            (sent_by_high low high l apart) (pair_high box.slots low high first second here) two)
        | inr above ↦
            sends_none (slot_at box k) (get_or (set (set box.slots low first) high second) k no_slot) (sent_by k (map (with_number low high) l))
            (sent_by_neither k low high l below above) (pair_else box.slots low high k first second below above)
      ]
    ]

turn_by_each : (goal : SlotGoal) (box : BoxState) (local : ℕ) (cause : Cause) (step : BoxStep) → IsWired box → local < length box.slots → goal_at box local ≡ goal
    → goal_step_by goal box local cause ≡ Some step → SendsEach box step.sent step.after
turn_by_each (End goal) box local cause step wired here is goes =
    let form = end_form box local goal cause step goes in
    subst (λ (s : BoxStep). SendsEach box s.sent s.after) form.is
    (end_each box local form.last (end_turn goal (slot_at box local) (is_push cause) (own box local) (sender box local)) here form.goes)
turn_by_each (Link partner) box local cause step wired here is goes =
    let there : partner < length box.slots = (wired.links local partner is).inside in
    let other : partner ≢ local = (wired.links local partner is).other in
    let side = closed_side cause (side_of local partner) in
    let form = pair_form box (min local partner) (max local partner) side step goes in
    subst (λ (s : BoxStep). SendsEach box s.sent s.after) form.is
    (pair_each box (min local partner) (max local partner) form.first form.second (link_turn (slot_at box (min local partner)) (slot_at box (max local partner)) side)
    (omega arith) (at_max (λ (k : ℕ). k < length box.slots) local partner here there) form.first_goes form.second_goes)

-- what a turn does to each slot, and to the box
pub record TurnActs (box : BoxState) (step : BoxStep) : Type 0 where
  pub each : SendsEach box step.sent step.after
  pub make : IsSameMake step.after box

pub turn_acts : (box : BoxState) (local : ℕ) (cause : Cause) (step : BoxStep) → IsWired box → local < length box.slots
    → goal_step box local cause ≡ Some step → TurnActs box step
turn_acts box local cause step wired here goes =
    let made = turned box local cause step wired here goes in
    record {
      each = turn_by_each (goal_at box local) box local cause step wired here refl goes;
      make = subst (λ (b : BoxState). IsSameMake b box) (sym made.is) (make_slots box made.slots made.size);
    }

-- ---- turns one after another

turns_end : (box : BoxState) (step : BoxStep) → record { sent = []; after = box } ≡ step → TurnActs box step
turns_end box step is = subst (λ (s : BoxStep). TurnActs box s) is (record { each = none_each box; make = make_same box })

turns_next : (box : BoxState) (turn more step : BoxStep) → TurnActs box turn → TurnActs turn.after more → sends_first turn.sent more ≡ step → TurnActs box step
turns_next box turn more step one two is =
    subst (λ (s : BoxStep). TurnActs box s) is
    (record {
      each = more_each box turn.after more.after turn.sent more.sent one.make.alike.slots one.each two.each;
      make = make_more box turn.after more.after one.make two.make;
    })

pub turns_act : (locals : List ℕ) (box : BoxState) (step : BoxStep) → IsWired box → AreInside (length box.slots) locals
    → goal_steps box locals ≡ Some step → TurnActs box step
turns_act [] box step wired inside goes = let same : record { sent = []; after = box } ≡ step = cc in turns_end box step same
turns_act (local ∷ locals) box step wired inside goes =
    let one = then_some (λ (turn : BoxStep). option_map (sends_first turn.sent) (goal_steps turn.after locals)) (goal_step box local Push) step goes in
    let two = map_some (sends_first one.0.sent) (goal_steps one.0.after locals) step one.2 in
    let made = turned box local Push one.0 wired inside.0 one.1 in
    let acts = turn_acts box local Push one.0 wired inside.0 one.1 in
    turns_next box one.0 two.0 step acts
    (turns_act locals one.0.after two.0 (subst (λ (b : BoxState). IsWired b) (sym made.is) made.wired)
    (subst (λ (n : ℕ). AreInside n locals) (sym acts.make.alike.slots) inside.1) two.1)
    two.2
