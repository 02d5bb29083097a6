-- Where the signals under way come from: each was there before a turn, or was sent in it by the box of the far slot.
use Rattle.std.proofs.Common.{◌≡◌, ◌<◌, ◌⊎◌, inl, inr, ℕ, suc, List, [], ◌∷◌, Contains, Some, drop, refl, ap, sym, subst, arith}
use Rattle.std.proofs.lemmas.Bool.{cases_eq}
use Rattle.std.proofs.lemmas.List.Elements.{Contains-append_cases}
use Rattle.mc_signal.specs.declared.Signal.{Signal}
use Rattle.mc_slot.specs.declared.Slot.{Slot}
use Rattle.mc_box.specs.Acting.{Acted, sends, takes}
use Rattle.mc_box.specs.declared.event.Turn.{Turn}
use Rattle.mc_box.proofs.Options.{map_some, then_some}
use Rattle.mc_model.specs.Sound.{IsSound}
use Rattle.mc_model.specs.Steps.{run, step}
use Rattle.mc_model.specs.Worlds.{WorldState, far, front, lane_to, list_to, place, slot_count, slot_of, tunnel_of}
use Rattle.mc_laws.specs.Stepped.{Stepped}
use Rattle.mc_laws.proofs.ActedWorlds.{far_inside}
use Rattle.mc_laws.proofs.LanesKept.{front_next}
use Rattle.mc_laws.proofs.StepActs.{step_acts}
use Rattle.mc_laws.proofs.StepKeeps.{step_keeps_sound}
use Rattle.mc_ladder.specs.declared.taking.Taking.{Taking}
use Rattle.mc_ladder.specs.Senders.{ArrowsBeginAtSenders, Sends, WasSent}
use Rattle.mc_ladder.specs.Takings.{drops}

-- what is left is what there was, or that without its first
left_of : (a after : Slot) (to sent left : List Signal) → Acted a to sent after left → (left ≡ to) ⊎ (left ≡ drop 1 to)
left_of _ _ _ _ _ (sends goes) = inl refl
left_of _ _ _ _ _ (takes middle signals answer took goes) = inr refl

-- and so each signal that is left was there
was_there : (to left : List Signal) (signal : Signal) → (left ≡ to) ⊎ (left ≡ drop 1 to) → Contains left signal → Contains to signal
was_there to left signal (inl same) has = subst (λ (l : List Signal). Contains l signal) same has
was_there [] left signal (inr same) has = subst (λ (l : List Signal). Contains l signal) same has
was_there (first ∷ others) left signal (inr same) has =
    let at : Contains others signal = subst (λ (l : List Signal). Contains l signal) same has in
    let below = at.1 in
    (suc at.0, omega arith, at.2)

none_in : (signal : Signal) → Contains [] signal → ⊥
none_in signal has = let below = has.1 in omega arith

-- the sender is the box of the far slot, since slots of other boxes send nothing
sender_is : (old new : WorldState) (turn : Turn) (s : ℕ) (signal : Signal) (acts : Stepped old new turn.who) → s < slot_count old → Contains (acts.sent (far s)) signal → turn.who ≡ (place old (far s)).0
sender_is old new turn s signal acts inside has =
    elim (cases_eq (place old (far s)).0 turn.who) [
      | inl same ↦ sym same
      | inr apart ↦
          let none = (acts.still (far s) (far_inside old s inside) apart).0 in
          absurd (none_in signal (subst (λ (l : List Signal). Contains l signal) none has))
    ]

-- each signal under way after a turn was under way before it, or was sent in it
one_turn : (old new : WorldState) (turn : Turn) (s : ℕ) (signal : Signal) → IsSound old → s < slot_count old → step old turn ≡ Some new → Contains (list_to new s) signal
    → Contains (list_to old s) signal ⊎ Sends old new turn s signal
one_turn old new turn s signal sound inside goes has =
    let acts = step_acts old new turn sound goes in
    let left = left_of (slot_of old s) (slot_of new s) (list_to old s) (acts.sent s) (acts.left s) (acts.acted s inside) in
    elim (Contains-append_cases (acts.left s) (acts.sent (far s)) signal (subst (λ (l : List Signal). Contains l signal) (acts.lists s inside) has)) [
      | inl here ↦ inl (was_there (list_to old s) (acts.left s) signal left here)
      | inr sent ↦ inr (record {
        who = sender_is old new turn s signal acts inside sent;
        left = acts.left s;
        sent = acts.sent (far s);
        behind = acts.lists s inside;
        has = sent;
        rest = left;
      })
    ]

-- a turn more before the others
after_turn : (first next : WorldState) (turn : Turn) (turns : List Turn) (s : ℕ) (signal : Signal) → step first turn ≡ Some next → WasSent next turns s signal → WasSent first (turn ∷ turns) s signal
after_turn first next turn turns s signal goes was = record {
  before = turn ∷ was.before;
  turn = was.turn;
  others = was.others;
  old = was.old;
  new = was.new;
  are = ap (λ (ts : List Turn). turn ∷ ts) was.are;
  runs = rw (goes) was.runs;
  goes = was.goes;
  sends = was.sends;
}

count_same : (old new : WorldState) (turn : Turn) (s : ℕ) → IsSound old → step old turn ≡ Some new → s < slot_count old → s < slot_count new
count_same old new turn s sound goes inside =
    let same = (step_acts old new turn sound goes).channels in
    rw same inside

-- each signal under way after some turns was under way before them, or was sent in one of them
sent_in : (turns : List Turn) (first last : WorldState) (s : ℕ) (signal : Signal) → IsSound first → s < slot_count first → run first turns ≡ Some last → Contains (list_to last s) signal
    → Contains (list_to first s) signal ⊎ WasSent first turns s signal
sent_in [] first last s signal sound inside goes has =
    let same : last ≡ first = cc in inl (subst (λ (w : WorldState). Contains (list_to w s) signal) same has)
sent_in (turn ∷ turns) first last s signal sound inside goes has =
    let one = then_some (λ (w : WorldState). run w turns) (step first turn) last goes in
    elim (sent_in turns one.0 last s signal (step_keeps_sound first one.0 turn sound one.1) (count_same first one.0 turn s sound one.1 inside) one.2 has) [
      | inl here ↦ elim (one_turn first one.0 turn s signal sound inside one.1 here) [
        | inl earlier ↦ inl earlier
        | inr now ↦ inr (record { before = []; turn = turn; others = turns; old = first; new = one.0; are = refl; runs = refl; goes = one.1; sends = now })
      ]
      | inr later ↦ inr (after_turn first one.0 turn turns s signal one.1 later)
    ]

-- the signal that a slot can take is under way to it
fronts : (world : WorldState) (s : ℕ) (signal : Signal) → front world s ≡ Some signal → Contains (list_to world s) signal
fronts world s signal is =
    let next = (front_next (tunnel_of world s).within signal (lane_to world s) is).next in
    subst (λ (l : List Signal). Contains l signal) (sym next) (0, omega arith, refl)

abbrev as_taken : WorldState → ℕ → Signal → Taking
as_taken world s signal = record { slot = s; from = far s; signal = signal; dropped = drops (slot_of world s) signal }

pub arrows_begin : ArrowsBeginAtSenders
arrows_begin first last turns s taken sound inside none goes given =
    let is = map_some (as_taken last s) (front last s) taken given in
    let signal_is : is.0 ≡ taken.signal = ap (λ (t : Taking). t.signal) is.2 in
    let slot_is : s ≡ taken.slot = ap (λ (t : Taking). t.slot) is.2 in
    let from_is : far s ≡ taken.from = ap (λ (t : Taking). t.from) is.2 in
    let was : WasSent first turns s is.0 =
    elim (sent_in turns first last s is.0 sound inside goes (fronts last s is.0 is.1)) [
      | inl here ↦ absurd (none_in is.0 (subst (λ (l : List Signal). Contains l is.0) none here))
      | inr sent ↦ sent
    ] in
    (sym slot_is, sym from_is, subst (λ (x : Signal). WasSent first turns s x) signal_is was)
