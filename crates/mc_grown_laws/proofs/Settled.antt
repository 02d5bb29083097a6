-- What settles a batch settles it in the world that a channel has joined, too.
use Rattle.std.proofs.Common.{◌≡◌, ◌<◌, ◌≤◌, ◌++◌, ◌&&◌, ◌||◌, inl, inr, not, if◌then◌else◌, nat_lt, ℕ, zero, suc, Bool, true, false, IsTrue, Option, Some, None, List, [], ◌∷◌, length, take, refl, ap, sym, ◌∙◌, subst, arith}
use Rattle.std.specs.List.{list_all, list_any}
use Rattle.std.specs.Option.{option_and_then, unwrap_or}
use Rattle.std.proofs.Math.ListN.{get_or, set}
use Rattle.std.proofs.lemmas.Bool.{cases_eq, cases_lt, lt-ltb, ltb-true}
use Rattle.std.proofs.lemmas.List.{get_or-set_other, get_or_past, length-set}
use Rattle.mc_signal.specs.declared.Medium.{Medium}
use Rattle.mc_signal.specs.declared.Tagged.{Tagged}
use Rattle.mc_slot.specs.declared.Goal.TheVariants.{Close as ToClose}
use Rattle.mc_slot.specs.declared.SlotGoal.{SlotGoal}
use Rattle.mc_slot.specs.declared.SlotGoal.TheVariants.{End}
use Rattle.mc_slot.specs.declared.Slot.{Slot}
use Rattle.mc_box.specs.BoxEvents.{is_enabled}
use Rattle.mc_box.specs.Boxes.{BoxState, IsBox, box_owes, first_slot, goal_at, is_slot, no_box, no_slot, slot_at, slot_owes, with_new_slot}
use Rattle.mc_box.specs.declared.event.Event.TheVariants.{Shift}
use Rattle.mc_box.specs.declared.event.Turn.{Turn}
use Rattle.mc_box.specs.declared.setup.SlotSetup.{SlotSetup}
use Rattle.mc_box.proofs.AddedSlots.{goal_added, slot_before}
use Rattle.mc_box.proofs.Options.{then_some}
use Rattle.mc_model.specs.Paths.{has_ring}
use Rattle.mc_model.specs.Rings.{IsLeastOnRing}
use Rattle.mc_model.specs.Settles.{IsLastRest, can_shift, is_empty, is_quiet, rests, world_owes}
use Rattle.mc_model.specs.Sound.{IsSound}
use Rattle.mc_model.specs.Steps.{after, run, step}
use Rattle.mc_model.specs.Worlds.{WorldState, box_at}
use Rattle.mc_laws.proofs.BothWays.{has_by}
use Rattle.mc_laws.proofs.Reaches.{comes_to_end}
use Rattle.mc_laws.proofs.RingWalks.{rings_meet_no_end}
use Rattle.mc_laws.proofs.ShapesKept.{run_keeps_shape}
use Rattle.mc_laws.proofs.StepKeeps.{run_keeps_sound}
use Rattle.mc_growth.specs.Joins.{HasRoom, MayJoin, away_box, away_slot, joined, near_box, near_slot}
use Rattle.mc_growth.proofs.Joined.{GrowsTo, box_grows, grows, length_boxes, stays}
use Rattle.mc_growth.proofs.JoinedPartners.{join_makes_no_ring}
use Rattle.mc_growth.proofs.JoinedSound.{join_keeps_sound}
use Rattle.mc_growth.proofs.Lists.{length_one, one_added}
use Rattle.mc_growth.proofs.WideSteps.{join_commutes}
use Rattle.mc_grown_laws.specs.GrownLaws.{SettledJoins}
use Rattle.mc_grown_laws.proofs.Shapes.{may_by}

-- ---- at rest

-- two empty lanes more
quiet_more : (lanes : List (List Tagged)) → list_all is_empty (lanes ++ [] ∷ [] ∷ []) ≡ list_all is_empty lanes
quiet_more [] = refl
quiet_more (lane ∷ lanes) = ap (λ (b : Bool). is_empty lane && b) (quiet_more lanes)

-- a box without a program makes no Shift
no_shift : (box : BoxState) → box.program ≡ None → is_enabled box Shift ≡ false
no_shift box none = grind (arith)

-- a list of which one item changes, and no test of it
any_set : (p : BoxState → Bool) (boxes : List BoxState) (i : ℕ) (box : BoxState) → i < length boxes → p box ≡ p (get_or boxes i no_box) → list_any p (set boxes i box) ≡ list_any p boxes
any_set p [] i box inside same = absurd (omega arith)
any_set p (b ∷ boxes) zero box inside same = ap (λ (t : Bool). t || list_any p boxes) same
any_set p (b ∷ boxes) (suc i) box inside same = ap (λ (t : Bool). p b || t) (any_set p boxes i box (omega arith) same)

shift_same : (box : BoxState) (setup : SlotSetup) → HasRoom box → is_enabled (with_new_slot box setup) Shift ≡ is_enabled box Shift
shift_same box setup has = no_shift (with_new_slot box setup) has.unprogrammed ∙ sym (no_shift box has.unprogrammed)

shifts_more : (world : WorldState) (medium : Medium) (from to : ℕ) → MayJoin world from to → can_shift (joined world medium from to) ≡ can_shift world
shifts_more world medium from to may =
    let near : BoxState = near_box world medium from in
    let other : get_or (set world.boxes from near) to no_box ≡ box_at world to = get_or-set_other world.boxes from to near no_box (λ is. may.apart (sym is)) in
    any_set (λ (box : BoxState). is_enabled box Shift) (set world.boxes from near) to (away_box world medium to) (let there = may.away in omega (arith, there, length-set world.boxes from near))
    (shift_same (box_at world to) (away_slot world medium) may.away_room ∙ ap (λ (box : BoxState). is_enabled box Shift) (sym other))
    ∙ any_set (λ (box : BoxState). is_enabled box Shift) world.boxes from near may.near (shift_same (box_at world from) (near_slot world medium) may.near_room)

rests_more : (world : WorldState) (medium : Medium) (from to : ℕ) → MayJoin world from to → rests (joined world medium from to) ≡ rests world
rests_more world medium from to may = ap (λ (b : Bool). b && not (can_shift (joined world medium from to))) (quiet_more world.lanes) ∙ ap (λ (b : Bool). is_quiet world && not b) (shifts_more world medium from to may)

-- ---- what is owed

abbrev owes_by : BoxState → ℕ → Bool
owes_by box local = is_slot box local && box_owes box local

-- the new slot owes nothing
new_owes : (box : BoxState) (setup : SlotSetup) (local : ℕ) → IsBox box → local ≡ length box.slots → box_owes (with_new_slot box setup) local ≡ false
new_owes box setup local whole is =
    let goal : goal_at (with_new_slot box setup) local ≡ End ToClose = goal_added box setup local ∙ get_or_past box.goals local (End ToClose) (omega (arith, whole.goals, is)) in
    let slot : slot_at (with_new_slot box setup) local ≡ first_slot setup = one_added box.slots (first_slot setup) no_slot local is in
    ap (λ (g : SlotGoal). slot_owes g (slot_at (with_new_slot box setup) local)) goal

below_true : (a b : ℕ) → a < b → nat_lt a b ≡ true
below_true a b is = lt-ltb a b is

below_false : (a b : ℕ) → b ≤ a → nat_lt a b ≡ false
below_false a b late = not_true (nat_lt a b) (λ is. absurd (omega (arith, ltb-true a b is, late)))
  where
    not_true : (t : Bool) → (t ≡ true → ⊥) → t ≡ false
    not_true true never = absurd (never refl)
    not_true false never = refl

owes_more : (box : BoxState) (setup : SlotSetup) (local : ℕ) → IsBox box → owes_by (with_new_slot box setup) local ≡ owes_by box local
owes_more box setup local whole =
    let long = length_one box.slots (first_slot setup) in
    elim (cases_lt local (length box.slots)) [
      | inl inside ↦
          ap (λ (b : Bool). b && box_owes (with_new_slot box setup) local) (below_true local (length (with_new_slot box setup).slots) (omega (arith, inside, long)) ∙ sym (below_true local (length box.slots) inside))
          ∙ (ap (λ (g : SlotGoal). is_slot box local && slot_owes g (slot_at (with_new_slot box setup) local)) (goal_added box setup local)
          ∙ ap (λ (s : Slot). is_slot box local && slot_owes (goal_at box local) s) (slot_before box setup local inside))
      | inr late ↦ elim (cases_eq local (length box.slots)) [
        | inl is ↦
            both_false (is_slot (with_new_slot box setup) local) (box_owes (with_new_slot box setup) local) (new_owes box setup local whole is)
            ∙ sym (ap (λ (b : Bool). b && box_owes box local) (below_false local (length box.slots) late))
        | inr other ↦
            ap (λ (b : Bool). b && box_owes (with_new_slot box setup) local) (below_false local (length (with_new_slot box setup).slots) (omega (arith, late, other, long)))
            ∙ sym (ap (λ (b : Bool). b && box_owes box local) (below_false local (length box.slots) late))
      ]
    ]
  where
    both_false : (a b : Bool) → b ≡ false → (a && b) ≡ false
    both_false true b is = is
    both_false false b is = refl

owes_grown : (old new : BoxState) (local : ℕ) → GrowsTo old new → IsBox old → owes_by new local ≡ owes_by old local
owes_grown old new local (stays is) whole = ap (λ (b : BoxState). owes_by b local) is
owes_grown old new local (grows setup has is) whole = ap (λ (b : BoxState). owes_by b local) is ∙ owes_more old setup local whole

and_same : (a b c : Bool) → (a ≡ true → b ≡ c) → (a && b) ≡ (a && c)
and_same true b c same = same refl
and_same false b c same = refl

and_group : (a b c : Bool) → (a && b && c) ≡ (a && (b && c))
and_group true b c = refl
and_group false b c = refl

owed_same : (world : WorldState) (medium : Medium) (from to who local : ℕ) → IsSound world → MayJoin world from to → world_owes (joined world medium from to) who local ≡ world_owes world who local
owed_same world medium from to who local sound may =
    let next = joined world medium from to in
    and_group (nat_lt who (length next.boxes)) (is_slot (box_at next who) local) (box_owes (box_at next who) local)
    ∙ (ap (λ (n : ℕ). nat_lt who n && owes_by (box_at next who) local) (length_boxes world medium from to)
    ∙ (and_same (nat_lt who (length world.boxes)) (owes_by (box_at next who) local) (owes_by (box_at world who) local)
    (λ here. owes_grown (box_at world who) (box_at next who) local (box_grows world medium from to who may) (sound.numbered.whole who (ltb-true who (length world.boxes) here)))
    ∙ sym (and_group (nat_lt who (length world.boxes)) (is_slot (box_at world who) local) (box_owes (box_at world who) local))))

-- ---- rings

none_on : (world : WorldState) → IsSound world → has_ring world ≡ false → IsLeastOnRing world None
none_on world sound free s inside ring =
    let end = comes_to_end world s free inside in
    let none = (rings_meet_no_end world s sound inside).1 ring in
    let clash : Some end.0 ≡ None = sym end.1 ∙ none in
    cc

ring_more : (world : WorldState) (medium : Medium) (from to : ℕ) → IsSound world → MayJoin world from to → has_ring world ≡ false → has_ring (joined world medium from to) ≡ false
ring_more world medium from to sound may free =
    has_by (joined world medium from to) None (join_keeps_sound world medium from to sound may) (join_makes_no_ring world medium from to sound may (none_on world sound free))

-- ---- a settle

-- the first turns of a run are one
record RunsTo (world : WorldState) (turns : List Turn) : Type 0 where
  mid : WorldState
  runs : run world turns ≡ Some mid

first_runs : (count : ℕ) (turns : List Turn) (world last : WorldState) → run world turns ≡ Some last → RunsTo world (take count turns)
first_runs zero turns world last goes = record { mid = world; runs = refl }
first_runs (suc count) [] world last goes = record { mid = world; runs = refl }
first_runs (suc count) (turn ∷ turns) world last goes =
    let one = then_some (λ (w : WorldState). run w turns) (step world turn) last goes in
    let rest = first_runs count turns one.0 last one.2 in
    record { mid = rest.mid; runs = ap (λ (o : Option WorldState). option_and_then (λ (w : WorldState). run w (take count turns)) o) one.1 ∙ rest.runs }

after_is : (world last : WorldState) (turns : List Turn) → run world turns ≡ Some last → after world turns ≡ last
after_is world last turns goes = ap (λ (o : Option WorldState). unwrap_or o world) goes

last_rest_more : (world last : WorldState) (batch turns : List Turn) (moment : ℕ) (medium : Medium) (from to : ℕ) → IsSound world → MayJoin world from to → run world turns ≡ Some last
    → IsLastRest world batch turns moment → IsLastRest (joined world medium from to) batch turns moment
last_rest_more world last batch turns moment medium from to sound may goes rest =
    let first = first_runs moment turns world last goes in
    let mid : WorldState = first.mid in
    let may_mid = may_by mid world from to (run_keeps_shape world mid (take moment turns) sound first.runs) may in
    let sound_mid = run_keeps_sound world mid (take moment turns) sound first.runs in
    let here : after world (take moment turns) ≡ mid = after_is world mid (take moment turns) first.runs in
    let there : after (joined world medium from to) (take moment turns) ≡ joined mid medium from to =
    after_is (joined world medium from to) (joined mid medium from to) (take moment turns) (join_commutes world mid (take moment turns) medium from to sound may first.runs) in
    record {
      within = rest.within;
      at_rest = subst (λ (w : WorldState). IsTrue (rests w)) (sym there) (subst (λ (b : Bool). IsTrue b) (sym (rests_more mid medium from to may_mid)) (subst (λ (w : WorldState). IsTrue (rests w)) here rest.at_rest));
      used_up = rest.used_up;
      retries = λ who local. rest.retries who local
          ∙ ap (λ (b : Bool). if b then 1 else 0)
          (ap (λ (w : WorldState). world_owes w who local) here ∙ (sym (owed_same mid medium from to who local sound_mid may_mid) ∙ ap (λ (w : WorldState). world_owes w who local) (sym there)));
      besides = rest.besides;
    }

pub settled_joins : SettledJoins
settled_joins world last batch turns medium from to sound may settled =
    let may_last = may_by last world from to (run_keeps_shape world last turns sound settled.runs) may in
    let sound_last = run_keeps_sound world last turns sound settled.runs in
    record {
      runs = join_commutes world last turns medium from to sound may settled.runs;
      commands = settled.commands;
      at_rest = subst (λ (b : Bool). IsTrue b) (sym (rests_more last medium from to may_last)) settled.at_rest;
      no_ring = ring_more last medium from to sound_last may_last settled.no_ring;
      moment = settled.moment;
      last_rest = last_rest_more world last batch turns settled.moment medium from to sound may settled.runs settled.last_rest;
    }
