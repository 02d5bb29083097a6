-- Where the commands before each cut leave the goal close at each slot of its channel, no cut is refused.
use Rattle.std.proofs.Common.{◌≡◌, ◌<◌, ◌==◌, ◌&&◌, inl, inr, not, cond, ℕ, Bool, true, false, Some, List, [], ◌∷◌, refl, ap, sym, ◌∙◌, subst, arith}
use Rattle.std.specs.List.{find, range_with_len}
use Rattle.std.proofs.lemmas.Bool.{and_parts}
use Rattle.std.proofs.lemmas.Grind.{common_steps}
use Rattle.mc_signal.specs.declared.Medium.{Medium}
use Rattle.mc_slot.specs.EndTurn.{is_end_goal}
use Rattle.mc_slot.specs.declared.Goal.TheVariants.{Close as ToClose}
use Rattle.mc_slot.specs.declared.Slot.{Slot}
use Rattle.mc_slot.specs.declared.SlotGoal.{SlotGoal}
use Rattle.mc_slot.specs.declared.SlotGoal.TheVariants.{End}
use Rattle.mc_slot.specs.declared.State.{State}
use Rattle.mc_slot.specs.declared.State.TheVariants.{Closed}
use Rattle.mc_box.specs.declared.event.Turn.{Turn}
use Rattle.mc_box.proofs.NewBoxes.{new_slot_closed}
use Rattle.mc_growth.specs.Growths.{Cut, GrownState, Growth, Join, MayGrow, grown_by}
use Rattle.mc_growth.specs.Joins.{MayJoin, joined}
use Rattle.mc_growth.specs.Outs.{is_close, is_closed, is_of, is_used}
use Rattle.mc_growth.proofs.Joined.{SlotKind, away, before, kind_of, near, same_slot}
use Rattle.mc_growth.proofs.JoinedSound.{new_away, new_near}
use Rattle.mc_laws.proofs.Reaches.{comes_to_end}
use Rattle.mc_laws.proofs.Resting.{rests_quiet}
use Rattle.mc_laws.proofs.ShapesKept.{same_shape}
use Rattle.mc_laws.proofs.StepKeeps.{run_keeps_sound}
use Rattle.mc_model.specs.Paths.{end_goal_of}
use Rattle.mc_model.specs.Settles.{IsSettled}
use Rattle.mc_model.specs.Sound.{IsSound}
use Rattle.mc_model.specs.Worlds.{WorldState, box_at, goal_of, place, slot_count, slot_of}
use Rattle.mc_path_laws.proofs.Quiet.{quiet_from}
use Rattle.mc_stages.specs.Plans.{growths_of}
use Rattle.mc_stages.specs.StageRuns.{IsCutShort, RefusesGrowth}
use Rattle.mc_stages.specs.declared.plan.StagePlan.{StagePlan}
use Rattle.mc_stages.proofs.Grows.{asked_all, sound_one, used_inside}
use Rattle.mc_grown_rest.specs.Planned.{grown_for, commanded_for}
use Rattle.mc_grown_rest.specs.RestLaws.{NewAreClosed}
use Rattle.mc_grown_rest.specs.Rests.{AreClosed, ClosesBeforeCuts, CutsAllAtClose, CutsAtClose}
use Rattle.mc_grown_rest.proofs.AsPlanned.{IsSetAs, goal_as, set_after, set_one}
use Rattle.mc_grown_rest.proofs.JoinedSettings.{count_by_shape}
use Rattle.mc_grown_rest.proofs.Reaching.{IsReady, Keeps, sound_for}

-- ---- slots that are to close

-- each slot with the goal close is closed
abbrev pub ClosedAtClose : WorldState → Type 0
ClosedAtClose world = (s : ℕ) → s < slot_count world → goal_of world s ≡ End ToClose → (slot_of world s).state ≡ Closed

pub new_are_closed : NewAreClosed
new_are_closed world sound new s inside =
    ap (λ (slot : Slot). slot.state) (new_slot_closed (box_at world (place world s).0) (place world s).1 (new (place world s).0 (sound.numbered.placed s inside)))

-- after a settle
settled_closed : (world last : WorldState) (batch turns : List Turn) → IsSound world → IsSettled world batch turns last → ClosedAtClose last
settled_closed world last batch turns sound settled s inside goal =
    let strong = run_keeps_sound world last turns sound settled.runs in
    let end = comes_to_end last s settled.no_ring inside in
    let aims : is_end_goal (goal_of last s) ≡ true = ap is_end_goal goal in
    ((quiet_from last s end.0 strong (rests_quiet last settled.at_rest) inside aims end.1).low_closes (ap end_goal_of goal)).low

-- and where a channel joins
kind_closed : (world : WorldState) (medium : Medium) (from to s : ℕ) → IsSound world → MayJoin world from to → ClosedAtClose world → SlotKind (slot_count world) s
    → goal_of (joined world medium from to) s ≡ End ToClose → (slot_of (joined world medium from to) s).state ≡ Closed
kind_closed world medium from to s sound may closed (before below) goal =
    let same = same_slot world medium from to s sound.numbered may below in
    ap (λ (slot : Slot). slot.state) same.slot ∙ closed s below (sym same.goal ∙ goal)
kind_closed world medium from to s sound may closed (near is) goal =
    subst (λ (n : ℕ). (slot_of (joined world medium from to) n).state ≡ Closed) (sym is) (ap (λ (slot : Slot). slot.state) (new_near world medium from to sound.numbered may).slot)
kind_closed world medium from to s sound may closed (away is) goal =
    subst (λ (n : ℕ). (slot_of (joined world medium from to) n).state ≡ Closed) (sym is) (ap (λ (slot : Slot). slot.state) (new_away world medium from to sound.numbered may).slot)

one_closed : (growth : Growth) (network : GrownState) → IsSound network.world → MayGrow network growth → ClosedAtClose network.world → ClosedAtClose (grown_by network growth).world
one_closed (Join medium from to) network sound may closed = λ s inside goal. kind_closed network.world medium from to s sound may closed (kind_of network.world medium from to s inside) goal
one_closed (Cut channel) network sound may closed = closed

-- ---- a cut

found_by : (here : Bool) (p : ℕ → Bool) (x s : ℕ) (rest : List ℕ) → p x ≡ here → (find p rest ≡ Some s → p s ≡ true) → cond here (Some x) (find p rest) ≡ Some s → p s ≡ true
found_by true p x s rest is later found = let same : x ≡ s = cc in subst (λ (n : ℕ). p n ≡ true) same is
found_by false p x s rest is later found = later found

-- what is found passes the test
found_passes : (p : ℕ → Bool) (xs : List ℕ) (s : ℕ) → find p xs ≡ Some s → p s ≡ true
found_passes p [] s found = absurd (cc)
found_passes p (x ∷ xs) s found = found_by (p x) p x s xs refl (λ later. found_passes p xs s later) found

same_number : (a b : ℕ) → (a == b) ≡ true → a ≡ b
same_number a b is = grind (arith, common_steps)

not_used : (state : State) (goal : SlotGoal) → state ≡ Closed → goal ≡ End ToClose → not (is_closed state && is_close goal) ≡ true → ⊥
not_used state goal closed close used = let not : not (is_closed state && is_close goal) ≡ false = rw (closed, close) refl in cc

refuses_none : (growth : Growth) (aim now : GrownState) (at : ℕ) → IsSetAs aim now → ClosedAtClose now.world → CutsAtClose aim growth → RefusesGrowth now growth at → ⊥
refuses_none (Join medium from to) aim now at set closed cuts refuses = refuses
refuses_none (Cut channel) aim now at set closed cuts refuses =
    let inside = used_inside now.world channel at refuses.1 in
    let found = found_passes (λ s. is_of now.world channel s && is_used now.world s) (range_with_len 0 (slot_count now.world)) at refuses.1 in
    let parts = and_parts (is_of now.world channel at) (is_used now.world at) found in
    let of = same_number _ channel parts.0 in
    let goal = sym (goal_as aim now at set (refuses.0.unprogrammed at inside of))
    ∙ cuts at (subst (λ (n : ℕ). at < n) (count_by_shape now.world aim.world set.shape) inside) (rw (sym set.shape.channels) of) in
    not_used (slot_of now.world at).state (goal_of now.world at) (closed at inside goal) goal parts.1

short_none : (growths : List Growth) (aim now : GrownState) (at : ℕ) → IsSound now.world → IsSetAs aim now → ClosedAtClose now.world → CutsAllAtClose aim growths → IsCutShort now growths at → ⊥
short_none [] aim now at sound set closed cuts short = short
short_none (growth ∷ growths) aim now at sound set closed cuts (inl refuses) = refuses_none growth aim now at set closed cuts.0 refuses
short_none (growth ∷ growths) aim now at sound set closed cuts (inr (may, short)) =
    short_none growths (grown_by aim growth) (grown_by now growth) at (sound_one growth now sound (asked_all (growth ∷ []) now (may, tt)).0) (set_one growth aim now may set)
    (one_closed growth now sound may closed) cuts.1 short

-- ---- plans

-- before each stage the goals are as planned, and each slot with the goal close is closed
pub record CutsClosed (network : GrownState) (plans : List StagePlan) : Type 0 where
  pub aim : GrownState
  pub set : IsSetAs aim network
  pub closed : ClosedAtClose network.world
  pub cuts : ClosesBeforeCuts aim plans

pub cuts_first : (first : GrownState) (plans : List StagePlan) → AreClosed first.world → ClosesBeforeCuts first plans → CutsClosed first plans
cuts_first first plans closed cuts = record {
  aim = first;
  set = record { shape = same_shape first.world; settings = λ who none. refl };
  closed = λ s inside goal. closed s inside;
  cuts = cuts;
}

pub keeps_closed : Keeps CutsClosed
keeps_closed network plan plans turns next ready settles now = record {
  aim = commanded_for now.aim plan;
  set = set_after now.aim network plan plans turns next ready settles now.set;
  closed = settled_closed (grown_for network plan).world next _ turns (sound_for network plan plans ready) settles.settled;
  cuts = now.cuts.1;
}

-- so no cut of it is refused
pub none_refused : (network : GrownState) (plan : StagePlan) (plans : List StagePlan) (at : ℕ) → IsReady network (plan ∷ plans) → CutsClosed network (plan ∷ plans)
    → IsCutShort network (growths_of plan) at → ⊥
none_refused network plan plans at ready now short = short_none (growths_of plan) now.aim network at ready.sound now.set now.closed now.cuts.0 short
