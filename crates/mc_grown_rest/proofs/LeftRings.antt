-- Where no box has a program, and the plans leave no ring, no settle stops at one.
use Rattle.std.proofs.Common.{◌≡◌, ◌++◌, inl, inr, ℕ, zero, suc, List, [], ◌∷◌, length, refl, ap, sym, ◌∙◌, subst, arith}
use Rattle.std.proofs.Math.ListN.{get_or}
use Rattle.std.proofs.lemmas.Bool.{cases_eq}
use Rattle.mc_signal.specs.declared.Medium.{Medium}
use Rattle.mc_slot.specs.declared.Slot.{Slot}
use Rattle.mc_box.specs.Boxes.{BoxState, first_slot, no_slot, slot_at, with_new_slot}
use Rattle.mc_box.specs.declared.event.Turn.{Turn}
use Rattle.mc_box.specs.declared.setup.SlotSetup.{SlotSetup}
use Rattle.mc_growth.specs.Growths.{Cut, GrownState, Growth, Join, grown_by, grown_by_all}
use Rattle.mc_growth.specs.Joins.{MayJoin, away_slot, joined, near_slot}
use Rattle.mc_growth.proofs.Joined.{box_away, box_else, box_near}
use Rattle.mc_grown_laws.proofs.Shapes.{may_by, shape_back, shape_joined}
use Rattle.mc_model.specs.Shapes.{HasShape}
use Rattle.mc_model.specs.Unprogrammed.{HasNoPrograms}
use Rattle.mc_model.specs.Worlds.{WorldState, box_at}
use Rattle.mc_rounds.specs.Stops.{StopsOnRing}
use Rattle.mc_settings.specs.Alike.{AreAlike}
use Rattle.mc_settings.specs.Batches.{RunsThrough}
use Rattle.mc_settings.specs.Settings.{commanded}
use Rattle.mc_settings.proofs.AlikeWorlds.{alike_both, alike_self, commands_keep_alike}
use Rattle.mc_settings.proofs.BatchesLeft.{batch_is_left, settled_used}
use Rattle.mc_settings.proofs.SamePaths.{alike_have_same_paths}
use Rattle.mc_stages.specs.Plans.{MayAskAll, batch_of, growths_of}
use Rattle.mc_stages.specs.declared.plan.StagePlan.{StagePlan}
use Rattle.mc_grown_rest.specs.Planned.{grown_for, commanded_for}
use Rattle.mc_grown_rest.specs.Rests.{PlansLeaveNoRing}
use Rattle.mc_grown_rest.proofs.JoinedSettings.{away_by_shape, joined_settings, near_by_shape}
use Rattle.mc_grown_rest.proofs.Reaching.{IsReady, Keeps, ready_after, sound_for}
use Rattle.mc_grown_rest.proofs.Restless.{all_unprogrammed, keeps_unprogrammed}
use Rattle.mc_grown_rest.proofs.StillRings.{none_on}

-- ---- slots of worlds that are alike, where a channel joins both

-- one item more
one_more : {X : Type 0} (f : Slot → X) (xs ys : List Slot) (x y d : Slot) (k : ℕ) → length xs ≡ length ys → ((n : ℕ) → f (get_or xs n d) ≡ f (get_or ys n d)) → f x ≡ f y
    → f (get_or (xs ++ x ∷ []) k d) ≡ f (get_or (ys ++ y ∷ []) k d)
one_more f [] [] x y d zero long same last = last
one_more f [] [] x y d (suc k) long same last = refl
one_more f [] (b ∷ ys) x y d k long same last = absurd (cc)
one_more f (a ∷ xs) [] x y d k long same last = absurd (cc)
one_more f (a ∷ xs) (b ∷ ys) x y d zero long same last = same 0
one_more f (a ∷ xs) (b ∷ ys) x y d (suc k) long same last = one_more f xs ys x y d k (omega (arith, long)) (λ n. same (suc n)) last

-- what is the same of each slot of two boxes is so with one slot more
slot_more : {X : Type 0} (f : Slot → X) (a b : BoxState) (one two : SlotSetup) (local : ℕ) → length a.slots ≡ length b.slots → one ≡ two
    → ((n : ℕ) → f (slot_at a n) ≡ f (slot_at b n)) → f (slot_at (with_new_slot a one) local) ≡ f (slot_at (with_new_slot b two) local)
slot_more f a b one two local long setup same =
    one_more f a.slots b.slots (first_slot one) (first_slot two) no_slot local long same (ap (λ (s : SlotSetup). f (first_slot s)) setup)

joined_slots : {X : Type 0} (f : Slot → X) (new old : WorldState) (medium : Medium) (from to who local : ℕ) → HasShape new old → MayJoin new from to → MayJoin old from to
    → ((w n : ℕ) → f (slot_at (box_at new w) n) ≡ f (slot_at (box_at old w) n)) → f (slot_at (box_at (joined new medium from to) who) local) ≡ f (slot_at (box_at (joined old medium from to) who) local)
joined_slots f new old medium from to who local shape may may_old same = elim (cases_eq who from) [
  | inl is ↦
      subst (λ (w : ℕ). f (slot_at (box_at (joined new medium from to) w) local) ≡ f (slot_at (box_at (joined old medium from to) w) local)) (sym is)
      (ap (λ (b : BoxState). f (slot_at b local)) (box_near new medium from to may)
      ∙ (slot_more f (box_at new from) (box_at old from) (near_slot new medium) (near_slot old medium) local (shape.alike from).slots (near_by_shape new old medium shape) (same from)
      ∙ sym (ap (λ (b : BoxState). f (slot_at b local)) (box_near old medium from to may_old))))
  | inr one ↦ elim (cases_eq who to) [
    | inl is ↦
        subst (λ (w : ℕ). f (slot_at (box_at (joined new medium from to) w) local) ≡ f (slot_at (box_at (joined old medium from to) w) local)) (sym is)
        (ap (λ (b : BoxState). f (slot_at b local)) (box_away new medium from to may)
        ∙ (slot_more f (box_at new to) (box_at old to) (away_slot new medium) (away_slot old medium) local (shape.alike to).slots (away_by_shape new old medium shape) (same to)
        ∙ sym (ap (λ (b : BoxState). f (slot_at b local)) (box_away old medium from to may_old))))
    | inr two ↦
        ap (λ (b : BoxState). f (slot_at b local)) (box_else new medium from to who one two)
        ∙ (same who local ∙ sym (ap (λ (b : BoxState). f (slot_at b local)) (box_else old medium from to who one two)))
  ]
]

-- worlds that are alike are so where a channel joins both
alike_joined : (new old : WorldState) (medium : Medium) (from to : ℕ) → AreAlike new old → MayJoin new from to → AreAlike (joined new medium from to) (joined old medium from to)
alike_joined new old medium from to alike may =
    let may_old = may_by old new from to (shape_back new old alike.shape) may in
    record {
      shape = shape_joined new old medium from to alike.shape may_old;
      settings = λ who. joined_settings new old medium from to who alike.shape may may_old (alike.settings who);
      media = λ who local. joined_slots (λ (s : Slot). s.medium) new old medium from to who local alike.shape may may_old alike.media;
      sides = λ who local. joined_slots (λ (s : Slot). s.initiator) new old medium from to who local alike.shape may may_old alike.sides;
    }

alike_one : (growth : Growth) (new old : GrownState) → MayAskAll new (growth ∷ []) → AreAlike new.world old.world → AreAlike (grown_by new growth).world (grown_by old growth).world
alike_one (Join medium from to) new old may alike = alike_joined new.world old.world medium from to alike may.0
alike_one (Cut channel) new old may alike = alike

alike_all : (growths : List Growth) (new old : GrownState) → MayAskAll new growths → AreAlike new.world old.world → AreAlike (grown_by_all new growths).world (grown_by_all old growths).world
alike_all [] new old may alike = alike
alike_all (growth ∷ growths) new old may alike = alike_all growths (grown_by new growth) (grown_by old growth) may.1 (alike_one growth new old (may.0, tt) alike)

-- ---- settles

-- what holds before each stage: no box has a program, and the world is as planned, but for what signals change
pub record LeavesNone (network : GrownState) (plans : List StagePlan) : Type 0 where
  unprogrammed : HasNoPrograms network.world
  aim : GrownState
  alike : AreAlike network.world aim.world
  leaves : PlansLeaveNoRing aim plans

pub leaves_first : (first : GrownState) (plans : List StagePlan) → HasNoPrograms first.world → PlansLeaveNoRing first plans → LeavesNone first plans
leaves_first first plans none leaves = record { unprogrammed = none; aim = first; alike = alike_self first.world; leaves = leaves }

-- turns that use up the batch of a plan leave the world as the plan makes it
left_alike : (network aim : GrownState) (plan : StagePlan) (plans : List StagePlan) (turns : List Turn) (next : WorldState) → IsReady network (plan ∷ plans) → HasNoPrograms network.world
    → AreAlike network.world aim.world → RunsThrough (grown_for network plan).world (batch_of plan) turns next → AreAlike next (commanded_for aim plan).world
left_alike network aim plan plans turns next ready none alike through =
    let grown : WorldState = (grown_for network plan).world in
    let batch : List Turn = batch_of plan in
    alike_both next (commanded grown batch) (commanded_for aim plan).world
    (batch_is_left grown next batch turns (sound_for network plan plans ready) (all_unprogrammed (growths_of plan) network ready.lawful.0 none) through)
    (commands_keep_alike grown (grown_for aim plan).world batch (alike_all (growths_of plan) network aim ready.lawful.0 alike))

pub keeps_leaves : Keeps LeavesNone
keeps_leaves network plan plans turns next ready settles now = record {
  unprogrammed = keeps_unprogrammed network plan plans turns next ready settles now.unprogrammed;
  aim = commanded_for now.aim plan;
  alike = left_alike network now.aim plan plans turns next ready now.unprogrammed now.alike (settled_used (grown_for network plan).world next (batch_of plan) turns settles.settled);
  leaves = now.leaves.1;
}

pub none_left : (network : GrownState) (plan : StagePlan) (plans : List StagePlan) (turns : List Turn) (at : ℕ) → IsReady network (plan ∷ plans) → LeavesNone network (plan ∷ plans)
    → StopsOnRing (grown_for network plan).world (batch_of plan) turns at → ⊥
none_left network plan plans turns at ready now stops =
    let alike = left_alike network now.aim plan plans turns stops.last ready now.unprogrammed now.alike (record { runs = stops.stopped.runs; commands = stops.used_up }) in
    none_on stops.last at (ready_after network plan plans turns stops.last ready stops.stopped.runs).sound
    ((alike_have_same_paths stops.last (commanded_for now.aim plan).world alike).ring ∙ now.leaves.0) stops.least.inside stops.least.on
