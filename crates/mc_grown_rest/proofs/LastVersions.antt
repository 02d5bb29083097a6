-- A script that stops at the last version: the first version of some slot and its Hears pass it.
use Rattle.std.proofs.Common.{◌≡◌, ◌+◌, ◌<◌, ℕ, List, [], ◌∷◌, length, refl, ap, sym, ◌∙◌, subst, arith}
use Rattle.std.specs.List.{flat_map}
use Rattle.std.proofs.lemmas.List.Sums.{sum_by-cons}
use Rattle.mc_signal.specs.declared.Medium.{Medium}
use Rattle.mc_box.specs.Boxes.{media_at}
use Rattle.mc_box.specs.declared.event.Turn.{Turn}
use Rattle.mc_growth.specs.Growths.{Cut, GrownState, Growth, Join, grown_by, grown_by_all}
use Rattle.mc_growth.specs.Joins.{MayJoin, joined}
use Rattle.mc_growth.proofs.Joined.{length_boxes, same_slot, slots_more}
use Rattle.mc_grown_script.proofs.Lawful.{asks_end, end_after}
use Rattle.mc_laws.proofs.HearCounts.{settles_count_hears}
use Rattle.mc_laws.proofs.ShapesKept.{run_keeps_shape, same_shape, shape_both}
use Rattle.mc_laws.specs.Versions.{PassesLast}
use Rattle.mc_model.specs.Shapes.{HasShape}
use Rattle.mc_laws.proofs.LastMet.{last_is_passed}
use Rattle.mc_laws.proofs.RunVersions.{versions_count_hears}
use Rattle.mc_model.specs.Settles.{hears_in, hears_of}
use Rattle.mc_model.specs.Sound.{IsSound}
use Rattle.mc_model.specs.Worlds.{WorldState, box_at, version_at}
use Rattle.mc_rounds.specs.Stops.{StopsAtLast}
use Rattle.mc_stages.specs.Plans.{MayAskAll, batch_of, growths_of}
use Rattle.mc_stages.specs.declared.plan.StagePlan.{StagePlan}
use Rattle.mc_stages.proofs.Grows.{sound_one}
use Rattle.mc_grown_rest.specs.Planned.{all_batches, grown_for}
use Rattle.mc_grown_rest.specs.Rests.{PlansMeetNoLast}
use Rattle.mc_grown_rest.proofs.FullWorlds.{full_run, full_sound, full_world}
use Rattle.mc_grown_rest.proofs.Reaching.{IsReady, Keeps, network_after, sound_for}

-- ---- slots that were there before joins and cuts

-- a slot of a box is there still, with its version
record StaysAt (old new : WorldState) (who local : ℕ) : Type 0 where
  here : who < length new.boxes
  inside : local < length (box_at new who).slots
  version : version_at new who local ≡ version_at old who local

join_stays : (world : WorldState) (medium : Medium) (from to who local : ℕ) → IsSound world → MayJoin world from to → who < length world.boxes → local < length (box_at world who).slots
    → StaysAt world (joined world medium from to) who local
join_stays world medium from to who local sound may here inside =
    let slot = sound.numbered.all who local here inside in
    let same = same_slot world medium from to slot.0 sound.numbered may slot.1 in
    let more = slots_more world medium from to who may in
    record {
      here = omega (arith, here, length_boxes world medium from to);
      inside = omega (arith, inside, more);
      version = subst (λ (p : ℕ × ℕ). (media_at (box_at (joined world medium from to) p.0) p.1).version ≡ (media_at (box_at world p.0) p.1).version) slot.2 (ap (λ m. m.version) same.media);
    }

stays_one : (growth : Growth) (network : GrownState) (who local : ℕ) → IsSound network.world → MayAskAll network (growth ∷ []) → who < length network.world.boxes
    → local < length (box_at network.world who).slots → StaysAt network.world (grown_by network growth).world who local
stays_one (Join medium from to) network who local sound may here inside = join_stays network.world medium from to who local sound may.0 here inside
stays_one (Cut channel) network who local sound may here inside = record { here = here; inside = inside; version = refl }

stays_all : (growths : List Growth) (network : GrownState) (who local : ℕ) → IsSound network.world → MayAskAll network growths → who < length network.world.boxes
    → local < length (box_at network.world who).slots → StaysAt network.world (grown_by_all network growths).world who local
stays_all [] network who local sound may here inside = record { here = here; inside = inside; version = refl }
stays_all (growth ∷ growths) network who local sound may here inside =
    let one = stays_one growth network who local sound (may.0, tt) here inside in
    let rest = stays_all growths (grown_by network growth) who local (sound_one growth network sound may.0) may.1 one.here one.inside in
    record { here = rest.here; inside = rest.inside; version = rest.version ∙ one.version }

-- ---- settles

-- one batch before the others
hears_more : (who local : ℕ) (plan : StagePlan) (plans : List StagePlan) → hears_in who local (all_batches (plan ∷ plans)) ≡ hears_of who local (batch_of plan) + hears_in who local (all_batches plans)
hears_more who local plan plans = sum_by-cons (hears_of who local) (batch_of plan) (all_batches plans)

-- what the plans that are left say of versions is what all plans say
pub record StillCounts (start : WorldState) (all : List (List Turn)) (network : GrownState) (plans : List StagePlan) : Type 0 where
  shape : HasShape (full_world network plans) start
  counts : (who local : ℕ) → version_at (full_world network plans) who local + hears_in who local (all_batches plans) ≡ version_at start who local + hears_in who local all

pub counts_first : (first : GrownState) (plans : List StagePlan) → StillCounts (full_world first plans) (all_batches plans) first plans
counts_first first plans = record { shape = same_shape (full_world first plans); counts = λ who local. refl }

-- a settle counts versions up by the Hears of its batch
pub keeps_counts : (start : WorldState) (all : List (List Turn)) → Keeps (StillCounts start all)
keeps_counts start all network plan plans turns next ready settles still =
    let full = full_world network (plan ∷ plans) in
    let later = full_world (network_after network plan next) plans in
    let sound = full_sound network (plan ∷ plans) ready in
    let goes = full_run network plan plans turns next ready settles.settled.runs in
    record {
      shape = shape_both later full start (run_keeps_shape full later turns sound goes) still.shape;
      counts = λ who local.
          let grown = versions_count_hears full later turns sound goes who local in
          let made = settles_count_hears (grown_for network plan).world next (batch_of plan) turns settles.settled who local in
          let before = still.counts who local in
          let more = hears_more who local plan plans in
          omega (arith, grown, made, before, more);
    }

-- where a settle stops at the last version, some slot passes it
pub stop_passes : (start : WorldState) (all : List (List Turn)) (network : GrownState) (plan : StagePlan) (plans : List StagePlan) (turns : List Turn) (at : ℕ) → IsReady network (plan ∷ plans)
    → StillCounts start all network (plan ∷ plans) → StopsAtLast (grown_for network plan).world (batch_of plan) turns at → PassesLast start (λ who local. hears_in who local all)
stop_passes start all network plan plans turns at ready still stops =
    let grown = grown_for network plan in
    let sound = sound_for network plan plans ready in
    let one = last_is_passed grown.world stops.last (batch_of plan) turns at sound stops.stopped stops.meets in
    let stays : StaysAt grown.world (full_world network (plan ∷ plans)) one.who one.local =
    subst (λ (n : GrownState). StaysAt grown.world n.world one.who one.local) (sym (end_after plan plans network))
    (stays_all (flat_map growths_of plans) grown one.who one.local sound (asks_end plans grown ready.lawful.2) one.here one.inside) in
    record {
      who = one.who;
      local = one.local;
      here = subst (λ (n : ℕ). one.who < n) still.shape.boxes stays.here;
      inside = subst (λ (n : ℕ). one.local < n) (still.shape.alike one.who).slots stays.inside;
      passes =
          let same = stays.version in
          let passes = one.passes in
          let before = still.counts one.who one.local in
          let more = hears_more one.who one.local plan plans in
          omega (arith, same, passes, before, more);
    }

-- and then it isn't so that none does
pub meets_none : (first : GrownState) (plans : List StagePlan) → PlansMeetNoLast first plans → PassesLast (full_world first plans) (λ who local. hears_in who local (all_batches plans)) → ⊥
meets_none first plans below one =
    let most = below one.who one.local in
    let passes = one.passes in
    omega (arith, most, passes)
