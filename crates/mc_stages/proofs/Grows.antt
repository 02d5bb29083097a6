-- Joins and cuts, one after another: what is left of them, and what they keep.
use Rattle.std.proofs.Common.{◌≡◌, ◌<◌, ◌≤◌, ◌+◌, add-one, ◌&&◌, inl, inr, ℕ, zero, suc, Bool, true, false, cond, Option, Some, None, Err, List, [], ◌∷◌, drop, map, length, slice_index_or, refl, ap, sym, ◌∙◌, subst, arith}
use Rattle.std.proofs.Math.Seq.{drop-cons}
use Rattle.std.specs.List.{find, range_with_len}
use Rattle.mc_growth.specs.Growths.{Cut, GrownState, Growth, Join, MayGrow, MayGrowAll, grown_by, grown_by_all}
use Rattle.mc_growth.specs.Joins.{joined}
use Rattle.mc_growth.specs.Outs.{AreOut, is_of, is_used, least_used}
use Rattle.mc_growth.proofs.Joined.{count_joined, place_before}
use Rattle.mc_growth.proofs.JoinedSound.{join_keeps_sound}
use Rattle.mc_growth.proofs.Outs.{cut_keeps_out, join_keeps_out}
use Rattle.mc_grow.specs.Cuts.{unless_used}
use Rattle.mc_grow.specs.declared.grown.InUse.{InUse}
use Rattle.mc_stages.specs.Growing.{CutsShort, IsRefused}
use Rattle.mc_stages.specs.Plans.{MayAsk, MayAskAll, growth_of}
use Rattle.mc_stages.specs.StageRuns.{IsCutShort, RefusesGrowth}
use Rattle.mc_stages.specs.declared.growing.GrowthFault.{GrowthFault}
use Rattle.mc_stages.specs.declared.growing.GrowthFault.TheVariants.{InUse as IsInUse, NoMemory}
use Rattle.mc_stages.specs.declared.growing.UsedSlot.{UsedSlot}
use Rattle.mc_stages.specs.declared.plan.ChannelChange.{ChannelChange}
use Rattle.mc_model.specs.Sound.{IsSound}
use Rattle.mc_model.specs.Worlds.{WorldState, place, slot_count}

-- ---- slots

-- what is found among numbers is one of them
found_by : (here : Bool) (p : ℕ → Bool) (first count s : ℕ) → p first ≡ here
    → (find p (range_with_len (first + 1) count) ≡ Some s → s < first + 1 + count) → find p (range_with_len first (suc count)) ≡ Some s → s < first + suc count
found_by true p first count s here later found =
    let same : Some first ≡ Some s = sym (ap (λ (b : Bool). cond b (Some first) (find p (range_with_len (first + 1) count))) here) ∙ found in
    let is : first ≡ s = cc in
    omega (arith, is)
found_by false p first count s here later found =
    let there = later (sym (ap (λ (b : Bool). cond b (Some first) (find p (range_with_len (first + 1) count))) here) ∙ found) in
    omega (arith, there)

found_inside : (count : ℕ) (p : ℕ → Bool) (first s : ℕ) → find p (range_with_len first count) ≡ Some s → s < first + count
found_inside zero p first s found = absurd (cc)
found_inside (suc count) p first s found = found_by (p first) p first count s refl (λ later. found_inside count p (first + 1) s later) found

-- a slot in use is one of the world's
pub used_inside : (world : WorldState) (channel s : ℕ) → least_used world channel ≡ Some s → s < slot_count world
used_inside world channel s is =
    let inside = found_inside (slot_count world) (λ t. is_of world channel t && is_used world t) 0 s is in
    omega (arith, inside)

-- a slot that was there keeps its place
pub record Stays (old new : WorldState) (s : ℕ) : Type 0 where
  pub place : place new s ≡ place old s
  pub inside : s < slot_count new

stays_one : (growth : Growth) (network : GrownState) (s : ℕ) → s < slot_count network.world → Stays network.world (grown_by network growth).world s
stays_one (Join medium from to) network s inside = record {
  place = place_before network.world medium from to s inside;
  inside = omega (arith, inside, count_joined network.world medium from to);
}
stays_one (Cut channel) network s inside = record { place = refl; inside = inside }

pub stays_all : (growths : List Growth) (network : GrownState) (s : ℕ) → s < slot_count network.world → Stays network.world (grown_by_all network growths).world s
stays_all [] network s inside = record { place = refl; inside = inside }
stays_all (growth ∷ growths) network s inside =
    let one = stays_one growth network s inside in
    let rest = stays_all growths (grown_by network growth) s one.inside in
    record { place = rest.place ∙ one.place; inside = rest.inside }

-- ---- what is kept

pub sound_one : (growth : Growth) (network : GrownState) → IsSound network.world → MayAsk network growth → IsSound (grown_by network growth).world
sound_one (Join medium from to) network sound may = join_keeps_sound network.world medium from to sound may
sound_one (Cut channel) network sound may = sound

pub sound_all : (growths : List Growth) (network : GrownState) → IsSound network.world → MayAskAll network growths → IsSound (grown_by_all network growths).world
sound_all [] network sound may = sound
sound_all (growth ∷ growths) network sound may = sound_all growths (grown_by network growth) (sound_one growth network sound may.0) may.1

-- what may happen may be asked for
asked_one : (growth : Growth) (network : GrownState) → MayGrow network growth → MayAsk network growth
asked_one (Join medium from to) network may = may
asked_one (Cut channel) network may = may.0

pub asked_all : (growths : List Growth) (network : GrownState) → MayGrowAll network growths → MayAskAll network growths
asked_all [] network may = tt
asked_all (growth ∷ growths) network may = (asked_one growth network may.0, asked_all growths (grown_by network growth) may.1)

out_one : (growth : Growth) (network : GrownState) → IsSound network.world → AreOut network.world network.out → MayGrow network growth
    → AreOut (grown_by network growth).world (grown_by network growth).out
out_one (Join medium from to) network sound are may = join_keeps_out network.world medium from to network.out sound may are
out_one (Cut channel) network sound are may = cut_keeps_out network.world channel network.out sound are may.0 may.1

pub out_all : (growths : List Growth) (network : GrownState) → IsSound network.world → AreOut network.world network.out → MayGrowAll network growths
    → AreOut (grown_by_all network growths).world (grown_by_all network growths).out
out_all [] network sound are may = are
out_all (growth ∷ growths) network sound are may =
    out_all growths (grown_by network growth) (sound_one growth network sound (asked_one growth network may.0)) (out_one growth network sound are may.0) may.1

-- ---- one after another

-- from here on these joins and cuts are left of all
pub record GrowsOn (first : GrownState) (all rest : List Growth) (now : GrownState) : Type 0 where
  pub asks : MayAskAll now rest
  pub ends : grown_by_all first all ≡ grown_by_all now rest
  pub may : MayGrowAll now rest → MayGrowAll first all
  pub refused : (at : ℕ) → IsCutShort now rest at → IsCutShort first all at

pub grows_first : (first : GrownState) (all : List Growth) → MayAskAll first all → GrowsOn first all all first
grows_first first all asks = record { asks = asks; ends = refl; may = λ may. may; refused = λ at short. short }

pub grows_more : (first now next : GrownState) (all rest : List Growth) (growth : Growth) → MayGrow now growth → next ≡ grown_by now growth
    → GrowsOn first all (growth ∷ rest) now → GrowsOn first all rest next
grows_more first now next all rest growth may is on =
    subst (λ (n : GrownState). GrowsOn first all rest n) (sym is) (record {
      asks = on.asks.1;
      ends = on.ends;
      may = λ others. on.may (may, others);
      refused = λ at short. on.refused at (inr (may, short));
    })

-- a slot at which one is refused is of the network then
refused_inside : (growth : Growth) (network : GrownState) (at : ℕ) → RefusesGrowth network growth at → at < slot_count network.world
refused_inside (Join medium from to) network at refuses = absurd refuses
refused_inside (Cut channel) network at refuses = used_inside network.world channel at refuses.1

pub cut_here : (fault : GrowthFault) (first now : GrownState) (all rest : List Growth) (growth : Growth) → IsRefused now growth fault → GrowsOn first all (growth ∷ rest) now
    → CutsShort first all fault
cut_here (IsInUse used) first now all rest growth refused on =
    let stays = stays_all (growth ∷ rest) now used.at (refused_inside growth now used.at refused.0) in (
      on.refused used.at (inl refused.0),
      refused.1 ∙ (sym stays.place ∙ ap (λ (n : GrownState). place n.world used.at) (sym on.ends)),
      subst (λ (n : GrownState). used.at < slot_count n.world) (sym on.ends) stays.inside,
    )
cut_here (NoMemory e) first now all rest growth refused on = tt

-- the next one, and those after it
pub next_growth : (all : List ChannelChange) (i : ℕ) (none : ChannelChange) → i < length all
    → map growth_of (drop i all) ≡ growth_of (slice_index_or all i none) ∷ map growth_of (drop (i + 1) all)
next_growth all i none within = ap (λ (left : List ChannelChange). map growth_of left) (drop-cons all i none within ∙ ap (λ (n : ℕ). slice_index_or all i none ∷ drop n all) (sym (add-one i)))

-- by its place
pub grows_at : (first now next : GrownState) (all : List ChannelChange) (i : ℕ) (none : ChannelChange) → i < length all
    → MayGrow now (growth_of (slice_index_or all i none)) → next ≡ grown_by now (growth_of (slice_index_or all i none))
    → GrowsOn first (map growth_of all) (map growth_of (drop i all)) now → GrowsOn first (map growth_of all) (map growth_of (drop (i + 1) all)) next
grows_at first now next all i none within may is on =
    grows_more first now next (map growth_of all) (map growth_of (drop (i + 1) all)) (growth_of (slice_index_or all i none)) may is
    (subst (λ (left : List Growth). GrowsOn first (map growth_of all) left now) (next_growth all i none within) on)

pub cut_at : (fault : GrowthFault) (first now : GrownState) (all : List ChannelChange) (i : ℕ) (none : ChannelChange) → i < length all
    → IsRefused now (growth_of (slice_index_or all i none)) fault → GrowsOn first (map growth_of all) (map growth_of (drop i all)) now → CutsShort first (map growth_of all) fault
cut_at fault first now all i none within refused on =
    cut_here fault first now (map growth_of all) (map growth_of (drop (i + 1) all)) (growth_of (slice_index_or all i none)) refused
    (subst (λ (left : List Growth). GrowsOn first (map growth_of all) left now) (next_growth all i none within) on)

-- ---- a cut that is refused

-- it tells the slot
pub used_slot : (o : Option ℕ) (used : InUse) → Err used ≡ unless_used o → o ≡ Some used.slot
used_slot None used is = absurd (cc)
used_slot (Some s) used is = let same : used ≡ record { slot = s } = cc in ap (λ (u : InUse). Some u.slot) (sym same)
