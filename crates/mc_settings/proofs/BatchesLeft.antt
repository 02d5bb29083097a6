-- What batches leave is as their commands make it: rings and paths of hold against hold are there where commands make them.
use Rattle.std.proofs.Common.{◌≡◌, ℕ, zero, suc, None, List, [], ◌∷◌, length, slice_get, take, refl, ap, sym, ◌∙◌, subst, arith}
use Rattle.mc_box.specs.declared.event.Turn.{Turn}
use Rattle.mc_laws.proofs.NoPrograms.{run_makes_no_shift, still_none}
use Rattle.mc_laws.proofs.Reaches.{comes_to_end}
use Rattle.mc_laws.proofs.RingWalks.{rings_meet_no_end}
use Rattle.mc_laws.proofs.ShapesKept.{run_keeps_shape}
use Rattle.mc_laws.proofs.StepKeeps.{run_keeps_sound}
use Rattle.mc_model.specs.Rings.{IsLeastOnRing}
use Rattle.mc_model.specs.Settles.{IsSettled, commands_of, next_command}
use Rattle.mc_model.specs.Sound.{IsSound}
use Rattle.mc_model.specs.Unprogrammed.{HasNoPrograms}
use Rattle.mc_model.specs.Worlds.{WorldState}
use Rattle.mc_settings.specs.Alike.{AreAlike}
use Rattle.mc_settings.specs.Batches.{AreDecided, HasNoRing, EachLeaves, SettleAll, RunsThrough, commanded_by}
use Rattle.mc_settings.specs.SettingLaws.{BatchIsLeft, BatchesAreLeft, DecidedIsLeft, DecidedStays, NoRingIsMet, NoRingStays, RingsAreLeft, SettlesAreAlike, StoppedUsesUp}
use Rattle.mc_settings.specs.Settings.{commanded}
use Rattle.mc_settings.proofs.Agreeing.{decided_passes}
use Rattle.mc_settings.proofs.AlikeWorlds.{alike_back, alike_both, alike_self, commands_keep_alike}
use Rattle.mc_settings.proofs.CommandedWorlds.{commands_alone}
use Rattle.mc_settings.proofs.Following.{runs_follow_commands}
use Rattle.mc_settings.proofs.SamePaths.{alike_have_same_paths}

-- ---- batches that are used up

-- a list without an entry at a number ends before it
taken_whole : (turns : List Turn) (n : ℕ) → slice_get turns n ≡ None → take n turns ≡ turns
taken_whole [] zero is = refl
taken_whole [] (suc n) is = refl
taken_whole (turn ∷ turns) zero is = absurd cc
taken_whole (turn ∷ turns) (suc n) is = ap (λ (l : List Turn). turn ∷ l) (taken_whole turns n is)

past_end : (turns : List Turn) → slice_get turns (length turns) ≡ None
past_end [] = refl
past_end (turn ∷ turns) = past_end turns

pub stopped_uses_up : StoppedUsesUp
stopped_uses_up world last batch turns stopped = (none_next, uses)
  where
    none_next : RunsThrough world batch turns last → (who : ℕ) → next_command batch turns who ≡ None
    none_next used who = ap (λ (l : List Turn). slice_get (commands_of who batch) (length l)) (used.commands who) ∙ past_end (commands_of who batch)

    uses : ((who : ℕ) → next_command batch turns who ≡ None) → RunsThrough world batch turns last
    uses none = record {
      runs = stopped.runs;
      commands = λ who. stopped.commands who ∙ taken_whole (commands_of who batch) (length (commands_of who turns)) (none who);
    }

-- ---- one batch

pub batch_is_left : BatchIsLeft
batch_is_left world last batch turns sound none used =
    subst (λ (w : WorldState). AreAlike last w) (commands_alone world turns batch used.commands) (runs_follow_commands world last turns sound (run_makes_no_shift world last turns sound none used.runs) used.runs)

-- a settled segment uses its batch up
pub settled_used : (world last : WorldState) (batch turns : List Turn) → IsSettled world batch turns last → RunsThrough world batch turns last
settled_used world last batch turns settled = record { runs = settled.runs; commands = settled.commands }

settled_left : (world last : WorldState) (batch turns : List Turn) → IsSound world → HasNoPrograms world → IsSettled world batch turns last → AreAlike last (commanded world batch)
settled_left world last batch turns sound none settled = batch_is_left world last batch turns sound none (settled_used world last batch turns settled)

pub settles_are_alike : SettlesAreAlike
settles_are_alike world other last end batch turns others sound other_sound none alike one two =
    alike_both last (commanded world batch) end (settled_left world last batch turns sound none one)
    (alike_both (commanded world batch) (commanded other batch) end (commands_keep_alike world other batch alike)
    (alike_back end (commanded other batch) (settled_left other end batch others other_sound (still_none other world (alike_back world other alike).shape none) two)))

-- ---- several

-- worlds that are alike stay so
pub batches_keep_alike : (batches : List (List Turn)) (world other : WorldState) → AreAlike world other → AreAlike (commanded_by world batches) (commanded_by other batches)
batches_keep_alike [] world other alike = alike
batches_keep_alike (batch ∷ batches) world other alike = batches_keep_alike batches (commanded world batch) (commanded other batch) (commands_keep_alike world other batch alike)

left_by : (batches : List (List Turn)) (world last : WorldState) → IsSound world → HasNoPrograms world → SettleAll world batches last → AreAlike last (commanded_by world batches)
left_by [] world last sound none same = subst (λ (w : WorldState). AreAlike w world) same (alike_self world)
left_by (batch ∷ batches) world last sound none all =
    let settled = all.2 in
    let next_sound = run_keeps_sound world all.1 all.0 sound settled.runs in
    let next_none = still_none all.1 world (run_keeps_shape world all.1 all.0 sound settled.runs) none in
    alike_both last (commanded_by all.1 batches) (commanded_by (commanded world batch) batches) (left_by batches all.1 last next_sound next_none all.3)
    (batches_keep_alike batches all.1 (commanded world batch) (settled_left world all.1 batch all.0 sound none settled))

pub batches_are_left : BatchesAreLeft
batches_are_left world last batches sound none all = left_by batches world last sound none all

-- ---- what all of them leave

-- what holds of one world holds of each that is alike
abbrev pub Passes : (WorldState → Type 0) → Type 0
Passes P = (world other : WorldState) → AreAlike world other → P world → P other

-- the next batch leaves such a world
pub first_leaves : (P : WorldState → Type 0) (world last : WorldState) (batch turns : List Turn) (batches : List (List Turn)) → Passes P → IsSound world → HasNoPrograms world → EachLeaves P world (batch ∷ batches)
    → RunsThrough world batch turns last → P last
first_leaves P world last batch turns batches passes sound none leave used =
    passes (commanded world batch) last (alike_back last (commanded world batch) (batch_is_left world last batch turns sound none used)) (leave 0 (omega arith))

-- and so do those after it
pub rest_leave : (P : WorldState → Type 0) (world last : WorldState) (batch turns : List Turn) (batches : List (List Turn)) → Passes P → IsSound world → HasNoPrograms world → EachLeaves P world (batch ∷ batches)
    → IsSettled world batch turns last → EachLeaves P last batches
rest_leave P world last batch turns batches passes sound none leave settled k below =
    passes (commanded_by (commanded world batch) (take (suc k) batches)) (commanded_by last (take (suc k) batches))
    (batches_keep_alike (take (suc k) batches) (commanded world batch) last (alike_back last (commanded world batch) (settled_left world last batch turns sound none settled)))
    (leave (suc k) (omega (arith, below)))

-- ---- rings

pub rings_are_left : RingsAreLeft
rings_are_left world last batch turns sound none used = (alike_have_same_paths last (commanded world batch) (batch_is_left world last batch turns sound none used)).ring

ring_passes : Passes HasNoRing
ring_passes world other alike none = sym (alike_have_same_paths world other alike).ring ∙ none

-- without a ring no slot stands on one
no_least : (world : WorldState) → IsSound world → HasNoRing world → IsLeastOnRing world None
no_least world sound free t inside on =
    let end = comes_to_end world t free inside in
    let none = (rings_meet_no_end world t sound inside).1 on in
    absurd (cc)

pub no_ring_is_met : NoRingIsMet
no_ring_is_met world last batch turns batches sound none leaves used =
    let free : HasNoRing last = first_leaves HasNoRing world last batch turns batches ring_passes sound none leaves used in
    (free, no_least last (run_keeps_sound world last turns sound used.runs) free)

pub no_ring_stays : NoRingStays
no_ring_stays world last batch turns batches sound none leaves settled = rest_leave HasNoRing world last batch turns batches ring_passes sound none leaves settled

-- ---- hold against hold

pub decided_is_left : DecidedIsLeft
decided_is_left world last batch turns batches sound none leaves used = first_leaves AreDecided world last batch turns batches decided_passes sound none leaves used

pub decided_stays : DecidedStays
decided_stays world last batch turns batches sound none leaves settled = rest_leave AreDecided world last batch turns batches decided_passes sound none leaves settled
