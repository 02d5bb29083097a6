-- What a line makes of a replay.
use Rattle.std.proofs.Common.{◌≡◌, ◌≢◌, ◌<◌, ◌≤◌, ◌++◌, ◌+◌, ◌∙◌, ℕ, zero, suc, false, inl, inr, List, [], ◌∷◌, None, Some, drop, length, map, slice_index_or, refl, ap, sym, subst, add-one, arith}
use Rattle.std.proofs.lemmas.List.{drop_all}
use Rattle.mc_box.specs.declared.event.Turn.{Turn}
use Rattle.mc_laws.proofs.ShapesKept.{step_keeps_shape}
use Rattle.mc_laws.proofs.StepKeeps.{run_keeps_sound, step_keeps_sound}
use Rattle.mc_model.specs.Settles.{IsSettled}
use Rattle.mc_model.specs.Shapes.{AreAllAllowed, AreAllowed}
use Rattle.mc_model.specs.Sound.{IsSound}
use Rattle.mc_model.specs.Steps.{step}
use Rattle.mc_model.specs.Worlds.{WorldState}
use Rattle.mc_script.specs.Batches.{batch_turns}
use Rattle.mc_script.specs.declared.command.Batch.{Batch}
use Rattle.mc_script.specs.declared.command.JournalLine.{JournalLine}
use Rattle.mc_script.specs.declared.command.JournalLine.TheVariants.{Turn as Made, Settled}
use Rattle.mc_seq.proofs.AllowedCommands.{all_kept}
use Rattle.mc_replay.specs.Faults.{BreaksMarks, BreaksOrder, IsLineFault, marks, order, steps}
use Rattle.mc_replay.specs.Follows.{Follows, IsNext, TellsSettled}
use Rattle.mc_replay.specs.Points.{Point, batch_at, first_batch, world_at}
use Rattle.mc_replay.specs.Replays.{GoesBehind, IsFresh, StandsAt}
use Rattle.mc_replay.specs.declared.replay.Replay.{Replay}
use Rattle.mc_replay.specs.declared.rule.TheConstants.{NOT_ENABLED, NOT_NEXT, NOT_SETTLED}
use Rattle.mc_replay.specs.declared.segment.Segment.{Segment}
use Rattle.mc_replay.proofs.Parts.{last_step, one_world, step_there}
use Rattle.mc_replay.proofs.Prefixes.{after_is}

-- ---- batches by their places

-- a world allows each batch
pub place_allowed : (batches : List (List Turn)) (world : WorldState) (k : ℕ) → AreAllAllowed world batches → AreAllowed world (first_batch (drop k batches))
place_allowed [] world zero all = refl
place_allowed [] world (suc k) all = refl
place_allowed (batch ∷ batches) world zero all = all 0 batch (omega arith)
place_allowed (batch ∷ batches) world (suc k) all = place_allowed batches world k (λ i none within. all (suc i) none (omega arith))

drop_one : {A : Type 0} (k : ℕ) (xs : List A) → drop 1 (drop k xs) ≡ drop (suc k) xs
drop_one zero xs = refl
drop_one (suc k) [] = refl
drop_one (suc k) (x ∷ xs) = drop_one k xs

next_place : (batches left : List (List Turn)) (k : ℕ) → left ≡ drop k batches → drop 1 left ≡ drop (k + 1) batches
next_place batches left k is = ap (drop 1) is ∙ (drop_one k batches ∙ ap (λ (n : ℕ). drop n batches) (sym (add-one k)))

some_left : (batches : List (List Turn)) (k : ℕ) → k < length batches → drop k batches ≢ []
some_left [] k within none = absurd (omega arith)
some_left (batch ∷ batches) zero within none = cc
some_left (batch ∷ batches) (suc k) within none = some_left batches k (omega arith) none

is_left : (batches : List (List Turn)) (point : Point) (replay : Replay) → replay.settled < length batches → StandsAt batches point replay → point.batches ≢ []
is_left batches point replay within stands none = some_left batches replay.settled within (sym stands.left ∙ none)

-- ---- the beginning

same_world : (world : WorldState) (batch : List Turn) (segment : Segment) → Follows world batch [] segment → world ≡ segment.world
same_world world batch segment follows = one_world world segment.world follows.runs

pub fresh : (world : WorldState) (batches : List (List Turn)) (segment : Segment) → AreAllAllowed world batches → Follows world (first_batch (drop 0 batches)) [] segment
    → segment.retries.made ≡ 0 → IsFresh world batches (record { segment = segment; settled = 0; turns = 0 })
fresh world batches segment all follows none = record {
  stands = record {
    follows = follows;
    left = refl;
    ended = λ none. refl;
    allowed = subst (λ (w : WorldState). AreAllAllowed w batches) (same_world world (first_batch (drop 0 batches)) segment follows) all;
    retries = omega (arith, none);
  };
  turns = refl;
  settled = refl;
}

-- ---- a turn

-- a turn leaves each batch allowed
still_allowed : (batches : List (List Turn)) (world next : WorldState) (turn : Turn) → IsSound world → step world turn ≡ Some next → AreAllAllowed world batches → AreAllAllowed next batches
still_allowed batches world next turn sound goes all = λ i none within.
    all_kept _ world next sound (step_keeps_sound world next turn sound goes) (step_keeps_shape world next turn sound goes) (all i none within)

pub made : (batches : List (List Turn)) (point : Point) (turn : Turn) (old : Replay) (segment : Segment) → old.settled < length batches → StandsAt batches point old
    → Follows point.begins (batch_at point) (point.turns ++ turn ∷ []) segment → IsNext (batch_at point) point.turns turn → segment.retries.made ≤ old.segment.retries.made + 1
    → GoesBehind batches point (Made turn) old (record { segment = segment; settled = old.settled; turns = old.turns + 1 })
made batches point turn old segment within stands follows next more =
    let sound : IsSound old.segment.world = run_keeps_sound point.begins old.segment.world point.turns stands.follows.sound stands.follows.runs in
    let goes : step old.segment.world turn ≡ Some segment.world = last_step point.turns turn point.begins old.segment.world segment.world stands.follows.runs follows.runs in
    let some : point.batches ≢ [] = is_left batches point old within stands in
    record {
      may = (some, (next, step_there point.turns [] turn point.begins segment.world follows.runs));
      stands = record {
        follows = follows;
        left = stands.left;
        ended = λ none. absurd (some none);
        allowed = still_allowed batches old.segment.world segment.world turn sound goes stands.allowed;
        retries = omega (arith, more, stands.retries);
      };
      turns = refl;
      marks = omega arith;
    }

-- a line that is no mark, where a batch is left, breaks no rule on marks
no_mark : (batches : List (List Turn)) (point : Point) (turn : Turn) (replay : Replay) → replay.settled < length batches → StandsAt batches point replay → BreaksMarks point (Made turn) → ⊥
no_mark batches point turn replay within stands (inl none) = is_left batches point replay within stands none
no_mark batches point turn replay within stands (inr misplaced) = misplaced

pub out_of_order : (batches : List (List Turn)) (point : Point) (turn : Turn) (replay : Replay) → replay.settled < length batches → StandsAt batches point replay
    → BreaksOrder point (Made turn) → IsLineFault point (Made turn) NOT_NEXT
out_of_order batches point turn replay within stands breaks = order (no_mark batches point turn replay within stands) breaks refl

pub not_enabled : (batches : List (List Turn)) (point : Point) (turn : Turn) (replay : Replay) → replay.settled < length batches → StandsAt batches point replay
    → IsNext (batch_at point) point.turns turn → step (world_at point) turn ≡ None → IsLineFault point (Made turn) NOT_ENABLED
not_enabled batches point turn replay within stands next none =
    steps (no_mark batches point turn replay within stands) (λ breaks. breaks.1 (next breaks.0)) none refl

-- ---- a mark

pub marked : (batches : List (List Turn)) (point : Point) (old : Replay) (segment : Segment) → old.settled < length batches → StandsAt batches point old
    → IsSettled point.begins (batch_at point) point.turns old.segment.world → Follows old.segment.world (first_batch (drop (old.settled + 1) batches)) [] segment → segment.retries.made ≡ old.segment.retries.made
    → GoesBehind batches point Settled old (record { segment = segment; settled = old.settled + 1; turns = old.turns })
marked batches point old segment within stands settled follows same =
    let there : old.segment.world ≡ world_at point = sym (after_is point.begins old.segment.world point.turns stands.follows.runs) in
    let left : drop 1 point.batches ≡ drop (old.settled + 1) batches = next_place batches point.batches old.settled stands.left in
    record {
      may = (is_left batches point old within stands, subst (IsSettled point.begins (batch_at point) point.turns) there settled);
      stands = record {
        follows = subst (λ (l : List (List Turn)). Follows (world_at point) (first_batch l) [] segment) (sym left)
            (subst (λ (w : WorldState). Follows w (first_batch (drop (old.settled + 1) batches)) [] segment) there follows);
        left = left;
        ended = λ none. refl;
        allowed = subst (λ (w : WorldState). AreAllAllowed w batches) (same_world old.segment.world (first_batch (drop (old.settled + 1) batches)) segment follows) stands.allowed;
        retries = omega (arith, same, stands.retries);
      };
      turns = omega arith;
      marks = refl;
    }

-- where no batch is left no line may stand
pub none_left : (batches : List (List Turn)) (point : Point) (line : JournalLine) (replay : Replay) → length batches ≤ replay.settled → StandsAt batches point replay → IsLineFault point line NOT_SETTLED
none_left batches point line replay past stands = marks (inl (stands.left ∙ drop_all replay.settled batches past)) refl

pub misplaced : (point : Point) (world : WorldState) → TellsSettled point.begins (batch_at point) point.turns world false → IsLineFault point Settled NOT_SETTLED
misplaced point world never = marks (inr never) refl

-- ---- by the batch's place

pub picked : (batches : List Batch) (place : ℕ) (batch : Batch) → place < length batches → ((none : Batch) → batch ≡ slice_index_or batches place none) → batch_turns batch ≡ first_batch (drop place (map batch_turns batches))
picked [] place batch within is = absurd (omega arith)
picked (first ∷ batches) zero batch within is = ap batch_turns (is first)
picked (first ∷ batches) (suc place) batch within is = picked batches place batch (omega arith) (λ none. is none)
