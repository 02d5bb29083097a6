-- Turns up to a place, and between two.
use Rattle.std.proofs.Common.{◌≡◌, ◌<◌, ◌≤◌, ◌+◌, ◌-◌, ◌++◌, min, ℕ, zero, suc, List, [], ◌∷◌, Some, length, take, drop, slice_get, take-take, add-one, refl, ap, sym, ◌∙◌, arith}
use Rattle.std.proofs.lemmas.List.{take-append-drop, drop-append-le, length-take-le, length-drop, take_all, take_min, drop_min}
use Rattle.mc_box.specs.declared.event.Turn.{Turn}
use Rattle.mc_model.specs.Steps.{after, run}
use Rattle.mc_model.specs.Worlds.{WorldState}
use Rattle.mc_seq.proofs.Runs.{run-append}
use Rattle.mc_segments.specs.Ends.{turns_between}

-- those before a later place are those before an earlier one, and those between
pub take_between : (turns : List Turn) (from place : ℕ) → from ≤ place → take from turns ++ turns_between from place turns ≡ take place turns
take_between turns from place before =
    ap (λ (l : List Turn). l ++ turns_between from place turns) (sym (take-take from place turns before)) ∙ take-append-drop from (take place turns)

-- no turn is between a place and itself
pub none_between : (turns : List Turn) (place : ℕ) → turns_between place place turns ≡ []
none_between turns zero = refl
none_between [] (suc place) = refl
none_between (turn ∷ turns) (suc place) = none_between turns place

take_next : (turns : List Turn) (place : ℕ) (turn : Turn) → slice_get turns place ≡ Some turn → take (suc place) turns ≡ take place turns ++ turn ∷ []
take_next [] place turn is = absurd (cc)
take_next (first ∷ turns) zero turn is = let same : first ≡ turn = cc in ap (λ (t : Turn). t ∷ []) same
take_next (first ∷ turns) (suc place) turn is = ap (λ (l : List Turn). first ∷ l) (take_next turns place turn is)

drop_next : (xs ys : List Turn) (from : ℕ) → from ≤ length xs → drop from (xs ++ ys) ≡ drop from xs ++ ys
drop_next xs ys from before = drop-append-le from xs ys before

-- one turn more
pub between_next : (turns : List Turn) (from place : ℕ) (turn : Turn) → from ≤ place → place < length turns → slice_get turns place ≡ Some turn → turns_between from (place + 1) turns ≡ turns_between from place turns ++ turn ∷ []
between_next turns from place turn before inside is =
    let long : length (take place turns) ≡ place = length-take-le place turns (omega (arith, inside)) in
    ap (λ (k : ℕ). drop from (take k turns)) (add-one place) ∙ (ap (drop from) (take_next turns place turn is) ∙ drop_next (take place turns) (turn ∷ []) from (omega (arith, before, long)))

-- a run up to one place, and then up to another
pub run_between : (world last : WorldState) (turns : List Turn) (from place : ℕ) → from ≤ place → run world (take from turns) ≡ Some (after world (take from turns))
    → run (after world (take from turns)) (turns_between from place turns) ≡ Some last → run world (take place turns) ≡ Some last
run_between world last turns from place before began runs =
    ap (run world) (sym (take_between turns from place before)) ∙ (run-append (take from turns) (turns_between from place turns) world (after world (take from turns)) began ∙ runs)

-- all that are left after a place
take_rest : (turns : List Turn) (begin : ℕ) → take (length turns - begin) (drop begin turns) ≡ drop begin turns
take_rest turns begin = take_all (length turns - begin) (drop begin turns) (let long = length-drop begin turns in omega (arith, long))

-- the turns between two places, whether these are beyond the length or not
pub between_within : (turns : List Turn) (from place end begin : ℕ) → end ≡ min place (length turns) → begin ≡ min from (length (take end turns))
    → take (length (take end turns) - begin) (drop begin (take end turns)) ≡ turns_between from place turns
between_within turns from place end begin last first =
    take_rest (take end turns) begin
    ∙ (ap (λ (k : ℕ). drop k (take end turns)) first ∙ drop_min from (take end turns)
    ∙ ap (drop from) (ap (λ (k : ℕ). take k turns) last ∙ take_min place turns))
