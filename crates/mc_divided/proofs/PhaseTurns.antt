-- A phase as a settle sees it.
use Rattle.std.proofs.Common.{◌≡◌, inl, inr, ◌<◌, Bool, false, ℕ, zero, suc, List, [], ◌∷◌, length, map, get_or, refl, ap, sym, ◌∙◌, subst, arith, Vec, Global}
use Rattle.std.proofs.Math.Path.{fun_ext}
use Rattle.std.proofs.lemmas.Bool.{cases_lt}
use Rattle.std.proofs.lemmas.List.{get_or_past}
use Rattle.mc_box.specs.declared.event.Event.{Event}
use Rattle.mc_box.specs.declared.event.Turn.{Turn}
use Rattle.mc_model.specs.Worlds.{WorldState}
use Rattle.mc_merge.specs.Account.{PartState}
use Rattle.mc_merge.specs.Phases.{PlaysPhase, stands_for}
use Rattle.mc_merge.specs.Weaving.{numbers_of, turn_in}
use Rattle.mc_merge.specs.declared.log.PartLog.{PartLog}
use Rattle.mc_part.specs.Divisions.{home_at}
use Rattle.mc_part.specs.Networks.{shifts_in, stimuli_in, world_by}
use Rattle.mc_part.specs.Parts.{shifts_of, stimuli_of}
use Rattle.mc_part.specs.declared.part.Part.{Part}
use Rattle.mc_part.specs.declared.part_run.PartRun.{PartRun}
use Rattle.mc_divided.specs.Networks.{IsDividedNetwork, base_of, network_layout, network_state}
use Rattle.mc_divided.specs.States.{no_shifts, no_stimuli}
use Rattle.mc_divided.specs.declared.network.DividedNetwork.{DividedNetwork}
use Rattle.mc_divided.proofs.Closed.{Phased, drained}
use Rattle.mc_divided.proofs.PartsBy.{by_parts, parts_by, states_are}
use Rattle.mc_divided.proofs.Phased.{HasNone, none_of}
use Rattle.mc_divided.proofs.Played.{keeps_counts, plays, same_shifts, same_stimuli}

-- what is read of a part that is there
pub read_at : {C : Type 0} (g : Part → C) (d : C) (none : Part) (runs : List PartRun) (i : ℕ) → i < length runs → get_or (map (λ (run : PartRun). g run.part) runs) i d ≡ g (parts_by none runs i)
read_at g d none [] i inside = absurd (omega (arith, inside))
read_at g d none (x ∷ xs) zero inside = refl
read_at g d none (x ∷ xs) (suc i) inside = read_at g d none xs i (omega (arith, inside))

-- each number is of a box in a part that is there
pub home_inside : (n : DividedNetwork) → IsDividedNetwork n → (who : ℕ) → (home_at n.assigned.items who).0 < length n.runs.items
home_inside n divided who = elim (cases_lt who (length n.assigned.items)) [
  | inl inside ↦ divided.assigned who 0 inside
  | inr outside ↦ subst (λ (k : ℕ). k < length n.runs.items) (sym (get_or_past n.assigned.items who 0 outside)) divided.some
]

pub stimuli_are : (n : DividedNetwork) (none : Part) → IsDividedNetwork n → stimuli_in (network_layout n) (parts_by none n.runs.items) ≡ (network_state n).stimuli
stimuli_are n none divided = fun_ext (λ who. ap (λ (f : ℕ → List Event). f (home_at n.assigned.items who).1) (sym (read_at stimuli_of no_stimuli none n.runs.items (home_at n.assigned.items who).0 (home_inside n divided who))))

pub shifts_are : (n : DividedNetwork) (none : Part) → IsDividedNetwork n → shifts_in (network_layout n) (parts_by none n.runs.items) ≡ (network_state n).shifts
shifts_are n none divided = fun_ext (λ who. ap (λ (f : ℕ → ℕ). f (home_at n.assigned.items who).1) (sym (read_at shifts_of no_shifts none n.runs.items (home_at n.assigned.items who).0 (home_inside n divided who))))

pub world_is : (n : DividedNetwork) (none : Part) → world_by (base_of n) (network_layout n) (parts_by none n.runs.items) ≡ (network_state n).world
world_is n none = ap (λ (states : ℕ → PartState). stands_for (base_of n) (network_layout n) states) (sym (states_are none n.runs.items))

-- commands and counts after the phase are those after the run
counts_in : (n : DividedNetwork) (retries every : Bool) (budget : ℕ) (chosen gone carried closed : List PartRun) (logs_2 : List PartLog) (before after : List Turn) (none : Part) → Phased n retries every budget chosen gone carried closed logs_2 before after → (part : ℕ) → (who : ℕ) → (stimuli_of (parts_by none closed part) who ≡ stimuli_of (parts_by none gone part) who) × (shifts_of (parts_by none closed part) who ≡ shifts_of (parts_by none gone part) who)
counts_in n retries every budget chosen gone carried closed logs_2 before after none p part who =
    by_parts (λ (c d : Part). (stimuli_of d who ≡ stimuli_of c who) × (shifts_of d who ≡ shifts_of c who)) none gone closed (drained n retries every budget chosen gone carried closed logs_2 before after p).count
    (λ i c d q r. let keeps = keeps_counts n retries every budget chosen gone carried closed logs_2 before after p i c d q r in (same_stimuli c.part d.part keeps who, same_shifts c.part d.part keeps who)) (refl, refl) part

-- in the words of a settle
pub plays_state : (n : DividedNetwork) (retries every : Bool) (budget : ℕ) (chosen gone carried : List PartRun) (runs : Vec PartRun Global) (logs : Vec PartLog Global) (calm : Bool) (before after : List Turn) → (p : Phased n retries every budget chosen gone carried runs.items logs.items before after) → (after_divided : IsDividedNetwork (record n { runs = runs; logs = logs; calm = calm; free = false }))
    → PlaysPhase retries (network_state n).world (network_state (record n { runs = runs; logs = logs; calm = calm; free = false })).world (map (turn_in (numbers_of n.logs.items)) p.merged.woven)
    (network_state n).stimuli (network_state (record n { runs = runs; logs = logs; calm = calm; free = false })).stimuli (network_state n).shifts (network_state (record n { runs = runs; logs = logs; calm = calm; free = false })).shifts
plays_state n retries every budget chosen gone carried runs logs calm before after p after_divided =
    let none : HasNone n = none_of n p.went.divided in
    let m : DividedNetwork = record n { runs = runs; logs = logs; calm = calm; free = false } in
    let made : List Turn = map (turn_in (numbers_of n.logs.items)) p.merged.woven in
    let stimuli : stimuli_in (network_layout n) (parts_by none.none gone) ≡ (network_state m).stimuli =
    fun_ext (λ who. sym (counts_in n retries every budget chosen gone carried runs.items logs.items before after none.none p (home_at n.assigned.items who).0 (home_at n.assigned.items who).1).0) ∙ stimuli_are m none.none after_divided in
    let shifts : shifts_in (network_layout n) (parts_by none.none gone) ≡ (network_state m).shifts =
    fun_ext (λ who. sym (counts_in n retries every budget chosen gone carried runs.items logs.items before after none.none p (home_at n.assigned.items who).0 (home_at n.assigned.items who).1).1) ∙ shifts_are m none.none after_divided in
    let one = plays n retries every budget chosen gone carried runs.items logs.items before after none p in
    subst (λ (w : WorldState). PlaysPhase retries w (network_state m).world made (network_state n).stimuli (network_state m).stimuli (network_state n).shifts (network_state m).shifts) (world_is n none.none)
    (subst (λ (w : WorldState). PlaysPhase retries (world_by (base_of n) (network_layout n) (parts_by none.none n.runs.items)) w made (network_state n).stimuli (network_state m).stimuli (network_state n).shifts (network_state m).shifts) (world_is m none.none)
    (subst (λ (f : ℕ → List Event). PlaysPhase retries (world_by (base_of n) (network_layout n) (parts_by none.none n.runs.items)) (world_by (base_of n) (network_layout n) (parts_by none.none runs.items)) made f (network_state m).stimuli (network_state n).shifts (network_state m).shifts) (stimuli_are n none.none p.went.divided)
    (subst (λ (f : ℕ → List Event). PlaysPhase retries (world_by (base_of n) (network_layout n) (parts_by none.none n.runs.items)) (world_by (base_of n) (network_layout n) (parts_by none.none runs.items)) made (stimuli_in (network_layout n) (parts_by none.none n.runs.items)) f (network_state n).shifts (network_state m).shifts) stimuli
    (subst (λ (f : ℕ → ℕ). PlaysPhase retries (world_by (base_of n) (network_layout n) (parts_by none.none n.runs.items)) (world_by (base_of n) (network_layout n) (parts_by none.none runs.items)) made (stimuli_in (network_layout n) (parts_by none.none n.runs.items)) (stimuli_in (network_layout n) (parts_by none.none gone)) f (network_state m).shifts) (shifts_are n none.none p.went.divided)
    (subst (λ (f : ℕ → ℕ). PlaysPhase retries (world_by (base_of n) (network_layout n) (parts_by none.none n.runs.items)) (world_by (base_of n) (network_layout n) (parts_by none.none runs.items)) made (stimuli_in (network_layout n) (parts_by none.none n.runs.items)) (stimuli_in (network_layout n) (parts_by none.none gone)) (shifts_in (network_layout n) (parts_by none.none n.runs.items)) f) shifts one)))))
