-- What a phase comes to.
use Rattle.std.proofs.Common.{◌≡◌, Bool, false, ℕ, IsTrue, IfOk, IfSome, OnOk, Some, None, Option, List, map, length, Result, Ok, Err, ap, sym, ◌∙◌, subst, Vec, Global}
use Rattle.std.specs.Vec.{with_items}
use Rattle.std.proofs.lemmas.List.{with_items_is}
use Rattle.mc_box.specs.declared.event.Turn.{Turn}
use Rattle.mc_merge.specs.Weaving.{numbers_of, turn_in}
use Rattle.mc_merge.specs.declared.log.PartLog.{PartLog}
use Rattle.mc_part.specs.Phases.{EachOf}
use Rattle.mc_part.specs.declared.part_run.PartRun.{PartRun}
use Rattle.mc_divided.specs.Networks.{IsDividedNetwork, network_state}
use Rattle.mc_divided.specs.Phasing.{EndAs, EndsCalm, EndsWell, HasPlayed}
use Rattle.mc_divided.specs.States.{IsAtLast, PlaysOn}
use Rattle.mc_divided.specs.declared.network.Crossing.{Crossing}
use Rattle.mc_divided.specs.declared.network.DividedNetwork.{DividedNetwork}
use Rattle.mc_divided.proofs.Closed.{Phased}
use Rattle.mc_divided.proofs.Finished.{divided_after}
use Rattle.mc_divided.proofs.PhaseTurns.{plays_state}
use Rattle.mc_divided.proofs.Played.{allowed_after, calm_after}
use Rattle.mc_divided.proofs.Progressed.{at_last, moved_by, used_one}
use Rattle.mc_divided.proofs.Swapped.{numbers_count}
use Rattle.mc_divided.proofs.Working.{works_of}

abbrev pub phased : (n : DividedNetwork) (retries : Bool) (new : List PartRun) (logs_2 : List PartLog) (before after : List Turn) → IsDividedNetwork n → (played : HasPlayed retries n.calm n.crossings.items n.runs.items new n.logs.items logs_2 before after)
    → Phased n retries played.every played.budget played.chosen played.gone played.carried new logs_2 before after
phased n retries new logs_2 before after divided played = record {
  went = record { divided = divided; asked = played.asked; few = played.few; chose = played.chose; went = played.went; memory = played.memory };
  over = played.over;
  merged = played.merged;
}

pub divided_by : (n : DividedNetwork) (retries : Bool) (runs : Vec PartRun Global) (logs : Vec PartLog Global) (calm : Bool) (before after : List Turn) → IsDividedNetwork n → HasPlayed retries n.calm n.crossings.items n.runs.items runs.items n.logs.items logs.items before after
    → (IsTrue calm → EachOf (λ (run : PartRun). EndsCalm n.calm run.ended) runs.items) → IsDividedNetwork (record n { runs = runs; logs = logs; calm = calm; free = false })
divided_by n retries runs logs calm before after divided played calm_is =
    let p = phased n retries runs.items logs.items before after divided played in
    divided_after n retries played.every played.budget played.chosen played.gone played.carried runs logs calm before after p (record {
      allowed = allowed_after n retries played.every played.budget played.chosen played.gone played.carried runs.items logs.items before after p;
      calm_is = λ on. calm_after n retries played.every played.budget played.chosen played.gone played.carried runs.items logs.items before after p (calm_is on);
    })

plays_by : (n : DividedNetwork) (retries : Bool) (runs : Vec PartRun Global) (logs : Vec PartLog Global) (calm : Bool) (before after : List Turn) → IsDividedNetwork n → HasPlayed retries n.calm n.crossings.items n.runs.items runs.items n.logs.items logs.items before after
    → (IsTrue calm → EachOf (λ (run : PartRun). EndsCalm n.calm run.ended) runs.items) → (last : Option (ℕ × ℕ)) → EndAs (numbers_of logs.items) runs.items last
    → PlaysOn retries (network_state n) (network_state (record n { runs = runs; logs = logs; calm = calm; free = false })) before after last
plays_by n retries runs logs calm before after divided played calm_is last ends =
    let p = phased n retries runs.items logs.items before after divided played in
    let new : IsDividedNetwork (record n { runs = runs; logs = logs; calm = calm; free = false }) = divided_by n retries runs logs calm before after divided played calm_is in
    record {
      made = map (turn_in (numbers_of n.logs.items)) played.merged.woven;
      added = played.merged.added;
      phase = record {
        plays = plays_state n retries played.every played.budget played.chosen played.gone played.carried runs logs calm before after p new;
        at_last = last_by last ends;
        moved = λ none work. moved_by n retries played.every played.budget played.chosen played.gone played.carried runs.items logs.items before after p played.was_calm played.some (well last none ends) (works_of n retries divided work);
        used = λ none off commands. used_one n retries played.every played.budget played.chosen played.gone played.carried runs logs calm before after p new played.some (well last none ends) off commands;
      };
    }
  where
    well : (last : Option (ℕ × ℕ)) → last ≡ None → EndAs (numbers_of logs.items) runs.items last → EachOf (λ (run : PartRun). EndsWell run.ended) runs.items
    well last none ends = subst (λ (o : Option (ℕ × ℕ)). EndAs (numbers_of logs.items) runs.items o) none ends

    last_by : (last : Option (ℕ × ℕ)) → EndAs (numbers_of logs.items) runs.items last → IfSome last (IsAtLast (network_state (record n { runs = runs; logs = logs; calm = calm; free = false })))
    last_by None ends = tt
    last_by (Some at) ends =
        at_last n retries played.every played.budget played.chosen played.gone played.carried runs logs calm before after (phased n retries runs.items logs.items before after divided played)
        (divided_by n retries runs logs calm before after divided played calm_is) at ends

pub played_by : {E : Type 0} (result : Result (Option (ℕ × ℕ)) E) (n : DividedNetwork) (retries : Bool) (runs : Vec PartRun Global) (logs : Vec PartLog Global) (calm : Bool) (before after : List Turn) → IsDividedNetwork n
    → HasPlayed retries n.calm n.crossings.items n.runs.items runs.items n.logs.items logs.items before after → (IsTrue calm → EachOf (λ (run : PartRun). EndsCalm n.calm run.ended) runs.items) → IfOk result (EndAs (numbers_of logs.items) runs.items)
    → IfOk result (PlaysOn retries (network_state n) (network_state (record n { runs = runs; logs = logs; calm = calm; free = false })) before after)
played_by (Ok last) n retries runs logs calm before after divided played calm_is ends = plays_by n retries runs logs calm before after divided played calm_is last ends
played_by (Err e) n retries runs logs calm before after divided played calm_is ends = tt

pub done_by : {X E : Type 0} (result : Result X E) (P : Type 0) → P → OnOk result P
done_by (Ok x) P holds = holds
done_by (Err e) P holds = tt

-- ---- as the network keeps them

runs_count : (retries calm : Bool) (crossings : List Crossing) (old new : List PartRun) (logs logs_2 : List PartLog) (before after : List Turn) → HasPlayed retries calm crossings old new logs logs_2 before after → length new ≡ length old
runs_count retries calm crossings old new logs logs_2 before after played = played.merged.closed.count ∙ (played.over.same.count ∙ (played.went.count ∙ played.chose.count))

pub vec_played : (n : DividedNetwork) (retries : Bool) (crossings : List Crossing) (old new : List PartRun) (logs logs_2 : List PartLog) (before after : List Turn) → crossings ≡ n.crossings.items → old ≡ n.runs.items → logs ≡ n.logs.items
    → HasPlayed retries n.calm crossings old new logs logs_2 before after
    → HasPlayed retries n.calm n.crossings.items n.runs.items (with_items n.runs new).items n.logs.items (with_items n.logs logs_2).items before after
vec_played n retries crossings old new logs logs_2 before after one two three played =
    let runs_is : (with_items n.runs new).items ≡ new = with_items_is n.runs new (runs_count retries n.calm crossings old new logs logs_2 before after played ∙ (ap (λ (l : List PartRun). length l) two ∙ sym n.runs.ok.0)) in
    let logs_is : (with_items n.logs logs_2).items ≡ logs_2 = with_items_is n.logs logs_2 (numbers_count logs logs_2 played.merged.numbers ∙ (ap (λ (l : List PartLog). length l) three ∙ sym n.logs.ok.0)) in
    subst (λ (l : List PartRun). HasPlayed retries n.calm n.crossings.items n.runs.items l n.logs.items (with_items n.logs logs_2).items before after) (sym runs_is)
    (subst (λ (l : List PartLog). HasPlayed retries n.calm n.crossings.items n.runs.items new n.logs.items l before after) (sym logs_is)
    (subst (λ (l : List Crossing). HasPlayed retries n.calm l n.runs.items new n.logs.items logs_2 before after) one
    (subst (λ (l : List PartRun). HasPlayed retries n.calm crossings l new n.logs.items logs_2 before after) two
    (subst (λ (l : List PartLog). HasPlayed retries n.calm crossings old new l logs_2 before after) three played))))

pub calm_as_read : (calm was : Bool) (read runs : List PartRun) → read ≡ runs → (IsTrue calm → EachOf (λ (run : PartRun). EndsCalm was run.ended) read) → IsTrue calm → EachOf (λ (run : PartRun). EndsCalm was run.ended) runs
calm_as_read calm was read runs is holds = subst (λ (l : List PartRun). IsTrue calm → EachOf (λ (run : PartRun). EndsCalm was run.ended) l) is holds

pub ends_as_read : {E : Type 0} (result : Result (Option (ℕ × ℕ)) E) (logs logs_2 : List PartLog) (runs runs_2 : List PartRun) → logs ≡ logs_2 → runs ≡ runs_2 → IfOk result (EndAs (numbers_of logs) runs) → IfOk result (EndAs (numbers_of logs_2) runs_2)
ends_as_read {E = E} result logs logs_2 runs runs_2 one two holds =
    subst (λ (l : List PartLog). IfOk result (EndAs (numbers_of l) runs_2)) one (subst (λ (l : List PartRun). IfOk result (EndAs (numbers_of logs) l)) two holds)
