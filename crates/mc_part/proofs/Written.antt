-- Turns that are written down, for each part and for all.
use Rattle.std.proofs.Common.{◌≡◌, ℕ, ◌+◌, ◌-◌, ◌<◌, ◌≤◌, zero, suc, List, [], ◌∷◌, ◌++◌, length, length-append, map, take, slice_get, Some, refl, ap, sym, ◌∙◌, subst, inl, inr, arith}
use Rattle.std.proofs.lemmas.Bool.{cases_lt}
use Rattle.std.proofs.lemmas.List.{map_more}
use Rattle.std.proofs.lemmas.Option.{slice_get-get_or}
use Rattle.std.proofs.Math.ListN.{get_or, set}
use Rattle.mc_box.specs.declared.event.Turn.{Turn}
use Rattle.mc_merge.specs.Weaving.{turn_by}
use Rattle.mc_merge.specs.declared.log.Made.{Made}
use Rattle.mc_merge.specs.declared.log.PartLog.{PartLog}
use Rattle.mc_part.specs.Phases.{HaveWritten, WritesTurns}
use Rattle.mc_part.specs.declared.part_run.PartRun.{PartRun}
use Rattle.mc_part.proofs.Halving.{get_before, get_behind}

-- one turn more
pub written_more : (numbers : List ℕ) (made : List Made) (at : ℕ) (one : Made) (turn : Turn) (turns turns_2 : List Turn) → at < length made → Some one ≡ slice_get made at → turn ≡ turn_by numbers one
    → turns ≡ map (turn_by numbers) (take at made) → turns_2 ≡ turns ++ turn ∷ [] → turns_2 ≡ map (turn_by numbers) (take (at + 1) made)
written_more numbers made at one turn turns turns_2 inside there turn_is so_far pushed =
    let same : one ≡ get_or made at one = (let is = slice_get-get_or made at one inside in cc) in
    pushed ∙ (ap (λ (l : List Turn). l ++ turn ∷ []) so_far
    ∙ (ap (λ (t : Turn). map (turn_by numbers) (take at made) ++ t ∷ []) (turn_is ∙ ap (turn_by numbers) same)
    ∙ sym (map_more (turn_by numbers) made at one inside)))

-- what the halves have written down is what all have
pub both_written : (runs front back : List PartRun) (old old_front old_back new new_front new_back : List PartLog) → runs ≡ front ++ back → old ≡ old_front ++ old_back → new ≡ new_front ++ new_back
    → length front ≡ length old_front → HaveWritten front old_front new_front → HaveWritten back old_back new_back → HaveWritten runs old new
both_written runs front back old old_front old_back new new_front new_back runs_are old_is new_is even first second =
    let one = first.count in
    let two = second.count in
    rw (runs_are, old_is, new_is) (record {
      count = omega (arith, one, two, length-append old_front old_back, length-append new_front new_back);
      each = λ i run a b p q r. elim (cases_lt i (length front)) [
        | inl below ↦ first.each i run a b (sym (get_before front back i below) ∙ p) (sym (get_before old_front old_back i (omega (arith, below, even))) ∙ q)
            (sym (get_before new_front new_back i (omega (arith, below, even, one))) ∙ r)
        | inr past ↦ second.each (i - length front) run a b (sym (get_behind front back i (i - length front) (omega arith)) ∙ p)
            (sym (get_behind old_front old_back i (i - length front) (omega (arith, past, even))) ∙ q)
            (sym (get_behind new_front new_back i (i - length front) (omega (arith, past, even, one))) ∙ r)
      ];
    })

-- no part has any
pub none_written : (runs : List PartRun) (logs : List PartLog) → runs ≡ [] → HaveWritten runs logs logs
none_written runs logs none = subst (λ (l : List PartRun). HaveWritten l logs logs) (sym none) (record { count = refl; each = λ i run a b p q r. absurd (cc) })

-- what one part has written down is what all have, where there is no other
pub one_written : (runs : List PartRun) (logs : List PartLog) (run : PartRun) (read log : PartLog) → length runs ≤ 1 → 0 < length runs → length runs ≡ length logs → WritesTurns run.part.log.items (get_or logs 0 read) log
    → HaveWritten (set runs 0 run) logs (set logs 0 log)
one_written [] logs run read log few some even written = absurd (omega arith)
one_written (x ∷ y ∷ runs) logs run read log few some even written = absurd (omega (arith, few))
one_written (x ∷ []) [] run read log few some even written = absurd (omega (arith, even))
one_written (x ∷ []) (l ∷ m ∷ logs) run read log few some even written = absurd (omega (arith, even))
one_written (x ∷ []) (l ∷ []) run read log few some even written = record { count = refl; each = only }
  where
    only : (i : ℕ) (r : PartRun) (a b : PartLog) → slice_get (run ∷ []) i ≡ Some r → slice_get (l ∷ []) i ≡ Some a → slice_get (log ∷ []) i ≡ Some b → WritesTurns r.part.log.items a b
    only zero r a b p q s =
        let one : run ≡ r = cc in
        let two : l ≡ a = cc in
        let three : log ≡ b = cc in
        subst (λ (q : PartRun). WritesTurns q.part.log.items a b) one (subst (λ (q : PartLog). WritesTurns run.part.log.items q b) two (subst (λ (q : PartLog). WritesTurns run.part.log.items l q) three written))
    only (suc i) r a b p q s = absurd (cc)
