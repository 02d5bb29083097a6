-- The script of a text that can grow is run to its end, but for want of memory.
use Rattle.std.proofs.Common.{◌≡◌, ◌⊎◌, ℕ, List, inl, inr, Some, arith, subst}
use Rattle.std.specs.declared.option.Option.{Option}
use Rattle.mc_grown_rest.specs.GrowingTexts.{CanGrow}
use Rattle.mc_grown_rest.proofs.NeverStopping.{texts_never_stop}
use Rattle.mc_lines.specs.declared.tail.Tail.TheVariants.{Grow}
use Rattle.mc_net.proofs.Faults.{declares_or_faults, not_both}
use Rattle.mc_script.specs.declared.command.JournalLine.{JournalLine}
use Rattle.mc_tail.specs.SoFar.{TailState}
use Rattle.mc_tail.specs.Tails.{IsTailFault, SaysTail, at_tail_line, tail_fault_at}
use Rattle.mc_top.specs.Growing.{EndsGrown, IsGrowingFault, RefusesGrown, StopsGrown, ToldGrowingFault, ToldPlans}
use Rattle.mc_stage_plans.specs.PlanLaws.{ArePlanned}

-- a text that says something after the line `grow` has no fault there
sound_tail : (text : List ℕ) (t : TailState) (number line : ℕ) → SaysTail text t → IsTailFault text number line → ⊥
sound_tail text t number line says (at_tail_line k within sound broken) = not_both (tail_fault_at text k) number (says.sound k within) broken

-- a text that can grow has no fault
no_fault : (text : List ℕ) (number line : ℕ) → CanGrow text → IsGrowingFault text number line → ⊥
no_fault text number line can (inl fault) = declares_or_faults Grow text can.0 number line can.2 fault
no_fault text number line can (inr fault) = sound_tail text can.1 number line can.3 fault.1

-- so it isn't refused, and its script doesn't stop
not_refused : (told old new : Option (List ℕ)) (text : List ℕ) (status : ℕ) (journal : List JournalLine)
    → told ≡ Some text → CanGrow text → RefusesGrown told old new status journal → ⊥
not_refused told old new text status journal is can refused =
    no_fault text refused.number refused.line can (subst (λ (t : Option (List ℕ)). ToldGrowingFault t refused.number refused.line) is refused.fault)

not_stopped : (told old new : Option (List ℕ)) (text : List ℕ) (status due : ℕ) (journal : List JournalLine)
    → told ≡ Some text → CanGrow text → StopsGrown told old new status due journal → ⊥
not_stopped told old new text status due journal is can stops =
    let planned : ArePlanned text stops.net stops.tail stops.plans = subst (λ (t : Option (List ℕ)). ToldPlans t stops.net stops.tail stops.plans) is stops.planned in
    texts_never_stop text stops.net stops.tail stops.plans stops.stop stops.run can planned stops.sound stops.stopped

-- where a text can grow and no fault was counted, it ends with 0 or for want of memory
pub completes_grown : (told old new : Option (List ℕ)) (text : List ℕ) (status due : ℕ) (journal : List JournalLine)
    → (status ≡ due) ⊎ (status ≡ 5) → EndsGrown told old new status due journal → told ≡ Some text → CanGrow text
    → (due ≡ 4 → ⊥) → (status ≡ 5 → ⊥) → (status ≡ 0) ⊎ (status ≡ 3)
completes_grown told old new text status due journal either ends is can not_four not_five =
    let never : StopsGrown told old new status due journal → ⊥ = not_stopped told old new text status due journal is can in
    let dues : (due ≡ 0) ⊎ (due ≡ 1) ⊎ (due ≡ 3) ⊎ (due ≡ 4) ⊎ (due ≡ 6) ⊎ (due ≡ 7) ⊎ (due ≡ 10) = ends.dues in
    let not_one : due ≡ 1 → ⊥ = λ one. elim (ends.refused one) [
      | inl refused ↦ not_refused told old new text status journal is can refused
      | inr stops ↦ never stops
    ] in
    let not_six : due ≡ 6 → ⊥ = λ six. never (ends.at_stop (inl six)) in
    let not_seven : due ≡ 7 → ⊥ = λ seven. never (ends.at_stop (inr (inl seven))) in
    let not_ten : due ≡ 10 → ⊥ = λ ten. never (ends.at_stop (inr (inr ten))) in
    let out : (due ≡ 0) ⊎ (due ≡ 3) = grind (arith, dues, not_one, not_four, not_six, not_seven, not_ten) in
    grind (arith, either, out, not_five)
