use Rattle.std.proofs.Common.{◌≡◌, ◌∙◌, ℕ, List, [], length, subst, sym, ap, refl, rules}
use Rattle.mc_part.specs.declared.part_run.PartRun.{PartRun}
use Rattle.mc_merge.specs.Weaving.{IsKnown, log_at, logs_of, numbers_at}
use Rattle.mc_merge.specs.declared.log.Made.{Made}
use Rattle.mc_merge.specs.declared.log.PartLog.{PartLog}
use Rattle.mc_divided.specs.Networks.{turn_budget}
use Rattle.mc_divided.specs.Phasing.{AreApart, AreChosen, logs_in}
use Rattle.mc_divided.specs.declared.network.Crossing.{Crossing}
use Rattle.mc_divided.proofs.Lists.{on_ok}
use Rattle.mc_divided.proofs.PhaseAnswers.{carryable_of, known_as, logs_count_as, logs_each, logs_even, logs_fit, logs_short, over_of, went_of}
use Rattle.mc_divided.proofs.Phased.{all_carryable, apart_of, ready, same_logs}
use Rattle.mc_divided.proofs.Written.{all_written, clocks_stay, logs_stay, merged_as, numbers_stay}
use Rattle.mc_divided.proofs.phase.play_parts.Goals as goal

pub run_parts-requires-clause-ready : goal.run_parts-requires-clause-ready
run_parts-requires-clause-ready g c κs below =
    let o = c.requires in
    ready o.network c.args.retries c.is_every-every.result c.budget_of-budget.result c.choose.new.runs o.divided c.is_every-every.ensures.asked (λ off. o.calm_is ∙ c.is_every-every.ensures.calm off)
    (λ asked. c.budget_of-budget.ensures.full asked ∙ ap (λ (l : List PartRun). turn_budget (length l)) (sym o.runs_are))
    (subst (λ (l : List PartRun). AreChosen c.is_every-every.result l c.choose.new.runs) (sym o.runs_are) c.choose.ensures)

pub run_parts-requires-clause-logs : goal.run_parts-requires-clause-logs
run_parts-requires-clause-logs g c κs below = (search rules) ∙ sym (logs_count_as c.args.calm c.args.crossings.now c.is_every-every.result c.args.runs.now c.choose.new.runs c.args.logs.now c.requires c.choose.ensures)

pub carry_over-requires-clause-apart : goal.carry_over-requires-clause-apart
carry_over-requires-clause-apart g c =
    let o = c.requires in
    subst (λ (l : List Crossing). AreApart l) o.crossings_are (apart_of o.network o.divided)

pub carry_over-requires-clause-carryable : goal.carry_over-requires-clause-carryable
carry_over-requires-clause-carryable g c =
    let o = c.requires in
    let went = (went_of o.network c.args.retries c.is_every-every.result c.budget_of-budget.result c.choose.new.runs c.run_parts.new.runs c.args.runs.now c.args.runs.now c.choose.new.runs c.run_parts.new.runs o.divided c.is_every-every.ensures.asked
    (sym o.runs_are) c.budget_of-budget.ensures.few (sym o.runs_are) c.choose.ensures refl c.run_parts.ensures.gone refl c.in_ok-check_memory.ensures) in
    carryable_of o.network.crossings.items c.args.crossings.now c.run_parts.new.runs c.run_parts.new.runs (sym o.crossings_are) refl (all_carryable o.network c.args.retries c.is_every-every.result c.budget_of-budget.result c.choose.new.runs c.run_parts.new.runs went)

pub merge_logs-requires-clause-each : goal.merge_logs-requires-clause-each
merge_logs-requires-clause-each g c =
    let o = c.requires in
    let went = (went_of o.network c.args.retries c.is_every-every.result c.budget_of-budget.result c.choose.new.runs c.run_parts.new.runs c.args.runs.now c.args.runs.now c.choose.new.runs c.run_parts.new.runs o.divided c.is_every-every.ensures.asked
    (sym o.runs_are) c.budget_of-budget.ensures.few (sym o.runs_are) c.choose.ensures refl c.run_parts.ensures.gone refl c.in_ok-check_memory.ensures) in
    let over = (over_of o.network.crossings.items c.args.crossings.now c.run_parts.new.runs c.run_parts.new.runs c.carry_over.new.runs (sym o.crossings_are) refl c.in_ok-carry_over.ensures) in
    c.run_parts.ensures.written.count ∙ (ap (λ (l : List PartLog). length l) (sym o.logs_are) ∙ logs_each o.network c.args.retries c.is_every-every.result c.budget_of-budget.result c.choose.new.runs c.run_parts.new.runs c.carry_over.new.runs went over)

pub merge_logs-requires-clause-none : goal.merge_logs-requires-clause-none
merge_logs-requires-clause-none g c =
    let o = c.requires in
    let even = logs_even c.args.calm c.args.crossings.now c.args.retries c.is_every-every.result c.budget_of-budget.result c.args.runs.now c.choose.new.runs c.run_parts.new.runs c.args.logs.now o c.choose.ensures c.run_parts.ensures.gone in
    let none = subst (λ (l : List PartLog). (part : ℕ) → log_at (logs_of l) part ≡ []) o.logs_are o.divided.none_logged in
    λ part. ap (λ (l : List (List Made)). log_at l part) (logs_stay c.run_parts.new.runs c.args.logs.now c.run_parts.new.logs even c.run_parts.ensures.written) ∙ none part

pub merge_logs-requires-clause-few : goal.merge_logs-requires-clause-few
merge_logs-requires-clause-few g c =
    let o = c.requires in
    let went = (went_of o.network c.args.retries c.is_every-every.result c.budget_of-budget.result c.choose.new.runs c.run_parts.new.runs c.args.runs.now c.args.runs.now c.choose.new.runs c.run_parts.new.runs o.divided c.is_every-every.ensures.asked
    (sym o.runs_are) c.budget_of-budget.ensures.few (sym o.runs_are) c.choose.ensures refl c.run_parts.ensures.gone refl c.in_ok-check_memory.ensures) in
    let over = (over_of o.network.crossings.items c.args.crossings.now c.run_parts.new.runs c.run_parts.new.runs c.carry_over.new.runs (sym o.crossings_are) refl c.in_ok-carry_over.ensures) in
    logs_short o.network c.args.retries c.is_every-every.result c.budget_of-budget.result c.choose.new.runs c.run_parts.new.runs c.carry_over.new.runs went over

pub merge_logs-requires-clause-known : goal.merge_logs-requires-clause-known
merge_logs-requires-clause-known g c =
    let o = c.requires in
    let went = (went_of o.network c.args.retries c.is_every-every.result c.budget_of-budget.result c.choose.new.runs c.run_parts.new.runs c.args.runs.now c.args.runs.now c.choose.new.runs c.run_parts.new.runs o.divided c.is_every-every.ensures.asked
    (sym o.runs_are) c.budget_of-budget.ensures.few (sym o.runs_are) c.choose.ensures refl c.run_parts.ensures.gone refl c.in_ok-check_memory.ensures) in
    let over = (over_of o.network.crossings.items c.args.crossings.now c.run_parts.new.runs c.run_parts.new.runs c.carry_over.new.runs (sym o.crossings_are) refl c.in_ok-carry_over.ensures) in
    let even = logs_even c.args.calm c.args.crossings.now c.args.retries c.is_every-every.result c.budget_of-budget.result c.args.runs.now c.choose.new.runs c.run_parts.new.runs c.args.logs.now o c.choose.ensures c.run_parts.ensures.gone in
    let known = known_as c.carry_over.new.runs c.carry_over.new.runs o.network.logs.items c.args.logs.now refl (sym o.logs_are) (logs_fit o.network c.args.retries c.is_every-every.result c.budget_of-budget.result c.choose.new.runs c.run_parts.new.runs c.carry_over.new.runs went over).1 in
    λ part. subst (λ (l : List (List ℕ)). IsKnown (numbers_at l part) (log_at (logs_in c.carry_over.new.runs) part)) (sym (numbers_stay c.run_parts.new.runs c.args.logs.now c.run_parts.new.logs even c.run_parts.ensures.written)) (known part)

pub merge_logs-requires-clause-written : goal.merge_logs-requires-clause-written
merge_logs-requires-clause-written g c =
    let o = c.requires in
    let even = logs_even c.args.calm c.args.crossings.now c.args.retries c.is_every-every.result c.budget_of-budget.result c.args.runs.now c.choose.new.runs c.run_parts.new.runs c.args.logs.now o c.choose.ensures c.run_parts.ensures.gone in
    all_written c.run_parts.new.runs c.carry_over.new.runs c.args.logs.now c.run_parts.new.logs even (same_logs c.run_parts.new.runs c.carry_over.new.runs c.in_ok-carry_over.ensures.same) c.run_parts.ensures.written

pub merge_logs-requires-clause-climb : goal.merge_logs-requires-clause-climb
merge_logs-requires-clause-climb g c =
    let o = c.requires in
    let went = (went_of o.network c.args.retries c.is_every-every.result c.budget_of-budget.result c.choose.new.runs c.run_parts.new.runs c.args.runs.now c.args.runs.now c.choose.new.runs c.run_parts.new.runs o.divided c.is_every-every.ensures.asked
    (sym o.runs_are) c.budget_of-budget.ensures.few (sym o.runs_are) c.choose.ensures refl c.run_parts.ensures.gone refl c.in_ok-check_memory.ensures) in
    let over = (over_of o.network.crossings.items c.args.crossings.now c.run_parts.new.runs c.run_parts.new.runs c.carry_over.new.runs (sym o.crossings_are) refl c.in_ok-carry_over.ensures) in
    (logs_fit o.network c.args.retries c.is_every-every.result c.budget_of-budget.result c.choose.new.runs c.run_parts.new.runs c.carry_over.new.runs went over).0

pub returns : goal.returns
returns g c =
    let o = c.requires in
    let even = logs_even c.args.calm c.args.crossings.now c.args.retries c.is_every-every.result c.budget_of-budget.result c.args.runs.now c.choose.new.runs c.run_parts.new.runs c.args.logs.now o c.choose.ensures c.run_parts.ensures.gone in
    let numbers = numbers_stay c.run_parts.new.runs c.args.logs.now c.run_parts.new.logs even c.run_parts.ensures.written in
    let clocks = clocks_stay c.run_parts.new.runs c.args.logs.now c.run_parts.new.logs even c.run_parts.ensures.written in
    on_ok c.merge_logs.result
    (λ merged. record {
      every = c.is_every-every.result;
      budget = c.budget_of-budget.result;
      chosen = c.choose.new.runs;
      gone = c.run_parts.new.runs;
      carried = c.carry_over.new.runs;
      asked = c.is_every-every.ensures.asked;
      was_calm = c.is_every-every.ensures.calm;
      few = c.budget_of-budget.ensures.few;
      some = c.budget_of-budget.ensures.some;
      chose = c.choose.ensures;
      went = c.run_parts.ensures.gone;
      memory = c.in_ok-check_memory.ensures;
      over = c.in_ok-carry_over.ensures;
      merged = merged_as c.carry_over.new.runs c.merge_logs.new.runs c.args.logs.now c.run_parts.new.logs c.merge_logs.new.logs c.args.turns.now.items c.merge_logs.new.turns.items numbers clocks merged;
    })
    c.merge_logs.ensures
