use Rattle.std.proofs.Common.{◌≡◌, List, length, refl, sym, subst, ◌∙◌}
use Rattle.std.specs.Prelude.{◌<◌, ℕ, Some, slice_get}
use Rattle.mc_box.specs.declared.event.Turn.{Turn}
use Rattle.mc_seq.specs.Drawing.{drawn_of}
use Rattle.mc_seq.specs.Schedule.{ScheduleState, all_candidates, candidates}
use Rattle.mc_seq.proofs.SettlesSoFar.{empty_is, list_is, picked, place_is, place_low}
use Rattle.mc_seq.proofs.drawing.pick.Goals as goal

pub returns-then-count-eq0 : goal.returns-then-count-eq0
returns-then-count-eq0 c =
    let now : ScheduleState = (drawn_of c.args.so_far.now c.args.draws.now.state).schedule in
    let listed : all_candidates now.world now.left now.shifts c.commands_only-only_commands.result ≡ candidates now = list_is now (all_candidates now.world now.left now.shifts c.commands_only-only_commands.result) now.left now.left now.shifts c.commands_only-only_commands.result refl refl refl c.commands_only-only_commands.ensures refl in
    (sym listed ∙ empty_is (all_candidates now.world now.left now.shifts c.commands_only-only_commands.result) (sym c.candidate_count-count.ensures ∙ c.if-count-eq0.true), refl)

pub kth-requires-clause-inside : goal.kth-requires-clause-inside
kth-requires-clause-inside c =
    let now : ScheduleState = (drawn_of c.args.so_far.now c.args.draws.now.state).schedule in
    subst (λ (k : ℕ). k < length (all_candidates now.world now.left now.shifts c.commands_only-only_commands.result)) (sym c.modulo-k.ensures)
    (place_low c.draw.result c.candidate_count-count.result (length (all_candidates now.world now.left now.shifts c.commands_only-only_commands.result)) c.candidate_count-count.ensures c.if-count-eq0.false)

pub returns : goal.returns
returns c =
    let now : ScheduleState = (drawn_of c.args.so_far.now c.args.draws.now.state).schedule in
    let shown : List Turn = all_candidates now.world now.left now.shifts c.commands_only-only_commands.result in
    let place = c.modulo-k.ensures ∙ place_is now c.draw.result c.candidate_count-count.result c.draw.new.self.state shown c.candidate_count-count.ensures c.draw.ensures.drawn c.draw.ensures.next in (
      picked now shown c.kth.result (list_is now shown now.left now.left now.shifts c.commands_only-only_commands.result refl refl refl c.commands_only-only_commands.ensures refl) (subst (λ (k : ℕ). slice_get shown k ≡ Some c.kth.result) place c.kth.ensures),
      c.draw.ensures.next,
    )
