use Rattle.std.proofs.Common.{List, ℕ, [], ◌∷◌, ap, arith, length, map, subst, ◌∙◌}
use Rattle.std.proofs.lemmas.Result.{IfOk-weaker}
use Rattle.mc_box.specs.declared.event.Turn.{Turn}
use Rattle.mc_growth.specs.Growths.{GrownState, MayGrowAll, grown_by_all}
use Rattle.mc_stages.specs.Growing.{CutsShort}
use Rattle.mc_stages.specs.Plans.{growth_of, growths_of}
use Rattle.mc_grown_script.specs.Progress.{CameOfBatch, EndsAt}
use Rattle.mc_grown_script.specs.Scripts.{ScriptState}
use Rattle.mc_stages.specs.declared.growing.GrowthFault.TheVariants.{InUse}
use Rattle.mc_stages.specs.declared.plan.ChannelChange.{ChannelChange}
use Rattle.mc_grown_script.specs.declared.stop.GrownStop.TheVariants.{Cut}
use Rattle.mc_model.specs.Sound.{IsSound}
use Rattle.mc_table.specs.Words.{line_of}
use Rattle.mc_text.specs.NameLists.{slot_word}
use Rattle.mc_grown_script.proofs.Names.{boxes_stay, cut_named}
use Rattle.mc_grown_script.proofs.Stopping.{came_of, stopped_at_cut}
use Rattle.mc_grown_script.proofs.script.StageProgress.run_plan.Goals as goal

pub settle-requires-clause-few : goal.settle-requires-clause-few
settle-requires-clause-few g c κs within =
    let same = ap (λ (n : GrownState). length n.world.boxes) c.in-Ok.ensures.grown ∙ boxes_stay (map growth_of c.deref.result.now) c.self.inside.network in
    let inside = ap (λ (s : ScriptState). length s.network.world.boxes) c.self.view_is in
    let few = c.requires.few in
    omega (arith, same, inside, few)

pub returns-in-Ok : goal.returns-in-Ok
returns-in-Ok g c =
    let mid : ScriptState = record { network = c.in-Ok.network; journal = c.self.inside.journal.items; output = c.self.inside.output.items } in
    let here = subst (λ (s : ScriptState). MayGrowAll s.network (map growth_of c.deref.result.now)) c.self.view_is c.in-Ok.ensures.may in
    let may = subst (λ (l : List ChannelChange). MayGrowAll c.args.self.network (map growth_of l)) c.deref.ensures.value here in
    let grown =
    c.in-Ok.ensures.grown
    ∙ (ap (λ (s : ScriptState). grown_by_all s.network (map growth_of c.deref.result.now)) c.self.view_is
    ∙ ap (λ (l : List ChannelChange). grown_by_all c.args.self.network (map growth_of l)) c.deref.ensures.value) in
    IfOk-weaker c.settle.result _ _
    (λ outcome came.
    came_of outcome c.args.names.now c.args.number c.args.plan.now c.args.self mid may c.requires.commands.none_out grown
    (ap (λ (s : ScriptState). s.journal) c.self.view_is) (ap (λ (s : ScriptState). s.output) c.self.view_is)
    (subst (λ (batch : List Turn). CameOfBatch c.args.names.now c.args.number batch mid outcome) c.deref-in-Ok.ensures.value came))
    c.settle.ensures

pub print_slot_stop-requires : goal.print_slot_stop-requires
print_slot_stop-requires g c =
    let refused : CutsShort c.self.inside.network (map growth_of c.deref.result.now) (InUse c.in-Err-InUse.used) = rw c.in-Err-InUse.field-0-is at c.in-Err-InUse.ensures.refused in
    let here = subst (λ (s : ScriptState). CutsShort s.network (map growth_of c.deref.result.now) (InUse c.in-Err-InUse.used)) c.self.view_is refused in
    let short = subst (λ (l : List ChannelChange). CutsShort c.args.self.network (map growth_of l) (InUse c.in-Err-InUse.used)) c.deref.ensures.value here in
    cut_named c.args.names.now c.args.self.network (growths_of c.args.plan.now) c.in-Err-InUse.used
    (subst (λ (s : ScriptState). IsSound s.network.world) c.self.view_is (subst IsSound c.world.ensures c.keeps-2.ensures.sound)) c.requires.asks c.requires.named short

pub returns-in_ok-run-in-Err-InUse : goal.returns-in_ok-run-in-Err-InUse
returns-in_ok-run-in-Err-InUse g c =
    let refused : CutsShort c.self.inside.network (map growth_of c.deref.result.now) (InUse c.in-Err-InUse.used) = rw c.in-Err-InUse.field-0-is at c.in-Err-InUse.ensures.refused in
    let here = subst (λ (s : ScriptState). CutsShort s.network (map growth_of c.deref.result.now) (InUse c.in-Err-InUse.used)) c.self.view_is refused in
    let short = subst (λ (l : List ChannelChange). CutsShort c.args.self.network (map growth_of l) (InUse c.in-Err-InUse.used)) c.deref.ensures.value here in
    stopped_at_cut c.args.names.now c.args.plan.now c.args.self c.in-Err-InUse.used.at c.in-Err-InUse.used.place c.in_ok-line-in-Err-InUse.line.items
    c.in_ok-run-in-Err-InUse.run' short.0 short.1
    (c.in_ok-line-in-Err-InUse.ensures
    ∙ ap (λ (word : List ℕ). line_of (word ∷ slot_word c.args.names.now c.in-Err-InUse.used.place.0 c.in-Err-InUse.used.place.1 ∷ [])) c.stop_word.ensures)
    (subst (λ (s : ScriptState). EndsAt (Cut c.in-Err-InUse.used.at) c.in_ok-line-in-Err-InUse.line.items [] s.journal c.in_ok-run-in-Err-InUse.run') c.self.view_is
    c.in_ok-run-in-Err-InUse.ensures)
