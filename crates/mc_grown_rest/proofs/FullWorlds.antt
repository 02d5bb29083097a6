-- The world of all channels that are there or are still to join: what is run of a script is run in it, too.
use Rattle.std.proofs.Common.{◌≡◌, Some, List, [], ◌∷◌, refl, ap, sym, ◌∙◌}
use Rattle.std.specs.List.{flat_map}
use Rattle.mc_box.specs.declared.event.Turn.{Turn}
use Rattle.mc_growth.specs.Growths.{Cut, GrownState, Growth, Join, grown_by, grown_by_all}
use Rattle.mc_grown_laws.specs.GrownLaws.{Joining, joined_by_all, joins_among}
use Rattle.mc_grown_laws.proofs.Shapes.{MayJoinAll, run_all}
use Rattle.mc_grown_script.proofs.Lawful.{asks_end, end_after}
use Rattle.mc_model.specs.Sound.{IsSound}
use Rattle.mc_model.specs.Steps.{run}
use Rattle.mc_model.specs.Worlds.{WorldState}
use Rattle.mc_stages.specs.Plans.{MayAskAll, grown_at_end, growths_of}
use Rattle.mc_stages.specs.declared.plan.StagePlan.{StagePlan}
use Rattle.mc_stages.proofs.Grows.{sound_all}
use Rattle.mc_grown_rest.specs.Planned.{grown_for}
use Rattle.mc_grown_rest.proofs.Reaching.{IsReady, network_after, ready_after, sound_for}

abbrev pub full_world : GrownState → List StagePlan → WorldState
full_world network plans = (grown_at_end network plans).world

-- joins and cuts that may be asked for: their channels may join, and the world is as these leave it
record Grew (network : GrownState) (growths : List Growth) : Type 0 where
  may : MayJoinAll network.world (joins_among growths)
  world : (grown_by_all network growths).world ≡ joined_by_all network.world (joins_among growths)

grew : (growths : List Growth) (network : GrownState) → MayAskAll network growths → Grew network growths
grew [] network may = record { may = tt; world = refl }
grew (Join medium from to ∷ growths) network may =
    let rest = grew growths (grown_by network (Join medium from to)) may.1 in
    record { may = (may.0, rest.may); world = rest.world }
grew (Cut channel ∷ growths) network may =
    let rest = grew growths (grown_by network (Cut channel)) may.1 in
    record { may = rest.may; world = rest.world }

pub full_sound : (network : GrownState) (plans : List StagePlan) → IsReady network plans → IsSound (full_world network plans)
full_sound network plans ready = sound_all (flat_map growths_of plans) network ready.sound (asks_end plans network ready.lawful)

-- a run after the joins and cuts of a plan is one of the full world
pub full_run : (network : GrownState) (plan : StagePlan) (plans : List StagePlan) (turns : List Turn) (next : WorldState) → IsReady network (plan ∷ plans)
    → run (grown_for network plan).world turns ≡ Some next → run (full_world network (plan ∷ plans)) turns ≡ Some (full_world (network_after network plan next) plans)
full_run network plan plans turns next ready goes =
    let growths : List Growth = flat_map growths_of plans in
    let joins : List Joining = joins_among growths in
    let grown = grown_for network plan in
    let here = grew growths grown (asks_end plans grown ready.lawful.2) in
    let there = grew growths (network_after network plan next) (asks_end plans (network_after network plan next) (ready_after network plan plans turns next ready goes).lawful) in
    ap (λ (n : GrownState). run n.world turns) (end_after plan plans network)
    ∙ (ap (λ (w : WorldState). run w turns) here.world
    ∙ (run_all joins grown.world next turns (sound_for network plan plans ready) here.may goes ∙ ap (λ (w : WorldState). Some w) (sym there.world)))
