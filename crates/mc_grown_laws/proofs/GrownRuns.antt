-- A run in which a network grows is one run of the world of all its channels.
use Rattle.std.proofs.Common.{◌≡◌, Some, Option, List, [], ◌∷◌, ◌++◌, refl, ap, sym, ◌∙◌, subst}
use Rattle.std.specs.Option.{option_and_then}
use Rattle.mc_box.specs.declared.event.Turn.{Turn}
use Rattle.mc_box.proofs.Options.{then_some}
use Rattle.mc_model.specs.Sound.{IsSound}
use Rattle.mc_model.specs.Steps.{run, step}
use Rattle.mc_model.specs.Worlds.{WorldState}
use Rattle.mc_laws.proofs.ShapesKept.{run_keeps_shape}
use Rattle.mc_laws.proofs.StepKeeps.{run_keeps_sound}
use Rattle.mc_growth.specs.Growths.{Cut, GrownState, Growth, IsGrownRun, IsStage, Join, MayGrowAll, Stage, after_stage, grown_by, grown_by_all}
use Rattle.mc_grown_laws.specs.GrownLaws.{GrownIsOne, Joining, joined_by_all, joins_among, joins_of, turns_of}
use Rattle.mc_grown_laws.proofs.Shapes.{MayJoinAll, joined_append, may_all_by, may_append, run_all, shape_back, sound_all}

-- one run after another
pub run_append : (one two : List Turn) (world mid last : WorldState) → run world one ≡ Some mid → run mid two ≡ Some last → run world (one ++ two) ≡ Some last
run_append [] two world mid last first second = let same : world ≡ mid = cc in subst (λ (w : WorldState). run w two ≡ Some last) (sym same) second
run_append (turn ∷ one) two world mid last first second =
    let here = then_some (λ (w : WorldState). run w one) (step world turn) mid first in
    ap (λ (o : Option WorldState). option_and_then (λ (w : WorldState). run w (one ++ two)) o) here.1 ∙ run_append one two here.0 mid last here.2 second

-- the joins and cuts of a stage: their channels may join, and the world is as these leave it
record Grew (network : GrownState) (growths : List Growth) : Type 0 where
  may : MayJoinAll network.world (joins_among growths)
  world : (grown_by_all network growths).world ≡ joined_by_all network.world (joins_among growths)

grew : (growths : List Growth) (network : GrownState) → MayGrowAll network growths → Grew network growths
grew [] network may = record { may = tt; world = refl }
grew (Join medium from to ∷ growths) network may =
    let rest = grew growths (grown_by network (Join medium from to)) may.1 in
    record { may = (may.0, rest.may); world = rest.world }
grew (Cut channel ∷ growths) network may =
    let rest = grew growths (grown_by network (Cut channel)) may.1 in
    record { may = rest.may; world = rest.world }

-- the channels of all stages may join at the beginning, and then the turns are a run
record IsOne (network : GrownState) (stages : List Stage) (last : GrownState) : Type 0 where
  may : MayJoinAll network.world (joins_of stages)
  runs : run (joined_by_all network.world (joins_of stages)) (turns_of stages) ≡ Some last.world

is_one : (stages : List Stage) (network last : GrownState) → IsSound network.world → IsGrownRun network stages last → IsOne network stages last
is_one [] network last sound goes = record { may = tt; runs = ap (λ (n : GrownState). Some n.world) goes }
is_one (stage ∷ stages) network last sound goes =
    let next : WorldState = goes.0 in
    let here : IsStage network stage next = goes.1 in
    let first : List Joining = joins_among stage.growths in
    let others : List Joining = joins_of stages in
    let grown = grew stage.growths network here.grows in
    let world : WorldState = joined_by_all network.world first in
    let begins : run world stage.turns ≡ Some next = subst (λ (w : WorldState). run w stage.turns ≡ Some next) grown.world here.settles.runs in
    let strong : IsSound world = sound_all first network.world sound grown.may in
    let shape = run_keeps_shape world next stage.turns strong begins in
    let rest = is_one stages (after_stage network stage next) last (run_keeps_sound world next stage.turns strong begins) goes.2 in
    let may : MayJoinAll world others = may_all_by others world next (shape_back next world shape) rest.may in
    record {
      may = may_append first others network.world grown.may may;
      runs = ap (λ (w : WorldState). run w (stage.turns ++ turns_of stages)) (joined_append first others network.world)
          ∙ run_append stage.turns (turns_of stages) (joined_by_all world others) (joined_by_all next others) last.world (run_all others world next stage.turns strong may begins) rest.runs;
    }

pub grown_is_one : GrownIsOne
grown_is_one network last stages sound goes = (is_one stages network last sound goes).runs
