-- A text declares one network: what is declared of its boxes tells their plans, and so the first world.
use Rattle.std.proofs.Common.{◌≡◌, ℕ, List, [], ◌∷◌, map, refl, ap, sym, ◌∙◌, subst}
use Rattle.mc_signal.proofs.Equal.{codecs_tell_list}
use Rattle.mc_signal.specs.declared.codec_list.CodecList.{CodecList}
use Rattle.mc_box.specs.declared.event.Kind.{Kind}
use Rattle.mc_model.specs.Worlds.{ChannelState}
use Rattle.mc_plan.specs.Plans.{PlanState, world_of}
use Rattle.mc_plan.specs.declared.plan.BoxPlan.{BoxPlan}
use Rattle.mc_lines.specs.BoxLines.{box_seen}
use Rattle.mc_lines.specs.Rules.{shapes}
use Rattle.mc_lines.specs.SoFar.{Declared, DeclaredBox}
use Rattle.mc_net.specs.Nets.{IsFirstWorld, batches_of, with_programs}
use Rattle.mc_net.specs.TextLaws.{OneDeclared, OneFirstWorld, OneNet}

-- ---- plans

abbrev plan_with : Kind → CodecList → CodecList → ℕ → BoxPlan
plan_with kind codecs sends version = record { kind = kind; codecs = codecs; sends = sends; first_version = version }

-- a planned box is told by what is declared of it
plan_told : (planned other : BoxPlan) → box_seen planned ≡ box_seen other → planned ≡ other
plan_told planned other same =
    ap (λ (kind : Kind). plan_with kind planned.codecs planned.sends planned.first_version) (ap (λ (d : DeclaredBox). d.kind) same)
    ∙ (ap (λ (codecs : CodecList). plan_with other.kind codecs planned.sends planned.first_version) (codecs_tell_list planned.codecs other.codecs (ap (λ (d : DeclaredBox). d.receives) same))
    ∙ (ap (λ (sends : CodecList). plan_with other.kind other.codecs sends planned.first_version) (codecs_tell_list planned.sends other.sends (ap (λ (d : DeclaredBox). d.sends) same))
    ∙ ap (λ (version : ℕ). plan_with other.kind other.codecs other.sends version) (ap (λ (d : DeclaredBox). d.version) same)))

plans_told : (plans others : List BoxPlan) → map box_seen plans ≡ map box_seen others → plans ≡ others
plans_told [] [] same = refl
plans_told [] (other ∷ others) same = absurd (cc)
plans_told (planned ∷ plans) [] same = absurd (cc)
plans_told (planned ∷ plans) (other ∷ others) same =
    let here : box_seen planned ≡ box_seen other = cc in
    let rest : map box_seen plans ≡ map box_seen others = cc in
    ap (λ (p : BoxPlan). p ∷ plans) (plan_told planned other here) ∙ ap (λ (l : List BoxPlan). other ∷ l) (plans_told plans others rest)

abbrev plan_of : List BoxPlan → List ChannelState → PlanState
plan_of boxes channels = record { boxes = boxes; channels = channels }

plan_is_told : (plan other : PlanState) → map box_seen plan.boxes ≡ map box_seen other.boxes → plan.channels ≡ other.channels → plan ≡ other
plan_is_told plan other boxes channels =
    ap (λ (b : List BoxPlan). plan_of b plan.channels) (plans_told plan.boxes other.boxes boxes) ∙ ap (λ (c : List ChannelState). plan_of other.boxes c) channels

-- ---- texts

pub one_declared : OneDeclared
one_declared tail text d other one two = one.declared ∙ sym two.declared

pub one_first_world : OneFirstWorld
one_first_world d world other one two =
    one.world
    ∙ (ap (λ (plan : PlanState). with_programs (world_of plan) d.blocks) (plan_is_told one.plan two.plan (one.boxes ∙ sym two.boxes) (one.channels ∙ sym two.channels))
    ∙ sym two.world)

pub one_net : OneNet
one_net tail text net other one two =
    let same : one.declared ≡ two.declared = one_declared tail text one.declared two.declared one.says two.says in
    record {
      world = one_first_world two.declared net.world other.world (subst (λ (d : Declared). IsFirstWorld d net.world) same one.world) two.world;
      names = one.names ∙ (ap (λ (d : Declared). d.names) same ∙ sym two.names);
      shape = one.shape ∙ (ap shapes same ∙ sym two.shape);
      batches = one.batches ∙ (ap (λ (d : Declared). batches_of d.commands) same ∙ sym two.batches);
      rest = one.rest ∙ sym two.rest;
    }
