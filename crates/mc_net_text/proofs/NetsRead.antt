-- A text that reads as a network is read as it.
use Rattle.std.proofs.Common.{◌≡◌, ℕ, List, ap, sym, ◌∙◌, subst}
use Rattle.mc_text.specs.NameLists.{NameLists}
use Rattle.mc_plan.specs.Plans.{PlanState, world_of}
use Rattle.mc_lines.specs.SoFar.{Declared}
use Rattle.mc_lines.specs.declared.tail.Tail.TheVariants.{Nothing}
use Rattle.mc_program_lines.specs.Programs.{BlockState}
use Rattle.mc_net.specs.Nets.{IsFirstWorld, batches_of, with_programs}
use Rattle.mc_net.proofs.OneNet.{one_declared, one_first_world}
use Rattle.mc_net_text.specs.NetLaws.{NetsRead}
use Rattle.mc_net_text.specs.Texts.{ReadsAs}

-- the world of the plan is a first one of what the text declares
first : (names : NameLists) (plan : PlanState) (blocks : List BlockState) (text : List ℕ)
    → (reads : ReadsAs names plan blocks text) → IsFirstWorld reads.declared (with_programs (world_of plan) blocks)
first names plan blocks text reads = record {
  plan = plan;
  boxes = sym reads.tells.boxes;
  channels = sym reads.tells.channels;
  world = ap (with_programs (world_of plan)) (sym reads.tells.blocks);
}

pub nets_read : NetsRead
nets_read names plan blocks text net reads is =
    let same : is.declared ≡ reads.declared = one_declared Nothing text is.declared reads.declared is.says reads.says in
    record {
      names = is.names ∙ (ap (λ (d : Declared). d.names) same ∙ reads.tells.names);
      world = one_first_world reads.declared net.world (with_programs (world_of plan) blocks) (subst (λ (d : Declared). IsFirstWorld d net.world) same is.world) (first names plan blocks text reads);
      batches = is.batches ∙ ap batches_of (ap (λ (d : Declared). d.commands) same ∙ reads.tells.commands);
    }
