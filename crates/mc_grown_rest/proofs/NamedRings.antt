-- Where the links that are named close no chain with the tunnels of all channels that ever join, no settle stops at a ring.
use Rattle.std.proofs.Common.{ℕ, List, ◌∷◌, Contains}
use Rattle.std.specs.List.{AllByRecursion, flat_map}
use Rattle.std.proofs.lemmas.List.Elements.{All-contains_itself, recursion_from_All}
use Rattle.mc_box.specs.declared.event.Turn.{Turn}
use Rattle.mc_growth.specs.Growths.{GrownState}
use Rattle.mc_grown_script.proofs.Lawful.{asks_end}
use Rattle.mc_laws.proofs.Chains.{first_named, named_links_close_none, run_keeps_named, used_up_come}
use Rattle.mc_laws.specs.Chains.{ClosesNoChain, LinksAreNamed}
use Rattle.mc_model.specs.Worlds.{WorldState}
use Rattle.mc_rounds.specs.Stops.{StopsOnRing}
use Rattle.mc_stages.specs.Plans.{batch_of, growths_of}
use Rattle.mc_stages.specs.declared.plan.StagePlan.{StagePlan}
use Rattle.mc_grown_rest.specs.Planned.{all_batches, grown_for}
use Rattle.mc_grown_rest.proofs.FullWorlds.{full_run, full_sound, full_world}
use Rattle.mc_grown_rest.proofs.Reaching.{IsReady, Keeps, network_after, ready_after}
use Rattle.mc_grown_rest.proofs.StillRings.{none_before}

-- what holds before each stage: all links are named, and each plan that is left has one of the batches
pub record StillNamed (start : WorldState) (all : List (List Turn)) (network : GrownState) (plans : List StagePlan) : Type 0 where
  named : LinksAreNamed start all (full_world network plans)
  among : AllByRecursion (Contains all) (all_batches plans)

pub named_first : (first : GrownState) (plans : List StagePlan) → StillNamed (full_world first plans) (all_batches plans) first plans
named_first first plans = record {
  named = first_named (full_world first plans) (all_batches plans);
  among = recursion_from_All (Contains (all_batches plans)) (all_batches plans) (All-contains_itself (all_batches plans));
}

pub keeps_named : (start : WorldState) (all : List (List Turn)) → Keeps (StillNamed start all)
keeps_named start all network plan plans turns next ready settles still = record {
  named = run_keeps_named start (full_world network (plan ∷ plans)) (full_world (network_after network plan next) plans) all turns (full_sound network (plan ∷ plans) ready) still.named
      (used_up_come all (batch_of plan) turns still.among.0 settles.settled.commands) (full_run network plan plans turns next ready settles.settled.runs);
  among = still.among.1;
}

pub closes_none : (start : WorldState) (all : List (List Turn)) (network : GrownState) (plan : StagePlan) (plans : List StagePlan) (turns : List Turn) (at : ℕ) → ClosesNoChain start all
    → IsReady network (plan ∷ plans) → StillNamed start all network (plan ∷ plans) → StopsOnRing (grown_for network plan).world (batch_of plan) turns at → ⊥
closes_none start all network plan plans turns at closes ready still stops =
    let next = network_after network plan stops.last in
    let later = ready_after network plan plans turns stops.last ready stops.stopped.runs in
    let sound = full_sound next plans later in
    let named = run_keeps_named start (full_world network (plan ∷ plans)) (full_world next plans) all turns (full_sound network (plan ∷ plans) ready) still.named
    (used_up_come all (batch_of plan) turns still.among.0 stops.used_up) (full_run network plan plans turns stops.last ready stops.stopped.runs) in
    none_before (flat_map growths_of plans) next at later.sound (asks_end plans next later.lawful) sound (named_links_close_none start (full_world next plans) all sound named closes).0 stops.least.inside
    stops.least.on
