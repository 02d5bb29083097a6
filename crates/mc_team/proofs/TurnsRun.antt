-- The turns of all boxes, in the order of their stamps, are a run.
use Rattle.std.proofs.Common.{◌≡◌, ℕ, List, length, map, Some, ap, ◌∙◌, subst}
use Rattle.mc_merge.proofs.Claims.{claimed_are_logged, own_events}
use Rattle.mc_merge.proofs.Merging.{merge_law}
use Rattle.mc_merge.specs.LaneLogs.{claimed_of, logs_of, without_stamps}
use Rattle.mc_merge.specs.Merging.{merged}
use Rattle.mc_model.specs.Settles.{of_kind}
use Rattle.mc_model.specs.Steps.{run}
use Rattle.mc_model.specs.Worlds.{ChannelState, WorldState}
use Rattle.mc_order.specs.Keys.{IsOrdered}
use Rattle.mc_order.specs.declared.Key.{Key}
use Rattle.mc_port.specs.Entries.{Claimed, stamps_of}
use Rattle.mc_signal.specs.declared.Tagged.{Tagged}
use Rattle.mc_team.proofs.RoundLogs.{written_stamps, written_turns}
use Rattle.mc_team.proofs.RoundTurns.{AreOwn}
use Rattle.mc_team.specs.Ends.{parts_of}
use Rattle.mc_team.specs.Logs.{log_stamps, logged_turn}
use Rattle.mc_team.specs.Rounds.{round_logs}
use Rattle.mc_team.specs.Teams.{world_of}
use Rattle.mc_team.specs.Turns.{AreTurnsClaimed}
use Rattle.mc_team.specs.declared.layout.LaneEnds.{LaneEnds}
use Rattle.mc_team.specs.declared.member.Member.{Member}
use Rattle.mc_worker.specs.declared.logged.Logged.{Logged}

-- the turns of the keys are those of the logs
turns_same : {Known : ℕ → Member → Member → List Claimed → Type 0} {channels : List ChannelState} {lanes : List LaneEnds} {old ran new : List Member}
    → (c : AreTurnsClaimed Known channels lanes old ran new) (keys : List Key) → map (logged_turn (round_logs new)) keys ≡ merged (logs_of c.logs) keys
turns_same c keys = ap (λ (l : List (List Logged)). map (logged_turn l) keys) c.kept ∙ written_turns c.logs keys

-- the keys name all entries, in order
in_order : {Known : ℕ → Member → Member → List Claimed → Type 0} {channels : List ChannelState} {lanes : List LaneEnds} {old ran new : List Member}
    → (c : AreTurnsClaimed Known channels lanes old ran new) (keys : List Key) → IsOrdered (map log_stamps (round_logs new)) keys → IsOrdered (map stamps_of (logs_of c.logs)) keys
in_order c keys ordered = subst (λ (l : List (List ℕ)). IsOrdered l keys) (ap (λ (l : List (List Logged)). map log_stamps l) c.kept ∙ written_stamps c.logs) ordered

-- the turns lead from the world before to the one after
pub turns_run : {Known : ℕ → Member → Member → List Claimed → Type 0} {channels : List ChannelState} {lanes : List LaneEnds} {old ran new : List Member}
    → AreTurnsClaimed Known channels lanes old ran new → (keys : List Key) → IsOrdered (map log_stamps (round_logs new)) keys
    → run (world_of channels old lanes) (map (logged_turn (round_logs new)) keys) ≡ Some (world_of channels new lanes)
turns_run {channels = channels} {lanes = lanes} {old = old} {new = new} c keys ordered =
    let world : WorldState = world_of channels old lanes in
    ap (run world) (turns_same c keys)
    ∙ (merge_law world (logs_of c.logs) keys (parts_of new) (map without_stamps c.rests) (claimed_are_logged world c.logs (parts_of new) c.rests c.claimed) (in_order c keys ordered)
    ∙ ap (λ (l : List (List Tagged)). Some (record world { boxes = parts_of new; lanes = l })) c.under_way)

-- of each box they are those of its log
pub turns_own : {Known : ℕ → Member → Member → List Claimed → Type 0} {channels : List ChannelState} {lanes : List LaneEnds} {old ran new : List Member}
    → (c : AreTurnsClaimed Known channels lanes old ran new) (keys : List Key) → IsOrdered (map log_stamps (round_logs new)) keys
    → (who : ℕ) → AreOwn (map (logged_turn (round_logs new)) keys) who (claimed_of c.logs who)
turns_own {channels = channels} {lanes = lanes} {old = old} {new = new} c keys ordered who kind =
    ap (of_kind kind who) (turns_same c keys) ∙ own_events (world_of channels old lanes) c.logs (parts_of new) c.rests keys who kind c.claimed (in_order c keys ordered)
