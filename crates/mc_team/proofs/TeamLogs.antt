-- The tables of a team's network fit after each call.
use Rattle.std.proofs.Common.{◌≡◌, Bool, List, length, Option, Result, Ok, Err, OnErr, OnOk, ℕ, ap, sym, subst, arith}
use Rattle.std.proofs.lemmas.List.{length-map}
use Rattle.std.specs.declared.alloc.AllocError.{AllocError}
use Rattle.mc_box.specs.declared.event.Turn.{Turn}
use Rattle.mc_laws.proofs.ShapesKept.{run_keeps_shape}
use Rattle.mc_model.specs.Worlds.{ChannelState, WorldState}
use Rattle.mc_team.specs.Frames.{FitsTeam}
use Rattle.mc_team.specs.Rounds.{IsTeamRound}
use Rattle.mc_team.specs.Teams.{IsTeam, TeamState, team_state, with_command}
use Rattle.mc_team.specs.declared.boxes.TeamBoxes.{TeamBoxes}
use Rattle.mc_team.specs.declared.member.Member.{Member}
use Rattle.mc_worker.specs.declared.stop.Stop.{Stop}
use Rattle.mc_world.specs.Parts.{FitsFrame}
use Rattle.mc_world.specs.declared.network.parts.Parts.{Parts}

-- they do where there are as many boxes, with the same channels
fits_still : (parts : Parts) (a b : TeamBoxes) → length (team_state b).world.boxes ≡ length (team_state a).world.boxes → b.channels.items ≡ a.channels.items → FitsTeam parts a → FitsTeam parts b
fits_still parts a b boxes channels fits =
    let count : length b.members.items ≡ length a.members.items = omega (arith, boxes, length-map a.members.items (λ (member : Member). member.worker.part), length-map b.members.items (λ (member : Member). member.worker.part)) in
    subst (λ (n : ℕ). FitsFrame parts b.channels.items n) (sym count) (subst (λ (c : List ChannelState). FitsFrame parts c (length a.members.items)) (sym channels) fits)

fits_same : (parts : Parts) (a b : TeamBoxes) → (team_state b).world ≡ (team_state a).world → FitsTeam parts a → FitsTeam parts b
fits_same parts a b same fits = fits_still parts a b (ap (λ (w : WorldState). length w.boxes) same) (ap (λ (w : WorldState). w.channels) same) fits

-- a command more leaves them as they are
pub fits_added : (result : Result (Unit {0}) AllocError) (parts : Parts) (a b : TeamBoxes) (turn : Turn) → FitsTeam parts a → OnOk result (team_state b ≡ with_command (team_state a) turn) → OnErr result (team_state b ≡ team_state a) → FitsTeam parts b
fits_added (Ok done) parts a b turn fits added kept = fits_same parts a b (ap (λ (team : TeamState). team.world) added) fits
fits_added (Err e) parts a b turn fits added kept = fits_same parts a b (ap (λ (team : TeamState). team.world) kept) fits

-- and so does a round
pub fits_round : (retries : Bool) (parts : Parts) (a b : TeamBoxes) (turns : List Turn) (stops : List (Option Stop)) → IsTeam a → IsTeamRound retries (team_state a) (team_state b) turns stops → FitsTeam parts a → FitsTeam parts b
fits_round retries parts a b turns stops is round fits =
    let shape = run_keeps_shape (team_state a).world (team_state b).world turns is.sound round.runs in
    fits_still parts a b shape.boxes shape.channels fits
