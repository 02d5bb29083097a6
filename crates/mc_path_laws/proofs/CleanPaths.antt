-- From a quiet world on, while only Takes and Retries come, each path without an end that closes is clean.
use Rattle.std.proofs.Common.{◌≡◌, ◌≢◌, ◌<◌, ◌+◌, ℕ, Some, All, length, ap, sym, subst, arith}
use Rattle.mc_slot.specs.Outlook.{acks, closes, waits}
use Rattle.mc_slot.specs.declared.Goal.TheVariants.{Close as ToClose}
use Rattle.mc_slot.specs.declared.State.{State}
use Rattle.mc_slot.specs.declared.State.TheVariants.{Closing}
use Rattle.mc_model.specs.Paths.{PathEnds, both_sides, end_goal, path_from, whole_walk}
use Rattle.mc_model.specs.Sound.{IsSound}
use Rattle.mc_model.specs.Worlds.{WorldState, far, all_tunnels, list_to, places, slot_count, slot_of}
use Rattle.mc_laws.proofs.GoalsKept.{run_stays}
use Rattle.mc_laws.proofs.Numbers.{some_same}
use Rattle.mc_path_laws.specs.PathLaws.{CleanPaths, IsClean, IsCleanPath}
use Rattle.mc_path_laws.proofs.CleanWalks.{AllClean, IsBetween, end_between, far_between, partner_between, quiet_clean, run_clean}
use Rattle.mc_path_laws.proofs.Ends.{parts_of}
use Rattle.mc_path_laws.proofs.Quiet.{each_from}
use Rattle.mc_path_laws.proofs.Sides.{all_along}

-- a slot waits for no closeack where none is under way
awake : (close ack far_close far_ack : ℕ) (state : State) → close + ack ≡ 0 → far_close + far_ack ≡ 0 → far_close + ack ≡ waits state → state ≢ Closing
awake close ack far_close far_ack state none far_none waiting is = absurd (omega (arith, ap waits is))

-- a slot of such a path is clean
clean_slot : (world : WorldState) (s : ℕ) → IsSound world → AllClean world → IsBetween world s → IsClean world s
clean_slot world s sound clean between = record {
  none = clean s between;
  state = awake (closes (list_to world s)) (acks (list_to world s)) (closes (list_to world (far s))) (acks (list_to world (far s))) (slot_of world s).state
      (clean s between) (clean (far s) (far_between world s between)) (sound.tunnels s between.inside).first_waits;
}

-- a path of a world in which they are
path_clean : (world : WorldState) (s : ℕ) (path : PathEnds) → IsSound world → AllClean world → s < slot_count world → path_from world s ≡ Some path → IsCleanPath world path
path_clean world s path sound clean inside is stays far_stays =
    let parts = parts_of world s path is in
    let between = end_between world s path.high inside parts.aims parts.leads (subst (λ (n : ℕ). end_goal world n ≢ ToClose) parts.low_is stays) far_stays in
    subst (λ (n : ℕ). All (IsClean world) (both_sides (whole_walk world n))) (sym parts.low_is)
    (all_along (IsBetween world) (IsClean world) world (λ t there. clean_slot world t sound clean there) (far_between world) (λ t next there is. partner_between world t next sound is there)
    (length (all_tunnels world)) (Some s) (λ t same. subst (IsBetween world) (some_same s t same) between))

-- so each path neither of whose ends closes is clean
pub clean_paths : CleanPaths
clean_paths world next turns sound quiet all goes =
    each_from (IsCleanPath next) (path_from next) (places next) 0 (slot_count next) (omega arith)
    (λ s inside path is. path_clean next s path (run_stays turns world next sound all goes).sound (run_clean turns world next sound all goes (quiet_clean world quiet)) inside is)
