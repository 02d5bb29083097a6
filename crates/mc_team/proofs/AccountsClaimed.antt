-- Accounts of workers as claims.
use Rattle.std.proofs.Common.{◌≡◌, ℕ, zero, suc, ◌<◌, Option, Some, None, List, [], ◌∷◌, ◌++◌, length, map, slice_get, refl, ap, sym, ◌∙◌, subst, arith}
use Rattle.std.specs.List.{AllByRecursion}
use Rattle.std.specs.Option.{option_map}
use Rattle.std.proofs.Math.ListN.{get_or}
use Rattle.mc_signal.specs.declared.Tagged.{Tagged}
use Rattle.mc_box.specs.Boxes.{BoxState, no_box}
use Rattle.mc_box.specs.declared.event.Event.{Event}
use Rattle.mc_box.specs.declared.event.Event.TheVariants.{Take, Set, Media, Tell, Retry, Shift}
use Rattle.mc_team.specs.Workers.{AccountsAreClaimed, AreWorkersOf, StandsFor, parts_of}
use Rattle.mc_team.proofs.KeptOrder.{carried}
use Rattle.mc_port.specs.Entries.{AreMade, AreStamped, Claimed, Entry, entries_of}
use Rattle.mc_port.specs.Tunnels.{FitsPlace, log_sends}
use Rattle.mc_merge.specs.LaneLogs.{claimed_of, claims_from, logs_of, sent_to}
use Rattle.mc_merge.specs.Lanes.{FitsTunnel, leads_from, leads_to, out_of_box, tunnel_at}
use Rattle.mc_merge.proofs.Claims.{logs_at}
use Rattle.mc_model.specs.Worlds.{WorldState}
use Rattle.mc_port.specs.Ends.{with_stamp}
use Rattle.mc_port.specs.declared.stamped.Stamped.{Stamped}
use Rattle.mc_worker.specs.declared.worker.Worker.{Worker}

-- ---- workers by their numbers

worker_there : (workers : List Worker) (who : ℕ) → who < length workers → (worker : Worker) × (slice_get workers who ≡ Some worker)
worker_there [] who below = absurd (omega arith)
worker_there (worker ∷ workers) zero below = (worker, refl)
worker_there (worker ∷ workers) (suc who) below = worker_there workers who (omega arith)

part_at : (workers : List Worker) (who : ℕ) (worker : Worker) → slice_get workers who ≡ Some worker → get_or (parts_of workers) who no_box ≡ worker.part
part_at [] who worker is = absurd (cc)
part_at (first ∷ workers) zero worker is =
    let same : first ≡ worker = cc in
    ap (λ (w : Worker). w.part) same
part_at (first ∷ workers) (suc who) worker is = part_at workers who worker is

parts_count : (workers : List Worker) → length (parts_of workers) ≡ length workers
parts_count [] = refl
parts_count (worker ∷ workers) = ap suc (parts_count workers)

-- ---- what is taken is for its slot

fits_one : (event : Event) (taken : Option Tagged) (world : WorldState) (who : ℕ) (places : List (ℕ × ℕ)) → ((local : ℕ) → option_map (λ place. place.1) (slice_get places local) ≡ tunnel_at world who local)
    → FitsPlace places event taken → FitsTunnel world who event taken
fits_one event None world who places same fits = tt
fits_one (Take local) (Some tagged) world who places same fits = sym (same local) ∙ fits
fits_one (Set change) (Some tagged) world who places same fits = tt
fits_one (Media change) (Some tagged) world who places same fits = tt
fits_one (Tell word) (Some tagged) world who places same fits = tt
fits_one (Retry local) (Some tagged) world who places same fits = tt
fits_one Shift (Some tagged) world who places same fits = tt

fits_all : (log : List Claimed) (world : WorldState) (who : ℕ) (places : List (ℕ × ℕ)) → ((local : ℕ) → option_map (λ place. place.1) (slice_get places local) ≡ tunnel_at world who local)
    → AllByRecursion (λ claimed. FitsPlace places claimed.entry.event claimed.entry.taken) log → AllByRecursion (λ claimed. FitsTunnel world who claimed.entry.event claimed.entry.taken) log
fits_all [] world who places same fits = tt
fits_all (claimed ∷ log) world who places same fits = (fits_one claimed.entry.event claimed.entry.taken world who places same fits.0, fits_all log world who places same fits.1)

-- ---- all workers

-- the worker of a box, before and after
record Found (world : WorldState) (old new : List Worker) (logs : List (List Claimed)) (who : ℕ) : Type 0 where
  before : Worker
  after : Worker
  before_is : slice_get old who ≡ Some before
  after_is : slice_get new who ≡ Some after
  stands : StandsFor world who before after (claimed_of logs who)

found : (world : WorldState) (old new : List Worker) (logs : List (List Claimed)) (rests : List (List Stamped)) (who : ℕ) → AreWorkersOf world old new logs rests → who < length world.boxes
    → Found world old new logs who
found world old new logs rests who are below =
    let one = worker_there old who (subst (λ (n : ℕ). who < n) (sym are.old_count) below) in
    let two = worker_there new who (subst (λ (n : ℕ). who < n) (sym are.new_count) below) in
    record { before = one.0; after = two.0; before_is = one.1; after_is = two.1; stands = are.stand who one.0 two.0 one.1 two.1 }

lane_keeps : (world : WorldState) (old new : List Worker) (logs : List (List Claimed)) (rests : List (List Stamped)) (lane : ℕ) → AreWorkersOf world old new logs rests → lane < length world.lanes
    → claims_from world logs lane ++ get_or rests lane [] ≡ map (with_stamp 0) (get_or world.lanes lane []) ++ sent_to world (logs_of logs) lane
lane_keeps world old new logs rests lane are inside =
    let boxes = are.boxes lane inside in
    let sender = found world old new logs rests (leads_from world lane) are boxes.sender in
    let taker = found world old new logs rests (leads_to world lane) are boxes.taker in
    carried world lane sender.before sender.after taker.before taker.after (claimed_of logs (leads_from world lane)) (claimed_of logs (leads_to world lane)) (get_or rests lane [])
    sender.stands.work taker.stands.work
    (are.carry lane sender.before sender.after taker.before taker.after inside sender.before_is sender.after_is taker.before_is taker.after_is)
    ∙ ap (λ (l : List Entry). map (with_stamp 0) (get_or world.lanes lane []) ++ log_sends (out_of_box world (leads_from world lane) lane) l) (sym (logs_at logs (leads_from world lane)))

pub accounts_are_claimed : AccountsAreClaimed
accounts_are_claimed world old new logs rests are = record {
  each_lane = are.each_lane;
  log_count = are.log_count;
  box_count = parts_count new ∙ are.new_count;
  lane_count = are.lane_count;
  made = λ who inside.
      let one = found world old new logs rests who are inside in
      subst (λ (b : BoxState). AreMade b (entries_of (claimed_of logs who)) (get_or (parts_of new) who no_box)) one.stands.box
      (subst (λ (b : BoxState). AreMade one.before.part (entries_of (claimed_of logs who)) b) (sym (part_at new who one.after one.after_is)) one.stands.work.made);
  stamps = λ who inside.
      let one = found world old new logs rests who are inside in
      subst (λ (n : ℕ). AreStamped n (claimed_of logs who)) one.stands.stamp one.stands.work.stamps;
  tunnels = λ who inside.
      let one = found world old new logs rests who are inside in
      fits_all (claimed_of logs who) world who one.before.place one.stands.tunnels one.stands.work.fits;
  keeps = λ lane inside. lane_keeps world old new logs rests lane are inside;
}
