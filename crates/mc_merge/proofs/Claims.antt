-- Claims keep a lane's order, and so logs with claims are logs.
use Rattle.std.proofs.Common.{◌≡◌, inl, inr, if◌then◌else◌, cond, Bool, true, false, ℕ, zero, suc, ◌+◌, ◌<◌, ◌≤◌, max, List, [], ◌∷◌, ◌++◌, length, map, get_or, Option, Some, None, append_assoc, refl, ap, sym, ◌∙◌, subst, arith}
use Rattle.std.specs.List.{AllByRecursion, filter, slice_get}
use Rattle.std.proofs.lemmas.Bool.{cases_lt}
use Rattle.std.proofs.lemmas.List.{append-nil, map-append}
use Rattle.mc_signal.specs.declared.Tagged.{Tagged}
use Rattle.mc_box.specs.Boxes.{BoxState, no_box}
use Rattle.mc_box.specs.declared.event.Event.{Event}
use Rattle.mc_box.specs.declared.event.Turn.{Turn}
use Rattle.mc_box.specs.BoxEvents.{turn_of}
use Rattle.mc_order.specs.Keys.{Rise}
use Rattle.mc_model.specs.Worlds.{WorldState, box_at}
use Rattle.mc_port.specs.Tunnels.{Tunnels, event_takes, log_takes}
use Rattle.mc_merge.specs.Claims.{AreClaims, ClaimedAreLogged, ClaimsKeep, IsClaimed, OwnEvents, RingKeeps}
use Rattle.mc_merge.specs.LaneLogs.{claimed_of, claims_from, log_of, logs_of, sent_to, taken_from, takings, without_stamps}
use Rattle.mc_merge.specs.Lanes.{FitsTunnel, into_box, leads_to}
use Rattle.mc_merge.specs.Merging.{LaneKeeps}
use Rattle.mc_merge.proofs.Accounts.{without_stamps_sent}
use Rattle.mc_merge.proofs.OwnTurns.{own_turns}
use Rattle.mc_port.specs.Entries.{AreMade, AreStamped, Claimed, Entry, claim_of, entries_of, events_that, stamps_of}
use Rattle.mc_port.specs.Ends.{without_stamp, with_stamp}
use Rattle.mc_port.specs.declared.stamped.Stamped.{Stamped}

same_signals : (taken claims : List Stamped) → AreClaims taken claims → without_stamps taken ≡ without_stamps claims
same_signals [] [] are = refl
same_signals [] (claim ∷ claims) are = absurd are
same_signals (taking ∷ taken) [] are = absurd are
same_signals (taking ∷ taken) (claim ∷ claims) are =
    let same : without_stamp claim ≡ without_stamp taking = are.0 in
    ap (λ (p : Tagged). p ∷ without_stamps taken) (sym same) ∙ ap (λ (l : List Tagged). without_stamp claim ∷ l) (same_signals taken claims are.2)

later : (taken claims : List Stamped) (lane : List Tagged) (sent rest : List Stamped) → AreClaims taken claims → claims ++ rest ≡ map (with_stamp 0) lane ++ sent
    → (j k : ℕ) (taking sending : Stamped) → j ≡ length lane + k → slice_get taken j ≡ Some taking → slice_get sent k ≡ Some sending → sending.stamp < taking.stamp
later [] claims lane sent rest are is j k taking sending at at_taken at_sent = absurd (cc)
later (first ∷ taken) [] lane sent rest are is j k taking sending at at_taken at_sent = absurd are
later (first ∷ taken) (claim ∷ claims) [] [] rest are is j k taking sending at at_taken at_sent = absurd (cc)
later (first ∷ taken) (claim ∷ claims) [] (next ∷ sent) rest are is zero zero taking sending at at_taken at_sent =
    let below : claim.stamp < first.stamp = are.1 in
    let one : claim ≡ next = cc in
    let two : next ≡ sending = cc in
    let three : first ≡ taking = cc in
    subst (λ (s : Stamped). s.stamp < taking.stamp) (one ∙ two) (subst (λ (t : Stamped). claim.stamp < t.stamp) three below)
later (first ∷ taken) (claim ∷ claims) [] (next ∷ sent) rest are is zero (suc k) taking sending at at_taken at_sent = absurd (omega arith)
later (first ∷ taken) (claim ∷ claims) [] (next ∷ sent) rest are is (suc j) zero taking sending at at_taken at_sent = absurd (omega arith)
later (first ∷ taken) (claim ∷ claims) [] (next ∷ sent) rest are is (suc j) (suc k) taking sending at at_taken at_sent =
    later taken claims [] sent rest are.2 (cc) j k taking sending (omega arith) at_taken at_sent
later (first ∷ taken) (claim ∷ claims) (tagged ∷ lane) sent rest are is zero k taking sending at at_taken at_sent = absurd (omega arith)
later (first ∷ taken) (claim ∷ claims) (tagged ∷ lane) sent rest are is (suc j) k taking sending at at_taken at_sent =
    later taken claims lane sent rest are.2 (cc) j k taking sending (omega arith) at_taken at_sent

pub claims_keep : ClaimsKeep
claims_keep lane taken claims sent rest are is = record {
  order = ap (λ (l : List Tagged). l ++ without_stamps rest) (same_signals taken claims are) ∙ (sym (map-append without_stamp claims rest) ∙ (ap (λ (l : List Stamped). without_stamps l) is ∙ without_stamps_sent lane 0 sent));
  later = later taken claims lane sent rest are is;
}

-- ---- a ring

pub ring_keeps : RingKeeps
ring_keeps before after claims gave left given kept order whole ring = elim whole [
  | inl none ↦
      let all : claims ++ map (with_stamp 0) after ≡ map (with_stamp 0) before = order ∙ (ap (λ (l : List Stamped). map (with_stamp 0) before ++ l) none ∙ append-nil (map (with_stamp 0) before)) in
      let rest : left ≡ given = ap (λ (l : List Stamped). l ++ left) (sym none) ∙ ring in
      sym (append_assoc claims (map (with_stamp 0) after) (left ++ kept))
      ∙ (ap (λ (l : List Stamped). l ++ (left ++ kept)) all ∙ ap (λ (l : List Stamped). map (with_stamp 0) before ++ (l ++ kept)) rest)
  | inr empty ↦
      let all : claims ≡ map (with_stamp 0) before ++ gave = sym (append-nil claims) ∙ (ap (λ (l : List Tagged). claims ++ map (with_stamp 0) l) (sym empty) ∙ order) in
      ap (λ (l : List Tagged). claims ++ (map (with_stamp 0) l ++ (left ++ kept))) empty
      ∙ (ap (λ (l : List Stamped). l ++ (left ++ kept)) all
      ∙ (append_assoc (map (with_stamp 0) before) gave (left ++ kept)
      ∙ (ap (λ (l : List Stamped). map (with_stamp 0) before ++ l) (sym (append_assoc gave left kept))
      ∙ ap (λ (l : List Stamped). map (with_stamp 0) before ++ (l ++ kept)) ring)))
]

-- ---- all logs

pub logs_at : (logs : List (List Claimed)) (who : ℕ) → log_of (logs_of logs) who ≡ entries_of (claimed_of logs who)
logs_at [] who = refl
logs_at (log ∷ logs) zero = refl
logs_at (log ∷ logs) (suc who) = logs_at logs who

logs_count : (logs : List (List Claimed)) → length (logs_of logs) ≡ length logs
logs_count [] = refl
logs_count (log ∷ logs) = ap suc (logs_count logs)

rests_count : (rests : List (List Stamped)) → length (map without_stamps rests) ≡ length rests
rests_count [] = refl
rests_count (rest ∷ rests) = ap suc (rests_count rests)

rests_at : (rests : List (List Stamped)) (lane : ℕ) → get_or (map without_stamps rests) lane [] ≡ without_stamps (get_or rests lane [])
rests_at [] lane = refl
rests_at (rest ∷ rests) zero = refl
rests_at (rest ∷ rests) (suc lane) = rests_at rests lane

more : (before claim stamp : ℕ) → stamp ≡ max before claim + 1 → (before < stamp) × (claim < stamp)
more before claim stamp is = (omega arith, omega arith)

-- stamps rise from the one before on
above : (before low : ℕ) (log : List Claimed) → low ≤ before → AreStamped before log → AllByRecursion (λ stamp. low < stamp) (stamps_of (entries_of log))
above before low [] least stamps = tt
above before low (claimed ∷ log) least stamps =
    let here : before < claimed.entry.stamp = (more before (claim_of claimed.entry.taken claimed.claim) claimed.entry.stamp stamps.0).0 in
    let lower : low < claimed.entry.stamp = omega arith in
    (lower, above claimed.entry.stamp low log (omega arith) stamps.1)

stamps_rise : (before : ℕ) (log : List Claimed) → AreStamped before log → Rise (stamps_of (entries_of log))
stamps_rise before [] stamps = tt
stamps_rise before (claimed ∷ log) stamps = (above claimed.entry.stamp claimed.entry.stamp log (omega arith) stamps.1, stamps_rise claimed.entry.stamp log stamps.1)

tunnels_of : (world : WorldState) (who : ℕ) (log : List Claimed) → AllByRecursion (λ (claimed : Claimed). FitsTunnel world who claimed.entry.event claimed.entry.taken) log
    → AllByRecursion (λ (entry : Entry). FitsTunnel world who entry.event entry.taken) (entries_of log)
tunnels_of world who [] all = tt
tunnels_of world who (claimed ∷ log) all = (all.0, tunnels_of world who log all.1)

-- claims are below their takings
claims_more : (now : List Tagged) (claim stamp : ℕ) (rest claims : List Stamped) → claim < stamp → AreClaims rest claims → AreClaims (map (with_stamp stamp) now ++ rest) (map (with_stamp claim) now ++ claims)
claims_more [] claim stamp rest claims below are = are
claims_more (tagged ∷ now) claim stamp rest claims below are = (refl, below, claims_more now claim stamp rest claims below are)

claims_one : (taken : Option Tagged) (event : Event) (tunnels : Tunnels) (claim stamp : ℕ) (rest claims : List Stamped) → claim_of taken claim < stamp → AreClaims rest claims
    → AreClaims (map (with_stamp stamp) (event_takes tunnels event taken) ++ rest) (map (with_stamp claim) (event_takes tunnels event taken) ++ claims)
claims_one None event tunnels claim stamp rest claims below are = are
claims_one (Some tagged) event tunnels claim stamp rest claims below are = claims_more (event_takes tunnels event (Some tagged)) claim stamp rest claims below are

claims_below : (tunnels : Tunnels) (before : ℕ) (log : List Claimed) → AreStamped before log → AreClaims (takings tunnels (entries_of log)) (log_takes tunnels log)
claims_below tunnels before [] stamps = tt
claims_below tunnels before (claimed ∷ log) stamps =
    claims_one claimed.entry.taken claimed.entry.event tunnels claimed.claim claimed.entry.stamp (takings tunnels (entries_of log)) (log_takes tunnels log)
    (more before (claim_of claimed.entry.taken claimed.claim) claimed.entry.stamp stamps.0).1 (claims_below tunnels claimed.entry.stamp log stamps.1)

pub past_claimed : (logs : List (List Claimed)) (who : ℕ) → length logs ≤ who → claimed_of logs who ≡ []
past_claimed [] who past = refl
past_claimed (log ∷ logs) zero past = absurd (omega arith)
past_claimed (log ∷ logs) (suc who) past = past_claimed logs who (omega arith)

-- also of a box that isn't there
all_stamped : (world : WorldState) (logs : List (List Claimed)) (boxes : List BoxState) (rests : List (List Stamped)) → IsClaimed world logs boxes rests → (who : ℕ) → AreStamped 0 (claimed_of logs who)
all_stamped world logs boxes rests claimed who = elim (cases_lt who (length world.boxes)) [
  | inl below ↦ claimed.stamps who below
  | inr past ↦ subst (λ (l : List Claimed). AreStamped 0 l) (sym (past_claimed logs who (subst (λ (n : ℕ). n ≤ who) (sym claimed.log_count) past))) tt
]

pub claimed_are_logged : ClaimedAreLogged
claimed_are_logged world logs boxes rests claimed = record {
  each_lane = claimed.each_lane;
  log_count = logs_count logs ∙ claimed.log_count;
  box_count = claimed.box_count;
  lane_count = rests_count rests ∙ claimed.lane_count;
  made = λ who below. subst (λ (l : List Entry). AreMade (box_at world who) l (get_or boxes who no_box)) (sym (logs_at logs who)) (claimed.made who below);
  rise = λ who below. subst (λ (l : List Entry). Rise (stamps_of l)) (sym (logs_at logs who)) (stamps_rise 0 (claimed_of logs who) (claimed.stamps who below));
  tunnels = λ who below.
      subst (λ (l : List Entry). AllByRecursion (λ (entry : Entry). FitsTunnel world who entry.event entry.taken) l) (sym (logs_at logs who)) (tunnels_of world who (claimed_of logs who) (claimed.tunnels who below));
  keeps = λ lane below.
      subst (λ (l : List Tagged). LaneKeeps (get_or world.lanes lane []) (taken_from world (logs_of logs) lane) (sent_to world (logs_of logs) lane) l) (sym (rests_at rests lane))
      (claims_keep (get_or world.lanes lane []) (taken_from world (logs_of logs) lane) (claims_from world logs lane) (sent_to world (logs_of logs) lane) (get_or rests lane [])
      (subst (λ (l : List Entry). AreClaims (takings (into_box world (leads_to world lane) lane) l) (claims_from world logs lane)) (sym (logs_at logs (leads_to world lane)))
      (claims_below (into_box world (leads_to world lane) lane) 0 (claimed_of logs (leads_to world lane)) (all_stamped world logs boxes rests claimed (leads_to world lane))))
      (claimed.keeps lane below));
}

-- ---- the events of a box

event_kept : (here : Bool) (who : ℕ) (entry : Entry) (kept : List Entry) (events : List Event) → map (λ (e : Entry). turn_of who e.event) kept ≡ map (turn_of who) events
    → map (λ (e : Entry). turn_of who e.event) (cond here (entry ∷ kept) kept) ≡ map (turn_of who) ((if here then entry.event ∷ [] else []) ++ events)
event_kept true who entry kept events same = ap (λ (l : List Turn). turn_of who entry.event ∷ l) same
event_kept false who entry kept events same = same

events_kept : (log : List Claimed) (who : ℕ) (kind : Event → Bool)
    → map (λ (e : Entry). turn_of who e.event) (filter (λ (e : Entry). kind e.event) (entries_of log)) ≡ map (turn_of who) (events_that kind log)
events_kept [] who kind = refl
events_kept (claimed ∷ log) who kind =
    event_kept (kind claimed.entry.event) who claimed.entry (filter (λ (e : Entry). kind e.event) (entries_of log)) (events_that kind log) (events_kept log who kind)

pub own_events : OwnEvents
own_events world logs boxes rests keys who kind claimed ordered =
    own_turns (logs_of logs) keys who kind ordered
    (λ box below. (claimed_are_logged world logs boxes rests claimed).rise box (subst (λ (n : ℕ). box < n) (logs_count logs ∙ claimed.log_count) below))
    ∙ (ap (λ (l : List Entry). map (λ (e : Entry). turn_of who e.event) (filter (λ (e : Entry). kind e.event) l)) (logs_at logs who)
    ∙ events_kept (claimed_of logs who) who kind)
