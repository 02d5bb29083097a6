-- Entries whose times never fall are a run.
use Rattle.std.proofs.Common.{◌≡◌, ◌==◌, if◌then◌else◌, Bool, true, false, ℕ, ◌<◌, ◌≤◌, List, [], ◌∷◌, ◌++◌, length, map, refl, ap, sym, ◌∙◌, subst, ◌+◌, arith}
use Rattle.std.specs.List.{AllByRecursion}
use Rattle.std.proofs.Math.ListN.{get_or}
use Rattle.std.proofs.lemmas.Bool.{eq-eqb}
use Rattle.mc_signal.specs.declared.Tagged.{Tagged}
use Rattle.mc_box.specs.Boxes.{BoxState, no_box}
use Rattle.mc_box.specs.declared.event.Turn.{Turn}
use Rattle.mc_port.specs.Entries.{AreMade, Entry}
use Rattle.mc_port.specs.Tunnels.{log_sends}
use Rattle.mc_merge.specs.LaneLogs.{sent_to, taken_from, takings}
use Rattle.mc_merge.specs.Lanes.{FitsTunnel, into_box, leads_from, leads_to, out_of_box}
use Rattle.mc_merge.specs.Merging.{IsLogged}
use Rattle.mc_merge.proofs.Accounts.{Follows, follows}
use Rattle.mc_merge.proofs.Merging.{sent_own, taken_own}
use Rattle.mc_merge.proofs.MergedRuns.{Leads, NeverFalls, Placed, all_sent, all_taken, merged_runs, own, placed_turn}
use Rattle.mc_model.specs.Steps.{run}
use Rattle.mc_model.specs.Worlds.{WorldState, box_at}
use Rattle.mc_merge.specs.Logs.{Own, own_log}
use Rattle.mc_merge.specs.Order.{IsMerged, NeverFall, RunsInOrder, turns_of}
use Rattle.mc_merge.proofs.Later.{later_logs, logged_later, merged_later, no_clock, turns_later, whole_later}
use Rattle.mc_port.specs.declared.stamped.Stamped.{Stamped}

abbrev place : Own → Placed
place o = (o.who, o.entry)

-- ---- the same list

turns_same : (whole : List Own) → map placed_turn (map place whole) ≡ turns_of whole
turns_same [] = refl
turns_same (o ∷ whole) = ap (λ (l : List Turn). record { who = o.who; event = o.entry.event } ∷ l) (turns_same whole)

by_test : (test : Bool) (entry : Entry) (entries : List Entry) → (if test then entry ∷ entries else entries) ≡ (if test then entry ∷ [] else []) ++ entries
by_test true entry entries = refl
by_test false entry entries = refl

own_same : (whole : List Own) (who : ℕ) → own who (map place whole) ≡ own_log who whole
own_same [] who = refl
own_same (o ∷ whole) who =
    ap (λ (l : List Entry). if o.who == who then o.entry ∷ l else l) (own_same whole who) ∙ by_test (o.who == who) o.entry (own_log who whole)

later : (whole : List Own) (stamp : ℕ) → AllByRecursion (λ (o : Own). 0 + stamp ≤ 0 + o.entry.stamp) whole → AllByRecursion (λ (p : Placed). stamp ≤ p.1.stamp) (map place whole)
later [] stamp all = tt
later (o ∷ whole) stamp all = (let first : 0 + stamp ≤ 0 + o.entry.stamp = all.0 in omega arith, later whole stamp all.1)

never : (whole : List Own) → NeverFall no_clock whole → NeverFalls (map place whole)
never [] falls = tt
never (o ∷ whole) falls = (later whole o.entry.stamp falls.0, never whole falls.1)

below_all : (whole : List Own) (n m : ℕ) → n ≡ m → AllByRecursion (λ (o : Own). o.who < n) whole → AllByRecursion (λ (p : Placed). p.0 < m) (map place whole)
below_all [] n m same all = tt
below_all (o ∷ whole) n m same all = (subst (λ (k : ℕ). o.who < k) same all.0, below_all whole n m same all.1)

-- ---- what is taken fits

first_of : (test : Bool) (P : Entry → Type 0) (entry : Entry) (entries : List Entry) → test ≡ true → AllByRecursion P ((if test then entry ∷ [] else []) ++ entries) → P entry
first_of true P entry entries is all = all.0
first_of false P entry entries is all = absurd (cc)

rest_of : (test : Bool) (P : Entry → Type 0) (entry : Entry) (entries : List Entry) → AllByRecursion P ((if test then entry ∷ [] else []) ++ entries) → AllByRecursion P entries
rest_of true P entry entries all = all.1
rest_of false P entry entries all = all

abbrev Fits : WorldState → ℕ → Entry → Type 0
Fits world who entry = FitsTunnel world who entry.event entry.taken

fit_all : (whole : List Own) (world : WorldState) (n : ℕ) → ((who : ℕ) → who < n → AllByRecursion (Fits world who) (own_log who whole)) → AllByRecursion (λ (o : Own). o.who < n) whole
    → AllByRecursion (λ (p : Placed). FitsTunnel world p.0 p.1.event p.1.taken) (map place whole)
fit_all [] world n each here = tt
fit_all (o ∷ whole) world n each here = (
  first_of (o.who == o.who) (Fits world o.who) o.entry (own_log o.who whole) (eq-eqb o.who o.who refl) (each o.who here.0),
  fit_all whole world n (λ who inside. rest_of (o.who == who) (Fits world who) o.entry (own_log who whole) (each who inside)) here.1,
)

-- ---- all of it

leads : (world : WorldState) (logs : List (List Entry)) (whole : List Own) (boxes : List BoxState) (rests : List (List Tagged)) → IsLogged world logs boxes rests → IsMerged no_clock logs whole → Leads world (map place whole) boxes rests
leads world logs whole boxes rests logged merged =
    let is = λ (who : ℕ). own_same whole who ∙ merged.each who in
    record {
      each_lane = logged.each_lane;
      box_count = logged.box_count;
      lane_count = logged.lane_count;
      below = below_all whole (length logs) (length boxes) (logged.log_count ∙ sym logged.box_count) merged.here;
      fits = fit_all whole world (length logs)
          (λ who inside. subst (λ (l : List Entry). AllByRecursion (Fits world who) l) (sym (merged.each who)) (logged.tunnels who (subst (λ (n : ℕ). who < n) logged.log_count inside))) merged.here;
      rises = never whole merged.order;
      made = λ who inside.
          subst (λ (l : List Entry). AreMade (box_at world who) l (get_or boxes who no_box)) (sym (is who)) (logged.made who (subst (λ (n : ℕ). who < n) logged.box_count inside));
      follows = λ lane inside.
          let taken : all_taken world lane (map place whole) ≡ taken_from world logs lane =
          taken_own (map place whole) world lane ∙ ap (takings (into_box world (leads_to world lane) lane)) (is (leads_to world lane)) in
          let sent : all_sent world lane (map place whole) ≡ sent_to world logs lane =
          sent_own (map place whole) world lane ∙ ap (log_sends (out_of_box world (leads_from world lane) lane)) (is (leads_from world lane)) in
          subst (λ (l : List Stamped). Follows l (get_or world.lanes lane []) (all_sent world lane (map place whole)) (get_or rests lane [])) (sym taken)
          (subst (λ (l : List Stamped). Follows (taken_from world logs lane) (get_or world.lanes lane []) l (get_or rests lane [])) (sym sent)
          (follows (taken_from world logs lane) (get_or world.lanes lane []) (sent_to world logs lane) (get_or rests lane []) (logged.keeps lane (subst (λ (n : ℕ). lane < n) logged.lane_count inside))));
    }

pub runs_in_order : RunsInOrder
runs_in_order clock world logs whole boxes rests logged share merged =
    ap (run world) (sym (turns_same (whole_later clock whole) ∙ turns_later clock whole))
    ∙ merged_runs (map place (whole_later clock whole)) world boxes rests
    (leads world (later_logs clock logs) (whole_later clock whole) boxes rests (logged_later clock world logs boxes rests logged share) (merged_later clock logs whole merged))
