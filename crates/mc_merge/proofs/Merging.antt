-- The logs of all boxes, in the order of their keys, are such entries.
use Rattle.std.proofs.Common.{◌≡◌, ◌==◌, ◌+◌, ◌<◌, ◌≤◌, if◌then◌else◌, inl, inr, ℕ, zero, suc, Bool, true, false, cond, List, [], ◌∷◌, ◌++◌, length, map, get_or, append_assoc, length-append, refl, ap, sym, ◌∙◌, subst, arith}
use Rattle.std.specs.List.{AllByRecursion, filter}
use Rattle.std.proofs.lemmas.Bool.{cases_eq, cases_lt}
use Rattle.std.proofs.lemmas.List.{get_or_at}
use Rattle.mc_signal.specs.declared.Tagged.{Tagged}
use Rattle.mc_box.specs.Boxes.{BoxState, no_box}
use Rattle.mc_box.specs.declared.event.Turn.{Turn}
use Rattle.mc_order.specs.Keys.{IsOrdered, OwnOrder, Rise, is_key_of, keys_of, stamps_at}
use Rattle.mc_order.specs.declared.Key.{Key}
use Rattle.mc_order.proofs.Orders.{Names, NeverFall, all_named, ordered_stamps, own_order}
use Rattle.mc_order.specs.OneOrder.{order_of}
use Rattle.mc_order.proofs.Inserting.{order_is_one}
use Rattle.mc_laws.specs.Sendings.{sent_on}
use Rattle.mc_laws.proofs.StepKeeps.{run_keeps_sound}
use Rattle.mc_model.specs.Steps.{run}
use Rattle.mc_model.specs.Worlds.{WorldState, box_at}
use Rattle.mc_port.specs.Tunnels.{event_sends, log_sends}
use Rattle.mc_merge.specs.LaneLogs.{log_of, sent_to, taken_from, takings}
use Rattle.mc_merge.specs.Lanes.{FitsTunnel, into_box, leads_from, leads_to, out_of_box}
use Rattle.mc_merge.specs.Merging.{IsLogged, MergeKeepsSound, MergeLaw, entry_at, merged, turn_at}
use Rattle.mc_merge.proofs.Accounts.{Follows, follows}
use Rattle.mc_merge.proofs.EntrySteps.{takes_from}
use Rattle.mc_merge.proofs.LaneEnds.{sends_nothing, takes_nothing}
use Rattle.mc_merge.proofs.LaneSends.{sends_are}
use Rattle.mc_merge.proofs.MergedRuns.{Leads, NeverFalls, Placed, all_sent, all_taken, merged_runs, own, own_else, own_here, placed_turn}
use Rattle.mc_port.specs.Entries.{Entry, AreMade, no_entry, stamps_of}
use Rattle.mc_port.specs.Ends.{with_stamp}
use Rattle.mc_port.specs.declared.stamped.Stamped.{Stamped}

abbrev pub placed_at : List (List Entry) → Key → Placed
placed_at logs key = (key.who, entry_at logs key)

pub turns_same : (logs : List (List Entry)) (keys : List Key) → map placed_turn (map (placed_at logs) keys) ≡ merged logs keys
turns_same logs [] = refl
turns_same logs (key ∷ keys) = ap (λ (turns : List Turn). turn_at logs key ∷ turns) (turns_same logs keys)

-- ---- the stamps of logs

stamps_same : (logs : List (List Entry)) (who : ℕ) → stamps_at (map stamps_of logs) who ≡ stamps_of (log_of logs who)
stamps_same [] who = refl
stamps_same (log ∷ logs) zero = refl
stamps_same (log ∷ logs) (suc who) = stamps_same logs who

stamp_read : (log : List Entry) (i : ℕ) → get_or (stamps_of log) i 0 ≡ (get_or log i no_entry).stamp
stamp_read [] i = refl
stamp_read (entry ∷ log) zero = refl
stamp_read (entry ∷ log) (suc i) = stamp_read log i

log_lengths : (logs : List (List Entry)) → length (map stamps_of logs) ≡ length logs
log_lengths [] = refl
log_lengths (log ∷ logs) = ap suc (log_lengths logs)

past_log : (logs : List (List Entry)) (who : ℕ) → length logs ≤ who → log_of logs who ≡ []
past_log [] who past = refl
past_log (log ∷ logs) zero past = absurd (omega arith)
past_log (log ∷ logs) (suc who) past = past_log logs who (omega arith)

pub all_rise : (logs : List (List Entry)) (count : ℕ) → length logs ≡ count → ((who : ℕ) → who < count → Rise (stamps_of (log_of logs who))) → (who : ℕ) → Rise (stamps_at (map stamps_of logs) who)
all_rise logs count long rise who =
    subst (λ (l : List ℕ). Rise l) (sym (stamps_same logs who))
    (elim (cases_lt who count) [
      | inl below ↦ rise who below
      | inr past ↦ subst (λ (l : List Entry). Rise (stamps_of l)) (sym (past_log logs who (subst (λ (n : ℕ). n ≤ who) (sym long) past))) tt
    ])

-- ---- the entries of a box

own_by : (who : ℕ) (here : Bool) (entry : Entry) (more : List Entry) (logs : List (List Entry)) (key : Key) (kept : List Key) → entry_at logs key ≡ entry → more ≡ map (entry_at logs) kept
    → (if here then entry ∷ more else more) ≡ map (entry_at logs) (cond here (key ∷ kept) kept)
own_by who true entry more logs key kept is same = ap (λ (e : Entry). e ∷ more) (sym is) ∙ ap (λ (l : List Entry). entry_at logs key ∷ l) same
own_by who false entry more logs key kept is same = same

own_mapped : (logs : List (List Entry)) (who : ℕ) (keys : List Key) → own who (map (placed_at logs) keys) ≡ map (entry_at logs) (filter (is_key_of who) keys)
own_mapped logs who [] = refl
own_mapped logs who (key ∷ keys) = own_by who (key.who == who) (entry_at logs key) (own who (map (placed_at logs) keys)) logs key (filter (is_key_of who) keys) refl (own_mapped logs who keys)

entries_back : (logs : List (List Entry)) (who index : ℕ) (front rest : List Entry) → log_of logs who ≡ front ++ rest → length front ≡ index → map (entry_at logs) (keys_of who index (stamps_of rest)) ≡ rest
entries_back logs who index front [] is long = refl
entries_back logs who index front (entry ∷ rest) is long =
    let here : get_or (log_of logs who) index no_entry ≡ entry = ap (λ (l : List Entry). get_or l index no_entry) is ∙ get_or_at front entry rest no_entry index long in
    ap (λ (e : Entry). e ∷ map (entry_at logs) (keys_of who (index + 1) (stamps_of rest))) here
    ∙ ap (λ (l : List Entry). entry ∷ l)
    (entries_back logs who (index + 1) (front ++ entry ∷ []) rest (is ∙ sym (append_assoc front (entry ∷ []) rest)) (length-append front (entry ∷ []) ∙ ap (λ (n : ℕ). n + 1) long))

pub own_is : (logs : List (List Entry)) (keys : List Key) → OwnOrder (map stamps_of logs) keys → (who : ℕ) → own who (map (placed_at logs) keys) ≡ log_of logs who
own_is logs keys order who =
    own_mapped logs who keys
    ∙ (ap (map (entry_at logs)) (order who)
    ∙ (ap (λ (l : List ℕ). map (entry_at logs) (keys_of who 0 l)) (stamps_same logs who)
    ∙ entries_back logs who 0 [] (log_of logs who) refl refl))

-- ---- what holds of each entry

fits_read : (world : WorldState) (who : ℕ) (log : List Entry) (i : ℕ) → AllByRecursion (λ (entry : Entry). FitsTunnel world who entry.event entry.taken) log
    → FitsTunnel world who (get_or log i no_entry).event (get_or log i no_entry).taken
fits_read world who [] i all = tt
fits_read world who (entry ∷ log) zero all = all.0
fits_read world who (entry ∷ log) (suc i) all = fits_read world who log i all.1

-- of each key's entry
record Reads (world : WorldState) (logs : List (List Entry)) (boxes : List BoxState) (key : Key) : Type 0 where
  below : key.who < length boxes
  fits : FitsTunnel world key.who (entry_at logs key).event (entry_at logs key).taken
  stamp : (entry_at logs key).stamp ≡ key.stamp

reads_one : (world : WorldState) (logs : List (List Entry)) (boxes : List BoxState) (rests : List (List Tagged)) (key : Key) → IsLogged world logs boxes rests → Names (map stamps_of logs) key
    → Reads world logs boxes key
reads_one world logs boxes rests key logged names =
    let there : key.who < length world.boxes = subst (λ (n : ℕ). key.who < n) (log_lengths logs ∙ logged.log_count) names.who in
    record {
      below = subst (λ (n : ℕ). key.who < n) (sym logged.box_count) there;
      fits = fits_read world key.who (log_of logs key.who) key.index (logged.tunnels key.who there);
      stamp = sym (stamp_read (log_of logs key.who) key.index) ∙ (ap (λ (l : List ℕ). get_or l key.index 0) (sym (stamps_same logs key.who)) ∙ names.stamp);
    }

reads_all : (world : WorldState) (logs : List (List Entry)) (boxes : List BoxState) (rests : List (List Tagged)) (keys : List Key) → IsLogged world logs boxes rests
    → AllByRecursion (Names (map stamps_of logs)) keys → AllByRecursion (Reads world logs boxes) keys
reads_all world logs boxes rests [] logged names = tt
reads_all world logs boxes rests (key ∷ keys) logged names = (reads_one world logs boxes rests key logged names.0, reads_all world logs boxes rests keys logged names.1)

all_below : (world : WorldState) (logs : List (List Entry)) (boxes : List BoxState) (keys : List Key) → AllByRecursion (Reads world logs boxes) keys
    → AllByRecursion (λ (placed : Placed). placed.0 < length boxes) (map (placed_at logs) keys)
all_below world logs boxes [] reads = tt
all_below world logs boxes (key ∷ keys) reads = (reads.0.below, all_below world logs boxes keys reads.1)

all_fit : (world : WorldState) (logs : List (List Entry)) (boxes : List BoxState) (keys : List Key) → AllByRecursion (Reads world logs boxes) keys
    → AllByRecursion (λ (placed : Placed). FitsTunnel world placed.0 placed.1.event placed.1.taken) (map (placed_at logs) keys)
all_fit world logs boxes [] reads = tt
all_fit world logs boxes (key ∷ keys) reads = (reads.0.fits, all_fit world logs boxes keys reads.1)

later_all : (world : WorldState) (logs : List (List Entry)) (boxes : List BoxState) (key : Key) (keys : List Key) → Reads world logs boxes key → AllByRecursion (Reads world logs boxes) keys
    → AllByRecursion (λ (later : Key). key.stamp ≤ later.stamp) keys → AllByRecursion (λ (later : Placed). (entry_at logs key).stamp ≤ later.1.stamp) (map (placed_at logs) keys)
later_all world logs boxes key [] one reads late = tt
later_all world logs boxes key (first ∷ keys) one reads late =
    let low : key.stamp ≤ first.stamp = late.0 in
    let here : (entry_at logs key).stamp ≡ key.stamp = one.stamp in
    let there : (entry_at logs first).stamp ≡ first.stamp = reads.0.stamp in
    (subst (λ (n : ℕ). (entry_at logs key).stamp ≤ n) (sym there) (subst (λ (n : ℕ). n ≤ first.stamp) (sym here) low), later_all world logs boxes key keys one reads.1 late.1)

never_falls : (world : WorldState) (logs : List (List Entry)) (boxes : List BoxState) (keys : List Key) → AllByRecursion (Reads world logs boxes) keys → NeverFall keys → NeverFalls (map (placed_at logs) keys)
never_falls world logs boxes [] reads late = tt
never_falls world logs boxes (key ∷ keys) reads late = (later_all world logs boxes key keys reads.0 reads.1 late.0, never_falls world logs boxes keys reads.1 late.1)

-- ---- what is taken from a lane, and sent into it

pub taken_own : (entries : List Placed) (world : WorldState) (lane : ℕ) → all_taken world lane entries ≡ takings (into_box world (leads_to world lane) lane) (own (leads_to world lane) entries)
taken_own [] world lane = refl
taken_own (placed ∷ rest) world lane = elim (cases_eq placed.0 (leads_to world lane)) [
  | inl is ↦
      ap (λ (who : ℕ). map (with_stamp placed.1.stamp) (takes_from world lane who placed.1.event placed.1.taken) ++ all_taken world lane rest) is
      ∙ (ap (λ (l : List Stamped). map (with_stamp placed.1.stamp) (takes_from world lane (leads_to world lane) placed.1.event placed.1.taken) ++ l) (taken_own rest world lane)
      ∙ ap (takings (into_box world (leads_to world lane) lane)) (sym (own_here (leads_to world lane) placed rest is)))
  | inr away ↦
      ap (λ (l : List Tagged). map (with_stamp placed.1.stamp) l ++ all_taken world lane rest) (takes_nothing placed.1.event placed.1.taken world lane placed.0 (λ same. away (sym same)))
      ∙ (taken_own rest world lane ∙ ap (takings (into_box world (leads_to world lane) lane)) (sym (own_else (leads_to world lane) placed rest away)))
]

pub sent_own : (entries : List Placed) (world : WorldState) (lane : ℕ) → all_sent world lane entries ≡ log_sends (out_of_box world (leads_from world lane) lane) (own (leads_from world lane) entries)
sent_own [] world lane = refl
sent_own (placed ∷ rest) world lane = elim (cases_eq placed.0 (leads_from world lane)) [
  | inl is ↦
      ap (λ (who : ℕ). map (with_stamp placed.1.stamp) (sent_on world who lane placed.1.sent) ++ all_sent world lane rest) is
      ∙ (ap (λ (l : List Stamped). l ++ all_sent world lane rest) (sends_are placed.1.sent world lane (leads_from world lane) placed.1.stamp)
      ∙ (ap (λ (l : List Stamped). event_sends (out_of_box world (leads_from world lane) lane) placed.1.stamp placed.1.sent ++ l) (sent_own rest world lane)
      ∙ ap (log_sends (out_of_box world (leads_from world lane) lane)) (sym (own_here (leads_from world lane) placed rest is))))
  | inr away ↦
      ap (λ (l : List Tagged). map (with_stamp placed.1.stamp) l ++ all_sent world lane rest) (sends_nothing placed.1.sent world lane placed.0 (λ same. away (sym same)))
      ∙ (sent_own rest world lane ∙ ap (log_sends (out_of_box world (leads_from world lane) lane)) (sym (own_else (leads_from world lane) placed rest away)))
]

-- ---- all together

leads : (world : WorldState) (logs : List (List Entry)) (keys : List Key) (boxes : List BoxState) (rests : List (List Tagged)) → IsLogged world logs boxes rests → IsOrdered (map stamps_of logs) keys
    → Leads world (map (placed_at logs) keys) boxes rests
leads world logs keys boxes rests logged ordered =
    let order : OwnOrder (map stamps_of logs) keys = own_order (map stamps_of logs) keys ordered (all_rise logs (length world.boxes) logged.log_count logged.rise) in
    let reads = reads_all world logs boxes rests keys logged (all_named (map stamps_of logs) keys ordered) in
    record {
      each_lane = logged.each_lane;
      box_count = logged.box_count;
      lane_count = logged.lane_count;
      below = all_below world logs boxes keys reads;
      fits = all_fit world logs boxes keys reads;
      rises = never_falls world logs boxes keys reads (ordered_stamps (map stamps_of logs) keys ordered);
      made = λ who inside.
          subst (λ (l : List Entry). AreMade (box_at world who) l (get_or boxes who no_box)) (sym (own_is logs keys order who))
          (logged.made who (subst (λ (n : ℕ). who < n) logged.box_count inside));
      follows = λ lane inside.
          let taken : all_taken world lane (map (placed_at logs) keys) ≡ taken_from world logs lane =
          taken_own (map (placed_at logs) keys) world lane ∙ ap (takings (into_box world (leads_to world lane) lane)) (own_is logs keys order (leads_to world lane)) in
          let sent : all_sent world lane (map (placed_at logs) keys) ≡ sent_to world logs lane =
          sent_own (map (placed_at logs) keys) world lane ∙ ap (log_sends (out_of_box world (leads_from world lane) lane)) (own_is logs keys order (leads_from world lane)) in
          subst (λ (l : List Stamped). Follows l (get_or world.lanes lane []) (all_sent world lane (map (placed_at logs) keys)) (get_or rests lane [])) (sym taken)
          (subst (λ (l : List Stamped). Follows (taken_from world logs lane) (get_or world.lanes lane []) l (get_or rests lane [])) (sym sent)
          (follows (taken_from world logs lane) (get_or world.lanes lane []) (sent_to world logs lane) (get_or rests lane []) (logged.keeps lane (subst (λ (n : ℕ). lane < n) logged.lane_count inside))));
    }

pub merge_law : MergeLaw
merge_law world logs keys boxes rests logged ordered =
    ap (run world) (sym (turns_same logs keys)) ∙ merged_runs (map (placed_at logs) keys) world boxes rests (leads world logs keys boxes rests logged ordered)

-- there is an order of any stamps
pub merge_keeps_sound : MergeKeepsSound
merge_keeps_sound world logs boxes rests logged sound =
    run_keeps_sound world (record world { boxes = boxes; lanes = rests }) (merged logs (order_of (map stamps_of logs))) sound
    (merge_law world logs (order_of (map stamps_of logs)) boxes rests logged (order_is_one (map stamps_of logs)).is)
