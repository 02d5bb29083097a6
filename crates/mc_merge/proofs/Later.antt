-- The clocks of boxes set later: where both ends of each lane have one clock, each lane keeps its order.
use Rattle.std.proofs.Common.{◌≡◌, ◌==◌, if◌then◌else◌, Bool, true, false, ℕ, zero, suc, ◌+◌, ◌<◌, ◌≤◌, List, [], ◌∷◌, ◌++◌, length, map, Option, Some, None, inl, inr, refl, ap, sym, ◌∙◌, subst, arith}
use Rattle.std.specs.List.{AllByRecursion, range_with_len, slice_get}
use Rattle.std.proofs.Math.ListN.{get_or}
use Rattle.std.proofs.lemmas.Bool.{cases_lt, eqb-true}
use Rattle.std.proofs.lemmas.List.{get_or_past, map-append}
use Rattle.std.proofs.lemmas.List.FromFn.{get_or-map-range_with_len, length-map-range_with_len}
use Rattle.mc_signal.specs.declared.Signal.{Signal}
use Rattle.mc_signal.specs.declared.Tagged.{Tagged}
use Rattle.mc_box.specs.Boxes.{BoxState, no_box}
use Rattle.mc_box.specs.declared.event.Turn.{Turn}
use Rattle.mc_port.specs.Entries.{AreMade, Entry, stamps_of}
use Rattle.mc_port.specs.Tunnels.{Tunnels, event_sends, event_takes, log_sends, sent_if}
use Rattle.mc_merge.specs.LaneLogs.{log_of, sent_to, taken_from, takings, without_stamps}
use Rattle.mc_merge.specs.Lanes.{FitsTunnel, into_box, leads_from, leads_to, out_of_box}
use Rattle.mc_merge.specs.Merging.{IsLogged, LaneKeeps}
use Rattle.mc_model.specs.Worlds.{WorldState, box_at}
use Rattle.mc_order.specs.Keys.{Rise}
use Rattle.mc_port.specs.Ends.{with_stamp}
use Rattle.mc_port.specs.declared.stamped.Stamped.{Stamped}
use Rattle.mc_merge.specs.Logs.{Own, own_log}
use Rattle.mc_merge.specs.Order.{IsMerged, NeverFall, ShareClocks, time_of, turns_of}

-- a clock that begins with the stamps
abbrev pub no_clock : ℕ → ℕ
no_clock who = 0

-- ---- one entry, and a log

abbrev later : ℕ → Entry → Entry
later time entry = record entry { stamp = time + entry.stamp }

abbrev later_log : ℕ → List Entry → List Entry
later_log time log = map (later time) log

abbrev later_item : ℕ → Stamped → Stamped
later_item time item = record item { stamp = time + item.stamp }

made_later : (time : ℕ) (log : List Entry) (box last : BoxState) → AreMade box log last → AreMade box (later_log time log) last
made_later time [] box last made = made
made_later time (entry ∷ log) box last made = (made.0, made_later time log entry.after last made.1)

above_later : (time stamp : ℕ) (log : List Entry) → AllByRecursion (λ (n : ℕ). stamp < n) (stamps_of log) → AllByRecursion (λ (n : ℕ). time + stamp < n) (stamps_of (later_log time log))
above_later time stamp [] all = tt
above_later time stamp (entry ∷ log) all = (let first : stamp < entry.stamp = all.0 in omega arith, above_later time stamp log all.1)

rise_later : (time : ℕ) (log : List Entry) → Rise (stamps_of log) → Rise (stamps_of (later_log time log))
rise_later time [] rise = tt
rise_later time (entry ∷ log) rise = (above_later time entry.stamp log rise.0, rise_later time log rise.1)

fits_later : (world : WorldState) (who time : ℕ) (log : List Entry) → AllByRecursion (λ (entry : Entry). FitsTunnel world who entry.event entry.taken) log
    → AllByRecursion (λ (entry : Entry). FitsTunnel world who entry.event entry.taken) (later_log time log)
fits_later world who time [] all = tt
fits_later world who time (entry ∷ log) all = (all.0, fits_later world who time log all.1)

-- ---- what it takes and sends

stamped_later : (time stamp : ℕ) (taken : List Tagged) → map (with_stamp (time + stamp)) taken ≡ map (later_item time) (map (with_stamp stamp) taken)
stamped_later time stamp [] = refl
stamped_later time stamp (tagged ∷ taken) = ap (λ (l : List Stamped). with_stamp (time + stamp) tagged ∷ l) (stamped_later time stamp taken)

takings_later : (time : ℕ) (tunnels : Tunnels) (log : List Entry) → takings tunnels (later_log time log) ≡ map (later_item time) (takings tunnels log)
takings_later time tunnels [] = refl
takings_later time tunnels (entry ∷ log) =
    let taken = event_takes tunnels entry.event entry.taken in
    ap (λ (l : List Stamped). l ++ takings tunnels (later_log time log)) (stamped_later time entry.stamp taken)
    ∙ (ap (λ (l : List Stamped). map (later_item time) (map (with_stamp entry.stamp) taken) ++ l) (takings_later time tunnels log)
    ∙ sym (map-append (later_item time) (map (with_stamp entry.stamp) taken) (takings tunnels log)))

sent_later : (time stamp : ℕ) (tunnel : Option ℕ) (signal : Signal) → sent_if tunnel (time + stamp) signal ≡ map (later_item time) (sent_if tunnel stamp signal)
sent_later time stamp None signal = refl
sent_later time stamp (Some tunnel) signal = refl

event_later : (time stamp : ℕ) (tunnels : Tunnels) (sent : List (ℕ × Signal)) → event_sends tunnels (time + stamp) sent ≡ map (later_item time) (event_sends tunnels stamp sent)
event_later time stamp tunnels [] = refl
event_later time stamp tunnels (sending ∷ sent) =
    ap (λ (l : List Stamped). l ++ event_sends tunnels (time + stamp) sent) (sent_later time stamp (tunnels sending.0) sending.1)
    ∙ (ap (λ (l : List Stamped). map (later_item time) (sent_if (tunnels sending.0) stamp sending.1) ++ l) (event_later time stamp tunnels sent)
    ∙ sym (map-append (later_item time) (sent_if (tunnels sending.0) stamp sending.1) (event_sends tunnels stamp sent)))

sends_later : (time : ℕ) (tunnels : Tunnels) (log : List Entry) → log_sends tunnels (later_log time log) ≡ map (later_item time) (log_sends tunnels log)
sends_later time tunnels [] = refl
sends_later time tunnels (entry ∷ log) =
    ap (λ (l : List Stamped). l ++ log_sends tunnels (later_log time log)) (event_later time entry.stamp tunnels entry.sent)
    ∙ (ap (λ (l : List Stamped). map (later_item time) (event_sends tunnels entry.stamp entry.sent) ++ l) (sends_later time tunnels log)
    ∙ sym (map-append (later_item time) (event_sends tunnels entry.stamp entry.sent) (log_sends tunnels log)))

-- ---- a lane

same_items : (time : ℕ) (items : List Stamped) → without_stamps (map (later_item time) items) ≡ without_stamps items
same_items time [] = refl
same_items time (item ∷ items) = ap (λ (l : List Tagged). record { tunnel = item.tunnel; signal = item.signal } ∷ l) (same_items time items)

-- an item of a list of later ones
record Was (time : ℕ) (items : List Stamped) (k : ℕ) (item : Stamped) : Type 0 where
  was : Stamped
  at : slice_get items k ≡ Some was
  is : item.stamp ≡ time + was.stamp

was_at : (time : ℕ) (items : List Stamped) (k : ℕ) (item : Stamped) → slice_get (map (later_item time) items) k ≡ Some item → Was time items k item
was_at time [] k item at = absurd (cc)
was_at time (first ∷ items) zero item at = record { was = first; at = refl; is = stamp_is (later_item time first) item at }
  where
    stamp_is : (a b : Stamped) → Some a ≡ Some b → b.stamp ≡ a.stamp
    stamp_is a b same = let is : a ≡ b = cc in ap (λ (i : Stamped). i.stamp) (sym is)
was_at time (first ∷ items) (suc k) item at =
    let more = was_at time items k item at in
    record { was = more.was; at = more.at; is = more.is }

lane_later : (time : ℕ) (lane : List Tagged) (taken sent : List Stamped) (rest : List Tagged) → LaneKeeps lane taken sent rest
    → LaneKeeps lane (map (later_item time) taken) (map (later_item time) sent) rest
lane_later time lane taken sent rest keeps = record {
  order = ap (λ (l : List Tagged). l ++ rest) (same_items time taken) ∙ (keeps.order ∙ ap (λ (l : List Tagged). lane ++ l) (sym (same_items time sent)));
  later = λ j k taking sending is at_taken at_sent.
      let one = was_at time taken j taking at_taken in
      let two = was_at time sent k sending at_sent in
      let below : two.was.stamp < one.was.stamp = keeps.later j k one.was two.was is one.at two.at in
      let is_one : taking.stamp ≡ time + one.was.stamp = one.is in
      let is_two : sending.stamp ≡ time + two.was.stamp = two.is in
      omega arith;
}

-- ---- all logs

abbrev pub later_logs : (ℕ → ℕ) → List (List Entry) → List (List Entry)
later_logs clock logs = map (λ (who : ℕ). later_log (clock who) (log_of logs who)) (range_with_len 0 (length logs))

log_later : (clock : ℕ → ℕ) (logs : List (List Entry)) (who : ℕ) → log_of (later_logs clock logs) who ≡ later_log (clock who) (log_of logs who)
log_later clock logs who = elim (cases_lt who (length logs)) [
  | inl inside ↦ get_or-map-range_with_len (λ (n : ℕ). later_log (clock n) (log_of logs n)) 0 (length logs) who who [] inside (omega arith)
  | inr past ↦
      get_or_past (later_logs clock logs) who [] (subst (λ (n : ℕ). n ≤ who) (sym (length-map-range_with_len (λ (n : ℕ). later_log (clock n) (log_of logs n)) 0 (length logs))) past)
      ∙ sym (ap (later_log (clock who)) (get_or_past logs who [] past))
]

pub logged_later : (clock : ℕ → ℕ) (world : WorldState) (logs : List (List Entry)) (boxes : List BoxState) (rests : List (List Tagged)) → IsLogged world logs boxes rests → ShareClocks world clock
    → IsLogged world (later_logs clock logs) boxes rests
logged_later clock world logs boxes rests logged share =
    let is = log_later clock logs in
    record {
      each_lane = logged.each_lane;
      log_count = length-map-range_with_len (λ (n : ℕ). later_log (clock n) (log_of logs n)) 0 (length logs) ∙ logged.log_count;
      box_count = logged.box_count;
      lane_count = logged.lane_count;
      made = λ who inside. subst (λ (l : List Entry). AreMade (box_at world who) l (get_or boxes who no_box)) (sym (is who))
          (made_later (clock who) (log_of logs who) (box_at world who) (get_or boxes who no_box) (logged.made who inside));
      rise = λ who inside. subst (λ (l : List Entry). Rise (stamps_of l)) (sym (is who)) (rise_later (clock who) (log_of logs who) (logged.rise who inside));
      tunnels = λ who inside. subst (λ (l : List Entry). AllByRecursion (λ (entry : Entry). FitsTunnel world who entry.event entry.taken) l) (sym (is who))
          (fits_later world who (clock who) (log_of logs who) (logged.tunnels who inside));
      keeps = λ lane inside.
          let to : ℕ = leads_to world lane in
          let from : ℕ = leads_from world lane in
          let taken : taken_from world (later_logs clock logs) lane ≡ map (later_item (clock to)) (taken_from world logs lane) =
          ap (takings (into_box world to lane)) (is to) ∙ takings_later (clock to) (into_box world to lane) (log_of logs to) in
          let sent : sent_to world (later_logs clock logs) lane ≡ map (later_item (clock to)) (sent_to world logs lane) =
          ap (log_sends (out_of_box world from lane)) (is from) ∙ (sends_later (clock from) (out_of_box world from lane) (log_of logs from)
          ∙ ap (λ (n : ℕ). map (later_item n) (sent_to world logs lane)) (share lane inside)) in
          subst (λ (l : List Stamped). LaneKeeps (get_or world.lanes lane []) l (sent_to world (later_logs clock logs) lane) (get_or rests lane [])) (sym taken)
          (subst (λ (l : List Stamped). LaneKeeps (get_or world.lanes lane []) (map (later_item (clock to)) (taken_from world logs lane)) l (get_or rests lane [])) (sym sent)
          (lane_later (clock to) (get_or world.lanes lane []) (taken_from world logs lane) (sent_to world logs lane) (get_or rests lane []) (logged.keeps lane inside)));
    }

-- ---- one list of all

abbrev later_own : (ℕ → ℕ) → Own → Own
later_own clock own = record { who = own.who; entry = later (clock own.who) own.entry }

abbrev pub whole_later : (ℕ → ℕ) → List Own → List Own
whole_later clock whole = map (later_own clock) whole

pub turns_later : (clock : ℕ → ℕ) (whole : List Own) → turns_of (whole_later clock whole) ≡ turns_of whole
turns_later clock [] = refl
turns_later clock (own ∷ whole) = ap (λ (l : List Turn). record { who = own.who; event = own.entry.event } ∷ l) (turns_later clock whole)

one_later : (test : Bool) (clock : ℕ → ℕ) (own : Own) (who : ℕ) (rest : List Entry) → (test ≡ true → own.who ≡ who)
    → (if test then later (clock own.who) own.entry ∷ [] else []) ++ later_log (clock who) rest ≡ later_log (clock who) ((if test then own.entry ∷ [] else []) ++ rest)
one_later true clock own who rest is = ap (λ (n : ℕ). later (clock n) own.entry ∷ later_log (clock who) rest) (is refl)
one_later false clock own who rest is = refl

own_later : (clock : ℕ → ℕ) (whole : List Own) (who : ℕ) → own_log who (whole_later clock whole) ≡ later_log (clock who) (own_log who whole)
own_later clock [] who = refl
own_later clock (own ∷ whole) who =
    ap (λ (l : List Entry). (if own.who == who then later (clock own.who) own.entry ∷ [] else []) ++ l) (own_later clock whole who)
    ∙ one_later (own.who == who) clock own who (own_log who whole) (λ is. eqb-true own.who who is)

here_later : (clock : ℕ → ℕ) (whole : List Own) (count count_2 : ℕ) → count ≡ count_2 → AllByRecursion (λ (own : Own). own.who < count) whole → AllByRecursion (λ (own : Own). own.who < count_2) (whole_later clock whole)
here_later clock [] count count_2 same all = tt
here_later clock (own ∷ whole) count count_2 same all = (subst (λ (n : ℕ). own.who < n) same all.0, here_later clock whole count count_2 same all.1)

times_later : (clock : ℕ → ℕ) (time : ℕ) (whole : List Own) → AllByRecursion (λ (own : Own). time ≤ time_of clock own) whole → AllByRecursion (λ (own : Own). 0 + time ≤ time_of no_clock own) (whole_later clock whole)
times_later clock time [] all = tt
times_later clock time (own ∷ whole) all = (let first : time ≤ clock own.who + own.entry.stamp = all.0 in omega arith, times_later clock time whole all.1)

order_later : (clock : ℕ → ℕ) (whole : List Own) → NeverFall clock whole → NeverFall no_clock (whole_later clock whole)
order_later clock [] falls = tt
order_later clock (own ∷ whole) falls = (times_later clock (time_of clock own) whole falls.0, order_later clock whole falls.1)

pub merged_later : (clock : ℕ → ℕ) (logs : List (List Entry)) (whole : List Own) → IsMerged clock logs whole → IsMerged no_clock (later_logs clock logs) (whole_later clock whole)
merged_later clock logs whole merged = record {
  each = λ who. own_later clock whole who ∙ (ap (later_log (clock who)) (merged.each who) ∙ sym (log_later clock logs who));
  here = here_later clock whole (length logs) (length (later_logs clock logs)) (sym (length-map-range_with_len (λ (n : ℕ). later_log (clock n) (log_of logs n)) 0 (length logs))) merged.here;
  order = order_later clock whole merged.order;
}
