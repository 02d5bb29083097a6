-- How many signals boxes send and take by their logs, and how many are under way.
use Rattle.std.proofs.Common.{◌≡◌, ◌≢◌, ℕ, ◌+◌, ◌==◌, ◌<◌, ◌++◌, Bool, true, false, if◌then◌else◌, Option, Some, None, IsSome, List, [], ◌∷◌, length, map, get_or, refl, sym, ◌∙◌, ap, subst, arith, length-append}
use Rattle.std.specs.List.{AllByRecursion}
use Rattle.std.specs.Option.{option_map}
use Rattle.std.proofs.lemmas.Bool.{both_ways, eq-eqb, ne_eqb}
use Rattle.std.proofs.lemmas.List.{length-map}
use Rattle.mc_signal.specs.declared.Signal.{Signal}
use Rattle.mc_signal.specs.declared.Tagged.{Tagged}
use Rattle.mc_box.specs.BoxEvents.{BoxStep, box_event, is_enabled, is_take}
use Rattle.mc_box.specs.Boxes.{BoxState}
use Rattle.mc_box.specs.declared.event.Event.{Event}
use Rattle.mc_box.specs.declared.event.Event.TheVariants.{Take, Set, Media, Tell, Retry, Shift}
use Rattle.mc_laws.proofs.ActedWorlds.{far_inside}
use Rattle.mc_laws.proofs.LanesKept.{lane_in}
use Rattle.mc_laws.proofs.Numbers.{number_is}
use Rattle.mc_laws.proofs.Sums.{total_plus, total_swap, total_zero}
use Rattle.mc_port.specs.Entries.{AreMade, Claimed, Entry, count_sent, entries_of, events_that, signal_in}
use Rattle.mc_port.specs.Tunnels.{event_sends, event_takes, log_sends, log_takes, sent_if, taken_if, tunnel_if_at}
use Rattle.mc_merge.proofs.Claims.{logs_at}
use Rattle.mc_merge.proofs.LaneBoxes.{lanes_have_boxes}
use Rattle.mc_merge.proofs.LaneEnds.{sends_nothing, takes_nothing}
use Rattle.mc_merge.proofs.LaneSends.{sends_are}
use Rattle.mc_live.specs.Counts.{HaveNumbers, SignalsCount}
use Rattle.mc_merge.specs.LaneLogs.{claimed_of, claims_from, logs_of, sent_to}
use Rattle.mc_merge.specs.Lanes.{FitsTunnel, into_box, lane_place, leads_from, leads_to, out_of_box}
use Rattle.mc_model.specs.Sound.{IsNumbered}
use Rattle.mc_model.specs.Worlds.{AreChannels, WorldState, far, lane_of, number, tunnel_of}
use Rattle.mc_port.specs.Ends.{with_stamp}
use Rattle.mc_port.specs.declared.stamped.Stamped.{Stamped}
use Rattle.mc_slot_laws.proofs.Sums.{total_one, total_same}
use Rattle.mc_slot_laws.specs.Sums.{total}

-- ---- sums

-- of a function that is nothing but at one number
pub only_at : (f : ℕ → ℕ) (k s : ℕ) → s < k → ((t : ℕ) → t < k → t ≢ s → f t ≡ 0) → total f k ≡ f s
only_at f k s below none =
    let one = total_one f (λ (t : ℕ). 0) k s below none in
    omega (arith, one, total_zero k)

abbrev one_if : Bool → ℕ
one_if true = 1
one_if false = 0

-- one number is one
one_number : (k s : ℕ) → s < k → total (λ (t : ℕ). one_if (s == t)) k ≡ 1
one_number k s below =
    only_at (λ (t : ℕ). one_if (s == t)) k s below (λ t inside apart. ap one_if (ne_eqb s t (λ same. apart (sym same)))) ∙ ap one_if (eq-eqb s s refl)

-- ---- what is sent

sent_length : (here : Bool) (tunnel stamp : ℕ) (signal : Signal) → length (sent_if (if here then Some tunnel else None) stamp signal) ≡ one_if here
sent_length true tunnel stamp signal = refl
sent_length false tunnel stamp signal = refl

-- a signal goes into one lane
sends_one : (found : Option ℕ) (world : WorldState) (lanes stamp : ℕ) (signal : Signal) → ((s : ℕ) → found ≡ Some s → lane_of world (far s) < lanes) → IsSome found
    → total (λ (lane : ℕ). length (sent_if (tunnel_if_at lane (option_map (λ s. lane_place world (far s)) found)) stamp signal)) lanes ≡ 1
sends_one None world lanes stamp signal inside some = absurd (cc)
sends_one (Some s) world lanes stamp signal inside some =
    total_same (λ (lane : ℕ). length (sent_if (tunnel_if_at lane (Some (lane_place world (far s)))) stamp signal)) (λ (lane : ℕ). one_if (lane_of world (far s) == lane)) lanes
    (λ lane below. sent_length (lane_of world (far s) == lane) (tunnel_of world (far s)).within stamp signal)
    ∙ one_number lanes (lane_of world (far s)) (inside s refl)

-- where the lanes are those of the channels
lane_inside : (world : WorldState) (who local s : ℕ) → IsNumbered world → number world who local ≡ Some s → lane_of world (far s) < length world.lanes
lane_inside world who local s numbered is =
    subst (λ (n : ℕ). lane_of world (far s) < n) (sym numbered.lanes) (lane_in world (far s) (far_inside world s (number_is world who local s is).0))

sends_entry : (sent : List (ℕ × Signal)) (world : WorldState) (who stamp : ℕ) → IsNumbered world → AllByRecursion (λ sending. IsSome (number world who sending.0)) sent
    → total (λ (lane : ℕ). length (event_sends (out_of_box world who lane) stamp sent)) (length world.lanes) ≡ length sent
sends_entry [] world who stamp numbered all = total_zero (length world.lanes)
sends_entry (sending ∷ sent) world who stamp numbered all =
    let first = sends_one (number world who sending.0) world (length world.lanes) stamp sending.1 (λ s is. lane_inside world who sending.0 s numbered is) all.0 in
    let rest = sends_entry sent world who stamp numbered all.1 in
    let parts : total (λ (lane : ℕ). length (event_sends (out_of_box world who lane) stamp (sending ∷ sent))) (length world.lanes)
    ≡ total (λ (lane : ℕ). length (sent_if (out_of_box world who lane sending.0) stamp sending.1) + length (event_sends (out_of_box world who lane) stamp sent)) (length world.lanes) =
    total_same (λ (lane : ℕ). length (event_sends (out_of_box world who lane) stamp (sending ∷ sent))) (λ (lane : ℕ). length (sent_if (out_of_box world who lane sending.0) stamp sending.1) + length (event_sends (out_of_box world who lane) stamp sent)) (length world.lanes)
    (λ lane below. length-append (sent_if (out_of_box world who lane sending.0) stamp sending.1) (event_sends (out_of_box world who lane) stamp sent)) in
    let sum = total_plus (λ (lane : ℕ). length (sent_if (out_of_box world who lane sending.0) stamp sending.1)) (λ (lane : ℕ). length (event_sends (out_of_box world who lane) stamp sent)) (length world.lanes) in
    omega (arith, parts, sum, first, rest)

sends_log : (log : List Claimed) (world : WorldState) (who : ℕ) → IsNumbered world → AllByRecursion (λ entry. AllByRecursion (λ sending. IsSome (number world who sending.0)) entry.sent) (entries_of log)
    → total (λ (lane : ℕ). length (log_sends (out_of_box world who lane) (entries_of log))) (length world.lanes) ≡ count_sent log
sends_log [] world who numbered all = total_zero (length world.lanes)
sends_log (claimed ∷ log) world who numbered all =
    let entry : Entry = claimed.entry in
    let first = sends_entry entry.sent world who entry.stamp numbered all.0 in
    let rest = sends_log log world who numbered all.1 in
    let parts : total (λ (lane : ℕ). length (log_sends (out_of_box world who lane) (entries_of (claimed ∷ log)))) (length world.lanes)
    ≡ total (λ (lane : ℕ). length (event_sends (out_of_box world who lane) entry.stamp entry.sent) + length (log_sends (out_of_box world who lane) (entries_of log))) (length world.lanes) =
    total_same (λ (lane : ℕ). length (log_sends (out_of_box world who lane) (entries_of (claimed ∷ log)))) (λ (lane : ℕ). length (event_sends (out_of_box world who lane) entry.stamp entry.sent) + length (log_sends (out_of_box world who lane) (entries_of log))) (length world.lanes)
    (λ lane below. length-append (event_sends (out_of_box world who lane) entry.stamp entry.sent) (log_sends (out_of_box world who lane) (entries_of log))) in
    let sum = total_plus (λ (lane : ℕ). length (event_sends (out_of_box world who lane) entry.stamp entry.sent)) (λ (lane : ℕ). length (log_sends (out_of_box world who lane) (entries_of log))) (length world.lanes) in
    omega (arith, parts, sum, first, rest)

-- only the box at its beginning sends into a lane
sends_else : (entries : List Entry) (world : WorldState) (lane who : ℕ) → leads_from world lane ≢ who → log_sends (out_of_box world who lane) entries ≡ []
sends_else [] world lane who apart = refl
sends_else (entry ∷ entries) world lane who apart =
    ap (λ (l : List Stamped). l ++ log_sends (out_of_box world who lane) entries) (sym (sends_are entry.sent world lane who entry.stamp) ∙ ap (map (with_stamp entry.stamp)) (sends_nothing entry.sent world lane who apart))
    ∙ sends_else entries world lane who apart

-- so all that is sent into lanes is what the boxes send
all_sent : (world : WorldState) (logs : List (List Claimed)) → IsNumbered world → AreChannels world.channels → HaveNumbers world logs
    → total (λ (lane : ℕ). length (sent_to world (logs_of logs) lane)) (length world.lanes) ≡ total (λ (who : ℕ). count_sent (claimed_of logs who)) (length world.boxes)
all_sent world logs numbered channels have =
    let by : ℕ → ℕ → ℕ = λ (lane who : ℕ). length (log_sends (out_of_box world who lane) (entries_of (claimed_of logs who))) in
    total_same (λ (lane : ℕ). length (sent_to world (logs_of logs) lane)) (λ (lane : ℕ). total (by lane) (length world.boxes)) (length world.lanes)
    (λ lane below.
    ap (λ (l : List Entry). length (log_sends (out_of_box world (leads_from world lane) lane) l)) (logs_at logs (leads_from world lane))
    ∙ sym (only_at (by lane) (length world.boxes) (leads_from world lane) (lanes_have_boxes world lane numbered channels below).sender
    (λ who inside apart. ap (λ (l : List Stamped). length l) (sends_else (entries_of (claimed_of logs who)) world lane who (λ same. apart (sym same))))))
    ∙ (total_swap by (length world.lanes) (length world.boxes)
    ∙ total_same (λ (who : ℕ). total (λ (lane : ℕ). by lane who) (length world.lanes)) (λ (who : ℕ). count_sent (claimed_of logs who)) (length world.boxes)
    (λ who inside. sends_log (claimed_of logs who) world who numbered (have who inside)))

-- ---- what is taken

taken_length : (here : Bool) (tunnel : ℕ) (tagged : Tagged) → length (taken_if (if here then Some tunnel else None) tagged) ≡ one_if here
taken_length true tunnel tagged = refl
taken_length false tunnel tagged = refl

-- a signal comes from one lane
takes_one : (found : Option ℕ) (world : WorldState) (lanes : ℕ) (tagged : Tagged) → ((s : ℕ) → found ≡ Some s → lane_of world s < lanes) → option_map (λ s. (tunnel_of world s).within) found ≡ Some tagged.tunnel
    → total (λ (lane : ℕ). length (taken_if (tunnel_if_at lane (option_map (λ s. lane_place world s) found)) tagged)) lanes ≡ 1
takes_one None world lanes tagged inside some = absurd (cc)
takes_one (Some s) world lanes tagged inside some =
    total_same (λ (lane : ℕ). length (taken_if (tunnel_if_at lane (Some (lane_place world s))) tagged)) (λ (lane : ℕ). one_if (lane_of world s == lane)) lanes
    (λ lane below. taken_length (lane_of world s == lane) (tunnel_of world s).within tagged)
    ∙ one_number lanes (lane_of world s) (inside s refl)

own_inside : (world : WorldState) (who local s : ℕ) → IsNumbered world → number world who local ≡ Some s → lane_of world s < length world.lanes
own_inside world who local s numbered is = subst (λ (n : ℕ). lane_of world s < n) (sym numbered.lanes) (lane_in world s (number_is world who local s is).0)

-- an entry takes something just where it is a Take
abbrev TakesSome : Claimed → Type 0
TakesSome claimed = is_take claimed.entry.event ≡ true → IsSome claimed.entry.taken

takes_event : (event : Event) (taken : Option Tagged) (world : WorldState) (who : ℕ) → IsNumbered world → FitsTunnel world who event taken → (is_take event ≡ true → IsSome taken)
    → total (λ (lane : ℕ). length (event_takes (into_box world who lane) event taken)) (length world.lanes) ≡ one_if (is_take event)
takes_event (Take local) None world who numbered fits some = absurd (both_ways false refl (some refl))
takes_event (Take local) (Some tagged) world who numbered fits some = takes_one (number world who local) world (length world.lanes) tagged (λ s is. own_inside world who local s numbered is) fits
takes_event (Set change) None world who numbered fits some = total_zero (length world.lanes)
takes_event (Set change) (Some tagged) world who numbered fits some = total_zero (length world.lanes)
takes_event (Media change) None world who numbered fits some = total_zero (length world.lanes)
takes_event (Media change) (Some tagged) world who numbered fits some = total_zero (length world.lanes)
takes_event (Tell word) None world who numbered fits some = total_zero (length world.lanes)
takes_event (Tell word) (Some tagged) world who numbered fits some = total_zero (length world.lanes)
takes_event (Retry local) None world who numbered fits some = total_zero (length world.lanes)
takes_event (Retry local) (Some tagged) world who numbered fits some = total_zero (length world.lanes)
takes_event Shift None world who numbered fits some = total_zero (length world.lanes)
takes_event Shift (Some tagged) world who numbered fits some = total_zero (length world.lanes)

one_length : (here : Bool) (event : Event) → length (if here then event ∷ [] else []) ≡ one_if here
one_length true event = refl
one_length false event = refl

takes_log : (log : List Claimed) (world : WorldState) (who : ℕ) → IsNumbered world → AllByRecursion (λ claimed. FitsTunnel world who claimed.entry.event claimed.entry.taken) log → AllByRecursion TakesSome log
    → total (λ (lane : ℕ). length (log_takes (into_box world who lane) log)) (length world.lanes) ≡ length (events_that is_take log)
takes_log [] world who numbered fits some = total_zero (length world.lanes)
takes_log (claimed ∷ log) world who numbered fits some =
    let entry : Entry = claimed.entry in
    let here : ℕ → List Stamped = λ (lane : ℕ). map (with_stamp claimed.claim) (event_takes (into_box world who lane) entry.event entry.taken) in
    let first = takes_event entry.event entry.taken world who numbered fits.0 some.0 in
    let rest = takes_log log world who numbered fits.1 some.1 in
    let parts : total (λ (lane : ℕ). length (log_takes (into_box world who lane) (claimed ∷ log))) (length world.lanes)
    ≡ total (λ (lane : ℕ). length (event_takes (into_box world who lane) entry.event entry.taken) + length (log_takes (into_box world who lane) log)) (length world.lanes) =
    total_same (λ (lane : ℕ). length (log_takes (into_box world who lane) (claimed ∷ log))) (λ (lane : ℕ). length (event_takes (into_box world who lane) entry.event entry.taken) + length (log_takes (into_box world who lane) log)) (length world.lanes)
    (λ lane below. length-append (here lane) (log_takes (into_box world who lane) log)
    ∙ ap (λ (n : ℕ). n + length (log_takes (into_box world who lane) log)) (length-map (event_takes (into_box world who lane) entry.event entry.taken) (with_stamp claimed.claim))) in
    let sum = total_plus (λ (lane : ℕ). length (event_takes (into_box world who lane) entry.event entry.taken)) (λ (lane : ℕ). length (log_takes (into_box world who lane) log)) (length world.lanes) in
    let one : length (if is_take entry.event then entry.event ∷ [] else []) ≡ one_if (is_take entry.event) = one_length (is_take entry.event) entry.event in
    let events : length (events_that is_take (claimed ∷ log)) ≡ length (if is_take entry.event then entry.event ∷ [] else []) + length (events_that is_take log) =
    length-append (if is_take entry.event then entry.event ∷ [] else []) (events_that is_take log) in
    omega (arith, parts, sum, first, rest, one, events)

-- only the box at its end takes from a lane
takes_else : (log : List Claimed) (world : WorldState) (lane who : ℕ) → leads_to world lane ≢ who → log_takes (into_box world who lane) log ≡ []
takes_else [] world lane who apart = refl
takes_else (claimed ∷ log) world lane who apart =
    ap (λ (l : List Tagged). map (with_stamp claimed.claim) l ++ log_takes (into_box world who lane) log) (takes_nothing claimed.entry.event claimed.entry.taken world lane who apart)
    ∙ takes_else log world lane who apart

all_taken : (world : WorldState) (logs : List (List Claimed)) → IsNumbered world → AreChannels world.channels
    → ((who : ℕ) → who < length world.boxes → AllByRecursion (λ claimed. FitsTunnel world who claimed.entry.event claimed.entry.taken) (claimed_of logs who))
    → ((who : ℕ) → who < length world.boxes → AllByRecursion TakesSome (claimed_of logs who))
    → total (λ (lane : ℕ). length (claims_from world logs lane)) (length world.lanes) ≡ total (λ (who : ℕ). length (events_that is_take (claimed_of logs who))) (length world.boxes)
all_taken world logs numbered channels fits some =
    let by : ℕ → ℕ → ℕ = λ (lane who : ℕ). length (log_takes (into_box world who lane) (claimed_of logs who)) in
    total_same (λ (lane : ℕ). length (claims_from world logs lane)) (λ (lane : ℕ). total (by lane) (length world.boxes)) (length world.lanes)
    (λ lane below.
    sym (only_at (by lane) (length world.boxes) (leads_to world lane) (lanes_have_boxes world lane numbered channels below).taker
    (λ who inside apart. ap (λ (l : List Stamped). length l) (takes_else (claimed_of logs who) world lane who (λ same. apart (sym same))))))
    ∙ (total_swap by (length world.lanes) (length world.boxes)
    ∙ total_same (λ (who : ℕ). total (λ (lane : ℕ). by lane who) (length world.lanes)) (λ (who : ℕ). length (events_that is_take (claimed_of logs who))) (length world.boxes)
    (λ who inside. takes_log (claimed_of logs who) world who numbered (fits who inside) (some who inside)))

-- ---- what the entries of a box take

none_both : (b : Bool) (step : BoxStep) → (if b then None else None) ≡ Some step → ⊥
none_both true step is = cc
none_both false step is = cc

takes_by : (event : Event) (taken : Option Tagged) (box : BoxState) (step : BoxStep) → box_event box event (signal_in taken) ≡ Some step → is_take event ≡ true → IsSome taken
takes_by event (Some tagged) box step made is = refl
takes_by (Take local) None box step made is = absurd (none_both (is_enabled box (Take local)) step made)
takes_by (Set change) None box step made is = absurd (cc)
takes_by (Media change) None box step made is = absurd (cc)
takes_by (Tell word) None box step made is = absurd (cc)
takes_by (Retry local) None box step made is = absurd (cc)
takes_by Shift None box step made is = absurd (cc)

made_takes : (log : List Claimed) (box last : BoxState) → AreMade box (entries_of log) last → AllByRecursion TakesSome log
made_takes [] box last made = tt
made_takes (claimed ∷ log) box last made = (takes_by claimed.entry.event claimed.entry.taken box (record { sent = claimed.entry.sent; after = claimed.entry.after }) made.0, made_takes log claimed.entry.after last made.1)

-- ---- the law

pub signals_count : SignalsCount
signals_count world logs boxes rests claimed numbered channels have =
    let sent = all_sent world logs numbered channels have in
    let taken = all_taken world logs numbered channels claimed.tunnels (λ who inside. made_takes (claimed_of logs who) _ _ (claimed.made who inside)) in
    let first : ℕ → ℕ = λ (lane : ℕ). length (claims_from world logs lane) in
    let rest : ℕ → ℕ = λ (lane : ℕ). length (get_or rests lane []) in
    let before : ℕ → ℕ = λ (lane : ℕ). length (get_or world.lanes lane []) in
    let later : ℕ → ℕ = λ (lane : ℕ). length (sent_to world (logs_of logs) lane) in
    let same : total (λ (lane : ℕ). first lane + rest lane) (length world.lanes) ≡ total (λ (lane : ℕ). before lane + later lane) (length world.lanes) =
    total_same (λ (lane : ℕ). first lane + rest lane) (λ (lane : ℕ). before lane + later lane) (length world.lanes)
    (λ lane below.
    sym (length-append (claims_from world logs lane) (get_or rests lane []))
    ∙ (ap (λ (l : List Stamped). length l) (claimed.keeps lane below)
    ∙ (length-append (map (with_stamp 0) (get_or world.lanes lane [])) (sent_to world (logs_of logs) lane)
    ∙ ap (λ (n : ℕ). n + later lane) (length-map (get_or world.lanes lane []) (with_stamp 0))))) in
    let left = total_plus first rest (length world.lanes) in
    let right = total_plus before later (length world.lanes) in
    omega (arith, sent, taken, same, left, right)
