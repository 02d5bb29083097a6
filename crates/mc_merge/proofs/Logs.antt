-- Logs of boxes within the log of their part.
use Rattle.std.proofs.Common.{◌≡◌, ◌==◌, if◌then◌else◌, Bool, true, false, ℕ, zero, suc, ◌<◌, ◌≤◌, List, [], ◌∷◌, ◌++◌, map, Option, Some, None, append_assoc, refl, ap, sym, ◌∙◌, subst, arith}
use Rattle.std.specs.List.{AllByRecursion, slice_get}
use Rattle.mc_signal.specs.declared.Signal.{Signal}
use Rattle.mc_signal.specs.declared.Tagged.{Tagged}
use Rattle.mc_box.specs.Boxes.{BoxState}
use Rattle.mc_port.specs.Entries.{AreMade, Entry, stamps_of}
use Rattle.mc_port.specs.Tunnels.{Tunnels, event_sends, event_takes, log_sends, sent_if}
use Rattle.mc_merge.specs.LaneLogs.{takings}
use Rattle.mc_order.specs.Keys.{Rise}
use Rattle.mc_merge.specs.Logs.{AreRising, Own, own_log}
use Rattle.mc_port.specs.Ends.{with_stamp}
use Rattle.mc_port.specs.declared.stamped.Stamped.{Stamped}

-- ---- all of a list

pub all_at : {X : Type 0} (P : X → Type 0) (xs : List X) (i : ℕ) (x : X) → AllByRecursion P xs → slice_get xs i ≡ Some x → P x
all_at P [] i x all at = absurd (cc)
all_at P (y ∷ xs) zero x all at =
    let same : y ≡ x = cc in
    subst P same all.0
all_at P (y ∷ xs) (suc i) x all at = all_at P xs i x all.1 at

pub all_append : {X : Type 0} (P : X → Type 0) (xs ys : List X) → AllByRecursion P xs → AllByRecursion P ys → AllByRecursion P (xs ++ ys)
all_append P [] ys all all_2 = all_2
all_append P (x ∷ xs) ys all all_2 = (all.0, all_append P xs ys all.1 all_2)

pub all_map : {X : Type 0} (P Q : X → Type 0) (xs : List X) → ((x : X) → P x → Q x) → AllByRecursion P xs → AllByRecursion Q xs
all_map P Q [] f all = tt
all_map P Q (x ∷ xs) f all = (f x all.0, all_map P Q xs f all.1)

-- ---- two goes

pub own_append : (who : ℕ) (log log_2 : List Own) → own_log who (log ++ log_2) ≡ own_log who log ++ own_log who log_2
own_append who [] log_2 = refl
own_append who (own ∷ log) log_2 =
    ap (λ (l : List Entry). (if own.who == who then own.entry ∷ [] else []) ++ l) (own_append who log log_2)
    ∙ sym (append_assoc (if own.who == who then own.entry ∷ [] else []) (own_log who log) (own_log who log_2))

pub takings_append : (tunnels : Tunnels) (entries entries_2 : List Entry) → takings tunnels (entries ++ entries_2) ≡ takings tunnels entries ++ takings tunnels entries_2
takings_append tunnels [] entries_2 = refl
takings_append tunnels (entry ∷ entries) entries_2 =
    ap (λ (l : List Stamped). map (with_stamp entry.stamp) (event_takes tunnels entry.event entry.taken) ++ l) (takings_append tunnels entries entries_2)
    ∙ sym (append_assoc (map (with_stamp entry.stamp) (event_takes tunnels entry.event entry.taken)) (takings tunnels entries) (takings tunnels entries_2))

pub sends_append : (tunnels : Tunnels) (entries entries_2 : List Entry) → log_sends tunnels (entries ++ entries_2) ≡ log_sends tunnels entries ++ log_sends tunnels entries_2
sends_append tunnels [] entries_2 = refl
sends_append tunnels (entry ∷ entries) entries_2 =
    ap (λ (l : List Stamped). event_sends tunnels entry.stamp entry.sent ++ l) (sends_append tunnels entries entries_2)
    ∙ sym (append_assoc (event_sends tunnels entry.stamp entry.sent) (log_sends tunnels entries) (log_sends tunnels entries_2))

pub made_append : (entries entries_2 : List Entry) (a b c : BoxState) → AreMade a entries b → AreMade b entries_2 c → AreMade a (entries ++ entries_2) c
made_append [] entries_2 a b c one two = subst (λ (x : BoxState). AreMade x entries_2 c) (sym one) two
made_append (entry ∷ entries) entries_2 a b c one two = (one.0, made_append entries entries_2 entry.after b c one.1 two)

-- ---- stamps

pub rising_up : (log : List Own) (low last : ℕ) → AreRising low log last → low ≤ last
rising_up [] low last rising = rising
rising_up (own ∷ log) low last rising =
    let first : low < own.entry.stamp = rising.0 in
    let rest : own.entry.stamp ≤ last = rising_up log own.entry.stamp last rising.1 in
    omega arith

lower : (log : List Own) (low lower_yet last : ℕ) → lower_yet ≤ low → AreRising low log last → AreRising lower_yet log last
lower [] low lower_yet last least rising =
    let up : low ≤ last = rising in
    omega arith
lower (own ∷ log) low lower_yet last least rising =
    let first : low < own.entry.stamp = rising.0 in
    let lowest : lower_yet < own.entry.stamp = omega arith in
    (lowest, rising.1)

pub rising_append : (log log_2 : List Own) (low middle last : ℕ) → AreRising low log middle → AreRising middle log_2 last → AreRising low (log ++ log_2) last
rising_append [] log_2 low middle last one two = lower log_2 middle low last one two
rising_append (own ∷ log) log_2 low middle last one two = (one.0, rising_append log log_2 own.entry.stamp middle last one.1 two)

above : (log : List Own) (low base last : ℕ) → base ≤ low → AreRising low log last → AllByRecursion (λ (own : Own). base < own.entry.stamp) log
above [] low base last least rising = tt
above (own ∷ log) low base last least rising =
    let first : low < own.entry.stamp = rising.0 in
    let here : base < own.entry.stamp = omega arith in
    (here, above log own.entry.stamp base last (omega arith) rising.1)

pub above_low : (log : List Own) (low last : ℕ) → AreRising low log last → AllByRecursion (λ (own : Own). low < own.entry.stamp) log
above_low log low last rising = above log low low last (omega arith) rising

pub within_last : (log : List Own) (low last : ℕ) → AreRising low log last → AllByRecursion (λ (own : Own). own.entry.stamp ≤ last) log
within_last [] low last rising = tt
within_last (own ∷ log) low last rising = (rising_up log own.entry.stamp last rising.1, within_last log own.entry.stamp last rising.1)

-- ---- what a property of all stamps says of one box

keep_one : (test : Bool) (P : ℕ → Type 0) (entry : Entry) (entries : List Entry) → P entry.stamp → AllByRecursion (λ (e : Entry). P e.stamp) entries
    → AllByRecursion (λ (e : Entry). P e.stamp) ((if test then entry ∷ [] else []) ++ entries)
keep_one true P entry entries here rest = (here, rest)
keep_one false P entry entries here rest = rest

pub own_all : (P : ℕ → Type 0) (who : ℕ) (log : List Own) → AllByRecursion (λ (own : Own). P own.entry.stamp) log → AllByRecursion (λ (entry : Entry). P entry.stamp) (own_log who log)
own_all P who [] all = tt
own_all P who (own ∷ log) all = keep_one (own.who == who) P own.entry (own_log who log) all.0 (own_all P who log all.1)

with_all : (P : ℕ → Type 0) (stamp : ℕ) (tagged : List Tagged) (rest : List Stamped) → P stamp → AllByRecursion (λ (item : Stamped). P item.stamp) rest
    → AllByRecursion (λ (item : Stamped). P item.stamp) (map (with_stamp stamp) tagged ++ rest)
with_all P stamp [] rest here all = all
with_all P stamp (first ∷ tagged) rest here all = (here, with_all P stamp tagged rest here all)

pub takings_all : (P : ℕ → Type 0) (tunnels : Tunnels) (entries : List Entry) → AllByRecursion (λ (entry : Entry). P entry.stamp) entries → AllByRecursion (λ (item : Stamped). P item.stamp) (takings tunnels entries)
takings_all P tunnels [] all = tt
takings_all P tunnels (entry ∷ entries) all = with_all P entry.stamp (event_takes tunnels entry.event entry.taken) (takings tunnels entries) all.0 (takings_all P tunnels entries all.1)

one_send : (P : ℕ → Type 0) (tunnel : Option ℕ) (stamp : ℕ) (signal : Signal) (rest : List Stamped) → P stamp → AllByRecursion (λ (item : Stamped). P item.stamp) rest
    → AllByRecursion (λ (item : Stamped). P item.stamp) (sent_if tunnel stamp signal ++ rest)
one_send P None stamp signal rest here all = all
one_send P (Some tunnel) stamp signal rest here all = (here, all)

event_all : (P : ℕ → Type 0) (tunnels : Tunnels) (stamp : ℕ) (sent : List (ℕ × Signal)) → P stamp → AllByRecursion (λ (item : Stamped). P item.stamp) (event_sends tunnels stamp sent)
event_all P tunnels stamp [] here = tt
event_all P tunnels stamp (sending ∷ sent) here = one_send P (tunnels sending.0) stamp sending.1 (event_sends tunnels stamp sent) here (event_all P tunnels stamp sent here)

pub sends_all : (P : ℕ → Type 0) (tunnels : Tunnels) (entries : List Entry) → AllByRecursion (λ (entry : Entry). P entry.stamp) entries → AllByRecursion (λ (item : Stamped). P item.stamp) (log_sends tunnels entries)
sends_all P tunnels [] all = tt
sends_all P tunnels (entry ∷ entries) all =
    all_append (λ (item : Stamped). P item.stamp) (event_sends tunnels entry.stamp entry.sent) (log_sends tunnels entries) (event_all P tunnels entry.stamp entry.sent all.0) (sends_all P tunnels entries all.1)

-- ---- they rise

stamps_all : (entries : List Entry) (P : ℕ → Type 0) → AllByRecursion (λ (e : Entry). P e.stamp) entries → AllByRecursion P (stamps_of entries)
stamps_all [] P all = tt
stamps_all (e ∷ entries) P all = (all.0, stamps_all entries P all.1)

rise_one : (test : Bool) (entry : Entry) (entries : List Entry) → AllByRecursion (λ (e : Entry). entry.stamp < e.stamp) entries → Rise (stamps_of entries) → Rise (stamps_of ((if test then entry ∷ [] else []) ++ entries))
rise_one true entry entries first rest = (stamps_all entries (λ (later : ℕ). entry.stamp < later) first, rest)
rise_one false entry entries first rest = rest

pub own_rise : (who : ℕ) (log : List Own) (low last : ℕ) → AreRising low log last → Rise (stamps_of (own_log who log))
own_rise who [] low last rising = tt
own_rise who (own ∷ log) low last rising =
    rise_one (own.who == who) own.entry (own_log who log)
    (own_all (λ (stamp : ℕ). own.entry.stamp < stamp) who log (above_low log own.entry.stamp last rising.1))
    (own_rise who log own.entry.stamp last rising.1)
