-- What a part does in two goes is what it does in one.
use Rattle.std.proofs.Common.{◌≡◌, ℕ, ◌<◌, ◌≤◌, List, ◌++◌, refl, ap, sym, ◌∙◌, subst, arith}
use Rattle.std.specs.List.{AllByRecursion}
use Rattle.mc_signal.specs.declared.Tagged.{Tagged}
use Rattle.mc_port.specs.Entries.{AreMade, Entry}
use Rattle.mc_port.specs.Tunnels.{log_sends}
use Rattle.mc_merge.specs.LaneLogs.{takings}
use Rattle.mc_merge.specs.Lanes.{FitsTunnel, into_box, leads_from, leads_to, out_of_box}
use Rattle.mc_model.specs.Worlds.{WorldState}
use Rattle.mc_merge.specs.Account.{PartsJoin, part_box, part_lane}
use Rattle.mc_merge.specs.Logs.{Own, own_log, sent_by, taken_by}
use Rattle.mc_merge.specs.Passing.{AllBefore, LanePasses}
use Rattle.mc_merge.proofs.Logs.{above_low, all_append, all_at, all_map, made_append, own_all, own_append, rising_append, rising_up, sends_all, sends_append, takings_all, takings_append, within_last}
use Rattle.mc_merge.proofs.Passing.{passes_join}
use Rattle.mc_port.specs.declared.stamped.Stamped.{Stamped}

-- ---- what is taken and sent

taken_append : (tables : WorldState) (log log_2 : List Own) (lane : ℕ) → taken_by tables (log ++ log_2) lane ≡ taken_by tables log lane ++ taken_by tables log_2 lane
taken_append tables log log_2 lane =
    ap (λ (l : List Entry). takings (into_box tables (leads_to tables lane) lane) l) (own_append (leads_to tables lane) log log_2)
    ∙ takings_append (into_box tables (leads_to tables lane) lane) (own_log (leads_to tables lane) log) (own_log (leads_to tables lane) log_2)

sent_append : (tables : WorldState) (log log_2 : List Own) (lane : ℕ) → sent_by tables (log ++ log_2) lane ≡ sent_by tables log lane ++ sent_by tables log_2 lane
sent_append tables log log_2 lane =
    ap (λ (l : List Entry). log_sends (out_of_box tables (leads_from tables lane) lane) l) (own_append (leads_from tables lane) log log_2)
    ∙ sends_append (out_of_box tables (leads_from tables lane) lane) (own_log (leads_from tables lane) log) (own_log (leads_from tables lane) log_2)

taken_all : (P : ℕ → Type 0) (tables : WorldState) (log : List Own) (lane : ℕ) → AllByRecursion (λ (own : Own). P own.entry.stamp) log → AllByRecursion (λ (item : Stamped). P item.stamp) (taken_by tables log lane)
taken_all P tables log lane all = takings_all P (into_box tables (leads_to tables lane) lane) (own_log (leads_to tables lane) log) (own_all P (leads_to tables lane) log all)

sent_all : (P : ℕ → Type 0) (tables : WorldState) (log : List Own) (lane : ℕ) → AllByRecursion (λ (own : Own). P own.entry.stamp) log → AllByRecursion (λ (item : Stamped). P item.stamp) (sent_by tables log lane)
sent_all P tables log lane all = sends_all P (out_of_box tables (leads_from tables lane) lane) (own_log (leads_from tables lane) log) (own_all P (leads_from tables lane) log all)

-- ---- bounds

-- all that came is within a number, and all that is taken is above it
parted : (bound : ℕ) (came taken : List Stamped) → AllByRecursion (λ (item : Stamped). item.stamp ≤ bound) came → AllByRecursion (λ (item : Stamped). bound < item.stamp) taken → AllBefore 0 came taken
parted bound came taken within above i k taking coming at_taken at_came =
    let one : bound < taking.stamp = all_at (λ (item : Stamped). bound < item.stamp) taken i taking above at_taken in
    let two : coming.stamp ≤ bound = all_at (λ (item : Stamped). item.stamp ≤ bound) came k coming within at_came in
    omega arith

-- or not below it
parted_loosely : (bound : ℕ) (came taken : List Stamped) → AllByRecursion (λ (item : Stamped). item.stamp ≤ bound) came → AllByRecursion (λ (item : Stamped). bound ≤ item.stamp) taken → AllBefore 1 came taken
parted_loosely bound came taken within above i k taking coming at_taken at_came =
    let one : bound ≤ taking.stamp = all_at (λ (item : Stamped). bound ≤ item.stamp) taken i taking above at_taken in
    let two : coming.stamp ≤ bound = all_at (λ (item : Stamped). item.stamp ≤ bound) came k coming within at_came in
    omega arith

less : (a b c : ℕ) → a ≤ b → b < c → a < c
less a b c one two = omega arith

more : (a b c : ℕ) → a ≤ b → b ≤ c → a ≤ c
more a b c one two = omega arith

-- ---- lanes

-- the lists of both goes, one after the other
both : (slack : ℕ) (a c : List Tagged) (taken came taken_is came_is : List Stamped) → taken_is ≡ taken → came_is ≡ came → LanePasses slack a taken came c → LanePasses slack a taken_is came_is c
both slack a c taken came taken_is came_is one two passes =
    subst (λ (l : List Stamped). LanePasses slack a taken_is l c) (sym two) (subst (λ (l : List Stamped). LanePasses slack a l came c) (sym one) passes)

pub parts_join : PartsJoin
parts_join tables a b c log log_2 gave gave_2 put put_2 one two = record {
  box_count = two.box_count ∙ one.box_count;
  lane_count = two.lane_count ∙ one.lane_count;
  made = λ who.
      subst (λ (l : List Entry). AreMade (part_box a who) l (part_box c who)) (sym (own_append who log log_2))
      (made_append (own_log who log) (own_log who log_2) (part_box a who) (part_box b who) (part_box c who) (one.made who) (two.made who));
  fits = λ who.
      subst (λ (l : List Entry). AllByRecursion (λ (entry : Entry). FitsTunnel tables who entry.event entry.taken) l) (sym (own_append who log log_2))
      (all_append (λ (entry : Entry). FitsTunnel tables who entry.event entry.taken) (own_log who log) (own_log who log_2) (one.fits who) (two.fits who));
  rising = rising_append log log_2 a.stamp b.stamp c.stamp one.rising two.rising;
  hears = all_append (λ (own : Own). a.heard < own.entry.stamp) log log_2 one.hears
      (all_map (λ (own : Own). b.heard < own.entry.stamp) (λ (own : Own). a.heard < own.entry.stamp) log_2 (λ own more. less a.heard b.heard own.entry.stamp one.heard more) two.hears);
  heard = more a.heard b.heard c.heard one.heard two.heard;
  came = λ lane. all_append (λ (item : Stamped). item.stamp ≤ c.heard) (gave lane) (gave_2 lane)
      (all_map (λ (item : Stamped). item.stamp ≤ b.heard) (λ (item : Stamped). item.stamp ≤ c.heard) (gave lane) (λ item least. more item.stamp b.heard c.heard least two.heard) (one.came lane)) (two.came lane);
  went = λ lane. all_append (λ (item : Stamped). a.stamp ≤ item.stamp) (put lane) (put_2 lane) (one.went lane)
      (all_map (λ (item : Stamped). b.stamp ≤ item.stamp) (λ (item : Stamped). a.stamp ≤ item.stamp) (put_2 lane) (λ item least. more a.stamp b.stamp item.stamp (rising_up log a.stamp b.stamp one.rising) least) (two.went lane));
  inner = λ lane inside from to.
      both 0 (part_lane a lane) (part_lane c lane) (taken_by tables log lane ++ taken_by tables log_2 lane) (sent_by tables log lane ++ sent_by tables log_2 lane)
      (taken_by tables (log ++ log_2) lane) (sent_by tables (log ++ log_2) lane) (taken_append tables log log_2 lane) (sent_append tables log log_2 lane)
      (passes_join 0 (part_lane a lane) (part_lane b lane) (part_lane c lane) (taken_by tables log lane) (sent_by tables log lane) (taken_by tables log_2 lane) (sent_by tables log_2 lane)
      (one.inner lane inside from to) (two.inner lane (subst (λ (n : ℕ). lane < n) (sym one.lane_count) inside) (subst (λ (n : ℕ). leads_from tables lane < n) (sym one.box_count) from) (subst (λ (n : ℕ). leads_to tables lane < n) (sym one.box_count) to))
      (parted b.stamp (sent_by tables log lane) (taken_by tables log_2 lane)
      (sent_all (λ (n : ℕ). n ≤ b.stamp) tables log lane (within_last log a.stamp b.stamp one.rising)) (taken_all (λ (n : ℕ). b.stamp < n) tables log_2 lane (above_low log_2 b.stamp c.stamp two.rising))));
  ins = λ lane inside from to.
      both 0 (part_lane a lane) (part_lane c lane) (taken_by tables log lane ++ taken_by tables log_2 lane) (gave lane ++ gave_2 lane)
      (taken_by tables (log ++ log_2) lane) (gave lane ++ gave_2 lane) (taken_append tables log log_2 lane) refl
      (passes_join 0 (part_lane a lane) (part_lane b lane) (part_lane c lane) (taken_by tables log lane) (gave lane) (taken_by tables log_2 lane) (gave_2 lane)
      (one.ins lane inside from to) (two.ins lane (subst (λ (n : ℕ). lane < n) (sym one.lane_count) inside) (subst (λ (n : ℕ). n ≤ leads_from tables lane) (sym one.box_count) from) (subst (λ (n : ℕ). leads_to tables lane < n) (sym one.box_count) to))
      (parted b.heard (gave lane) (taken_by tables log_2 lane) (one.came lane) (taken_all (λ (n : ℕ). b.heard < n) tables log_2 lane two.hears)));
  outs = λ lane inside from to.
      both 1 (part_lane a lane) (part_lane c lane) (put lane ++ put_2 lane) (sent_by tables log lane ++ sent_by tables log_2 lane)
      (put lane ++ put_2 lane) (sent_by tables (log ++ log_2) lane) refl (sent_append tables log log_2 lane)
      (passes_join 1 (part_lane a lane) (part_lane b lane) (part_lane c lane) (put lane) (sent_by tables log lane) (put_2 lane) (sent_by tables log_2 lane)
      (one.outs lane inside from to) (two.outs lane (subst (λ (n : ℕ). lane < n) (sym one.lane_count) inside) (subst (λ (n : ℕ). leads_from tables lane < n) (sym one.box_count) from) (subst (λ (n : ℕ). n ≤ leads_to tables lane) (sym one.box_count) to))
      (parted_loosely b.stamp (sent_by tables log lane) (put_2 lane)
      (sent_all (λ (n : ℕ). n ≤ b.stamp) tables log lane (within_last log a.stamp b.stamp one.rising)) (two.went lane)));
}
