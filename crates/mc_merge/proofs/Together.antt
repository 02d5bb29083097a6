-- Parts that together are a world have logged what the merge law asks for.
use Rattle.std.proofs.Common.{◌≡◌, inl, inr, ℕ, ◌+◌, ◌<◌, List, [], ◌∷◌, ◌++◌, map, Option, Some, None, refl, ap, sym, ◌∙◌, subst, arith}
use Rattle.std.specs.List.{AllByRecursion}
use Rattle.std.proofs.Math.ListN.{get_or}
use Rattle.mc_signal.specs.declared.Signal.{Signal}
use Rattle.mc_signal.specs.declared.Tagged.{Tagged}
use Rattle.mc_box.specs.Boxes.{BoxState, no_box}
use Rattle.mc_box.specs.declared.event.Event.{Event}
use Rattle.mc_box.specs.declared.event.Event.TheVariants.{Take, Set, Media, Tell, Retry, Shift}
use Rattle.mc_port.specs.Entries.{AreMade, Entry, stamps_of}
use Rattle.mc_port.specs.Tunnels.{Tunnels, event_sends, event_takes, log_sends, sent_if, taken_if}
use Rattle.mc_merge.specs.LaneLogs.{log_of, sent_to, taken_from, takings, without_stamps}
use Rattle.mc_merge.specs.Lanes.{FitsTunnel, into_box, leads_from, leads_to, out_of_box, tunnel_at}
use Rattle.mc_merge.specs.Merging.{LaneKeeps}
use Rattle.mc_model.specs.Worlds.{WorldState, box_at}
use Rattle.mc_order.specs.Keys.{Rise}
use Rattle.mc_merge.specs.Account.{part_box, part_lane}
use Rattle.mc_merge.specs.Logs.{own_log, sent_by, taken_by}
use Rattle.mc_merge.specs.Passing.{LanePasses}
use Rattle.mc_merge.specs.Together.{Crosses, Homes, IsInner, PartsAreLogged, Ran, Sends, Takes}
use Rattle.mc_merge.proofs.Logs.{own_rise}
use Rattle.mc_merge.proofs.Passing.{lanes_meet}
use Rattle.mc_port.specs.Ends.{with_stamp}
use Rattle.mc_port.specs.declared.stamped.Stamped.{Stamped}

-- ---- tunnels that agree

event_same : (event : Event) (taken : Option Tagged) (tunnels other : Tunnels) → ((local : ℕ) → tunnels local ≡ other local) → event_takes tunnels event taken ≡ event_takes other event taken
event_same event None tunnels other same = refl
event_same (Take local) (Some tagged) tunnels other same = ap (λ (o : Option ℕ). taken_if o tagged) (same local)
event_same (Set change) (Some tagged) tunnels other same = refl
event_same (Media change) (Some tagged) tunnels other same = refl
event_same (Tell word) (Some tagged) tunnels other same = refl
event_same (Retry local) (Some tagged) tunnels other same = refl
event_same Shift (Some tagged) tunnels other same = refl

takings_same : (entries : List Entry) (tunnels other : Tunnels) → ((local : ℕ) → tunnels local ≡ other local) → takings tunnels entries ≡ takings other entries
takings_same [] tunnels other same = refl
takings_same (entry ∷ entries) tunnels other same =
    ap (λ (l : List Tagged). map (with_stamp entry.stamp) l ++ takings tunnels entries) (event_same entry.event entry.taken tunnels other same)
    ∙ ap (λ (l : List Stamped). map (with_stamp entry.stamp) (event_takes other entry.event entry.taken) ++ l) (takings_same entries tunnels other same)

one_same : (sent : List (ℕ × Signal)) (tunnels other : Tunnels) (stamp : ℕ) → ((local : ℕ) → tunnels local ≡ other local) → event_sends tunnels stamp sent ≡ event_sends other stamp sent
one_same [] tunnels other stamp same = refl
one_same (sending ∷ sent) tunnels other stamp same =
    ap (λ (o : Option ℕ). sent_if o stamp sending.1 ++ event_sends tunnels stamp sent) (same sending.0)
    ∙ ap (λ (l : List Stamped). sent_if (other sending.0) stamp sending.1 ++ l) (one_same sent tunnels other stamp same)

sends_same : (entries : List Entry) (tunnels other : Tunnels) → ((local : ℕ) → tunnels local ≡ other local) → log_sends tunnels entries ≡ log_sends other entries
sends_same [] tunnels other same = refl
sends_same (entry ∷ entries) tunnels other same =
    ap (λ (l : List Stamped). l ++ log_sends tunnels entries) (one_same entry.sent tunnels other entry.stamp same)
    ∙ ap (λ (l : List Stamped). event_sends other entry.stamp entry.sent ++ l) (sends_same entries tunnels other same)

fits_one : (event : Event) (taken : Option Tagged) (tables world : WorldState) (at who : ℕ) → ((local : ℕ) → tunnel_at tables at local ≡ tunnel_at world who local) → FitsTunnel tables at event taken → FitsTunnel world who event taken
fits_one event None tables world at who same fits = tt
fits_one (Take local) (Some tagged) tables world at who same fits = sym (same local) ∙ fits
fits_one (Set change) (Some tagged) tables world at who same fits = tt
fits_one (Media change) (Some tagged) tables world at who same fits = tt
fits_one (Tell word) (Some tagged) tables world at who same fits = tt
fits_one (Retry local) (Some tagged) tables world at who same fits = tt
fits_one Shift (Some tagged) tables world at who same fits = tt

fits_all : (entries : List Entry) (tables world : WorldState) (at who : ℕ) → ((local : ℕ) → tunnel_at tables at local ≡ tunnel_at world who local)
    → AllByRecursion (λ (entry : Entry). FitsTunnel tables at entry.event entry.taken) entries → AllByRecursion (λ (entry : Entry). FitsTunnel world who entry.event entry.taken) entries
fits_all [] tables world at who same fits = tt
fits_all (entry ∷ entries) tables world at who same fits = (fits_one entry.event entry.taken tables world at who same fits.0, fits_all entries tables world at who same fits.1)

-- ---- lanes of the world and of its parts

abbrev LogsAre : Homes → (ℕ → Ran) → List (List Entry) → Type 0
LogsAre homes parts logs = (who : ℕ) → log_of logs who ≡ own_log (homes who).1 (parts (homes who).0).log

log_there : (homes : Homes) (parts : ℕ → Ran) (logs : List (List Entry)) (who part at : ℕ) → LogsAre homes parts logs → homes who ≡ (part, at) → log_of logs who ≡ own_log at (parts part).log
log_there homes parts logs who part at are home = are who ∙ ap (λ (h : ℕ × ℕ). own_log h.1 (parts h.0).log) home

taken_is : (world : WorldState) (homes : Homes) (parts : ℕ → Ran) (logs : List (List Entry)) (lane part at : ℕ) → LogsAre homes parts logs → Takes world homes parts lane part at
    → taken_from world logs lane ≡ taken_by (parts part).tables (parts part).log at
taken_is world homes parts logs lane part at are takes =
    ap (λ (l : List Entry). takings (into_box world (leads_to world lane) lane) l) (log_there homes parts logs (leads_to world lane) part (leads_to (parts part).tables at) are takes.home)
    ∙ sym (takings_same (own_log (leads_to (parts part).tables at) (parts part).log) (into_box (parts part).tables (leads_to (parts part).tables at) at) (into_box world (leads_to world lane) lane) takes.tunnels)

sent_is : (world : WorldState) (homes : Homes) (parts : ℕ → Ran) (logs : List (List Entry)) (lane part at : ℕ) → LogsAre homes parts logs → Sends world homes parts lane part at
    → sent_to world logs lane ≡ sent_by (parts part).tables (parts part).log at
sent_is world homes parts logs lane part at are sends =
    ap (λ (l : List Entry). log_sends (out_of_box world (leads_from world lane) lane) l) (log_there homes parts logs (leads_from world lane) part (leads_from (parts part).tables at) are sends.home)
    ∙ sym (sends_same (own_log (leads_from (parts part).tables at) (parts part).log) (out_of_box (parts part).tables (leads_from (parts part).tables at) at) (out_of_box world (leads_from world lane) lane) sends.tunnels)

without_slack : (a : List Tagged) (taken came : List Stamped) (b : List Tagged) → LanePasses 0 a taken came b → LaneKeeps a taken came b
without_slack a taken came b passes = record {
  order = passes.order;
  later = λ j k taking coming at at_taken at_came.
      let is : coming.stamp < taking.stamp + 0 = passes.later j k taking coming at at_taken at_came in
      omega arith;
}

kept_as : (a a_is b b_is : List Tagged) (taken taken_is sent sent_is : List Stamped) → a ≡ a_is → taken_is ≡ taken → sent_is ≡ sent → b_is ≡ b → LaneKeeps a taken sent b → LaneKeeps a_is taken_is sent_is b_is
kept_as a a_is b b_is taken taken_is sent sent_is one two three four keeps =
    subst (λ (l : List Tagged). LaneKeeps l taken_is sent_is b_is) one
    (subst (λ (l : List Stamped). LaneKeeps a l sent_is b_is) (sym two)
    (subst (λ (l : List Stamped). LaneKeeps a taken l b_is) (sym three)
    (subst (λ (l : List Tagged). LaneKeeps a taken sent l) (sym four) keeps)))

inner_keeps : (world : WorldState) (homes : Homes) (parts : ℕ → Ran) (logs : List (List Entry)) (lane : ℕ) (rest : List Tagged) → LogsAre homes parts logs → IsInner world homes parts lane rest
    → LaneKeeps (get_or world.lanes lane []) (taken_from world logs lane) (sent_to world logs lane) rest
inner_keeps world homes parts logs lane rest are is =
    kept_as (part_lane (parts is.part).old is.at) (get_or world.lanes lane []) (part_lane (parts is.part).new is.at) rest
    (taken_by (parts is.part).tables (parts is.part).log is.at) (taken_from world logs lane) (sent_by (parts is.part).tables (parts is.part).log is.at) (sent_to world logs lane)
    is.takes.waiting (taken_is world homes parts logs lane is.part is.at are is.takes) (sent_is world homes parts logs lane is.part is.at are is.sends) is.rest_is
    (without_slack (part_lane (parts is.part).old is.at) (taken_by (parts is.part).tables (parts is.part).log is.at) (sent_by (parts is.part).tables (parts is.part).log is.at) (part_lane (parts is.part).new is.at)
    (is.takes.work.inner is.at is.takes.there is.sends.here is.takes.here))

crossing_keeps : (world : WorldState) (homes : Homes) (parts : ℕ → Ran) (logs : List (List Entry)) (lane : ℕ) (rest : List Tagged) → LogsAre homes parts logs → Crosses world homes parts lane rest
    → LaneKeeps (get_or world.lanes lane []) (taken_from world logs lane) (sent_to world logs lane) rest
crossing_keeps world homes parts logs lane rest are is =
    let goes : LanePasses 1 (part_lane (parts is.from).old is.outer) ((parts is.from).put is.outer) (sent_by (parts is.from).tables (parts is.from).log is.outer) (part_lane (parts is.from).new is.outer) =
    is.sends.work.outs is.outer is.sends.there is.sends.here is.away in
    kept_as (part_lane (parts is.to).old is.inner) (get_or world.lanes lane []) (part_lane (parts is.to).new is.inner ++ (without_stamps is.left ++ part_lane (parts is.from).new is.outer)) rest
    (taken_by (parts is.to).tables (parts is.to).log is.inner) (taken_from world logs lane) (sent_by (parts is.from).tables (parts is.from).log is.outer) (sent_to world logs lane)
    is.takes.waiting (taken_is world homes parts logs lane is.to is.inner are is.takes) (sent_is world homes parts logs lane is.from is.outer are is.sends) is.rest_is
    (lanes_meet (part_lane (parts is.to).old is.inner) (part_lane (parts is.to).new is.inner) (part_lane (parts is.from).new is.outer)
    (taken_by (parts is.to).tables (parts is.to).log is.inner) ((parts is.to).gave is.inner) is.left ((parts is.from).put is.outer) (sent_by (parts is.from).tables (parts is.from).log is.outer)
    (is.takes.work.ins is.inner is.takes.there is.off is.takes.here) is.ring
    (subst (λ (l : List Tagged). LanePasses 1 l ((parts is.from).put is.outer) (sent_by (parts is.from).tables (parts is.from).log is.outer) (part_lane (parts is.from).new is.outer)) is.empty goes))

-- ---- all of it

pub parts_are_logged : PartsAreLogged
parts_are_logged world homes parts logs boxes rests are = record {
  each_lane = are.each_lane;
  log_count = are.log_count;
  box_count = are.box_count;
  lane_count = are.lane_count;
  made = λ who inside.
      let stands = are.stand who inside in
      let ran = parts (homes who).0 in
      subst (λ (l : List Entry). AreMade (box_at world who) l (get_or boxes who no_box)) (sym (are.logs_are who))
      (subst (λ (b : BoxState). AreMade b (own_log (homes who).1 ran.log) (get_or boxes who no_box)) stands.before
      (subst (λ (b : BoxState). AreMade (part_box ran.old (homes who).1) (own_log (homes who).1 ran.log) b) stands.after (stands.work.made (homes who).1)));
  rise = λ who inside.
      let stands = are.stand who inside in
      let ran = parts (homes who).0 in
      subst (λ (l : List Entry). Rise (stamps_of l)) (sym (are.logs_are who)) (own_rise (homes who).1 ran.log ran.old.stamp ran.new.stamp stands.work.rising);
  tunnels = λ who inside.
      let stands = are.stand who inside in
      let ran = parts (homes who).0 in
      subst (λ (l : List Entry). AllByRecursion (λ (entry : Entry). FitsTunnel world who entry.event entry.taken) l) (sym (are.logs_are who))
      (fits_all (own_log (homes who).1 ran.log) ran.tables world (homes who).1 who stands.tunnels (stands.work.fits (homes who).1));
  keeps = λ lane inside. elim (are.carry lane inside) [
    | inl one ↦ inner_keeps world homes parts logs lane (get_or rests lane []) are.logs_are one
    | inr one ↦ crossing_keeps world homes parts logs lane (get_or rests lane []) are.logs_are one
  ];
}
