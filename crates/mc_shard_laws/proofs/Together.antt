-- Shards that together are a world have written what the merge law asks for.
use Rattle.std.proofs.Common.{◌≡◌, ℕ, List, [], ◌∷◌, ◌++◌, map, refl, ap, sym, ◌∙◌, subst}
use Rattle.std.specs.List.{AllByRecursion}
use Rattle.std.proofs.Math.ListN.{get_or}
use Rattle.std.proofs.lemmas.List.{map-append}
use Rattle.mc_signal.specs.declared.Tagged.{Tagged}
use Rattle.mc_box.specs.Boxes.{BoxState, no_box}
use Rattle.mc_port.specs.Entries.{AreMade, Entry, stamps_of}
use Rattle.mc_port.specs.Tunnels.{log_sends}
use Rattle.mc_merge.specs.Claims.{AreClaims}
use Rattle.mc_merge.specs.LaneLogs.{log_of, sent_to, taken_from, takings, without_stamps}
use Rattle.mc_merge.specs.Lanes.{FitsTunnel, into_box, leads_from, leads_to, out_of_box}
use Rattle.mc_merge.specs.Merging.{LaneKeeps}
use Rattle.mc_merge.proofs.Claims.{claims_keep}
use Rattle.mc_model.specs.Worlds.{WorldState, box_at}
use Rattle.mc_order.specs.Keys.{Rise}
use Rattle.mc_merge.specs.Logs.{own_log}
use Rattle.mc_merge.specs.Together.{Homes}
use Rattle.mc_merge.proofs.Logs.{own_rise}
use Rattle.mc_merge.proofs.Order.{runs_in_order}
use Rattle.mc_port.specs.declared.stamped.Stamped.{Stamped}
use Rattle.mc_shard.specs.Journals.{AreNumbered, sent_at, taken_at}
use Rattle.mc_shard_laws.specs.Logs.{owns, stamped, tagged}
use Rattle.mc_shard.specs.States.{IsJournal, box_in}
use Rattle.mc_shard_laws.specs.Together.{JoinsEnds, Journalled, ShardsAreLogged, ShardsRun, end_tunnels, one_clock, state_of, under_way}
use Rattle.mc_shard.specs.declared.entry.Numbered.{Numbered}
use Rattle.mc_shard_laws.proofs.Entries.{journal_fits, journal_made, journal_rises, journal_sends, journal_takes}
use Rattle.mc_shard_laws.proofs.AgreedTunnels.{sends_same, takings_same}
use Rattle.mc_shard_laws.proofs.Lanes.{sent_numbered, taken_is_front, taken_numbered}

without_all : (items : List Numbered) → without_stamps (map stamped items) ≡ map tagged items
without_all [] = refl
without_all (item ∷ items) = ap (λ (l : List Tagged). tagged item ∷ l) (without_all items)

abbrev IsJournalled : Journalled → Type 0
IsJournalled shard = IsJournal shard.places shard.first shard.journal

abbrev LogsAre : Homes → (ℕ → Journalled) → List (List Entry) → Type 0
LogsAre homes shards logs = (who : ℕ) → log_of logs who ≡ own_log (homes who).1 (owns (shards (homes who).0).first (shards (homes who).0).journal)

log_there : (homes : Homes) (shards : ℕ → Journalled) (logs : List (List Entry)) (who shard at : ℕ) → LogsAre homes shards logs → homes who ≡ (shard, at)
    → log_of logs who ≡ own_log at (owns (shards shard).first (shards shard).journal)
log_there homes shards logs who shard at are home = are who ∙ ap (λ (h : ℕ × ℕ). own_log h.1 (owns (shards h.0).first (shards h.0).journal)) home

-- what was taken, with the stamps of its sendings, is a front of what was sent
fronts : (world : WorldState) (homes : Homes) (shards : ℕ → Journalled) (lane : ℕ) (rest : List Tagged) (c : JoinsEnds world homes shards lane rest) → IsJournalled (shards c.from) → IsJournalled (shards c.to)
    → taken_at c.into (shards c.to).journal ++ under_way (taken_at c.into (shards c.to).journal) (sent_at c.out (shards c.from).journal) ≡ sent_at c.out (shards c.from).journal
fronts world homes shards lane rest c from to =
    taken_is_front 0 (taken_at c.into (shards c.to).journal) (sent_at c.out (shards c.from).journal)
    (subst (λ (n : ℕ). AreNumbered n (taken_at c.into (shards c.to).journal)) c.none_taken (taken_numbered (shards c.to).journal (shards c.to).places (shards c.to).first c.into c.into_there to))
    (subst (λ (n : ℕ). AreNumbered n (sent_at c.out (shards c.from).journal)) c.none_sent (sent_numbered (shards c.from).journal (shards c.from).places (shards c.from).first c.out c.out_there from))
    c.has_sending

lane_keeps : (world : WorldState) (homes : Homes) (shards : ℕ → Journalled) (logs : List (List Entry)) (lane : ℕ) (rest : List Tagged) → LogsAre homes shards logs → (c : JoinsEnds world homes shards lane rest)
    → IsJournalled (shards c.from) → IsJournalled (shards c.to) → LaneKeeps [] (taken_from world logs lane) (sent_to world logs lane) rest
lane_keeps world homes shards logs lane rest are c from to =
    let taken = taken_at c.into (shards c.to).journal in
    let sent = sent_at c.out (shards c.from).journal in
    let left = under_way taken sent in
    let takes : taken_from world logs lane ≡ takings (end_tunnels (shards c.to).places c.taker c.into) (own_log c.taker (owns (shards c.to).first (shards c.to).journal)) =
    ap (λ (l : List Entry). takings (into_box world (leads_to world lane) lane) l) (log_there homes shards logs (leads_to world lane) c.to c.taker are c.taker_home)
    ∙ takings_same (own_log c.taker (owns (shards c.to).first (shards c.to).journal)) (into_box world (leads_to world lane) lane) (end_tunnels (shards c.to).places c.taker c.into) c.into_tunnels in
    let sends : sent_to world logs lane ≡ map stamped sent =
    ap (λ (l : List Entry). log_sends (out_of_box world (leads_from world lane) lane) l) (log_there homes shards logs (leads_from world lane) c.from c.sender are c.sender_home)
    ∙ (sends_same (own_log c.sender (owns (shards c.from).first (shards c.from).journal)) (out_of_box world (leads_from world lane) lane) (end_tunnels (shards c.from).places c.sender c.out) c.out_tunnels
    ∙ journal_sends (shards c.from).journal (shards c.from).places (shards c.from).first c.sender c.out c.out_owner from) in
    let claims : AreClaims (taken_from world logs lane) (map stamped taken) =
    subst (λ (l : List Stamped). AreClaims l (map stamped taken)) (sym takes)
    (journal_takes (shards c.to).journal (shards c.to).places (shards c.to).first c.taker c.into c.into_owner to) in
    let all : map stamped taken ++ map stamped left ≡ sent_to world logs lane =
    sym (map-append stamped taken left) ∙ (ap (λ (l : List Numbered). map stamped l) (fronts world homes shards lane rest c from to) ∙ sym sends) in
    subst (λ (l : List Tagged). LaneKeeps [] (taken_from world logs lane) (sent_to world logs lane) l) (without_all left ∙ sym c.rest_is)
    (claims_keep [] (taken_from world logs lane) (map stamped taken) (sent_to world logs lane) (map stamped left) claims all)

home_kept : (homes : Homes) (shards : ℕ → Journalled) (who shard at : ℕ) → homes who ≡ (shard, at) → IsJournalled (shards (homes who).0) → IsJournalled (shards shard)
home_kept homes shards who shard at home kept = subst (λ (h : ℕ × ℕ). IsJournalled (shards h.0)) home kept

pub shards_are_logged : ShardsAreLogged
shards_are_logged world homes shards logs boxes rests are = record {
  each_lane = are.each_lane;
  log_count = are.log_count;
  box_count = are.box_count;
  lane_count = are.lane_count;
  made = λ who inside.
      let stands = are.stand who inside in
      let shard = shards (homes who).0 in
      subst (λ (l : List Entry). AreMade (box_at world who) l (get_or boxes who no_box)) (sym (are.logs_are who))
      (subst (λ (b : BoxState). AreMade b (own_log (homes who).1 (owns shard.first shard.journal)) (get_or boxes who no_box)) stands.before
      (subst (λ (b : BoxState). AreMade (box_in shard.first (homes who).1) (own_log (homes who).1 (owns shard.first shard.journal)) b) stands.after
      (journal_made shard.journal shard.places shard.first (homes who).1 stands.journal)));
  rise = λ who inside.
      let stands = are.stand who inside in
      let shard = shards (homes who).0 in
      subst (λ (l : List Entry). Rise (stamps_of l)) (sym (are.logs_are who))
      (own_rise (homes who).1 (owns shard.first shard.journal) shard.first.stamp (state_of shard).stamp (journal_rises shard.journal shard.places shard.first stands.journal));
  tunnels = λ who inside.
      let stands = are.stand who inside in
      let shard = shards (homes who).0 in
      subst (λ (l : List Entry). AllByRecursion (λ (entry : Entry). FitsTunnel world who entry.event entry.taken) l) (sym (are.logs_are who))
      (journal_fits shard.journal shard.places shard.first (homes who).1 world who stands.tunnels stands.journal);
  keeps = λ lane inside.
      let c = are.joined lane inside in
      let both = are.ends_stand lane inside in
      subst (λ (l : List Tagged). LaneKeeps l (taken_from world logs lane) (sent_to world logs lane) (get_or rests lane [])) (sym (are.quiet lane))
      (lane_keeps world homes shards logs lane (get_or rests lane []) are.logs_are c
      (home_kept homes shards (leads_from world lane) c.from c.sender c.sender_home (are.stand (leads_from world lane) both.0).journal)
      (home_kept homes shards (leads_to world lane) c.to c.taker c.taker_home (are.stand (leads_to world lane) both.1).journal));
}

pub shards_run : ShardsRun
shards_run world homes shards logs boxes rests whole are merged =
    runs_in_order one_clock world logs whole boxes rests (shards_are_logged world homes shards logs boxes rests are) (λ lane inside. refl) merged
