-- After turns of all boxes they stand for a world again.
use Rattle.std.proofs.Common.{◌≡◌, ℕ, ◌<◌, ◌≤◌, List, [], length, map, slice_get, Some, sym, ◌∙◌, ap, subst}
use Rattle.std.proofs.lemmas.List.{length-map}
use Rattle.std.proofs.lemmas.Option.{slice_get_within}
use Rattle.mc_box.specs.Boxes.{BoxState}
use Rattle.mc_team.proofs.BoxRounds.{in_names_kept, new_long, out_names_kept, places_kept}
use Rattle.mc_team.proofs.OnLanes.{tied_by}
use Rattle.mc_port.specs.Entries.{Claimed}
use Rattle.mc_team.specs.Teams.{AreLaidOut, StandForWorld, world_of}
use Rattle.mc_team.specs.Turns.{AreTurnsClaimed, MadeTurns}
use Rattle.mc_team.specs.declared.limit.TheConstants.{TEAM_LIMIT}
use Rattle.mc_team.specs.Layouts.{IsPlacedAt, of_box}
use Rattle.mc_team.specs.declared.layout.LaneEnds.{LaneEnds}
use Rattle.mc_merge.proofs.Claims.{claimed_are_logged}
use Rattle.mc_merge.proofs.Merging.{merge_keeps_sound}
use Rattle.mc_merge.specs.LaneLogs.{logs_of, without_stamps}
use Rattle.mc_model.specs.Sound.{IsSound}
use Rattle.mc_model.specs.Worlds.{ChannelState}
use Rattle.mc_port.specs.Ends.{RingName, in_ring}
use Rattle.mc_team.specs.declared.member.Member.{Member}
use Rattle.mc_signal.specs.declared.Tagged.{Tagged}
use Rattle.mc_team.proofs.Lists.{at_some, there_is}
use Rattle.mc_team.proofs.Pairs.{in_names_of}
use Rattle.mc_team.specs.Ends.{IsCleared, giving_end, in_names, parts_of, places_of_boxes, taking_end}
use Rattle.mc_worker.specs.Carrying.{IsBroughtIn}
use Rattle.mc_worker.specs.Ends.{InEnd, OutEnd}

-- ---- the layout

-- how many channel ends a box has
names_long : (members : List Member) (who : ℕ) (member : Member) → slice_get members who ≡ Some member → length member.worker.ins.items ≡ length (in_names members who)
names_long members who member at =
    sym (length-map member.worker.ins.items in_ring) ∙ ap (λ (l : List RingName). length l) (sym (at_some in_names_of members who member [] at))

-- so each has as many as the layout says
pub ends_long : (ends : List (List ℕ)) (old new : List Member) → length new ≡ length old → ((who : ℕ) → in_names new who ≡ in_names old who)
    → ((who : ℕ) (member : Member) → slice_get old who ≡ Some member → length member.worker.ins.items ≡ length (of_box ends who)) → (who : ℕ) (member : Member) → slice_get new who ≡ Some member → length member.worker.ins.items ≡ length (of_box ends who)
ends_long ends old new long ins was who member at =
    let a = there_is old who (subst (λ (n : ℕ). who < n) long (slice_get_within new who member at)) in
    names_long new who member at ∙ (ap (λ (l : List RingName). length l) (ins who) ∙ (sym (names_long old who a.0 a.1) ∙ was who a.0 a.1))

-- a place speaks of boxes by their numbers alone
pub placed_by : (old new : List BoxState) (channels : List ChannelState) (ends : List (List ℕ)) (places : List (List (ℕ × ℕ))) (s : ℕ) → IsPlacedAt old channels ends places s → IsPlacedAt new channels ends places s
placed_by old new channels ends places s p = record { end = p.end; at = p.at; lane = p.lane }

-- the boxes are laid out as before
laid_out_kept : {Known : ℕ → Member → Member → List Claimed → Type 0} {lanes : List LaneEnds} {old ran new : List Member} → MadeTurns Known lanes old ran new
    → (channels : List ChannelState) (ends : List (List ℕ)) → AreLaidOut channels old lanes ends → AreLaidOut channels new lanes ends
laid_out_kept {lanes = lanes} {old = old} {new = new} m channels ends was = record {
  lane_count = was.lane_count;
  joins = was.joins;
  numbered = was.numbered;
  box_count = was.box_count ∙ sym (new_long m);
  end_count = ends_long ends old new (new_long m) (in_names_kept m) was.end_count;
  places = λ s below. subst (λ (l : List (List (ℕ × ℕ))). IsPlacedAt (parts_of new) channels ends l s) (sym (places_kept m)) (placed_by (parts_of old) (parts_of new) channels ends (places_of_boxes old) s (was.places s below));
  tied = tied_by lanes old new (new_long m) (in_names_kept m) (out_names_kept m) was.tied;
}

-- ---- nothing is under way

-- a lane that was carried has nothing on its ring
brought_cleared : {given given_after : OutEnd} {taking taking_after : InEnd} → IsBroughtIn given given_after taking taking_after → IsCleared taking_after given_after
brought_cleared p = record { ring = p.got ∙ sym p.given; known = p.known; outbox = p.outbox }

-- nor has one whose ends are as they were, if nothing was there
pub still_cleared : (old new : List Member) (ends : LaneEnds) → taking_end new ends ≡ taking_end old ends → giving_end new ends ≡ giving_end old ends → IsCleared (taking_end old ends) (giving_end old ends) → IsCleared (taking_end new ends) (giving_end new ends)
still_cleared old new ends ins outs was = subst (λ (t : InEnd). IsCleared t (giving_end new ends)) (sym ins) (subst (λ (g : OutEnd). IsCleared (taking_end old ends) g) (sym outs) was)

-- ---- the world

-- the world is sound, by the law of merging
sound_kept : {Known : ℕ → Member → Member → List Claimed → Type 0} {channels : List ChannelState} {lanes : List LaneEnds} {old ran new : List Member} → AreTurnsClaimed Known channels lanes old ran new
    → IsSound (world_of channels old lanes) → IsSound (world_of channels new lanes)
sound_kept {channels = channels} {lanes = lanes} {old = old} {new = new} c was =
    subst (λ (l : List (List Tagged)). IsSound (record { boxes = parts_of new; channels = channels; lanes = l })) c.under_way
    (merge_keeps_sound (world_of channels old lanes) (logs_of c.logs) (parts_of new) (map without_stamps c.rests) (claimed_are_logged (world_of channels old lanes) c.logs (parts_of new) c.rests c.claimed) was)

-- so the members stand for a world
pub stand_kept : {Known : ℕ → Member → Member → List Claimed → Type 0} {lanes : List LaneEnds} {old ran new : List Member} → MadeTurns Known lanes old ran new
    → (channels : List ChannelState) (ends : List (List ℕ)) → AreTurnsClaimed Known channels lanes old ran new → StandForWorld channels old lanes ends → StandForWorld channels new lanes ends
stand_kept m channels ends claimed was = record {
  within = was.within;
  laid_out = laid_out_kept m channels ends was.laid_out;
  ready = m.carried.boxes.ready;
  cleared = λ lane below. brought_cleared (m.carried.carried lane below);
  sound = sound_kept claimed was.sound;
  few = subst (λ (n : ℕ). n ≤ TEAM_LIMIT) (sym (new_long m)) was.few;
}
