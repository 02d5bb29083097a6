-- A team of which one box has other commands.
use Rattle.std.proofs.Common.{◌≡◌, ◌≢◌, ◌⊎◌, inl, inr, ℕ, ◌<◌, ◌≤◌, ◌++◌, true, IsTrue, nat_lt, List, [], ◌∷◌, Some, Result, Ok, Err, OnErr, length, map, slice_get, slice_index_or, slice_set, refl, sym, ◌∙◌, ap, subst, arith}
use Rattle.std.proofs.Math.ListN.{set}
use Rattle.std.proofs.lemmas.List.{length-map, length-set, map-set}
use Rattle.std.proofs.lemmas.Bool.{and_parts, cases_eq, ltb-true}
use Rattle.mc_box.specs.Boxes.{BoxState}
use Rattle.mc_box.specs.declared.event.Event.{Event}
use Rattle.mc_box.specs.declared.event.Turn.{Turn}
use Rattle.mc_team.proofs.SameTeams.{team_by, world_by}
use Rattle.mc_team.proofs.OnLanes.{tied_by}
use Rattle.mc_team.proofs.Standing.{still_cleared}
use Rattle.mc_team.specs.Teams.{AreCleared, AreLaidOut, StandForWorld, lanes_of, team_of, with_command, world_of}
use Rattle.mc_team.specs.declared.limit.TheConstants.{TEAM_LIMIT}
use Rattle.mc_team.specs.Layouts.{IsPlacedAt, ends_of_lane, of_box}
use Rattle.mc_team.specs.declared.layout.LaneEnds.{LaneEnds}
use Rattle.mc_model.specs.Shapes.{is_allowed}
use Rattle.mc_model.specs.Sound.{IsSound}
use Rattle.mc_model.specs.Worlds.{ChannelState}
use Rattle.mc_port.specs.Ends.{RingName}
use Rattle.mc_team.specs.declared.member.Member.{Member}
use Rattle.mc_team.proofs.Lists.{at_some, get_other, map_kept, one_of, set_here}
use Rattle.mc_team.proofs.Pairs.{Ins, Outs, in_names_of, out_names_of}
use Rattle.mc_team.specs.Carries.{AreTied}
use Rattle.mc_team.specs.Ends.{no_in, no_out, parts_of, places_of_boxes, shifts_of, stimuli_of}
use Rattle.mc_worker.specs.Ends.{InEnd, OutEnd}
use Rattle.mc_worker.specs.Ready.{IsReady}
use Rattle.mc_worker.specs.declared.worker.Worker.{Worker}

-- ---- views that commands don't show in

-- all that a team is, but for its commands
pub record SameViews (old new : List Member) : Type 0 where
  pub count : length new ≡ length old
  pub ins : map Ins new ≡ map Ins old
  pub outs : map Outs new ≡ map Outs old
  pub in_rings : map in_names_of new ≡ map in_names_of old
  pub out_rings : map out_names_of new ≡ map out_names_of old
  pub parts : parts_of new ≡ parts_of old
  pub places : places_of_boxes new ≡ places_of_boxes old
  pub shifts : shifts_of new ≡ shifts_of old

-- a worker with other commands
abbrev pub HasOtherCommands : Worker → Worker → Type 0
HasOtherCommands old new = new ≡ record old { stimuli = new.stimuli }

-- the member of such a worker
abbrev pub member_of : Member → Worker → Member
member_of member worker = record { worker = worker; end = member.end }

-- such a member in the place of the old one shows no change
pub same_views : (members : List Member) (who : ℕ) (a : Member) (w : Worker) → slice_get members who ≡ Some a → HasOtherCommands a.worker w → SameViews members (slice_set members who (member_of a w))
same_views members who a w at same =
    subst (λ (v : Worker). SameViews members (slice_set members who (member_of a v))) (sym same)
    (let b : Member = member_of a (record a.worker { stimuli = w.stimuli }) in
    record {
      count = length-set members who b;
      ins = map_kept Ins members who a b at refl;
      outs = map_kept Outs members who a b at refl;
      in_rings = map_kept in_names_of members who a b at refl;
      out_rings = map_kept out_names_of members who a b at refl;
      parts = map_kept (λ (s : Member). s.worker.part) members who a b at refl;
      places = map_kept (λ (s : Member). s.worker.place) members who a b at refl;
      shifts = map_kept (λ (s : Member). s.worker.shifts) members who a b at refl;
    })

-- ---- what such a team is

-- so the lanes have on them what they had
pub same_lanes : (old new : List Member) (lanes : List LaneEnds) → SameViews old new → lanes_of new lanes ≡ lanes_of old lanes
same_lanes old new lanes same = ap (λ (views : List (ℕ → InEnd)). map (λ (ends : LaneEnds). (slice_index_or views ends.to (λ (e : ℕ). no_in) ends.to_end).inbox) lanes) same.ins

-- and the world is the same
pub same_world : (channels : List ChannelState) (old new : List Member) (lanes : List LaneEnds) → SameViews old new → world_of channels new lanes ≡ world_of channels old lanes
same_world channels old new lanes same = world_by channels (parts_of new) (parts_of old) (lanes_of new lanes) (lanes_of old lanes) same.parts (same_lanes old new lanes same)

-- one command more, after those that the box has
pub one_more : (channels : List ChannelState) (members : List Member) (lanes : List LaneEnds) (turn : Turn) (a : Member) (w : Worker) → slice_get members turn.who ≡ Some a → HasOtherCommands a.worker w
    → w.stimuli.items ≡ a.worker.stimuli.items ++ turn.event ∷ []
    → team_of channels (slice_set members turn.who (member_of a w)) lanes ≡ with_command (team_of channels members lanes) turn
one_more channels members lanes turn a w at same more =
    let new : List Member = slice_set members turn.who (member_of a w) in
    let views = same_views members turn.who a w at same in
    let had : slice_index_or (stimuli_of members) turn.who [] ≡ a.worker.stimuli.items = at_some (λ (s : Member). s.worker.stimuli.items) members turn.who a [] at in
    let commands : stimuli_of new ≡ slice_set (stimuli_of members) turn.who (slice_index_or (stimuli_of members) turn.who [] ++ turn.event ∷ []) =
    map-set (λ (s : Member). s.worker.stimuli.items) members turn.who (member_of a w) ∙ ap (λ (l : List Event). slice_set (stimuli_of members) turn.who l) (more ∙ ap (λ (l : List Event). l ++ turn.event ∷ []) (sym had)) in
    team_by (world_of channels new lanes) (world_of channels members lanes) (stimuli_of new) _ (shifts_of new) (shifts_of members) (same_world channels members new lanes views) commands views.shifts

-- the same commands
pub none_more : (channels : List ChannelState) (members : List Member) (lanes : List LaneEnds) (who : ℕ) (a : Member) (w : Worker) → slice_get members who ≡ Some a → HasOtherCommands a.worker w
    → w.stimuli.items ≡ a.worker.stimuli.items → team_of channels (slice_set members who (member_of a w)) lanes ≡ team_of channels members lanes
none_more channels members lanes who a w at same kept =
    let new : List Member = slice_set members who (member_of a w) in
    let views = same_views members who a w at same in
    team_by (world_of channels new lanes) (world_of channels members lanes) (stimuli_of new) (stimuli_of members) (shifts_of new) (shifts_of members) (same_world channels members new lanes views)
    (map_kept (λ (s : Member). s.worker.stimuli.items) members who a (member_of a w) at kept) views.shifts

-- ---- what a team keeps

-- what holds of each member, and of the one that is put in
each_by : (P : ℕ → Member → Type 0) (members : List Member) (who k : ℕ) (a b s : Member) → slice_get members who ≡ Some a → P who b → ((n : ℕ) (t : Member) → slice_get members n ≡ Some t → P n t)
    → slice_get (slice_set members who b) k ≡ Some s → (k ≡ who) ⊎ (k ≢ who) → P k s
each_by P members who k a b s at here all found (inl is) =
    let put : slice_get (slice_set members who b) k ≡ Some b = subst (λ (n : ℕ). slice_get (slice_set members who b) n ≡ Some b) (sym is) (set_here members who a b at) in
    subst (λ (n : ℕ). P n s) (sym is) (subst (λ (t : Member). P who t) (one_of (slice_get (slice_set members who b) k) b s put found) here)
each_by P members who k a b s at here all found (inr off) = all k s (sym (get_other members who k b off) ∙ found)

-- the lanes stay tied
tied_still : (old new : List Member) (lanes : List LaneEnds) → SameViews old new → AreTied old lanes → AreTied new lanes
tied_still old new lanes same tied =
    tied_by lanes old new same.count (λ who. ap (λ (l : List (List RingName)). slice_index_or l who []) same.in_rings) (λ who. ap (λ (l : List (List RingName)). slice_index_or l who []) same.out_rings) tied

-- and nothing comes on them
cleared_still : (old new : List Member) (lanes : List LaneEnds) → SameViews old new → AreCleared old lanes → AreCleared new lanes
cleared_still old new lanes same cleared lane below =
    let ends : LaneEnds = ends_of_lane lanes lane in
    still_cleared old new ends (ap (λ (l : List (ℕ → InEnd)). slice_index_or l ends.to (λ (e : ℕ). no_in) ends.to_end) same.ins)
    (ap (λ (l : List (ℕ → OutEnd)). slice_index_or l ends.from (λ (e : ℕ). no_out) ends.from_end) same.outs) (cleared lane below)

-- the boxes stay laid out
laid_still : (channels : List ChannelState) (members : List Member) (lanes : List LaneEnds) (ends : List (List ℕ)) (who : ℕ) (a : Member) (w : Worker) → slice_get members who ≡ Some a → HasOtherCommands a.worker w
    → AreLaidOut channels members lanes ends → AreLaidOut channels (slice_set members who (member_of a w)) lanes ends
laid_still channels members lanes ends who a w at same laid =
    let new : List Member = slice_set members who (member_of a w) in
    let views = same_views members who a w at same in
    record {
      lane_count = laid.lane_count;
      joins = laid.joins;
      numbered = laid.numbered;
      box_count = laid.box_count ∙ sym views.count;
      end_count = λ k s found. each_by (λ (n : ℕ) (t : Member). length t.worker.ins.items ≡ length (of_box ends n)) members who k a (member_of a w) s at
          (ap (λ (v : Worker). length v.ins.items) same ∙ laid.end_count who a at) laid.end_count found (cases_eq k who);
      places = λ s below. subst (λ (l : List BoxState). IsPlacedAt l channels ends (places_of_boxes new) s) (sym views.parts)
          (subst (λ (l : List (List (ℕ × ℕ))). IsPlacedAt (parts_of members) channels ends l s) (sym views.places) (laid.places s below));
      tied = tied_still members new lanes views laid.tied;
    }

-- so the members stand for the world as before
pub stand_still : (channels : List ChannelState) (members : List Member) (lanes : List LaneEnds) (ends : List (List ℕ)) (who : ℕ) (a : Member) (w : Worker) → slice_get members who ≡ Some a → HasOtherCommands a.worker w → IsReady w
    → StandForWorld channels members lanes ends → StandForWorld channels (slice_set members who (member_of a w)) lanes ends
stand_still channels members lanes ends who a w at same ready stand =
    let new : List Member = slice_set members who (member_of a w) in
    let views = same_views members who a w at same in
    record {
      within = stand.within;
      laid_out = laid_still channels members lanes ends who a w at same stand.laid_out;
      ready = λ k s found. each_by (λ (n : ℕ) (t : Member). IsReady t.worker) members who k a (member_of a w) s at ready stand.ready found (cases_eq k who);
      cleared = cleared_still members new lanes views stand.cleared;
      sound = subst IsSound (sym (same_world channels members new lanes views)) stand.sound;
      few = subst (λ (n : ℕ). n ≤ TEAM_LIMIT) (sym views.count) stand.few;
    }

-- ---- what the calls answer

-- an allowed command is for a box that is there
pub allowed_there : (members : List Member) (channels : List ChannelState) (lanes : List LaneEnds) (turn : Turn) → IsTrue (is_allowed (world_of channels members lanes) turn) → turn.who < length members
allowed_there members channels lanes turn allowed =
    let below : nat_lt turn.who (length (parts_of members)) ≡ true = (and_parts _ _ allowed).0 in
    let within : turn.who < length (parts_of members) = ltb-true turn.who (length (parts_of members)) below in
    omega (arith, within, length-map members (λ (s : Member). s.worker.part))

-- what follows from what an error leaves
pub on_err : {X E : Type 0} (A B : Type 0) (r : Result X E) → (A → B) → OnErr r A → OnErr r B
on_err A B (Ok x) f h = h
on_err A B (Err e) f h = f h
