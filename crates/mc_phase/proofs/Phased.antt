-- A phase, put together from what its calls say.
use Rattle.std.proofs.Common.{◌≡◌, inl, inr, ◌+◌, ◌*◌, ◌<◌, ◌≤◌, ℕ, zero, suc, false, List, [], ◌∷◌, ◌++◌, length, map, slice_get, slice_index_or, None, Some, refl, sym, ◌∙◌, ap, subst, arith}
use Rattle.std.specs.List.{AllByRecursion, sum_by}
use Rattle.std.specs.Option.{option_map}
use Rattle.std.specs.declared.alloc.Global.{Global}
use Rattle.std.specs.declared.vec.Vec.{Vec}
use Rattle.std.proofs.lemmas.List.{append-nil, length-map}
use Rattle.std.proofs.lemmas.List.Sums.{sum_by-cons}
use Rattle.std.proofs.lemmas.Option.{get_or_from_slice_get, slice_get-map, slice_get_within}
use Rattle.mc_box.specs.BoxEvents.{turn_of}
use Rattle.mc_box.specs.BoxShapes.{BoxShapeState, box_shape}
use Rattle.mc_box.specs.Boxes.{BoxState, no_box}
use Rattle.mc_box.specs.declared.event.Event.{Event}
use Rattle.mc_box.specs.declared.event.Turn.{Turn}
use Rattle.mc_desk.specs.Desks.{taken_by}
use Rattle.mc_desk.specs.declared.desk.Desk.{Desk}
use Rattle.mc_desk.specs.declared.request.Request.{Request}
use Rattle.mc_desks.proofs.Lists.{there_is}
use Rattle.mc_flight.specs.Seats.{sent_count, taken_count}
use Rattle.mc_flight.specs.declared.flight.FlightSeat.{FlightSeat}
use Rattle.mc_flight.specs.declared.limit.TheConstants.{SEAT_LIMIT}
use Rattle.mc_laws.specs.Measures.{under_way}
use Rattle.mc_live.proofs.Freed.{all_at, three_at, three_count, zip_count, zip_there}
use Rattle.mc_live.proofs.Left.{left_is_only}
use Rattle.mc_live.specs.BoxRuns.{HasRunFreely, HaveRunFreely}
use Rattle.mc_live.specs.Courses.{AreAllAllowed, is_refused}
use Rattle.mc_live.specs.Phases.{AreLeft, AreSetFree, AskedForAllowed, IsFreeRun, IsSetFree, LeftOnly, NoneRefused, left_by}
use Rattle.mc_live.specs.Requests.{events_asked}
use Rattle.mc_live.specs.declared.box_run.BoxRun.{BoxRun}
use Rattle.mc_live.specs.declared.limit.TheConstants.{FURTHER_ROUND_LIMIT}
use Rattle.mc_model.specs.Settles.{commands_of}
use Rattle.mc_model.specs.Shapes.{AreAllowed}
use Rattle.mc_model.specs.Worlds.{ChannelState, WorldState, box_at}
use Rattle.mc_phase.proofs.Allowed.{FitsShape, took_allowed}
use Rattle.mc_phase.proofs.LeftTurns.{FitAll, left_allowed, left_of}
use Rattle.mc_phase.proofs.Taken.{IsTakenAt, taken_from}
use Rattle.mc_phase.specs.Asked.{AreHandsFor, AreTakenFrom, MeetsRequests}
use Rattle.mc_phase.specs.Left.{turns_from}
use Rattle.mc_live.specs.declared.asker.Asker.{Asker}
use Rattle.mc_phase.specs.Prepared.{IsFinished, all_taken, seats_of}
use Rattle.mc_phase.specs.Ran.{IsPhase}
use Rattle.mc_phase.specs.declared.finishing.Finished.{Finished}
use Rattle.mc_script.specs.declared.command.Batch.{Batch}
use Rattle.mc_team.specs.Carries.{AreReady}
use Rattle.mc_team.specs.Ends.{parts_of, stimuli_of}
use Rattle.mc_team.specs.Teams.{world_of}
use Rattle.mc_team.specs.declared.layout.LaneEnds.{LaneEnds}
use Rattle.mc_team.specs.declared.member.Member.{Member}
use Rattle.mc_worker.specs.declared.limit.TheConstants.{STAMP_LIMIT, TURN_LIMIT}
use Rattle.mc_worker.specs.declared.worker.Worker.{Worker}

-- ---- lists

found : {A B : Type 0} (f : A → B) (xs : List A) (k : ℕ) (x : A) (d : B) → slice_get xs k ≡ Some x → slice_index_or (map f xs) k d ≡ f x
found f xs k x d at = get_or_from_slice_get (map f xs) k (f x) d (slice_get-map f xs k ∙ ap (option_map f) at)

all_places : {A : Type 0} (P : A → Type 0) (xs : List A) → ((k : ℕ) (x : A) → slice_get xs k ≡ Some x → P x) → AllByRecursion P xs
all_places P [] each = tt
all_places P (x ∷ xs) each = (each 0 x refl, all_places P xs (λ k y at. each (suc k) y at))

pub sum_of_seats : (count : FlightSeat → ℕ) (runs : List BoxRun) → sum_by count (seats_of runs) ≡ sum_by (λ (run : BoxRun). count run.seat) runs
sum_of_seats count [] = refl
sum_of_seats count (run ∷ runs) =
    let one = sum_by-cons count run.seat (seats_of runs) in
    let two = sum_by-cons (λ (r : BoxRun). count r.seat) run runs in
    let rest = sum_of_seats count runs in
    omega (arith, one, two, rest)

-- a hand of all
hand_there : (world : WorldState) (hands : List (List Turn)) (operator : ℕ) → AreHandsFor world hands → operator < length hands → AreAllowed world (slice_index_or hands operator [])
hand_there world [] operator are low = absurd (omega (arith, low))
hand_there world (hand ∷ hands) zero are low = are.0.allowed
hand_there world (hand ∷ hands) (suc operator) are low = hand_there world hands operator are.1 (omega (arith, low))

-- ---- one box

-- a box that ran, and had memory, is of the shape that it had
shape_by : (desk : Desk) (member : Member) (began run : BoxRun) → IsSetFree member began → HasRunFreely desk began run → is_refused run.course.pace ≡ false → box_shape run.worker.part ≡ box_shape member.worker.part
shape_by desk member began run set ran calm = elim ran.on.come [
  | inl refused ↦ cc
  | inr both ↦ both.0.run.shape ∙ ap (λ (w : Worker). box_shape w.part) set.worker
]

pub shape_kept : (channels : List ChannelState) (lanes : List LaneEnds) (old : List Member) (desks : List Desk) (began ran : List BoxRun) (who : ℕ) (run : BoxRun) → AreSetFree old began → HaveRunFreely desks began ran → NoneRefused ran → slice_get ran who ≡ Some run
    → box_shape run.worker.part ≡ box_shape (box_at (world_of channels old lanes) who)
shape_kept channels lanes old desks began ran who run set runs calm at =
    let within = slice_get_within ran who run at in
    let last = three_count HasRunFreely desks began ran runs in
    let first = zip_count IsSetFree old began set in
    let member = there_is old who (omega (arith, within, last, first)) in
    let own = zip_there IsSetFree old began who member.0 set member.1 in
    let three = three_at HasRunFreely desks began ran who own.0 run runs own.1 at in
    shape_by three.0 member.0 own.0 run own.2 three.1 (all_at (λ (r : BoxRun). is_refused r.course.pace ≡ false) ran who run calm at)
    ∙ ap box_shape (sym (found (λ (m : Member). m.worker.part) old who member.0 no_box member.1))

-- ---- what is left

fit_from : (shapes : ℕ → BoxShapeState) (from : ℕ) (members : List Member) → ((k : ℕ) (member : Member) → slice_get members k ≡ Some member → AllByRecursion (FitsShape (shapes (from + k))) member.worker.stimuli.items) → FitAll shapes from (stimuli_of members)
fit_from shapes from [] each = tt
fit_from shapes from (member ∷ members) each = (
  subst (λ (n : ℕ). AllByRecursion (FitsShape (shapes n)) member.worker.stimuli.items) (omega arith) (each 0 member refl),
  fit_from shapes (from + 1) members (λ k other at. subst (λ (n : ℕ). AllByRecursion (FitsShape (shapes n)) other.worker.stimuli.items) (omega arith) (each (suc k) other at)),
)

-- the shapes of the boxes of a world enable the commands that are left
stimuli_fit : (channels : List ChannelState) (lanes : List LaneEnds) (new : List Member) → AreReady new → FitAll (λ (n : ℕ). box_shape (box_at (world_of channels new lanes) n)) 0 (stimuli_of new)
stimuli_fit channels lanes new ready =
    fit_from (λ (n : ℕ). box_shape (box_at (world_of channels new lanes) n)) 0 new (λ k member at.
    subst (λ (n : ℕ). AllByRecursion (FitsShape (box_shape (box_at (world_of channels new lanes) n))) member.worker.stimuli.items) (omega arith)
    (subst (λ (b : BoxState). AllByRecursion (FitsShape (box_shape b)) member.worker.stimuli.items) (sym (found (λ (m : Member). m.worker.part) new k member no_box at)) (ready k member at).allowed))

-- ---- all that is known after the boxes ran and their turns were gathered

pub record IsKnown (channels : List ChannelState) (lanes : List LaneEnds) (ends : List (List ℕ)) (hands : List (List Turn)) (old new : List Member) (ran : List BoxRun) (turns left : List Turn) : Type 0 where
  pub free : IsFreeRun channels lanes ends old new ran turns
  pub stimuli : stimuli_of new ≡ map (λ (run : BoxRun). run.worker.stimuli.items) ran
  pub are_left : left ≡ turns_from 0 (stimuli_of new)
  pub taken : (who : ℕ) (run : BoxRun) → slice_get ran who ≡ Some run → IsTakenAt hands who run
  pub allowed : AskedForAllowed ran
  pub few : length old ≤ SEAT_LIMIT
  pub count : length ran ≡ length old

pub asked_allowed : (channels : List ChannelState) (lanes : List LaneEnds) (hands : List (List Turn)) (old : List Member) (desks : List Desk) (began ran : List BoxRun) → AreHandsFor (world_of channels old lanes) hands → AreSetFree old began → HaveRunFreely desks began ran → NoneRefused ran
    → ((who : ℕ) (run : BoxRun) → slice_get ran who ≡ Some run → IsTakenAt hands who run) → AskedForAllowed ran
asked_allowed channels lanes hands old desks began ran are set runs calm each = all_places (λ (run : BoxRun). AreAllAllowed run.worker (taken_by run.taker)) ran (λ who run at.
    let is = each who run at in
    subst (λ (s : BoxShapeState). AllByRecursion (FitsShape s) (events_asked (taken_by run.taker))) (sym (shape_kept channels lanes old desks began ran who run set runs calm at))
    (took_allowed (world_of channels old lanes) hands who (taken_by run.taker) (λ operator low. hand_there (world_of channels old lanes) hands operator are low) is.known is.asked))

left_whole : {channels : List ChannelState} {lanes : List LaneEnds} {ends : List (List ℕ)} {hands : List (List Turn)} {old new : List Member} {ran : List BoxRun} {turns left : List Turn} → IsKnown channels lanes ends hands old new ran turns left
    → (who : ℕ) (run : BoxRun) → slice_get ran who ≡ Some run → left_by run ≡ run.worker.stimuli.items
left_whole {ran = ran} known who run at =
    ap (λ (l : List Event). run.worker.stimuli.items ++ l) (known.free.none_kept who run at (all_at (λ (r : BoxRun). AreAllAllowed r.worker (taken_by r.taker)) ran who run known.allowed at)) ∙ append-nil run.worker.stimuli.items

left_at : {channels : List ChannelState} {lanes : List LaneEnds} {ends : List (List ℕ)} {hands : List (List Turn)} {old new : List Member} {ran : List BoxRun} {turns left : List Turn} → IsKnown channels lanes ends hands old new ran turns left
    → (who : ℕ) → commands_of who left ≡ map (turn_of who) (slice_index_or (map (λ (run : BoxRun). run.worker.stimuli.items) ran) who [])
left_at {channels = channels} {lanes = lanes} {new = new} known who =
    ap (commands_of who) known.are_left
    ∙ (left_of (λ (n : ℕ). box_shape (box_at (world_of channels new lanes) n)) 0 who who (stimuli_of new) (stimuli_fit channels lanes new known.free.stand.ready) (omega arith)
    ∙ ap (λ (l : List (List Event)). map (turn_of who) (slice_index_or l who [])) known.stimuli)

none_past : (ran : List BoxRun) (who : ℕ) → slice_get ran who ≡ None → slice_index_or (map (λ (run : BoxRun). run.worker.stimuli.items) ran) who [] ≡ []
none_past [] who none = refl
none_past (run ∷ ran) zero none = absurd (cc)
none_past (run ∷ ran) (suc who) none = none_past ran who none

pub are_left : {channels : List ChannelState} {lanes : List LaneEnds} {ends : List (List ℕ)} {hands : List (List Turn)} {old new : List Member} {ran : List BoxRun} {turns left : List Turn} → IsKnown channels lanes ends hands old new ran turns left → AreLeft ran left
are_left {ran = ran} known = record {
  each = λ who run at. left_at known who ∙ ap (map (turn_of who)) (found (λ (r : BoxRun). r.worker.stimuli.items) ran who run [] at ∙ sym (left_whole known who run at));
  no_other = λ who none. left_at known who ∙ ap (map (turn_of who)) (none_past ran who none);
}

pub left_only : {channels : List ChannelState} {lanes : List LaneEnds} {ends : List (List ℕ)} {hands : List (List Turn)} {old new : List Member} {ran : List BoxRun} {turns left : List Turn} → IsKnown channels lanes ends hands old new ran turns left
    → LeftOnly turns left (world_of channels new lanes)
left_only {channels = channels} {lanes = lanes} {ends = ends} {old = old} {new = new} {ran = ran} {turns = turns} {left = left} known =
    let few = known.few in
    let fits : length old * (FURTHER_ROUND_LIMIT + TURN_LIMIT) ≤ STAMP_LIMIT = omega (arith, few) in
    left_is_only channels lanes ends old new ran turns left known.free fits known.allowed (are_left known)

pub meets : {channels : List ChannelState} {lanes : List LaneEnds} {ends : List (List ℕ)} {hands : List (List Turn)} {old new : List Member} {ran : List BoxRun} {turns left : List Turn} → IsKnown channels lanes ends hands old new ran turns left
    → MeetsRequests (all_taken ran) turns left
meets {ran = ran} {turns = turns} {left = left} known who within =
    let run = there_is ran who (subst (λ (n : ℕ). who < n) (length-map ran (λ (r : BoxRun). r.course.taken.items)) within) in
    ap (λ (l : List Turn). commands_of who turns ++ l) ((are_left known).each who run.0 run.1)
    ∙ (known.free.commands who run.0 run.1
    ∙ ap (λ (l : List Request). map (turn_of who) (events_asked l)) ((known.taken who run.0 run.1).same ∙ sym (found (λ (r : BoxRun). r.course.taken.items) ran who run.0 [] run.1)))

pub left_fits : {channels : List ChannelState} {lanes : List LaneEnds} {ends : List (List ℕ)} {hands : List (List Turn)} {old new : List Member} {ran : List BoxRun} {turns left : List Turn} → IsKnown channels lanes ends hands old new ran turns left
    → AreAllowed (world_of channels new lanes) left
left_fits {channels = channels} {lanes = lanes} {new = new} known =
    let one = length-map new (λ (m : Member). m.worker.stimuli.items) in
    let two = length-map new (λ (m : Member). m.worker.part) in
    subst (AreAllowed (world_of channels new lanes)) (sym known.are_left) (left_allowed (world_of channels new lanes) 0 (stimuli_of new) (omega (arith, one, two)) (stimuli_fit channels lanes new known.free.stand.ready))

pub all_taken_from : {channels : List ChannelState} {lanes : List LaneEnds} {ends : List (List ℕ)} {hands : List (List Turn)} {old new : List Member} {ran : List BoxRun} {turns left : List Turn} → IsKnown channels lanes ends hands old new ran turns left
    → AreTakenFrom hands (length (parts_of old)) (all_taken ran)
all_taken_from {hands = hands} {old = old} {ran = ran} known =
    subst (λ (n : ℕ). AreTakenFrom hands n (all_taken ran)) (known.count ∙ sym (length-map old (λ (m : Member). m.worker.part))) (taken_from hands ran known.taken)

-- ---- all

pub is_phase : {channels : List ChannelState} {lanes : List LaneEnds} {ends : List (List ℕ)} {hands : List (List Turn)} {old new : List Member} {ran : List BoxRun} (askers : List Asker) (finished : Finished) (turns : Vec Turn Global) (left : Batch) → IsKnown channels lanes ends hands old new ran turns.items left.turns.items → IsFinished askers ran finished
    → IsPhase hands (world_of channels old lanes) (world_of channels new lanes) (record { turns = turns; taken = finished.taken; left = left; flight = finished.totals })
is_phase {channels = channels} {lanes = lanes} {hands = hands} {old = old} {new = new} {ran = ran} askers finished turns left known fin =
    let first : WorldState = world_of channels old lanes in
    let last : WorldState = world_of channels new lanes in
    let took = fin.took ∙ sum_of_seats taken_count ran in
    record {
      runs = known.free.runs;
      taken = subst (AreTakenFrom hands (length (parts_of old))) (sym fin.taken) (all_taken_from known);
      commands = subst (λ (l : List (List Request)). MeetsRequests l turns.items left.turns.items) (sym fin.taken) (meets known);
      left = left_only known;
      allowed = left_fits known;
      takes = took ∙ known.free.takes;
      sends = ap (λ (n : ℕ). under_way first + n) (fin.sent ∙ sum_of_seats sent_count ran) ∙ (known.free.signals ∙ ap (λ (n : ℕ). n + under_way last) (sym took));
    }
