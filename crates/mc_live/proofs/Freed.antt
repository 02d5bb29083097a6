-- The turns of boxes that ran freely are one run of their network.
use Rattle.std.proofs.Common.{◌≡◌, ◌++◌, ◌+◌, ◌≤◌, ◌==◌, ◌&&◌, ℕ, zero, suc, true, false, IsTrue, List, [], ◌∷◌, count_by, length, map, slice_get, slice_index_or, Option, Some, inl, inr, refl, sym, ◌∙◌, ap, subst, append_assoc, arith}
use Rattle.std.specs.List.{AllByRecursion, AllZip, sum_by}
use Rattle.std.proofs.lemmas.List.{length-map, map-append}
use Rattle.std.proofs.lemmas.List.Sums.{length-filter}
use Rattle.std.proofs.lemmas.Option.{slice_get-get_or, slice_get_within}
use Rattle.mc_box.specs.BoxEvents.{is_command, is_take, turn_of}
use Rattle.mc_box.specs.BoxShapes.{BoxShapeState, box_shape, is_enabled_by}
use Rattle.mc_box.specs.declared.event.Event.{Event}
use Rattle.mc_box.specs.declared.event.Turn.{Turn}
use Rattle.mc_desk.specs.Desks.{taken_by}
use Rattle.mc_desk.specs.declared.desk.Desk.{Desk}
use Rattle.mc_flight.specs.Seats.{sent_count, taken_count}
use Rattle.mc_live.specs.Accounts.{with_commands}
use Rattle.mc_live.specs.Beside.{AllThree}
use Rattle.mc_live.specs.BoxRuns.{HasRunFreely, HaveRunFreely}
use Rattle.mc_live.specs.Courses.{AreAllAllowed, GoesSo, HasCome, is_refused}
use Rattle.mc_live.specs.Phases.{AreOwnTurns, AreSetFree, FreeRunsAreRuns, IsLeftSo, IsSetFree, IsTold, NoneRefused, left_by, member_of}
use Rattle.mc_live.specs.Requests.{events_asked}
use Rattle.mc_live.specs.declared.box_run.BoxRun.{BoxRun}
use Rattle.mc_live.specs.declared.course.Pace.{Pace}
use Rattle.mc_live.specs.declared.course.Pace.TheVariants.{Runs, Finished, Stopped, Unfit, Refused}
use Rattle.mc_live.specs.declared.limit.TheConstants.{FURTHER_ROUND_LIMIT}
use Rattle.std.proofs.lemmas.Simd.{map-map}
use Rattle.mc_laws.specs.Measures.{under_way}
use Rattle.mc_live.proofs.Counted.{are_below, count_total, have_numbers, lengths_mapped, lengths_total, run_below, sum_total}
use Rattle.mc_live.proofs.Counts.{signals_count}
use Rattle.mc_merge.specs.LaneLogs.{claimed_of, without_stamps}
use Rattle.mc_model.specs.Settles.{commands_of, of_kind}
use Rattle.mc_model.specs.Steps.{run}
use Rattle.mc_model.specs.Worlds.{ChannelState, WorldState}
use Rattle.mc_port.specs.Ends.{without_stamp}
use Rattle.mc_port.specs.Entries.{Claimed, count_sent, events_that}
use Rattle.mc_port.specs.declared.stamped.Stamped.{Stamped}
use Rattle.mc_signal.specs.declared.Tagged.{Tagged}
use Rattle.mc_slot_laws.specs.Sums.{total}
use Rattle.mc_team.proofs.Claiming.{turns_are_claimed}
use Rattle.mc_team.proofs.Standing.{stand_kept}
use Rattle.mc_team.proofs.TurnsRun.{turns_own, turns_run}
use Rattle.mc_team.proofs.TurnsStamps.{turns_by}
use Rattle.mc_team.proofs.TurnsStrange.{strange_never}
use Rattle.mc_team.specs.Carries.{CarriesLanes, MemberRest, rest_of}
use Rattle.mc_team.specs.Ends.{parts_of}
use Rattle.mc_team.specs.Logs.{AreTurnsOf}
use Rattle.mc_team.specs.Rounds.{round_logs}
use Rattle.mc_team.specs.Teams.{StandForWorld, world_of}
use Rattle.mc_team.specs.Turns.{AreTurnsClaimed, HasEndsOf, HasWorked, HaveWorked, MadeTurns}
use Rattle.mc_team.specs.declared.layout.LaneEnds.{LaneEnds}
use Rattle.mc_team.specs.declared.member.Member.{Member}
use Rattle.mc_worker.specs.Account.{logged}
use Rattle.mc_worker.specs.Rounds.{HasStopped}
use Rattle.mc_worker.specs.declared.limit.TheConstants.{TURN_LIMIT}
use Rattle.mc_worker.specs.declared.logged.Logged.{Logged}
use Rattle.mc_worker.specs.declared.stop.Stop.TheVariants.{Strange}
use Rattle.mc_worker.specs.declared.worker.Worker.{Worker}

-- ---- one box

-- a worker that was set free has all that stands at the channel ends of its member, whatever commands it has
free_ends : (member : Member) (free : BoxRun) (one : Worker) → one ≡ record free.worker { stimuli = one.stimuli } → IsSetFree member free → HasEndsOf member.worker one
free_ends member free one is set = record {
  part = ap (λ (w : Worker). w.part) is ∙ ap (λ (w : Worker). w.part) set.worker;
  place = ap (λ (w : Worker). w.place) is ∙ ap (λ (w : Worker). w.place) set.worker;
  ins = ap (λ (w : Worker). w.ins) is ∙ ap (λ (w : Worker). w.ins) set.worker;
  outs = ap (λ (w : Worker). w.outs) is ∙ ap (λ (w : Worker). w.outs) set.worker;
  inboxes = ap (λ (w : Worker). w.inboxes) is ∙ ap (λ (w : Worker). w.inboxes) set.worker;
  outboxes = ap (λ (w : Worker). w.outboxes) is ∙ ap (λ (w : Worker). w.outboxes) set.worker;
}

-- the commands that were made, and then those that are left, are the events that were asked for
told_commands : (made stimuli kept before own added asked taken : List Event) → made ++ stimuli ≡ before → before ≡ own ++ added → own ≡ [] → taken ≡ added ++ kept → asked ≡ taken → made ++ (stimuli ++ kept) ≡ asked
told_commands made stimuli kept before own added asked taken all is none are same =
    sym (append_assoc made stimuli kept) ∙ (ap (λ (l : List Event). l ++ kept) (all ∙ (is ∙ ap (λ (l : List Event). l ++ added) none)) ∙ (sym are ∙ sym same))

come_worked : (member : Member) (began free : BoxRun) → IsSetFree member began → HasCome began.worker free.worker (sent_count free.seat) (taken_count free.seat) free.course → taken_by free.taker ≡ free.course.taken.items
    → (desk : Desk) → HasRunFreely desk began free → (before : Worker) × (log : List Claimed) × HasWorked member (member_of free) before log × IsTold free log
come_worked member began free set come same desk ran =
    let one = come.run.run in
    let before : Worker = with_commands began.worker one.before in
    let work = one.account.work in
    let few = come.few in
    let turns = one.turns_is in
    let none : began.worker.stimuli.items ≡ [] = ap (λ (w : Worker). w.stimuli.items) set.worker ∙ set.no_command in (
      before,
      one.log,
      record {
        ends = free_ends member began before refl set;
        stamp = ap (λ (w : Worker). w.stamp) set.worker;
        work = work;
        logs = work.logs ∙ ap (λ (l : List Logged). l ++ map logged one.log) set.log;
        short = omega (arith, few, turns);
        ready = ran.on.ready;
      },
      record {
        turns = turns;
        sent = one.sent_is;
        took = one.took_is;
        commands = told_commands (events_that is_command one.log) free.worker.stimuli.items free.course.kept.items one.before.items began.worker.stimuli.items come.added (events_asked (taken_by free.taker)) (events_asked free.course.taken.items)
            work.stimuli one.before_is none come.asked (ap events_asked same);
      },
    )

-- a box that ran freely, and had memory, made turns that its course and its seat tell of
box_worked : (member : Member) (began free : BoxRun) (desk : Desk) → IsSetFree member began → HasRunFreely desk began free → is_refused free.course.pace ≡ false
    → (before : Worker) × (log : List Claimed) × HasWorked member (member_of free) before log × IsTold free log
box_worked member began free desk set ran calm = elim ran.on.come [
  | inl refused ↦ cc
  | inr both ↦ come_worked member began free set both.0 both.1 desk ran
]

-- ---- all boxes

pub zip_there : {X Y : Type 0} (R : X → Y → Type 0) (xs : List X) (ys : List Y) (k : ℕ) (x : X) → AllZip R xs ys → slice_get xs k ≡ Some x → (y : Y) × (slice_get ys k ≡ Some y) × R x y
zip_there R [] ys k x all at = absurd (cc)
zip_there R (w ∷ xs) [] k x all at = absurd all
zip_there R (w ∷ xs) (y ∷ ys) zero x all at = let same : w ≡ x = cc in (y, refl, subst (λ v. R v y) same all.0)
zip_there R (w ∷ xs) (y ∷ ys) (suc k) x all at = zip_there R xs ys k x all.1 at

pub zip_count : {X Y : Type 0} (R : X → Y → Type 0) (xs : List X) (ys : List Y) → AllZip R xs ys → length ys ≡ length xs
zip_count R [] [] all = omega arith
zip_count R [] (y ∷ ys) all = absurd all
zip_count R (x ∷ xs) [] all = absurd all
zip_count R (x ∷ xs) (y ∷ ys) all = let rest = zip_count R xs ys all.1 in omega (arith, rest)

pub three_count : {X Y Z : Type 0} (R : X → Y → Z → Type 0) (xs : List X) (ys : List Y) (zs : List Z) → AllThree R xs ys zs → length zs ≡ length ys
three_count R [] [] [] all = omega arith
three_count R (x ∷ xs) (y ∷ ys) (z ∷ zs) all = let rest = three_count R xs ys zs all.1 in omega (arith, rest)
three_count R [] [] (z ∷ zs) all = absurd all
three_count R [] (y ∷ ys) zs all = absurd all
three_count R (x ∷ xs) [] zs all = absurd all
three_count R (x ∷ xs) (y ∷ ys) [] all = absurd all

pub three_at : {X Y Z : Type 0} (R : X → Y → Z → Type 0) (xs : List X) (ys : List Y) (zs : List Z) (k : ℕ) (y : Y) (z : Z) → AllThree R xs ys zs → slice_get ys k ≡ Some y → slice_get zs k ≡ Some z → (x : X) × R x y z
three_at R [] [] [] k y z all p q = absurd (cc)
three_at R (x ∷ xs) (v ∷ ys) (w ∷ zs) zero y z all p q =
    let one : v ≡ y = cc in
    let two : w ≡ z = cc in
    (x, subst (λ s. R x y s) two (subst (λ s. R x s w) one all.0))
three_at R (x ∷ xs) (v ∷ ys) (w ∷ zs) (suc k) y z all p q = three_at R xs ys zs k y z all.1 p q
three_at R [] [] (w ∷ zs) k y z all p q = absurd all
three_at R [] (v ∷ ys) zs k y z all p q = absurd all
three_at R (x ∷ xs) [] zs k y z all p q = absurd all
three_at R (x ∷ xs) (v ∷ ys) [] k y z all p q = absurd all

pub all_at : {X : Type 0} (P : X → Type 0) (xs : List X) (k : ℕ) (x : X) → AllByRecursion P xs → slice_get xs k ≡ Some x → P x
all_at P [] k x all at = absurd (cc)
all_at P (w ∷ xs) zero x all at = let same : w ≡ x = cc in subst P same all.0
all_at P (w ∷ xs) (suc k) x all at = all_at P xs k x all.1 at

-- the member at a place is that of the box that ran there
pub member_at : (free : List BoxRun) (k : ℕ) (member : Member) → slice_get (map member_of free) k ≡ Some member → (own : BoxRun) × (slice_get free k ≡ Some own) × (member_of own ≡ member)
member_at [] k member at = absurd (cc)
member_at (own ∷ free) zero member at = let same : member_of own ≡ member = cc in (own, refl, same)
member_at (own ∷ free) (suc k) member at = member_at free k member at

pub member_there : (free : List BoxRun) (k : ℕ) (own : BoxRun) → slice_get free k ≡ Some own → slice_get (map member_of free) k ≡ Some (member_of own)
member_there [] k own at = absurd (cc)
member_there (first ∷ free) zero own at = let same : first ≡ own = cc in ap (λ (f : BoxRun). Some (member_of f)) same
member_there (first ∷ free) (suc k) own at = member_there free k own at

-- what is known of the turns of the box at a place
abbrev pub TellsAt : List BoxRun → ℕ → Member → Member → List Claimed → Type 0
TellsAt free who a c log = (own : BoxRun) → slice_get free who ≡ Some own → IsTold own log

told_at : (free : List BoxRun) (who : ℕ) (own : BoxRun) (a c : Member) (log : List Claimed) → slice_get free who ≡ Some own → IsTold own log → TellsAt free who a c log
told_at free who own a c log at told other there = let same : own ≡ other = cc in subst (λ (o : BoxRun). IsTold o log) same told

each_worked : (old : List Member) (desks : List Desk) (began free : List BoxRun) (who : ℕ) (a c : Member) → AreSetFree old began → HaveRunFreely desks began free → NoneRefused free
    → slice_get old who ≡ Some a → slice_get (map member_of free) who ≡ Some c → (before : Worker) × (log : List Claimed) × HasWorked a c before log × TellsAt free who a c log
each_worked old desks began free who a c set ran calm p q =
    let first = zip_there IsSetFree old began who a set p in
    let last = member_at free who c q in
    let own : BoxRun = last.0 in
    let three = three_at HasRunFreely desks began free who first.0 own ran first.1 last.1 in
    let memory = all_at (λ (o : BoxRun). is_refused o.course.pace ≡ false) free who own calm last.1 in
    let worked = box_worked a first.0 own three.0 first.2 three.1 memory in
    (worked.0, worked.1, subst (λ (m : Member). HasWorked a m worked.0 worked.1) last.2 worked.2, told_at free who own a c worked.1 last.1 worked.3)

pub have_worked : (old : List Member) (desks : List Desk) (began free : List BoxRun) → AreSetFree old began → HaveRunFreely desks began free → NoneRefused free → HaveWorked (TellsAt free) old (map member_of free)
have_worked old desks began free set ran calm = record {
  count = length-map free member_of ∙ (three_count HasRunFreely desks began free ran ∙ zip_count IsSetFree old began set);
  each = λ who a c p q. each_worked old desks began free who a c set ran calm p q;
}

-- the member from which a box began
before_at : (old : List Member) (began free : List BoxRun) (desks : List Desk) (who : ℕ) (own : BoxRun) → AreSetFree old began → HaveRunFreely desks began free → slice_get free who ≡ Some own → (a : Member) × (slice_get old who ≡ Some a)
before_at old began free desks who own set ran at =
    let there = slice_get_within free who own at in
    let one = three_count HasRunFreely desks began free ran in
    let two = zip_count IsSetFree old began set in
    let d = member_of own in
    (slice_index_or old who d, slice_get-get_or old who d (omega (arith, there, one, two)))

abbrev run_from : List ChannelState → List LaneEnds → List Member → List Turn → Option WorldState
run_from channels lanes old turns = run (world_of channels old lanes) turns

-- what is known of each box's own turns
told_each : {channels : List ChannelState} {lanes : List LaneEnds} {old new : List Member} (desks : List Desk) (began free : List BoxRun) (turns : List Turn)
    → AreSetFree old began → HaveRunFreely desks began free → AreTurnsOf (round_logs new) turns → AreTurnsClaimed (TellsAt free) channels lanes old (map member_of free) new
    → (who : ℕ) (own : BoxRun) → slice_get free who ≡ Some own → (log : List Claimed) × IsTold own log × AreOwnTurns turns who log
told_each {old = old} desks began free turns set ran are claimed who own at =
    let a = before_at old began free desks who own set ran at in (
      claimed_of claimed.logs who,
      claimed.each who a.0 (member_of own) a.1 (member_there free who own at) own at,
      λ kind. ap (of_kind kind who) are.are ∙ turns_own claimed are.keys are.ordered who kind,
    )

-- so its commands, and then those that are left, are what it was asked
asked_each : (who : ℕ) (own : BoxRun) (turns : List Turn) (log : List Claimed) → IsTold own log → AreOwnTurns turns who log → commands_of who turns ++ map (turn_of who) (left_by own) ≡ map (turn_of who) (events_asked (taken_by own.taker))
asked_each who own turns log told are =
    ap (λ (l : List Turn). l ++ map (turn_of who) (left_by own)) (are is_command)
    ∙ (sym (map-append (turn_of who) (events_that is_command log) (left_by own)) ∙ ap (map (turn_of who)) told.commands)

-- why commands are left to a box
left_by_pace : (pace : Pace) (a : Worker) (own : BoxRun) → (pace ≡ Runs → own.worker.stimuli.items ≡ []) → box_shape own.worker.part ≡ box_shape a.part → taken_by own.taker ≡ own.course.taken.items
    → GoesSo a own.worker own.course.taken.items own.course.kept.items own.course.turns pace → IsLeftSo own pace
left_by_pace Runs a own used shape same so = ap (λ (l : List Event). l ++ own.course.kept.items) (used refl) ∙ so.1
left_by_pace Finished a own used shape same so = so
left_by_pace (Stopped stop) a own used shape same so = so
left_by_pace Unfit a own used shape same so = λ all.
    so (subst (λ (s : BoxShapeState). AllByRecursion (λ (event : Event). IsTrue (is_enabled_by s event)) (events_asked own.course.taken.items)) shape (subst (AreAllAllowed own.worker) same all))
left_by_pace (Refused e) a own used shape same so = so

left_at : (desk : Desk) (began own : BoxRun) → HasRunFreely desk began own → is_refused own.course.pace ≡ false → IsLeftSo own own.course.pace
left_at desk began own ran calm = elim ran.on.come [
  | inl refused ↦ cc
  | inr both ↦ left_by_pace own.course.pace began.worker own ran.used both.0.run.shape both.1 both.0.goes
]

-- a fact that each run tells of its box where memory wasn't wanting
each_free : (P : BoxRun → Type 0) (desks : List Desk) (began free : List BoxRun) (who : ℕ) (own : BoxRun) → ((desk : Desk) (first : BoxRun) → HasRunFreely desk first own → is_refused own.course.pace ≡ false → P own)
    → HaveRunFreely desks began free → NoneRefused free → slice_get free who ≡ Some own → P own
each_free P desks began free who own tells ran calm at =
    let there = slice_get_within free who own at in
    let long = three_count HasRunFreely desks began free ran in
    let first = slice_get-get_or began who own (omega (arith, there, long)) in
    let three = three_at HasRunFreely desks began free who (slice_index_or began who own) own ran first at in
    tells three.0 (slice_index_or began who own) three.1 (all_at (λ (o : BoxRun). is_refused o.course.pace ≡ false) free who own calm at)

-- nothing is kept where all that was asked is allowed
kept_none : (own : BoxRun) (desk : Desk) (began : BoxRun) → HasRunFreely desk began own → is_refused own.course.pace ≡ false → AreAllAllowed own.worker (taken_by own.taker) → own.course.kept.items ≡ []
kept_none own desk began ran calm all = elim ran.on.come [
  | inl refused ↦ cc
  | inr both ↦
      both.0.none_kept
      (subst (λ (s : BoxShapeState). AllByRecursion (λ (event : Event). IsTrue (is_enabled_by s event)) (events_asked own.course.taken.items)) both.0.run.shape (subst (AreAllAllowed own.worker) both.1 all))
]

-- and its turns are few
few_turns : (own : BoxRun) (desk : Desk) (began : BoxRun) → HasRunFreely desk began own → is_refused own.course.pace ≡ false → own.course.turns ≤ FURTHER_ROUND_LIMIT + TURN_LIMIT
few_turns own desk began ran calm = elim ran.on.come [
  | inl refused ↦ cc
  | inr both ↦ both.0.few
]

-- a stop at a strange signal is one
strange_stop : (own : BoxRun) (desk : Desk) (began : BoxRun) (end tunnel : ℕ) → HasRunFreely desk began own → is_refused own.course.pace ≡ false → own.course.pace ≡ Stopped (Strange end tunnel) → HasStopped (Unit {0}) own.worker (Strange end tunnel)
strange_stop own desk began end tunnel ran calm is = elim ran.on.come [
  | inl refused ↦ cc
  | inr both ↦ subst (GoesSo began.worker own.worker own.course.taken.items own.course.kept.items own.course.turns) is both.0.goes
]

left_each : (desks : List Desk) (began free : List BoxRun) (who : ℕ) (own : BoxRun) → HaveRunFreely desks began free → NoneRefused free → slice_get free who ≡ Some own → IsLeftSo own own.course.pace
left_each desks began free who own ran calm at = each_free (λ (o : BoxRun). IsLeftSo o o.course.pace) desks began free who own (λ desk first one memory. left_at desk first own one memory) ran calm at

-- ---- how many turns and signals

-- the logs are no longer than a box may make turns
logs_few : (old : List Member) (desks : List Desk) (began free : List BoxRun) → AreSetFree old began → HaveRunFreely desks began free → NoneRefused free
    → (who : ℕ) (member : Member) → slice_get (map member_of free) who ≡ Some member → length member.worker.log.items ≤ FURTHER_ROUND_LIMIT + TURN_LIMIT
logs_few old desks began free set ran calm who member at =
    let found = member_at free who member at in
    let own : BoxRun = found.0 in
    let a = before_at old began free desks who own set ran found.1 in
    let worked = each_worked old desks began free who a.0 member set ran calm a.1 at in
    let told : IsTold own worked.1 = worked.3 own found.1 in
    let is : length member.worker.log.items ≡ length worked.1 = ap (λ (l : List Logged). length l) worked.2.logs ∙ length-map worked.1 logged in
    let few : own.course.turns ≤ FURTHER_ROUND_LIMIT + TURN_LIMIT = each_free (λ (o : BoxRun). o.course.turns ≤ FURTHER_ROUND_LIMIT + TURN_LIMIT) desks began free who own (λ desk first one memory. few_turns own desk first one memory) ran calm found.1 in
    omega (arith, is, few, told.turns)

-- what a run tells of its box holds of its log as the merge law has it
told_log : {channels : List ChannelState} {lanes : List LaneEnds} {old new : List Member} (desks : List Desk) (began free : List BoxRun)
    → AreSetFree old began → HaveRunFreely desks began free → (claimed : AreTurnsClaimed (TellsAt free) channels lanes old (map member_of free) new)
    → (who : ℕ) (own : BoxRun) → slice_get free who ≡ Some own → IsTold own (claimed_of claimed.logs who)
told_log {old = old} desks began free set ran claimed who own at =
    let a = before_at old began free desks who own set ran at in
    claimed.each who a.0 (member_of own) a.1 (member_there free who own at) own at

-- there are as many boxes as ran
free_count : (old : List Member) (desks : List Desk) (began free : List BoxRun) → AreSetFree old began → HaveRunFreely desks began free → length free ≡ length old
free_count old desks began free set ran = three_count HasRunFreely desks began free ran ∙ zip_count IsSetFree old began set

-- what was counted as taken, box by box, are the Takes
takes_counted : {channels : List ChannelState} {lanes : List LaneEnds} {old new : List Member} (desks : List Desk) (began free : List BoxRun) (turns : List Turn)
    → AreSetFree old began → HaveRunFreely desks began free → AreTurnsOf (round_logs new) turns → AreTurnsClaimed (TellsAt free) channels lanes old (map member_of free) new
    → are_below (length free) turns ≡ true → sum_by (λ (own : BoxRun). taken_count own.seat) free ≡ count_by (λ (turn : Turn). is_take turn.event) turns
takes_counted desks began free turns set ran are claimed below =
    sym (sum_total (λ (own : BoxRun). taken_count own.seat) free (λ (who : ℕ). count_by (λ (turn : Turn). is_take turn.event && turn.who == who) turns)
    (λ who own at.
    let tells = told_each desks began free turns set ran are claimed who own at in
    let told : IsTold own tells.0 = tells.1 in
    sym (length-filter (λ (turn : Turn). is_take turn.event && turn.who == who) turns)
    ∙ (ap (λ (l : List Turn). length l) (tells.2 is_take) ∙ (length-map (events_that is_take tells.0) (turn_of who) ∙ sym told.took))))
    ∙ count_total (λ (turn : Turn). is_take turn.event) turns (length free) below

-- what is under way after them
under_way_after : {channels : List ChannelState} {lanes : List LaneEnds} {old ran new : List Member} {Known : ℕ → Member → Member → List Claimed → Type 0} (claimed : AreTurnsClaimed Known channels lanes old ran new) → length claimed.rests ≡ length (world_of channels old lanes).lanes
    → total (λ (lane : ℕ). length (slice_index_or claimed.rests lane [])) (length (world_of channels old lanes).lanes) ≡ under_way (world_of channels new lanes)
under_way_after {channels = channels} {lanes = lanes} {new = new} claimed many =
    ap (total (λ (lane : ℕ). length (slice_index_or claimed.rests lane []))) (sym many)
    ∙ (lengths_total claimed.rests
    ∙ (sym (lengths_mapped without_stamps (λ (l : List Stamped). length-map l without_stamp) claimed.rests) ∙ ap (λ (ls : List (List Tagged)). sum_by length ls) claimed.under_way))

-- and so all signals are counted
signals_counted : {channels : List ChannelState} {lanes : List LaneEnds} {old new : List Member} (ends : List (List ℕ)) (desks : List Desk) (began free : List BoxRun) → StandForWorld channels old lanes ends
    → AreSetFree old began → HaveRunFreely desks began free → AreTurnsClaimed (TellsAt free) channels lanes old (map member_of free) new
    → under_way (world_of channels old lanes) + sum_by (λ (own : BoxRun). sent_count own.seat) free ≡ sum_by (λ (own : BoxRun). taken_count own.seat) free + under_way (world_of channels new lanes)
signals_counted {channels = channels} {lanes = lanes} {old = old} {new = new} ends desks began free stand set ran claimed =
    let world : WorldState = world_of channels old lanes in
    let logs : List (List Claimed) = claimed.logs in
    let count = signals_count world logs (parts_of new) claimed.rests claimed.claimed stand.sound.numbered stand.within (have_numbers world logs (parts_of new) claimed.rests claimed.claimed stand.sound) in
    let boxes : length world.boxes ≡ length free = length-map old (λ (m : Member). m.worker.part) ∙ sym (free_count old desks began free set ran) in
    let sent : total (λ (who : ℕ). count_sent (claimed_of logs who)) (length free) ≡ sum_by (λ (own : BoxRun). sent_count own.seat) free =
    sum_total (λ (own : BoxRun). sent_count own.seat) free (λ (who : ℕ). count_sent (claimed_of logs who)) (λ who own at. sym (told_log desks began free set ran claimed who own at).sent) in
    let taken : total (λ (who : ℕ). length (events_that is_take (claimed_of logs who))) (length free) ≡ sum_by (λ (own : BoxRun). taken_count own.seat) free =
    sum_total (λ (own : BoxRun). taken_count own.seat) free (λ (who : ℕ). length (events_that is_take (claimed_of logs who))) (λ who own at. sym (told_log desks began free set ran claimed who own at).took) in
    let sent_all : total (λ (who : ℕ). count_sent (claimed_of logs who)) (length world.boxes) ≡ sum_by (λ (own : BoxRun). sent_count own.seat) free = ap (total (λ (who : ℕ). count_sent (claimed_of logs who))) boxes ∙ sent in
    let taken_all : total (λ (who : ℕ). length (events_that is_take (claimed_of logs who))) (length world.boxes) ≡ sum_by (λ (own : BoxRun). taken_count own.seat) free = ap (total (λ (who : ℕ). length (events_that is_take (claimed_of logs who)))) boxes ∙ taken in
    let before = lengths_total world.lanes in
    let later = under_way_after claimed claimed.claimed.lane_count in
    omega (arith, count, sent_all, taken_all, before, later)

-- the boxes stay in the carrying
parts_carried : (lanes : List LaneEnds) (free : List BoxRun) (new : List Member) → CarriesLanes lanes (map member_of free) new → parts_of new ≡ map (λ (own : BoxRun). own.worker.part) free
parts_carried lanes free new carried =
    sym (map-map (λ (r : MemberRest). r.part) rest_of new)
    ∙ (ap (map (λ (r : MemberRest). r.part)) carried.boxes.rest
    ∙ (map-map (λ (r : MemberRest). r.part) rest_of (map member_of free) ∙ map-map (λ (m : Member). m.worker.part) member_of free))

-- ---- the law

pub free_runs_are_runs : FreeRunsAreRuns
free_runs_are_runs channels lanes ends old new desks began free turns stand set ran calm carried are =
    let made : MadeTurns (TellsAt free) lanes old (map member_of free) new = record { run = have_worked old desks began free set ran calm; carried = carried } in
    let claimed : AreTurnsClaimed (TellsAt free) channels lanes old (map member_of free) new = turns_are_claimed (TellsAt free) channels lanes ends old (map member_of free) new stand made in
    let goes : run (world_of channels old lanes) turns ≡ Some (world_of channels new lanes) = ap (run_from channels lanes old) are.are ∙ turns_run claimed are.keys are.ordered in
    record {
      stand = stand_kept made channels ends claimed stand;
      runs = goes;
      each = λ who own at. told_each desks began free turns set ran are claimed who own at;
      commands = λ who own at.
          let tells = told_each desks began free turns set ran are claimed who own at in
          asked_each who own turns tells.0 tells.1 tells.2;
      left = λ who own at. left_each desks began free who own ran calm at;
      parts = parts_carried lanes free new carried;
      none_kept = λ who own at all. each_free (λ (o : BoxRun). o.course.kept.items ≡ []) desks began free who own (λ desk first one memory. kept_none own desk first one memory all) ran calm at;
      none_strange = λ few who own at end tunnel is.
          strange_never (Unit {0}) (turns_by (FURTHER_ROUND_LIMIT + TURN_LIMIT) channels lanes ends old (map member_of free) new stand made (logs_few old desks began free set ran calm) few) who end tunnel (member_of own) (member_there free who own at)
          (each_free (λ (o : BoxRun). HasStopped (Unit {0}) o.worker (Strange end tunnel)) desks began free who own (λ desk first one memory. strange_stop own desk first end tunnel one memory is) ran calm at);
      takes = takes_counted desks began free turns set ran are claimed
          (subst (λ (n : ℕ). are_below n turns ≡ true) (length-map old (λ (m : Member). m.worker.part) ∙ sym (free_count old desks began free set ran))
          (run_below turns (world_of channels old lanes) (world_of channels new lanes) stand.sound goes));
      signals = signals_counted ends desks began free stand set ran claimed;
    }
