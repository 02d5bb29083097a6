-- What a box does it does with one slot more, too: its events are of slots that were there.
use Rattle.std.proofs.Common.{◌≡◌, ◌<◌, ◌+◌, ◌==◌, min, max, if◌then◌else◌, ℕ, zero, suc, Bool, true, false, Option, Some, None, List, [], ◌∷◌, ◌++◌, length, map, refl, ap, sym, ◌∙◌, subst, arith}
use Rattle.std.specs.Option.{is_some, option_map, option_and_then}
use Rattle.std.proofs.Math.ListN.{set}
use Rattle.std.proofs.lemmas.List.{length-set}
use Rattle.mc_link.specs.declared.Side.{Side}
use Rattle.mc_link.specs.LinkTurn.{closed_side, link_turn, with_number}
use Rattle.mc_signal.specs.declared.Signal.{Signal}
use Rattle.mc_slot.specs.EndTurn.{cause_of, end_turn, is_push}
use Rattle.mc_slot.specs.Moves.{Took, slot_send_all, slot_take}
use Rattle.mc_slot.specs.Sending.{pair_of}
use Rattle.mc_slot.specs.declared.Cause.{Cause}
use Rattle.mc_slot.specs.declared.Cause.TheVariants.{Other, Push}
use Rattle.mc_slot.specs.declared.Goal.{Goal}
use Rattle.mc_slot.specs.declared.Goal.TheVariants.{Close as ToClose}
use Rattle.mc_slot.specs.declared.Slot.{Slot}
use Rattle.mc_slot.specs.declared.SlotGoal.{SlotGoal}
use Rattle.mc_slot.specs.declared.SlotGoal.TheVariants.{End, Link}
use Rattle.mc_box.specs.BoxEvents.{BoxStep, box_event, enabled_shift, event_step, hear_step, take_step, talk_step, with_answer, with_hearing, with_talking, end_step, goal_step, goal_step_by, goal_steps, is_enabled, pair_step, sends_first, set_step, side_of}
use Rattle.mc_box.specs.BoxSound.{IsSoundBox, IsWired}
use Rattle.mc_box.specs.Boxes.{BoxState, box_owes, first_media, first_slot, media_at, with_media, goal_at, is_slot, own, sender, slot_at, with_goals, with_new_slot, with_slot}
use Rattle.mc_box.specs.BoxShapes.{is_device}
use Rattle.mc_box.specs.Goals.{change_goals, changed_from, changed_slots, goal_after, goals_from, has_turn}
use Rattle.std.proofs.lemmas.Bool.{and_parts, lt-ltb, ne_eqb}
use Rattle.mc_laws.proofs.Numbers.{slot_inside}
use Rattle.mc_box.proofs.Changes.{change_wired, fits, length_goals_from}
use Rattle.mc_box.specs.declared.event.Change.{Change}
use Rattle.mc_box.specs.declared.event.Change.TheVariants.{End as NewEnd, Link as NewLink}
use Rattle.mc_box.specs.declared.event.Event.TheVariants.{Take, Set, Media, Tell, Retry, Shift}
use Rattle.mc_box.specs.declared.event.Event.{Event}
use Rattle.mc_box.specs.declared.event.MediaChange.TheVariants.{Hear, Talk}
use Rattle.mc_box.specs.declared.limit.TheConstants.{LAST_VERSION}
use Rattle.mc_box.specs.declared.setup.SlotMedia.{SlotMedia}
use Rattle.mc_rule.specs.Programs.{ProgStateState, enabled}
use Rattle.mc_rule.specs.declared.Shifted.{Shifted}
use Rattle.mc_box.proofs.Events.{event_goes, media_wired, taking_is, took_wired}
use Rattle.mc_growth.specs.GrowthLaws.{EventWidens}
use Rattle.mc_growth.proofs.Lists.{length_one}
use Rattle.mc_box.specs.declared.setup.SlotSetup.{SlotSetup}
use Rattle.mc_box.proofs.AddedSlots.{goal_added, media_before, own_before, sender_before, slot_before}
use Rattle.mc_box.proofs.Folds.{AreInside, changed_inside}
use Rattle.mc_box.proofs.GoalTurns.{end_form, pair_form, turned}
use Rattle.mc_box.proofs.Options.{else_some, map_some, then_some}

-- the same step of the box with one slot more
abbrev pub wide : SlotSetup → BoxStep → BoxStep
wide setup step = record step { after = with_new_slot step.after setup }

-- ---- slots that are set

set_before : {X : Type 0} (xs : List X) (y x : X) (i : ℕ) → i < length xs → set (xs ++ y ∷ []) i x ≡ set xs i x ++ y ∷ []
set_before [] y x i below = absurd (omega arith)
set_before (z ∷ zs) y x zero below = refl
set_before (z ∷ zs) y x (suc i) below = ap (λ (l : List _). z ∷ l) (set_before zs y x i (omega arith))

set_wide : (box : BoxState) (setup : SlotSetup) (local : ℕ) (slot : Slot) → local < length box.slots → with_slot (with_new_slot box setup) local slot ≡ with_new_slot (with_slot box local slot) setup
set_wide box setup local slot below = ap (λ (l : List Slot). record (with_new_slot box setup) { slots = l }) (set_before box.slots (first_slot setup) slot local below)

-- ---- one turn

end_made : (goal : Goal) (box : BoxState) (local : ℕ) (cause : Cause) (last : Slot)
    → slot_send_all (slot_at box local) (end_turn goal (slot_at box local) (is_push cause) (own box local) (sender box local)) ≡ Some last
    → end_step goal box local cause ≡ Some (record { sent = map (pair_of local) (end_turn goal (slot_at box local) (is_push cause) (own box local) (sender box local)); after = with_slot box local last })
end_made goal box local cause last goes =
    ap (option_map (λ (after : Slot). record { sent = map (pair_of local) (end_turn goal (slot_at box local) (is_push cause) (own box local) (sender box local)); after = with_slot box local after })) goes

end_wide : (goal : Goal) (box : BoxState) (setup : SlotSetup) (local : ℕ) (cause : Cause) (step : BoxStep) → local < length box.slots → local < length box.media
    → end_step goal box local cause ≡ Some step → end_step goal (with_new_slot box setup) local cause ≡ Some (wide setup step)
end_wide goal box setup local cause step below within goes =
    let form = end_form box local goal cause step goes in
    let slot = slot_before box setup local below in
    let mine = own_before box setup local within in
    let me = sender_before box setup local within in
    let there : slot_send_all (slot_at (with_new_slot box setup) local) (end_turn goal (slot_at (with_new_slot box setup) local) (is_push cause) (own (with_new_slot box setup) local) (sender (with_new_slot box setup) local)) ≡ Some form.last =
    rw (slot, mine, me) form.goes in
    let sent : map (pair_of local) (end_turn goal (slot_at (with_new_slot box setup) local) (is_push cause) (own (with_new_slot box setup) local) (sender (with_new_slot box setup) local))
    ≡ map (pair_of local) (end_turn goal (slot_at box local) (is_push cause) (own box local) (sender box local)) = rw (slot, mine, me) refl in
    end_made goal (with_new_slot box setup) local cause form.last there
    ∙ (ap (λ (l : List (ℕ × Signal)). Some (record { sent = l; after = with_slot (with_new_slot box setup) local form.last })) sent
    ∙ (ap (λ (b : BoxState). Some (record { sent = map (pair_of local) (end_turn goal (slot_at box local) (is_push cause) (own box local) (sender box local)); after = b })) (set_wide box setup local form.last below)
    ∙ ap (λ (s : BoxStep). Some (wide setup s)) form.is))

pair_wide : (box : BoxState) (setup : SlotSetup) (low high : ℕ) (closed : Option Side) (step : BoxStep) → low < length box.slots → high < length box.slots
    → pair_step box low high closed ≡ Some step → pair_step (with_new_slot box setup) low high closed ≡ Some (wide setup step)
pair_wide box setup low high closed step one two goes =
    let form = pair_form box low high closed step goes in
    let near = slot_before box setup low one in
    let away = slot_before box setup high two in
    let after : with_slot (with_slot (with_new_slot box setup) low form.first) high form.second ≡ with_new_slot (with_slot (with_slot box low form.first) high form.second) setup =
    ap (λ (b : BoxState). with_slot b high form.second) (set_wide box setup low form.first one)
    ∙ set_wide (with_slot box low form.first) setup high form.second (subst (λ (n : ℕ). high < n) (sym (length-set box.slots low form.first)) two) in
    rw (near, away, form.first_goes, form.second_goes)
    (ap (λ (b : BoxState). Some (record { sent = map (with_number low high) (link_turn (slot_at box low) (slot_at box high) closed); after = b })) after ∙ ap (λ (s : BoxStep). Some (wide setup s)) form.is)

turn_wide_by : (goal : SlotGoal) (box : BoxState) (setup : SlotSetup) (local : ℕ) (cause : Cause) (step : BoxStep) → IsWired box → local < length box.slots → goal_at box local ≡ goal
    → goal_step_by goal box local cause ≡ Some step → goal_step_by goal (with_new_slot box setup) local cause ≡ Some (wide setup step)
turn_wide_by (End goal) box setup local cause step wired below is goes = end_wide goal box setup local cause step below (omega (arith, wired.whole.media, below)) goes
turn_wide_by (Link partner) box setup local cause step wired below is goes =
    let there = (wired.links local partner is).inside in
    let low : min local partner < length box.slots = omega arith in
    let high : max local partner < length box.slots = omega arith in
    pair_wide box setup (min local partner) (max local partner) (closed_side cause (side_of local partner)) step low high goes

-- the turn of a slot's goal is the same with one slot more
pub turn_wide : (box : BoxState) (setup : SlotSetup) (local : ℕ) (cause : Cause) (step : BoxStep) → IsWired box → local < length box.slots → goal_step box local cause ≡ Some step
    → goal_step (with_new_slot box setup) local cause ≡ Some (wide setup step)
turn_wide box setup local cause step wired below goes =
    ap (λ (goal : SlotGoal). goal_step_by goal (with_new_slot box setup) local cause) (goal_added box setup local) ∙ turn_wide_by (goal_at box local) box setup local cause step wired below refl goes

-- and so are several
pub turns_wide : (locals : List ℕ) (box : BoxState) (setup : SlotSetup) (step : BoxStep) → IsWired box → AreInside (length box.slots) locals → goal_steps box locals ≡ Some step
    → goal_steps (with_new_slot box setup) locals ≡ Some (wide setup step)
turns_wide [] box setup step wired inside goes = let same : record { sent = []; after = box } ≡ step = cc in ap (λ (s : BoxStep). Some (wide setup s)) same
turns_wide (local ∷ locals) box setup step wired inside goes =
    let one = then_some (λ (turn : BoxStep). option_map (sends_first turn.sent) (goal_steps turn.after locals)) (goal_step box local Push) step goes in
    let two = map_some (sends_first one.0.sent) (goal_steps one.0.after locals) step one.2 in
    let made = turned box local Push one.0 wired inside.0 one.1 in
    let size = ap (λ (b : BoxState). length b.slots) made.is ∙ made.size in
    let first = turn_wide box setup local Push one.0 wired inside.0 one.1 in
    let later = turns_wide locals one.0.after setup two.0 (subst IsWired (sym made.is) made.wired) (subst (λ (n : ℕ). AreInside n locals) (sym size) inside.1) two.1 in
    ap (option_and_then (λ (turn : BoxStep). option_map (sends_first turn.sent) (goal_steps turn.after locals))) first
    ∙ (ap (option_map (sends_first one.0.sent)) later ∙ ap (λ (s : BoxStep). Some (wide setup s)) two.2)

-- ---- goals change

-- the goal of the new slot stays, and has no turn
changed_wide : (olds news : List SlotGoal) (first : ℕ) → length olds ≡ length news → changed_from first (olds ++ End ToClose ∷ []) (news ++ End ToClose ∷ []) ≡ changed_from first olds news
changed_wide [] [] first size = refl
changed_wide [] (new ∷ news) first size = absurd (omega (arith, size))
changed_wide (old ∷ olds) [] first size = absurd (omega (arith, size))
changed_wide (old ∷ olds) (new ∷ news) first size =
    ap (λ (l : List ℕ). if has_turn first old new then first ∷ l else l) (changed_wide olds news (first + 1) (omega (arith, size)))

goals_wide : (change : Change) (goals : List SlotGoal) (first n : ℕ) → first + length goals ≡ n → goal_after change n (End ToClose) ≡ End ToClose
    → goals_from change first (goals ++ End ToClose ∷ []) ≡ goals_from change first goals ++ End ToClose ∷ []
goals_wide change [] first n sum stays =
    let same : first ≡ n = omega (arith, sum) in
    ap (λ (g : SlotGoal). g ∷ []) (ap (λ (k : ℕ). goal_after change k (End ToClose)) same ∙ stays)
goals_wide change (goal ∷ goals) first n sum stays = ap (λ (l : List SlotGoal). goal_after change first goal ∷ l) (goals_wide change goals (first + 1) n (omega (arith, sum)) stays)

apart_by : (a b : ℕ) → (a ≡ b → ⊥) → (a == b) ≡ false
apart_by a b apart = ne_eqb a b apart

end_by : (here : Bool) (goal : Goal) → here ≡ false → (if here then End goal else End ToClose) ≡ End ToClose
end_by true goal none = absurd (cc)
end_by false goal none = refl

link_by : (one two : Bool) (first second : ℕ) → one ≡ false → two ≡ false → (if one then Link second else (if two then Link first else End ToClose)) ≡ End ToClose
link_by one two first second none nor = rw (none, nor) refl

-- a change that is enabled isn't of the new slot
late_stays : (box : BoxState) (change : Change) → is_enabled box (Set change) ≡ true → goal_after change (length box.slots) (End ToClose) ≡ End ToClose
late_stays box (NewEnd slot goal) enabled =
    let here = slot_inside box slot enabled in
    end_by (length box.slots == slot) goal (apart_by (length box.slots) slot (λ same. absurd (omega (arith, same, here))))
late_stays box (NewLink first second) enabled =
    let one = (fits box first second enabled).first_in in
    let two = (fits box first second enabled).second_in in
    link_by (length box.slots == first) (length box.slots == second) first second
    (apart_by (length box.slots) first (λ same. absurd (omega (arith, same, one)))) (apart_by (length box.slots) second (λ same. absurd (omega (arith, same, two))))

set_wide_step : (box : BoxState) (setup : SlotSetup) (change : Change) (step : BoxStep) → IsSoundBox box → is_enabled box (Set change) ≡ true → set_step box change ≡ Some step
    → set_step (with_new_slot box setup) change ≡ Some (wide setup step)
set_wide_step box setup change step sound enabled goes =
    let news = change_goals box.goals change in
    let stays : goal_after change (length box.goals) (End ToClose) ≡ End ToClose = ap (λ (n : ℕ). goal_after change n (End ToClose)) sound.wired.whole.goals ∙ late_stays box change enabled in
    let after : change_goals (box.goals ++ End ToClose ∷ []) change ≡ change_goals box.goals change ++ End ToClose ∷ [] = goals_wide change box.goals 0 (length box.goals) (omega arith) stays in
    let locals : changed_slots (box.goals ++ End ToClose ∷ []) (change_goals box.goals change ++ End ToClose ∷ []) ≡ changed_slots box.goals (change_goals box.goals change) =
    changed_wide box.goals news 0 (sym (length_goals_from change 0 box.goals)) in
    ap (λ (l : List SlotGoal). goal_steps (with_goals (with_new_slot box setup) l) (changed_slots (box.goals ++ End ToClose ∷ []) l)) after
    ∙ (ap (goal_steps (with_new_slot (with_goals box news) setup)) locals
    ∙ turns_wide (changed_slots box.goals news) (with_goals box news) setup step (change_wired box change sound.wired enabled)
    (changed_inside box.goals news 0 (length box.slots) (omega (arith, sound.wired.whole.goals))) goes)

-- ---- media change

media_wide : (box : BoxState) (setup : SlotSetup) (local : ℕ) (media : SlotMedia) → local < length box.media → with_media (with_new_slot box setup) local media ≡ with_new_slot (with_media box local media) setup
media_wide box setup local media below = ap (λ (l : List SlotMedia). record (with_new_slot box setup) { media = l }) (set_before box.media (first_media box.first_version setup) media local below)

media_turn : (box : BoxState) (setup : SlotSetup) (local : ℕ) (media : SlotMedia) (step : BoxStep) → IsSoundBox box → local < length box.slots → goal_step (with_media box local media) local Other ≡ Some step
    → goal_step (with_media (with_new_slot box setup) local media) local Other ≡ Some (wide setup step)
media_turn box setup local media step sound here goes =
    ap (λ (b : BoxState). goal_step b local Other) (media_wide box setup local media (omega (arith, sound.wired.whole.media, here)))
    ∙ turn_wide (with_media box local media) setup local Other step (media_wired box local media sound.wired) here goes

hear_wide : (box : BoxState) (setup : SlotSetup) (local : ℕ) (on : Bool) (step : BoxStep) → IsSoundBox box → local < length box.slots → hear_step box local on ≡ Some step
    → hear_step (with_new_slot box setup) local on ≡ Some (wide setup step)
hear_wide box setup local on step sound here goes =
    let parts = else_some ((media_at box local).version == LAST_VERSION) (goal_step (with_media box local (with_hearing on (media_at box local))) local Other) step goes in
    let same : media_at (with_new_slot box setup) local ≡ media_at box local = media_before box setup local (omega (arith, sound.wired.whole.media, here)) in
    rw (same, parts.0) (media_turn box setup local (with_hearing on (media_at box local)) step sound here parts.1)

talk_wide : (box : BoxState) (setup : SlotSetup) (local : ℕ) (on : Bool) (step : BoxStep) → IsSoundBox box → local < length box.slots → talk_step box local on ≡ Some step
    → talk_step (with_new_slot box setup) local on ≡ Some (wide setup step)
talk_wide box setup local on step sound here goes =
    let same : media_at (with_new_slot box setup) local ≡ media_at box local = media_before box setup local (omega (arith, sound.wired.whole.media, here)) in
    rw same (media_turn box setup local (with_talking on (media_at box local)) step sound here goes)

-- ---- a signal is taken

take_wide : (box : BoxState) (setup : SlotSetup) (local : ℕ) (signal : Signal) (step : BoxStep) → IsSoundBox box → local < length box.slots → take_step box local signal ≡ Some step
    → take_step (with_new_slot box setup) local signal ≡ Some (wide setup step)
take_wide box setup local signal step sound here goes =
    let one = then_some (λ (took : Took). option_map (with_answer local took.answer) (goal_step (with_slot box local took.after) local (cause_of signal took.after.state))) (slot_take (slot_at box local) signal) step goes in
    let two = map_some (with_answer local one.0.answer) (goal_step (with_slot box local one.0.after) local (cause_of signal one.0.after.state)) step one.2 in
    let wired = took_wired box local signal one.0 sound.wired here one.1 in
    let there : local < length (set box.slots local one.0.after) = subst (λ (n : ℕ). local < n) (sym (length-set box.slots local one.0.after)) here in
    let turn = turn_wide (with_slot box local one.0.after) setup local (cause_of signal one.0.after.state) two.0 wired there two.1 in
    let took : slot_take (slot_at (with_new_slot box setup) local) signal ≡ Some one.0 = ap (λ (a : Slot). slot_take a signal) (slot_before box setup local here) ∙ one.1 in
    ap (option_and_then (λ (took : Took). option_map (with_answer local took.answer) (goal_step (with_slot (with_new_slot box setup) local took.after) local (cause_of signal took.after.state)))) took
    ∙ (ap (λ (b : BoxState). option_map (with_answer local one.0.answer) (goal_step b local (cause_of signal one.0.after.state))) (set_wide box setup local one.0.after here)
    ∙ (ap (option_map (with_answer local one.0.answer)) turn ∙ ap (λ (s : BoxStep). Some (wide setup s)) two.2))

-- ---- an event

slot_wide : (box : BoxState) (setup : SlotSetup) (local : ℕ) → is_slot box local ≡ true → is_slot (with_new_slot box setup) local ≡ true
slot_wide box setup local is =
    let here = slot_inside box local is in
    lt-ltb local (length (box.slots ++ first_slot setup ∷ [])) (omega (arith, here, length_one box.slots (first_slot setup)))

-- what a box without a program does in an event it does with one slot more, too
act_wide : (event : Event) (box : BoxState) (setup : SlotSetup) (step : BoxStep) → IsSoundBox box → box.program ≡ None → is_enabled box event ≡ true → event_step box event ≡ Some step
    → event_step (with_new_slot box setup) event ≡ Some (wide setup step)
act_wide (Take local) box setup step sound free may goes = absurd (cc)
act_wide (Set change) box setup step sound free may goes = set_wide_step box setup change step sound may goes
act_wide (Media (Hear local on)) box setup step sound free may goes = hear_wide box setup local on step sound (slot_inside box local (and_parts (is_device box.kind) (is_slot box local) may).1) goes
act_wide (Media (Talk local on)) box setup step sound free may goes = talk_wide box setup local on step sound (slot_inside box local (and_parts (is_device box.kind) (is_slot box local) may).1) goes
act_wide (Tell word) box setup step sound free may goes =
    let none : is_some box.program ≡ false = ap (λ (p : Option (List ProgStateState)). is_some p) free in
    absurd (cc)
act_wide (Retry local) box setup step sound free may goes =
    turn_wide box setup local Push step sound.wired (slot_inside box local (and_parts (is_slot box local) (box_owes box local) may).0) goes
act_wide Shift box setup step sound free may goes =
    let none : enabled_shift box ≡ None = ap (λ (p : Option (List ProgStateState)). option_and_then (λ (states : List ProgStateState). enabled states box.at box.slots box.told) p) free in
    let off : is_some (enabled_shift box) ≡ false = ap (λ (o : Option Shifted). is_some o) none in
    absurd (cc)

same_test : (a b : Bool) → a ≡ true → b ≡ true → a ≡ b
same_test a b one two = one ∙ sym two

slot_same : (box : BoxState) (setup : SlotSetup) (local : ℕ) → local < length box.slots → is_slot (with_new_slot box setup) local ≡ is_slot box local
slot_same box setup local here =
    same_test (is_slot (with_new_slot box setup) local) (is_slot box local) (slot_wide box setup local (lt-ltb local (length box.slots) here)) (lt-ltb local (length box.slots) here)

-- an event that is enabled is so then
enabled_wide : (event : Event) (box : BoxState) (setup : SlotSetup) → box.program ≡ None → is_enabled box event ≡ true → is_enabled (with_new_slot box setup) event ≡ true
enabled_wide (Take local) box setup free may = slot_wide box setup local may
enabled_wide (Set (NewEnd local goal)) box setup free may = slot_wide box setup local may
enabled_wide (Set (NewLink first second)) box setup free may =
    let link = fits box first second may in
    rw (slot_same box setup first link.first_in, slot_same box setup second link.second_in, slot_before box setup first link.first_in, slot_before box setup second link.second_in) may
enabled_wide (Media (Hear local on)) box setup free may = rw (slot_same box setup local (slot_inside box local (and_parts (is_device box.kind) (is_slot box local) may).1)) may
enabled_wide (Media (Talk local on)) box setup free may = rw (slot_same box setup local (slot_inside box local (and_parts (is_device box.kind) (is_slot box local) may).1)) may
enabled_wide (Tell word) box setup free may =
    let none : is_some box.program ≡ false = ap (λ (p : Option (List ProgStateState)). is_some p) free in
    absurd (cc)
enabled_wide (Retry local) box setup free may =
    let here = slot_inside box local (and_parts (is_slot box local) (box_owes box local) may).0 in
    rw (slot_same box setup local here, goal_added box setup local, slot_before box setup local here) may
enabled_wide Shift box setup free may =
    let none : enabled_shift box ≡ None = ap (λ (p : Option (List ProgStateState)). option_and_then (λ (states : List ProgStateState). enabled states box.at box.slots box.told) p) free in
    let off : is_some (enabled_shift box) ≡ false = ap (λ (o : Option Shifted). is_some o) none in
    absurd (cc)

if_true : (b : Bool) (o : Option BoxStep) (step : BoxStep) → b ≡ true → o ≡ Some step → (if b then o else None) ≡ Some step
if_true true o step holds is = is
if_true false o step holds is = absurd (cc)

plain_is : (event : Event) (box : BoxState) (step : BoxStep) → is_enabled box event ≡ true → event_step box event ≡ Some step → box_event box event None ≡ Some step
plain_is (Take local) box step may goes = absurd (cc)
plain_is (Set change) box step may goes = if_true (is_enabled box (Set change)) (event_step box (Set change)) step may goes
plain_is (Media change) box step may goes = if_true (is_enabled box (Media change)) (event_step box (Media change)) step may goes
plain_is (Tell word) box step may goes = if_true (is_enabled box (Tell word)) (event_step box (Tell word)) step may goes
plain_is (Retry local) box step may goes = if_true (is_enabled box (Retry local)) (event_step box (Retry local)) step may goes
plain_is Shift box step may goes = if_true (is_enabled box Shift) (event_step box Shift) step may goes

taken_wide : (event : Event) (box : BoxState) (setup : SlotSetup) (signal : Signal) (step : BoxStep) (local : ℕ) → IsSoundBox box → event ≡ Take local → local < length box.slots → take_step box local signal ≡ Some step
    → box_event (with_new_slot box setup) event (Some signal) ≡ Some (wide setup step)
taken_wide event box setup signal step local sound is here goes =
    ap (λ (e : Event). box_event (with_new_slot box setup) e (Some signal)) is
    ∙ if_true (is_slot (with_new_slot box setup) local) (take_step (with_new_slot box setup) local signal) (wide setup step) (slot_wide box setup local (lt-ltb local (length box.slots) here))
    (take_wide box setup local signal step sound here goes)

pub event_widens : EventWidens
event_widens box setup event None step sound free goes =
    let one = event_goes event box step goes in
    plain_is event (with_new_slot box setup) (wide setup step) (enabled_wide event box setup free one.0) (act_wide event box setup step sound free one.0 one.1)
event_widens box setup event (Some signal) step sound free goes =
    let one = taking_is event box signal step goes in
    taken_wide event box setup signal step one.0 sound one.1 one.2 one.3
