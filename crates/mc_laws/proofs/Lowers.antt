-- Each Take of a sound world without a ring lowers its measure, and the measure is small.
use Rattle.std.proofs.Common.{◌≡◌, ◌≢◌, ◌<◌, ◌≤◌, ◌+◌, ◌*◌, ◌^◌, ◌++◌, ◌&&◌, ℕ, zero, suc, Bool, true, false, Some, List, [], ◌∷◌, length, ap, refl, sym, ◌∙◌, subst, arith}
use Rattle.std.specs.List.{list_all}
use Rattle.std.proofs.lemmas.Grind.{common_steps}
use Rattle.std.proofs.Math.Nat.{mul-le-mul_left, mul-one, mul_assoc, pow-succ', pow-zero}
use Rattle.mc_slot_laws.specs.Sums.{total}
use Rattle.mc_slot_laws.proofs.Sums.{total_one, total_same}
use Rattle.mc_link.specs.LinkTurn.{link_turn, sent_by_first, sent_by_second, closed_side}
use Rattle.mc_link.specs.LinkWeights.{stored_link}
use Rattle.mc_link.specs.declared.Side.TheVariants.{First}
use Rattle.mc_link.proofs.LinkPays.{link_pays}
use Rattle.mc_signal.specs.declared.Signal.{Signal}
use Rattle.mc_signal.specs.declared.Tagged.{Tagged}
use Rattle.mc_slot.specs.EndTurn.{end_turn, IsAtRest, cause_of, is_push}
use Rattle.mc_slot.specs.Moves.{answer_signals}
use Rattle.mc_slot.specs.declared.Goal.{Goal}
use Rattle.mc_slot.specs.declared.Slot.{Slot}
use Rattle.mc_slot.specs.declared.SlotGoal.{SlotGoal}
use Rattle.mc_slot.specs.declared.SlotGoal.TheVariants.{End, Link}
use Rattle.mc_slot.specs.declared.State.{State}
use Rattle.mc_slot_laws.specs.Weights.{weight, weights, stored_end}
use Rattle.mc_slot_laws.proofs.EndPays.{end_pays}
use Rattle.mc_box.specs.Acting.{sent_by}
use Rattle.mc_box.specs.BoxEvents.{is_take}
use Rattle.mc_box.specs.BoxSound.{RestsAt}
use Rattle.mc_box.specs.Boxes.{BoxState, goal_at, slot_at}
use Rattle.mc_box.proofs.TakeTurns.{EndTook, LinkTook, TookBy, link_rests_from}
use Rattle.mc_laws.specs.Measures.{IsRingFree, MeasureBound, TakeLowers, TakesBound, TakesEnd, base, measure, reach, stored_of, to_come, under_way}
use Rattle.mc_model.specs.Sound.{IsSound}
use Rattle.mc_model.specs.Steps.{run, step}
use Rattle.mc_model.specs.Worlds.{WorldState, box_at, far, goal_of, all_tunnels, list_to, own_descriptor, own_sender, place, slot_count, slot_of}
use Rattle.mc_box.specs.declared.event.Event.{Event}
use Rattle.mc_box.specs.declared.event.Event.TheVariants.{Take, Set, Media, Tell, Retry, Shift}
use Rattle.mc_box.specs.declared.event.Turn.{Turn}
use Rattle.mc_laws.proofs.ActedWorlds.{place_apart}
use Rattle.mc_laws.proofs.TunnelPlaces.{two_each}
use Rattle.mc_laws.proofs.LaneSums.{lists_most}
use Rattle.mc_laws.proofs.Partners.{IsPartner, has_partner, is_partner}
use Rattle.mc_laws.proofs.Reaches.{GoalsStay, Reaches, reach_same, reaches, ring_same, with_boxes}
use Rattle.mc_laws.proofs.Walks.{length_most}
use Rattle.mc_laws.proofs.StepActs.{TakeHappened, take_happened}
use Rattle.mc_box.proofs.Options.{then_some}
use Rattle.mc_laws.proofs.StepKeeps.{step_keeps_sound}
use Rattle.mc_laws.proofs.SteppedKeeps.{after_is}
use Rattle.mc_laws.proofs.Sums.{total_most, total_plus, total_two, weights-append, weights_most}
use Rattle.mc_laws.proofs.TakeParts.{first_goes, idle_sends, idle_stays, others_left, sent_here, take_goals_stay, took_is}

-- ---- sums over far slots

-- the two slots of a tunnel
pair_low : (k : ℕ) → far (2 * k) ≡ suc (2 * k)
pair_low k = grind (arith, common_steps)

-- and back
pair_high : (k : ℕ) → far (suc (2 * k)) ≡ 2 * k
pair_high k = grind (arith, common_steps)

-- a sum over slots is the same over their far slots
total_far : (k n : ℕ) (g : ℕ → ℕ) → n ≡ 2 * k → total (λ (s : ℕ). g (far s)) n ≡ total g n
total_far zero n g is =
    let none : n ≡ 0 = omega (arith, is) in subst (λ (m : ℕ). total (λ (s : ℕ). g (far s)) m ≡ total g m) (sym none) refl
total_far (suc k) n g is =
    let two : n ≡ suc (suc (2 * k)) = omega (arith, is) in
    let rest : total (λ (s : ℕ). g (far s)) (2 * k) ≡ total g (2 * k) = total_far k (2 * k) g refl in
    subst (λ (m : ℕ). total (λ (s : ℕ). g (far s)) m ≡ total g m) (sym two) (omega (arith, rest, ap g (pair_low k), ap g (pair_high k)))

-- what is to come of a slot, by what is left to it and what it sends
abbrev by_sent : ℕ → (ℕ → ℕ) → WorldState → (ℕ → List Signal) → (ℕ → List Signal) → ℕ → ℕ
by_sent n tunnels next left sent t =
    tunnels (far t) * weights n (left t) + tunnels t * weights n (sent t) + n * (n * n) * (tunnels t * stored_of (goal_of next t) next t)

-- a product with a sum, beside something else
spread : (f w a b rest : ℕ) → w ≡ a + b → f * w + rest ≡ f * a + rest + f * b
spread f w a b rest is = subst (λ (v : ℕ). f * v + rest ≡ f * a + rest + f * b) (sym is) (omega arith)

-- three numbers in another order
turned_sum : (a b c : ℕ) → a + c + b ≡ a + b + c
turned_sum a b c = omega arith

-- of all slots it is as much, since what a slot sends goes to its far slot
sums_by : (world next : WorldState) (n : ℕ) (tunnels : ℕ → ℕ) (left sent : ℕ → List Signal) → ((t : ℕ) → t < slot_count world → list_to next t ≡ left t ++ sent (far t))
    → total (to_come n tunnels next) (slot_count world) ≡ total (by_sent n tunnels next left sent) (slot_count world)
sums_by world next n tunnels left sent lists =
    let kept : ℕ → ℕ = λ t. tunnels (far t) * weights n (left t) + n * (n * n) * (tunnels t * stored_of (goal_of next t) next t) in
    let out : ℕ → ℕ = λ t. tunnels t * weights n (sent t) in
    let one : total (to_come n tunnels next) (slot_count world) ≡ total (λ (t : ℕ). kept t + out (far t)) (slot_count world) =
    total_same (to_come n tunnels next) (λ (t : ℕ). kept t + out (far t)) (slot_count world)
    (λ t within.
    spread (tunnels (far t)) (weights n (list_to next t)) (weights n (left t)) (weights n (sent (far t))) (n * (n * n) * (tunnels t * stored_of (goal_of next t) next t))
    (ap (weights n) (lists t within) ∙ weights-append n (left t) (sent (far t)))) in
    let two : total (λ (t : ℕ). kept t + out t) (slot_count world) ≡ total (by_sent n tunnels next left sent) (slot_count world) =
    total_same (λ (t : ℕ). kept t + out t) (by_sent n tunnels next left sent) (slot_count world)
    (λ t within. turned_sum (tunnels (far t) * weights n (left t)) (tunnels t * weights n (sent t)) (n * (n * n) * (tunnels t * stored_of (goal_of next t) next t))) in
    let swapped : total (λ (t : ℕ). out (far t)) (slot_count world) ≡ total out (slot_count world) = total_far (length (all_tunnels world)) (slot_count world) out (two_each world.channels 0) in
    omega (arith, one, two, swapped, total_plus kept (λ (t : ℕ). out (far t)) (slot_count world), total_plus kept out (slot_count world))

-- ---- slots that do nothing

-- the part of an idle slot stays
idle_sum : (f r c w now more stored before : ℕ) → now ≡ w → more ≡ 0 → stored ≡ before → f * now + r * more + c * (r * stored) ≡ f * w + c * (r * before)
idle_sum f r c w now more stored before one two three = rw (one, two, three) (omega arith)

-- what a slot stores stays, where it and its partner stay
stored_stays : (goal : SlotGoal) (world : WorldState) (boxes : List BoxState) (lanes : List (List Tagged)) (t : ℕ) → slot_of (with_boxes world boxes lanes) t ≡ slot_of world t
    → ((partner : ℕ) → goal ≡ Link partner → slot_at (box_at (with_boxes world boxes lanes) (place world t).0) partner ≡ slot_at (box_at world (place world t).0) partner)
    → stored_of goal (with_boxes world boxes lanes) t ≡ stored_of goal world t
stored_stays (End goal) world boxes lanes t same partners = ap (λ (a : Slot). stored_end goal a.state) same
stored_stays (Link partner) world boxes lanes t same partners =
    ap (λ (a : Slot). stored_link a.state (slot_at (box_at (with_boxes world boxes lanes) (place world t).0) partner).state) same
    ∙ ap (λ (b : Slot). stored_link (slot_of world t).state b.state) (partners partner refl)

-- so what is to come of it is the same
idle_at : (world : WorldState) (boxes : List BoxState) (lanes : List (List Tagged)) (n : ℕ) (tunnels : ℕ → ℕ) (left sent : ℕ → List Signal) (t : ℕ) → GoalsStay (with_boxes world boxes lanes) world
    → left t ≡ list_to world t → sent t ≡ [] → slot_of (with_boxes world boxes lanes) t ≡ slot_of world t
    → ((partner : ℕ) → goal_of world t ≡ Link partner → slot_at (box_at (with_boxes world boxes lanes) (place world t).0) partner ≡ slot_at (box_at world (place world t).0) partner)
    → by_sent n tunnels (with_boxes world boxes lanes) left sent t ≡ to_come n tunnels world t
idle_at world boxes lanes n tunnels left sent t stay same none slot partners =
    idle_sum (tunnels (far t)) (tunnels t) (n * (n * n)) (weights n (list_to world t)) (weights n (left t)) (weights n (sent t))
    (stored_of (goal_of (with_boxes world boxes lanes) t) (with_boxes world boxes lanes) t) (stored_of (goal_of world t) world t)
    (ap (weights n) same) (ap (weights n) none)
    (ap (λ (g : SlotGoal). stored_of g (with_boxes world boxes lanes) t) (stay (place world t).0 (place world t).1) ∙ stored_stays (goal_of world t) world boxes lanes t slot partners)

-- ---- an end takes

-- where the part of one slot alone changes, the sum falls by what that part falls
one_lowers : (new old here_new here_old f w rest more c y before after : ℕ) → new + here_old ≡ old + here_new → here_old ≡ f * (w + rest) + c * (y * before)
    → here_new ≡ f * rest + y * more + c * (y * after) → f ≡ 1 → 1 + y * more + y * c * after ≤ w + y * c * before → new < old
one_lowers new old here_new here_old f w rest more c y before after change old_is new_is one pays =
    let old_one : here_old ≡ 1 * (w + rest) + c * (y * before) = subst (λ (k : ℕ). here_old ≡ k * (w + rest) + c * (y * before)) one old_is in
    let new_one : here_new ≡ 1 * rest + y * more + c * (y * after) = subst (λ (k : ℕ). here_new ≡ k * rest + y * more + c * (y * after)) one new_is in
    omega (arith, change, old_one, new_one, pays)

-- what is to come of the slot before, by its front and its goal
had : (world : WorldState) (n : ℕ) (tunnels : ℕ → ℕ) (s : ℕ) (signal : Signal) (rest : List Signal) (goal : SlotGoal) → list_to world s ≡ signal ∷ rest → goal_of world s ≡ goal
    → to_come n tunnels world s ≡ tunnels (far s) * (weight n signal + weights n rest) + n * (n * n) * (tunnels s * stored_of goal world s)
had world n tunnels s signal rest goal first aims =
    ap (λ (l : List Signal). tunnels (far s) * weights n l + n * (n * n) * (tunnels s * stored_of (goal_of world s) world s)) first
    ∙ ap (λ (g : SlotGoal). tunnels (far s) * (weight n signal + weights n rest) + n * (n * n) * (tunnels s * stored_of g world s)) aims

-- and after, by what it sends
has : (next : WorldState) (n : ℕ) (tunnels : ℕ → ℕ) (left sent : ℕ → List Signal) (t : ℕ) (signals : List Signal) (goal : SlotGoal) → sent t ≡ signals → goal_of next t ≡ goal
    → by_sent n tunnels next left sent t ≡ tunnels (far t) * weights n (left t) + tunnels t * weights n signals + n * (n * n) * (tunnels t * stored_of goal next t)
has next n tunnels left sent t signals goal sends aims =
    ap (λ (l : List Signal). tunnels (far t) * weights n (left t) + tunnels t * weights n l + n * (n * n) * (tunnels t * stored_of (goal_of next t) next t)) sends
    ∙ ap (λ (g : SlotGoal). tunnels (far t) * weights n (left t) + tunnels t * weights n signals + n * (n * n) * (tunnels t * stored_of g next t)) aims

-- the goal of an end is no link
end_no_link : (goal : Goal) (partner : ℕ) (g : SlotGoal) → g ≡ End goal → g ≡ Link partner → ⊥
end_no_link goal partner g one two = let clash : End goal ≡ Link partner = sym one ∙ two in cc

-- a link has one partner
link_same : (g : SlotGoal) (a b : ℕ) → g ≡ Link a → g ≡ Link b → a ≡ b
link_same g a b one two = let same : Link a ≡ Link b = sym one ∙ two in cc

-- a Take at an end lowers the sum, since an end pays
end_lowers : (world : WorldState) (boxes : List BoxState) (lanes : List (List Tagged)) (s n : ℕ) (tunnels : ℕ → ℕ) (goal : Goal) (took : TakeHappened world (with_boxes world boxes lanes) s)
    → IsSound world → Reaches world n tunnels → goal_of world s ≡ End goal
    → EndTook (box_at world (place world s).0) (place world s).1 goal took.signal took.happened.step
    → total (to_come n tunnels (with_boxes world boxes lanes)) (slot_count world) < total (to_come n tunnels world) (slot_count world)
end_lowers world boxes lanes s n tunnels goal took sound far_from aims did =
    let next : WorldState = with_boxes world boxes lanes in
    let box : BoxState = box_at world (place world s).0 in
    let local : ℕ = (place world s).1 in
    let left : ℕ → List Signal = took.happened.stepped.left in
    let sent : ℕ → List Signal = took.happened.stepped.sent in
    let signals : List Signal = answer_signals did.answer ++ end_turn goal did.middle (is_push (cause_of took.signal did.middle.state)) (own_descriptor world s) (own_sender world s) in
    let stay : GoalsStay next world = take_goals_stay world next s took sound in
    let idle_slot = λ (who k : ℕ) (away : who ≡ (place world s).0 → k ≢ local). idle_stays world next s who k took (λ same. did.others k (away same)) in
    let change = total_one (by_sent n tunnels next left sent) (to_come n tunnels world) (slot_count world) s took.inside
    (λ t within apart.
    let away : (place world t).0 ≡ (place world s).0 → (place world t).1 ≢ local = λ who is. apart (place_apart world t s sound.numbered within took.inside who is) in
    idle_at world boxes lanes n tunnels left sent t stay (others_left world next s t took sound within apart)
    (idle_sends world next s t took (λ same. did.others (place world t).1 (away same)))
    (idle_slot (place world t).0 (place world t).1 away)
    (λ partner links. idle_slot (place world t).0 partner
    (λ who is.
    let back = ((sound.boxes (place world t).0 (sound.numbered.placed t within)).wired.links (place world t).1 partner links).back in
    let here : goal_of world s ≡ Link (place world t).1 =
    ap (λ (k : ℕ). goal_at (box_at world (place world s).0) k) (sym is) ∙ (ap (λ (w : ℕ). goal_at (box_at world w) partner) (sym who) ∙ back) in
    end_no_link goal (place world t).1 (goal_of world s) aims here))) in
    let rest : IsAtRest goal (slot_of world s) (own_descriptor world s) (own_sender world s) =
    subst (λ (g : SlotGoal). RestsAt g box local) aims ((sound.boxes (place world s).0 (sound.numbered.placed s took.inside)).rests local) in
    let pays = end_pays goal (slot_of world s) did.middle (slot_at took.happened.step.after local) (own_descriptor world s) (own_sender world s) took.signal did.answer n (tunnels s)
    ((sound.boxes (place world s).0 (sound.numbered.placed s took.inside)).wired.kept local) rest did.takes did.goes (far_from.some s took.inside) (far_from.less s took.inside) in
    let now : slot_of next s ≡ slot_at took.happened.step.after local = ap (λ (b : BoxState). slot_at b (place world s).1) took.happened.after in
    let new_is : by_sent n tunnels next left sent s ≡ tunnels (far s) * weights n (left s) + tunnels s * weights n signals + n * (n * n) * (tunnels s * stored_end goal (slot_at took.happened.step.after local).state) =
    has next n tunnels left sent s signals (End goal) (sent_here world next s s took refl ∙ did.sends) (stay (place world s).0 (place world s).1 ∙ aims)
    ∙ ap (λ (a : Slot). tunnels (far s) * weights n (left s) + tunnels s * weights n signals + n * (n * n) * (tunnels s * stored_end goal a.state)) now in
    subst (λ (m : ℕ). m < total (to_come n tunnels world) (slot_count world)) (sym (sums_by world next n tunnels left sent took.happened.stepped.lists))
    (one_lowers (total (by_sent n tunnels next left sent) (slot_count world)) (total (to_come n tunnels world) (slot_count world)) (by_sent n tunnels next left sent s) (to_come n tunnels world s)
    (tunnels (far s)) (weight n took.signal) (weights n (left s)) (weights n signals) (n * (n * n)) (tunnels s) (stored_end goal (slot_of world s).state)
    (stored_end goal (slot_at took.happened.step.after local).state) change
    (had world n tunnels s took.signal (left s) (End goal) (first_goes world next s took sound) aims) new_is (far_from.at_end s goal took.inside aims) pays)

-- ---- a linked slot takes

-- where the parts of two slots change, the sum falls by what both fall together
two_lowers : (new old s_new s_old p_new p_old f g w rest list more partners c x y a_before a_after b_before b_after : ℕ) → new + (s_old + p_old) ≡ old + (s_new + p_new)
    → s_old ≡ f * (w + rest) + c * (y * a_before) → p_old ≡ g * list + c * (x * b_before)
    → s_new ≡ f * rest + y * more + c * (y * a_after) → p_new ≡ g * list + x * partners + c * (x * b_after) → f ≡ x + 1
    → 1 + y * more + x * partners + c * (y * a_after + x * b_after) ≤ (x + 1) * w + c * (y * a_before + x * b_before) → new < old
two_lowers new old s_new s_old p_new p_old f g w rest list more partners c x y a_before a_after b_before b_after change s_was p_was s_is p_is one pays =
    let s_one : s_old ≡ (x + 1) * (w + rest) + c * (y * a_before) = subst (λ (k : ℕ). s_old ≡ k * (w + rest) + c * (y * a_before)) one s_was in
    let s_two : s_new ≡ (x + 1) * rest + y * more + c * (y * a_after) = subst (λ (k : ℕ). s_new ≡ k * rest + y * more + c * (y * a_after)) one s_is in
    omega (arith, change, s_one, s_two, p_was, p_is, pays)

-- a Take at a link lowers the sum, since a link pays
link_lowers : (world : WorldState) (boxes : List BoxState) (lanes : List (List Tagged)) (s p n : ℕ) (tunnels : ℕ → ℕ) (partner : ℕ) (took : TakeHappened world (with_boxes world boxes lanes) s)
    → IsSound world → Reaches world n tunnels → goal_of world s ≡ Link partner → IsPartner world s partner p → tunnels (far s) ≡ tunnels p + 1
    → LinkTook (box_at world (place world s).0) (place world s).1 partner took.signal took.happened.step
    → total (to_come n tunnels (with_boxes world boxes lanes)) (slot_count world) < total (to_come n tunnels world) (slot_count world)
link_lowers world boxes lanes s p n tunnels partner took sound far_from aims pair one did =
    let next : WorldState = with_boxes world boxes lanes in
    let box : BoxState = box_at world (place world s).0 in
    let local : ℕ = (place world s).1 in
    let left : ℕ → List Signal = took.happened.stepped.left in
    let sent : ℕ → List Signal = took.happened.stepped.sent in
    let after : BoxState = took.happened.step.after in
    let signals : List Signal = answer_signals did.answer ++ sent_by_first (link_turn did.middle (slot_at box partner) (closed_side (cause_of took.signal did.middle.state) First)) in
    let others : List Signal = sent_by_second (link_turn did.middle (slot_at box partner) (closed_side (cause_of took.signal did.middle.state) First)) in
    let box_sound = sound.boxes (place world s).0 (sound.numbered.placed s took.inside) in
    let stay : GoalsStay next world = take_goals_stay world next s took sound in
    let idle_slot = λ (who k : ℕ) (away : who ≡ (place world s).0 → k ≢ local) (beyond : who ≡ (place world s).0 → k ≢ partner). idle_stays world next s who k took (λ same. did.others k (away same) (beyond same)) in
    let change = total_two (by_sent n tunnels next left sent) (to_come n tunnels world) (slot_count world) s p took.inside pair.inside pair.other
    (λ t within apart apart_too.
    let away : (place world t).0 ≡ (place world s).0 → (place world t).1 ≢ local = λ who is. apart (place_apart world t s sound.numbered within took.inside who is) in
    let beyond : (place world t).0 ≡ (place world s).0 → (place world t).1 ≢ partner =
    λ who is. apart_too (place_apart world t p sound.numbered within pair.inside (who ∙ sym pair.who) (is ∙ sym pair.local)) in
    idle_at world boxes lanes n tunnels left sent t stay (others_left world next s t took sound within apart)
    (idle_sends world next s t took (λ same. did.others (place world t).1 (away same) (beyond same)))
    (idle_slot (place world t).0 (place world t).1 away beyond)
    (λ q links.
    let back = ((sound.boxes (place world t).0 (sound.numbered.placed t within)).wired.links (place world t).1 q links).back in
    idle_slot (place world t).0 q
    (λ who is.
    let here : goal_of world s ≡ Link (place world t).1 =
    ap (λ (k : ℕ). goal_at (box_at world (place world s).0) k) (sym is) ∙ (ap (λ (w : ℕ). goal_at (box_at world w) q) (sym who) ∙ back) in
    beyond who (link_same (goal_of world s) (place world t).1 partner here aims))
    (λ who is.
    let there : goal_at box partner ≡ Link (place world t).1 =
    ap (λ (k : ℕ). goal_at (box_at world (place world s).0) k) (sym is) ∙ (ap (λ (w : ℕ). goal_at (box_at world w) q) (sym who) ∙ back) in
    away who (link_same (goal_at box partner) (place world t).1 (place world s).1 there (box_sound.wired.links (place world s).1 partner aims).back)))) in
    let rest = link_rests_from box local partner (subst (λ (g : SlotGoal). RestsAt g box local) aims (box_sound.rests local)) in
    let pays = link_pays (slot_of world s) (slot_at box partner) did.middle (slot_at after local) (slot_at after partner) took.signal did.answer n (tunnels p) (tunnels s)
    (box_sound.wired.kept local) (box_sound.wired.kept partner) rest did.takes did.first did.second
    (far_from.some p pair.inside) (far_from.some s took.inside) (far_from.less s took.inside) in
    let s_now : slot_of next s ≡ slot_at after local = ap (λ (b : BoxState). slot_at b (place world s).1) took.happened.after in
    let p_now : slot_of next p ≡ slot_at after partner =
    ap (λ (w : ℕ). slot_at (box_at next w) (place world p).1) pair.who ∙ (ap (λ (k : ℕ). slot_at (box_at next (place world s).0) k) pair.local ∙ ap (λ (b : BoxState). slot_at b partner) took.happened.after) in
    let p_was : slot_of world p ≡ slot_at box partner =
    ap (λ (w : ℕ). slot_at (box_at world w) (place world p).1) pair.who ∙ ap (λ (k : ℕ). slot_at (box_at world (place world s).0) k) pair.local in
    let s_stores : stored_of (Link partner) next s ≡ stored_link (slot_at after local).state (slot_at after partner).state =
    ap (λ (b : BoxState). stored_link (slot_at b (place world s).1).state (slot_at b partner).state) took.happened.after in
    let p_stores : stored_of (Link (place world s).1) next p ≡ stored_link (slot_at after partner).state (slot_at after local).state =
    ap (λ (a : Slot). stored_link a.state (slot_at (box_at next (place world p).0) (place world s).1).state) p_now
    ∙ (ap (λ (w : ℕ). stored_link (slot_at after partner).state (slot_at (box_at next w) (place world s).1).state) pair.who
    ∙ ap (λ (b : BoxState). stored_link (slot_at after partner).state (slot_at b (place world s).1).state) took.happened.after) in
    let p_stored : stored_of (Link (place world s).1) world p ≡ stored_link (slot_at box partner).state (slot_of world s).state =
    ap (λ (a : Slot). stored_link a.state (slot_at (box_at world (place world p).0) (place world s).1).state) p_was
    ∙ ap (λ (w : ℕ). stored_link (slot_at box partner).state (slot_at (box_at world w) (place world s).1).state) pair.who in
    let s_new : by_sent n tunnels next left sent s ≡ tunnels (far s) * weights n (left s) + tunnels s * weights n signals + n * (n * n) * (tunnels s * stored_link (slot_at after local).state (slot_at after partner).state) =
    has next n tunnels left sent s signals (Link partner) (sent_here world next s s took refl ∙ did.sends) (stay (place world s).0 (place world s).1 ∙ aims)
    ∙ ap (λ (e : ℕ). tunnels (far s) * weights n (left s) + tunnels s * weights n signals + n * (n * n) * (tunnels s * e)) s_stores in
    let p_sends : sent p ≡ others = sent_here world next s p took pair.who ∙ (ap (λ (k : ℕ). sent_by k took.happened.step.sent) pair.local ∙ did.partner_sends) in
    let p_new : by_sent n tunnels next left sent p ≡ tunnels (far p) * weights n (list_to world p) + tunnels p * weights n others + n * (n * n) * (tunnels p * stored_link (slot_at after partner).state (slot_at after local).state) =
    has next n tunnels left sent p others (Link (place world s).1) p_sends (stay (place world p).0 (place world p).1 ∙ pair.goal)
    ∙ (ap (λ (e : ℕ). tunnels (far p) * weights n (left p) + tunnels p * weights n others + n * (n * n) * (tunnels p * e)) p_stores
    ∙ ap (λ (l : List Signal). tunnels (far p) * weights n l + tunnels p * weights n others + n * (n * n) * (tunnels p * stored_link (slot_at after partner).state (slot_at after local).state))
    (others_left world next s p took sound pair.inside pair.other)) in
    let p_old : to_come n tunnels world p ≡ tunnels (far p) * weights n (list_to world p) + n * (n * n) * (tunnels p * stored_link (slot_at box partner).state (slot_of world s).state) =
    ap (λ (g : SlotGoal). tunnels (far p) * weights n (list_to world p) + n * (n * n) * (tunnels p * stored_of g world p)) pair.goal
    ∙ ap (λ (e : ℕ). tunnels (far p) * weights n (list_to world p) + n * (n * n) * (tunnels p * e)) p_stored in
    subst (λ (m : ℕ). m < total (to_come n tunnels world) (slot_count world)) (sym (sums_by world next n tunnels left sent took.happened.stepped.lists))
    (two_lowers (total (by_sent n tunnels next left sent) (slot_count world)) (total (to_come n tunnels world) (slot_count world)) (by_sent n tunnels next left sent s) (to_come n tunnels world s)
    (by_sent n tunnels next left sent p) (to_come n tunnels world p) (tunnels (far s)) (tunnels (far p)) (weight n took.signal) (weights n (left s)) (weights n (list_to world p)) (weights n signals) (weights n others)
    (n * (n * n)) (tunnels p) (tunnels s) (stored_link (slot_of world s).state (slot_at box partner).state) (stored_link (slot_at after local).state (slot_at after partner).state)
    (stored_link (slot_at box partner).state (slot_of world s).state) (stored_link (slot_at after partner).state (slot_at after local).state) change
    (had world n tunnels s took.signal (left s) (Link partner) (first_goes world next s took sound) aims) p_old s_new p_new one pays)

-- ---- a Take

-- whatever the goal of the slot is
goal_lowers : (goal : SlotGoal) (world : WorldState) (boxes : List BoxState) (lanes : List (List Tagged)) (s n : ℕ) (tunnels : ℕ → ℕ) (took : TakeHappened world (with_boxes world boxes lanes) s)
    → IsSound world → Reaches world n tunnels → goal_of world s ≡ goal
    → TookBy goal (box_at world (place world s).0) (place world s).1 took.signal took.happened.step
    → total (to_come n tunnels (with_boxes world boxes lanes)) (slot_count world) < total (to_come n tunnels world) (slot_count world)
goal_lowers (End goal) world boxes lanes s n tunnels took sound far_from aims did = end_lowers world boxes lanes s n tunnels goal took sound far_from aims did
goal_lowers (Link partner) world boxes lanes s n tunnels took sound far_from aims did =
    let there = has_partner world s partner sound took.inside aims in
    link_lowers world boxes lanes s there.0 n tunnels partner took sound far_from aims (is_partner world s partner there.0 sound took.inside aims there.1)
    (far_from.at_link s partner there.0 took.inside aims there.1) did

-- the tunnels from each slot are as many after it
measure_by : (world : WorldState) (boxes : List BoxState) (lanes : List (List Tagged)) → GoalsStay (with_boxes world boxes lanes) world
    → measure (with_boxes world boxes lanes) ≡ total (to_come (base world) (reach world) (with_boxes world boxes lanes)) (slot_count world)
measure_by world boxes lanes stay =
    total_same (to_come (base world) (reach (with_boxes world boxes lanes)) (with_boxes world boxes lanes)) (to_come (base world) (reach world) (with_boxes world boxes lanes)) (slot_count world)
    (λ t within.
    ap (λ (k : ℕ). k * weights (base world) (list_to (with_boxes world boxes lanes) t)
    + base world * (base world * base world) * (reach (with_boxes world boxes lanes) t * stored_of (goal_of (with_boxes world boxes lanes) t) (with_boxes world boxes lanes) t)) (reach_same world boxes lanes (far t) stay)
    ∙ ap (λ (k : ℕ). reach world (far t) * weights (base world) (list_to (with_boxes world boxes lanes) t)
    + base world * (base world * base world) * (k * stored_of (goal_of (with_boxes world boxes lanes) t) (with_boxes world boxes lanes) t)) (reach_same world boxes lanes t stay))

-- what a Take leaves: a lower measure, and no ring
record Lowered (world next : WorldState) : Type 0 where
  lower : measure next < measure world
  free : IsRingFree next

-- so does a Take that leaves the channels
boxes_lowered : (world : WorldState) (boxes : List BoxState) (lanes : List (List Tagged)) (s : ℕ) → IsRingFree world → IsSound (with_boxes world boxes lanes) → TakeHappened world (with_boxes world boxes lanes) s
    → Lowered world (with_boxes world boxes lanes)
boxes_lowered world boxes lanes s free sound took =
    let stay : GoalsStay (with_boxes world boxes lanes) world = take_goals_stay world (with_boxes world boxes lanes) s took free.sound in
    record {
      lower = subst (λ (m : ℕ). m < measure world) (sym (measure_by world boxes lanes stay))
          (goal_lowers (goal_of world s) world boxes lanes s (base world) (reach world) took free.sound (reaches world free.free) refl (took_is world (with_boxes world boxes lanes) s took free.sound));
      free = record { sound = sound; free = ring_same world boxes lanes stay ∙ free.free };
    }

-- and so each Take as its slots do it
lowered_by : (world next : WorldState) (s : ℕ) → IsRingFree world → IsSound next → TakeHappened world next s → Lowered world next
lowered_by world next s free sound took =
    let is : next ≡ with_boxes world next.boxes next.lanes = after_is world next (place world s).0 took.happened.stepped in
    subst (λ (w : WorldState). Lowered world w) (sym is)
    (boxes_lowered world next.boxes next.lanes s free (subst (λ (w : WorldState). IsSound w) is sound) (subst (λ (w : WorldState). TakeHappened world w s) is took))

-- each Take of a sound world without a ring
lowered : (world next : WorldState) (who local : ℕ) → IsRingFree world → step world (record { who = who; event = Take local }) ≡ Some next → Lowered world next
lowered world next who local free goes =
    let took = take_happened world next who local free.sound goes in
    lowered_by world next took.0 free (step_keeps_sound world next (record { who = who; event = Take local }) free.sound goes) took.1

-- each Take lowers the measure
pub take_lowers : TakeLowers
take_lowers world next who local free goes = (lowered world next who local free goes).lower

-- and leaves no ring
pub take_stays_free : (world next : WorldState) (who local : ℕ) → IsRingFree world → step world (record { who = who; event = Take local }) ≡ Some next → IsRingFree next
take_stays_free world next who local free goes = (lowered world next who local free goes).free

-- ---- runs of Takes

-- one turn that is a Take
turn_lowers : (event : Event) (world next : WorldState) (who : ℕ) → IsRingFree world → is_take event ≡ true → step world (record { who = who; event = event }) ≡ Some next → Lowered world next
turn_lowers (Take local) world next who free is goes = lowered world next who local free goes
turn_lowers (Set change) world next who free is goes = absurd (cc)
turn_lowers (Media change) world next who free is goes = absurd (cc)
turn_lowers (Tell word) world next who free is goes = absurd (cc)
turn_lowers (Retry local) world next who free is goes = absurd (cc)
turn_lowers Shift world next who free is goes = absurd (cc)

-- a test of two holds where both do
both_true : (first second : Bool) → (first && second) ≡ true → (first ≡ true) × (second ≡ true)
both_true true second is = (refl, is)
both_true false second is = absurd (cc)

-- one turn after another
takes_by : (turns : List Turn) (world next : WorldState) → IsRingFree world → list_all (λ turn. is_take turn.event) turns ≡ true → run world turns ≡ Some next → length turns + measure next ≤ measure world
takes_by [] world next free all goes = let same : world ≡ next = cc in subst (λ (w : WorldState). 0 + measure w ≤ measure world) same (omega arith)
takes_by (turn ∷ turns) world next free all goes =
    let parts = both_true (is_take turn.event) (list_all (λ (turn : Turn). is_take turn.event) turns) all in
    let one = then_some (λ (w : WorldState). run w turns) (step world turn) next goes in
    let lower = turn_lowers turn.event world one.0 turn.who free parts.0 one.1 in
    let later : length turns + measure next ≤ measure one.0 = takes_by turns one.0 next lower.free parts.1 one.2 in
    omega (arith, lower.lower, later)

-- a run of Takes is no longer than the measure
pub takes_end : TakesEnd
takes_end world next turns free all goes = takes_by turns world next free all goes

-- ---- how large the measure is

-- a slot stores one open at most
stored_most : (goal : SlotGoal) (world : WorldState) (s : ℕ) → stored_of goal world s ≤ 1
stored_most (End goal) world s = end_most goal (slot_of world s).state
  where
    end_most : (goal : Goal) (state : State) → stored_end goal state ≤ 1
    end_most goal state = grind (arith, common_steps)
stored_most (Link partner) world s = link_most (slot_of world s).state (slot_at (box_at world (place world s).0) partner).state
  where
    link_most : (first second : State) → stored_link first second ≤ 1
    link_most first second = grind (arith, common_steps)

-- a product grows with its parts
product_most : (a b x y : ℕ) → a ≤ x → b ≤ y → a * b ≤ x * y
product_most a b x y one two =
    let first : a * b ≤ a * y = mul-le-mul_left a two in
    let second : y * a ≤ y * x = mul-le-mul_left y one in
    omega (arith, first, second)

-- the part of a slot is small
part_sum : (n c f w count r stored : ℕ) → f * w ≤ n * (c * count) → r * stored ≤ n * 1 → c * (r * stored) ≤ c * (n * 1) → f * w + c * (r * stored) ≤ n * c * count + n * c
part_sum n c f w count r stored one two three = omega (arith, one, three)

-- what one slot has is at most the fourth power for each signal to it, and that
part_most : (n c f w count r stored : ℕ) → f ≤ n → r ≤ n → w ≤ c * count → stored ≤ 1 → f * w + c * (r * stored) ≤ n * c * count + n * c
part_most n c f w count r stored far near light few =
    let stored_few : r * stored ≤ n * 1 = product_most r stored n 1 near few in
    part_sum n c f w count r stored (product_most f w n (c * count) far light) stored_few (mul-le-mul_left c stored_few)

-- and so is the sum
bound_sum : (n sum lists lanes slots : ℕ) → sum ≤ n * (lists + slots) → lists ≤ lanes → sum ≤ n * (lanes + slots)
bound_sum n sum lists lanes slots most fewer =
    let more : n * (lists + slots) ≤ n * (lanes + slots) = mul-le-mul_left n (omega (arith, fewer)) in omega (arith, most, more)

-- the measure is at most the fourth power of the base for each signal under way and each slot
measure_most : (world : WorldState) → IsSound world → measure world ≤ base world * (base world * (base world * base world)) * (under_way world + slot_count world)
measure_most world sound =
    bound_sum (base world * (base world * (base world * base world))) (measure world) (total (λ (s : ℕ). length (list_to world s)) (slot_count world)) (under_way world) (slot_count world)
    (total_most (to_come (base world) (reach world) world) (λ s. length (list_to world s)) (base world * (base world * (base world * base world))) (slot_count world)
    (λ s within. part_most (base world) (base world * (base world * base world)) (reach world (far s)) (weights (base world) (list_to world s)) (length (list_to world s)) (reach world s) (stored_of (goal_of world s) world s)
    (omega (arith, length_most (length (all_tunnels world)) world (Some (far s)))) (omega (arith, length_most (length (all_tunnels world)) world (Some s)))
    (weights_most (base world) (omega arith) (list_to world s)) (stored_most (goal_of world s) world s)))
    (lists_most world sound.numbered)

-- a fourth power, by its factors
fourth_power : (n : ℕ) → n ^ 4 ≡ n * (n * (n * n))
fourth_power n =
    let one : n ^ 1 ≡ n = pow-succ' n 0 ∙ (ap (λ (k : ℕ). n * k) (pow-zero n) ∙ mul-one n) in
    pow-succ' n 3 ∙ ap (λ (k : ℕ). n * k) (pow-succ' n 2 ∙ ap (λ (k : ℕ). n * k) (pow-succ' n 1 ∙ ap (λ (k : ℕ). n * k) one))

-- twice as much on both sides
twice : (few most : ℕ) → few ≤ most → 2 * few ≤ 2 * most
twice few most less = omega arith

-- twice what is at most a product
twice_most : (few power part n : ℕ) → few ≤ power * part → n ≡ power → 2 * few ≤ 2 * n * part
twice_most few power part n most is =
    subst (λ (m : ℕ). 2 * few ≤ m) (sym (mul_assoc 2 n part)) (twice few (n * part) (subst (λ (m : ℕ). few ≤ m * part) (sym is) most))

-- so twice the measure is at most the bound
pub measure_bound : MeasureBound
measure_bound world sound =
    subst (λ (slots : ℕ). 2 * measure world ≤ 2 * base world ^ 4 * (under_way world + slots)) (two_each world.channels 0)
    (twice_most (measure world) (base world * (base world * (base world * base world))) (under_way world + slot_count world) (base world ^ 4) (measure_most world sound) (fourth_power (base world)))

-- and so is a run of Takes
pub takes_bound : TakesBound
takes_bound world next turns free all goes = omega (arith, takes_end world next turns free all goes, measure_bound world free.sound)
