-- On a path without an end that closes, once none is there, no close and no closeack comes under way while only Takes and Retries come.
use Rattle.std.proofs.Common.{◌≡◌, ◌≢◌, ◌<◌, ◌+◌, ◌≤◌, ◌⊎◌, inl, inr, if◌then◌else◌, ℕ, zero, suc, Bool, true, false, Some, None, IsTrue, List, [], ◌∷◌, count_by, length, refl, ap, sym, ◌∙◌, subst, arith}
use Rattle.std.specs.List.{list_all}
use Rattle.std.proofs.lemmas.Bool.{and_parts}
use Rattle.std.proofs.lemmas.List.Sums.{sum_by-cons}
use Rattle.mc_signal.specs.declared.Tagged.{Tagged}
use Rattle.mc_slot.specs.declared.Goal.TheVariants.{Close as ToClose}
use Rattle.mc_slot.specs.declared.Slot.{Slot}
use Rattle.mc_slot.specs.declared.SlotGoal.TheVariants.{End}
use Rattle.mc_slot.specs.declared.State.TheVariants.{Closed}
use Rattle.mc_box.specs.Boxes.{BoxState, slot_at}
use Rattle.mc_box.specs.declared.event.Turn.{Turn}
use Rattle.mc_box.proofs.Options.{then_some}
use Rattle.mc_slot.specs.EndTurn.{is_end_goal}
use Rattle.mc_model.specs.Paths.{end_after, end_goal, end_goal_of, other_end, partner_of, walk}
use Rattle.mc_model.specs.Settles.{is_quiet, is_retry_of, takes_or_retries}
use Rattle.mc_model.specs.Sound.{IsSound}
use Rattle.mc_model.specs.Steps.{run, step}
use Rattle.mc_model.specs.Worlds.{ChannelState, WorldState, box_at, far, goal_of, all_tunnels, list_to, place, slot_count, slot_of}
use Rattle.mc_laws.proofs.ActedWorlds.{far_inside}
use Rattle.mc_laws.proofs.Numbers.{far_back, some_same}
use Rattle.mc_laws.proofs.Partners.{are_linked}
use Rattle.mc_laws.proofs.Reaches.{GoalsStay, end_same, with_boxes}
use Rattle.mc_laws.proofs.StepKeeps.{step_keeps_sound}
use Rattle.mc_laws.proofs.Walks.{end_beyond, end_here, end_linked}
use Rattle.mc_path_laws.proofs.CleanEnds.{endings, endings-append}
use Rattle.mc_path_laws.proofs.CleanSteps.{Calm, step_calm}
use Rattle.mc_path_laws.proofs.QuietWalks.{list_none}

-- ---- slots of such paths

-- the walk from a slot comes to an end that doesn't close
pub record Toward (world : WorldState) (s : ℕ) : Type 0 where
  pub most : ℕ
  pub end : ℕ
  pub comes : end_after world (walk world (Some s) most) ≡ Some end
  pub stays : end_goal world end ≢ ToClose

-- so do both walks from a slot
pub record IsBetween (world : WorldState) (s : ℕ) : Type 0 where
  pub inside : s < slot_count world
  pub near : Toward world (far s)
  pub away : Toward world s

-- the far slot is another of the path
pub far_between : (world : WorldState) (s : ℕ) → IsBetween world s → IsBetween world (far s)
far_between world s between = record {
  inside = far_inside world s between.inside;
  near = subst (Toward world) (sym (far_back s)) between.away;
  away = between.near;
}

-- a walk over one tunnel more, from the far slot of a linked one
over_link : (world : WorldState) (most s t : ℕ) → partner_of world s ≡ Some t → end_after world (walk world (Some (far s)) (suc most)) ≡ end_after world (walk world (Some t) most)
over_link world most s t is = ap (end_beyond world most) (far_back s) ∙ end_linked world most s t is

-- none is no value
none_or_some : (t : ℕ) → None ≡ Some t → ⊥
none_or_some t is = cc

-- from the far slot of a linked one a walk goes on at the partner
on_link : (most : ℕ) (world : WorldState) (s t end : ℕ) → partner_of world s ≡ Some t → end_after world (walk world (Some (far s)) most) ≡ Some end → end_goal world end ≢ ToClose → Toward world t
on_link zero world s t end is comes stays = absurd (none_or_some end comes)
on_link (suc most) world s t end is comes stays = record { most = most; end = end; comes = sym (over_link world most s t is) ∙ comes; stays = stays }

-- and so is the partner
pub partner_between : (world : WorldState) (s t : ℕ) → IsSound world → partner_of world s ≡ Some t → IsBetween world s → IsBetween world t
partner_between world s t sound is between =
    let link = are_linked world s t sound between.inside is in
    record {
      inside = link.inside;
      near = record { most = suc between.away.most; end = between.away.end; comes = over_link world between.away.most t s link.back ∙ between.away.comes; stays = between.away.stays };
      away = on_link between.near.most world s t between.near.end is between.near.comes between.near.stays;
    }

-- from the far slot of an end a walk comes to the end
at_end : (world : WorldState) (most s : ℕ) → is_end_goal (goal_of world s) ≡ true → end_after world (walk world (Some (far s)) (suc most)) ≡ Some s
at_end world most s aims = ap (end_beyond world most) (far_back s) ∙ end_here world most s aims

-- which is the one that it comes to
ends_at : (most : ℕ) (world : WorldState) (s end : ℕ) → is_end_goal (goal_of world s) ≡ true → end_after world (walk world (Some (far s)) most) ≡ Some end → s ≡ end
ends_at zero world s end aims comes = absurd (none_or_some end comes)
ends_at (suc most) world s end aims comes = some_same s end (sym (at_end world most s aims) ∙ comes)

-- so none of them is an end that closes
pub never_closes : (world : WorldState) (s : ℕ) → IsBetween world s → goal_of world s ≢ End ToClose
never_closes world s between closes =
    let same : s ≡ between.near.end = ends_at between.near.most world s between.near.end (ap is_end_goal closes) between.near.comes in
    between.near.stays (subst (λ (n : ℕ). end_goal world n ≡ ToClose) same (ap end_goal_of closes))

-- all slots from an end to another are such, where neither closes
pub end_between : (world : WorldState) (s t : ℕ) → s < slot_count world → is_end_goal (goal_of world s) ≡ true → other_end world s ≡ Some t
    → end_goal world s ≢ ToClose → end_goal world t ≢ ToClose → IsBetween world s
end_between world s t inside aims comes stays far_stays = record {
  inside = inside;
  near = record { most = suc zero; end = s; comes = at_end world zero s aims; stays = stays };
  away = record { most = length (all_tunnels world); end = t; comes = comes; stays = far_stays };
}

-- ---- where the goals stay

-- a walk that comes to an end after a turn came to it before, where goals stay
toward_before : (world : WorldState) (boxes : List BoxState) (lanes : List (List Tagged)) (s : ℕ) → GoalsStay (with_boxes world boxes lanes) world → Toward (with_boxes world boxes lanes) s → Toward world s
toward_before world boxes lanes s stay toward = record {
  most = toward.most;
  end = toward.end;
  comes = sym (end_same toward.most world boxes lanes s stay) ∙ toward.comes;
  stays = λ closes. toward.stays (ap end_goal_of (stay (place world toward.end).0 (place world toward.end).1) ∙ closes);
}

-- so what stands between two ends stood between them before
between_boxes : (world : WorldState) (boxes : List BoxState) (lanes : List (List Tagged)) (s : ℕ) → GoalsStay (with_boxes world boxes lanes) world → IsBetween (with_boxes world boxes lanes) s → IsBetween world s
between_boxes world boxes lanes s stay between = record {
  inside = between.inside;
  near = toward_before world boxes lanes (far s) stay between.near;
  away = toward_before world boxes lanes s stay between.away;
}

-- a slot is such in one world where it is in the other
pub between_before : (world next : WorldState) (s : ℕ) → next.channels ≡ world.channels → GoalsStay next world → IsBetween next s → IsBetween world s
between_before world next s channels stay between =
    let is : next ≡ with_boxes world next.boxes next.lanes = ap (λ (c : List ChannelState). record next { channels = c }) channels in
    between_boxes world next.boxes next.lanes s (subst (λ (w : WorldState). GoalsStay w world) is stay) (subst (λ (w : WorldState). IsBetween w s) is between)

-- a slot by its place, which is what it was
pub slot_now : (world next : WorldState) (s : ℕ) → next.channels ≡ world.channels → slot_of next s ≡ slot_at (box_at next (place world s).0) (place world s).1
slot_now world next s channels = ap (λ (p : ℕ × ℕ). slot_at (box_at next p.0) p.1) (place_same world next s channels)
  where
    place_same : (world next : WorldState) (s : ℕ) → next.channels ≡ world.channels → place next s ≡ place world s
    place_same world next s channels = ap (λ (c : List ChannelState). place (record world { channels = c }) s) channels

-- ---- one turn

-- no close and no closeack comes to any such slot
abbrev pub AllClean : WorldState → Type 0
AllClean world = (s : ℕ) → IsBetween world s → endings (list_to world s) ≡ 0

-- two sums that are 0 are 0 together
both_none : (a b : ℕ) → a ≡ 0 → b ≡ 0 → a + b ≡ 0
both_none a b one two = omega (arith, one, two)

-- a calm turn leaves clean slots clean
step_clean : (world next : WorldState) (turn : Turn) → IsSound world → Calm world next turn → AllClean world → AllClean next
step_clean world next turn sound calm clean s between =
    let here = between_before world next s calm.stepped.channels calm.goals between in
    let there = far_between world s here in
    ap endings (calm.stepped.lists s here.inside)
    ∙ (endings-append (calm.stepped.left s) (calm.stepped.sent (far s))
    ∙ both_none (endings (calm.stepped.left s)) (endings (calm.stepped.sent (far s)))
    (calm.leaves s here.inside (clean s here))
    (calm.sends (far s) there.inside (never_closes world (far s) there) (clean (far s) there) (λ p is. clean p (partner_between world (far s) p sound is there))))

-- nor where nothing is under way
pub quiet_clean : (world : WorldState) → IsTrue (is_quiet world) → AllClean world
quiet_clean world quiet s between = ap endings (list_none world s quiet)

-- ---- runs

-- one turn, and the others
record Turns (world last : WorldState) (turn : Turn) (turns : List Turn) : Type 0 where
  next : WorldState
  calm : Calm world next turn
  sound : IsSound next
  others : list_all (λ turn. takes_or_retries turn.event) turns ≡ true
  on : run next turns ≡ Some last

-- a run that isn't over has a next turn
turns_by : (world last : WorldState) (turn : Turn) (turns : List Turn) → IsSound world → list_all (λ turn. takes_or_retries turn.event) (turn ∷ turns) ≡ true → run world (turn ∷ turns) ≡ Some last → Turns world last turn turns
turns_by world last turn turns sound all goes =
    let parts = and_parts (takes_or_retries turn.event) (list_all (λ (turn : Turn). takes_or_retries turn.event) turns) all in
    let one = then_some (λ (w : WorldState). run w turns) (step world turn) last goes in
    record { next = one.0; calm = step_calm world one.0 turn sound parts.0 one.1; sound = step_keeps_sound world one.0 turn sound one.1; others = parts.1; on = one.2 }

-- such paths stay clean
pub run_clean : (turns : List Turn) (world last : WorldState) → IsSound world → list_all (λ turn. takes_or_retries turn.event) turns ≡ true → run world turns ≡ Some last → AllClean world → AllClean last
run_clean [] world last sound all goes clean = let same : world ≡ last = cc in subst (λ (w : WorldState). AllClean w) same clean
run_clean (turn ∷ turns) world last sound all goes clean =
    let one = turns_by world last turn turns sound all goes in
    run_clean turns one.next last one.sound one.others one.on (step_clean world one.next turn sound one.calm clean)

-- a sum that isn't 0 has a first part of 1, or another part that isn't 0
counted_by : (first : Bool) (more : ℕ) → 1 ≤ (if first then 1 else 0) + more → (first ≡ true) ⊎ (1 ≤ more)
counted_by true more some = inl refl
counted_by false more some = inr (omega arith)

-- where some of the turns pass a test, the first or one of the others does
counted : (test : Turn → Bool) (turn : Turn) (turns : List Turn) → 1 ≤ count_by test (turn ∷ turns) → (test turn ≡ true) ⊎ (1 ≤ count_by test turns)
counted test turn turns some =
    counted_by (test turn) (count_by test turns) (subst (λ (n : ℕ). 1 ≤ n) (sum_by-cons (λ (turn : Turn). if test turn then 1 else 0) turn turns) some)

-- slots have the same places
place_same : (world next : WorldState) (s : ℕ) → next.channels ≡ world.channels → place next s ≡ place world s
place_same world next s channels = ap (λ (c : List ChannelState). place (record world { channels = c }) s) channels

-- a slot of such a path that isn't closed, or whose Retry is to come, isn't closed in the end
pub run_opens : (turns : List Turn) (world last : WorldState) (s : ℕ) → IsSound world → IsBetween world s → list_all (λ turn. takes_or_retries turn.event) turns ≡ true → run world turns ≡ Some last → AllClean world
    → ((slot_of world s).state ≢ Closed) ⊎ (1 ≤ count_by (is_retry_of (place world s).0 (place world s).1) turns) → (slot_of last s).state ≢ Closed
run_opens [] world last s sound between all goes clean (inl begun) = let same : world ≡ last = cc in subst (λ (w : WorldState). (slot_of w s).state ≢ Closed) same begun
run_opens [] world last s sound between all goes clean (inr some) = absurd (omega arith)
run_opens (turn ∷ turns) world last s sound between all goes clean either =
    let one = turns_by world last turn turns sound all goes in
    let channels = one.calm.stepped.channels in
    let now = slot_now world one.next s channels in
    run_opens turns one.next last s one.sound (between_before one.next world s (sym channels) (λ who local. sym (one.calm.goals who local)) between) one.others one.on (step_clean world one.next turn sound one.calm clean)
    (elim either [
      | inl begun ↦ inl (subst (λ (a : Slot). a.state ≢ Closed) (sym now) (one.calm.stays s between.inside (clean s between) begun))
      | inr some ↦ elim (counted (is_retry_of (place world s).0 (place world s).1) turn turns some) [
        | inl is ↦ inl (subst (λ (a : Slot). a.state ≢ Closed) (sym now) (one.calm.opens s between.inside is))
        | inr more ↦ inr (subst (λ (p : ℕ × ℕ). 1 ≤ count_by (is_retry_of p.0 p.1) turns) (sym (place_same world one.next s channels)) more)
      ]
    ])
