-- While only Takes and Retries come, goals stay; a slot to which no close and no closeack comes sends none, unless it is an end that closes, and isn't closed by what comes.
use Rattle.std.proofs.Common.{◌≡◌, ◌≢◌, ◌<◌, ◌+◌, inl, inr, ℕ, true, Some, None, List, ◌∷◌, refl, ap, sym, ◌∙◌, subst, arith}
use Rattle.std.proofs.lemmas.Bool.{cases_eq}
use Rattle.std.proofs.lemmas.Grind.{common_steps}
use Rattle.mc_link.specs.LinkTurn.{link_turn, sent_by_first, sent_by_second, closed_side}
use Rattle.mc_link.specs.declared.Side.TheVariants.{First}
use Rattle.mc_signal.specs.declared.Signal.{Signal}
use Rattle.mc_slot.specs.Outlook.{ack_of, close_of}
use Rattle.mc_slot.specs.declared.Goal.{Goal}
use Rattle.mc_slot.specs.declared.Goal.TheVariants.{Close as ToClose}
use Rattle.mc_slot.specs.declared.Slot.{Slot}
use Rattle.mc_slot.specs.declared.SlotGoal.{SlotGoal}
use Rattle.mc_slot.specs.declared.SlotGoal.TheVariants.{End, Link}
use Rattle.mc_slot.specs.declared.State.TheVariants.{Closed}
use Rattle.mc_box.specs.Acting.{sent_by}
use Rattle.mc_box.specs.Boxes.{BoxState, slot_at}
use Rattle.mc_box.specs.declared.event.Event.{Event}
use Rattle.mc_box.specs.declared.event.Event.TheVariants.{Take, Set, Media, Tell, Retry, Shift}
use Rattle.mc_box.specs.declared.event.Turn.{Turn}
use Rattle.mc_box.proofs.TakeTurns.{EndTook, Idle, LinkTook, TookBy}
use Rattle.mc_model.specs.Paths.{partner_of}
use Rattle.mc_model.specs.Settles.{is_retry_of, takes_or_retries}
use Rattle.mc_model.specs.Sound.{IsSound}
use Rattle.mc_laws.specs.Stepped.{Stepped}
use Rattle.mc_model.specs.Steps.{step}
use Rattle.mc_model.specs.Worlds.{WorldState, box_at, goal_of, list_to, own_descriptor, own_sender, place, slot_count, slot_of}
use Rattle.mc_laws.proofs.ActedWorlds.{place_apart}
use Rattle.mc_laws.proofs.Partners.{IsPartner, by_goal, has_partner, is_partner}
use Rattle.mc_laws.proofs.Reaches.{GoalsStay}
use Rattle.mc_laws.proofs.StepActs.{TakeHappened, take_happened}
use Rattle.mc_laws.proofs.TakeParts.{RetryHappened, apart_local, first_goes, idle_sends, idle_stays, others_left, part_idle, part_sent, part_stays, retry_goals_stay, retry_is, sent_here, take_goals_stay, took_is}
use Rattle.mc_path_laws.proofs.CleanEnds.{all_open, due_ends_none, endings, front_none, retry_opens, take_ends, took_open}
use Rattle.mc_path_laws.proofs.CleanLinks.{partner_sends_none, taker_sends_none}
use Rattle.mc_slot.specs.EndTurn.{cause_of}

-- what a Take or a Retry does of closes and closeacks, slot by slot
pub record Calm (world next : WorldState) (turn : Turn) : Type 0 where
  pub who : ℕ
  pub stepped : Stepped world next who
  pub goals : GoalsStay next world
  pub leaves : (t : ℕ) → t < slot_count world → endings (list_to world t) ≡ 0 → endings (stepped.left t) ≡ 0
  pub sends : (t : ℕ) → t < slot_count world → goal_of world t ≢ End ToClose → endings (list_to world t) ≡ 0
      → ((p : ℕ) → partner_of world t ≡ Some p → endings (list_to world p) ≡ 0) → endings (stepped.sent t) ≡ 0
  pub stays : (t : ℕ) → t < slot_count world → endings (list_to world t) ≡ 0 → (slot_of world t).state ≢ Closed → (slot_at (box_at next (place world t).0) (place world t).1).state ≢ Closed
  pub opens : (t : ℕ) → t < slot_count world → is_retry_of (place world t).0 (place world t).1 turn ≡ true → (slot_at (box_at next (place world t).0) (place world t).1).state ≢ Closed

-- ---- a Take

-- what is left to each slot
take_leaves : (world next : WorldState) (s t : ℕ) (took : TakeHappened world next s) → IsSound world → t < slot_count world → endings (list_to world t) ≡ 0 → endings (took.happened.stepped.left t) ≡ 0
take_leaves world next s t took sound inside none = elim (cases_eq t s) [
  | inl same ↦
      let first : endings (took.signal ∷ took.happened.stepped.left s) ≡ 0 = ap endings (sym (first_goes world next s took sound)) ∙ subst (λ (x : ℕ). endings (list_to world x) ≡ 0) same none in
      subst (λ (x : ℕ). endings (took.happened.stepped.left x) ≡ 0) (sym same) (front_none took.signal (took.happened.stepped.left s) first).1
  | inr apart ↦ ap endings (others_left world next s t took sound inside apart) ∙ none
]

-- the signal that is taken is none
signal_none : (world next : WorldState) (s : ℕ) (took : TakeHappened world next s) → IsSound world → endings (list_to world s) ≡ 0 → close_of took.signal + ack_of took.signal ≡ 0
signal_none world next s took sound none = (front_none took.signal (took.happened.stepped.left s) (ap endings (sym (first_goes world next s took sound)) ∙ none)).0

-- the slot that takes, as the box's event leaves it
taker_now : (world next : WorldState) (s : ℕ) (took : TakeHappened world next s) → slot_at (box_at next (place world s).0) (place world s).1 ≡ slot_at took.happened.step.after (place world s).1
taker_now world next s took = ap (λ (b : BoxState). slot_at b (place world s).1) took.happened.after

-- a Take at an end is calm
end_calm : (world next : WorldState) (who local s : ℕ) (goal : Goal) (took : TakeHappened world next s) → IsSound world → goal_of world s ≡ End goal
    → EndTook (box_at world (place world s).0) (place world s).1 goal took.signal took.happened.step → Calm world next (record { who = who; event = Take local })
end_calm world next who local s goal took sound aims did =
    let mine = own_descriptor world s in
    let me = own_sender world s in
    let rest : List Signal = took.happened.stepped.left s in
    let ends = take_ends goal (slot_of world s) did.middle (slot_at took.happened.step.after (place world s).1) mine me took.signal did.answer rest did.takes did.goes in
    let first : endings (list_to world s) ≡ 0 → endings (took.signal ∷ took.happened.stepped.left s) ≡ 0 = λ none. ap endings (sym (first_goes world next s took sound)) ∙ none in
    record {
      who = (place world s).0;
      stepped = took.happened.stepped;
      goals = take_goals_stay world next s took sound;
      leaves = λ t inside none. take_leaves world next s t took sound inside none;
      sends = λ t inside holds_open none partners. elim (cases_eq t s) [
        | inl same ↦
            let holds : goal ≢ ToClose = λ closes. subst (λ (x : ℕ). goal_of world x ≢ End ToClose) same holds_open (aims ∙ ap (λ (g : Goal). End g) closes) in
            subst (λ (x : ℕ). endings (took.happened.stepped.sent x) ≡ 0) (sym same)
            (ap endings (sent_here world next s s took refl ∙ did.sends) ∙ ends.sends_none holds (first (subst (λ (x : ℕ). endings (list_to world x) ≡ 0) same none)))
        | inr apart ↦ ap endings (idle_sends world next s t took (λ here. did.others (place world t).1 (apart_local world s t sound took.inside inside apart here)))
      ];
      stays = λ t inside none begun. elim (cases_eq t s) [
        | inl same ↦
            subst (λ (x : ℕ). (slot_at (box_at next (place world x).0) (place world x).1).state ≢ Closed) (sym same)
            (subst (λ (a : Slot). a.state ≢ Closed) (sym (taker_now world next s took))
            (ends.stays (first (subst (λ (x : ℕ). endings (list_to world x) ≡ 0) same none)) (subst (λ (x : ℕ). (slot_of world x).state ≢ Closed) same begun)))
        | inr apart ↦
            subst (λ (a : Slot). a.state ≢ Closed)
            (sym (idle_stays world next s (place world t).0 (place world t).1 took (λ here. did.others (place world t).1 (apart_local world s t sound took.inside inside apart here)))) begun
      ];
      opens = λ t inside is. absurd (cc);
    }

-- and at a link
link_calm : (world next : WorldState) (who local s p partner : ℕ) (took : TakeHappened world next s) → IsSound world → goal_of world s ≡ Link partner → IsPartner world s partner p
    → LinkTook (box_at world (place world s).0) (place world s).1 partner took.signal took.happened.step → Calm world next (record { who = who; event = Take local })
link_calm world next who local s p partner took sound aims pair did =
    let b : Slot = slot_at (box_at world (place world s).0) partner in
    let after : BoxState = took.happened.step.after in
    let due_first : List Signal = sent_by_first (link_turn did.middle (slot_at (box_at world (place world s).0) partner) (closed_side (cause_of took.signal did.middle.state) First)) in
    let due_second : List Signal = sent_by_second (link_turn did.middle (slot_at (box_at world (place world s).0) partner) (closed_side (cause_of took.signal did.middle.state) First)) in
    let back : partner_of world p ≡ Some s = by_goal world p (Link (place world s).1) pair.goal ∙ pair.number in
    let idle : (t : ℕ) → t < slot_count world → t ≢ s → t ≢ p → (place world t).0 ≡ (place world s).0 → Idle (box_at world (place world s).0) took.happened.step (place world t).1 =
    λ t inside apart beyond here. did.others (place world t).1 (apart_local world s t sound took.inside inside apart here)
    (λ is. beyond (place_apart world t p sound.numbered inside pair.inside (here ∙ sym pair.who) (is ∙ sym pair.local))) in
    let p_sends : took.happened.stepped.sent p ≡ due_second =
    sent_here world next s p took pair.who ∙ (ap (λ (k : ℕ). sent_by k took.happened.step.sent) pair.local ∙ did.partner_sends) in
    let p_now : slot_at (box_at next (place world p).0) (place world p).1 ≡ slot_at after partner =
    ap (λ (w : ℕ). slot_at (box_at next w) (place world p).1) pair.who ∙ (ap (λ (k : ℕ). slot_at (box_at next (place world s).0) k) pair.local ∙ ap (λ (x : BoxState). slot_at x partner) took.happened.after) in
    let p_was : slot_of world p ≡ slot_at (box_at world (place world s).0) partner =
    ap (λ (w : ℕ). slot_at (box_at world w) (place world p).1) pair.who ∙ ap (λ (k : ℕ). slot_at (box_at world (place world s).0) k) pair.local in
    record {
      who = (place world s).0;
      stepped = took.happened.stepped;
      goals = take_goals_stay world next s took sound;
      leaves = λ t inside none. take_leaves world next s t took sound inside none;
      sends = λ t inside holds_open none partners. elim (cases_eq t s) [
        | inl same ↦
            subst (λ (x : ℕ). endings (took.happened.stepped.sent x) ≡ 0) (sym same)
            (ap endings (sent_here world next s s took refl ∙ did.sends)
            ∙ taker_sends_none (slot_of world s) b did.middle took.signal did.answer did.takes (signal_none world next s took sound (subst (λ (x : ℕ). endings (list_to world x) ≡ 0) same none)))
        | inr apart ↦ elim (cases_eq t p) [
          | inl same ↦
              let near : endings (list_to world s) ≡ 0 = partners s (ap (partner_of world) same ∙ back) in
              subst (λ (x : ℕ). endings (took.happened.stepped.sent x) ≡ 0) (sym same)
              (ap endings p_sends ∙ partner_sends_none b did.middle took.signal (signal_none world next s took sound near))
          | inr beyond ↦ ap endings (idle_sends world next s t took (idle t inside apart beyond))
        ]
      ];
      stays = λ t inside none begun. elim (cases_eq t s) [
        | inl same ↦
            let quiet = signal_none world next s took sound (subst (λ (x : ℕ). endings (list_to world x) ≡ 0) same none) in
            subst (λ (x : ℕ). (slot_at (box_at next (place world x).0) (place world x).1).state ≢ Closed) (sym same)
            (subst (λ (a : Slot). a.state ≢ Closed) (sym (taker_now world next s took))
            (all_open due_first did.middle (slot_at after (place world s).1) did.first
            ((took_open (slot_of world s) did.middle took.signal did.answer did.takes quiet).1 (subst (λ (x : ℕ). (slot_of world x).state ≢ Closed) same begun))))
        | inr apart ↦ elim (cases_eq t p) [
          | inl same ↦
              subst (λ (x : ℕ). (slot_at (box_at next (place world x).0) (place world x).1).state ≢ Closed) (sym same)
              (subst (λ (a : Slot). a.state ≢ Closed) (sym p_now)
              (all_open due_second b (slot_at after partner) did.second
              (subst (λ (a : Slot). a.state ≢ Closed) p_was (subst (λ (x : ℕ). (slot_of world x).state ≢ Closed) same begun))))
          | inr beyond ↦
              subst (λ (a : Slot). a.state ≢ Closed) (sym (idle_stays world next s (place world t).0 (place world t).1 took (idle t inside apart beyond))) begun
        ]
      ];
      opens = λ t inside is. absurd (cc);
    }

-- whatever the goal is
goal_calm : (goal : SlotGoal) (world next : WorldState) (who local s : ℕ) (took : TakeHappened world next s) → IsSound world → goal_of world s ≡ goal
    → TookBy goal (box_at world (place world s).0) (place world s).1 took.signal took.happened.step → Calm world next (record { who = who; event = Take local })
goal_calm (End goal) world next who local s took sound aims did = end_calm world next who local s goal took sound aims did
goal_calm (Link partner) world next who local s took sound aims did =
    let there = has_partner world s partner sound took.inside aims in
    link_calm world next who local s there.0 partner took sound aims (is_partner world s partner there.0 sound took.inside aims there.1) did

-- ---- a Retry

-- whose retry a Retry is
retry_at : (who local : ℕ) (at other : ℕ × ℕ) → at ≡ (who, local) → is_retry_of other.0 other.1 (record { who = who; event = Retry local }) ≡ true → (other.0 ≡ at.0) × (other.1 ≡ at.1)
retry_at who local at other there is =
    let numbers = same_numbers who local other.0 other.1 is in
    (numbers.0 ∙ ap (λ (p : ℕ × ℕ). p.0) (sym there), numbers.1 ∙ ap (λ (p : ℕ × ℕ). p.1) (sym there))
  where
    same_numbers : (who local other slot : ℕ) → is_retry_of other slot (record { who = who; event = Retry local }) ≡ true → (other ≡ who) × (slot ≡ local)
    same_numbers who local other slot is = (grind (arith, common_steps), grind (arith, common_steps))

-- so is a Retry
retried_calm : (world next : WorldState) (who local s : ℕ) (retried : RetryHappened world next s) → IsSound world → place world s ≡ (who, local) → Calm world next (record { who = who; event = Retry local })
retried_calm world next who local s retried sound at =
    let did = retried.did in
    let mine = own_descriptor world s in
    let me = own_sender world s in
    let idle : (t : ℕ) → t < slot_count world → t ≢ s → (place world t).0 ≡ (place world s).0 → Idle (box_at world (place world s).0) retried.happened.step (place world t).1 =
    λ t inside apart here. retried.did.turned.others (place world t).1 (apart_local world s t sound retried.inside inside apart here) in
    let now : slot_at (box_at next (place world s).0) (place world s).1 ≡ slot_at retried.happened.step.after (place world s).1 = ap (λ (b : BoxState). slot_at b (place world s).1) retried.happened.after in
    let opened : (slot_at (box_at next (place world s).0) (place world s).1).state ≢ Closed =
    subst (λ (a : Slot). a.state ≢ Closed) (sym now)
    (retry_opens retried.did.goal (slot_of world s) (slot_at retried.happened.step.after (place world s).1) (own_descriptor world s) (own_sender world s) retried.did.owed retried.did.turned.goes) in
    record {
      who = (place world s).0;
      stepped = retried.happened.stepped;
      goals = retry_goals_stay world next s retried;
      leaves = λ t inside none. ap endings (retried.happened.lefts t) ∙ none;
      sends = λ t inside holds_open none partners. elim (cases_eq t s) [
        | inl same ↦
            let holds : retried.did.goal ≢ ToClose = λ closes. subst (λ (x : ℕ). goal_of world x ≢ End ToClose) same holds_open (retried.did.aims ∙ ap (λ (g : Goal). End g) closes) in
            subst (λ (x : ℕ). endings (retried.happened.stepped.sent x) ≡ 0) (sym same)
            (ap endings (part_sent world next (place world s).0 s (Retry (place world s).1) None world.lanes retried.happened refl ∙ retried.did.turned.sends)
            ∙ due_ends_none retried.did.goal (slot_of world s) true (own_descriptor world s) (own_sender world s) holds)
        | inr apart ↦ ap endings (part_idle world next (place world s).0 t (Retry (place world s).1) None world.lanes retried.happened (idle t inside apart))
      ];
      stays = λ t inside none begun. elim (cases_eq t s) [
        | inl same ↦ subst (λ (x : ℕ). (slot_at (box_at next (place world x).0) (place world x).1).state ≢ Closed) (sym same) opened
        | inr apart ↦
            subst (λ (a : Slot). a.state ≢ Closed)
            (sym (part_stays world next (place world s).0 (place world t).0 (place world t).1 (Retry (place world s).1) None world.lanes retried.happened (idle t inside apart))) begun
      ];
      opens = λ t inside is.
          let own = retry_at who local (place world s) (place world t) at is in
          subst (λ (x : ℕ). (slot_at (box_at next (place world x).0) (place world x).1).state ≢ Closed)
          (sym (place_apart world t s sound.numbered inside retried.inside own.0 own.1)) opened;
    }

-- ---- a Take or a Retry

-- so is each event of the two kinds
event_calm : (event : Event) (world next : WorldState) (who : ℕ) → IsSound world → takes_or_retries event ≡ true → step world (record { who = who; event = event }) ≡ Some next → Calm world next (record { who = who; event = event })
event_calm (Take local) world next who sound is goes =
    let took = take_happened world next who local sound goes in
    goal_calm (goal_of world took.0) world next who local took.0 took.1 sound refl (took_is world next took.0 took.1 sound)
event_calm (Retry local) world next who sound is goes =
    let retried = retry_is world next who local sound goes in
    retried_calm world next who local retried.0 retried.2 sound retried.1
event_calm (Set change) world next who sound is goes = absurd (cc)
event_calm (Media change) world next who sound is goes = absurd (cc)
event_calm (Tell word) world next who sound is goes = absurd (cc)
event_calm Shift world next who sound is goes = absurd (cc)

-- and each such turn
pub step_calm : (world next : WorldState) (turn : Turn) → IsSound world → takes_or_retries turn.event ≡ true → step world turn ≡ Some next → Calm world next turn
step_calm world next turn sound is goes = event_calm turn.event world next turn.who sound is goes
