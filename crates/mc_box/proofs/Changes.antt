-- How goals change: links stay mutual, and a goal that has no turn then is as it was.
use Rattle.std.proofs.Common.{◌≡◌, ◌≢◌, ◌==◌, ℕ, ◌+◌, ◌<◌, ◌≤◌, ◌&&◌, Bool, true, false, not, if◌then◌else◌, List, [], ◌∷◌, ◌++◌, inl, inr, ◌⊎◌, length, zero, suc, refl, ap, sym, ◌∙◌, subst, arith}
use Rattle.std.proofs.Math.ListN.{get_or}
use Rattle.std.proofs.lemmas.Bool.{cases_lt, and_parts, eqb-true, eqb-false, eq-eqb, ne_eqb, lt-ltb}
use Rattle.std.proofs.lemmas.Grind.{common_steps}
use Rattle.std.proofs.lemmas.List.{get_or_past}
use Rattle.mc_slot.specs.Moves.{is_same_medium}
use Rattle.mc_slot.specs.Same.{is_same_slot_goal}
use Rattle.mc_slot.specs.declared.Goal.{Goal}
use Rattle.mc_slot.specs.declared.Goal.TheVariants.{Close as ToClose, Hold as ToHold}
use Rattle.mc_slot.specs.declared.SlotGoal.{SlotGoal}
use Rattle.mc_slot.specs.declared.SlotGoal.TheVariants.{End, Link}
use Rattle.mc_signal.specs.declared.Medium.{Medium}
use Rattle.mc_signal.specs.declared.Medium.TheVariants.{Audio, Video}
use Rattle.mc_box.specs.BoxEvents.{is_enabled, may_link}
use Rattle.mc_box.specs.BoxShapes.{is_feature}
use Rattle.mc_box.specs.BoxSound.{IsLinked, IsSoundBox, IsWired, RestsAt}
use Rattle.mc_box.specs.Boxes.{BoxState, is_slot, slot_at, goal_at, media_at, with_goals}
use Rattle.mc_box.specs.Goals.{changed_from, changed_slots, goal_after, change_goals, goals_from, has_turn, leads, without_link}
use Rattle.mc_box.specs.declared.event.Change.{Change}
use Rattle.mc_box.specs.declared.event.Change.TheVariants.{End as NewEnd, Link as NewLink}
use Rattle.mc_box.specs.declared.event.Event.TheVariants.{Set}
use Rattle.mc_box.specs.declared.event.Kind.{Kind}
use Rattle.mc_box.specs.declared.event.Kind.TheVariants.{Device, Feature}
use Rattle.mc_slot.proofs.Equal.{slot_goal_eq}
use Rattle.mc_box.proofs.Held.{held, Lacks, lacks_first, lacks_more, own_put, RestsBut, rests_same, rests_turned, sender_put}

-- ---- what each goal becomes

pub length_goals_from : (change : Change) (k : ℕ) (goals : List SlotGoal) → length (goals_from change k goals) ≡ length goals
length_goals_from change k [] = refl
length_goals_from change k (goal ∷ goals) = ap (λ (n : ℕ). suc n) (length_goals_from change (k + 1) goals)

at_goals_from : (change : Change) (goals : List SlotGoal) (k i j : ℕ) → j ≡ k + i → i < length goals
    → get_or (goals_from change k goals) i (End ToClose) ≡ goal_after change j (get_or goals i (End ToClose))
at_goals_from change [] k i j is inside = absurd (omega arith)
at_goals_from change (goal ∷ goals) k zero j is inside = let same : k ≡ j = omega arith in ap (λ (n : ℕ). goal_after change n goal) same
at_goals_from change (goal ∷ goals) k (suc i) j is inside = at_goals_from change goals (k + 1) i j (omega arith) (omega arith)

-- a slot that is there gets what its goal becomes
pub at_goals_after : (change : Change) (goals : List SlotGoal) (i : ℕ) → i < length goals
    → get_or (change_goals goals change) i (End ToClose) ≡ goal_after change i (get_or goals i (End ToClose))
at_goals_after change goals i inside = at_goals_from change goals 0 i i (omega arith) inside

-- a slot that is still linked was so before, and not with the slot that has another goal
parted_by : (same : Bool) (local q partner : ℕ) → (q == local) ≡ same → (if same then End ToHold else Link q) ≡ Link partner → (q ≡ partner) × (partner ≢ local)
parted_by true local q partner is goes = absurd (cc)
parted_by false local q partner is goes =
    let same : q ≡ partner = cc in
    (same, subst (λ (n : ℕ). n ≢ local) same (eqb-false q local is))

parted_link : (goal : SlotGoal) (local partner : ℕ) → without_link local goal ≡ Link partner → (goal ≡ Link partner) × (partner ≢ local)
parted_link (End goal) local partner is = absurd (cc)
parted_link (Link q) local partner is = let one = parted_by (q == local) local q partner refl is in (ap Link one.0, one.1)

-- and stays so
parted_stays : (local partner : ℕ) → partner ≢ local → without_link local (Link partner) ≡ Link partner
parted_stays local partner other = let test : (partner == local) ≡ false = ne_eqb partner local other in rw test refl

-- ---- an end is set

-- a link that is there after it was there before, of two other slots
end_link_by : (here : Bool) (slot local partner : ℕ) (goal : Goal) (old : SlotGoal) → (local == slot) ≡ here
    → (if here then End goal else without_link slot old) ≡ Link partner → (local ≢ slot) × (old ≡ Link partner) × (partner ≢ slot)
end_link_by true slot local partner goal old is goes = absurd (cc)
end_link_by false slot local partner goal old is goes =
    let one = parted_link old slot partner goes in
    (eqb-false local slot is, one.0, one.1)

end_stays : (slot local partner : ℕ) (goal : Goal) → local ≢ slot → partner ≢ slot → goal_after (NewEnd slot goal) local (Link partner) ≡ Link partner
end_stays slot local partner goal here there = let test : (local == slot) ≡ false = ne_eqb local slot here in rw test (parted_stays slot partner there)

-- ---- two slots are linked

-- a link that is there after is the new one, or was there before, of two other slots
link_by : (one two : Bool) (first second local partner : ℕ) (old : SlotGoal) → (local == first) ≡ one → (local == second) ≡ two
    → (if one then Link second else (if two then Link first else without_link first (without_link second old))) ≡ Link partner
    → ((local ≡ first) × (partner ≡ second)) ⊎ (((local ≢ first) × (local ≡ second) × (partner ≡ first)) ⊎ ((local ≢ first) × (local ≢ second) × (old ≡ Link partner) × (partner ≢ first) × (partner ≢ second)))
link_by true two first second local partner old is also goes = inl (eqb-true local first is, cc)
link_by false true first second local partner old is also goes = inr (inl (eqb-false local first is, eqb-true local second also, cc))
link_by false false first second local partner old is also goes =
    let outer = parted_link (without_link second old) first partner goes in
    let inner = parted_link old second partner outer.0 in
    inr (inr (eqb-false local first is, eqb-false local second also, inner.0, outer.1, inner.1))

first_links : (first second : ℕ) (old : SlotGoal) → goal_after (NewLink first second) first old ≡ Link second
first_links first second old = let test : (first == first) ≡ true = eq-eqb first first refl in rw test refl

second_links : (first second : ℕ) (old : SlotGoal) → second ≢ first → goal_after (NewLink first second) second old ≡ Link first
second_links first second old other =
    let test : (second == first) ≡ false = ne_eqb second first other in
    let also : (second == second) ≡ true = eq-eqb second second refl in
    rw (test, also) refl

link_stays : (first second local partner : ℕ) → local ≢ first → local ≢ second → partner ≢ first → partner ≢ second
    → goal_after (NewLink first second) local (Link partner) ≡ Link partner
link_stays first second local partner one two there also =
    let test : (local == first) ≡ false = ne_eqb local first one in
    let more : (local == second) ≡ false = ne_eqb local second two in
    rw (test, more) (ap (without_link first) (parted_stays second partner also) ∙ parted_stays first partner there)

-- ---- links stay mutual

feature_by : (kind : Kind) → is_feature kind ≡ true → kind ≡ Feature
feature_by Feature is = refl
feature_by Device is = absurd (cc)

same_medium_by : (m n : Medium) → is_same_medium m n ≡ true → m ≡ n
same_medium_by Audio Audio is = refl
same_medium_by Video Video is = refl
same_medium_by Audio Video is = absurd (cc)
same_medium_by Video Audio is = absurd (cc)

-- what may be linked
pub record MayLink (box : BoxState) (first second : ℕ) : Type 0 where
  pub feature : box.kind ≡ Feature
  pub first_in : first < length box.slots
  pub second_in : second < length box.slots
  pub other : first ≢ second
  pub medium : (slot_at box first).medium ≡ (slot_at box second).medium

pub slot_inside : (box : BoxState) (local : ℕ) → is_slot box local ≡ true → local < length box.slots
slot_inside box local is = grind (arith, common_steps)

not_eq : (a b : ℕ) → not (a == b) ≡ true → a ≢ b
not_eq a b is = λ same. let test : (a == b) ≡ true = eq-eqb a b same in cc

pub fits : (box : BoxState) (first second : ℕ) → may_link box first second ≡ true → MayLink box first second
fits box first second is =
    let five = and_parts (is_feature box.kind && is_slot box first && is_slot box second && not (first == second)) (is_same_medium (slot_at box first).medium (slot_at box second).medium) is in
    let four = and_parts (is_feature box.kind && is_slot box first && is_slot box second) (not (first == second)) five.0 in
    let three = and_parts (is_feature box.kind && is_slot box first) (is_slot box second) four.0 in
    let two = and_parts (is_feature box.kind) (is_slot box first) three.0 in
    record {
      feature = feature_by box.kind two.0;
      first_in = slot_inside box first two.1;
      second_in = slot_inside box second three.1;
      other = not_eq first second four.1;
      medium = same_medium_by (slot_at box first).medium (slot_at box second).medium five.1;
    }

-- a slot that is linked is there
pub link_inside : (goals : List SlotGoal) (local partner : ℕ) → get_or goals local (End ToClose) ≡ Link partner → local < length goals
link_inside goals local partner is = elim (cases_lt local (length goals)) [
  | inl inside ↦ inside
  | inr past ↦ let end : get_or goals local (End ToClose) ≡ End ToClose = get_or_past goals local (End ToClose) past in absurd (cc)
]

-- the goals of a wired box, each with what it becomes
after_is : (box : BoxState) (change : Change) (local : ℕ) → IsWired box → local < length box.slots
    → goal_at (with_goals box (change_goals box.goals change)) local ≡ goal_after change local (goal_at box local)
after_is box change local wired inside = at_goals_after change box.goals local (subst (λ (n : ℕ). local < n) (sym wired.whole.goals) inside)

after_inside : (box : BoxState) (change : Change) (local partner : ℕ) → IsWired box
    → goal_at (with_goals box (change_goals box.goals change)) local ≡ Link partner → local < length box.slots
after_inside box change local partner wired is =
    let size : length (change_goals box.goals change) ≡ length box.slots = length_goals_from change 0 box.goals ∙ wired.whole.goals in
    subst (λ (n : ℕ). local < n) size (link_inside (change_goals box.goals change) local partner is)

-- a link of two other slots stays as it was
old_link : (box : BoxState) (change : Change) (local partner : ℕ) → IsWired box → goal_at box local ≡ Link partner
    → goal_after change partner (Link local) ≡ Link local → IsLinked (with_goals box (change_goals box.goals change)) local partner
old_link box change local partner wired was stays =
    let link = wired.links local partner was in
    record {
      inside = link.inside;
      other = link.other;
      back = after_is box change partner wired link.inside ∙ (ap (goal_after change partner) link.back ∙ stays);
      feature = link.feature;
      medium = link.medium;
    }

new_links : (change : Change) (box : BoxState) (local partner : ℕ) → IsWired box → is_enabled box (Set change) ≡ true → local < length box.slots
    → goal_after change local (goal_at box local) ≡ Link partner → IsLinked (with_goals box (change_goals box.goals change)) local partner
new_links (NewEnd slot goal) box local partner wired enabled inside is =
    let one = end_link_by (local == slot) slot local partner goal (goal_at box local) refl is in
    old_link box (NewEnd slot goal) local partner wired one.1 (end_stays slot partner local goal one.2 one.0)
new_links (NewLink first second) box local partner wired enabled inside is =
    let fit = fits box first second enabled in
    elim (link_by (local == first) (local == second) first second local partner (goal_at box local) refl refl is) [
      | inl new ↦ record {
        inside = subst (λ (n : ℕ). n < length box.slots) (sym new.1) fit.second_in;
        other = λ same. fit.other (sym new.0 ∙ (sym same ∙ new.1));
        back = ap (goal_at (with_goals box (change_goals box.goals (NewLink first second)))) new.1
            ∙ (after_is box (NewLink first second) second wired fit.second_in
            ∙ (second_links first second (goal_at box second) (λ same. fit.other (sym same)) ∙ ap Link (sym new.0)));
        feature = fit.feature;
        medium = ap (λ (k : ℕ). (slot_at box k).medium) new.1 ∙ (sym fit.medium ∙ ap (λ (k : ℕ). (slot_at box k).medium) (sym new.0));
      }
      | inr rest ↦ elim rest [
        | inl new ↦ record {
          inside = subst (λ (n : ℕ). n < length box.slots) (sym new.2) fit.first_in;
          other = λ same. fit.other (sym new.2 ∙ (same ∙ new.1));
          back = ap (goal_at (with_goals box (change_goals box.goals (NewLink first second)))) new.2
              ∙ (after_is box (NewLink first second) first wired fit.first_in ∙ (first_links first second (goal_at box first) ∙ ap Link (sym new.1)));
          feature = fit.feature;
          medium = ap (λ (k : ℕ). (slot_at box k).medium) new.2 ∙ (fit.medium ∙ ap (λ (k : ℕ). (slot_at box k).medium) (sym new.1));
        }
        | inr old ↦ old_link box (NewLink first second) local partner wired old.2 (link_stays first second partner local old.3 old.4 old.0 old.1)
      ]
    ]

-- a box whose goals change stays wired
pub change_wired : (box : BoxState) (change : Change) → IsWired box → is_enabled box (Set change) ≡ true → IsWired (with_goals box (change_goals box.goals change))
change_wired box change wired enabled = record {
  whole = record { goals = length_goals_from change 0 box.goals ∙ wired.whole.goals; media = wired.whole.media };
  few = wired.few;
  address = wired.address;
  kept = wired.kept;
  links = λ local partner is.
      let inside = after_inside box change local partner wired is in
      new_links change box local partner wired enabled inside (sym (after_is box change local wired inside) ∙ is);
  program = wired.program;
}

-- ---- goals that have no turn

-- the slots that hold goals which have their turns at these slots
abbrev pub todo_of : List SlotGoal → List ℕ → List ℕ
todo_of goals [] = []
todo_of goals (local ∷ locals) = held (get_or goals local (End ToClose)) local ++ todo_of goals locals

-- what isn't held by any such goal isn't held by one of them
lacks_by : (turn : Bool) (goals : List SlotGoal) (k local : ℕ) (locals : List ℕ) → turn ≡ true → Lacks k (todo_of goals (if turn then local ∷ locals else locals)) → Lacks k (held (get_or goals local (End ToClose)) local)
lacks_by true goals k local locals is lacks = lacks_first k (held (get_or goals local (End ToClose)) local) (todo_of goals locals) lacks
lacks_by false goals k local locals is lacks = absurd (cc)

lacks_rest : (turn : Bool) (goals : List SlotGoal) (k local : ℕ) (locals : List ℕ) → Lacks k (todo_of goals (if turn then local ∷ locals else locals)) → Lacks k (todo_of goals locals)
lacks_rest true goals k local locals lacks = lacks_more k (held (get_or goals local (End ToClose)) local) (todo_of goals locals) lacks
lacks_rest false goals k local locals lacks = lacks

lacks_led : (olds news goals : List SlotGoal) (k at i o : ℕ) → o ≡ at + i → i < length olds → i < length news
    → has_turn o (get_or olds i (End ToClose)) (get_or news i (End ToClose)) ≡ true
    → Lacks k (todo_of goals (changed_from at olds news)) → Lacks k (held (get_or goals o (End ToClose)) o)
lacks_led [] news goals k at i o is inside also turns lacks = absurd (omega arith)
lacks_led (old ∷ olds) [] goals k at i o is inside also turns lacks = absurd (omega arith)
lacks_led (old ∷ olds) (new ∷ news) goals k at zero o is inside also turns lacks =
    let same : at ≡ o = omega arith in
    let here : Lacks k (todo_of goals (if has_turn o old new then o ∷ changed_from (o + 1) olds news else changed_from (o + 1) olds news)) =
    subst (λ (n : ℕ). Lacks k (todo_of goals (if has_turn n old new then n ∷ changed_from (n + 1) olds news else changed_from (n + 1) olds news))) same lacks in
    lacks_by (has_turn o old new) goals k o (changed_from (o + 1) olds news) turns here
lacks_led (old ∷ olds) (new ∷ news) goals k at (suc i) o is inside also turns lacks =
    lacks_led olds news goals k (at + 1) i o (omega arith) (omega arith) (omega arith) turns
    (lacks_rest (has_turn at old new) goals k at (changed_from (at + 1) olds news) lacks)

-- a goal that leads and whose slot isn't in the list is as it was
led_by : (same : Bool) (old new : SlotGoal) (o : ℕ) → is_same_slot_goal old new ≡ same → leads o new ≡ true → (has_turn o old new ≡ true → ⊥) → old ≡ new
led_by true old new o is led none = slot_goal_eq old new is
led_by false old new o is led none = absurd (none (rw (is, led) refl))

led_same : (box : BoxState) (news : List SlotGoal) (o k : ℕ) → IsWired box → length news ≡ length box.slots → leads o (get_or news o (End ToClose)) ≡ true
    → (Lacks k (held (get_or news o (End ToClose)) o) → ⊥) → Lacks k (todo_of news (changed_slots box.goals news)) → goal_at box o ≡ get_or news o (End ToClose)
led_same box news o k wired size led mine lacks = elim (cases_lt o (length box.slots)) [
  | inl inside ↦
      led_by (is_same_slot_goal (goal_at box o) (get_or news o (End ToClose))) (goal_at box o) (get_or news o (End ToClose)) o refl led
      (λ turns. mine (lacks_led box.goals news news k 0 o o (omega arith) (subst (λ (n : ℕ). o < n) (sym wired.whole.goals) inside) (subst (λ (n : ℕ). o < n) (sym size) inside) turns lacks))
  | inr past ↦
      get_or_past box.goals o (End ToClose) (subst (λ (n : ℕ). n ≤ o) (sym wired.whole.goals) past)
      ∙ sym (get_or_past news o (End ToClose) (subst (λ (n : ℕ). n ≤ o) (sym size) past))
]

-- ---- which goals rest when the goals have changed

-- an end, or a link at the lower of its slots, that led before
still_rests : (goal : SlotGoal) (box : BoxState) (news : List SlotGoal) (k : ℕ) → IsSoundBox box → goal_at box k ≡ goal → RestsAt goal (with_goals box news) k
still_rests goal box news k sound is =
    rests_same goal box (with_goals box news) k
    (record {
      slot = refl;
      mine = own_put box.kind box box.slots news box.media (media_at box k) k;
      me = sender_put box.kind box box.slots news box.media (media_at box k) k;
    })
    (λ partner linked. refl) (subst (λ (g : SlotGoal). RestsAt g box k) is (sound.rests k))

start_by : (goal : SlotGoal) (box : BoxState) (news : List SlotGoal) (k : ℕ) → IsSoundBox box → IsWired (with_goals box news)
    → get_or news k (End ToClose) ≡ goal → Lacks k (todo_of news (changed_slots box.goals news)) → RestsAt goal (with_goals box news) k
start_by (End end) box news k sound wired is lacks =
    still_rests (End end) box news k sound
    (led_same box news k k sound.wired wired.whole.goals (ap (leads k) is)
    (λ mine. (subst (λ (g : SlotGoal). Lacks k (held g k)) is mine).0 refl) lacks ∙ is)
start_by (Link partner) box news k sound wired is lacks = elim (cases_lt k partner) [
  | inl below ↦
      still_rests (Link partner) box news k sound
      (led_same box news k k sound.wired wired.whole.goals (ap (leads k) is ∙ lt-ltb k partner below)
      (λ mine. (subst (λ (g : SlotGoal). Lacks k (held g k)) is mine).0 refl) lacks ∙ is)
  | inr above ↦
      let back : get_or news partner (End ToClose) ≡ Link k = (wired.links k partner is).back in
      let other : partner ≢ k = (wired.links k partner is).other in
      let below : partner < k = omega arith in
      rests_turned (with_goals box news) partner k
      (still_rests (Link k) box news partner sound
      (led_same box news partner k sound.wired wired.whole.goals (ap (leads partner) back ∙ lt-ltb partner k below)
      (λ mine. (subst (λ (g : SlotGoal). Lacks k (held g partner)) back mine).1.0 refl) lacks ∙ back))
]

-- all goals rest but those that are to have their turns
pub start_rests : (box : BoxState) (news : List SlotGoal) → IsSoundBox box → IsWired (with_goals box news) → RestsBut (with_goals box news) (todo_of news (changed_slots box.goals news))
start_rests box news sound wired k lacks = start_by (get_or news k (End ToClose)) box news k sound wired refl lacks
