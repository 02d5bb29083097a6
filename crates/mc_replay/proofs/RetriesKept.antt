-- The retries of a segment by their numbers, as turns come.
use Rattle.std.proofs.Common.{◌≡◌, ◌≢◌, ◌≤◌, ◌<◌, ◌+◌, ◌++◌, ◌==◌, ◌&&◌, inl, inr, cond, ℕ, zero, suc, Bool, true, false, List, [], ◌∷◌, IsTrue, Option, Some, None, length, take, drop, count_by, max, nat_lt, position, refl, ap, sym, ◌∙◌, subst, arith}
use Rattle.std.proofs.Math.ListN.{get_or, set, length-set}
use Rattle.std.proofs.Math.Nat.{le-max_left, le-max_right}
use Rattle.std.proofs.lemmas.Bool.{cases_eq, cases_lt}
use Rattle.std.proofs.lemmas.Grind.{common_steps}
use Rattle.std.proofs.lemmas.List.Sums.{sum_by-take-le}
use Rattle.std.proofs.lemmas.List.{get_or-set_same, get_or-set_other}
use Rattle.mc_box.specs.BoxEvents.{box_event, event_step, is_enabled, is_retry}
use Rattle.mc_box.specs.Boxes.{box_owes, is_slot}
use Rattle.mc_box.specs.declared.event.Event.{Event}
use Rattle.mc_box.specs.declared.event.Event.TheVariants.{Take, Set, Media, Tell, Retry, Shift}
use Rattle.mc_box.specs.declared.event.Turn.{Turn}
use Rattle.mc_box.proofs.Options.{if_some, map_some}
use Rattle.mc_laws.proofs.CommandsGo.{both_is, both_true}
use Rattle.mc_laws.proofs.Numbers.{box_inside, number_is, slot_inside, some_same}
use Rattle.mc_model.specs.Settles.{is_retry_at, is_retry_of, world_owes}
use Rattle.mc_model.specs.Sound.{IsSound}
use Rattle.mc_model.specs.Steps.{after_making, step, step_by}
use Rattle.mc_model.specs.Worlds.{ChannelState, WorldState, box_at, is_place, number, place, places_among, slot_count}
use Rattle.mc_replay.specs.Moments.{AreNumbered, AreRetriedOnce, AreRetries, CountsRetry, WasRetried, WasRetriedAt, retries_at, retry_count}
use Rattle.mc_replay.specs.declared.retries.Retries.{Retries}
use Rattle.mc_replay.proofs.Prefixes.{before_or_end, count_more, drop_before, drop_end, take_before, take_end}

-- ---- a retry that goes

-- its slot is there, and owes it
pub owes_by : (event : Event) (world next : WorldState) (who local : ℕ) → event ≡ Retry local → nat_lt who (length world.boxes) ≡ true → step_by world who event ≡ Some next → IsTrue (world_owes world who local)
owes_by (Take l) world next who local is below goes = absurd (cc)
owes_by (Set change) world next who local is below goes = absurd (cc)
owes_by (Media change) world next who local is below goes = absurd (cc)
owes_by (Tell word) world next who local is below goes = absurd (cc)
owes_by Shift world next who local is below goes = absurd (cc)
owes_by (Retry l) world next who local is below goes =
    let made = map_some (after_making world who) (box_event (box_at world who) (Retry l) None) next goes in
    let enabled = (if_some (is_enabled (box_at world who) (Retry l)) (event_step (box_at world who) (Retry l)) made.0 made.1).0 in
    let same : l ≡ local = cc in
    let both = both_true (is_slot (box_at world who) local) (box_owes (box_at world who) local) (subst (λ (k : ℕ). IsTrue (is_slot (box_at world who) k && box_owes (box_at world who) k)) same enabled) in
    both_is (nat_lt who (length world.boxes) && is_slot (box_at world who) local) (box_owes (box_at world who) local) (both_is (nat_lt who (length world.boxes)) (is_slot (box_at world who) local) below both.0) both.1

pub retry_owes : (world next : WorldState) (turn : Turn) (local : ℕ) → step world turn ≡ Some next → turn.event ≡ Retry local → IsTrue (world_owes world turn.who local)
retry_owes world next turn local goes is =
    let parts = if_some (nat_lt turn.who (length world.boxes)) (step_by world turn.who turn.event) next goes in
    owes_by turn.event world next turn.who local is parts.0 parts.1

-- where a slot owes, it is there
pub record IsThere (world : WorldState) (who local : ℕ) : Type 0 where
  pub box : who < length world.boxes
  pub slot : local < length (box_at world who).slots
  pub owes : box_owes (box_at world who) local ≡ true

pub owes_there : (world : WorldState) (who local : ℕ) → IsTrue (world_owes world who local) → IsThere world who local
owes_there world who local owes =
    let one = both_true (nat_lt who (length world.boxes) && is_slot (box_at world who) local) (box_owes (box_at world who) local) owes in
    let two = both_true (nat_lt who (length world.boxes)) (is_slot (box_at world who) local) one.0 in
    record { box = box_inside world who two.0; slot = slot_inside (box_at world who) local two.1; owes = one.1 }

-- and has a number
pub there_number : (world : WorldState) (who local : ℕ) → IsSound world → IsThere world who local → (s : ℕ) × (s < slot_count world) × (number world who local ≡ Some s)
there_number world who local sound there =
    let found = sound.numbered.all who local there.box there.slot in
    (found.0, found.1, subst (λ (p : ℕ × ℕ). number world p.0 p.1 ≡ Some found.0) found.2 (sound.numbered.once found.0 found.1))

-- ---- tests

pub same_by : (a b : ℕ) → (a == b) ≡ true → a ≡ b
same_by a b is = grind (arith, common_steps)

pub test_both : (a b c d : ℕ) → a ≡ b → c ≡ d → (a == b && c == d) ≡ true
test_both a b c d one two = grind (arith, common_steps)

-- the turn is the retry of no slot
pub no_retry : (event : Event) (local : ℕ) → is_retry event ≡ false → is_retry_at local event ≡ false
no_retry (Take l) local is = refl
no_retry (Set change) local is = refl
no_retry (Media change) local is = refl
no_retry (Tell word) local is = refl
no_retry (Retry l) local is = absurd (cc)
no_retry Shift local is = refl

pub not_of : (turn : Turn) (who local : ℕ) → is_retry turn.event ≡ false → is_retry_of who local turn ≡ false
not_of turn who local is = ap (λ (b : Bool). b && turn.who == who) (no_retry turn.event local is)

-- the retry of a slot
pub is_of : (turn : Turn) (l who local : ℕ) → turn.event ≡ Retry l → is_retry_of who local turn ≡ (l == local && turn.who == who)
is_of turn l who local is = ap (λ (e : Event). is_retry_at local e && turn.who == who) is

-- ---- a turn that is no retry

-- a number of passing turns that doesn't change
pub count_same : (p : Turn → Bool) (turns : List Turn) (turn : Turn) → p turn ≡ false → count_by p (turns ++ turn ∷ []) ≡ count_by p turns
count_same p turns turn none =
    let more = count_more p turns turn in
    let zero : ◌≡◌ {A = ℕ} (cond (p turn) 1 0) 0 = ap (λ (b : Bool). cond b 1 0) none in
    omega (arith, more, zero)

pub count_one : (p : Turn → Bool) (turns : List Turn) (turn : Turn) → p turn ≡ true → count_by p (turns ++ turn ∷ []) ≡ count_by p turns + 1
count_one p turns turn one =
    let more = count_more p turns turn in
    let is : ◌≡◌ {A = ℕ} (cond (p turn) 1 0) 1 = ap (λ (b : Bool). cond b 1 0) one in
    omega (arith, more, is)

pub other_retries : (world : WorldState) (turns : List Turn) (turn : Turn) (before : ℕ) (retries : Retries) → is_retry turn.event ≡ false → AreNumbered (slot_count world) retries → AreRetries world turns before retries
    → AreRetries world (turns ++ turn ∷ []) before retries
other_retries world turns turn before retries is numbered kept =
    let made : retries.made ≡ before + retry_count (turns ++ turn ∷ []) = omega (arith, kept.made, count_same (λ (t : Turn). is_retry t.event) turns turn is) in
    record {
      made = made;
      last = λ n s within inside. elim (before_or_end turns turn n within) [
        | inl past ↦
            let taken = ap retry_count (take_before turns turn n past) in
            let dropped = ap (retries_at world s) (drop_before turns turn n past) ∙ count_same (is_retry_of (place world s).0 (place world s).1) (drop n turns) turn (not_of turn (place world s).0 (place world s).1 is) in
            let old = kept.last n s past inside in (
              λ less. let here : before + retry_count (take n turns) < get_or retries.last.items s 0 = omega (arith, less, taken) in omega (arith, old.0 here, dropped),
              λ some. let here : 1 ≤ retries_at world s (drop n turns) = omega (arith, some, dropped) in omega (arith, old.1 here, taken),
            )
        | inr end ↦
            let taken = ap retry_count (take_end (turns ++ turn ∷ []) n end) in
            let dropped : retries_at world s (drop n (turns ++ turn ∷ [])) ≡ 0 = ap (retries_at world s) (drop_end (turns ++ turn ∷ []) n end) in
            (λ less. absurd (omega (arith, less, taken, made, numbered.last s)), λ some. absurd (omega (arith, some, dropped)))
      ];
      low = λ n within. elim (before_or_end turns turn n within) [
        | inl past ↦
            let taken = ap retry_count (take_before turns turn n past) in
            let dropped : (who local : ℕ) → count_by (is_retry_of who local) (drop n (turns ++ turn ∷ [])) ≡ count_by (is_retry_of who local) (drop n turns) = λ who local.
            ap (count_by (is_retry_of who local)) (drop_before turns turn n past) ∙ count_same (is_retry_of who local) (drop n turns) turn (not_of turn who local is) in
            let old = kept.low n past in (
              λ less who local. let here : retries.low ≤ before + retry_count (take n turns) = omega (arith, less, taken) in omega (arith, old.0 here who local, dropped who local),
              λ once. let here : AreRetriedOnce (drop n turns) = (λ who local. omega (arith, once who local, dropped who local)) in omega (arith, old.1 here, taken),
            )
        | inr end ↦
            let taken = ap retry_count (take_end (turns ++ turn ∷ []) n end) in (
              λ less who local. let none : count_by (is_retry_of who local) (drop n (turns ++ turn ∷ [])) ≡ 0 = ap (count_by (is_retry_of who local)) (drop_end (turns ++ turn ∷ []) n end) in omega (arith, none),
              λ once. omega (arith, numbered.low, taken, made),
            )
      ];
    }

-- ---- a retry

-- no more come up to a moment than in all
pub count_taken : (n : ℕ) (turns : List Turn) → retry_count (take n turns) ≤ retry_count turns
count_taken n turns = sum_by-take-le (λ (t : Turn). cond (is_retry t.event) 1 0) turns n

-- what is known of it: its slot, by its place and by its number
pub record Retried (world : WorldState) (turn : Turn) (s : ℕ) : Type 0 where
  local : ℕ
  event : turn.event ≡ Retry local
  inside : s < slot_count world
  at : number world turn.who local ≡ Some s

-- it is the retry of that slot
pub own_retry : (world : WorldState) (turn : Turn) (s : ℕ) → (one : Retried world turn s) → is_retry_of (place world s).0 (place world s).1 turn ≡ true
own_retry world turn s one =
    let is = number_is world turn.who one.local s one.at in
    is_of turn one.local (place world s).0 (place world s).1 one.event ∙ test_both one.local (place world s).1 turn.who (place world s).0 (sym is.2) (sym is.1)

-- and of no other
pub other_retry : (b : Bool) (world : WorldState) (turn : Turn) (s t : ℕ) → IsSound world → (one : Retried world turn s) → t < slot_count world → t ≢ s → (one.local == (place world t).1 && turn.who == (place world t).0) ≡ b → b ≡ false
other_retry false world turn s t sound one inside apart test = refl
other_retry true world turn s t sound one inside apart test =
    let both = both_true (one.local == (place world t).1) (turn.who == (place world t).0) test in
    let local : one.local ≡ (place world t).1 = same_by one.local (place world t).1 both.0 in
    let who : turn.who ≡ (place world t).0 = same_by turn.who (place world t).0 both.1 in
    let there : number world turn.who one.local ≡ Some t =
    ap (λ (w : ℕ). number world w one.local) who ∙ (ap (number world (place world t).0) local ∙ sound.numbered.once t inside) in
    absurd (apart (some_same t s (sym there ∙ one.at)))

-- a turn that is the retry of a slot of this box is that of the slot with the number
pub of_number : (world : WorldState) (turn : Turn) (s who local : ℕ) → (one : Retried world turn s) → is_retry_of who local turn ≡ true → (who ≡ (place world s).0) × (local ≡ (place world s).1)
of_number world turn s who local one is =
    let both = both_true (one.local == local) (turn.who == who) (sym (is_of turn one.local who local one.event) ∙ is) in
    let at = number_is world turn.who one.local s one.at in
    (sym (same_by turn.who who both.1) ∙ sym at.1, sym (same_by one.local local both.0) ∙ sym at.2)

-- no slot is retried twice where one more retry comes, exactly where none was before and that slot wasn't
pub once_more : (world : WorldState) (turns : List Turn) (turn : Turn) (s : ℕ) → Retried world turn s → AreRetriedOnce turns → retries_at world s turns ≡ 0 → AreRetriedOnce (turns ++ turn ∷ [])
once_more world turns turn s one once none who local = by (is_retry_of who local turn) refl
  where
    by : (b : Bool) → is_retry_of who local turn ≡ b → count_by (is_retry_of who local) (turns ++ turn ∷ []) ≤ 1
    by false is = let same = count_same (is_retry_of who local) turns turn is in omega (arith, same, once who local)
    by true is =
        let more = count_one (is_retry_of who local) turns turn is in
        let at = of_number world turn s who local one is in
        let zero : count_by (is_retry_of who local) turns ≡ 0 = ap (λ (w : ℕ). count_by (is_retry_of w local) turns) at.0 ∙ (ap (λ (l : ℕ). count_by (is_retry_of (place world s).0 l) turns) at.1 ∙ none) in
        omega (arith, more, zero)

pub once_less : (turns : List Turn) (turn : Turn) → AreRetriedOnce (turns ++ turn ∷ []) → AreRetriedOnce turns
once_less turns turn once who local =
    let more = count_more (is_retry_of who local) turns turn in
    omega (arith, more, once who local)

pub one_retry : (world : WorldState) (turns : List Turn) (turn : Turn) (before s : ℕ) (old new : Retries) → IsSound world → Retried world turn s → AreNumbered (slot_count world) old → WasRetried old new s → AreRetries world turns before old
    → AreRetries world (turns ++ turn ∷ []) before new
one_retry world turns turn before s old new sound one numbered was kept =
    let is : is_retry turn.event ≡ true = ap is_retry one.event in
    let made : new.made ≡ before + retry_count (turns ++ turn ∷ []) = omega (arith, was.made, kept.made, count_one (λ (t : Turn). is_retry t.event) turns turn is) in
    let there : s < length old.last.items = omega (arith, one.inside, numbered.slots) in
    let own_last : get_or new.last.items s 0 ≡ old.made + 1 = ap (λ (l : List ℕ). get_or l s 0) was.last ∙ get_or-set_same old.last.items s (old.made + 1) 0 there in
    let other_last : (t : ℕ) → t ≢ s → get_or new.last.items t 0 ≡ get_or old.last.items t 0 = λ t apart. ap (λ (l : List ℕ). get_or l t 0) was.last ∙ get_or-set_other old.last.items s t (old.made + 1) 0 apart in
    record {
      made = made;
      last = λ n t within inside. elim (before_or_end turns turn n within) [
        | inl past ↦
            let taken = ap retry_count (take_before turns turn n past) in
            let dropped = ap (retries_at world t) (drop_before turns turn n past) in
            elim (cases_eq t s) [
              | inl same ↦
                  let more : retries_at world t (drop n turns ++ turn ∷ []) ≡ retries_at world t (drop n turns) + 1 =
                  count_one (is_retry_of (place world t).0 (place world t).1) (drop n turns) turn (ap (λ (k : ℕ). is_retry_of (place world k).0 (place world k).1 turn) same ∙ own_retry world turn s one) in
                  let last : get_or new.last.items t 0 ≡ old.made + 1 = ap (λ (k : ℕ). get_or new.last.items k 0) same ∙ own_last in
                  let most : retry_count (take n turns) ≤ retry_count turns = count_taken n turns in
                  (λ less. omega (arith, dropped, more), λ some. omega (arith, taken, last, most, kept.made))
              | inr apart ↦
                  let none = is_of turn one.local (place world t).0 (place world t).1 one.event
                  ∙ other_retry (one.local == (place world t).1 && turn.who == (place world t).0) world turn s t sound one inside apart refl in
                  let more : retries_at world t (drop n turns ++ turn ∷ []) ≡ retries_at world t (drop n turns) = count_same (is_retry_of (place world t).0 (place world t).1) (drop n turns) turn none in
                  let last = other_last t apart in
                  let was_last = kept.last n t past inside in (
                    λ less. let here : before + retry_count (take n turns) < get_or old.last.items t 0 = omega (arith, less, taken, last) in omega (arith, was_last.0 here, dropped, more),
                    λ some. let here : 1 ≤ retries_at world t (drop n turns) = omega (arith, some, dropped, more) in omega (arith, was_last.1 here, taken, last),
                  )
            ]
        | inr end ↦
            let taken = ap retry_count (take_end (turns ++ turn ∷ []) n end) in
            let dropped : retries_at world t (drop n (turns ++ turn ∷ [])) ≡ 0 = ap (retries_at world t) (drop_end (turns ++ turn ∷ []) n end) in
            let last : get_or new.last.items t 0 ≤ old.made + 1 = elim (cases_eq t s) [
              | inl same ↦ let is_last : get_or new.last.items t 0 ≡ old.made + 1 = ap (λ (k : ℕ). get_or new.last.items k 0) same ∙ own_last in omega (arith, is_last)
              | inr apart ↦ omega (arith, other_last t apart, numbered.last t)
            ] in
            (λ less. absurd (omega (arith, less, taken, made, was.made, last)), λ some. absurd (omega (arith, some, dropped)))
      ];
      low = λ n within. elim (before_or_end turns turn n within) [
        | inl past ↦
            let taken = ap retry_count (take_before turns turn n past) in
            let dropped = drop_before turns turn n past in
            let was_low = kept.low n past in
            let was_last = kept.last n s past one.inside in (
              λ less.
                  let low : old.low ≤ before + retry_count (take n turns) = omega (arith, less, taken, was.low, le-max_left old.low (get_or old.last.items s 0)) in
                  let last : get_or old.last.items s 0 ≤ before + retry_count (take n turns) = omega (arith, less, taken, was.low, le-max_right old.low (get_or old.last.items s 0)) in
                  let none : retries_at world s (drop n turns) ≡ 0 = none_by (retries_at world s (drop n turns)) (λ some. let past_last = was_last.1 some in omega (arith, past_last, last)) in
                  subst AreRetriedOnce (sym dropped) (once_more world (drop n turns) turn s one (was_low.0 low) none),
              λ once.
                  let all : AreRetriedOnce (drop n turns ++ turn ∷ []) = subst AreRetriedOnce dropped once in
                  let low : old.low ≤ before + retry_count (take n turns) = was_low.1 (once_less (drop n turns) turn all) in
                  let more : retries_at world s (drop n turns ++ turn ∷ []) ≡ retries_at world s (drop n turns) + 1 = count_one (is_retry_of (place world s).0 (place world s).1) (drop n turns) turn (own_retry world turn s one) in
                  let last : get_or old.last.items s 0 ≤ before + retry_count (take n turns) =
                  not_less (before + retry_count (take n turns)) (get_or old.last.items s 0) (λ less. let some = was_last.0 less in omega (arith, some, more, all (place world s).0 (place world s).1)) in
                  let both : max old.low (get_or old.last.items s 0) ≤ before + retry_count (take n turns) = max_both old.low (get_or old.last.items s 0) (before + retry_count (take n turns)) low last in
                  omega (arith, both, was.low, taken),
            )
        | inr end ↦
            let taken = ap retry_count (take_end (turns ++ turn ∷ []) n end) in
            let both : max old.low (get_or old.last.items s 0) ≤ old.made = max_both old.low (get_or old.last.items s 0) old.made numbered.low (numbered.last s) in (
              λ less who local. let none : count_by (is_retry_of who local) (drop n (turns ++ turn ∷ [])) ≡ 0 = ap (count_by (is_retry_of who local)) (drop_end (turns ++ turn ∷ []) n end) in omega (arith, none),
              λ once. omega (arith, both, was.low, was.made, taken, made),
            )
      ];
    }
  where
    none_by : (n : ℕ) → (1 ≤ n → ⊥) → n ≡ 0
    none_by n never = elim (cases_eq n 0) [
      | inl is ↦ is
      | inr some ↦ absurd (never (omega (arith, some)))
    ]

    not_less : (a b : ℕ) → (a < b → ⊥) → b ≤ a
    not_less a b never = elim (cases_lt a b) [
      | inl less ↦ absurd (never less)
      | inr past ↦ omega (arith, past)
    ]

    max_both : (a b c : ℕ) → a ≤ c → b ≤ c → max a b ≤ c
    max_both a b c one two = omega (arith, one, two)

-- ---- before the first turn

pub first_retries : (world : WorldState) (retries : Retries) (count : ℕ) → AreNumbered count retries → AreRetries world [] retries.made retries
first_retries world retries count numbered = record {
  made = omega arith;
  last = λ n s within inside.
      let none : n ≡ length {A = Turn} [] = omega (arith, within) in
      let taken = ap retry_count (take_end [] n none) in
      let dropped : retries_at world s (drop n []) ≡ 0 = ap (retries_at world s) (drop_end [] n none) in
      (λ less. absurd (omega (arith, less, taken, numbered.last s)), λ some. absurd (omega (arith, some, dropped)));
  low = λ n within.
      let none : n ≡ length {A = Turn} [] = omega (arith, within) in
      let taken = ap retry_count (take_end [] n none) in (
        λ less who local. let zero : count_by (is_retry_of who local) (drop n []) ≡ 0 = ap (count_by (is_retry_of who local)) (drop_end [] n none) in omega (arith, zero),
        λ once. omega (arith, numbered.low, taken),
      );
}

-- ---- any turn

-- a slot has one number in worlds of the same channels
pub number_same : (one two : WorldState) (who local : ℕ) → one.channels ≡ two.channels → number one who local ≡ number two who local
number_same one two who local same = ap (λ (channels : List ChannelState). position (is_place (who, local)) (places_among channels)) same

-- no number is beyond those of the retries so far
pub numbers_more : (count s : ℕ) (old new : Retries) → AreNumbered count old → WasRetried old new s → AreNumbered count new
numbers_more count s old new numbered was = record {
  slots = ap length was.last ∙ (length-set old.last.items s (old.made + 1) ∙ numbered.slots);
  last = λ t. elim (cases_eq t s) [
    | inl same ↦
        let most : get_or (set old.last.items s (old.made + 1)) t 0 ≤ old.made + 1 = set_most old.last.items s t (old.made + 1) (λ k. let few = numbered.last k in omega (arith, few)) in
        omega (arith, was.made, ap (λ (l : List ℕ). get_or l t 0) was.last, most)
    | inr apart ↦ omega (arith, was.made, ap (λ (l : List ℕ). get_or l t 0) was.last, get_or-set_other old.last.items s t (old.made + 1) 0 apart, numbered.last t)
  ];
  low = omega (arith, was.low, was.made, numbered.low, numbered.last s);
}
  where
    set_most : (xs : List ℕ) (k t x : ℕ) → ((i : ℕ) → get_or xs i 0 ≤ x) → get_or (set xs k x) t 0 ≤ x
    set_most [] k t x few = omega arith
    set_most (y ∷ xs) zero zero x few = omega arith
    set_most (y ∷ xs) zero (suc t) x few = few (suc t)
    set_most (y ∷ xs) (suc k) zero x few = few zero
    set_most (y ∷ xs) (suc k) (suc t) x few = set_most xs k t x (λ i. few (suc i))

-- a retry that goes is that of the slot with its number
pub retries_more : (begins world next : WorldState) (turns : List Turn) (turn : Turn) (before : ℕ) (old new : Retries) → IsSound begins → IsSound world → world.channels ≡ begins.channels → next.channels ≡ begins.channels → step world turn ≡ Some next
    → AreNumbered (slot_count begins) old → CountsRetry next old new turn.who turn.event → AreRetries begins turns before old → AreRetries begins (turns ++ turn ∷ []) before new × AreNumbered (slot_count begins) new
retries_more begins world next turns turn before old new sound sound_now channels channels_next goes numbered counts kept = by turn.event refl counts
  where
    same : is_retry turn.event ≡ false → new ≡ old → AreRetries begins (turns ++ turn ∷ []) before new × AreNumbered (slot_count begins) new
    same none is = (subst (AreRetries begins (turns ++ turn ∷ []) before) (sym is) (other_retries begins turns turn before old none numbered kept), subst (AreNumbered (slot_count begins)) (sym is) numbered)

    by_number : (local : ℕ) (o : Option ℕ) → turn.event ≡ Retry local → number next turn.who local ≡ o → WasRetriedAt old new o → AreRetries begins (turns ++ turn ∷ []) before new × AreNumbered (slot_count begins) new
    by_number local None event at was =
        let there = there_number world turn.who local sound_now (owes_there world turn.who local (retry_owes world next turn local goes event)) in
        let here : number next turn.who local ≡ Some there.0 = number_same next world turn.who local (channels_next ∙ sym channels) ∙ there.2 in
        absurd (cc (at, here))
    by_number local (Some s) event at was =
        let here : number begins turn.who local ≡ Some s = number_same begins next turn.who local (sym channels_next) ∙ at in
        let one : Retried begins turn s = record { local = local; event = event; inside = (number_is begins turn.who local s here).0; at = here } in
        (one_retry begins turns turn before s old new sound one numbered was kept, numbers_more (slot_count begins) s old new numbered was)

    by : (event : Event) → turn.event ≡ event → CountsRetry next old new turn.who event → AreRetries begins (turns ++ turn ∷ []) before new × AreNumbered (slot_count begins) new
    by (Take local) is was = same (ap is_retry is) was
    by (Set change) is was = same (ap is_retry is) was
    by (Media change) is was = same (ap is_retry is) was
    by (Tell word) is was = same (ap is_retry is) was
    by (Retry local) is was = by_number local (number next turn.who local) is refl was
    by Shift is was = same (ap is_retry is) was
