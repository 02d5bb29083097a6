-- Entries that leave a log one after another, or all at once.
use Rattle.std.proofs.Common.{◌≡◌, ℕ, zero, suc, ◌+◌, ◌-◌, ◌<◌, ◌≤◌, inl, inr, List, [], ◌∷◌, ◌++◌, length, map, append_assoc, Some, refl, ap, sym, ◌∙◌, subst, arith}
use Rattle.std.specs.List.{AllByRecursion, slice_get}
use Rattle.std.proofs.lemmas.List.{append-nil, length-map, map-append}
use Rattle.mc_box.specs.declared.event.Turn.{Turn}
use Rattle.mc_merge.specs.Weaving.{Climb, IsKnown, IsWhole, IsWritten, TakesTurn, TakesUntil, made_stamps, turn_by}
use Rattle.mc_merge.specs.declared.log.Made.{Made}
use Rattle.mc_merge.specs.declared.log.PartLog.{PartLog}
use Rattle.mc_merge.proofs.Climbing.{all_push}

-- so far
pub record HasTaken (until : ℕ) (start now : PartLog) (before turns : List Turn) (len capacity : ℕ) : Type 0 where
  pub takes : TakesUntil until start now before turns
  pub known : IsKnown now.numbers.items now.made.items
  pub numbers : now.numbers ≡ start.numbers
  pub clock : now.clock ≡ start.clock
  pub room : len + length now.made.items ≤ capacity

pub none_taken : (until : ℕ) (log : PartLog) (before : List Turn) (len capacity : ℕ) → IsKnown log.numbers.items log.made.items → len + length log.made.items ≤ capacity → HasTaken until log log before before len capacity
none_taken until log before len capacity known room = record {
  takes = record { items = []; taken = refl; within = tt; added = sym (append-nil before) };
  known = known;
  numbers = refl;
  clock = refl;
  room = room;
}

known_tail : (numbers : List ℕ) (log : List Made) (made : Made) (rest : List Made) → log ≡ made ∷ rest → IsKnown numbers log → IsKnown numbers rest
known_tail numbers log made rest is known =
    let all : IsKnown numbers (made ∷ rest) = subst (λ (l : List Made). IsKnown numbers l) is known in
    all.1

same_first : (log : List Made) (made first : Made) (rest : List Made) → log ≡ made ∷ rest → Some first ≡ slice_get log 0 → first ≡ made
same_first [] made first rest is at = absurd (cc)
same_first (other ∷ log) made first rest is at = cc

shorter : (log : List Made) (made : Made) (rest : List Made) → log ≡ made ∷ rest → length log ≡ suc (length rest)
shorter log made rest is = ap (λ (l : List Made). length l) is

-- one more
pub taken_more : (until : ℕ) (start now log : PartLog) (before turns turns_2 : List Turn) (turn : Turn) (first : Made) (len len_2 capacity capacity_2 : ℕ) → HasTaken until start now before turns len capacity
    → Some first ≡ slice_get now.made.items 0 → now.clock + first.stamp ≤ until → TakesTurn now log turn → log.numbers ≡ now.numbers → log.clock ≡ now.clock → turns_2 ≡ turns ++ turn ∷ [] → len_2 ≡ len + 1 → capacity_2 ≡ capacity
    → HasTaken until start log before turns_2 len_2 capacity_2
taken_more until start now log before turns turns_2 turn first len len_2 capacity capacity_2 so_far front within takes numbers clock pushed longer same_room =
    let items : List Made = so_far.takes.items in
    let made : Made = takes.made in
    let same : first ≡ made = same_first now.made.items made first log.made.items takes.first front in
    let time : start.clock + made.stamp ≤ until =
    subst (λ (n : ℕ). n + made.stamp ≤ until) so_far.clock (subst (λ (m : Made). now.clock + m.stamp ≤ until) same within) in
    let less : length now.made.items ≡ suc (length log.made.items) = shorter now.made.items made log.made.items takes.first in
    let room : len + length now.made.items ≤ capacity = so_far.room in
    record {
      takes = record {
        items = items ++ made ∷ [];
        taken = so_far.takes.taken ∙ (ap (λ (l : List Made). items ++ l) takes.first ∙ sym (append_assoc items (made ∷ []) log.made.items));
        within = all_push (λ (m : Made). start.clock + m.stamp ≤ until) items made so_far.takes.within time;
        added = pushed ∙ (ap (λ (l : List Turn). l ++ turn ∷ []) so_far.takes.added
            ∙ (append_assoc before (map (turn_by start.numbers.items) items) (turn ∷ [])
            ∙ ap (λ (l : List Turn). before ++ l)
            (ap (λ (t : Turn). map (turn_by start.numbers.items) items ++ t ∷ []) (takes.turn_is ∙ ap (λ v. turn_by v.items made) so_far.numbers)
            ∙ sym (map-append (turn_by start.numbers.items) items (made ∷ [])))));
      };
      known = subst (λ v. IsKnown v.items log.made.items) (sym numbers) (known_tail now.numbers.items now.made.items made log.made.items takes.first so_far.known);
      numbers = numbers ∙ so_far.numbers;
      clock = clock ∙ so_far.clock;
      room = omega arith;
    }

-- ---- all at once

-- what comes up to the last comes up to its time
up_to : (stamps : List ℕ) (i last : ℕ) → Climb stamps → length stamps ≡ suc i → slice_get stamps i ≡ Some last → AllByRecursion (λ (stamp : ℕ). stamp ≤ last) stamps
up_to [] i last climb long at = tt
up_to (stamp ∷ []) zero last climb long at = (let same : stamp ≡ last = cc in omega (arith, same), tt)
up_to (stamp ∷ []) (suc i) last climb long at = absurd (omega (arith, long))
up_to (stamp ∷ next ∷ stamps) zero last climb long at = absurd (omega (arith, long))
up_to (stamp ∷ next ∷ stamps) (suc i) last climb long at =
    let rest = up_to (next ∷ stamps) i last climb.1 (omega (arith, long)) at in
    let one : stamp ≤ next = climb.0.0 in
    let two : next ≤ last = rest.0 in
    (omega (arith, one, two), rest)

within_time : (log : List Made) (clock until last : ℕ) → clock + last ≤ until → AllByRecursion (λ (stamp : ℕ). stamp ≤ last) (made_stamps log) → AllByRecursion (λ (made : Made). clock + made.stamp ≤ until) log
within_time [] clock until last time all = tt
within_time (made ∷ log) clock until last time all = (let below : made.stamp ≤ last = all.0 in omega (arith, below, time), within_time log clock until last time all.1)

stamp_at : (log : List Made) (i : ℕ) (made : Made) → slice_get log i ≡ Some made → slice_get (made_stamps log) i ≡ Some made.stamp
stamp_at [] i made at = absurd (cc)
stamp_at (first ∷ log) zero made at = let same : first ≡ made = cc in ap (λ (m : Made). Some m.stamp) same
stamp_at (first ∷ log) (suc i) made at = stamp_at log i made at

written_all : (numbers : List ℕ) (log : List Made) (turns : List Turn) (count : ℕ) → IsWritten numbers log turns → 0 < count → length turns ≡ count → turns ≡ map (turn_by numbers) log
written_all numbers log turns count (inl none) some long = absurd (let zero_is : length turns ≡ 0 = ap (λ (l : List Turn). length l) none in omega (arith, some, long, zero_is))
written_all numbers log turns count (inr all) some long = all

pub is_whole : (until : ℕ) (log : PartLog) (last : Made) (count : ℕ) → Climb (made_stamps log.made.items) → IsWritten log.numbers.items log.made.items log.turns.items → 0 < count → count ≡ length log.made.items
    → length log.turns.items ≡ count → Some last ≡ slice_get log.made.items (count - 1) → log.clock + last.stamp ≤ until → IsWhole until log
is_whole until log last count climb written some count_is long at time = record {
  turns_are = written_all log.numbers.items log.made.items log.turns.items count written some long;
  within = within_time log.made.items log.clock until last.stamp time
      (up_to (made_stamps log.made.items) (count - 1) last.stamp climb
      (let stamps : length (made_stamps log.made.items) ≡ length log.made.items = length-map log.made.items (λ (made : Made). made.stamp) in omega (arith, stamps, count_is, some))
      (stamp_at log.made.items (count - 1) last (sym at)));
}

pub whole_taken : (until : ℕ) (log log_2 : PartLog) (before turns : List Turn) → IsWhole until log → log_2.made.items ≡ [] → turns ≡ before ++ log.turns.items → TakesUntil until log log_2 before turns
whole_taken until log log_2 before turns whole empty added = record {
  items = log.made.items;
  taken = sym (append-nil log.made.items) ∙ ap (λ (l : List Made). log.made.items ++ l) (sym empty);
  within = whole.within;
  added = added ∙ ap (λ (l : List Turn). before ++ l) whole.turns_are;
}

-- as many turns as entries
pub whole_long : (until : ℕ) (log : PartLog) (len capacity : ℕ) → IsWhole until log → len + length log.made.items ≤ capacity → len + length log.turns.items ≤ capacity
whole_long until log len capacity whole room =
    let long : length log.turns.items ≡ length log.made.items = ap (λ (l : List Turn). length l) whole.turns_are ∙ length-map log.made.items (turn_by log.numbers.items) in
    omega (arith, long, room)
