-- Lanes that are taken out of a list one by one.
use Rattle.std.proofs.Common.{◌≡◌, ◌≢◌, ℕ, ◌+◌, ◌<◌, ◌≤◌, ◌++◌, List, [], ◌∷◌, Some, length, map, take, slice_get, slice_set, sym, ◌∙◌, ap, subst, arith}
use Rattle.std.proofs.lemmas.List.{get_or-set_other, length-map, length-set, map-set, take_all}
use Rattle.mc_team.proofs.ByPlace.{map_more_at}
use Rattle.mc_team.specs.Made.{AreApart, LeavesOthers}
use Rattle.mc_lane.specs.Queue.{Queue}
use Rattle.mc_signal.specs.declared.Tagged.{Tagged}
use Rattle.mc_team.proofs.Lists.{take_here, take_there}
use Rattle.mc_worker.specs.Boxes.{box_of, items_of}

-- one of some lanes leaves an empty one
pub lane_left : (lanes : List (Queue Tagged)) (at : ℕ) (new : Queue Tagged) → new.items ≡ [] → items_of (slice_set lanes at new) ≡ slice_set (items_of lanes) at []
lane_left lanes at new empty = map-set (λ (q : Queue Tagged). q.items) lanes at new ∙ ap (λ (l : List Tagged). slice_set (items_of lanes) at l) empty

-- the first of these lanes were taken
pub record IsTaking (numbers : List ℕ) (i : ℕ) (old now taken : List (List Tagged)) : Type 0 where
  pub taken_so_far : taken ≡ map (box_of old) (take i numbers)
  pub left : LeavesOthers (take i numbers) old now

-- one more has what it had
next_lane : (numbers : List ℕ) (i lane : ℕ) (old now taken : List (List Tagged)) → AreApart numbers → slice_get numbers i ≡ Some lane → IsTaking numbers i old now taken → box_of now lane ≡ box_of old lane
next_lane numbers i lane old now taken apart at so_far =
    so_far.left.others lane (λ k e. let before = take_here numbers i k lane e in let same : k ≡ i = apart k i lane before.1 at in let low = before.0 in absurd (omega arith))

-- so one number more is taken
pub taking_more : (numbers : List ℕ) (i lane : ℕ) (old now new taken more : List (List Tagged)) → AreApart numbers → slice_get numbers i ≡ Some lane → IsTaking numbers i old now taken
    → more ≡ taken ++ box_of now lane ∷ [] → new ≡ slice_set now lane [] → IsTaking numbers (i + 1) old new more
taking_more numbers i lane old now new taken more apart at so_far pushed set =
    record {
      taken_so_far =
          pushed ∙ (ap (λ (l : List Tagged). taken ++ l ∷ []) (next_lane numbers i lane old now taken apart at so_far) ∙ (ap (λ (l : List (List Tagged)). l ++ box_of old lane ∷ []) so_far.taken_so_far ∙ sym (map_more_at (box_of old) numbers i lane at)));
      left = record {
        count = ap (λ (l : List (List Tagged)). length l) set ∙ (length-set now lane [] ∙ so_far.left.count);
        others = λ other off.
            let here : slice_get (take (i + 1) numbers) i ≡ Some lane = take_there numbers (i + 1) i lane (omega arith) at in
            let apart_from : other ≢ lane = λ e. off i (here ∙ ap Some (sym e)) in
            ap (λ (l : List (List Tagged)). box_of l other) set ∙ (get_or-set_other now lane other [] [] apart_from
            ∙ so_far.left.others other (λ k e. let before = take_here numbers i k other e in off k (take_there numbers (i + 1) k other (omega (arith, before.0)) before.1)));
      };
    }

-- and all
pub taking_all : (numbers : List ℕ) (i : ℕ) (old now taken : List (List Tagged)) → length numbers ≤ i → IsTaking numbers i old now taken → (taken ≡ map (box_of old) numbers) × LeavesOthers numbers old now
taking_all numbers i old now taken past so_far =
    let whole : take i numbers ≡ numbers = take_all i numbers past in
    (so_far.taken_so_far ∙ ap (map (box_of old)) whole, subst (λ (l : List ℕ). LeavesOthers l old now) whole so_far.left)

-- the lanes are as many as before
pub still_there : (numbers : List ℕ) (i n : ℕ) (old now : List (Queue Tagged)) (taken : List (List Tagged)) → IsTaking numbers i (items_of old) (items_of now) taken → n < length old → n < length now
still_there numbers i n old now taken so_far below =
    omega (arith, below, so_far.left.count, length-map old (λ (q : Queue Tagged). q.items), length-map now (λ (q : Queue Tagged). q.items))
