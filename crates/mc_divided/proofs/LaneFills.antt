-- Lanes that are filled, one signal and then one channel at a time.
use Rattle.std.proofs.Common.{◌≡◌, ◌≢◌, ◌<◌, ◌≤◌, ◌+◌, ◌*◌, inl, inr, All, ℕ, zero, suc, Some, IsTrue, List, [], ◌∷◌, ◌++◌, length, length-set, get_or, get_or-set_same, get_or-set_other, replicate, set, take, refl, ap, sym, ◌∙◌, subst, arith}
use Rattle.std.proofs.lemmas.Bool.{cases_eq}
use Rattle.std.proofs.lemmas.List.{get_or-map, set-get_or, take_more}
use Rattle.std.proofs.lemmas.Option.{get_or_from_slice_get, slice_get-get_or}
use Rattle.std.specs.List.{slice_get}
use Rattle.mc_lane.specs.Queue.{Queue}
use Rattle.mc_merge.specs.Lanes.{absent_channel}
use Rattle.mc_model.specs.Worlds.{ChannelState, WorldState}
use Rattle.mc_divided.specs.Laying.{AllFit, AreFilled, LeadsTo, lane_here, slot_after}
use Rattle.mc_part.specs.Carrying.{AreFor}
use Rattle.mc_signal.specs.declared.Tagged.{Tagged}
use Rattle.mc_merge.proofs.Logs.{all_at}
use Rattle.mc_world.specs.Lanes.{signals_of}
use Rattle.mc_world.specs.Pumping.{is_slot_at, with_last}

-- ---- one lane

set_twice : {A : Type 0} (xs : List A) (i : ℕ) (x y : A) → set (set xs i x) i y ≡ set xs i y
set_twice [] i x y = refl
set_twice (z ∷ xs) zero x y = refl
set_twice (z ∷ xs) (suc i) x y = ap (λ (l : List _). z ∷ l) (set_twice xs i x y)

-- one signal more
pub one_put : (world before after : WorldState) (lane i : ℕ) (signals : List Tagged) (tagged : Tagged) → before ≡ record world { lanes = set world.lanes lane (take i signals) }
    → after ≡ with_last before lane tagged → lane < length before.lanes → Some tagged ≡ slice_get signals i → i < length signals
    → after ≡ record world { lanes = set world.lanes lane (take (i + 1) signals) }
one_put world before after lane i signals tagged so_far put there read below =
    let count : length before.lanes ≡ length world.lanes = ap (λ (w : WorldState). length w.lanes) so_far ∙ length-set world.lanes lane (take i signals) in
    let inside : lane < length world.lanes = subst (λ (n : ℕ). lane < n) count there in
    let has : get_or before.lanes lane [] ≡ take i signals = ap (λ (w : WorldState). get_or w.lanes lane []) so_far ∙ get_or-set_same world.lanes lane (take i signals) [] inside in
    let last : take i signals ++ tagged ∷ [] ≡ take (i + 1) signals =
    ap (λ (x : Tagged). take i signals ++ x ∷ []) (sym (get_or_from_slice_get signals i tagged tagged (sym read))) ∙ sym (take_more signals i tagged below) in
    put
    ∙ (ap (λ (w : WorldState). record w { lanes = set w.lanes lane (get_or before.lanes lane [] ++ tagged ∷ []) }) so_far
    ∙ (ap (λ (l : List (List Tagged)). record world { lanes = l }) (set_twice world.lanes lane (take i signals) (get_or before.lanes lane [] ++ tagged ∷ []))
    ∙ (ap (λ (x : List Tagged). record world { lanes = set world.lanes lane (x ++ tagged ∷ []) }) has
    ∙ ap (λ (x : List Tagged). record world { lanes = set world.lanes lane x }) last)))

-- all that is for tunnels of the channel has its slot
pub all_led : (world : WorldState) (lane count first : ℕ) (signals : List Tagged) → LeadsTo world lane count first → AreFor count signals
    → All (λ (tagged : Tagged). IsTrue (is_slot_at world lane tagged.tunnel (slot_after first tagged.tunnel))) signals
all_led world lane count first signals leads are k d below =
    leads (get_or signals k d).tunnel (all_at (λ (tagged : Tagged). tagged.tunnel < count) signals k (get_or signals k d) are (slice_get-get_or signals k d below))

-- what a lane that is read has
lane_read : (lanes : List (Queue Tagged)) (i : ℕ) (lane : Queue Tagged) → i < length lanes → lane ≡ get_or lanes i lane → get_or (signals_of lanes) i [] ≡ lane.items
lane_read lanes i lane inside read = get_or-map (λ (q : Queue Tagged). q.items) lanes i lane [] inside ∙ ap (λ (q : Queue Tagged). q.items) (sym read)

lane_inside : (c side n total : ℕ) → c < n → side < 2 → total ≡ 2 * n → 2 * c + side < total
lane_inside c side n total below low is = omega arith

pub fit_read : (channels : List ChannelState) (lanes : List (Queue Tagged)) (c side i : ℕ) (lane : Queue Tagged) → AllFit channels (signals_of lanes) → c < length channels → side < 2
    → length lanes ≡ 2 * length channels → i ≡ 2 * c + side → lane ≡ get_or lanes i lane → AreFor (length (get_or channels c absent_channel).tunnels) lane.items
fit_read channels lanes c side i lane fit below low count is read =
    subst (λ (l : List Tagged). AreFor (length (get_or channels c absent_channel).tunnels) l)
    (ap (λ (n : ℕ). get_or (signals_of lanes) n []) (sym is)
    ∙ lane_read lanes i lane (subst (λ (n : ℕ). n < length lanes) (sym is) (lane_inside c side (length channels) (length lanes) below low count)) read)
    (fit c side below low)

-- ---- the lanes of a channel

two_lanes : (p : ℕ) → ((2 * p + 0 ≡ 2 * p) × (2 * p ≢ 2 * p + 1)) × (2 * p + 1 ≢ 2 * p)
two_lanes p = ((omega arith, λ same. omega arith), λ same. omega arith)

-- the lanes of one channel more
abbrev with_two : List (List Tagged) → ℕ → List Tagged → List Tagged → List (List Tagged)
with_two lanes p one two = set (set lanes (2 * p) one) (2 * p + 1) two

first_of : (lanes : List (List Tagged)) (p : ℕ) (one two : List Tagged) → 2 * p + 1 < length lanes → get_or (with_two lanes p one two) (2 * p) [] ≡ one
first_of lanes p one two inside =
    get_or-set_other (set lanes (2 * p) one) (2 * p + 1) (2 * p) two [] (two_lanes p).0.1 ∙ get_or-set_same lanes (2 * p) one [] (omega arith)

second_of : (lanes : List (List Tagged)) (p : ℕ) (one two : List Tagged) → 2 * p + 1 < length lanes → get_or (with_two lanes p one two) (2 * p + 1) [] ≡ two
second_of lanes p one two inside = get_or-set_same (set lanes (2 * p) one) (2 * p + 1) two [] (subst (λ (n : ℕ). 2 * p + 1 < n) (sym (length-set lanes (2 * p) one)) inside)

other_of : (lanes : List (List Tagged)) (p lane : ℕ) (one two : List Tagged) → lane ≢ 2 * p → lane ≢ 2 * p + 1 → get_or (with_two lanes p one two) lane [] ≡ get_or lanes lane []
other_of lanes p lane one two apart apart_2 = get_or-set_other (set lanes (2 * p) one) (2 * p + 1) lane two [] apart_2 ∙ get_or-set_other lanes (2 * p) lane one [] apart

last_side : (assigned : List ℕ) (channels : List ChannelState) (lanes : List (List Tagged)) (part c p side : ℕ) (before : List (List Tagged)) → 2 * p + 1 < length before → side < 2
    → get_or (with_two before p (lane_here assigned channels lanes part c 0) (lane_here assigned channels lanes part c 1)) (2 * p + side) [] ≡ lane_here assigned channels lanes part c side
last_side assigned channels lanes part c p zero before inside low =
    ap (λ (n : ℕ). get_or (with_two before p (lane_here assigned channels lanes part c 0) (lane_here assigned channels lanes part c 1)) n []) (two_lanes p).0.0
    ∙ first_of before p (lane_here assigned channels lanes part c 0) (lane_here assigned channels lanes part c 1) inside
last_side assigned channels lanes part c p (suc zero) before inside low = second_of before p (lane_here assigned channels lanes part c 0) (lane_here assigned channels lanes part c 1) inside
last_side assigned channels lanes part c p (suc (suc side)) before inside low = absurd (omega arith)

earlier_lane : (q p side : ℕ) → q < p → side < 2 → (2 * q + side ≢ 2 * p) × (2 * q + side ≢ 2 * p + 1)
earlier_lane q p side below low = (λ same. omega arith, λ same. omega arith)

later_lane : (lane p : ℕ) → 2 * (p + 1) ≤ lane → (lane ≢ 2 * p) × ((lane ≢ 2 * p + 1) × (2 * p ≤ lane))
later_lane lane p past = (λ same. omega arith, (λ same. omega arith, omega arith))

pub filled_more : (assigned : List ℕ) (channels : List ChannelState) (lanes : List (List Tagged)) (part : ℕ) (numbers : List ℕ) (p c : ℕ) (before after : List (List Tagged))
    → AreFilled assigned channels lanes part numbers p before → c ≡ get_or numbers p 0 → 2 * p + 1 < length before
    → after ≡ set (set before (2 * p) (lane_here assigned channels lanes part c 0)) (2 * p + 1) (lane_here assigned channels lanes part c 1)
    → AreFilled assigned channels lanes part numbers (p + 1) after
filled_more assigned channels lanes part numbers p c before after filled is inside changed = record {
  first = λ place side below low. elim (cases_eq place p) [
    | inl same ↦
        ap (λ (l : List (List Tagged)). get_or l (2 * place + side) []) changed
        ∙ (ap (λ (n : ℕ). get_or (with_two before p (lane_here assigned channels lanes part c 0) (lane_here assigned channels lanes part c 1)) (2 * n + side) []) same
        ∙ (last_side assigned channels lanes part c p side before inside low
        ∙ ap (λ (n : ℕ). lane_here assigned channels lanes part n side) (is ∙ ap (λ (n : ℕ). get_or numbers n 0) (sym same))))
    | inr other ↦
        let earlier : place < p = omega (arith, below, other) in
        let apart = earlier_lane place p side earlier low in
        ap (λ (l : List (List Tagged)). get_or l (2 * place + side) []) changed
        ∙ (other_of before p (2 * place + side) (lane_here assigned channels lanes part c 0) (lane_here assigned channels lanes part c 1) apart.0 apart.1
        ∙ filled.first place side earlier low)
  ];
  rest = λ lane past.
      let apart = later_lane lane p past in
      ap (λ (l : List (List Tagged)). get_or l lane []) changed
      ∙ (other_of before p lane (lane_here assigned channels lanes part c 0) (lane_here assigned channels lanes part c 1) apart.0 apart.1.0
      ∙ filled.rest lane apart.1.1);
}

-- nothing is filled yet
abbrev no_signals : List Tagged
no_signals = []

none_filled_at : (n i : ℕ) → get_or (replicate n no_signals) i no_signals ≡ no_signals
none_filled_at zero i = refl
none_filled_at (suc n) zero = refl
none_filled_at (suc n) (suc i) = none_filled_at n i

pub none_filled : (assigned : List ℕ) (channels : List ChannelState) (lanes : List (List Tagged)) (part : ℕ) (numbers : List ℕ) (count : ℕ) (before : List (List Tagged))
    → before ≡ replicate count [] → AreFilled assigned channels lanes part numbers 0 before
none_filled assigned channels lanes part numbers count before is = record {
  first = λ place side below low. absurd (omega arith);
  rest = λ lane past. ap (λ (l : List (List Tagged)). get_or l lane []) is ∙ none_filled_at count lane;
}
