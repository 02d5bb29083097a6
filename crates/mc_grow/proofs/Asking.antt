-- What a network is asked before a join, a cut and a Set.
use Rattle.std.proofs.Common.{◌≡◌, ◌≢◌, ◌↔◌, ◌<◌, ◌≤◌, ◌+◌, ◌-◌, ◌*◌, ◌/◌, ◌==◌, ◌&&◌, ◌||◌, ◌⊎◌, inl, inr, ℕ, zero, suc, Bool, true, false, IsFalse, IsTrue, All, Option, Some, None, Result, Ok, Err, List, [], ◌∷◌, length, length-append, get_or, nat_lt, refl, ap, sym, ◌∙◌, subst, arith}
use Rattle.std.specs.List.{list_any}
use Rattle.std.specs.Option.{option_and_then}
use Rattle.std.specs.Result.{OnErr, OnOk}
use Rattle.std.proofs.lemmas.Bool.{cases_eq, cases_lt, lt-ltb, ltb-true}
use Rattle.std.proofs.lemmas.Grind.{common_steps}
use Rattle.std.proofs.lemmas.List.{get_or-append_right, get_or_append_left}
use Rattle.std.proofs.lemmas.List.Elements.{All-head, All-tail}
use Rattle.mc_box.specs.BoxEvents.{turn_of}
use Rattle.mc_box.specs.declared.event.Event.{Event}
use Rattle.mc_box.specs.declared.event.Event.TheVariants.{Take, Set, Media, Tell, Retry, Shift}
use Rattle.mc_box.specs.declared.event.Change.TheVariants.{End as NewEnd, Link as NewLink}
use Rattle.mc_model.specs.Sound.{IsNumbered, IsSound}
use Rattle.mc_model.specs.Steps.{run, step}
use Rattle.mc_model.specs.Worlds.{AreChannels, ChannelState, HasTunnels, TunnelPlace, WorldState, all_tunnels, no_tunnel, number, place, slot_count, tunnels_from, tunnels_within}
use Rattle.mc_laws.proofs.LanesKept.{lane_in}
use Rattle.mc_laws.proofs.Numbers.{number_is}
use Rattle.mc_laws.proofs.TunnelPlaces.{two_each}
use Rattle.mc_growth.specs.Outs.{AreOut, SetNoneOut, channel_at, is_of, is_out, sets, sets_slot}
use Rattle.mc_growth.proofs.OutStays.{out_stays}
use Rattle.mc_grow.specs.Asked.{AllMayLeave, MayLeave, is_flagged, is_out_at, names_out}
use Rattle.mc_grow.specs.Cuts.{AreSlotsOf, IsFirstFrom}
use Rattle.mc_grow.proofs.Cutting.{within_long, within_same}

-- ---- a channel that is there has a slot

-- a tunnel of each channel
has_tunnel : (channels : List ChannelState) (first k : ℕ) → All HasTunnels channels → k < length channels
    → (i : ℕ) × (i < length (tunnels_from first channels)) × ((get_or (tunnels_from first channels) i no_tunnel).channel ≡ first + k)
has_tunnel [] first k have below = absurd (omega arith)
has_tunnel (ends ∷ channels) first zero have below =
    let here : List TunnelPlace = tunnels_within first 0 ends.tunnels in
    let there : List TunnelPlace = tunnels_from (first + 1) channels in
    let some = (All-head HasTunnels ends channels have).some in
    let long = within_long ends.tunnels first 0 in (
      0,
      omega (arith, some, long, length-append here there),
      ap (λ (t : TunnelPlace). t.channel) (get_or_append_left here there no_tunnel 0 (omega (arith, some, long))) ∙ (within_same ends.tunnels first 0 0 some ∙ omega arith),
    )
has_tunnel (ends ∷ channels) first (suc k) have below =
    let here : List TunnelPlace = tunnels_within first 0 ends.tunnels in
    let there : List TunnelPlace = tunnels_from (first + 1) channels in
    let rest = has_tunnel channels (first + 1) k (All-tail HasTunnels ends channels have) (omega arith) in
    let at = get_or-append_right here there (length here) (length here + rest.0) no_tunnel refl (omega arith) in
    let back : length here + rest.0 - length here ≡ rest.0 = omega arith in (
      length here + rest.0,
      omega (arith, rest.1, length-append here there),
      ap (λ (t : TunnelPlace). t.channel) (at ∙ ap (λ (j : ℕ). get_or there j no_tunnel) back) ∙ (rest.2 ∙ omega arith),
    )

half_twice : (i : ℕ) → 2 * i / 2 ≡ i
half_twice i = omega arith

has_slot : (world : WorldState) (channel : ℕ) → AreChannels world.channels → channel < length world.channels → (s : ℕ) × (s < slot_count world) × (channel_at world s ≡ channel)
has_slot world channel are below =
    let tunnel = has_tunnel world.channels 0 channel are.tunnels below in (
      2 * tunnel.0,
      omega (arith, tunnel.1, two_each world.channels 0),
      ap (λ (i : ℕ). (get_or (all_tunnels world) i no_tunnel).channel) (half_twice tunnel.0) ∙ (tunnel.2 ∙ omega arith),
    )

-- a slot is of a channel that is there
channel_there : (world : WorldState) (s : ℕ) → s < slot_count world → channel_at world s < length world.channels
channel_there world s inside = let lane = lane_in world s inside in omega (arith, lane)

pub there_by : (world : WorldState) (channel first count : ℕ) → AreChannels world.channels → IsFirstFrom world channel first → count ≡ slot_count world → IsTrue (nat_lt first count) ↔ (channel < length world.channels)
there_by world channel first count are found is =
    (λ early. comes (subst (λ (n : ℕ). first < n) is (ltb-true first count early)), λ below. lt-ltb first count (subst (λ (n : ℕ). first < n) (sym is) (goes below)))
  where
    comes : first < slot_count world → channel < length world.channels
    comes inside = let low = found.after first (omega arith) inside in let high = channel_there world first inside in omega (arith, low, high)

    goes : channel < length world.channels → first < slot_count world
    goes below =
        let slot = has_slot world channel are below in
        elim (cases_lt first (slot_count world)) [
          | inl inside ↦ inside
          | inr late ↦ let low = found.before slot.0 (let inside = slot.1 in omega (arith, inside, late)) in absurd (omega (arith, low, slot.2))
        ]

-- ---- a cut

-- the slots of the channel so far may leave
abbrev pub LeaveTo : WorldState → List Bool → (first count : ℕ) → Type 0
LeaveTo world out first count = (s : ℕ) → first ≤ s → s < count → MayLeave world out s

same_channel : (a b : ℕ) → a ≡ b → (a == b) ≡ true
same_channel a b same = grind (arith, common_steps)

channel_same : (a b : ℕ) → (a == b) ≡ true → a ≡ b
channel_same a b same = grind (arith, common_steps)

true_false : (b : Bool) → b ≡ true → b ≡ false → ⊥
true_false b one two = absurd (cc)

pub leave_all : (world : WorldState) (out : List Bool) (channel first end : ℕ) → AreSlotsOf world channel first end → LeaveTo world out first end → AllMayLeave world out channel
leave_all world out channel first end of so_far s inside same = elim (cases_lt s first) [
  | inl early ↦ absurd (true_false (is_of world channel s) (same_channel (channel_at world s) channel same) (of.before s early))
  | inr above ↦ elim (cases_lt s end) [
    | inl below ↦ so_far s above below
    | inr late ↦ absurd (true_false (is_of world channel s) (same_channel (channel_at world s) channel same) (of.after s late inside))
  ]
]

pub leaves_at : (world : WorldState) (out : List Bool) (channel first end s : ℕ) → AreSlotsOf world channel first end → AllMayLeave world out channel → first ≤ s → s < end → MayLeave world out s
leaves_at world out channel first end s of all above below =
    all s (let inside = of.inside in omega (arith, inside, below)) (channel_same (channel_at world s) channel (of.within s above below))

-- ---- a Set

both_same : (a b : ℕ) (c : Bool) → (a == b && c) ≡ true → (a ≡ b) × (c ≡ true)
both_same a b c is = grind (arith, common_steps)

-- the flag of a slot of a box
flag_at : (world : WorldState) (out : List Bool) (s who local : ℕ) → IsNumbered world → s < slot_count world → (place world s).0 ≡ who → (place world s).1 ≡ local → is_out_at world out who local ≡ is_out out s
flag_at world out s who local numbered inside one two =
    ap (is_flagged out)
    (subst (λ (l : ℕ). number world who l ≡ Some s) two (subst (λ (w : ℕ). number world w (place world s).1 ≡ Some s) one (numbered.once s inside)))

-- where the event names no slot that is out it sets none
named : (event : Event) (world : WorldState) (out : List Bool) (s who local : ℕ) → IsNumbered world → s < slot_count world → is_out out s ≡ true → names_out world out who event ≡ false
    → (place world s).0 ≡ who → sets_slot (place world s).1 event ≡ true → ⊥
named (Set (NewEnd slot goal)) world out s who local numbered inside is none here set =
    true_false (is_out out s) is (sym (flag_at world out s who slot numbered inside here (sym (channel_same slot (place world s).1 set))) ∙ none)
named (Set (NewLink first second)) world out s who local numbered inside is none here set = elim (cases_eq (place world s).1 first) [
  | inl one ↦ true_false (is_out out s) is (sym (flag_at world out s who first numbered inside here one) ∙ (none_of_two (is_out_at world out who first) (is_out_at world out who second) none).0)
  | inr other ↦
      true_false (is_out out s) is
      (sym (flag_at world out s who second numbered inside here (second_is first second (place world s).1 set other)) ∙ (none_of_two (is_out_at world out who first) (is_out_at world out who second) none).1)
]
  where
    none_of_two : (a b : Bool) → (a || b) ≡ false → (a ≡ false) × (b ≡ false)
    none_of_two true b none = absurd (cc)
    none_of_two false b none = (refl, none)

    second_is : (a b k : ℕ) → (a == k || b == k) ≡ true → k ≢ a → k ≡ b
    second_is a b k is other = grind (arith, common_steps)
named (Media change) world out s who local numbered inside is none here set = absurd (cc)
named (Take slot) world out s who local numbered inside is none here set = absurd (cc)
named (Tell word) world out s who local numbered inside is none here set = absurd (cc)
named (Retry slot) world out s who local numbered inside is none here set = absurd (cc)
named Shift world out s who local numbered inside is none here set = absurd (cc)

not_true : (b : Bool) → (b ≡ true → ⊥) → b ≡ false
not_true true never = absurd (never refl)
not_true false never = refl

none_set : (world : WorldState) (out : List Bool) (who : ℕ) (event : Event) → IsNumbered world → names_out world out who event ≡ false → SetNoneOut world out (turn_of who event ∷ [])
none_set world out who event numbered none s inside is =
    not_true (list_any (sets world s) (turn_of who event ∷ [])) (λ set.
    let parts = both_same who (place world s).0 (sets_slot (place world s).1 event) (alone (sets world s (turn_of who event)) set) in
    named event world out s who (place world s).1 numbered inside is none (sym parts.0) parts.1)
  where
    alone : (b : Bool) → (b || false) ≡ true → b ≡ true
    alone true is = refl
    alone false is = is

-- and where it names one it sets that
set_at : (world : WorldState) (out : List Bool) (who local : ℕ) (o : Option ℕ) (event : Event) → number world who local ≡ o → is_flagged out o ≡ true → sets_slot local event ≡ true
    → SetNoneOut world out (turn_of who event ∷ []) → ⊥
set_at world out who local None event at is set none = absurd (cc)
set_at world out who local (Some s) event at is set none =
    let there = number_is world who local s at in
    true_false (list_any (sets world s) (turn_of who event ∷ []))
    (ap (λ (b : Bool). b || false) (both_true who (place world s).0 (sets_slot (place world s).1 event) (sym there.1) (ap (λ (l : ℕ). sets_slot l event) there.2 ∙ set)))
    (none s there.0 is)
  where
    both_true : (a b : ℕ) (c : Bool) → a ≡ b → c ≡ true → (a == b && c) ≡ true
    both_true a b c one two = grind (arith, common_steps)

names_none : (event : Event) (world : WorldState) (out : List Bool) (who : ℕ) → SetNoneOut world out (turn_of who event ∷ []) → names_out world out who event ≡ false
names_none (Set (NewEnd slot goal)) world out who none =
    not_true (is_out_at world out who slot) (λ is. set_at world out who slot (number world who slot) (Set (NewEnd slot goal)) refl is (same_channel slot slot refl) none)
names_none (Set (NewLink first second)) world out who none =
    not_true (is_out_at world out who first || is_out_at world out who second) (λ is. elim (one_of (is_out_at world out who first) (is_out_at world out who second) is) [
      | inl one ↦ set_at world out who first (number world who first) (Set (NewLink first second)) refl one (first_of first second) none
      | inr two ↦ set_at world out who second (number world who second) (Set (NewLink first second)) refl two (second_of first second) none
    ])
  where
    one_of : (a b : Bool) → (a || b) ≡ true → (a ≡ true) ⊎ (b ≡ true)
    one_of true b is = inl refl
    one_of false b is = inr is

    first_of : (a b : ℕ) → (a == a || b == a) ≡ true
    first_of a b = grind (arith, common_steps)

    second_of : (a b : ℕ) → (a == b || b == b) ≡ true
    second_of a b = grind (arith, common_steps)
names_none (Media change) world out who none = refl
names_none (Take slot) world out who none = refl
names_none (Tell word) world out who none = refl
names_none (Retry slot) world out who none = refl
names_none Shift world out who none = refl

pub sets_none : (world : WorldState) (out : List Bool) (who : ℕ) (event : Event) (answer : Bool) → IsSound world → answer ≡ names_out world out who event
    → IsFalse answer ↔ SetNoneOut world out (turn_of who event ∷ [])
sets_none world out who event answer sound is = (λ no. none_set world out who event sound.numbered (sym is ∙ no), λ none. is ∙ names_none event world out who none)

-- ---- a step

pub step_out : (old new : WorldState) (out : List Bool) (who : ℕ) (event : Event) {F : Type 0} (result : Result (Unit {0}) F) → IsSound old → AreOut old out → SetNoneOut old out (turn_of who event ∷ [])
    → OnOk result (step old (turn_of who event) ≡ Some new) → OnErr result (new ≡ old) → AreOut new out
step_out old new out who event (Ok done) sound are none ok unchanged =
    out_stays (turn_of who event ∷ []) old new out sound are none (ap (λ (o : Option WorldState). option_and_then (λ (next : WorldState). run next []) o) ok)
step_out old new out who event (Err fault) sound are none ok unchanged = subst (λ (w : WorldState). AreOut w out) (sym unchanged) are
