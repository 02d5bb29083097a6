-- What a cut looks for, and what it changes.
use Rattle.std.proofs.Common.{◌≡◌, ◌≢◌, ◌<◌, ◌≤◌, ◌+◌, ◌-◌, ◌*◌, ◌/◌, ◌++◌, ◌==◌, ◌&&◌, ◌||◌, inl, inr, cond, ℕ, zero, suc, Bool, true, false, Option, Some, None, List, [], ◌∷◌, length, length-append, get_or, refl, ap, sym, ◌∙◌, subst, arith, zero-add, append_assoc}
use Rattle.std.specs.List.{enumerate_from, find, range_with_len}
use Rattle.std.proofs.Math.ListN.{replicate, set}
use Rattle.std.proofs.lemmas.Bool.{cases_eq, cases_lt}
use Rattle.std.proofs.lemmas.Grind.{common_steps}
use Rattle.std.proofs.lemmas.List.{get_or-append_right, get_or_append_left, get_or-map, get_or-set_same, get_or-set_other, length-map, length-replicate, length-set}
use Rattle.std.proofs.lemmas.List.FromFn.{get_or-enumerate_from, length-enumerate_from}
use Rattle.mc_model.specs.Sound.{IsSound}
use Rattle.mc_model.specs.Worlds.{ChannelState, TunnelPlace, WorldState, all_tunnels, no_tunnel, slot_count, tunnels_from, tunnels_within}
use Rattle.mc_model.specs.declared.channel.Tunnel.{Tunnel}
use Rattle.mc_laws.proofs.TunnelPlaces.{channel_in, two_each}
use Rattle.mc_grow.specs.Cuts.{AreSlotsOf, IsFirstFrom}
use Rattle.mc_growth.specs.Outs.{AreOut, MayCut, channel_at, flags_without, is_of, is_out, is_used, least_used}
use Rattle.mc_growth.proofs.Outs.{cut_keeps_out, join_keeps_out}
use Rattle.mc_growth.specs.Joins.{MayJoin, joined}
use Rattle.mc_signal.specs.declared.Medium.{Medium}

-- ---- nothing is out

none_out : (n s : ℕ) → get_or (replicate n false) s false ≡ false
none_out zero s = refl
none_out (suc n) zero = refl
none_out (suc n) (suc s) = none_out n s

never : (b : Bool) → b ≡ false → b ≡ true → ⊥
never b one two = absurd (cc)

none_of : (out : List Bool) (n s : ℕ) → out ≡ replicate n false → is_out out s ≡ false
none_of out n s is = ap (λ (l : List Bool). get_or l s false) is ∙ none_out n s

pub new_out : (world : WorldState) (out : List Bool) → out ≡ replicate (slot_count world) false → AreOut world out
new_out world out is = record {
  all = ap (λ (l : List Bool). length l) is ∙ length-replicate (slot_count world) false;
  whole = λ s t one two same. none_of out (slot_count world) s is ∙ sym (none_of out (slot_count world) t is);
  idle = λ s inside has. absurd (never (is_out out s) (none_of out (slot_count world) s is) has);
}

-- ---- the least slot in use

find_from : (p : ℕ → Bool) (first count s : ℕ) → first ≤ s → s < first + count → ((t : ℕ) → first ≤ t → t < s → p t ≡ false) → p s ≡ true → find p (range_with_len first count) ≡ Some s
find_from p first zero s low high none here = absurd (omega arith)
find_from p first (suc count) s low high none here = elim (cases_eq first s) [
  | inl same ↦
      ap (λ (b : Bool). cond b (Some first) (find p (range_with_len (first + 1) count))) (ap p same ∙ here) ∙ ap Some same
  | inr other ↦
      ap (λ (b : Bool). cond b (Some first) (find p (range_with_len (first + 1) count))) (none first (omega arith) (omega (arith, low, other)))
      ∙ find_from p (first + 1) count s (omega (arith, low, other)) (omega (arith, high)) (λ t above below. none t (omega (arith, above)) below) here
]

find_nothing : (p : ℕ → Bool) (first count : ℕ) → ((t : ℕ) → first ≤ t → t < first + count → p t ≡ false) → find p (range_with_len first count) ≡ None
find_nothing p first zero none = refl
find_nothing p first (suc count) none =
    ap (λ (b : Bool). cond b (Some first) (find p (range_with_len (first + 1) count))) (none first (omega arith) (omega arith))
    ∙ find_nothing p (first + 1) count (λ t above below. none t (omega (arith, above)) (omega (arith, below)))

-- a slot of the channel that is in use
abbrev pub is_used_of : WorldState → ℕ → ℕ → Bool
is_used_of world channel s = is_of world channel s && is_used world s

-- none of the slots before one is
abbrev pub NoneUsed : WorldState → ℕ → ℕ → Type 0
NoneUsed world channel count = (s : ℕ) → s < count → is_used_of world channel s ≡ false

pub least_is : (world : WorldState) (channel s : ℕ) → s < slot_count world → NoneUsed world channel s → is_used_of world channel s ≡ true → Some s ≡ least_used world channel
least_is world channel s inside none here =
    sym (find_from (λ t. is_of world channel t && is_used world t) 0 (slot_count world) s (omega arith) (omega (arith, inside)) (λ t above below. none t below) here)

pub least_none : (world : WorldState) (channel : ℕ) → NoneUsed world channel (slot_count world) → None ≡ least_used world channel
least_none world channel none =
    sym (find_nothing (λ t. is_of world channel t && is_used world t) 0 (slot_count world) (λ t above below. none t (omega (arith, below))))

both_true : (a b : Bool) → a ≡ true → b ≡ true → (a && b) ≡ true
both_true a b one two = cc

first_false : (a b : Bool) → a ≡ false → (a && b) ≡ false
first_false a b one = cc

second_false : (a b : Bool) → b ≡ false → (a && b) ≡ false
second_false true b one = one
second_false false b one = refl

pub none_more : (world : WorldState) (channel s : ℕ) → NoneUsed world channel s → is_used world s ≡ false → NoneUsed world channel (s + 1)
none_more world channel s none here t below = elim (cases_eq t s) [
  | inl same ↦ ap (is_used_of world channel) same ∙ second_false (is_of world channel s) (is_used world s) here
  | inr other ↦ none t (omega (arith, below, other))
]

-- none of the slots of other channels is one
pub none_first : (world : WorldState) (channel first end : ℕ) → AreSlotsOf world channel first end → NoneUsed world channel first
none_first world channel first end of s below = first_false (is_of world channel s) (is_used world s) (of.before s below)

pub none_end : (world : WorldState) (channel first end : ℕ) → AreSlotsOf world channel first end → NoneUsed world channel end → None ≡ least_used world channel
none_end world channel first end of none =
    least_none world channel (λ s inside. elim (cases_lt s end) [
      | inl early ↦ none s early
      | inr late ↦ first_false (is_of world channel s) (is_used world s) (of.after s late inside)
    ])

pub least_in : (world : WorldState) (channel first end s : ℕ) → AreSlotsOf world channel first end → first ≤ s → s < end → NoneUsed world channel s → is_used world s ≡ true → Some s ≡ least_used world channel
least_in world channel first end s of above below none used =
    least_is world channel s (let inside = of.inside in omega (arith, inside, below)) none (both_true (is_of world channel s) (is_used world s) (of.within s above below) used)

-- ---- flags

flag_after : (world : WorldState) (out : List Bool) (channel s : ℕ) → s < length out → get_or (flags_without world out channel) s false ≡ (is_out out s || is_of world channel s)
flag_after world out channel s inside =
    get_or-map (λ (entry : ℕ × Bool). entry.1 || is_of world channel entry.0) (enumerate_from 0 out) s (0, false) false (omega (arith, length-enumerate_from 0 out, inside))
    ∙ ap (λ (entry : ℕ × Bool). entry.1 || is_of world channel entry.0) (get_or-enumerate_from 0 out s (0, false) inside ∙ ap (λ (n : ℕ). (n, is_out out s)) (zero-add s))

flags_long : (world : WorldState) (out : List Bool) (channel : ℕ) → length (flags_without world out channel) ≡ length out
flags_long world out channel = length-map (enumerate_from 0 out) (λ (entry : ℕ × Bool). entry.1 || is_of world channel entry.0) ∙ length-enumerate_from 0 out

-- the flags of the slots before one are as after the cut, and the others as before it
pub record OutTo (world : WorldState) (old now : List Bool) (channel count : ℕ) : Type 0 where
  pub long : length now ≡ length old
  pub done : (s : ℕ) → s < count → s < length old → get_or now s false ≡ (is_out old s || is_of world channel s)
  pub rest : (s : ℕ) → count ≤ s → get_or now s false ≡ get_or old s false

or_true : (a b : Bool) → b ≡ true → (a || b) ≡ true
or_true true b is = refl
or_true false b is = is

or_false : (a b : Bool) → b ≡ false → (a || b) ≡ a
or_false true b is = refl
or_false false b is = is

pub out_set : (world : WorldState) (old now : List Bool) (channel count : ℕ) → OutTo world old now channel count → count < length now → is_of world channel count ≡ true → OutTo world old (set now count true) channel (count + 1)
out_set world old now channel count to inside is = record {
  long = length-set now count true ∙ to.long;
  done = λ s below within. elim (cases_eq s count) [
    | inl same ↦
        subst (λ (n : ℕ). get_or (set now count true) n false ≡ (is_out old n || is_of world channel n)) (sym same)
        (get_or-set_same now count true false inside ∙ sym (or_true (is_out old count) (is_of world channel count) is))
    | inr other ↦ get_or-set_other now count s true false other ∙ to.done s (omega (arith, below, other)) within
  ];
  rest = λ s above. get_or-set_other now count s true false (λ same. absurd (omega (arith, same, above))) ∙ to.rest s (omega (arith, above));
}

same_flags : (xs ys : List Bool) → length xs ≡ length ys → ((s : ℕ) → s < length ys → get_or xs s false ≡ get_or ys s false) → xs ≡ ys
same_flags [] [] size each = refl
same_flags [] (y ∷ ys) size each = absurd (omega (arith, size))
same_flags (x ∷ xs) [] size each = absurd (omega (arith, size))
same_flags (x ∷ xs) (y ∷ ys) size each =
    ap (λ (z : Bool). z ∷ xs) (each 0 (omega arith)) ∙ ap (λ (l : List Bool). y ∷ l) (same_flags xs ys (omega (arith, size)) (λ s inside. each (suc s) (omega (arith, inside))))

pub out_all : (world : WorldState) (old now : List Bool) (channel count : ℕ) → OutTo world old now channel count → length old ≤ count → now ≡ flags_without world old channel
out_all world old now channel count to all =
    same_flags now (flags_without world old channel) (to.long ∙ sym (flags_long world old channel))
    (λ s inside.
    let within : s < length old = omega (arith, inside, flags_long world old channel) in
    to.done s (omega (arith, within, all)) within ∙ sym (flag_after world old channel s within))

-- before the first slot of the channel nothing changes
pub out_first : (world : WorldState) (old : List Bool) (channel first end : ℕ) → AreSlotsOf world channel first end → OutTo world old old channel first
out_first world old channel first end of = record {
  long = refl;
  done = λ s below within. sym (or_false (is_out old s) (is_of world channel s) (of.before s below));
  rest = λ s above. refl;
}

-- nor from the end of its slots on
pub out_end : (world : WorldState) (old now : List Bool) (channel first end : ℕ) → AreSlotsOf world channel first end → length old ≡ slot_count world → OutTo world old now channel end
    → now ≡ flags_without world old channel
out_end world old now channel first end of all to =
    out_all world old now channel (length old) (record {
      long = to.long;
      done = λ s below within. elim (cases_lt s end) [
        | inl early ↦ to.done s early within
        | inr late ↦ to.rest s late ∙ sym (or_false (is_out old s) (is_of world channel s) (of.after s late (omega (arith, within, all))))
      ];
      rest = λ s above. to.rest s (let late : end ≤ s = let inside = of.inside in omega (arith, inside, above, all) in late);
    }) (omega arith)

-- ---- where the slots of a channel are

-- the channel of a tunnel of the first channel of these
pub within_same : (tunnels : List Tunnel) (channel within i : ℕ) → i < length tunnels → (get_or (tunnels_within channel within tunnels) i no_tunnel).channel ≡ channel
within_same [] channel within i below = absurd (omega arith)
within_same (tunnel ∷ tunnels) channel within zero below = refl
within_same (tunnel ∷ tunnels) channel within (suc i) below = within_same tunnels channel (within + 1) i (omega arith)

pub within_long : (tunnels : List Tunnel) (channel within : ℕ) → length (tunnels_within channel within tunnels) ≡ length tunnels
within_long [] channel within = refl
within_long (tunnel ∷ tunnels) channel within = ap suc (within_long tunnels channel (within + 1))

-- the channels of tunnels rise
tunnels_rise : (channels : List ChannelState) (first i k : ℕ) → i ≤ k → k < length (tunnels_from first channels)
    → (get_or (tunnels_from first channels) i no_tunnel).channel ≤ (get_or (tunnels_from first channels) k no_tunnel).channel
tunnels_rise [] first i k order inside = absurd (omega arith)
tunnels_rise (ends ∷ channels) first i k order inside =
    let here : List TunnelPlace = tunnels_within first 0 ends.tunnels in
    let there : List TunnelPlace = tunnels_from (first + 1) channels in
    let long : length here ≡ length ends.tunnels = within_long ends.tunnels first 0 in
    let all = length-append here there in
    elim (cases_lt i (length here)) [
      | inl early ↦
          let one = ap (λ (t : TunnelPlace). t.channel) (get_or_append_left here there no_tunnel i early) ∙ within_same ends.tunnels first 0 i (omega (arith, early, long)) in
          let low = (channel_in (ends ∷ channels) first k inside).0 in
          omega (arith, one, low)
      | inr late ↦
          let one = ap (λ (t : TunnelPlace). t.channel) (get_or-append_right here there (length here) i no_tunnel refl late) in
          let two = ap (λ (t : TunnelPlace). t.channel) (get_or-append_right here there (length here) k no_tunnel refl (omega (arith, late, order))) in
          let rest = tunnels_rise channels (first + 1) (i - length here) (k - length here) (omega (arith, order, late)) (omega (arith, inside, all, late, order)) in
          omega (arith, one, two, rest)
    ]

half_order : (s t n : ℕ) → s ≤ t → t < 2 * n → (s / 2 ≤ t / 2) × (t / 2 < n)
half_order s t n order inside = (omega arith, omega arith)

-- so those of slots do
channels_rise : (world : WorldState) (s t : ℕ) → s ≤ t → t < slot_count world → channel_at world s ≤ channel_at world t
channels_rise world s t order inside =
    let halves = half_order s t (length (all_tunnels world)) order (subst (λ (n : ℕ). t < n) (two_each world.channels 0) inside) in
    tunnels_rise world.channels 0 (s / 2) (t / 2) halves.0 halves.1

-- all slots before one are of channels below, and from another on of none below
pub record Between (world : WorldState) (channel low high : ℕ) : Type 0 where
  pub rise : low ≤ high
  pub inside : high ≤ slot_count world
  pub before : (s : ℕ) → s < low → channel_at world s < channel
  pub after : (s : ℕ) → high ≤ s → s < slot_count world → channel ≤ channel_at world s

pub between_all : (world : WorldState) (channel count : ℕ) → count ≡ slot_count world → Between world channel 0 count
between_all world channel count is = record {
  rise = omega arith;
  inside = omega (arith, is);
  before = λ s below. absurd (omega (arith, below));
  after = λ s late early. absurd (omega (arith, late, early, is));
}

pub between_above : (world : WorldState) (channel low high middle : ℕ) → Between world channel low high → low ≤ middle → middle < high → channel_at world middle < channel → Between world channel (middle + 1) high
between_above world channel low high middle so_far one two below = record {
  rise = omega (arith, two);
  inside = so_far.inside;
  before = λ s early. let same = channels_rise world s middle (omega (arith, early)) (let inside = so_far.inside in omega (arith, inside, two)) in omega (arith, same, below);
  after = so_far.after;
}

pub between_below : (world : WorldState) (channel low high middle : ℕ) → Between world channel low high → low ≤ middle → middle < high → channel ≤ channel_at world middle → Between world channel low middle
between_below world channel low high middle so_far one two above = record {
  rise = one;
  inside = let inside = so_far.inside in omega (arith, inside, two);
  before = so_far.before;
  after = λ s late inside. let same = channels_rise world middle s late inside in omega (arith, same, above);
}

pub first_found : (world : WorldState) (channel low high : ℕ) → Between world channel low high → high ≤ low → IsFirstFrom world channel low
first_found world channel low high so_far done = record {
  inside = let rise = so_far.rise in let inside = so_far.inside in omega (arith, rise, inside);
  before = so_far.before;
  after = λ s late inside. so_far.after s (omega (arith, late, done)) inside;
}

not_same : (a b : ℕ) → a ≢ b → (a == b) ≡ false
not_same a b differ = grind (arith, common_steps)

is_same : (a b : ℕ) → a ≡ b → (a == b) ≡ true
is_same a b same = grind (arith, common_steps)

pub slots_found : (world : WorldState) (channel first end : ℕ) → IsFirstFrom world channel first → IsFirstFrom world (channel + 1) end → AreSlotsOf world channel first end
slots_found world channel first end one two =
    let rise : first ≤ end = elim (cases_lt end first) [
      | inl early ↦
          let low = one.before end early in
          let high = two.after end (omega arith) (let inside = one.inside in omega (arith, inside, early)) in
          absurd (omega (arith, low, high))
      | inr late ↦ late
    ] in
    record {
      rise = rise;
      inside = two.inside;
      before = λ s below. not_same (channel_at world s) channel (λ same. let low = one.before s below in absurd (omega (arith, low, same)));
      within = λ s above below.
          is_same (channel_at world s) channel
          (let low = one.after s above (let inside = two.inside in omega (arith, inside, below)) in let high = two.before s below in omega (arith, low, high));
      after = λ s above inside. not_same (channel_at world s) channel (λ same. let high = two.after s above inside in absurd (omega (arith, high, same)));
    }

-- ---- what a join and a cut leave

pub join_out : (old new : WorldState) (medium : Medium) (from to : ℕ) (out mid last : List Bool) → IsSound old → MayJoin old from to → AreOut old out → new ≡ joined old medium from to
    → mid ≡ out ++ false ∷ [] → last ≡ mid ++ false ∷ [] → AreOut new last
join_out old new medium from to out mid last sound may are is one two =
    let all : last ≡ out ++ false ∷ false ∷ [] = two ∙ (ap (λ (l : List Bool). l ++ false ∷ []) one ∙ append_assoc out (false ∷ []) (false ∷ [])) in
    rw (is, all) (join_keeps_out old medium from to out sound may are)

pub cut_out : (world : WorldState) (channel : ℕ) (out last : List Bool) (used : Option ℕ) → IsSound world → AreOut world out → MayCut world out channel
    → used ≡ least_used world channel → used ≡ None → last ≡ flags_without world out channel → AreOut world last
cut_out world channel out last used sound are may is none now =
    subst (AreOut world) (sym now) (cut_keeps_out world channel out sound are may (sym is ∙ none))
