-- The ports of one channel more.
use Rattle.std.proofs.Common.{◌≡◌, ◌≢◌, ◌<◌, ◌≤◌, ◌+◌, ◌==◌, inl, inr, not, if◌then◌else◌, All, Bool, true, false, cond, filter, ℕ, zero, suc, Some, List, [], ◌∷◌, ◌++◌, append-nil, length, length-append, length-set, length-take-le, get_or, get_or-set_same, get_or-set_other, map, take, replicate, refl, ap, ap₂, sym, ◌∙◌, subst, arith, true≢false, eq-eqb, eqb-true, ne_eqb}
use Rattle.std.proofs.lemmas.Bool.{cases_eq, cases_lt}
use Rattle.std.proofs.lemmas.List.{get_or_default, length-map, map-append, length-replicate}
use Rattle.std.proofs.lemmas.List.Elements.{All-append, filter_more}
use Rattle.std.proofs.lemmas.List.FromFn.{filter_of_map_range_with_len_more}
use Rattle.std.proofs.lemmas.Option.{get_or_from_slice_get, slice_get-get_or}
use Rattle.std.specs.List.{range_with_len, slice_get}
use Rattle.mc_part.specs.Divisions.{is_crossing, is_part, part_of, place_in, rank, starts_in}
use Rattle.mc_part.specs.DividedParts.{HasBoxes, inner_lists}
use Rattle.mc_part.proofs.Placed.{front_at, place_of_crossing}
use Rattle.mc_merge.specs.Lanes.{absent_channel}
use Rattle.mc_model.specs.Worlds.{ChannelState}
use Rattle.mc_divided.specs.Laying.{AddsBy, AddsCrossing, AddsNone, AreWired, IsRinged, ports_in, with_port}
use Rattle.mc_divided.specs.Networks.{HasCrossing, IsEnd, crossing_at, is_apart}
use Rattle.mc_divided.specs.declared.network.Crossing.{Crossing}
use Rattle.mc_divided.specs.declared.wiring.Wiring.{Wiring}
use Rattle.mc_divided.proofs.ChannelNumbers.{rest_at}
use Rattle.mc_part.specs.Ports.{sides}
use Rattle.mc_part.specs.declared.port.Port.{Port}

no_start : (k : ℕ) → 0 + k ≡ k
no_start k = omega arith

-- ---- one channel more

-- where the ends of a channel are, and whether it crosses
pub record IsBetween (assigned : List ℕ) (channels : List ChannelState) (i from to : ℕ) : Type 0 where
  pub channel : ChannelState
  pub at : slice_get channels i ≡ Some channel
  pub below : i < length channels
  pub from_is : from ≡ part_of assigned channel.from
  pub to_is : to ≡ part_of assigned channel.to

-- its side in a part, where it has one there
abbrev side_in : ℕ → ℕ → ℕ → List Bool
side_in from to part = if (if is_part part from then not (is_part part to) else is_part part to) then is_part part from ∷ [] else []

map_if : {A B : Type 0} (f : A → B) (b : Bool) (x : A) → map f (cond b (x ∷ []) []) ≡ (if b then f x ∷ [] else [])
map_if f true x = refl
map_if f false x = refl

starts_more : (assigned : List ℕ) (channels : List ChannelState) (i from to part : ℕ) → IsBetween assigned channels i from to
    → starts_in assigned (take (i + 1) channels) part ≡ starts_in assigned (take i channels) part ++ side_in from to part
starts_more assigned channels i from to part between =
    let e : ChannelState = between.channel in
    let is : get_or channels i e ≡ e = get_or_from_slice_get channels i e e between.at in
    let start : ChannelState → Bool = (λ (channel : ChannelState). is_part part (part_of assigned channel.from)) in
    ap (map start) (filter_more (is_crossing assigned part) channels i e between.below)
    ∙ (map-append start (filter (is_crossing assigned part) (take i channels)) (cond (is_crossing assigned part (get_or channels i e)) (get_or channels i e ∷ []) [])
    ∙ ap (λ (l : List Bool). starts_in assigned (take i channels) part ++ l)
    (ap (λ (c : ChannelState). map start (cond (is_crossing assigned part c) (c ∷ []) [])) is
    ∙ (map_if start (is_crossing assigned part e) e
    ∙ ap₂ (λ (p q : ℕ). side_in p q part) (sym between.from_is) (sym between.to_is))))

-- the channels that cross, with this one or without
apart_more : (assigned : List ℕ) (channels : List ChannelState) (i from to : ℕ) → IsBetween assigned channels i from to
    → filter (is_apart assigned channels) (range_with_len 0 (i + 1)) ≡ filter (is_apart assigned channels) (range_with_len 0 i) ++ (if not (to == from) then i ∷ [] else [])
apart_more assigned channels i from to between =
    let is : get_or channels i absent_channel ≡ between.channel = get_or_from_slice_get channels i between.channel absent_channel between.at in
    let test : is_apart assigned channels i ≡ not (to == from) =
    ap (λ (e : ChannelState). not (is_part (part_of assigned e.from) (part_of assigned e.to))) is ∙ ap₂ (λ (p q : ℕ). not (q == p)) (sym between.from_is) (sym between.to_is) in
    numbers_more (is_apart assigned channels) i ∙ ap (λ (b : Bool). filter (is_apart assigned channels) (range_with_len 0 i) ++ (if b then i ∷ [] else [])) test where
      numbers_same : (xs : List ℕ) → map (λ (n : ℕ). n) xs ≡ xs
      numbers_same [] = refl
      numbers_same (x ∷ xs) = ap (λ (l : List ℕ). x ∷ l) (numbers_same xs)

      numbers_more : (test : ℕ → Bool) (n : ℕ) → filter test (range_with_len 0 (n + 1)) ≡ filter test (range_with_len 0 n) ++ (if test n then n ∷ [] else [])
      numbers_more test n =
          ap (filter test) (sym (numbers_same (range_with_len 0 (n + 1))))
          ∙ (filter_of_map_range_with_len_more test (λ (k : ℕ). k) 0 n n (no_start n)
          ∙ ap (λ (l : List ℕ). filter test l ++ (if test n then n ∷ [] else [])) (numbers_same (range_with_len 0 n)))

-- ---- a channel within one part

side_none : (from part : ℕ) (b : Bool) → is_part part from ≡ b → side_in from from part ≡ []
side_none from part b is = ap (λ (c : Bool). if (if c then not c else c) then c ∷ [] else []) is ∙ none_by b where
  none_by : (c : Bool) → (if (if c then not c else c) then c ∷ [] else []) ≡ []
  none_by true = refl
  none_by false = refl

without : (assigned : List ℕ) (channels : List ChannelState) (count i from to : ℕ) (old new : Wiring) → IsBetween assigned channels i from to → (to == from) ≡ true
    → AreWired assigned channels count i (inner_lists old.ports.items) old.crossings.items → AddsNone old new
    → AreWired assigned channels count (i + 1) (inner_lists new.ports.items) new.crossings.items
without assigned channels count i from to old new between same wired none =
    let lists : List (List Port) = inner_lists old.ports.items in
    let is : to ≡ from = eqb-true to from same in
    let crossings : old.crossings.items ≡ map (crossing_at assigned channels) (filter (is_apart assigned channels) (range_with_len 0 (i + 1))) =
    wired.crossings_are ∙ ap (map (crossing_at assigned channels)) (sym (apart_more assigned channels i from to between
    ∙ (ap (λ (b : Bool). filter (is_apart assigned channels) (range_with_len 0 i) ++ (if not b then i ∷ [] else [])) same ∙ append-nil (filter (is_apart assigned channels) (range_with_len 0 i))))) in
    let here : AreWired assigned channels count (i + 1) (inner_lists old.ports.items) old.crossings.items = record {
      count_is = wired.count_is;
      sides_are = λ part below. wired.sides_are part below
          ∙ sym (starts_more assigned channels i from to part between
          ∙ (ap (λ (l : List Bool). starts_in assigned (take i channels) part ++ l) (ap (λ (n : ℕ). side_in from n part) is ∙ side_none from part (is_part part from) refl)
          ∙ append-nil (starts_in assigned (take i channels) part)));
      crossings_are = crossings;
      ringed = wired.ringed;
      ported = wired.ported;
    } in
    subst (λ (l : List (List Port)). AreWired assigned channels count (i + 1) l new.crossings.items) (sym none.ports_are)
    (subst (λ (l : List Crossing). AreWired assigned channels count (i + 1) (inner_lists old.ports.items) l) (sym none.crossings_are) here)

-- ---- a channel that crosses

abbrev crossing_of : ℕ → ℕ → ℕ → ℕ → Crossing
crossing_of from from_port to to_port = record { from = from; from_port = from_port; to = to; to_port = to_port }

in_from : (lists : List (List Port)) (from to : ℕ) (a b : Port) → from < length lists → from ≢ to → ports_in (with_port (with_port lists from a) to b) from ≡ ports_in lists from ++ a ∷ []
in_from lists from to a b inside apart =
    get_or-set_other (with_port lists from a) to from (ports_in (with_port lists from a) to ++ b ∷ []) [] apart ∙ get_or-set_same lists from (ports_in lists from ++ a ∷ []) [] inside

before_to : (lists : List (List Port)) (from to : ℕ) (a : Port) → from ≢ to → ports_in (with_port lists from a) to ≡ ports_in lists to
before_to lists from to a apart = get_or-set_other lists from to (ports_in lists from ++ a ∷ []) [] (λ same. apart (sym same))

in_to : (lists : List (List Port)) (from to : ℕ) (a b : Port) → to < length lists → from ≢ to → ports_in (with_port (with_port lists from a) to b) to ≡ ports_in lists to ++ b ∷ []
in_to lists from to a b inside apart =
    get_or-set_same (with_port lists from a) to (ports_in (with_port lists from a) to ++ b ∷ []) [] (subst (λ (n : ℕ). to < n) (sym (length-set lists from (ports_in lists from ++ a ∷ []))) inside)
    ∙ ap (λ (l : List Port). l ++ b ∷ []) (before_to lists from to a apart)

in_others : (lists : List (List Port)) (from to part : ℕ) (a b : Port) → part ≢ from → part ≢ to → ports_in (with_port (with_port lists from a) to b) part ≡ ports_in lists part
in_others lists from to part a b one two =
    get_or-set_other (with_port lists from a) to part (ports_in (with_port lists from a) to ++ b ∷ []) [] two ∙ get_or-set_other lists from part (ports_in lists from ++ a ∷ []) [] one

-- the ports before are still there
record Grows (before after : List Port) : Type 0 where
  more : List Port
  is : after ≡ before ++ more

grows : (lists : List (List Port)) (from to part : ℕ) (a b : Port) → from < length lists → to < length lists → from ≢ to → Grows (ports_in lists part) (ports_in (with_port (with_port lists from a) to b) part)
grows lists from to part a b in_a in_b apart = elim (cases_eq part from) [
  | inl one ↦ record { more = a ∷ []; is = subst (λ (n : ℕ). ports_in (with_port (with_port lists from a) to b) n ≡ ports_in lists n ++ a ∷ []) (sym one) (in_from lists from to a b in_a apart) }
  | inr other ↦ elim (cases_eq part to) [
    | inl two ↦ record { more = b ∷ []; is = subst (λ (n : ℕ). ports_in (with_port (with_port lists from a) to b) n ≡ ports_in lists n ++ b ∷ []) (sym two) (in_to lists from to a b in_b apart) }
    | inr none ↦ record { more = []; is = in_others lists from to part a b other none ∙ sym (append-nil (ports_in lists part)) }
  ]
]

still_there : (before after : List Port) (k : ℕ) (port : Port) → Grows before after → slice_get before k ≡ Some port → slice_get after k ≡ Some port
still_there before after k port grown there = ap (λ (l : List Port). slice_get l k) grown.is ∙ front_at before grown.more k port there

still_ringed : (lists : List (List Port)) (from to : ℕ) (a b : Port) (crossing : Crossing) → from < length lists → to < length lists → from ≢ to → IsRinged lists crossing
    → IsRinged (with_port (with_port lists from a) to b) crossing
still_ringed lists from to a b crossing in_a in_b apart ringed = record {
  from = ringed.from;
  to = ringed.to;
  from_there = still_there (ports_in lists crossing.from) (ports_in (with_port (with_port lists from a) to b) crossing.from) crossing.from_port ringed.from (grows lists from to crossing.from a b in_a in_b apart) ringed.from_there;
  to_there = still_there (ports_in lists crossing.to) (ports_in (with_port (with_port lists from a) to b) crossing.to) crossing.to_port ringed.to (grows lists from to crossing.to a b in_a in_b apart) ringed.to_there;
  rings = ringed.rings;
}

-- the sides of the ports of a part
sides_push : (xs : List Port) (port : Port) (b : Bool) (starts : List Bool) → port.starts_here ≡ b → sides xs ≡ starts → sides (xs ++ port ∷ []) ≡ starts ++ b ∷ []
sides_push xs port b starts is before = map-append (λ (p : Port). p.starts_here) xs (port ∷ []) ∙ ap₂ (λ (l : List Bool) (s : Bool). l ++ s ∷ []) before is

side_by : (p q : Bool) (from to part : ℕ) → is_part part from ≡ p → is_part part to ≡ q → side_in from to part ≡ (if (if p then not q else q) then p ∷ [] else [])
side_by p q from to part one two = ap₂ (λ (x y : Bool). if (if x then not y else y) then x ∷ [] else []) one two

at_last : (xs : List Port) (x : Port) (k : ℕ) → k ≡ length xs → slice_get (xs ++ x ∷ []) k ≡ Some x
at_last xs x k is = rest_at xs (x ∷ []) 0 k x (omega arith) refl

-- how many ports a part has is the next one's number
port_count : (assigned : List ℕ) (channels : List ChannelState) (i part : ℕ) (ports : List Port) → sides ports ≡ starts_in assigned (take i channels) part
    → length ports ≡ rank (is_crossing assigned part) i channels
port_count assigned channels i part ports are =
    sym (length-map ports (λ (p : Port). p.starts_here)) ∙ (ap length are
    ∙ length-map (filter (is_crossing assigned part) (take i channels)) (λ (channel : ChannelState). is_part part (part_of assigned channel.from)))

crosses : (assigned : List ℕ) (channel : ChannelState) (from to part : ℕ) → from ≡ part_of assigned channel.from → to ≡ part_of assigned channel.to → (p q : Bool) → is_part part from ≡ p → is_part part to ≡ q
    → is_crossing assigned part channel ≡ (if p then not q else q)
crosses assigned channel from to part from_is to_is p q one two =
    ap₂ (λ (x y : Bool). if x then not y else y) (ap (is_part part) (sym from_is) ∙ one) (ap (is_part part) (sym to_is) ∙ two)

-- each port is at an end of a channel, also the two that come
port_more : (crossings : List Crossing) (made : Crossing) (part port n m : ℕ) → n ≡ m + 1 → port < n → IsEnd made part m → (port < m → HasCrossing crossings part port) → HasCrossing (crossings ++ made ∷ []) part port
port_more crossings made part port n m long below end before = elim (cases_eq port m) [
  | inl last ↦ record {
    at = length crossings;
    crossing = made;
    there = rest_at crossings (made ∷ []) 0 (length crossings) made (omega arith) refl;
    end = subst (λ (k : ℕ). IsEnd made part k) (sym last) end;
  }
  | inr other ↦ port_still crossings made part port (before (omega (arith, long, below, other)))
]
  where
    port_still : (crossings : List Crossing) (made : Crossing) (part port : ℕ) → HasCrossing crossings part port → HasCrossing (crossings ++ made ∷ []) part port
    port_still crossings made part port has = record { at = has.at; crossing = has.crossing; there = front_at crossings (made ∷ []) has.at has.crossing has.there; end = has.end }

ported_more : (lists : List (List Port)) (crossings : List Crossing) (from to : ℕ) (a b : Port) (made : Crossing) → from < length lists → to < length lists → from ≢ to
    → made.from ≡ from → made.from_port ≡ length (ports_in lists from) → made.to ≡ to → made.to_port ≡ length (ports_in lists to)
    → ((part port : ℕ) → port < length (ports_in lists part) → HasCrossing crossings part port)
    → (part port : ℕ) → port < length (ports_in (with_port (with_port lists from a) to b) part) → HasCrossing (crossings ++ made ∷ []) part port
ported_more lists crossings from to a b made in_a in_b apart from_is from_port to_is to_port ported part port below = elim (cases_eq part from) [
  | inl one ↦ port_more crossings made part port (length (ports_in (with_port (with_port lists from a) to b) part)) (length (ports_in lists part))
      (subst (λ (n : ℕ). length (ports_in (with_port (with_port lists from a) to b) n) ≡ length (ports_in lists n) + 1) (sym one) (ap length (in_from lists from to a b in_a apart) ∙ length-append (ports_in lists from) (a ∷ []))) below
      (inl (from_is ∙ sym one, from_port ∙ ap (λ (n : ℕ). length (ports_in lists n)) (sym one))) (ported part port)
  | inr other ↦ elim (cases_eq part to) [
    | inl two ↦ port_more crossings made part port (length (ports_in (with_port (with_port lists from a) to b) part)) (length (ports_in lists part))
        (subst (λ (n : ℕ). length (ports_in (with_port (with_port lists from a) to b) n) ≡ length (ports_in lists n) + 1) (sym two) (ap length (in_to lists from to a b in_b apart) ∙ length-append (ports_in lists to) (b ∷ []))) below
        (inr (to_is ∙ sym two, to_port ∙ ap (λ (n : ℕ). length (ports_in lists n)) (sym two))) (ported part port)
    | inr none ↦
        let has = ported part port (subst (λ (n : ℕ). port < n) (ap length (in_others lists from to part a b other none)) below) in
        record { at = has.at; crossing = has.crossing; there = front_at crossings (made ∷ []) has.at has.crossing has.there; end = has.end }
  ]
]

with_crossing : (assigned : List ℕ) (channels : List ChannelState) (count i from to : ℕ) (old new : Wiring) → IsBetween assigned channels i from to → (to == from) ≡ false → from < count → to < count
    → AreWired assigned channels count i (inner_lists old.ports.items) old.crossings.items → AddsCrossing from to old new
    → AreWired assigned channels count (i + 1) (inner_lists new.ports.items) new.crossings.items
with_crossing assigned channels count i from to old new between differ in_from_count in_to_count wired adds =
    let lists : List (List Port) = inner_lists old.ports.items in
    let a : Port = adds.a in
    let b : Port = adds.b in
    let e : ChannelState = between.channel in
    let e_is : get_or channels i absent_channel ≡ e = get_or_from_slice_get channels i e absent_channel between.at in
    let apart : from ≢ to = (λ (same : from ≡ to). true≢false (sym (eq-eqb to from (sym same)) ∙ differ)) in
    let in_a : from < length lists = subst (λ (n : ℕ). from < n) (sym wired.count_is) in_from_count in
    let in_b : to < length lists = subst (λ (n : ℕ). to < n) (sym wired.count_is) in_to_count in
    let self_from : is_part from from ≡ true = eq-eqb from from refl in
    let self_to : is_part to to ≡ true = eq-eqb to to refl in
    let far_from : is_part from to ≡ false = differ in
    let far_to : is_part to from ≡ false = ne_eqb from to apart in
    let count_from : length (ports_in lists from) ≡ place_in assigned channels from i =
    port_count assigned channels i from (ports_in lists from) (wired.sides_are from in_from_count)
    ∙ sym (place_of_crossing assigned channels from i e between.at (crosses assigned e from to from between.from_is between.to_is true false self_from far_from)) in
    let count_to : length (ports_in lists to) ≡ place_in assigned channels to i =
    port_count assigned channels i to (ports_in lists to) (wired.sides_are to in_to_count)
    ∙ sym (place_of_crossing assigned channels to i e between.at (crosses assigned e from to to between.from_is between.to_is false true far_to self_to)) in
    let made : Crossing = record { from = from; from_port = length (ports_in lists from); to = to; to_port = length (ports_in (with_port lists from a) to) } in
    let made_is : made ≡ crossing_at assigned channels i =
    crossing_is assigned channels i from to (length (ports_in lists from)) (length (ports_in (with_port lists from a) to)) e e_is between.from_is between.to_is count_from
    (ap length (before_to lists from to a apart) ∙ count_to) in
    let here : AreWired assigned channels count (i + 1) (with_port (with_port lists from a) to b) (old.crossings.items ++ made ∷ []) = record {
      count_is = length-set (with_port lists from a) to (ports_in (with_port lists from a) to ++ b ∷ []) ∙ (length-set lists from (ports_in lists from ++ a ∷ []) ∙ wired.count_is);
      sides_are = λ part below. elim (cases_eq part from) [
        | inl one ↦ subst (λ (n : ℕ). sides (ports_in (with_port (with_port lists from a) to b) n) ≡ starts_in assigned (take (i + 1) channels) n) (sym one)
            (ap sides (in_from lists from to a b in_a apart)
            ∙ (sides_push (ports_in lists from) a true (starts_in assigned (take i channels) from) adds.starts (wired.sides_are from in_from_count)
            ∙ sym (starts_more assigned channels i from to from between ∙ ap (λ (l : List Bool). starts_in assigned (take i channels) from ++ l) (side_by true false from to from self_from far_from))))
        | inr other ↦ elim (cases_eq part to) [
          | inl two ↦ subst (λ (n : ℕ). sides (ports_in (with_port (with_port lists from a) to b) n) ≡ starts_in assigned (take (i + 1) channels) n) (sym two)
              (ap sides (in_to lists from to a b in_b apart)
              ∙ (sides_push (ports_in lists to) b false (starts_in assigned (take i channels) to) adds.ends (wired.sides_are to in_to_count)
              ∙ sym (starts_more assigned channels i from to to between ∙ ap (λ (l : List Bool). starts_in assigned (take i channels) to ++ l) (side_by false true from to to far_to self_to))))
          | inr none ↦
              ap sides (in_others lists from to part a b other none)
              ∙ (wired.sides_are part below
              ∙ sym (starts_more assigned channels i from to part between
              ∙ (ap (λ (l : List Bool). starts_in assigned (take i channels) part ++ l) (side_by false false from to part (ne_eqb from part (λ same. other (sym same))) (ne_eqb to part (λ same. none (sym same))))
              ∙ append-nil (starts_in assigned (take i channels) part))))
        ]
      ];
      crossings_are = ap₂ (λ (l : List Crossing) (x : Crossing). l ++ x ∷ []) wired.crossings_are made_is
          ∙ sym (ap (map (crossing_at assigned channels)) (apart_more assigned channels i from to between
          ∙ ap (λ (t : Bool). filter (is_apart assigned channels) (range_with_len 0 i) ++ (if not t then i ∷ [] else [])) differ)
          ∙ map-append (crossing_at assigned channels) (filter (is_apart assigned channels) (range_with_len 0 i)) (i ∷ []));
      ringed = All-append (IsRinged (with_port (with_port lists from a) to b)) old.crossings.items (made ∷ [])
          (λ k d below. still_ringed lists from to a b (get_or old.crossings.items k d) in_a in_b apart (wired.ringed k d below))
          (only_one (IsRinged (with_port (with_port lists from a) to b)) made (record {
            from = a;
            to = b;
            from_there = ap (λ (l : List Port). slice_get l (length (ports_in lists from))) (in_from lists from to a b in_a apart) ∙ at_last (ports_in lists from) a (length (ports_in lists from)) refl;
            to_there = ap (λ (l : List Port). slice_get l (length (ports_in (with_port lists from a) to))) (in_to lists from to a b in_b apart)
                ∙ at_last (ports_in lists to) b (length (ports_in (with_port lists from a) to)) (ap length (before_to lists from to a apart));
            rings = adds.rings;
          }));
      ported = ported_more lists old.crossings.items from to a b made in_a in_b apart refl refl refl (ap length (before_to lists from to a apart)) wired.ported;
    } in
    subst (λ (l : List (List Port)). AreWired assigned channels count (i + 1) l new.crossings.items) (sym adds.ports_are)
    (subst (λ (l : List Crossing). AreWired assigned channels count (i + 1) (with_port (with_port lists from a) to b) l) (sym adds.crossings_are) here) where
      only_one : (P : Crossing → Type 0) (x : Crossing) → P x → All P (x ∷ [])
      only_one P x one zero d below = one
      only_one P x one (suc k) d below = absurd (omega arith)

      crossing_is : (assigned : List ℕ) (channels : List ChannelState) (i from to m n : ℕ) (e : ChannelState) → get_or channels i absent_channel ≡ e → from ≡ part_of assigned e.from → to ≡ part_of assigned e.to
          → m ≡ place_in assigned channels from i → n ≡ place_in assigned channels to i → crossing_of from m to n ≡ crossing_at assigned channels i
      crossing_is assigned channels i from to m n e is from_is to_is m_is n_is =
          ap₂ (λ (x y : ℕ). crossing_of from x to y) m_is n_is
          ∙ (ap₂ (λ (p q : ℕ). crossing_of p (place_in assigned channels p i) q (place_in assigned channels q i)) from_is to_is
          ∙ ap (λ (c : ChannelState). crossing_of (part_of assigned c.from) (place_in assigned channels (part_of assigned c.from) i) (part_of assigned c.to) (place_in assigned channels (part_of assigned c.to) i)) (sym is))

-- ---- either

pub wired_more : (assigned : List ℕ) (channels : List ChannelState) (count i from to : ℕ) (old new : Wiring) → IsBetween assigned channels i from to → from < count → to < count
    → AreWired assigned channels count i (inner_lists old.ports.items) old.crossings.items → AddsBy (to == from) from to old new
    → AreWired assigned channels count (i + 1) (inner_lists new.ports.items) new.crossings.items
wired_more assigned channels count i from to old new between in_from_count in_to_count wired adds = by (to == from) refl adds where
  by : (b : Bool) → (to == from) ≡ b → AddsBy b from to old new → AreWired assigned channels count (i + 1) (inner_lists new.ports.items) new.crossings.items
  by true is none = without assigned channels count i from to old new between is wired none
  by false is one = with_crossing assigned channels count i from to old new between is in_from_count in_to_count wired one

-- what was read of a channel and of its boxes' parts
pub wired_next : (assigned : List ℕ) (channels : List ChannelState) (count i from to : ℕ) (channel : ChannelState) (old new : Wiring) → i < length channels → channel ≡ get_or channels i channel
    → All (HasBoxes (length assigned)) channels → All (λ (part : ℕ). part < count) assigned → from ≡ get_or assigned channel.from from → to ≡ get_or assigned channel.to to
    → AreWired assigned channels count i (inner_lists old.ports.items) old.crossings.items → AddsBy (to == from) from to old new
    → AreWired assigned channels count (i + 1) (inner_lists new.ports.items) new.crossings.items
wired_next assigned channels count i from to channel old new below read joins parts from_read to_read wired adds =
    let ends : HasBoxes (length assigned) channel = subst (λ (e : ChannelState). HasBoxes (length assigned) e) (sym read) (joins i channel below) in
    let from_is : from ≡ get_or assigned channel.from 0 = from_read ∙ get_or_default assigned channel.from from 0 ends.from in
    let to_is : to ≡ get_or assigned channel.to 0 = to_read ∙ get_or_default assigned channel.to to 0 ends.to in
    wired_more assigned channels count i from to old new
    (record { channel = channel; at = slice_get-get_or channels i channel below ∙ ap (λ (e : ChannelState). Some e) (sym read); below = below; from_is = from_is; to_is = to_is })
    (subst (λ (n : ℕ). n < count) (sym from_is) (parts channel.from 0 ends.from)) (subst (λ (n : ℕ). n < count) (sym to_is) (parts channel.to 0 ends.to)) wired adds

-- no part has more ports than channels were looked at
filter_less : {A : Type 0} (test : A → Bool) (xs : List A) → length (filter test xs) ≤ length xs
filter_less test [] = omega arith
filter_less test (x ∷ xs) = less_by (test x) x (filter test xs) (length xs) (filter_less test xs) where
  less_by : {A : Type 0} (b : Bool) (x : A) (ys : List A) (n : ℕ) → length ys ≤ n → length (cond b (x ∷ ys) ys) ≤ suc n
  less_by true x ys n less = omega arith
  less_by false x ys n less = omega arith

none_past : (lists : List (List Port)) (part : ℕ) → length lists ≤ part → length (ports_in lists part) ≡ 0
none_past [] part past = refl
none_past (l ∷ lists) zero past = absurd (omega arith)
none_past (l ∷ lists) (suc part) past = none_past lists part (omega arith)

pub ports_few : (assigned : List ℕ) (channels : List ChannelState) (count i limit : ℕ) (lists : List (List Port)) (crossings : List Crossing) → AreWired assigned channels count i lists crossings
    → i < length channels → length channels ≤ limit → (part : ℕ) → length (ports_in lists part) < limit
ports_few assigned channels count i limit lists crossings wired below few part = elim (cases_lt part count) [
  | inl here ↦
      let long : length (ports_in lists part) ≡ rank (is_crossing assigned part) i channels = port_count assigned channels i part (ports_in lists part) (wired.sides_are part here) in
      let less : length (filter (is_crossing assigned part) (take i channels)) ≤ length (take i channels) = filter_less (is_crossing assigned part) (take i channels) in
      let short : length (take i channels) ≡ i = length-take-le i channels (omega arith) in
      omega arith
  | inr past ↦
      let none : length (ports_in lists part) ≡ 0 = none_past lists part (omega (arith, wired.count_is, past)) in
      omega arith
]

-- nothing is wired yet
abbrev no_list : List Port
no_list = []

none_at : (n k : ℕ) → get_or (replicate n no_list) k no_list ≡ no_list
none_at zero k = refl
none_at (suc n) zero = refl
none_at (suc n) (suc k) = none_at n k

pub none_wired : (assigned : List ℕ) (channels : List ChannelState) (count : ℕ) (lists : List (List Port)) (crossings : List Crossing) → lists ≡ replicate count [] → crossings ≡ []
    → AreWired assigned channels count 0 lists crossings
none_wired assigned channels count lists crossings is none = record {
  count_is = ap length is ∙ length-replicate count no_list;
  sides_are = λ part below. ap (λ (l : List (List Port)). sides (get_or l part no_list)) is ∙ ap sides (none_at count part);
  crossings_are = none;
  ringed = subst (λ (l : List Crossing). All (IsRinged lists) l) (sym none) (λ k d below. absurd (omega arith));
  ported = λ part port below.
      let long : length (ports_in lists part) ≡ 0 = ap (λ (l : List (List Port)). length (get_or l part no_list)) is ∙ ap length (none_at count part) in
      absurd (omega (arith, below, long));
}
