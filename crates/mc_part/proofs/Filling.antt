-- What a box more, a channel more and a tunnel more add to a part, for loops that fill it.
use Rattle.std.proofs.Common.{◌≡◌, ◌<◌, ◌≤◌, ◌+◌, ◌&&◌, not, if◌then◌else◌, Bool, true, false, cond, filter, ℕ, zero, suc, List, [], ◌∷◌, ◌++◌, length, get_or, take, length-take-le, refl, ap, ap₂, sym, ◌∙◌, arith, true≢false, ne_eqb, append-nil, set, map, subst, length-append, length-set, get_or-set_same, get_or-set_other, eq-eqb, inl, inr, All, replicate}
use Rattle.std.proofs.lemmas.List.Elements.{filter_more}
use Rattle.std.proofs.lemmas.List.{take_more, append_assoc, length-replicate}
use Rattle.std.proofs.lemmas.Option.{get_or_from_slice_get, slice_get-get_or}
use Rattle.std.proofs.lemmas.Bool.{cases_eq}
use Rattle.std.proofs.lemmas.List.FromFn.{fill_by_all, get_or-map-range_with_len, length-map-range_with_len, map-range_with_len_more}
use Rattle.std.specs.List.{AllByRecursion, range_with_len}
use Rattle.mc_model.specs.Worlds.{ChannelState}
use Rattle.mc_model.specs.declared.channel.Tunnel.{Tunnel}
use Rattle.mc_part.specs.DivisionLaws.{NonePastParts}
use Rattle.mc_part.specs.Divisions.{channel_in, channels_from, home_at, is_crossing, is_inner, is_part, members, members_from, part_of, tunnel_in, tunnels_in}
use Rattle.mc_part.specs.DividedParts.{AreNumbersIn, count_of, counts_of}
use Rattle.mc_part.proofs.Placed.{channel_count}
use Rattle.mc_part.proofs.Members.{member_count}

-- ---- past the last part

below_or_first : (assigned : List ℕ) (count who : ℕ) → AllByRecursion (λ (part : ℕ). part < count) assigned → 0 < count → part_of assigned who < count
below_or_first [] count who all some = some
below_or_first (other ∷ assigned) count zero all some = all.0
below_or_first (other ∷ assigned) count (suc who) all some = below_or_first assigned count who all.1 some

none_there : (assigned : List ℕ) (count part who : ℕ) → AllByRecursion (λ (part : ℕ). part < count) assigned → 0 < count → count ≤ part → is_part part (part_of assigned who) ≡ false
none_there assigned count part who all some past =
    let below = below_or_first assigned count who all some in
    ne_eqb (part_of assigned who) part (λ same. omega (arith, below, same))

filter_none : {A : Type 0} (test : A → Bool) (xs : List A) → ((x : A) → test x ≡ false) → filter test xs ≡ []
filter_none test [] none = refl
filter_none test (x ∷ xs) none = ap (λ (b : Bool). cond b (x ∷ filter test xs) (filter test xs)) (none x) ∙ filter_none test xs none

members_none : (assigned : List ℕ) (count part first : ℕ) → AllByRecursion (λ (part : ℕ). part < count) assigned → count ≤ part → members_from part first assigned ≡ []
members_none [] count part first all past = refl
members_none (other ∷ assigned) count part first all past =
    let below : other < count = all.0 in
    let apart : is_part part other ≡ false = ne_eqb other part (λ same. omega arith) in
    ap (λ (b : Bool). if b then first ∷ members_from part (first + 1) assigned else members_from part (first + 1) assigned) apart
    ∙ members_none assigned count part (first + 1) all.1 past

pub none_past_parts : NonePastParts
none_past_parts assigned channels count part all some past =
    let out : (who : ℕ) → is_part part (part_of assigned who) ≡ false = (λ (who : ℕ). none_there assigned count part who all some past) in
    let crossing : filter (is_crossing assigned part) channels ≡ [] =
    filter_none (is_crossing assigned part) channels (λ channel. ap₂ (λ (a b : Bool). if a then not b else b) (out channel.from) (out channel.to)) in
    let inner : filter (is_inner assigned part) channels ≡ [] =
    filter_none (is_inner assigned part) channels (λ channel. ap₂ (λ (a b : Bool). a && b) (out channel.from) (out channel.to)) in (
      members_none assigned count part 0 all past,
      ap₂ (λ (front back : List ChannelState). channels_from assigned part (length (members assigned part)) (front ++ back)) crossing inner,
    )

-- ---- a box more

member_step : (b : Bool) (first n : ℕ) (rest : List ℕ) (end : List ℕ) → (if b then first ∷ (rest ++ end) else rest ++ end) ≡ (if b then first ∷ rest else rest) ++ end
member_step true first n rest end = refl
member_step false first n rest end = refl

last_one : (b : Bool) (first n : ℕ) → first ≡ n → (if b then first ∷ [] else []) ≡ (if b then n ∷ [] else [])
last_one true first n same = ap (λ (k : ℕ). k ∷ []) same
last_one false first n same = refl

next_first : (first n : ℕ) → ((first + 1) + n ≡ first + suc n) × (first ≡ first + 0)
next_first first n = (omega arith, omega arith)

members_push : (assigned : List ℕ) (other part first : ℕ)
    → members_from part first (assigned ++ other ∷ []) ≡ members_from part first assigned ++ (if is_part part other then (first + length assigned) ∷ [] else [])
members_push [] other part first = last_one (is_part part other) first (first + 0) (next_first first 0).1
members_push (before ∷ assigned) other part first =
    ap (λ (l : List ℕ). if is_part part before then first ∷ l else l)
    (members_push assigned other part (first + 1) ∙ ap (λ (n : ℕ). members_from part (first + 1) assigned ++ (if is_part part other then n ∷ [] else [])) (next_first first (length assigned)).0)
    ∙ member_step (is_part part before) first 0 (members_from part (first + 1) assigned) (if is_part part other then (first + length (before ∷ assigned)) ∷ [] else [])

-- the box with this number joins its part
pub members_more : (assigned : List ℕ) (i part d : ℕ) → i < length assigned
    → members (take (i + 1) assigned) part ≡ members (take i assigned) part ++ (if is_part part (get_or assigned i d) then i ∷ [] else [])
members_more assigned i part d below =
    let count : 0 + length (take i assigned) ≡ i = (let short : length (take i assigned) ≡ i = length-take-le i assigned (omega arith) in omega arith) in
    ap (λ (l : List ℕ). members_from part 0 l) (take_more assigned i d below)
    ∙ (members_push (take i assigned) (get_or assigned i d) part 0
    ∙ ap (λ (n : ℕ). members (take i assigned) part ++ (if is_part part (get_or assigned i d) then n ∷ [] else [])) count)

-- and has the number of those that are there
pub home_next : (assigned : List ℕ) (i : ℕ) → home_at assigned i ≡ (part_of assigned i, length (members (take i assigned) (part_of assigned i)))
home_next assigned i = ap (λ (n : ℕ). (part_of assigned i, n)) (sym (member_count (take i assigned) (part_of assigned i) 0))

-- ---- a channel more

holder_next : (holder n : ℕ) → ((holder + 1) + n ≡ holder + suc n) × (holder ≡ holder + 0)
holder_next holder n = (omega arith, omega arith)

-- after those that a part has
pub channels_more : (assigned : List ℕ) (part : ℕ) (channels : List ChannelState) (holder : ℕ) (channel : ChannelState)
    → channels_from assigned part holder (channels ++ channel ∷ []) ≡ channels_from assigned part holder channels ++ channel_in assigned part (holder + length channels) channel ∷ []
channels_more assigned part [] holder channel = ap (λ (n : ℕ). channel_in assigned part n channel ∷ []) (holder_next holder 0).1
channels_more assigned part (first ∷ channels) holder channel =
    ap (λ (l : List ChannelState). channel_in assigned part holder first ∷ l)
    (channels_more assigned part channels (holder + 1) channel
    ∙ ap (λ (n : ℕ). channels_from assigned part (holder + 1) channels ++ channel_in assigned part n channel ∷ []) (holder_next holder (length channels)).0)

-- those that cross, and then the inner ones
pub channels_both : (assigned : List ℕ) (part : ℕ) (front back : List ChannelState) (holder : ℕ)
    → channels_from assigned part holder (front ++ back) ≡ channels_from assigned part holder front ++ channels_from assigned part (holder + length front) back
channels_both assigned part [] back holder = ap (λ (n : ℕ). channels_from assigned part n back) (holder_next holder 0).1
channels_both assigned part (first ∷ front) back holder =
    ap (λ (l : List ChannelState). channel_in assigned part holder first ∷ l)
    (channels_both assigned part front back (holder + 1)
    ∙ ap (λ (n : ℕ). channels_from assigned part (holder + 1) front ++ channels_from assigned part n back) (holder_next holder (length front)).0)

-- the inner ones so far have no place holders: their tunnels are those that they have in the world
tunnels_whole : (tunnels : List Tunnel) (within : ℕ) → tunnels_in true true within tunnels ≡ tunnels
tunnels_whole [] within = refl
tunnels_whole (tunnel ∷ tunnels) within = ap (λ (l : List Tunnel). tunnel ∷ l) (tunnels_whole tunnels (within + 1))

-- an inner channel
abbrev pub inner_in : List ℕ → ChannelState → ChannelState
inner_in assigned channel = record { from = (home_at assigned channel.from).1; to = (home_at assigned channel.to).1; tunnels = channel.tunnels }

-- a channel of these parts
abbrev channel_with : ℕ → ℕ → List Tunnel → ChannelState
channel_with f t tunnels = record { from = f; to = t; tunnels = tunnels }

inner_by : (a b : Bool) (f t holder : ℕ) (tunnels : List Tunnel) → (a && b) ≡ true
    → channel_with (if a then f else holder) (if b then t else holder) (tunnels_in a b 0 tunnels) ≡ channel_with f t tunnels
inner_by true true f t holder tunnels is = ap (channel_with f t) (tunnels_whole tunnels 0)
inner_by true false f t holder tunnels is = absurd (true≢false (sym is))
inner_by false b f t holder tunnels is = absurd (true≢false (sym is))

pub inner_is : (assigned : List ℕ) (part holder : ℕ) (channel : ChannelState) → is_inner assigned part channel ≡ true → channel_in assigned part holder channel ≡ inner_in assigned channel
inner_is assigned part holder channel is =
    inner_by (is_part part (part_of assigned channel.from)) (is_part part (part_of assigned channel.to)) (home_at assigned channel.from).1 (home_at assigned channel.to).1 holder channel.tunnels is

-- ---- a tunnel more

within_next : (within n : ℕ) → ((within + 1) + n ≡ within + suc n) × (within ≡ within + 0)
within_next within n = (omega arith, omega arith)

tunnels_push : (f g : Bool) (tunnels : List Tunnel) (within : ℕ) (tunnel : Tunnel)
    → tunnels_in f g within (tunnels ++ tunnel ∷ []) ≡ tunnels_in f g within tunnels ++ tunnel_in f g (within + length tunnels) tunnel ∷ []
tunnels_push f g [] within tunnel = ap (λ (n : ℕ). tunnel_in f g n tunnel ∷ []) (within_next within 0).1
tunnels_push f g (first ∷ tunnels) within tunnel =
    ap (λ (l : List Tunnel). tunnel_in f g within first ∷ l)
    (tunnels_push f g tunnels (within + 1) tunnel
    ∙ ap (λ (n : ℕ). tunnels_in f g (within + 1) tunnels ++ tunnel_in f g n tunnel ∷ []) (within_next within (length tunnels)).0)

pub half_more : (f g : Bool) (tunnels : List Tunnel) (i : ℕ) (d : Tunnel) → i < length tunnels
    → tunnels_in f g 0 (take (i + 1) tunnels) ≡ tunnels_in f g 0 (take i tunnels) ++ tunnel_in f g i (get_or tunnels i d) ∷ []
half_more f g tunnels i d below =
    let count : 0 + length (take i tunnels) ≡ i = (let short : length (take i tunnels) ≡ i = length-take-le i tunnels (omega arith) in omega arith) in
    ap (λ (l : List Tunnel). tunnels_in f g 0 l) (take_more tunnels i d below)
    ∙ (tunnels_push f g (take i tunnels) 0 (get_or tunnels i d)
    ∙ ap (λ (n : ℕ). tunnels_in f g 0 (take i tunnels) ++ tunnel_in f g n (get_or tunnels i d) ∷ []) count)

-- a tunnel was added to those so far
pub half_added : (f g : Bool) (tunnels : List Tunnel) (i : ℕ) (d one : Tunnel) (before after : List Tunnel) → i < length tunnels
    → one ≡ tunnel_in f g i (get_or tunnels i d) → before ≡ tunnels_in f g 0 (take i tunnels) → after ≡ before ++ one ∷ [] → after ≡ tunnels_in f g 0 (take (i + 1) tunnels)
half_added f g tunnels i d one before after below made so_far added =
    added ∙ (ap₂ (λ (l : List Tunnel) (t : Tunnel). l ++ t ∷ []) so_far made ∙ sym (half_more f g tunnels i d below))

-- ---- a channel was added to those so far, or not

none_added : {A : Type 0} (before after : List A) → after ≡ before ++ [] → after ≡ before
none_added before after added = added ∙ append-nil before

-- one that crosses
crossing_by : (b : Bool) (assigned : List ℕ) (part boxes : ℕ) (channels : List ChannelState) (channel : ChannelState) (before after : List ChannelState)
    → before ≡ channels_from assigned part boxes channels
    → after ≡ before ++ (if b then channel_in assigned part (boxes + length before) channel ∷ [] else [])
    → after ≡ channels_from assigned part boxes (channels ++ cond b (channel ∷ []) [])
crossing_by true assigned part boxes channels channel before after so_far added =
    let count : length before ≡ length channels = ap length so_far ∙ channel_count assigned part channels boxes in
    added ∙ (ap₂ (λ (l : List ChannelState) (n : ℕ). l ++ channel_in assigned part (boxes + n) channel ∷ []) so_far count ∙ sym (channels_more assigned part channels boxes channel))
crossing_by false assigned part boxes channels channel before after so_far added =
    none_added before after added ∙ (so_far ∙ ap (λ (l : List ChannelState). channels_from assigned part boxes l) (sym (append-nil channels)))

pub crossing_added : (assigned : List ℕ) (part boxes : ℕ) (channels : List ChannelState) (i : ℕ) (channel : ChannelState) (before after : List ChannelState) → i < length channels → channel ≡ get_or channels i channel
    → before ≡ channels_from assigned part boxes (filter (is_crossing assigned part) (take i channels))
    → after ≡ before ++ (if is_crossing assigned part channel then channel_in assigned part (boxes + length before) channel ∷ [] else [])
    → after ≡ channels_from assigned part boxes (filter (is_crossing assigned part) (take (i + 1) channels))
crossing_added assigned part boxes channels i channel before after below is so_far added =
    crossing_by (is_crossing assigned part channel) assigned part boxes (filter (is_crossing assigned part) (take i channels)) channel before after so_far added
    ∙ ap (λ (l : List ChannelState). channels_from assigned part boxes l)
    (ap (λ (e : ChannelState). filter (is_crossing assigned part) (take i channels) ++ cond (is_crossing assigned part e) (e ∷ []) []) is ∙ sym (filter_more (is_crossing assigned part) channels i channel below))

filter_less : {A : Type 0} (test : A → Bool) (xs : List A) → length (filter test xs) ≤ length xs
filter_less test [] = omega arith
filter_less test (x ∷ xs) = less_by (test x) x (filter test xs) (length xs) (filter_less test xs) where
  less_by : {A : Type 0} (b : Bool) (x : A) (ys : List A) (n : ℕ) → length ys ≤ n → length (cond b (x ∷ ys) ys) ≤ suc n
  less_by true x ys n less = omega arith
  less_by false x ys n less = omega arith

-- there are few so far
pub crossing_few : (assigned : List ℕ) (part boxes : ℕ) (channels : List ChannelState) (i limit : ℕ) (before : List ChannelState) → i < length channels → length channels ≤ limit
    → before ≡ channels_from assigned part boxes (filter (is_crossing assigned part) (take i channels)) → length before ≤ limit
crossing_few assigned part boxes channels i limit before below few so_far =
    let count : length before ≡ length (filter (is_crossing assigned part) (take i channels)) = ap length so_far ∙ channel_count assigned part (filter (is_crossing assigned part) (take i channels)) boxes in
    let less : length (filter (is_crossing assigned part) (take i channels)) ≤ length (take i channels) = filter_less (is_crossing assigned part) (take i channels) in
    let short : length (take i channels) ≡ i = length-take-le i channels (omega arith) in
    omega arith

-- an inner one
inner_added_by : (b : Bool) (assigned : List ℕ) (part boxes holder : ℕ) (channels : List ChannelState) (channel : ChannelState) (before after : List ChannelState) → is_inner assigned part channel ≡ b
    → before ≡ channels_from assigned part boxes channels
    → after ≡ before ++ (if b then channel_in assigned part holder channel ∷ [] else [])
    → after ≡ channels_from assigned part boxes (channels ++ cond b (channel ∷ []) [])
inner_added_by true assigned part boxes holder channels channel before after is so_far added =
    let same : channel_in assigned part holder channel ≡ channel_in assigned part (boxes + length channels) channel = inner_is assigned part holder channel is ∙ sym (inner_is assigned part (boxes + length channels) channel is) in
    added ∙ (ap₂ (λ (l : List ChannelState) (e : ChannelState). l ++ e ∷ []) so_far same ∙ sym (channels_more assigned part channels boxes channel))
inner_added_by false assigned part boxes holder channels channel before after is so_far added =
    none_added before after added ∙ (so_far ∙ ap (λ (l : List ChannelState). channels_from assigned part boxes l) (sym (append-nil channels)))

pub inner_added : (assigned : List ℕ) (part boxes holder : ℕ) (front channels : List ChannelState) (i : ℕ) (channel : ChannelState) (before after : List ChannelState) → i < length channels → channel ≡ get_or channels i channel
    → before ≡ channels_from assigned part boxes (front ++ filter (is_inner assigned part) (take i channels))
    → after ≡ before ++ (if is_inner assigned part channel then channel_in assigned part holder channel ∷ [] else [])
    → after ≡ channels_from assigned part boxes (front ++ filter (is_inner assigned part) (take (i + 1) channels))
inner_added assigned part boxes holder front channels i channel before after below is so_far added =
    inner_added_by (is_inner assigned part channel) assigned part boxes holder (front ++ filter (is_inner assigned part) (take i channels)) channel before after refl so_far added
    ∙ ap (λ (l : List ChannelState). channels_from assigned part boxes l)
    (append_assoc front (filter (is_inner assigned part) (take i channels)) (cond (is_inner assigned part channel) (channel ∷ []) [])
    ∙ ap (λ (l : List ChannelState). front ++ l)
    (ap (λ (e : ChannelState). filter (is_inner assigned part) (take i channels) ++ cond (is_inner assigned part e) (e ∷ []) []) is ∙ sym (filter_more (is_inner assigned part) channels i channel below)))

-- ---- a box was counted

-- the number of each of the first so many boxes
abbrev pub number_of : List ℕ → ℕ → ℕ
number_of assigned who = (home_at assigned who).1

abbrev pub numbers_so_far : List ℕ → ℕ → List ℕ
numbers_so_far assigned n = map (number_of assigned) (range_with_len 0 n)

no_start : (k : ℕ) → 0 + k ≡ k
no_start k = omega arith

pub count_at : (assigned counts : List ℕ) (count part d : ℕ) → counts ≡ counts_of assigned count → part < count → get_or counts part d ≡ count_of assigned part
count_at assigned counts count part d is below =
    ap (λ (l : List ℕ). get_or l part d) is ∙ get_or-map-range_with_len (count_of assigned) 0 count part part d below (no_start part)

if_length : (b : Bool) (n : ℕ) → length (if b then n ∷ [] else []) ≡ (if b then 1 else 0)
if_length true n = refl
if_length false n = refl

count_next : (assigned : List ℕ) (i part d : ℕ) → i < length assigned → count_of (take (i + 1) assigned) part ≡ count_of (take i assigned) part + (if is_part part (get_or assigned i d) then 1 else 0)
count_next assigned i part d below =
    ap length (members_more assigned i part d below)
    ∙ (length-append (members (take i assigned) part) (if is_part part (get_or assigned i d) then i ∷ [] else [])
    ∙ ap (λ (n : ℕ). count_of (take i assigned) part + n) (if_length (is_part part (get_or assigned i d)) i))

no_end : (n : ℕ) → n + 0 ≡ n
no_end n = omega arith

-- in its part there is one more
pub counted : (assigned counts after : List ℕ) (count i part : ℕ) → i < length assigned → part ≡ get_or assigned i part → part < count → counts ≡ counts_of (take i assigned) count
    → after ≡ set counts part (count_of (take i assigned) part + 1) → after ≡ counts_of (take (i + 1) assigned) count
counted assigned counts after count i part below is inside so_far changed =
    changed ∙ fill_by_all (count_of (take (i + 1) assigned)) (set counts part (count_of (take i assigned) part + 1)) count 0 long each where
      short : length counts ≡ count
      short = ap length so_far ∙ length-map-range_with_len (count_of (take i assigned)) 0 count

      long : length (set counts part (count_of (take i assigned) part + 1)) ≡ count
      long = length-set counts part (count_of (take i assigned) part + 1) ∙ short

      each : (k : ℕ) → k < count → get_or (set counts part (count_of (take i assigned) part + 1)) k 0 ≡ count_of (take (i + 1) assigned) k
      each k there = elim (cases_eq k part) [
        | inl same ↦
            let test : is_part k (get_or assigned i part) ≡ true = eq-eqb (get_or assigned i part) k (sym (same ∙ is)) in
            let one : (if is_part k (get_or assigned i part) then 1 else 0) ≡ 1 = ap (λ (b : Bool). if b then 1 else 0) test in
            ap (λ (n : ℕ). get_or (set counts part (count_of (take i assigned) part + 1)) n 0) same
            ∙ (get_or-set_same counts part (count_of (take i assigned) part + 1) 0 (subst (λ (n : ℕ). part < n) (sym short) inside)
            ∙ (ap (λ (n : ℕ). count_of (take i assigned) n + 1) (sym same)
            ∙ sym (count_next assigned i k part below ∙ ap (λ (n : ℕ). count_of (take i assigned) k + n) one)))
        | inr other ↦
            let test : is_part k (get_or assigned i part) ≡ false = ne_eqb (get_or assigned i part) k (λ same. other (sym same ∙ sym is)) in
            let none : (if is_part k (get_or assigned i part) then 1 else 0) ≡ 0 = ap (λ (b : Bool). if b then 1 else 0) test in
            let same : count_of (take (i + 1) assigned) k ≡ count_of (take i assigned) k =
            count_next assigned i k part below ∙ (ap (λ (n : ℕ). count_of (take i assigned) k + n) none ∙ no_end (count_of (take i assigned) k)) in
            get_or-set_other counts part k (count_of (take i assigned) part + 1) 0 other
            ∙ (count_at (take i assigned) counts count k 0 so_far there ∙ sym same)
      ]

-- and its number is there
pub numbered : (assigned before after : List ℕ) (i number : ℕ) → number ≡ count_of (take i assigned) (part_of assigned i) → before ≡ numbers_so_far assigned i → after ≡ before ++ number ∷ [] → after ≡ numbers_so_far assigned (i + 1)
numbered assigned before after i number is so_far added =
    let home : number_of assigned i ≡ count_of (take i assigned) (part_of assigned i) = ap (λ (p : ℕ × ℕ). p.1) (home_next assigned i) in
    added ∙ (ap₂ (λ (l : List ℕ) (n : ℕ). l ++ n ∷ []) so_far (is ∙ sym home) ∙ sym (map-range_with_len_more (number_of assigned) 0 i i (no_start i)))

-- all have theirs
pub are_numbers : (assigned numbers : List ℕ) (n : ℕ) → n ≡ length assigned → numbers ≡ numbers_so_far assigned n → AreNumbersIn assigned numbers
are_numbers assigned numbers n count is = record {
  count = ap length is ∙ (length-map-range_with_len (number_of assigned) 0 n ∙ count);
  each = λ who inside. ap (λ (l : List ℕ). get_or l who 0) is ∙ get_or-map-range_with_len (number_of assigned) 0 n who who 0 (subst (λ (m : ℕ). who < m) (sym count) inside) (no_start who);
}

-- no part has more boxes than there are
pub count_few : (assigned : List ℕ) (i part : ℕ) → i ≤ length assigned → count_of (take i assigned) part ≤ i
count_few assigned i part below =
    let count : count_of (take i assigned) part ≡ length (filter (is_part part) (take i assigned)) = member_count (take i assigned) part 0 in
    let less : length (filter (is_part part) (take i assigned)) ≤ length (take i assigned) = filter_less (is_part part) (take i assigned) in
    let short : length (take i assigned) ≡ i = length-take-le i assigned below in
    omega arith

same_element : {A : Type 0} (xs : List A) (i : ℕ) (d e : A) → i < length xs → get_or xs i d ≡ get_or xs i e
same_element xs i d e below = get_or_from_slice_get xs i (get_or xs i e) d (slice_get-get_or xs i e below)

-- what is read of the counts is the number of the next box of its part
pub number_read : (assigned counts : List ℕ) (count i number : ℕ) → i < length assigned → All (λ (part : ℕ). part < count) assigned → counts ≡ counts_of (take i assigned) count
    → number ≡ get_or counts (get_or assigned i 0) number → number ≡ count_of (take i assigned) (part_of assigned i)
number_read assigned counts count i number below all so_far read =
    read ∙ count_at (take i assigned) counts count (part_of assigned i) number so_far (all i 0 below)

pub number_few : (assigned : List ℕ) (i number : ℕ) → i < length assigned → number ≡ count_of (take i assigned) (part_of assigned i) → number ≤ i
number_few assigned i number below is = subst (λ (n : ℕ). n ≤ i) (sym is) (count_few assigned i (part_of assigned i) (omega arith))

pub counted_at : (assigned counts : List ℕ) (count i number : ℕ) → i < length assigned → All (λ (part : ℕ). part < count) assigned → counts ≡ counts_of (take i assigned) count
    → number ≡ count_of (take i assigned) (part_of assigned i) → set counts (get_or assigned i 0) (number + 1) ≡ counts_of (take (i + 1) assigned) count
counted_at assigned counts count i number below all so_far is =
    counted assigned counts (set counts (get_or assigned i 0) (number + 1)) count i (get_or assigned i 0) below (same_element assigned i 0 (get_or assigned i 0) below) (all i 0 below) so_far
    (ap (λ (n : ℕ). set counts (get_or assigned i 0) (n + 1)) is)

all_same : (n k z : ℕ) → get_or (replicate n z) k z ≡ z
all_same zero k z = refl
all_same (suc n) zero z = refl
all_same (suc n) (suc k) z = all_same n k z

all_zeros : (n k : ℕ) → get_or (replicate n 0) k 0 ≡ count_of [] k
all_zeros n k = all_same n k 0

-- no box was counted yet
pub none_counted : (counts : List ℕ) (count : ℕ) → counts ≡ replicate count 0 → counts ≡ counts_of [] count
none_counted counts count is = is ∙ fill_by_all (count_of []) (replicate count 0) count 0 (length-replicate count 0) (λ k below. all_zeros count k)
