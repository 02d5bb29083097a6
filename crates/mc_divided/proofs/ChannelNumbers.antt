-- The numbers of channels of a kind, and where a channel's stands among those of a part.
use Rattle.std.proofs.Common.{◌≡◌, ◌<◌, ◌≤◌, ◌+◌, ◌&&◌, inl, inr, not, if◌then◌else◌, Bool, true, false, filter, ℕ, zero, suc, Some, List, [], ◌∷◌, ◌++◌, length, length-append, get_or, take, take_all, map-id, refl, ap, ap₂, sym, ◌∙◌, subst, arith, true≢false}
use Rattle.std.proofs.lemmas.Bool.{cases_lt}
use Rattle.std.proofs.lemmas.List.{append_assoc}
use Rattle.std.proofs.lemmas.List.Filters.{length-filter_more}
use Rattle.std.proofs.lemmas.List.FromFn.{filter_of_map_range_with_len_more}
use Rattle.std.proofs.lemmas.Option.{get_or_from_slice_get, slice_get-get_or, slice_get_within}
use Rattle.std.specs.List.{range_with_len, slice_get}
use Rattle.mc_part.specs.Divisions.{channels_in, is_crossing, is_inner, is_part, members, part_of, place_in, rank, touching}
use Rattle.mc_part.proofs.Placed.{Touches, channel_count, front_at, place_of_crossing}
use Rattle.mc_part.proofs.Same.{other_one}
use Rattle.mc_merge.specs.Lanes.{absent_channel}
use Rattle.mc_model.specs.Worlds.{ChannelState}
use Rattle.mc_divided.specs.Laying.{channel_numbers, is_kind, kind_of, numbers_of_kind}

no_start : (k : ℕ) → 0 + k ≡ k
no_start k = omega arith

next : (k : ℕ) → suc k ≡ k + 1
next k = omega arith

-- ---- one channel more

pub kind_more : (kind : ChannelState → Bool) (channels : List ChannelState) (i : ℕ)
    → numbers_of_kind kind channels (i + 1) ≡ numbers_of_kind kind channels i ++ (if is_kind kind channels i then i ∷ [] else [])
kind_more kind channels i =
    ap (filter (is_kind kind channels)) (sym (map-id (range_with_len 0 (i + 1))))
    ∙ (filter_of_map_range_with_len_more (is_kind kind channels) (λ (n : ℕ). n) 0 i i (no_start i)
    ∙ ap (λ (l : List ℕ). filter (is_kind kind channels) l ++ (if is_kind kind channels i then i ∷ [] else [])) (map-id (range_with_len 0 i)))

pub numbers_added : (kind : ChannelState → Bool) (channels : List ChannelState) (i : ℕ) (channel : ChannelState) (is_one : Bool) (old before after : List ℕ) → i < length channels
    → channel ≡ get_or channels i channel → is_one ≡ kind channel → before ≡ old ++ numbers_of_kind kind channels i → after ≡ before ++ (if is_one then i ∷ [] else [])
    → after ≡ old ++ numbers_of_kind kind channels (i + 1)
numbers_added kind channels i channel is_one old before after below read one so_far added =
    let same : get_or channels i absent_channel ≡ channel = get_or_from_slice_get channels i (get_or channels i channel) absent_channel (slice_get-get_or channels i channel below) ∙ sym read in
    added
    ∙ (ap₂ (λ (l : List ℕ) (b : Bool). l ++ (if b then i ∷ [] else [])) so_far (one ∙ ap kind (sym same))
    ∙ (append_assoc old (numbers_of_kind kind channels i) (if is_kind kind channels i then i ∷ [] else [])
    ∙ ap (λ (l : List ℕ). old ++ l) (sym (kind_more kind channels i))))

-- ---- how many there are

if_length : (b : Bool) (n : ℕ) → length (if b then n ∷ [] else []) ≡ (if b then 1 else 0)
if_length true n = refl
if_length false n = refl

pub kind_count : (kind : ChannelState → Bool) (channels : List ChannelState) (n : ℕ) → n ≤ length channels → length (numbers_of_kind kind channels n) ≡ length (filter kind (take n channels))
kind_count kind channels zero below = refl
kind_count kind channels (suc n) below =
    ap (λ (m : ℕ). length (numbers_of_kind kind channels m)) (next n)
    ∙ (ap length (kind_more kind channels n)
    ∙ (length-append (numbers_of_kind kind channels n) (if is_kind kind channels n then n ∷ [] else [])
    ∙ (ap₂ (λ (a b : ℕ). a + b) (kind_count kind channels n (omega arith)) (if_length (is_kind kind channels n) n)
    ∙ (sym (length-filter_more kind channels n absent_channel (omega arith))
    ∙ ap (λ (m : ℕ). length (filter kind (take m channels))) (sym (next n))))))

pub kind_count_all : (kind : ChannelState → Bool) (channels : List ChannelState) → length (numbers_of_kind kind channels (length channels)) ≡ length (filter kind channels)
kind_count_all kind channels = kind_count kind channels (length channels) (omega arith) ∙ ap (λ (l : List ChannelState). length (filter kind l)) (take_all (length channels) channels (omega arith))

pub numbers_count : (assigned : List ℕ) (channels : List ChannelState) (part : ℕ) → length (channel_numbers assigned channels part) ≡ length (channels_in assigned channels part)
numbers_count assigned channels part =
    length-append (numbers_of_kind (kind_of assigned part true) channels (length channels)) (numbers_of_kind (kind_of assigned part false) channels (length channels))
    ∙ (ap₂ (λ (a b : ℕ). a + b) (kind_count_all (is_crossing assigned part) channels) (kind_count_all (is_inner assigned part) channels)
    ∙ (sym (length-append (filter (is_crossing assigned part) channels) (filter (is_inner assigned part) channels))
    ∙ sym (channel_count assigned part (touching assigned channels part) (length (members assigned part)))))

-- ---- where one stands

one_down : (n j k : ℕ) → suc k ≡ suc n + j → k ≡ n + j
one_down n j k sum = omega arith

-- an element of the second of two lists
pub rest_at : {A : Type 0} (xs ys : List A) (j k : ℕ) (x : A) → k ≡ length xs + j → slice_get ys j ≡ Some x → slice_get (xs ++ ys) k ≡ Some x
rest_at [] ys j k x sum is = (let same : j ≡ k = omega arith in subst (λ (n : ℕ). slice_get ys n ≡ Some x) same is)
rest_at (y ∷ xs) ys j zero x sum is = absurd (omega arith)
rest_at (y ∷ xs) ys j (suc k) x sum is = rest_at xs ys j k x (one_down (length xs) j k sum) is

at_end : (xs : List ℕ) (b : Bool) (c k : ℕ) → b ≡ true → k ≡ length xs → slice_get (xs ++ (if b then c ∷ [] else [])) k ≡ Some c
at_end xs true c k is count = rest_at xs (c ∷ []) 0 k c (omega arith) refl
at_end xs false c k is count = absurd (true≢false (sym is))

pub kind_at : (kind : ChannelState → Bool) (channels : List ChannelState) (n c : ℕ) → n ≤ length channels → c < n → kind (get_or channels c absent_channel) ≡ true
    → slice_get (numbers_of_kind kind channels n) (rank kind c channels) ≡ Some c
kind_at kind channels zero c few below is = absurd (omega arith)
kind_at kind channels (suc n) c few below is =
    ap (λ (m : ℕ). slice_get (numbers_of_kind kind channels m) (rank kind c channels)) (next n)
    ∙ (ap (λ (l : List ℕ). slice_get l (rank kind c channels)) (kind_more kind channels n)
    ∙ elim (cases_lt c n) [
      | inl before ↦
          front_at (numbers_of_kind kind channels n) (if is_kind kind channels n then n ∷ [] else []) (rank kind c channels) c (kind_at kind channels n c (omega arith) before is)
      | inr after ↦
          let same : n ≡ c = omega arith in
          subst (λ (m : ℕ). slice_get (numbers_of_kind kind channels m ++ (if is_kind kind channels m then m ∷ [] else [])) (rank kind c channels) ≡ Some c) (sym same)
          (at_end (numbers_of_kind kind channels c) (is_kind kind channels c) c (rank kind c channels) is (sym (kind_count kind channels c (omega arith))))
    ])

inner_apart : (a b : Bool) → (a && b) ≡ true → (if a then not b else b) ≡ false
inner_apart true true is = refl
inner_apart true false is = absurd (true≢false (sym is))
inner_apart false true is = absurd (true≢false (sym is))
inner_apart false false is = refl

place_of_inner : (assigned : List ℕ) (channels : List ChannelState) (part c : ℕ) → is_inner assigned part (get_or channels c absent_channel) ≡ true
    → place_in assigned channels part c ≡ length (filter (is_crossing assigned part) channels) + rank (is_inner assigned part) c channels
place_of_inner assigned channels part c is =
    other_one (is_crossing assigned part (get_or channels c absent_channel)) (rank (is_crossing assigned part) c channels) (length (filter (is_crossing assigned part) channels) + rank (is_inner assigned part) c channels)
    (inner_apart (is_part part (part_of assigned (get_or channels c absent_channel).from)) (is_part part (part_of assigned (get_or channels c absent_channel).to)) is)

-- the number of a channel that touches a part stands at its place there
pub number_there : (assigned : List ℕ) (channels : List ChannelState) (part c : ℕ) (channel : ChannelState) → slice_get channels c ≡ Some channel → Touches assigned part channel
    → slice_get (channel_numbers assigned channels part) (place_in assigned channels part c) ≡ Some c
number_there assigned channels part c channel at (inl crossing) =
    let is : get_or channels c absent_channel ≡ channel = get_or_from_slice_get channels c channel absent_channel at in
    ap (λ (k : ℕ). slice_get (channel_numbers assigned channels part) k) (place_of_crossing assigned channels part c channel at crossing)
    ∙ front_at (numbers_of_kind (kind_of assigned part true) channels (length channels)) (numbers_of_kind (kind_of assigned part false) channels (length channels)) (rank (is_crossing assigned part) c channels) c
    (kind_at (is_crossing assigned part) channels (length channels) c (omega arith) (slice_get_within channels c channel at) (ap (is_crossing assigned part) is ∙ crossing))
number_there assigned channels part c channel at (inr inner) =
    let is : get_or channels c absent_channel ≡ channel = get_or_from_slice_get channels c channel absent_channel at in
    let passes : is_inner assigned part (get_or channels c absent_channel) ≡ true = ap (is_inner assigned part) is ∙ inner in
    rest_at (numbers_of_kind (kind_of assigned part true) channels (length channels)) (numbers_of_kind (kind_of assigned part false) channels (length channels)) (rank (is_inner assigned part) c channels)
    (place_in assigned channels part c) c
    (place_of_inner assigned channels part c passes ∙ ap (λ (n : ℕ). n + rank (is_inner assigned part) c channels) (sym (kind_count_all (is_crossing assigned part) channels)))
    (kind_at (is_inner assigned part) channels (length channels) c (omega arith) (slice_get_within channels c channel at) passes)
