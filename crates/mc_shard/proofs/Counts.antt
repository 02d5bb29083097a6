-- How lanes go on.
use Rattle.std.proofs.Common.{◌≡◌, ℕ, zero, suc, ◌+◌, ◌≤◌, List, [], ◌∷◌, ◌++◌, length, length-append, Option, Some, None, append_assoc, refl, ap, sym, subst, ◌∙◌, arith}
use Rattle.std.specs.List.{slice_get}
use Rattle.std.proofs.Math.ListN.{set, length-set}
use Rattle.mc_signal.specs.declared.Signal.{Signal}
use Rattle.mc_shard.specs.States.{count_at, numbered, numbered_if, raised, raised_all}
use Rattle.mc_shard.specs.declared.entry.AtEnd.{AtEnd}
use Rattle.mc_shard.specs.declared.reached.Reached.{Reached}

set_within : (lanes : List Reached) (i end : ℕ) (v : Reached) → v.count ≤ count_at lanes i + 1 → count_at (set lanes i v) end ≤ count_at lanes end + 1
set_within [] i end v most = omega arith
set_within (c ∷ lanes) zero zero v most = most
set_within (c ∷ lanes) zero (suc end) v most = omega arith
set_within (c ∷ lanes) (suc i) zero v most = omega arith
set_within (c ∷ lanes) (suc i) (suc end) v most = set_within lanes i end v most

pub raised_length : (lanes : List Reached) (one : AtEnd) → length (raised lanes one) ≡ length lanes
raised_length lanes one = length-set lanes one.end (record { count = count_at lanes one.end + 1; digest = one.item.digest })

-- lanes are as many as before
pub all_length : (xs : List AtEnd) (lanes : List Reached) → length (raised_all lanes xs) ≡ length lanes
all_length [] lanes = refl
all_length (one ∷ xs) lanes = all_length xs (raised lanes one) ∙ raised_length lanes one

raised_within : (lanes : List Reached) (one : AtEnd) (end : ℕ) → count_at (raised lanes one) end ≤ count_at lanes end + 1
raised_within lanes one end =
    let same : count_at lanes one.end + 1 ≤ count_at lanes one.end + 1 = omega arith in
    set_within lanes one.end end (record { count = count_at lanes one.end + 1; digest = one.item.digest }) same

pub all_within : (xs : List AtEnd) (lanes : List Reached) (end : ℕ) → count_at (raised_all lanes xs) end ≤ count_at lanes end + length xs
all_within [] lanes end = omega arith
all_within (one ∷ xs) lanes end =
    let rest : count_at (raised_all (raised lanes one) xs) end ≤ count_at (raised lanes one) end + length xs = all_within xs (raised lanes one) end in
    let first : count_at (raised lanes one) end ≤ count_at lanes end + 1 = raised_within lanes one end in
    omega arith

pub raised_append : (xs ys : List AtEnd) (lanes : List Reached) → raised_all lanes (xs ++ ys) ≡ raised_all (raised_all lanes xs) ys
raised_append [] ys lanes = refl
raised_append (one ∷ xs) ys lanes = raised_append xs ys (raised lanes one)

if_few : (o : Option (ℕ × ℕ)) (stamp : ℕ) (lanes : List Reached) (signal : Signal) → length (numbered_if o stamp lanes signal) ≤ 1
if_few None stamp lanes signal = omega arith
if_few (Some place) stamp lanes signal = omega arith

pub one_within : (o : Option (ℕ × ℕ)) (stamp : ℕ) (lanes : List Reached) (signal : Signal) (end : ℕ) → count_at (raised_all lanes (numbered_if o stamp lanes signal)) end ≤ count_at lanes end + 1
one_within o stamp lanes signal end =
    let most : count_at (raised_all lanes (numbered_if o stamp lanes signal)) end ≤ count_at lanes end + length (numbered_if o stamp lanes signal) = all_within (numbered_if o stamp lanes signal) lanes end in
    let few : length (numbered_if o stamp lanes signal) ≤ 1 = if_few o stamp lanes signal in
    omega arith

pub numbered_few : (sent : List (ℕ × Signal)) (places : List (ℕ × ℕ)) (stamp : ℕ) (lanes : List Reached) → length (numbered places stamp lanes sent) ≤ length sent
numbered_few [] places stamp lanes = omega arith
numbered_few (sending ∷ sent) places stamp lanes =
    let here = numbered_if (slice_get places sending.0) stamp lanes sending.1 in
    let first : length here ≤ 1 = if_few (slice_get places sending.0) stamp lanes sending.1 in
    let rest : length (numbered places stamp (raised_all lanes here) sent) ≤ length sent = numbered_few sent places stamp (raised_all lanes here) in
    let both : length (here ++ numbered places stamp (raised_all lanes here) sent) ≡ length here + length (numbered places stamp (raised_all lanes here) sent) = length-append here (numbered places stamp (raised_all lanes here) sent) in
    omega arith

-- ---- one more of a list that is numbered

pub out_more : (places : List (ℕ × ℕ)) (stamp : ℕ) (lanes next : List Reached) (slot : ℕ) (signal : Signal) (rest : List (ℕ × Signal)) (out more whole : List AtEnd)
    → out ++ numbered places stamp lanes ((slot, signal) ∷ rest) ≡ whole → more ≡ out ++ numbered_if (slice_get places slot) stamp lanes signal → next ≡ raised_all lanes (numbered_if (slice_get places slot) stamp lanes signal)
    → more ++ numbered places stamp next rest ≡ whole
out_more places stamp lanes next slot signal rest out more whole is one two =
    let here = numbered_if (slice_get places slot) stamp lanes signal in
    ap (λ (l : List AtEnd). l ++ numbered places stamp next rest) one
    ∙ (ap (λ (c : List Reached). (out ++ here) ++ numbered places stamp c rest) two
    ∙ (append_assoc out here (numbered places stamp (raised_all lanes here) rest) ∙ is))

pub lanes_more : (places : List (ℕ × ℕ)) (stamp : ℕ) (lanes next whole : List Reached) (slot : ℕ) (signal : Signal) (rest : List (ℕ × Signal))
    → raised_all lanes (numbered places stamp lanes ((slot, signal) ∷ rest)) ≡ whole → next ≡ raised_all lanes (numbered_if (slice_get places slot) stamp lanes signal)
    → raised_all next (numbered places stamp next rest) ≡ whole
lanes_more places stamp lanes next whole slot signal rest is two =
    let here = numbered_if (slice_get places slot) stamp lanes signal in
    ap (λ (c : List Reached). raised_all c (numbered places stamp c rest)) two
    ∙ (sym (raised_append here (numbered places stamp (raised_all lanes here) rest) lanes) ∙ is)

-- what comes out of an empty list is what was put in
pub few_of : (out start xs : List AtEnd) → out ≡ start ++ xs → start ≡ [] → length xs ≤ 128 → length out ≤ 128
few_of out start xs is empty few =
    let same : out ≡ xs = is ∙ ap (λ (l : List AtEnd). l ++ xs) empty in
    subst (λ (l : List AtEnd). length l ≤ 128) (sym same) few
