-- How many slots the tunnels of channels give a box.
use Rattle.std.proofs.Common.{◌≡◌, ◌+◌, ◌<◌, ◌==◌, ℕ, zero, suc, Bool, true, false, cond, List, [], ◌∷◌, ◌++◌, count_by, length, take, refl, ap, ◌∙◌, arith, flat_map}
use Rattle.std.proofs.Math.ListN.{get_or}
use Rattle.std.proofs.lemmas.List.Concat.{flat_map-append}
use Rattle.mc_signal.specs.declared.Medium.{Medium}
use Rattle.mc_model.specs.Worlds.{ChannelState, places_among, places_of, places_within}
use Rattle.mc_model.specs.declared.channel.Tunnel.{Tunnel}
use Rattle.mc_plan.specs.Plans.{is_of, slots_of, tunnels_between}
use Rattle.mc_plan.proofs.Counts.{count_append, count_cons}

-- as many, or none
abbrev pub part : Bool → ℕ → ℕ
part here n = cond here n 0

-- one tunnel more
one_more : (a b : Bool) (n : ℕ) → cond a 1 0 + (cond b 1 0 + (part a n + part b n)) ≡ part a (suc n) + part b (suc n)
one_more true true n = omega arith
one_more true false n = omega arith
one_more false true n = omega arith
one_more false false n = omega arith

-- without tunnels
no_more : (a b : Bool) → 0 ≡ part a 0 + part b 0
no_more true true = omega arith
no_more true false = omega arith
no_more false true = omega arith
no_more false false = omega arith

-- each tunnel gives a slot to each of the two boxes
pub slots_within : (ends : ChannelState) (tunnels : List Tunnel) (who : ℕ)
    → count_by (is_of who) (flat_map (places_of ends) tunnels) ≡ part (ends.from == who) (length tunnels) + part (ends.to == who) (length tunnels)
slots_within ends [] who = no_more (ends.from == who) (ends.to == who)
slots_within ends (tunnel ∷ tunnels) who =
    let rest : List (ℕ × ℕ) = flat_map (places_of ends) tunnels in
    count_cons (is_of who) (ends.from, tunnel.from) ((ends.to, tunnel.to) ∷ rest)
    ∙ (ap (λ (n : ℕ). cond (ends.from == who) 1 0 + n) (count_cons (is_of who) (ends.to, tunnel.to) rest)
    ∙ (ap (λ (n : ℕ). cond (ends.from == who) 1 0 + (cond (ends.to == who) 1 0 + n)) (slots_within ends tunnels who)
    ∙ one_more (ends.from == who) (ends.to == who) (length tunnels)))

-- the slots at some channels, and at others
pub slots_append : (before after : List ChannelState) (who : ℕ) → slots_of (before ++ after) who ≡ slots_of before who + slots_of after who
slots_append before after who = ap (count_by (is_of who)) (flat_map-append places_within before after) ∙ count_append (is_of who) (places_among before) (places_among after)

-- at one channel
pub slots_one : (ends : ChannelState) (who : ℕ) → slots_of (ends ∷ []) who ≡ part (ends.from == who) (length ends.tunnels) + part (ends.to == who) (length ends.tunnels)
slots_one ends who = omega (arith, count_append (is_of who) (places_within ends) [], slots_within ends ends.tunnels who)

-- ---- the tunnels of a new channel

-- a tunnel for each medium
pub length_tunnels : (near far : ℕ) (media : List Medium) → length (tunnels_between near far media) ≡ length media
length_tunnels near far [] = refl
length_tunnels near far (medium ∷ media) = ap suc (length_tunnels (near + 1) (far + 1) media)

-- one tunnel more
pub tunnels_more : (near far : ℕ) (media : List Medium) (i : ℕ) (d : Medium) → i < length media
    → tunnels_between near far (take (i + 1) media) ≡ tunnels_between near far (take i media) ++ record { medium = get_or media i d; from = near + i; to = far + i } ∷ []
tunnels_more near far [] i d below = absurd (omega arith)
tunnels_more near far (medium ∷ media) zero d below =
    let one : near + zero ≡ near = omega arith in
    let two : far + zero ≡ far = omega arith in
    grind arith
tunnels_more near far (medium ∷ media) (suc i) d below =
    let rest : tunnels_between (near + 1) (far + 1) (take (i + 1) media) ≡ tunnels_between (near + 1) (far + 1) (take i media) ++ record { medium = get_or media i d; from = near + 1 + i; to = far + 1 + i } ∷ [] = tunnels_more (near + 1) (far + 1) media i d (omega arith) in
    let one : near + 1 + i ≡ near + suc i = omega arith in
    let two : far + 1 + i ≡ far + suc i = omega arith in
    grind arith
