-- The slots of a box, picked from those of all tunnels.
use Rattle.std.proofs.Common.{None, ◌≡◌, ◌+◌, ◌*◌, ◌/◌, ◌%◌, ◌<◌, ◌==◌, ℕ, zero, suc, Bool, true, false, cond, List, [], ◌∷◌, ◌++◌, count_by, length, take, refl, ap, sym, ◌∙◌, subst, arith, append_assoc, flat_map, zero-add}
use Rattle.std.proofs.Math.ListN.{get_or}
use Rattle.mc_box.specs.declared.setup.SlotSetup.{SlotSetup}
use Rattle.mc_plan.specs.Setups.{setups_from, setups_of, setups_within}
use Rattle.mc_model.specs.Worlds.{ChannelState, TunnelPlace, tunnels_from, tunnels_within, no_tunnel, places_among, places_of, places_within}
use Rattle.mc_model.specs.declared.channel.Tunnel.{Tunnel}
use Rattle.mc_laws.proofs.TunnelPlaces.{two_each, within_slots}
use Rattle.mc_plan.specs.LaidOut.{place_at}
use Rattle.mc_plan.specs.Plans.{is_of}
use Rattle.mc_plan.proofs.Counts.{count_cons}

-- ---- picking by a test on another list

-- those that stand where the first list passes
abbrev pub pick : {X Y : Type 0} → (X → Bool) → List X → List Y → List Y
pick p [] ys = []
pick p (x ∷ xs) [] = []
pick {X} {Y} p (x ∷ xs) (y ∷ ys) = cond (p x) (y ∷ []) [] ++ pick p xs ys

-- what comes first is left out
skip : {Y : Type 0} (here : Bool) (y : Y) (rest : List Y) (n : ℕ) (d : Y) → get_or (cond here (y ∷ []) [] ++ rest) (cond here 1 0 + n) d ≡ get_or rest n d
skip true y rest n d = let one : 1 + n ≡ suc n = omega arith in ap (λ (k : ℕ). get_or (y ∷ rest) k d) one
skip false y rest n d = ap (λ (k : ℕ). get_or rest k d) (zero-add n)

-- as many are picked before one as pass before it
pub picked : {X Y : Type 0} (p : X → Bool) (xs : List X) (ys : List Y) (s : ℕ) (c : X) (d : Y) → length ys ≡ length xs → s < length xs → p (get_or xs s c) ≡ true
    → get_or (pick p xs ys) (count_by p (take s xs)) d ≡ get_or ys s d
picked p [] ys s c d same inside passes = absurd (omega arith)
picked p (x ∷ xs) [] s c d same inside passes = absurd (omega arith)
picked {X} {Y} p (x ∷ xs) (y ∷ ys) zero c d same inside passes = ap (λ (b : Bool). get_or (cond b (y ∷ []) [] ++ pick p xs ys) 0 d) passes
picked {X} {Y} p (x ∷ xs) (y ∷ ys) (suc s) c d same inside passes =
    ap (λ (n : ℕ). get_or (cond (p x) (y ∷ []) [] ++ pick p xs ys) n d) (count_cons p x (take s xs))
    ∙ (skip (p x) y (pick p xs ys) (count_by p (take s xs)) d ∙ picked p xs ys s c d (omega arith) (omega arith) passes)

-- how many are picked, by the first
one_length : {Y : Type 0} (here : Bool) (y : Y) (rest : List Y) → length (cond here (y ∷ []) [] ++ rest) ≡ cond here 1 0 + length rest
one_length true y rest = omega arith
one_length false y rest = omega arith

-- as many are picked as pass
pub length_pick : {X Y : Type 0} (p : X → Bool) (xs : List X) (ys : List Y) → length ys ≡ length xs → length (pick p xs ys) ≡ count_by p xs
length_pick p [] ys same = refl
length_pick p (x ∷ xs) [] same = absurd (omega arith)
length_pick p (x ∷ xs) (y ∷ ys) same =
    one_length (p x) y (pick p xs ys) ∙ (ap (λ (n : ℕ). cond (p x) 1 0 + n) (length_pick p xs ys (omega arith)) ∙ sym (count_cons p x xs))

-- from two lists each
pub pick_append : {X Y : Type 0} (p : X → Bool) (xs later : List X) (ys others : List Y) → length ys ≡ length xs → pick p (xs ++ later) (ys ++ others) ≡ pick p xs ys ++ pick p later others
pick_append p [] later [] others same = refl
pick_append p [] later (y ∷ ys) others same = absurd (omega arith)
pick_append p (x ∷ xs) later [] others same = absurd (omega arith)
pick_append {X} {Y} p (x ∷ xs) later (y ∷ ys) others same =
    ap (λ (l : List Y). cond (p x) (y ∷ []) [] ++ l) (pick_append p xs later ys others (omega arith)) ∙ sym (append_assoc (cond (p x) (y ∷ []) []) (pick p xs ys) (pick p later others))

-- ---- the slots of all tunnels, in the order of their numbers

-- the two slots of each tunnel, which are counted from a number on
abbrev pub all_slots : ℕ → List TunnelPlace → List SlotSetup
all_slots count [] = []
all_slots count (tunnel ∷ tunnels) =
    record { origin = 2 * count; medium = tunnel.medium; initiator = true; address = None } ∷ record { origin = 2 * count + 1; medium = tunnel.medium; initiator = false; address = None } ∷ all_slots (count + 1) tunnels

-- two for each tunnel
pub length_all : (count : ℕ) (tunnels : List TunnelPlace) → length (all_slots count tunnels) ≡ 2 * length tunnels
length_all count [] = refl
length_all count (tunnel ∷ tunnels) = omega (arith, length_all (count + 1) tunnels)

-- some tunnels, and others
all_append : (count : ℕ) (first later : List TunnelPlace) → all_slots count (first ++ later) ≡ all_slots count first ++ all_slots (count + length first) later
all_append count [] later = ap (λ (n : ℕ). all_slots n later) (omega arith)
all_append count (tunnel ∷ first) later =
    let next : count + 1 + length first ≡ count + suc (length first) = omega arith in
    ap (λ (l : List SlotSetup). record { origin = 2 * count; medium = tunnel.medium; initiator = true; address = None } ∷ record { origin = 2 * count + 1; medium = tunnel.medium; initiator = false; address = None } ∷ l)
    (all_append (count + 1) first later ∙ ap (λ (n : ℕ). all_slots (count + 1) first ++ all_slots n later) next)

-- the slot of a number: its origin, its medium and its side
pub record SlotIs (setup : SlotSetup) (origin : ℕ) (tunnel : TunnelPlace) (s : ℕ) : Type 0 where
  pub origin_is : setup.origin ≡ origin
  pub medium_is : setup.medium ≡ tunnel.medium
  pub side_is : setup.initiator ≡ (s % 2 == 0)

-- it is that of its tunnel and its side
pub slot_is : (tunnels : List TunnelPlace) (count s : ℕ) (d : SlotSetup) → s < 2 * length tunnels → SlotIs (get_or (all_slots count tunnels) s d) (2 * count + s) (get_or tunnels (s / 2) no_tunnel) s
slot_is [] count s d inside = absurd (omega arith)
slot_is (tunnel ∷ tunnels) count zero d inside = record { origin_is = omega arith; medium_is = refl; side_is = refl }
slot_is (tunnel ∷ tunnels) count (suc zero) d inside = record { origin_is = omega arith; medium_is = refl; side_is = refl }
slot_is (tunnel ∷ tunnels) count (suc (suc s)) d inside =
    let rest : SlotIs (get_or (all_slots (count + 1) tunnels) s d) (2 * (count + 1) + s) (get_or tunnels (s / 2) no_tunnel) s = slot_is tunnels (count + 1) s d (omega arith) in
    let half : suc (s / 2) ≡ suc (suc s) / 2 = omega arith in
    let side : s % 2 ≡ suc (suc s) % 2 = omega arith in
    record {
      origin_is = omega (arith, rest.origin_is);
      medium_is = rest.medium_is ∙ ap (λ (k : ℕ). (get_or (tunnel ∷ tunnels) k no_tunnel).medium) half;
      side_is = rest.side_is ∙ ap (λ (k : ℕ). k == 0) side;
    }

-- ---- those of a box are its setups

-- a channel numbers all of its tunnels
length_within : (tunnels : List Tunnel) (channel within : ℕ) → length (tunnels_within channel within tunnels) ≡ length tunnels
length_within [] channel within = refl
length_within (tunnel ∷ tunnels) channel within = ap suc (length_within tunnels channel (within + 1))

-- at the tunnels of one channel
within_picked : (who channel within count : ℕ) (ends : ChannelState) (tunnels : List Tunnel)
    → setups_within who count ends tunnels ≡ pick (is_of who) (flat_map (places_of ends) tunnels) (all_slots count (tunnels_within channel within tunnels))
within_picked who channel within count ends [] = refl
within_picked who channel within count ends (tunnel ∷ tunnels) =
    let near : List SlotSetup = cond (ends.from == who) (record { origin = 2 * count; medium = tunnel.medium; initiator = true; address = None } ∷ []) [] in
    let far : List SlotSetup = cond (ends.to == who) (record { origin = 2 * count + 1; medium = tunnel.medium; initiator = false; address = None } ∷ []) [] in
    ap (λ (l : List SlotSetup). near ++ far ++ l) (within_picked who channel (within + 1) (count + 1) ends tunnels)
    ∙ append_assoc near far (pick (is_of who) (flat_map (places_of ends) tunnels) (all_slots (count + 1) (tunnels_within channel (within + 1) tunnels)))

-- at all channels
from_picked : (who first count : ℕ) (channels : List ChannelState)
    → setups_from who count channels ≡ pick (is_of who) (places_among channels) (all_slots count (tunnels_from first channels))
from_picked who first count [] = refl
from_picked who first count (ends ∷ channels) =
    let here : List TunnelPlace = tunnels_within first 0 ends.tunnels in
    let there : List TunnelPlace = tunnels_from (first + 1) channels in
    let long : length (tunnels_within first 0 ends.tunnels) ≡ length ends.tunnels = length_within ends.tunnels first 0 in
    let even : length (all_slots count (tunnels_within first 0 ends.tunnels)) ≡ length (places_within ends) = omega (arith, length_all count here, within_slots ends ends.tunnels) in
    ap (λ (l : List SlotSetup). l ++ setups_from who (count + length ends.tunnels) channels) (within_picked who first 0 count ends ends.tunnels)
    ∙ (ap (λ (l : List SlotSetup). pick (is_of who) (places_within ends) (all_slots count here) ++ l) (from_picked who (first + 1) (count + length ends.tunnels) channels)
    ∙ (ap (λ (n : ℕ). pick (is_of who) (places_within ends) (all_slots count here) ++ pick (is_of who) (places_among channels) (all_slots (count + n) there)) (sym long)
    ∙ (sym (pick_append (is_of who) (places_within ends) (places_among channels) (all_slots count here) (all_slots (count + length here) there) even)
    ∙ ap (λ (l : List SlotSetup). pick (is_of who) (places_within ends ++ places_among channels) l) (sym (all_append count here there)))))

-- there is a slot for each place
long_enough : (channels : List ChannelState) → length (all_slots 0 (tunnels_from 0 channels)) ≡ length (places_among channels)
long_enough channels = omega (arith, length_all 0 (tunnels_from 0 channels), two_each channels 0)

-- a box has a setup for each of its slots
pub length_setups : (channels : List ChannelState) (who : ℕ) → length (setups_of channels who) ≡ count_by (is_of who) (places_among channels)
length_setups channels who =
    ap (λ (l : List SlotSetup). length l) (from_picked who 0 0 channels) ∙ length_pick (is_of who) (places_among channels) (all_slots 0 (tunnels_from 0 channels)) (long_enough channels)

-- the setup of a slot is that of its number
pub setup_of_slot : (channels : List ChannelState) (who s : ℕ) (d : SlotSetup) → s < length (places_among channels) → is_of who (place_at (places_among channels) s) ≡ true
    → SlotIs (get_or (setups_of channels who) (count_by (is_of who) (take s (places_among channels))) d) s (get_or (tunnels_from 0 channels) (s / 2) no_tunnel) s
setup_of_slot channels who s d inside of_box =
    let tunnels : List TunnelPlace = tunnels_from 0 channels in
    let local : ℕ = count_by (is_of who) (take s (places_among channels)) in
    let found : get_or (setups_of channels who) local d ≡ get_or (all_slots 0 tunnels) s d =
    ap (λ (l : List SlotSetup). get_or l local d) (from_picked who 0 0 channels) ∙ picked (is_of who) (places_among channels) (all_slots 0 tunnels) s (0, 0) d (long_enough channels) inside of_box in
    let zero_is : 2 * 0 + s ≡ s = omega arith in
    subst (λ (setup : SlotSetup). SlotIs setup s (get_or tunnels (s / 2) no_tunnel) s) (sym found)
    (subst (λ (n : ℕ). SlotIs (get_or (all_slots 0 tunnels) s d) n (get_or tunnels (s / 2) no_tunnel) s) zero_is (slot_is tunnels 0 s d (omega (arith, two_each channels 0))))
