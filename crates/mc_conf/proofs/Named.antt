-- Where the ends of all paths have names, so has each pair of parties.
use Rattle.std.proofs.Common.{◌≡◌, ◌<◌, ◌++◌, ℕ, Bool, subst, true, false, if◌then◌else◌, All, List, [], ◌∷◌, Option, Some, None, length, refl, slice_get}
use Rattle.std.specs.List.{AllByRecursion, cons_option, filter_map, flat_map}
use Rattle.std.specs.Option.{option_and_then, option_map}
use Rattle.std.proofs.lemmas.List.Elements.{All-from_recursion, All-head, recursion_from_All}
use Rattle.mc_signal.specs.Choice.{codecs_of}
use Rattle.mc_text.specs.NameLists.{NameLists}
use Rattle.mc_view.specs.declared.PathView.{PathView}
use Rattle.mc_conf.specs.Legs.{far_end, in_order, leg_of, leg_to, legs_in}
use Rattle.mc_conf.specs.Mixes.{first_codec, heard_codec, mix_of, mixes}
use Rattle.mc_conf.specs.Printed.{AreNamedEnds, IsNamedMix, IsNamedParty}
use Rattle.mc_conf.specs.declared.mixing.Mix.{Mix}
use Rattle.mc_conf.specs.declared.party.Leg.{Leg}
use Rattle.mc_conf.proofs.Sorting.{all_in_order}

-- ---- lists that are made of others

abbrev pub Gives : {X Y : Type 0} → (X → Type 0) → (Y → Type 0) → (X → Option Y) → Type 0
Gives {X} {Y} P Q f = (x : X) (y : Y) → P x → f x ≡ Some y → Q y

one_more : {Y : Type 0} (Q : Y → Type 0) (o : Option Y) (ys : List Y) → ((y : Y) → o ≡ Some y → Q y) → AllByRecursion Q ys → AllByRecursion Q (cons_option o ys)
one_more Q None ys one all = all
one_more Q (Some y) ys one all = (one y refl, all)

pub all_mapped : {X Y : Type 0} (P : X → Type 0) (Q : Y → Type 0) (f : X → Option Y) (xs : List X) → Gives P Q f → AllByRecursion P xs → AllByRecursion Q (filter_map f xs)
all_mapped P Q f [] gives all = tt
all_mapped P Q f (x ∷ xs) gives all = one_more Q (f x) (filter_map f xs) (λ y is. gives x y all.0 is) (all_mapped P Q f xs gives all.1)

all_joined : {X : Type 0} (Q : X → Type 0) (xs ys : List X) → AllByRecursion Q xs → AllByRecursion Q ys → AllByRecursion Q (xs ++ ys)
all_joined Q [] ys one two = two
all_joined Q (x ∷ xs) ys one two = (one.0, all_joined Q xs ys one.1 two)

all_flat : {X Y : Type 0} (P : X → Type 0) (Q : Y → Type 0) (f : X → List Y) (xs : List X) → ((x : X) → P x → AllByRecursion Q (f x)) → AllByRecursion P xs → AllByRecursion Q (flat_map f xs)
all_flat P Q f [] each all = tt
all_flat P Q f (x ∷ xs) each all = all_joined Q (f x) (flat_map f xs) (each x all.0) (all_flat P Q f xs each all.1)

-- ---- legs

abbrev IsNamedLeg : NameLists → Leg → Type 0
IsNamedLeg names leg = IsNamedParty names leg.party

leg_named : (names : NameLists) (device : Bool) (leg made : Leg) → IsNamedLeg names made → (if device then Some made else None) ≡ Some leg → IsNamedLeg names leg
leg_named names true leg made named is = let same : made ≡ leg = cc in subst (IsNamedLeg names) same named
leg_named names false leg made named is = absurd (cc)

end_named : (names : NameLists) (view : PathView) (leg : Leg) (low high : Bool) → AreNamedEnds names view → option_and_then (leg_to view.medium) (far_end low high view) ≡ Some leg → IsNamedLeg names leg
end_named names view leg true false named is = leg_named names view.high.device leg (record { party = view.high; medium = view.medium }) named.high is
end_named names view leg false true named is = leg_named names view.low.device leg (record { party = view.low; medium = view.medium }) named.low is
end_named names view leg true true named is = absurd (cc)
end_named names view leg false false named is = absurd (cc)

view_named : (names : NameLists) (view : PathView) (leg : Leg) (flowing low high : Bool) → AreNamedEnds names view
    → (if flowing then option_and_then (leg_to view.medium) (far_end low high view) else None) ≡ Some leg → IsNamedLeg names leg
view_named names view leg true low high named is = end_named names view leg low high named is
view_named names view leg false low high named is = absurd (cc)

-- ---- pairs

first_below : (n : ℕ) (codecs : List ℕ) (codec : ℕ) → All (λ c. c < n) codecs → slice_get codecs 0 ≡ Some codec → codec < n
first_below n [] codec all is = absurd (cc)
first_below n (first ∷ codecs) codec all is = let same : first ≡ codec = cc in subst (λ (c : ℕ). c < n) same (All-head (λ (c : ℕ). c < n) first codecs all)

kept : (test : Bool) (found : Option ℕ) (codec : ℕ) → (if test then found else None) ≡ Some codec → found ≡ Some codec
kept true found codec is = is
kept false found codec is = absurd (cc)

mix_named : (names : NameLists) (hearer heard : Leg) (mix : Mix) (found : Option ℕ) → IsNamedLeg names hearer → IsNamedLeg names heard → ((codec : ℕ) → found ≡ Some codec → codec < length names.codecs)
    → option_map (λ (codec : ℕ). record { hearer = (hearer.party.who, hearer.party.local); heard = (heard.party.who, heard.party.local); codec = codec }) found ≡ Some mix → IsNamedMix names mix
mix_named names hearer heard mix None one two below is = absurd (cc)
mix_named names hearer heard mix (Some codec) one two below is =
    let made : Mix = record { hearer = (hearer.party.who, hearer.party.local); heard = (heard.party.who, heard.party.local); codec = codec } in
    let same : made ≡ mix = cc in
    subst (IsNamedMix names) same (record {
      hearer_box = one.box;
      hearer_slot = one.slot;
      heard_box = two.box;
      heard_slot = two.slot;
      codec = below codec refl;
    })

pair_named : (names : NameLists) (hearer heard : Leg) (mix : Mix) → IsNamedLeg names hearer → IsNamedLeg names heard → mix_of hearer heard ≡ Some mix → IsNamedMix names mix
pair_named names hearer heard mix one two is =
    mix_named names hearer heard mix (heard_codec hearer heard) one two
    (λ codec found. first_below (length names.codecs) (codecs_of hearer.party.own.codecs) codec one.codecs (kept _ (first_codec hearer.party.own.codecs) codec found)) is

pub mixes_named : (names : NameLists) (views : List PathView) (who : ℕ) → All (AreNamedEnds names) views → All (IsNamedMix names) (mixes views who)
mixes_named names views who named =
    let legs : List Leg = in_order (legs_in views who) in
    let all : AllByRecursion (IsNamedLeg names) (in_order (legs_in views who)) =
    all_in_order (IsNamedLeg names) (legs_in views who)
    (all_mapped (AreNamedEnds names) (IsNamedLeg names) (leg_of who) views (λ view leg ends is. view_named names view leg _ _ _ ends is) (recursion_from_All (AreNamedEnds names) views named)) in
    All-from_recursion (IsNamedMix names) (mixes views who)
    (all_flat (IsNamedLeg names) (IsNamedMix names) (λ hearer. filter_map (mix_of hearer) legs) legs
    (λ hearer one. all_mapped (IsNamedLeg names) (IsNamedMix names) (mix_of hearer) legs (λ heard mix two is. pair_named names hearer heard mix one two is) all) all)
