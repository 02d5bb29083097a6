-- The pairs that are listed are all pairs of legs of which the one party hears the other, in their order.
use Rattle.std.proofs.Common.{◌≡◌, ◌<◌, ◌++◌, ◌==◌, ◌&&◌, inl, inr, ℕ, Bool, true, false, not, is_some, if◌then◌else◌, List, [], ◌∷◌, Option, Some, None, map, refl, ap, ap₂, sym, ◌∙◌, arith, subst}
use Rattle.std.specs.List.{AllByRecursion, cons_option, filter_map, flat_map}
use Rattle.std.specs.Option.{option_map}
use Rattle.mc_signal.specs.declared.Medium.{Medium}
use Rattle.mc_signal.specs.declared.Medium.TheVariants.{Audio, Video}
use Rattle.mc_slot.specs.Moves.{is_same_medium}
use Rattle.mc_view.specs.declared.PathView.{PathView}
use Rattle.mc_conf.specs.Legs.{in_order, legs_in}
use Rattle.mc_conf.specs.Mixes.{first_codec, heard_codec, mix_of}
use Rattle.mc_conf.specs.Pairs.{Hears, IsBefore, IsMix, MixesAreAllPairs, Pair, Rise, shown}
use Rattle.mc_conf.specs.declared.mixing.Mix.{Mix}
use Rattle.mc_conf.specs.declared.party.Leg.{Leg}
use Rattle.mc_conf.proofs.LegLaws.{AreRising, apart_test, has_leg, in_ordered, leg_in, ordered_in, ordered_rise, test_apart}
use Rattle.mc_conf.proofs.Members.{IsIn, all_in, contained, each_in, given, gives, is_in, listed, lists}

-- ---- one pair

abbrev pair_of : Leg → Leg → Option Pair
pair_of hearer heard = option_map (λ codec. record { hearer = hearer; heard = heard; codec = codec }) (heard_codec hearer heard)

same_medium : (a b : Medium) → is_same_medium a b ≡ true → a ≡ b
same_medium Audio Audio is = refl
same_medium Video Video is = refl
same_medium Audio Video is = absurd (cc)
same_medium Video Audio is = absurd (cc)

medium_same : (a b : Medium) → a ≡ b → is_same_medium a b ≡ true
medium_same Audio Audio is = refl
medium_same Video Video is = refl
medium_same Audio Video is = absurd (cc)
medium_same Video Audio is = absurd (cc)

-- what is known where the test holds
record AreHeard (hearer heard : Leg) (codec : ℕ) : Type 0 where
  pub apart : (hearer.party.slot == heard.party.slot) ≡ false
  pub medium : is_same_medium hearer.medium heard.medium ≡ true
  pub sends : is_some (first_codec heard.party.sends) ≡ true
  pub codec_is : first_codec hearer.party.own.codecs ≡ Some codec

by_parts : (hearer heard : Leg) (codec : ℕ) (same medium sends : Bool) → (hearer.party.slot == heard.party.slot) ≡ same → is_same_medium hearer.medium heard.medium ≡ medium → is_some (first_codec heard.party.sends) ≡ sends
    → (if not same && medium && sends then first_codec hearer.party.own.codecs else None) ≡ Some codec → AreHeard hearer heard codec
by_parts hearer heard codec false true true one two three is = record { apart = one; medium = two; sends = three; codec_is = is }
by_parts hearer heard codec true medium sends one two three is = absurd (cc)
by_parts hearer heard codec false false sends one two three is = absurd (cc)
by_parts hearer heard codec false true false one two three is = absurd (cc)

heard_is : (hearer heard : Leg) (codec : ℕ) → heard_codec hearer heard ≡ Some codec → Hears (record { hearer = hearer; heard = heard; codec = codec })
heard_is hearer heard codec is =
    let parts : AreHeard hearer heard codec =
    by_parts hearer heard codec (hearer.party.slot == heard.party.slot) (is_same_medium hearer.medium heard.medium) (is_some (first_codec heard.party.sends)) refl refl refl is in
    record {
      apart = apart_test hearer.party.slot heard.party.slot parts.apart;
      medium = same_medium hearer.medium heard.medium parts.medium;
      codec = parts.codec_is;
      sends = parts.sends;
    }

is_heard : (pair : Pair) → Hears pair → heard_codec pair.hearer pair.heard ≡ Some pair.codec
is_heard pair it =
    rw (test_apart pair.hearer.party.slot pair.heard.party.slot it.apart, medium_same pair.hearer.medium pair.heard.medium it.medium, it.sends) it.codec

-- a pair that two legs give
record AreOf (hearer heard : Leg) (pair : Pair) : Type 0 where
  pub hearer_is : pair.hearer ≡ hearer
  pub heard_is : pair.heard ≡ heard
  pub hears : Hears pair

of_found : (hearer heard : Leg) (pair : Pair) (found : Option ℕ) → ((codec : ℕ) → found ≡ Some codec → Hears (record { hearer = hearer; heard = heard; codec = codec }))
    → option_map (λ codec. record { hearer = hearer; heard = heard; codec = codec }) found ≡ Some pair → AreOf hearer heard pair
of_found hearer heard pair None so is = absurd (cc)
of_found hearer heard pair (Some codec) so is =
    let made : Pair = record { hearer = hearer; heard = heard; codec = codec } in
    let same : made ≡ pair = cc in
    subst (AreOf hearer heard) same (record { hearer_is = refl; heard_is = refl; hears = so codec refl })

pair_is : (hearer heard : Leg) (pair : Pair) → pair_of hearer heard ≡ Some pair → AreOf hearer heard pair
pair_is hearer heard pair is = of_found hearer heard pair (heard_codec hearer heard) (heard_is hearer heard) is

is_pair : (pair : Pair) → Hears pair → pair_of pair.hearer pair.heard ≡ Some pair
is_pair pair it = ap (λ (found : Option ℕ). option_map (λ codec. record { hearer = pair.hearer; heard = pair.heard; codec = codec }) found) (is_heard pair it)

-- ---- all pairs

abbrev heard_by : List Leg → Leg → List Pair
heard_by legs hearer = filter_map (pair_of hearer) legs

abbrev pairs_of : List Leg → List Pair
pairs_of legs = flat_map (heard_by legs) legs

-- shown, they are the pairs of the definition

shown_of : (hearer heard : Leg) (found : Option ℕ) (rest : List Pair) (more : List Mix) → more ≡ map shown rest
    → cons_option (option_map (λ codec. record { hearer = (hearer.party.who, hearer.party.local); heard = (heard.party.who, heard.party.local); codec = codec }) found) more
    ≡ map shown (cons_option (option_map (λ codec. record { hearer = hearer; heard = heard; codec = codec }) found) rest)
shown_of hearer heard None rest more is = is
shown_of hearer heard (Some codec) rest more is = ap (λ (l : List Mix). record { hearer = (hearer.party.who, hearer.party.local); heard = (heard.party.who, heard.party.local); codec = codec } ∷ l) is

shown_heard : (hearer : Leg) (legs : List Leg) → filter_map (mix_of hearer) legs ≡ map shown (filter_map (pair_of hearer) legs)
shown_heard hearer [] = refl
shown_heard hearer (heard ∷ legs) = shown_of hearer heard (heard_codec hearer heard) (filter_map (pair_of hearer) legs) (filter_map (mix_of hearer) legs) (shown_heard hearer legs)

shown_joined : (one other : List Pair) → map shown (one ++ other) ≡ map shown one ++ map shown other
shown_joined [] other = refl
shown_joined (pair ∷ pairs) other = ap (λ (l : List Mix). shown pair ∷ l) (shown_joined pairs other)

shown_all : (legs hearers : List Leg) → flat_map (λ hearer. filter_map (mix_of hearer) legs) hearers ≡ map shown (flat_map (heard_by legs) hearers)
shown_all legs [] = refl
shown_all legs (hearer ∷ hearers) =
    ap₂ (λ (one other : List Mix). one ++ other) (shown_heard hearer legs) (shown_all legs hearers) ∙ sym (shown_joined (heard_by legs hearer) (flat_map (heard_by legs) hearers))

-- they are those of the relation

pairs_are : (views : List PathView) (who : ℕ) (pair : Pair) → IsIn pair (pairs_of (in_order (legs_in views who))) → IsMix views who pair
pairs_are views who pair in_it =
    let legs : List Leg = in_order (legs_in views who) in
    let by = listed (heard_by legs) legs pair in_it in
    let of = given (pair_of by.0) legs pair by.2 in
    let parts : AreOf by.0 of.0 pair = pair_is by.0 of.0 pair of.2 in
    record {
      hearer = has_leg views who pair.hearer (ordered_in pair.hearer (legs_in views who) (subst (λ (leg : Leg). IsIn leg legs) (sym parts.hearer_is) by.1));
      heard = has_leg views who pair.heard (ordered_in pair.heard (legs_in views who) (subst (λ (leg : Leg). IsIn leg legs) (sym parts.heard_is) of.1));
      hears = parts.hears;
    }

are_pairs : (views : List PathView) (who : ℕ) (pair : Pair) → IsMix views who pair → IsIn pair (pairs_of (in_order (legs_in views who)))
are_pairs views who pair it =
    let legs : List Leg = in_order (legs_in views who) in
    lists (heard_by legs) legs pair.hearer pair (in_ordered pair.hearer (legs_in views who) (leg_in views who pair.hearer it.hearer))
    (gives (pair_of pair.hearer) legs pair.heard pair (in_ordered pair.heard (legs_in views who) (leg_in views who pair.heard it.heard)) (is_pair pair it.hears))

-- ---- in their order

rise_kept : (hearer : Leg) (heard : Leg) (o : Option Pair) (pairs : List Pair) → ((pair : Pair) → o ≡ Some pair → AllByRecursion (IsBefore pair) pairs) → Rise pairs → Rise (cons_option o pairs)
rise_kept hearer heard None pairs before rise = rise
rise_kept hearer heard (Some pair) pairs before rise = (before pair refl, rise)

after_one : (hearer heard other : Leg) (one two : Pair) → heard.party.slot < other.party.slot → AreOf hearer heard one → AreOf hearer other two → IsBefore one two
after_one hearer heard other one two low first second =
    inr (
      ap (λ (leg : Leg). leg.party.slot) (first.hearer_is ∙ sym second.hearer_is),
      let a : one.heard.party.slot ≡ heard.party.slot = ap (λ (leg : Leg). leg.party.slot) first.heard_is in
          let b : two.heard.party.slot ≡ other.party.slot = ap (λ (leg : Leg). leg.party.slot) second.heard_is in
          omega (arith, a, b, low),
    )

rise_heard : (hearer : Leg) (legs : List Leg) → AreRising legs → Rise (filter_map (pair_of hearer) legs)
rise_heard hearer [] rise = tt
rise_heard hearer (heard ∷ legs) rise =
    rise_kept hearer heard (pair_of hearer heard) (filter_map (pair_of hearer) legs)
    (λ pair is.
    each_in (IsBefore pair) (filter_map (pair_of hearer) legs)
    (λ other in_it.
    let of = given (pair_of hearer) legs other in_it in
    after_one hearer heard of.0 pair other (all_in (λ (leg : Leg). heard.party.slot < leg.party.slot) legs of.0 rise.0 of.1) (pair_is hearer heard pair is) (pair_is hearer of.0 other of.2)))
    (rise_heard hearer legs rise.1)

all_joined : (P : Pair → Type 0) (one other : List Pair) → AllByRecursion P one → AllByRecursion P other → AllByRecursion P (one ++ other)
all_joined P [] other first second = second
all_joined P (pair ∷ pairs) other first second = (first.0, all_joined P pairs other first.1 second)

rise_joined : (one other : List Pair) → Rise one → Rise other → ((a : Pair) → IsIn a one → AllByRecursion (IsBefore a) other) → Rise (one ++ other)
rise_joined [] other first second before = second
rise_joined (pair ∷ pairs) other first second before =
    (all_joined (IsBefore pair) pairs other first.0 (before pair (inl refl)), rise_joined pairs other first.1 second (λ a in_it. before a (inr in_it)))

rise_all : (legs hearers : List Leg) → AreRising legs → AreRising hearers → Rise (flat_map (heard_by legs) hearers)
rise_all legs [] rise all = tt
rise_all legs (hearer ∷ hearers) rise all =
    rise_joined (heard_by legs hearer) (flat_map (heard_by legs) hearers) (rise_heard hearer legs rise) (rise_all legs hearers rise all.1)
    (λ a in_it.
    let of = given (pair_of hearer) legs a in_it in
    let first : AreOf hearer of.0 a = pair_is hearer of.0 a of.2 in
    each_in (IsBefore a) (flat_map (heard_by legs) hearers)
    (λ b there.
    let by = listed (heard_by legs) hearers b there in
    let other = given (pair_of by.0) legs b by.2 in
    let second : AreOf by.0 other.0 b = pair_is by.0 other.0 b other.2 in
    let low : hearer.party.slot < by.0.party.slot = all_in (λ (leg : Leg). hearer.party.slot < leg.party.slot) hearers by.0 all.0 by.1 in
    let one : a.hearer.party.slot ≡ hearer.party.slot = ap (λ (leg : Leg). leg.party.slot) first.hearer_is in
    let two : b.hearer.party.slot ≡ by.0.party.slot = ap (λ (leg : Leg). leg.party.slot) second.hearer_is in
    inl (omega (arith, low, one, two))))

pub all_pairs : MixesAreAllPairs
all_pairs views who apart =
    let legs : List Leg = in_order (legs_in views who) in
    record {
      pairs = pairs_of legs;
      found_is = shown_all legs legs;
      each = λ pair. ((λ there. pairs_are views who pair (is_in pair (pairs_of legs) there)), (λ it. contained pair (pairs_of legs) (are_pairs views who pair it)));
      rise = rise_all legs legs (ordered_rise (legs_in views who) apart) (ordered_rise (legs_in views who) apart);
    }
