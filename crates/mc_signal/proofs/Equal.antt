-- The derived == on lists of codecs, descriptors and selectors is equality.
use Rattle.std.proofs.Common.{◌≡◌, ◌<◌, ◌≤◌, ◌⊎◌, ℕ, Option, Some, None, true, List, length, slice_index, ap, sym, ◌∙◌, subst, inl, inr, arith}
use Rattle.std.proofs.lemmas.List.{ext_get_or, get_or-take, length-take-le}
use Rattle.std.proofs.lemmas.Bool.{cases_lt}
use Rattle.std.proofs.Props.{props}
use Rattle.std.proofs.lemmas.Grind.{common_steps}
use Rattle.std.specs.Cmp.Lexicographic.{same_text}
use Rattle.std.specs.Option.{option_eq}
use Rattle.mc_signal.specs.Codecs.{AreCodecs, AreDistinct, HasPlaces, IsBlankFrom}
use Rattle.mc_signal.specs.Choice.{codecs_of}
use Rattle.mc_signal.specs.Equality.{CodecsTellList, DescriptorEquality, SelectorEquality}
use Rattle.mc_signal.specs.Same.{is_same_descriptor, is_same_selector}
use Rattle.mc_signal.specs.contracts.DescriptorEq.TheImpl.Laws as descriptor_laws
use Rattle.mc_signal.specs.declared.codec_list.CodecList.{CodecList}
use Rattle.mc_signal.specs.declared.Descriptor.{Descriptor}
use Rattle.mc_signal.specs.declared.Selector.{Selector}

-- what a list of codecs keeps
abbrev Facts : ℕ → List ℕ → Type 0
Facts len at = HasPlaces at × (len ≤ 8) × AreCodecs len at × AreDistinct len at × IsBlankFrom len at

-- these facts have one proof at most
facts_prop : (len : ℕ) (at : List ℕ) → IsProp (Facts len at)
facts_prop len at = hlevel props

abbrev with_facts : (len : ℕ) (at : List ℕ) → Facts len at → CodecList
with_facts len at facts = record { len = len; at = at; places = facts.0; short = facts.1; known = facts.2; distinct = facts.3; blank = facts.4 }

-- so equal fields make equal lists
with_facts_same : (len : ℕ) (at : List ℕ) (other_len : ℕ) (other_at : List ℕ) → len ≡ other_len → at ≡ other_at
    → (f : Facts len at) (g : Facts other_len other_at) → with_facts len at f ≡ with_facts other_len other_at g
with_facts_same len at other_len other_at same_len same_at f =
    subst (λ (n : ℕ). (g : Facts n other_at) → with_facts len at f ≡ with_facts n other_at g) same_len
    (subst (λ (xs : List ℕ). (g : Facts len xs) → with_facts len at f ≡ with_facts len xs g) same_at
    (λ g. ap (with_facts len at) (facts_prop len at f g)))

-- two lists of codecs with equal fields are equal
pub codec_list_same : (a b : CodecList) → a.len ≡ b.len → a.at ≡ b.at → a ≡ b
codec_list_same a b same_len same_at =
    with_facts_same a.len a.at b.len b.at same_len same_at (a.places, a.short, a.known, a.distinct, a.blank) (b.places, b.short, b.known, b.distinct, b.blank)

-- lists with the same codecs have as many of them
same_length : (a b : CodecList) → codecs_of a ≡ codecs_of b → a.len ≡ b.len
same_length a b same =
    let left : length (codecs_of a) ≡ a.len = length-take-le a.len a.at (subst (λ (n : ℕ). a.len ≤ n) (sym a.places) a.short) in
    let right : length (codecs_of b) ≡ b.len = length-take-le b.len b.at (subst (λ (n : ℕ). b.len ≤ n) (sym b.places) b.short) in
    sym left ∙ ap length same ∙ right

-- a place in use has a codec, and any other 0
place_told : (a b : CodecList) → codecs_of a ≡ codecs_of b → a.len ≡ b.len → (k : ℕ) → (k < a.len) ⊎ (a.len ≤ k) → slice_index a.at k ≡ slice_index b.at k
place_told a b same same_len k (inl below) =
    sym (get_or-take a.len a.at k 0 below) ∙ ap (λ (xs : List ℕ). slice_index xs k) same ∙ get_or-take b.len b.at k 0 (subst (λ (n : ℕ). k < n) same_len below)
place_told a b same same_len k (inr above) = a.blank k above ∙ sym (b.blank k (subst (λ (n : ℕ). n ≤ k) same_len above))

-- so lists with the same codecs are equal
pub codecs_tell_list : CodecsTellList
codecs_tell_list a b same =
    let same_len : a.len ≡ b.len = same_length a b same in
    codec_list_same a b same_len (ext_get_or 0 a.at b.at (a.places ∙ sym b.places) (λ k within. place_told a b same same_len k (cases_lt k a.len)))

-- descriptors that == calls the same are equal
pub descriptor_eq : (d e : Descriptor) → is_same_descriptor d e ≡ true → d ≡ e
descriptor_eq d e same =
    let origin : d.origin ≡ e.origin = grind (arith, common_steps) in
    let version : d.version ≡ e.version = grind (arith, common_steps) in
    let addr : d.addr ≡ e.addr = grind (arith, common_steps) in
    let port : d.port ≡ e.port = grind (arith, common_steps) in
    let codecs : d.codecs ≡ e.codecs = codec_list_same d.codecs e.codecs (grind (arith, common_steps)) (grind (arith, common_steps, same_text)) in
    let fields : (d.origin, d.version, d.addr, d.port, d.codecs) ≡ (e.origin, e.version, e.addr, e.port, e.codecs) = cc in
    ap (λ (t : ℕ × ℕ × ℕ × ℕ × CodecList). record { origin = t.0; version = t.1; addr = t.2; port = t.3; codecs = t.4 }) fields

-- selectors that == calls the same are equal
pub selector_eq : (s t : Selector) → is_same_selector s t ≡ true → s ≡ t
selector_eq s t same =
    let origin : s.origin ≡ t.origin = grind (arith, common_steps) in
    let version : s.version ≡ t.version = grind (arith, common_steps) in
    let addr : s.addr ≡ t.addr = grind (arith, common_steps) in
    let port : s.port ≡ t.port = grind (arith, common_steps) in
    let codec : s.codec ≡ t.codec = grind (arith, common_steps) in
    let fields : (s.origin, s.version, s.addr, s.port, s.codec) ≡ (t.origin, t.version, t.addr, t.port, t.codec) = cc in
    ap (λ (u : ℕ × ℕ × ℕ × ℕ × Option ℕ). record { origin = u.0; version = u.1; addr = u.2; port = u.3; codec = u.4 }) fields

-- each descriptor is the same as itself
pub descriptor_refl : (d : Descriptor) → is_same_descriptor d d ≡ true
descriptor_refl d = (descriptor_laws.laws-law).refl d

-- each selector is the same as itself
pub selector_refl : (s : Selector) → is_same_selector s s ≡ true
selector_refl s = grind (arith, common_steps)

-- an optional descriptor that == calls the same as one that is there is that one
pub option_descriptor_eq : (o : Option Descriptor) (d : Descriptor) → option_eq is_same_descriptor o (Some d) ≡ true → o ≡ Some d
option_descriptor_eq None d same = absurd (cc)
option_descriptor_eq (Some e) d same = ap (λ (x : Descriptor). Some x) (descriptor_eq e d same)

-- an optional selector that == calls the same as one that is there is that one
pub option_selector_eq : (o : Option Selector) (s : Selector) → option_eq is_same_selector o (Some s) ≡ true → o ≡ Some s
option_selector_eq None s same = absurd (cc)
option_selector_eq (Some t) s same = ap (λ (x : Selector). Some x) (selector_eq t s same)

pub descriptor_equality : DescriptorEquality
descriptor_equality a b = (descriptor_eq a b, λ same. subst (λ (x : Descriptor). is_same_descriptor a x ≡ true) same (descriptor_refl a))

pub selector_equality : SelectorEquality
selector_equality a b = (selector_eq a b, λ same. subst (λ (x : Selector). is_same_selector a x ≡ true) same (selector_refl a))
