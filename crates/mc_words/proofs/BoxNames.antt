-- Names of boxes with the same bytes are one and the same.
use Rattle.std.proofs.Common.{◌≡◌, ◌<◌, ◌≤◌, ◌⊎◌, ℕ, List, length, slice_index, ap, sym, ◌∙◌, subst, inl, inr}
use Rattle.std.proofs.Props.{props}
use Rattle.std.proofs.lemmas.List.{ext_get_or, get_or-take, length-take-le}
use Rattle.std.proofs.lemmas.Bool.{cases_lt}
use Rattle.mc_text.specs.declared.limit.TheConstants.{NAME_LIMIT}
use Rattle.mc_words.specs.BoxNames.{HasPlaces, IsBlankFrom}
use Rattle.mc_words.specs.Commands.{bytes_of}
use Rattle.mc_words.specs.declared.box_name.BoxName.{BoxName}

-- what a name keeps
abbrev Facts : ℕ → List ℕ → Type 0
Facts len at = HasPlaces at × (len ≤ NAME_LIMIT) × IsBlankFrom len at

-- these facts have one proof at most
facts_prop : (len : ℕ) (at : List ℕ) → IsProp (Facts len at)
facts_prop len at = hlevel props

abbrev with_facts : (len : ℕ) (at : List ℕ) → Facts len at → BoxName
with_facts len at facts = record { len = len; at = at; places = facts.0; short = facts.1; blank = facts.2 }

-- so equal fields make equal names
with_facts_same : (len : ℕ) (at : List ℕ) (other_len : ℕ) (other_at : List ℕ) → len ≡ other_len → at ≡ other_at
    → (f : Facts len at) (g : Facts other_len other_at) → with_facts len at f ≡ with_facts other_len other_at g
with_facts_same len at other_len other_at same_len same_at f =
    subst (λ (n : ℕ). (g : Facts n other_at) → with_facts len at f ≡ with_facts n other_at g) same_len
    (subst (λ (xs : List ℕ). (g : Facts len xs) → with_facts len at f ≡ with_facts len xs g) same_at
    (λ g. ap (with_facts len at) (facts_prop len at f g)))

same_length : (a b : BoxName) → bytes_of a ≡ bytes_of b → a.len ≡ b.len
same_length a b same =
    let left : length (bytes_of a) ≡ a.len = length-take-le a.len a.at (subst (λ (n : ℕ). a.len ≤ n) (sym a.places) a.short) in
    let right : length (bytes_of b) ≡ b.len = length-take-le b.len b.at (subst (λ (n : ℕ). b.len ≤ n) (sym b.places) b.short) in
    sym left ∙ ap length same ∙ right

-- a place in use has a byte, and any other 0
place_told : (a b : BoxName) → bytes_of a ≡ bytes_of b → a.len ≡ b.len → (k : ℕ) → (k < a.len) ⊎ (a.len ≤ k) → slice_index a.at k ≡ slice_index b.at k
place_told a b same same_len k (inl below) =
    sym (get_or-take a.len a.at k 0 below) ∙ ap (λ (xs : List ℕ). slice_index xs k) same ∙ get_or-take b.len b.at k 0 (subst (λ (n : ℕ). k < n) same_len below)
place_told a b same same_len k (inr above) = a.blank k above ∙ sym (b.blank k (subst (λ (n : ℕ). n ≤ k) same_len above))

pub bytes_tell_name : (a b : BoxName) → bytes_of a ≡ bytes_of b → a ≡ b
bytes_tell_name a b same =
    let same_len : a.len ≡ b.len = same_length a b same in
    with_facts_same a.len a.at b.len b.at same_len (ext_get_or 0 a.at b.at (a.places ∙ sym b.places) (λ k within. place_told a b same same_len k (cases_lt k a.len))) (a.places, a.short, a.blank) (b.places, b.short, b.blank)
