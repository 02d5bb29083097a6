-- Bytes that are cut into pieces, at each byte that passes a test.
use Rattle.std.proofs.Common.{◌≡◌, ℕ, suc, ◌+◌, ◌-◌, ◌<◌, ◌≤◌, Bool, true, false, not, ltb, List, [], ◌∷◌, length, drop, refl, sym, ◌∙◌, arith, position, slice_range, inl, inr, Option, Some, None, get_or}
use Rattle.std.proofs.lemmas.Grind.{common_steps}
use Rattle.std.specs.List.{slice_split, onto_first, position_or_len, before_first, after_first}
use Rattle.std.specs.Option.{unwrap_or}
use Rattle.std.proofs.lemmas.List.Sums.{position_or_len_is, prefix_len-le-length}
use Rattle.std.proofs.lemmas.Bool.{cases_lt, false_from_ne_true}
use Rattle.memchr.specs.Find.{IsFirstByte}
use Rattle.mc_text.specs.Lines.{has_bytes, without_empty_last}

pub one_suc : (n : ℕ) → 1 + n ≡ suc n
one_suc n = omega arith

-- the first place that passes, or else the length, is how many bytes stand before it
pub position_or_end : (p : ℕ → Bool) (bytes : List ℕ) → unwrap_or (position p bytes) (length bytes) ≡ position_or_len p bytes
position_or_end p bytes = by (ltb (position_or_len p bytes) (length bytes)) refl
  where
    by : (b : Bool) → ltb (position_or_len p bytes) (length bytes) ≡ b → unwrap_or (position p bytes) (length bytes) ≡ position_or_len p bytes
    by true e = rw e refl
    by false e = rw e (let all : position_or_len p bytes ≤ length bytes = prefix_len-le-length (λ x. not (p x)) bytes in grind arith)

-- the first place that a search answers, or else the length, is how many bytes stand before it
pub first_or_end : (p : ℕ → Bool) (bytes : List ℕ) (found : Option ℕ) → IsFirstByte p bytes found → unwrap_or found (length bytes) ≡ position_or_len p bytes
first_or_end p bytes None is = sym (position_or_len_is p bytes (length bytes) 0 (omega arith) (λ k less. false_from_ne_true (p (get_or bytes k 0)) (is k (omega arith) less)) (λ past. absurd (omega arith)))
first_or_end p bytes (Some place) is = sym (position_or_len_is p bytes place 0 (let below = is.0.high in omega arith) (λ k less. false_from_ne_true (p (get_or bytes k 0)) (is.0.before k (omega arith) less)) (λ within. is.1))

module _ (p : ℕ → Bool) where
  -- the first piece, and the others
  pub record IsCut (bytes : List ℕ) : Type 0 where
    -- after a byte that passes there are further pieces
    pub more : position_or_len p bytes < length bytes → slice_split p bytes ≡ before_first p bytes ∷ slice_split p (after_first p bytes)
    -- what begins with that byte begins with an empty piece
    pub stop : position_or_len p bytes < length bytes → slice_split p (drop (position_or_len p bytes) bytes) ≡ [] ∷ slice_split p (after_first p bytes)
    -- where no byte passes, all is one piece
    pub last : length bytes ≤ position_or_len p bytes → slice_split p bytes ≡ bytes ∷ []

  cut-cons : (byte : ℕ) (bytes : List ℕ) (stops : Bool) → p byte ≡ stops → IsCut bytes → IsCut (byte ∷ bytes)
  cut-cons byte bytes true e pieces = record {
    more = λ lt. rw e refl;
    stop = λ lt. rw e (rw e refl);
    last = λ le. let none : suc (length bytes) ≤ 0 = (rw e at le) in absurd (omega arith);
  }
  cut-cons byte bytes false e pieces =
      let one_more : suc (position_or_len p bytes) + 1 ≡ suc (position_or_len p bytes + 1) = omega arith in
      record {
        more = λ lt. let inner : 1 + position_or_len p bytes < suc (length bytes) = (rw e at lt) in rw (e, pieces.more (omega arith), one_suc, one_more) refl;
        stop = λ lt. let inner : 1 + position_or_len p bytes < suc (length bytes) = (rw e at lt) in rw (e, one_suc, one_more) (pieces.stop (omega arith));
        last = λ le. let inner : suc (length bytes) ≤ 1 + position_or_len p bytes = (rw e at le) in rw (e, pieces.last (omega arith)) refl;
      }

  pub cut : (bytes : List ℕ) → IsCut bytes
  cut [] = record { more = λ lt. absurd (omega arith); stop = λ lt. absurd (omega arith); last = λ le. refl }
  cut (byte ∷ bytes) = cut-cons byte bytes (p byte) refl (cut bytes)

  some_pieces-onto : (byte : ℕ) (parts : List (List ℕ)) → (first : List ℕ) × (others : List (List ℕ)) × (onto_first byte parts ≡ first ∷ others)
  some_pieces-onto byte [] = (byte ∷ [], [], refl)
  some_pieces-onto byte (part ∷ parts) = (byte ∷ part, parts, refl)

  some_pieces-cons : (byte : ℕ) (bytes : List ℕ) (stops : Bool) → p byte ≡ stops → (first : List ℕ) × (others : List (List ℕ)) × (slice_split p (byte ∷ bytes) ≡ first ∷ others)
  some_pieces-cons byte bytes true e = ([], slice_split p bytes, rw e refl)
  some_pieces-cons byte bytes false e = let parts = some_pieces-onto byte (slice_split p bytes) in (parts.0, parts.1, rw e parts.2)

  -- there is always a piece
  pub some_pieces : (bytes : List ℕ) → (first : List ℕ) × (others : List (List ℕ)) × (slice_split p bytes ≡ first ∷ others)
  some_pieces [] = ([], [], refl)
  some_pieces (byte ∷ bytes) = some_pieces-cons byte bytes (p byte) refl

  -- a text that isn't empty has its first line, and those of what stands after that line's end
  pub first_line : (text : List ℕ) → 0 < length text → without_empty_last (slice_split p text) ≡ before_first p text ∷ without_empty_last (slice_split p (after_first p text))
  first_line text some =
      elim (cases_lt (position_or_len p text) (length text)) [
        | inl lt ↦ let rest = some_pieces (after_first p text) in rw ((cut text).more lt, rest.2) refl
        | inr le ↦
            let gone : after_first p text ≡ [] = grind (arith, common_steps) in
            let whole : before_first p text ≡ text = grind (arith, common_steps) in
            let has : has_bytes text ≡ true = grind arith in
            rw ((cut text).last le, gone, whole, has) refl
      ]

  -- the line that begins at a place, and those after its end
  pub line_from : (text : List ℕ) (from len : ℕ) → from < length text → len ≡ position_or_len p (drop from text)
      → without_empty_last (slice_split p (drop from text)) ≡ slice_range text from (from + len) ∷ without_empty_last (slice_split p (drop (from + len + 1) text))
  line_from text from len within is =
      let some : 0 < length (drop from text) = grind (arith, common_steps) in
      let behind : drop (len + 1) (drop from text) ≡ drop (from + len + 1) text = grind (arith, common_steps) in
      let span : from + len - from ≡ len = omega arith in
      first_line (drop from text) some ∙ rw (← is, behind, span) refl
