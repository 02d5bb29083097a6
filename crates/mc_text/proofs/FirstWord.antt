-- The first word of a line, and the others, for any test of what is a space.
use Rattle.std.proofs.Common.{◌≡◌, ℕ, suc, ◌+◌, ◌-◌, ◌<◌, ◌≤◌, Bool, true, false, not, List, [], ◌∷◌, length, take, drop, filter, Some, None, refl, sym, ◌∙◌, arith, position, slice_range, inl, inr}
use Rattle.std.proofs.lemmas.Grind.{common_steps}
use Rattle.std.specs.List.{slice_split, position_or_len}
use Rattle.std.proofs.lemmas.Bool.{cases_lt}
use Rattle.mc_text.specs.Lines.{has_bytes}
use Rattle.mc_text.proofs.Cuts.{cut, one_suc}

module _ (p : ℕ → Bool) where
  abbrev pub pieces : List ℕ → List (List ℕ)
  pieces line = filter has_bytes (slice_split p line)

  -- how many spaces stand in front
  abbrev pub spaces : List ℕ → ℕ
  spaces line = position_or_len (λ byte. not (p byte)) line

  -- how long the first word is, if the line begins with one
  abbrev pub first_len : List ℕ → ℕ
  first_len line = position_or_len p line

  pieces-cons : (byte : ℕ) (line : List ℕ) (space : Bool) → p byte ≡ space → pieces (drop (spaces line) line) ≡ pieces line → pieces (drop (spaces (byte ∷ line)) (byte ∷ line)) ≡ pieces (byte ∷ line)
  pieces-cons byte line true e others = rw (e, one_suc) others
  pieces-cons byte line false e others = rw e (rw e refl)

  -- spaces in front make no word
  pub pieces-spaces : (line : List ℕ) → pieces (drop (spaces line) line) ≡ pieces line
  pieces-spaces [] = refl
  pieces-spaces (byte ∷ line) = pieces-cons byte line (p byte) refl (pieces-spaces line)

  -- a line that begins with no space begins with its first word
  pub pieces-first : (line : List ℕ) → 0 < first_len line → pieces line ≡ take (first_len line) line ∷ pieces (drop (first_len line) line)
  pieces-first line some =
      elim (cases_lt (first_len line) (length line)) [
        | inl lt ↦
            let has : has_bytes (take (first_len line) line) ≡ true = grind (arith, common_steps) in
            rw ((cut p line).more lt, (cut p line).stop lt, has) refl
        | inr le ↦
            let gone : drop (first_len line) line ≡ [] = grind (arith, common_steps) in
            let whole : take (first_len line) line ≡ line = grind (arith, common_steps) in
            let has : has_bytes line ≡ true = grind (arith, common_steps) in
            rw ((cut p line).last le, gone, whole, has) refl
      ]

  -- where each byte is a space there is no word
  pub no_pieces : (line : List ℕ) → position (λ byte. not (p byte)) line ≡ None → pieces line ≡ []
  no_pieces line none = sym (pieces-spaces line) ∙ (let past : length line ≤ spaces line = grind arith in let gone : drop (spaces line) line ≡ [] = grind (arith, common_steps) in rw gone refl)

  stops-cons : (byte : ℕ) (line : List ℕ) (space : Bool) → p byte ≡ space → (spaces line < length line → 0 < first_len (drop (spaces line) line)) → spaces (byte ∷ line) < length (byte ∷ line) → 0 < first_len (drop (spaces (byte ∷ line)) (byte ∷ line))
  stops-cons byte line true e others some = rw (e, one_suc) (others (let here : 1 + spaces line < suc (length line) = (rw e at some) in omega arith))
  stops-cons byte line false e others some = rw e (rw e (omega arith))

  -- what stands after the spaces in front is no space
  pub stops : (line : List ℕ) → spaces line < length line → 0 < first_len (drop (spaces line) line)
  stops [] some = absurd (omega arith)
  stops (byte ∷ line) some = stops-cons byte line (p byte) refl (stops line) some

  -- the first word begins at the first byte that is no space
  pub first_piece : (line : List ℕ) (start : ℕ) → position (λ byte. not (p byte)) line ≡ Some start → (0 < first_len (drop start line)) × (pieces line ≡ take (first_len (drop start line)) (drop start line) ∷ pieces (drop (first_len (drop start line)) (drop start line)))
  first_piece line start found =
      let is : start ≡ spaces line = grind arith in
      let before_end : spaces line < length line = grind arith in
      let here : 0 < first_len (drop start line) = rw is (stops line before_end) in
      (here, sym (pieces-spaces line) ∙ rw (← is) (pieces-first (drop start line) here))

  -- the same, of a length that is known
  pub cut_word : (line : List ℕ) (start len : ℕ) → position (λ byte. not (p byte)) line ≡ Some start → len ≡ first_len (drop start line) → pieces line ≡ take len (drop start line) ∷ pieces (drop len (drop start line))
  cut_word line start len found is = rw is (first_piece line start found).1

-- the first word after `from` stands from `start` to `end`
pub record IsFirstWord (p : ℕ → Bool) (line : List ℕ) (from start end : ℕ) : Type 0 where
  pub some : start < end
  pub within : end ≤ length line
  pub next : pieces p (drop from line) ≡ slice_range line start end ∷ pieces p (drop end line)

-- places in what stands after `from` are places in the line
pub found_at : (p : ℕ → Bool) (line : List ℕ) (from start len : ℕ) → from ≤ length line → position (λ byte. not (p byte)) (drop from line) ≡ Some start → len ≡ first_len p (drop start (drop from line)) → len ≤ length (drop start (drop from line)) → IsFirstWord p line from (from + start) (from + start + len)
found_at p line from start len inside found is short =
    let f = first_piece p (drop from line) start found in
    let joined : drop start (drop from line) ≡ drop (from + start) line = grind (arith, common_steps) in
    let after : drop len (drop start (drop from line)) ≡ drop (from + start + len) line = grind (arith, common_steps) in
    let span : from + start + len - (from + start) ≡ len = omega arith in
    let some : 0 < len = rw is f.0 in
    record {
      some = omega arith;
      within = grind (arith, common_steps);
      next = f.1 ∙ rw (← is, after, joined, span) refl;
    }
