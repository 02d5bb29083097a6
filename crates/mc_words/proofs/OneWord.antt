-- The words' command takes a word: what it holds after it, or that it refuses it.
use Rattle.std.proofs.Common.{◌≡◌, ◌∙◌, ◌⊎◌, inl, inr, ℕ, ◌+◌, ◌<◌, ◌≤◌, ◌&&◌, ◌||◌, ◌==◌, Bool, cond, true, false, not, suc, refl, sym, ap, ap₂, subst, List, [], ◌∷◌, ◌++◌, Option, Some, None, append-nil, bytes_eq, chars, codes, length, lt-ltb, min, nat_lt, take, slice_get, arith, eqb-true, true≢false}
use Rattle.std.specs.List.{before_first, list_any, position_or_len}
use Rattle.std.specs.Option.{option_map_or}
use Rattle.std.specs.Str.{IsUtf8, encode_utf8_all}
use Rattle.std.proofs.lemmas.Str.{chars-append, encodes-chars}
use Rattle.std.proofs.lemmas.Slice.Eq.{bytes_eq-Decides}
use Rattle.clap.specs.Lexer.{has_byte, usize_max}
use Rattle.clap.specs.Walk.{Held, Rule, Step, Text, Walk, after_step, Row, arg_by_index, bundle_met, count_of, idle, is_pending, pushed, settled, settled_rows, to_positional, value, walked, word_met}
use Rattle.clap.specs.Faults.{flags_fault, positional_fault, settle_fault, step_fault, turn_fault, word_fault}
use Rattle.clap.specs.Kinds.{Kinds, or_else}
use Rattle.clap.specs.declared.error.kind.ErrorKind.{ErrorKind}
use Rattle.clap.specs.declared.error.kind.ErrorKind.TheVariants.{TooManyValues, UnknownArgument}
use Rattle.mc_words.specs.Arguments.{begins_with_dash, is_dashes, is_journal_flag, is_other_flag}
use Rattle.mc_words.proofs.Given.{HasPlain, count_accepted, flag_counted, flagged, held, rules, shape, stands, word_rule}

-- tests that one side alone decides
and_false : (b : Bool) → (b && false) ≡ false
and_false true = refl
and_false false = refl

pub or_false : (b : Bool) → (b || false) ≡ b
or_false true = refl
or_false false = refl

pub or_true : (b : Bool) → (b || true) ≡ true
or_true true = refl
or_true false = refl

-- the word is a plain one, in front of `--` or after it
abbrev pub IsPlainAt : Bool → Text → Type 0
IsPlainAt is_trailing word = (rows : List Row) (pending : Option (Text × List Text)) (position : ℕ)
    → (word_met rules [] is_trailing idle position word (held rows pending) ≡ (held rows pending, value)) × (word_fault shape [] is_trailing idle word (held rows pending) ≡ [])

-- after `--` each word is
pub trailing_plain : (word : Text) → IsPlainAt true word
trailing_plain word rows pending position = (refl, refl)

-- the walk takes the word, and stands as these words and the flag ask
pub record Goes (plain : List Text) (journal : Bool) (position : ℕ) (is_trailing : Bool) (w : Walk) (word : Text) : Type 0 where
  pub calm : turn_fault shape [] w word ≡ []
  pub rows : List Row
  pub pending : Option (Text × List Text)
  pub next : walked rules [] w word ≡ stands rows pending position is_trailing
  pub has : HasPlain plain journal rows pending

-- a walk where no word waits for values
abbrev walk_of : Held → ℕ → Bool → Walk
walk_of h position is_trailing = record { held = h; waiting = idle; position = position; is_trailing = is_trailing; stopped = None }

-- the word is put among what is pending, for the next place
placed : (id : Text) (position : ℕ) (word : Text) (rows : List Row) (pending : Option (Text × List Text)) (is_trailing : Bool)
    → to_positional rules (Some (word_rule id position)) word (stands rows pending position is_trailing) (held rows pending)
    ≡ stands (settled_rows rules pending rows) (Some (id, word ∷ [])) (min (position + 1) usize_max) is_trailing
placed id position word rows pending is_trailing =
    ap₂ (λ (b t : Bool). walk_of (pushed id word (cond b (held rows pending) (settled rules (held rows pending)))) (min (position + 1) usize_max) t)
    (and_false (is_pending (word_rule id position) pending)) (or_false is_trailing)

-- a plain word is taken, where its place has an argument
pub word_goes : (id : Text) (position : ℕ) (plain : List Text) (journal : Bool) (word : Text) (rows : List Row) (pending : Option (Text × List Text)) (is_trailing : Bool)
    → arg_by_index rules position ≡ Some (word_rule id position) → IsPlainAt is_trailing word → settle_fault rules false (held rows pending) ≡ []
    → HasPlain plain journal (settled_rows rules pending rows) (Some (id, word ∷ []))
    → Goes plain journal (min (position + 1) usize_max) is_trailing (stands rows pending position is_trailing) word
unfolding walked
word_goes id position plain journal word rows pending is_trailing found is settles has =
    let met = is rows pending position in
    let turn : turn_fault shape [] (stands rows pending position is_trailing) word ≡ step_fault shape position (held rows pending) value =
    ap₂ (λ (k : Kinds) (m : Held × Step). or_else k (step_fault shape position m.0 m.1)) met.1 met.0 in
    let step : step_fault shape position (held rows pending) value ≡ positional_fault rules false (word_rule id position) (held rows pending) =
    ap (λ o. option_map_or (λ a. positional_fault rules false a (held rows pending)) o (UnknownArgument ∷ [])) found in
    let quiet : positional_fault rules false (word_rule id position) (held rows pending) ≡ [] =
    ap (λ (b : Bool). cond b [] (settle_fault rules false (held rows pending))) (and_false (is_pending (word_rule id position) pending)) ∙ settles in
    let goes : walked rules [] (stands rows pending position is_trailing) word ≡ to_positional rules (arg_by_index rules position) word (stands rows pending position is_trailing) (held rows pending) =
    ap (λ (m : Held × Step). after_step rules word (stands rows pending position is_trailing) m.0 m.1) met.0 in
    record {
      calm = turn ∙ step ∙ quiet;
      rows = settled_rows rules pending rows;
      pending = Some (id, word ∷ []);
      next = goes ∙ ap (λ (o : Option Rule). to_positional rules o word (stands rows pending position is_trailing) (held rows pending)) found
          ∙ placed id position word rows pending is_trailing;
      has = has;
    }

-- a fourth plain word is one too many
pub stray : (word : Text) (rows : List Row) (pending : Option (Text × List Text)) (is_trailing : Bool) → IsPlainAt is_trailing word
    → turn_fault shape [] (stands rows pending 4 is_trailing) word ≡ UnknownArgument ∷ []
stray word rows pending is_trailing is =
    let met = is rows pending 4 in
    ap₂ (λ (k : Kinds) (m : Held × Step). or_else k (step_fault shape 4 m.0 m.1)) met.1 met.0

-- `--` is dropped
pub dashes_go : (plain : List Text) (journal : Bool) (rows : List Row) (pending : Option (Text × List Text)) (position : ℕ) → HasPlain plain journal rows pending
    → Goes plain journal position true (stands rows pending position false) (codes "--")
unfolding walked
dashes_go plain journal rows pending position has = record { calm = refl; rows = rows; pending = pending; next = refl; has = has }

-- the flag is counted
pub flag_goes : (plain : List Text) (journal : Bool) (rows : List Row) (pending : Option (Text × List Text)) (position : ℕ) → HasPlain plain journal rows pending
    → Goes plain true position false (stands rows pending position false) (codes "--journal")
unfolding walked
flag_goes plain journal rows pending position has =
    let most : min (count_of (codes "journal") (settled_rows rules pending rows) + 1) 255 ≤ 255 = omega arith in
    record {
      calm = ap₂ (λ (k l : Kinds). or_else (or_else k l) []) has.settles (count_accepted _ most);
      rows = flagged (settled_rows rules pending rows);
      pending = None;
      next = refl;
      has = flag_counted plain journal (settled_rows rules pending rows) has.shown;
    }

-- ---- other words in front of `--`

-- the word is refused wherever it stands
abbrev pub IsRefused : Text → Type 0
IsRefused word = (rows : List Row) (pending : Option (Text × List Text)) → (kind : ErrorKind) × (word_fault shape [] false idle word (held rows pending) ≡ kind ∷ [])

-- where no byte passes a test, all stand in front of the first that does
all_before : (p : ℕ → Bool) (bytes : List ℕ) → list_any p bytes ≡ false → before_first p bytes ≡ bytes
all_before p [] none = refl
all_before p (x ∷ xs) none = go (all_before p xs) (p x) refl
  where
    go : (list_any p xs ≡ false → before_first p xs ≡ xs) → (b : Bool) → p x ≡ b → before_first p (x ∷ xs) ≡ x ∷ xs
    go more true e = absurd (true≢false (sym (ap (λ b. b || list_any p xs) e) ∙ none))
    go more false e =
        let rest : list_any p xs ≡ false = sym (ap (λ b. b || list_any p xs) e) ∙ none in
        let one : 1 + position_or_len p xs ≡ suc (position_or_len p xs) = omega arith in
        ap (λ b. take (cond (not b) (1 + position_or_len p xs) 0) (x ∷ xs)) e ∙ ap (λ n. take n (x ∷ xs)) one ∙ ap (λ (l : List ℕ). x ∷ l) (more rest)

-- `--` and more than that
long_refused : (first : ℕ) (others : Text) → is_journal_flag (45 ∷ 45 ∷ first ∷ others) ≡ false → IsRefused (45 ∷ 45 ∷ first ∷ others)
long_refused first others no_flag rows pending = go (bytes_eq (codes "journal") (before_first (λ x. x == 61) (first ∷ others))) refl (has_byte 61 (first ∷ others)) refl
  where
    go : (b : Bool) → bytes_eq (codes "journal") (before_first (λ x. x == 61) (first ∷ others)) ≡ b → (v : Bool) → has_byte 61 (first ∷ others) ≡ v
        → (kind : ErrorKind) × (word_fault shape [] false idle (45 ∷ 45 ∷ first ∷ others) (held rows pending) ≡ kind ∷ [])
    go false e v h = (UnknownArgument, rw e refl)
    go true e true h = (TooManyValues, rw (e, h) refl)
    go true e false h =
        let name : codes "journal" ≡ before_first (λ x. x == 61) (first ∷ others) = (bytes_eq-Decides (codes "journal") _).0 e in
        let whole : codes "journal" ≡ first ∷ others = name ∙ all_before (λ x. x == 61) (first ∷ others) h in
        let flag : codes "--journal" ≡ 45 ∷ 45 ∷ first ∷ others = ap (λ (t : Text). 45 ∷ 45 ∷ t) whole in
        let bad : true ≡ false = ap is_journal_flag flag ∙ no_flag in
        absurd (true≢false bad)

-- after `-`, bytes spell a letter
has_letter : (first : ℕ) (others : Text) → IsUtf8 (45 ∷ first ∷ others) → None ≡ slice_get (chars (first ∷ others)) 0 → ⊥
unfolding lib.Utf8.encode
has_letter first others utf8 none = by (chars (first ∷ others)) refl none
  where
    by : (letters : List ℕ) → chars (first ∷ others) ≡ letters → None ≡ slice_get letters 0 → ⊥
    by [] is none =
        let dash : IsUtf8 (45 ∷ []) = (45 ∷ [], (refl, refl)) in
        let alone : chars (45 ∷ first ∷ others) ≡ chars (45 ∷ []) = chars-append (45 ∷ []) (first ∷ others) dash ∙ ap (λ (l : List ℕ). chars (45 ∷ []) ++ l) is ∙ append-nil (chars (45 ∷ [])) in
        let bad : 45 ∷ first ∷ others ≡ 45 ∷ [] = sym (encodes-chars (45 ∷ first ∷ others) utf8) ∙ ap encode_utf8_all alone ∙ encodes-chars (45 ∷ []) dash in
        cc
    by (x ∷ xs) is none = let bad : ◌≡◌ {A = Option ℕ} None (Some x) = none in cc

-- so a word of `-` and more than that is refused
short_refused : (first : ℕ) (others : Text) → (first == 45) ≡ false → IsUtf8 (45 ∷ first ∷ others) → IsRefused (45 ∷ first ∷ others)
unfolding flags_fault bundle_met
short_refused first others other utf8 = go (slice_get (chars (first ∷ others)) 0) refl
  where
    go : (o : Option ℕ) → slice_get (chars (first ∷ others)) 0 ≡ o → IsRefused (45 ∷ first ∷ others)
    go None e = absurd (has_letter first others utf8 (sym e))
    go (Some x) e = λ rows pending. (UnknownArgument, rw (other, other, e) refl)

dashed_refused : (first : ℕ) (others : Text) → IsUtf8 (45 ∷ first ∷ others) → is_dashes (45 ∷ first ∷ others) ≡ false → is_journal_flag (45 ∷ first ∷ others) ≡ false → IsRefused (45 ∷ first ∷ others)
dashed_refused first others utf8 no_dashes no_flag = go (first == 45) refl
  where
    long : (zs : Text) → is_dashes (45 ∷ 45 ∷ zs) ≡ false → is_journal_flag (45 ∷ 45 ∷ zs) ≡ false → IsRefused (45 ∷ 45 ∷ zs)
    long [] d f = absurd (true≢false d)
    long (z ∷ zs) d f = long_refused z zs f

    go : (b : Bool) → (first == 45) ≡ b → IsRefused (45 ∷ first ∷ others)
    go false e = short_refused first others e utf8
    go true e =
        let is : 45 ≡ first = sym (eqb-true first 45 e) in
        subst (λ (n : ℕ). is_dashes (45 ∷ n ∷ others) ≡ false → is_journal_flag (45 ∷ n ∷ others) ≡ false → IsRefused (45 ∷ n ∷ others)) is (long others) no_dashes no_flag

-- a word that isn't the flag may be another
other_is : (word : Text) → is_journal_flag word ≡ false → is_other_flag word ≡ (begins_with_dash word && nat_lt 1 (length word))
other_is word no_flag = ap (λ (b : Bool). not b && (begins_with_dash word && nat_lt 1 (length word))) no_flag

dashed_other : (first : ℕ) (others : Text) → is_journal_flag (45 ∷ first ∷ others) ≡ false → is_other_flag (45 ∷ first ∷ others) ≡ true
dashed_other first others no_flag =
    let more : 1 < length (45 ∷ first ∷ others) = omega arith in
    other_is (45 ∷ first ∷ others) no_flag ∙ lt-ltb _ _ more

-- the word is plain, or another flag, and refused
abbrev pub HasForm : Text → Type 0
HasForm word = ((is_other_flag word ≡ false) × IsPlainAt false word) ⊎ ((is_other_flag word ≡ true) × IsRefused word)

-- each that isn't `--` nor the flag
pub word_form : (word : Text) → IsUtf8 word → is_dashes word ≡ false → is_journal_flag word ≡ false → HasForm word
word_form [] utf8 no_dashes no_flag = inl (other_is [] no_flag, λ rows pending position. (refl, refl))
word_form (x ∷ xs) utf8 no_dashes no_flag = go (x == 45) refl
  where
    dashed : (rest : Text) → IsUtf8 (45 ∷ rest) → is_dashes (45 ∷ rest) ≡ false → is_journal_flag (45 ∷ rest) ≡ false → HasForm (45 ∷ rest)
    dashed [] u d f = inl (other_is (45 ∷ []) f, λ rows pending position. (refl, refl))
    dashed (y ∷ ys) u d f = inr (dashed_other y ys f, dashed_refused y ys u d f)

    go : (b : Bool) → (x == 45) ≡ b → HasForm (x ∷ xs)
    go false e = inl (other_is (x ∷ xs) no_flag ∙ ap (λ (b : Bool). b && nat_lt 1 (length (x ∷ xs))) e, λ rows pending position. (rw (e, e) refl, rw (e, e) refl))
    go true e =
        let is : 45 ≡ x = sym (eqb-true x 45 e) in
        subst (λ (n : ℕ). IsUtf8 (n ∷ xs) → is_dashes (n ∷ xs) ≡ false → is_journal_flag (n ∷ xs) ≡ false → HasForm (n ∷ xs)) is (dashed xs) utf8 no_dashes no_flag
