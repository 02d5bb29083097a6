-- The words' command takes words one by one: what it holds after each is what the words in front of it say.
use Rattle.std.proofs.Common.{◌≡◌, ◌∙◌, ◌⊎◌, inl, inr, ℕ, ◌+◌, ◌<◌, ◌≤◌, ◌&&◌, ◌||◌, Bool, cond, true, false, not, suc, refl, sym, ap, ap₂, subst, List, [], ◌∷◌, ◌++◌, Option, None, codes, drop, filter, fold, length, nat_lt, take, arith, append-nil, append_assoc, length-append}
use Rattle.std.specs.Prelude.{⊤}
use Rattle.std.specs.Str.{IsUtf8}
use Rattle.std.specs.List.{after_first, before_first, list_any, position_or_len}
use Rattle.std.proofs.lemmas.Slice.Eq.{bytes_eq-Decides}
use Rattle.clap.specs.Walk.{Text, Walk, Row, idle, settled_rows, walked, word_met}
use Rattle.clap.specs.Faults.{step_fault, turn_fault, walk_fault}
use Rattle.clap.specs.Kinds.{Kinds, or_else}
use Rattle.clap.specs.declared.error.kind.ErrorKind.{ErrorKind}
use Rattle.clap.specs.declared.error.kind.ErrorKind.TheVariants.{UnknownArgument}
use Rattle.mc_words.specs.Arguments.{begins_with_dash, has_journal_flag, is_dashes, is_journal_flag, is_other_flag, plain_words}
use Rattle.mc_words.proofs.Given.{HasPlain, first_word, held, no_words, rules, second_word, shape, stands, third_word}
use Rattle.mc_words.proofs.OneWord.{Goes, IsPlainAt, dashes_go, flag_goes, or_false, or_true, stray, trailing_plain, word_form, word_goes}

-- the walk stands where these words and the flag were met
pub record WalkedAll (plain : List Text) (journal : Bool) (w : Walk) : Type 0 where
  pub few : length plain ≤ 3
  pub rows : List Row
  pub pending : Option (Text × List Text)
  pub position : ℕ
  pub is_trailing : Bool
  pub stands : w ≡ stands rows pending position is_trailing
  pub has : HasPlain plain journal rows pending

-- the walk takes the words, among which is no other flag, or fails, and then there is one, or they are too many
abbrev pub Comes : (plain : List Text) → (journal other : Bool) → Kinds → Walk → Type 0
Comes plain journal other kinds w = ((kinds ≡ []) × (other ≡ false) × WalkedAll plain journal w) ⊎ ((kinds ≡ [] → ⊥) × ((3 < length plain) ⊎ (other ≡ true)))

-- the same of kinds and walks that are equal
comes_as : (plain : List Text) (journal other : Bool) (kinds more : Kinds) (w next : Walk) → kinds ≡ more → w ≡ next → Comes plain journal other more next → Comes plain journal other kinds w
comes_as plain journal other kinds more w next k v comes = subst (λ (x : Walk). Comes plain journal other kinds x) (sym v) (subst (λ (x : Kinds). Comes plain journal other x next) (sym k) comes)

-- and of words and flags that are
says : (plain all : List Text) (journal flag other more : Bool) (kinds : Kinds) (w : Walk) → all ≡ plain → flag ≡ journal → more ≡ other → Comes all flag more kinds w → Comes plain journal other kinds w
says plain all journal flag other more kinds w a f o comes =
    subst (λ (b : Bool). Comes plain journal b kinds w) o (subst (λ (b : Bool). Comes plain b more kinds w) f (subst (λ (l : List Text). Comes l flag more kinds w) a comes))

-- after a word that is taken come the others
comes_on : (all : List Text) (flag other : Bool) (plain : List Text) (journal : Bool) (position : ℕ) (is_trailing : Bool) (w : Walk) (word : Text) (rest : List Text)
    → (goes : Goes plain journal position is_trailing w word)
    → Comes all flag other (walk_fault shape [] (stands goes.rows goes.pending position is_trailing) rest) (fold (walked rules []) (stands goes.rows goes.pending position is_trailing) rest)
    → Comes all flag other (walk_fault shape [] w (word ∷ rest)) (fold (walked rules []) w (word ∷ rest))
unfolding walk_fault
comes_on all flag other plain journal position is_trailing w word rest goes comes =
    comes_as all flag other _ _ _ _ (ap₂ (λ (k : Kinds) (v : Walk). or_else k (walk_fault shape [] v rest)) goes.calm goes.next) (ap (λ (v : Walk). fold (walked rules []) v rest) goes.next) comes

-- what the first word fails by, the walk fails by
first_fails : (kind : ErrorKind) (k more : Kinds) → k ≡ kind ∷ [] → or_else k more ≡ [] → ⊥
first_fails kind k more is none = let bad : kind ∷ [] ≡ [] = ap (λ (x : Kinds). or_else x more) (sym is) ∙ none in cc

-- so words after one that is refused are refused
fails_on : (kind : ErrorKind) (w : Walk) (word : Text) (rest : List Text) → turn_fault shape [] w word ≡ kind ∷ [] → walk_fault shape [] w (word ∷ rest) ≡ [] → ⊥
unfolding walk_fault
fails_on kind w word rest is none = first_fails kind (turn_fault shape [] w word) _ is none

-- where a walk stands that met these words
abbrev place : List Text → ℕ
place [] = 1
place (a ∷ []) = 2
place (a ∷ b ∷ []) = 3
place (a ∷ b ∷ c ∷ d) = 4

-- the walk over words, from where these were met, comes to all
abbrev pub ComesFrom : (is_trailing : Bool) → (all : List Text) → (flag other : Bool) → (plain : List Text) → (journal : Bool) → (words : List Text) → Type 0
ComesFrom is_trailing all flag other plain journal words = (rows : List Row) (pending : Option (Text × List Text)) → HasPlain plain journal rows pending
    → Comes all flag other (walk_fault shape [] (stands rows pending (place plain) is_trailing) words) (fold (walked rules []) (stands rows pending (place plain) is_trailing) words)

-- at the end
comes_here : (is_trailing : Bool) (plain : List Text) (journal : Bool) → length plain ≤ 3 → ComesFrom is_trailing plain journal false plain journal []
unfolding walk_fault
comes_here is_trailing plain journal few rows pending has =
    inl (refl, refl, record { few = few; rows = rows; pending = pending; position = place plain; is_trailing = is_trailing; stands = refl; has = has })

-- one more word leaves at most three
one_more : (plain : List Text) (word : Text) → length plain < 3 → length (plain ++ word ∷ []) ≤ 3
one_more plain word lt = omega (arith, length-append plain (word ∷ []))

-- after a plain word
plain_on : (is_trailing : Bool) (all : List Text) (flag other : Bool) (plain : List Text) (journal : Bool) (word : Text) (rest more : List Text) → length plain ≤ 3
    → IsPlainAt is_trailing word → all ≡ plain ++ word ∷ more → (length plain < 3 → ComesFrom is_trailing all flag other (plain ++ word ∷ []) journal rest)
    → ComesFrom is_trailing all flag other plain journal (word ∷ rest)
plain_on is_trailing all flag other [] journal word rest more few is whole on rows pending has =
    let goes = word_goes (codes "first") 1 (word ∷ []) journal word rows pending is_trailing refl is has.settles (first_word word journal (settled_rows rules pending rows) has.shown) in
    comes_on all flag other (word ∷ []) journal 2 is_trailing (stands rows pending 1 is_trailing) word rest goes (on (omega arith) goes.rows goes.pending goes.has)
plain_on is_trailing all flag other (a ∷ []) journal word rest more few is whole on rows pending has =
    let goes = word_goes (codes "second") 2 (a ∷ word ∷ []) journal word rows pending is_trailing refl is has.settles (second_word word a journal (settled_rows rules pending rows) has.shown) in
    comes_on all flag other (a ∷ word ∷ []) journal 3 is_trailing (stands rows pending 2 is_trailing) word rest goes (on (omega arith) goes.rows goes.pending goes.has)
plain_on is_trailing all flag other (a ∷ b ∷ []) journal word rest more few is whole on rows pending has =
    let goes = word_goes (codes "third") 3 (a ∷ b ∷ word ∷ []) journal word rows pending is_trailing refl is has.settles (third_word word a b journal (settled_rows rules pending rows) has.shown) in
    comes_on all flag other (a ∷ b ∷ word ∷ []) journal 4 is_trailing (stands rows pending 3 is_trailing) word rest goes (on (omega arith) goes.rows goes.pending goes.has)
plain_on is_trailing all flag other (a ∷ b ∷ c ∷ []) journal word rest more few is whole on rows pending has =
    let long : length all ≡ length (a ∷ b ∷ c ∷ word ∷ more) = ap length whole in
    inr (fails_on UnknownArgument (stands rows pending 4 is_trailing) word rest (stray word rows pending is_trailing is), inl (omega arith))
plain_on is_trailing all flag other (a ∷ b ∷ c ∷ d ∷ e) journal word rest more few is whole on rows pending has = absurd (omega arith)

-- after `--`
trailing_walk : (words plain : List Text) (journal : Bool) → length plain ≤ 3 → ComesFrom true (plain ++ words) journal false plain journal words
trailing_walk [] plain journal few = λ rows pending has. says (plain ++ []) plain journal journal false false _ _ (sym (append-nil plain)) refl refl (comes_here true plain journal few rows pending has)
trailing_walk (word ∷ rest) plain journal few =
    plain_on true (plain ++ word ∷ rest) journal false plain journal word rest rest few (trailing_plain word) refl
    (λ lt rows pending has. says (plain ++ word ∷ rest) ((plain ++ word ∷ []) ++ rest) journal journal false false _ _ (append_assoc plain (word ∷ []) rest) refl refl
    (trailing_walk rest (plain ++ word ∷ []) journal (one_more plain word lt) rows pending has))

-- ---- the words in front of `--` and those after it, from a first word on

-- another flag stands in front of a first `--`
abbrev pub has_other_flag : List Text → Bool
has_other_flag words = list_any is_other_flag (before_first is_dashes words)

-- `--` comes first
dashes_first : (word : Text) (rest : List Text) → is_dashes word ≡ true
    → (plain_words (word ∷ rest) ≡ rest) × (has_journal_flag (word ∷ rest) ≡ false) × (has_other_flag (word ∷ rest) ≡ false)
dashes_first word rest e =
    let n = position_or_len is_dashes rest in (
      ap (λ (b : Bool). filter (λ w. not (is_journal_flag w)) (take (cond (not b) (1 + n) 0) (word ∷ rest)) ++ drop (cond (not b) (1 + n) 0 + 1) (word ∷ rest)) e,
      ap (λ (b : Bool). list_any is_journal_flag (take (cond (not b) (1 + n) 0) (word ∷ rest))) e,
      ap (λ (b : Bool). list_any is_other_flag (take (cond (not b) (1 + n) 0) (word ∷ rest))) e,
    )

-- another word does
front_more : (word : Text) (rest : List Text) → is_dashes word ≡ false
    → (before_first is_dashes (word ∷ rest) ≡ word ∷ before_first is_dashes rest) × (after_first is_dashes (word ∷ rest) ≡ after_first is_dashes rest)
front_more word rest e =
    let n = position_or_len is_dashes rest in
    let one : 1 + n ≡ suc n = omega arith in
    let next : suc n + 1 ≡ suc (n + 1) = omega arith in (
      ap (λ (b : Bool). take (cond (not b) (1 + n) 0) (word ∷ rest)) e ∙ ap (λ (k : ℕ). take k (word ∷ rest)) one,
      ap (λ (b : Bool). drop (cond (not b) (1 + n) 0 + 1) (word ∷ rest)) e ∙ ap (λ (k : ℕ). drop (k + 1) (word ∷ rest)) one ∙ ap (λ (k : ℕ). drop k (word ∷ rest)) next,
    )

-- the flag does
flag_first : (word : Text) (rest : List Text) → is_dashes word ≡ false → is_journal_flag word ≡ true
    → (plain_words (word ∷ rest) ≡ plain_words rest) × (has_journal_flag (word ∷ rest) ≡ true) × (has_other_flag (word ∷ rest) ≡ has_other_flag rest)
flag_first word rest no_dashes is =
    let front = front_more word rest no_dashes in
    let test : Text → Bool = λ w. not (is_journal_flag w) in (
      ap₂ (λ (a b : List Text). filter test a ++ b) front.0 front.1
          ∙ ap (λ (b : Bool). cond (not b) (word ∷ filter test (before_first is_dashes rest)) (filter test (before_first is_dashes rest)) ++ after_first is_dashes rest) is,
      ap (list_any is_journal_flag) front.0 ∙ ap (λ (b : Bool). b || list_any is_journal_flag (before_first is_dashes rest)) is,
      ap (list_any is_other_flag) front.0 ∙ ap (λ (b : Bool). (not b && (begins_with_dash word && nat_lt 1 (length word))) || has_other_flag rest) is,
    )

-- neither does
plain_first : (word : Text) (rest : List Text) → is_dashes word ≡ false → is_journal_flag word ≡ false
    → (plain_words (word ∷ rest) ≡ word ∷ plain_words rest) × (has_journal_flag (word ∷ rest) ≡ has_journal_flag rest) × (has_other_flag (word ∷ rest) ≡ (is_other_flag word || has_other_flag rest))
plain_first word rest no_dashes no_flag =
    let front = front_more word rest no_dashes in
    let test : Text → Bool = λ w. not (is_journal_flag w) in (
      ap₂ (λ (a b : List Text). filter test a ++ b) front.0 front.1
          ∙ ap (λ (b : Bool). cond (not b) (word ∷ filter test (before_first is_dashes rest)) (filter test (before_first is_dashes rest)) ++ after_first is_dashes rest) no_flag,
      ap (list_any is_journal_flag) front.0 ∙ ap (λ (b : Bool). b || list_any is_journal_flag (before_first is_dashes rest)) no_flag,
      ap (list_any is_other_flag) front.0,
    )

-- each word is a text
abbrev pub AreTexts : List Text → Type 0
AreTexts [] = ⊤
AreTexts (word ∷ rest) = IsUtf8 word × AreTexts rest

-- in front of `--`
abbrev FrontComes : (words plain : List Text) → (journal : Bool) → Type 0
FrontComes words plain journal = ComesFrom false (plain ++ plain_words words) (journal || has_journal_flag words) (has_other_flag words) plain journal words

-- the walk comes to all after `--`
dashes_here : (word : Text) (rest plain : List Text) (journal : Bool) → length plain ≤ 3 → is_dashes word ≡ true → FrontComes (word ∷ rest) plain journal
dashes_here word rest plain journal few e rows pending has =
    let is : codes "--" ≡ word = sym ((bytes_eq-Decides word (codes "--")).0 e) in
    let goes = subst (λ (w : Text). Goes plain journal (place plain) true (stands rows pending (place plain) false) w) is (dashes_go plain journal rows pending (place plain) has) in
    let same = dashes_first word rest e in
    comes_on (plain ++ plain_words (word ∷ rest)) (journal || has_journal_flag (word ∷ rest)) (has_other_flag (word ∷ rest)) plain journal (place plain) true (stands rows pending (place plain) false) word rest goes
    (says (plain ++ plain_words (word ∷ rest)) (plain ++ rest) (journal || has_journal_flag (word ∷ rest)) journal (has_other_flag (word ∷ rest)) false _ _ (ap (λ (l : List Text). plain ++ l) (sym same.0))
    (sym (or_false journal) ∙ ap (λ (b : Bool). journal || b) (sym same.1)) (sym same.2) (trailing_walk rest plain journal few goes.rows goes.pending goes.has))

-- after the flag
flag_here : (word : Text) (rest plain : List Text) (journal : Bool) → FrontComes rest plain true → is_dashes word ≡ false → is_journal_flag word ≡ true → FrontComes (word ∷ rest) plain journal
flag_here word rest plain journal more e g rows pending has =
    let is : codes "--journal" ≡ word = sym ((bytes_eq-Decides word (codes "--journal")).0 g) in
    let goes = subst (λ (w : Text). Goes plain true (place plain) false (stands rows pending (place plain) false) w) is (flag_goes plain journal rows pending (place plain) has) in
    let same = flag_first word rest e g in
    comes_on (plain ++ plain_words (word ∷ rest)) (journal || has_journal_flag (word ∷ rest)) (has_other_flag (word ∷ rest)) plain true (place plain) false (stands rows pending (place plain) false) word rest goes
    (says (plain ++ plain_words (word ∷ rest)) (plain ++ plain_words rest) (journal || has_journal_flag (word ∷ rest)) true (has_other_flag (word ∷ rest)) (has_other_flag rest) _ _
    (ap (λ (l : List Text). plain ++ l) (sym same.0)) (sym (or_true journal) ∙ ap (λ (b : Bool). journal || b) (sym same.1)) (sym same.2) (more goes.rows goes.pending goes.has))

-- and after another word, if it is plain
other_here : (word : Text) (rest plain : List Text) (journal : Bool) → length plain ≤ 3 → IsUtf8 word → (length plain < 3 → FrontComes rest (plain ++ word ∷ []) journal)
    → is_dashes word ≡ false → is_journal_flag word ≡ false → FrontComes (word ∷ rest) plain journal
other_here word rest plain journal few text more e g =
    let same = plain_first word rest e g in
    elim (word_form word text e g) [
      | inl form ↦
          plain_on false (plain ++ plain_words (word ∷ rest)) (journal || has_journal_flag (word ∷ rest)) (has_other_flag (word ∷ rest)) plain journal word rest (plain_words rest) few form.1
          (ap (λ (l : List Text). plain ++ l) same.0)
          (λ lt rows pending has. says (plain ++ plain_words (word ∷ rest)) ((plain ++ word ∷ []) ++ plain_words rest) (journal || has_journal_flag (word ∷ rest)) (journal || has_journal_flag rest)
          (has_other_flag (word ∷ rest)) (has_other_flag rest) _ _
          (append_assoc plain (word ∷ []) (plain_words rest) ∙ ap (λ (l : List Text). plain ++ l) (sym same.0)) (ap (λ (b : Bool). journal || b) (sym same.1))
          (sym (same.2 ∙ ap (λ (b : Bool). b || has_other_flag rest) form.0)) (more lt rows pending has))
      | inr form ↦ λ rows pending has.
          let kind = form.1 rows pending in
          inr (
            fails_on kind.0 (stands rows pending (place plain) false) word rest
                (ap (λ (k : Kinds). or_else k (step_fault shape (place plain) (word_met rules [] false idle (place plain) word (held rows pending)).0 (word_met rules [] false idle (place plain) word (held rows pending)).1)) kind.1),
            inr (same.2 ∙ ap (λ (b : Bool). b || has_other_flag rest) form.0),
          )
    ]

front_walk : (words plain : List Text) (journal : Bool) → AreTexts words → length plain ≤ 3 → FrontComes words plain journal
front_walk [] plain journal texts few = λ rows pending has.
    says (plain ++ []) plain (journal || false) journal false false _ _ (sym (append-nil plain)) (sym (or_false journal)) refl (comes_here false plain journal few rows pending has)
front_walk (word ∷ rest) plain journal (text, texts) few =
    by (front_walk rest plain true texts few) (λ lt. front_walk rest (plain ++ word ∷ []) journal texts (one_more plain word lt)) (is_dashes word) refl (is_journal_flag word) refl
  where
    by : FrontComes rest plain true → (length plain < 3 → FrontComes rest (plain ++ word ∷ []) journal) → (d : Bool) → is_dashes word ≡ d → (f : Bool) → is_journal_flag word ≡ f
        → FrontComes (word ∷ rest) plain journal
    by more next true e f g = dashes_here word rest plain journal few e
    by more next false e true g = flag_here word rest plain journal more e g
    by more next false e false g = other_here word rest plain journal few text next e g

-- the walk over the words of the command line
pub walks : (words : List Text) → AreTexts words
    → Comes (plain_words words) (has_journal_flag words) (has_other_flag words) (walk_fault shape [] (stands [] None 1 false) words) (fold (walked rules []) (stands [] None 1 false) words)
walks words texts = front_walk words [] false texts (omega arith) [] None no_words
