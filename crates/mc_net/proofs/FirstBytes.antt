-- The first bytes of a text that is too long have the fault of the whole.
use Rattle.std.proofs.Common.{◌≡◌, ◌⊎◌, inl, inr, ℕ, zero, suc, ◌+◌, ◌<◌, ◌≤◌, Bool, true, false, nat_lt, List, [], ◌∷◌, ◌++◌, length, take, if◌then◌else◌, min, slice_index_or, Some, None, refl, sym, ap, subst, ◌∙◌, append_assoc, arith, length-append}
use Rattle.std.proofs.Math.Nat.{min-eq_left}
use Rattle.std.proofs.lemmas.Bool.{cases_lt}
use Rattle.std.proofs.lemmas.List.{append-nil, get_or_append_left, get_or_at, length-take-le, take_all}
use Rattle.std.specs.List.{slice_split}
use Rattle.mc_text.specs.Lines.{has_bytes, is_line_end, lines, without_empty_last}
use Rattle.mc_text.proofs.Cuts.{some_pieces}
use Rattle.mc_lines.specs.Rules.{end_fault, ends_commands, line_fault, passes_limit, text_limit}
use Rattle.mc_lines.specs.SoFar.{Declared}
use Rattle.mc_lines.specs.declared.tail.Tail.{Tail}
use Rattle.mc_lines.specs.declared.tail.Tail.TheVariants.{Nothing}
use Rattle.mc_net.specs.Nets.{DeclaresNet}
use Rattle.mc_net.specs.TextLaws.{BlocksOfTheFirstBytes, FaultsOfTheFirstBytes, NetsOfTheFirstBytes, SaysTheWhole, first_bytes}
use Rattle.mc_net.specs.Texts.{IsFault, at_line, at_end, Says, bytes_before, declared_by, fault_at, text_end, text_lines, up_to}
use Rattle.mc_net.proofs.Faults.{not_both, same_value}
use Rattle.mc_net.proofs.Reading.{has_tail}

-- ---- how many bytes lines have

-- the bytes of lines, with an end for each
abbrev pub extent : List (List ℕ) → ℕ
extent [] = 0
extent (line ∷ others) = length line + 1 + extent others

pub extent-append : (xs ys : List (List ℕ)) → extent (xs ++ ys) ≡ extent xs + extent ys
extent-append [] ys = omega arith
extent-append (x ∷ xs) ys = let rest = extent-append xs ys in omega arith

-- one line more in front
bytes_before-cons : (x : List ℕ) (xs : List (List ℕ)) (k : ℕ) → bytes_before (x ∷ xs) (suc k) ≡ length x + 1 + bytes_before xs k
bytes_before-cons x xs zero = omega arith
bytes_before-cons x xs (suc k) = let rest = bytes_before-cons x xs k in omega arith

pub bytes_before-append : (xs ys : List (List ℕ)) → bytes_before (xs ++ ys) (length xs) ≡ extent xs
bytes_before-append [] ys = refl
bytes_before-append (x ∷ xs) ys = let rest = bytes_before-append xs ys in bytes_before-cons x (xs ++ ys) (length xs) ∙ ap (λ (n : ℕ). length x + 1 + n) rest

-- of all lines
pub all_bytes : (xs : List (List ℕ)) → bytes_before xs (length xs) ≡ extent xs
all_bytes xs = subst (λ (all : List (List ℕ)). bytes_before all (length xs) ≡ extent xs) (append-nil xs) (bytes_before-append xs [])

-- ---- pieces of the first bytes

module _ (p : ℕ → Bool) where
  pub extent_of_pieces : (bytes : List ℕ) → extent (slice_split p bytes) ≡ length bytes + 1
  extent_of_pieces [] = refl
  extent_of_pieces (byte ∷ bytes) = by (p byte) refl (extent_of_pieces bytes)
    where
      by : (stops : Bool) → p byte ≡ stops → extent (slice_split p bytes) ≡ length bytes + 1 → extent (slice_split p (byte ∷ bytes)) ≡ suc (length bytes) + 1
      by true e rest = rw e (omega arith)
      by false e rest =
          let pieces = some_pieces p bytes in
          let all : length pieces.0 + 1 + extent pieces.1 ≡ length bytes + 1 = rw pieces.2 at rest in
          rw (e, pieces.2) (omega arith)

  -- the pieces of the first bytes are pieces of all, but for the last, which may go on
  record IsCutShort (n : ℕ) (bytes : List ℕ) : Type 0 where
    whole : List (List ℕ)
    last : List ℕ
    more : List ℕ
    others : List (List ℕ)
    short : slice_split p (take n bytes) ≡ whole ++ last ∷ []
    long : slice_split p bytes ≡ whole ++ (last ++ more) ∷ others

  cut_short : (n : ℕ) (bytes : List ℕ) → IsCutShort n bytes
  cut_short zero bytes = let pieces = some_pieces p bytes in record { whole = []; last = []; more = pieces.0; others = pieces.1; short = refl; long = pieces.2 }
  cut_short (suc n) [] = record { whole = []; last = []; more = []; others = []; short = refl; long = refl }
  cut_short (suc n) (byte ∷ bytes) = by (p byte) refl (cut_short n bytes)
    where
      onto : p byte ≡ false → (whole : List (List ℕ)) (last more : List ℕ) (others : List (List ℕ)) → slice_split p (take n bytes) ≡ whole ++ last ∷ [] → slice_split p bytes ≡ whole ++ (last ++ more) ∷ others → IsCutShort (suc n) (byte ∷ bytes)
      onto e [] last more others short long = record { whole = []; last = byte ∷ last; more = more; others = others; short = rw (e, short) refl; long = rw (e, long) refl }
      onto e (first ∷ whole) last more others short long = record { whole = (byte ∷ first) ∷ whole; last = last; more = more; others = others; short = rw (e, short) refl; long = rw (e, long) refl }

      by : (stops : Bool) → p byte ≡ stops → IsCutShort n bytes → IsCutShort (suc n) (byte ∷ bytes)
      by true e cut = record { whole = [] ∷ cut.whole; last = cut.last; more = cut.more; others = cut.others; short = rw (e, cut.short) refl; long = rw (e, cut.long) refl }
      by false e cut = onto e cut.whole cut.last cut.more cut.others cut.short cut.long

-- ---- lines of the first bytes

without_empty_last-append : (xs : List (List ℕ)) (y : List ℕ) (ys : List (List ℕ)) → without_empty_last (xs ++ y ∷ ys) ≡ xs ++ without_empty_last (y ∷ ys)
without_empty_last-append [] y ys = refl
without_empty_last-append (x ∷ []) y ys = refl
without_empty_last-append (x ∷ next ∷ xs) y ys = ap (λ (l : List (List ℕ)). x ∷ l) (without_empty_last-append (next ∷ xs) y ys)

pub without_empty_last-cons : (byte : ℕ) (line : List ℕ) (ys : List (List ℕ)) → without_empty_last ((byte ∷ line) ∷ ys) ≡ (byte ∷ line) ∷ without_empty_last ys
without_empty_last-cons byte line [] = let has : has_bytes (byte ∷ line) ≡ true = grind arith in rw has refl
without_empty_last-cons byte line (y ∷ ys) = refl

-- a list is empty, or has a last element
record HasLast {A : Type 0} (xs : List A) : Type 0 where
  front : List A
  last : A
  is : xs ≡ front ++ last ∷ []

empty_or_last : {A : Type 0} (xs : List A) → (xs ≡ []) ⊎ HasLast xs
empty_or_last [] = inl refl
empty_or_last (x ∷ xs) = by (empty_or_last xs)
  where
    by : (xs ≡ []) ⊎ HasLast xs → (x ∷ xs ≡ []) ⊎ HasLast (x ∷ xs)
    by (inl none) = inr (record { front = []; last = x; is = rw none refl })
    by (inr some) = inr (record { front = x ∷ some.front; last = some.last; is = rw some.is refl })

-- after the same lines, the line with the byte that passes a limit, which may go on among all lines
pub record IsPassed (limit : ℕ) (short long : List (List ℕ)) : Type 0 where
  pub before : List (List ℕ)
  pub line : List ℕ
  pub more : List ℕ
  pub after : List (List ℕ)
  pub others : List (List ℕ)
  pub short_is : short ≡ before ++ line ∷ after
  pub long_is : long ≡ before ++ (line ++ more) ∷ others
  pub reached : extent before ≤ limit
  pub passed : limit ≤ extent before + length line

pub passed_at : (p : ℕ → Bool) (limit : ℕ) (bytes : List ℕ) → limit < length bytes → IsPassed limit (without_empty_last (slice_split p (take (limit + 1) bytes))) (without_empty_last (slice_split p bytes))
passed_at p limit bytes large = by cut.last refl
  where
    cut : IsCutShort p (limit + 1) bytes
    cut = cut_short p (limit + 1) bytes

    count : extent cut.whole + length cut.last ≡ limit + 1
    count =
        let pieces : extent (cut.whole ++ cut.last ∷ []) ≡ length (take (limit + 1) bytes) + 1 = rw (← cut.short) (extent_of_pieces p (take (limit + 1) bytes)) in
        let split : extent (cut.whole ++ cut.last ∷ []) ≡ extent cut.whole + (length cut.last + 1 + 0) = extent-append cut.whole (cut.last ∷ []) in
        let taken : length (take (limit + 1) bytes) ≡ limit + 1 = length-take-le (limit + 1) bytes (omega arith) in
        omega arith

    at_end_of : (whole : List (List ℕ)) → cut.whole ≡ whole → cut.last ≡ [] → extent whole ≡ limit + 1 → (whole ≡ []) ⊎ HasLast whole → IsPassed limit (without_empty_last (slice_split p (take (limit + 1) bytes))) (without_empty_last (slice_split p bytes))
    at_end_of whole is none all (inl empty) = absurd (let nothing : 0 ≡ limit + 1 = rw empty at all in omega arith)
    at_end_of whole is none all (inr some) =
        let total : extent some.front + (length some.last + 1 + 0) ≡ limit + 1 = sym (extent-append some.front (some.last ∷ [])) ∙ (rw some.is at all) in
        let short_split : slice_split p (take (limit + 1) bytes) ≡ (some.front ++ some.last ∷ []) ++ [] ∷ [] = rw (none, is, some.is) at cut.short in
        let long_split : slice_split p bytes ≡ (some.front ++ some.last ∷ []) ++ cut.more ∷ cut.others = rw (none, is, some.is) at cut.long in
        record {
          before = some.front;
          line = some.last;
          more = [];
          after = [];
          others = without_empty_last (cut.more ∷ cut.others);
          short_is = rw (short_split, without_empty_last-append (some.front ++ some.last ∷ []) [] []) (append-nil (some.front ++ some.last ∷ []));
          long_is = rw (long_split, without_empty_last-append (some.front ++ some.last ∷ []) cut.more cut.others, append-nil some.last) (append_assoc some.front (some.last ∷ []) (without_empty_last (cut.more ∷ cut.others)));
          reached = omega arith;
          passed = omega arith;
        }

    by : (last : List ℕ) → cut.last ≡ last → IsPassed limit (without_empty_last (slice_split p (take (limit + 1) bytes))) (without_empty_last (slice_split p bytes))
    by [] e = at_end_of cut.whole refl e (let all : extent cut.whole + 0 ≡ limit + 1 = rw e at count in omega arith) (empty_or_last cut.whole)
    by (byte ∷ last) e =
        let all : extent cut.whole + suc (length last) ≡ limit + 1 = rw e at count in
        record {
          before = cut.whole;
          line = byte ∷ last;
          more = cut.more;
          after = [];
          others = without_empty_last cut.others;
          short_is = rw (cut.short, e, without_empty_last-append cut.whole (byte ∷ last) [], without_empty_last-cons byte last []) refl;
          long_is = rw (cut.long, e, without_empty_last-append cut.whole (byte ∷ last ++ cut.more) cut.others, without_empty_last-cons byte (last ++ cut.more) cut.others) refl;
          reached = omega arith;
          passed = omega arith;
        }

-- ---- faults of the same lines

pub same_bytes : (short long : List (List ℕ)) (n : ℕ) → ((k : ℕ) → k < n → slice_index_or short k [] ≡ slice_index_or long k []) → (k : ℕ) → k ≤ n → bytes_before short k ≡ bytes_before long k
same_bytes short long n same zero within = refl
same_bytes short long n same (suc k) within = rw (same k (omega arith), same_bytes short long n same k (omega arith)) refl

pub same_declared : (tail : Tail) (short long : List (List ℕ)) (n : ℕ) → ((k : ℕ) → k < n → slice_index_or short k [] ≡ slice_index_or long k []) → (k : ℕ) → k ≤ n → declared_by tail short k ≡ declared_by tail long k
same_declared tail short long n same zero within = refl
same_declared tail short long n same (suc k) within = rw (same k (omega arith), same_declared tail short long n same k (omega arith)) refl

-- past the limit it doesn't matter how long a text is
beyond : (tail : Tail) (total other before : ℕ) (d : Declared) (line : List ℕ) → d.tail ≡ tail → nat_lt (text_limit tail) total ≡ true → nat_lt (text_limit tail) other ≡ true → line_fault total before d line ≡ line_fault other before d line
beyond tail total other before d line has one two =
    let first : nat_lt (text_limit d.tail) total ≡ true = subst (λ (t : Tail). nat_lt (text_limit t) total ≡ true) (sym has) one in
    let second : nat_lt (text_limit d.tail) other ≡ true = subst (λ (t : Tail). nat_lt (text_limit t) other ≡ true) (sym has) two in
    rw (first, second) refl

passing : (tail : Tail) (total before : ℕ) (d : Declared) (line : List ℕ) → d.tail ≡ tail → passes_limit (text_limit tail) total before line ≡ true → line_fault total before d line ≡ Some 1
passing tail total before d line has passes =
    let past : passes_limit (text_limit d.tail) total before line ≡ true = subst (λ (t : Tail). passes_limit (text_limit t) total before line ≡ true) (sym has) passes in
    rw past refl

pub does_pass : (limit total before : ℕ) (line : List ℕ) → limit < total → before ≤ limit → limit ≤ before + length line → passes_limit limit total before line ≡ true
does_pass limit total before line large reached passed = grind arith

module _ (tail : Tail) (short long : List ℕ) (small : text_limit tail < length short) (large : text_limit tail < length long) (at : IsPassed (text_limit tail) (text_lines tail short) (text_lines tail long)) where
  same_lines : (k : ℕ) → k < length at.before → slice_index_or (text_lines tail short) k [] ≡ slice_index_or (text_lines tail long) k []
  same_lines k earlier = rw (at.short_is, at.long_is, get_or_append_left at.before (at.line ∷ at.after) [] k earlier, get_or_append_left at.before ((at.line ++ at.more) ∷ at.others) [] k earlier) refl

  same_fault : (k : ℕ) → k < length at.before → fault_at tail (length short) (text_lines tail short) k ≡ fault_at tail (length long) (text_lines tail long) k
  same_fault k earlier =
      let one : nat_lt (text_limit tail) (length short) ≡ true = grind arith in
      let two : nat_lt (text_limit tail) (length long) ≡ true = grind arith in
      rw (same_lines k earlier, same_bytes (text_lines tail short) (text_lines tail long) (length at.before) same_lines k (omega arith), same_declared tail (text_lines tail short) (text_lines tail long) (length at.before) same_lines k (omega arith))
      (beyond tail (length short) (length long) (bytes_before (text_lines tail long) k) (declared_by tail (text_lines tail long) k) (slice_index_or (text_lines tail long) k []) (has_tail tail (text_lines tail long) k) one two)

  short_fault : fault_at tail (length short) (text_lines tail short) (length at.before) ≡ Some 1
  short_fault =
      let counted : bytes_before (text_lines tail short) (length at.before) ≡ extent at.before = rw at.short_is (bytes_before-append at.before (at.line ∷ at.after)) in
      let here : slice_index_or (text_lines tail short) (length at.before) [] ≡ at.line = rw at.short_is (get_or_at at.before at.line at.after [] (length at.before) refl) in
      rw (counted, here) (passing tail (length short) (extent at.before) (declared_by tail (text_lines tail short) (length at.before)) at.line (has_tail tail (text_lines tail short) (length at.before)) (does_pass (text_limit tail) (length short) (extent at.before) at.line small at.reached at.passed))

  long_fault : fault_at tail (length long) (text_lines tail long) (length at.before) ≡ Some 1
  long_fault =
      let counted : bytes_before (text_lines tail long) (length at.before) ≡ extent at.before = rw at.long_is (bytes_before-append at.before ((at.line ++ at.more) ∷ at.others)) in
      let here : slice_index_or (text_lines tail long) (length at.before) [] ≡ at.line ++ at.more = rw at.long_is (get_or_at at.before (at.line ++ at.more) at.others [] (length at.before) refl) in
      let passed = at.passed in
      let whole : text_limit tail ≤ extent at.before + length (at.line ++ at.more) = omega (arith, length-append at.line at.more) in
      rw (counted, here) (passing tail (length long) (extent at.before) (declared_by tail (text_lines tail long) (length at.before)) (at.line ++ at.more) (has_tail tail (text_lines tail long) (length at.before)) (does_pass (text_limit tail) (length long) (extent at.before) (at.line ++ at.more) large at.reached whole))

  short_within : length at.before < length (text_lines tail short)
  short_within = rw at.short_is (omega (arith, length-append at.before (at.line ∷ at.after)))

  long_within : length at.before < length (text_lines tail long)
  long_within = rw at.long_is (omega (arith, length-append at.before ((at.line ++ at.more) ∷ at.others)))

  -- the fault of the short text is that of the long one
  same_for_long : (number line : ℕ) → IsFault tail short number line → IsFault tail long number line
  same_for_long number line (at_line k within sound broken) = by (cases_lt k (length at.before)) (cases_lt (length at.before) k)
    where
      sound_before : (n : ℕ) → n ≤ length at.before → ((i : ℕ) → i < n → fault_at tail (length short) (text_lines tail short) i ≡ None) → (i : ℕ) → i < n → fault_at tail (length long) (text_lines tail long) i ≡ None
      sound_before n within clear i below = sym (same_fault i (omega arith)) ∙ clear i below

      by : (k < length at.before) ⊎ (length at.before ≤ k) → (length at.before < k) ⊎ (k ≤ length at.before) → IsFault tail long number (k + 1)
      by (inl earlier) right = let inside = long_within in at_line k (omega arith) (sound_before k (omega arith) sound) (sym (same_fault k earlier) ∙ broken)
      by (inr most) (inl later) = absurd (not_both (fault_at tail (length short) (text_lines tail short) (length at.before)) 1 (sound (length at.before) later) short_fault)
      by (inr most) (inr least) =
          let here : length at.before ≡ k = omega arith in
          let first : fault_at tail (length short) (text_lines tail short) k ≡ Some 1 = subst (λ (i : ℕ). fault_at tail (length short) (text_lines tail short) i ≡ Some 1) here short_fault in
          let number_is : 1 ≡ number = same_value (fault_at tail (length short) (text_lines tail short) k) 1 number first broken in
          let found : fault_at tail (length long) (text_lines tail long) k ≡ Some number = subst (λ (i : ℕ). fault_at tail (length long) (text_lines tail long) i ≡ Some number) here (rw (← number_is) long_fault) in
          let inside = long_within in
          at_line k (omega arith) (sound_before k (omega arith) sound) found
  same_for_long number line (at_end sound broken) = absurd (not_both (fault_at tail (length short) (text_lines tail short) (length at.before)) 1 (sound (length at.before) short_within) short_fault)

  -- and it says nothing
  pub says_nothing : (d : Declared) → Says tail short d → ⊥
  says_nothing d says = not_both (fault_at tail (length short) (text_lines tail short) (length at.before)) 1 (says.sound (length at.before) short_within) short_fault

-- ---- two texts with the same lines, both past the limit

module _ (tail : Tail) (short long : List ℕ) (small : text_limit tail < length short) (large : text_limit tail < length long) (same : text_lines tail short ≡ text_lines tail long) where
  same_rules : (k : ℕ) → fault_at tail (length short) (text_lines tail short) k ≡ fault_at tail (length long) (text_lines tail long) k
  same_rules k =
      let one : nat_lt (text_limit tail) (length short) ≡ true = grind arith in
      let two : nat_lt (text_limit tail) (length long) ≡ true = grind arith in
      beyond tail (length short) (length long) (bytes_before (text_lines tail short) k) (declared_by tail (text_lines tail short) k) (slice_index_or (text_lines tail short) k []) (has_tail tail (text_lines tail short) k) one two
      ∙ ap (λ (all : List (List ℕ)). fault_at tail (length long) all k) same

  long_fault_is : (number line : ℕ) → IsFault tail short number line → IsFault tail long number line
  long_fault_is number line (at_line k within sound broken) =
      at_line k (subst (λ (all : List (List ℕ)). k < length all) same within) (λ i below. sym (same_rules i) ∙ sound i below) (sym (same_rules k) ∙ broken)
  long_fault_is number line (at_end sound broken) =
      subst (λ (all : List (List ℕ)). IsFault tail long number (length all + 1)) (sym same)
      (at_end (λ i below. sym (same_rules i) ∙ sound i (subst (λ (all : List (List ℕ)). i < length all) (sym same) below)) (subst (λ (all : List (List ℕ)). end_fault (declared_by tail all (length all)) ≡ Some number) same broken))

  long_says : (d : Declared) → Says tail short d → Says tail long d
  long_says d says = record {
    sound = λ i below. sym (same_rules i) ∙ says.sound i (subst (λ (all : List (List ℕ)). i < length all) (sym same) below);
    ended = subst (λ (all : List (List ℕ)). end_fault (declared_by tail all (length all)) ≡ None) same says.ended;
    declared = says.declared ∙ ap (λ (all : List (List ℕ)). declared_by tail all (length all)) same;
  }

  -- both end where their lines do
  pub long_end_is : extent (text_lines tail short) ≤ text_limit tail → text_end tail short ≡ text_end tail long
  long_end_is within =
      let all : bytes_before (text_lines tail short) (length (text_lines tail short)) ≡ extent (text_lines tail short) = all_bytes (text_lines tail short) in
      let one : min (extent (text_lines tail short)) (length short) ≡ extent (text_lines tail short) = min-eq_left (omega arith) in
      let two : min (extent (text_lines tail short)) (length long) ≡ extent (text_lines tail short) = min-eq_left (omega arith) in
      ap (λ (n : ℕ). min n (length short)) all ∙ one ∙ sym two ∙ ap (λ (n : ℕ). min n (length long)) (sym all) ∙ ap (λ (lines : List (List ℕ)). min (bytes_before lines (length lines)) (length long)) same

-- ---- first bytes

-- what is kept of a list with more after it: all of the list and some of that, or the same whatever is after it
up_to_parts : (test : List ℕ → Bool) (front : List (List ℕ))
    → ((more : List (List ℕ)) → up_to test (front ++ more) ≡ front ++ up_to test more)
    ⊎ ((kept : List (List ℕ)) × ((more : List (List ℕ)) → up_to test (front ++ more) ≡ kept) × (extent kept ≤ extent front))
up_to_parts test [] = inl (λ more. refl)
up_to_parts test (line ∷ front) = by (test line) refl (up_to_parts test front)
  where
    by : (ends : Bool) → test line ≡ ends
        → ((more : List (List ℕ)) → up_to test (front ++ more) ≡ front ++ up_to test more) ⊎ ((kept : List (List ℕ)) × ((more : List (List ℕ)) → up_to test (front ++ more) ≡ kept) × (extent kept ≤ extent front))
        → ((more : List (List ℕ)) → up_to test (line ∷ front ++ more) ≡ line ∷ front ++ up_to test more)
        ⊎ ((kept : List (List ℕ)) × ((more : List (List ℕ)) → up_to test (line ∷ front ++ more) ≡ kept) × (extent kept ≤ extent (line ∷ front)))
    by true e parts = inr (line ∷ [], λ more. rw e refl, omega arith)
    by false e (inl all) = inl (λ more. rw (e, all more) refl)
    by false e (inr some) = inr (line ∷ some.0, λ more. rw (e, some.1 more) refl, let within = some.2 in omega arith)

-- the lines of two texts are the same ones, none of which passes the limit
pub record AreSameBelow (limit : ℕ) (short long : List (List ℕ)) : Type 0 where
  pub same : short ≡ long
  pub below : extent short ≤ limit

cut_below : (test : List ℕ → Bool) (limit : ℕ) (short long : List (List ℕ)) → IsPassed limit short long → AreSameBelow limit (up_to test short) (up_to test long) ⊎ IsPassed limit (up_to test short) (up_to test long)
cut_below test limit short long at = by (up_to_parts test at.before)
  where
    by : ((more : List (List ℕ)) → up_to test (at.before ++ more) ≡ at.before ++ up_to test more) ⊎ ((kept : List (List ℕ)) × ((more : List (List ℕ)) → up_to test (at.before ++ more) ≡ kept) × (extent kept ≤ extent at.before))
        → AreSameBelow limit (up_to test short) (up_to test long) ⊎ IsPassed limit (up_to test short) (up_to test long)
    by (inl all) = inr (record {
      before = at.before;
      line = at.line;
      more = at.more;
      after = if test at.line then [] else up_to test at.after;
      others = if test (at.line ++ at.more) then [] else up_to test at.others;
      short_is = ap (λ (l : List (List ℕ)). up_to test l) at.short_is ∙ all (at.line ∷ at.after);
      long_is = ap (λ (l : List (List ℕ)). up_to test l) at.long_is ∙ all ((at.line ++ at.more) ∷ at.others);
      reached = at.reached;
      passed = at.passed;
    })
    by (inr some) =
        let short_kept : up_to test short ≡ some.0 = ap (λ (l : List (List ℕ)). up_to test l) at.short_is ∙ some.1 (at.line ∷ at.after) in
        let long_kept : up_to test long ≡ some.0 = ap (λ (l : List (List ℕ)). up_to test l) at.long_is ∙ some.1 ((at.line ++ at.more) ∷ at.others) in
        let within = some.2 in
        let reached = at.reached in
        let below : extent some.0 ≤ limit = omega arith in
        inl (record { same = short_kept ∙ sym long_kept; below = subst (λ (l : List (List ℕ)). extent l ≤ limit) (sym short_kept) below })

module _ (tail : Tail) (text : List ℕ) (large : text_limit tail + 1 < length text) where
  pub first_are_large : text_limit tail < length (first_bytes tail text)
  first_are_large = let taken : length (first_bytes tail text) ≡ text_limit tail + 1 = length-take-le (text_limit tail + 1) text (omega arith) in omega arith

  pub all_are_large : text_limit tail < length text
  all_are_large = omega arith

  passed_there : IsPassed (text_limit tail) (lines (first_bytes tail text)) (lines text)
  passed_there = passed_at is_line_end (text_limit tail) text all_are_large

  pub cut_there : AreSameBelow (text_limit tail) (text_lines tail (first_bytes tail text)) (text_lines tail text) ⊎ IsPassed (text_limit tail) (text_lines tail (first_bytes tail text)) (text_lines tail text)
  cut_there = cut_below (ends_commands tail) (text_limit tail) (lines (first_bytes tail text)) (lines text) passed_there

pub faults_of_the_first_bytes : FaultsOfTheFirstBytes
faults_of_the_first_bytes tail text number line fault = by (cases_lt (text_limit tail + 1) (length text))
  where
    cut : text_limit tail + 1 < length text → AreSameBelow (text_limit tail) (text_lines tail (first_bytes tail text)) (text_lines tail text) ⊎ IsPassed (text_limit tail) (text_lines tail (first_bytes tail text)) (text_lines tail text) → IsFault tail text number line
    cut large (inl at) = long_fault_is tail (first_bytes tail text) text (first_are_large tail text large) (all_are_large tail text large) at.same number line fault
    cut large (inr at) = same_for_long tail (first_bytes tail text) text (first_are_large tail text large) (all_are_large tail text large) at number line fault

    by : (text_limit tail + 1 < length text) ⊎ (length text ≤ text_limit tail + 1) → IsFault tail text number line
    by (inl large) = cut large (cut_there tail text large)
    by (inr few) = subst (λ (bytes : List ℕ). IsFault tail bytes number line) (take_all (text_limit tail + 1) text few) fault

pub nets_of_the_first_bytes : NetsOfTheFirstBytes
nets_of_the_first_bytes tail text net declares = by (cases_lt (text_limit tail + 1) (length text))
  where
    cut : text_limit tail + 1 < length text → AreSameBelow (text_limit tail) (text_lines tail (first_bytes tail text)) (text_lines tail text) ⊎ IsPassed (text_limit tail) (text_lines tail (first_bytes tail text)) (text_lines tail text) → DeclaresNet tail text net
    cut large (inl at) = record {
      declared = declares.declared;
      says = long_says tail (first_bytes tail text) text (first_are_large tail text large) (all_are_large tail text large) at.same declares.declared declares.says;
      names = declares.names;
      shape = declares.shape;
      world = declares.world;
      batches = declares.batches;
      rest = declares.rest ∙ long_end_is tail (first_bytes tail text) text (first_are_large tail text large) (all_are_large tail text large) at.same at.below;
    }
    cut large (inr at) = absurd (says_nothing tail (first_bytes tail text) text (first_are_large tail text large) (all_are_large tail text large) at declares.declared declares.says)

    by : (text_limit tail + 1 < length text) ⊎ (length text ≤ text_limit tail + 1) → DeclaresNet tail text net
    by (inl large) = cut large (cut_there tail text large)
    by (inr few) = subst (λ (bytes : List ℕ). DeclaresNet tail bytes net) (take_all (text_limit tail + 1) text few) declares

-- what the first bytes say, the whole text says
pub says_of_the_first_bytes : (tail : Tail) (text : List ℕ) (d : Declared) → Says tail (first_bytes tail text) d → Says tail text d
says_of_the_first_bytes tail text d says = by (cases_lt (text_limit tail + 1) (length text))
  where
    cut : text_limit tail + 1 < length text → AreSameBelow (text_limit tail) (text_lines tail (first_bytes tail text)) (text_lines tail text) ⊎ IsPassed (text_limit tail) (text_lines tail (first_bytes tail text)) (text_lines tail text) → Says tail text d
    cut large (inl at) = long_says tail (first_bytes tail text) text (first_are_large tail text large) (all_are_large tail text large) at.same d says
    cut large (inr at) = absurd (says_nothing tail (first_bytes tail text) text (first_are_large tail text large) (all_are_large tail text large) at d says)

    by : (text_limit tail + 1 < length text) ⊎ (length text ≤ text_limit tail + 1) → Says tail text d
    by (inl large) = cut large (cut_there tail text large)
    by (inr few) = subst (λ (bytes : List ℕ). Says tail bytes d) (take_all (text_limit tail + 1) text few) says

pub blocks_of_the_first_bytes : BlocksOfTheFirstBytes
blocks_of_the_first_bytes tail text given declares = record {
  declared = declares.declared;
  says = says_of_the_first_bytes tail text declares.declared declares.says;
  blocks = declares.blocks;
}

-- where nothing may stand after the commands, no line is left out
pub all_lines : (xs : List (List ℕ)) → up_to (ends_commands Nothing) xs ≡ xs
all_lines [] = refl
all_lines (x ∷ xs) = ap (λ (l : List (List ℕ)). x ∷ l) (all_lines xs)

pub says_the_whole : SaysTheWhole
says_the_whole text d says = by (cases_lt (text_limit Nothing + 1) (length text))
  where
    passed : text_limit Nothing + 1 < length text → IsPassed (text_limit Nothing) (text_lines Nothing (first_bytes Nothing text)) (text_lines Nothing text)
    passed large = rw (all_lines (lines (first_bytes Nothing text)), all_lines (lines text)) (passed_there Nothing text large)

    by : (text_limit Nothing + 1 < length text) ⊎ (length text ≤ text_limit Nothing + 1) → first_bytes Nothing text ≡ text
    by (inl large) = absurd (says_nothing Nothing (first_bytes Nothing text) text (first_are_large Nothing text large) (all_are_large Nothing text large) (passed large) d says)
    by (inr few) = take_all (text_limit Nothing + 1) text few
