-- Reading the lines of a text, one after the other.
use Rattle.std.proofs.Common.{◌≡◌, ◌⊎◌, inl, inr, ℕ, zero, suc, ◌+◌, ◌<◌, ◌≤◌, Bool, true, false, ◌&&◌, nat_le, nat_lt, List, [], ◌∷◌, ◌++◌, length, drop, Option, Some, None, Err, if◌then◌else◌, min, slice_index_or, refl, ap, subst, ◌∙◌, arith}
use Rattle.std.proofs.Math.Nat.{min-le_left}
use Rattle.std.proofs.lemmas.Bool.{cases_lt}
use Rattle.mc_text.specs.Lines.{lines, words}
use Rattle.mc_script.specs.Rules.{byte_rules}
use Rattle.mc_lines.specs.Meaning.{line_after}
use Rattle.mc_lines.specs.Rules.{end_fault, is_skipped, line_fault, line_words_rules, passes_limit, text_limit}
use Rattle.mc_lines.specs.SoFar.{Declared}
use Rattle.mc_lines.specs.declared.tail.Tail.{Tail}
use Rattle.mc_lines.specs.declared.tail.Tail.TheVariants.{Nothing, Journal, Grow}
use Rattle.mc_lines.proofs.Tails.{tail_stays}
use Rattle.mc_program_lines.proofs.KeptRules.{first_kept}
use Rattle.mc_net.specs.Reading.{IsEndOf, ReadsHere, fault_behind, last_fault}
use Rattle.mc_net.specs.declared.fault.NetFault.{NetFault}
use Rattle.mc_net.specs.declared.fault.NetFault.TheVariants.{Line, NoMemory}
use Rattle.mc_net.specs.declared.fault.TextFault.{TextFault}
use Rattle.mc_net.specs.declared.text.Place.{Place}
use Rattle.mc_net.specs.Texts.{AreSound, IsFault, at_line, at_end, RefusesText, Says, bytes_before, declared_after, declared_by, fault_at, text_end, text_lines, up_to}
use Rattle.mc_lines.specs.declared.limit.TheConstants.{JOURNAL_TEXT_LIMIT}

-- so many lines of a text were read, and broke no rule; these are left. The next line has the number `number`, and `before` bytes stand before it
pub record HasRead (tail : Tail) (text : List ℕ) (number before : ℕ) (d : Declared) (left : List (List ℕ)) : Type 0 where
  pub count : ℕ
  pub numbered : number ≡ suc count
  pub counted : before ≡ bytes_before (text_lines tail text) count
  pub declared : d ≡ declared_by tail (text_lines tail text) count
  pub rest : left ≡ drop count (text_lines tail text)
  pub so_far : count ≤ length (text_lines tail text)
  pub sound : AreSound tail (length text) (text_lines tail text) count
  pub few : number ≤ before + 1
  pub within : before ≤ JOURNAL_TEXT_LIMIT + 1
  pub short : text_limit tail < length text → before ≤ text_limit tail

-- the line at a place, of lines that are left
pub at_place : {A : Type 0} (xs : List A) (x : A) (others : List A) (k : ℕ) (default : A) → x ∷ others ≡ drop k xs → slice_index_or xs k default ≡ x
at_place [] x others zero default here = absurd cc
at_place [] x others (suc k) default here = absurd cc
at_place (y ∷ ys) x others zero default here = cc
at_place (y ∷ ys) x others (suc k) default here = at_place ys x others k default here

-- the lines after it
pub behind_place : {A : Type 0} (xs : List A) (x : A) (others : List A) (k : ℕ) → x ∷ others ≡ drop k xs → others ≡ drop (suc k) xs
behind_place [] x others zero here = absurd cc
behind_place [] x others (suc k) here = absurd cc
behind_place (y ∷ ys) x others zero here = cc
behind_place (y ∷ ys) x others (suc k) here = behind_place ys x others k here

pub within_place : {A : Type 0} (xs : List A) (x : A) (others : List A) (k : ℕ) → x ∷ others ≡ drop k xs → k < length xs
within_place [] x others zero here = absurd cc
within_place [] x others (suc k) here = absurd cc
within_place (y ∷ ys) x others zero here = omega arith
within_place (y ∷ ys) x others (suc k) here = let more = within_place ys x others k here in omega arith

-- where no line is left all were read
pub all_read : {A : Type 0} (xs : List A) (k : ℕ) → [] ≡ drop k xs → k ≤ length xs → k ≡ length xs
all_read [] zero none within = refl
all_read [] (suc k) none within = absurd (omega arith)
all_read (y ∷ ys) zero none within = absurd cc
all_read (y ∷ ys) (suc k) none within = ap suc (all_read ys k none (omega arith))

after_is : (d after : Declared) (line : List ℕ) → line_after d line ≡ Some after → after ≡ declared_after d line
after_is d after line read = by (line_after d line) refl
  where
    by : (o : Option Declared) → line_after d line ≡ o → after ≡ declared_after d line
    by None e = absurd (let none : None ≡ Some after = rw e at read in cc)
    by (Some next) e =
        let some : Some next ≡ Some after = rw e at read in
        let same : after ≡ next = cc in
        rw e same

-- the next line's fault, by its place
fault_here : (tail : Tail) (text : List ℕ) (number before : ℕ) (d : Declared) (line : List ℕ) (others : List (List ℕ)) (read : HasRead tail text number before d (line ∷ others)) (fault : Option ℕ)
    → line_fault (length text) before d line ≡ fault → fault_at tail (length text) (text_lines tail text) read.count ≡ fault
fault_here tail text number before d line others read fault found =
    let place : slice_index_or (text_lines tail text) read.count [] ≡ line = at_place (text_lines tail text) line others read.count [] read.rest in
    rw (place, ← read.counted, ← read.declared) found

-- what is declared has the text's tail
pub has_tail : (tail : Tail) (lines : List (List ℕ)) (k : ℕ) → (declared_by tail lines k).tail ≡ tail
has_tail tail lines zero = refl
has_tail tail lines (suc k) = tail_stays tail (declared_by tail lines k) (slice_index_or lines k []) (has_tail tail lines k)

not_past : (tail : Tail) (total before : ℕ) (d : Declared) (line : List ℕ) → d.tail ≡ tail → line_fault total before d line ≡ None → passes_limit (text_limit tail) total before line ≡ false
not_past tail total before d line same kept =
    subst (λ (t : Tail). passes_limit (text_limit t) total before line ≡ false) same
    (first_kept 1 (passes_limit (text_limit d.tail) total before line) (byte_rules line ++ line_words_rules (is_skipped (words line)) d (words line)) kept)

-- a line that doesn't pass the limit leaves less than the limit after it
pub short_still : (limit total before line : ℕ) → (nat_lt limit total && nat_le before limit && nat_le limit (before + line)) ≡ false → limit < total → before ≤ limit → before + (line + 1) ≤ limit
short_still limit total before line kept long short =
    let below : before + line < limit = grind arith in
    omega arith

-- no text may have more bytes
pub no_limit_is_greater : (tail : Tail) → text_limit tail ≤ JOURNAL_TEXT_LIMIT
no_limit_is_greater Nothing = omega arith
no_limit_is_greater Journal = omega arith
no_limit_is_greater Grow = omega arith

at_most : (tail : Tail) (total next : ℕ) → next ≤ total + 1 → (text_limit tail < total → next ≤ text_limit tail) → next ≤ JOURNAL_TEXT_LIMIT + 1
at_most tail total next small long = by (cases_lt (text_limit tail) total)
  where
    greatest : text_limit tail ≤ JOURNAL_TEXT_LIMIT
    greatest = no_limit_is_greater tail

    by : (text_limit tail < total) ⊎ (total ≤ text_limit tail) → next ≤ JOURNAL_TEXT_LIMIT + 1
    by (inl is) = let n = long is in let g = greatest in omega arith
    by (inr few) = let g = greatest in omega arith

-- the line breaks no rule
pub one_more : (tail : Tail) (text : List ℕ) (number before next : ℕ) (d after : Declared) (line : List ℕ) (others : List (List ℕ)) → HasRead tail text number before d (line ∷ others)
    → line_fault (length text) before d line ≡ None → line_after d line ≡ Some after → next ≡ before + (length line + 1) → next ≤ length text + 1 → HasRead tail text (number + 1) next after others
one_more tail text number before next d after line others read sound means behind small = record {
  count = suc read.count;
  numbered = let e = read.numbered in omega arith;
  counted = rw (place, ← read.counted) behind;
  declared = rw (place, ← read.declared) (after_is d after line means);
  rest = behind_place (text_lines tail text) line others read.count read.rest;
  so_far = within_place (text_lines tail text) line others read.count read.rest;
  sound = λ k within. by k (cases_lt k read.count) within;
  few = let few = read.few in omega arith;
  within = bounds.0;
  short = bounds.1;
}
  where
    place : slice_index_or (text_lines tail text) read.count [] ≡ line
    place = at_place (text_lines tail text) line others read.count [] read.rest

    by : (k : ℕ) → (k < read.count) ⊎ (read.count ≤ k) → k < suc read.count → fault_at tail (length text) (text_lines tail text) k ≡ None
    by k (inl earlier) within = read.sound k earlier
    by k (inr later) within =
        let here : read.count ≡ k = omega arith in
        subst (λ (n : ℕ). fault_at tail (length text) (text_lines tail text) n ≡ None) here (fault_here tail text number before d line others read None sound)

    bounds : (next ≤ JOURNAL_TEXT_LIMIT + 1) × (text_limit tail < length text → next ≤ text_limit tail)
    bounds =
        let same : d.tail ≡ tail = ap (λ (x : Declared). x.tail) read.declared ∙ has_tail tail (text_lines tail text) read.count in
        let kept : passes_limit (text_limit tail) (length text) before line ≡ false = not_past tail (length text) before d line same sound in
        let long : text_limit tail < length text → next ≤ text_limit tail = λ is. rw behind (short_still (text_limit tail) (length text) before (length line) kept is (read.short is)) in
        (at_most tail (length text) next small long, long)

-- the line breaks a rule
refused_here : (tail : Tail) (text : List ℕ) (number before : ℕ) (d : Declared) (line : List ℕ) (others : List (List ℕ)) (broken : ℕ) → HasRead tail text number before d (line ∷ others)
    → line_fault (length text) before d line ≡ Some broken → IsFault tail text broken number
refused_here tail text number before d line others broken read found =
    let counted : read.count + 1 ≡ number = let e = read.numbered in omega arith in
    subst (λ (n : ℕ). IsFault tail text broken n) counted
    (at_line read.count (within_place (text_lines tail text) line others read.count read.rest) read.sound (fault_here tail text number before d line others read (Some broken) found))

-- why the line at a place isn't read is why the text isn't taken
pub refused_by : (tail : Tail) (text : List ℕ) (place : Place) (d now : Declared) (line : List ℕ) (others : List (List ℕ)) (fault : NetFault) → HasRead tail text place.line place.before d (line ∷ others)
    → ReadsHere (length text) place d line (Err fault) now → RefusesText tail text fault
refused_by tail text place d now line others (Line fault) read why = rw why.1 (refused_here tail text place.line place.before d line others fault.number read why.0)
refused_by tail text place d now line others (NoMemory e) read why = tt

-- the end breaks a rule
refused_at_end : (tail : Tail) (text : List ℕ) (number before : ℕ) (d : Declared) (broken : ℕ) → HasRead tail text number before d [] → end_fault d ≡ Some broken → IsFault tail text broken number
refused_at_end tail text number before d broken read found =
    let all : read.count ≡ length (text_lines tail text) = all_read (text_lines tail text) read.count read.rest read.so_far in
    let counted : length (text_lines tail text) + 1 ≡ number = let e = read.numbered in omega arith in
    subst (λ (n : ℕ). IsFault tail text broken n) counted
    (at_end (subst (λ (n : ℕ). AreSound tail (length text) (text_lines tail text) n) all read.sound) (rw (← all, ← read.declared) found))

-- the fault after the last line is that of the text
pub refused_behind : (tail : Tail) (text : List ℕ) (number before : ℕ) (d : Declared) (fault : TextFault) → HasRead tail text number before d [] → last_fault d number ≡ Some fault → IsFault tail text fault.number fault.line
refused_behind tail text number before d fault read found = by (end_fault d) refl found
  where
    by : (ended : Option ℕ) → end_fault d ≡ ended → fault_behind number ended ≡ Some fault → IsFault tail text fault.number fault.line
    by (Some broken) e found =
        let is : record { number = broken; line = number } ≡ fault = cc in
        subst (λ (it : TextFault). IsFault tail text it.number it.line) is (refused_at_end tail text number before d broken read e)
    by None e found = absurd cc

-- the text is in the grammar
says_it : (tail : Tail) (text : List ℕ) (number before : ℕ) (d : Declared) → HasRead tail text number before d [] → end_fault d ≡ None → Says tail text d
says_it tail text number before d read ended =
    let all : read.count ≡ length (text_lines tail text) = all_read (text_lines tail text) read.count read.rest read.so_far in
    record {
      sound = subst (λ (n : ℕ). AreSound tail (length text) (text_lines tail text) n) all read.sound;
      ended = rw (← all, ← read.declared) ended;
      declared = rw (← all) read.declared;
    }

-- where there is none after the last line, that is so
pub says_all : (tail : Tail) (text : List ℕ) (number before : ℕ) (d : Declared) → HasRead tail text number before d [] → last_fault d number ≡ None → Says tail text d
says_all tail text number before d read none = by (end_fault d) refl none
  where
    by : (ended : Option ℕ) → end_fault d ≡ ended → fault_behind number ended ≡ None → Says tail text d
    by (Some broken) e none = absurd cc
    by None e none = says_it tail text number before d read e

-- ---- where the text ends

-- what isn't read begins after the last line
pub ends_there : (tail : Tail) (text : List ℕ) (number before : ℕ) (d : Declared) → HasRead tail text number before d [] → min before (length text) ≡ text_end tail text
ends_there tail text number before d read =
    let all : read.count ≡ length (text_lines tail text) = all_read (text_lines tail text) read.count read.rest read.so_far in
    let counted : before ≡ bytes_before (text_lines tail text) (length (text_lines tail text)) = subst (λ (n : ℕ). before ≡ bytes_before (text_lines tail text) n) all read.counted in
    ap (λ (n : ℕ). min n (length text)) counted

-- and it is the place after it
pub end_is : (tail : Tail) (text : List ℕ) (number before least : ℕ) (d : Declared) → HasRead tail text number before d []
    → least ≡ min before (length text) → IsEndOf tail text (record { before = least; line = number })
end_is tail text number before least d read is =
    let all : read.count ≡ length (text_lines tail text) = all_read (text_lines tail text) read.count read.rest read.so_far in
    let numbered = read.numbered in
    let few = read.few in
    let within = read.within in
    record {
      before = is ∙ ends_there tail text number before d read;
      line = omega arith;
      few = omega arith;
      short = λ long. let most = read.short long in let below : least ≤ before = rw is (min-le_left before (length text)) in omega arith;
    }

-- the lines that are still to be read
pub lines_of_rest : (test : List ℕ → Bool) (ends : Bool) (rest others : List ℕ) → rest ≡ (if ends then [] else others) → (if ends then [] else up_to test (lines others)) ≡ up_to test (lines rest)
lines_of_rest test true rest others is = rw is refl
lines_of_rest test false rest others is = rw is refl

-- some bytes that are still to be read are those after the line
pub rest_is : (ends : Bool) (rest others : List ℕ) → rest ≡ (if ends then [] else others) → 0 < length rest → rest ≡ others
rest_is true rest others is some = absurd (let none : 0 < 0 = rw is at some in omega arith)
rest_is false rest others is some = is
