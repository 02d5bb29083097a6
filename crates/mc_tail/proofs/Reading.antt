-- Reading the lines after `grow`, one after the other.
use Rattle.std.proofs.Common.{◌≡◌, ◌⊎◌, inl, inr, ℕ, suc, ◌+◌, ◌<◌, ◌≤◌, false, List, [], ◌∷◌, ◌++◌, length, drop, Option, Some, None, Err, slice_index_or, sym, ap, subst, arith}
use Rattle.std.proofs.lemmas.Bool.{cases_lt}
use Rattle.std.specs.Option.{unwrap_or}
use Rattle.mc_text.specs.Lines.{words}
use Rattle.mc_script.specs.Rules.{byte_rules}
use Rattle.mc_lines.specs.Rules.{is_skipped, passes_limit}
use Rattle.mc_lines.specs.declared.limit.TheConstants.{JOURNAL_TEXT_LIMIT, TEXT_LIMIT}
use Rattle.mc_lines.specs.declared.tail.Tail.TheVariants.{Grow}
use Rattle.mc_program_lines.proofs.KeptRules.{first_kept}
use Rattle.mc_net.specs.Reading.{IsEndOf}
use Rattle.mc_net.specs.declared.fault.NetFault.{NetFault}
use Rattle.mc_net.specs.declared.fault.NetFault.TheVariants.{Line, NoMemory}
use Rattle.mc_net.specs.declared.text.Place.{Place}
use Rattle.mc_net.proofs.Reading.{all_read, at_place, behind_place, short_still, within_place}
use Rattle.mc_tail.specs.Meaning.{tail_line_after}
use Rattle.mc_tail.specs.Readings.{ReadsTailHere}
use Rattle.mc_tail.specs.Rules.{tail_line_fault, tail_words_rules}
use Rattle.mc_tail.specs.SoFar.{TailState}
use Rattle.mc_tail.specs.Tails.{AreSoundTail, IsTailFault, RefusesTail, SaysTail, at_tail_line, bytes_before_tail, head_count, tail_by, tail_fault_at, tail_lines, tail_start, tail_state_after}

-- so many lines after `grow` were read, and broke no rule; these are left. The next line has the number `number`, and
-- `before` bytes stand before it
pub record HasReadTail (text : List ℕ) (number before : ℕ) (t : TailState) (left : List (List ℕ)) : Type 0 where
  pub count : ℕ
  pub numbered : number ≡ head_count text + count + 1
  pub counted : before ≡ bytes_before_tail text count
  pub state : t ≡ tail_by text count
  pub rest : left ≡ drop count (tail_lines text)
  pub so_far : count ≤ length (tail_lines text)
  pub sound : AreSoundTail text count
  pub few : number ≤ before + JOURNAL_TEXT_LIMIT + 2
  pub short : TEXT_LIMIT < length text → before ≤ TEXT_LIMIT

-- before the first of them
pub nothing_read : (text : List ℕ) (end : Place) (t : TailState) (left : List (List ℕ)) → t ≡ tail_start text → IsEndOf Grow text end
    → left ≡ tail_lines text → HasReadTail text end.line end.before t left
nothing_read text end t left start is all = record {
  count = 0;
  numbered = let e = is.line in omega arith;
  counted = let e = is.before in omega arith;
  state = start;
  rest = all;
  so_far = omega arith;
  sound = λ k below. absurd (omega arith);
  few = let few = is.few in omega arith;
  short = is.short;
}

after_is : (t after : TailState) (line : List ℕ) → tail_line_after t line ≡ Some after → after ≡ tail_state_after t line
after_is t after line means = ap (λ (o : Option TailState). unwrap_or o t) (sym means)

-- the next line's fault, by its place
fault_here : (text : List ℕ) (number before : ℕ) (t : TailState) (line : List ℕ) (others : List (List ℕ)) (read : HasReadTail text number before t (line ∷ others)) (fault : Option ℕ)
    → tail_line_fault (length text) before t line ≡ fault → tail_fault_at text read.count ≡ fault
fault_here text number before t line others read fault found =
    let place : slice_index_or (tail_lines text) read.count [] ≡ line = at_place (tail_lines text) line others read.count [] read.rest in
    rw (place, ← read.counted, ← read.state) found

not_past : (total before : ℕ) (t : TailState) (line : List ℕ) → tail_line_fault total before t line ≡ None → passes_limit TEXT_LIMIT total before line ≡ false
not_past total before t line kept =
    first_kept 1 (passes_limit TEXT_LIMIT total before line) (byte_rules line ++ tail_words_rules (is_skipped (words line)) t (words line)) kept

-- the line breaks no rule
pub one_more : (text : List ℕ) (number before next : ℕ) (t after : TailState) (line : List ℕ) (others : List (List ℕ)) → HasReadTail text number before t (line ∷ others)
    → tail_line_fault (length text) before t line ≡ None → tail_line_after t line ≡ Some after → next ≡ before + (length line + 1) → HasReadTail text (number + 1) next after others
one_more text number before next t after line others read sound means following = record {
  count = suc read.count;
  numbered = let e = read.numbered in omega arith;
  counted = let e = read.counted in rw following (rw place (omega arith));
  state = rw (place, ← read.state) (after_is t after line means);
  rest = behind_place (tail_lines text) line others read.count read.rest;
  so_far = within_place (tail_lines text) line others read.count read.rest;
  sound = λ k within. by k (cases_lt k read.count) within;
  few = let few = read.few in omega arith;
  short = λ long. rw following (short_still TEXT_LIMIT (length text) before (length line) (not_past (length text) before t line sound) long (read.short long));
}
  where
    place : slice_index_or (tail_lines text) read.count [] ≡ line
    place = at_place (tail_lines text) line others read.count [] read.rest

    by : (k : ℕ) → (k < read.count) ⊎ (read.count ≤ k) → k < suc read.count → tail_fault_at text k ≡ None
    by k (inl earlier) within = read.sound k earlier
    by k (inr later) within =
        let here : read.count ≡ k = omega arith in
        subst (λ (n : ℕ). tail_fault_at text n ≡ None) here (fault_here text number before t line others read None sound)

-- the line breaks a rule
refused_here : (text : List ℕ) (number before : ℕ) (t : TailState) (line : List ℕ) (others : List (List ℕ)) (broken : ℕ) → HasReadTail text number before t (line ∷ others)
    → tail_line_fault (length text) before t line ≡ Some broken → IsTailFault text broken number
refused_here text number before t line others broken read found =
    subst (λ (n : ℕ). IsTailFault text broken n) (sym read.numbered)
    (at_tail_line read.count (within_place (tail_lines text) line others read.count read.rest) read.sound (fault_here text number before t line others read (Some broken) found))

-- why the line at a place isn't read is why what stands there isn't taken
pub refused_by : (text : List ℕ) (place : Place) (t now : TailState) (line : List ℕ) (others : List (List ℕ)) (fault : NetFault) → HasReadTail text place.line place.before t (line ∷ others)
    → ReadsTailHere (length text) place t line (Err fault) now → RefusesTail text fault
refused_by text place t now line others (Line fault) read refused =
    subst (λ (n : ℕ). IsTailFault text fault.number n) (sym refused.1) (refused_here text place.line place.before t line others fault.number read refused.0)
refused_by text place t now line others (NoMemory e) read refused = tt

-- where none is left, all were read
pub says_all : (text : List ℕ) (number before : ℕ) (t : TailState) → HasReadTail text number before t [] → SaysTail text t
says_all text number before t read =
    let all : read.count ≡ length (tail_lines text) = all_read (tail_lines text) read.count read.rest read.so_far in
    record {
      sound = subst (λ (n : ℕ). AreSoundTail text n) all read.sound;
      state = rw (← all) read.state;
    }
