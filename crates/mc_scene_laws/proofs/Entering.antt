-- Lines that break no rule, wherever they stand, and what they declare.
use Rattle.std.proofs.Common.{◌≡◌, ℕ, zero, suc, ◌≤◌, false, nat_lt, List, [], ◌∷◌, ◌++◌, length, drop, map, Option, Some, None, slice_index_or, refl, sym, ap, subst, ◌∙◌, arith}
use Rattle.std.proofs.Math.Seq.{drop-cons, drop-length}
use Rattle.std.specs.List.{All}
use Rattle.std.specs.Option.{option_and_then, unwrap_or}
use Rattle.mc_text.specs.Lines.{lines, words}
use Rattle.mc_script.specs.Rules.{byte_rules, least_broken}
use Rattle.mc_lines.specs.Meaning.{entry_after}
use Rattle.mc_lines.specs.Rules.{end_fault, entry_fault, passes_limit, text_limit}
use Rattle.mc_lines.specs.SoFar.{Declared, nothing}
use Rattle.mc_lines.specs.declared.limit.TheConstants.{TEXT_LIMIT}
use Rattle.mc_lines.specs.declared.tail.Tail.{Tail}
use Rattle.mc_lines.specs.declared.tail.Tail.TheVariants.{Nothing}
use Rattle.mc_lines.proofs.FirstBroken.{of_words}
use Rattle.mc_net.specs.Texts.{AreSound, Says, bytes_before, declared_after, declared_by, text_lines}
use Rattle.mc_net.proofs.Reading.{has_tail}
use Rattle.mc_net.proofs.TextEnds.{unended_texts}

-- a line of these words breaks no rule on words, and this is what is declared after it
pub record Enters (d : Declared) (some : List (List ℕ)) (after : Declared) : Type 0 where
  pub sound : entry_fault d some ≡ None
  pub means : entry_after d some ≡ Some after

-- and so do lines of these words, one after the other
abbrev pub Enter : Declared → List (List (List ℕ)) → Declared → Type 0
Enter d [] last = d ≡ last
Enter d (some ∷ others) last = (after : Declared) × Enters d some after × Enter after others last

-- lines, and then others
pub enter-append : (one two : List (List (List ℕ))) (d middle last : Declared) → Enter d one middle → Enter middle two last → Enter d (one ++ two) last
enter-append [] two d middle last same more = subst (λ (x : Declared). Enter x two last) (sym same) more
enter-append (some ∷ one) two d middle last (after, here, others) more = (after, here, enter-append one two after middle last others more)

-- ---- by computing

-- a step, unless a rule is broken
abbrev step_on : Option ℕ → Option Declared → Option Declared
step_on None after = after
step_on (Some number) after = None

-- what lines declare, if none breaks a rule
abbrev pub declared_by_words : Declared → List (List (List ℕ)) → Option Declared
declared_by_words d [] = Some d
declared_by_words d (some ∷ others) = option_and_then (λ after. declared_by_words after others) (step_on (entry_fault d some) (entry_after d some))

step_is : (fault : Option ℕ) (means : Option Declared) (others : List (List (List ℕ))) (last : Declared) → option_and_then (λ after. declared_by_words after others) (step_on fault means) ≡ Some last
    → (after : Declared) × (fault ≡ None) × (means ≡ Some after) × (declared_by_words after others ≡ Some last)
step_is None None others last is = absurd (cc)
step_is None (Some after) others last is = (after, refl, refl, is)
step_is (Some number) means others last is = absurd (cc)

pub computed : (d last : Declared) (all : List (List (List ℕ))) → declared_by_words d all ≡ Some last → Enter d all last
computed d last [] is = let same : d ≡ last = cc in same
computed d last (some ∷ others) is =
    let parts = step_is (entry_fault d some) (entry_after d some) others last is in
    (parts.0, record { sound = parts.1; means = parts.2 }, computed parts.0 last others parts.3)

-- ---- a whole text

first_enters : (d last : Declared) (line : List ℕ) (others : List (List ℕ)) → Enter d (map words (line ∷ others)) last → (entry_fault d (words line) ≡ None) × Enter (declared_after d line) (map words others) last
first_enters d last line others (after, here, more) =
    let same : declared_after d line ≡ after = ap (λ (o : Option Declared). unwrap_or o d) here.means in
    (here.sound, subst (λ (x : Declared). Enter x (map words others) last) (sym same) more)

not_past : (tail : Tail) (total before : ℕ) (line : List ℕ) → tail ≡ Nothing → nat_lt TEXT_LIMIT total ≡ false → passes_limit (text_limit tail) total before line ≡ false
not_past tail total before line is short = subst (λ (t : Tail). passes_limit (text_limit t) total before line ≡ false) (sym is) (rw short refl)

-- the line's bytes break no rule
abbrev pub IsPlainLine : List ℕ → Type 0
IsPlainLine line = least_broken (byte_rules line) ≡ None

module _ (ls : List (List ℕ)) (last : Declared) (plain : All IsPlainLine ls) (enter : Enter (nothing Nothing) (map words ls) last) where
  -- what the first lines declare, the others go on from
  rest_enters : (k : ℕ) → k ≤ length ls → Enter (declared_by Nothing ls k) (map words (drop k ls)) last
  rest_enters zero within = enter
  rest_enters (suc k) within =
      let cut = drop-cons ls k [] (omega arith) in
      (first_enters (declared_by Nothing ls k) last (slice_index_or ls k []) (drop (suc k) ls)
      (subst (λ (l : List (List ℕ)). Enter (declared_by Nothing ls k) (map words l) last) cut (rest_enters k (omega arith)))).1

  sound_at : (total : ℕ) → nat_lt TEXT_LIMIT total ≡ false → AreSound Nothing total ls (length ls)
  sound_at total short k within =
      let cut = drop-cons ls k [] within in
      let line = slice_index_or ls k [] in
      of_words total (bytes_before ls k) (declared_by Nothing ls k) line (not_past (declared_by Nothing ls k).tail total (bytes_before ls k) line (has_tail Nothing ls k) short) (plain k [] within)
      ∙ (first_enters (declared_by Nothing ls k) last line (drop (suc k) ls) (subst (λ (l : List (List ℕ)). Enter (declared_by Nothing ls k) (map words l) last) cut (rest_enters k (omega arith)))).0

  all_declared : declared_by Nothing ls (length ls) ≡ last
  all_declared = subst (λ (l : List (List ℕ)). Enter (declared_by Nothing ls (length ls)) (map words l) last) (drop-length ls) (rest_enters (length ls) (omega arith))

  -- a text of these lines is in the grammar
  pub says_lines : (text : List ℕ) → lines text ≡ ls → nat_lt TEXT_LIMIT (length text) ≡ false → end_fault last ≡ None → Says Nothing text last
  says_lines text cut short ended =
      let same : text_lines Nothing text ≡ ls = (unended_texts text).0 ∙ cut in
      record {
        sound = subst (λ (l : List (List ℕ)). AreSound Nothing (length text) l (length l)) (sym same) (sound_at (length text) short);
        ended = subst (λ (l : List (List ℕ)). end_fault (declared_by Nothing l (length l)) ≡ None) (sym same) (rw all_declared ended);
        declared = subst (λ (l : List (List ℕ)). last ≡ declared_by Nothing l (length l)) (sym same) (sym all_declared);
      }
