-- The codecs of a device of a chain, as its line lists them: each run of one to four codecs, by computing.
use Rattle.std.proofs.Common.{◌≡◌, ℕ, ◌+◌, ◌-◌, ◌≤◌, ◌==◌, Bool, true, false, not, ◌&&◌, nat_le, nat_lt, List, length, map, refl, subst, arith}
use Rattle.std.proofs.lemmas.Bool.{eqb-true}
use Rattle.std.proofs.lemmas.Slice.Eq.{bytes_eq-Decides}
use Rattle.std.specs.Fmt.{digits}
use Rattle.std.specs.List.{list_all, list_any, range_with_len}
use Rattle.std.specs.Option.{is_none, unwrap_or}
use Rattle.std.specs.Str.{bytes_eq}
use Rattle.mc_text.specs.NameLists.{place_of}
use Rattle.mc_script.proofs.Apart.{is_word}
use Rattle.mc_program_lines.specs.WordLists.{has_repeat}
use Rattle.mc_lines.specs.Meaning.{version_of}
use Rattle.mc_lines.specs.Rules.{codec_words, has_bad_version}
use Rattle.mc_scene.specs.Chains.{run_codecs}
use Rattle.mc_scene.specs.Groups.{numbered_codec}
use Rattle.mc_scene.specs.declared.chains.CodecRun.{CodecRun}
use Rattle.mc_scene_laws.specs.ChainTexts.{IsRun, eight_codecs}
use Rattle.mc_scene_laws.proofs.Ranges.{below_limit, both_true, le_true}

-- the words of a run
abbrev pub run_words : CodecRun → List (List ℕ)
run_words run = map numbered_codec (run_codecs run)

abbrev pub codecs_read : List (List ℕ) → List ℕ
codecs_read some = map (λ word. unwrap_or (place_of eight_codecs word) 0) (codec_words some)

abbrev pub strange_among : List (List ℕ) → Bool
strange_among some = list_any (λ word. is_none (place_of eight_codecs word)) (codec_words some)

-- what is asked of a run's words, and what they say
pub record IsRead (run : CodecRun) : Type 0 where
  pub known : strange_among (run_words run) ≡ false
  pub version : has_bad_version (run_words run) ≡ false
  pub first : version_of (run_words run) ≡ 1
  pub once : has_repeat (codec_words (run_words run)) ≡ false
  pub few : nat_lt 8 (length (codec_words (run_words run))) ≡ false
  pub numbers : codecs_read (run_words run) ≡ run_codecs run
  pub are_words : list_all is_word (run_words run) ≡ true
  pub short : length (run_words run) ≤ 4

abbrev words_pass : List (List ℕ) → List ℕ → Bool
words_pass some codecs =
    not (strange_among some) && (not (has_bad_version some) && ((version_of some == 1) && (not (has_repeat (codec_words some)) && (not (nat_lt 8 (length (codec_words some)))
    && (bytes_eq (codecs_read some) codecs && (list_all is_word some && nat_le (length some) 4))))))

abbrev run_passes : CodecRun → Bool
run_passes run = words_pass (run_words run) (run_codecs run)

abbrev runs_pass : ℕ → Bool
runs_pass more = list_all (λ first. run_passes (record { count = more + 1; first = first })) (range_with_len 0 8)

all_runs : list_all runs_pass (range_with_len 0 4) ≡ true
unfolding digits
all_runs = refl

not_true : (b : Bool) → not b ≡ true → b ≡ false
not_true true is = absurd (cc)
not_true false is = refl

words_read : (some : List (List ℕ)) (codecs : List ℕ) → words_pass some codecs ≡ true
    → (strange_among some ≡ false) × (has_bad_version some ≡ false) × (version_of some ≡ 1) × (has_repeat (codec_words some) ≡ false) × (nat_lt 8 (length (codec_words some)) ≡ false) × (codecs_read some ≡ codecs) × (list_all is_word some ≡ true) × (length some ≤ 4)
words_read some codecs pass =
    let one = both_true (not (strange_among some)) _ pass in
    let two = both_true (not (has_bad_version some)) _ one.1 in
    let three = both_true (version_of some == 1) _ two.1 in
    let four = both_true (not (has_repeat (codec_words some))) _ three.1 in
    let five = both_true (not (nat_lt 8 (length (codec_words some)))) _ four.1 in
    let six = both_true (bytes_eq (codecs_read some) codecs) _ five.1 in
    let seven = both_true (list_all is_word some) (nat_le (length some) 4) six.1 in (
      not_true (strange_among some) one.0,
      not_true (has_bad_version some) two.0,
      eqb-true (version_of some) 1 three.0,
      not_true (has_repeat (codec_words some)) four.0,
      not_true (nat_lt 8 (length (codec_words some))) five.0,
      (bytes_eq-Decides (codecs_read some) codecs).0 six.0,
      seven.0,
      le_true (length some) 4 seven.1,
    )

-- each run passes
run_is_good : (run : CodecRun) → IsRun run → run_passes run ≡ true
run_is_good run is =
    let least = is.some in
    let most = is.few in
    let known = is.known in
    let counted : run.count - 1 + 1 ≡ run.count = omega arith in
    subst (λ (n : ℕ). run_passes (record { count = n; first = run.first }) ≡ true) counted
    (below_limit (λ first. run_passes (record { count = run.count - 1 + 1; first = first })) 8 run.first (below_limit runs_pass 4 (run.count - 1) all_runs (omega arith)) known)

pub run_is_read : (run : CodecRun) → IsRun run → IsRead run
run_is_read run is =
    let parts = words_read (run_words run) (run_codecs run) (run_is_good run is) in
    record { known = parts.0; version = parts.1; first = parts.2; once = parts.3; few = parts.4; numbers = parts.5; are_words = parts.6; short = parts.7 }
