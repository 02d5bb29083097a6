-- Adding codecs one after the other lists them all, or shows that the words are no list of codecs.
use Rattle.std.proofs.Common.{◌≡◌, ℕ, suc, ◌+◌, ◌<◌, ◌≤◌, Bool, true, false, ◌&&◌, ◌||◌, not, nat_le, nat_eq, List, [], ◌∷◌, ◌++◌, length, map, get_or, Option, Some, None, Contains, refl, sym, ap, ◌∙◌, append_assoc, arith, length-append}
use Rattle.std.proofs.lemmas.Grind.{common_steps}
use Rattle.std.specs.Option.{is_some, unwrap_or}
use Rattle.std.specs.List.{list_all, list_any, position_or_len}
use Rattle.std.specs.Str.{bytes_eq}
use Rattle.std.proofs.lemmas.List.{map_push, append-nil}
use Rattle.std.proofs.lemmas.List.Folds.{list_all-append, list_any-append}
use Rattle.std.proofs.lemmas.List.Sums.{passes_at_first}
use Rattle.std.proofs.lemmas.Slice.Eq.{bytes_eq-Decides}
use Rattle.mc_signal.specs.Choice.{has_codec}
use Rattle.mc_text.specs.NameLists.{NameLists, place_of}
use Rattle.mc_lines.specs.Listing.{can_add, is_codec}
use Rattle.mc_lines.specs.Meaning.{codec_number}
use Rattle.mc_lines.specs.Rules.{lists_undeclared}
use Rattle.mc_program_lines.specs.WordLists.{has_repeat}
use Rattle.mc_lines.specs.declared.limit.TheConstants.{LIST_LIMIT}

-- declared codecs, at most eight and none twice
abbrev pub are_codecs : NameLists → List (List ℕ) → Bool
are_codecs names listed = list_all (is_codec names) listed && not (has_repeat listed) && nat_le (length listed) LIST_LIMIT

-- each of these words names a codec that can be added, once those before it are listed
abbrev pub can_list : NameLists → List ℕ → List (List ℕ) → Bool
can_list names listed [] = true
can_list names listed (word ∷ others) = can_add names listed word && can_list names (listed ++ codec_number names word ∷ []) others

length-map : {A B : Type 0} (f : A → B) (xs : List A) → length (map f xs) ≡ length xs
length-map f [] = refl
length-map f (x ∷ xs) = ap suc (length-map f xs)

-- a codec that the test doesn't find isn't in the list
pub has_codec_contains : (codecs : List ℕ) (codec : ℕ) → has_codec codecs codec ≡ false → Contains codecs codec → ⊥
has_codec_contains codecs codec lacks contained = grind (arith, common_steps)

-- a name stands at the place that is found for it
named : (names : List (List ℕ)) (name : List ℕ) (place : ℕ) → place_of names name ≡ Some place → get_or names place [] ≡ name
named names name place found =
    let is : place ≡ position_or_len (bytes_eq name) names = grind arith in
    let within : position_or_len (bytes_eq name) names < length names = grind arith in
    let same = passes_at_first (bytes_eq name) names [] within in
    rw is (sym ((bytes_eq-Decides name (get_or names (position_or_len (bytes_eq name) names) [])).0 same))

found : (place : Option ℕ) → is_some place ≡ true → place ≡ Some (unwrap_or place 0)
found None none = absurd (cc)
found (Some n) some = refl

-- two words that name codecs name the same one where they are the same word
same_codec : (names : NameLists) (one other : List ℕ) → is_codec names one ≡ true → is_codec names other ≡ true → nat_eq (codec_number names one) (codec_number names other) ≡ bytes_eq one other
same_codec names one other known other_known = by (bytes_eq one other) refl (nat_eq (codec_number names one) (codec_number names other)) refl
  where
    by : (b : Bool) → bytes_eq one other ≡ b → (n : Bool) → nat_eq (codec_number names one) (codec_number names other) ≡ n → nat_eq (codec_number names one) (codec_number names other) ≡ bytes_eq one other
    by true e true f = f ∙ sym e
    by false e false f = f ∙ sym e
    by true e false f = absurd (let same : one ≡ other = (bytes_eq-Decides one other).0 e in let codecs : codec_number names one ≡ codec_number names other = ap (codec_number names) same in grind (arith, codecs))
    by false e true f = absurd (
        let codecs : codec_number names one ≡ codec_number names other = grind arith in
        let here : get_or names.codecs (codec_number names one) [] ≡ one = named names.codecs one (codec_number names one) (found _ known) in
        let there : get_or names.codecs (codec_number names other) [] ≡ other = named names.codecs other (codec_number names other) (found _ other_known) in
        let moved : get_or names.codecs (codec_number names one) [] ≡ get_or names.codecs (codec_number names other) [] = ap (λ (n : ℕ). get_or names.codecs n []) codecs in
        let same : one ≡ other = sym here ∙ moved ∙ there in
        let equal : bytes_eq one other ≡ true = (bytes_eq-Decides one other).1 same in
        let clash : true ≡ false = sym equal ∙ e in
        cc)

has_codec-map : (names : NameLists) (words : List (List ℕ)) (word : List ℕ) → list_all (is_codec names) words ≡ true → is_codec names word ≡ true
    → has_codec (map (codec_number names) words) (codec_number names word) ≡ list_any (λ other. bytes_eq other word) words
has_codec-map names [] word all known = refl
has_codec-map names (first ∷ others) word all known =
    let here : is_codec names first ≡ true = grind arith in
    let rest : list_all (is_codec names) others ≡ true = grind arith in
    rw (same_codec names first word here known, has_codec-map names others word rest known) refl

has_repeat-push : (words : List (List ℕ)) (word : List ℕ) → has_repeat (words ++ word ∷ []) ≡ (has_repeat words || list_any (λ other. bytes_eq other word) words)
has_repeat-push [] word = refl
has_repeat-push (first ∷ others) word = rw (has_repeat-push others word, list_any-append (bytes_eq first) others (word ∷ [])) (grind arith)

has_repeat-front : (words more : List (List ℕ)) → has_repeat words ≡ true → has_repeat (words ++ more) ≡ true
has_repeat-front [] more repeats = absurd (cc)
has_repeat-front (first ∷ others) more repeats = rw (list_any-append (bytes_eq first) others more) (grind (arith, has_repeat-front others more))

-- one word more
are_codecs-push : (names : NameLists) (words : List (List ℕ)) (word : List ℕ) → are_codecs names words ≡ true → are_codecs names (words ++ word ∷ []) ≡ can_add names (map (codec_number names) words) word
are_codecs-push names words word are = by (is_codec names word) refl
  where
    all : list_all (is_codec names) words ≡ true
    all = grind arith

    once : has_repeat words ≡ false
    once = grind arith

    count : length (words ++ word ∷ []) ≡ length words + 1
    count = length-append words (word ∷ [])

    by : (b : Bool) → is_codec names word ≡ b → are_codecs names (words ++ word ∷ []) ≡ can_add names (map (codec_number names) words) word
    by false e = rw (list_all-append (is_codec names) words (word ∷ []), all, e) refl
    by true e = rw (list_all-append (is_codec names) words (word ∷ []), has_repeat-push words word, all, once, e, has_codec-map names words word all e, count, length-map (codec_number names) words) (grind arith)

-- the first of these words are codecs already
are_codecs-front : (names : NameLists) (words more : List (List ℕ)) → are_codecs names words ≡ false → are_codecs names (words ++ more) ≡ false
are_codecs-front names words more fail =
    let repeats : has_repeat words ≡ true → has_repeat (words ++ more) ≡ true = has_repeat-front words more in
    let count : length (words ++ more) ≡ length words + length more = length-append words more in
    rw (list_all-append (is_codec names) words more) (grind arith)

can_list-from : (names : NameLists) (words more : List (List ℕ)) → are_codecs names words ≡ true → can_list names (map (codec_number names) words) more ≡ are_codecs names (words ++ more)
can_list-from names words [] are = rw (append-nil words) (sym are)
can_list-from names words (word ∷ others) are = step (can_add names (map (codec_number names) words) word) refl (can_list-from names (words ++ word ∷ []) others)
  where
    step : (b : Bool) → can_add names (map (codec_number names) words) word ≡ b
        → (are_codecs names (words ++ word ∷ []) ≡ true → can_list names (map (codec_number names) (words ++ word ∷ [])) others ≡ are_codecs names ((words ++ word ∷ []) ++ others))
        → can_list names (map (codec_number names) words) (word ∷ others) ≡ are_codecs names (words ++ word ∷ others)
    step true e more = rw e (rw (← map_push (codec_number names) words word) (more (are_codecs-push names words word are ∙ e) ∙ ap (are_codecs names) (append_assoc words (word ∷ []) others)))
    step false e more = rw e (sym (ap (are_codecs names) (sym (append_assoc words (word ∷ []) others)) ∙ are_codecs-front names (words ++ word ∷ []) others (are_codecs-push names words word are ∙ e)))

-- the words are a list of codecs where each can be added
can_list_all : (names : NameLists) (words : List (List ℕ)) → can_list names [] words ≡ are_codecs names words
can_list_all names words = can_list-from names [] words refl

all_declared : (names : NameLists) (words : List (List ℕ)) → lists_undeclared names words ≡ false → list_all (is_codec names) words ≡ true
all_declared names [] declared = refl
all_declared names (word ∷ others) declared =
    let rest : list_all (is_codec names) others ≡ true = all_declared names others (grind arith) in
    grind arith

-- words that the rules let through can be listed
pub can_list_these : (names : NameLists) (words : List (List ℕ)) → lists_undeclared names words ≡ false → has_repeat words ≡ false → length words ≤ LIST_LIMIT → can_list names [] words ≡ true
can_list_these names words declared different few =
    let all : list_all (is_codec names) words ≡ true = all_declared names words declared in
    can_list_all names words ∙ grind arith
