-- The names of the boxes of chains: each is a name, and the numbers of its chain and its place can be told from it.
use Rattle.std.proofs.Common.{◌≡◌, ℕ, zero, suc, ◌+◌, ◌-◌, ◌*◌, ◌<◌, ◌==◌, Bool, true, ◌&&◌, if◌then◌else◌, List, [], ◌∷◌, ◌++◌, codes, length, slice_index_or, take, refl, sym, ap, ◌∙◌, arith}
use Rattle.std.proofs.lemmas.Bool.{eqb-true}
use Rattle.std.specs.Fmt.{decimal, digits}
use Rattle.std.specs.List.{list_all, range_with_len}
use Rattle.std.specs.Str.Parse.{digits_value}
use Rattle.mc_text.specs.Spelling.{is_name}
use Rattle.mc_scene.specs.Groups.{feature_letter}
use Rattle.mc_scene_laws.specs.ChainTexts.{IsRun}
use Rattle.mc_scene_laws.specs.Posts.{Post, at_left, at_right, between, post_name}
use Rattle.mc_scene_laws.proofs.Ranges.{below_limit, both_true}

-- boxes are numbered, with five numbers for each chain
abbrev pub post_key : Post → ℕ
post_key (at_left chain) = 5 * chain.number
post_key (between chain place) = 5 * chain.number + (place + 1)
post_key (at_right chain) = 5 * chain.number + 4

-- a box of one of few chains
abbrev pub IsPlaced : Post → Type 0
IsPlaced (at_left chain) = (chain.number < 50) × IsRun chain.left
IsPlaced (between chain place) = (chain.number < 50) × (place < 3)
IsPlaced (at_right chain) = (chain.number < 50) × IsRun chain.right

-- ---- the number of a name

abbrev key_by : ℕ → List ℕ → ℕ
key_by first others =
    if first == 108 then 5 * digits_value 10 others
    else (if first == 114 then 5 * digits_value 10 others + 4
    else 5 * digits_value 10 (take (length others - 1) others) + (slice_index_or others (length others - 1) 0 - 96))

abbrev name_key : List ℕ → ℕ
name_key [] = 0
name_key (first ∷ others) = key_by first others

-- it is a name, and has this number
abbrev is_name_of : ℕ → List ℕ → Bool
is_name_of key name = is_name name && (name_key name == key)

abbrev left_is : ℕ → Bool
left_is number = is_name_of (5 * number) (codes "l" ++ decimal number)

abbrev right_is : ℕ → Bool
right_is number = is_name_of (5 * number + 4) (codes "r" ++ decimal number)

abbrev feature_is : ℕ → ℕ → Bool
feature_is place number = is_name_of (5 * number + (place + 1)) (codes "f" ++ decimal number ++ feature_letter place)

all_left : list_all left_is (range_with_len 0 50) ≡ true
unfolding digits
all_left = refl

all_right : list_all right_is (range_with_len 0 50) ≡ true
unfolding digits
all_right = refl

first_features : list_all (feature_is 0) (range_with_len 0 50) ≡ true
unfolding digits
first_features = refl

second_features : list_all (feature_is 1) (range_with_len 0 50) ≡ true
unfolding digits
second_features = refl

third_features : list_all (feature_is 2) (range_with_len 0 50) ≡ true
unfolding digits
third_features = refl

feature_by : (number place : ℕ) → number < 50 → place < 3 → feature_is place number ≡ true
feature_by number zero within few = below_limit (feature_is 0) 50 number first_features within
feature_by number (suc zero) within few = below_limit (feature_is 1) 50 number second_features within
feature_by number (suc (suc zero)) within few = below_limit (feature_is 2) 50 number third_features within
feature_by number (suc (suc (suc place))) within few = absurd (omega arith)

named_by : (post : Post) → IsPlaced post → is_name_of (post_key post) (post_name post) ≡ true
named_by (at_left chain) placed = below_limit left_is 50 chain.number all_left placed.0
named_by (between chain place) placed = feature_by chain.number place placed.0 placed.1
named_by (at_right chain) placed = below_limit right_is 50 chain.number all_right placed.0

-- the name of a box is one
pub post_is_named : (post : Post) → IsPlaced post → is_name (post_name post) ≡ true
post_is_named post placed = (both_true (is_name (post_name post)) (name_key (post_name post) == post_key post) (named_by post placed)).0

key_is : (post : Post) → IsPlaced post → name_key (post_name post) ≡ post_key post
key_is post placed = eqb-true (name_key (post_name post)) (post_key post) (both_true (is_name (post_name post)) (name_key (post_name post) == post_key post) (named_by post placed)).1

-- boxes of one name have one number
pub same_key : (post other : Post) → IsPlaced post → IsPlaced other → post_name post ≡ post_name other → post_key post ≡ post_key other
same_key post other placed too same = sym (key_is post placed) ∙ (ap name_key same ∙ key_is other too)

pub few_keys : (post : Post) → IsPlaced post → post_key post < 250
few_keys (at_left chain) placed = let n = placed.0 in omega arith
few_keys (between chain place) placed = let n = placed.0 in let p = placed.1 in omega arith
few_keys (at_right chain) placed = let n = placed.0 in omega arith
