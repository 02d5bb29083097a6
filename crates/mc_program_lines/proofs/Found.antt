-- Values that come of values, and names that are found.
use Rattle.std.proofs.Common.{◌≡◌, ℕ, ◌<◌, List, length, Option, Some, None, refl, arith}
use Rattle.std.specs.List.{position_or_len}
use Rattle.std.specs.Option.{option_and_then, option_map}
use Rattle.std.specs.Str.{bytes_eq}
use Rattle.mc_text.specs.NameLists.{place_of}

-- a value that was mapped is a value
pub mapped : {A B : Type 0} (f : A → B) (o : Option A) (y : B) → option_map f o ≡ Some y → (x : A) × (o ≡ Some x) × (y ≡ f x)
mapped f None y e = absurd cc
mapped f (Some x) y e = (x, refl, cc)

-- what came of a value
pub chained : {A B : Type 0} (f : A → Option B) (o : Option A) (y : B) → option_and_then f o ≡ Some y → (x : A) × (o ≡ Some x) × (f x ≡ Some y)
chained f None y e = absurd cc
chained f (Some x) y e = (x, refl, e)

-- a name that is found is one of those that there are
pub found_within : (names : List (List ℕ)) (name : List ℕ) (place : ℕ) → place_of names name ≡ Some place → place < length names
found_within names name place found =
    let is : place ≡ position_or_len (bytes_eq name) names = grind arith in
    let within : position_or_len (bytes_eq name) names < length names = grind arith in
    rw is within

pub named_within : (names : List (List ℕ)) (word : Option (List ℕ)) (place : ℕ) → option_and_then (place_of names) word ≡ Some place → place < length names
named_within names None place found = absurd cc
named_within names (Some word) place found = found_within names word place found
