-- A wide tree of sums: counts, the sums of groups of neighbours, those of groups of these, and so on up to one.
use Rattle.std.specs.Prelude.{◌≡◌, ◌<◌, ◌≤◌, ◌+◌, ◌-◌, ◌^◌, ℕ, List, [], length, map, slice_index_or, slice_set, sum, take, Vec}
use Rattle.std.specs.Fork.{slice_chunk}
use Rattle.std.specs.Int.{div_ceil}
use Rattle.std.specs.declared.alloc.Global.{Global}
use Rattle.mc_sums.specs.declared.levels.TheConstants.{FAN}
use Rattle.mc_sums.specs.declared.limit.TheConstants.{COUNT_LIMIT}

-- the level above another one: each of its numbers is the sum of a group of FAN neighbours there; the last group has
-- what is left
pub record AreGroupSums (level above : List ℕ) : Type 0 where
  pub long : length above ≡ div_ceil (length level) FAN
  pub each : (group : ℕ) → slice_index_or above group 0 ≡ sum (slice_chunk level FAN group)

abbrev pub level_at : List (List ℕ) → ℕ → List ℕ
level_at levels depth = slice_index_or levels depth []

-- the levels, as code keeps them
abbrev pub levels_of : List (Vec ℕ Global) → List (List ℕ)
levels_of levels = map (λ level. level.items) levels

-- one of them
abbrev pub level_of : List (Vec ℕ Global) → ℕ → List ℕ
level_of levels depth = level_at (levels_of levels) depth

-- the counts themselves: the lowest level
abbrev pub counts_of : List (Vec ℕ Global) → List ℕ
counts_of levels = level_of levels 0

-- a level after so many have been taken from a number of it, and so many more given to it
abbrev pub level_after : List ℕ → (place less more : ℕ) → List ℕ
level_after level place less more = slice_set level place (slice_index_or level place 0 - less + more)

-- the levels after that has happened to one of them
abbrev pub levels_after : List (List ℕ) → (depth place less more : ℕ) → List (List ℕ)
levels_after levels depth place less more = slice_set levels depth (level_after (level_at levels depth) place less more)

-- each level has the sums of the one below it, and the last has one number at most, the others more; places fit
pub record AreSums (levels : List (List ℕ)) : Type 0 where
  pub some : 0 < length levels
  pub groups : (depth : ℕ) → depth + 1 < length levels
      → AreGroupSums (level_at levels depth) (level_at levels (depth + 1))
  pub few : (depth : ℕ) → length (level_at levels depth) ≤ 2 ^ 32
  pub many : (depth : ℕ) → depth + 1 < length levels → 1 < length (level_at levels depth)
  pub top : length (level_at levels (length levels - 1)) ≤ 1

-- and no count is great
pub record AreSmallSums (levels : List (List ℕ)) : Type 0 where
  pub sums : AreSums levels
  pub small : (place : ℕ) → slice_index_or (level_at levels 0) place 0 ≤ COUNT_LIMIT

-- two trees with as many places
pub record ArePair (levels others : List (List ℕ)) : Type 0 where
  pub sums : AreSums levels
  pub other_sums : AreSums others
  pub long : length (level_at levels 0) ≡ length (level_at others 0)

-- a level has a k-th from a place on
abbrev pub LiesBehind : List ℕ → (first k : ℕ) → Type 0
LiesBehind level first k = sum (take first level) + k < sum level

-- which stands at another place, with so many of that place's before it
pub record IsKth (level : List ℕ) (first k place rest : ℕ) : Type 0 where
  pub before : sum (take place level) + rest ≡ sum (take first level) + k
  pub within : rest < slice_index_or level place 0

-- the same of two levels
abbrev pub LieBehind : (level other : List ℕ) → (first k : ℕ) → Type 0
LieBehind level other first k = sum (take first level) + sum (take first other) + k < sum level + sum other

pub record AreKth (level other : List ℕ) (first k place rest : ℕ) : Type 0 where
  pub before : sum (take place level) + sum (take place other) + rest
      ≡ sum (take first level) + sum (take first other) + k
  pub within : rest < slice_index_or level place 0 + slice_index_or other place 0
