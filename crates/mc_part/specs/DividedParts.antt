-- What a part of a division is made of, as it is kept.
use Rattle.std.specs.Prelude.{◌≡◌, if◌then◌else◌, ℕ, ◌+◌, ◌-◌, ◌<◌, List, [], ◌∷◌, ◌++◌, length, map, slice_index_or, slice_set, take}
use Rattle.std.specs.List.{range_with_len}
use Rattle.std.specs.declared.alloc.Global.{Global}
use Rattle.std.specs.declared.vec.Vec.{Vec}
use Rattle.mc_model.specs.Worlds.{ChannelState}
use Rattle.mc_part.specs.Divisions.{channel_in, home_at, is_crossing, is_inner, is_part, members}

-- the number of each box in its part
pub record AreNumbersIn (assigned numbers : List ℕ) : Type 0 where
  pub count : length numbers ≡ length assigned
  pub each : (who : ℕ) → who < length assigned → slice_index_or numbers who 0 ≡ (home_at assigned who).1

-- how many boxes a part has
abbrev pub count_of : List ℕ → ℕ → ℕ
count_of assigned part = length (members assigned part)

-- and each of so many parts
abbrev pub counts_of : List ℕ → ℕ → List ℕ
counts_of assigned count = map (count_of assigned) (range_with_len 0 count)

-- a channel joins two of so many boxes
pub record HasBoxes (count : ℕ) (channel : ChannelState) : Type 0 where
  pub from : channel.from < count
  pub to : channel.to < count

-- what some lists have
abbrev pub inner_lists : {A : Type 0} → List (Vec A Global) → List (List A)
inner_lists {A} lists = map (λ (list : Vec A Global). list.items) lists

-- those of some things that are assigned to a part
abbrev pub share_of : {A : Type 0} → List A → List ℕ → ℕ → List A
share_of {A} things [] part = []
share_of {A} [] (other ∷ assigned) part = []
share_of {A} (thing ∷ things) (other ∷ assigned) part = if is_part part other then thing ∷ share_of things assigned part
    else share_of things assigned part

-- what each of so many parts has of them
abbrev pub shares_of : {A : Type 0} → List A → List ℕ → ℕ → List (List A)
shares_of {A} things assigned count = map (share_of things assigned) (range_with_len 0 count)

-- these lists are the shares of such things
pub record AreShared {A : Type 0} (things : List A) (assigned : List ℕ) (lists : List (List A)) : Type 0 where
  pub each : length things ≡ length assigned
  pub shares : lists ≡ shares_of things assigned (length lists)

-- or of some
pub record HasShares {A : Type 0} (assigned : List ℕ) (lists : List (List A)) : Type 0 where
  pub things : List A
  pub shared : AreShared things assigned lists

-- the last thing of one of some lists is taken
pub record IsTaken {A : Type 0} (before after : List (List A)) (part : ℕ) (thing : A) : Type 0 where
  pub value : (d : A) → thing ≡ slice_index_or (slice_index_or before part [])
      (length (slice_index_or before part []) - 1) d
  pub after_is : after ≡ slice_set before part (take (length (slice_index_or before part []) - 1)
      (slice_index_or before part []))

-- one of some lists is longer
abbrev pub with_given : {A : Type 0} → List (List A) → ℕ → A → List (List A)
with_given {A} lists part thing = slice_set lists part (slice_index_or lists part [] ++ thing ∷ [])

-- the channels of a part, with this one where it crosses
abbrev pub with_crossing : List ℕ → ℕ → ℕ → List ChannelState → ChannelState → List ChannelState
with_crossing assigned part boxes made channel = made ++ (if is_crossing assigned part channel
    then channel_in assigned part (boxes + length made) channel ∷ [] else [])

-- and with this one where it is an inner one
abbrev pub with_inner : List ℕ → ℕ → ℕ → List ChannelState → ChannelState → List ChannelState
with_inner assigned part holder made channel = made ++ (if is_inner assigned part channel
    then channel_in assigned part holder channel ∷ [] else [])
