-- Whether journals agree: what was taken at the one end of a lane was sent at the other.
use Rattle.std.specs.Prelude.{◌≡◌, ◌⊎◌, ℕ, ◌<◌, ◌≤◌, List, [], length, map, slice_get, slice_index_or, take, Some}
use Rattle.std.specs.List.{AllByRecursion}
use Rattle.std.specs.declared.alloc.Global.{Global}
use Rattle.std.specs.declared.vec.Vec.{Vec}
use Rattle.mc_shard.specs.Journals.{AreAllAmong, EntryState, IsAmong, sent_at, taken_at}
use Rattle.mc_shard.specs.declared.entry.AtEnd.{AtEnd}
use Rattle.mc_shard.specs.declared.entry.Numbered.{Numbered}
use Rattle.mc_shard_merge.specs.declared.joined.JoinedEnds.{JoinedEnds}
use Rattle.mc_shard_merge.specs.declared.unjoined.Unjoined.{Unjoined}
use Rattle.mc_shard_merge.specs.declared.unjoined.WhyUnjoined.{WhyUnjoined}
use Rattle.mc_shard_merge.specs.declared.unjoined.WhyUnjoined.TheVariants.{NoShard, NotSent}

-- the journals of shards, by their numbers
abbrev pub journals_of : List (Vec EntryState Global) → List (List EntryState)
journals_of journals = map (λ (journal : Vec EntryState Global). journal.items) journals

-- one that isn't there has no entries
abbrev pub journal_at : List (List EntryState) → ℕ → List EntryState
journal_at journals shard = slice_index_or journals shard []

-- all that was taken from a lane, and all that was sent into it
abbrev pub lane_taken : List (List EntryState) → JoinedEnds → List Numbered
lane_taken journals ends = taken_at ends.into (journal_at journals ends.to)

abbrev pub lane_sent : List (List EntryState) → JoinedEnds → List Numbered
lane_sent journals ends = sent_at ends.out (journal_at journals ends.from)

-- both shards are there
pub record HasShards (journals : List (List EntryState)) (ends : JoinedEnds) : Type 0 where
  pub from : ends.from < length journals
  pub to : ends.to < length journals

-- and each take has its sending
pub record AgreeOn (journals : List (List EntryState)) (ends : JoinedEnds) : Type 0 where
  pub there : HasShards journals ends
  pub sending : AreAllAmong (lane_taken journals ends) (lane_sent journals ends)

-- ---- where they don't

-- an entry took at this end what is none of these
pub record TookUnsent (into : ℕ) (sent : List Numbered) (entry : EntryState) : Type 0 where
  pub at : AtEnd
  pub taken : entry.taken ≡ Some at
  pub here : at.end ≡ into
  pub unsent : IsAmong sent at.item → ⊥

-- the entry at this place is the first that did
pub record IsFirstUnsent (into : ℕ) (journal : List EntryState) (sent : List Numbered) (index : ℕ) : Type 0 where
  pub before : AreAllAmong (taken_at into (take index journal)) sent
  pub entry : EntryState
  pub there : slice_get journal index ≡ Some entry
  pub unsent : TookUnsent into sent entry

-- why journals don't agree on a lane
abbrev pub IsUnjoined : WhyUnjoined → List (List EntryState) → JoinedEnds → Type 0
IsUnjoined NoShard journals ends = (length journals ≤ ends.from) ⊎ (length journals ≤ ends.to)
IsUnjoined (NotSent index) journals ends = HasShards journals ends
    × IsFirstUnsent ends.into (journal_at journals ends.to) (lane_sent journals ends) index

-- they agree on all lanes before the one at this place, and not on this one
pub record IsFirstUnjoined (journals : List (List EntryState)) (joined : List JoinedEnds)
    (fault : Unjoined) : Type 0 where
  pub before : AllByRecursion (AgreeOn journals) (take fault.place joined)
  pub ends : JoinedEnds
  pub there : slice_get joined fault.place ≡ Some ends
  pub why : IsUnjoined fault.why journals ends
