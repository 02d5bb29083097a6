-- Merged turns are a run.
use Rattle.std.proofs.Common.{◌≡◌, ℕ, List, length, Some, sym, ◌∙◌, subst}
use Rattle.mc_box.specs.declared.event.Turn.{Turn}
use Rattle.mc_model.specs.Steps.{run}
use Rattle.mc_shard.specs.Journals.{EntryState}
use Rattle.mc_shard_laws.proofs.Merged.{merged_run}
use Rattle.mc_shard_merge.specs.Turns.{AreMergedTurns, AreRunOfShards, merged_turns, name_of}
use Rattle.mc_shard_merge.proofs.Sorted.{merged_is}

pub are_merged : (journals : List (List EntryState)) (names : List (List ℕ)) (turns : List Turn) → turns ≡ merged_turns journals names → AreMergedTurns journals names turns
are_merged journals names turns is shards have are = is ∙ merged_is (length journals) (name_of names) journals shards have are

pub are_run : (journals : List (List EntryState)) (names : List (List ℕ)) (turns : List Turn) → AreMergedTurns journals names turns → AreRunOfShards journals names turns
are_run journals names turns merged shards have world homes logs boxes rests are named =
    subst (λ (l : List Turn). run world l ≡ Some (record world { boxes = boxes; lanes = rests })) (sym (merged shards have named.journals))
    (merged_run world homes shards logs boxes rests (length journals) (name_of names) are named)
