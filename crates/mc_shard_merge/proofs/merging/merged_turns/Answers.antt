use Rattle.std.proofs.Common.{◌∙◌, List, ap, map}
use Rattle.mc_shard_merge.specs.Compared.{journals_of}
use Rattle.mc_shard_merge.specs.Stamped.{bare_turn}
use Rattle.mc_shard_merge.specs.Turns.{names_of}
use Rattle.mc_shard_merge.specs.declared.stamped.StampedTurn.{StampedTurn}
use Rattle.mc_shard_merge.proofs.Runs.{are_merged, are_run}
use Rattle.mc_shard_merge.proofs.merging.merged_turns.Goals as goal

pub returns-clause-merged : goal.returns-clause-merged
returns-clause-merged c =
    are_merged (journals_of c.args.journals.now) (names_of c.args.names.now) c.in_ok-bare_turns.field-0.items
    (c.in_ok-bare_turns.ensures ∙ ap (λ (l : List StampedTurn). map bare_turn l) (c.deref.ensures.value ∙ c.in_ok-stamped.ensures))

pub returns-clause-run : goal.returns-clause-run
returns-clause-run c =
    are_run (journals_of c.args.journals.now) (names_of c.args.names.now) c.in_ok-bare_turns.field-0.items
    (are_merged (journals_of c.args.journals.now) (names_of c.args.names.now) c.in_ok-bare_turns.field-0.items
    (c.in_ok-bare_turns.ensures ∙ ap (λ (l : List StampedTurn). map bare_turn l) (c.deref.ensures.value ∙ c.in_ok-stamped.ensures)))
