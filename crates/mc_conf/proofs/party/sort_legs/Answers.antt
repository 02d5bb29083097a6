use Rattle.std.proofs.Common.{rules}
use Rattle.std.proofs.lemmas.List.Sorted.{answers_always}
use Rattle.mc_conf.specs.declared.party.Leg.{Leg}
use Rattle.mc_conf.proofs.Sorting.{sorted_is}
use Rattle.mc_conf.proofs.party.sort_legs.Goals as goal

pub returns : goal.returns
returns c =
    sorted_is c.args.found.now.items c.sort_by_key.new.self.items
    (c.in_ok-sort_by_key.ensures.sorted (λ (leg : Leg). leg.party.slot) (answers_always _ _ _ (λ f a r g h. search rules)))
    (c.in_ok-sort_by_key.ensures.stable (λ (leg : Leg). leg.party.slot) (answers_always _ _ _ (λ f a r g h. search rules)))
