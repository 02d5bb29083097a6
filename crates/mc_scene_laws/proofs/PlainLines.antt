-- Lines whose bytes break no rule.
use Rattle.std.proofs.Common.{◌≡◌, ℕ, Bool, true, List, Option, Some, None, slice_index_or, refl}
use Rattle.std.proofs.lemmas.List.Sums.{AllPass-from_list_all}
use Rattle.std.specs.List.{All, list_all}
use Rattle.std.specs.Option.{is_none}
use Rattle.mc_script.specs.Rules.{byte_rules, least_broken}
use Rattle.mc_scene_laws.proofs.Entering.{IsPlainLine}

abbrev pub is_plain_line : List ℕ → Bool
is_plain_line line = is_none (least_broken (byte_rules line))

none_is : (o : Option ℕ) → is_none o ≡ true → o ≡ None
none_is None is = refl
none_is (Some n) is = absurd (cc)

pub are_plain : (ls : List (List ℕ)) → list_all is_plain_line ls ≡ true → All IsPlainLine ls
are_plain ls all k d within = none_is (least_broken (byte_rules (slice_index_or ls k d))) (AllPass-from_list_all is_plain_line ls all k d within)
