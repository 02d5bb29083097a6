-- Clocks over two goes, and of a turn.
use Rattle.std.proofs.Common.{◌≡◌, ◌⊎◌, inl, inr, ℕ, ◌+◌, ◌<◌, max, List, [], ◌∷◌, ◌++◌, refl, ap, sym, ◌∙◌, subst, arith}
use Rattle.std.specs.List.{Contains}
use Rattle.std.proofs.Math.ListN.{get_or}
use Rattle.std.proofs.lemmas.Bool.{cases_lt}
use Rattle.std.proofs.lemmas.List.{map-append}
use Rattle.std.proofs.lemmas.List.Elements.{Contains-append_cases, Contains-append_left, Contains-append_right}
use Rattle.mc_model.specs.Worlds.{WorldState}
use Rattle.mc_merge.specs.Account.{PartState}
use Rattle.mc_merge.specs.Clocks.{ClocksJoin, IsClocked, IsHeardStamp, IsMadeStamp, TurnsAreClocked, item_stamps, own_stamps}
use Rattle.mc_merge.specs.Logs.{Own}
use Rattle.mc_merge.specs.Turns.{no_items}
use Rattle.mc_merge.specs.Steps.{ComesIn, GoesOut, RingsAreClocked, at_lane}
use Rattle.mc_merge.proofs.Clocks.{none_there}
use Rattle.mc_merge.proofs.Rings.{all_there, here}
use Rattle.std.specs.List.{AllByRecursion}
use Rattle.mc_port.specs.declared.stamped.Stamped.{Stamped}

own_left : (log log_2 : List Own) (s : ℕ) → Contains (own_stamps log) s → Contains (own_stamps (log ++ log_2)) s
own_left log log_2 s has =
    subst (λ (l : List ℕ). Contains l s) (sym (map-append (λ (own : Own). own.entry.stamp) log log_2)) (Contains-append_left (own_stamps log) (own_stamps log_2) s has)

own_right : (log log_2 : List Own) (s : ℕ) → Contains (own_stamps log_2) s → Contains (own_stamps (log ++ log_2)) s
own_right log log_2 s has =
    subst (λ (l : List ℕ). Contains l s) (sym (map-append (λ (own : Own). own.entry.stamp) log log_2)) (Contains-append_right (own_stamps log) (own_stamps log_2) s has)

own_cases : (log log_2 : List Own) (s : ℕ) → Contains (own_stamps (log ++ log_2)) s → Contains (own_stamps log) s ⊎ Contains (own_stamps log_2) s
own_cases log log_2 s has = Contains-append_cases (own_stamps log) (own_stamps log_2) s (subst (λ (l : List ℕ). Contains l s) (map-append (λ (own : Own). own.entry.stamp) log log_2) has)

item_left : (items items_2 : List Stamped) (s : ℕ) → Contains (item_stamps items) s → Contains (item_stamps (items ++ items_2)) s
item_left items items_2 s has =
    subst (λ (l : List ℕ). Contains l s) (sym (map-append (λ (item : Stamped). item.stamp) items items_2)) (Contains-append_left (item_stamps items) (item_stamps items_2) s has)

item_right : (items items_2 : List Stamped) (s : ℕ) → Contains (item_stamps items_2) s → Contains (item_stamps (items ++ items_2)) s
item_right items items_2 s has =
    subst (λ (l : List ℕ). Contains l s) (sym (map-append (λ (item : Stamped). item.stamp) items items_2)) (Contains-append_right (item_stamps items) (item_stamps items_2) s has)

item_cases : (items items_2 : List Stamped) (s : ℕ) → Contains (item_stamps (items ++ items_2)) s → Contains (item_stamps items) s ⊎ Contains (item_stamps items_2) s
item_cases items items_2 s has = Contains-append_cases (item_stamps items) (item_stamps items_2) s (subst (λ (l : List ℕ). Contains l s) (map-append (λ (item : Stamped). item.stamp) items items_2) has)

-- ---- of the first go, of the second

made_first : (a : PartState) (log log_2 : List Own) (s : ℕ) → IsMadeStamp a log s → IsMadeStamp a (log ++ log_2) s
made_first a log log_2 s made = elim made [
  | inl is ↦ inl is
  | inr has ↦ inr (own_left log log_2 s has)
]

made_second : (a b : PartState) (log log_2 : List Own) (s : ℕ) → IsMadeStamp a log b.stamp → IsMadeStamp b log_2 s → IsMadeStamp a (log ++ log_2) s
made_second a b log log_2 s before made = elim made [
  | inl is ↦ subst (λ (n : ℕ). IsMadeStamp a (log ++ log_2) n) is (made_first a log log_2 b.stamp before)
  | inr has ↦ inr (own_right log log_2 s has)
]

heard_first : (a : PartState) (gave gave_2 : ℕ → List Stamped) (s : ℕ) → IsHeardStamp a gave s → IsHeardStamp a (λ lane. gave lane ++ gave_2 lane) s
heard_first a gave gave_2 s heard = elim heard [
  | inl is ↦ inl is
  | inr has ↦ inr (has.0, item_left (gave has.0) (gave_2 has.0) s has.1)
]

heard_second : (a b : PartState) (gave gave_2 : ℕ → List Stamped) (s : ℕ) → IsHeardStamp a gave b.heard → IsHeardStamp b gave_2 s → IsHeardStamp a (λ lane. gave lane ++ gave_2 lane) s
heard_second a b gave gave_2 s before heard = elim heard [
  | inl is ↦ subst (λ (n : ℕ). IsHeardStamp a (λ lane. gave lane ++ gave_2 lane) n) is (heard_first a gave gave_2 b.heard before)
  | inr has ↦ inr (has.0, item_right (gave has.0) (gave_2 has.0) s has.1)
]

pub clocks_join : ClocksJoin
clocks_join a b c log log_2 gave gave_2 put put_2 one two = record {
  stamp = made_second a b log log_2 c.stamp one.stamp two.stamp;
  heard = heard_second a b gave gave_2 c.heard one.heard two.heard;
  turns = λ k has. elim (own_cases log log_2 (k + 1) has) [
    | inl early ↦ elim (one.turns k early) [
      | inl made ↦ inl (made_first a log log_2 k made)
      | inr heard ↦ inr (heard_first a gave gave_2 k heard)
    ]
    | inr late ↦ elim (two.turns k late) [
      | inl made ↦ inl (made_second a b log log_2 k one.stamp made)
      | inr heard ↦ inr (heard_second a b gave gave_2 k one.heard heard)
    ]
  ];
  puts = λ lane k has. elim (item_cases (put lane) (put_2 lane) k has) [
    | inl early ↦ made_first a log log_2 k (one.puts lane k early)
    | inr late ↦ made_second a b log log_2 k one.stamp (two.puts lane k late)
  ];
}

-- ---- a turn

only : (s x : ℕ) → Contains (s ∷ []) x → s ≡ x
only s x has =
    let first : has.0 < 1 = has.1 in
    let zero_is : has.0 ≡ 0 = omega arith in
    sym (ap (λ (i : ℕ). get_or (s ∷ []) i x) zero_is) ∙ has.2

pub turns_are_clocked : TurnsAreClocked
turns_are_clocked tables a b own turn = record {
  stamp = inr (0, omega arith, sym turn.stamp);
  heard = inl (sym turn.heard);
  turns = λ k has.
      let is : own.entry.stamp ≡ k + 1 = only own.entry.stamp (k + 1) has in
      let next : own.entry.stamp ≡ max a.stamp a.heard + 1 = turn.next in
      elim (cases_lt a.stamp a.heard) [
        | inl less ↦ inr (inl (omega arith))
        | inr no_less ↦ inl (inl (omega arith))
      ];
  puts = λ lane k has. absurd (none_there k has);
}

-- ---- rings

all_one : (items : List Stamped) (s k : ℕ) → AllByRecursion (λ (item : Stamped). item.stamp ≡ s) items → Contains (item_stamps items) k → s ≡ k
all_one [] s k all has = absurd (none_there k has)
all_one (item ∷ items) s k all has = elim (Contains-append_cases (item.stamp ∷ []) (item_stamps items) k has) [
  | inl first ↦
      let is : item.stamp ≡ k = only item.stamp k first in
      let same : item.stamp ≡ s = all.0 in
      sym same ∙ is
  | inr rest ↦ all_one items s k all.1 rest
]

coming : (tables : WorldState) (a b : PartState) (lane : ℕ) (items : List Stamped) → ComesIn tables a b lane items → IsClocked a b [] (at_lane lane items) no_items
coming tables a b lane items come = record {
  stamp = inl (sym come.stamp);
  heard = elim come.from [
    | inl same ↦ inl (sym same)
    | inr has ↦ inr (lane, subst (λ (l : List Stamped). Contains (item_stamps l) b.heard) (sym (here lane items lane refl)) has)
  ];
  turns = λ k has. absurd (none_there (k + 1) has);
  puts = λ other k has. absurd (none_there k has);
}

going : (tables : WorldState) (a b : PartState) (lane : ℕ) (items : List Stamped) → GoesOut tables a b lane items → IsClocked a b [] no_items (at_lane lane items)
going tables a b lane items go = record {
  stamp = inl (sym go.stamp);
  heard = inl (sym go.heard);
  turns = λ k has. absurd (none_there (k + 1) has);
  puts = λ other k has. inl (all_one (at_lane lane items other) a.stamp k (all_there (λ (item : Stamped). item.stamp ≡ a.stamp) lane items other go.stamped) has);
}

pub rings_are_clocked : RingsAreClocked
rings_are_clocked tables a b lane items = (coming tables a b lane items, going tables a b lane items)
