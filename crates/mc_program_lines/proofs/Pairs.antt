-- The goals of a part while lines give more of them: links stay mutual.
use Rattle.std.proofs.Common.{◌≡◌, ◌≢◌, inl, inr, ℕ, ◌<◌, List, length, Option, Some, None, slice_index_or, slice_set, sym, ◌∙◌, subst}
use Rattle.std.proofs.lemmas.Bool.{cases_eq}
use Rattle.std.proofs.lemmas.List.{get_or-set_other, get_or-set_same, length-set}
use Rattle.mc_signal.specs.declared.Medium.{Medium}
use Rattle.mc_signal.specs.declared.Medium.TheVariants.{Audio}
use Rattle.mc_slot.specs.declared.Goal.{Goal}
use Rattle.mc_slot.specs.declared.SlotGoal.{SlotGoal}
use Rattle.mc_slot.specs.declared.SlotGoal.TheVariants.{End, Link}
use Rattle.mc_program_lines.specs.Finished.{ArePaired, IsPaired}

-- a slot that had no goal is no link's partner, so the link stays when it gets one
still_paired : (media : List Medium) (goals : List (Option SlotGoal)) (k : ℕ) (goal : SlotGoal) (local : ℕ) (x : Option SlotGoal) → IsPaired media goals k goal → slice_index_or goals local None ≡ None → IsPaired media (slice_set goals local x) k goal
still_paired media goals k (End goal) local x paired free = tt
still_paired media goals k (Link partner) local x paired free =
    let apart : partner ≢ local = λ same. let here : slice_index_or goals local None ≡ Some (Link k) = subst (λ (n : ℕ). slice_index_or goals n None ≡ Some (Link k)) same paired.1 in absurd (let clash : None ≡ Some (Link k) = sym free ∙ here in cc) in
    (paired.0, get_or-set_other goals local partner x None apart ∙ paired.1, paired.2)

same_goal : (goal other : SlotGoal) → Some goal ≡ Some other → goal ≡ other
same_goal goal other same = cc

-- an end more
pub end_paired : (media : List Medium) (goals : List (Option SlotGoal)) (local : ℕ) (goal : Goal) → ArePaired media goals → local < length goals → slice_index_or goals local None ≡ None → ArePaired media (slice_set goals local (Some (End goal)))
end_paired media goals local goal paired within free k given is = elim (cases_eq k local) [
  | inl same ↦
      let here : slice_index_or (slice_set goals local (Some (End goal))) local None ≡ Some given = subst (λ (n : ℕ). slice_index_or (slice_set goals local (Some (End goal))) n None ≡ Some given) same is in
      let end : End goal ≡ given = same_goal (End goal) given (sym (get_or-set_same goals local (Some (End goal)) None within) ∙ here) in
      subst (λ (g : SlotGoal). IsPaired media (slice_set goals local (Some (End goal))) k g) end tt
  | inr apart ↦ still_paired media goals k given local (Some (End goal)) (paired k given (sym (get_or-set_other goals local k (Some (End goal)) None apart) ∙ is)) free
]

module _ (media : List Medium) (goals : List (Option SlotGoal)) (a b : ℕ) (paired : ArePaired media goals) (first : a < length goals) (second : b < length goals) (differ : a ≢ b)
    (free : slice_index_or goals a None ≡ None) (far_free : slice_index_or goals b None ≡ None) (alike : slice_index_or media a Audio ≡ slice_index_or media b Audio) where
  abbrev with_one : List (Option SlotGoal)
  with_one = slice_set goals a (Some (Link b))

  abbrev with_both : List (Option SlotGoal)
  with_both = slice_set (slice_set goals a (Some (Link b))) b (Some (Link a))

  at_second : slice_index_or with_both b None ≡ Some (Link a)
  at_second = get_or-set_same with_one b (Some (Link a)) None (subst (λ (n : ℕ). b < n) (sym (length-set goals a (Some (Link b)))) second)

  at_first : slice_index_or with_both a None ≡ Some (Link b)
  at_first = get_or-set_other with_one b a (Some (Link a)) None differ ∙ get_or-set_same goals a (Some (Link b)) None first

  elsewhere : (k : ℕ) (given : SlotGoal) → k ≢ a → k ≢ b → slice_index_or with_both k None ≡ Some given → IsPaired media with_both k given
  elsewhere k given no_first no_second is =
      let before : slice_index_or goals k None ≡ Some given = sym (get_or-set_other goals a k (Some (Link b)) None no_first) ∙ (sym (get_or-set_other with_one b k (Some (Link a)) None no_second) ∙ is) in
      still_paired media with_one k given b (Some (Link a)) (still_paired media goals k given a (Some (Link b)) (paired k given before) free)
      (get_or-set_other goals a b (Some (Link b)) None (λ same. differ (sym same)) ∙ far_free)

  -- a link more
  pub link_paired : ArePaired media (slice_set (slice_set goals a (Some (Link b))) b (Some (Link a)))
  link_paired k given is = elim (cases_eq k b) [
    | inl same ↦
        let here : slice_index_or with_both b None ≡ Some given = subst (λ (n : ℕ). slice_index_or with_both n None ≡ Some given) same is in
        let link : Link a ≡ given = same_goal (Link a) given (sym at_second ∙ here) in
        subst (λ (g : SlotGoal). IsPaired media with_both k g) link (subst (λ (n : ℕ). IsPaired media with_both n (Link a)) (sym same) (differ, at_first, alike))
    | inr no_second ↦ elim (cases_eq k a) [
      | inl same ↦
          let here : slice_index_or with_both a None ≡ Some given = subst (λ (n : ℕ). slice_index_or with_both n None ≡ Some given) same is in
          let link : Link b ≡ given = same_goal (Link b) given (sym at_first ∙ here) in
          subst (λ (g : SlotGoal). IsPaired media with_both k g) link (subst (λ (n : ℕ). IsPaired media with_both n (Link b)) (sym same) ((λ back. differ (sym back)), at_second, sym alike))
      | inr no_first ↦ elsewhere k given no_first no_second is
    ]
  ]
