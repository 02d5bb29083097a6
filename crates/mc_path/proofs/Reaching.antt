-- The slots that are reached: the higher end of a path is the lower end of none, since the walk from there leads back.
use Rattle.std.proofs.Common.{◌≡◌, ◌<◌, inl, inr, cond, ℕ, Bool, true, false, nat_lt, Option, Some, None, List, Vec, Global, length, refl, ap, sym, ◌∙◌, subst, arith}
use Rattle.std.specs.Option.{option_and_then, option_map}
use Rattle.std.specs.Vec.{with_items}
use Rattle.std.proofs.Math.ListN.{set}
use Rattle.std.proofs.lemmas.Bool.{cases_eq}
use Rattle.std.proofs.lemmas.Grind.{common_steps}
use Rattle.std.proofs.lemmas.List.{get_or-set_other, length-set, with_items_is}
use Rattle.mc_box.proofs.Options.{map_some}
use Rattle.mc_slot.specs.EndTurn.{is_end_goal}
use Rattle.mc_view.specs.declared.PathView.{PathView}
use Rattle.mc_model.specs.Paths.{PathEnds, from_low, other_end, path_from}
use Rattle.mc_model.specs.Sound.{IsSound}
use Rattle.mc_model.specs.Worlds.{WorldState, goal_of, all_tunnels, slot_count}
use Rattle.mc_path_laws.proofs.Ends.{parts_of}
use Rattle.mc_path_laws.proofs.Returns.{end_back, walk_back}
use Rattle.mc_path.specs.Reached.{AreReached}
use Rattle.mc_path.specs.Views.{view_of}

-- no path leads to a lower slot
none_down : (b : Bool) (end : Option ℕ) (s t : ℕ) → end ≡ Some t → t < s → cond b (option_and_then (from_low s) end) None ≡ None
none_down false end s t is below = refl
none_down true end s t is below = let past : nat_lt s t ≡ false = grind (arith, common_steps) in rw (is, past) refl

-- the higher end of a path is a slot, and no path's lower end
pub record IsHigh (world : WorldState) (s : ℕ) : Type 0 where
  pub inside : s < slot_count world
  pub none : path_from world s ≡ None

high_of : (world : WorldState) (low : ℕ) (path : PathEnds) → IsSound world → low < slot_count world → path_from world low ≡ Some path → IsHigh world path.high
high_of world low path sound inside is =
    let parts = parts_of world low path is in record {
      inside = (walk_back (length (all_tunnels world)) world low path.high sound inside parts.leads).inside;
      none = none_down (is_end_goal (goal_of world path.high)) (other_end world path.high) path.high low (end_back world low path.high sound inside parts.aims parts.leads) parts.below;
    }

-- also by what is shown of the path
pub high_shown : (world : WorldState) (low : ℕ) (view : PathView) → IsSound world → low < slot_count world → option_map (view_of world) (path_from world low) ≡ Some view → IsHigh world view.high.slot
high_shown world low view sound inside is =
    let path = map_some (view_of world) (path_from world low) view is in
    subst (λ (v : PathView). IsHigh world v.high.slot) path.2 (high_of world low path.0 sound inside path.1)

-- so it may be reached
pub reached_more : (world : WorldState) (reached : List Bool) (high : ℕ) → IsHigh world high → AreReached world reached → AreReached world (set reached high true)
reached_more world reached high ends are = record {
  all = length-set reached high true ∙ are.all;
  none = λ s is. elim (cases_eq s high) [
    | inl same ↦ ap (path_from world) same ∙ ends.none
    | inr apart ↦ are.none s (sym (get_or-set_other reached high s true false apart) ∙ is)
  ];
}

-- also where the flags are written as a slice of them all
pub flags_reached : (world : WorldState) (flags : Vec Bool Global) (before after : List Bool) → before ≡ flags.items → length after ≡ length before → AreReached world after
    → AreReached world (with_items flags after).items
flags_reached world flags before after all long are =
    subst (AreReached world) (sym (with_items_is flags after (long ∙ (ap (λ (l : List Bool). length l) all ∙ sym flags.ok.0)))) are
