-- What a path is where nothing is under way, over however many tunnels: closed, or flowing with ends that hear each other.
use Rattle.std.proofs.Common.{◌≡◌, ◌<◌, ◌+◌, ◌⊎◌, inl, inr, ℕ, zero, suc, true, false, nat_lt, Option, Some, None, IsTrue, List, [], ◌∷◌, All, length, refl, ap, sym, ◌∙◌, subst, arith}
use Rattle.std.specs.List.{cons_option, enumerate_from, filter_map}
use Rattle.std.specs.Option.{option_and_then}
use Rattle.std.proofs.lemmas.List.Elements.{All-nil, All-cons}
use Rattle.mc_signal.specs.declared.Descriptor.{Descriptor}
use Rattle.mc_signal.specs.declared.Sender.{Sender}
use Rattle.mc_slot.specs.EndTurn.{is_end_goal, IsAtRest, owes}
use Rattle.mc_slot.specs.declared.Goal.{Goal}
use Rattle.mc_slot.specs.declared.Goal.TheVariants.{Open as ToOpen, Close as ToClose}
use Rattle.mc_slot.specs.declared.Slot.{Slot}
use Rattle.mc_slot.specs.declared.SlotGoal.{SlotGoal}
use Rattle.mc_slot.specs.declared.SlotGoal.TheVariants.{End, Link}
use Rattle.mc_slot.specs.declared.State.{State}
use Rattle.mc_slot.specs.declared.State.TheVariants.{Closed, Flowing}
use Rattle.mc_box.specs.Boxes.{slot_owes}
use Rattle.mc_box.proofs.Options.{if_some, then_some}
use Rattle.mc_model.specs.PathTable.{Hears}
use Rattle.mc_model.specs.Paths.{PathEnds, end_goal, both_sides, end_after, end_goal_of, from_low, other_end, path_from, walk}
use Rattle.mc_model.specs.Settles.{is_quiet}
use Rattle.mc_model.specs.Sound.{IsSound}
use Rattle.mc_model.specs.Worlds.{WorldState, far, goal_of, all_tunnels, own_descriptor, own_sender, places, slot_count, slot_of}
use Rattle.mc_laws.proofs.ActedWorlds.{far_inside}
use Rattle.mc_path_laws.specs.PathLaws.{AreIn, HearEachOther, IsQuietPath, QuietPaths}
use Rattle.mc_path_laws.proofs.Chains.{AllAre, FlowingChain, end_is, last_slot, quiet_chain}
use Rattle.mc_path_laws.proofs.QuietWalks.{AllIn, Beyond, beyond, both_and, end_of, end_rests, quiet_tunnel}

-- ---- ends at rest

-- an end that closes doesn't flow
never_flows : (a : Slot) (own : Descriptor) (me : Sender) → IsAtRest ToClose a own me → a.state ≡ Flowing → ⊥
never_flows a own me rest is = grind (arith)

-- an end that opens and owes no retry isn't closed
never_closed : (a : Slot) → owes ToOpen a ≡ false → a.state ≡ Closed → ⊥
never_closed a none is = grind (arith)

-- it owes by its goal
owes_at : (goal : SlotGoal) (slot : Slot) → end_goal_of goal ≡ ToOpen → slot_owes goal slot ≡ false → owes ToOpen slot ≡ false
owes_at (End goal) slot is none = ap (λ (g : Goal). owes g slot) (sym is) ∙ none
owes_at (Link partner) slot is none = absurd (cc)

-- a slot is at rest by this goal
abbrev Rests : WorldState → ℕ → Goal → Type 0
Rests world s goal = IsAtRest goal (slot_of world s) (own_descriptor world s) (own_sender world s)

-- ---- the ends of a path, and its slots

-- the two ends are closed, or flow and hear each other
abbrev Alike : WorldState → ℕ → ℕ → Type 0
Alike world s t = AreIn world (record { low = s; high = t }) Closed ⊎ (AreIn world (record { low = s; high = t }) Flowing × HearEachOther world (record { low = s; high = t }))

-- closed, if one of the ends doesn't flow
then_closed : (world : WorldState) (s t : ℕ) → Alike world s t → (AreIn world (record { low = s; high = t }) Flowing → ⊥) → AreIn world (record { low = s; high = t }) Closed
then_closed world s t (inl closed) never = closed
then_closed world s t (inr flowing) never = absurd (never flowing.0)

-- flowing, if one of them isn't closed
then_flowing : (world : WorldState) (s t : ℕ) → Alike world s t → (AreIn world (record { low = s; high = t }) Closed → ⊥) → AreIn world (record { low = s; high = t }) Flowing
then_flowing world s t (inl closed) never = absurd (never closed)
then_flowing world s t (inr flowing) never = flowing.0

-- the ends are alike, and the slots that a walk within so many tunnels goes over are as they are
record IsAlikeAlong (world : WorldState) (most s t : ℕ) : Type 0 where
  ends : Alike world s t
  along : (state : State) → (slot_of world s).state ≡ state → AllIn world state (both_sides (walk world (Some s) most))

-- a chain's slots are those of a walk
alike_by : (world : WorldState) (most s t : ℕ) (slots : List (Slot × Slot)) → last_slot (slot_of world (far s)) slots ≡ slot_of world t
    → ((state : State) → AllAre state ((slot_of world s, slot_of world (far s)) ∷ slots) → AllIn world state (both_sides (walk world (Some s) most)))
    → AllAre Closed ((slot_of world s, slot_of world (far s)) ∷ slots)
    ⊎ FlowingChain (slot_of world s) (slot_of world (far s)) slots (own_descriptor world s) (own_descriptor world t) (own_sender world s) (own_sender world t)
    → IsAlikeAlong world most s t
alike_by world most s t slots last all (inl closed) = record {
  ends = inl (record { low = closed.0; high = ap (λ (a : Slot). a.state) (sym last) ∙ end_is Closed slots (slot_of world (far s)) closed.1 closed.2 });
  along = λ state is. subst (λ (st : State). AllIn world st (both_sides (walk world (Some s) most))) (sym closed.0 ∙ is) (all Closed closed);
}
alike_by world most s t slots last all (inr flows) = record {
  ends = inr (
    record { low = flows.0.0; high = ap (λ (a : Slot). a.state) (sym last) ∙ end_is Flowing slots (slot_of world (far s)) flows.0.1 flows.0.2 },
    record {
      low = flows.1;
      high = subst (λ (a : Slot). Hears a (own_descriptor world t) (own_descriptor world s) (own_sender world s)) last flows.2;
    },
  );
  along = λ state is. subst (λ (st : State). AllIn world st (both_sides (walk world (Some s) most))) (sym flows.0.0 ∙ is) (all Flowing flows.0);
}

-- from a tunnel on, by what is beyond it
alike_beyond : (world : WorldState) (most s t : ℕ) → IsSound world → IsTrue (is_quiet world) → s < slot_count world → goal_of world s ≡ End (end_goal world s)
    → Beyond world most (far s) t → IsAlikeAlong world (suc most) s t
alike_beyond world most s t sound quiet inside aims more =
    alike_by world (suc most) s t more.slots more.last (λ state are. both_and world most s state are.0 are.1 (more.all state are.2))
    (quiet_chain (end_goal world s) (end_goal world t) (own_descriptor world s) (own_descriptor world t) (own_sender world s) (own_sender world t) (slot_of world s) (slot_of world (far s)) more.slots
    (quiet_tunnel world s sound quiet inside) more.joined (end_rests world s sound inside aims)
    (subst (λ (a : Slot). IsAtRest (end_goal world t) a (own_descriptor world t) (own_sender world t)) (sym more.last) (end_rests world t sound more.inside more.aims)))

-- what a walk from an end leads to: slots that are alike, and an end
record Leads (world : WorldState) (most s t : ℕ) : Type 0 where
  alike : IsAlikeAlong world most s t
  inside : t < slot_count world
  aims : goal_of world t ≡ End (end_goal world t)

-- from an end, by the tunnels that the walk may go over
walk_leads : (most : ℕ) (world : WorldState) (s t : ℕ) → IsSound world → IsTrue (is_quiet world) → s < slot_count world → goal_of world s ≡ End (end_goal world s)
    → end_after world (walk world (Some s) most) ≡ Some t → Leads world most s t
walk_leads zero world s t sound quiet inside aims walk = absurd (cc)
walk_leads (suc most) world s t sound quiet inside aims walk =
    let more = beyond most world (far s) t sound quiet (far_inside world s inside) walk in
    record { alike = alike_beyond world most s t sound quiet inside aims more; inside = more.inside; aims = more.aims }

-- ---- a path

-- what holds of a path whose ends are alike and at rest
path_by : (world : WorldState) (s t : ℕ) → Rests world s (end_goal world s) → Rests world t (end_goal world t) → IsAlikeAlong world (length (all_tunnels world)) s t → IsQuietPath world (record { low = s; high = t })
path_by world s t rest_low rest_high alike = record {
  alike = alike.ends;
  along = λ state are. alike.along state are.low;
  low_closes = λ closes. then_closed world s t alike.ends (λ flowing. never_flows (slot_of world s) (own_descriptor world s) (own_sender world s) (subst (Rests world s) closes rest_low) flowing.low);
  high_closes = λ closes. then_closed world s t alike.ends (λ flowing. never_flows (slot_of world t) (own_descriptor world t) (own_sender world t) (subst (Rests world t) closes rest_high) flowing.high);
  low_opens = λ opens none. then_flowing world s t alike.ends (λ closed. never_closed (slot_of world s) (owes_at (goal_of world s) (slot_of world s) opens none) closed.low);
  high_opens = λ opens none. then_flowing world s t alike.ends (λ closed. never_closed (slot_of world t) (owes_at (goal_of world t) (slot_of world t) opens none) closed.high);
}

-- a path from an end to an end
quiet_path : (world : WorldState) (s t : ℕ) → IsSound world → IsTrue (is_quiet world) → s < slot_count world → goal_of world s ≡ End (end_goal world s)
    → Leads world (length (all_tunnels world)) s t → IsQuietPath world (record { low = s; high = t })
quiet_path world s t sound quiet inside aims walk =
    path_by world s t (end_rests world s sound inside aims) (end_rests world t sound walk.inside walk.aims) walk.alike

-- from an end to the end that its walk comes to, whichever of the two is the lower
pub quiet_from : (world : WorldState) (s t : ℕ) → IsSound world → IsTrue (is_quiet world) → s < slot_count world → is_end_goal (goal_of world s) ≡ true → other_end world s ≡ Some t
    → IsQuietPath world (record { low = s; high = t })
quiet_from world s t sound quiet inside aims walk =
    let end = end_of (goal_of world s) aims in
    quiet_path world s t sound quiet inside end (walk_leads (length (all_tunnels world)) world s t sound quiet inside end walk)

-- the path of which a slot is the lower end
path_of : (world : WorldState) (s : ℕ) (path : PathEnds) → IsSound world → IsTrue (is_quiet world) → s < slot_count world → path_from world s ≡ Some path → IsQuietPath world path
path_of world s path sound quiet inside is =
    let begins = if_some (is_end_goal (goal_of world s)) (option_and_then (from_low s) (other_end world s)) path is in
    let leads = then_some (from_low s) (other_end world s) path begins.1 in
    let lower = if_some (nat_lt s leads.0) (Some (record { low = s; high = leads.0 })) path leads.2 in
    let same : record { low = s; high = leads.0 } ≡ path = cc in
    subst (λ (p : PathEnds). IsQuietPath world p) same (quiet_from world s leads.0 sound quiet inside begins.0 leads.1)

-- ---- all paths

-- one more, where there is one
with_first : (P : PathEnds → Type 0) (first : Option PathEnds) (rest : List PathEnds) → ((path : PathEnds) → first ≡ Some path → P path) → All P rest → All P (cons_option first rest)
with_first P None rest here more = more
with_first P (Some path) rest here more = All-cons P path rest (here path refl) more

-- what holds of the path of each slot holds of all
pub each_from : (P : PathEnds → Type 0) (f : ℕ → Option PathEnds) (slots : List (ℕ × ℕ)) (first count : ℕ) → first + length slots ≡ count
    → ((s : ℕ) → s < count → (path : PathEnds) → f s ≡ Some path → P path)
    → All P (filter_map (λ entry. f entry.0) (enumerate_from first slots))
each_from P f [] first count whole each = All-nil P
each_from P f (slot ∷ slots) first count whole each =
    with_first P (f first) (filter_map (λ entry. f entry.0) (enumerate_from (first + 1) slots)) (each first (omega arith)) (each_from P f slots (first + 1) count (omega arith) each)

-- each path of a quiet world is a quiet path
pub quiet_paths : QuietPaths
quiet_paths world sound quiet =
    each_from (IsQuietPath world) (path_from world) (places world) 0 (slot_count world) (omega arith) (λ s inside path is. path_of world s path sound quiet inside is)
