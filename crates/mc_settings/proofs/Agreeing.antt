-- Of worlds that are alike the paths that their goals decide are in the same states.
use Rattle.std.proofs.Common.{◌≡◌, Option, Some, None, IsSome, List, refl, ap, sym, ◌∙◌, subst}
use Rattle.std.proofs.Math.ListN.{get_or}
use Rattle.std.specs.List.{All}
use Rattle.std.specs.Option.{unwrap_or}
use Rattle.mc_signal.specs.declared.Descriptor.{Descriptor}
use Rattle.mc_signal.specs.declared.Sender.{Sender}
use Rattle.mc_slot.specs.declared.Goal.{Goal}
use Rattle.mc_slot.specs.declared.Slot.{Slot}
use Rattle.mc_slot.specs.declared.State.{State}
use Rattle.mc_model.specs.PathTable.{Hears, PathHolds, path_state, table}
use Rattle.mc_model.specs.Paths.{PathEnds, end_goal, paths}
use Rattle.mc_model.specs.Worlds.{WorldState, own_descriptor, own_sender, slot_of}
use Rattle.mc_settings.specs.Alike.{AreAlike, EndsAgree, GotSame, HaveSamePaths}
use Rattle.mc_settings.specs.Batches.{AreDecided, IsDecided}
use Rattle.mc_settings.specs.SettingLaws.{DecidedPathsAgree, HeldPathsAgree}
use Rattle.mc_settings.proofs.SamePaths.{alike_have_same_paths}

-- the table's answer is the same
table_same : (world other : WorldState) (path : PathEnds) → HaveSamePaths world other
    → table (end_goal world path.low) (end_goal world path.high) ≡ table (end_goal other path.low) (end_goal other path.high)
table_same world other path same =
    ap (λ (goal : Goal). table goal (end_goal world path.high)) (same.end_goals path.low) ∙ ap (table (end_goal other path.low)) (same.end_goals path.high)

-- where there is one, nothing stands in for it
decided_by : (answer : Option State) (one two : State) → IsSome answer → unwrap_or answer one ≡ unwrap_or answer two
decided_by (Some state) one two some = refl
decided_by None one two some = absurd (cc)

-- a path that its goals decide
pub path_agrees : (world other : WorldState) (path : PathEnds) → AreAlike world other → IsDecided world path → path_state world path ≡ path_state other path
path_agrees world other path alike decided =
    decided_by (table (end_goal world path.low) (end_goal world path.high)) (slot_of world path.low).state (slot_of other path.low).state decided
    ∙ ap (λ (answer : Option State). unwrap_or answer (slot_of other path.low).state) (table_same world other path (alike_have_same_paths world other alike))

pub decided_paths_agree : DecidedPathsAgree
decided_paths_agree world other alike decided k none below = path_agrees world other (get_or (paths world) k none) alike (decided k none below)

-- so such paths are those of both
pub decided_passes : (world other : WorldState) → AreAlike world other → AreDecided world → AreDecided other
decided_passes world other alike decided =
    let same = alike_have_same_paths world other alike in
    subst (λ (list : List PathEnds). All (IsDecided other) list) same.paths
    (λ k none below. subst (λ (answer : Option State). IsSome answer) (table_same world other (get_or (paths world) k none) same) (decided k none below))

-- ---- paths that hold

-- ends that hear the same last got the same
got_same : (slot other : Slot) (own own_other far far_other : Descriptor) (sender sender_other : Sender) → own ≡ own_other → far ≡ far_other → sender ≡ sender_other
    → Hears slot own far sender → Hears other own_other far_other sender_other → GotSame slot other
got_same slot other own own_other far far_other sender sender_other one two three here there = record { got = cc; chosen = cc }

ends_agree : (world other : WorldState) (path : PathEnds) → HaveSamePaths world other → path_state world path ≡ path_state other path → PathHolds world path → PathHolds other path
    → EndsAgree world other path
ends_agree world other path same state one two = record {
  state = state;
  low = one.low ∙ (state ∙ sym two.low);
  high = one.high ∙ (state ∙ sym two.high);
  low_got = λ flows.
      got_same (slot_of world path.low) (slot_of other path.low) (own_descriptor world path.low) (own_descriptor other path.low) (own_descriptor world path.high) (own_descriptor other path.high)
      (own_sender world path.high) (own_sender other path.high) (same.descriptors path.low) (same.descriptors path.high) (same.senders path.high)
      (one.low_hears flows) (two.low_hears (sym state ∙ flows));
  high_got = λ flows.
      got_same (slot_of world path.high) (slot_of other path.high) (own_descriptor world path.high) (own_descriptor other path.high) (own_descriptor world path.low) (own_descriptor other path.low)
      (own_sender world path.low) (own_sender other path.low) (same.descriptors path.high) (same.descriptors path.low) (same.senders path.low)
      (one.high_hears flows) (two.high_hears (sym state ∙ flows));
}

pub held_paths_agree : HeldPathsAgree
held_paths_agree world other alike decided holds other_holds k none below =
    let same = alike_have_same_paths world other alike in
    let path : PathEnds = get_or (paths world) k none in
    ends_agree world other path same (decided_paths_agree world other alike decided k none below) (holds k none below)
    (subst (λ (list : List PathEnds). All (PathHolds other) list) (sym same.paths) other_holds k none below)
