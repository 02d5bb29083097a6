-- Batches that set no link leave a world without links so, and then there is no ring.
use Rattle.std.proofs.Common.{◌≡◌, ◌==◌, ◌||◌, ◌<◌, ◌≤◌, ◌+◌, ◌*◌, if◌then◌else◌, ℕ, zero, suc, Bool, true, false, List, [], ◌∷◌, Option, Some, length, take, refl, ap, sym, ◌∙◌, subst, arith}
use Rattle.std.proofs.Math.ListN.{get_or}
use Rattle.std.specs.List.{enumerate_from, list_any}
use Rattle.std.specs.Option.{is_none}
use Rattle.mc_slot.specs.EndTurn.{is_end_goal}
use Rattle.mc_slot.specs.declared.Goal.{Goal}
use Rattle.mc_slot.specs.declared.Goal.TheVariants.{Close as ToClose}
use Rattle.mc_slot.specs.declared.SlotGoal.{SlotGoal}
use Rattle.mc_slot.specs.declared.SlotGoal.TheVariants.{End, Link}
use Rattle.mc_box.specs.Goals.{goal_after, goals_from}
use Rattle.mc_box.specs.LinkFree.{is_linking}
use Rattle.mc_box.specs.declared.event.Change.TheVariants.{End as NewEnd, Link as NewLink}
use Rattle.mc_box.specs.declared.event.Event.{Event}
use Rattle.mc_box.specs.declared.event.Event.TheVariants.{Take, Set, Media, Tell, Retry, Shift}
use Rattle.mc_box.specs.declared.event.Turn.{Turn}
use Rattle.mc_laws.proofs.TunnelPlaces.{two_each}
use Rattle.mc_laws.proofs.Walks.{end_here}
use Rattle.mc_model.specs.LinkFree.{AllLinkNone, HasNoLinks, LinkNone}
use Rattle.mc_model.specs.Paths.{end_after, other_end, walk}
use Rattle.mc_model.specs.Settles.{commands_of}
use Rattle.mc_model.specs.Worlds.{WorldState, all_tunnels, box_at, far, place, places, slot_count}
use Rattle.mc_settings.specs.Batches.{HasNoRing, commanded_by}
use Rattle.mc_settings.specs.SettingLaws.{LinkFreeLeavesNoRing}
use Rattle.mc_settings.specs.Settings.{Settings, commanded, set_by, set_by_all, settings_of}
use Rattle.mc_settings.proofs.CommandedWorlds.{more_commands, set_if, settings_are}

-- ---- settings without links

-- no slot is linked
abbrev AreUnlinked : Settings → Type 0
AreUnlinked settings = (local : ℕ) → is_end_goal (get_or settings.goals local (End ToClose)) ≡ true

end_by : (here : Bool) (slot : ℕ) (goal : Goal) (old : SlotGoal) → is_end_goal old ≡ true → is_end_goal (if here then End goal else old) ≡ true
end_by true slot goal old is = refl
end_by false slot goal old is = is

end_after_change : (slot local : ℕ) (goal : Goal) (old : SlotGoal) → is_end_goal old ≡ true → is_end_goal (goal_after (NewEnd slot goal) local old) ≡ true
end_after_change slot local goal (End end) is = end_by (local == slot) slot goal (End end) is
end_after_change slot local goal (Link partner) is = absurd cc

ends_from : (goals : List SlotGoal) (slot first : ℕ) (goal : Goal) → ((k : ℕ) → is_end_goal (get_or goals k (End ToClose)) ≡ true)
    → (k : ℕ) → is_end_goal (get_or (goals_from (NewEnd slot goal) first goals) k (End ToClose)) ≡ true
ends_from [] slot first goal ends k = refl
ends_from (old ∷ goals) slot first goal ends zero = end_after_change slot first goal old (ends 0)
ends_from (old ∷ goals) slot first goal ends (suc k) = ends_from goals slot (first + 1) goal (λ j. ends (suc j)) k

-- an event that links nothing leaves them so
unlinked_by : (event : Event) (settings : Settings) → is_linking event ≡ false → AreUnlinked settings → AreUnlinked (set_by event settings)
unlinked_by (Set (NewEnd slot goal)) settings none ends k = ends_from settings.goals slot 0 goal ends k
unlinked_by (Set (NewLink first second)) settings none ends k = absurd cc
unlinked_by (Media change) settings none ends k = ends k
unlinked_by (Take local) settings none ends k = ends k
unlinked_by (Tell word) settings none ends k = ends k
unlinked_by (Retry local) settings none ends k = ends k
unlinked_by Shift settings none ends k = ends k

unlinked_if : (mine : Bool) (event : Event) (settings : Settings) → is_linking event ≡ false → AreUnlinked settings → AreUnlinked (set_if mine event settings)
unlinked_if true event settings none ends = unlinked_by event settings none ends
unlinked_if false event settings none ends = ends

neither : (a b : Bool) → (a || b) ≡ false → (a ≡ false) × (b ≡ false)
neither true b is = absurd (cc)
neither false b is = (refl, is)

commands_unlink : (turns : List Turn) (who : ℕ) (settings : Settings) → LinkNone turns → AreUnlinked settings → AreUnlinked (set_by_all (commands_of who turns) settings)
commands_unlink [] who settings none ends = ends
commands_unlink (turn ∷ turns) who settings none ends =
    let parts = neither (is_linking turn.event) (list_any (λ (turn : Turn). is_linking turn.event) turns) none in
    subst (λ (s : Settings). AreUnlinked s) (sym (more_commands who turn turns settings))
    (commands_unlink turns who (set_if (turn.who == who) turn.event settings) parts.1 (unlinked_if (turn.who == who) turn.event settings parts.0 ends))

commanded_unlinked : (world : WorldState) (batch : List Turn) → HasNoLinks world → LinkNone batch → HasNoLinks (commanded world batch)
commanded_unlinked world batch free none who =
    subst (λ (s : Settings). AreUnlinked s) (sym (settings_are world batch who)) (commands_unlink batch who (settings_of (box_at world who)) none (free who))

-- ---- rings

-- a walk over one tunnel ends at its far slot
ends_far : (most : ℕ) (world : WorldState) (s : ℕ) → 0 < most → HasNoLinks world → end_after world (walk world (Some s) most) ≡ Some (far s)
ends_far zero world s some free = absurd (omega arith)
ends_far (suc most) world s some free = end_here world most (far s) (free (place world (far s)).0 (place world (far s)).1)

none_from : (entries : List (ℕ × ℕ)) (first : ℕ) (world : WorldState) → HasNoLinks world → first + length entries ≤ slot_count world
    → list_any (λ entry. is_none (other_end world entry.0)) (enumerate_from first entries) ≡ false
none_from [] first world free within = refl
none_from (entry ∷ entries) first world free within =
    let pairs : slot_count world ≡ 2 * length (all_tunnels world) = two_each world.channels 0 in
    let some : 0 < length (all_tunnels world) = omega arith in
    let rest : first + 1 + length entries ≤ slot_count world = omega arith in
    ap (λ (end : Option ℕ). is_none end || list_any (λ entry. is_none (other_end world entry.0)) (enumerate_from (first + 1) entries)) (ends_far (length (all_tunnels world)) world first some free)
    ∙ none_from entries (first + 1) world free rest

no_ring : (world : WorldState) → HasNoLinks world → HasNoRing world
no_ring world free = none_from (places world) 0 world free (omega arith)

-- ---- batches

leaves_by : (batches : List (List Turn)) (world : WorldState) (k : ℕ) → HasNoLinks world → AllLinkNone batches → HasNoLinks (commanded_by world (take k batches))
leaves_by batches world zero free none = free
leaves_by [] world (suc k) free none = free
leaves_by (batch ∷ batches) world (suc k) free none =
    leaves_by batches (commanded world batch) k (commanded_unlinked world batch free (none 0 batch (omega arith))) (λ j other below. none (suc j) other (omega (arith, below)))

pub link_free_leaves_no_ring : LinkFreeLeavesNoRing
link_free_leaves_no_ring world batches free none k below = no_ring (commanded_by world (take (suc k) batches)) (leaves_by batches world (suc k) free none)
