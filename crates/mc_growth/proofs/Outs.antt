-- Which slots are out where channels join and are cut, and what paths are then.
use Rattle.std.proofs.Common.{◌≡◌, ◌<◌, ◌+◌, ◌++◌, ◌==◌, ◌&&◌, ◌||◌, not, cond, ℕ, zero, suc, Bool, true, false, All, Option, Some, None, List, [], ◌∷◌, length, refl, ap, sym, ◌∙◌, subst, arith, zero-add}
use Rattle.std.specs.List.{enumerate_from, find, range_with_len}
use Rattle.std.proofs.Math.ListN.{get_or}
use Rattle.std.proofs.lemmas.Grind.{common_steps}
use Rattle.std.proofs.lemmas.List.{get_or-map, get_or_past, length-map}
use Rattle.std.proofs.lemmas.List.Elements.{All-filter}
use Rattle.std.proofs.lemmas.List.FromFn.{get_or-enumerate_from, get_or-range_with_len, length-enumerate_from, length-range_with_len}
use Rattle.mc_signal.specs.declared.Medium.{Medium}
use Rattle.mc_slot.specs.declared.Goal.TheVariants.{Close as ToClose, Open as ToOpen, Hold as ToHold}
use Rattle.mc_slot.specs.declared.Slot.{Slot}
use Rattle.mc_slot.specs.declared.SlotGoal.{SlotGoal}
use Rattle.mc_slot.specs.declared.SlotGoal.TheVariants.{End, Link}
use Rattle.mc_slot.specs.declared.State.{State}
use Rattle.mc_slot.specs.declared.State.TheVariants.{Closed, Opening, Opened, Flowing, Closing}
use Rattle.mc_model.specs.PathTable.{PathHolds}
use Rattle.mc_model.specs.Paths.{both_sides, partner_of, path_from, paths, slots_on, whole_walk}
use Rattle.mc_model.specs.Sound.{IsSound}
use Rattle.mc_model.specs.Worlds.{TunnelPlace, WorldState, all_tunnels, box_at, far, goal_of, list_to, place, places, slot_count, slot_of, tunnel_of}
use Rattle.mc_laws.proofs.ActedWorlds.{far_inside}
use Rattle.mc_laws.proofs.LanesKept.{far_tunnel, lane_in}
use Rattle.mc_laws.proofs.Numbers.{some_same}
use Rattle.mc_laws.proofs.Partners.{is_partner, linked_with}
use Rattle.mc_path_laws.proofs.Ends.{parts_of}
use Rattle.mc_path_laws.proofs.Quiet.{each_from}
use Rattle.mc_path_laws.proofs.Sides.{all_along}
use Rattle.mc_path_laws.proofs.SettledHold.{settled_paths_hold}
use Rattle.mc_growth.specs.GrowthLaws.{CutKeepsOut, JoinKeepsOut, PathsAreWhole, PresentPathsHold}
use Rattle.mc_growth.specs.Joins.{MayJoin, joined}
use Rattle.mc_growth.specs.Outs.{AreOut, IsUnprogrammed, IsIdle, flags_without, is_close, is_closed, is_of, is_out, is_used, least_used}
use Rattle.mc_growth.proofs.ClosedTunnels.{closed_nothing}
use Rattle.mc_growth.proofs.Joined.{SameSlot, SlotKind, away, before, box_grows, count_joined, kind_of, near, program_same, same_slot, tunnel_away, tunnel_near}
use Rattle.mc_growth.proofs.Lists.{defaults_added, length_two}

-- ---- a join

out_more : (out : List Bool) (s : ℕ) → is_out (out ++ false ∷ false ∷ []) s ≡ is_out out s
out_more out s = defaults_added out false s

-- a slot that was there is of a channel that was
channel_below : (world : WorldState) (s : ℕ) → s < slot_count world → (tunnel_of world s).channel < length world.channels
channel_below world s inside = let lane = lane_in world s inside in omega (arith, lane)

-- of a slot of the joined world: its flag, and its channel
data OutKind (world next : WorldState) (out : List Bool) : ℕ → Type 0 where
  old : {s : ℕ} → s < slot_count world → SameSlot world next s → (tunnel_of next s).channel < length world.channels → OutKind world next out s
  new : {s : ℕ} → is_out out s ≡ false → (tunnel_of next s).channel ≡ length world.channels → OutKind world next out s

out_kind : (world : WorldState) (medium : Medium) (from to : ℕ) (out : List Bool) (s : ℕ) → IsSound world → MayJoin world from to → AreOut world out → SlotKind (slot_count world) s
    → OutKind world (joined world medium from to) out s
out_kind world medium from to out s sound may are (before below) =
    let same = same_slot world medium from to s sound.numbered may below in
    old below same (subst (λ (t : TunnelPlace). t.channel < length world.channels) (sym same.tunnel) (channel_below world s below))
out_kind world medium from to out s sound may are (near is) =
    new (get_or_past out s false (omega (arith, is, are.all))) (ap (λ (n : ℕ). (tunnel_of (joined world medium from to) n).channel) is ∙ ap (λ (t : TunnelPlace). t.channel) (tunnel_near world medium from to))
out_kind world medium from to out s sound may are (away is) =
    new (get_or_past out s false (omega (arith, is, are.all))) (ap (λ (n : ℕ). (tunnel_of (joined world medium from to) n).channel) is ∙ ap (λ (t : TunnelPlace). t.channel) (tunnel_away world medium from to))

whole_by : (world next : WorldState) (out : List Bool) (s t : ℕ) → AreOut world out → OutKind world next out s → OutKind world next out t → (tunnel_of next s).channel ≡ (tunnel_of next t).channel → is_out out s ≡ is_out out t
whole_by world next out s t are (old one here low) (old two there high) channel =
    are.whole s t one two (sym (ap (λ (t : TunnelPlace). t.channel) here.tunnel) ∙ (channel ∙ ap (λ (t : TunnelPlace). t.channel) there.tunnel))
whole_by world next out s t are (old one here low) (new none last) channel = absurd (omega (arith, channel, low, last))
whole_by world next out s t are (new none last) (old two there high) channel = absurd (omega (arith, channel, high, last))
whole_by world next out s t are (new one last) (new two other) channel = one ∙ sym two

not_both : (b : Bool) → b ≡ false → b ≡ true → ⊥
not_both b one two = absurd (cc)

-- the box of a slot that was there has no program, as before
free_stays : (world : WorldState) (medium : Medium) (from to s : ℕ) → MayJoin world from to → SameSlot world (joined world medium from to) s → IsUnprogrammed world s → IsUnprogrammed (joined world medium from to) s
free_stays world medium from to s may same free =
    ap (λ (p : ℕ × ℕ). (box_at (joined world medium from to) p.0).program) same.at
    ∙ (program_same (box_at world (place world s).0) (box_at (joined world medium from to) (place world s).0) (box_grows world medium from to (place world s).0 may) ∙ free)

idle_by : (world : WorldState) (medium : Medium) (from to s : ℕ) (out : List Bool) → MayJoin world from to → AreOut world out → OutKind world (joined world medium from to) out s → is_out out s ≡ true
    → IsIdle (joined world medium from to) s
idle_by world medium from to s out may are (old below same low) is =
    let idle = are.idle s below is in
    record {
      closed = ap (λ (slot : Slot). slot.state) same.slot ∙ idle.closed;
      goal = same.goal ∙ idle.goal;
      nothing = same.list ∙ idle.nothing;
      unprogrammed = free_stays world medium from to s may same idle.unprogrammed;
    }
idle_by world medium from to s out may are (new none last) is = absurd (not_both (is_out out s) none is)

pub join_keeps_out : JoinKeepsOut
join_keeps_out world medium from to out sound may are =
    let kind = λ (s : ℕ) (inside : s < slot_count (joined world medium from to)). out_kind world medium from to out s sound may are (kind_of world medium from to s inside) in
    record {
      all = length_two out false false ∙ (ap (λ (n : ℕ). n + 2) are.all ∙ sym (count_joined world medium from to));
      whole = λ s t one two channel. out_more out s ∙ (whole_by world (joined world medium from to) out s t are (kind s one) (kind t two) channel ∙ sym (out_more out t));
      idle = λ s inside is. idle_by world medium from to s out may are (kind s inside) (sym (out_more out s) ∙ is);
    }

-- ---- a cut

cond_none : (b : Bool) (s : ℕ) (o : Option ℕ) → cond b (Some s) o ≡ None → (b ≡ false) × (o ≡ None)
cond_none true s o none = absurd (cc)
cond_none false s o none = (refl, none)

none_found : (p : ℕ → Bool) (xs : List ℕ) (i : ℕ) → find p xs ≡ None → i < length xs → p (get_or xs i 0) ≡ false
none_found p [] i none inside = absurd (omega arith)
none_found p (x ∷ xs) zero none inside = (cond_none (p x) x (find p xs) none).0
none_found p (x ∷ xs) (suc i) none inside = none_found p xs i (cond_none (p x) x (find p xs) none).1 (omega arith)

not_used : (world : WorldState) (channel s : ℕ) → least_used world channel ≡ None → s < slot_count world → (is_of world channel s && is_used world s) ≡ false
not_used world channel s none inside =
    ap (λ (n : ℕ). is_of world channel n && is_used world n) (sym (get_or-range_with_len 0 (slot_count world) s 0 inside ∙ zero-add s))
    ∙ none_found (λ n. is_of world channel n && is_used world n) (range_with_len 0 (slot_count world)) s none (omega (arith, length-range_with_len 0 (slot_count world), inside))

closed_by : (state : State) → is_closed state ≡ true → state ≡ Closed
closed_by Closed is = refl
closed_by Opening is = absurd (cc)
closed_by Opened is = absurd (cc)
closed_by Flowing is = absurd (cc)
closed_by Closing is = absurd (cc)

close_by : (goal : SlotGoal) → is_close goal ≡ true → goal ≡ End ToClose
close_by (End ToClose) is = refl
close_by (End ToOpen) is = absurd (cc)
close_by (End ToHold) is = absurd (cc)
close_by (Link partner) is = absurd (cc)

unused_parts : (of one two : Bool) → (of && not (one && two)) ≡ false → of ≡ true → (one ≡ true) × (two ≡ true)
unused_parts false one two none is = absurd (cc)
unused_parts true true true none is = (refl, refl)
unused_parts true true false none is = absurd (cc)
unused_parts true false two none is = absurd (cc)

-- the flag of a slot after a cut
flag_is : (world : WorldState) (out : List Bool) (channel s : ℕ) → s < length out → is_out (flags_without world out channel) s ≡ (is_out out s || is_of world channel s)
flag_is world out channel s inside =
    get_or-map (λ (entry : ℕ × Bool). entry.1 || is_of world channel entry.0) (enumerate_from 0 out) s (0, false) false (omega (arith, length-enumerate_from 0 out, inside))
    ∙ ap (λ (entry : ℕ × Bool). entry.1 || is_of world channel entry.0) (get_or-enumerate_from 0 out s (0, false) inside ∙ ap (λ (n : ℕ). (n, is_out out s)) (zero-add s))

channel_is : (a b : ℕ) → (a == b) ≡ true → a ≡ b
channel_is a b is = grind (arith, common_steps)

-- a slot of a channel of which none is in use
record IsUnused (world : WorldState) (s : ℕ) : Type 0 where
  closed : (slot_of world s).state ≡ Closed
  goal : goal_of world s ≡ End ToClose

unused_by : (world : WorldState) (channel s : ℕ) → least_used world channel ≡ None → s < slot_count world → is_of world channel s ≡ true → IsUnused world s
unused_by world channel s none inside of =
    let parts = unused_parts (is_of world channel s) (is_closed (slot_of world s).state) (is_close (goal_of world s)) (not_used world channel s none inside) of in
    record { closed = closed_by (slot_of world s).state parts.0; goal = close_by (goal_of world s) parts.1 }

idle_cut : (world : WorldState) (channel s : ℕ) (b : Bool) (out : List Bool) → IsSound world → AreOut world out → ((s : ℕ) → s < slot_count world → (tunnel_of world s).channel ≡ channel → IsUnprogrammed world s)
    → least_used world channel ≡ None → s < slot_count world → is_out out s ≡ b → (b || is_of world channel s) ≡ true → IsIdle world s
idle_cut world channel s true out sound are free none inside is flag = are.idle s inside is
idle_cut world channel s false out sound are free none inside is flag =
    let here = unused_by world channel s none inside flag in
    let there = unused_by world channel (far s) none (far_inside world s inside) (ap (λ (t : TunnelPlace). t.channel == channel) (far_tunnel world s) ∙ flag) in
    record {
      closed = here.closed;
      goal = here.goal;
      nothing = closed_nothing (slot_of world s) (list_to world s) (slot_of world (far s)) (list_to world (far s)) (sound.tunnels s inside) here.closed there.closed;
      unprogrammed = free s inside (channel_is (tunnel_of world s).channel channel flag);
    }

pub cut_keeps_out : CutKeepsOut
cut_keeps_out world channel out sound are may none = record {
  all = length-map (enumerate_from 0 out) (λ (entry : ℕ × Bool). entry.1 || is_of world channel entry.0) ∙ (length-enumerate_from 0 out ∙ are.all);
  whole = λ s t one two same.
      flag_is world out channel s (omega (arith, are.all, one))
      ∙ (ap (λ (b : Bool). b || is_of world channel s) (are.whole s t one two same)
      ∙ (ap (λ (n : ℕ). is_out out t || n == channel) same ∙ sym (flag_is world out channel t (omega (arith, are.all, two)))));
  idle = λ s inside is.
      idle_cut world channel s (is_out out s) out sound are may.unprogrammed none inside refl (sym (flag_is world out channel s (omega (arith, are.all, inside))) ∙ is);
}

-- ---- paths

goals_clash : (goal : SlotGoal) (partner : ℕ) → goal ≡ End ToClose → goal ≡ Link partner → ⊥
goals_clash goal partner one two = absurd (cc)

-- a slot that is linked isn't out
linked_by : (world : WorldState) (out : List Bool) (s partner : ℕ) (b : Bool) → AreOut world out → s < slot_count world → goal_of world s ≡ Link partner → is_out out s ≡ b → b ≡ false
linked_by world out s partner true are inside link is = absurd (goals_clash (goal_of world s) partner (are.idle s inside is).goal link)
linked_by world out s partner false are inside link is = refl

linked_in : (world : WorldState) (out : List Bool) (s partner : ℕ) → AreOut world out → s < slot_count world → goal_of world s ≡ Link partner → is_out out s ≡ false
linked_in world out s partner are inside link = linked_by world out s partner (is_out out s) are inside link refl

-- a slot that is in or out as this
record IsAs (world : WorldState) (out : List Bool) (b : Bool) (s : ℕ) : Type 0 where
  inside : s < slot_count world
  is : is_out out s ≡ b

-- so is its partner: neither is out
partner_as : (world : WorldState) (out : List Bool) (b : Bool) (s t : ℕ) → IsSound world → AreOut world out → IsAs world out b s → partner_of world s ≡ Some t → IsAs world out b t
partner_as world out b s t sound are now is =
    let link = linked_with world s t (goal_of world s) is in
    let there = is_partner world s link.0 t sound now.inside link.1 link.2 in
    record {
      inside = there.inside;
      is = linked_in world out t (place world s).1 are there.inside there.goal ∙ (sym (linked_in world out s link.0 are now.inside link.1) ∙ now.is);
    }

far_as : (world : WorldState) (out : List Bool) (b : Bool) (s : ℕ) → AreOut world out → IsAs world out b s → IsAs world out b (far s)
far_as world out b s are now = record {
  inside = far_inside world s now.inside;
  is = are.whole (far s) s (far_inside world s now.inside) now.inside (ap (λ (t : TunnelPlace). t.channel) (far_tunnel world s)) ∙ now.is;
}

pub paths_are_whole : PathsAreWhole
paths_are_whole world out sound are =
    each_from (λ path. All (λ s. is_out out s ≡ is_out out path.low) (slots_on world path)) (path_from world) (places world) 0 (slot_count world) (omega arith)
    (λ s inside path is.
    let low : path.low ≡ s = (parts_of world s path is).low_is in
    subst (λ (n : ℕ). All (λ t. is_out out t ≡ is_out out n) (both_sides (whole_walk world n))) (sym low)
    (all_along (IsAs world out (is_out out s)) (λ t. is_out out t ≡ is_out out s) world (λ t now. now.is) (λ t now. far_as world out (is_out out s) t are now)
    (λ t next now link. partner_as world out (is_out out s) t next sound are now link) (length (all_tunnels world)) (Some s)
    (λ t same. subst (IsAs world out (is_out out s)) (some_same s t same) (record { inside = inside; is = refl }))))

pub present_paths_hold : PresentPathsHold
present_paths_hold world last out batch turns sound are settled =
    All-filter (λ path. not (is_out out path.low)) (PathHolds last) (paths last) (settled_paths_hold world last batch turns sound settled)
