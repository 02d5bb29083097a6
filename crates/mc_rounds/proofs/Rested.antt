-- Coming to rest after the commands.
use Rattle.std.proofs.Common.{◌≡◌, ◌<◌, ◌≤◌, ◌++◌, ℕ, Bool, true, false, MatchBool, IsTrue, is_some, List, Option, Some, None, refl, ◌∙◌, arith}
use Rattle.mc_box.specs.declared.event.Turn.{Turn}
use Rattle.mc_laws.proofs.BothWays.{has_by}
use Rattle.mc_laws.proofs.GoalsKept.{rest_keeps_rings}
use Rattle.mc_laws.proofs.Reaches.{comes_to_end}
use Rattle.mc_laws.proofs.RingWalks.{rings_meet_no_end}
use Rattle.mc_model.specs.Paths.{has_ring, other_end}
use Rattle.mc_model.specs.Rings.{IsLeastOnRing}
use Rattle.mc_model.specs.Sound.{IsSound}
use Rattle.mc_model.specs.Worlds.{WorldState}
use Rattle.mc_divided.specs.Networks.{IsDividedNetwork, network_state}
use Rattle.mc_divided.specs.States.{NetworkState, NoneLeft}
use Rattle.mc_divided.specs.declared.network.DividedNetwork.{DividedNetwork}
use Rattle.mc_rounds.proofs.Plays.{begins, few_shifts_of, fewer_shifts, no_more_shifts, played_both}
use Rattle.mc_rounds.proofs.TurnKinds.{both_take, takes_besides}
use Rattle.mc_rounds.specs.Playing.{GoesOn, HasPlayed, Rests, all_take, spare_shifts}

-- ---- rings

-- a walk doesn't come to an end and to none
end_or_ring : (world : WorldState) (s t : ℕ) → other_end world s ≡ Some t → other_end world s ≡ None → ⊥
end_or_ring world s t some none = never (other_end world s) some none
  where
    never : (o : Option ℕ) → o ≡ Some t → o ≡ None → ⊥
    never None is no_end = absurd cc
    never (Some u) is no_end = absurd cc

-- where there is no ring, none is the least slot on one
pub least_by : (world : WorldState) → IsSound world → has_ring world ≡ false → IsLeastOnRing world None
least_by world sound free s inside on =
    let ends = comes_to_end world s free inside in
    end_or_ring world s ends.0 ends.1 ((rings_meet_no_end world s sound inside).1 on)

-- and where none is found there is no ring
pub free_by : (world : WorldState) (ring : Option ℕ) → IsSound world → IsLeastOnRing world ring
    → is_some ring ≡ false → has_ring world ≡ false
free_by world ring sound least none = has_by world ring sound least ∙ none

-- ---- stretches

-- phases led from one state to another; and whether a Shift came
pub record CameOn (old new : NetworkState) (before after : List Turn) (shifted : Bool) : Type 0 where
  pub played : HasPlayed old new before after
  pub none : NoneLeft new
  pub fewer : MatchBool shifted (spare_shifts new < spare_shifts old) (IsTrue (all_take played.made))

-- none at all
pub rests_begin : (network : DividedNetwork) (turns : List Turn) → IsDividedNetwork network
    → NoneLeft (network_state network)
    → CameOn (network_state network) (network_state network) turns turns false
rests_begin network turns is none = record {
  played = begins (network_state network) turns (few_shifts_of network is);
  none = none;
  fewer = refl;
}

-- with a stretch more
abbrev both_played : (a b c : NetworkState) (first before after : List Turn) (shifted : Bool)
    → HasPlayed a b first before → GoesOn b c before after shifted → HasPlayed a c first after
both_played a b c first before after shifted p went =
    played_both a b c first before after went.played.made p went.played.added went.played.plays

-- to a Shift
pub rests_more : (a b c : NetworkState) (first before after : List Turn) (shifted : Bool) → IsSound a.world
    → IsSound b.world → CameOn a b first before shifted → GoesOn b c before after true → CameOn a c first after true
rests_more a b c first before after shifted sound_a sound_b so_far went = record {
  played = both_played a b c first before after true so_far.played went;
  none = went.none;
  fewer =
      let no_more = no_more_shifts a b so_far.played.made sound_a so_far.played.plays in
      let fewer = fewer_shifts b c went.played.made sound_b went.played.plays went.ended in
      omega (arith, no_more, fewer);
}

-- ---- how they end

-- at a ring
pub rests_on_ring : (a b : NetworkState) (first before : List Turn) (ring : Option ℕ) (shifted : Bool)
    → CameOn a b first before shifted → IsLeastOnRing b.world ring → is_some ring ≡ true
    → Rests a b first before ring shifted
rests_on_ring a b first before None shifted so_far least some = absurd cc
rests_on_ring a b first before (Some at) shifted so_far least some = record {
  played = so_far.played;
  none = so_far.none;
  ended = least;
  fewer = so_far.fewer;
}

-- with Takes after them as few Shifts are left
fewer_still : (a b c : ℕ) (shifted : Bool) (one two : List Turn) → c ≤ b → IsTrue (all_take two)
    → MatchBool shifted (b < a) (IsTrue (all_take one)) → MatchBool shifted (c < a) (IsTrue (all_take (one ++ two)))
fewer_still a b c true one two less take fewer = omega (arith, less, fewer)
fewer_still a b c false one two less take fewer = both_take one two fewer take

-- or with a stretch in which no Shift came
pub rests_still : (a b c : NetworkState) (first before after : List Turn) (ring : Option ℕ) (shifted : Bool)
    → IsSound b.world → CameOn a b first before shifted → GoesOn b c before after false
    → has_ring b.world ≡ false → is_some ring ≡ false → Rests a c first after ring shifted
rests_still a b c first before after (Some at) shifted sound so_far went free none = absurd cc
rests_still a b c first before after None shifted sound so_far went free none =
    let made : List Turn = went.played.made in
    record {
      played = both_played a b c first before after false so_far.played went;
      none = went.none;
      ended = (
        went.ended.0,
        rest_keeps_rings b.world c.world made sound (takes_besides made went.ended.1) went.played.plays.runs ∙ free,
      );
      fewer = fewer_still (spare_shifts a) (spare_shifts b) (spare_shifts c) shifted so_far.played.made made
          (no_more_shifts b c made sound went.played.plays) went.ended.1 so_far.fewer;
    }
