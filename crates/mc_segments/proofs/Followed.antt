-- Turns as they are followed: at a place a segment ends or goes on, and then a turn comes.
use Rattle.std.proofs.Common.{◌≡◌, ◌<◌, ◌≤◌, ◌+◌, ◌++◌, inl, inr, get_or, ℕ, Bool, true, false, List, [], ◌∷◌, Some, Err, Vec, length, take, slice_get, append_assoc, append-nil, take_all, refl, ap, sym, ◌∙◌, subst, arith}
use Rattle.std.specs.declared.alloc.Global.{Global}
use Rattle.std.proofs.lemmas.Bool.{cases_eq, cases_lt}
use Rattle.std.proofs.lemmas.Option.{slice_get-get_or}
use Rattle.mc_box.specs.declared.event.Turn.{Turn}
use Rattle.mc_model.specs.Steps.{after, run, step}
use Rattle.mc_model.specs.Worlds.{WorldState}
use Rattle.mc_replay.specs.Follows.{Follows, TellsSettled}
use Rattle.mc_replay.specs.declared.segment.Segment.{Segment}
use Rattle.mc_replay.specs.declared.segment.TurnFault.{TurnFault}
use Rattle.mc_replay.specs.declared.segment.TurnFault.TheVariants.{NoMemory, NotEnabled, NotNext}
use Rattle.mc_replay.proofs.Prefixes.{after_is}
use Rattle.mc_segments.specs.Ends.{AreEnds, IsEnd, IsSegmentsFault, commands_in, may_end, turns_between}
use Rattle.mc_segments.specs.Following.{EndsHere, FollowsOwn, HasFollowed, MakesOwn, fault_at}
use Rattle.mc_segments.specs.declared.fault.SegmentsFault.{SegmentsFault}
use Rattle.mc_segments.specs.declared.following.Following.{Following}
use Rattle.mc_segments.proofs.Places.{between_next, none_between, run_between}

-- ---- the beginning

pub followed_none : (world : WorldState) (segment : Segment) (ends : Vec ℕ Global) → Follows world [] [] segment → segment.retries.made ≡ 0 → ends.items ≡ [] → (turns : List Turn) → HasFollowed world turns 0 (record { segment = segment; ends = ends; from = 0 })
followed_none world segment ends follows made empty turns = record {
  from = omega arith;
  within = omega arith;
  began = refl;
  follows = follows;
  retries = omega (arith, made);
  none = λ other below end. absurd (omega (arith, below));
  ends = λ more are. subst (λ (l : List ℕ). AreEnds world turns 0 (l ++ more)) (sym empty) are;
}

-- ---- no end at a place

-- where the segment begins there
pub none_at : (world : WorldState) (turns : List Turn) (place : ℕ) (following : Following) → following.from ≡ place → IsEnd world turns following.from place → ⊥
none_at world turns place following is end = let later = end.later in omega (arith, later, is)

-- where none may end
pub none_may : (world : WorldState) (turns : List Turn) (place : ℕ) (following : Following) → may_end (slice_get turns place) ≡ false → IsEnd world turns following.from place → ⊥
none_may world turns place following never end = let may = end.may in cc

-- where the turns haven't settled
pub none_told : (told : Bool) (world : WorldState) (turns : List Turn) (place : ℕ) (following : Following) → told ≡ false
    → TellsSettled (after world (take following.from turns)) (commands_in (turns_between following.from place turns)) (turns_between following.from place turns) following.segment.world told
    → IsEnd world turns following.from place → ⊥
none_told true world turns place following is tells end = absurd (cc)
none_told false world turns place following is tells end = tells (after world (take place turns)) end.settles

-- then the segment goes on
pub goes_on : (world : WorldState) (turns : List Turn) (place : ℕ) (following : Following) (segment : Segment) → segment ≡ following.segment → (IsEnd world turns following.from place → ⊥) → HasFollowed world turns place following
    → EndsHere world turns place (record following { segment = segment })
goes_on world turns place following segment same none followed =
    subst (λ (s : Segment). EndsHere world turns place (record following { segment = s })) (sym same) (record { followed = followed; none = none })

-- ---- an end

-- the turns before a place lead to the segment's world
pub leads : (world : WorldState) (turns : List Turn) (place : ℕ) (following : Following) → HasFollowed world turns place following → run world (take place turns) ≡ Some following.segment.world
leads world turns place following followed =
    run_between world following.segment.world turns following.from place followed.from followed.began followed.follows.runs

-- where they have settled
is_end : (told : Bool) (world : WorldState) (turns : List Turn) (place : ℕ) (following : Following) → told ≡ true → (following.from ≡ place → ⊥) → may_end (slice_get turns place) ≡ true
    → TellsSettled (after world (take following.from turns)) (commands_in (turns_between following.from place turns)) (turns_between following.from place turns) following.segment.world told
    → HasFollowed world turns place following → IsEnd world turns following.from place
is_end false world turns place following is apart may tells followed = absurd (cc)
is_end true world turns place following is apart may tells followed = record {
  later = elim (cases_eq following.from place) [
    | inl same ↦ absurd (apart same)
    | inr other ↦ omega (arith, other, followed.from)
  ];
  within = followed.within;
  may = may;
  settles = subst (λ (w : WorldState). TellsSettled (after world (take following.from turns)) (commands_in (turns_between following.from place turns)) (turns_between following.from place turns) w true)
      (sym (after_is world following.segment.world (take place turns) (leads world turns place following followed))) tells;
}

-- the next segment begins there
pub ends_there : (told : Bool) (world : WorldState) (turns : List Turn) (place : ℕ) (old : Following) (segment : Segment) (ends : Vec ℕ Global) → told ≡ true → (old.from ≡ place → ⊥) → may_end (slice_get turns place) ≡ true
    → TellsSettled (after world (take old.from turns)) (commands_in (turns_between old.from place turns)) (turns_between old.from place turns) old.segment.world told
    → Follows old.segment.world [] [] segment → segment.retries.made ≡ old.segment.retries.made → ends.items ≡ old.ends.items ++ place ∷ []
    → HasFollowed world turns place old → EndsHere world turns place (record { segment = segment; ends = ends; from = place })
ends_there told world turns place old segment ends is apart may tells follows made added followed =
    let goes = leads world turns place old followed in
    let at : after world (take place turns) ≡ old.segment.world = after_is world old.segment.world (take place turns) goes in
    let begins : Follows (after world (take place turns)) [] [] segment = subst (λ (w : WorldState). Follows w [] [] segment) (sym at) follows in
    record {
      followed = record {
        from = omega arith;
        within = followed.within;
        began = goes ∙ ap (λ (w : WorldState). Some w) (sym at);
        follows = subst (λ (l : List Turn). FollowsOwn (after world (take place turns)) l segment) (sym (none_between turns place)) begins;
        retries = omega (arith, made, followed.retries);
        none = λ other below end. let later = end.later in omega (arith, later, below);
        ends = λ more are. subst (λ (l : List ℕ). AreEnds world turns 0 l) (sym (append_assoc old.ends.items (place ∷ []) more) ∙ ap (λ (l : List ℕ). l ++ more) (sym added))
            (followed.ends (place ∷ more) (record { is = is_end told world turns place old is apart may tells followed; first = followed.none }, are));
      };
      none = λ end. let later = end.later in omega (arith, later);
    }

-- ---- a turn

-- it is made
pub turn_made : (world : WorldState) (turns : List Turn) (place : ℕ) (other : Turn) (old : Following) (segment : Segment) → place < length turns
    → FollowsOwn (after world (take old.from turns)) (turns_between old.from place turns ++ get_or turns place other ∷ []) segment → segment.retries.made ≤ old.segment.retries.made + 1
    → EndsHere world turns place old → HasFollowed world turns (place + 1) (record old { segment = segment })
turn_made world turns place other old segment inside follows made here =
    let followed = here.followed in
    record {
      from = omega (arith, followed.from);
      within = omega (arith, inside);
      began = followed.began;
      follows = subst (λ (l : List Turn). FollowsOwn (after world (take old.from turns)) l segment)
          (sym (between_next turns old.from place (get_or turns place other) followed.from inside (slice_get-get_or turns place other inside))) follows;
      retries = omega (arith, made, followed.retries);
      none = λ end_place below end. elim (cases_lt end_place place) [
        | inl before ↦ followed.none end_place before end
        | inr past ↦ let at : end_place ≡ place = omega (arith, past, below) in here.none (subst (IsEnd world turns old.from) at end)
      ];
      ends = followed.ends;
    }

-- it isn't made
pub turn_stops : (fault : TurnFault) (told : SegmentsFault) (world : WorldState) (turns : List Turn) (place : ℕ) (other : Turn) (old : Following) (segment : Segment) → place < length turns → told ≡ fault_at fault place
    → MakesOwn (after world (take old.from turns)) (turns_between old.from place turns) (get_or turns place other) (Err fault) segment → EndsHere world turns place old → IsSegmentsFault world turns told
turn_stops NotNext told world turns place other old segment inside is never here = absurd never
turn_stops (NoMemory e) told world turns place other old segment inside is never here = subst (IsSegmentsFault world turns) (sym is) tt
turn_stops NotEnabled told world turns place other old segment inside is never here =
    let followed = here.followed in
    let at = after_is (after world (take old.from turns)) old.segment.world (turns_between old.from place turns) followed.follows.runs in
    subst (IsSegmentsFault world turns) (sym is) (record {
      last = old.segment.world;
      runs = leads world turns place old followed;
      turn = get_or turns place other;
      there = slice_get-get_or turns place other inside;
      never = ap (λ (w : WorldState). step w (get_or turns place other)) (sym at) ∙ never;
    })

-- ---- the end

-- no end comes after the last
pub all_ends : (world : WorldState) (turns : List Turn) (place : ℕ) (following : Following) → length turns ≤ place → EndsHere world turns place following → AreEnds world turns 0 following.ends.items
all_ends world turns place following long here =
    subst (AreEnds world turns 0) (append-nil following.ends.items)
    (here.followed.ends [] (λ other end. elim (cases_lt other place) [
      | inl before ↦ here.followed.none other before end
      | inr past ↦ let within = end.within in let at : other ≡ place = omega (arith, past, within, long) in here.none (subst (IsEnd world turns following.from) at end)
    ]))

pub all_run : (world : WorldState) (turns : List Turn) (place : ℕ) (following : Following) → length turns ≤ place → EndsHere world turns place following → run world turns ≡ Some following.segment.world
all_run world turns place following long here = ap (run world) (sym (take_all place turns long)) ∙ leads world turns place following here.followed
