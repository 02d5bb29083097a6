-- Whether channels may join is seen by the shape of a world, which no run changes.
use Rattle.std.proofs.Common.{◌≡◌, inl, inr, ℕ, Some, List, [], ◌∷◌, ◌++◌, length, refl, ap, sym, ◌∙◌, subst, arith}
use Rattle.std.proofs.lemmas.Bool.{cases_eq}
use Rattle.mc_signal.specs.declared.Medium.{Medium}
use Rattle.mc_box.specs.Acting.{IsAlike}
use Rattle.mc_box.specs.Boxes.{BoxState, first_slot, with_new_slot}
use Rattle.mc_box.specs.declared.event.Turn.{Turn}
use Rattle.mc_box.specs.declared.setup.SlotSetup.{SlotSetup}
use Rattle.mc_model.specs.Shapes.{HasShape}
use Rattle.mc_model.specs.Sound.{IsSound}
use Rattle.mc_model.specs.Steps.{run}
use Rattle.mc_model.specs.Worlds.{ChannelState, WorldState, box_at, places_among, slot_count}
use Rattle.mc_growth.specs.Joins.{MayJoin, away_box, away_slot, joined, joining, near_box, near_slot}
use Rattle.mc_growth.proofs.Joined.{box_away, box_else, box_near, length_boxes}
use Rattle.mc_growth.proofs.JoinedSound.{join_keeps_sound}
use Rattle.mc_growth.proofs.Lists.{length_one}
use Rattle.mc_growth.proofs.WideSteps.{join_commutes}
use Rattle.mc_grown_laws.specs.GrownLaws.{Joining, joined_by_all}

-- ---- shapes

alike_back : (a b : BoxState) → IsAlike a b → IsAlike b a
alike_back a b is = record {
  kind = sym is.kind;
  number = sym is.number;
  receives = sym is.receives;
  sends = sym is.sends;
  first_version = sym is.first_version;
  slots = sym is.slots;
  program = sym is.program;
}

pub shape_back : (new old : WorldState) → HasShape new old → HasShape old new
shape_back new old shape = record {
  channels = sym shape.channels;
  boxes = sym shape.boxes;
  alike = λ who. alike_back (box_at new who) (box_at old who) (shape.alike who);
}

-- boxes may be joined in a world of the same shape
pub may_by : (new old : WorldState) (from to : ℕ) → HasShape new old → MayJoin old from to → MayJoin new from to
may_by new old from to shape may =
    let near = may.near in
    let away = may.away in
    let few = may.few in
    let channels = ap (λ (l : List ChannelState). length l) shape.channels in
    let room = may.near_room.room in
    let other = may.away_room.room in
    record {
      near = omega (arith, near, shape.boxes);
      away = omega (arith, away, shape.boxes);
      apart = may.apart;
      near_room = record { room = let same = (shape.alike from).slots in omega (arith, room, same); unprogrammed = (shape.alike from).program ∙ may.near_room.unprogrammed };
      away_room = record { room = let same = (shape.alike to).slots in omega (arith, other, same); unprogrammed = (shape.alike to).program ∙ may.away_room.unprogrammed };
      few = omega (arith, few, channels);
    }

slots_by : (new old : WorldState) → HasShape new old → slot_count new ≡ slot_count old
slots_by new old shape = ap (λ (l : List ChannelState). length (places_among l)) shape.channels

-- boxes that are alike are so with one slot more
alike_more : (a b : BoxState) (one two : SlotSetup) → IsAlike a b → IsAlike (with_new_slot a one) (with_new_slot b two)
alike_more a b one two is = record {
  kind = is.kind;
  number = is.number;
  receives = is.receives;
  sends = is.sends;
  first_version = is.first_version;
  slots = let same = is.slots in omega (arith, same, length_one a.slots (first_slot one), length_one b.slots (first_slot two));
  program = is.program;
}

channel_by : (new old : WorldState) (medium : Medium) (from to : ℕ) → HasShape new old → joining new medium from to ≡ joining old medium from to
channel_by new old medium from to shape = rw ((shape.alike from).slots, (shape.alike to).slots) refl

alike_joined : (new old : WorldState) (medium : Medium) (from to who : ℕ) → HasShape new old → MayJoin old from to → IsAlike (box_at (joined new medium from to) who) (box_at (joined old medium from to) who)
alike_joined new old medium from to who shape may =
    let here = may_by new old from to shape may in
    elim (cases_eq who from) [
      | inl is ↦
          subst (λ (w : ℕ). IsAlike (box_at (joined new medium from to) w) (box_at (joined old medium from to) w)) (sym is)
          (subst (λ (b : BoxState). IsAlike b (box_at (joined old medium from to) from)) (sym (box_near new medium from to here))
          (subst (λ (b : BoxState). IsAlike (near_box new medium from) b) (sym (box_near old medium from to may))
          (alike_more (box_at new from) (box_at old from) (near_slot new medium) (near_slot old medium) (shape.alike from))))
      | inr one ↦ elim (cases_eq who to) [
        | inl is ↦
            subst (λ (w : ℕ). IsAlike (box_at (joined new medium from to) w) (box_at (joined old medium from to) w)) (sym is)
            (subst (λ (b : BoxState). IsAlike b (box_at (joined old medium from to) to)) (sym (box_away new medium from to here))
            (subst (λ (b : BoxState). IsAlike (away_box new medium to) b) (sym (box_away old medium from to may))
            (alike_more (box_at new to) (box_at old to) (away_slot new medium) (away_slot old medium) (shape.alike to))))
        | inr two ↦
            subst (λ (b : BoxState). IsAlike b (box_at (joined old medium from to) who)) (sym (box_else new medium from to who one two))
            (subst (λ (b : BoxState). IsAlike (box_at new who) b) (sym (box_else old medium from to who one two)) (shape.alike who))
      ]
    ]

-- worlds of one shape that a channel joins have one shape then
pub shape_joined : (new old : WorldState) (medium : Medium) (from to : ℕ) → HasShape new old → MayJoin old from to → HasShape (joined new medium from to) (joined old medium from to)
shape_joined new old medium from to shape may = record {
  channels = ap (λ (l : List ChannelState). l ++ joining new medium from to ∷ []) shape.channels ∙ ap (λ (c : ChannelState). old.channels ++ c ∷ []) (channel_by new old medium from to shape);
  boxes = length_boxes new medium from to ∙ (shape.boxes ∙ sym (length_boxes old medium from to));
  alike = λ who. alike_joined new old medium from to who shape may;
}

-- ---- several channels

-- each of these channels may join after those before it
abbrev pub MayJoinAll : WorldState → List Joining → Type 0
MayJoinAll world [] = Unit {0}
MayJoinAll world (channel ∷ channels) = MayJoin world channel.from channel.to × MayJoinAll (joined world channel.medium channel.from channel.to) channels

pub may_all_by : (channels : List Joining) (new old : WorldState) → HasShape new old → MayJoinAll old channels → MayJoinAll new channels
may_all_by [] new old shape may = tt
may_all_by (channel ∷ channels) new old shape may = (
  may_by new old channel.from channel.to shape may.0,
  may_all_by channels (joined new channel.medium channel.from channel.to) (joined old channel.medium channel.from channel.to)
      (shape_joined new old channel.medium channel.from channel.to shape may.0) may.1,
)

pub may_append : (one two : List Joining) (world : WorldState) → MayJoinAll world one → MayJoinAll (joined_by_all world one) two → MayJoinAll world (one ++ two)
may_append [] two world first second = second
may_append (channel ∷ one) two world first second = (first.0, may_append one two (joined world channel.medium channel.from channel.to) first.1 second)

pub joined_append : (one two : List Joining) (world : WorldState) → joined_by_all world (one ++ two) ≡ joined_by_all (joined_by_all world one) two
joined_append [] two world = refl
joined_append (channel ∷ one) two world = joined_append one two (joined world channel.medium channel.from channel.to)

pub sound_all : (channels : List Joining) (world : WorldState) → IsSound world → MayJoinAll world channels → IsSound (joined_by_all world channels)
sound_all [] world sound may = sound
sound_all (channel ∷ channels) world sound may =
    sound_all channels (joined world channel.medium channel.from channel.to) (join_keeps_sound world channel.medium channel.from channel.to sound may.0) may.1

-- a run of a world is one of the world that they have joined
pub run_all : (channels : List Joining) (world next : WorldState) (turns : List Turn) → IsSound world → MayJoinAll world channels → run world turns ≡ Some next
    → run (joined_by_all world channels) turns ≡ Some (joined_by_all next channels)
run_all [] world next turns sound may goes = goes
run_all (channel ∷ channels) world next turns sound may goes =
    run_all channels (joined world channel.medium channel.from channel.to) (joined next channel.medium channel.from channel.to) turns
    (join_keeps_sound world channel.medium channel.from channel.to sound may.0) may.1
    (join_commutes world next turns channel.medium channel.from channel.to sound may.0 goes)
