-- Names of what a network has, and of what it stops at.
use Rattle.std.proofs.Common.{◌≡◌, ◌<◌, ℕ, List, [], ◌∷◌, All, IsTrue, length, not, refl, ap, sym, ◌∙◌, subst, arith}
use Rattle.mc_signal.specs.Choice.{codecs_of}
use Rattle.mc_signal.specs.declared.Medium.{Medium}
use Rattle.mc_signal.specs.declared.codec_list.CodecList.{CodecList}
use Rattle.mc_box.specs.Boxes.{BoxState}
use Rattle.mc_box.specs.declared.event.Turn.{Turn}
use Rattle.mc_growth.specs.Growths.{Cut, GrownState, Growth, Join, grown_by, grown_by_all}
use Rattle.mc_growth.specs.Joins.{MayJoin, joined}
use Rattle.mc_growth.proofs.Joined.{GrowsTo, box_grows, grows, length_boxes, slots_more, stays}
use Rattle.mc_stages.specs.Growing.{CutsShort}
use Rattle.mc_stages.specs.declared.growing.GrowthFault.TheVariants.{InUse}
use Rattle.mc_stages.specs.declared.growing.UsedSlot.{UsedSlot}
use Rattle.mc_stages.proofs.Grows.{sound_all}
use Rattle.mc_stages.specs.Plans.{MayAskAll, NamesEnough}
use Rattle.mc_laws.proofs.CommandsGo.{both_true}
use Rattle.mc_laws.proofs.ShapesKept.{run_keeps_shape}
use Rattle.mc_laws.proofs.StepKeeps.{run_keeps_sound}
use Rattle.mc_model.specs.Settles.{IsSettled, can_shift, is_quiet}
use Rattle.mc_model.specs.Shapes.{HasShape}
use Rattle.mc_model.specs.Sound.{IsSound}
use Rattle.mc_model.specs.Worlds.{WorldState, box_at, place}
use Rattle.mc_settle_text.specs.Names.{HasNames, IsNamedPlace}
use Rattle.mc_text.specs.NameLists.{NameLists}

-- ---- shapes

-- names that are enough for a world are for one of the same shape
pub names_kept : (names : NameLists) (new old : WorldState) → HasShape new old → NamesEnough names old → NamesEnough names new
names_kept names new old shape all = record {
  boxes = all.boxes ∙ sym shape.boxes;
  slots = λ who below.
      let enough = all.slots who (subst (λ (n : ℕ). who < n) shape.boxes below) in
      let same = (shape.alike who).slots in
      omega (arith, enough, same);
  codecs = λ who. subst (λ (list : CodecList). All (λ codec. codec < length names.codecs) (codecs_of list)) (sym (shape.alike who).receives) (all.codecs who);
}

-- after a settle all has its names, the world is sound, and nothing is under way
pub record IsAfterSettle (names : NameLists) (last : WorldState) : Type 0 where
  pub named : NamesEnough names last
  pub sound : IsSound last
  pub quiet : IsTrue (is_quiet last)

pub after_settle : (names : NameLists) (world last : WorldState) (batch turns : List Turn) → IsSound world → NamesEnough names world → IsSettled world batch turns last
    → IsAfterSettle names last
after_settle names world last batch turns sound all settled = record {
  named = names_kept names last world (run_keeps_shape world last turns sound settled.runs) all;
  sound = run_keeps_sound world last turns sound settled.runs;
  quiet = (both_true (is_quiet last) (not (can_shift last)) settled.at_rest).0;
}

-- ---- before joins

receives_same : (old new : BoxState) → GrowsTo old new → new.receives ≡ old.receives
receives_same old new (stays is) = ap (λ (box : BoxState). box.receives) is
receives_same old new (grows setup room is) = ap (λ (box : BoxState). box.receives) is

-- names that are enough for a network were before a join
before_join : (names : NameLists) (world : WorldState) (medium : Medium) (from to : ℕ) → MayJoin world from to → NamesEnough names (joined world medium from to) → NamesEnough names world
before_join names world medium from to may all = record {
  boxes = all.boxes ∙ length_boxes world medium from to;
  slots = λ who below.
      let enough = all.slots who (subst (λ (n : ℕ). who < n) (sym (length_boxes world medium from to)) below) in
      let more = slots_more world medium from to who may in
      omega (arith, enough, more);
  codecs = λ who.
      subst (λ (list : CodecList). All (λ codec. codec < length names.codecs) (codecs_of list))
      (receives_same (box_at world who) (box_at (joined world medium from to) who) (box_grows world medium from to who may)) (all.codecs who);
}

pub before_all : (growths : List Growth) (names : NameLists) (network : GrownState) → MayAskAll network growths → NamesEnough names (grown_by_all network growths).world
    → NamesEnough names network.world
before_all [] names network may all = all
before_all (Join medium from to ∷ growths) names network may all =
    before_join names network.world medium from to may.0 (before_all growths names (grown_by network (Join medium from to)) may.1 all)
before_all (Cut channel ∷ growths) names network may all = before_all growths names (grown_by network (Cut channel)) may.1 all

-- and no box comes or goes
pub boxes_stay : (growths : List Growth) (network : GrownState) → length (grown_by_all network growths).world.boxes ≡ length network.world.boxes
boxes_stay [] network = refl
boxes_stay (Join medium from to ∷ growths) network = boxes_stay growths (grown_by network (Join medium from to)) ∙ length_boxes network.world medium from to
boxes_stay (Cut channel ∷ growths) network = boxes_stay growths (grown_by network (Cut channel))

-- ---- names

-- names that are enough for a sound world are names for all that it has
pub has_names : (names : NameLists) (world : WorldState) → IsSound world → NamesEnough names world → HasNames names world
has_names names world sound all = record {
  boxes = all.boxes;
  slots = λ s inside.
      let who : (place world s).0 < length world.boxes = sound.numbered.placed s inside in (
        subst (λ (n : ℕ). (place world s).0 < n) (sym all.boxes) who,
        let there = sound.numbered.slots s inside in let enough = all.slots (place world s).0 who in omega (arith, there, enough),
      );
  codecs = all.codecs;
}

-- the slot at which a cut is refused has a name
pub cut_named : (names : NameLists) (network : GrownState) (growths : List Growth) (used : UsedSlot) → IsSound network.world → MayAskAll network growths
    → NamesEnough names (grown_by_all network growths).world → CutsShort network growths (InUse used) → IsNamedPlace names used.place
cut_named names network growths used sound asks named short =
    subst (IsNamedPlace names) (sym short.1) ((has_names names (grown_by_all network growths).world (sound_all growths network sound asks) named).slots used.at short.2)
