-- Whether plans may be asked for is seen by the shape of a network, which no settle changes.
use Rattle.std.proofs.Common.{◌≡◌, ◌<◌, ◌++◌, ℕ, Bool, List, [], ◌∷◌, length, refl, ap, sym, ◌∙◌, subst}
use Rattle.std.specs.List.{flat_map, list_any}
use Rattle.mc_box.specs.declared.event.Turn.{Turn}
use Rattle.mc_growth.specs.Growths.{Cut, GrownState, Growth, Join, grown_by, grown_by_all}
use Rattle.mc_growth.specs.Outs.{MayCut, channel_at, flags_without, is_out, sets}
use Rattle.mc_grown_laws.proofs.Shapes.{may_by, shape_joined}
use Rattle.mc_stages.specs.Plans.{AreLawful, MayAsk, MayAskAll, MayCommand, batch_of, grown_at_end, growths_of}
use Rattle.mc_stages.specs.declared.plan.StagePlan.{StagePlan}
use Rattle.mc_stages.proofs.Grows.{sound_one}
use Rattle.mc_model.specs.Shapes.{HasShape}
use Rattle.mc_model.specs.Sound.{IsSound}
use Rattle.mc_model.specs.Worlds.{ChannelState, WorldState, box_at, place, places_among, slot_count}
use Rattle.mc_seq.proofs.AllowedCommands.{all_kept}

-- networks that are alike: the same is out in both, and their worlds are sound and of one shape
pub record AreAlike (new old : GrownState) : Type 0 where
  pub out : new.out ≡ old.out
  pub shape : HasShape new.world old.world
  pub new_sound : IsSound new.world
  pub old_sound : IsSound old.world

-- ---- slots

count_same : (new old : WorldState) → HasShape new old → slot_count new ≡ slot_count old
count_same new old shape = ap (λ (l : List ChannelState). length (places_among l)) shape.channels

place_same : (new old : WorldState) (s : ℕ) → HasShape new old → place new s ≡ place old s
place_same new old s shape = rw (shape.channels) refl

channel_same : (new old : WorldState) (s : ℕ) → HasShape new old → channel_at new s ≡ channel_at old s
channel_same new old s shape = rw (shape.channels) refl

flags_same : (new old : WorldState) (out : List Bool) (channel : ℕ) → HasShape new old → flags_without new out channel ≡ flags_without old out channel
flags_same new old out channel shape = rw (shape.channels) refl

-- ---- cuts

cut_same : (new old : WorldState) (out : List Bool) (channel : ℕ) → HasShape new old → MayCut old out channel → MayCut new out channel
cut_same new old out channel shape may = record {
  there = subst (λ (l : List ChannelState). channel < length l) (sym shape.channels) may.there;
  within = λ s inside of.
      may.within s (subst (λ (n : ℕ). s < n) (count_same new old shape) inside) (sym (channel_same new old s shape) ∙ of);
  unprogrammed = λ s inside of.
      ap (λ (at : ℕ × ℕ). (box_at new at.0).program) (place_same new old s shape)
      ∙ ((shape.alike (place old s).0).program
      ∙ may.unprogrammed s (subst (λ (n : ℕ). s < n) (count_same new old shape) inside) (sym (channel_same new old s shape) ∙ of));
}

-- ---- joins and cuts

asks_same : (growth : Growth) (new old : GrownState) → AreAlike new old → MayAsk old growth → MayAsk new growth
asks_same (Join medium from to) new old alike may = may_by new.world old.world from to alike.shape may
asks_same (Cut channel) new old alike may =
    subst (λ (out : List Bool). MayCut new.world out channel) (sym alike.out) (cut_same new.world old.world old.out channel alike.shape may)

alike_one : (growth : Growth) (new old : GrownState) → AreAlike new old → MayAsk old growth → AreAlike (grown_by new growth) (grown_by old growth)
alike_one (Join medium from to) new old alike may = record {
  out = rw (alike.out) refl;
  shape = shape_joined new.world old.world medium from to alike.shape may;
  new_sound = sound_one (Join medium from to) new alike.new_sound (asks_same (Join medium from to) new old alike may);
  old_sound = sound_one (Join medium from to) old alike.old_sound may;
}
alike_one (Cut channel) new old alike may = record {
  out = ap (λ (out : List Bool). flags_without new.world out channel) alike.out ∙ flags_same new.world old.world old.out channel alike.shape;
  shape = alike.shape;
  new_sound = alike.new_sound;
  old_sound = alike.old_sound;
}

asks_all : (growths : List Growth) (new old : GrownState) → AreAlike new old → MayAskAll old growths → MayAskAll new growths
asks_all [] new old alike may = tt
asks_all (growth ∷ growths) new old alike may =
    (asks_same growth new old alike may.0, asks_all growths (grown_by new growth) (grown_by old growth) (alike_one growth new old alike may.0) may.1)

pub alike_all : (growths : List Growth) (new old : GrownState) → AreAlike new old → MayAskAll old growths → AreAlike (grown_by_all new growths) (grown_by_all old growths)
alike_all [] new old alike may = alike
alike_all (growth ∷ growths) new old alike may = alike_all growths (grown_by new growth) (grown_by old growth) (alike_one growth new old alike may.0) may.1

-- ---- commands

sets_same : (new old : WorldState) (s : ℕ) (turns : List Turn) → HasShape new old → list_any (sets new s) turns ≡ list_any (sets old s) turns
sets_same new old s turns shape = rw (shape.channels) refl

commands_same : (new old : GrownState) (batch : List Turn) → AreAlike new old → MayCommand old batch → MayCommand new batch
commands_same new old batch alike may = record {
  allowed = all_kept batch old.world new.world alike.old_sound alike.new_sound alike.shape may.allowed;
  none_out = λ s inside out.
      sets_same new.world old.world s batch alike.shape
      ∙ may.none_out s (subst (λ (n : ℕ). s < n) (count_same new.world old.world alike.shape) inside) (ap (λ (flags : List Bool). is_out flags s) (sym alike.out) ∙ out);
}

-- ---- plans

pub lawful_same : (plans : List StagePlan) (new old : GrownState) → AreAlike new old → AreLawful old plans → AreLawful new plans
lawful_same [] new old alike lawful = tt
lawful_same (plan ∷ plans) new old alike lawful =
    let grown = alike_all (growths_of plan) new old alike lawful.0 in (
      asks_all (growths_of plan) new old alike lawful.0,
      commands_same (grown_by_all new (growths_of plan)) (grown_by_all old (growths_of plan)) (batch_of plan) grown lawful.1,
      lawful_same plans (grown_by_all new (growths_of plan)) (grown_by_all old (growths_of plan)) grown lawful.2,
    )

-- ---- the network at the end

pub grown_append : (one two : List Growth) (network : GrownState) → grown_by_all network (one ++ two) ≡ grown_by_all (grown_by_all network one) two
grown_append [] two network = refl
grown_append (growth ∷ one) two network = grown_append one two (grown_by network growth)

-- of the first plan and those after it
pub end_after : (plan : StagePlan) (plans : List StagePlan) (network : GrownState) → grown_at_end network (plan ∷ plans) ≡ grown_at_end (grown_by_all network (growths_of plan)) plans
end_after plan plans network = grown_append (growths_of plan) (flat_map growths_of plans) network

-- all joins and cuts of lawful plans may be asked for
pub asks_end : (plans : List StagePlan) (network : GrownState) → AreLawful network plans → MayAskAll network (flat_map growths_of plans)
asks_end [] network lawful = tt
asks_end (plan ∷ plans) network lawful =
    asks_append (growths_of plan) (flat_map growths_of plans) network lawful.0 (asks_end plans (grown_by_all network (growths_of plan)) lawful.2)
  where
    asks_append : (one two : List Growth) (network : GrownState) → MayAskAll network one → MayAskAll (grown_by_all network one) two → MayAskAll network (one ++ two)
    asks_append [] two network first second = second
    asks_append (growth ∷ one) two network first second = (first.0, asks_append one two (grown_by network growth) first.1 second)
