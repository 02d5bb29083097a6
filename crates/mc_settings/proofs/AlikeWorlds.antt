-- Being alike is an equivalence, and commands keep it.
use Rattle.std.proofs.Common.{◌≡◌, ℕ, List, refl, ap, sym, ◌∙◌}
use Rattle.mc_slot.specs.declared.Slot.{Slot}
use Rattle.mc_box.specs.Acting.{IsAlike}
use Rattle.mc_box.specs.Boxes.{BoxState, slot_at}
use Rattle.mc_box.specs.declared.event.Turn.{Turn}
use Rattle.mc_model.specs.Settles.{commands_of}
use Rattle.mc_model.specs.Shapes.{HasShape}
use Rattle.mc_model.specs.Worlds.{WorldState, box_at}
use Rattle.mc_laws.proofs.ShapesKept.{same_shape, shape_both}
use Rattle.mc_settings.specs.Alike.{AreAlike}
use Rattle.mc_settings.specs.SettingLaws.{CommandsKeepAlike, AlikeIsEquivalence}
use Rattle.mc_settings.specs.Settings.{commanded, set_by_all}
use Rattle.mc_settings.proofs.CommandedWorlds.{settings_are, shape_stays, slots_stay}

-- ---- an equivalence

pub alike_self : (world : WorldState) → AreAlike world world
alike_self world = record { shape = same_shape world; settings = λ who. refl; media = λ who local. refl; sides = λ who local. refl }

box_back : (box other : BoxState) → IsAlike box other → IsAlike other box
box_back box other alike =
    record { kind = sym alike.kind; number = sym alike.number; receives = sym alike.receives; sends = sym alike.sends; first_version = sym alike.first_version; slots = sym alike.slots; program = sym alike.program }

pub shape_back : (world other : WorldState) → HasShape world other → HasShape other world
shape_back world other shape = record { channels = sym shape.channels; boxes = sym shape.boxes; alike = λ who. box_back (box_at world who) (box_at other who) (shape.alike who) }

pub alike_back : (world other : WorldState) → AreAlike world other → AreAlike other world
alike_back world other alike = record {
  shape = shape_back world other alike.shape;
  settings = λ who. sym (alike.settings who);
  media = λ who local. sym (alike.media who local);
  sides = λ who local. sym (alike.sides who local);
}

pub alike_both : (world other third : WorldState) → AreAlike world other → AreAlike other third → AreAlike world third
alike_both world other third one two = record {
  shape = shape_both world other third one.shape two.shape;
  settings = λ who. one.settings who ∙ two.settings who;
  media = λ who local. one.media who local ∙ two.media who local;
  sides = λ who local. one.sides who local ∙ two.sides who local;
}

pub alike_is_equivalence : AlikeIsEquivalence
alike_is_equivalence = record { reflexive = alike_self; symmetric = alike_back; transitive = alike_both }

-- ---- commands

-- boxes with the same slots have the same slot at each number
pub same_slot : (box other : BoxState) (local : ℕ) → box.slots ≡ other.slots → slot_at box local ≡ slot_at other local
same_slot box other local same = ap (λ (slots : List Slot). slot_at (record other { slots = slots }) local) same

-- a slot of a box of the world that commands make is the one before
pub slot_stays : (world : WorldState) (turns : List Turn) (who local : ℕ) → slot_at (box_at (commanded world turns) who) local ≡ slot_at (box_at world who) local
slot_stays world turns who local = same_slot (box_at (commanded world turns) who) (box_at world who) local (slots_stay world turns who)

pub commands_keep_alike : CommandsKeepAlike
commands_keep_alike world other turns alike = record {
  shape = shape_both (commanded world turns) world (commanded other turns) (shape_stays world turns)
      (shape_both world other (commanded other turns) alike.shape (shape_back (commanded other turns) other (shape_stays other turns)));
  settings = λ who. settings_are world turns who ∙ (ap (set_by_all (commands_of who turns)) (alike.settings who) ∙ sym (settings_are other turns who));
  media = λ who local. ap (λ (slot : Slot). slot.medium) (slot_stays world turns who local)
      ∙ (alike.media who local ∙ ap (λ (slot : Slot). slot.medium) (sym (slot_stays other turns who local)));
  sides = λ who local. ap (λ (slot : Slot). slot.initiator) (slot_stays world turns who local)
      ∙ (alike.sides who local ∙ ap (λ (slot : Slot). slot.initiator) (sym (slot_stays other turns who local)));
}
