-- Networks of one shape, whose boxes have the same settings, where a channel joins both.
use Rattle.std.proofs.Common.{◌≡◌, ◌+◌, ◌++◌, inl, inr, ℕ, List, [], ◌∷◌, length, None, ap, sym, ◌∙◌, subst}
use Rattle.std.proofs.lemmas.Bool.{cases_eq}
use Rattle.mc_signal.specs.declared.Medium.{Medium}
use Rattle.mc_box.specs.Boxes.{BoxState, first_goal, first_media, with_new_slot}
use Rattle.mc_box.specs.declared.setup.SlotSetup.{SlotSetup}
use Rattle.mc_growth.specs.Joins.{MayJoin, away_slot, joined, near_slot}
use Rattle.mc_growth.proofs.Joined.{box_away, box_else, box_grows, box_near, program_same}
use Rattle.mc_model.specs.Shapes.{HasShape}
use Rattle.mc_model.specs.Worlds.{ChannelState, WorldState, box_at, places_among, slot_count}
use Rattle.mc_settings.specs.Settings.{Settings, settings_of}

pub count_by_shape : (new old : WorldState) → HasShape new old → slot_count new ≡ slot_count old
count_by_shape new old shape = ap (λ (l : List ChannelState). length (places_among l)) shape.channels

pub near_by_shape : (new old : WorldState) (medium : Medium) → HasShape new old → near_slot new medium ≡ near_slot old medium
near_by_shape new old medium shape = ap (λ (n : ℕ). record (near_slot old medium) { origin = n }) (count_by_shape new old shape)

pub away_by_shape : (new old : WorldState) (medium : Medium) → HasShape new old → away_slot new medium ≡ away_slot old medium
away_by_shape new old medium shape = ap (λ (n : ℕ). record (away_slot old medium) { origin = n + 1 }) (count_by_shape new old shape)

-- settings with those of one slot more
abbrev with_slot : ℕ → SlotSetup → Settings → Settings
with_slot version setup settings = record { goals = settings.goals ++ first_goal setup ∷ []; media = settings.media ++ first_media version setup ∷ [] }

new_settings : (a b : BoxState) (one two : SlotSetup) → a.first_version ≡ b.first_version → one ≡ two → settings_of a ≡ settings_of b
    → settings_of (with_new_slot a one) ≡ settings_of (with_new_slot b two)
new_settings a b one two version setup same =
    ap (λ (n : ℕ). with_slot n one (settings_of a)) version
    ∙ (ap (λ (s : SlotSetup). with_slot b.first_version s (settings_of a)) setup ∙ ap (with_slot b.first_version two) same)

-- a box that has the same settings in both has so then
pub joined_settings : (new old : WorldState) (medium : Medium) (from to who : ℕ) → HasShape new old → MayJoin new from to → MayJoin old from to
    → settings_of (box_at new who) ≡ settings_of (box_at old who) → settings_of (box_at (joined new medium from to) who) ≡ settings_of (box_at (joined old medium from to) who)
joined_settings new old medium from to who shape may may_old same = elim (cases_eq who from) [
  | inl is ↦
      subst (λ (w : ℕ). settings_of (box_at (joined new medium from to) w) ≡ settings_of (box_at (joined old medium from to) w)) (sym is)
      (ap settings_of (box_near new medium from to may)
      ∙ (new_settings (box_at new from) (box_at old from) (near_slot new medium) (near_slot old medium) (shape.alike from).first_version (near_by_shape new old medium shape)
      (subst (λ (w : ℕ). settings_of (box_at new w) ≡ settings_of (box_at old w)) is same) ∙ sym (ap settings_of (box_near old medium from to may_old))))
  | inr one ↦ elim (cases_eq who to) [
    | inl is ↦
        subst (λ (w : ℕ). settings_of (box_at (joined new medium from to) w) ≡ settings_of (box_at (joined old medium from to) w)) (sym is)
        (ap settings_of (box_away new medium from to may)
        ∙ (new_settings (box_at new to) (box_at old to) (away_slot new medium) (away_slot old medium) (shape.alike to).first_version (away_by_shape new old medium shape)
        (subst (λ (w : ℕ). settings_of (box_at new w) ≡ settings_of (box_at old w)) is same) ∙ sym (ap settings_of (box_away old medium from to may_old))))
    | inr two ↦ ap settings_of (box_else new medium from to who one two) ∙ (same ∙ sym (ap settings_of (box_else old medium from to who one two)))
  ]
]

-- a box without a program had none before a channel joined
pub none_before : (world : WorldState) (medium : Medium) (from to who : ℕ) → MayJoin world from to → (box_at (joined world medium from to) who).program ≡ None → (box_at world who).program ≡ None
none_before world medium from to who may none = sym (program_same (box_at world who) (box_at (joined world medium from to) who) (box_grows world medium from to who may)) ∙ none
