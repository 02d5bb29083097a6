-- What the lines of boxes and channels say, as clauses see it.
use Rattle.std.specs.Prelude.{ℕ, ◌≡◌, ◌≢◌, ◌<◌, ◌==◌, ◌&&◌, ◌||◌, Bool, false, if◌then◌else◌, List, [], ◌∷◌, Option, Some, None, Result, Ok, Err, IsTrue, length, nat_le}
use Rattle.mc_signal.specs.Choice.{codecs_of}
use Rattle.std.specs.Option.{is_some}
use Rattle.mc_text.specs.NameLists.{NameLists, place_of, slot_names}
use Rattle.mc_text.specs.Spelling.{is_name, is_spelt}
use Rattle.mc_model.specs.Worlds.{ChannelState}
use Rattle.mc_model.specs.declared.channel.TheConstants.{TUNNEL_LIMIT}
use Rattle.mc_plan.specs.Plans.{last_channel}
use Rattle.mc_plan.specs.declared.plan.BoxPlan.{BoxPlan}
use Rattle.mc_script.specs.Places.{is_misspelt, is_overlong, unless}
use Rattle.mc_script.specs.declared.command.LineFault.{LineFault}
use Rattle.mc_script.specs.declared.rule.TheConstants.{EXTRA_WORD, GIVEN_TWICE, LIMIT_PASSED, MISSING_WORD, NAME_TOO_LONG, SAME_BOX, WRONG_WORD}
use Rattle.mc_lines.specs.Meaning.{with_joined, with_new_box, with_send_line, with_slots, with_widened}
use Rattle.mc_lines.specs.Rules.{is_full, is_late}
use Rattle.mc_lines.specs.SoFar.{Declared, DeclaredBox}
use Rattle.mc_lines.specs.declared.limit.TheConstants.{CHANNEL_LIMIT}
use Rattle.mc_lines.specs.declared.reader.boxes.DeviceLine.{DeviceLine}
use Rattle.mc_lines.specs.declared.reader.channels.ChannelLine.{ChannelLine}
use Rattle.mc_lines.specs.declared.reader.sends.SendLine.{SendLine}
use Rattle.mc_lines.specs.declared.section.Section.TheVariants as section

-- what is declared of a planned box
abbrev pub box_seen : BoxPlan → DeclaredBox
box_seen planned =
    record {
      kind = planned.kind;
      version = planned.first_version;
      receives = codecs_of planned.codecs;
      sends =
          codecs_of planned.sends;
    }

-- what is declared after a `dev` line
abbrev pub device_seen : Declared → DeviceLine → Declared
device_seen d line = with_new_box d line.name.now (box_seen line.planned)

-- what is declared after a `send` line
abbrev pub send_seen : Declared → SendLine → Declared
send_seen d line = with_send_line d line.who (codecs_of line.sends)

-- what is declared after a `chan` line
abbrev pub channel_seen : Declared → ChannelLine → Declared
channel_seen d line = with_joined d line.medium line.from line.slot.now line.to line.far_slot.now

-- the rule that a `chan` line breaks whose last word is missing; its first slot is asked only where that one's box is
-- known
abbrev pub missing_word : Declared → (known : Bool) → (slot : Option (List ℕ)) → ℕ
missing_word d known slot =
    if is_late d section.Channels || (known && is_misspelt slot) then WRONG_WORD else MISSING_WORD

-- whether the slots of a `chan` line whose words are there may be spelt so, and no word is left over
abbrev pub check_slots : Declared → (slot far_slot : List ℕ) → (more : Bool) → Result (Unit {0}) LineFault
check_slots d slot far_slot more =
    if is_late d section.Channels || is_misspelt (Some slot) || is_misspelt (Some far_slot)
    then Err (record { number = WRONG_WORD })
    else unless more EXTRA_WORD tt

-- whether two boxes may be joined by one more channel of one tunnel
abbrev pub check_join : NameLists → List ChannelState → (from to : ℕ) → Result (Unit {0}) LineFault
check_join names channels from to = if from == to then Err (record { number = SAME_BOX })
    else unless (is_full names from || is_full names to || nat_le CHANNEL_LIMIT (length channels)) LIMIT_PASSED tt

-- what is declared where the two slots of a line are added
abbrev pub slots_seen : Declared → ChannelLine → Declared
slots_seen d line = with_slots d line.medium line.from line.slot.now line.to line.far_slot.now

-- what is declared after an `also` line
abbrev pub also_seen : Declared → ChannelLine → Declared
also_seen d line = with_widened d line.medium line.from line.slot.now line.to line.far_slot.now

-- the two boxes of the last channel, the initiator first
abbrev pub last_ends : List ChannelState → Option (ℕ × ℕ)
last_ends channels =
    if length channels == 0 then None else Some ((last_channel channels).from, (last_channel channels).to)

-- whether the channel between two boxes, which has so many tunnels, may have one more
abbrev pub check_widen : NameLists → ChannelState → Result (Unit {0}) LineFault
check_widen names ends =
    unless (is_full names ends.from || is_full names ends.to
    || nat_le TUNNEL_LIMIT (length ends.tunnels)) LIMIT_PASSED tt

-- what is left to ask of an `also` line whose words are known where they must be
abbrev pub widening_rules : Declared → ChannelLine → List (ℕ × Bool)
widening_rules d line =
    let ends = last_channel d.channels in (
      GIVEN_TWICE,
      is_some (place_of (slot_names d.names line.from) line.slot.now)
          || is_some (place_of (slot_names d.names line.to) line.far_slot.now),
    )
    ∷ (LIMIT_PASSED, is_full d.names ends.from || is_full d.names ends.to || nat_le TUNNEL_LIMIT (length ends.tunnels))
    ∷ (NAME_TOO_LONG, is_overlong (Some line.slot.now) || is_overlong (Some line.far_slot.now))
    ∷ []

-- an `also` line's boxes are those of the last channel, which are two
pub record IsOfLast (d : Declared) (line : ChannelLine) : Type 0 where
  pub some : 0 < length d.channels
  pub near : line.from ≡ (last_channel d.channels).from
  pub far : line.to ≡ (last_channel d.channels).to
  pub apart : line.from ≢ line.to

-- what is left to ask of a `chan` line whose words are known where they must be
abbrev pub joining_rules : Declared → ChannelLine → List (ℕ × Bool)
joining_rules d line = (
  GIVEN_TWICE,
  is_some (place_of (slot_names d.names line.from) line.slot.now)
      || is_some (place_of (slot_names d.names line.to) line.far_slot.now),
)
    ∷ (SAME_BOX, line.from == line.to)
    ∷ (LIMIT_PASSED, is_full d.names line.from || is_full d.names line.to || nat_le CHANNEL_LIMIT (length d.channels))
    ∷ (NAME_TOO_LONG, is_overlong (Some line.slot.now) || is_overlong (Some line.far_slot.now))
    ∷ []

-- both boxes of a `chan` line are declared, and both slots are spelt as names are
pub record KnowsEnds (d : Declared) (line : ChannelLine) : Type 0 where
  pub near : line.from < length d.names.boxes
  pub far : line.to < length d.names.boxes
  pub slot : IsTrue (is_spelt line.slot.now)
  pub far_slot : IsTrue (is_spelt line.far_slot.now)

-- a box has no slot of this name, and not as many as it may have
pub record MayAddSlot (names : NameLists) (who : ℕ) (slot : List ℕ) : Type 0 where
  pub new : is_some (place_of (slot_names names who) slot) ≡ false
  pub room : is_full names who ≡ false

-- each of a line's two boxes may have its slot of the line, and they are different boxes
pub record MayAddSlots (names : NameLists) (line : ChannelLine) : Type 0 where
  pub apart : line.from ≢ line.to
  pub near : MayAddSlot names line.from line.slot.now
  pub far : MayAddSlot names line.to line.far_slot.now

-- the last channel, whose boxes these are, may have one more tunnel, and both slots are named and may be added
pub record CanWiden (d : Declared) (line : ChannelLine) : Type 0 where
  pub last : IsOfLast d line
  pub ends : KnowsEnds d line
  pub widens : check_widen d.names (last_channel d.channels) ≡ Ok tt
  pub adds : MayAddSlots d.names line
  pub slot : IsTrue (is_name line.slot.now)
  pub far_slot : IsTrue (is_name line.far_slot.now)

-- both boxes are declared, they may be joined, and both slots are named and may be added
pub record CanJoin (d : Declared) (line : ChannelLine) : Type 0 where
  pub ends : KnowsEnds d line
  pub joins : check_join d.names d.channels line.from line.to ≡ Ok tt
  pub adds : MayAddSlots d.names line
  pub slot : IsTrue (is_name line.slot.now)
  pub far_slot : IsTrue (is_name line.far_slot.now)
