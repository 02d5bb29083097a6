-- No form is empty.
use Rattle.std.proofs.Common.{◌≡◌, ℕ, ◌+◌, ◌<◌, ◌≤◌, List, [], ◌∷◌, ◌++◌, length, replicate, Some, None, refl, arith}
use Rattle.std.proofs.lemmas.List.{length-append}
use Rattle.std.specs.Int.{to_le_bytes, w16, w32, w64}
use Rattle.mc_entry.specs.Wire.{codec_wire, codecs_wire, descriptor_wire, selector_wire, word2, word4, word8, zeros}
use Rattle.mc_slot.specs.declared.SlotGoal.TheVariants.{End, Link}
use Rattle.mc_rule.specs.declared.Guard.{Guard}
use Rattle.mc_rule.specs.declared.Guard.TheVariants.{SlotIs, Told}
use Rattle.mc_snapshot.specs.Boxes.{box_wire, byte_wire, progress_wire, slots_wire}
use Rattle.mc_snapshot.specs.Forms.{each_wire, list_wire, option_wire, pair_wire}
use Rattle.mc_snapshot.specs.Kinds.{flag_number}
use Rattle.mc_snapshot.specs.Rules.{guard_wire, rule_wire, state_wire}
use Rattle.mc_snapshot.specs.Shards.{counts_wire, places_wire, reached_wire, shard_wire}
use Rattle.mc_snapshot.specs.Slots.{address_wire, goal_wire, media_wire, slot_wire}

-- a form is longer than what comes after it
abbrev pub IsLong : {T : Type 0} → (T → List ℕ → List ℕ) → Type 0
IsLong {T} wire = (one : T) (more : List ℕ) → length more < length (wire one more)

pub byte_long : (n : ℕ) (more : List ℕ) → length more < length (n ∷ more)
byte_long n more = omega arith

pub word4_long : IsLong word4
unfolding word4
word4_long n more =
    let long : length (to_le_bytes w32 n ++ more) ≡ length (to_le_bytes w32 n) + length more = length-append (to_le_bytes w32 n) more in
    let four : length (to_le_bytes w32 n) ≡ 4 = refl in
    omega (arith, long, four)

pub word2_long : IsLong word2
unfolding word2
word2_long n more =
    let long : length (to_le_bytes w16 n ++ more) ≡ length (to_le_bytes w16 n) + length more = length-append (to_le_bytes w16 n) more in
    let two : length (to_le_bytes w16 n) ≡ 2 = refl in
    omega (arith, long, two)

pub word8_long : IsLong word8
unfolding word8
word8_long n more =
    let long : length (to_le_bytes w64 n ++ more) ≡ length (to_le_bytes w64 n) + length more = length-append (to_le_bytes w64 n) more in
    let eight : length (to_le_bytes w64 n) ≡ 8 = refl in
    omega (arith, long, eight)

pub option_long : {T : Type 0} (wire : T → List ℕ → List ℕ) → IsLong wire → IsLong (option_wire wire)
option_long {T} wire long None more = omega arith
option_long {T} wire long (Some one) more = let inner : length more < length (wire one more) = long one more in omega (arith, inner)

pub pair_long : {A B : Type 0} (first : A → List ℕ → List ℕ) (second : B → List ℕ → List ℕ) → IsLong first → IsLong second
    → IsLong (pair_wire first second)
pair_long {A} {B} first second long long_2 pair more =
    let inner : length more < length (second pair.1 more) = long_2 pair.1 more in
    let outer : length (second pair.1 more) < length (first pair.0 (second pair.1 more)) = long pair.0 (second pair.1 more) in
    omega (arith, inner, outer)

-- what stands between is longer still
abbrev IsNotShort : {T : Type 0} → (T → List ℕ → List ℕ) → Type 0
IsNotShort {T} wire = (one : T) (more : List ℕ) → length more ≤ length (wire one more)

zeros_not_short : IsNotShort zeros
unfolding zeros
zeros_not_short count more =
    let long : length (replicate count 0 ++ more) ≡ length (replicate count 0) + length more = length-append (replicate count 0) more in
    omega (arith, long)

pub codecs_long : IsLong codecs_wire
codecs_long list more =
    let long : length (list.at ++ more) ≡ length list.at + length more = length-append list.at more in
    omega (arith, long)

codec_long : IsLong codec_wire
codec_long None more = omega arith
codec_long (Some codec) more = omega arith

pub descriptor_long : IsLong descriptor_wire
descriptor_long d more =
    let last = codecs_long d.codecs more in
    let port = word2_long d.port (codecs_wire d.codecs more) in
    let addr = word4_long d.addr (word2 d.port (codecs_wire d.codecs more)) in
    let version = word4_long d.version (word4 d.addr (word2 d.port (codecs_wire d.codecs more))) in
    let origin = word4_long d.origin (word4 d.version (word4 d.addr (word2 d.port (codecs_wire d.codecs more)))) in
    omega (arith, last, port, addr, version, origin)

pub selector_long : IsLong selector_wire
selector_long s more =
    let rest = zeros_not_short 7 more in
    let last = codec_long s.codec (zeros 7 more) in
    let port = word2_long s.port (codec_wire s.codec (zeros 7 more)) in
    let addr = word4_long s.addr (word2 s.port (codec_wire s.codec (zeros 7 more))) in
    let version = word4_long s.version (word4 s.addr (word2 s.port (codec_wire s.codec (zeros 7 more)))) in
    let origin = word4_long s.origin (word4 s.version (word4 s.addr (word2 s.port (codec_wire s.codec (zeros 7 more))))) in
    omega (arith, rest, last, port, addr, version, origin)

pub address_long : IsLong address_wire
address_long address more =
    let port = word2_long address.port more in
    let addr = word4_long address.addr (word2 address.port more) in
    omega (arith, port, addr)

pub media_long : IsLong media_wire
media_long media more =
    let last = option_long address_wire address_long media.address more in
    let version = word4_long media.version (flag_number media.hears ∷ flag_number media.talks ∷ option_wire address_wire media.address more) in
    let origin = word4_long media.origin (word4 media.version (flag_number media.hears ∷ flag_number media.talks ∷ option_wire address_wire media.address more)) in
    omega (arith, last, version, origin)

pub goal_long : IsLong goal_wire
goal_long (End goal) more = omega arith
goal_long (Link partner) more = omega arith

pub slot_long : IsLong slot_wire
slot_long slot more =
    let one = option_long selector_wire selector_long slot.sel_in more in
    let two = option_long selector_wire selector_long slot.sel_out (option_wire selector_wire slot.sel_in more) in
    let three = option_long descriptor_wire descriptor_long slot.got (option_wire selector_wire slot.sel_out (option_wire selector_wire slot.sel_in more)) in
    let four = option_long descriptor_wire descriptor_long slot.sent (option_wire descriptor_wire slot.got (option_wire selector_wire slot.sel_out (option_wire selector_wire slot.sel_in more))) in
    omega (arith, one, two, three, four)

each_not_short : {T : Type 0} (wire : T → List ℕ → List ℕ) → IsLong wire → (list : List T) (more : List ℕ)
    → length more ≤ length (each_wire wire list more)
each_not_short {T} wire long [] more = omega arith
each_not_short {T} wire long (one ∷ rest) more =
    let inner = each_not_short wire long rest more in
    let outer = long one (each_wire wire rest more) in
    omega (arith, inner, outer)

-- the number of a list's values alone is eight bytes
pub list_long : {T : Type 0} (wire : T → List ℕ → List ℕ) → IsLong wire → IsLong (list_wire wire)
list_long {T} wire long list more =
    let each = each_not_short wire long list more in
    let count = word8_long (length list) (each_wire wire list more) in
    omega (arith, each, count)

guard_long_by : (guard : Guard) (more : List ℕ) → length more < length (guard_wire guard more)
guard_long_by (SlotIs local state) more = omega arith
guard_long_by (Told word) more = omega arith

pub guard_long : IsLong guard_wire
guard_long guard more = guard_long_by guard more

pub rule_long : IsLong rule_wire
rule_long rule more =
    let target = word4_long rule.target more in
    let guard = guard_long rule.guard (word4 rule.target more) in
    omega (arith, target, guard)

pub state_long : IsLong state_wire
state_long state more =
    let rules = list_long rule_wire rule_long state.rules more in
    let goals = list_long goal_wire goal_long state.goals (list_wire rule_wire state.rules more) in
    omega (arith, rules, goals)

pub box_long : IsLong box_wire
box_long box more =
    let told = option_long byte_wire byte_long box.told more in
    let at = option_long word4 word4_long box.at (option_wire byte_wire box.told more) in
    let program = option_long (list_wire state_wire) (list_long state_wire state_long) box.program (progress_wire box more) in
    let rest = option_wire (list_wire state_wire) box.program (progress_wire box more) in
    let media = list_long media_wire media_long box.media rest in
    let goals = list_long goal_wire goal_long box.goals (list_wire media_wire box.media rest) in
    let slots = list_long slot_wire slot_long box.slots (list_wire goal_wire box.goals (list_wire media_wire box.media rest)) in
    let version = word4_long box.first_version (slots_wire box rest) in
    let sends = codecs_long box.sends (word4 box.first_version (slots_wire box rest)) in
    let receives = codecs_long box.receives (codecs_wire box.sends (word4 box.first_version (slots_wire box rest))) in
    let number = word4_long box.number (codecs_wire box.receives (codecs_wire box.sends (word4 box.first_version (slots_wire box rest)))) in
    omega (arith, told, at, program, media, goals, slots, version, sends, receives, number)

pub places_long : IsLong places_wire
places_long places more = list_long (pair_wire word4 byte_wire) (pair_long word4 byte_wire word4_long byte_long) places more

pub reached_long : IsLong reached_wire
reached_long reached more =
    let digest = word8_long reached.digest more in
    let count = word8_long reached.count (word8 reached.digest more) in
    omega (arith, digest, count)

pub shard_long : IsLong shard_wire
shard_long shard more =
    let asked = list_long word8 word8_long shard.state.asked more in
    let taken = list_long reached_wire reached_long shard.state.taken (list_wire word8 shard.state.asked more) in
    let sent = list_long reached_wire reached_long shard.state.sent (list_wire reached_wire shard.state.taken (list_wire word8 shard.state.asked more)) in
    let owners = list_long word4 word4_long shard.owners (counts_wire shard more) in
    let places = list_long places_wire places_long shard.places (list_wire word4 shard.owners (counts_wire shard more)) in
    let boxes = list_long box_wire box_long shard.state.boxes (list_wire places_wire shard.places (list_wire word4 shard.owners (counts_wire shard more))) in
    let stamp = word8_long shard.state.stamp (list_wire box_wire shard.state.boxes (list_wire places_wire shard.places (list_wire word4 shard.owners (counts_wire shard more)))) in
    omega (arith, asked, taken, sent, owners, places, boxes, stamp)
