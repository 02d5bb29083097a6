-- What the lines of a program leave as it is: its box, and all names but told words.
use Rattle.std.proofs.Common.{◌≡◌, ℕ, Bool, true, false, if◌then◌else◌, List, [], ◌∷◌, Option, Some, None, refl, sym, ap, subst}
use Rattle.std.specs.List.{slice_get}
use Rattle.std.specs.Option.{is_some, option_map}
use Rattle.mc_rule.specs.declared.Rule.{Rule}
use Rattle.mc_rule.specs.declared.Guard.TheVariants.{Told}
use Rattle.mc_text.specs.NameLists.{NameLists, place_of, with_name, with_told_word}
use Rattle.mc_script.specs.Places.{spelt_value}
use Rattle.mc_program_lines.specs.Programs.{BlockState, PartState, block_goal_after, block_link_after, block_when_after, is_transition, open_part_of, part_goal_after, part_link_after, part_when_after, told_after, told_place, waits_for, when_kind_after, with_part, with_transition}
use Rattle.mc_program_lines.specs.declared.part.WaitWord.{WaitWord}
use Rattle.mc_program_lines.specs.declared.part.WaitWord.TheVariants as waits
use Rattle.mc_program_lines.proofs.Found.{chained, mapped}

-- other told words at most
pub record TellsMore (old new : NameLists) : Type 0 where
  pub codecs : new.codecs ≡ old.codecs
  pub boxes : new.boxes ≡ old.boxes
  pub slots : new.slots ≡ old.slots

pub tells_none : (names : NameLists) → TellsMore names names
tells_none names = record { codecs = refl; boxes = refl; slots = refl }

tells_one : (names : NameLists) (word : List ℕ) → TellsMore names (with_told_word names word)
tells_one names word = by (is_some (place_of names.told word))
  where
    by : (there : Bool) → TellsMore names (if there then names else record names { told = with_name names.told word })
    by true = tells_none names
    by false = record { codecs = refl; boxes = refl; slots = refl }

pub goal_keeps_box : (names : NameLists) (block after : BlockState) (words : List (List ℕ)) → block_goal_after names block words ≡ Some after → after.who ≡ block.who
goal_keeps_box names block after words means =
    let part = chained (λ part. option_map (with_part block) (part_goal_after names block.who part words)) (open_part_of block) after means in
    let made = mapped (with_part block) (part_goal_after names block.who part.0 words) after part.2 in
    ap (λ (b : BlockState). b.who) made.2

pub link_keeps_box : (names : NameLists) (block after : BlockState) (words : List (List ℕ)) → block_link_after names block words ≡ Some after → after.who ≡ block.who
link_keeps_box names block after words means =
    let part = chained (λ part. option_map (with_part block) (part_link_after names block.who part words)) (open_part_of block) after means in
    let made = mapped (with_part block) (part_link_after names block.who part.0 words) after part.2 in
    ap (λ (b : BlockState). b.who) made.2

told_names : (names : NameLists) (states : List (List ℕ)) (part : PartState) (words : List (List ℕ)) (after : NameLists × PartState) → told_after names states part words ≡ Some after → TellsMore names after.0
told_names names states part words after means = by (slice_get words 0) refl (spelt_value (place_of states) (slice_get words 1)) refl
  where
    by : (word : Option (List ℕ)) → slice_get words 0 ≡ word → (target : Option ℕ) → spelt_value (place_of states) (slice_get words 1) ≡ target → TellsMore names after.0
    by None a target b = absurd (let none : None ≡ Some after = rw a at means in cc)
    by (Some word) a None b = absurd (let none : None ≡ Some after = rw (a, b) at means in cc)
    by (Some word) a (Some target) b =
        let some : Some (with_told_word names word, with_transition part (record { guard = Told (told_place names word); target = target })) ≡ Some after = rw (a, b) at means in
        let is : after ≡ (with_told_word names word, with_transition part (record { guard = Told (told_place names word); target = target })) = cc in
        subst (λ (it : NameLists × PartState). TellsMore names it.0) (sym is) (tells_one names word)

kind_names : (names : NameLists) (who : ℕ) (states : List (List ℕ)) (part : PartState) (kind : Option WaitWord) (words : List (List ℕ)) (after : NameLists × PartState) → when_kind_after names who states part kind words ≡ Some after → TellsMore names after.0
kind_names names who states part None words after means = absurd cc
kind_names names who states part (Some waits.Is) words after means =
    let made = mapped (λ (transition : Rule). (names, with_transition part transition)) (is_transition names who states words) after means in
    subst (λ (it : NameLists × PartState). TellsMore names it.0) (sym made.2) (tells_none names)
kind_names names who states part (Some waits.Told) words after means = told_names names states part words after means

part_names : (names : NameLists) (who : ℕ) (states : List (List ℕ)) (part : PartState) (words : List (List ℕ)) (after : NameLists × PartState) → part_when_after names who states part words ≡ Some after → TellsMore names after.0
part_names names who states part [] after means = absurd cc
part_names names who states part (first ∷ others) after means = kind_names names who states part (waits_for first) others after means

pub when_names : (names : NameLists) (block : BlockState) (after : NameLists × BlockState) (words : List (List ℕ)) → block_when_after names block words ≡ Some after → TellsMore names after.0 × (after.1.who ≡ block.who)
when_names names block after words means =
    let part = chained (λ part. option_map (λ after. (after.0, with_part block after.1)) (part_when_after names block.who block.states part words)) (open_part_of block) after means in
    let made = mapped (λ (after : NameLists × PartState). (after.0, with_part block after.1)) (part_when_after names block.who block.states part.0 words) after part.2 in
    (subst (λ (it : NameLists × BlockState). TellsMore names it.0) (sym made.2) (part_names names block.who block.states part.0 words made.0 made.1), ap (λ (it : NameLists × BlockState). it.1.who) made.2)
