-- After each line that breaks no rule boxes, slots and told words have names, and no name stands twice in its list.
use Rattle.std.proofs.Common.{◌≡◌, ◌≢◌, ℕ, ◌<◌, ◌==◌, Bool, true, false, nat_le, nat_lt, if◌then◌else◌, List, [], ◌∷◌, length, Option, Some, None, refl, sym, subst, arith, inl, inr, length-append}
use Rattle.std.specs.Prelude.{IsTrue}
use Rattle.std.proofs.lemmas.Bool.{cases_lt}
use Rattle.std.proofs.lemmas.List.{get_or-set_other, get_or-set_same, get_or_append_left, get_or_push, length-set}
use Rattle.std.proofs.lemmas.List.Elements.{All-nil}
use Rattle.std.specs.List.{All, slice_get}
use Rattle.std.specs.Option.{is_some, option_map}
use Rattle.mc_model.specs.Worlds.{ChannelState}
use Rattle.mc_program_lines.proofs.Found.{chained, mapped}
use Rattle.mc_program_lines.proofs.KeptRules.{kept_at}
use Rattle.mc_program_lines.specs.Programs.{BlockState, PartState, block_when_after, block_when_rules, in_part, is_transition, open_part_of, part_when_after, told_after, told_place, waits_for, when_kind_after, when_kind_rules, when_rules, when_told_rules, with_part, with_transition}
use Rattle.mc_program_lines.specs.declared.part.WaitWord.{WaitWord}
use Rattle.mc_program_lines.specs.declared.part.WaitWord.TheVariants as waits
use Rattle.mc_rule.specs.declared.Guard.TheVariants.{Told}
use Rattle.mc_rule.specs.declared.Rule.{Rule}
use Rattle.mc_script.specs.Places.{has, is_misspelt, is_overlong, spelt_value}
use Rattle.mc_script.specs.Printed.{HaveNames}
use Rattle.mc_script.specs.Rules.{least_broken}
use Rattle.mc_script.specs.declared.rule.TheConstants.{NAME_TOO_LONG, WRONG_WORD}
use Rattle.mc_text.proofs.Places.{AreNames-push}
use Rattle.mc_text.specs.NameLists.{AreNames, NameLists, place_of, slot_names, with_box_name, with_name, with_slot_name, with_told_word}
use Rattle.mc_text.specs.Spelling.{is_name, is_spelt}
use Rattle.mc_text.specs.declared.limit.TheConstants.{NAME_LIMIT}

-- a name that isn't in the list
pub record IsNew (names : List (List ℕ)) (name : List ℕ) : Type 0 where
  pub new : place_of names name ≡ None
  pub spelt : IsTrue (is_name name)

-- a word that is neither misspelt nor overlong is a name
kept_name : (word : List ℕ) → is_misspelt (Some word) ≡ false → is_overlong (Some word) ≡ false → IsTrue (is_name word)
kept_name word spelt short = by (is_spelt word) refl
  where
    by : (b : Bool) → is_spelt word ≡ b → IsTrue (is_name word)
    by true e =
        let within : nat_lt NAME_LIMIT (length word) ≡ false = rw e at short in
        let few : nat_le (length word) NAME_LIMIT ≡ true = grind arith in
        rw (e, few) refl
    by false e = absurd (let clash : true ≡ false = rw e at spelt in cc)

no_place : (place : Option ℕ) → is_some place ≡ false → place ≡ None
no_place None none = refl
no_place (Some n) none = absurd cc

-- what the rules of a line ask of a new name
pub kept_new : (names : List (List ℕ)) (name : List ℕ) → is_misspelt (Some name) ≡ false → is_overlong (Some name) ≡ false → has names (Some name) ≡ false → IsNew names name
kept_new names name spelt short given = record { new = no_place (place_of names name) given; spelt = kept_name name spelt short }

-- a new name comes last
pushed : (names : List (List ℕ)) (name : List ℕ) → AreNames names → IsNew names name → AreNames (with_name names name)
pushed names name are is = AreNames-push names name are is.new is.spelt

none_are : AreNames []
none_are = record { spelt = λ i within. absurd (omega arith); distinct = λ i j less within. absurd (omega arith) }

pub no_names_have : (codecs : List (List ℕ)) → HaveNames (record { codecs = codecs; boxes = []; slots = []; told = [] })
no_names_have codecs = record { of_boxes = none_are; of_slots = λ who below. absurd (omega arith); of_told = none_are }

-- a box more, without slots
pub box_named_too : (names : NameLists) (name : List ℕ) → length names.slots ≡ length names.boxes → HaveNames names → IsNew names.boxes name → HaveNames (with_box_name names name)
box_named_too names name listed have is = record {
  of_boxes = pushed names.boxes name have.of_boxes is;
  of_slots = λ who below. elim (cases_lt who (length names.slots)) [
    | inl lt ↦ rw (get_or_append_left names.slots ([] ∷ []) [] who lt) (have.of_slots who (omega arith))
    | inr le ↦ let last : who ≡ length names.slots = omega (arith, length-append names.boxes (name ∷ [])) in rw (last, get_or_push names.slots [] [] (length names.slots) refl) none_are
  ];
  of_told = have.of_told;
}

-- a slot more of a box
pub slot_named_too : (names : NameLists) (who : ℕ) (name : List ℕ) → who < length names.slots → who < length names.boxes → HaveNames names → IsNew (slot_names names who) name → HaveNames (with_slot_name names who name)
slot_named_too names who name listed below have is = record {
  of_boxes = have.of_boxes;
  of_slots = λ k within. by k within (who == k) refl;
  of_told = have.of_told;
}
  where
    list : List (List ℕ)
    list = with_name (slot_names names who) name

    by : (k : ℕ) → k < length names.boxes → (here : Bool) → (who == k) ≡ here → AreNames (slot_names (with_slot_name names who name) k)
    by k within true e =
        let same : who ≡ k = grind arith in
        subst (λ (n : ℕ). AreNames (slot_names (with_slot_name names who name) n)) same
        (subst AreNames (sym (get_or-set_same names.slots who (with_name (slot_names names who) name) [] listed)) (pushed (slot_names names who) name (have.of_slots who below) is))
    by k within false e =
        let apart : k ≢ who = grind arith in
        subst AreNames (sym (get_or-set_other names.slots who k (with_name (slot_names names who) name) [] apart)) (have.of_slots k within)

-- a slot more of each of two boxes
pub slots_named_too : (names : NameLists) (from : ℕ) (slot : List ℕ) (to : ℕ) (far_slot : List ℕ) → length names.slots ≡ length names.boxes → from < length names.boxes → to < length names.boxes → from ≢ to
    → HaveNames names → IsNew (slot_names names from) slot → IsNew (slot_names names to) far_slot → HaveNames (with_slot_name (with_slot_name names from slot) to far_slot)
slots_named_too names from slot to far_slot listed near far apart have is far_is =
    let half = with_slot_name names from slot in
    let kept : length half.slots ≡ length names.slots = length-set names.slots from (with_name (slot_names names from) slot) in
    let other : to ≢ from = λ same. apart (sym same) in
    let still : slot_names half to ≡ slot_names names to = get_or-set_other names.slots from to (with_name (slot_names names from) slot) [] other in
    slot_named_too half to far_slot (omega arith) far (slot_named_too names from slot (omega arith) near have is) (subst (λ (list : List (List ℕ)). IsNew list far_slot) (sym still) far_is)

-- ---- told words

told_word_kept : (names : NameLists) (word : List ℕ) → AreNames names.told → IsTrue (is_name word) → AreNames (with_told_word names word).told
told_word_kept names word are spelt = by (place_of names.told word) refl
  where
    by : (place : Option ℕ) → place_of names.told word ≡ place → AreNames (if is_some (place_of names.told word) then names else record names { told = with_name names.told word }).told
    by None e = rw e (pushed names.told word are (record { new = e; spelt = spelt }))
    by (Some n) e = rw e are

told_kept : (names : NameLists) (states : List (List ℕ)) (part : PartState) (words : List (List ℕ)) (after : NameLists × PartState) → AreNames names.told → least_broken (when_told_rules names states part words) ≡ None
    → told_after names states part words ≡ Some after → AreNames after.0.told
told_kept names states part words after are kept means = by (slice_get words 0) refl (spelt_value (place_of states) (slice_get words 1)) refl
  where
    by : (word : Option (List ℕ)) → slice_get words 0 ≡ word → (target : Option ℕ) → spelt_value (place_of states) (slice_get words 1) ≡ target → AreNames after.0.told
    by None a target b = absurd (let none : None ≡ Some after = rw a at means in cc)
    by (Some word) a None b = absurd (let none : None ≡ Some after = rw (a, b) at means in cc)
    by (Some word) a (Some target) b =
        let some : Some (with_told_word names word, with_transition part (record { guard = Told (told_place names word); target = target })) ≡ Some after = rw (a, b) at means in
        let is : after ≡ (with_told_word names word, with_transition part (record { guard = Told (told_place names word); target = target })) = cc in
        let rules = when_told_rules names states part words in
        let spelt : is_misspelt (slice_get words 0) ≡ false = kept_at rules 1 (WRONG_WORD, is_misspelt (slice_get words 0)) kept refl in
        let short : is_overlong (slice_get words 0) ≡ false = kept_at rules 5 (NAME_TOO_LONG, is_overlong (slice_get words 0)) kept refl in
        let name : IsTrue (is_name word) = kept_name word (rw a at spelt) (rw a at short) in
        subst (λ (it : NameLists × PartState). AreNames it.0.told) (sym is) (told_word_kept names word are name)

kind_told : (names : NameLists) (who : ℕ) (states : List (List ℕ)) (part : PartState) (kind : Option WaitWord) (words : List (List ℕ)) (after : NameLists × PartState) → AreNames names.told
    → least_broken (when_kind_rules names who states part kind words) ≡ None → when_kind_after names who states part kind words ≡ Some after → AreNames after.0.told
kind_told names who states part None words after are kept means = absurd cc
kind_told names who states part (Some waits.Is) words after are kept means =
    let made = mapped (λ (transition : Rule). (names, with_transition part transition)) (is_transition names who states words) after means in
    subst (λ (it : NameLists × PartState). AreNames it.0.told) (sym made.2) are
kind_told names who states part (Some waits.Told) words after are kept means = told_kept names states part words after are kept means

part_told : (names : NameLists) (who : ℕ) (states : List (List ℕ)) (part : PartState) (words : List (List ℕ)) (after : NameLists × PartState) → AreNames names.told
    → least_broken (when_rules names who states part words) ≡ None → part_when_after names who states part words ≡ Some after → AreNames after.0.told
part_told names who states part [] after are kept means = absurd cc
part_told names who states part (first ∷ others) after are kept means = kind_told names who states part (waits_for first) others after are kept means

-- a `when` line leaves told words names
pub when_told : (names : NameLists) (block : BlockState) (after : NameLists × BlockState) (words : List (List ℕ)) → AreNames names.told → least_broken (block_when_rules names block words) ≡ None
    → block_when_after names block words ≡ Some after → AreNames after.0.told
when_told names block after words are kept means =
    let part = chained (λ part. option_map (λ after. (after.0, with_part block after.1)) (part_when_after names block.who block.states part words)) (open_part_of block) after means in
    let made = mapped (λ (after : NameLists × PartState). (after.0, with_part block after.1)) (part_when_after names block.who block.states part.0 words) after part.2 in
    let own : least_broken (when_rules names block.who block.states part.0 words) ≡ None = subst (λ (o : Option PartState). least_broken (in_part (λ part. when_rules names block.who block.states part words) o) ≡ None) part.1 kept in
    subst (λ (it : NameLists × BlockState). AreNames it.0.told) (sym made.2) (part_told names block.who block.states part.0 words made.0 are own made.1)

-- ---- what is kept

-- the two boxes of a channel are two
abbrev pub IsApart : ChannelState → Type 0
IsApart ends = ends.from ≢ ends.to

-- names are names, and channels lead from box to box
pub record AreCalled (names : NameLists) (channels : List ChannelState) : Type 0 where
  pub have : HaveNames names
  pub apart : All IsApart channels

pub none_called : AreCalled (record { codecs = []; boxes = []; slots = []; told = [] }) []
none_called = record { have = no_names_have []; apart = All-nil IsApart }
