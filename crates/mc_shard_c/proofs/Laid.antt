-- Boxes that are laid out one after another.
use Rattle.std.proofs.Common.{◌≡◌, ◌≤◌, ◌<◌, ℕ, ◌+◌, ◌^◌, false, List, [], ◌∷◌, ◌++◌, take, drop, length, map, refl, ap, sym, subst, ◌∙◌, arith, slice_set, append_assoc}
use Rattle.std.specs.Prelude.{replicate}
use Rattle.std.proofs.lemmas.Grind.{common_steps}
use Rattle.std.proofs.lemmas.List.{length-set}
use Rattle.mc_box.specs.Boxes.{BoxState}
use Rattle.mc_plain.specs.Asked.{is_box}
use Rattle.mc_plain.specs.declared.program.PlainState.{PlainState}
use Rattle.mc_shard.specs.Shards.{AreLaid, LaidShard, first_state}
use Rattle.mc_shard.specs.States.{Places}
use Rattle.mc_shard_c.specs.Laying.{AreBoxes, CannotBe, HasAdded, IsFirst, SaysShard, StillLays, code_of_not_laid, owned_by, owned_from, owners_in, place_in, places_in, slot_in}
use Rattle.mc_shard_c.specs.declared.answer.TheConstants.{INVALID}
use Rattle.mc_shard_c.specs.declared.laying.NotLaid.{NotLaid}
use Rattle.mc_shard_c.specs.declared.laying.NotLaid.TheVariants.{Invalid, NoMemory}
use Rattle.mc_shard_c.specs.declared.boxes.PlainShardBox.{PlainShardBox}
use Rattle.mc_shard_c.specs.declared.boxes.PlainShardSlot.{PlainShardSlot}

-- no boxes, where the first is none
pub none_first : (plain : PlainShardBox) (rest : List PlainShardBox) (slots : List PlainShardSlot) (states : List PlainState)
    → ((box : BoxState) → IsFirst plain slots states box → ⊥) → CannotBe (plain ∷ rest) slots states
none_first plain rest slots states never [] are = are
none_first plain rest slots states never (box ∷ boxes) are = never box are.0

-- no boxes, where there are none of the rest
none_rest : (plain : PlainShardBox) (rest : List PlainShardBox) (slots : List PlainShardSlot) (states : List PlainState)
    → CannotBe rest (drop plain.slot_count slots) (drop plain.state_count states) → CannotBe (plain ∷ rest) slots states
none_rest plain rest slots states never [] are = are
none_rest plain rest slots states never (box ∷ boxes) are = never boxes are.1

-- the numbers of the first box say none
pub not_first : (plain : PlainShardBox) (slots : List PlainShardSlot) (states : List PlainState)
    → is_box plain.setup (map slot_in (take plain.slot_count slots)) (take plain.state_count states) ≡ false
    → (box : BoxState) → IsFirst plain slots states box → ⊥
not_first plain slots states off box first = let on = first.says.possible in absurd (cc)

module _ (plains : List PlainShardBox) (slots₀ : List PlainShardSlot) (states₀ : List PlainState) (ends : ℕ)
    (plain : PlainShardBox) (rest : List PlainShardBox) (slots : List PlainShardSlot) (states : List PlainState) (who : ℕ)
    (boxes : List BoxState) (places : Places) (owners : List ℕ) where
  -- one box more
  pub lays_more : (boxes' : List BoxState) → plain.slot_count ≤ length slots → plain.state_count ≤ length states
      → HasAdded boxes boxes' plain (take plain.slot_count slots) (take plain.state_count states)
      → StillLays plains slots₀ states₀ ends (plain ∷ rest) slots states who boxes places owners
      → StillLays plains slots₀ states₀ ends rest (drop plain.slot_count slots) (drop plain.state_count states) (who + 1) boxes'
      (places ++ map place_in (take plain.slot_count slots) ∷ []) (owned_by who (map place_in (take plain.slot_count slots)) owners)
  lays_more boxes' enough enough_states added still =
      let mine : List (ℕ × ℕ) = map place_in (take plain.slot_count slots) in
      let left : Places = places_in rest (drop plain.slot_count slots) in
      record {
        boxes_are = λ more are. subst (λ (all : List BoxState). AreBoxes plains slots₀ states₀ all)
            (sym (ap (λ (l : List BoxState). l ++ more) added.is ∙ append_assoc boxes (added.box ∷ []) more))
            (still.boxes_are (added.box ∷ more) (record { enough_slots = enough; enough_states = enough_states; says = added.says }, are));
        none = λ never. still.none (none_rest plain rest slots states never);
        places_are = append_assoc places (mine ∷ []) left ∙ still.places_are;
        owners_are = still.owners_are;
      }

-- all of them
pub lays_all : (plains : List PlainShardBox) (slots₀ : List PlainShardSlot) (states₀ : List PlainState) (ends : ℕ)
    (rest : List PlainShardBox) (slots : List PlainShardSlot) (states : List PlainState) (who : ℕ)
    (boxes : List BoxState) (places : Places) (owners : List ℕ) → rest ≡ [] → slots ≡ [] → states ≡ []
    → StillLays plains slots₀ states₀ ends rest slots states who boxes places owners
    → AreBoxes plains slots₀ states₀ boxes
lays_all plains slots₀ states₀ ends [] slots states who boxes places owners at no_slots no_states still =
    subst (λ (all : List BoxState). AreBoxes plains slots₀ states₀ all) (append_nil boxes) (still.boxes_are [] (no_slots, no_states))
  where
    append_nil : (xs : List BoxState) → xs ++ [] ≡ xs
    append_nil [] = refl
    append_nil (x ∷ xs) = ap (λ (l : List BoxState). x ∷ l) (append_nil xs)
lays_all plains slots₀ states₀ ends (plain ∷ rest) slots states who boxes places owners at no_slots no_states still = absurd (cc)

-- there are as many boxes as are said
pub as_many : (plains : List PlainShardBox) (slots : List PlainShardSlot) (states : List PlainState) (boxes : List BoxState)
    → AreBoxes plains slots states boxes → length boxes ≡ length plains
as_many [] slots states [] are = refl
as_many [] slots states (box ∷ boxes) are = absurd are
as_many (plain ∷ plains) slots states [] are = absurd are
as_many (plain ∷ plains) slots states (box ∷ boxes) are =
    let rest = as_many plains (drop plain.slot_count slots) (drop plain.state_count states) boxes are.1 in omega (arith, rest)

-- how the boxes are is all one to their places
pub laid_too : (boxes others : List BoxState) (places : Places) (owners : List ℕ) → length boxes ≡ length others
    → AreLaid boxes places owners → AreLaid others places owners
laid_too boxes others places owners same laid = record { box_count = laid.box_count ∙ same; ends = laid.ends; owned = laid.owned }

owned_length : (who : ℕ) (places : List (ℕ × ℕ)) (owners : List ℕ) → length (owned_by who places owners) ≡ length owners
owned_length who [] owners = refl
owned_length who (place ∷ places) owners = owned_length who places (slice_set owners place.0 who) ∙ length-set owners place.0 who

pub from_length : (who : ℕ) (places : Places) (owners : List ℕ) → length (owned_from who places owners) ≡ length owners
from_length who [] owners = refl
from_length who (mine ∷ rest) owners = from_length (who + 1) rest (owned_by who mine owners) ∙ owned_length who mine owners

-- each end has a box
pub owners_length : (plains : List PlainShardBox) (slots : List PlainShardSlot) (ends : ℕ) → length (owners_in plains slots ends) ≡ ends
owners_length plains slots ends = from_length 0 (places_in plains slots) (replicate ends 0) ∙ grind (arith, common_steps)

pub lays_step : (plains : List PlainShardBox) (slots₀ : List PlainShardSlot) (states₀ : List PlainState) (ends : ℕ)
    (rest rest' : List PlainShardBox) (slots own_slots other_slots : List PlainShardSlot) (states own_states other_states : List PlainState)
    (who : ℕ) (boxes boxes' : List BoxState) (places places' : Places) (owners owners' : List ℕ) (plain : PlainShardBox) (n m : ℕ)
    → rest ≡ plain ∷ rest' → n ≡ plain.slot_count → m ≡ plain.state_count → n ≤ length slots → m ≤ length states
    → own_slots ≡ take n slots → own_states ≡ take m states → other_slots ≡ drop n slots → other_states ≡ drop m states
    → HasAdded boxes boxes' plain own_slots own_states → places' ≡ places ++ map place_in own_slots ∷ []
    → owners' ≡ owned_by who (map place_in own_slots) owners
    → StillLays plains slots₀ states₀ ends rest slots states who boxes places owners
    → StillLays plains slots₀ states₀ ends rest' other_slots other_states (who + 1) boxes' places' owners'
lays_step plains slots₀ states₀ ends rest rest' slots own_slots other_slots states own_states other_states who boxes boxes' places places' owners owners' plain n m at is_n is_m enough enough_states own own_s other other_s added placed owned still =
    let still' = subst (λ (r : List PlainShardBox). StillLays plains slots₀ states₀ ends r slots states who boxes places owners) at still in
    let mine = own ∙ ap (λ (k : ℕ). take k slots) is_n in
    let mine_s = own_s ∙ ap (λ (k : ℕ). take k states) is_m in
    let added' = subst (λ (s : List PlainShardSlot). HasAdded boxes boxes' plain s (take plain.state_count states)) mine
    (subst (λ (t : List PlainState). HasAdded boxes boxes' plain own_slots t) mine_s added) in
    let placed' = placed ∙ ap (λ (s : List PlainShardSlot). places ++ map place_in s ∷ []) mine in
    let owned' = owned ∙ ap (λ (s : List PlainShardSlot). owned_by who (map place_in s) owners) mine in
    let other' = other ∙ ap (λ (k : ℕ). drop k slots) is_n in
    let other_s' = other_s ∙ ap (λ (k : ℕ). drop k states) is_m in
    rw other' (rw other_s' (rw placed' (rw owned'
    (lays_more plains slots₀ states₀ ends plain rest' slots states who boxes places owners boxes' (subst (λ (k : ℕ). k ≤ length slots) is_n enough)
    (subst (λ (k : ℕ). k ≤ length states) is_m enough_states) added' still'))))

-- no boxes, where the numbers of the next one say none
pub none_here : (rest rest' : List PlainShardBox) (slots own_slots : List PlainShardSlot) (states own_states : List PlainState)
    (plain : PlainShardBox) (n m : ℕ) → rest ≡ plain ∷ rest' → n ≡ plain.slot_count → m ≡ plain.state_count
    → own_slots ≡ take n slots → own_states ≡ take m states
    → is_box plain.setup (map slot_in own_slots) own_states ≡ false → CannotBe rest slots states
none_here rest rest' slots own_slots states own_states plain n m at is_n is_m own own_s off =
    let mine = own ∙ ap (λ (k : ℕ). take k slots) is_n in
    let mine_s = own_s ∙ ap (λ (k : ℕ). take k states) is_m in
    let off' = subst (λ (s : List PlainShardSlot). is_box plain.setup (map slot_in s) (take plain.state_count states) ≡ false) mine
    (subst (λ (t : List PlainState). is_box plain.setup (map slot_in own_slots) t ≡ false) mine_s off) in
    subst (λ (r : List PlainShardBox). CannotBe r slots states) (sym at) (none_first plain rest' slots states (not_first plain slots states off'))

-- ---- the shard

module _ (plains : List PlainShardBox) (slots : List PlainShardSlot) (states : List PlainState) (ends askers : ℕ)
    (boxes boxes' : List BoxState) (places places' : Places) (owners owners' : List ℕ) (shard : LaidShard) where
  pub not_laid : boxes' ≡ boxes → places' ≡ places → owners' ≡ owners → AreBoxes plains slots states boxes
      → places ≡ places_in plains slots → owners ≡ owners_in plains slots ends → (AreLaid boxes' places' owners' → ⊥)
      → SaysShard plains slots states ends askers shard → ⊥
  not_laid same_boxes same_places same_owners are placed owned unlaid says =
      let laid = laid_too says.boxes boxes (places_in plains slots) (owners_in plains slots ends)
      (as_many plains slots states says.boxes says.are ∙ sym (as_many plains slots states boxes are)) says.laid in
      unlaid (rw same_boxes (rw (same_places ∙ placed) (rw (same_owners ∙ owned) laid)))

  pub says_shard : boxes' ≡ boxes → places' ≡ places → owners' ≡ owners → AreBoxes plains slots states boxes
      → places ≡ places_in plains slots → owners ≡ owners_in plains slots ends → AreLaid boxes' places' owners'
      → length plains < 2 ^ 32
      → shard ≡ record { places = places; owners = owners; state = first_state boxes (length owners) askers }
      → SaysShard plains slots states ends askers shard
  says_shard same_boxes same_places same_owners are placed owned laid few is =
      let count : length owners ≡ ends = ap (λ (l : List ℕ). length l) owned ∙ owners_length plains slots ends in
      record {
        boxes = boxes;
        few = few;
        are = are;
        laid = subst (λ (o : List ℕ). AreLaid boxes (places_in plains slots) o) (same_owners ∙ owned)
            (subst (λ (p : Places). AreLaid boxes p owners') (same_places ∙ placed)
            (subst (λ (b : List BoxState). AreLaid b places' owners') same_boxes laid));
        is = is ∙ rw placed (rw count (rw owned refl));
      }

-- the code of numbers that say none
pub code_invalid : (why : NotLaid) → code_of_not_laid why ≡ INVALID → why ≡ Invalid
code_invalid Invalid is = refl
code_invalid NoMemory is = absurd (cc)
