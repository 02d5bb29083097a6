-- The programs that lines declared: each fits the slots of its box, which is a feature, no two are of one box, and all but one that is open are finished. They come after the channels.
use Rattle.std.proofs.Common.{◌≡◌, ◌≢◌, ◌⊎◌, inl, inr, ℕ, zero, suc, ◌+◌, ◌-◌, ◌<◌, ◌≤◌, ◌==◌, ◌||◌, Bool, true, false, List, [], ◌∷◌, ◌++◌, length, map, slice_index_or, slice_set, Option, Some, refl, sym, ap, ◌∙◌, subst, arith, length-append}
use Rattle.std.proofs.lemmas.Bool.{cases_lt, or_parts}
use Rattle.std.proofs.lemmas.List.{get_or_append_left, get_or-set_other, length-set, map-append}
use Rattle.std.proofs.lemmas.List.Elements.{All-head, All-nil, All-push, All-set, All-tail, All-weaker}
use Rattle.std.specs.List.{All, list_any, slice_get}
use Rattle.mc_box.specs.BoxShapes.{BoxShapeState, is_feature, shape_of}
use Rattle.mc_program_lines.specs.BlockLaws.{FitsIn}
use Rattle.mc_program_lines.specs.Programs.{BlockState, is_unfinished_block, new_block}
use Rattle.mc_lines.proofs.Blocks.{same_media}
use Rattle.mc_lines.specs.Meaning.{programmed_shape}
use Rattle.mc_lines.specs.Rules.{block_in, rank}
use Rattle.mc_lines.specs.declared.section.Section.{Section}
use Rattle.mc_lines.specs.declared.section.Section.TheVariants as section

-- ---- the boxes of programs

abbrev pub owners : List BlockState → List ℕ
owners blocks = map (λ (block : BlockState). block.who) blocks

-- one of these is this box
abbrev pub has_owner : List ℕ → ℕ → Bool
has_owner whos who = list_any (λ owner. owner == who) whos

-- no two are the same
abbrev pub AreApart : List ℕ → Type 0
AreApart [] = Unit {0}
AreApart (who ∷ whos) = All (λ other. other ≢ who) whos × AreApart whos

not_same : (a b : ℕ) → (a == b) ≡ false → b ≢ a
not_same a b kept = grind arith

-- one more, which none of them is
apart_push : (whos : List ℕ) (who : ℕ) → AreApart whos → has_owner whos who ≡ false → AreApart (whos ++ who ∷ [])
apart_push [] who apart new = (All-nil (λ other. other ≢ who), tt)
apart_push (one ∷ whos) who apart new =
    let both = or_parts (one == who) (has_owner whos who) new in
    (All-push (λ other. other ≢ one) whos who apart.0 (not_same one who both.0), apart_push whos who apart.1 both.1)

pub owner_push : (whos : List ℕ) (who k : ℕ) → has_owner (whos ++ who ∷ []) k ≡ (has_owner whos k || who == k)
owner_push [] who k = by (who == k)
  where
    by : (b : Bool) → (b || false) ≡ (false || b)
    by true = refl
    by false = refl
owner_push (one ∷ whos) who k = ap (λ (b : Bool). one == k || b) (owner_push whos who k) ∙ by (one == k) (has_owner whos k) (who == k)
  where
    by : (a b c : Bool) → (a || (b || c)) ≡ ((a || b) || c)
    by true b c = refl
    by false b c = refl

-- ---- what is kept

abbrev pub no_block : BlockState
no_block = new_block 0 []

abbrev pub AllFinished : List BlockState → Type 0
AllFinished blocks = (k : ℕ) → k < length blocks → is_unfinished_block (Some (slice_index_or blocks k no_block)) ≡ false

pub record AreLaid (shape : List BoxShapeState) (place : Section) (blocks : List BlockState) : Type 0 where
  pub placed : (blocks ≡ []) ⊎ (rank section.Programs ≤ rank place)
  pub known : All (λ who. who < length shape) (owners blocks)
  pub features : All (λ who. is_feature (shape_of shape who).kind ≡ true) (owners blocks)
  pub apart : AreApart (owners blocks)
  pub fitting : All (FitsIn shape) blocks
  pub earlier : (k : ℕ) → k + 1 < length blocks → is_unfinished_block (Some (slice_index_or blocks k no_block)) ≡ false
  pub last : (place ≡ section.Programs) ⊎ AllFinished blocks

pub none_laid : (shape : List BoxShapeState) (place : Section) → AreLaid shape place []
none_laid shape place = record {
  placed = inl refl;
  known = All-nil (λ who. who < length shape);
  features = All-nil (λ who. is_feature (shape_of shape who).kind ≡ true);
  apart = tt;
  fitting = All-nil (FitsIn shape);
  earlier = λ k below. absurd (omega arith);
  last = inr (λ k below. absurd (omega arith));
}

-- ---- where all are finished

read_there : {A : Type 0} (xs : List A) (k : ℕ) (d : A) → k < length xs → slice_get xs k ≡ Some (slice_index_or xs k d)
read_there [] k d below = absurd (omega arith)
read_there (x ∷ xs) zero d below = refl
read_there (x ∷ xs) (suc k) d below = read_there xs k d (omega arith)

-- where none is open that is unfinished
pub all_finished : (shape : List BoxShapeState) (place : Section) (blocks : List BlockState) → AreLaid shape place blocks → is_unfinished_block (block_in place blocks) ≡ false → AllFinished blocks
all_finished shape place blocks laid kept k below = by laid.last (cases_lt (k + 1) (length blocks))
  where
    by : (place ≡ section.Programs) ⊎ AllFinished blocks → (k + 1 < length blocks) ⊎ (length blocks ≤ k + 1) → is_unfinished_block (Some (slice_index_or blocks k no_block)) ≡ false
    by (inr all) right = all k below
    by (inl here) (inl before) = laid.earlier k before
    by (inl here) (inr last) =
        let opened : is_unfinished_block (slice_get blocks (length blocks - 1)) ≡ false = subst (λ (s : Section). is_unfinished_block (block_in s blocks) ≡ false) here kept in
        let at : length blocks - 1 ≡ k = omega arith in
        subst (λ (o : Option BlockState). is_unfinished_block o ≡ false) (ap (λ (n : ℕ). slice_get blocks n) at ∙ read_there blocks k no_block below) opened

-- a later section begins
pub laid_behind : (shape : List BoxShapeState) (place next : Section) (blocks : List BlockState) → AreLaid shape place blocks → AllFinished blocks → rank section.Programs ≤ rank next → AreLaid shape next blocks
laid_behind shape place next blocks laid finished behind = record {
  placed = inr behind;
  known = laid.known;
  features = laid.features;
  apart = laid.apart;
  fitting = laid.fitting;
  earlier = laid.earlier;
  last = inr finished;
}

-- ---- a program more

-- a box that gets a program is else as it was
kind_stays : (shape : List BoxShapeState) (who k : ℕ) → (shape_of (programmed_shape shape who) k).kind ≡ (shape_of shape k).kind
kind_stays shape who k = go shape who k
  where
    go : (boxes : List BoxShapeState) (i j : ℕ) → (shape_of (slice_set boxes i (record (shape_of boxes i) { programmed = true })) j).kind ≡ (shape_of boxes j).kind
    go [] i j = refl
    go (box ∷ boxes) zero zero = refl
    go (box ∷ boxes) zero (suc j) = refl
    go (box ∷ boxes) (suc i) zero = refl
    go (box ∷ boxes) (suc i) (suc j) = go boxes i j

still_fits : (shape : List BoxShapeState) (who : ℕ) (block : BlockState) → FitsIn shape block → FitsIn (programmed_shape shape who) block
still_fits shape who block fits = rw (same_media shape who block.who) fits

pub laid_more : (shape : List BoxShapeState) (place : Section) (blocks : List BlockState) (who : ℕ) (states : List (List ℕ)) → AreLaid shape place blocks → AllFinished blocks → who < length shape → is_feature (shape_of shape who).kind ≡ true
    → has_owner (owners blocks) who ≡ false → FitsIn shape (new_block who states) → AreLaid (programmed_shape shape who) section.Programs (blocks ++ new_block who states ∷ [])
laid_more shape place blocks who states laid finished below feature new fits =
    let count : length (programmed_shape shape who) ≡ length shape = length-set shape who (record (shape_of shape who) { programmed = true }) in
    let more : owners (blocks ++ new_block who states ∷ []) ≡ owners blocks ++ who ∷ [] = map-append (λ (block : BlockState). block.who) blocks (new_block who states ∷ []) in
    record {
      placed = inr (omega arith);
      known = subst (λ (whos : List ℕ). All (λ owner. owner < length (programmed_shape shape who)) whos) (sym more) (subst (λ (n : ℕ). All (λ owner. owner < n) (owners blocks ++ who ∷ [])) (sym count)
          (All-push (λ owner. owner < length shape) (owners blocks) who laid.known below));
      features = subst (λ (whos : List ℕ). All (λ owner. is_feature (shape_of (programmed_shape shape who) owner).kind ≡ true) whos) (sym more)
          (All-weaker (λ owner. is_feature (shape_of shape owner).kind ≡ true) (λ owner. is_feature (shape_of (programmed_shape shape who) owner).kind ≡ true) (λ owner is. rw (kind_stays shape who owner) is) (owners blocks ++ who ∷ [])
          (All-push (λ owner. is_feature (shape_of shape owner).kind ≡ true) (owners blocks) who laid.features feature));
      apart = subst (λ (whos : List ℕ). AreApart whos) (sym more) (apart_push (owners blocks) who laid.apart new);
      fitting = All-weaker (FitsIn shape) (FitsIn (programmed_shape shape who)) (λ block fits. still_fits shape who block fits) (blocks ++ new_block who states ∷ []) (All-push (FitsIn shape) blocks (new_block who states) laid.fitting fits);
      earlier = λ k before.
          let within : k < length blocks = omega (arith, length-append blocks (new_block who states ∷ [])) in
          subst (λ (block : BlockState). is_unfinished_block (Some block) ≡ false) (sym (get_or_append_left blocks (new_block who states ∷ []) no_block k within)) (finished k within);
      last = inl refl;
    }

-- ---- the open program becomes another

-- an open program is the last, in the section of programs
pub open_is_last : (place : Section) (blocks : List BlockState) (block : BlockState) → block_in place blocks ≡ Some block → (place ≡ section.Programs) × (slice_get blocks (length blocks - 1) ≡ Some block)
open_is_last section.Version blocks block is = absurd cc
open_is_last section.Codecs blocks block is = absurd cc
open_is_last section.Boxes blocks block is = absurd cc
open_is_last section.Channels blocks block is = absurd cc
open_is_last section.Programs blocks block is = (refl, is)
open_is_last section.Begin blocks block is = absurd cc
open_is_last section.Commands blocks block is = absurd cc

-- of the same box
pub same_owners : (blocks : List BlockState) (k : ℕ) (block after : BlockState) → slice_get blocks k ≡ Some block → after.who ≡ block.who → owners (slice_set blocks k after) ≡ owners blocks
same_owners [] k block after there same = refl
same_owners (one ∷ blocks) zero block after there same =
    let is : one ≡ block = cc in
    ap (λ (who : ℕ). who ∷ owners blocks) (same ∙ ap (λ (b : BlockState). b.who) (sym is))
same_owners (one ∷ blocks) (suc k) block after there same = ap (λ (whos : List ℕ). one.who ∷ whos) (same_owners blocks k block after there same)

-- the program that is read at a place is one of them
pub block_there : (P : BlockState → Type 0) (blocks : List BlockState) (k : ℕ) (block : BlockState) → All P blocks → slice_get blocks k ≡ Some block → P block
block_there P [] k block all there = absurd cc
block_there P (one ∷ blocks) zero block all there = let is : one ≡ block = cc in subst P is (All-head P one blocks all)
block_there P (one ∷ blocks) (suc k) block all there = block_there P blocks k block (All-tail P one blocks all) there

-- and its box is one of theirs
pub owner_there : (P : ℕ → Type 0) (blocks : List BlockState) (k : ℕ) (block : BlockState) → All P (owners blocks) → slice_get blocks k ≡ Some block → P block.who
owner_there P [] k block all there = absurd cc
owner_there P (one ∷ blocks) zero block all there = let is : one ≡ block = cc in subst (λ (b : BlockState). P b.who) is (All-head P one.who (owners blocks) all)
owner_there P (one ∷ blocks) (suc k) block all there = owner_there P blocks k block (All-tail P one.who (owners blocks) all) there

pub laid_open : (shape : List BoxShapeState) (place : Section) (blocks : List BlockState) (block after : BlockState) → AreLaid shape place blocks → block_in place blocks ≡ Some block → FitsIn shape after → after.who ≡ block.who
    → AreLaid shape place (slice_set blocks (length blocks - 1) after)
laid_open shape place blocks block after laid opened fits same =
    let is = open_is_last place blocks block opened in
    let whos : owners (slice_set blocks (length blocks - 1) after) ≡ owners blocks = same_owners blocks (length blocks - 1) block after is.1 same in
    let count : length (slice_set blocks (length blocks - 1) after) ≡ length blocks = length-set blocks (length blocks - 1) after in
    record {
      placed = inr (subst (λ (s : Section). rank section.Programs ≤ rank s) (sym is.0) (omega arith));
      known = subst (λ (l : List ℕ). All (λ who. who < length shape) l) (sym whos) laid.known;
      features = subst (λ (l : List ℕ). All (λ who. is_feature (shape_of shape who).kind ≡ true) l) (sym whos) laid.features;
      apart = subst (λ (l : List ℕ). AreApart l) (sym whos) laid.apart;
      fitting = All-set (FitsIn shape) blocks (length blocks - 1) after fits laid.fitting;
      earlier = λ k before.
          let within : k + 1 < length blocks = omega arith in
          subst (λ (b : BlockState). is_unfinished_block (Some b) ≡ false) (sym (get_or-set_other blocks (length blocks - 1) k after no_block (omega arith))) (laid.earlier k within);
      last = inl is.0;
    }
